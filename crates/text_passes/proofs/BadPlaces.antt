-- The place of code 14 is that of the first check that fails, names before constants; and where all
-- names are good a constant that fails is a pair, since a name has the type of its constructor and
-- `?` its own.
-- Assumes nothing.
use Prim.Native.Nat.{ℕ, suc}
use mathlib.Core.Path.{◌≡◌, refl, subst}
use mathlib.Core.Logic.{◌⊎◌, inl, inr}
use mathlib.Core.Bool.{Bool, true, false, cond}
use mathlib.Core.Option.{Option, none, some}
use mathlib.Core.List.Memᴰ
use mathlib.Core.List.{List, [], ◌∷◌, ◌++◌, Memᴰ}
use native.Mathlib.Omega.{arith}
use lib.ListN.{length}
use Rattle.grammar.specs.Tokens.{Token, symbol, opens}
use Rattle.grammar.specs.Source.{Identifier, identifier, Declaration, Constructors, PairOf, text}
use Rattle.grammar.specs.Source.{SourceConstant, OfConstructor, Undefined, ConstantPair, SourcePattern}
use Rattle.grammar.specs.Source.{Expression, PairExpression, FirstOf, SecondOf, LetExpression, LetRecExpression, IfExpression, DelayExpression}
use Rattle.grammar.specs.Grammar.{ReadsOthers, no_other, one_other, ReadsDeclaration, reads_constructors, reads_pair_of}
use Rattle.grammar.specs.Grammar.{ReadsMore, no_more, one_more, ReadsConstant, reads_constructor, reads_undefined, reads_both}
use Rattle.grammar.specs.Grammar.{ReadsPattern, reads_alone, reads_parts, reads_alone_or, reads_parts_or}
use Rattle.grammar.specs.Grammar.{ReadsExpression, reads_named, reads_undefined_of, reads_pair, reads_first, reads_second, reads_let}
use Rattle.grammar.specs.Grammar.{reads_let_rec, reads_if, reads_delay, reads_text}
use Rattle.name_rules.specs.Declared.{same_name, is_among, type_role, at_first}
use Rattle.name_rules.specs.Checks.{PlacedCheck, check_at, AllPass, no_check_left, one_holds, FirstFails, fails_here, fails_later, first_bad_place}
use Rattle.name_rules.specs.Constants.{letters, all_letters, type_of_constructor, constant_type, is_typed, constant_place, constant_checks, constants_of_text}
use Rattle.name_rules.specs.Names.{after_all, bind, is_one, declarations_checks, pattern_checks, constant_names, expression_checks, name_checks, text_checks}
use Rattle.name_rules.proofs.First.{none-bad, pass-none, pass-split}
use Rattle.layout.specs.Resolved.{ConstructorEntry, constructor_entries_of, constructor_entries_from}
use Rattle.layout.proofs.ConstructorTables.{passes, pass-rest, after-new, is_entry, a-constructor}
use Rattle.text_passes.specs.DelayConstants.{delay_constants}
use Rattle.text_passes.specs.Promises.{BadPlaceExactly, NoBadPlace, NamesFirst, OnlyPairsFail}

fails-found : {cs : List PlacedCheck} {p : ℕ} → FirstFails cs p → first_bad_place cs ≡ some p
fails-found fails_here = refl
fails-found (fails_later f) = fails-found f

found-fails : (cs : List PlacedCheck) (p : ℕ) → first_bad_place cs ≡ some p → FirstFails cs p
found-fails [] p e = absurd (let z : ◌≡◌ {A = ℕ} 0 1 = cc in omega arith)
found-fails (check_at q true ∷ cs) p e = fails_later (found-fails cs p e)
found-fails (check_at q false ∷ cs) p e = let h : q ≡ p = cc in rw h fails_here

pub bad_place_exactly : BadPlaceExactly
bad_place_exactly cs p = (found-fails cs p, λ f. fails-found f)

pub no_bad_place : NoBadPlace
no_bad_place cs = (none-bad cs, λ h. pass-none h)

-- of two lists of checks
fails-either : (cs es : List PlacedCheck) {p : ℕ} → FirstFails (cs ++ es) p → FirstFails cs p ⊎ (AllPass cs × FirstFails es p)
fails-either [] es f = inr (no_check_left, f)
fails-either (check_at q false ∷ cs) es fails_here = inl fails_here
fails-either (check_at q true ∷ cs) es {p} (fails_later f) = further (fails-either cs es f)
  where
    further : FirstFails cs p ⊎ (AllPass cs × FirstFails es p) → FirstFails (check_at q true ∷ cs) p ⊎ (AllPass (check_at q true ∷ cs) × FirstFails es p)
    further (inl x) = inl (fails_later x)
    further (inr x) = inr (one_holds x.0, x.1)

fails-first : {cs : List PlacedCheck} (es : List PlacedCheck) {p : ℕ} → FirstFails cs p → FirstFails (cs ++ es) p
fails-first es fails_here = fails_here
fails-first es (fails_later f) = fails_later (fails-first es f)

fails-second : {cs es : List PlacedCheck} {p : ℕ} → AllPass cs → FirstFails es p → FirstFails (cs ++ es) p
fails-second no_check_left f = f
fails-second (one_holds h) f = fails_later (fails-second h f)

pub names_first : NamesFirst
names_first t p = (fails-either (name_checks t) (constants_of_text t), back)
  where
    back : FirstFails (name_checks t) p ⊎ (AllPass (name_checks t) × FirstFails (constants_of_text t) p) → FirstFails (text_checks t) p
    back (inl f) = fails-first (constants_of_text t) f
    back (inr f) = fails-second f.0 f.1

-- one check and those after it
fails-cases : {q p : ℕ} {b : Bool} {cs : List PlacedCheck} → FirstFails (check_at q b ∷ cs) p → ((b ≡ false) × (q ≡ p)) ⊎ FirstFails cs p
fails-cases fails_here = inl (refl, refl)
fails-cases (fails_later f) = inr f

-- a constructor has a type
among-typed : (w : List ℕ) (t n k : ℕ) (cs : List Identifier) (C : List ConstructorEntry) → is_entry w (constructor_entries_of t n k cs ++ C) ≡ true
    → (is_among w (all_letters cs) ≡ true) ⊎ (is_entry w C ≡ true)
among-typed w t n k [] C h = inr h
among-typed w t n k (c ∷ cs) C h = go (same_name w (letters c)) (among-typed w t n (suc k) cs C) h
  where
    go : (b : Bool) → (is_entry w (constructor_entries_of t n (suc k) cs ++ C) ≡ true → (is_among w (all_letters cs) ≡ true) ⊎ (is_entry w C ≡ true))
        → cond b true (is_entry w (constructor_entries_of t n (suc k) cs ++ C)) ≡ true
        → (cond b true (is_among w (all_letters cs)) ≡ true) ⊎ (is_entry w C ≡ true)
    go true f h = inl refl
    go false f h = f h

pub entry-typed : (w : List ℕ) (i : ℕ) (ds : List Declaration) → is_entry w (constructor_entries_from i ds) ≡ true → is_typed (type_of_constructor ds w) ≡ true
entry-typed w i [] h = absurd (let no : ◌≡◌ {A = ℕ} 0 1 = cc in omega arith)
entry-typed w i (Constructors t c cs ∷ ds) h =
    go (is_among w (all_letters (c ∷ cs))) (entry-typed w (suc i) ds)
    (among-typed w i (length (c ∷ cs)) 1 (c ∷ cs) (constructor_entries_from (suc i) ds) h)
  where
    go : (b : Bool) → (is_entry w (constructor_entries_from (suc i) ds) ≡ true → is_typed (type_of_constructor ds w) ≡ true)
        → (b ≡ true) ⊎ (is_entry w (constructor_entries_from (suc i) ds) ≡ true)
        → is_typed (cond b (some (letters t)) (type_of_constructor ds w)) ≡ true
    go true f x = refl
    go false f (inl e) = absurd (let no : ◌≡◌ {A = ℕ} 0 1 = cc in omega arith)
    go false f (inr e) = f e
entry-typed w i (PairOf t a b ∷ ds) h = entry-typed w (suc i) ds h

-- a pair of this place among constants, without a type
record PairAmong (ds : List Declaration) (cs : List SourceConstant) (p : ℕ) : Type 0 where
  first : SourceConstant
  second : SourceConstant
  there : Memᴰ (ConstantPair p first second) cs
  untyped : constant_type ds (ConstantPair p first second) ≡ none

widened : {ds : List Declaration} {cs es : List SourceConstant} {p : ℕ} → ((c : SourceConstant) → Memᴰ c cs → Memᴰ c es)
    → PairAmong ds cs p → PairAmong ds es p
widened f x = record { first = x.first; second = x.second; there = f (ConstantPair _ x.first x.second) x.there; untyped = x.untyped }

not-typed : (o : Option (List ℕ)) → is_typed o ≡ false → o ≡ none
not-typed none h = refl
not-typed (some w) h = absurd (let no : ◌≡◌ {A = ℕ} 0 1 = cc in omega arith)

module _ (ds : List Declaration) where
  constant-fails : (c : SourceConstant) → AllPass (constant_names (after_all at_first ds) c) → is_typed (constant_type ds c) ≡ false
      → (cs : List SourceConstant) → PairAmong ds (c ∷ cs) (constant_place c)
  constant-fails (OfConstructor (identifier w p)) good h cs =
      let e = entry-typed w 1 ds (a-constructor w ds (passes good)) in
      absurd (let no : ◌≡◌ {A = ℕ} 0 1 = cc in omega arith)
  constant-fails (Undefined (identifier w p)) good h cs = absurd (let no : ◌≡◌ {A = ℕ} 0 1 = cc in omega arith)
  constant-fails (ConstantPair p c d) good h cs =
      record { first = c; second = d; there = Memᴰ.head refl; untyped = not-typed (constant_type ds (ConstantPair p c d)) h }

  -- the checks of an expression's constants
  two-parts : {cs es : List PlacedCheck} (ks ls : List SourceConstant) {p : ℕ} → (FirstFails cs p → PairAmong ds ks p)
      → (FirstFails es p → PairAmong ds ls p) → FirstFails (cs ++ es) p → PairAmong ds (ks ++ ls) p
  two-parts {cs} {es} ks ls {p} x y f = go (fails-either cs es f)
    where
      go : FirstFails cs p ⊎ (AllPass cs × FirstFails es p) → PairAmong ds (ks ++ ls) p
      go (inl f) = widened (λ c m. Memᴰ.append_left ls m) (x f)
      go (inr f) = widened (λ c m. Memᴰ.append_right ks m) (y f.1)

  expression-fails : (bound : List (List ℕ)) (e : Expression) → AllPass (expression_checks (after_all at_first ds) bound e)
      → {p : ℕ} → FirstFails (constant_checks ds e) p → PairAmong ds (delay_constants e) p
  expression-fails bound (PairExpression e f) good x =
      let both = pass-split (expression_checks (after_all at_first ds) bound e) good in
      two-parts (delay_constants e) (delay_constants f) (expression-fails bound e both.0) (expression-fails bound f both.1) x
  expression-fails bound (FirstOf e) good x = expression-fails bound e good x
  expression-fails bound (SecondOf e) good x = expression-fails bound e good x
  expression-fails bound (LetExpression n e f) good x =
      let D = after_all at_first ds in
      let both = pass-split (expression_checks D bound e) (after-new D n good) in
      two-parts (delay_constants e) (delay_constants f) (expression-fails bound e both.0) (expression-fails (bind n bound) f both.1) x
  expression-fails bound (LetRecExpression (identifier t p) n e f) good x =
      let D = after_all at_first ds in
      let both = pass-split (expression_checks D (bind n bound) e) (after-new D n (pass-rest good)) in
      two-parts (delay_constants e) (delay_constants f) (expression-fails (bind n bound) e both.0) (expression-fails (bind n bound) f both.1) x
  expression-fails bound (IfExpression e m f g) good x =
      let D = after_all at_first ds in
      let one = pass-split ((expression_checks D bound e ++ pattern_checks D m) ++ expression_checks D bound f) good in
      let two = pass-split (expression_checks D bound e ++ pattern_checks D m) one.0 in
      let three = pass-split (expression_checks D bound e) two.0 in
      two-parts (delay_constants e ++ delay_constants f) (delay_constants g)
      (two-parts (delay_constants e) (delay_constants f) (expression-fails bound e three.0) (expression-fails bound f two.1))
      (expression-fails bound g one.1) x
  expression-fails bound (DelayExpression c e) good {p} x =
      go (fails-cases x) (expression-fails bound e (pass-split (constant_names (after_all at_first ds) c) good).1)
    where
      go : ((is_typed (constant_type ds c) ≡ false) × (constant_place c ≡ p)) ⊎ FirstFails (constant_checks ds e) p
          → (FirstFails (constant_checks ds e) p → PairAmong ds (delay_constants e) p) → PairAmong ds (c ∷ delay_constants e) p
      go (inl f) more =
          subst (PairAmong ds (c ∷ delay_constants e)) f.1
          (constant-fails c (pass-split (constant_names (after_all at_first ds) c) good).0 f.0 (delay_constants e))
      go (inr f) more = widened (λ k m. Memᴰ.tail m) (more f)
  expression-fails bound (Rattle.grammar.specs.Source.NameUse _) good {p = p} x = elim x [ ]
  expression-fails bound (Rattle.grammar.specs.Source.UndefinedOf type) good {p = p} x = elim x [ ]

-- what is left of the tokens after a reading is their end
data Ends (r : List Token) : List Token → Type 0 where
  ends-here : Ends r r
  ends-later : {x : Token} {a : List Token} → Ends r a → Ends r (x ∷ a)

within : {y : Token} {r a : List Token} → Ends r a → Memᴰ y r → Memᴰ y a
within ends-here m = m
within (ends-later h) m = Memᴰ.tail (within h m)

after_one : {x : Token} {r a : List Token} → Ends (x ∷ r) a → Ends r a
after_one ends-here = ends-later ends-here
after_one (ends-later h) = ends-later (after_one h)

then : {r b a : List Token} → Ends r b → Ends b a → Ends r a
then h ends-here = h
then h (ends-later k) = ends-later (then h k)

others-end : {a r : List Token} {cs : List Identifier} → ReadsOthers a cs r → Ends r a
others-end no_other = ends-later ends-here
others-end (one_other h) = ends-later (ends-later (others-end h))

declaration-end : {a r : List Token} {d : Declaration} → ReadsDeclaration a d r → Ends r a
declaration-end (reads_constructors h) = ends-later (ends-later (ends-later (ends-later (others-end h))))
declaration-end reads_pair_of =
    ends-later (ends-later (ends-later (ends-later (ends-later (ends-later (ends-later (ends-later (ends-later ends-here))))))))

more-end : {a r : List Token} {ds : List Declaration} → ReadsMore a ds r → Ends r a
more-end no_more = ends-later ends-here
more-end (one_more h k) = then (more-end k) (declaration-end h)

constant-end : {a r : List Token} {c : SourceConstant} → ReadsConstant a c r → Ends r a
constant-end reads_constructor = ends-later ends-here
constant-end reads_undefined = ends-later (ends-later ends-here)
constant-end (reads_both h k) = ends-later (then (after_one (constant-end k)) (after_one (constant-end h)))

pattern-end : {a r : List Token} {m : SourcePattern} → ReadsPattern a m r → Ends r a
pattern-end reads_alone = ends-later ends-here
pattern-end (reads_parts h k) = ends-later (then (after_one (pattern-end k)) (after_one (pattern-end h)))
pattern-end (reads_alone_or h) = ends-later (ends-later (pattern-end h))
pattern-end (reads_parts_or h k l) =
    ends-later (then (pattern-end l) (then (after_one (after_one (pattern-end k))) (after_one (pattern-end h))))

expression-end : {a r : List Token} {e : Expression} → ReadsExpression a e r → Ends r a
expression-end reads_named = ends-later ends-here
expression-end reads_undefined_of = ends-later (ends-later ends-here)
expression-end (reads_pair h k) = ends-later (then (after_one (expression-end k)) (after_one (expression-end h)))
expression-end (reads_first h) = after_one (after_one (after_one (expression-end h)))
expression-end (reads_second h) = after_one (after_one (after_one (expression-end h)))
expression-end (reads_let h k) =
    ends-later (ends-later (ends-later (ends-later (then (after_one (expression-end k)) (after_one (expression-end h))))))
expression-end (reads_let_rec h k) =
    ends-later (ends-later (ends-later (ends-later (ends-later (ends-later (ends-later (ends-later
    (then (after_one (expression-end k)) (after_one (expression-end h))))))))))
expression-end (reads_if h i k l) =
    ends-later (ends-later
    (then (after_one (expression-end l))
    (then (after_one (expression-end k)) (then (after_one (pattern-end i)) (after_one (expression-end h))))))
expression-end (reads_delay h k) =
    ends-later (ends-later (ends-later (then (after_one (after_one (expression-end k))) (after_one (constant-end h)))))

-- the bracket of a pair that is the constant of a DELAY
either-mem : {c : SourceConstant} {y : Token} {a : List Token} (ks : List SourceConstant) {ls : List SourceConstant}
    → (Memᴰ c ks → Memᴰ y a) → (Memᴰ c ls → Memᴰ y a) → Memᴰ c (ks ++ ls) → Memᴰ y a
either-mem {c} {y} {a} ks {ls} f g m = go (Memᴰ.append_cases ks m)
  where
    go : Memᴰ c ks ⊎ Memᴰ c ls → Memᴰ y a
    go (inl x) = f x
    go (inr x) = g x

pair-bracket : {a r : List Token} {k : SourceConstant} {p : ℕ} {c d : SourceConstant} → ReadsConstant a k r → ConstantPair p c d ≡ k
    → Memᴰ (symbol opens p) a
pair-bracket reads_constructor e = absurd (let no : ◌≡◌ {A = ℕ} 0 1 = cc in omega arith)
pair-bracket reads_undefined e = absurd (let no : ◌≡◌ {A = ℕ} 0 1 = cc in omega arith)
pair-bracket {p = q} (reads_both {p = p} h k) e = let same : symbol opens q ≡ symbol opens p = cc in Memᴰ.head same

bracket-in : {a r : List Token} {e : Expression} {p : ℕ} {c d : SourceConstant} → ReadsExpression a e r
    → Memᴰ (ConstantPair p c d) (delay_constants e) → Memᴰ (symbol opens p) a
bracket-in (reads_pair {e} {f} h k) m =
    Memᴰ.tail
    (either-mem (delay_constants e) (bracket-in h) (λ x. within (after_one (expression-end h)) (bracket-in k x)) m)
bracket-in (reads_first h) m = bracket-in h m
bracket-in (reads_second h) m = bracket-in h m
bracket-in (reads_let {e} {f} h k) m =
    within (ends-later (ends-later (ends-later (ends-later ends-here))))
    (either-mem (delay_constants e) (bracket-in h) (λ x. within (after_one (expression-end h)) (bracket-in k x)) m)
bracket-in (reads_let_rec {e} {f} h k) m =
    within (ends-later (ends-later (ends-later (ends-later (ends-later (ends-later (ends-later (ends-later ends-here))))))))
    (either-mem (delay_constants e) (bracket-in h) (λ x. within (after_one (expression-end h)) (bracket-in k x)) m)
bracket-in (reads_if {e} {f} {g} h i k l) m =
    let second = then (after_one (pattern-end i)) (after_one (expression-end h)) in
    within (ends-later (ends-later ends-here))
    (either-mem (delay_constants e ++ delay_constants f)
    (either-mem (delay_constants e) (bracket-in h) (λ x. within second (bracket-in k x)))
    (λ x. within (then (after_one (expression-end k)) second) (bracket-in l x)) m)
bracket-in (reads_delay h k) (Memᴰ.head e) = within (ends-later (ends-later (ends-later ends-here))) (pair-bracket h e)
bracket-in (reads_delay h k) (Memᴰ.tail m) =
    within (ends-later (ends-later (ends-later (after_one (constant-end h))))) (bracket-in k m)
bracket-in {c = c} {d = d} (reads_named {p = p} {w = w} {r = r}) m = elim m [ ]
bracket-in {c = c} {d = d} (reads_undefined_of {p = p} {q = q} {w = w} {r = r}) m = elim m [ ]

pub only_pairs_fail : OnlyPairsFail
only_pairs_fail ts (text d ds (identifier w q) e) (reads_text rd rm re) good p f =
    let D = after_all at_first (d ∷ ds) in
    let names = pass-split (declarations_checks at_first (d ∷ ds)) {ds = is_one type_role D (identifier w q) ∷ expression_checks D [] e} good in
    let x = expression-fails (d ∷ ds) [] e (pass-rest names.1) f in
    record {
      first = x.first;
      second = x.second;
      there = x.there;
      untyped = x.untyped;
      bracket = within (then (after_one (more-end rm)) (declaration-end rd)) (bracket-in re x.there);
    }
