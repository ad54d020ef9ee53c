-- What is told of a chain: 0 exactly where no alternative says yes, else the record of the first that does; and some number exactly
-- where the whole pattern says yes, since a chain says yes where one of its alternatives does. An alternative's record is past the
-- header, so its number is not 0. By induction on the chain, and for the numbers on the records, from the highest down.
-- Assumes nothing.
use Prim.Native.Nat.{ℕ, zero, suc, ◌≤◌, ◌<◌}
use mathlib.Core.Bool.{Bool, true, false, ◌||◌}
use mathlib.Core.List.{List, [], ◌∷◌, ◌++◌, Memᴰ}
use mathlib.Core.Logic.{◌↔◌, ◌≢◌}
use mathlib.Core.Path.{◌≡◌, refl, sym, ap, ap₂, ◌∙◌}
use native.Mathlib.Omega.{arith}
use lib.Dec.{ltb}
use borrow.Author.Tests.{ltb-true, lt-ltb}
use Rattle.picoella.specs.Language.{Pattern, Whole, Constructor, Parts}
use Rattle.records.specs.Words.{count, next_word, word_a, word_b}
use Rattle.records.specs.Kinds.{Kind, PatternKind, pattern, whole, constructor, parts, patterns, next_of}
use Rattle.records.specs.Says.{kind_at, sort_at}
use Rattle.records.specs.Trees.{
  type_at,
  Alternatives,
  end,
  no_pattern,
  whole_type,
  one_constructor,
  pair_of_patterns,
  follow,
  alternative_step,
  alternatives,
}
use Rattle.records.specs.Decoding.{or_else, pattern_of}
use Rattle.records.specs.Written.{Written}
use Rattle.records.proofs.Table.{ask_of_kind, kind-of-sort}
use Rattle.records.proofs.Asked.{next-of-kind}
use Rattle.records.proofs.Trees.{from-above, alternatives-of}
use Rattle.meaning.specs.Matching.{matches}
use Rattle.meaning.specs.Decisions.{Decision, Yes, No, Undecided, chain_decision}
use Rattle.behaviour.specs.Firing.{or_after, first_yes}
use Rattle.behaviour.specs.Reaching.{OneAlternative, alternative_list, SaysYes, NoneYes, FirstYes, TellsFirst}

-- the same of a list of alternatives
abbrev first_of_list : List ℕ → List OneAlternative → ℕ
first_of_list v [] = 0
first_of_list v (a ∷ xs) = or_after (matches a.says v) a.number (first_of_list v xs)

first-of-list : (s : List ℕ) (m : Alternatives) (v : List ℕ) → first_yes s m v ≡ first_of_list v (alternative_list s m)
first-of-list s end v = refl
first-of-list s no_pattern v = refl
first-of-list s (whole_type r t m) v = refl
first-of-list s (one_constructor r t k m) v =
    ap (or_after (matches (Constructor t (word_a s t) k) v) r) (first-of-list s m v)
first-of-list s (pair_of_patterns r p q m) v =
    ap (or_after (matches (Parts (pattern_of s p) (pattern_of s q)) v) r) (first-of-list s m v)

-- no alternative has the number 0
abbrev Numbered : List OneAlternative → Type 0
Numbered xs = (a : OneAlternative) → Memᴰ a xs → 0 < a.number

none_told : (v : List ℕ) (xs : List OneAlternative) → NoneYes v xs → first_of_list v xs ≡ 0
none_told v [] none = refl
none_told v (a ∷ xs) none = go (matches a.says v) refl (none_told v xs (λ b m. none b (Memᴰ.tail m)))
  where
    go : (d : Decision) → matches a.says v ≡ d → first_of_list v xs ≡ 0 → or_after d a.number (first_of_list v xs) ≡ 0
    go Yes e rest = absurd (none a (Memᴰ.head refl) e)
    go No e rest = rest
    go Undecided e rest = rest

-- an alternative that does not say yes before them
not_yet : (v : List ℕ) (a : OneAlternative) (xs : List OneAlternative) (n : ℕ) → (SaysYes v a → ⊥) → FirstYes v xs n
    → FirstYes v (a ∷ xs) n
not_yet v a xs n f o = record {
  before = a ∷ o.before;
  first = o.first;
  after = o.after;
  whole = ap (◌∷◌ a) o.whole;
  number_is = o.number_is;
  first-yes = o.first-yes;
  none_before = none;
}
  where
    none : NoneYes v (a ∷ o.before)
    none b (Memᴰ.head p) e = f (rw p at e)
    none b (Memᴰ.tail m) e = o.none_before b m e

some-told : (v : List ℕ) (xs : List OneAlternative) → first_of_list v xs ≢ 0 → FirstYes v xs (first_of_list v xs)
some-told v [] f = absurd (f refl)
some-told v (a ∷ xs) f = go (matches a.says v) refl (some-told v xs)
  where
    go : (d : Decision) → matches a.says v ≡ d → (first_of_list v xs ≢ 0 → FirstYes v xs (first_of_list v xs))
        → FirstYes v (a ∷ xs) (or_after (matches a.says v) a.number (first_of_list v xs))
    go Yes e rest = rw e (record {
      before = [];
      first = a;
      after = xs;
      whole = refl;
      number_is = refl;
      first-yes = e;
      none_before = λ b m. elim m [ ];
    })
    go No e rest =
        rw e
        (not_yet v a xs (first_of_list v xs) (λ y. let z : No ≡ Yes = sym e ∙ y in let o : ◌≡◌ {A = ℕ} 0 1 = cc in omega arith)
        (rest (λ z. f (rw e z))))
    go Undecided e rest =
        rw e
        (not_yet v a xs (first_of_list v xs)
        (λ y. let z : Undecided ≡ Yes = sym e ∙ y in let o : ◌≡◌ {A = ℕ} 0 1 = cc in omega arith)
        (rest (λ z. f (rw e z))))

told_none : (v : List ℕ) (xs : List OneAlternative) → Numbered xs → first_of_list v xs ≡ 0 → NoneYes v xs
told_none v [] numbered z b x4 y = elim x4 [ ]
told_none v (a ∷ xs) numbered z b (Memᴰ.head p) y =
    let e : matches a.says v ≡ Yes = rw p at y in
    let n = numbered a (Memᴰ.head refl) in
    let o : a.number ≡ 0 = rw e at z in
    omega arith
told_none v (a ∷ xs) numbered z b (Memᴰ.tail m) y =
    told_none v xs (λ c k. numbered c (Memᴰ.tail k)) (go (matches a.says v) refl) b m y
  where
    go : (d : Decision) → matches a.says v ≡ d → first_of_list v xs ≡ 0
    go Yes e =
        let n = numbered a (Memᴰ.head refl) in
        let o : a.number ≡ 0 = rw e at z in
        absurd (omega arith)
    go No e = rw e at z
    go Undecided e = rw e at z

-- whether the answer is yes, and whether something is told
abbrev is_yes : Decision → Bool
is_yes Yes = true
is_yes No = false
is_yes Undecided = false

abbrev is_told : ℕ → Bool
is_told n = ltb 0 n

yes-chain : (a b : Decision) → is_yes (chain_decision a b) ≡ (is_yes a || is_yes b)
yes-chain Yes b = refl
yes-chain No b = refl
yes-chain Undecided Yes = refl
yes-chain Undecided No = refl
yes-chain Undecided Undecided = refl

told-or : (d : Decision) (r n : ℕ) → 0 < r → is_told (or_after d r n) ≡ (is_yes d || is_told n)
told-or Yes r n h = lt-ltb 0 r h
told-or No r n h = refl
told-or Undecided r n h = refl

-- what the alternatives after one add: nothing where there are none
abbrev of_rest : Alternatives → Bool → Bool
of_rest end b = false
of_rest no_pattern b = false
of_rest (whole_type r t m) b = b
of_rest (one_constructor r t k m) b = b
of_rest (pair_of_patterns r p q m) b = b

or-none : (b : Bool) → b ≡ (b || false)
or-none true = refl
or-none false = refl

yes-or : (p : Pattern) (m : Alternatives) (q : Pattern) (v : List ℕ)
    → is_yes (matches (or_else p m q) v) ≡ (is_yes (matches p v) || of_rest m (is_yes (matches q v)))
yes-or p end q v = or-none (is_yes (matches p v))
yes-or p no_pattern q v = or-none (is_yes (matches p v))
yes-or p (whole_type r t m) q v = yes-chain (matches p v) (matches q v)
yes-or p (one_constructor r t k m) q v = yes-chain (matches p v) (matches q v)
yes-or p (pair_of_patterns r a b m) q v = yes-chain (matches p v) (matches q v)

one_told : (s : List ℕ) (p : Pattern) (r : ℕ) (m : Alternatives) (v : List ℕ) → 0 < r
    → of_rest m (is_yes (matches (pattern_of s m) v)) ≡ is_told (first_yes s m v)
    → is_yes (matches (or_else p m (pattern_of s m)) v) ≡ is_told (or_after (matches p v) r (first_yes s m v))
one_told s p r m v h rest =
    yes-or p m (pattern_of s m) v
    ∙ ap (λ b. is_yes (matches p v) || b) rest
    ∙ sym (told-or (matches p v) r (first_yes s m v) h)

pattern-told : (s : List ℕ) (m : Alternatives) (v : List ℕ) → Numbered (alternative_list s m)
    → of_rest m (is_yes (matches (pattern_of s m) v)) ≡ is_told (first_yes s m v)
pattern-told s end v numbered = refl
pattern-told s no_pattern v numbered = refl
pattern-told s (whole_type r t m) v numbered =
    one_told s (Whole (type_at s t)) r m v (numbered _ (Memᴰ.head refl))
    (pattern-told s m v (λ a k. numbered a (Memᴰ.tail k)))
pattern-told s (one_constructor r t c m) v numbered =
    one_told s (Constructor t (word_a s t) c) r m v (numbered _ (Memᴰ.head refl))
    (pattern-told s m v (λ a k. numbered a (Memᴰ.tail k)))
pattern-told s (pair_of_patterns r p q m) v numbered =
    one_told s (Parts (pattern_of s p) (pattern_of s q)) r m v (numbered _ (Memᴰ.head refl))
    (pattern-told s m v (λ a k. numbered a (Memᴰ.tail k)))

-- the alternatives from record d have numbers from d on
from-record : {s : List ℕ} → Written s → (d : ℕ) → d < count s → sort_at s d ≡ patterns → (a : OneAlternative)
    → Memᴰ a (alternative_list s (alternatives s d)) → d ≤ a.number
from-record {s} w =
    from-above (count s)
    (λ d. sort_at s d ≡ patterns → (a : OneAlternative) → Memᴰ a (alternative_list s (alternatives s d)) → d ≤ a.number)
    (λ d h above e a m. let k = kind-of-sort patterns (kind_at s d) e in
    step k.0 d (next_word s d) a
    (λ asks some. let f = next-of-kind w d (pattern k.0) patterns h k.1 asks some in
    λ n. let g = above (next_word s d) f.0 f.1 f.2 a n in omega arith)
    (rw (alternatives-of w d h (pattern k.0) k.1) at m))
  where
    rest : (d n : ℕ) (a : OneAlternative)
        → (0 < n → Memᴰ a (alternative_list s (alternatives s n)) → d ≤ a.number)
        → Memᴰ a (alternative_list s (follow end (alternatives s) n)) → d ≤ a.number
    rest d zero a later m = elim m [ ]
    rest d (suc n) a later m = later (omega arith) m

    step : (k : PatternKind) (d n : ℕ) (a : OneAlternative)
        → (ask_of_kind (pattern k) 1 ≡ next_of patterns → 0 < n → Memᴰ a (alternative_list s (alternatives s n)) → d ≤ a.number)
        → Memᴰ a (alternative_list s (alternative_step (alternatives s) (pattern k) d n (word_a s d) (word_b s d))) → d ≤ a.number
    step whole d n a later (Memᴰ.head p) = rw p (omega arith)
    step whole d n a later (Memᴰ.tail m) = rest d n a (later (unfold ask_of_kind in refl)) m
    step constructor d n a later (Memᴰ.head p) = rw p (omega arith)
    step constructor d n a later (Memᴰ.tail m) = rest d n a (later (unfold ask_of_kind in refl)) m
    step parts d n a later (Memᴰ.head p) = rw p (omega arith)
    step parts d n a later (Memᴰ.tail m) = rest d n a (later (unfold ask_of_kind in refl)) m

-- a chain from a pattern record has an alternative
has_one : {s : List ℕ} → Written s → (d : ℕ) → d < count s → sort_at s d ≡ patterns → (b : Bool) → of_rest (alternatives s d) b ≡ b
has_one {s} w d h e b =
    let k = kind-of-sort patterns (kind_at s d) e in
    rw (alternatives-of w d h (pattern k.0) k.1) (go k.0)
  where
    go : (k : PatternKind)
        → of_rest (alternative_step (alternatives s) (pattern k) d (next_word s d) (word_a s d) (word_b s d)) b ≡ b
    go whole = refl
    go constructor = refl
    go parts = refl

yes-is : (d : Decision) → is_yes d ≡ true → d ≡ Yes
yes-is Yes e = refl
yes-is No e = let o : ◌≡◌ {A = ℕ} 0 1 = cc in absurd (omega arith)
yes-is Undecided e = let o : ◌≡◌ {A = ℕ} 0 1 = cc in absurd (omega arith)

pub tells_first : {s : List ℕ} → Written s → (d : ℕ) → 0 < d → d < count s → sort_at s d ≡ patterns → (v : List ℕ) → TellsFirst s d v
tells_first {s} w d past h e v =
    let m = alternatives s d in
    let list = first-of-list s m v in
    let numbered : Numbered (alternative_list s m) = λ a k. let f = from-record w d h e a k in omega arith in
    let same : is_yes (matches (pattern_of s m) v) ≡ is_told (first_yes s m v) =
    sym (has_one w d h e (is_yes (matches (pattern_of s m) v))) ∙ pattern-told s m v numbered in
    record {
      none = (λ z. told_none v (alternative_list s m) numbered (sym list ∙ z), λ n. list ∙ none_told v (alternative_list s m) n);
      some = λ f. rw list (some-told v (alternative_list s m) (λ z. f (list ∙ z)));
      pattern_yes = (
        λ f. yes-is (matches (pattern_of s m) v) (same ∙ lt-ltb 0 (first_yes s m v) (omega arith)),
        λ y z. let t : is_told (first_yes s m v) ≡ true = sym same ∙ ap is_yes y in
            let g = ltb-true 0 (first_yes s m v) t in omega arith,
      );
    }
