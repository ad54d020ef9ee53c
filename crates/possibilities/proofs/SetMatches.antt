-- Matching on sets. On smaller sets the answer is the same, or it was undecided before; and beside a value whose defined leaves are alone
-- in their sets, the ordinary answer is the same, or undecided.
-- Assumes nothing.
use Prim.Native.Nat.{ℕ, zero, suc, ◌≤◌, zero-le}
use mathlib.Core.Path.{◌≡◌, refl, sym, ap, ap₂, ◌∙◌}
use mathlib.Core.Logic.{◌⊎◌, inl, inr}
use mathlib.Core.Bool.{Bool, true, false, not, ◌&&◌, ◌||◌}
use mathlib.Core.List.{List, [], ◌∷◌, ◌++◌}
use native.Mathlib.Omega.{arith}
use lib.Dec.{eqb}
use lib.ListN.{length, get_or, take, drop}
use borrow.Author.Tests.{eqb-true, eqb-false, eq-eqb, ne_eqb}
use Rattle.picoella.specs.Language.{Ty, Flat, TyTuple, bounds, leaves, Pattern, Whole, Constructor, Parts, Bar, HasType, p_whole, p_constructor, p_parts, p_bar}
use Rattle.meaning.specs.Decisions.{Decision, Yes, No, Undecided, DecisionBelow, decided, constructor_decision, pair_decision, chain_decision}
use Rattle.meaning.specs.Matching.{matches}
use Rattle.meaning.proofs.MatchMonotone.{width-leaves, table-monotone}
use Rattle.meaning.proofs.Order.{bounds-length}
use Rattle.possibilities.specs.Sets.{ConstructorSet, is_in, every_one, only_one, union, subset, disjoint}
use Rattle.possibilities.specs.SetMatching.{named_set, by_tests, flat_decision, set_matches, pattern_type}
use Rattle.possibilities.specs.Filling.{SomeOf, Subset, InsideLeaves, inside_none, inside_leaf, Narrowed, narrowed_none, narrowed_leaf, Full, full_none, full_leaf}
use Rattle.possibilities.proofs.SetLaws.{in-every, every_in, in-only, only-in, in-union, false-true, inside-holds, inside-from, apart-holds, apart_from}

pub type-of-pattern : {p : Pattern} {τ : Ty} → HasType p τ → pattern_type p ≡ τ
type-of-pattern p_whole = refl
type-of-pattern p_constructor = refl
type-of-pattern (p_parts h k) = ap₂ TyTuple (type-of-pattern h) (type-of-pattern k)
type-of-pattern (p_bar h k) = type-of-pattern h

-- The tables of answers rise with both arguments.
pair-rises : {a b c d : Decision} → DecisionBelow a c → DecisionBelow b d → DecisionBelow (pair_decision a b) (pair_decision c d)
pair-rises h k = table-monotone pair_decision tt h k

chain-rises : {a b c d : Decision} → DecisionBelow a c → DecisionBelow b d → DecisionBelow (chain_decision a b) (chain_decision c d)
chain-rises h k = table-monotone chain_decision tt h k

-- 1. smaller sets
smaller-test : (T S S₂ : ConstructorSet) {n : ℕ} → SomeOf n S → Subset S S₂ → DecisionBelow (flat_decision T S₂) (flat_decision T S)
smaller-test T S S₂ some sub = go (subset S₂ T) (disjoint S₂ T) refl refl
  where
    nowhere : disjoint S₂ T ≡ true → subset S T ≡ true → ⊥
    nowhere e f =
        let a = inside-holds S T f some.one some.not_empty in
        let b = apart-holds S₂ T e some.one (sub some.one some.not_empty) in
        false-true (sym b ∙ a)

    not_yes : (b : Bool) → subset S T ≡ b → (b ≡ true → ⊥) → subset S T ≡ false
    not_yes true e h = absurd (h refl)
    not_yes false e h = e

    go : (a b : Bool) → subset S₂ T ≡ a → disjoint S₂ T ≡ b → DecisionBelow (by_tests a b) (flat_decision T S)
    go true b e f =
        inr (sym (ap (λ x. by_tests x (disjoint S T)) (inside-from S T (λ c h. inside-holds S₂ T e c (sub c h)))))
    go false true e f =
        inr (sym (ap₂ by_tests (not_yes (subset S T) refl (λ y. nowhere f y))
        (apart_from S T (λ c h. apart-holds S₂ T f c (sub c h)))))
    go false false e f = inl refl

-- pieces of sets
inside_take : (b c : List ℕ) {Ss Ts : List ConstructorSet} → InsideLeaves (b ++ c) Ss Ts
    → InsideLeaves b (take (length b) Ss) (take (length b) Ts)
inside_take [] c r = inside_none
inside_take (n ∷ b) c (inside_leaf h k o r) = inside_leaf h k o (inside_take b c r)

inside-drop : (b : List ℕ) {c : List ℕ} {Ss Ts : List ConstructorSet} → InsideLeaves (b ++ c) Ss Ts
    → InsideLeaves c (drop (length b) Ss) (drop (length b) Ts)
inside-drop [] r = r
inside-drop (n ∷ b) (inside_leaf h k o r) = inside-drop b r

pub first-subsets : (σ τ : Ty) {Ss Ts : List ConstructorSet} → InsideLeaves (bounds (TyTuple σ τ)) Ss Ts
    → InsideLeaves (bounds σ) (take (leaves σ) Ss) (take (leaves σ) Ts)
first-subsets σ τ r = rw (bounds-length σ) at (inside_take (bounds σ) (bounds τ) r)

pub second-subsets : (σ τ : Ty) {Ss Ts : List ConstructorSet} → InsideLeaves (bounds (TyTuple σ τ)) Ss Ts
    → InsideLeaves (bounds τ) (drop (leaves σ) Ss) (drop (leaves σ) Ts)
second-subsets σ τ r = rw (bounds-length σ) at (inside-drop (bounds σ) r)

flat-shrinks : (p : Pattern) (r n : ℕ) {Ss Ts : List ConstructorSet} → InsideLeaves (bounds (Flat r n)) Ss Ts
    → DecisionBelow (set_matches (Flat r n) p Ts) (set_matches (Flat r n) p Ss)
flat-shrinks p r n (inside_leaf {S = S} {T = T} a b o inside_none) = smaller-test (named_set p) S T a o

whole-shrinks : (τ : Ty) {Ss Ts : List ConstructorSet} → InsideLeaves (bounds τ) Ss Ts
    → DecisionBelow (set_matches τ (Whole τ) Ts) (set_matches τ (Whole τ) Ss)
whole-shrinks (Flat r n) i = flat-shrinks (Whole (Flat r n)) r n i
whole-shrinks (TyTuple σ τ) i = inr refl

bar-shrinks : (τ : Ty) (p q : Pattern) {Ss Ts : List ConstructorSet} → InsideLeaves (bounds τ) Ss Ts
    → DecisionBelow (set_matches τ p Ts) (set_matches τ p Ss) → DecisionBelow (set_matches τ q Ts) (set_matches τ q Ss)
    → DecisionBelow (set_matches τ (Bar p q) Ts) (set_matches τ (Bar p q) Ss)
bar-shrinks (Flat r n) p q i h k = flat-shrinks (Bar p q) r n i
bar-shrinks (TyTuple σ τ) p q i h k = chain-rises h k

pub match-shrinks : {p : Pattern} {τ : Ty} {Ss Ts : List ConstructorSet} → HasType p τ → InsideLeaves (bounds τ) Ss Ts
    → DecisionBelow (set_matches τ p Ts) (set_matches τ p Ss)
match-shrinks {τ} p_whole i = whole-shrinks τ i
match-shrinks {p} (p_constructor {r} {n}) i = flat-shrinks p r n i
match-shrinks (p_parts {σ} {τ} h k) i =
    pair-rises (match-shrinks h (first-subsets σ τ i)) (match-shrinks k (second-subsets σ τ i))
match-shrinks (p_bar {p} {q} {τ} h k) i = bar-shrinks τ p q i (match-shrinks h i) (match-shrinks k i)

-- 2. beside a value
or_left : (a b : Bool) → a ≡ true → (a || b) ≡ true
or_left a b e = rw e refl

or_right : (a b : Bool) → b ≡ true → (a || b) ≡ true
or_right true b e = refl
or_right false b e = e

-- every constructor of a flat type with so many is in the set
abbrev All : ℕ → ConstructorSet → Type 0
All n S = (i : ℕ) → suc i ≤ n → is_in S (suc i) ≡ true

all_left : (n : ℕ) (S T : ConstructorSet) → All n S → All n (union S T)
all_left n S T a i h = in-union S T (suc i) ∙ or_left (is_in S (suc i)) (is_in T (suc i)) (a i h)

all_right : (n : ℕ) (S T : ConstructorSet) → All n T → All n (union S T)
all_right n S T a i h = in-union S T (suc i) ∙ or_right (is_in S (suc i)) (is_in T (suc i)) (a i h)

-- on an undefined leaf a chain says nothing, or yes by naming the whole type
abbrev OnUndefined : ℕ → Pattern → Type 0
OnUndefined n p = (matches p (0 ∷ []) ≡ Undecided) ⊎ ((matches p (0 ∷ []) ≡ Yes) × All n (named_set p))

bar-undefined : (n : ℕ) (p q : Pattern) → OnUndefined n p → OnUndefined n q → OnUndefined n (Bar p q)
bar-undefined n p q (inl e) (inl f) = inl (ap₂ chain_decision e f)
bar-undefined n p q (inl e) (inr f) = inr (ap₂ chain_decision e f.0, all_right n (named_set p) (named_set q) f.1)
bar-undefined n p q (inr e) f =
    inr (ap (λ a. chain_decision a (matches q (0 ∷ []))) e.0, all_left n (named_set p) (named_set q) e.1)

on-undefined : {p : Pattern} {r n : ℕ} → HasType p (Flat r n) → OnUndefined n p
on-undefined {n} p_whole = inr (refl, in-every n)
on-undefined p_constructor = inl refl
on-undefined {n} (p_bar {p} {q} h k) = bar-undefined n p q (on-undefined h) (on-undefined k)

-- on a constructor it says whether it names it
chain-decided : (a b : Bool) → chain_decision (decided a) (decided b) ≡ decided (a || b)
chain-decided true b = refl
chain-decided false b = refl

only-tested : (i k : ℕ) → eqb (suc i) k ≡ is_in (only_one k) (suc i)
only-tested i k = go (is_in (only_one k) (suc i)) refl
  where
    go : (b : Bool) → is_in (only_one k) (suc i) ≡ b → eqb (suc i) k ≡ b
    go true e = eq-eqb (suc i) k (only-in k (suc i) e)
    go false e = ne_eqb (suc i) k (λ f. false-true (sym e ∙ rw (← f) (in-only i)))

on-constructor : {p : Pattern} {r n : ℕ} → HasType p (Flat r n) → (i : ℕ) → suc i ≤ n
    → matches p (suc i ∷ []) ≡ decided (is_in (named_set p) (suc i))
on-constructor {n} p_whole i h = ap decided (sym (in-every n i h))
on-constructor (p_constructor {k = k}) i h = ap decided (only-tested i k)
on-constructor (p_bar {p} {q} h k) i l =
    ap₂ chain_decision (on-constructor h i l) (on-constructor k i l)
    ∙ chain-decided (is_in (named_set p) (suc i)) (is_in (named_set q) (suc i))
    ∙ ap decided (sym (in-union (named_set p) (named_set q) (suc i)))

-- and so it does on the set of that constructor alone
alone-decided : (T : ConstructorSet) (i : ℕ) → flat_decision T (only_one (suc i)) ≡ decided (is_in T (suc i))
alone-decided T i = go (is_in T (suc i)) refl
  where
    here : (c : ℕ) → is_in (only_one (suc i)) c ≡ true → c ≡ suc i
    here c h = only-in (suc i) c h

    not-inside : (b : Bool) → is_in T (suc i) ≡ false → subset (only_one (suc i)) T ≡ b → b ≡ false
    not-inside true e f = false-true (sym e ∙ inside-holds (only_one (suc i)) T f (suc i) (in-only i))
    not-inside false e f = refl

    go : (b : Bool) → is_in T (suc i) ≡ b → flat_decision T (only_one (suc i)) ≡ decided b
    go true e =
        ap (λ x. by_tests x (disjoint (only_one (suc i)) T)) (inside-from (only_one (suc i)) T (λ c h. rw (here c h) e))
    go false e =
        ap₂ by_tests (not-inside (subset (only_one (suc i)) T) e refl) (apart_from (only_one (suc i)) T (λ c h. rw (here c h) e))

leaf-narrows : (p : Pattern) (r n v : ℕ) (S : ConstructorSet) → HasType p (Flat r n) → v ≤ n → SomeOf n S → (v ≡ 0) ⊎ (S ≡ only_one v)
    → DecisionBelow (matches p (v ∷ [])) (flat_decision (named_set p) S)
leaf-narrows p r n zero S h l some o = go (on-undefined h)
  where
    named-all : All n (named_set p) → (c : ℕ) → is_in S c ≡ true → is_in (named_set p) c ≡ true
    named-all a zero e = false-true e
    named-all a (suc i) e = a i (some.within (suc i) e)

    go : OnUndefined n p → DecisionBelow (matches p (0 ∷ [])) (flat_decision (named_set p) S)
    go (inl e) = inl e
    go (inr e) = inr (e.0 ∙ sym (ap (λ x. by_tests x (disjoint S (named_set p))) (inside-from S (named_set p) (named-all e.1))))
leaf-narrows p r n (suc i) S h l some (inl e) = absurd (omega arith)
leaf-narrows p r n (suc i) S h l some (inr e) = rw e (inr (on-constructor h i l ∙ sym (alone-decided (named_set p) i)))

-- pieces
narrowed-take : (b c : List ℕ) {v : List ℕ} {Ss : List ConstructorSet} → Narrowed (b ++ c) v Ss → Narrowed b (take (length b) v) (take (length b) Ss)
narrowed-take [] c r = narrowed_none
narrowed-take (n ∷ b) c (narrowed_leaf h k o r) = narrowed_leaf h k o (narrowed-take b c r)

narrowed-drop : (b : List ℕ) {c v : List ℕ} {Ss : List ConstructorSet} → Narrowed (b ++ c) v Ss → Narrowed c (drop (length b) v) (drop (length b) Ss)
narrowed-drop [] r = r
narrowed-drop (n ∷ b) (narrowed_leaf h k o r) = narrowed-drop b r

pub first-narrowed : (σ τ : Ty) {v : List ℕ} {Ss : List ConstructorSet} → Narrowed (bounds (TyTuple σ τ)) v Ss
    → Narrowed (bounds σ) (take (leaves σ) v) (take (leaves σ) Ss)
first-narrowed σ τ r = rw (bounds-length σ) at (narrowed-take (bounds σ) (bounds τ) r)

pub second-narrowed : (σ τ : Ty) {v : List ℕ} {Ss : List ConstructorSet} → Narrowed (bounds (TyTuple σ τ)) v Ss
    → Narrowed (bounds τ) (drop (leaves σ) v) (drop (leaves σ) Ss)
second-narrowed σ τ r = rw (bounds-length σ) at (narrowed-drop (bounds σ) r)

flat-narrows : (p : Pattern) (r n : ℕ) {v : List ℕ} {Ss : List ConstructorSet} → HasType p (Flat r n) → Narrowed (bounds (Flat r n)) v Ss
    → DecisionBelow (matches p v) (set_matches (Flat r n) p Ss)
flat-narrows p r n h (narrowed_leaf {v = v} {S = S} l some o narrowed_none) = leaf-narrows p r n v S h l some o

whole-narrows : (τ : Ty) {v : List ℕ} {Ss : List ConstructorSet} → Narrowed (bounds τ) v Ss → DecisionBelow Yes (set_matches τ (Whole τ) Ss)
whole-narrows (Flat r n) i = flat-narrows (Whole (Flat r n)) r n p_whole i
whole-narrows (TyTuple σ τ) i = inr refl

bar-narrows : (τ : Ty) (p q : Pattern) {v : List ℕ} {Ss : List ConstructorSet} → HasType p τ → HasType q τ → Narrowed (bounds τ) v Ss
    → DecisionBelow (matches p v) (set_matches τ p Ss) → DecisionBelow (matches q v) (set_matches τ q Ss)
    → DecisionBelow (matches (Bar p q) v) (set_matches τ (Bar p q) Ss)
bar-narrows (Flat r n) p q h k i a b = flat-narrows (Bar p q) r n (p_bar h k) i
bar-narrows (TyTuple σ τ) p q h k i a b = chain-rises a b

pub match-narrows : {p : Pattern} {τ : Ty} {v : List ℕ} {Ss : List ConstructorSet} → HasType p τ → Narrowed (bounds τ) v Ss
    → DecisionBelow (matches p v) (set_matches τ p Ss)
match-narrows {τ} p_whole i = whole-narrows τ i
match-narrows {p} (p_constructor {r} {n}) i = flat-narrows p r n p_constructor i
match-narrows (p_parts {σ} {τ} h k) i =
    rw (width-leaves h) (pair-rises (match-narrows h (first-narrowed σ τ i)) (match-narrows k (second-narrowed σ τ i)))
match-narrows (p_bar {p} {q} {τ} h k) i = bar-narrows τ p q h k i (match-narrows h i) (match-narrows k i)

-- 3. on a value without undefined leaves every match is decided
abbrev pub Decided : Decision → Type 0
Decided a = a ≡ Undecided → ⊥

yes_or_no : (b : Bool) → Decided (decided b)
yes_or_no true e = let z : ◌≡◌ {A = ℕ} 0 1 = cc in omega arith
yes_or_no false e = let z : ◌≡◌ {A = ℕ} 0 1 = cc in omega arith

pair-decided : (a b : Decision) → Decided a → Decided b → Decided (pair_decision a b)
pair-decided Yes b h k = k
pair-decided No b h k = h
pair-decided Undecided b h k = absurd (h refl)

chain-yes-or-no : (a b : Decision) → Decided a → Decided b → Decided (chain_decision a b)
chain-yes-or-no Yes b h k = h
chain-yes-or-no No b h k = k
chain-yes-or-no Undecided b h k = absurd (h refl)

full-take : (b c : List ℕ) {v : List ℕ} → Full (b ++ c) v → Full b (take (length b) v)
full-take [] c r = full_none
full-take (n ∷ b) c (full_leaf h k r) = full_leaf h k (full-take b c r)

full-drop : (b : List ℕ) {c v : List ℕ} → Full (b ++ c) v → Full c (drop (length b) v)
full-drop [] r = r
full-drop (n ∷ b) (full_leaf h k r) = full-drop b r

pub first-full : (σ τ : Ty) {v : List ℕ} → Full (bounds (TyTuple σ τ)) v → Full (bounds σ) (take (leaves σ) v)
first-full σ τ r = rw (bounds-length σ) at (full-take (bounds σ) (bounds τ) r)

pub second-full : (σ τ : Ty) {v : List ℕ} → Full (bounds (TyTuple σ τ)) v → Full (bounds τ) (drop (leaves σ) v)
second-full σ τ r = rw (bounds-length σ) at (full-drop (bounds σ) r)

constructor-decided : (k v : ℕ) → 1 ≤ v → Decided (constructor_decision k v)
constructor-decided k zero h = absurd (omega arith)
constructor-decided k (suc v) h = yes_or_no (eqb (suc v) k)

pub match-decided : {p : Pattern} {τ : Ty} {v : List ℕ} → HasType p τ → Full (bounds τ) v → Decided (matches p v)
match-decided p_whole i = yes_or_no true
match-decided (p_constructor {k = k}) (full_leaf {v = v} h l full_none) = constructor-decided k v h
match-decided (p_parts {p} {q} {σ} {τ} h k) i =
    rw (width-leaves h) (pair-decided _ _ (match-decided h (first-full σ τ i)) (match-decided k (second-full σ τ i)))
match-decided (p_bar {p} {q} h k) i = chain-yes-or-no (matches p _) (matches q _) (match-decided h i) (match-decided k i)
