-- The first judgement that fails: in one list and then another it is that of the first, or else that of the second; in a list of
-- one judgement there is none exactly where its rule holds. By induction on the list.
-- Assumes nothing.
use Prim.Native.Nat.{ℕ}
use mathlib.Core.Bool.{Bool, true, false, cond}
use mathlib.Core.List.{List, [], ◌∷◌, ◌++◌}
use mathlib.Core.Option.{Option, none, some}
use mathlib.Core.Path.{◌≡◌, refl}
use Rattle.typing.specs.Judgements.{Judgement, holds, judge, Rule, first_failing}

-- the first answer, or else the second
abbrev pub or_next_failing : Option ℕ → Option ℕ → Option ℕ
or_next_failing none o = o
or_next_failing (some r) o = some r

pub first-of-both :
    (s : List ℕ) (js ks : List Judgement) → first_failing s (js ++ ks) ≡ or_next_failing (first_failing s js) (first_failing s ks)
first-of-both s [] ks = refl
first-of-both s (j ∷ js) ks = go (holds s j.rule) (first-of-both s js ks)
  where
    go : (b : Bool) → first_failing s (js ++ ks) ≡ or_next_failing (first_failing s js) (first_failing s ks)
        → cond b (first_failing s (js ++ ks)) (some j.at) ≡ or_next_failing (cond b (first_failing s js) (some j.at)) (first_failing s ks)
    go true e = e
    go false e = refl

-- none fails in both exactly where none fails in either
pub none-in-both : (s : List ℕ) (js ks : List Judgement) → first_failing s (js ++ ks) ≡ none
    → (first_failing s js ≡ none) × (first_failing s ks ≡ none)
none-in-both s js ks e = go (first_failing s js) refl (rw first-of-both at e)
  where
    go : (o : Option ℕ) → first_failing s js ≡ o → or_next_failing o (first_failing s ks) ≡ none → (o ≡ none) × (first_failing s ks ≡ none)
    go none q e = (refl, e)
    go (some r) q e = (e, cc)

pub none-of-both : (s : List ℕ) (js ks : List Judgement) → first_failing s js ≡ none → first_failing s ks ≡ none
    → first_failing s (js ++ ks) ≡ none
none-of-both s js ks e f = rw (first-of-both s js ks, e, f)

pub failing-judged : (s : List ℕ) (r : ℕ) (rule : Rule) → first_failing s (judge r rule) ≡ none → holds s rule ≡ true
failing-judged s r rule e = go (holds s rule) e
  where
    go : (b : Bool) → cond b none (some r) ≡ none → b ≡ true
    go true e = refl
    go false e = cc

pub judgement-holds : (s : List ℕ) (r : ℕ) (rule : Rule) → holds s rule ≡ true → first_failing s (judge r rule) ≡ none
judgement-holds s r rule e = rw e
