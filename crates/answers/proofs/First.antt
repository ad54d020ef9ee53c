-- The answer of a list of checks is that of the first that applies: along the list, a check that does not apply leaves the answer to
-- those after it. And only that: of two answers that say so of one list, the checks that apply first are the same. Lists one after
-- the other, and the bytes that a refusal leaves.
-- Assumes nothing.
use Prim.Native.Nat.{ℕ}
use mathlib.Core.Bool.{Bool, true, false, not}
use mathlib.Core.List.{List, [], ◌∷◌, ◌++◌}
use mathlib.Core.Option.{Option, none, some}
use mathlib.Core.Path.{◌≡◌, refl, sym, ap, ◌∙◌}
use mathlib.Core.Logic.{◌≢◌}
use native.Mathlib.Omega.{arith}
use lib.Dec.{eqb}
use borrow.Author.Tests.{eqb-true, not-false}
use Rattle.answers.specs.Answers.{code, when_done, on_done, Check, when, or_refused, first_applying, NoneApplies, Refuses, SaysOf}
use Rattle.answers.specs.Answers.{Answer}
use Rattle.answers.specs.Answers.{Done, Refused}

-- a test that does not apply fails
pub when-none : (b : Bool) (p : ℕ) → when b p ≡ none → b ≡ false
when-none true p e = let z : ◌≡◌ {A = ℕ} 0 1 = cc in absurd (omega arith)
when-none false p e = refl

refuses-later : (k : Check) (ks : List Check) (c p : ℕ) → k.found ≡ none → Refuses ks c p → Refuses (k ∷ ks) c p
refuses-later k ks c p e r =
    record {
      before = k ∷ r.before;
      applying = r.applying;
      after = r.after;
      split = ap (λ (l : List Check). k ∷ l) r.split;
      none_before = (e, r.none_before);
      applies = r.applies;
      numbered = r.numbered;
    }

says-later : (k : Check) (ks : List Check) (done : ℕ) → k.found ≡ none → (a : Answer) → SaysOf ks done a → SaysOf (k ∷ ks) done a
says-later k ks done e (Done p) h = ((e, h.0), h.1)
says-later k ks done e (Refused c p) h = refuses-later k ks c p e h

pub first_says : (ks : List Check) (done : ℕ) → SaysOf ks done (first_applying ks (Done done))
first_says [] done = (tt, refl)
first_says (k ∷ ks) done = go (first_says ks done) k.found refl
  where
    go : SaysOf ks done (first_applying ks (Done done)) → (o : Option ℕ) → k.found ≡ o → SaysOf (k ∷ ks) done (or_refused k.number o (first_applying ks (Done done)))
    go h none e = says-later k ks done e (first_applying ks (Done done)) h
    go h (some p) e =
        record { before = []; applying = k; after = ks; split = refl; none_before = tt; applies = e; numbered = refl }

pub none_done : (ks : List Check) (done : Answer) → NoneApplies ks → first_applying ks done ≡ done
none_done [] done h = refl
none_done (k ∷ ks) done h = rw h.0 (none_done ks done h.1)

pub refused-first :
    (before : List Check) (k : Check) (after : List Check) (done : Answer) (p : ℕ) → NoneApplies before → k.found ≡ some p
    → first_applying (before ++ (k ∷ after)) done ≡ Refused k.number p
refused-first [] k after done p h e = rw e
refused-first (j ∷ js) k after done p h e = rw h.0 (refused-first js k after done p h.1 e)

pub says_first : (ks : List Check) (done : ℕ) (a : Answer) → SaysOf ks done a → first_applying ks (Done done) ≡ a
says_first ks done (Done p) h = none_done ks (Done done) h.0 ∙ ap Done (sym h.1)
says_first ks done (Refused c p) r =
    ap (λ (l : List Check). first_applying l (Done done)) r.split
    ∙ refused-first r.before r.applying r.after (Done done) p r.none_before r.applies
    ∙ ap (λ (n : ℕ). Refused n p) r.numbered

-- two lists of checks, one after the other
pub first-both : (ks js : List Check) (done : Answer) → first_applying (ks ++ js) done ≡ first_applying ks (first_applying js done)
first-both [] js done = refl
first-both (k ∷ ks) js done = go k.found (first-both ks js done)
  where
    go : (o : Option ℕ) → first_applying (ks ++ js) done ≡ first_applying ks (first_applying js done)
        → or_refused k.number o (first_applying (ks ++ js) done) ≡ or_refused k.number o (first_applying ks (first_applying js done))
    go none e = e
    go (some p) e = refl

-- what comes after a refusal does not matter
pub first_then : (ks : List Check) (p : ℕ) (rest : ℕ → Answer) → first_applying ks (rest p) ≡ on_done (first_applying ks (Done p)) rest
first_then [] p rest = refl
first_then (k ∷ ks) p rest = go k.found (first_then ks p rest)
  where
    go : (o : Option ℕ) → first_applying ks (rest p) ≡ on_done (first_applying ks (Done p)) rest
        → or_refused k.number o (first_applying ks (rest p)) ≡ on_done (or_refused k.number o (first_applying ks (Done p))) rest
    go none e = e
    go (some q) e = refl

-- where none of both applies, none of each does
pub none-split : (ks js : List Check) → NoneApplies (ks ++ js) → NoneApplies ks × NoneApplies js
none-split [] js h = (tt, h)
none-split (k ∷ ks) js h = let r = none-split ks js h.1 in ((h.0, r.0), r.1)

-- and where none of each applies, none of both does
pub none_both : (ks js : List Check) → NoneApplies ks → NoneApplies js → NoneApplies (ks ++ js)
none_both [] js h i = i
none_both (k ∷ ks) js h i = (h.0, none_both ks js h.1 i)

-- what a test that applies at one place says
pub when-some : (b : Bool) (p q : ℕ) → when b p ≡ some q → p ≡ q
when-some true p q e = cc
when-some false p q e = let z : ◌≡◌ {A = ℕ} 0 1 = cc in absurd (omega arith)

pub same-length-by : (a b p : ℕ) → when (not (eqb a b)) p ≡ none → a ≡ b
same-length-by a b p e = eqb-true a b (not-false (eqb a b) (when-none (not (eqb a b)) p e))

-- a refusal leaves the bytes of a lent slice
pub kept-bytes : (a : Answer) (new old : List ℕ) → code a ≢ 0 → when_done a new old ≡ old
kept-bytes (Done n) new old f = absurd (f refl)
kept-bytes (Refused c p) new old f = refl
