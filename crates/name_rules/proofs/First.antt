-- Of a list of checks all hold, or one fails that all before it hold; and it is one.
-- Assumes nothing.
use Prim.Native.Nat.{ℕ}
use mathlib.Core.Path.{◌≡◌, refl}
use mathlib.Core.Logic.{◌⊎◌, inl, inr}
use mathlib.Core.Bool.{true, false}
use mathlib.Core.Option.{none}
use native.Mathlib.Omega.{arith}
use mathlib.Core.List.{List, [], ◌∷◌, ◌++◌}
use Rattle.name_rules.specs.Checks.{PlacedCheck, check_at, AllPass, no_check_left, one_holds, FirstFails, fails_here, fails_later, first_bad_place}

further : (p : ℕ) (cs : List PlacedCheck) → AllPass cs ⊎ ((q : ℕ) × FirstFails cs q) → AllPass (check_at p true ∷ cs) ⊎ ((q : ℕ) × FirstFails (check_at p true ∷ cs) q)
further p cs (inl h) = inl (one_holds h)
further p cs (inr h) = inr (h.0, fails_later h.1)

pub hold_or_fail : (cs : List PlacedCheck) → AllPass cs ⊎ ((p : ℕ) × FirstFails cs p)
hold_or_fail [] = inl no_check_left
hold_or_fail (check_at p true ∷ cs) = further p cs (hold_or_fail cs)
hold_or_fail (check_at p false ∷ cs) = inr (p, fails_here)

pub never-pass-and-fail : {cs : List PlacedCheck} {p : ℕ} → FirstFails cs p → AllPass cs → ⊥
never-pass-and-fail (fails_later f) (one_holds h) = never-pass-and-fail f h
never-pass-and-fail (fails_here {p = p} {cs = cs}) x4 = elim x4 [ ]

pub one_bad_place : {cs : List PlacedCheck} {p q : ℕ} → FirstFails cs p → FirstFails cs q → p ≡ q
one_bad_place fails_here fails_here = refl
one_bad_place (fails_later f) (fails_later g) = one_bad_place f g

-- where there is no bad place all hold
pub none-bad : (cs : List PlacedCheck) → first_bad_place cs ≡ none → AllPass cs
none-bad [] e = no_check_left
none-bad (check_at p true ∷ cs) e = one_holds (none-bad cs e)
none-bad (check_at p false ∷ cs) e = absurd (let z : ◌≡◌ {A = ℕ} 0 1 = cc in omega arith)

pub pass-none : {cs : List PlacedCheck} → AllPass cs → first_bad_place cs ≡ none
pass-none no_check_left = refl
pass-none (one_holds h) = pass-none h

pub pass-split : (cs : List PlacedCheck) {ds : List PlacedCheck} → AllPass (cs ++ ds) → AllPass cs × AllPass ds
pass-split [] h = (no_check_left, h)
pass-split (check_at p true ∷ cs) (one_holds h) = let r = pass-split cs h in (one_holds r.0, r.1)
pass-split (check_at p false ∷ cs) {ds = ds} h = elim h [ ]

pub both-pass : {cs ds : List PlacedCheck} → AllPass cs → AllPass ds → AllPass (cs ++ ds)
both-pass no_check_left k = k
both-pass (one_holds h) k = one_holds (both-pass h k)
