-- Pairs and their parts, whatever an expression in scope gives, as long as its entry in the table: the slices that are lent for the
-- parts, and what stands in them afterwards.
-- Assumes nothing.
use Prim.Native.Nat.{ℕ, ◌+◌, ◌-◌, ◌≤◌}
use mathlib.Core.List.{List, ◌++◌}
use mathlib.Core.Path.{◌≡◌, sym, ap, ◌∙◌}
use native.Mathlib.Omega.{arith}
use lib.ListN.{length, get_or, take, drop, replicate, length-append}
use Rattle.records.specs.Words.{word}
use Rattle.records.specs.Kinds.{expression, tuple, first, second}
use Rattle.records.specs.Says.{kind_at}
use Rattle.verdict.specs.Scopes.{Scope, tuple_first, tuple_second, of-first, of-second}
use Rattle.evaluator.specs.Evaluating.{Ready}
use Rattle.evaluator.proofs.Frames.{back_long, rest-long, both-back, lent-long, zeros-long, front-own, front-few, end-own, end-few, front-of-back, end-of-back, put_whole}
use Rattle.evaluator.proofs.Readiness.{entry-few}

module _ {s : List ℕ} {n : ℕ} {W env : List ℕ} {names rec : ℕ} {out Γ : List ℕ} (r : Ready s n W env names rec out Γ) where
  module _ (e : kind_at s rec ≡ expression tuple) {x : ℕ} where
    pub left-scope : x ≡ word s rec 2 → Scope s x Γ
    left-scope ex = rw ex (tuple_first e r.scope)

    pub right-scope : x ≡ word s rec 3 → Scope s x Γ
    right-scope ex = rw ex (tuple_second e r.scope)

    pub pair-width-small : x ≡ word s rec 2 → get_or W x 0 ≤ 64
    pair-width-small ex = entry-few r (left-scope ex)

  pub first-scope : kind_at s rec ≡ expression first → {x : ℕ} → x ≡ word s rec 2 → Scope s x Γ
  first-scope e ex = rw ex (of-first e r.scope)

  pub second-scope : kind_at s rec ≡ expression second → {x : ℕ} → x ≡ word s rec 2 → Scope s x Γ
  second-scope e ex = rw ex (of-second e r.scope)

  -- a part in some room
  module _ {x : ℕ} (c : Scope s x Γ) {w : ℕ} (ew : w ≡ get_or W x 0) {R : List ℕ} (e_r : R ≡ replicate 64 0) where
    pub fits-room : w ≤ length R
    fits-room =
        let l : length R ≡ 64 = rw e_r (zeros-long 64) in
        let f = entry-few r c in
        omega arith

    pub room-lent : length (take (w - 0) R) ≡ get_or W x 0
    room-lent = lent-long w R fits-room ∙ ew

  module _ (val : ℕ → List ℕ) (long : (x : ℕ) → Scope s x Γ → length (val x) ≡ get_or W x 0) where
    own-long : length (val rec) ≡ length out
    own-long = long rec r.scope ∙ sym r.room

    -- a pair, of the parts at x and y
    module _ {x y : ℕ} (ca : Scope s x Γ) (cb : Scope s y Γ) (parts : val rec ≡ val x ++ val y) {w : ℕ} (ew : w ≡ get_or W x 0) where
      both-widths : get_or W x 0 + get_or W y 0 ≡ length out
      both-widths =
          let a = long x ca in
          let b = long y cb in
          let c = own-long in
          let d = length-append (val x) (val y) in
          let f = ap length parts in
          omega arith

      pub left-inside : w ≤ length out
      left-inside = let p = both-widths in omega arith

      pub left-lent : length (take (w - 0) out) ≡ get_or W x 0
      left-lent = lent-long w out left-inside ∙ ew

      module _ {o₁ : List ℕ} (v₁ : o₁ ≡ val x) where
        left-wide : length o₁ ≡ w
        left-wide = ap length v₁ ∙ long x ca ∙ sym ew

        pub right-inside : w ≤ length (o₁ ++ drop (w - 0) out)
        right-inside = let l = back_long out o₁ left-wide left-inside in let c = left-inside in omega arith

        pub right-lent : length (take (length (o₁ ++ drop (w - 0) out) - w) (drop w (o₁ ++ drop (w - 0) out))) ≡ get_or W y 0
        right-lent = let l = rest-long out o₁ left-wide left-inside in let p = both-widths in omega arith

        pub both-stand : {o₂ : List ℕ} → o₂ ≡ val y
            → take w (o₁ ++ drop (w - 0) out)
            ++ (o₂ ++ drop (length (o₁ ++ drop (w - 0) out) - w) (drop w (o₁ ++ drop (w - 0) out)))
            ≡ val rec
        both-stand {o₂} v₂ = both-back out o₁ left-wide left-inside o₂ ∙ rw (v₁, v₂) (sym parts)

    -- a part at x, in some room
    module _ {x : ℕ} (c : Scope s x Γ) {w : ℕ} (ew : w ≡ get_or W x 0) {R : List ℕ} (e_r : R ≡ replicate 64 0) {o₁ : List ℕ} (v₁ : o₁ ≡ val x) where
      pub stands-wide : length o₁ ≡ w
      stands-wide = ap length v₁ ∙ long x c ∙ sym ew

      pub whole-inside : w ≤ length (o₁ ++ drop (w - 0) R)
      whole-inside = let a = back_long R o₁ stands-wide (fits-room c ew e_r) in let b = fits-room c ew e_r in omega arith

      -- its front is put into the slice
      module _ (cut : ℕ) (front : val rec ≡ take cut (val x)) where
        front-is : val rec ≡ take cut o₁
        front-is = front ∙ ap (take cut) (sym v₁)

        cut-long : length out ≡ length (take cut o₁)
        cut-long = sym own-long ∙ ap length front-is

        front-narrow : length out ≤ w
        front-narrow = let a = stands-wide in let b = front-few cut o₁ in let c = cut-long in omega arith

        front-back : take (length out - 0) (o₁ ++ drop (w - 0) R) ≡ take cut o₁
        front-back = front-of-back R o₁ stands-wide (length out) front-narrow ∙ rw cut-long (front-own cut o₁)

        pub front-in-room : length out ≤ length (o₁ ++ drop (w - 0) R)
        front-in-room = let a = whole-inside in let c = front-narrow in omega arith

        pub front_fits : length (take (length out - 0) (o₁ ++ drop (w - 0) R)) ≡ length out
        front_fits = ap length front-back ∙ sym cut-long

        pub front-stands : {out' : List ℕ}
            → out' ≡ take (length out - 0) (o₁ ++ drop (w - 0) R) ++ drop (length (take (length out - 0) (o₁ ++ drop (w - 0) R))) out
            → out' ≡ val rec
        front-stands {out'} g = put_whole (take (length out - 0) (o₁ ++ drop (w - 0) R)) out out' front_fits g ∙ front-back ∙ sym front-is

      -- its end is
      module _ (cut : ℕ) (end : val rec ≡ drop cut (val x)) where
        end_is : val rec ≡ drop cut o₁
        end_is = end ∙ ap (drop cut) (sym v₁)

        end-long : length out ≡ length (drop cut o₁)
        end-long = sym own-long ∙ ap length end_is

        pub end-narrow : length out ≤ w
        end-narrow = let a = stands-wide in let b = end-few cut o₁ in let c = end-long in omega arith

        abbrev piece : List ℕ
        piece = take (w - (w - length out)) (drop (w - length out) (o₁ ++ drop (w - 0) R))

        piece_is : piece ≡ drop cut o₁
        piece_is = let l = stands-wide in end-of-back R o₁ l (length out) end-narrow ∙ rw (← l, end-long) (end-own cut o₁)

        pub end_fits : length (take (w - (w - length out)) (drop (w - length out) (o₁ ++ drop (w - 0) R))) ≡ length out
        end_fits = ap length piece_is ∙ sym end-long

        pub end-stands : {out' : List ℕ} → out' ≡ piece ++ drop (length piece) out → out' ≡ val rec
        end-stands {out'} g = put_whole piece out out' end_fits g ∙ piece_is ∙ sym end_is
