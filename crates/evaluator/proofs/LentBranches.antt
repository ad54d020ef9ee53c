-- IFs, whatever an expression in scope gives, as long as its entry in the table: the slices that are lent for the three parts, and the
-- pattern that the tested part is matched against.
-- Assumes nothing.
use Prim.Native.Nat.{ℕ, ◌-◌, ◌≤◌, ◌<◌}
use mathlib.Core.List.{List, ◌++◌}
use mathlib.Core.Path.{◌≡◌, refl, sym, ap, ◌∙◌}
use native.Mathlib.Omega.{arith}
use borrow.Author.Tests.{eqb-true}
use lib.ListN.{length, get_or, take, drop, replicate}
use Rattle.picoella.specs.Language.{leaves}
use Rattle.records.specs.Words.{word, word_b, word_c, count}
use Rattle.records.specs.Kinds.{expression, if_matches, patterns}
use Rattle.records.specs.Says.{kind_at}
use Rattle.records.specs.Trees.{type_at, tree_at, type_record_of}
use Rattle.records.specs.Written.{Written}
use Rattle.records.proofs.Table.{ask_of_kind}
use Rattle.records.proofs.Asked.{part-of-kind}
use Rattle.records.proofs.Trees.{tree-of}
use Rattle.verdict.specs.Scopes.{Scope, if_tested, if_then, if_else}
use Rattle.accepted.proofs.Scopes.{judged-by-kind}
use Rattle.values.specs.Matchings.{Matching}
use Rattle.evaluator.specs.Evaluating.{Ready}
use Rattle.evaluator.proofs.Frames.{back_long, back-part, lent-long, zeros-long}
use Rattle.evaluator.proofs.Readiness.{ready-passes, ready-written, ready-there, in-circuit, part-typed-there, room-few, entry-is}
use Rattle.evaluator.proofs.LentParts.{fits-room}

module _ {s : List ℕ} {n : ℕ} {W env : List ℕ} {names rec : ℕ} {out Γ : List ℕ} (r : Ready s n W env names rec out Γ) where
  w : Written s
  w = ready-written r

  b : rec < count s
  b = ready-there r

  -- the entry of the record
  pub own-entry : length out ≡ leaves (type_at s (type_record_of s Γ (tree_at s rec)))
  own-entry = r.room ∙ entry-is r r.scope

  module _ (e : kind_at s rec ≡ expression if_matches) where
    pub tested-scope : {x : ℕ} → x ≡ word s rec 2 → Scope s x Γ
    tested-scope ex = rw ex (if_tested e r.scope)

    pub then-scope : {y : ℕ} → y ≡ word s rec 3 → Scope s y Γ
    then-scope ey = rw ey (if_then e r.scope)

    pub else-scope : {z : ℕ} → z ≡ word s rec 4 → Scope s z Γ
    else-scope ez = rw ez (if_else e r.scope)

    pub then-lent : {y : ℕ} → y ≡ word s rec 3 → length out ≡ get_or W y 0
    then-lent ey = own-entry ∙ rw (tree-of w rec b (expression if_matches) e, ey) (sym (entry-is r (if_then e r.scope)))

    same-types : type_record_of s Γ (tree_at s (word_b s rec)) ≡ type_record_of s Γ (tree_at s (word_c s rec))
    same-types =
        eqb-true (type_record_of s Γ (tree_at s (word_b s rec))) (type_record_of s Γ (tree_at s (word_c s rec)))
        (judged-by-kind (ready-passes r) (in-circuit r r.scope) if_matches e).4

    else-entry : {z : ℕ} → z ≡ word s rec 4 → length out ≡ get_or W z 0
    else-entry ez =
        then-lent refl ∙ entry-is r (if_then e r.scope) ∙ rw (same-types, ez) (sym (entry-is r (if_else e r.scope)))

    -- the then branch stands in the slice, and the else branch in some room
    module _ (o₂ : List ℕ) (then-long : length o₂ ≡ length out) {Q : List ℕ} (e_q : Q ≡ replicate 64 0) where
      pub otherwise-fits : length o₂ ≤ length Q
      otherwise-fits =
          let l : length Q ≡ 64 = rw e_q (zeros-long 64) in
          let f = room-few r in
          let t = then-long in
          omega arith

      pub else-lent : {z : ℕ} → z ≡ word s rec 4 → length (take (length o₂ - 0) Q) ≡ get_or W z 0
      else-lent ez = lent-long (length o₂) Q otherwise-fits ∙ then-long ∙ else-entry ez

      module _ (o₃ : List ℕ) (else-long : length o₃ ≡ length o₂) where
        pub otherwise-is : take (length o₂ - 0) (o₃ ++ drop (length o₂ - 0) Q) ≡ o₃
        otherwise-is = back-part Q o₃ else-long otherwise-fits

        pub else-inside : length o₂ ≤ length (o₃ ++ drop (length o₂ - 0) Q)
        else-inside = let l = back_long Q o₃ else-long otherwise-fits in let f = otherwise-fits in omega arith

        pub otherwise-long : length (take (length o₂ - 0) (o₃ ++ drop (length o₂ - 0) Q)) ≡ length o₂
        otherwise-long = ap length otherwise-is ∙ else-long

    -- the tested part in some room
    module _ {x : ℕ} (ex : x ≡ word s rec 2) {c : ℕ} (ec : c ≡ get_or W x 0) {R : List ℕ} (e_r : R ≡ replicate 64 0) (o₁ : List ℕ)
        (long : length o₁ ≡ c) where
      fits : c ≤ length R
      fits = fits-room r (tested-scope ex) ec e_r

      pub tested-is : take (c - 0) (o₁ ++ drop (c - 0) R) ≡ o₁
      tested-is = back-part R o₁ long fits

      pub test-inside : c ≤ length (o₁ ++ drop (c - 0) R)
      test-inside = let l = back_long R o₁ long fits in let f = fits in omega arith

      pub test-matching : {p : ℕ} → p ≡ word s rec 5 → Matching s n W p (take (c - 0) (o₁ ++ drop (c - 0) R))
      test-matching ep =
          let q = part-of-kind w rec (expression if_matches) patterns b e 5 refl (unfold ask_of_kind in refl) in
          let counted = r.sized.counted in
          let j = judged-by-kind (ready-passes r) (in-circuit r r.scope) if_matches e in
          record {
            type = type_record_of s Γ (tree_at s x);
            against = record {
              sized = r.sized;
              passes = ready-passes r;
              there = omega (arith, q.1, ep);
              sort = rw ep q.2;
              typed = part-typed-there r (tested-scope ex);
            };
            table = r.table.patterns;
            fits = rw (ex, ep) j.1;
            long = ap length tested-is ∙ long ∙ ec ∙ entry-is r (tested-scope ex);
          }
