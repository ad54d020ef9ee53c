-- Two tables that both have the widths of a sheet are the same. A record below the count is a type, an expression, a pattern or has
-- no entry, and each is fixed: an expression's by its scope, which every expression record has.
-- Assumes nothing.
use Prim.Native.Nat.{ℕ, ◌<◌}
use mathlib.Core.Path.{◌≡◌, refl, sym, ◌∙◌}
use native.Mathlib.Omega.{arith}
use native.Mathlib.Decide.{dec_lt}
use lib.ListN.{get_or}
use lib.Seq.{ext_get_or}
use Rattle.records.specs.Words.{count}
use Rattle.records.specs.Kinds.{Sort, headers, types, expressions, patterns, leafs, no_sort}
use Rattle.records.specs.Says.{sort_at}
use Rattle.records.specs.Trees.{TypeRecord}
use Rattle.records.proofs.Asked.{past-header}
use Rattle.structure.proofs.Passes.{written}
use Rattle.verdict.specs.Promises.{TableFixed}
use Rattle.verdict.proofs.EveryScoped.{scoped}

pub table_fixed : TableFixed
table_fixed s p table other v w =
    ext_get_or 0 table other (v.long ∙ sym w.long) (λ r h. let l = v.long in at r (omega arith) (dec_lt r (count s)))
  where
    by-sort : (r : ℕ) → r < 4096 → r < count s → (σ : Sort) → sort_at s r ≡ σ → get_or table r 0 ≡ get_or other r 0
    by-sort r h l types e =
        let t : TypeRecord s r = record { past = past-header (written p) r (rw e); there = l; sort = e } in v.types r t ∙ sym (w.types r t)
    by-sort r h l expressions e = let c = (scoped p r l e).1 in v.expressions c ∙ sym (w.expressions c)
    by-sort r h l patterns e = v.patterns r l e ∙ sym (w.patterns r l e)
    by-sort r h l headers e = v.elsewhere r h (λ q. rw e) ∙ sym (w.elsewhere r h (λ q. rw e))
    by-sort r h l leafs e = v.elsewhere r h (λ q. rw e) ∙ sym (w.elsewhere r h (λ q. rw e))
    by-sort r h l no_sort e = v.elsewhere r h (λ q. rw e) ∙ sym (w.elsewhere r h (λ q. rw e))

    at : (r : ℕ) → r < 4096 → Dec (r < count s) → get_or table r 0 ≡ get_or other r 0
    at r h (yes l) = by-sort r h l (sort_at s r) refl
    at r h (no l) = v.elsewhere r h (λ q. absurd (l q)) ∙ sym (w.elsewhere r h (λ q. absurd (l q)))
