-- Where the names in scope have type records and each judgement of an expression holds, its type is a type record. By induction
-- on the tree: a name's type is in the context, a pair's is the pair record that its judgement finds, a part's is a part of the
-- pair record that its judgement asks for, and a type word names a type record.
-- Assumes nothing.
use Prim.Native.Nat.{ℕ, zero, suc, ◌<◌}
use mathlib.Core.List.{List, [], ◌∷◌}
use native.Mathlib.Omega.{arith}
use lib.ListN.{length, get_or}
use borrow.Author.Tests.{ltb-true}
use Rattle.records.specs.Says.{kind_at}
use Rattle.records.specs.Trees.{
  TypeRecord,
  pair_of,
  Tree,
  no_expression,
  constant_of,
  name_of,
  tuple_of,
  first_of,
  second_of,
  let_of,
  feedback_of,
  if_of,
  delay_of,
  type_record_of,
}
use Rattle.records.specs.Written.{Written}
use Rattle.records.proofs.Table.{is-pair}
use Rattle.records.proofs.TypeRecords.{first_part, second-part, found-pair}
use Rattle.records.proofs.Grown.{Grown}
use Rattle.typing.specs.Judging.{Context}
use Rattle.typing.proofs.Judged.{RulesHold}

pub in-context : (s Γ : List ℕ) (k : ℕ) → Context s Γ → k < length Γ → TypeRecord s (get_or Γ k 0)
in-context s [] k c h = absurd (omega arith)
in-context s (t ∷ Γ) zero c h = c.0
in-context s (t ∷ Γ) (suc k) c h = in-context s Γ k c.1 (omega arith)

-- an expression whose rules hold has a type record
pub type-of-record : {s : List ℕ} → Written s → (Γ : List ℕ) (e : Tree) → Grown s e → Context s Γ → RulesHold s Γ e
    → TypeRecord s (type_record_of s Γ e)
type-of-record {s} w Γ no_expression g c j = absurd g
type-of-record {s} w Γ (constant_of r t ls) g c j = g
type-of-record {s} w Γ (name_of r k) g c j = in-context s Γ k c (ltb-true k (length Γ) j)
type-of-record {s} w Γ (tuple_of r a b) g c j =
    found-pair w (type_record_of s Γ a) (type_record_of s Γ b) (ltb-true 0 (pair_of s (type_record_of s Γ a) (type_record_of s Γ b)) j.2)
type-of-record {s} w Γ (first_of r a) g c j =
    let t = type-of-record w Γ a g c j.0 in first_part w (type_record_of s Γ a) t.there (is-pair (kind_at s (type_record_of s Γ a)) j.1)
type-of-record {s} w Γ (second_of r a) g c j =
    let t = type-of-record w Γ a g c j.0 in second-part w (type_record_of s Γ a) t.there (is-pair (kind_at s (type_record_of s Γ a)) j.1)
type-of-record {s} w Γ (let_of r a b) g c j =
    type-of-record w (type_record_of s Γ a ∷ Γ) b g.1 (type-of-record w Γ a g.0 c j.0, c) j.1
type-of-record {s} w Γ (feedback_of r t a b) g c j = type-of-record w (t ∷ Γ) b g.2 (g.0, c) j.1
type-of-record {s} w Γ (if_of r a p b d) g c j = type-of-record w Γ b g.2 c j.2
type-of-record {s} w Γ (delay_of r t ls a) g c j = g.0
