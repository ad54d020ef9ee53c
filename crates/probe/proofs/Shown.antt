-- An input of the input's type is a good preview, and what it shows at a leaf is the output leaf.
-- Assumes nothing.
use Prim.Native.Nat.{ℕ, zero, suc, ◌%◌, ◌≤◌}
use native.Mathlib.Nat.{mod_self, mod-eq_of_lt}
use mathlib.Core.Path.{◌≡◌, refl, sym, ap, ◌∙◌}
use mathlib.Core.Bool.{false}
use mathlib.Core.Option.{none}
use mathlib.Core.List.{List}
use native.Mathlib.Omega.{arith}
use lib.ListN.{length, get_or}
use borrow.Author.Tests.{eq-eqb, le-ltb}
use Rattle.picoella.specs.Language.{bounds, Within, within_none, within_leaf, OfType}
use Rattle.records.specs.Words.{word_a}
use Rattle.records.proofs.Types.{leaves-of-bounds, some-leaves}
use Rattle.answers.specs.Answers.{lowest}
use Rattle.answers.specs.Answers.{Done}
use Rattle.answers.proofs.Lowest.{lowest_none}
use Rattle.verdict.specs.Verdict.{verdict}
use Rattle.answers.specs.Answers.{Accepted}
use Rattle.accepted.proofs.Calls.{accepted-output}
use Rattle.accepted.proofs.Laws.{written, exact}
use Rattle.accepted.proofs.Small.{type-few}
use Rattle.records.proofs.TypeRecords.{input-type}
use Rattle.meaning.proofs.Order.{within-length}
use Rattle.stimulus.specs.Stimulus.{input_type, input_leaves, wrong_stimulus, wrong_byte}
use Rattle.stimulus.specs.OneCycle.{not_one_cycle}
use Rattle.stimulus.proofs.OneCycleCalls.{one-cycle-done}
use Rattle.behaviour.specs.Run.{output_leaves}
use Rattle.preview.specs.Preview.{preview_answer, final_preview, Previewed}
use Rattle.probe.specs.OutputLeaf.{leaf_for}

pub within-at : {ns vs : List ℕ} → Within ns vs → (j : ℕ) → get_or vs j 0 ≤ get_or ns j 0
within-at within_none zero = omega arith
within-at within_none (suc j) = omega arith
within-at (within_leaf h r) zero = h
within-at (within_leaf h r) (suc j) = within-at r j

module _ (s : List ℕ) {t : ℕ} (v : verdict s ≡ Accepted t) (i : List ℕ) (h : OfType (input_type s) i) where
  as_long : length i ≡ input_leaves s
  as_long = within-length h ∙ sym (leaves-of-bounds (input_type s))

  few : input_leaves s ≤ 64
  few = type-few v (word_a s 0) (input-type (written ((exact s t).0 v).0))

  pub typed-one-cycle : not_one_cycle s i ≡ false
  unfolding not_one_cycle wrong_stimulus
  typed-one-cycle =
      let l = as_long in
      let f = few in
      let some = some-leaves (input_type s) in
      let m : length i % input_leaves s ≡ 0 = rw l (mod_self (input_leaves s)) in
      rw (le-ltb 65535 (length i) (omega arith), eq-eqb (length i % input_leaves s) 0 m, eq-eqb (length i) (input_leaves s) l) refl

  pub typed-fitting : lowest (wrong_byte s i) (length i) ≡ none
  unfolding wrong_byte
  typed-fitting =
      let l = as_long in
      lowest_none (wrong_byte s i) (length i)
      (λ j g. let m : j % input_leaves s ≡ j = mod-eq_of_lt (omega arith) in
      rw m (le-ltb (get_or (bounds (input_type s)) j 0) (get_or i j 0) (within-at h j)))

  pub shown-good : (shown : List ℕ) → length shown ≡ output_leaves s → preview_answer s i shown ≡ Done 0
  unfolding preview_answer
  shown-good shown e =
      one-cycle-done 10 {lent = shown} (record { accepted = v ∙ ap Accepted (accepted-output s t v); one_cycle = typed-one-cycle; fitting = typed-fitting; room = e })

  pub shown-leaf : (shown : List ℕ) → length shown ≡ output_leaves s → (l : ℕ) → get_or (final_preview s i shown) l 0 ≡ leaf_for s l i
  unfolding final_preview leaf_for
  shown-leaf shown e l = rw (shown-good shown e) refl

  -- whatever the call gave by its contract
  pub shown-at : (l : ℕ) (shown : List ℕ) (result : ℕ) (out : List ℕ) → length shown ≡ output_leaves s → Previewed s i shown result out
      → (result ≡ 0) × (get_or out l 0 ≡ leaf_for s l i)
  shown-at l shown result out e p =
      (p.result_is ∙ rw (shown-good shown e) refl, ap (λ (o : List ℕ). get_or o l 0) p.out_is ∙ shown-leaf shown e l)
