-- A cycle: the root is ready to be evaluated with the input as its one name, its value is the output, and the table copied along the
-- delays' chains makes the sheet after the cycle.
-- Assumes nothing.
use Prim.Native.Nat.{ℕ, zero, suc, ◌+◌, ◌*◌, ◌≤◌, ◌<◌}
use mathlib.Core.Bool.{Bool, true}
use mathlib.Core.List.{List, [], ◌∷◌, ◌++◌, Memᴰ}
use mathlib.Core.Path.{◌≡◌, refl, sym, ap, ap₂, subst, ◌∙◌}
use native.Mathlib.Omega.{arith}
use lib.ListN.{length, get_or}
use Rattle.picoella.specs.Language.{leaves, OfType}
use Rattle.records.specs.Words.{word, word_a, word_b, count}
use Rattle.records.specs.Kinds.{Kind}
use Rattle.records.specs.Says.{kind_at}
use Rattle.records.specs.Sized.{Sized}
use Rattle.records.specs.Trees.{type_at, chain, circuit, delay_leaves}
use Rattle.records.specs.Written.{Written}
use Rattle.records.specs.Rewritten.{Rewritten}
use Rattle.records.proofs.Rewritten.{same_kind, same-chain, same-type}
use Rattle.records.proofs.Types.{few-leaves}
use Rattle.records.proofs.TypeRecords.{input-type}
use Rattle.accepted.proofs.Laws.{written, types-fit}
use Rattle.verdict.specs.Scopes.{inputs}
use Rattle.verdict.specs.Scopes.{root}
use Rattle.verdict.specs.Widths.{Widths}
use Rattle.accepted.proofs.Laws.{exact, accepted-judged}
use Rattle.meaning.specs.Values.{no_values, more_values}
use Rattle.meaning.specs.Undecided.{undecided_rule}
use Rattle.meaning.specs.Evaluation.{next}
use Rattle.meaning.proofs.Order.{value-length}
use Rattle.meaning.proofs.UndecidedRule.{rule-lawful}
use Rattle.behaviour.specs.Terms.{circuit_term}
use Rattle.behaviour.specs.Delays.{store}
use Rattle.behaviour.specs.Copies.{copied, leaves_by_kind, delay_chains}
use Rattle.behaviour.specs.Cycle.{sheet_after_cycle, after_by}
use Rattle.behaviour.specs.Evaluated.{value_at}
use Rattle.behaviour.specs.Midway.{stored_at, fired_at}
use Rattle.behaviour.proofs.Firings.{fired-long}
use Rattle.behaviour.proofs.Evaluated.{root-value, root-stored}
use Rattle.behaviour.proofs.Cycle.{cycle-writable}
use Rattle.behaviour.proofs.Stores.{leaves-in-table, store_length}
use Rattle.behaviour.proofs.DelayRecords.{write-copied-chains}
use Rattle.values.specs.Slots.{entered, frames}
use Rattle.evaluator.specs.Evaluating.{Wanted, EvaluatingIn, Evaluated}
use Rattle.evaluator.proofs.Wanted.{wanted-one, wanted-long}
use Rattle.evaluator.proofs.Frames.{entered-slot, entered-long}
use Rattle.stepper.specs.Cycling.{Copying, Cycling, Looked, Cycled}
use Rattle.stepper.proofs.WidthsAgain.{sized-again, widths-again}

module _ {s : List ℕ} {n : ℕ} {W env held input current out : List ℕ} (g : Cycling s n W env held input current out) where
  abbrev o : Rewritten s current
  o = g.leaves_alone

  first-written : Written s
  first-written = written ((exact s g.type).0 g.accepted).0

  -- the header is no leaf
  header-word : (k : ℕ) → k < 5 → word current 0 k ≡ word s 0 k
  header-word = o.others 0 (λ e. let h = first-written.headed in let z : ◌≡◌ {A = ℕ} 0 1 = cc in omega arith)

  pub current-sized : Sized current n
  current-sized = sized-again o g.sized

  counted-again : n ≡ count current
  counted-again = current-sized.counted

  pub copying : Copying s n current
  copying = record { sized = g.sized; written = first-written; long = o.length }

  input-typed : OfType (type_at current (word_a current 0)) input
  input-typed = rw (header-word 2 (omega arith), same-type o (word_a s 0)) g.typed

  input-few : length input ≤ 64
  input-few =
      let l = value-length (type_at s (word_a s 0)) g.typed in
      let c = few-leaves-of in
      omega arith
    where
      few-leaves-of : leaves (type_at s (word_a s 0)) ≤ 64
      few-leaves-of =
          let u = input-type first-written in few-leaves (types-fit ((exact s g.type).0 g.accepted).0) (word_a s 0) u.there u.sort

  pub input-room : (64 * 0 + length input ≤ length env) × (length env ≤ 4096)
  input-room = let f = input-few in let w = g.wide in (omega arith, omega arith)

  module _ {x : ℕ} (ex : x ≡ word s 0 3) {env₁ : List ℕ} (e : env₁ ≡ entered 0 input env) where
    at-root : x ≡ word_b current 0
    at-root = ex ∙ sym (header-word 3 (omega arith))

    framed : frames current (inputs current) env₁ ≡ input ∷ []
    framed =
        let l = value-length (type_at current (word_a current 0)) input-typed in
        ap (λ v. v ∷ []) (rw (e, ← l) (entered-slot 0 input env (omega arith)))

    table : Widths current W
    table = widths-again o g.accepted g.again g.table

    root-entry : length out ≡ get_or W (word_b current 0) 0
    unfolding circuit
    root-entry =
        let j = accepted-judged g.type ((exact current g.type).0 g.again).0 g.again in
        g.room ∙ sym (table.expressions root ∙ rw (j.1, same-type o g.type) refl)

    pub root-evaluating : EvaluatingIn current (count current) W env₁ 1 x out (inputs current)
    root-evaluating =
        record {
          at_hand = record {
            sized = subst (λ m. Sized current m) counted-again current-sized;
            type = g.type;
            accepted = g.again;
            table = table;
            scope = rw at-root root;
            many = refl;
            wide = rw e (entered-long 0 input env (omega arith) input-room.0 ∙ g.wide);
            room = rw at-root root-entry;
          };
          values = rw framed (more_values input-typed no_values);
        }

    pub look-done : {whole : Bool} {fired env₂ held₁ fired₁ o₁ : List ℕ}
        → Evaluated whole current (count current) W env₁ 1 x held fired out env₂ held₁ fired₁ o₁
        → Looked whole input current held fired env₂ held₁ fired₁ o₁
    look-done {whole} {fired} {held₁ = held₁} {fired₁} {o₁} p =
        let d = p.done (inputs current) root-evaluating in
        let v : o₁ ≡ value_at undecided_rule current (inputs current) (input ∷ []) (word_b current 0) = rw (framed, at-root) at d.value in
        let h : Wanted whole (stored_at undecided_rule current (inputs current) (input ∷ []) (word_b current 0)) held held₁ =
        rw (framed, at-root) at d.stored in
        let f : Wanted whole (fired_at undecided_rule current (inputs current) (input ∷ []) (word_b current 0)) fired fired₁ =
        rw (framed, at-root) at d.noted in
        let next-values = wanted-one h (root-stored current input held) in
        record {
          wide = d.wide;
          long = wanted-long next-values (store_length (next undecided_rule (input ∷ []) (circuit_term current)) held) ∙ g.long;
          value = v ∙ sym (root-value current input);
          stored = next-values;
          noted = f;
          same_size = wanted-long f (fired-long current (inputs current) (input ∷ []) (word_b current 0) fired);
        }

  -- the chains are where they were
  same-leaves : (r : ℕ) (k : Kind) → kind_at s r ≡ k → leaves_by_kind k (chain s (word_b s r)) ≡ leaves_by_kind k (chain current (word_b current r))
  same-leaves r k ek =
      ap (leaves_by_kind k) (sym (same-chain o (word_b s r)) ∙ ap (chain current) (sym (o.leaves r 3 (omega arith) (λ z. omega arith))))

  same-chains : (m : ℕ) → delay_chains s m ≡ delay_chains current m
  same-chains zero = refl
  same-chains (suc r) =
      ap₂ ◌++◌ (same-chains r)
      (same-leaves r (kind_at s r) refl ∙ ap (λ k. leaves_by_kind k (chain current (word_b current r))) (sym (same_kind o r)))

  room : (l : ℕ) → Memᴰ l (delay_leaves (circuit current)) → l < length held
  room l m = let h = leaves-in-table current g.type g.again l m in let w = g.long in omega arith

  written_after : sheet_after_cycle current input
      ≡ copied (store (next undecided_rule (input ∷ []) (circuit_term current)) held) (delay_chains current (count current)) current
  unfolding after_by
  written_after =
      write-copied-chains g.again (next undecided_rule (input ∷ []) (circuit_term current))
      (cycle-writable rule-lawful g.again input-typed) held room

  pub cycle-done : {fired env₂ held₁ fired₁ o₁ : List ℕ} → Looked true input current held fired env₂ held₁ fired₁ o₁
      → {current' : List ℕ} → current' ≡ copied held₁ (delay_chains s n) current → Cycled input current env₂ held₁ current' o₁
  cycle-done l c =
      record {
        wide = l.wide;
        long = l.long;
        value = l.value;
        next = c ∙ rw (l.stored.if_whole refl, same-chains n, counted-again) (sym written_after);
      }
