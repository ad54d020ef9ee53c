-- The numbers of a sheet: at an IF what its chain tells on the value of its tested part where the evaluation reaches the IF, 0 at every
-- other record. Each entry is that of an IF that is reached, each IF that is reached has its entry, and a record is reached once, so
-- that entries of one record agree. And the numbers are the first ones of a larger table, in which the same entries are put.
-- Assumes nothing.
use Prim.Native.Nat.{ℕ, zero, suc, ◌≤◌, ◌<◌}
use mathlib.Core.Bool.{true, ◌&&◌}
use mathlib.Core.List.Memᴰ
use mathlib.Core.List.{
  List,
  [],
  ◌∷◌,
  ◌++◌,
  Memᴰ,
}
use mathlib.Core.Path.{◌≡◌, refl, sym, ap, ◌∙◌}
use native.Mathlib.Omega.{arith}
use lib.Dec.{ltb}
use lib.ListN.{length, get_or, take, set, replicate, length-set, length-replicate}
use Rattle.records.specs.Words.{word, count, word_a, word_b, word_c, word_d}
use Rattle.records.specs.Kinds.{
  expression,
  ExpressionKind,
  constant,
  name,
  tuple,
  first,
  second,
  let_in,
  feedback,
  if_matches,
  delay,
  expressions,
  part,
}
use Rattle.records.specs.Says.{kind_at, sort_at}
use Rattle.records.specs.Trees.{alternatives, tree_step, tree_at, circuit, type_record_of}
use Rattle.records.specs.Written.{Written}
use Rattle.records.proofs.Table.{ask_of_kind, kind-of-sort}
use Rattle.records.proofs.Asked.{part-of-kind, root_is}
use Rattle.records.proofs.Trees.{from-above, tree-of}
use Rattle.structure.specs.Rules.{Passes}
use Rattle.verdict.specs.Verdict.{verdict}
use Rattle.verdict.specs.Scopes.{inputs}
use Rattle.answers.specs.Answers.{Accepted}
use Rattle.accepted.proofs.Laws.{written, accepted-by-types}
use Rattle.accepted.proofs.Scopes.{scope-checked}
use Rattle.meaning.specs.Undecided.{undecided_rule}
use Rattle.behaviour.specs.Entries.{Entry, put_all, enter}
use Rattle.behaviour.specs.Evaluated.{value_at}
use Rattle.behaviour.specs.Firing.{first_yes, firings, fired}
use Rattle.behaviour.specs.Midway.{fired_at}
use Rattle.behaviour.specs.Reaching.{
  settled_in,
  Evaluates,
  evaluates_root,
  evaluates_tuple_first,
  evaluates_tuple_second,
  evaluates_first,
  evaluates_second,
  evaluates_let_defining,
  evaluates_let_body,
  evaluates_feedback_defining,
  evaluates_feedback_body,
  evaluates_if_tested,
  evaluates_if_then,
  evaluates_if_else,
  evaluates_delay,
  FiredWords,
}
use Rattle.behaviour.proofs.Members.{either}
use Rattle.behaviour.proofs.Entries.{place-of-member, put-leaves, put-elsewhere}
use Rattle.behaviour.proofs.Cells.{table-cells}
use Rattle.behaviour.proofs.Reaching.{evaluates-scope, one-evaluation}
use Rattle.behaviour.proofs.AgreedEntries.{entry-of-place, read-agreed, zero-everywhere}

-- the entry of an IF that is reached with these names and values
abbrev if_entry : (sheet : List ℕ) → ℕ → List ℕ → List (List ℕ) → Entry
if_entry s r Γ ρ =
    record { place = r; value = first_yes s (alternatives s (word_d s r)) (value_at undecided_rule s Γ ρ (word_a s r)) }

-- an entry is that of an IF that is reached
record FiresAt (s input : List ℕ) (x : Entry) : Type 0 where
  at : ℕ
  names : List ℕ
  values : List (List ℕ)
  reached : Evaluates s input at names values
  is-if : kind_at s at ≡ expression if_matches
  entry-is : x ≡ if_entry s at names values

-- it is an entry of the expression at record r
abbrev EntryIn : (sheet : List ℕ) → Entry → ℕ → List ℕ → List (List ℕ) → Type 0
EntryIn s x r Γ ρ = Memᴰ x (firings undecided_rule s Γ ρ (tree_at s r))

module _ {s input : List ℕ} {x : Entry} where
  -- of a record of this kind, from its parts
  node-fires : (k : ExpressionKind) (r : ℕ) (Γ : List ℕ) (ρ : List (List ℕ)) → kind_at s r ≡ expression k
      → ((j : ℕ) → (ltb 0 j && ltb j 6) ≡ true → ask_of_kind (expression k) j ≡ part expressions
      → (Δ : List ℕ) (π : List (List ℕ)) → Evaluates s input (word s r j) Δ π → EntryIn s x (word s r j) Δ π → FiresAt s input x)
      → Evaluates s input r Γ ρ
      → Memᴰ x
      (firings undecided_rule s Γ ρ (tree_step s (tree_at s) (expression k) r (word_a s r) (word_b s r) (word_c s r) (word_d s r)))
      → FiresAt s input x
  unfolding value_at
  node-fires constant r Γ ρ e at c m = elim m [ ]
  node-fires name r Γ ρ e at c m = elim m [ ]
  node-fires tuple r Γ ρ e at c m =
      either (firings undecided_rule s Γ ρ (tree_at s (word_a s r))) (firings undecided_rule s Γ ρ (tree_at s (word_b s r)))
      (at 2 refl (unfold ask_of_kind in refl) Γ ρ (evaluates_tuple_first e c))
      (at 3 refl (unfold ask_of_kind in refl) Γ ρ (evaluates_tuple_second e c)) m
  node-fires first r Γ ρ e at c m = at 2 refl (unfold ask_of_kind in refl) Γ ρ (evaluates_first e c) m
  node-fires second r Γ ρ e at c m = at 2 refl (unfold ask_of_kind in refl) Γ ρ (evaluates_second e c) m
  node-fires let_in r Γ ρ e at c m =
      let Δ = type_record_of s Γ (tree_at s (word_a s r)) ∷ Γ in
      let π = value_at undecided_rule s Γ ρ (word_a s r) ∷ ρ in
      either (firings undecided_rule s Γ ρ (tree_at s (word_a s r))) (firings undecided_rule s Δ π (tree_at s (word_b s r)))
      (at 2 refl (unfold ask_of_kind in refl) Γ ρ (evaluates_let_defining e c))
      (at 3 refl (unfold ask_of_kind in refl) Δ π (evaluates_let_body e c)) m
  node-fires feedback r Γ ρ e at c m =
      let Δ = word_a s r ∷ Γ in
      let π = settled_in s Γ ρ r ∷ ρ in
      either (firings undecided_rule s Δ π (tree_at s (word_b s r))) (firings undecided_rule s Δ π (tree_at s (word_c s r)))
      (at 3 refl (unfold ask_of_kind in refl) Δ π (evaluates_feedback_defining e c))
      (at 4 refl (unfold ask_of_kind in refl) Δ π (evaluates_feedback_body e c)) m
  node-fires if_matches r Γ ρ e at c m =
      let as-tested = firings undecided_rule s Γ ρ (tree_at s (word_a s r)) in
      let as-then = firings undecided_rule s Γ ρ (tree_at s (word_b s r)) in
      let as-else = firings undecided_rule s Γ ρ (tree_at s (word_c s r)) in
      let own = if_entry s r Γ ρ ∷ [] in
      either as-tested (as-then ++ (as-else ++ own)) (at 2 refl (unfold ask_of_kind in refl) Γ ρ (evaluates_if_tested e c))
      (either as-then (as-else ++ own) (at 3 refl (unfold ask_of_kind in refl) Γ ρ (evaluates_if_then e c))
      (either as-else own (at 4 refl (unfold ask_of_kind in refl) Γ ρ (evaluates_if_else e c)) itself)) m
    where
      itself : Memᴰ x (if_entry s r Γ ρ ∷ []) → FiresAt s input x
      itself (Memᴰ.head p) =
          record { at = r; names = Γ; values = ρ; reached = c; is-if = e; entry-is = p }
      itself (Memᴰ.tail n) = elim n [ ]
  node-fires delay r Γ ρ e at c m = at 4 refl (unfold ask_of_kind in refl) Γ ρ (evaluates_delay e c) m

  tree-fires : Written s → (r : ℕ) → r < count s → sort_at s r ≡ expressions → (Γ : List ℕ) (ρ : List (List ℕ))
      → Evaluates s input r Γ ρ → EntryIn s x r Γ ρ → FiresAt s input x
  tree-fires w =
      from-above (count s)
      (λ r. sort_at s r ≡ expressions → (Γ : List ℕ) (ρ : List (List ℕ)) → Evaluates s input r Γ ρ → EntryIn s x r Γ ρ → FiresAt s input x)
      (λ r h above e Γ ρ c m. let k = kind-of-sort expressions (kind_at s r) e in
      node-fires k.0 r Γ ρ k.1
      (λ j t a Δ π. let f = part-of-kind w r (expression k.0) expressions h k.1 j t a in above (word s r j) f.0 f.1 f.2 Δ π)
      c (rw (tree-of w r h (expression k.0) k.1) at m))

-- the entries of an expression that is reached are among those of the circuit
module _ (s : List ℕ) (t : ℕ) (v : verdict s ≡ Accepted t) (input : List ℕ) where
  passes : Passes s
  passes = ((accepted-by-types s t).0 v).0

  tree-by-kind : {q : ℕ} {Γ : List ℕ} {ρ : List (List ℕ)} → Evaluates s input q Γ ρ → (k : ExpressionKind) → kind_at s q ≡ expression k
      → tree_at s q ≡ tree_step s (tree_at s) (expression k) q (word_a s q) (word_b s q) (word_c s q) (word_d s q)
  tree-by-kind {q} c k e = tree-of (written passes) q (scope-checked t passes v (evaluates-scope c)).there (expression k) e

  -- the entries of record q, reached with these names and values
  abbrev entries_of : List ℕ → List (List ℕ) → ℕ → List Entry
  entries_of Γ ρ q = firings undecided_rule s Γ ρ (tree_at s q)

  evaluates-entries : {q : ℕ} {Γ : List ℕ} {ρ : List (List ℕ)} → Evaluates s input q Γ ρ → (x : Entry) → EntryIn s x q Γ ρ
      → Memᴰ x (firings undecided_rule s (inputs s) (input ∷ []) (circuit s))
  unfolding circuit value_at
  evaluates-entries evaluates_root x m = m
  evaluates-entries (evaluates_tuple_first e c) x m =
      evaluates-entries c x (rw (tree-by-kind c tuple e) (Memᴰ.append_left _ m))
  evaluates-entries (evaluates_tuple_second {q = q} {Γ = Γ} {ρ = ρ} e c) x m =
      evaluates-entries c x (rw (tree-by-kind c tuple e) (Memᴰ.append_right (entries_of Γ ρ (word_a s q)) m))
  evaluates-entries (evaluates_first e c) x m = evaluates-entries c x (rw (tree-by-kind c first e) m)
  evaluates-entries (evaluates_second e c) x m = evaluates-entries c x (rw (tree-by-kind c second e) m)
  evaluates-entries (evaluates_let_defining e c) x m =
      evaluates-entries c x (rw (tree-by-kind c let_in e) (Memᴰ.append_left _ m))
  evaluates-entries (evaluates_let_body {q = q} {Γ = Γ} {ρ = ρ} e c) x m =
      evaluates-entries c x (rw (tree-by-kind c let_in e) (Memᴰ.append_right (entries_of Γ ρ (word_a s q)) m))
  evaluates-entries (evaluates_feedback_defining e c) x m =
      evaluates-entries c x (rw (tree-by-kind c feedback e) (Memᴰ.append_left _ m))
  evaluates-entries (evaluates_feedback_body {q = q} {Γ = Γ} {ρ = ρ} e c) x m =
      evaluates-entries c x
      (rw (tree-by-kind c feedback e) (Memᴰ.append_right (entries_of (word_a s q ∷ Γ) (settled_in s Γ ρ q ∷ ρ) (word_b s q)) m))
  evaluates-entries (evaluates_if_tested e c) x m =
      evaluates-entries c x (rw (tree-by-kind c if_matches e) (Memᴰ.append_left _ m))
  evaluates-entries (evaluates_if_then {q = q} {Γ = Γ} {ρ = ρ} e c) x m =
      evaluates-entries c x
      (rw (tree-by-kind c if_matches e) (Memᴰ.append_right (entries_of Γ ρ (word_a s q)) (Memᴰ.append_left _ m)))
  evaluates-entries (evaluates_if_else {q = q} {Γ = Γ} {ρ = ρ} e c) x m =
      evaluates-entries c x
      (rw (tree-by-kind c if_matches e)
      (Memᴰ.append_right (entries_of Γ ρ (word_a s q)) (Memᴰ.append_right (entries_of Γ ρ (word_b s q)) (Memᴰ.append_left _ m))))
  evaluates-entries (evaluates_delay e c) x m = evaluates-entries c x (rw (tree-by-kind c delay e) m)

  -- an IF that is reached has its own
  own-entry : {q : ℕ} {Γ : List ℕ} {ρ : List (List ℕ)} → Evaluates s input q Γ ρ → kind_at s q ≡ expression if_matches
      → Memᴰ (if_entry s q Γ ρ) (firings undecided_rule s (inputs s) (input ∷ []) (circuit s))
  unfolding value_at
  own-entry {q} {Γ} {ρ} c e =
      evaluates-entries c (if_entry s q Γ ρ)
      (rw (tree-by-kind c if_matches e)
      (Memᴰ.append_right (entries_of Γ ρ (word_a s q))
      (Memᴰ.append_right (entries_of Γ ρ (word_b s q))
      (Memᴰ.append_right (entries_of Γ ρ (word_c s q)) (Memᴰ.head refl)))))

  -- each entry of the circuit is that of an IF that is reached
  circuit-fires : (x : Entry) → Memᴰ x (firings undecided_rule s (inputs s) (input ∷ []) (circuit s)) → FiresAt s input x
  unfolding circuit
  circuit-fires x m =
      let f = root_is (written passes) in
      tree-fires (written passes) (word_b s 0) f.1 f.2 (inputs s) (input ∷ []) evaluates_root m

pub fired-words : (s : List ℕ) (t : ℕ) → verdict s ≡ Accepted t → (input : List ℕ) → FiredWords s input
unfolding fired
fired-words s t v input = record { one_a_record = as_many; at_if = at_if; elsewhere = elsewhere }
  where
    es : List Entry
    es = firings undecided_rule s (inputs s) (input ∷ []) (circuit s)

    as_many : length (fired s input) ≡ count s
    as_many =
        put-leaves enter length es (λ l m u h. length-set h l u) (replicate (count s) 0) ∙ length-replicate {A = ℕ} (count s) 0

    at_if : (r : ℕ) (Γ : List ℕ) (ρ : List (List ℕ)) → Evaluates s input r Γ ρ → kind_at s r ≡ expression if_matches
        → get_or (fired s input) r 0 ≡ first_yes s (alternatives s (word_d s r)) (value_at undecided_rule s Γ ρ (word_a s r))
    at_if r Γ ρ c e =
        let own = own-entry s t v input c e in
        let there = (scope-checked t (passes s t v input) v (evaluates-scope c)).there in
        read-agreed es (replicate (count s) 0) r (if_entry s r Γ ρ).value (rw (length-replicate {A = ℕ} (count s) 0) there)
        (place-of-member (if_entry s r Γ ρ) es own)
        (λ x m p. let f = circuit-fires s t v input x m in agree x f p)
      where
        agree : (x : Entry) (f : FiresAt s input x) → x.place ≡ r → x.value ≡ (if_entry s r Γ ρ).value
        agree x f p =
            let at : f.at ≡ r = ap (λ (y : Entry). y.place) (sym f.entry-is) ∙ p in
            let same = one-evaluation (passes s t v input) r f.names Γ f.values ρ (rw at at f.reached) c in
            let names : f.names ≡ Γ = same.0 in
            let values : f.values ≡ ρ = same.1 in
            let entry = f.entry-is in
            cc

    elsewhere : (r : ℕ) → (kind_at s r ≡ expression if_matches → ⊥) → get_or (fired s input) r 0 ≡ 0
    elsewhere r f =
        put-elsewhere table-cells es r (replicate (count s) 0)
        (λ m. let x = entry-of-place es r m in
        let o = circuit-fires s t v input x.0 x.1 in
        let at : o.at ≡ r = ap (λ (y : Entry). y.place) (sym o.entry-is) ∙ x.2 in
        f (rw at at o.is-if))
        ∙ zero-everywhere (count s) r

-- the first entries of a table, after entries are put
take-set : (n : ℕ) (h : List ℕ) (l v : ℕ) → take n (set h l v) ≡ set (take n h) l v
take-set zero h l v = refl
take-set (suc n) [] l v = refl
take-set (suc n) (x ∷ h) zero v = refl
take-set (suc n) (x ∷ h) (suc l) v = ap (◌∷◌ x) (take-set n h l v)

take_put : (n : ℕ) (es : List Entry) (h : List ℕ) → take n (put_all enter es h) ≡ put_all enter es (take n h)
take_put n [] h = refl
take_put n (x ∷ es) h =
    take_put n es (set h x.place x.value) ∙ ap (put_all enter es) (take-set n h x.place x.value)

take-zeros : (n m : ℕ) → n ≤ m → take {A = ℕ} n (replicate m 0) ≡ replicate n 0
take-zeros zero m h = refl
take-zeros (suc n) zero h = absurd (omega arith)
take-zeros (suc n) (suc m) h = ap (λ (h : List ℕ). 0 ∷ h) (take-zeros n m (omega arith))

-- the numbers are the first ones of a table of at least as many
pub fired-first : (s input : List ℕ) (m : ℕ) → count s ≤ m
    → take (count s) (fired_at undecided_rule s (inputs s) (input ∷ []) (word_b s 0) (replicate m 0)) ≡ fired s input
unfolding fired fired_at circuit
fired-first s input m h =
    take_put (count s) (firings undecided_rule s (inputs s) (input ∷ []) (circuit s)) (replicate m 0)
    ∙ ap (put_all enter (firings undecided_rule s (inputs s) (input ∷ []) (circuit s))) (take-zeros (count s) m h)
