-- Each delay takes what its partner holds, and a delay without one keeps what it held. And a running sheet carried into the sheet that
-- it began as: each delay's partner is the delay itself, so every byte is the running sheet's: those of delay leaves are taken, and
-- all others are the same in both.
-- Assumes nothing.
use Prim.Native.Nat.{ℕ, ◌/◌, ◌≤◌, ◌<◌}
use mathlib.Core.Bool.{Bool, true, false}
use mathlib.Core.List.{List, [], ◌∷◌, map, Memᴰ}
use mathlib.Core.Option.{Option, none, some}
use mathlib.Core.Path.{◌≡◌, refl, sym, ap, ap₂, fun_ext, ◌∙◌}
use mathlib.Core.Logic.{◌⊎◌, inl, inr}
use native.Mathlib.Omega.{arith}
use native.Mathlib.Decide.{ℕ_discrete}
use lib.ListN.{length, get_or}
use lib.Seq.{ext_get_or}
use Rattle.records.specs.Words.{count, word_a, word_b, low_byte, high_byte}
use Rattle.records.specs.Kinds.{expression, delay, leafs}
use Rattle.records.specs.Says.{kind_at}
use Rattle.records.specs.Trees.{type_at, chain, circuit, delay_leaves}
use Rattle.records.specs.Decoding.{leaf_values}
use Rattle.records.specs.Rewritten.{Rewritten}
use Rattle.records.proofs.Table.{kind-of-sort}
use Rattle.records.proofs.Rewritten.{same_count, same_kind, same-type, same-chain}
use Rattle.records.proofs.Leaves.{circuit-leaves}
use Rattle.answers.specs.Answers.{lowest, is_some}
use Rattle.answers.proofs.Lowest.{lowest-is, lowest-none-fails}
use Rattle.verdict.specs.Verdict.{verdict}
use Rattle.answers.specs.Answers.{Accepted}
use Rattle.behaviour.specs.Afterwards.{OnlyDelays}
use Rattle.behaviour.proofs.Cells.{word-a}
use Rattle.behaviour.proofs.Members.{member-or-not}
use Rattle.behaviour.proofs.Sheets.{same_word, only-leaves, leaf-small, accepted-written}
use Rattle.behaviour.proofs.OnlyDelays.{only-delays-circuit}
use Rattle.behaviour.proofs.DelayRecords.{circuit-delay-leaf}
use Rattle.carry.specs.Labels.{label, bears, bearer, label_twice, delay_type}
use Rattle.carry.specs.Carried.{leaves_at, giver, carried}
use Rattle.carry.specs.Promises.{Partners, CarryFormed, CarriesOver, AllLabels}
use Rattle.carry.proofs.Bearing.{own-label}
use Rattle.carry.proofs.Shapes.{shape_same}
use Rattle.carry.proofs.Takes.{bearer-delay}
use Rattle.carry.proofs.Entered.{
  giver-some,
  delay-chain,
  carried-only-delays,
  leaves-same,
  holds_same,
  holds-taken,
}
use Rattle.carry.proofs.CarriedAgain.{carried-again}

-- where no label stands twice, the delay that bears one is the one
some_is : (o : Option ℕ) (r : ℕ) → o ≡ some r → is_some o ≡ true
some_is o r e = rw e refl

pub only-bearer : (s : List ℕ) → lowest (label_twice s) (count s) ≡ none → (q : ℕ) → q < count s → 0 < label s q → bearer s (label s q) ≡ some q
unfolding bearer label_twice
only-bearer s once q h positive =
    lowest-is (bears s (label s q)) (count s) q h (own-label s (label s q) q positive refl) lower
  where
    none_lower : (o : Option ℕ) → lowest (bears s (label s q)) q ≡ o → is_some o ≡ false → lowest (bears s (label s q)) q ≡ none
    none_lower none e f = e
    none_lower (some r) e f = let z : ◌≡◌ {A = ℕ} 0 1 = cc in absurd (omega arith)

    lower : (r : ℕ) → r < q → bears s (label s q) r ≡ false
    lower =
        lowest-none-fails (bears s (label s q)) q
        (none_lower (lowest (bears s (label s q)) q) refl (lowest-none-fails (label_twice s) (count s) once q h))

module _ {old new next : List ℕ} (f : CarryFormed old new next) where
  -- a partner gives
  partner-gives : (q r : ℕ) → Partners old new q r → giver old new r ≡ some q
  unfolding giver
  partner-gives q r p =
      let positive : 0 < label old q = rw p.same_label p.labelled in
      let b : bearer old (label new r) ≡ some q = rw (← p.same_label) (only-bearer old f.old_once q p.old_there positive) in
      rw (b, p.same-shape) refl

  -- and what gives is a partner
  giver-partner : (r : ℕ) → r < count new → ((q : ℕ) → Partners old new q r → ⊥) → giver old new r ≡ none
  giver-partner r h none-there = go (giver old new r) refl
    where
      go : (o : Option ℕ) → giver old new r ≡ o → o ≡ none
      go none e = refl
      go (some q) e =
          let g = giver-some old new q r e in
          let d = bearer-delay old (label new r) q g.bears in
          absurd
          (none-there q
          (record {
            old_there = d.0;
            old_delay = d.3;
            new_there = h;
            new_delay = g.taking;
            labelled = d.1;
            same_label = d.2;
            same-shape = g.shape;
          }))

  pub carries_over : CarriesOver old new
  carries_over =
      record {
        only_delays = carried-only-delays old new f.new_accepted;
        again = carried-again old new f.old_accepted f.new_accepted;
        taken = λ q r p.
            ap (leaf_values (carried old new)) (leaves-same old new f.new_accepted r)
            ∙ holds-taken old new f.new_accepted f.old_type f.old_accepted q r p.new_there (partner-gives q r p);
        kept = λ r h e n.
            ap (leaf_values (carried old new)) (leaves-same old new f.new_accepted r)
            ∙ holds_same old new f.new_accepted r h (expression delay) e delay-chain (giver-partner r h n);
      }

-- two lists of values that are the same are the same leaf by leaf
each-value : (f g : ℕ → ℕ) (ls : List ℕ) → map f ls ≡ map g ls → (l : ℕ) → Memᴰ l ls → f l ≡ g l
each-value f g [] e l m = elim m [ ]
each-value f g (x ∷ ls) e l (Memᴰ.head p) = rw p (ap (λ xs. get_or xs 0 0) e)
each-value f g (x ∷ ls) e l (Memᴰ.tail m) = each-value f g ls (ap rest e) l m
  where
    rest : List ℕ → List ℕ
    rest [] = []
    rest (x ∷ xs) = xs

module _ {s running : List ℕ} {t t' : ℕ} (v : verdict s ≡ Accepted t) (v' : verdict running ≡ Accepted t') (o : OnlyDelays s running) where
  only : Rewritten s running
  only = only-leaves (accepted-written s v) o

  -- labels are the same
  pub running-label : (r : ℕ) → label running r ≡ label s r
  running-label r = rw (same_kind only r, same_word o r 5 (omega arith) (λ l m e z. omega arith)) refl

  twice_same : (r : ℕ) → label_twice running r ≡ label_twice s r
  unfolding label_twice
  twice_same r =
      rw (running-label r) (ap (λ (p : ℕ → Bool). is_some (lowest p r)) (fun_ext (λ q. rw (running-label q) refl)))

  pub running-once : lowest (label_twice s) (count s) ≡ none → lowest (label_twice running) (count running) ≡ none
  running-once e = ap₂ lowest (fun_ext twice_same) (same_count only) ∙ e

  running-type : (r : ℕ) → r < count s → kind_at s r ≡ expression delay → delay_type running r ≡ delay_type s r
  running-type r h e =
      ap (type_at running) (only.others r (λ f. let z : ◌≡◌ {A = ℕ} 0 1 = cc in omega arith) 2 (omega arith)) ∙ same-type only (word_a s r)

  module _ (a : AllLabels s) where
    formed : (next : List ℕ) → length next ≡ length s → CarryFormed running s next
    formed next l =
        record {
          old_type = t';
          new_type = t;
          old_accepted = v';
          new_accepted = v;
          old_once = running-once a.once;
          new_once = a.once;
          long = l;
        }

    -- each delay is its own partner
    own-partner : (r : ℕ) → r < count s → kind_at s r ≡ expression delay → Partners running s r r
    own-partner r h e =
        record {
          old_there = rw (same_count only) h;
          old_delay = same_kind only r ∙ e;
          new_there = h;
          new_delay = e;
          labelled = a.each r h e;
          same_label = running-label r;
          same-shape = rw (running-type r h e) (shape_same (delay_type s r));
        }

    -- so each delay leaf is the running sheet's
    leaf-taken : (l : ℕ) → Memᴰ l (delay_leaves (circuit s)) → word_a (carried running s) l ≡ word_a running l
    leaf-taken l m =
        let d = circuit-delay-leaf (accepted-written s v) l m in
        let g : giver running s d.of ≡ some d.of =
        partner-gives (formed s refl) d.of d.of (own-partner d.of d.there d.kind) in
        let same-leaves : leaves_at running d.of ≡ leaves_at s d.of =
        ap (chain running) (only.leaves d.of 3 (omega arith) (λ e. omega arith)) ∙ same-chain only (word_b s d.of) in
        each-value (word_a (carried running s)) (word_a running) (leaves_at s d.of)
        (holds-taken running s v t' v' d.of d.of d.there g ∙ ap (leaf_values running) same-leaves) l d.leaf

    -- a word below 256 is its low byte
    bytes_of : (x y : List ℕ) (l : ℕ) → word_a x l ≡ word_a y l → word_a y l ≤ 255
        → (get_or x (low_byte l) 0 ≡ get_or y (low_byte l) 0) × (get_or x (high_byte l) 0 ≡ get_or y (high_byte l) 0)
    bytes_of x y l e h = let p = word-a x l in let q = word-a y l in (omega arith, omega arith)

    pub carried-returns : carried running s ≡ running
    carried-returns =
        ext_get_or 0 (carried running s) running
        ((carried-only-delays running s v).length ∙ sym o.length) (λ i h. at i (member-or-not (i / 12) (delay_leaves (circuit s))))
      where
        small : (l : ℕ) → Memᴰ l (delay_leaves (circuit s)) → word_a running l ≤ 255
        small l m =
            let w = accepted-written running v' in
            let r = circuit-leaves w false true l (rw (only-delays-circuit v o) m) in
            leaf-small w l r.there (kind-of-sort leafs (kind_at running l) r.sort)

        elsewhere : (i : ℕ) → ((l : ℕ) → Memᴰ l (delay_leaves (circuit s)) → (i ≡ low_byte l → ⊥) × (i ≡ high_byte l → ⊥))
            → get_or (carried running s) i 0 ≡ get_or running i 0
        elsewhere i f = (carried-only-delays running s v).bytes i f ∙ sym (o.bytes i f)

        in_leaf : (i l : ℕ) → Memᴰ l (delay_leaves (circuit s)) → l ≡ i / 12 → Dec (i ≡ low_byte l) → Dec (i ≡ high_byte l)
            → get_or (carried running s) i 0 ≡ get_or running i 0
        in_leaf i l m e (yes p) q = rw p (bytes_of (carried running s) running l (leaf-taken l m) (small l m)).0
        in_leaf i l m e (no p) (yes q) = rw q (bytes_of (carried running s) running l (leaf-taken l m) (small l m)).1
        in_leaf i l m e (no p) (no q) =
            elsewhere i (λ k n. (λ z. p (let y : l ≡ k = omega arith in omega arith), λ z. q (let y : l ≡ k = omega arith in omega arith)))

        at : (i : ℕ) → Memᴰ (i / 12) (delay_leaves (circuit s)) ⊎ (Memᴰ (i / 12) (delay_leaves (circuit s)) → ⊥)
            → get_or (carried running s) i 0 ≡ get_or running i 0
        at i (inl m) = in_leaf i (i / 12) m refl (ℕ_discrete i (low_byte (i / 12))) (ℕ_discrete i (high_byte (i / 12)))
        at i (inr f) =
            elsewhere i (λ l m. (
              λ z. f (let y : i / 12 ≡ l = omega arith in rw y m),
              λ z. f (let y : i / 12 ≡ l = omega arith in rw y m),
            ))

    pub carried-formed : (next : List ℕ) → length next ≡ length s → CarryFormed running s next
    carried-formed = formed
