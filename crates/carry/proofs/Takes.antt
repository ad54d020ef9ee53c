-- What a record of the new sheet takes, as the code finds it: the entry of its label in the table of the old sheet's labels is the
-- delay that bears it, and the rest is by the shapes of the two types. And all records, one after the other.
-- Assumes nothing.
use Prim.Native.Nat.{ℕ, zero, suc, ◌+◌, ◌≤◌, ◌<◌}
use mathlib.Core.Bool.{Bool, true, false}
use mathlib.Core.List.{List}
use mathlib.Core.Option.{none, some}
use mathlib.Core.Path.{◌≡◌, refl, sym, ap, ◌∙◌}
use native.Mathlib.Omega.{arith}
use native.Mathlib.Numerals.{add-one}
use lib.ListN.{length, get_or}
use Rattle.picoella.specs.Language.{leaves}
use Rattle.records.specs.Words.{count, word, word_b}
use Rattle.records.specs.Kinds.{expression, delay}
use Rattle.records.specs.Says.{kind_at}
use Rattle.records.specs.Trees.{type_at, chain}
use Rattle.records.specs.Decoding.{leaf_values}
use Rattle.records.proofs.Types.{leaves-of-bounds}
use Rattle.std.specs.Prelude as Std
use Rattle.answers.specs.Searches.{found}
use Rattle.answers.specs.Answers.{when}
use Rattle.answers.proofs.Lowest.{lowest-some-passes}
use Rattle.behaviour.specs.Entries.{assigned, put_all, put_word}
use Rattle.behaviour.proofs.Entries.{put-append, put-leaves}
use Rattle.behaviour.proofs.Cells.{put-length}
use Rattle.carry.specs.Labels.{label, bears, bearer, delay_type, same_shape}
use Rattle.carry.specs.Bearers.{entry_bearer}
use Rattle.carry.specs.Carried.{giver, taken_from, taken_below}
use Rattle.carry.specs.Carrying.{Comparing, Taking, Carrying}
use Rattle.carry.proofs.Bearing.{bears-label, labelled-delay}
use Rattle.carry.proofs.Shapes.{shape-bounds}
use Rattle.carry.proofs.Delays.{delay-many, delay-in, delay-type, delay-leaves}

-- what bears a label is a delay of the sheet
pub bearer-delay : (s : List ℕ) (l q : ℕ) → bearer s l ≡ some q → (q < count s) × (0 < l) × (label s q ≡ l) × (kind_at s q ≡ expression delay)
unfolding bearer
bearer-delay s l q e =
    let f = lowest-some-passes (bears s l) (count s) q e in
    let b = bears-label s l q f.1 in
    let positive : 0 < label s q = rw b.1 b.0 in
    (f.0, b.0, b.1, labelled-delay s q positive)

-- types of one shape have as many leaves
pub shape-leaves : (old new : List ℕ) (q r : ℕ) → same_shape (delay_type old q) (delay_type new r) ≡ true
    → leaves (delay_type old q) ≡ leaves (delay_type new r)
shape-leaves old new q r e =
    leaves-of-bounds (delay_type old q) ∙ ap length (shape-bounds (delay_type old q) (delay_type new r) e) ∙ sym (leaves-of-bounds (delay_type new r))

module _ {old : List ℕ} {n : ℕ} {new : List ℕ} {m : ℕ} {table next : List ℕ} (g : Carrying old n new m table next)
    {rec : ℕ} (h : rec < m) {l : ℕ} (el : l ≡ label new rec) (small : l < 65536) where
  by-table : entry_bearer (get_or table l 0) ≡ bearer old (label new rec)
  unfolding bearer
  by-table =
      g.labels.entries l small
      ∙ rw (el, g.before.sized.counted) refl

  -- an entry is a record's number
  pub entry-small : get_or table l 0 < 4096
  entry-small = go (get_or table l 0) refl
    where
      go : (x : ℕ) → get_or table l 0 ≡ x → get_or table l 0 < 4096
      go zero e = omega arith
      go (suc x) e =
          let d = bearer-delay old (label new rec) (suc x) (sym by-table ∙ rw e refl) in
          let i = d.0 in
          let c = g.before.sized.counted in
          let f = g.before.sized.few in
          omega arith

  -- no delay of the old sheet bears the label
  pub none-takes : {o : Std.Option ℕ} → found o ≡ entry_bearer (get_or table l 0) → o ≡ Std.None → next ≡ put_all put_word (taken_from old new rec (giver old new rec)) next
  unfolding giver
  none-takes {o} s z = let b : bearer old (label new rec) ≡ none = sym by-table ∙ sym s ∙ ap found z in rw b refl

  module _ {q : ℕ} {o : Std.Option ℕ} (s : found o ≡ entry_bearer (get_or table l 0)) (z : o ≡ Std.Some q) where
    bearer-is : bearer old (label new rec) ≡ some q
    bearer-is = sym by-table ∙ sym s ∙ ap found z

    pub bearer-in : q < n
    bearer-in =
        let d = bearer-delay old (label new rec) q bearer-is in let c = g.before.sized.counted in let i = d.0 in omega arith

    giving-kind : kind_at old q ≡ expression delay
    giving-kind = (bearer-delay old (label new rec) q bearer-is).3

    taking-kind : kind_at new rec ≡ expression delay
    taking-kind = labelled-delay new rec (bearer-delay old (label new rec) q bearer-is).1

    module _ {t u : ℕ} (et : t ≡ word old q 2) (eu : u ≡ word new rec 2) where
      pub comparing : Comparing old n t new m u
      comparing =
          record {
            before = delay-type g.before q bearer-in giving-kind t et;
            after = delay-type g.after rec h taking-kind u eu;
          }

      module _ {x : Bool} (ex : x ≡ same_shape (type_at old t) (type_at new u)) where
        shape_is : same_shape (delay_type old q) (delay_type new rec) ≡ x
        shape_is = sym (ex ∙ rw (et, eu) refl)

        giver-is : giver old new rec ≡ when x q
        unfolding giver
        giver-is = rw (bearer-is, shape_is) refl

        pub other-shape : x ≡ false → next ≡ put_all put_word (taken_from old new rec (giver old new rec)) next
        other-shape z = rw (giver-is, z) refl

        module _ (nz : x ≡ true) {b d : ℕ} (eb : b ≡ word old q 3) (ed : d ≡ word new rec 3) where
          pub taking : Taking old n b new m d next
          taking =
              let many : length (chain old (word_b old q)) ≡ length (chain new (word_b new rec)) =
              delay-many old g.before.accepted q (delay-in g.before q bearer-in giving-kind) giving-kind
              ∙ shape-leaves old new q rec (shape_is ∙ nz)
              ∙ sym (delay-many new g.after.accepted rec (delay-in g.after rec h taking-kind) taking-kind) in
              record {
                before = delay-leaves g.before q bearer-in giving-kind b eb;
                after = delay-leaves g.after rec h taking-kind d ed;
                many = rw (eb, ed) many;
                long = g.long;
              }

          pub takes-from-giver : (next' : List ℕ) → next' ≡ put_all put_word (assigned (chain new d) (leaf_values old (chain old b))) next
              → next' ≡ put_all put_word (taken_from old new rec (giver old new rec)) next
          takes-from-giver next' e = e ∙ rw (giver-is, nz, eb, ed) refl

-- the records below rec have taken what they take
pub record RecordsTaken (old new before : List ℕ) (m rec : ℕ) (now : List ℕ) : Type 0 where
  pub so_far : rec ≤ m
  pub long : length now ≡ length before
  pub taken : now ≡ put_all put_word (taken_below old new rec) before

module _ {old : List ℕ} {n : ℕ} {new : List ℕ} {m : ℕ} {table before : List ℕ} (g : Carrying old n new m table before) where
  pub none-taken : RecordsTaken old new before m 0 before
  unfolding taken_below
  none-taken = record { so_far = omega arith; long = refl; taken = refl }

  pub still-carrying : {rec : ℕ} {now : List ℕ} → RecordsTaken old new before m rec now → Carrying old n new m table now
  still-carrying t = record { before = g.before; after = g.after; labels = g.labels; long = t.long ∙ g.long }

  pub taken_next : {rec : ℕ} {now now' : List ℕ} → RecordsTaken old new before m rec now → rec < m
      → now' ≡ put_all put_word (taken_from old new rec (giver old new rec)) now → RecordsTaken old new before m (rec + 1) now'
  unfolding taken_below
  taken_next {rec} {now} {now'} t h e =
      let es = taken_from old new rec (giver old new rec) in
      record {
        so_far = omega arith;
        long = rw e (put-leaves put_word length es (λ l i v a. put-length l v a) now ∙ t.long);
        taken =
            e
            ∙ ap (put_all put_word es) t.taken
            ∙ sym (put-append put_word (taken_below old new rec) es before)
            ∙ rw (add-one rec) refl;
      }

  pub all-taken : {rec : ℕ} {now : List ℕ} → RecordsTaken old new before m rec now → m ≤ rec → now ≡ put_all put_word (taken_below old new m) before
  all-taken {rec} {now} t f = let s = t.so_far in let e : rec ≡ m = omega arith in rw e at t.taken
