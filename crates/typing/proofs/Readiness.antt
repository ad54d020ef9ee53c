-- An expression that is ready to be judged has parts that are: they are higher expressions, one deeper, so that there is room for
-- one name more; and what an expression was judged to have is a type record. Assumes nothing.
use mathlib.Core.Path.{◌≡◌, refl}
use mathlib.Core.Bool.{true, ◌&&◌}
use mathlib.Core.List.{List, ◌∷◌}
use Prim.Native.Nat.{ℕ, suc, ◌<◌}
use native.Mathlib.Omega.{arith}
use lib.Dec.{ltb}
use lib.ListN.{length}
use Rattle.records.specs.Words.{count, word}
use Rattle.records.specs.Kinds.{Kind, expressions, patterns, leafs, part, lower_type, expression, first, second}
use Rattle.records.specs.Says.{kind_at, sort_at}
use Rattle.records.specs.Trees.{TypeRecord, tree_at}
use Rattle.records.specs.Written.{Written}
use Rattle.records.proofs.Table.{ask_of_kind}
use Rattle.records.proofs.Asked.{part-of-kind, past-header}
use Rattle.records.proofs.Grown.{grown-tree}
use Rattle.records.proofs.TypeRecords.{type-word}
use Rattle.structure.specs.Rules.{depth}
use Rattle.structure.proofs.Passes.{written, well-named, not-deep}
use Rattle.structure.proofs.Depths.{depth-of-part}
use Rattle.typing.specs.Judging.{Ground, TypesCounted, Judging, Closing, Fitting, PartAt, at_first, at_second}
use Rattle.typing.proofs.Judged.{passed-judged}
use Rattle.typing.proofs.TypeRecordsOf.{type-of-record}
use Rattle.typing.proofs.Outcomes.{Passed}

module _ {s : List ℕ} {n : ℕ} {Γ : List ℕ} {rec : ℕ} {widths : List ℕ} (r : Judging s n Γ rec widths) where
  pub judging-written : Written s
  judging-written = written r.ground.passes

  pub judging-there : rec < count s
  judging-there = let c = r.ground.sized.counted in let h = r.there in omega arith

  pub judging-counted : TypesCounted s widths
  judging-counted = record { long = r.long; leaves = r.ground.leaves }

  -- what was noted since then leaves the types
  ground-after : (after : List ℕ) → TypesCounted s after → Ground s n after
  ground-after after l = record { sized = r.ground.sized; passes = r.ground.passes; leaves = l.leaves }

  pub ready-closing : (after : List ℕ) → TypesCounted s after → Closing s n rec after
  ready-closing after l = record { ground = ground-after after l; there = r.there; sort = r.sort; long = l.long }

  past : 0 < rec
  past = past-header judging-written rec (rw r.sort)

  -- what is known of word j that asks for an expression
  module _ (k : Kind) (e : kind_at s rec ≡ k) (j : ℕ) (t : (ltb 0 j && ltb j 6) ≡ true) (a : ask_of_kind k j ≡ part expressions) (x : ℕ)
      (ex : x ≡ word s rec j) where
    deeper : depth s x ≡ suc (depth s rec)
    deeper = rw ex (depth-of-part judging-written (well-named r.ground.passes) rec k expressions past judging-there e j t a refl)

    part-there : (rec < x) × (x < count s) × (sort_at s x ≡ expressions)
    part-there = rw ex (part-of-kind judging-written rec k expressions judging-there e j t a)

    pub room-for-name : length Γ < 64
    room-for-name =
        let p = part-there in
        let d = not-deep r.ground.passes x p.1 p.2 in
        let m = deeper in
        let l = r.deep in
        omega (arith, d.0)

    pub part-ready : (after : List ℕ) → TypesCounted s after → (rec < x) × Judging s n Γ x after
    part-ready after l =
        let p = part-there in
        let c = r.ground.sized.counted in
        let m = deeper in
        let d = r.deep in (
          p.0,
          record {
            ground = ground-after after l;
            long = l.long;
            there = omega (arith, p.1);
            sort = p.2;
            deep = omega arith;
            context = r.context;
          },
        )

    pub body-ready : (u : ℕ) (after : List ℕ) → TypeRecord s u → TypesCounted s after → (rec < x) × Judging s n (u ∷ Γ) x after
    body-ready u after typed l =
        let p = part-there in
        let c = r.ground.sized.counted in
        let m = deeper in
        let d = r.deep in (
          p.0,
          record {
            ground = ground-after after l;
            long = l.long;
            there = omega (arith, p.1);
            sort = p.2;
            deep = omega arith;
            context = (typed, r.context);
          },
        )

  pub pattern-ready : (x u : ℕ) (k : Kind) → kind_at s rec ≡ k → (j : ℕ) → (ltb 0 j && ltb j 6) ≡ true → ask_of_kind k j ≡ part patterns
      → x ≡ word s rec j → TypeRecord s u → Fitting s n x u
  pattern-ready x u k e j t a ex typed =
      let p = part-of-kind judging-written rec k patterns judging-there e j t a in
      let c = r.ground.sized.counted in
      record {
        sized = r.ground.sized;
        passes = r.ground.passes;
        there = omega (arith, p.1, ex);
        sort = rw ex p.2;
        typed = typed;
      }

  -- what was judged is a type record
  pub typed-record : (t : ℕ) (before after : List ℕ) → Passed s Γ (tree_at s rec) t before after → TypeRecord s t
  typed-record t before after p =
      rw p.typed at
      (type-of-record judging-written Γ (tree_at s rec)
      (grown-tree judging-written rec judging-there r.sort) r.context
      (passed-judged s Γ (tree_at s rec) p.none-fails))

-- a chain of leaves in a word of a record
pub leaves-there : {s : List ℕ} {n : ℕ} {rec : ℕ} {w : List ℕ} → Closing s n rec w → (k : Kind) → kind_at s rec ≡ k
    → (j : ℕ) → (ltb 0 j && ltb j 6) ≡ true → ask_of_kind k j ≡ part leafs → (x : ℕ) → x ≡ word s rec j → (x < n) × (sort_at s x ≡ leafs)
leaves-there {rec = rec} c k e j t a x ex =
    let counted = c.ground.sized.counted in
    let h = c.there in
    let p = part-of-kind (written c.ground.passes) rec k leafs (omega arith) e j t a in
    (omega (arith, p.1, ex), rw ex p.2)

pub typed-word : {s : List ℕ} {n : ℕ} {rec : ℕ} {w : List ℕ} → Closing s n rec w → (k : Kind) → kind_at s rec ≡ k
    → (j : ℕ) → (ltb 0 j && ltb j 6) ≡ true → ask_of_kind k j ≡ lower_type → (x : ℕ) → x ≡ word s rec j → TypeRecord s x
typed-word {rec = rec} c k e j t a x ex =
    let counted = c.ground.sized.counted in
    let h = c.there in
    rw ex (type-word (written c.ground.passes) rec k (omega arith) e j t a)

module _ {s : List ℕ} {n : ℕ} {Γ : List ℕ} {rec : ℕ} {widths : List ℕ} (r : Judging s n Γ rec widths) where
  pub small-record : (t : ℕ) → TypeRecord s t → t < 65536
  small-record t u =
      let c = r.ground.sized.counted in
      let f = r.ground.sized.few in
      let h = u.there in
      omega arith

  -- the whole of which a first or second part is taken
  pub part-of-pair : (k : ℕ) → PartAt s rec k → (x : ℕ) → x ≡ word s rec 2 → (after : List ℕ) → TypesCounted s after
      → (rec < x) × Judging s n Γ x after
  part-of-pair k (at_first e) x ex after l =
      part-ready r (expression first) e 2 refl (unfold ask_of_kind in refl) x ex after l
  part-of-pair k (at_second e) x ex after l =
      part-ready r (expression second) e 2 refl (unfold ask_of_kind in refl) x ex after l

-- the word of a pair's record that holds the part's type
pub part-word : {s : List ℕ} {rec k : ℕ} → PartAt s rec k → (1 < k) × (k < 4)
part-word (at_first e) = (omega arith, omega arith)
part-word (at_second e) = (omega arith, omega arith)
