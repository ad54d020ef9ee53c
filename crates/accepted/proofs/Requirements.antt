-- What the functions of the check ask of their callers can be had: on every sheet that passes codes 1 to 6 there are tables, scopes and
-- places with each of the records that a `requires` names. `Witness` has such a sheet. Assumes nothing.
use mathlib.Core.Path.{◌≡◌, refl, sym, ◌∙◌, ap, subst}
use mathlib.Core.Bool.{cond}
use mathlib.Core.List.{List, [], ◌∷◌, ◌++◌}
use Prim.Native.Nat.{ℕ, zero, suc, min, ◌+◌, ◌*◌, ◌-◌, ◌≤◌, ◌<◌}
use native.Mathlib.Omega.{arith}
use native.Mathlib.Decide.{ℕ_discrete}
use borrow.Author.Tests.{lt-ltb, le-ltb}
use lib.Dec.{ltb}
use lib.ListN.{length, get_or, replicate, length-append, length-replicate, get_or-replicate, get_or-append}
use lib.Seq.{get_or_at}
use Rattle.records.specs.Words.{count, word_b}
use Rattle.records.specs.Kinds.{Sort, sort_number}
use Rattle.records.specs.Kinds as Kinds
use Rattle.records.specs.Says.{sort_at, namings}
use Rattle.records.specs.Sized.{Sized}
use Rattle.structure.specs.Rules.{Passes, depth, nesting}
use Rattle.structure.specs.NamerTable.{summary, NamingsHeld}
use Rattle.structure.specs.LeafTable.{type_leaves, LeavesCounted}
use Rattle.structure.specs.DepthTable.{Capped, Placed, Placing}
use Rattle.structure.proofs.Passes.{written, well-named, length-fits}
use Rattle.typing.specs.Judging.{Ground, Judging, Closing}
use Rattle.typing.proofs.Bounds.{counts-leaves}
use Rattle.verdict.specs.Scopes.{inputs}
use Rattle.verdict.specs.Stages.{CheckingDepths}
use Rattle.verdict.specs.Widths.{pattern_entry, Widths}
use Rattle.verdict.specs.CheckedTable.{PatternsFrom}
use Rattle.verdict.proofs.Stages.{root-ready}
use Rattle.verdict.proofs.Widths.{judged-widths, entry-stored, unpatterned, whole-table}

-- a table of n entries with any entries
tabulated : (f : ℕ → ℕ) (n : ℕ) → (t : List ℕ) × (length t ≡ n) × ((r : ℕ) → r < n → get_or t r 0 ≡ f r)
tabulated f zero = ([], refl, λ r h. absurd (omega arith))
tabulated f (suc n) = go (tabulated f n)
  where
    go : (t : List ℕ) × (length t ≡ n) × ((r : ℕ) → r < n → get_or t r 0 ≡ f r)
        → (t : List ℕ) × (length t ≡ suc n) × ((r : ℕ) → r < suc n → get_or t r 0 ≡ f r)
    go t = (t.0 ++ (f n ∷ []), rw (length-append t.0 (f n ∷ [])) (omega (arith, t.1)), λ r h. at r h (ℕ_discrete r n))
      where
        at : (r : ℕ) → r < suc n → Dec (r ≡ n) → get_or (t.0 ++ (f n ∷ [])) r 0 ≡ f r
        at r h (yes e) = rw e (get_or_at t.0 (f n) [] 0 n t.1)
        at r h (no d) = get_or-append t.0 (f n ∷ []) 0 r (omega (arith, t.1)) ∙ t.2 r (omega arith)

-- a table of no namings
pub none-held : NamingsHeld (λ _. []) (replicate 4096 0)
none-held = record { long = length-replicate {A = ℕ} 4096 0; entries = λ r h. get_or-replicate {A = ℕ} 4096 r 0 0 h }

module _ {s : List ℕ} (p : Passes s) (whole : length s ≡ 12 * count s) where
  few : count s ≤ 4096
  few = (length-fits s p.length).1

  pub sized : Sized s (count s)
  sized = record { counted = refl; whole = whole; some = (length-fits s p.length).0; few = few }

  pub fitted : CheckingDepths s (count s)
  fitted = record {
    named = record {
      recorded = record {
        measured = record { sized = sized; length = p.length };
        header = p.header;
        records = p.records;
      };
      namings = p.namings;
    };
    types = p.types;
  }

  pub counts-below : (m : ℕ) → m ≤ 4096 → (table : List ℕ) × LeavesCounted s m table
  counts-below m l =
      let t = tabulated (λ r. cond (ltb r m) (type_leaves s r) 0) 4096 in (
        t.0,
        record {
          long = t.1;
          below = λ r h. t.2 r (omega arith) ∙ rw (lt-ltb r m h);
          rest = λ r h k. t.2 r k ∙ rw (le-ltb r m h);
        },
      )

  pub counts : (table : List ℕ) × LeavesCounted s (count s) table
  counts = counts-below (count s) few

  pub namers-held : (namers : List ℕ) × NamingsHeld (namings s) namers
  namers-held = let t = tabulated (λ r. summary (namings s r)) 4096 in (t.0, record { long = t.1; entries = t.2 })

  capped : (cap : ℕ) (f : ℕ → ℕ) (m : ℕ) → m ≤ 4096 → (table : List ℕ) × Capped cap f m table
  capped cap f m h =
      let t = tabulated (λ r. min cap (f r)) 4096 in
      (t.0, record { long = t.1; below = λ r l. t.2 r (omega arith) })

  placed_at : (m : ℕ) → m ≤ 4096 → (depths : List ℕ) × (nestings : List ℕ) × Placed s m depths nestings
  placed_at m h =
      let d = capped 65 (depth s) m h in
      let n = capped 4 (nesting s) m h in
      (d.0, n.0, record { deep = d.1; nested = n.1 })

  pub depths-placed : (depths : List ℕ) × (nestings : List ℕ) × Placed s (count s) depths nestings
  depths-placed = placed_at (count s) few

  pub placing-at : (m : ℕ) → 0 < m → m ≤ 4096
      → (namers : List ℕ) × (depths : List ℕ) × (nestings : List ℕ) × Placing s (count s) m namers depths nestings
  placing-at m some h =
      let n = namers-held in
      let d = placed_at m h in (
        n.0,
        d.0,
        d.1,
        record {
          sized = sized;
          written = written p;
          well = well-named p;
          named = n.1;
          some = some;
          placed = d.2;
        },
      )

  pub placing-begun : (namers : List ℕ) × (depths : List ℕ) × (nestings : List ℕ) × Placing s (count s) 1 namers depths nestings
  placing-begun = placing-at 1 (omega arith) (omega arith)

  pub ground : (table : List ℕ) × Ground s (count s) table × (length table ≡ 4096)
  ground =
      let c = counts in
      (c.0, record { sized = sized; passes = p; leaves = counts-leaves s (count s) c.0 refl p c.1 }, c.1.long)

  pub ready : (widths : List ℕ) × Judging s (count s) (inputs s) (word_b s 0) widths
  ready = let g = ground in (g.0, root-ready g.1 (inputs s) refl refl refl g.2)

  pub closing : (widths : List ℕ) × Closing s (count s) (word_b s 0) widths
  closing =
      let r = ready in (
        r.0,
        record { ground = r.1.ground; there = r.1.there; sort = r.1.sort; long = r.1.long },
      )

  pub patterns-judged : (table : List ℕ) × PatternsFrom s (count s) table
  patterns-judged = let c = counts in (_, judged-widths p refl c.1)

  -- the patterns' entries added one by one, the last record first
  one_lower : (m : ℕ) → m < count s → (table : List ℕ) → PatternsFrom s (m + 1) table → (lower : List ℕ) × PatternsFrom s m lower
  one_lower m h table o = go (sort_at s m) refl
    where
      other : (σ : Sort) → sort_at s m ≡ σ → (σ ≡ Kinds.patterns → ⊥) → (lower : List ℕ) × PatternsFrom s m lower
      other σ e f = (table, unpatterned (count s) m p refl h o (λ z. f (sym e ∙ z)))

      go : (σ : Sort) → sort_at s m ≡ σ → (lower : List ℕ) × PatternsFrom s m lower
      go Kinds.patterns e = (_, entry-stored (count s) m p refl h o (pattern_entry s m) e refl)
      go Kinds.headers e = other Kinds.headers e (λ z. let y = ap sort_number z in omega arith)
      go Kinds.types e = other Kinds.types e (λ z. let y = ap sort_number z in omega arith)
      go Kinds.expressions e = other Kinds.expressions e (λ z. let y = ap sort_number z in omega arith)
      go Kinds.leafs e = other Kinds.leafs e (λ z. let y = ap sort_number z in omega arith)
      go Kinds.no_sort e = other Kinds.no_sort e (λ z. let y = ap sort_number z in omega arith)

  patterns-above : (k m : ℕ) → m + k ≡ count s → (table : List ℕ) × PatternsFrom s m table
  patterns-above zero m e =
      let q = patterns-judged in
      let c : count s ≡ m = omega arith in
      (q.0, subst (λ (k : ℕ). PatternsFrom s k q.0) c q.1)
  patterns-above (suc k) m e = let x = patterns-above k (m + 1) (omega arith) in one_lower m (omega arith) x.0 x.1

  pub patterns-from : (m : ℕ) → m ≤ count s → (table : List ℕ) × PatternsFrom s m table
  patterns-from m h = patterns-above (count s - m) m (omega arith)

  pub widths : (table : List ℕ) × Widths s table
  widths = let x = patterns-from 0 (omega arith) in (x.0, whole-table x.1)
