-- The tables of depths and nestings as records are added to them: a record lies one deeper than the first record that names it, which
-- is lower and so in the tables, and in one more defining part just where it is one. Assumes nothing.
use mathlib.Core.Path.{◌≡◌, refl, sym, ◌∙◌, ap}
use mathlib.Core.Bool.{Bool, true, false, cond, false≢true}
use mathlib.Core.Logic.{◌⊎◌, inl, inr}
use mathlib.Core.List.Memᴰ
use mathlib.Core.List.{List, [], ◌∷◌}
use Prim.Native.Nat.{ℕ, zero, suc, min, ◌+◌, ◌*◌, ◌≤◌, ◌<◌}
use native.Mathlib.Omega.{arith}
use native.Mathlib.Decide.{ℕ_discrete, dec_le}
use borrow.Author.Tests.{lt-ltb, le-ltb}
use lib.Dec.{eqb, ltb}
use lib.ListN.{get_or, set, replicate, length-set, length-replicate}
use lib.Seq.{get_or-set_same, get_or-set_other}
use Rattle.records.specs.Words.{count}
use Rattle.records.specs.Kinds.{same_sort, expressions, kind_of}
use Rattle.records.proofs.CodeTable.{only-kind}
use Rattle.records.specs.Says.{sort_at, Naming, namings, well_named}
use Rattle.records.specs.Trees.{follow}
use Rattle.records.proofs.Namings.{Names, in-namings-names, namer-lower}
use Rattle.structure.specs.Rules.{ancestry, ancestry_within, depth, nesting, is_feedback, of_defining_part, too_deep}
use Rattle.structure.specs.NamerTable.{summary}
use Rattle.structure.specs.DepthTable.{Capped, Placed, Placing}
use Rattle.structure.proofs.Depths.{depth-of, nesting-of}

pub feedback-number : (k : ℕ) → is_feedback (kind_of k) ≡ eqb k 38
unfolding kind_of
feedback-number = only-kind is_feedback 38 refl (omega arith) tt

module _ (s : List ℕ) (q at x : ℕ) where
  abbrev nested-in : ℕ
  nested-in = cond (of_defining_part s (record { by = q; at = at })) (min 4 (x + 1)) x

pub capped-none : (cap : ℕ) (f : ℕ → ℕ) → f 0 ≡ 0 → Capped cap f 1 (replicate 4096 0)
capped-none cap f e = record {
  long = length-replicate {A = ℕ} 4096 0;
  below = λ r h. let q : r ≡ 0 = omega arith in rw (q, e) (omega arith);
}

capped-set : (cap : ℕ) (f : ℕ → ℕ) (rec : ℕ) (table : List ℕ) (v : ℕ) → Capped cap f rec table → rec < 4096 → v ≡ min cap (f rec)
    → Capped cap f (rec + 1) (set table rec v)
capped-set cap f rec table v t few e = record {
  long = length-set table rec v ∙ t.long;
  below = λ r h. go r h (ℕ_discrete r rec);
}
  where
    go : (r : ℕ) → r < rec + 1 → Dec (r ≡ rec) → get_or (set table rec v) r 0 ≡ min cap (f r)
    go r h (yes q) = let l = t.long in rw q (get_or-set_same table rec v 0 (omega arith) ∙ e)
    go r h (no q) = get_or-set_other table rec r v 0 q ∙ t.below r (omega arith)

pub depth-of-header : (s : List ℕ) → depth s 0 ≡ 0
unfolding depth ancestry ancestry_within
depth-of-header s = refl

pub nesting-of-header : (s : List ℕ) → nesting s 0 ≡ 0
unfolding nesting ancestry ancestry_within
nesting-of-header s = refl

followed : (f : ℕ → ℕ) (n : ℕ) → f 0 ≡ 0 → follow 0 f n ≡ f n
followed f zero e = sym e
followed f (suc n) e = refl

-- the first naming of a record that is well named
record First (ns : List Naming) : Type 0 where
  naming : Naming
  rest : List Naming
  is : ns ≡ naming ∷ rest
  entry : summary ns ≡ 8 * naming.by + naming.at + 1

the-first : (ns : List Naming) → well_named ns ≡ true → First ns
the-first [] e = absurd (false≢true e)
the-first (x ∷ ns) e = record { naming = x; rest = ns; is = refl; entry = rw e }

-- what is known of the record that names rec
pub record ItsNaming (s : List ℕ) (rec v : ℕ) : Type 0 where
  pub by : ℕ
  pub at : ℕ
  pub value : v ≡ 8 * by + at + 1
  pub lower : by < rec
  pub small : at < 6
  pub deeper : depth s rec ≡ suc (depth s by)
  pub nested : nesting s rec ≡ cond (of_defining_part s (record { by = by; at = at })) (suc (nesting s by)) (nesting s by)

module _ {s : List ℕ} {n rec : ℕ} {namers depths nestings : List ℕ} (p : Placing s n rec namers depths nestings) (h : rec < n) where
  pub named-by : ItsNaming s rec (get_or namers rec 0)
  named-by = from_first (the-first (namings s rec) (p.well rec p.some below))
    where
      below : rec < count s
      below = let c = p.sized.counted in omega arith

      from_first : First (namings s rec) → ItsNaming s rec (get_or namers rec 0)
      from_first f =
          let few = p.sized.few in
          let x = f.naming in
          let names : Names s rec x = in-namings-names s rec x (rw f.is (Memᴰ.head refl)) in
          record {
            by = x.by;
            at = x.at;
            value = p.named.entries rec (omega arith) ∙ f.entry;
            lower = (namer-lower p.written rec x p.some names).0;
            small = names.high;
            deeper =
                depth-of p.written rec x f.rest p.some f.is
                ∙ ap suc (followed (depth s) x.by (depth-of-header s));
            nested =
                nesting-of p.written rec x f.rest p.some f.is
                ∙ ap (λ (m : ℕ). cond (of_defining_part s x) (suc m) m) (followed (nesting s) x.by (nesting-of-header s));
          }

  -- a word with this entry is the one that names rec
  module _ (q at : ℕ) (e : get_or namers rec 0 ≡ 8 * q + at + 1) (l : at < 8) where
    by-is : q ≡ named-by.by
    by-is = let b = named-by in omega (arith, b.value, b.small, e, l)

    at-is : at ≡ named-by.at
    at-is = let b = named-by in omega (arith, b.value, b.small, e, l)

    -- what the reads and writes of the tables ask
    pub in-range : (q < rec) × (rec < 4096) × (get_or depths q 0 ≤ 65) × (get_or nestings q 0 ≤ 4)
    in-range =
        let b = named-by in
        let few = p.sized.few in
        let same = by-is in
        let d = p.placed.deep.below b.by b.lower in
        let m = p.placed.nested.below b.by b.lower in
        (rw same b.lower, omega arith, rw same (omega arith), rw same (omega arith))

    pub place-more : (d w : ℕ) → d ≡ min (get_or depths q 0 + 1) 65 → w ≡ nested-in s q at (get_or nestings q 0)
        → Placed s (rec + 1) (set depths rec d) (set nestings rec w)
    place-more d w ed ew = record {
      deep = capped-set 65 (depth s) rec depths d p.placed.deep small (ed ∙ deeper);
      nested = capped-set 4 (nesting s) rec nestings w p.placed.nested small (ew ∙ nested);
    }
      where
        b : ItsNaming s rec (get_or namers rec 0)
        b = named-by

        small : rec < 4096
        small = let sized = p.sized in omega (arith, p.sized.few)

        deeper : min (get_or depths q 0 + 1) 65 ≡ min 65 (depth s rec)
        deeper =
            rw (by-is, p.placed.deep.below b.by b.lower, b.deeper) (more (depth s b.by))
          where
            more : (x : ℕ) → min (min 65 x + 1) 65 ≡ min 65 (suc x)
            more x = omega arith

        nested : nested-in s q at (get_or nestings q 0) ≡ min 4 (nesting s rec)
        nested =
            rw (by-is, at-is, p.placed.nested.below b.by b.lower, b.nested)
            (more (nesting s b.by) (of_defining_part s (record { by = b.by; at = b.at })))
          where
            more : (x : ℕ) (t : Bool) → cond t (min 4 (min 4 x + 1)) (min 4 x) ≡ min 4 (cond t (suc x) x)
            more x true = omega arith
            more x false = refl

  -- each record has its naming
  pub some-naming : (get_or namers rec 0 ≡ 0) ⊎ (get_or namers rec 0 ≡ 65535) → ⊥
  some-naming (inl e) = let b = named-by in omega (arith, b.value, e)
  some-naming (inr e) = let b = named-by in let few = p.sized.few in omega (arith, b.value, b.small, b.lower, few, e, h)

pub no-expression : (s : List ℕ) (r : ℕ) → same_sort (sort_at s r) expressions ≡ false → false ≡ too_deep s r
unfolding too_deep
no-expression s r f = rw f

module _ {s : List ℕ} {n : ℕ} {depths nestings : List ℕ} (p : Placed s n depths nestings) (r : ℕ) (h : r < n)
    (e : same_sort (sort_at s r) expressions ≡ true) where
  pub deep : 64 < get_or depths r 0 → true ≡ too_deep s r
  unfolding too_deep
  deep l = let d = p.deep.below r h in rw (e, lt-ltb 64 (depth s r) (omega arith))

  pub by-nesting : get_or depths r 0 ≤ 64 → ltb 3 (get_or nestings r 0) ≡ too_deep s r
  unfolding too_deep
  by-nesting l =
      let d = p.deep.below r h in
      rw (e, le-ltb 64 (depth s r) (omega arith), p.nested.below r h) (capped (nesting s r))
    where
      capped : (x : ℕ) → ltb 3 (min 4 x) ≡ ltb 3 x
      capped x = go (dec_le 4 x)
        where
          go : Dec (4 ≤ x) → ltb 3 (min 4 x) ≡ ltb 3 x
          go (yes q) = rw (lt-ltb 3 (min 4 x) (omega arith), lt-ltb 3 x (omega arith))
          go (no q) = rw (le-ltb 3 (min 4 x) (omega arith), le-ltb 3 x (omega arith))
