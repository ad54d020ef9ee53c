-- Code 6 by the text: how deep each expression's record lies and in how many defining parts is read
-- off the one word that names it, from the root down.
-- Assumes nothing.
use Prim.Native.Nat.{ℕ, zero, suc, ◌+◌, ◌≤◌, ◌<◌}
use mathlib.Core.Path.{◌≡◌, refl, ap, sym, subst, ◌∙◌}
use mathlib.Core.Bool.{Bool, true, false, cond, ◌||◌}
use mathlib.Core.List.Memᴰ
use mathlib.Core.List.{List, [], ◌∷◌, ◌++◌, Memᴰ}
use mathlib.Core.Option.{Option, none, some}
use native.Mathlib.Omega.{arith}
use native.Mathlib.Decide.{ℕ_discrete}
use borrow.Author.Tests.{ltb-true, ltb-false}
use lib.Dec.{ltb}
use lib.ListN.{length}
use Rattle.records.specs.Words.{count}
use Rattle.records.specs.Kinds.{expressions}
use Rattle.records.specs.Says.{sort_at, Naming, names_at, if_named, namings_in, namings_below, namings}
use Rattle.records.specs.Trees.{follow}
use Rattle.answers.specs.Answers.{lowest, or_here}
use Rattle.structure.specs.Rules.{ancestry_within, ancestry, depth, of_defining_part, how_many, nesting, too_deep}
use Rattle.text_passes.specs.TextDepths.{LaidExpression, laid_at, lies_too_deep, first_too_deep}

-- a search upwards from a number
abbrev pub seek : (ℕ → Bool) → ℕ → ℕ → Option ℕ
seek p r zero = none
seek p r (suc n) = cond (p r) (some r) (seek p (suc r) n)

abbrev pub or_later : Option ℕ → Option ℕ → Option ℕ
or_later (some r) o = some r
or_later none o = o

pub later-none : (o : Option ℕ) → or_later o none ≡ o
later-none none = refl
later-none (some r) = refl

pub seek-append : (p : ℕ → Bool) (r m n : ℕ) → seek p r (m + n) ≡ or_later (seek p r m) (seek p (r + m) n)
seek-append p r zero n = let e : r + 0 ≡ r = omega arith in let f : 0 + n ≡ n = omega arith in rw (e, f)
seek-append p r (suc m) n =
    let e : r + suc m ≡ suc r + m = omega arith in
    let f : suc m + n ≡ suc (m + n) = omega arith in
    rw (e, f) (go (p r) (seek-append p (suc r) m n))
  where
    go : (b : Bool) → seek p (suc r) (m + n) ≡ or_later (seek p (suc r) m) (seek p (suc r + m) n)
        → cond b (some r) (seek p (suc r) (m + n)) ≡ or_later (cond b (some r) (seek p (suc r) m)) (seek p (suc r + m) n)
    go true h = refl
    go false h = h

pub seek-lowest : (p : ℕ → Bool) (n : ℕ) → lowest p n ≡ seek p 0 n
seek-lowest p zero = refl
seek-lowest p (suc n) =
    let e : suc n ≡ n + 1 = omega arith in
    let z : 0 + n ≡ n = omega arith in
    ap (λ o. or_here o (p n) n) (seek-lowest p n)
    ∙ go (seek p 0 n) (p n)
    ∙ sym (ap (seek p 0) e ∙ seek-append p 0 n 1 ∙ ap (λ k. or_later (seek p 0 n) (seek p k 1)) z)
  where
    go : (o : Option ℕ) (b : Bool) → or_here o b n ≡ or_later o (cond b (some n) none)
    go (some r) b = refl
    go none true = refl
    go none false = refl

pub seek-none : (p : ℕ → Bool) (r n : ℕ) → ((q : ℕ) → r ≤ q → q < r + n → p q ≡ false) → seek p r n ≡ none
seek-none p r zero h = refl
seek-none p r (suc n) h =
    let here : p r ≡ false = h r (omega arith) (omega arith) in
    rw here (seek-none p (suc r) n (λ q low high. h q (omega (arith, low)) (omega (arith, high))))

pub deep-append : (L M : List LaidExpression) → first_too_deep (L ++ M) ≡ or_later (first_too_deep L) (first_too_deep M)
deep-append [] M = refl
deep-append (laid_at r k f ∷ L) M = go (lies_too_deep k f) (deep-append L M)
  where
    go : (b : Bool) → first_too_deep (L ++ M) ≡ or_later (first_too_deep L) (first_too_deep M)
        → cond b (some r) (first_too_deep (L ++ M)) ≡ or_later (cond b (some r) (first_too_deep L)) (first_too_deep M)
    go true h = refl
    go false h = h

-- the one naming of a record
naming-in : (s : List ℕ) (q r w k : ℕ) → names_at s q r w ≡ true → 0 < w → w ≤ k → Memᴰ (record { by = r; at = w }) (namings_in s q r k)
naming-in s q r w zero h past within = absurd (omega arith)
naming-in s q r w (suc k) h past within = go (ℕ_discrete w (suc k)) (naming-in s q r w k h past)
  where
    here : (b : Bool) → b ≡ true → Memᴰ (record { by = r; at = w }) (if_named b r w)
    here true e = Memᴰ.head refl
    here false e = absurd (let no : ◌≡◌ {A = ℕ} 0 1 = cc in omega arith)

    go : Dec (w ≡ suc k) → (w ≤ k → Memᴰ (record { by = r; at = w }) (namings_in s q r k))
        → Memᴰ (record { by = r; at = w }) (namings_in s q r (suc k))
    go (yes e) f =
        Memᴰ.append_right (namings_in s q r k)
        (subst (λ v. Memᴰ (record { by = r; at = w }) (if_named (names_at s q r v) r v)) e (here (names_at s q r w) h))
    go (no n) f = Memᴰ.append_left (if_named (names_at s q r (suc k)) r (suc k)) (f (below w k within n))
      where
        below : (w k : ℕ) → w ≤ suc k → (w ≡ suc k → ⊥) → w ≤ k
        below w k h n = lt_of (ltb k w) refl
          where
            lt_of : (b : Bool) → ltb k w ≡ b → w ≤ k
            lt_of true e = let l = ltb-true k w e in absurd (n (omega (arith, l, h)))
            lt_of false e = ltb-false k w e

naming-below : (s : List ℕ) (q r w n : ℕ) → names_at s q r w ≡ true → 0 < w → w ≤ 5 → r < n → Memᴰ (record { by = r; at = w }) (namings_below s q n)
naming-below s q r w zero h past within there = absurd (omega arith)
naming-below s q r w (suc n) h past within there = go (ltb r n) refl (naming-below s q r w n h past within)
  where
    go : (b : Bool) → ltb r n ≡ b → (r < n → Memᴰ (record { by = r; at = w }) (namings_below s q n))
        → Memᴰ (record { by = r; at = w }) (namings_below s q (suc n))
    go true e f = Memᴰ.append_left (namings_in s q n 5) (f (ltb-true r n e))
    go false e f =
        let l = ltb-false r n e in
        let same : r ≡ n = omega (arith, l, there) in
        Memᴰ.append_right (namings_below s q n)
        (subst (λ v. Memᴰ (record { by = r; at = w }) (namings_in s q v 5)) same (naming-in s q r w 5 h past within))

only_one : (ns : List Naming) (x : Naming) → length ns ≡ 1 → Memᴰ x ns → ns ≡ x ∷ []
only_one [] x e m = absurd (omega (arith, e))
only_one (n ∷ []) x e m = ap (λ y. y ∷ []) (sym (Memᴰ.eq_of_singleton m))
only_one (n ∷ k ∷ ns) x e m = absurd (omega (arith, e))

pub one-naming : (s : List ℕ) (q r w : ℕ) → length (namings s q) ≡ 1 → names_at s q r w ≡ true → 0 < w → w ≤ 5 → r < count s
    → namings s q ≡ record { by = r; at = w } ∷ []
unfolding namings
one-naming s q r w once h past within there =
    only_one (namings_below s q (count s)) (record { by = r; at = w }) once (naming-below s q r w (count s) h past within there)

-- record r lies at depth k, in so many defining parts
pub record Lies (s : List ℕ) (r k f : ℕ) : Type 0 where
  pub up : (fuel : ℕ) → r ≤ fuel
      → (length (ancestry_within s fuel r) ≡ k) × (how_many (of_defining_part s) (ancestry_within s fuel r) ≡ f)

pub lies-deep : {s : List ℕ} {r k f : ℕ} → Lies s r k f → sort_at s r ≡ expressions → too_deep s r ≡ (ltb 64 k || ltb 3 f)
unfolding too_deep depth nesting ancestry
lies-deep {s} {r} x e = let h = x.up r (omega arith) in rw (e, h.0, h.1)

pub part_lies : {s : List ℕ} {r k f : ℕ} (q w : ℕ) (b : Bool) → namings s q ≡ record { by = r; at = w } ∷ [] → r < q → 0 < r → Lies s r k f
    → of_defining_part s (record { by = r; at = w }) ≡ b → Lies s q (suc k) (cond b (suc f) f)
unfolding ancestry_within
part_lies {s} {r} {k} {f} q w b named above past x d = record { up = go }
  where
    go : (fuel : ℕ) → q ≤ fuel
        → (length (ancestry_within s fuel q) ≡ suc k) × (how_many (of_defining_part s) (ancestry_within s fuel q) ≡ cond b (suc f) f)
    go zero h = absurd (omega arith)
    go (suc g) h =
        let y = x.up g (omega arith) in
        let z : follow [] (ancestry_within s g) r ≡ ancestry_within s g r = follow-at r past in
        (rw (named, z) (ap suc y.0), rw (named, z, d, y.1))
      where
        follow-at : (v : ℕ) → 0 < v → follow [] (ancestry_within s g) v ≡ ancestry_within s g v
        follow-at zero h = absurd (omega arith)
        follow-at (suc v) h = refl

pub root-lies : {s : List ℕ} (q w : ℕ) → namings s q ≡ record { by = 0; at = w } ∷ [] → 0 < q → of_defining_part s (record { by = 0; at = w }) ≡ false
    → Lies s q 1 0
unfolding ancestry_within
root-lies {s} q w named above d = record { up = go }
  where
    go : (fuel : ℕ) → q ≤ fuel → (length (ancestry_within s fuel q) ≡ 1) × (how_many (of_defining_part s) (ancestry_within s fuel q) ≡ 0)
    go zero h = absurd (omega arith)
    go (suc g) h = (rw named, rw (named, d))
