-- The ancestry of a record is its naming and the ancestry of the record that names it. A record that names is lower, so the
-- steps never run out; and where each record is well named, a word other than d that names a record is its only naming. So a part
-- that is no pattern lies one deeper than the record it is a part of, and in one more defining part just where it is one.
-- Assumes nothing.
use Prim.Native.Nat.{ℕ, zero, suc, ◌≤◌, ◌<◌}
use mathlib.Core.Bool.{cond, ◌&&◌, true, false}
use mathlib.Core.List.{List, [], ◌∷◌, Memᴰ}
use mathlib.Core.Path.{◌≡◌, refl, ap, ◌∙◌}
use native.Mathlib.Omega.{arith}
use lib.ListN.{length}
use Rattle.records.specs.Words.{word, count, word_b}
use lib.Dec.{ltb}
use Rattle.records.specs.Kinds.{Kind, Sort, header, expressions, patterns, part, same_sort}
use Rattle.records.specs.Says.{kind_at, Naming, namings}
use Rattle.records.specs.Trees.{follow}
use Rattle.records.specs.Written.{Written, WellNamed}
use Rattle.records.proofs.Trees.{follow-agrees}
use Rattle.records.proofs.Table.{ask_of_kind}
use Rattle.records.proofs.Asked.{part-of-kind, root_is}
use Rattle.records.proofs.Namings.{Names, only-naming, in-namings-names, namer-lower, part-names, part-word-other}
use Rattle.structure.specs.Rules.{climb, ancestry_within, ancestry, depth, of_defining_part, how_many, nesting}

climb-agrees : (go other : ℕ → List Naming) (ns : List Naming)
    → ((x : Naming) → Memᴰ x ns → 0 < x.by → go x.by ≡ other x.by) → climb go ns ≡ climb other ns
climb-agrees go other [] agree = refl
climb-agrees go other (x ∷ ns) agree =
    ap (◌∷◌ x) (follow-agrees [] go other x.by (λ h. agree x (Memᴰ.head refl) h))

ancestry-steps : {s : List ℕ} → Written s → (m n r : ℕ) → 0 < r → r ≤ m → r ≤ n → ancestry_within s m r ≡ ancestry_within s n r
unfolding ancestry_within
ancestry-steps {s} w zero n r low hm hn = absurd (omega arith)
ancestry-steps {s} w (suc m) zero r low hm hn = absurd (omega arith)
ancestry-steps {s} w (suc m) (suc n) r low hm hn =
    climb-agrees (ancestry_within s m) (ancestry_within s n) (namings s r)
    (λ x member h. let l = namer-lower w r x low (in-namings-names s r x member) in
    ancestry-steps w m n x.by h (omega arith) (omega arith))

-- the ancestry of a record is its first naming and the ancestry of the record that names it there
pub ancestry-of : {s : List ℕ} → Written s → (r : ℕ) (x : Naming) (ns : List Naming) → 0 < r → namings s r ≡ x ∷ ns
    → ancestry s r ≡ x ∷ follow [] (ancestry s) x.by
unfolding ancestry ancestry_within
ancestry-of {s} w r x ns low n =
    let below = namer-lower w r x low (in-namings-names s r x (rw n (Memᴰ.head refl))) in
    ancestry-steps w r (suc r) r low (omega arith) (omega arith)
    ∙ ap (climb (ancestry_within s r)) n
    ∙ ap (◌∷◌ x) (follow-agrees [] (ancestry_within s r) (ancestry s) x.by
    (λ some. ancestry-steps w r x.by x.by some (omega arith) (omega arith)))

follow-through {ℓ κ} :
    {A : Type ℓ} {B : Type κ} (f : A → B) (stop : A) (go : ℕ → A) (n : ℕ)
    → f (follow stop go n) ≡ follow (f stop) (λ m. f (go m)) n
follow-through f stop go zero = refl
follow-through f stop go (suc n) = refl

-- one deeper than the record that names it, the header being at no depth
pub depth-of : {s : List ℕ} → Written s → (r : ℕ) (x : Naming) (ns : List Naming) → 0 < r → namings s r ≡ x ∷ ns
    → depth s r ≡ suc (follow 0 (depth s) x.by)
unfolding depth
depth-of {s} w r x ns low n = rw (ancestry-of w r x ns low n) (ap suc (follow-through length [] (ancestry s) x.by))

-- in one more defining part just where it is one
pub nesting-of : {s : List ℕ} → Written s → (r : ℕ) (x : Naming) (ns : List Naming) → 0 < r → namings s r ≡ x ∷ ns
    → nesting s r ≡ cond (of_defining_part s x) (suc (follow 0 (nesting s) x.by)) (follow 0 (nesting s) x.by)
unfolding nesting
nesting-of {s} w r x ns low n =
    rw (ancestry-of w r x ns low n)
    (ap (λ m. cond (of_defining_part s x) (suc m) m) (follow-through (how_many (of_defining_part s)) [] (ancestry s) x.by))

followed-past {ℓ} : {A : Type ℓ} (stop : A) (go : ℕ → A) (n : ℕ) → 0 < n → follow stop go n ≡ go n
followed-past stop go zero h = absurd (omega arith)
followed-past stop go (suc n) h = refl

-- the only naming of a part of a record of this kind that is no pattern
part-naming : {s : List ℕ} → Written s → WellNamed s → (q : ℕ) (k : Kind) (σ : Sort) → q < count s → kind_at s q ≡ k
    → (j : ℕ) → (ltb 0 j && ltb j 6) ≡ true → ask_of_kind k j ≡ part σ → same_sort σ patterns ≡ false
    → namings s (word s q j) ≡ record { by = q; at = j } ∷ []
part-naming {s} w well q k σ h e j t a o =
    let p = part-of-kind w q k σ h e j t a in
    only-naming s well (word s q j) (record { by = q; at = j }) (omega arith) p.1 (part-word-other k σ j a t o)
    (part-names s q k σ h e j t a)

-- a part of a record of this kind that is no pattern
pub depth-of-part : {s : List ℕ} → Written s → WellNamed s → (q : ℕ) (k : Kind) (σ : Sort) → 0 < q → q < count s → kind_at s q ≡ k
    → (j : ℕ) → (ltb 0 j && ltb j 6) ≡ true → ask_of_kind k j ≡ part σ → same_sort σ patterns ≡ false
    → depth s (word s q j) ≡ suc (depth s q)
depth-of-part {s} w well q k σ past h e j t a o =
    let p = part-of-kind w q k σ h e j t a in
    depth-of w (word s q j) (record { by = q; at = j }) [] (omega arith) (part-naming w well q k σ h e j t a o)
    ∙ ap suc (followed-past 0 (depth s) q past)

pub nesting-of-part : {s : List ℕ} → Written s → WellNamed s → (q : ℕ) (k : Kind) (σ : Sort) → 0 < q → q < count s
    → kind_at s q ≡ k
    → (j : ℕ) → (ltb 0 j && ltb j 6) ≡ true → ask_of_kind k j ≡ part σ → same_sort σ patterns ≡ false
    → nesting s (word s q j) ≡ cond (of_defining_part s (record { by = q; at = j })) (suc (nesting s q)) (nesting s q)
nesting-of-part {s} w well q k σ past h e j t a o =
    let p = part-of-kind w q k σ h e j t a in
    let x : Naming = record { by = q; at = j } in
    nesting-of w (word s q j) x [] (omega arith) (part-naming w well q k σ h e j t a o)
    ∙ ap (λ m. cond (of_defining_part s x) (suc m) m) (followed-past 0 (nesting s) q past)

pub root_names : {s : List ℕ} → Written s → Names s (word_b s 0) (record { by = 0; at = 3 })
root_names {s} w = part-names s 0 header expressions w.some w.headed 3 refl (unfold ask_of_kind in refl)

root-naming : {s : List ℕ} → Written s → WellNamed s → namings s (word_b s 0) ≡ record { by = 0; at = 3 } ∷ []
root-naming {s} w well =
    part-naming w well 0 header expressions w.some w.headed 3 refl (unfold ask_of_kind in refl) refl

pub depth-of-root : {s : List ℕ} → Written s → WellNamed s → depth s (word_b s 0) ≡ 1
depth-of-root {s} w well = depth-of w (word_b s 0) (record { by = 0; at = 3 }) [] (root_is w).0 (root-naming w well)

pub nesting-of-root : {s : List ℕ} → Written s → WellNamed s → nesting s (word_b s 0) ≡ 0
nesting-of-root {s} w well =
    nesting-of w (word_b s 0) (record { by = 0; at = 3 }) [] (root_is w).0 (root-naming w well) ∙ rw w.headed
