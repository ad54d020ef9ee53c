-- The rules of a tree hold exactly where its expression has a type by the rules of picoELLA, and then that is the type of the
-- record that judging finds. Both by induction on the tree, a rule at a time: that a type has one record turns equal types
-- into the same record.
-- Assumes nothing.
use Prim.Native.Nat.{ℕ, zero, suc, ◌<◌}
use mathlib.Core.Bool.{true}
use mathlib.Core.List.{List, [], ◌∷◌, map}
use mathlib.Core.Path.{◌≡◌, refl, sym, ap, ap₂, ◌∙◌}
use native.Mathlib.Omega.{arith}
use lib.ListN.{length, get_or}
use lib.Dec.{leb}
use borrow.Author.Tests.{leb-true, le-leb, ltb-true, lt-ltb, eqb-true, eq-eqb}
use Rattle.picoella.specs.Language.{
  Ty,
  TyTuple,
  bounds,
  Within,
  within_none,
  within_leaf,
  Named,
  here,
  there,
  Typed,
  t_const,
  t_var,
  t_tuple,
  t_index1,
  t_index2,
  t_let,
  t_letrec,
  t_if,
  t_delay,
}
use Rattle.picoella.proofs.Inversion.{premises}
use Rattle.records.specs.Words.{word_a, word_b}
use Rattle.records.specs.Says.{kind_at}
use Rattle.records.specs.Trees.{
  type_at,
  pair_of,
  TypeRecord,
  Declared,
  Tree,
  no_expression,
  constant_of,
  name_of,
  tuple_of,
  first_of,
  second_of,
  let_of,
  feedback_of,
  if_of,
  delay_of,
  type_record_of,
}
use Rattle.records.specs.Decoding.{leaf_values, expression_of}
use Rattle.records.specs.Written.{Written, TypesFit}
use Rattle.records.proofs.Tests.{never_both, both, both_left, both_right}
use Rattle.records.proofs.Table.{is-pair}
use Rattle.records.proofs.Types.{pair-type}
use Rattle.records.proofs.Pairs.{pair-of-found, pair-of-parts}
use Rattle.records.proofs.TypeRecords.{first_part, second-part, found-pair, pair-record, same-type-same-record}
use Rattle.records.proofs.Grown.{Grown}
use Rattle.typing.specs.Judgements.{within}
use Rattle.typing.proofs.Judged.{RulesHold}
use Rattle.typing.specs.Judging.{Context}
use Rattle.typing.proofs.TypeRecordsOf.{type-of-record}
use Rattle.typing.proofs.PatternTypes.{fits-typed, typed-fits}

pub within-fits : (ns vs : List ℕ) → within ns vs ≡ true → Within ns vs
within-fits [] [] e = within_none
within-fits [] (v ∷ vs) e = absurd (never_both _ e refl)
within-fits (n ∷ ns) [] e = absurd (never_both _ e refl)
within-fits (n ∷ ns) (v ∷ vs) e =
    within_leaf (leb-true v n (both_left (leb v n) (within ns vs) e)) (within-fits ns vs (both_right (leb v n) (within ns vs) e))

pub fits-within : (ns vs : List ℕ) → Within ns vs → within ns vs ≡ true
fits-within xs ys within_none = refl
fits-within xs ys (within_leaf {n = n} {v = v} {ns = ns} {vs = vs} h f) =
    both (leb v n) (within ns vs) (le-leb v n h) (fits-within ns vs f)

name_typed : (s Γ : List ℕ) (k : ℕ) → k < length Γ → Named (map (type_at s) Γ) k (type_at s (get_or Γ k 0))
name_typed s [] k h = absurd (omega arith)
name_typed s (t ∷ Γ) zero h = here
name_typed s (t ∷ Γ) (suc k) h = there (name_typed s Γ k (omega arith))

typed-name : (s Γ : List ℕ) (k : ℕ) (τ : Ty) → Named (map (type_at s) Γ) k τ → (k < length Γ) × (type_at s (get_or Γ k 0) ≡ τ)
typed-name s [] k τ n = elim n [ ]
typed-name s (t ∷ Γ) k τ here = (omega arith, refl)
typed-name s (t ∷ Γ) k τ (there {n = m} n) = let f = typed-name s Γ m τ n in (omega arith, f.1)

-- the type of the pair record of two parts
pair-of-type : {s : List ℕ} → Written s → (a b : ℕ) → 0 < pair_of s a b
    → type_at s (pair_of s a b) ≡ TyTuple (type_at s a) (type_at s b)
pair-of-type {s} w a b h =
    let f = pair-of-found s a b (pair_of s a b) refl h in
    pair-type w (pair_of s a b) f.0 f.1 ∙ rw (f.2, f.3)

pub judged-typed : {s : List ℕ} → Written s → (Γ : List ℕ) (e : Tree) → Grown s e → Context s Γ → RulesHold s Γ e
    → Typed (Declared s) (map (type_at s) Γ) (expression_of s e) (type_at s (type_record_of s Γ e))
judged-typed {s} w Γ no_expression g c j = absurd g
judged-typed {s} w Γ (constant_of r t ls) g c j = t_const (within-fits (bounds (type_at s t)) (leaf_values s ls) j)
judged-typed {s} w Γ (name_of r k) g c j = t_var (name_typed s Γ k (ltb-true k (length Γ) j))
judged-typed {s} w Γ (tuple_of r a b) g c j =
    let h = ltb-true 0 (pair_of s (type_record_of s Γ a) (type_record_of s Γ b)) j.2 in
    let e = pair-of-type w (type_record_of s Γ a) (type_record_of s Γ b) h in
    rw e
    (t_tuple (judged-typed w Γ a g.0 c j.0) (judged-typed w Γ b g.1 c j.1)
    (pair_of s (type_record_of s Γ a) (type_record_of s Γ b), found-pair w (type_record_of s Γ a) (type_record_of s Γ b) h, e))
judged-typed {s} w Γ (first_of r a) g c j =
    let t = type-of-record w Γ a g c j.0 in
    t_index1 (rw (pair-type w (type_record_of s Γ a) t.there (is-pair (kind_at s (type_record_of s Γ a)) j.1)) at (judged-typed w Γ a g c j.0))
judged-typed {s} w Γ (second_of r a) g c j =
    let t = type-of-record w Γ a g c j.0 in
    t_index2 (rw (pair-type w (type_record_of s Γ a) t.there (is-pair (kind_at s (type_record_of s Γ a)) j.1)) at (judged-typed w Γ a g c j.0))
judged-typed {s} w Γ (let_of r a b) g c j =
    t_let (judged-typed w Γ a g.0 c j.0)
    (judged-typed w (type_record_of s Γ a ∷ Γ) b g.1 (type-of-record w Γ a g.0 c j.0, c) j.1)
judged-typed {s} w Γ (feedback_of r t a b) g c j =
    t_letrec (rw (eqb-true (type_record_of s (t ∷ Γ) a) t j.2) at (judged-typed w (t ∷ Γ) a g.1 (g.0, c) j.0))
    (judged-typed w (t ∷ Γ) b g.2 (g.0, c) j.1)
judged-typed {s} w Γ (if_of r a p b d) g c j =
    t_if (judged-typed w Γ a g.0 c j.0)
    (fits-typed w p (type_record_of s Γ a) (type-of-record w Γ a g.0 c j.0) g.1 j.1)
    (judged-typed w Γ b g.2 c j.2)
    (rw (← eqb-true (type_record_of s Γ b) (type_record_of s Γ d) j.4) at (judged-typed w Γ d g.3 c j.3))
judged-typed {s} w Γ (delay_of r t ls a) g c j =
    t_delay (within-fits (bounds (type_at s t)) (leaf_values s ls) j.1)
    (rw (eqb-true (type_record_of s Γ a) t j.2) at (judged-typed w Γ a g.1 c j.0))

pub typed-judged : {s : List ℕ} → Written s → TypesFit s → (Γ : List ℕ) (e : Tree) → Grown s e → Context s Γ → (τ : Ty)
    → Typed (Declared s) (map (type_at s) Γ) (expression_of s e) τ → RulesHold s Γ e × (type_at s (type_record_of s Γ e) ≡ τ)
typed-judged {s} w fit Γ no_expression g c τ d = absurd g
typed-judged {s} w fit Γ (constant_of r t ls) g c τ d =
    let p = premises d in (fits-within (bounds (type_at s t)) (leaf_values s ls) p.1, sym p.0)
typed-judged {s} w fit Γ (name_of r k) g c τ d = let p = typed-name s Γ k τ (premises d) in (lt-ltb k (length Γ) p.0, p.1)
typed-judged {s} w fit Γ (tuple_of r a b) g c τ d =
    let p = premises d in
    let ja = typed-judged w fit Γ a g.0 c p.0 p.3 in
    let jb = typed-judged w fit Γ b g.1 c p.1 p.4 in
    let t = p.5.0 in
    let u : TypeRecord s t = p.5.1 in
    let k = pair-record w t p.0 p.1 u p.5.2 in
    let ea : type_record_of s Γ a ≡ word_a s t = same-type-same-record w fit (type_record_of s Γ a) (word_a s t)
    (type-of-record w Γ a g.0 c ja.0) (first_part w t u.there k.0) (ja.1 ∙ sym k.1) in
    let eb : type_record_of s Γ b ≡ word_b s t = same-type-same-record w fit (type_record_of s Γ b) (word_b s t)
    (type-of-record w Γ b g.1 c jb.0) (second-part w t u.there k.0) (jb.1 ∙ sym k.2) in
    let found : pair_of s (type_record_of s Γ a) (type_record_of s Γ b) ≡ t = ap₂ (pair_of s) ea eb ∙ pair-of-parts w fit t u.there k.0 in (
      (ja.0, jb.0, lt-ltb 0 (pair_of s (type_record_of s Γ a) (type_record_of s Γ b)) (rw found u.past)),
      ap (type_at s) found ∙ p.5.2 ∙ sym p.2,
    )
typed-judged {s} w fit Γ (first_of r a) g c τ d =
    let p = premises d in
    let ja = typed-judged w fit Γ a g c (TyTuple τ p.0) p.1 in
    let k = pair-record w (type_record_of s Γ a) τ p.0 (type-of-record w Γ a g c ja.0) ja.1 in
    ((ja.0, rw k.0), k.1)
typed-judged {s} w fit Γ (second_of r a) g c τ d =
    let p = premises d in
    let ja = typed-judged w fit Γ a g c (TyTuple p.0 τ) p.1 in
    let k = pair-record w (type_record_of s Γ a) p.0 τ (type-of-record w Γ a g c ja.0) ja.1 in
    ((ja.0, rw k.0), k.2)
typed-judged {s} w fit Γ (let_of r a b) g c τ d =
    let p = premises d in
    let ja = typed-judged w fit Γ a g.0 c p.0 p.1 in
    let jb = typed-judged w fit (type_record_of s Γ a ∷ Γ) b g.1 (type-of-record w Γ a g.0 c ja.0, c) τ (rw ja.1 p.2) in
    ((ja.0, jb.0), jb.1)
typed-judged {s} w fit Γ (feedback_of r t a b) g c τ d =
    let p = premises d in
    let ja = typed-judged w fit (t ∷ Γ) a g.1 (g.0, c) (type_at s t) p.0 in
    let jb = typed-judged w fit (t ∷ Γ) b g.2 (g.0, c) τ p.1 in
    let e = same-type-same-record w fit (type_record_of s (t ∷ Γ) a) t (type-of-record w (t ∷ Γ) a g.1 (g.0, c) ja.0) g.0 ja.1 in
    ((ja.0, jb.0, eq-eqb (type_record_of s (t ∷ Γ) a) t e), jb.1)
typed-judged {s} w fit Γ (if_of r a m b f) g c τ d =
    let p = premises d in
    let ja = typed-judged w fit Γ a g.0 c p.0 p.1 in
    let jb = typed-judged w fit Γ b g.2 c τ p.3 in
    let jf = typed-judged w fit Γ f g.3 c τ p.4 in
    let e = same-type-same-record w fit (type_record_of s Γ b) (type_record_of s Γ f)
    (type-of-record w Γ b g.2 c jb.0) (type-of-record w Γ f g.3 c jf.0) (jb.1 ∙ sym jf.1) in (
      (
        ja.0,
        typed-fits w fit m (type_record_of s Γ a) (type-of-record w Γ a g.0 c ja.0) g.1 (rw ja.1 p.2),
        jb.0,
        jf.0,
        eq-eqb (type_record_of s Γ b) (type_record_of s Γ f) e,
      ),
      jb.1,
    )
typed-judged {s} w fit Γ (delay_of r t ls a) g c τ d =
    let p = premises d in
    let ja = typed-judged w fit Γ a g.1 c (type_at s t) p.2 in
    let e = same-type-same-record w fit (type_record_of s Γ a) t (type-of-record w Γ a g.1 c ja.0) g.0 ja.1 in
    ((ja.0, fits-within (bounds (type_at s t)) (leaf_values s ls) p.1, eq-eqb (type_record_of s Γ a) t e), sym p.0)
