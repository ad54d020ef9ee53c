-- The rules of 000 are deterministic (000 calls its semantics monogenic): in one environment an expression has at most one
-- value and one expression after the cycle, typed or not; so does an iteration, and a run.
-- Assumes nothing.
use Prim.Native.Nat.{ℕ}
use mathlib.Core.Path.{◌≡◌, refl, sym, ap, ap₂, subst, ◌∙◌}
use mathlib.Core.List.{List, ◌∷◌}
use Rattle.picoella.specs.Language.{Expr, Tuple, Index1, Index2, Let, LetRec, If, Delay}
use Rattle.meaning.specs.Constants.{ConstantTree, CoTuple, flatten, match}
use Rattle.meaning.specs.Rules.{
  Elem,
  elem_here,
  elem_there,
  branch,
  Reduces,
  r_const,
  r_tuple,
  r_let,
  r_var,
  r_delay,
  r_if,
  r_index1,
  r_index2,
  r_letrec,
  Iterates,
  i_unchanged,
  i_again,
  ReducesSeq,
  s_end,
  s_cycle,
}
use Rattle.meaning.proofs.FlattenOneToOne.{flatten-one}

elem-one : {l : List ConstantTree} {n : ℕ} {c d : ConstantTree} → Elem l n c → Elem l n d → c ≡ d
elem-one elem_here elem_here = refl
elem-one (elem_there h) (elem_there k) = elem-one h k

first_of : {a b c d : ConstantTree} → CoTuple a b ≡ CoTuple c d → a ≡ c
first_of p = cc

second-of : {a b c d : ConstantTree} → CoTuple a b ≡ CoTuple c d → b ≡ d
second-of p = cc

module _ (undecided : ConstantTree → ConstantTree → ConstantTree) where
  mutual
    pub reduces-one
        : {l : List ConstantTree} {e f g : Expr} {c d : ConstantTree}
        → Reduces undecided l e c f → Reduces undecided l e d g → (c ≡ d) × (f ≡ g)
    reduces-one (r_const h p) (r_const k q) = (flatten-one h k (p ∙ sym q), refl)
    reduces-one (r_tuple x y) (r_tuple z w) =
        let (p, q) = reduces-one x z in
        let (r, s) = reduces-one y w in
        (ap₂ CoTuple p r, ap₂ Tuple q s)
    reduces-one (r_let {l} {f} x y) (r_let {f' = g} {d} z w) =
        let (p, q) = reduces-one x z in
        let (r, s) = reduces-one y (subst (λ c. Reduces undecided (c ∷ l) f d g) (sym p) w) in
        (r, ap₂ Let q s)
    reduces-one (r_var h) (r_var k) = (elem-one h k, refl)
    reduces-one (r_delay {places} {τ} h p x m) (r_delay k q y n) =
        let (r, s) = reduces-one x y in
        (flatten-one h k (p ∙ sym q), ap₂ (Delay places τ) (sym m ∙ ap flatten r ∙ n) s)
    reduces-one (r_if {p = pattern} x y z m) (r_if u v w n) =
        let (p, q) = reduces-one x u in
        let (r, s) = reduces-one y v in
        let (a, b) = reduces-one z w in
        (sym m ∙ (λ i. branch undecided (match pattern (p i)) (r i) (a i)) ∙ n, λ i. If (q i) pattern (s i) (b i))
    reduces-one (r_index1 x) (r_index1 y) =
        let (p, q) = reduces-one x y in
        (first_of p, ap Index1 q)
    reduces-one (r_index2 x) (r_index2 y) =
        let (p, q) = reduces-one x y in
        (second-of p, ap Index2 q)
    reduces-one (r_letrec {l} {σ} {f} x y) (r_letrec {f' = g} {d} z w) =
        let (p, q) = iterates-one x z in
        let (r, s) = reduces-one y (subst (λ c. Reduces undecided (c ∷ l) f d g) (sym p) w) in
        (r, ap₂ (LetRec σ) q s)

    pub iterates-one
        : {l : List ConstantTree} {e f g : Expr} {a c d : ConstantTree}
        → Iterates undecided l e a c f → Iterates undecided l e a d g → (c ≡ d) × (f ≡ g)
    iterates-one (i_unchanged x) (i_unchanged y) = reduces-one x y
    iterates-one (i_unchanged x) (i_again y differs z) = absurd (differs (reduces-one x y).0)
    iterates-one (i_again x differs y) (i_unchanged z) = absurd (differs (sym (reduces-one x z).0))
    iterates-one (i_again x differs y) (i_again z changes w) =
        let (p, q) = reduces-one x z in
        iterates-one y (search (p, q, w))

  pub reduces-seq-one
      : {l inputs : List ConstantTree} {e f g : Expr} {cs ds : List ConstantTree}
      → ReducesSeq undecided l e inputs cs f → ReducesSeq undecided l e inputs ds g → (cs ≡ ds) × (f ≡ g)
  reduces-seq-one s_end s_end = (refl, refl)
  reduces-seq-one (s_cycle {l} {inputs} x y) (s_cycle {outputs = cs} {g} z w) =
      let (p, q) = reduces-one x z in
      let (r, s) = reduces-seq-one y (subst (λ f. ReducesSeq undecided l f inputs cs g) (sym q) w) in
      (ap₂ (λ c cs. c ∷ cs) p r, s)
