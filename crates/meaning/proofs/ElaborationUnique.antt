-- Every well-typed expression has one elaboration: there is one, of its type, whose erasure it is; and two elaborations of one
-- expression are the same. An erased elaboration is well typed.
-- Assumes nothing.
use Prim.Native.Nat.{ℕ}
use mathlib.Core.Path.{◌≡◌, refl, sym, ap, ap₂, subst, subst_refl, path_j, ◌∙◌}
use mathlib.Core.List.{List, ◌∷◌, head-eq_of_cons-eq, tail-eq_of_cons-eq}
use Rattle.picoella.specs.Language.{
  Ty,
  TyTuple,
  Expr,
  Tuple,
  Index1,
  Index2,
  Let,
  LetRec,
  Delay,
  Named,
  here,
  there,
  Typed,
  t_const,
  t_var,
  t_tuple,
  t_index1,
  t_index2,
  t_let,
  t_letrec,
  t_if,
  t_delay,
}
use Rattle.meaning.specs.Elaboration.{
  Term,
  Constant,
  Name,
  Pair,
  First,
  Second,
  LetIn,
  Feedback,
  IfThenElse,
  Delayed,
  erase,
  Elaborated,
  e_constant,
  e_name,
  e_pair,
  e_first,
  e_second,
  e_let,
  e_feedback,
  e_if,
  e_delay,
}

named-one
    : {Γ Δ : List Ty} {n : ℕ} {σ τ : Ty} → Named Γ n σ → Named Δ n τ → Γ ≡ Δ → σ ≡ τ
named-one here here p = head-eq_of_cons-eq p
named-one (there n) (there m) p = named-one n m (tail-eq_of_cons-eq p)

first_part : {σ τ σ' τ' : Ty} → TyTuple σ τ ≡ TyTuple σ' τ' → σ ≡ σ'
first_part p = cc

second-part : {σ τ σ' τ' : Ty} → TyTuple σ τ ≡ TyTuple σ' τ' → τ ≡ τ'
second-part p = cc

module _ (Declared : Ty → Type 0) where
  -- the elaboration is read off the typing
  elaborate : {Γ : List Ty} {e : Expr} {τ : Ty} → Typed Declared Γ e τ → Term
  elaborate (t_const {τ} {v} h) = Constant τ v
  elaborate (t_var {n} h) = Name n
  elaborate (t_tuple e f d) = Pair (elaborate e) (elaborate f)
  elaborate (t_index1 {σ} e) = First σ (elaborate e)
  elaborate (t_index2 {σ} e) = Second σ (elaborate e)
  elaborate (t_let e f) = LetIn (elaborate e) (elaborate f)
  elaborate (t_letrec {σ} e f) = Feedback σ (elaborate e) (elaborate f)
  elaborate (t_if {p} e h f g) = IfThenElse (elaborate e) p (elaborate f) (elaborate g)
  elaborate (t_delay {τ} {places} {v} h e) = Delayed places τ v (elaborate e)

  elaborate-typed
      : {Γ : List Ty} {e : Expr} {τ : Ty} (d : Typed Declared Γ e τ) → Elaborated Declared Γ (elaborate d) τ
  unfolding elaborate
  elaborate-typed (t_const h) = e_constant h
  elaborate-typed (t_var n) = e_name n
  elaborate-typed (t_tuple e f d) = e_pair (elaborate-typed e) (elaborate-typed f) d
  elaborate-typed (t_index1 e) = e_first (elaborate-typed e)
  elaborate-typed (t_index2 e) = e_second (elaborate-typed e)
  elaborate-typed (t_let e f) = e_let (elaborate-typed e) (elaborate-typed f)
  elaborate-typed (t_letrec e f) = e_feedback (elaborate-typed e) (elaborate-typed f)
  elaborate-typed (t_if e h f g) = e_if (elaborate-typed e) h (elaborate-typed f) (elaborate-typed g)
  elaborate-typed (t_delay h e) = e_delay h (elaborate-typed e)

  elaborate-erases : {Γ : List Ty} {e : Expr} {τ : Ty} (d : Typed Declared Γ e τ) → erase (elaborate d) ≡ e
  unfolding elaborate
  elaborate-erases (t_const h) = refl
  elaborate-erases (t_var n) = refl
  elaborate-erases (t_tuple e f d) = ap₂ Tuple (elaborate-erases e) (elaborate-erases f)
  elaborate-erases (t_index1 e) = ap Index1 (elaborate-erases e)
  elaborate-erases (t_index2 e) = ap Index2 (elaborate-erases e)
  elaborate-erases (t_let e f) = ap₂ Let (elaborate-erases e) (elaborate-erases f)
  elaborate-erases (t_letrec {σ} e f) = ap₂ (LetRec σ) (elaborate-erases e) (elaborate-erases f)
  elaborate-erases (t_if {p} e h f g) = rw (elaborate-erases e, elaborate-erases f, elaborate-erases g)
  elaborate-erases (t_delay {τ} {places} {v} h e) = ap (Delay places τ v) (elaborate-erases e)

  pub erased-typed
      : {Γ : List Ty} {t : Term} {τ : Ty} → Elaborated Declared Γ t τ → Typed Declared Γ (erase t) τ
  erased-typed (e_constant h) = t_const h
  erased-typed (e_name n) = t_var n
  erased-typed (e_pair t s d) = t_tuple (erased-typed t) (erased-typed s) d
  erased-typed (e_first t) = t_index1 (erased-typed t)
  erased-typed (e_second t) = t_index2 (erased-typed t)
  erased-typed (e_let t s) = t_let (erased-typed t) (erased-typed s)
  erased-typed (e_feedback t s) = t_letrec (erased-typed t) (erased-typed s)
  erased-typed (e_if t h s r) = t_if (erased-typed t) h (erased-typed s) (erased-typed r)
  erased-typed (e_delay h t) = t_delay h (erased-typed t)

  elaborate-erased
      : {Γ : List Ty} {t : Term} {τ : Ty} (h : Elaborated Declared Γ t τ) → elaborate (erased-typed h) ≡ t
  unfolding elaborate erased-typed
  elaborate-erased (e_constant h) = refl
  elaborate-erased (e_name n) = refl
  elaborate-erased (e_pair t s d) = ap₂ Pair (elaborate-erased t) (elaborate-erased s)
  elaborate-erased (e_first {σ} t) = ap (First σ) (elaborate-erased t)
  elaborate-erased (e_second {σ} t) = ap (Second σ) (elaborate-erased t)
  elaborate-erased (e_let t s) = ap₂ LetIn (elaborate-erased t) (elaborate-erased s)
  elaborate-erased (e_feedback {σ} t s) = ap₂ (Feedback σ) (elaborate-erased t) (elaborate-erased s)
  elaborate-erased (e_if t h s r) = rw (elaborate-erased t, elaborate-erased s, elaborate-erased r)
  elaborate-erased (e_delay {τ} {places} {v} h t) = ap (Delayed places τ v) (elaborate-erased t)

  -- two typings of one expression in one context give one type and one elaboration
  elaborate-one
      : {Γ Δ : List Ty} {e : Expr} {σ τ : Ty} (d : Typed Declared Γ e σ) (c : Typed Declared Δ e τ)
      → Γ ≡ Δ → (σ ≡ τ) × (elaborate d ≡ elaborate c)
  unfolding elaborate
  elaborate-one (t_const h) (t_const k) p = (refl, refl)
  elaborate-one (t_var n) (t_var m) p = (named-one n m p, refl)
  elaborate-one (t_tuple e f d) (t_tuple g h c) p =
      let (a, q) = elaborate-one e g p in
      let (b, r) = elaborate-one f h p in
      (ap₂ TyTuple a b, ap₂ Pair q r)
  elaborate-one (t_index1 e) (t_index1 f) p =
      let (a, q) = elaborate-one e f p in
      (first_part a, ap₂ First (first_part a) q)
  elaborate-one (t_index2 e) (t_index2 f) p =
      let (a, q) = elaborate-one e f p in
      (second-part a, ap₂ Second (first_part a) q)
  elaborate-one (t_let e f) (t_let g h) p =
      let (a, q) = elaborate-one e g p in
      let (b, r) = elaborate-one f h (ap₂ (λ τ Γ. τ ∷ Γ) a p) in
      (b, ap₂ LetIn q r)
  elaborate-one (t_letrec {σ} e f) (t_letrec g h) p =
      let (a, q) = elaborate-one e g (ap (λ Γ. σ ∷ Γ) p) in
      let (b, r) = elaborate-one f h (ap (λ Γ. σ ∷ Γ) p) in
      (b, ap₂ (Feedback σ) q r)
  elaborate-one (t_if {p = pattern} e h f g) (t_if i k j l) p =
      let (a, q) = elaborate-one e i p in
      let (b, r) = elaborate-one f j p in
      let (c, s) = elaborate-one g l p in
      (b, λ x. IfThenElse (q x) pattern (r x) (s x))
  elaborate-one (t_delay {τ} {places} {v} h e) (t_delay k f) p =
      let (a, q) = elaborate-one e f p in
      (refl, ap (Delayed places τ v) q)

  elaborate-along
      : {Γ : List Ty} {e f : Expr} {τ : Ty} (p : e ≡ f) (d : Typed Declared Γ e τ)
      → elaborate (subst (λ g. Typed Declared Γ g τ) p d) ≡ elaborate d
  elaborate-along {Γ} {τ} p d =
      path_j (λ f q. elaborate (subst (λ g. Typed Declared Γ g τ) q d) ≡ elaborate d)
      (ap elaborate (subst_refl (λ g. Typed Declared Γ g τ) d)) p

  pub elaboration_exists
      : {Γ : List Ty} {e : Expr} {τ : Ty} → Typed Declared Γ e τ → (t : Term) × Elaborated Declared Γ t τ × (erase t ≡ e)
  elaboration_exists d = (elaborate d, elaborate-typed d, elaborate-erases d)

  pub elaboration_unique
      : {Γ : List Ty} {t s : Term} {σ τ : Ty}
      → Elaborated Declared Γ t σ → Elaborated Declared Γ s τ → erase t ≡ erase s → (σ ≡ τ) × (t ≡ s)
  elaboration_unique {Γ} {τ} h k p =
      let d = subst (λ e. Typed Declared Γ e τ) (sym p) (erased-typed k) in
      let (a, q) = elaborate-one (erased-typed h) d refl in
      (a, sym (elaborate-erased h) ∙ q ∙ elaborate-along (sym p) (erased-typed k) ∙ elaborate-erased k)
