-- Judging as stores into a table: after it, each record of the tree has the width that was stored for it, and every other entry
-- is what it was. No record stands twice in the tree, so no store undoes another. By induction on the tree.
-- Assumes nothing.
use Prim.Native.Nat.{ℕ, ◌<◌}
use mathlib.Core.List.Memᴰ
use mathlib.Core.List.{
  List,
  [],
  ◌∷◌,
  ◌++◌,
  Memᴰ,
}
use mathlib.Core.Path.{◌≡◌, refl, ap, ◌∙◌}
use mathlib.Core.Logic.{◌⊎◌, inl, inr}
use lib.ListN.{length, get_or, set, length-set}
use lib.Seq.{get_or-set_same, get_or-set_other}
use native.Mathlib.Omega.{arith}
use Rattle.records.specs.Trees.{Tree, no_expression, constant_of, name_of, tuple_of, first_of, second_of, let_of, feedback_of, if_of, delay_of, type_record_of}
use Rattle.records.specs.Written.{expression_records, Distinct}
use Rattle.typing.specs.Judging.{noted}
use Rattle.typing.specs.ExpressionWidth.{width}

-- a record and the width stored there
pub record Note : Type 0 where
  pub at : ℕ
  pub leaves : ℕ

abbrev note : ℕ → ℕ → Note
note r v = record { at = r; leaves = v }

-- what judging a tree stores, in the order of `expression_records`
abbrev pub notes : List ℕ → List ℕ → Tree → List Note
notes s Γ no_expression = []
notes s Γ (constant_of r t ls) = note r (width s Γ (constant_of r t ls)) ∷ []
notes s Γ (name_of r k) = note r (width s Γ (name_of r k)) ∷ []
notes s Γ (tuple_of r a b) = note r (width s Γ (tuple_of r a b)) ∷ (notes s Γ a ++ notes s Γ b)
notes s Γ (first_of r a) = note r (width s Γ (first_of r a)) ∷ notes s Γ a
notes s Γ (second_of r a) = note r (width s Γ (second_of r a)) ∷ notes s Γ a
notes s Γ (let_of r a b) = note r (width s Γ (let_of r a b)) ∷ (notes s Γ a ++ notes s (type_record_of s Γ a ∷ Γ) b)
notes s Γ (feedback_of r t a b) =
    note r (width s Γ (feedback_of r t a b)) ∷ (notes s (t ∷ Γ) a ++ notes s (t ∷ Γ) b)
notes s Γ (if_of r a p b c) = note r (width s Γ (if_of r a p b c)) ∷ (notes s Γ a ++ (notes s Γ b ++ notes s Γ c))
notes s Γ (delay_of r t ls a) = note r (width s Γ (delay_of r t ls a)) ∷ notes s Γ a

-- the table `after` is `before` with these notes stored, at these records
pub record Stored (rs : List ℕ) (ns : List Note) (before after : List ℕ) : Type 0 where
  pub long : length after ≡ length before
  pub keyed : (n : Note) → Memᴰ n ns → Memᴰ n.at rs
  pub stored : (n : Note) → Memᴰ n ns → get_or after n.at 0 ≡ n.leaves
  pub kept : (x : ℕ) → (Memᴰ x rs → ⊥) → get_or after x 0 ≡ get_or before x 0

abbrev Apart : List ℕ → List ℕ → Type 0
Apart rs ls = (x : ℕ) → Memᴰ x rs → Memᴰ x ls → ⊥

-- distinct records in two lists
distinct-parts : (rs ls : List ℕ) → Distinct (rs ++ ls) → Distinct rs × Distinct ls × Apart rs ls
distinct-parts [] ls d = (tt, d, λ x m. elim m [ ])
distinct-parts (r ∷ rs) ls d =
    let p = distinct-parts rs ls d.1 in
    ((λ m. d.0 (Memᴰ.append_left ls m), p.0), p.1, λ x m n. go x n (Memᴰ.cases_cons m) p.2)
  where
    go : (x : ℕ) → Memᴰ x ls → (x ≡ r) ⊎ Memᴰ x rs → Apart rs ls → ⊥
    go x n (inl e) apart = d.0 (Memᴰ.append_right rs (rw e at n))
    go x n (inr m) apart = apart x m n

none-stored : (w : List ℕ) → Stored [] [] w w
none-stored w = record {
  long = refl;
  keyed = λ n m. elim m [ ];
  stored = λ n m. elim m [ ];
  kept = λ x f. refl;
}

-- one store more, at another record
own-stored : {rs : List ℕ} {ns : List Note} {w t : List ℕ} (r v : ℕ) → Stored rs ns w t → r < length w → (Memᴰ r rs → ⊥)
    → Stored (r ∷ rs) (note r v ∷ ns) w (set t r v)
own-stored {rs} {ns} {w} {t} r v o h new = record {
  long = length-set t r v ∙ o.long;
  keyed = λ n m. keyed n (Memᴰ.cases_cons m);
  stored = λ n m. stored n (Memᴰ.cases_cons m);
  kept = λ x f. get_or-set_other t r x v 0 (λ e. f (Memᴰ.head e)) ∙ o.kept x (λ m. f (Memᴰ.tail m));
}
  where
    keyed : (n : Note) → (n ≡ note r v) ⊎ Memᴰ n ns → Memᴰ n.at (r ∷ rs)
    keyed n (inl e) = Memᴰ.head (ap (λ n. n.at) e)
    keyed n (inr m) = Memᴰ.tail (o.keyed n m)

    stored : (n : Note) → (n ≡ note r v) ⊎ Memᴰ n ns → get_or (set t r v) n.at 0 ≡ n.leaves
    stored n (inl e) = let l = o.long in rw e (get_or-set_same t r v 0 (omega arith))
    stored n (inr m) =
        get_or-set_other t r n.at v 0 (λ e. new (rw e at (o.keyed n m))) ∙ o.stored n m

-- one tree's stores and then another's
both_stored : {rs ls : List ℕ} {ns ks : List Note} {w t u : List ℕ} → Stored rs ns w t → Stored ls ks t u → Apart rs ls
    → Stored (rs ++ ls) (ns ++ ks) w u
both_stored {rs} {ls} {ns} {ks} {w} {t} {u} o p apart = record {
  long = p.long ∙ o.long;
  keyed = λ n m. keyed n (Memᴰ.append_cases ns m);
  stored = λ n m. stored n (Memᴰ.append_cases ns m);
  kept = λ x f. p.kept x (λ m. f (Memᴰ.append_right rs m)) ∙ o.kept x (λ m. f (Memᴰ.append_left ls m));
}
  where
    keyed : (n : Note) → Memᴰ n ns ⊎ Memᴰ n ks → Memᴰ n.at (rs ++ ls)
    keyed n (inl m) = Memᴰ.append_left ls (o.keyed n m)
    keyed n (inr m) = Memᴰ.append_right rs (p.keyed n m)

    stored : (n : Note) → Memᴰ n ns ⊎ Memᴰ n ks → get_or u n.at 0 ≡ n.leaves
    stored n (inl m) = p.kept n.at (apart n.at (o.keyed n m)) ∙ o.stored n m
    stored n (inr m) = p.stored n m

-- all of these records are in the table
abbrev pub AllInTable : List ℕ → List ℕ → Type 0
AllInTable rs w = (x : ℕ) → Memᴰ x rs → x < length w

in_table : {rs ls : List ℕ} {ns : List Note} {w t : List ℕ} → Stored ls ns w t → AllInTable rs w → AllInTable rs t
in_table o h = λ x m. let l = o.long in let b = h x m in omega arith

-- A tree's records distinct and in the table are stored: the claim of the law below, for a tree that stores `ns`.
abbrev Stores : List ℕ → List Note → List ℕ → List ℕ → Type 0
Stores rs ns w t = Distinct rs → AllInTable rs w → Stored rs ns w t

own-stores : {rs : List ℕ} {ns : List Note} {w t : List ℕ} (r v : ℕ) → Stores rs ns w t
    → Stores (r ∷ rs) (note r v ∷ ns) w (set t r v)
own-stores r v o d h =
    own-stored r v (o d.1 (λ x m. h x (Memᴰ.tail m))) (h r (Memᴰ.head refl)) d.0

both-store : {rs ls : List ℕ} {ns ks : List Note} {w t u : List ℕ} → Stores rs ns w t → Stores ls ks t u
    → Stores (rs ++ ls) (ns ++ ks) w u
both-store {rs} {ls} o p d h =
    let q = distinct-parts rs ls d in
    let a = o q.0 (λ x m. h x (Memᴰ.append_left ls m)) in
    both_stored a (p q.1 (in_table a (λ x m. h x (Memᴰ.append_right rs m)))) q.2

-- what a tree stores
pub noted-stored : (s Γ : List ℕ) (e : Tree) (w : List ℕ) → Stores (expression_records e) (notes s Γ e) w (noted s Γ e w)
noted-stored s Γ no_expression w = λ d h. none-stored w
noted-stored s Γ (constant_of r t ls) w = own-stores r (width s Γ (constant_of r t ls)) (λ d h. none-stored w)
noted-stored s Γ (name_of r k) w = own-stores r (width s Γ (name_of r k)) (λ d h. none-stored w)
noted-stored s Γ (tuple_of r a b) w =
    own-stores r (width s Γ (tuple_of r a b)) (both-store (noted-stored s Γ a w) (noted-stored s Γ b (noted s Γ a w)))
noted-stored s Γ (first_of r a) w = own-stores r (width s Γ (first_of r a)) (noted-stored s Γ a w)
noted-stored s Γ (second_of r a) w = own-stores r (width s Γ (second_of r a)) (noted-stored s Γ a w)
noted-stored s Γ (let_of r a b) w =
    own-stores r (width s Γ (let_of r a b))
    (both-store (noted-stored s Γ a w) (noted-stored s (type_record_of s Γ a ∷ Γ) b (noted s Γ a w)))
noted-stored s Γ (feedback_of r t a b) w =
    own-stores r (width s Γ (feedback_of r t a b))
    (both-store (noted-stored s (t ∷ Γ) a w) (noted-stored s (t ∷ Γ) b (noted s (t ∷ Γ) a w)))
noted-stored s Γ (if_of r a p b c) w =
    own-stores r (width s Γ (if_of r a p b c))
    (both-store (noted-stored s Γ a w)
    (both-store (noted-stored s Γ b (noted s Γ a w)) (noted-stored s Γ c (noted s Γ b (noted s Γ a w)))))
noted-stored s Γ (delay_of r t ls a) w = own-stores r (width s Γ (delay_of r t ls a)) (noted-stored s Γ a w)
