-- The rules of 000 (§4.2.3: `elem`, `reduce`, `iterate`, `reduceSeq`; in §3.3.3 rules 3.23, 3.24 and 3.26 to 3.39) on the
-- language's bare expressions and 000's constants: one constructor a clause. `Reduces l e c f` says that in the value
-- environment l the expression e has the value c and is f after the cycle. A constant or delay of the language holds its
-- leaves; a rule names the constant of its type that has them. A feedback carries its type alone: its initial constant is
-- the undefined one of that type. What an undecided IF gives is a parameter, as in 000's two semantics.
use Rattle.std.specs.Prelude.{ℕ, zero, suc, ◌≡◌, ◌≢◌, List, [], ◌∷◌}
use Rattle.picoella.specs.Language.{Ty, Pattern, Expr, Const, Var, Tuple, Index1, Index2, Let, LetRec, If, Delay}
use Rattle.meaning.specs.Constants.{
  ConstantTree,
  CoTuple,
  ConstantOf,
  flatten,
  bottom_of_type,
  Bool3,
  tt3,
  ff3,
  uu3,
  match,
}

-- the constant at this distance
pub data Elem : List ConstantTree → ℕ → ConstantTree → Type 0 where
  elem_here : {l : List ConstantTree} {c : ConstantTree} → Elem (c ∷ l) zero c
  elem_there : {l : List ConstantTree} {c d : ConstantTree} {n : ℕ} → Elem l n c → Elem (d ∷ l) (suc n) c

module _ (undecided : ConstantTree → ConstantTree → ConstantTree) where
  -- the `case` of the IF's clause
  abbrev pub branch : Bool3 → ConstantTree → ConstantTree → ConstantTree
  branch uu3 c d = undecided c d
  branch tt3 c d = c
  branch ff3 c d = d

  mutual
    pub data Reduces : List ConstantTree → Expr → ConstantTree → Expr → Type 0 where
      r_const : {l : List ConstantTree} {τ : Ty} {v : List ℕ} {c : ConstantTree}
          → ConstantOf τ c → flatten c ≡ v → Reduces l (Const τ v) c (Const τ v)
      r_tuple : {l : List ConstantTree} {e f e' f' : Expr} {c d : ConstantTree}
          → Reduces l e c e' → Reduces l f d f' → Reduces l (Tuple e f) (CoTuple c d) (Tuple e' f')
      r_let : {l : List ConstantTree} {e f e' f' : Expr} {c d : ConstantTree}
          → Reduces l e c e' → Reduces (c ∷ l) f d f' → Reduces l (Let e f) d (Let e' f')
      r_var : {l : List ConstantTree} {n : ℕ} {c : ConstantTree} → Elem l n c → Reduces l (Var n) c (Var n)
      r_delay : {l : List ConstantTree} {places v w : List ℕ} {τ : Ty} {e e' : Expr} {c d : ConstantTree}
          → ConstantOf τ c → flatten c ≡ v → Reduces l e d e' → flatten d ≡ w
          → Reduces l (Delay places τ v e) c (Delay places τ w e')
      r_if : {l : List ConstantTree} {p : Pattern} {e f g e' f' g' : Expr} {c d b a : ConstantTree}
          → Reduces l e c e' → Reduces l f d f' → Reduces l g b g' → branch (match p c) d b ≡ a
          → Reduces l (If e p f g) a (If e' p f' g')
      r_index1 : {l : List ConstantTree} {e e' : Expr} {c d : ConstantTree}
          → Reduces l e (CoTuple c d) e' → Reduces l (Index1 e) c (Index1 e')
      r_index2 : {l : List ConstantTree} {e e' : Expr} {c d : ConstantTree}
          → Reduces l e (CoTuple c d) e' → Reduces l (Index2 e) d (Index2 e')
      r_letrec : {l : List ConstantTree} {σ : Ty} {e f e' f' : Expr} {c d : ConstantTree}
          → Iterates l e (bottom_of_type σ) c e' → Reduces (c ∷ l) f d f' → Reduces l (LetRec σ e f) d (LetRec σ e' f')

    -- `Iterates l e c d f`: from the approximation c the defining expression e comes to d, and is then f
    pub data Iterates : List ConstantTree → Expr → ConstantTree → ConstantTree → Expr → Type 0 where
      i_unchanged : {l : List ConstantTree} {e e' : Expr} {c : ConstantTree}
          → Reduces (c ∷ l) e c e' → Iterates l e c c e'
      i_again : {l : List ConstantTree} {e e' f : Expr} {c d b : ConstantTree}
          → Reduces (c ∷ l) e d e' → c ≢ d → Iterates l e d b f → Iterates l e c b f

  -- `ReducesSeq l e inputs outputs f`: a run over the inputs gives the outputs, and e is f after the last
  pub data ReducesSeq : List ConstantTree → Expr → List ConstantTree → List ConstantTree → Expr → Type 0 where
    s_end : {l : List ConstantTree} {e : Expr} → ReducesSeq l e [] [] e
    s_cycle : {l inputs outputs : List ConstantTree} {e f g : Expr} {h c : ConstantTree}
        → Reduces (h ∷ l) e c f → ReducesSeq l f inputs outputs g → ReducesSeq l e (h ∷ inputs) (c ∷ outputs) g
