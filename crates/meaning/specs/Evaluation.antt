-- One cycle (docs/SHEETS.md, "One cycle"; 000, §4.2.3: `reduce`, `iterate`): the value of a term in an environment, and the term
-- after the cycle. What an undecided IF gives is a parameter, a rule on the values of its two branches.
-- docs/SHEETS.md calls a feedback's value the least one that its defining part gives back unchanged, and 000 applies the part
-- until nothing changes. Here it is the part applied as often as the type has leaves, from undefined: that the three are
-- one is proved. A name without a value, which no well-typed term has, has no leaves.
use Rattle.std.specs.Prelude.{ℕ, zero, suc, List, [], ◌∷◌, ◌++◌, Bool, true, false, ◌&&◌, eqb, get_or, take, drop}
use Rattle.picoella.specs.Language.{Ty, leaves}
use Rattle.meaning.specs.Values.{undefined}
use Rattle.meaning.specs.Matching.{matches}
use Rattle.meaning.specs.Decisions.{Decision, Yes, No, Undecided}
use Rattle.meaning.specs.Elaboration.{
  Term,
  Constant,
  Name,
  Pair,
  First,
  Second,
  LetIn,
  Feedback,
  IfThenElse,
  Delayed,
}

-- an application repeated
abbrev pub iter : (List ℕ → List ℕ) → ℕ → List ℕ → List ℕ
iter F zero v = v
iter F (suc k) v = F (iter F k v)

-- whether two values are the same
abbrev pub unchanged : List ℕ → List ℕ → Bool
unchanged [] [] = true
unchanged [] (w ∷ ws) = false
unchanged (v ∷ vs) [] = false
unchanged (v ∷ vs) (w ∷ ws) = eqb v w && unchanged vs ws

-- The number of applications, counted from v, that reach a value that one more gives back unchanged, at most so many: one
-- that only finds the value unchanged is not counted.
abbrev pub counted_from : (List ℕ → List ℕ) → ℕ → List ℕ → ℕ
counted_from F zero v = 0
counted_from F (suc k) v = elim (unchanged (F v) v) [ true ↦ 0 | false ↦ suc (counted_from F k (F v)) ]

module _ (undecided : List ℕ → List ℕ → List ℕ) where
  -- an IF: yes gives the then value, no the else value
  abbrev pub choose : Decision → List ℕ → List ℕ → List ℕ
  choose Yes v w = v
  choose No v w = w
  choose Undecided v w = undecided v w

  -- The value; the environment holds the innermost name's value first. All three parts of an IF are evaluated, a delay gives
  -- the value it holds, and a feedback's name has the settled value, as it is called below.
  unfoldable pub eval : List (List ℕ) → Term → List ℕ
  eval ρ (Constant τ v) = v
  eval ρ (Name n) = get_or ρ n []
  eval ρ (Pair t s) = eval ρ t ++ eval ρ s
  eval ρ (First σ t) = take (leaves σ) (eval ρ t)
  eval ρ (Second σ t) = drop (leaves σ) (eval ρ t)
  eval ρ (LetIn t s) = eval (eval ρ t ∷ ρ) s
  eval ρ (Feedback σ t s) = eval (iter (λ v. eval (v ∷ ρ) t) (leaves σ) (undefined σ) ∷ ρ) s
  eval ρ (IfThenElse t p s r) = choose (matches p (eval ρ t)) (eval ρ s) (eval ρ r)
  eval ρ (Delayed places τ v t) = v

  -- one application of a feedback's defining part; the names around it stay as they are
  abbrev pub application : List (List ℕ) → Term → List ℕ → List ℕ
  application ρ t v = eval (v ∷ ρ) t

  -- where the applications lead from an approximation (000: `iterate`, whose equations are proved of it)
  abbrev pub iterate : List (List ℕ) → Ty → Term → List ℕ → List ℕ
  iterate ρ σ t v = iter (application ρ t) (leaves σ) v

  -- the feedback's value
  abbrev pub settled : List (List ℕ) → Ty → Term → List ℕ
  settled ρ σ t = iterate ρ σ t (undefined σ)

  -- the applications that reach the feedback's value from undefined
  abbrev pub applications : List (List ℕ) → Ty → Term → ℕ
  applications ρ σ t = counted_from (application ρ t) (leaves σ) (undefined σ)

  -- the term after the cycle: each delay holds its part's value from this cycle, in a feedback at the settled value
  unfoldable pub next : List (List ℕ) → Term → Term
  next ρ (Constant τ v) = Constant τ v
  next ρ (Name n) = Name n
  next ρ (Pair t s) = Pair (next ρ t) (next ρ s)
  next ρ (First σ t) = First σ (next ρ t)
  next ρ (Second σ t) = Second σ (next ρ t)
  next ρ (LetIn t s) = LetIn (next ρ t) (next (eval ρ t ∷ ρ) s)
  next ρ (Feedback σ t s) = Feedback σ (next (settled ρ σ t ∷ ρ) t) (next (settled ρ σ t ∷ ρ) s)
  next ρ (IfThenElse t p s r) = IfThenElse (next ρ t) p (next ρ s) (next ρ r)
  next ρ (Delayed places τ v t) = Delayed places τ (eval ρ t) (next ρ t)
