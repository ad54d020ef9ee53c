-- One cycle on sets, leaf by leaf (document 02 (n); 000, §3.3.5): the sets of a term in an environment of sets. "An undecided IF joins
-- both branches." A delay gives the set of what it holds; its part cannot matter within one cycle.
-- A call on a sheet with a feedback is refused by 22. Here its name may hold anything of its type.
use Rattle.std.specs.Prelude.{ℕ, List, [], ◌∷◌, ◌++◌, get_or, take, drop}
use Rattle.picoella.specs.Language.{bounds, leaves}
use Rattle.meaning.specs.Decisions.{Decision, Yes, No, Undecided}
use Rattle.meaning.specs.Elaboration.{
  Term,
  Constant,
  Name,
  Pair,
  First,
  Second,
  LetIn,
  Feedback,
  IfThenElse,
  Delayed,
}
use Rattle.possibilities.specs.Sets.{ConstructorSet, sets_of, unions}
use Rattle.possibilities.specs.SetMatching.{set_matches, pattern_type}

-- 000: "The output of the IF becomes the union of the outputs of the two branches in this case."
abbrev pub choose_sets : Decision → (then_sets else_sets : List ConstructorSet) → List ConstructorSet
choose_sets Yes Ss Ts = Ss
choose_sets No Ss Ts = Ts
choose_sets Undecided Ss Ts = unions Ss Ts

-- 000 takes for a pair the product of the sets of its parts, and notes that its semantics "is not optimal": a signal and its inverse are
-- taken for two signals. Leaf by leaf a pair has the sets of the one part and then those of the other.
unfoldable pub eval_sets : List (List ConstructorSet) → Term → List ConstructorSet
eval_sets ρ (Constant τ v) = sets_of (bounds τ) v
eval_sets ρ (Name n) = get_or ρ n []
eval_sets ρ (Pair t s) = eval_sets ρ t ++ eval_sets ρ s
eval_sets ρ (First σ t) = take (leaves σ) (eval_sets ρ t)
eval_sets ρ (Second σ t) = drop (leaves σ) (eval_sets ρ t)
eval_sets ρ (LetIn t s) = eval_sets (eval_sets ρ t ∷ ρ) s
eval_sets ρ (Feedback σ t s) = eval_sets (sets_of (bounds σ) [] ∷ ρ) s
eval_sets ρ (IfThenElse t p s r) =
    choose_sets (set_matches (pattern_type p) p (eval_sets ρ t)) (eval_sets ρ s) (eval_sets ρ r)
eval_sets ρ (Delayed places τ v t) = sets_of (bounds τ) v
