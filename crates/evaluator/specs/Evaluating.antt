-- What the evaluator is called with, and what it leaves. Γ lists the type records of the names in scope, the innermost first; the
-- names' values stand in the slots of the environment, the outermost in the first.
use Rattle.std.specs.Prelude.{ℕ, ◌+◌, ◌*◌, ◌≡◌, Bool, true, false, List, ◌∷◌, map, length, get_or, take}
use Rattle.records.specs.Limits.{environment_bytes}
use Rattle.picoella.specs.Language.{bounds, leaves}
use Rattle.records.specs.Sized.{Sized}
use Rattle.records.specs.Trees.{type_at, tree_at, type_record_of}
use Rattle.verdict.specs.Verdict.{verdict}
use Rattle.verdict.specs.Scopes.{Scope}
use Rattle.verdict.specs.Widths.{Widths}
use Rattle.answers.specs.Answers.{Accepted}
use Rattle.meaning.specs.Values.{Both, ValuesOf}
use Rattle.meaning.specs.Undecided.{undecided_rule}
use Rattle.meaning.specs.Evaluation.{iterate}
use Rattle.behaviour.specs.Terms.{term}
use Rattle.behaviour.specs.Evaluated.{value_at}
use Rattle.behaviour.specs.Midway.{stored_at}
use Rattle.behaviour.specs.Midway.{fired_at}
use Rattle.values.specs.Slots.{slot, frames}

-- an expression is at hand: record rec of an accepted sheet, with the names of Γ in scope, and a slice as wide as its type
pub record Ready (s : List ℕ) (n : ℕ) (widths env : List ℕ) (names rec : ℕ) (out Γ : List ℕ) : Type 0 where
  pub sized : Sized s n
  pub type : ℕ
  pub accepted : verdict s ≡ Accepted type
  pub table : Widths s widths
  pub scope : Scope s rec Γ
  pub many : length Γ ≡ names
  pub wide : length env ≡ environment_bytes
  pub room : length out ≡ get_or widths rec 0

-- it is evaluated: the values of the names stand in the environment
pub record EvaluatingIn (s : List ℕ) (n : ℕ) (widths env : List ℕ) (names rec : ℕ) (out Γ : List ℕ) : Type 0 where
  pub at_hand : Ready s n widths env names rec out Γ
  pub values : ValuesOf (map (type_at s) Γ) (frames s Γ env)

-- a table after an evaluation: with what is entered where the whole of it is wanted, and as it was where its value alone is
pub record Wanted (whole : Bool) (entering : List ℕ → List ℕ) (table table' : List ℕ) : Type 0 where
  pub if_whole : whole ≡ true → table' ≡ entering table
  pub if_value : whole ≡ false → table' ≡ table

-- what comes of it: the value, and an environment with the same names; where the whole is wanted, the delays' next values in their
-- table and the numbers of its IFs in theirs
pub record EvaluatedIn (whole : Bool) (s Γ env : List ℕ) (names rec : ℕ) (held fired env' held' fired' out' : List ℕ) : Type 0 where
  pub value : out' ≡ value_at undecided_rule s Γ (frames s Γ env) rec
  pub stored : Wanted whole (stored_at undecided_rule s Γ (frames s Γ env) rec) held held'
  pub noted : Wanted whole (fired_at undecided_rule s Γ (frames s Γ env) rec) fired fired'
  pub wide : length env' ≡ environment_bytes
  pub kept : take (64 * names) env' ≡ take (64 * names) env

-- an approximation of a feedback's value stands in the slot of its name, which is the innermost in scope at its defining part d
abbrev pub approximation : (s : List ℕ) (t names : ℕ) (env : List ℕ) → List ℕ
approximation s t names env = slot names (leaves (type_at s t)) env

-- where the applications of the defining part lead from it
abbrev pub leads_to : (s : List ℕ) (t : ℕ) (Γ : List ℕ) (d names : ℕ) (env : List ℕ) → List ℕ
leads_to s t Γ d names env =
    iterate undecided_rule (frames s Γ env) (type_at s t) (term s (t ∷ Γ) (tree_at s d)) (approximation s t names env)

-- a feedback of type t is settled, with the names of Γ around it, from an approximation that lies at or below what the defining
-- part gives for it
pub record SettlingIn (s : List ℕ) (n : ℕ) (widths env : List ℕ) (names d : ℕ) (value : List ℕ) (t : ℕ) (Γ : List ℕ) : Type 0 where
  pub ready : EvaluatingIn s n widths env (names + 1) d value (t ∷ Γ)
  pub same : type_record_of s (t ∷ Γ) (tree_at s d) ≡ t
  pub rises
      : Both (bounds (type_at s t)) (approximation s t names env)
      (value_at undecided_rule s (t ∷ Γ) (frames s (t ∷ Γ) env) d)

-- the settled value stands there; next values and numbers are those of the defining part at that value
pub record SettledIn (whole : Bool) (s : List ℕ) (t : ℕ) (Γ env : List ℕ) (names d : ℕ) (held fired env' held' fired' : List ℕ) : Type 0 where
  pub reached : approximation s t names env' ≡ leads_to s t Γ d names env
  pub stored : Wanted whole (stored_at undecided_rule s (t ∷ Γ) (leads_to s t Γ d names env ∷ frames s Γ env) d) held held'
  pub noted : Wanted whole (fired_at undecided_rule s (t ∷ Γ) (leads_to s t Γ d names env ∷ frames s Γ env) d) fired fired'
  pub wide : length env' ≡ environment_bytes
  pub kept : take (64 * names) env' ≡ take (64 * names) env

-- The contracts: for every list of names in scope with which the call is ready.
pub record Evaluated
    (whole : Bool)
    (s : List ℕ)
    (n : ℕ)
    (widths env : List ℕ)
    (names rec : ℕ)
    (held fired out env' held' fired' out' : List ℕ)
    : Type 0
  where
    pub done : (Γ : List ℕ) → EvaluatingIn s n widths env names rec out Γ
        → EvaluatedIn whole s Γ env names rec held fired env' held' fired' out'

pub record Settled
    (whole : Bool)
    (s : List ℕ)
    (n : ℕ)
    (widths env : List ℕ)
    (names d : ℕ)
    (held fired value env' held' fired' : List ℕ)
    : Type 0
  where
    pub settled : (t : ℕ) (Γ : List ℕ) → SettlingIn s n widths env names d value t Γ
        → SettledIn whole s t Γ env names d held fired env' held' fired'
