-- The rules of a text (001, §2: an evaluation gives "a value output together with a description of the circuit at the next time step"), one
-- constructor a rule, with names: an environment lists the names bound so far with their values, and the nearest is meant. A name that
-- is not bound is a constructor. All three parts of an IF are evaluated; a delay gives the value that it holds, and holds its part's value
-- next; a feedback's part is evaluated from undefined on until its value is unchanged.
use Rattle.std.specs.Prelude.{ℕ, ◌≡◌, ◌≢◌, true, cond, List, [], ◌∷◌}
use Rattle.std.proofs.Math.Option.{Option, none, some}
use Rattle.grammar.specs.Source.{SourcePattern}
use Rattle.name_rules.specs.Declared.{same_name, input, DeclaredName, is_declared, constructor_role}
use Rattle.text_meaning.specs.NamedValues.{NamedValue, Made, Couple, matches_named, chosen_value}
use Rattle.text_meaning.specs.Circuits.{
  NamedCircuit,
  Uses,
  Always,
  Pairs,
  FirstPart,
  SecondPart,
  Binds,
  FeedsBack,
  Chooses,
  Delays,
}

pub data Binding : Type 0 where
  binding : (letters : List ℕ) (value : NamedValue) → Binding

-- "A nearer name hides a farther one"
abbrev pub nearest_binding : List Binding → List ℕ → Option NamedValue
nearest_binding [] w = none
nearest_binding (binding u v ∷ ρ) w = cond (same_name w u) (some v) (nearest_binding ρ w)

module _ (D : List DeclaredName) where
  mutual
    -- in the environment ρ the circuit c has the value v and is c' at the next cycle
    pub data CircuitGives : List Binding → NamedCircuit → NamedValue → NamedCircuit → Type 0 where
      gives_bound : {ρ : List Binding} {w : List ℕ} {v : NamedValue} → nearest_binding ρ w ≡ some v → CircuitGives ρ (Uses w) v (Uses w)
      gives_constructor : {ρ : List Binding} {w : List ℕ}
          → nearest_binding ρ w ≡ none → is_declared constructor_role w D ≡ true → CircuitGives ρ (Uses w) (Made w) (Uses w)
      gives_always : {ρ : List Binding} {v : NamedValue} → CircuitGives ρ (Always v) v (Always v)
      gives_pair : {ρ : List Binding} {c d c' d' : NamedCircuit} {v w : NamedValue}
          → CircuitGives ρ c v c' → CircuitGives ρ d w d' → CircuitGives ρ (Pairs c d) (Couple v w) (Pairs c' d')
      gives_first : {ρ : List Binding} {c c' : NamedCircuit} {v w : NamedValue}
          → CircuitGives ρ c (Couple v w) c' → CircuitGives ρ (FirstPart c) v (FirstPart c')
      gives_second : {ρ : List Binding} {c c' : NamedCircuit} {v w : NamedValue}
          → CircuitGives ρ c (Couple v w) c' → CircuitGives ρ (SecondPart c) w (SecondPart c')
      gives_let : {ρ : List Binding} {x : List ℕ} {c d c' d' : NamedCircuit} {v w : NamedValue}
          → CircuitGives ρ c v c' → CircuitGives (binding x v ∷ ρ) d w d' → CircuitGives ρ (Binds x c d) w (Binds x c' d')
      gives_feedback : {ρ : List Binding} {x : List ℕ} {c d c' d' : NamedCircuit} {i v w : NamedValue}
          → ComesTo ρ x c i v c' → CircuitGives (binding x v ∷ ρ) d w d' → CircuitGives ρ (FeedsBack i x c d) w (FeedsBack i x c' d')
      gives_if : {ρ : List Binding} {m : SourcePattern} {c d e c' d' e' : NamedCircuit} {u v w a : NamedValue}
          → CircuitGives ρ c u c' → CircuitGives ρ d v d' → CircuitGives ρ e w e' → chosen_value (matches_named D m u) v w ≡ a
          → CircuitGives ρ (Chooses c m d e) a (Chooses c' m d' e')
      gives_delay : {ρ : List Binding} {c c' : NamedCircuit} {h v : NamedValue}
          → CircuitGives ρ c v c' → CircuitGives ρ (Delays h c) h (Delays v c')

    -- from the approximation u the defining part c of the name x comes to v, and is then c'
    pub data ComesTo : List Binding → List ℕ → NamedCircuit → NamedValue → NamedValue → NamedCircuit → Type 0 where
      comes_unchanged : {ρ : List Binding} {x : List ℕ} {c c' : NamedCircuit} {u : NamedValue}
          → CircuitGives (binding x u ∷ ρ) c u c' → ComesTo ρ x c u u c'
      comes_again : {ρ : List Binding} {x : List ℕ} {c c' d : NamedCircuit} {u v w : NamedValue}
          → CircuitGives (binding x u ∷ ρ) c v c' → u ≢ v → ComesTo ρ x c v w d → ComesTo ρ x c u w d

  -- a run over the inputs gives the outputs, cycle for cycle, and c is c' after the last; `input` names the stimulus
  pub data GivesSeq : NamedCircuit → (inputs outputs : List NamedValue) → NamedCircuit → Type 0 where
    no_cycle : {c : NamedCircuit} → GivesSeq c [] [] c
    one_cycle : {c c' c'' : NamedCircuit} {i o : NamedValue} {is os : List NamedValue}
        → CircuitGives (binding input i ∷ []) c o c' → GivesSeq c' is os c'' → GivesSeq c (i ∷ is) (o ∷ os) c''
