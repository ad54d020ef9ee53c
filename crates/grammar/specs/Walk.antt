-- The first place at which the machine has no step, with the limit and the end of the text.
use Rattle.std.specs.Prelude.{ℕ, suc, cond, List, [], ◌∷◌, length, take, ltb}
use Rattle.std.proofs.Math.Option.{Option, none, some}
use Rattle.grammar.specs.Legal.{text_bytes, Keeps, LeavesGrammar}
use Rattle.grammar.specs.Machine.{Config, dead, live, on_byte, ends, begins}

pub data Walked : Type 0 where
  stopped : (place : ℕ) → Walked
  came_to : Config → Walked

abbrev pub onward : (Config → Walked) → Config → ℕ → Walked
onward further dead i = stopped i
onward further (live q K w) i = further (live q K w)

abbrev pub walk : List ℕ → ℕ → Config → Walked
walk [] i c = came_to c
walk (b ∷ bs) i dead = stopped i
walk (b ∷ bs) i (live q K w) = onward (walk bs (suc i)) (on_byte b q K w) i

abbrev pub concluded : ℕ → Walked → Option ℕ
concluded n (stopped i) = some i
concluded n (came_to c) = cond (ltb text_bytes n) (some text_bytes) (cond (ends c) none (some n))

-- the place that code 13 tells, or none
unfoldable pub first_illegal : List ℕ → Option ℕ
first_illegal text = concluded (length text) (walk (take text_bytes text) 0 begins)

-- what an answer says of a text: where it leaves the grammar, or that it keeps to it
abbrev pub PlaceTold : List ℕ → Option ℕ → Type 0
PlaceTold bytes none = Keeps bytes
PlaceTold bytes (some i) = LeavesGrammar bytes i
