-- The walk stands at the token that begins after the blanks, and the code holds what the tokens before it said.
-- Assumes nothing.
use Prim.Native.Nat.{ℕ, ◌+◌, ◌-◌, ◌≤◌}
use mathlib.Core.Path.{◌≡◌}
use mathlib.Core.List.{List}
use lib.ListN.{length, drop}
use Rattle.grammar.specs.Tokens.{Token}
use Rattle.grammar.specs.Source.{Text}
use Rattle.grammar.specs.Legal.{Reading}
use Rattle.lexer.specs.Scanned.{blanks_in}
use Rattle.resolving.specs.Walked.{TakingToken, WalkHeld}
use Rattle.resolving.proofs.resolve.Given as goal

abbrev pub invariant-loop-start : goal.invariant-loop-start
invariant-loop-start l =
    (l.walk.scope.names.text.now ≡ l.text) × TakingToken l.walk l.start × (l.start ≤ length l.text)
    × ((i : ℕ) × (i ≤ length l.text) × (l.start ≡ i + blanks_in (drop i l.text))
    × ((ts : List Token) (t : Text) → Reading l.text ts t → WalkHeld l.text ts t i l.walk l.code))

abbrev pub decreases-loop-start : goal.decreases-loop-start
decreases-loop-start l = length l.text - l.start
