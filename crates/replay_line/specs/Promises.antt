-- What is promised of what `sheetreplay` prints; one term of each stands in `proofs/Kept.antt`.
use Rattle.std.specs.Prelude.{◌≡◌, [], ◌∷◌}
use Rattle.behaviour.specs.Bench.{toggle}
use Rattle.listing.specs.Lines.{ascii}
use Rattle.replay_line.specs.ReplayLine.{replay_printed}

-- So it is with the sheet T on 1 2 1, whose outputs are 2 1 1.
abbrev pub ToggleReplayed : Type 0
ToggleReplayed =
    (replay_printed toggle (1 ∷ 2 ∷ 1 ∷ []) (2 ∷ 1 ∷ 1 ∷ []) ≡ ascii "agrees 3\n")
    × (replay_printed toggle (1 ∷ 2 ∷ 1 ∷ []) (2 ∷ 9 ∷ 9 ∷ []) ≡ ascii "cycle 1 leaf 0\n")
    × (replay_printed toggle [] [] ≡ ascii "agrees 0\n")
    × (replay_printed toggle (1 ∷ 2 ∷ 1 ∷ []) (2 ∷ 1 ∷ []) ≡ ascii "refused 17 at 3\n")
    × (replay_printed toggle (1 ∷ 3 ∷ []) [] ≡ ascii "refused 9 at 1\n")

pub record LinePromises : Type 0 where
  pub toggle_replayed : ToggleReplayed
