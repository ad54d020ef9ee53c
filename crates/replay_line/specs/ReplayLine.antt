-- What `sheetreplay` prints (docs/SHEETS.md, "Replaying a record"), for the answer of the replay
-- with a next slice of the right length: `agrees N`, the cycles done, or `cycle C leaf L`, from 0;
-- or the one line of a refusal, as `sheetrun` does.
use Rattle.std.specs.Prelude.{ℕ, ◌≤◌, ◌≡◌, List, length, take, replicate}
use Rattle.answers.specs.Answers.{Answer}
use Rattle.answers.specs.Answers.{Done, Refused}
use Rattle.listing.specs.Lines.{ascii, word_line, numbers_line, refused_line}
use Rattle.replay.specs.Replay.{Finding}
use Rattle.replay.specs.Replay.{Agrees, Differs}
use Rattle.replay.specs.Replay.{finding, replay_answer}

abbrev pub finding_line : Finding → List ℕ
finding_line (Agrees n) = word_line (ascii "agrees ") n
finding_line (Differs k l) = numbers_line (ascii "cycle ") k (ascii " leaf ") l

abbrev pub replay_line : Answer → Finding → List ℕ
replay_line (Done p) f = finding_line f
replay_line (Refused c p) f = refused_line c p

unfoldable pub replay_printed : (sheet stimulus recorded : List ℕ) → List ℕ
replay_printed s stim recorded =
    replay_line (replay_answer s stim recorded (replicate (length s) 0)) (finding s stim recorded)

-- the line stands at the buffer's front, up to `end`
pub record LineTold (s stim recorded line' : List ℕ) (end : ℕ) : Type 0 where
  pub text : take end line' ≡ replay_printed s stim recorded
  pub inside : end ≤ length line'
