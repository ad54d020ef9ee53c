-- A table of delay values copied to a sheet: its entries to the words a of these records; and the records to copy to, which are the
-- leaves in the chains that the delay records' words b begin, record by record.
use Rattle.std.specs.Prelude.{ℕ, zero, suc, List, [], ◌∷◌, ◌++◌, get_or}
use Rattle.records.specs.Words.{word_b}
use Rattle.records.specs.Kinds.{
  Kind,
  header,
  type_of,
  expression,
  pattern,
  leaf,
  unknown,
  constant,
  name,
  tuple,
  first,
  second,
  let_in,
  feedback,
  if_matches,
  delay,
}
use Rattle.records.specs.Says.{kind_at}
use Rattle.records.specs.Trees.{chain}
use Rattle.behaviour.specs.Entries.{put_word}

-- entries of a table copied to the words a of these records
abbrev pub copied : (table records : List ℕ) → List ℕ → List ℕ
copied h [] s = s
copied h (l ∷ ls) s = copied h ls (put_word l (get_or h l 0) s)

-- the leaves of a record of this kind, if it is a delay
abbrev pub leaves_by_kind : Kind → List ℕ → List ℕ
leaves_by_kind header ls = []
leaves_by_kind (type_of k) ls = []
leaves_by_kind (expression constant) ls = []
leaves_by_kind (expression name) ls = []
leaves_by_kind (expression tuple) ls = []
leaves_by_kind (expression first) ls = []
leaves_by_kind (expression second) ls = []
leaves_by_kind (expression let_in) ls = []
leaves_by_kind (expression feedback) ls = []
leaves_by_kind (expression if_matches) ls = []
leaves_by_kind (expression delay) ls = ls
leaves_by_kind (pattern k) ls = []
leaves_by_kind leaf ls = []
leaves_by_kind unknown ls = []

-- those of the records below n
abbrev pub delay_chains : List ℕ → ℕ → List ℕ
delay_chains s zero = []
delay_chains s (suc r) = delay_chains s r ++ leaves_by_kind (kind_at s r) (chain s (word_b s r))
