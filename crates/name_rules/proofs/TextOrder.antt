-- The places of a text's tokens, and so of its names, increase.
-- Assumes nothing.
use Prim.Native.Nat.{ℕ, suc, ◌≤◌}
use native.Mathlib.Omega.{arith}
use mathlib.Core.List.{List, [], ◌∷◌}
use lib.ListN.{length}
use Rattle.grammar.specs.Tokens.{Token, Tokens, no_token, a_blank, a-symbol, a_word, LetterRun, run_last, run_more}
use Rattle.grammar.specs.Tokens.{spells_keyword, spells_name}
use Rattle.name_rules.specs.Promises.{name_places, Increasing, increasing_none, increasing_one, increasing_more}

-- places from i on, increasing
pub data PlacesFrom : ℕ → List ℕ → Type 0 where
  from-none : {i : ℕ} → PlacesFrom i []
  from_one : {i p : ℕ} {ps : List ℕ} → i ≤ p → PlacesFrom (suc p) ps → PlacesFrom i (p ∷ ps)

pub from-lower : {i j : ℕ} {ps : List ℕ} → i ≤ j → PlacesFrom j ps → PlacesFrom i ps
from-lower h from-none = from-none
from-lower {i} h (from_one {p} l f) = from_one {i = i} {p = p} (omega arith) f

after : {p : ℕ} {ps : List ℕ} → PlacesFrom (suc p) ps → Increasing (p ∷ ps)
after from-none = increasing_one
after {p} (from_one {p = q} h f) = increasing_more {p = p} {q = q} (omega arith) (after f)

pub increasing : {i : ℕ} {ps : List ℕ} → PlacesFrom i ps → Increasing ps
increasing from-none = increasing_none
increasing (from_one h f) = after f

pub run_long : {bs word rest : List ℕ} → LetterRun bs word rest → 1 ≤ length word
run_long (run_last h n) = omega arith
run_long (run_more h r) = omega arith

names-from : {i : ℕ} {bs : List ℕ} {ts : List Token} → Tokens i bs ts → PlacesFrom i (name_places ts)
names-from no_token = from-none
names-from (a_blank e t) = from-lower (omega arith) (names-from t)
names-from (a-symbol e t) = from-lower (omega arith) (names-from t)
names-from (a_word {i} {word} r (spells_keyword e) t) = from-lower (omega (arith, run_long r)) (names-from t)
names-from (a_word {i} {word} r (spells_name a l) t) = from_one {i = i} {p = i} (omega arith) (from-lower (omega (arith, run_long r)) (names-from t))

pub names-increase : {i : ℕ} {bs : List ℕ} {ts : List Token} → Tokens i bs ts → Increasing (name_places ts)
names-increase t = increasing (names-from t)
