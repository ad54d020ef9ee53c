-- Each constant of a DELAY is checked once, in text order: a production that is no DELAY holds no DELAY, so the places up to its rest are
-- those of its parts; and the places of tokens increase.
-- Assumes nothing.
use Prim.Native.Nat.{ℕ}
use native.Mathlib.Omega.{arith}
use mathlib.Core.Path.{◌≡◌, refl, sym, ap, ◌∙◌}
use mathlib.Core.Bool.{Bool, true, false, cond}
use mathlib.Core.List.{List, [], ◌∷◌, ◌++◌, append-nil}
use Rattle.grammar.specs.Tokens.{Token, Tokens, no_token, a_blank, a-symbol, a_word, spells_keyword, spells_name}
use Rattle.grammar.specs.Source.{Identifier, Declaration, SourceConstant, SourcePattern, Expression, Text}
use Rattle.grammar.specs.Grammar.{ReadsOthers, no_other, one_other, ReadsDeclaration, reads_constructors, reads_pair_of}
use Rattle.grammar.specs.Grammar.{ReadsMore, no_more, one_more, ReadsConstant, reads_constructor, reads_undefined, reads_both}
use Rattle.grammar.specs.Grammar.{ReadsPattern, reads_alone, reads_parts, reads_alone_or, reads_parts_or}
use Rattle.grammar.specs.Grammar.{ReadsExpression, reads_named, reads_undefined_of, reads_pair, reads_first, reads_second, reads_let}
use Rattle.grammar.specs.Grammar.{reads_let_rec, reads_if, reads_delay, ReadsText, reads_text}
use Rattle.name_rules.specs.Checks.{check_places}
use Rattle.name_rules.specs.Constants.{constant_place, constant_checks, constants_of_text}
use Rattle.name_rules.specs.Promises.{DelayPhase, before_delay, bracket_next, constant_next, after_keyword, is_query, constant_places, Increasing}
use Rattle.name_rules.proofs.EachOnce.{places-both}
use Rattle.name_rules.proofs.TextOrder.{PlacesFrom, from-none, from_one, from-lower, increasing, run_long}

abbrev places : List Token → List ℕ
places ts = constant_places before_delay ts

-- no constant of a DELAY stands in a declaration, in a constant or in a pattern
others-none : {a r : List Token} {cs : List Identifier} → ReadsOthers a cs r → places r ≡ places a
others-none no_other = refl
others-none (one_other h) = others-none h

declaration-none : {a r : List Token} {d : Declaration} → ReadsDeclaration a d r → places r ≡ places a
declaration-none (reads_constructors h) = others-none h
declaration-none reads_pair_of = refl

list-none : {a r : List Token} {ds : List Declaration} → ReadsMore a ds r → places r ≡ places a
list-none no_more = refl
list-none (one_more h k) = list-none k ∙ declaration-none h

constant-none : {a r : List Token} {c : SourceConstant} → ReadsConstant a c r → places r ≡ places a
constant-none reads_constructor = refl
constant-none reads_undefined = refl
constant-none (reads_both h k) = constant-none k ∙ constant-none h

pattern-none : {a r : List Token} {m : SourcePattern} → ReadsPattern a m r → places r ≡ places a
pattern-none reads_alone = refl
pattern-none (reads_parts h k) = pattern-none k ∙ pattern-none h
pattern-none (reads_alone_or h) = pattern-none h
pattern-none (reads_parts_or h k l) = pattern-none l ∙ pattern-none k ∙ pattern-none h

-- the constant after DELAY and a bracket
constant-start : {a r : List Token} {c : SourceConstant} → ReadsConstant a c r → constant_places constant_next a ≡ constant_place c ∷ places r
constant-start reads_constructor = refl
constant-start reads_undefined = refl
constant-start (reads_both {p} h k) = ap (λ l. p ∷ l) (sym (constant-none k ∙ constant-none h))

expression-constants : {a r : List Token} {e : Expression} (ds : List Declaration)
    → ReadsExpression a e r → check_places (constant_checks ds e) ++ places r ≡ places a
expression-constants ds reads_named = refl
expression-constants ds reads_undefined_of = refl
expression-constants {r} ds (reads_pair {e} {f} h k) =
    places-both (constant_checks ds e) (constant_checks ds f) (places r) (expression-constants ds h) (expression-constants ds k)
expression-constants ds (reads_first h) = expression-constants ds h
expression-constants ds (reads_second h) = expression-constants ds h
expression-constants {r} ds (reads_let {e} {f} h k) =
    places-both (constant_checks ds e) (constant_checks ds f) (places r) (expression-constants ds h) (expression-constants ds k)
expression-constants {r} ds (reads_let_rec {e} {f} h k) =
    places-both (constant_checks ds e) (constant_checks ds f) (places r) (expression-constants ds h) (expression-constants ds k)
expression-constants {r} ds (reads_if {d} {e} {f} {g} h i k l) =
    places-both (constant_checks ds e ++ constant_checks ds f) (constant_checks ds g) (places r)
    (places-both (constant_checks ds e) (constant_checks ds f) (places d) (expression-constants ds h) (expression-constants ds k ∙ pattern-none i))
    (expression-constants ds l)
expression-constants ds (reads_delay {c} h k) = ap (λ l. constant_place c ∷ l) (expression-constants ds k) ∙ sym (constant-start h)

pub each_constant_once : {ts : List Token} {t : Text} → ReadsText ts t → check_places (constants_of_text t) ≡ constant_places before_delay ts
each_constant_once (reads_text {d} {ds} {e} h k l) =
    sym (append-nil (check_places (constant_checks (d ∷ ds) e))) ∙ expression-constants (d ∷ ds) l ∙ list-none k ∙ declaration-none h

either-from : {i : ℕ} {x y : List ℕ} (b : Bool) → PlacesFrom i x → PlacesFrom i y → PlacesFrom i (cond b x y)
either-from true f g = f
either-from false f g = g

constants-from : {i : ℕ} {bs : List ℕ} {ts : List Token} (q : DelayPhase) → Tokens i bs ts → PlacesFrom i (constant_places q ts)
constants-from before_delay no_token = from-none
constants-from bracket_next no_token = from-none
constants-from constant_next no_token = from-none
constants-from q (a_blank e t) = from-lower (omega arith) (constants-from q t)
constants-from before_delay (a-symbol e t) = from-lower (omega arith) (constants-from before_delay t)
constants-from bracket_next (a-symbol e t) = from-lower (omega arith) (constants-from constant_next t)
constants-from constant_next (a-symbol {i} {s} e t) =
    either-from (is_query s) (from-lower (omega arith) (constants-from constant_next t)) (from_one {i = i} {p = i} (omega arith) (constants-from before_delay t))
constants-from before_delay (a_word {i} {word} r (spells_keyword {k} e) t) = from-lower (omega (arith, run_long r)) (constants-from (after_keyword k) t)
constants-from before_delay (a_word {i} {word} r (spells_name a l) t) = from-lower (omega (arith, run_long r)) (constants-from before_delay t)
constants-from bracket_next (a_word {i} {word} r s t) = from-lower (omega (arith, run_long r)) (constants-from constant_next t)
constants-from constant_next (a_word {i} {word} r (spells_keyword e) t) = from-lower (omega (arith, run_long r)) (constants-from before_delay t)
constants-from constant_next (a_word {i} {word} r (spells_name a l) t) =
    from_one {i = i} {p = i} (omega arith) (from-lower (omega (arith, run_long r)) (constants-from before_delay t))

pub constants-increase : {i : ℕ} {bs : List ℕ} {ts : List Token} → Tokens i bs ts → Increasing (constant_places before_delay ts)
constants-increase t = increasing (constants-from before_delay t)
