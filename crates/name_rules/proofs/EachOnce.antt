-- Each name of a text is checked once, in text order: what a production reads is checked up to where its rest begins.
-- Assumes nothing.
use Prim.Native.Nat.{ℕ}
use mathlib.Core.Path.{◌≡◌, refl, sym, ap, ◌∙◌}
use mathlib.Core.List.{List, [], ◌∷◌, ◌++◌, append_assoc, append-nil}
use Rattle.grammar.specs.Tokens.{Token, name_token}
use Rattle.grammar.specs.Source.{Identifier, identifier, Declaration, SourceConstant, SourcePattern, Expression, Text}
use Rattle.grammar.specs.Grammar.{ReadsOthers, no_other, one_other, ReadsDeclaration, reads_constructors, reads_pair_of}
use Rattle.grammar.specs.Grammar.{ReadsMore, no_more, one_more, ReadsConstant, reads_constructor, reads_undefined, reads_both}
use Rattle.grammar.specs.Grammar.{ReadsPattern, reads_alone, reads_parts, reads_alone_or, reads_parts_or}
use Rattle.grammar.specs.Grammar.{ReadsExpression, reads_named, reads_undefined_of, reads_pair, reads_first, reads_second, reads_let}
use Rattle.grammar.specs.Grammar.{reads_let_rec, reads_if, reads_delay, ReadsText, reads_text}
use Rattle.name_rules.specs.Declared.{DeclaredName, declared_as, a_type, a_constructor, at_first}
use Rattle.name_rules.specs.Checks.{PlacedCheck, check_at, check_places}
use Rattle.name_rules.specs.Names.{constructor_checks, declaration_checks, declarations_checks, after_declaration, after_all, pattern_checks}
use Rattle.name_rules.specs.Names.{constant_names, expression_checks, name_checks, is_one}
use Rattle.name_rules.specs.Declared.{type_role}
use Rattle.name_rules.specs.Promises.{name_places}

places-append : (cs ds : List PlacedCheck) → check_places (cs ++ ds) ≡ check_places cs ++ check_places ds
places-append [] ds = refl
places-append (check_at p h ∷ cs) ds = ap (λ l. p ∷ l) (places-append cs ds)

-- checks up to a rest, in two parts
pub places-both : (cs ds : List PlacedCheck) (z : List ℕ) {x y : List ℕ} → check_places cs ++ y ≡ x → check_places ds ++ z ≡ y → check_places (cs ++ ds) ++ z ≡ x
places-both cs ds z e f = ap (λ l. l ++ z) (places-append cs ds) ∙ append_assoc (check_places cs) (check_places ds) z ∙ ap (λ l. check_places cs ++ l) f ∙ e

others-once : {a r : List Token} {cs : List Identifier} (D : List DeclaredName)
    → ReadsOthers a cs r → check_places (constructor_checks D cs) ++ name_places r ≡ name_places a
others-once D no_other = refl
others-once D (one_other {q} {w} h) = ap (λ l. q ∷ l) (others-once (declared_as w a_constructor ∷ D) h)

declaration-once : {a r : List Token} {d : Declaration} (D : List DeclaredName)
    → ReadsDeclaration a d r → check_places (declaration_checks D d) ++ name_places r ≡ name_places a
declaration-once D (reads_constructors {q} {t} {v} {w} h) =
    ap (λ l. q ∷ t ∷ l) (others-once (declared_as w a_constructor ∷ declared_as v a_type ∷ D) h)
declaration-once D reads_pair_of = refl

list-once : {a r : List Token} {ds : List Declaration} (D : List DeclaredName)
    → ReadsMore a ds r → check_places (declarations_checks D ds) ++ name_places r ≡ name_places a
list-once D no_more = refl
list-once {r} D (one_more {d} {ds} h k) =
    places-both (declaration_checks D d) (declarations_checks (after_declaration D d) ds) (name_places r) (declaration-once D h) (list-once (after_declaration D d) k)

constant-once : {a r : List Token} {c : SourceConstant} (D : List DeclaredName)
    → ReadsConstant a c r → check_places (constant_names D c) ++ name_places r ≡ name_places a
constant-once D reads_constructor = refl
constant-once D reads_undefined = refl
constant-once {r} D (reads_both {c} {d} h k) = places-both (constant_names D c) (constant_names D d) (name_places r) (constant-once D h) (constant-once D k)

pattern-once : {a r : List Token} {m : SourcePattern} (D : List DeclaredName)
    → ReadsPattern a m r → check_places (pattern_checks D m) ++ name_places r ≡ name_places a
pattern-once D reads_alone = refl
pattern-once {r} D (reads_parts {m} {n} h k) = places-both (pattern_checks D m) (pattern_checks D n) (name_places r) (pattern-once D h) (pattern-once D k)
pattern-once D (reads_alone_or {p} h) = ap (λ l. p ∷ l) (pattern-once D h)
pattern-once {r} D (reads_parts_or {c} {m} {n} {o} h k l) =
    places-both (pattern_checks D m ++ pattern_checks D n) (pattern_checks D o) (name_places r)
    (places-both (pattern_checks D m) (pattern_checks D n) (name_places c) (pattern-once D h) (pattern-once D k)) (pattern-once D l)

expression-once : {a r : List Token} {e : Expression} (D : List DeclaredName) (bound : List (List ℕ))
    → ReadsExpression a e r → check_places (expression_checks D bound e) ++ name_places r ≡ name_places a
expression-once D bound reads_named = refl
expression-once D bound reads_undefined_of = refl
expression-once {r} D bound (reads_pair {e} {f} h k) =
    places-both (expression_checks D bound e) (expression_checks D bound f) (name_places r) (expression-once D bound h) (expression-once D bound k)
expression-once D bound (reads_first h) = expression-once D bound h
expression-once D bound (reads_second h) = expression-once D bound h
expression-once {r} D bound (reads_let {s} {w} {e} {f} h k) =
    ap (λ l. s ∷ l)
    (places-both (expression_checks D bound e) (expression_checks D (w ∷ bound) f) (name_places r) (expression-once D bound h) (expression-once D (w ∷ bound) k))
expression-once {r} D bound (reads_let_rec {u} {x} {n} {e} {f} h k) =
    ap (λ l. u ∷ x ∷ l)
    (places-both (expression_checks D (n ∷ bound) e) (expression_checks D (n ∷ bound) f) (name_places r) (expression-once D (n ∷ bound) h) (expression-once D (n ∷ bound) k))
expression-once {r} D bound (reads_if {c} {d} {e} {f} {g} {m} h i k l) =
    places-both (expression_checks D bound e ++ pattern_checks D m ++ expression_checks D bound f) (expression_checks D bound g) (name_places r)
    (places-both (expression_checks D bound e ++ pattern_checks D m) (expression_checks D bound f) (name_places d)
    (places-both (expression_checks D bound e) (pattern_checks D m) (name_places c) (expression-once D bound h) (pattern-once D i))
    (expression-once D bound k))
    (expression-once D bound l)
expression-once {r} D bound (reads_delay {c} {e} h k) =
    places-both (constant_names D c) (expression_checks D bound e) (name_places r) (constant-once D h) (expression-once D bound k)

pub each_once : {ts : List Token} {t : Text} → ReadsText ts t → check_places (name_checks t) ≡ name_places ts
each_once (reads_text {p} {w} {c} {d} {ds} {e} h k l) =
    let D = after_all at_first (d ∷ ds) in
    let head = declarations_checks at_first (d ∷ ds) in
    let body = is_one type_role D (identifier w p) ∷ expression_checks D [] e in
    sym (append-nil (check_places (head ++ body)))
    ∙ places-both head body []
    (places-both (declaration_checks at_first d) (declarations_checks (after_declaration at_first d) ds) (name_places (name_token w p ∷ c)) (declaration-once at_first h) (list-once (after_declaration at_first d) k))
    (ap (λ x. p ∷ x) (expression-once D [] l))
