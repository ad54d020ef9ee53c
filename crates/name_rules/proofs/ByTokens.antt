-- The checks token by token are the checks of the text: what a production reads is checked up to where its rest begins, in the scope in
-- which it stands, and leaves that scope as it was. By induction on the derivation, a line a production.
-- Assumes nothing.
use Prim.Native.Nat.{ℕ}
use mathlib.Core.Path.{◌≡◌, refl, sym, ap, ap₂, ◌∙◌}
use mathlib.Core.Bool.{Bool, true, false, cond, not}
use mathlib.Core.List.{List, [], ◌∷◌, ◌++◌, append_assoc, append-nil}
use lib.Dec.{eqb, ltb}
use Rattle.grammar.specs.Tokens.{Token, symbol, name_token, bar, index_opens, index_closes, one, two}
use Rattle.grammar.specs.Source.{Identifier, identifier, Declaration, SourceConstant, SourcePattern, Expression, Text}
use Rattle.grammar.specs.Grammar.{ReadsOthers, no_other, one_other, ReadsDeclaration, reads_constructors, reads_pair_of}
use Rattle.grammar.specs.Grammar.{ReadsConstant, reads_constructor, reads_undefined, reads_both}
use Rattle.grammar.specs.Grammar.{ReadsPattern, reads_alone, reads_parts, reads_alone_or, reads_parts_or}
use Rattle.grammar.specs.Grammar.{ReadsExpression, reads_named, reads_undefined_of, reads_pair, reads_first, reads_second, reads_let}
use Rattle.grammar.specs.Grammar.{reads_let_rec, reads_if, reads_delay, ReadsMore, no_more, one_more, ReadsText, reads_text}
use Rattle.grammar.specs.Rows.{State, start, declared, constructor_end, expression, bracket, pattern, constant, index, done}
use Rattle.grammar.specs.Rows.{in_pair_first, in_pair_second, in_let_bound, in_let_body, in_rec_bound, in_rec_body, in_tested, in_matched, in_then, in_else}
use Rattle.grammar.specs.Rows.{in_pattern_first, in_pattern_second, in_constant_first, in_constant_second, in_delay_constant, in_delayed}
use Rattle.grammar.specs.Machine.{Config, live, no_word, back, begins}
use Rattle.name_rules.specs.Declared.{Role, a_type, a_constructor, the_input, DeclaredName, declared_as, same_name, is_among, is_taken, is_declared, at_first}
use Rattle.name_rules.specs.Declared.{type_role, constructor_role, pattern_roles, value_roles}
use Rattle.name_rules.specs.Checks.{PlacedCheck, check_at}
use Rattle.name_rules.specs.Names.{constructor_checks, declaration_checks, declarations_checks, after_declaration, after_all, add_all, pattern_checks}
use Rattle.name_rules.specs.Names.{constant_names, expression_checks, name_checks, is_one}
use Rattle.name_rules.specs.TokenWalk.{NameScope, scope, role_number, role_in, admits, type_use, pattern_use, constant_use, value_use, new_name, walk_checks}

-- what a name stands for, and the rule on it

taken-role : (w : List ℕ) (D : List DeclaredName) → admits new_name (role_in w [] D) ≡ not (is_taken w D)
taken-role w [] = refl
taken-role w (declared_as v r ∷ D) = go (same_name w v) (taken-role w D)
  where
    of-role : (s : Role) → eqb (role_number s) 4 ≡ false
    of-role a_type = refl
    of-role a_constructor = refl
    of-role the_input = refl

    go : (x : Bool) → eqb (role_in w [] D) 4 ≡ not (is_taken w D) → eqb (cond x (role_number r) (role_in w [] D)) 4 ≡ not (cond x true (is_taken w D))
    go true again = of-role r
    go false again = again

module _ (f : ℕ → Bool) (roles : Role → Bool) (same : (r : Role) → f (role_number r) ≡ roles r) (none : f 4 ≡ false) where
  declared-role : (w : List ℕ) (D : List DeclaredName) → f (role_in w [] D) ≡ is_declared roles w D
  declared-role w [] = none
  declared-role w (declared_as v r ∷ D) = go (same_name w v) (declared-role w D)
    where
      go : (x : Bool) → f (role_in w [] D) ≡ is_declared roles w D → f (cond x (role_number r) (role_in w [] D)) ≡ cond x (roles r) (is_declared roles w D)
      go true again = same r
      go false again = again

type-role : (w : List ℕ) (D : List DeclaredName) → admits type_use (role_in w [] D) ≡ is_declared type_role w D
type-role = declared-role (admits type_use) type_role same refl
  where
    same : (r : Role) → admits type_use (role_number r) ≡ type_role r
    same a_type = refl
    same a_constructor = refl
    same the_input = refl

pattern-role : (w : List ℕ) (D : List DeclaredName) → admits pattern_use (role_in w [] D) ≡ is_declared pattern_roles w D
pattern-role = declared-role (admits pattern_use) pattern_roles same refl
  where
    same : (r : Role) → admits pattern_use (role_number r) ≡ pattern_roles r
    same a_type = refl
    same a_constructor = refl
    same the_input = refl

constant-role : (w : List ℕ) (D : List DeclaredName) → admits constant_use (role_in w [] D) ≡ is_declared constructor_role w D
constant-role = declared-role (admits constant_use) constructor_role same refl
  where
    same : (r : Role) → admits constant_use (role_number r) ≡ constructor_role r
    same a_type = refl
    same a_constructor = refl
    same the_input = refl

value-declared : (w : List ℕ) (D : List DeclaredName) → admits value_use (role_in w [] D) ≡ is_declared value_roles w D
value-declared = declared-role (admits value_use) value_roles same refl
  where
    same : (r : Role) → admits value_use (role_number r) ≡ value_roles r
    same a_type = refl
    same a_constructor = refl
    same the_input = refl

value_role : (w : List ℕ) (B : List (List ℕ)) (D : List DeclaredName)
    → admits value_use (role_in w B D) ≡ cond (is_among w B) true (is_declared value_roles w D)
value_role w [] D = value-declared w D
value_role w (v ∷ B) D = go (same_name w v) (value_role w B D)
  where
    go : (x : Bool) → admits value_use (role_in w B D) ≡ cond (is_among w B) true (is_declared value_roles w D)
        → admits value_use (cond x 3 (role_in w B D)) ≡ cond (cond x true (is_among w B)) true (is_declared value_roles w D)
    go true again = refl
    go false again = again

-- checks that begin with some, and what is left
record Begins (all some left : List PlacedCheck) : Type 0 where
  split : all ≡ some ++ left

none_yet : {l : List PlacedCheck} → Begins l [] l
none_yet = record { split = refl }

-- one check and what follows it
then : {x y : Bool} {l m z : List PlacedCheck} (p : ℕ) → x ≡ y → Begins l m z → Begins (check_at p x ∷ l) (check_at p y ∷ m) z
then p e f = record { split = ap₂ (λ a b. check_at p a ∷ b) e f.split }

-- two parts up to a rest
both-parts : {w a x b z : List PlacedCheck} → Begins w a x → Begins x b z → Begins w (a ++ b) z
both-parts {a} {b} {z} e f = record { split = e.split ∙ ap (λ l. a ++ l) f.split ∙ sym (append_assoc a b z) }

-- by another name
met_by : {w v a z : List PlacedCheck} → w ≡ v → Begins v a z → Begins w a z
met_by e f = record { split = e ∙ f.split }

leaves_to : {w a y z : List PlacedCheck} → Begins w a y → y ≡ z → Begins w a z
leaves_to {a} e f = record { split = e.split ∙ ap (λ l. a ++ l) f }

-- the machine with no word begun
abbrev at : State → List State → Config
at q K = live q K no_word

others : {a r : List Token} {cs : List Identifier} (K : List State) (P : List (List ℕ)) (D : List DeclaredName) → ReadsOthers a cs r
    → Begins (walk_checks (at constructor_end K) (scope P [] D) a) (constructor_checks D cs) (walk_checks (at declared K) (scope P [] (add_all cs D)) r)
others K P D no_other = none_yet
others K P D (one_other {q} {w} h) = then q (taken-role w D) (others K P (declared_as w a_constructor ∷ D) h)

declaration : {a r : List Token} {d : Declaration} (K : List State) (P : List (List ℕ)) (D : List DeclaredName) → ReadsDeclaration a d r
    → Begins (walk_checks (at declared K) (scope P [] D) a) (declaration_checks D d) (walk_checks (at declared K) (scope P [] (after_declaration D d)) r)
declaration K P D (reads_constructors {q} {t} {v} {w} h) =
    then q (taken-role v D)
    (then t (taken-role w (declared_as v a_type ∷ D)) (others K P (declared_as w a_constructor ∷ declared_as v a_type ∷ D) h))
declaration K P D (reads_pair_of {q} {u} {x} {m} {n} {o}) = then q (taken-role m D) (then u (type-role n D) (then x (type-role o D) none_yet))

first-declaration : {a r : List Token} {d : Declaration} (K : List State) (S : NameScope) → ReadsDeclaration a d r
    → walk_checks (at start K) S a ≡ walk_checks (at declared K) S a
first-declaration K S (reads_constructors h) = refl
first-declaration K S reads_pair_of = refl

more : {a r : List Token} {ds : List Declaration} {w : List ℕ} {p : ℕ} (K : List State) (P : List (List ℕ)) (D : List DeclaredName)
    → ReadsMore a ds (name_token w p ∷ r)
    → Begins (walk_checks (at declared K) (scope P [] D) a)
    (declarations_checks D ds) (is_one type_role (after_all D ds) (identifier w p) ∷ walk_checks (at expression K) (scope P [] (after_all D ds)) r)
more {r} {w} {p} K P D no_more =
    record { split = ap (λ x. check_at p x ∷ walk_checks (at expression K) (scope P [] D) r) (type-role w D) }
more K P D (one_more {d} h k) =
    both-parts (declaration K P D h) (more K P (after_declaration D d) k)

module _ (P B : List (List ℕ)) (D : List DeclaredName) where
  constants : {a r : List Token} {c : SourceConstant} (K : List State) → ReadsConstant a c r
      → Begins (walk_checks (at constant K) (scope P B D) a) (constant_names D c) (walk_checks (back K no_word) (scope P B D) r)
  constants K (reads_constructor {p} {w}) = then p (constant-role w D) none_yet
  constants K (reads_undefined {q} {w}) = then q (type-role w D) none_yet
  constants K (reads_both h k) = both-parts (constants (in_constant_first ∷ K) h) (constants (in_constant_second ∷ K) k)

  -- a state after which a bar goes on with a pattern
  abbrev Barred : State → List State → Type 0
  Barred q K =
      (p : ℕ) (b : List Token) → walk_checks (at q K) (scope P B D) (symbol bar p ∷ b) ≡ walk_checks (at pattern (q ∷ K)) (scope P B D) b

  patterns : {a r : List Token} {m : SourcePattern} (q : State) (K : List State) → Barred q K → ReadsPattern a m r
      → Begins (walk_checks (at pattern (q ∷ K)) (scope P B D) a) (pattern_checks D m) (walk_checks (at q K) (scope P B D) r)
  patterns q K b (reads_alone {p} {w}) = then p (pattern-role w D) none_yet
  patterns q K b (reads_parts h k) =
      both-parts (patterns in_pattern_first (q ∷ K) (λ p c. refl) h) (patterns in_pattern_second (q ∷ K) (λ p c. refl) k)
  patterns q K b (reads_alone_or {p} {q = s} {w} {a} h) = then p (pattern-role w D) (met_by (b s a) (patterns q K b h))
  patterns q K b (reads_parts_or {t} {c} h k l) =
      both-parts (both-parts (patterns in_pattern_first (q ∷ K) (λ p c. refl) h) (patterns in_pattern_second (q ∷ K) (λ p c. refl) k))
      (met_by (b t c) (patterns q K b l))

  -- a stack under which `[` begins an index
  abbrev Indexable : List State → Type 0
  Indexable K =
      (p : ℕ) (b : List Token)
      → walk_checks (back K no_word) (scope P B D) (symbol index_opens p ∷ b) ≡ walk_checks (at index K) (scope P B D) b

  -- after a bracket an expression is the first of a pair
  in-bracket : {a r : List Token} {e : Expression} (K : List State) → ReadsExpression a e r
      → walk_checks (at bracket K) (scope P B D) a ≡ walk_checks (at expression (in_pair_first ∷ K)) (scope P B D) a
  in-bracket K reads_named = refl
  in-bracket K reads_undefined_of = refl
  in-bracket K (reads_pair h k) = refl
  in-bracket K (reads_first h) = in-bracket K h
  in-bracket K (reads_second h) = in-bracket K h
  in-bracket K (reads_let h k) = refl
  in-bracket K (reads_let_rec h k) = refl
  in-bracket K (reads_if h m k l) = refl
  in-bracket K (reads_delay h k) = refl

expressions : {a r : List Token} {e : Expression} (K : List State) (P B : List (List ℕ)) (D : List DeclaredName) → Indexable P B D K
    → ReadsExpression a e r
    → Begins (walk_checks (at expression K) (scope P B D) a) (expression_checks D B e) (walk_checks (back K no_word) (scope P B D) r)
expressions K P B D i (reads_named {p} {w}) = then p (value_role w B D) none_yet
expressions K P B D i (reads_undefined_of {q} {w}) = then q (type-role w D) none_yet
expressions K P B D i (reads_pair h k) =
    both-parts (met_by (in-bracket P B D K h) (expressions (in_pair_first ∷ K) P B D (λ p b. refl) h))
    (expressions (in_pair_second ∷ K) P B D (λ p b. refl) k)
expressions K P B D i (reads_first {p} {q} {s} {r} h) = leaves_to (expressions K P B D i h) (i p (symbol one q ∷ symbol index_closes s ∷ r))
expressions K P B D i (reads_second {p} {q} {s} {r} h) = leaves_to (expressions K P B D i h) (i p (symbol two q ∷ symbol index_closes s ∷ r))
expressions K P B D i (reads_let {s} {w} h k) =
    then s (taken-role w D)
    (both-parts (expressions (in_let_bound ∷ K) (w ∷ P) B D (λ p b. refl) h) (expressions (in_let_body ∷ K) P (w ∷ B) D (λ p b. refl) k))
expressions K P B D i (reads_let_rec {u} {x} {m} {n} h k) =
    then u (type-role m D)
    (then x (taken-role n D)
    (both-parts (expressions (in_rec_bound ∷ K) P (n ∷ B) D (λ p b. refl) h) (expressions (in_rec_body ∷ K) P (n ∷ B) D (λ p b. refl) k)))
expressions K P B D i (reads_if h j k l) =
    both-parts
    (both-parts
    (both-parts (expressions (in_tested ∷ K) P B D (λ p b. refl) h) (patterns P B D in_matched K (λ p b. refl) j))
    (expressions (in_then ∷ K) P B D (λ p b. refl) k))
    (expressions (in_else ∷ K) P B D (λ p b. refl) l)
expressions K P B D i (reads_delay h k) =
    both-parts (constants P B D (in_delay_constant ∷ K) h) (expressions (in_delayed ∷ K) P B D (λ p b. refl) k)

-- no name but `input` is in scope at first
abbrev pub first_scope : NameScope
first_scope = scope [] [] at_first

pub by-tokens : {ts : List Token} {t : Text} → ReadsText ts t → walk_checks begins first_scope ts ≡ name_checks t
by-tokens (reads_text {p} {w} {d} {ds} {e} h k l) =
    let D = after_all at_first (d ∷ ds) in
    first-declaration [] first_scope h
    ∙ (both-parts (declaration [] [] at_first h) (more [] [] (after_declaration at_first d) k)).split
    ∙ ap (λ x. declarations_checks at_first (d ∷ ds) ++ (is_one type_role D (identifier w p) ∷ x))
    ((expressions [] [] [] D (λ p b. refl) l).split ∙ append-nil (expression_checks D [] e))
