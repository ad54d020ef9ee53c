-- Where a text's names are good, the instructions token by token are the instructions of the text: what a production reads says them up to
-- where its rest begins. By induction on the derivation, a line a production.
-- Assumes nothing.
use Prim.Native.Nat.{ℕ, suc}
use mathlib.Core.Path.{◌≡◌, refl, sym, ap, ap₂, ◌∙◌}
use mathlib.Core.Bool.{Bool, true, false, cond}
use mathlib.Core.List.{List, [], ◌∷◌, ◌++◌, append_assoc, append-nil}
use Rattle.grammar.specs.Tokens.{Token, symbol, name_token, bar, index_opens, index_closes, one, two}
use Rattle.grammar.specs.Source.{Identifier, identifier, Declaration, SourceConstant, SourcePattern, Expression, Text}
use Rattle.grammar.specs.Grammar.{ReadsOthers, no_other, one_other, ReadsDeclaration, reads_constructors, reads_pair_of}
use Rattle.grammar.specs.Grammar.{ReadsConstant, reads_constructor, reads_undefined, reads_both}
use Rattle.grammar.specs.Grammar.{ReadsPattern, reads_alone, reads_parts, reads_alone_or, reads_parts_or}
use Rattle.grammar.specs.Grammar.{ReadsExpression, reads_named, reads_undefined_of, reads_pair, reads_first, reads_second, reads_let}
use Rattle.grammar.specs.Grammar.{reads_let_rec, reads_if, reads_delay, ReadsMore, no_more, one_more, ReadsText, reads_text}
use Rattle.grammar.specs.Rows.{State, start, declared, constructor_end, expression, bracket, pattern, constant, index}
use Rattle.grammar.specs.Rows.{in_pair_first, in_pair_second, in_let_bound, in_let_body, in_rec_bound, in_rec_body, in_tested, in_matched, in_then, in_else}
use Rattle.grammar.specs.Rows.{in_pattern_first, in_pattern_second, in_constant_first, in_constant_second, in_delay_constant, in_delayed}
use Rattle.grammar.specs.Machine.{Config, live, no_word, back, begins}
use Rattle.name_rules.specs.Declared.{a_type, a_constructor, DeclaredName, declared_as, is_among, is_declared, type_role, constructor_role, pattern_roles, at_first}
use Rattle.name_rules.specs.Checks.{AllPass}
use Rattle.name_rules.specs.Names.{after_declaration, after_all, add_all, declaration_checks, declarations_checks, pattern_checks, constant_names, expression_checks, name_checks, is_one}
use Rattle.name_rules.specs.TokenWalk.{NameScope, scope}
use Rattle.name_rules.proofs.ByTokens.{first_scope}
use Rattle.layout.specs.Resolved.{TypeEntry, type_number, after_entry, type_entries, type_entries_from, distance}
use Rattle.layout.proofs.ConstructorTables.{pass-both, passes, pass-rest, type-or-constructor}
use Rattle.instructions.specs.Instruction.{Instruction, instruction_of, count_constructor, first_type, second_type, input_has, use_name, use_constant, use_undefined, open_pair, open_rec, next_alternative, match_type, match_one, use_leaf, use_zeros}
use Rattle.instructions.specs.TextOrder.{
  count_each,
  number_of_type,
  constructor_in,
  declaration_instructions,
  alternative_of,
  value_instruction,
  constant_instructions,
  pattern_instructions,
  expression_instructions,
  text_instructions,
}
use Rattle.instructions.specs.TokenOrder.{named_from, types_among, constructors_among, declared_said, value_said, in_constant, walk_instructions}
use Rattle.instructions.proofs.NameNumbers.{TypesAgree, declaration-agrees, first-agrees, NamesNumbered, names-numbered}

-- instructions that begin with some, and what is left
record Begins (all some left : List Instruction) : Type 0 where
  split : all ≡ some ++ left

-- one instruction and what follows it, or nothing
then : {i j : Instruction} {l m z : List Instruction} → i ≡ j → Begins l m z → Begins (i ∷ l) (j ∷ m) z
then e f = record { split = ap₂ (λ a b. a ∷ b) e f.split }

last : {i j : Instruction} {z : List Instruction} → i ≡ j → Begins (i ∷ z) (j ∷ []) z
last {z} e = record { split = ap (λ a. a ∷ z) e }

-- two parts up to a rest
both-parts : {w a x b z : List Instruction} → Begins w a x → Begins x b z → Begins w (a ++ b) z
both-parts {a} {b} {z} e f = record { split = e.split ∙ ap (λ l. a ++ l) f.split ∙ sym (append_assoc a b z) }

-- by another name
met_by : {w v a z : List Instruction} → w ≡ v → Begins v a z → Begins w a z
met_by e f = record { split = e ∙ f.split }

-- the machine with no word begun
abbrev at : State → List State → Config
at q K = live q K no_word

-- the declarations

others : {a r : List Token} {cs : List Identifier} (K : List State) (P : List (List ℕ)) (D : List DeclaredName) → ReadsOthers a cs r
    → walk_instructions (at constructor_end K) (scope P [] D) a ≡ count_each cs (walk_instructions (at declared K) (scope P [] (add_all cs D)) r)
others K P D no_other = refl
others K P D (one_other {w} h) = ap (λ l. count_constructor ∷ l) (others K P (declared_as w a_constructor ∷ D) h)

count-append : (cs : List Identifier) (l m : List Instruction) → count_each cs (l ++ m) ≡ count_each cs l ++ m
count-append [] l m = refl
count-append (c ∷ cs) l m = ap (λ x. count_constructor ∷ x) (count-append cs l m)

declaration : {a r : List Token} {d : Declaration} {i : ℕ} {T : List TypeEntry} {Z : List Instruction} (K : List State) (P : List (List ℕ)) (D : List DeclaredName) (ds : List Declaration)
    → TypesAgree i D T → AllPass (declaration_checks D d) → ReadsDeclaration a d r
    → Begins (walk_instructions (at declared K) (scope P [] (after_declaration D d)) r) (declaration_instructions (suc i) (after_entry i T d) ds) Z
    → Begins (walk_instructions (at declared K) (scope P [] D) a) (declaration_instructions i T (d ∷ ds)) Z
declaration {d} {i} {T} {Z} K P D ds t g (reads_constructors {v} {w} {cs} h) b =
    then refl
    (then refl
    (record {
      split =
          others K P (declared_as w a_constructor ∷ declared_as v a_type ∷ D) h
          ∙ ap (count_each cs) b.split
          ∙ count-append cs (declaration_instructions (suc i) (after_entry i T d) ds) Z;
    }))
declaration K P D ds t g (reads_pair_of {n} {o}) b =
    then refl
    (then (ap first_type (t.agree n (passes (pass-rest g)))) (then (ap second_type (t.agree o (passes (pass-rest (pass-rest g))))) b))

first-declaration : {a r : List Token} {d : Declaration} (K : List State) (S : NameScope) → ReadsDeclaration a d r
    → walk_instructions (at start K) S a ≡ walk_instructions (at declared K) S a
first-declaration K S (reads_constructors h) = refl
first-declaration K S reads_pair_of = refl

more : {ds : List Declaration} {a r : List Token} {w : List ℕ} {p i : ℕ} {T : List TypeEntry} (K : List State) (P : List (List ℕ)) (D : List DeclaredName)
    → ReadsMore a ds (name_token w p ∷ r)
    → TypesAgree i D T → AllPass (declarations_checks D ds) → is_declared type_role w (after_all D ds) ≡ true
    → Begins (walk_instructions (at declared K) (scope P [] D) a) (declaration_instructions i T ds)
    (input_has (type_number (type_entries_from i T ds) w) ∷ walk_instructions (at expression K) (scope P [] (after_all D ds)) r)
more {r} {w} K P D no_more t g o =
    record { split = ap (λ n. input_has n ∷ walk_instructions (at expression K) (scope P [] D) r) (t.agree w o) }
more K P D (one_more {d} {ds} h k) t g o =
    let b = pass-both (declaration_checks D d) (declarations_checks (after_declaration D d) ds) g in
    declaration K P D ds t b.0 h (more K P (after_declaration D d) k (declaration-agrees d t) b.1 o)

-- the expression

module _ {ds : List Declaration} (N : NamesNumbered ds) where
  abbrev D : List DeclaredName
  D = after_all at_first ds

  value-said : (B : List (List ℕ)) (w : List ℕ) → value_said w B D ≡ value_instruction ds B w
  value-said B w = ap (cond (is_among w B) (use_name (distance w B))) (go (is_declared constructor_role w D) refl)
    where
      go : (x : Bool) → is_declared constructor_role w D ≡ x
          → cond x (use_constant (types_among (named_from w D)) (constructors_among (named_from w D))) (use_name (distance w B))
          ≡ cond x (use_constant (constructor_in ds w).type (constructor_in ds w).number) (use_name (distance w B))
      go true e = ap₂ use_constant (N.constructors w e).same-type (N.constructors w e).same_number
      go false e = refl

  pattern-said : (w : List ℕ) → is_declared pattern_roles w D ≡ true → declared_said (cond (is_declared type_role w D) 18 19) w D ≡ alternative_of ds w
  pattern-said w h = go (is_declared type_role w D) refl
    where
      go : (x : Bool) → is_declared type_role w D ≡ x
          → instruction_of (cond x 18 19) (types_among (named_from w D)) (constructors_among (named_from w D))
          ≡ cond x (match_type (number_of_type ds w)) (match_one (constructor_in ds w).type (constructor_in ds w).number)
      go true e = ap match_type (N.types w e)
      go false e =
          let n = N.constructors w (type-or-constructor w D h e) in
          ap₂ match_one n.same-type n.same_number

  leaf-said : (w : List ℕ) → is_declared constructor_role w D ≡ true
      → declared_said 24 w D ≡ use_leaf (constructor_in ds w).type (constructor_in ds w).number
  leaf-said w h = let n = N.constructors w h in ap₂ use_leaf n.same-type n.same_number

  undefined-said : (K : List State) (w : List ℕ) (x : Bool) → in_constant K ≡ x
      → declared_said (cond (in_constant K) 25 7) w D ≡ instruction_of (cond x 25 7) (types_among (named_from w D)) (constructors_among (named_from w D))
  undefined-said K w x e = ap (λ y. instruction_of (cond y 25 7) (types_among (named_from w D)) (constructors_among (named_from w D))) e

  module _ (P B : List (List ℕ)) where
    constants : {a r : List Token} {c : SourceConstant} (K : List State) → in_constant K ≡ true → AllPass (constant_names D c) → ReadsConstant a c r
        → Begins (walk_instructions (at constant K) (scope P B D) a) (constant_instructions ds c) (walk_instructions (back K no_word) (scope P B D) r)
    constants K k g (reads_constructor {w}) = last (leaf-said w (passes g))
    constants K k g (reads_undefined {w}) = last (undefined-said K w true k ∙ ap use_zeros (N.types w (passes g)))
    constants K k g (reads_both {c} {d} h j) =
        let b = pass-both (constant_names D c) (constant_names D d) g in
        then refl
        (both-parts (constants (in_constant_first ∷ K) refl b.0 h) (both-parts (constants (in_constant_second ∷ K) refl b.1 j) (last refl)))

    -- a state after which a bar goes on with another alternative
    abbrev Barred : State → List State → Type 0
    Barred q K =
        (p : ℕ) (b : List Token)
        → walk_instructions (at q K) (scope P B D) (symbol bar p ∷ b) ≡ next_alternative ∷ walk_instructions (at pattern (q ∷ K)) (scope P B D) b

    patterns : {a r : List Token} {m : SourcePattern} (q : State) (K : List State) → Barred q K → AllPass (pattern_checks D m) → ReadsPattern a m r
        → Begins (walk_instructions (at pattern (q ∷ K)) (scope P B D) a) (pattern_instructions ds m) (walk_instructions (at q K) (scope P B D) r)
    patterns q K b g (reads_alone {w}) = last (pattern-said w (passes g))
    patterns q K b g (reads_parts {m} {n} h k) =
        let t = pass-both (pattern_checks D m) (pattern_checks D n) g in
        then refl
        (both-parts (patterns in_pattern_first (q ∷ K) (λ p c. refl) t.0 h)
        (then refl (both-parts (patterns in_pattern_second (q ∷ K) (λ p c. refl) t.1 k) (last refl))))
    patterns q K b g (reads_alone_or {q = s} {w} {a} h) =
        then (pattern-said w (passes g)) (met_by (b s a) (then refl (patterns q K b (pass-rest g) h)))
    patterns q K b g (reads_parts_or {t = s} {c} {m} {n} {o} h k l) =
        let t = pass-both (pattern_checks D m ++ pattern_checks D n) (pattern_checks D o) g in
        let u = pass-both (pattern_checks D m) (pattern_checks D n) t.0 in
        both-parts
        (then refl
        (both-parts (patterns in_pattern_first (q ∷ K) (λ p c. refl) u.0 h)
        (then refl (both-parts (patterns in_pattern_second (q ∷ K) (λ p c. refl) u.1 k) (last refl)))))
        (met_by (b s c) (then refl (patterns q K b t.1 l)))

    -- a stack under which `[` begins an index
    abbrev Indexable : List State → Type 0
    Indexable K =
        (p : ℕ) (b : List Token)
        → walk_instructions (back K no_word) (scope P B D) (symbol index_opens p ∷ b) ≡ walk_instructions (at index K) (scope P B D) b

    -- after a bracket an expression is the first of a pair
    in-bracket : {a r : List Token} {e : Expression} (K : List State) → ReadsExpression a e r
        → walk_instructions (at bracket K) (scope P B D) a ≡ open_pair ∷ walk_instructions (at expression (in_pair_first ∷ K)) (scope P B D) a
    in-bracket K reads_named = refl
    in-bracket K reads_undefined_of = refl
    in-bracket K (reads_pair h k) = refl
    in-bracket K (reads_first h) = in-bracket K h
    in-bracket K (reads_second h) = in-bracket K h
    in-bracket K (reads_let h k) = refl
    in-bracket K (reads_let_rec h k) = refl
    in-bracket K (reads_if h m k l) = refl
    in-bracket K (reads_delay h k) = refl

  expressions : {a r : List Token} {e : Expression} (K : List State) (P B : List (List ℕ)) → Indexable P B K → in_constant K ≡ false
      → AllPass (expression_checks D B e) → ReadsExpression a e r
      → Begins (walk_instructions (at expression K) (scope P B D) a) (expression_instructions ds B e) (walk_instructions (back K no_word) (scope P B D) r)
  expressions K P B i o g (reads_named {w}) = last (value-said B w)
  expressions K P B i o g (reads_undefined_of {w}) = last (undefined-said K w false o ∙ ap use_undefined (N.types w (passes g)))
  expressions K P B i o g (reads_pair {e} {f} h k) =
      let b = pass-both (expression_checks D B e) (expression_checks D B f) g in
      met_by (in-bracket P B K h)
      (then refl
      (both-parts (expressions (in_pair_first ∷ K) P B (λ p b. refl) refl b.0 h)
      (both-parts (expressions (in_pair_second ∷ K) P B (λ p b. refl) refl b.1 k) (last refl))))
  expressions K P B i o g (reads_first {p} {q} {s} {r} h) =
      both-parts (expressions K P B i o g h) (met_by (i p (symbol one q ∷ symbol index_closes s ∷ r)) (last refl))
  expressions K P B i o g (reads_second {p} {q} {s} {r} h) =
      both-parts (expressions K P B i o g h) (met_by (i p (symbol two q ∷ symbol index_closes s ∷ r)) (last refl))
  expressions K P B i o g (reads_let {w} {e} {f} h k) =
      let b = pass-both (expression_checks D B e) (expression_checks D (w ∷ B) f) (pass-rest g) in
      then refl
      (both-parts (expressions (in_let_bound ∷ K) (w ∷ P) B (λ p b. refl) refl b.0 h)
      (both-parts (expressions (in_let_body ∷ K) P (w ∷ B) (λ p b. refl) refl b.1 k) (last refl)))
  expressions K P B i o g (reads_let_rec {m} {n} {e} {f} h k) =
      let b = pass-both (expression_checks D (n ∷ B) e) (expression_checks D (n ∷ B) f) (pass-rest (pass-rest g)) in
      then (ap open_rec (N.types m (passes g)))
      (both-parts (expressions (in_rec_bound ∷ K) P (n ∷ B) (λ p b. refl) refl b.0 h)
      (both-parts (expressions (in_rec_body ∷ K) P (n ∷ B) (λ p b. refl) refl b.1 k) (last refl)))
  expressions K P B i o g (reads_if {e} {f} {g = x} {m} h j k l) =
      let tested = expression_checks D B e in
      let matched = pattern_checks D m in
      let b = pass-both (tested ++ matched ++ expression_checks D B f) (expression_checks D B x) g in
      let c = pass-both (tested ++ matched) (expression_checks D B f) b.0 in
      let d = pass-both tested matched c.0 in
      then refl
      (both-parts (expressions (in_tested ∷ K) P B (λ p b. refl) refl d.0 h)
      (then refl
      (both-parts (patterns P B in_matched K (λ p b. refl) d.1 j)
      (both-parts (expressions (in_then ∷ K) P B (λ p b. refl) refl c.1 k)
      (both-parts (expressions (in_else ∷ K) P B (λ p b. refl) refl b.1 l) (last refl))))))
  expressions K P B i o g (reads_delay {c} {e} h k) =
      let b = pass-both (constant_names D c) (expression_checks D B e) g in
      then refl
      (both-parts (constants P B (in_delay_constant ∷ K) refl b.0 h)
      (then refl (both-parts (expressions (in_delayed ∷ K) P B (λ p b. refl) refl b.1 k) (last refl))))

pub instructed : {ts : List Token} {t : Text} → ReadsText ts t → AllPass (name_checks t) → walk_instructions begins first_scope ts ≡ text_instructions t
instructed (reads_text {p} {w} {d} {ds} {e} h k l) g =
    let E = after_all at_first (d ∷ ds) in
    let b = pass-both (declarations_checks at_first (d ∷ ds)) (is_one type_role E (identifier w p) ∷ expression_checks E [] e) g in
    let c = pass-both (declaration_checks at_first d) (declarations_checks (after_declaration at_first d) ds) b.0 in
    let x = expressions (names-numbered (d ∷ ds) b.0) [] [] [] (λ p b. refl) refl (pass-rest b.1) l in
    first-declaration [] first_scope h
    ∙ (declaration [] [] at_first ds first-agrees c.0 h
    (more [] [] (after_declaration at_first d) k (declaration-agrees d first-agrees) c.1 (passes b.1))).split
    ∙ ap (λ z. declaration_instructions 1 [] (d ∷ ds) ++ (input_has (type_number (type_entries (d ∷ ds)) w) ∷ z))
    (x.split ∙ append-nil (expression_instructions (d ∷ ds) [] e))
