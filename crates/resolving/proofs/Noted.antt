-- A token is a name where its first byte is a small letter; what it does to the names in scope is what the rows of the states say.
-- Assumes nothing.
use Prim.Native.Nat.{ℕ, zero, suc, ◌+◌, ◌-◌, ◌*◌, ◌≤◌, ◌<◌}
use native.Mathlib.Omega.{arith}
use mathlib.Core.Path.{◌≡◌, refl, sym, ap, ap₂, subst, ◌∙◌}
use mathlib.Core.Bool.{Bool, true, false, cond}
use mathlib.Core.List.{List}
use lib.ListN.{length, take, drop, get_or, length-take, length-drop}
use borrow.Author.Tests.{le-leb}
use Rattle.grammar.specs.Tokens.{Keyword, TYPE, IN, INPUT, LET, INIT, REC, IF, MATCHES, THEN, ELSE, DELAY, spelling}
use Rattle.grammar.specs.Tokens.{Symbol, opens, closes, comma, equals, bar, query, index_opens, index_closes, one, two}
use Rattle.grammar.specs.Tokens.{Token, keyword, symbol, name_token}
use Rattle.grammar.specs.Rows.{State}
use Rattle.grammar.specs.Machine.{lead_of, symbol_byte, first_letter}
use Rattle.recognizer.specs.Coded.{lead_bytes}
use Rattle.name_rules.specs.TokenWalk.{NameScope, scope, may_take, holds_in, met_in, left_by, ended_by, effect_on, bound_in, declared_in}
use Rattle.lexer.specs.Scanned.{FirstToken, NamedBy}
use Rattle.symbols.specs.Names.{place_of, count_of, letters_at, letters_from}
use Rattle.symbols.specs.RoleNumbers.{role_codes}
use Rattle.scoping.specs.Scoped.{held_scope, pending_names, NameNoted, Rescoped, effect_of}
use Rattle.scoping.specs.Held.{held, ScopeAfter, Noted}
use Rattle.scoping.specs.declared.scopes.Scope.{Scope}
use Rattle.name_rules.specs.Declared.{DeclaredName}
use Rattle.instructions.specs.TokenOrder.{op_by, in_constant, name_said, other_said, pair_before, instructions_on}
use Rattle.resolving.specs.Said.{span_between, class_said}
use Rattle.resolving.specs.Walked.{TokenNoted, FoundWith, ScopeNoted}
use Rattle.resolving.proofs.DeclareLaws.{name-declares, other-declares}
use Rattle.resolving.proofs.SayingLaws.{class-name, class-other}

symbol-lead : (s : Symbol) → symbol_byte s ≡ 97 → ⊥
symbol-lead opens e = omega arith
symbol-lead closes e = omega arith
symbol-lead comma e = omega arith
symbol-lead equals e = omega arith
symbol-lead bar e = omega arith
symbol-lead query e = omega arith
symbol-lead index_opens e = omega arith
symbol-lead index_closes e = omega arith
symbol-lead one e = omega arith
symbol-lead two e = omega arith

keyword-lead : (k : Keyword) → first_letter (spelling k) ≡ 97 → ⊥
keyword-lead TYPE e = omega arith
keyword-lead IN e = omega arith
keyword-lead INPUT e = omega arith
keyword-lead LET e = omega arith
keyword-lead INIT e = omega arith
keyword-lead REC e = omega arith
keyword-lead IF e = omega arith
keyword-lead MATCHES e = omega arith
keyword-lead THEN e = omega arith
keyword-lead ELSE e = omega arith
keyword-lead DELAY e = omega arith

-- the only class of a name's first byte
name-class : (class : ℕ) → class < 18 → get_or lead_bytes class 0 ≡ 97 → class ≡ 10
name-class zero h e = absurd (omega arith)
name-class (suc zero) h e = absurd (omega arith)
name-class (suc (suc zero)) h e = absurd (omega arith)
name-class (suc (suc (suc zero))) h e = absurd (omega arith)
name-class (suc (suc (suc (suc zero)))) h e = absurd (omega arith)
name-class (suc (suc (suc (suc (suc zero))))) h e = absurd (omega arith)
name-class (suc (suc (suc (suc (suc (suc zero)))))) h e = absurd (omega arith)
name-class (suc (suc (suc (suc (suc (suc (suc zero))))))) h e = absurd (omega arith)
name-class (suc (suc (suc (suc (suc (suc (suc (suc zero)))))))) h e = absurd (omega arith)
name-class (suc (suc (suc (suc (suc (suc (suc (suc (suc zero))))))))) h e = absurd (omega arith)
name-class (suc (suc (suc (suc (suc (suc (suc (suc (suc (suc zero)))))))))) h e = refl
name-class (suc (suc (suc (suc (suc (suc (suc (suc (suc (suc (suc zero))))))))))) h e = absurd (omega arith)
name-class (suc (suc (suc (suc (suc (suc (suc (suc (suc (suc (suc (suc zero)))))))))))) h e = absurd (omega arith)
name-class (suc (suc (suc (suc (suc (suc (suc (suc (suc (suc (suc (suc (suc zero))))))))))))) h e = absurd (omega arith)
name-class (suc (suc (suc (suc (suc (suc (suc (suc (suc (suc (suc (suc (suc (suc zero)))))))))))))) h e = absurd (omega arith)
name-class (suc (suc (suc (suc (suc (suc (suc (suc (suc (suc (suc (suc (suc (suc (suc zero))))))))))))))) h e = absurd (omega arith)
name-class (suc (suc (suc (suc (suc (suc (suc (suc (suc (suc (suc (suc (suc (suc (suc (suc zero)))))))))))))))) h e = absurd (omega arith)
name-class (suc (suc (suc (suc (suc (suc (suc (suc (suc (suc (suc (suc (suc (suc (suc (suc (suc zero))))))))))))))))) h e = absurd (omega arith)
name-class (suc (suc (suc (suc (suc (suc (suc (suc (suc (suc (suc (suc (suc (suc (suc (suc (suc (suc n)))))))))))))))))) h e = absurd (omega arith)

module _ {text : List ℕ} {start end class : ℕ} {others : List Token} where
  pub no-keyword : (k : Keyword) (p : ℕ) → FirstToken text start end class (keyword k p) others → class ≡ 10 → ⊥
  no-keyword k p f e = keyword-lead k (sym f.leads ∙ ap (λ c. get_or lead_bytes c 0) e)

  pub no_symbol : (s : Symbol) (p : ℕ) → FirstToken text start end class (symbol s p) others → class ≡ 10 → ⊥
  no_symbol s p f e = symbol-lead s (sym f.leads ∙ ap (λ c. get_or lead_bytes c 0) e)

  pub a-name : (w : List ℕ) (p : ℕ) → FirstToken text start end class (name_token w p) others → class ≡ 10
  a-name w p f = name-class class f.few_classes f.leads

-- a name's span
short-span : (text : List ℕ) (start end : ℕ) → end - start ≤ 16 → take (end - start) (drop start text) ≡ letters_at text (span_between start end)
short-span text start end h =
    let e : span_between start end ≡ start * 32 + (end - start)
    = ap (λ x. cond x (start * 32 + (end - start)) (start * 32)) (le-leb (end - start) 16 h) in
    let f : start ≡ place_of (span_between start end) = omega (arith, e) in
    let g : end - start ≡ count_of (span_between start end) = omega (arith, e) in
    ap₂ (letters_from text) f g

pub span-spelled : {text : List ℕ} {start end class : ℕ} {others : List Token} (t : Token) (span : ℕ) → span ≡ span_between start end
    → FirstToken text start end class t others → NamedBy t (letters_at text span)
span-spelled (keyword k p) span e f = tt
span-spelled (symbol s p) span e f = tt
span-spelled {text} {start} {end} (name_token w p) span e f =
    let a = ap length f.letters.0 in
    let b = length-take (end - start) (drop start text) in
    let d = length-drop start text in
    let k = f.longer in
    let j = f.ends in
    let m = f.letters.1 in
    let h : end - start ≤ 16 = omega arith in
    (f.letters.0 ∙ short-span text start end h ∙ ap (letters_at text) (sym e), m)

module _ {text : List ℕ} {start end class span effect : ℕ} {q : State} {t : Token} {others : List Token} (f : FoundWith text start end class span effect q t others) where
  pub name-noted : {S : NameScope} {room : ℕ} {ok : Bool} {base n m : ℕ} {spans links heads roles pendings : List ℕ} → class ≡ 10
      → NameNoted q (effect_of effect) (letters_at text span) S text room ok base n m spans links heads roles pendings
      → TokenNoted q t S ok (held_scope text base n m spans roles pendings)
  name-noted {S} {ok} {base} {n} {m} {spans} {roles} {pendings} c r = go t f.found f.spelled f.same_effect
    where
      go : (v : Token) → FirstToken text start end class v others → NamedBy v (letters_at text span) → effect_of effect ≡ effect_on q (lead_of v)
          → TokenNoted q v S ok (held_scope text base n m spans roles pendings)
      go (keyword k x) u y g = absurd (no-keyword k x u c)
      go (symbol s x) u y g = absurd (no_symbol s x u c)
      go (name_token w x) u y g = record {
        told = r.told ∙ ap₂ (λ a b. cond (may_take a S) (holds_in q b (met_in a S)) false) g (sym y.0);
        same_scope = λ o. (r.rescoped o).same_scope ∙ ap₂ (λ a b. left_by a b (met_in a S)) g (sym y.0);
      }

  pub other-noted : {S : NameScope} {room : ℕ} {base n m : ℕ} {spans links heads roles pendings : List ℕ} → (class ≡ 10 → ⊥)
      → Rescoped (ended_by (effect_of effect) S) text room base n m spans links heads roles pendings
      → TokenNoted q t S true (held_scope text base n m spans roles pendings)
  other-noted {S} {base} {n} {m} {spans} {roles} {pendings} c r = go t f.found f.same_effect
    where
      go : (v : Token) → FirstToken text start end class v others → effect_of effect ≡ effect_on q (lead_of v)
          → TokenNoted q v S true (held_scope text base n m spans roles pendings)
      go (keyword k x) u g = record { told = refl; same_scope = λ o. r.same_scope ∙ ap (λ a. ended_by a S) g }
      go (symbol s x) u g = record { told = refl; same_scope = λ o. r.same_scope ∙ ap (λ a. ended_by a S) g }
      go (name_token w x) u g = absurd (c (a-name w x u))

-- what a token says by its class is what it says
pub class-instructions : {text : List ℕ} {start end class span effect : ℕ} {q : State} {others : List Token} (P B : List (List ℕ)) (D : List DeclaredName) (K : List State)
    (op : ℕ) (delayed : Bool) (t : Token) → FoundWith text start end class span effect q t others
    → op ≡ op_by q (get_or lead_bytes class 0) → delayed ≡ in_constant K
    → class_said class start q op delayed (letters_at text span) B D ≡ instructions_on q K t (scope P B D)
class-instructions {text} {start} {class} {span} {q} P B D K op delayed (keyword k p) f e g =
    class-other op delayed (letters_at text span) B D class start q (no-keyword k p f.found)
    ∙ ap₂ other_said (e ∙ ap (op_by q) f.found.leads) (sym f.found.placed)
class-instructions {text} {start} {class} {span} {q} P B D K op delayed (symbol s p) f e g =
    class-other op delayed (letters_at text span) B D class start q (no_symbol s p f.found)
    ∙ ap₂ other_said (e ∙ ap (op_by q) f.found.leads) (sym f.found.placed)
class-instructions {text} {start} {class} {span} {q} P B D K op delayed (name_token w p) f e g =
    class-name op delayed (letters_at text span) B D class start q (a-name w p f.found)
    ∙ ap₂ (λ x y. pair_before q (name_said x y (letters_at text span) B D)) (e ∙ ap (op_by q) f.found.leads) g
    ∙ ap (λ x. pair_before q (name_said (op_by q 97) (in_constant K) x B D)) (sym f.spelled.0)

-- of a scope
pub scope-name-noted : {class span effect : ℕ} {q : State} {old new : Scope} {ok : Bool} → class ≡ 10 → Noted q (effect_of effect) span old ok new
    → ScopeNoted class span effect q old ok new
scope-name-noted {span} {effect} {q} {old} {new} {ok} c r = record {
  same_text = r.same_text;
  few = λ o. (r.noted.rescoped o).scoping.few;
  declared = λ o.
      name-declares (effect_of effect) (letters_at old.names.text.now span) (pending_names old.names.text.now old.pendings old.waiting)
      (bound_in (held old)) (ap declared_in (r.noted.rescoped o).same_scope);
  noted = λ a b t others f.
      subst
      (λ x. TokenNoted q t (held old) ok
      (held_scope x new.base new.names.count new.waiting new.names.spans (role_codes new.roles) new.pendings)) (sym r.same_text)
      (name-noted f c r.noted);
}

pub scope-other-noted : {class span effect : ℕ} {q : State} {old new : Scope} → (class ≡ 10 → ⊥)
    → ScopeAfter (ended_by (effect_of effect) (held old)) (old.names.count + old.waiting + 1) old new → ScopeNoted class span effect q old true new
scope-other-noted {effect} {q} {old} {new} c r = record {
  same_text = r.same_text;
  few = λ o. r.rescoped.scoping.few;
  declared = λ o.
      other-declares (effect_of effect) (pending_names old.names.text.now old.pendings old.waiting) (bound_in (held old))
      (ap declared_in r.rescoped.same_scope);
  noted = λ a b t others f.
      subst
      (λ x. TokenNoted q t (held old) true
      (held_scope x new.base new.names.count new.waiting new.names.spans (role_codes new.roles) new.pendings)) (sym r.same_text)
      (other-noted f c r.rescoped);
}
