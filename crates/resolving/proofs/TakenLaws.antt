-- A token keeps the walk: it is refused where it is the first bad name, and says what is held with what was said before it.
-- Assumes nothing.
use Prim.Native.Nat.{ℕ, ◌+◌, ◌≤◌, ◌<◌}
use native.Mathlib.Omega.{arith}
use mathlib.Core.Path.{◌≡◌, refl, sym, ap, ap₂, subst, ◌∙◌}
use mathlib.Core.Bool.{Bool, true, false}
use mathlib.Core.List.{List, [], ◌++◌, append_assoc, reverse}
use mathlib.Core.Option.{some}
use lib.ListN.{length, drop, get_or}
use Rattle.grammar.specs.Tokens.{Token, keyword, symbol, name_token}
use Rattle.grammar.specs.Source.{Text}
use Rattle.grammar.specs.Legal.{Reading}
use Rattle.grammar.specs.Rows.{State, start}
use Rattle.grammar.specs.Machine.{live, no_word, perform, after_tokens, ends}
use Rattle.recognizer.specs.Coded.{lead_bytes, class_of, state_of, after_lead, Standing, standing, Stepped}
use Rattle.name_rules.specs.Checks.{PlacedCheck, first_bad_place, unless_fails}
use Rattle.name_rules.specs.TokenWalk.{NameScope, bound_in, declared_in, checks_on, scope_after, walk_checks}
use Rattle.lexer.specs.Scanned.{blanks_in, FirstToken, FoundFrom, token_end}
use Rattle.lexer.proofs.Found.{found_from}
use Rattle.name_rules.proofs.ByTokens.{first_scope}
use Rattle.scoping.specs.Scoped.{held_scope, pending_names, effect_of, effect_by}
use Rattle.scoping.specs.Held.{held}
use Rattle.scoping.specs.declared.scopes.Scope.{Scope}
use Rattle.symbols.specs.Names.{letters_at}
use Rattle.symbols.specs.RoleNumbers.{role_codes}
use Rattle.resolving.specs.declared.numbering.NameNumbers.{NameNumbers}
use Rattle.resolving.specs.declared.walk.Walk.{Walk}
use Rattle.resolving.specs.Walked.{Walks, WalksHeld, WalkHeld, TakingToken, TokenBad, ScopeNoted, FoundWith, token_holds}
use Rattle.resolving.specs.Said.{Numbered, CodeSaid, span_between, class_said}
use Rattle.instructions.proofs.NameNumbers.{never_true}
use Rattle.resolving.proofs.Noted.{span-spelled, class-instructions}
use Rattle.instructions.specs.Instruction.{Instruction}
use Rattle.instructions.specs.TokenOrder.{walk_instructions, op_by, in_constant}
use Rattle.resolving.proofs.Walks.{Meets, meets-token, stepped-on, walks-first}

with-effect : {text : List ℕ} {start end class : ℕ} {others : List Token} (span effect : ℕ) (q : State) (v : Token) → span ≡ span_between start end
    → effect_of effect ≡ effect_by q (get_or lead_bytes class 0)
    → FirstToken text start end class v others → FoundWith text start end class span effect q v others
with-effect {class} span effect q v z same f =
    record { found = f; spelled = span-spelled v span z f; same_effect = same ∙ ap (effect_by q) f.leads }

-- the check on a token, before those that are left
bad-check : {text : List ℕ} {start end class : ℕ} {others : List Token} (q : State) (S : NameScope) (rest : List PlacedCheck) (v : Token)
    → FirstToken text start end class v others → false ≡ token_holds q v S → first_bad_place (checks_on q v S ++ rest) ≡ some start
bad-check q S rest (keyword k p) f o = never_true o
bad-check q S rest (symbol x p) f o = never_true o
bad-check q S rest (name_token x p) f o = ap (λ y. unless_fails y p (first_bad_place rest)) (sym o) ∙ ap some f.placed

good-check : (q : State) (S : NameScope) (rest : List PlacedCheck) (v : Token) → true ≡ token_holds q v S
    → first_bad_place (checks_on q v S ++ rest) ≡ first_bad_place rest
good-check q S rest (keyword k p) o = refl
good-check q S rest (symbol x p) o = refl
good-check q S rest (name_token x p) o = ap (λ y. unless_fails y p (first_bad_place rest)) (sym o)

-- a token that begins at a place with a byte of a class
module _ (w : Walk) (C : List Instruction) {start class : ℕ} (h : start < length w.scope.names.text.now)
    (c : class ≡ class_of (get_or w.scope.names.text.now start 0)) where
  abbrev text : List ℕ
  text = w.scope.names.text.now

  abbrev q : State
  q = w.machine.state

  abbrev K : List State
  K = w.machine.waiting

  abbrev S : NameScope
  S = held w.scope

  found_here : {i end : ℕ} → end ≡ token_end text start class → start ≡ i + blanks_in (drop i text) → FoundFrom text i start end class
  found_here {i} e s =
      subst (λ x. FoundFrom text i start x class) (sym e)
      (subst (λ x. FoundFrom text i start (token_end text start x) x) (sym c) (found_from text i start s h))

  met-here : {ts : List Token} {t : Text} {i end : ℕ} {said : List Instruction} → end ≡ token_end text start class
      → i ≤ length text → start ≡ i + blanks_in (drop i text) → Walks text ts t i q K S said → Meets text ts t start end class q K S said
  met-here e l s v = meets-token l s h (found_here e s) v

  pub unled-token : 18 ≤ class → TokenBad start w C
  unled-token g ts t i l s v = absurd (let k = (met-here refl l s v.walks).found.few_classes in omega arith)

  module _ {end : ℕ} (e : end ≡ token_end text start class) {ok : Bool} {old new : Standing} (r : Stepped (after_lead class q K) old ok new) where
    pub stuck-token : ok ≡ false → TokenBad start w C
    stuck-token o ts t i l s v = never_true (sym o ∙ (stepped-on (met-here e l s v.walks) r).0)

    -- the token with its span and effect
    module _ (row : ℕ) {span effect index : ℕ} (z : span ≡ span_between start end) (told : state_of row ≡ q) (column : index ≡ class)
        (at : effect_of effect ≡ effect_by (state_of row) (get_or lead_bytes index 0)) {okay : Bool} {scope' : Scope}
        (noted : ScopeNoted class span effect (state_of row) w.scope okay scope')
      where
        same : effect_of effect ≡ effect_by q (get_or lead_bytes class 0)
        same = at ∙ ap₂ (λ x k. effect_by x (get_or lead_bytes k 0)) told column

        n : ScopeNoted class span effect q w.scope okay scope'
        n = subst (λ x. ScopeNoted class span effect x w.scope okay scope') told noted

        pub bad-token : okay ≡ false → TokenBad start w C
        bad-token o ts t i l s v =
            let m = met-here e l s v.walks in
            m.same_place
            ∙ bad-check q S (walk_checks (perform m.action K no_word) (scope_after q m.token S) m.others) m.token m.found
            (sym o ∙ (n.noted start end m.token m.others (with-effect span effect q m.token z same m.found)).told)

        pub good-token : (D : List Instruction) (numbers : NameNumbers)
            → CodeSaid C (class_said class start q (op_by q (get_or lead_bytes class 0)) (in_constant K) (letters_at text span) (bound_in S) (declared_in S)) D
            → okay ≡ true
            → (ts : List Token) (t : Text) (i : ℕ) → i ≤ length text → start ≡ i + blanks_in (drop i text) → WalkHeld text ts t i w C
            → WalkHeld text ts t end (record { machine = new; scope = scope'; numbers = numbers }) D
        good-token D numbers code o ts t i l s v =
            let m = met-here e l s v.walks in
            let f = with-effect span effect q m.token z same m.found in
            let g = n.noted start end m.token m.others f in
            let p = (stepped-on m r).1 in
            let now = sym (g.same_scope o) in
            let more = class_said class start q (op_by q (get_or lead_bytes class 0)) (in_constant K) (letters_at text span) (bound_in S) (declared_in S) in
            record {
              said = v.said ++ more;
              held = code.held v.said v.held;
              walks = record {
                left = m.others;
                lexed = m.found.following;
                readable = subst (λ c. ends (after_tokens c m.others) ≡ true) p m.readable;
                same_place =
                    m.same_place
                    ∙ good-check q S (walk_checks (perform m.action K no_word) (scope_after q m.token S) m.others) m.token (sym o ∙ g.told)
                    ∙ ap₂ (λ c U. first_bad_place (walk_checks c U m.others)) p now;
                same_code =
                    m.same_code
                    ∙ ap (λ j. v.said ++ (j ++ walk_instructions (perform m.action K no_word) (scope_after q m.token S) m.others))
                    (sym (class-instructions (pending_names text w.scope.pendings w.scope.waiting) (bound_in S) (declared_in S) K (op_by q (get_or lead_bytes class 0)) (in_constant K) m.token f refl refl))
                    ∙ ap₂ (λ c U. v.said ++ (more ++ walk_instructions c U m.others)) p now
                    ∙ sym (append_assoc v.said more (walk_instructions (live new.state new.waiting no_word) (held scope') m.others));
              };
            }

        -- the walk after it
        pub walking-next : (numbers : NameNumbers) → old ≡ w.machine → TakingToken w start → start < end → end ≤ length text → okay ≡ true
            → Numbered (role_codes scope'.roles) numbers.types numbers.ranks scope'.base
            → TakingToken (record { machine = new; scope = scope'; numbers = numbers }) end
        walking-next numbers x k l u o y = record {
          short = subst (λ b. length b ≤ 65535) (sym n.same_text) k.short;
          few = let a = n.few o in let b = k.few in omega arith;
          shallow = let a = subst (λ b. length new.waiting ≤ length b.waiting + 1) x r.higher in let b = k.shallow in omega arith;
          numbered = y;
        }

-- the loop
held-first : (s : Scope) → s.names.count ≡ 0 → s.base ≡ 0 → s.waiting ≡ 0 → held s ≡ first_scope
held-first s e f g =
    ap₂ (λ b n. held_scope s.names.text.now b n s.waiting s.names.spans (role_codes s.roles) s.pendings) f e
    ∙ ap (λ m. held_scope s.names.text.now 0 0 m s.names.spans (role_codes s.roles) s.pendings) g

pub walks-begin : {text : List ℕ} {ts : List Token} {t : Text} {C : List Instruction} (m : Standing) (s : Scope) → m ≡ standing start [] no_word
    → (s.names.text.now ≡ text) × (s.names.count ≡ 0) × (s.base ≡ 0) × (s.waiting ≡ 0) → C ≡ [] → Reading text ts t
    → WalksHeld text ts t 0 m.state m.waiting (held s) C
walks-begin {text} {ts} {t} m s e f g r = record {
  said = [];
  walks =
      subst (λ S. Walks text ts t 0 m.state m.waiting S []) (sym (held-first s f.1 f.2 f.3))
      (subst (λ n. Walks text ts t 0 n.state n.waiting first_scope []) (sym e) (walks-first r));
  held = λ h. ap reverse g;
}

pub walking-first : {text : List ℕ} (i : ℕ) (w : Walk) → length text ≤ 65535 → w.machine ≡ standing start [] no_word
    → (w.scope.names.text.now ≡ text) × (w.scope.names.count ≡ 0) × (w.scope.base ≡ 0) × (w.scope.waiting ≡ 0)
    → ((roles : List ℕ) → Numbered roles w.numbers.types w.numbers.ranks 0) → TakingToken w i
walking-first i w h e f n = record {
  short = subst (λ b. length b ≤ 65535) (sym f.0) h;
  few = let a = f.1 in let b = f.3 in omega arith;
  shallow = let a = ap (λ m. length m.waiting) e in omega arith;
  numbered = subst (λ b. Numbered (role_codes w.scope.roles) w.numbers.types w.numbers.ranks b) (sym f.2) (n (role_codes w.scope.roles));
}
