-- What is left of a text is checked in the state and the scope that the walk has come to: a token keeps this, and its check is the first
-- that is left.
-- Assumes nothing.
use Prim.Native.Nat.{ℕ, suc, ◌+◌, ◌≤◌, ◌<◌}
use native.Mathlib.Omega.{arith}
use mathlib.Core.Path.{◌≡◌, refl, sym, ap, ◌∙◌}
use mathlib.Core.Bool.{Bool, true, false, cond}
use mathlib.Core.List.{List, [], ◌∷◌, ◌++◌, append-nil}
use mathlib.Core.Option.{none, some}
use lib.ListN.{length, drop, length-drop}
use Rattle.grammar.specs.Tokens.{Token, Tokens, no_token, a_blank}
use Rattle.grammar.specs.Source.{Text}
use Rattle.grammar.specs.Legal.{Reading}
use Rattle.grammar.specs.Rows.{State, start, Action, on, transitions}
use Rattle.grammar.specs.Machine.{dead, live, begins, no_word, perform, perform_found, find, lead_byte, lead_of, lead_word, after_tokens, ends}
use Rattle.grammar.proofs.Derived.{derived}
use Rattle.grammar.proofs.RowFound.{Performed, performed, by_token, takes-token}
use Rattle.recognizer.specs.Coded.{after_lead, Standing, live_at, Stepped}
use Rattle.name_rules.specs.Checks.{first_bad_place}
use Rattle.name_rules.specs.Names.{name_checks}
use Rattle.name_rules.specs.TokenWalk.{NameScope, checks_on, scope_after, walk_checks}
use Rattle.name_rules.proofs.ByTokens.{first_scope, by-tokens}
use Rattle.lexer.specs.Scanned.{blank_class, blanks_in, FirstToken, FoundFrom}
use Rattle.lexer.proofs.Found.{none_from}
use Rattle.resolving.specs.Walked.{Walks, WalksHeld, SoundText}
use Rattle.std.proofs.lemmas.List.{length-reverse}
use Rattle.instructions.specs.Instruction.{Instruction}
use Rattle.instructions.specs.TextOrder.{text_instructions}
use Rattle.instructions.specs.TokenOrder.{walk_instructions, instructions_on}
use Rattle.name_rules.proofs.First.{none-bad}
use Rattle.instructions.proofs.Instructed.{instructed}
use Rattle.instructions.proofs.FewInstructions.{few_instructions}
use Rattle.name_rules.proofs.Bounded.{tokens-few}

pub walks-first : {text : List ℕ} {ts : List Token} {t : Text} → Reading text ts t → Walks text ts t 0 start [] first_scope []
walks-first {ts} r = record {
  left = ts;
  lexed = r.lexed;
  readable = ap ends (derived r.parsed);
  same_place = ap first_bad_place (sym (by-tokens r.parsed));
  same_code = refl;
}

-- where no token is left all have been checked, and have said what the text says
pub walks-done : {text : List ℕ} {ts : List Token} {t : Text} {i : ℕ} {q : State} {K : List State} {S : NameScope} {C : List Instruction} (first : ℕ)
    → first ≡ i + blanks_in (drop i text) → length text ≤ first → length text ≤ 65535 → Reading text ts t
    → WalksHeld text ts t i q K S C → SoundText text t C
walks-done {text} {ts} {t} {i} {q} {K} {S} {C} first e h short r w =
    let none_left = none_from text i first e h w.walks.lexed in
    let good = w.walks.same_place ∙ ap (λ l. first_bad_place (walk_checks (live q K no_word) S l)) none_left in
    let all : w.said ≡ text_instructions t
    = sym (append-nil w.said)
    ∙ sym (w.walks.same_code ∙ ap (λ l. w.said ++ walk_instructions (live q K no_word) S l) none_left)
    ∙ instructed r.parsed (none-bad (name_checks t) good) in
    let many = ap length all in
    let few = few_instructions r.parsed in
    let fewer = tokens-few r.lexed in
    let held = w.held (omega arith) in
    let long = length-reverse C in
    let same = ap length held in
    record { good_names = good; instructions = held ∙ all; few = omega arith }
  where
    none-fails : {p : ℕ} → some p ≡ none → ⊥
    none-fails z = let o : ◌≡◌ {A = ℕ} 0 1 = cc in omega arith

-- only blanks have no token
blank-rest : {i : ℕ} {bs : List ℕ} → Tokens i bs [] → blanks_in bs ≡ length bs
blank-rest no_token = refl
blank-rest (a_blank {b} {bs} e t) = ap (λ k. cond (blank_class k) (suc (blanks_in bs)) 0) e ∙ ap suc (blank-rest t)

-- a token that is met, and what it does
pub record Meets (text : List ℕ) (ts : List Token) (t : Text) (first end class : ℕ) (q : State) (K : List State) (S : NameScope) (said : List Instruction) : Type 0 where
  pub token : Token
  pub others : List Token
  pub found : FirstToken text first end class token others
  pub action : Action
  pub row : find (lead_byte (lead_of token)) (transitions q) ≡ some (on (lead_of token) action)
  pub readable : ends (after_tokens (perform action K no_word) others) ≡ true
  pub same_place :
      first_bad_place (name_checks t) ≡ first_bad_place (checks_on q token S ++ walk_checks (perform action K no_word) (scope_after q token S) others)
  pub same_code : walk_instructions begins first_scope ts
      ≡ said ++ (instructions_on q K token S ++ walk_instructions (perform action K no_word) (scope_after q token S) others)

pub meets-token : {text : List ℕ} {ts : List Token} {t : Text} {i first end class : ℕ} {q : State} {K : List State} {S : NameScope} {said : List Instruction} → i ≤ length text
    → first ≡ i + blanks_in (drop i text) → first < length text → FoundFrom text i first end class → Walks text ts t i q K S said
    → Meets text ts t first end class q K S said
meets-token {text} {ts} {t} {i} {first} {end} {class} {q} {K} {S} {said} l e h f w = go w.left w.lexed w.readable w.same_place w.same_code
  where
    go : (l : List Token) → Tokens i (drop i text) l → ends (after_tokens (live q K no_word) l) ≡ true
        → first_bad_place (name_checks t) ≡ first_bad_place (walk_checks (live q K no_word) S l)
        → walk_instructions begins first_scope ts ≡ said ++ walk_instructions (live q K no_word) S l → Meets text ts t first end class q K S said
    go [] u r p d = absurd (let z = blank-rest u in let y = length-drop i text in omega (arith, z, y))
    go (v ∷ l) u r p d =
        let b = by_token (lead_of v) q K l r in
        record {
          token = v;
          others = l;
          found = f v l u;
          action = b.action;
          row = b.row;
          readable = b.ending;
          same_place =
              p
              ∙ ap (λ c. first_bad_place (checks_on q v S ++ walk_checks c (scope_after q v S) l)) (takes-token (lead_of v) b.action q K b.row);
          same_code =
              d
              ∙ ap (λ c. said ++ (instructions_on q K v S ++ walk_instructions c (scope_after q v S) l)) (takes-token (lead_of v) b.action q K b.row);
        }

-- the machine's step by the class of the token's first byte is the step on the token
module _ {text : List ℕ} {ts : List Token} {t : Text} {first end class : ℕ} {q : State} {K : List State} {S : NameScope} {said : List Instruction}
    (m : Meets text ts t first end class q K S said)
  where
    lead-step : after_lead class q K ≡ perform m.action K (lead_word (lead_of m.token))
    lead-step =
        ap (λ b. perform_found (find b (transitions q)) K) m.found.leads ∙ ap (λ r. perform_found r K) m.row

    pub stepped-on : {old new : Standing} {ok : Bool} → Stepped (after_lead class q K) old ok new
        → (ok ≡ true) × (perform m.action K no_word ≡ live new.state new.waiting no_word)
    stepped-on {new} {ok} s = go ok (sym (p.reaches (lead_word (lead_of m.token))) ∙ sym lead-step ∙ s.stepped)
      where
        p : Performed m.action K
        p = performed m.action K

        go : (x : Bool) → live p.state p.stack (lead_word (lead_of m.token)) ≡ cond x (live_at new) dead
            → (x ≡ true) × (perform m.action K no_word ≡ live new.state new.waiting no_word)
        go true e =
            let f : p.state ≡ new.state = cc in
            let g : p.stack ≡ new.waiting = cc in
            (refl, p.reaches no_word ∙ ap (λ x. live x p.stack no_word) f ∙ ap (λ k. live new.state k no_word) g)
        go false e = absurd (let z : ◌≡◌ {A = ℕ} 0 1 = cc in omega arith)
