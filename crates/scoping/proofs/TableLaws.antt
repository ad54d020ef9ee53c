-- What the tables say of the states' rules.
-- Assumes nothing.
use Prim.Native.Nat.{ℕ, zero, suc, ◌<◌}
use native.Mathlib.Omega.{arith}
use mathlib.Core.Path.{◌≡◌, refl, sym, ap, ap₂, ◌∙◌}
use mathlib.Core.List.{List, [], ◌∷◌, map}
use lib.ListN.{length, get_or}
use Rattle.grammar.specs.Rows.{states, start}
use Rattle.recognizer.specs.Coded.{state_of, lead_bytes}
use Rattle.name_rules.specs.TokenWalk.{ScopeEffect, keeps_scope, pends, declares_first, declares_next, binds, binds_pending, declares_pending, unbinds, rule_in}
use Rattle.scoping.specs.Scoped.{admission_row, admission_table, effect_table, effect_number, effect_of, effect_by}
use Rattle.scoping.specs.TableNumbers.{rule_of, effect_code}
use Rattle.scoping.specs.declared.tables.TheConstants.{RULES, EFFECTS}
use Rattle.scoping.specs.declared.tables.NameRule.TheVariants.{NewName}
use Rattle.scoping.specs.declared.tables.Effect.TheVariants.{KeepsScope}
use Rattle.std.proofs.Math.ListN.{get_or-map}

pub mapped_at : {A B : Type 0} (f : A → B) (l : List A) (c : ℕ) (d : A) (e : B) → c < length l → get_or (map f l) c e ≡ f (get_or l c d)
mapped_at f [] c d e h = absurd (omega arith)
mapped_at f (x ∷ l) zero d e h = refl
mapped_at f (x ∷ l) (suc c) d e h = mapped_at f l c d e (omega arith)

pub effect-read : (table : List (List ℕ)) (state class s c : ℕ) → table ≡ effect_table → state < 47 → class < 18 → s ≡ state → c ≡ class
    → get_or (get_or table s []) c 0 ≡ effect_number (effect_by (state_of state) (get_or lead_bytes class 0))
unfolding effect_table
effect-read table state class s c t h l e f =
    ap (λ x. get_or (get_or x s []) c 0) t
    ∙ ap₂ (λ x y. get_or (get_or effect_table x []) y 0) e f
    ∙ ap (λ k. get_or k class 0) (mapped_at (λ q. map (λ b. effect_number (effect_by q b)) lead_bytes) states state start [] h)
    ∙ mapped_at (λ b. effect_number (effect_by (state_of state) b)) lead_bytes class 0 0 l

effect-again : (e : ScopeEffect) → effect_of (effect_number e) ≡ e
effect-again keeps_scope = refl
effect-again pends = refl
effect-again declares_first = refl
effect-again declares_next = refl
effect-again binds = refl
effect-again binds_pending = refl
effect-again declares_pending = refl
effect-again unbinds = refl

-- the code's tables are computed from the rules of the states
pub effects-right : map (λ r. map effect_code r) EFFECTS ≡ effect_table
unfolding effect_table
effects-right = refl

rules-right : map rule_of RULES ≡ map rule_in states
rules-right = refl

pub admissions-right : map (λ r. admission_row (rule_of r)) RULES ≡ admission_table
unfolding admission_table
admissions-right = refl

pub effect-at : (state class s c : ℕ) → state < 47 → class < 18 → s ≡ state → c ≡ class
    → effect_of (effect_code (get_or (get_or EFFECTS s []) c KeepsScope)) ≡ effect_by (state_of state) (get_or lead_bytes class 0)
effect-at state class s c h l e f =
    ap effect_of
    (sym (get_or-map effect_code (get_or EFFECTS s []) c KeepsScope)
    ∙ ap (λ r. get_or r c 0) (sym (get_or-map (λ r. map effect_code r) EFFECTS s []))
    ∙ effect-read (map (λ r. map effect_code r) EFFECTS) state class s c effects-right h l e f)
    ∙ effect-again (effect_by (state_of state) (get_or lead_bytes class 0))

pub rule-at : (state s : ℕ) → state < 47 → s ≡ state → rule_of (get_or RULES s NewName) ≡ rule_in (state_of state)
rule-at state s h e =
    sym (get_or-map rule_of RULES s NewName)
    ∙ ap₂ (λ l k. get_or l k (rule_of NewName)) rules-right e
    ∙ mapped_at rule_in states state start (rule_of NewName) h
