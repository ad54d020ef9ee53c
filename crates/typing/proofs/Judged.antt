-- No judgement of a tree fails exactly where those of its parts hold and its own rules hold: the list of judgements taken apart
-- along the tree, once in each direction.
-- Assumes nothing.
use Prim.Native.Nat.{ℕ}
use mathlib.Core.Bool.{true}
use mathlib.Core.List.{List, ◌∷◌, ◌++◌}
use mathlib.Core.Option.{none}
use mathlib.Core.Path.{◌≡◌}
use lib.ListN.{length}
use Rattle.records.specs.Trees.{Tree, no_expression, constant_of, name_of, tuple_of, first_of, second_of, let_of, feedback_of, if_of, delay_of, type_record_of}
use Rattle.typing.specs.Judgements.{
  Rule,
  leaves_fit,
  in_scope,
  pair_declared,
  pair_type,
  same_type,
  pattern_has,
  no_rule,
  holds,
  judge,
  judgements,
  first_failing,
}
use Rattle.typing.proofs.Failing.{none-in-both, none-of-both, failing-judged, judgement-holds}

-- no judgement of the tree fails
abbrev pub NoneFails : List ℕ → List ℕ → Tree → Type 0
NoneFails s Γ e = first_failing s (judgements s Γ e) ≡ none

abbrev pub RuleHolds : List ℕ → Rule → Type 0
RuleHolds s rule = holds s rule ≡ true

-- the rules of the tree hold
abbrev pub RulesHold : List ℕ → List ℕ → Tree → Type 0
RulesHold s Γ no_expression = RuleHolds s no_rule
RulesHold s Γ (constant_of r t ls) = RuleHolds s (leaves_fit t ls)
RulesHold s Γ (name_of r k) = RuleHolds s (in_scope k (length Γ))
RulesHold s Γ (tuple_of r a b) = RulesHold s Γ a × RulesHold s Γ b × RuleHolds s (pair_declared (type_record_of s Γ a) (type_record_of s Γ b))
RulesHold s Γ (first_of r a) = RulesHold s Γ a × RuleHolds s (pair_type (type_record_of s Γ a))
RulesHold s Γ (second_of r a) = RulesHold s Γ a × RuleHolds s (pair_type (type_record_of s Γ a))
RulesHold s Γ (let_of r a b) = RulesHold s Γ a × RulesHold s (type_record_of s Γ a ∷ Γ) b
RulesHold s Γ (feedback_of r t a b) = RulesHold s (t ∷ Γ) a × RulesHold s (t ∷ Γ) b × RuleHolds s (same_type (type_record_of s (t ∷ Γ) a) t)
RulesHold s Γ (if_of r a p b c) =
    RulesHold s Γ a
    × RuleHolds s (pattern_has (type_record_of s Γ a) p)
    × RulesHold s Γ b
    × RulesHold s Γ c
    × RuleHolds s (same_type (type_record_of s Γ b) (type_record_of s Γ c))
RulesHold s Γ (delay_of r t ls a) = RulesHold s Γ a × RuleHolds s (leaves_fit t ls) × RuleHolds s (same_type (type_record_of s Γ a) t)

pub passed-judged : (s Γ : List ℕ) (e : Tree) → NoneFails s Γ e → RulesHold s Γ e
passed-judged s Γ no_expression p = failing-judged s 0 no_rule p
passed-judged s Γ (constant_of r t ls) p = failing-judged s r (leaves_fit t ls) p
passed-judged s Γ (name_of r k) p = failing-judged s r (in_scope k (length Γ)) p
passed-judged s Γ (tuple_of r a b) p =
    let rule = pair_declared (type_record_of s Γ a) (type_record_of s Γ b) in
    let q = none-in-both s (judgements s Γ a) (judgements s Γ b ++ judge r rule) p in
    let h = none-in-both s (judgements s Γ b) (judge r rule) q.1 in
    (passed-judged s Γ a q.0, passed-judged s Γ b h.0, failing-judged s r rule h.1)
passed-judged s Γ (first_of r a) p =
    let q = none-in-both s (judgements s Γ a) (judge r (pair_type (type_record_of s Γ a))) p in
    (passed-judged s Γ a q.0, failing-judged s r (pair_type (type_record_of s Γ a)) q.1)
passed-judged s Γ (second_of r a) p =
    let q = none-in-both s (judgements s Γ a) (judge r (pair_type (type_record_of s Γ a))) p in
    (passed-judged s Γ a q.0, failing-judged s r (pair_type (type_record_of s Γ a)) q.1)
passed-judged s Γ (let_of r a b) p =
    let q = none-in-both s (judgements s Γ a) (judgements s (type_record_of s Γ a ∷ Γ) b) p in
    (passed-judged s Γ a q.0, passed-judged s (type_record_of s Γ a ∷ Γ) b q.1)
passed-judged s Γ (feedback_of r t a b) p =
    let rule = same_type (type_record_of s (t ∷ Γ) a) t in
    let q = none-in-both s (judgements s (t ∷ Γ) a) (judgements s (t ∷ Γ) b ++ judge r rule) p in
    let h = none-in-both s (judgements s (t ∷ Γ) b) (judge r rule) q.1 in
    (passed-judged s (t ∷ Γ) a q.0, passed-judged s (t ∷ Γ) b h.0, failing-judged s r rule h.1)
passed-judged s Γ (if_of r a m b c) p =
    let has = pattern_has (type_record_of s Γ a) m in
    let same = same_type (type_record_of s Γ b) (type_record_of s Γ c) in
    let q = none-in-both s (judgements s Γ a) (judge r has ++ (judgements s Γ b ++ (judgements s Γ c ++ judge r same))) p in
    let h = none-in-both s (judge r has) (judgements s Γ b ++ (judgements s Γ c ++ judge r same)) q.1 in
    let k = none-in-both s (judgements s Γ b) (judgements s Γ c ++ judge r same) h.1 in
    let l = none-in-both s (judgements s Γ c) (judge r same) k.1 in (
      passed-judged s Γ a q.0,
      failing-judged s r has h.0,
      passed-judged s Γ b k.0,
      passed-judged s Γ c l.0,
      failing-judged s r same l.1,
    )
passed-judged s Γ (delay_of r t ls a) p =
    let fit = leaves_fit t ls in
    let same = same_type (type_record_of s Γ a) t in
    let q = none-in-both s (judgements s Γ a) (judge r fit ++ judge r same) p in
    let h = none-in-both s (judge r fit) (judge r same) q.1 in
    (passed-judged s Γ a q.0, failing-judged s r fit h.0, failing-judged s r same h.1)

pub judged-passed : (s Γ : List ℕ) (e : Tree) → RulesHold s Γ e → NoneFails s Γ e
judged-passed s Γ no_expression j = judgement-holds s 0 no_rule j
judged-passed s Γ (constant_of r t ls) j = judgement-holds s r (leaves_fit t ls) j
judged-passed s Γ (name_of r k) j = judgement-holds s r (in_scope k (length Γ)) j
judged-passed s Γ (tuple_of r a b) j =
    let rule = pair_declared (type_record_of s Γ a) (type_record_of s Γ b) in
    none-of-both s (judgements s Γ a) (judgements s Γ b ++ judge r rule) (judged-passed s Γ a j.0)
    (none-of-both s (judgements s Γ b) (judge r rule) (judged-passed s Γ b j.1) (judgement-holds s r rule j.2))
judged-passed s Γ (first_of r a) j =
    none-of-both s (judgements s Γ a) (judge r (pair_type (type_record_of s Γ a))) (judged-passed s Γ a j.0)
    (judgement-holds s r (pair_type (type_record_of s Γ a)) j.1)
judged-passed s Γ (second_of r a) j =
    none-of-both s (judgements s Γ a) (judge r (pair_type (type_record_of s Γ a))) (judged-passed s Γ a j.0)
    (judgement-holds s r (pair_type (type_record_of s Γ a)) j.1)
judged-passed s Γ (let_of r a b) j =
    none-of-both s (judgements s Γ a) (judgements s (type_record_of s Γ a ∷ Γ) b) (judged-passed s Γ a j.0)
    (judged-passed s (type_record_of s Γ a ∷ Γ) b j.1)
judged-passed s Γ (feedback_of r t a b) j =
    let rule = same_type (type_record_of s (t ∷ Γ) a) t in
    none-of-both s (judgements s (t ∷ Γ) a) (judgements s (t ∷ Γ) b ++ judge r rule) (judged-passed s (t ∷ Γ) a j.0)
    (none-of-both s (judgements s (t ∷ Γ) b) (judge r rule) (judged-passed s (t ∷ Γ) b j.1) (judgement-holds s r rule j.2))
judged-passed s Γ (if_of r a m b c) j =
    let has = pattern_has (type_record_of s Γ a) m in
    let same = same_type (type_record_of s Γ b) (type_record_of s Γ c) in
    none-of-both s (judgements s Γ a) (judge r has ++ (judgements s Γ b ++ (judgements s Γ c ++ judge r same)))
    (judged-passed s Γ a j.0)
    (none-of-both s (judge r has) (judgements s Γ b ++ (judgements s Γ c ++ judge r same)) (judgement-holds s r has j.1)
    (none-of-both s (judgements s Γ b) (judgements s Γ c ++ judge r same) (judged-passed s Γ b j.2)
    (none-of-both s (judgements s Γ c) (judge r same) (judged-passed s Γ c j.3) (judgement-holds s r same j.4))))
judged-passed s Γ (delay_of r t ls a) j =
    let fit = leaves_fit t ls in
    let same = same_type (type_record_of s Γ a) t in
    none-of-both s (judgements s Γ a) (judge r fit ++ judge r same) (judged-passed s Γ a j.0)
    (none-of-both s (judge r fit) (judge r same) (judgement-holds s r fit j.1) (judgement-holds s r same j.2))
