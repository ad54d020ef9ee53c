-- A sheet that passes codes 1 to 6 passes them again where only leaves and labels are rewritten, each leaf to a byte: the rules of
-- codes 4 to 6 read no word a of a leaf and no word d of a delay, and a leaf's word a may be any byte, a delay's word d any number.
-- Assumes nothing.
use Prim.Native.Nat.{ℕ, zero, suc, ◌≤◌, ◌<◌}
use mathlib.Core.Bool.{Bool, false, ◌&&◌, and-false}
use mathlib.Core.List.{List}
use mathlib.Core.Option.{none}
use mathlib.Core.Path.{◌≡◌, refl, ap, ap₂, fun_ext, ◌∙◌}
use mathlib.Core.Logic.{◌⊎◌, inl, inr}
use native.Mathlib.Omega.{arith}
use lib.ListN.{length}
use lib.Dec.{eqb, ltb}
use Rattle.records.specs.Words.{word, count, word_a}
use Rattle.records.specs.Kinds.{leaf}
use Rattle.records.specs.Says.{kind_at}
use Rattle.records.specs.Rewritten.{Rewritten}
use Rattle.records.specs.Written.{Written}
use Rattle.records.proofs.Rewritten.{SameWords, same_count, same_kind, same-type, same-pair-below, same-namings, leaf-or-same}
use Rattle.records.proofs.WrittenAgain.{written-again}
use Rattle.answers.specs.Answers.{lowest}
use Rattle.structure.specs.Rules.{
  ancestry_within,
  ancestry,
  depth,
  is_feedback,
  how_many,
  nesting,
  wrong_length,
  wrong_header,
  wrong_record,
  wrong_naming,
  wrong_type,
  too_deep,
  Passes,
}
use Rattle.answers.proofs.Lowest.{lowest_none}
use Rattle.structure.proofs.Passes.{written}

-- codes 2 and 3 do not apply to a written sheet
header-passes : {s : List ℕ} → Written s → wrong_header s ≡ false
unfolding wrong_header
header-passes w = rw (w.headed, w.said 0 w.some)

record-passes : {s : List ℕ} → Written s → (r : ℕ) → r < count s → wrong_record s r ≡ false
unfolding wrong_record
record-passes w zero h = refl
record-passes w (suc r) h = rw (w.others (suc r) (omega arith) h, w.said (suc r) h) (and-false (ltb 0 (suc r)))

module _ {s s' : List ℕ} (o : Rewritten s s') where
  pub same_length : wrong_length s' ≡ wrong_length s
  unfolding wrong_length
  same_length = rw o.length

  pub same-naming-rule : (r : ℕ) → wrong_naming s' r ≡ wrong_naming s r
  unfolding wrong_naming
  same-naming-rule r = rw (same-namings o r)

  pub same-type-rule : (r : ℕ) → wrong_type s' r ≡ wrong_type s r
  unfolding wrong_type
  same-type-rule r = go (leaf-or-same o r)
    where
      go : (kind_at s r ≡ leaf) ⊎ SameWords s s' r → wrong_type s' r ≡ wrong_type s r
      go (inl e) = rw (same_kind o r, e)
      go (inr e) =
          rw (
            e 0 (omega arith),
            e 2 (omega arith),
            e 3 (omega arith),
            same-pair-below o (word s r 2) (word s r 3) r,
            same-type o r,
          )

  ancestries-same : (n : ℕ) → ancestry_within s' n ≡ ancestry_within s n
  unfolding ancestry_within
  ancestries-same zero = refl
  ancestries-same (suc n) = fun_ext (λ r. rw (ancestries-same n, same-namings o r))

  same-ancestry : (r : ℕ) → ancestry s' r ≡ ancestry s r
  unfolding ancestry
  same-ancestry r = rw (ancestries-same r)

  same_depth : (r : ℕ) → depth s' r ≡ depth s r
  unfolding depth
  same_depth r = ap length (same-ancestry r)

  same-nesting : (r : ℕ) → nesting s' r ≡ nesting s r
  unfolding nesting
  same-nesting r = ap₂ how_many (fun_ext (λ n. ap (λ k. is_feedback k && eqb n.at 3) (same_kind o n.by))) (same-ancestry r)

  pub same-depth-rule : (r : ℕ) → too_deep s' r ≡ too_deep s r
  unfolding too_deep
  same-depth-rule r = rw (same_kind o r, same_depth r, same-nesting r)

  -- a search finds the same where the rule is the same
  same-search : (rule rule' : ℕ → Bool) → ((r : ℕ) → rule' r ≡ rule r) → lowest rule (count s) ≡ none
      → lowest rule' (count s') ≡ none
  same-search rule rule' same e = rw (same_count o) (ap (λ p. lowest p (count s)) (fun_ext same) ∙ e)

  pub passes-again : Passes s → ((r : ℕ) → r < count s → kind_at s r ≡ leaf → word_a s' r ≤ 255) → Passes s'
  passes-again p small =
      let w = written-again (written p) o small in
      record {
        length = same_length ∙ p.length;
        header = header-passes w;
        records = lowest_none (wrong_record s') (count s') (record-passes w);
        namings = same-search (wrong_naming s) (wrong_naming s') same-naming-rule p.namings;
        types = same-search (wrong_type s) (wrong_type s') same-type-rule p.types;
        depths = same-search (too_deep s) (too_deep s') same-depth-rule p.depths;
      }
