-- What a test of the kind of a record says: that it is a pair type, or a pair pattern. By the cases of the kinds. Assumes nothing.
use mathlib.Core.Path.{◌≡◌, refl, sym, ap, ◌∙◌}
use mathlib.Core.Bool.{Bool, true, false}
use mathlib.Core.List.{List}
use Prim.Native.Nat.{ℕ}
use denote.Enum.Bare.{sameb}
use Rattle.records.specs.contracts.kinds.Kind.{the_type}
use Rattle.records.specs.declared.kinds.Kind.{Kind}
use Rattle.records.specs.declared.kinds.Kind.TheVariants as Coded
use Rattle.records.specs.Kinds.{type_of, pair, pattern, parts, is_pair}
use Rattle.records.specs.Kinded.{kind_meant}
use Rattle.records.specs.Says.{kind_at}
use Rattle.records.proofs.Kinded.{pair-same}
use Rattle.records.proofs.Table.{is-pair}
use Rattle.records.proofs.Tests.{never_both}
use Rattle.typing.proofs.Alternatives.{is_parts, is-parts-kind}

same-parts : (k : Kind) → sameb the_type k Coded.PairPattern ≡ is_parts (kind_meant k)
same-parts Coded.Unknown = refl
same-parts Coded.Header = refl
same-parts Coded.FlatType = refl
same-parts Coded.PairType = refl
same-parts Coded.Constant = refl
same-parts Coded.Name = refl
same-parts Coded.Pair = refl
same-parts Coded.First = refl
same-parts Coded.Second = refl
same-parts Coded.Let = refl
same-parts Coded.Feedback = refl
same-parts Coded.If = refl
same-parts Coded.Delay = refl
same-parts Coded.WholePattern = refl
same-parts Coded.ConstructorPattern = refl
same-parts Coded.PairPattern = refl
same-parts Coded.Leaf = refl

module _ (s : List ℕ) (r : ℕ) (k : Kind) {b : Bool} (e : kind_meant k ≡ kind_at s r) where
  module _ (t : b ≡ sameb the_type k Coded.PairType) where
    pub pair-tested : b ≡ is_pair (kind_at s r)
    pair-tested = t ∙ pair-same k ∙ ap is_pair e

    pub is-pair-type : b ≡ true → kind_at s r ≡ type_of pair
    is-pair-type h = is-pair (kind_at s r) (sym pair-tested ∙ h)

    pub no-pair-type : b ≡ false → is_pair (kind_at s r) ≡ false
    no-pair-type h = sym pair-tested ∙ h

  module _ (t : b ≡ sameb the_type k Coded.PairPattern) where
    parts-tested : b ≡ is_parts (kind_at s r)
    parts-tested = t ∙ same-parts k ∙ ap is_parts e

    pub is-pair-pattern : b ≡ true → kind_at s r ≡ pattern parts
    is-pair-pattern h = is-parts-kind (kind_at s r) (sym parts-tested ∙ h)

    pub no-pair-pattern : b ≡ false → kind_at s r ≡ pattern parts → ⊥
    no-pair-pattern h q = never_both false (sym (sym parts-tested ∙ h) ∙ ap is_parts q) refl
