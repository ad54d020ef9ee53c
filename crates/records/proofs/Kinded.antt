-- What the code's enums stand for decides what is asked of them: a kind of the code its row, and a test of it. By the cases of the enums.
-- Assumes nothing.
use mathlib.Core.Path.{◌≡◌, refl, ap, ◌∙◌, sym}
use mathlib.Core.Bool.{Bool, true, false, not}
use mathlib.Core.List.{List, [], ◌∷◌, map}
use Prim.Native.Nat.{ℕ, zero, suc, ◌<◌}
use native.Mathlib.Omega.{arith}
use lib.ListN.{get_or, length}
use Rattle.records.specs.Words.{word}
use Rattle.records.specs.declared.kinds.Ask.{Ask}
use Rattle.records.specs.declared.kinds.Sort.{Sort}
use Rattle.records.specs.declared.kinds.Sort.TheVariants as Sorted
use Rattle.records.specs.contracts.kinds.Sort as Sorts
use denote.Enum.Bare.{sameb}
use Rattle.records.specs.contracts.kinds.Kind.{the_type}
use Rattle.records.specs.declared.kinds.Kind.{Kind}
use Rattle.records.specs.declared.kinds.Kind.TheVariants as Coded
use Rattle.records.specs.Kinds as Table
use Rattle.records.specs.Kinds.{zeroed, Row, row, asks_in, row_of, kind_of, ask_of, sort_of, same_sort, is_flat, is_pair, is_header, is_delay, expressions}
use Rattle.records.specs.Kinded.{kind_meant, sort_meant, ask_meant, asks_of}
use Rattle.records.specs.Says.{kind_at, sort_at, ask_at, meets, meets_word_at}
use Rattle.records.proofs.Table.{ask_of_kind, ask-by-kind}

-- what word j of a record of this kind asks
asks-meant : (k : Kind) (j : ℕ) → get_or (asks_of k) j zeroed ≡ ask_of_kind (kind_meant k) j
unfolding asks_of ask_of_kind ask_of
asks-meant Coded.Unknown j = refl
asks-meant Coded.Header j = refl
asks-meant Coded.FlatType j = refl
asks-meant Coded.PairType j = refl
asks-meant Coded.Constant j = refl
asks-meant Coded.Name j = refl
asks-meant Coded.Pair j = refl
asks-meant Coded.First j = refl
asks-meant Coded.Second j = refl
asks-meant Coded.Let j = refl
asks-meant Coded.Feedback j = refl
asks-meant Coded.If j = refl
asks-meant Coded.Delay j = refl
asks-meant Coded.WholePattern j = refl
asks-meant Coded.ConstructorPattern j = refl
asks-meant Coded.PairPattern j = refl
asks-meant Coded.Leaf j = refl

pub asks-at : (s : List ℕ) (r : ℕ) (k : Kind) → kind_meant k ≡ kind_at s r → (j : ℕ) → get_or (asks_of k) j zeroed ≡ ask_at s r j
asks-at s r k e j = asks-meant k j ∙ sym (ask-by-kind s r j (kind_meant k) (sym e))

ask-found : (asks : List Ask) (d : Ask) (j : ℕ) → j < length (map ask_meant asks)
    → ask_meant (get_or asks j d) ≡ get_or (map ask_meant asks) j zeroed
ask-found [] d j h = absurd (omega arith)
ask-found (a ∷ asks) d zero h = refl
ask-found (a ∷ asks) d (suc j) h = ask-found asks d j (omega arith)

six-asks : (x : Row) → length (asks_in x) ≡ 6
six-asks (row number kind next a b c d) = refl

six-words : (k : Kind) → length (asks_of k) ≡ 6
unfolding asks_of
six-words k = six-asks _

-- what the code's table asks of a word is what is asked of it
pub asked-at : (s : List ℕ) (r j : ℕ) (k : Kind) (asks : List Ask) (d : Ask) → kind_meant k ≡ kind_at s r
    → map ask_meant asks ≡ asks_of k → j < 6 → ask_meant (get_or asks j d) ≡ ask_at s r j
asked-at s r j k asks d e f h =
    let l : j < length (map ask_meant asks) = rw (f, six-words k) h in
    ask-found asks d j l ∙ ap (λ xs. get_or xs j zeroed) f ∙ asks-at s r k e j

-- a test of what the code's table asks of a word is the test of the word
pub meets-asked : (s : List ℕ) (r j : ℕ) (k : Kind) (asks : List Ask) (d : Ask) (w : ℕ) (b : Bool) → kind_meant k ≡ kind_at s r
    → map ask_meant asks ≡ asks_of k → j < 6 → w ≡ word s r j → b ≡ meets s r (ask_meant (get_or asks j d)) w
    → b ≡ meets_word_at s r j
meets-asked s r j k asks d w b e f h g t =
    rw (← g, ← asked-at s r j k asks d e f h) t

-- a test that a kind of the code is this one is the test of the kind that it stands for, which no other passes
pub same-header : (k : Kind) → sameb the_type k Coded.Header ≡ is_header (kind_meant k)
same-header Coded.Unknown = refl
same-header Coded.Header = refl
same-header Coded.FlatType = refl
same-header Coded.PairType = refl
same-header Coded.Constant = refl
same-header Coded.Name = refl
same-header Coded.Pair = refl
same-header Coded.First = refl
same-header Coded.Second = refl
same-header Coded.Let = refl
same-header Coded.Feedback = refl
same-header Coded.If = refl
same-header Coded.Delay = refl
same-header Coded.WholePattern = refl
same-header Coded.ConstructorPattern = refl
same-header Coded.PairPattern = refl
same-header Coded.Leaf = refl

pub not-header : (k : Kind) → (k ≡ Coded.Header → ⊥) → is_header (kind_meant k) ≡ false
not-header Coded.Unknown f = refl
not-header Coded.Header f = absurd (f refl)
not-header Coded.FlatType f = refl
not-header Coded.PairType f = refl
not-header Coded.Constant f = refl
not-header Coded.Name f = refl
not-header Coded.Pair f = refl
not-header Coded.First f = refl
not-header Coded.Second f = refl
not-header Coded.Let f = refl
not-header Coded.Feedback f = refl
not-header Coded.If f = refl
not-header Coded.Delay f = refl
not-header Coded.WholePattern f = refl
not-header Coded.ConstructorPattern f = refl
not-header Coded.PairPattern f = refl
not-header Coded.Leaf f = refl

pub same-flat : (k : Kind) → sameb the_type k Coded.FlatType ≡ is_flat (kind_meant k)
same-flat Coded.Unknown = refl
same-flat Coded.Header = refl
same-flat Coded.FlatType = refl
same-flat Coded.PairType = refl
same-flat Coded.Constant = refl
same-flat Coded.Name = refl
same-flat Coded.Pair = refl
same-flat Coded.First = refl
same-flat Coded.Second = refl
same-flat Coded.Let = refl
same-flat Coded.Feedback = refl
same-flat Coded.If = refl
same-flat Coded.Delay = refl
same-flat Coded.WholePattern = refl
same-flat Coded.ConstructorPattern = refl
same-flat Coded.PairPattern = refl
same-flat Coded.Leaf = refl

pub not-flat : (k : Kind) → (k ≡ Coded.FlatType → ⊥) → is_flat (kind_meant k) ≡ false
not-flat Coded.Unknown f = refl
not-flat Coded.Header f = refl
not-flat Coded.FlatType f = absurd (f refl)
not-flat Coded.PairType f = refl
not-flat Coded.Constant f = refl
not-flat Coded.Name f = refl
not-flat Coded.Pair f = refl
not-flat Coded.First f = refl
not-flat Coded.Second f = refl
not-flat Coded.Let f = refl
not-flat Coded.Feedback f = refl
not-flat Coded.If f = refl
not-flat Coded.Delay f = refl
not-flat Coded.WholePattern f = refl
not-flat Coded.ConstructorPattern f = refl
not-flat Coded.PairPattern f = refl
not-flat Coded.Leaf f = refl

pub pair-same : (k : Kind) → sameb the_type k Coded.PairType ≡ is_pair (kind_meant k)
pair-same Coded.Unknown = refl
pair-same Coded.Header = refl
pair-same Coded.FlatType = refl
pair-same Coded.PairType = refl
pair-same Coded.Constant = refl
pair-same Coded.Name = refl
pair-same Coded.Pair = refl
pair-same Coded.First = refl
pair-same Coded.Second = refl
pair-same Coded.Let = refl
pair-same Coded.Feedback = refl
pair-same Coded.If = refl
pair-same Coded.Delay = refl
pair-same Coded.WholePattern = refl
pair-same Coded.ConstructorPattern = refl
pair-same Coded.PairPattern = refl
pair-same Coded.Leaf = refl

pub not-pair : (k : Kind) → (k ≡ Coded.PairType → ⊥) → is_pair (kind_meant k) ≡ false
not-pair Coded.Unknown f = refl
not-pair Coded.Header f = refl
not-pair Coded.FlatType f = refl
not-pair Coded.PairType f = absurd (f refl)
not-pair Coded.Constant f = refl
not-pair Coded.Name f = refl
not-pair Coded.Pair f = refl
not-pair Coded.First f = refl
not-pair Coded.Second f = refl
not-pair Coded.Let f = refl
not-pair Coded.Feedback f = refl
not-pair Coded.If f = refl
not-pair Coded.Delay f = refl
not-pair Coded.WholePattern f = refl
not-pair Coded.ConstructorPattern f = refl
not-pair Coded.PairPattern f = refl
not-pair Coded.Leaf f = refl

pub same-delay : (k : Kind) → sameb the_type k Coded.Delay ≡ is_delay (kind_meant k)
same-delay Coded.Unknown = refl
same-delay Coded.Header = refl
same-delay Coded.FlatType = refl
same-delay Coded.PairType = refl
same-delay Coded.Constant = refl
same-delay Coded.Name = refl
same-delay Coded.Pair = refl
same-delay Coded.First = refl
same-delay Coded.Second = refl
same-delay Coded.Let = refl
same-delay Coded.Feedback = refl
same-delay Coded.If = refl
same-delay Coded.Delay = refl
same-delay Coded.WholePattern = refl
same-delay Coded.ConstructorPattern = refl
same-delay Coded.PairPattern = refl
same-delay Coded.Leaf = refl

pub not-delay : (k : Kind) → (k ≡ Coded.Delay → ⊥) → is_delay (kind_meant k) ≡ false
not-delay Coded.Unknown f = refl
not-delay Coded.Header f = refl
not-delay Coded.FlatType f = refl
not-delay Coded.PairType f = refl
not-delay Coded.Constant f = refl
not-delay Coded.Name f = refl
not-delay Coded.Pair f = refl
not-delay Coded.First f = refl
not-delay Coded.Second f = refl
not-delay Coded.Let f = refl
not-delay Coded.Feedback f = refl
not-delay Coded.If f = refl
not-delay Coded.Delay f = absurd (f refl)
not-delay Coded.WholePattern f = refl
not-delay Coded.ConstructorPattern f = refl
not-delay Coded.PairPattern f = refl
not-delay Coded.Leaf f = refl

twice-not : (b : Bool) → b ≡ not (not b)
twice-not true = refl
twice-not false = refl

-- what a comparison of a record's kind says of the kind that it has
module _ (f : Table.Kind → Bool) (s : List ℕ) (r : ℕ) (k : Kind) {q b t : Bool} (same : q ≡ f (kind_meant k))
    (ek : kind_meant k ≡ kind_at s r) where
  pub kind-equal : b ≡ q → b ≡ t → f (kind_at s r) ≡ t
  kind-equal eb et = ap f (sym ek) ∙ sym same ∙ sym eb ∙ et

  pub kind-unequal : b ≡ not q → b ≡ t → f (kind_at s r) ≡ not t
  kind-unequal eb et = ap f (sym ek) ∙ sym same ∙ twice-not q ∙ ap not (sym eb ∙ et)

-- a test that a sort of the code is that of expressions
pub same-expression : (σ : Sort) → sameb Sorts.the_type σ Sorted.Expressions ≡ same_sort (sort_meant σ) expressions
same-expression Sorted.None = refl
same-expression Sorted.Headers = refl
same-expression Sorted.Types = refl
same-expression Sorted.Expressions = refl
same-expression Sorted.Patterns = refl
same-expression Sorted.Leaves = refl

-- what a comparison of a record's sort says of the sort that it has
pub sort-equal : (s : List ℕ) (r : ℕ) (k : Kind) (σ : Sort) (τ : Table.Sort) {q b t : Bool} → q ≡ same_sort (sort_meant σ) τ
    → sort_meant σ ≡ sort_of (kind_meant k) → kind_meant k ≡ kind_at s r → b ≡ q → b ≡ t → same_sort (sort_at s r) τ ≡ t
sort-equal s r k σ τ same eσ ek eb et =
    ap (λ (x : Table.Kind). same_sort (sort_of x) τ) (sym ek) ∙ ap (λ (x : Table.Sort). same_sort x τ) (sym eσ) ∙ sym same ∙ sym eb ∙ et
