-- What a word asks is settled by the record's kind: the kind has one row of the table, as each row's kind has that row's
-- number. Sorts that are compared equal are equal, and a sort says which kinds a record may have. By the cases of the table,
-- the kinds and the sorts.
-- Assumes nothing.
use Prim.Native.Nat.{ℕ, zero, suc, ◌+◌}
use mathlib.Core.Bool.{Bool, true, false, cond, ◌||◌, or-true, false≢true}
use mathlib.Core.List.{List, [], ◌∷◌}
use mathlib.Core.Path.{◌≡◌, refl, sym, ap, ◌∙◌}
use lib.ListN.{get_or}
use lib.Dec.{eqb}
use borrow.Author.Tests.{eqb-true}
use Rattle.records.specs.Words.{kind_word}
use Rattle.records.specs.Kinds.{
  Sort,
  headers,
  types,
  expressions,
  patterns,
  leafs,
  no_sort,
  TypeKind,
  flat,
  pair,
  ExpressionKind,
  constant,
  name,
  tuple,
  first,
  second,
  let_in,
  feedback,
  if_matches,
  delay,
  PatternKind,
  whole,
  constructor,
  parts,
  Kind,
  header,
  type_of,
  expression,
  pattern,
  leaf,
  unknown,
  sort_of,
  sort_number,
  same_sort,
  is_flat,
  is_pair,
  is_header,
  is_delay,
  Ask,
  zeroed,
  next_of,
  part,
  any_type,
  lower_type,
  lower_flat,
  constructor_of,
  counted,
  byte,
  free,
  total,
  never,
  Row,
  row,
  kind_rows,
  number_in,
  kind_in,
  asks_in,
  row_in,
  row_of,
  kind_of,
  ask_of,
}
use Rattle.records.specs.Says.{kind_at, ask_at}

-- a kind's number in the table; 0 is no kind's
abbrev number_of : Kind → ℕ
number_of header = 1
number_of (type_of flat) = 16
number_of (type_of pair) = 17
number_of (expression constant) = 32
number_of (expression name) = 33
number_of (expression tuple) = 34
number_of (expression first) = 35
number_of (expression second) = 36
number_of (expression let_in) = 37
number_of (expression feedback) = 38
number_of (expression if_matches) = 39
number_of (expression delay) = 40
number_of (pattern whole) = 48
number_of (pattern constructor) = 49
number_of (pattern parts) = 50
number_of leaf = 64
number_of unknown = 0

-- what word j of a record of this kind asks
unfoldable pub ask_of_kind : Kind → ℕ → Ask
unfolding ask_of
ask_of_kind k j = ask_of (number_of k) j

abbrev All : (Row → Type 0) → List Row → Type 0
All P [] = Unit {0}
All P (x ∷ xs) = P x × All P xs

pick : (P : Row → Type 0) (b : Bool) (x y : Row) → P x → P y → P (cond b x y)
pick P true x y p q = p
pick P false x y p q = q

-- what each row has, and the row of an unknown number, has the row that is looked up
looked-up : (P : Row → Type 0) (xs : List Row) (n : ℕ) → All P xs → P (row n unknown never never never never never)
    → P (row_in xs n)
looked-up P [] n all rest = rest
looked-up P (x ∷ xs) n all rest =
    pick P (eqb (number_in x) n) x (row_in xs n) all.0 (looked-up P xs n all.1 rest)

asks-by-kind : (n : ℕ) → asks_in (row_of n) ≡ asks_in (row_of (number_of (kind_in (row_of n))))
unfolding row_of
asks-by-kind n =
    looked-up (λ x. asks_in x ≡ asks_in (row_of (number_of (kind_in x)))) kind_rows n
    (refl, (refl, (refl, (refl, (refl, (refl, (refl, (refl, (refl, (refl, (refl, (refl, (refl, (refl, (refl, (refl, tt)))))))))))))))) refl

ask-by-number : (n j : ℕ) → ask_of n j ≡ ask_of_kind (kind_of n) j
unfolding ask_of kind_of ask_of_kind
ask-by-number n j = ap (λ asks. get_or asks j zeroed) (asks-by-kind n)

-- the kind of a record settles what its words ask
pub ask-by-kind : (s : List ℕ) (r j : ℕ) (k : Kind) → kind_at s r ≡ k → ask_at s r j ≡ ask_of_kind k j
ask-by-kind s r j k e = ask-by-number (kind_word s r) j ∙ ap (λ k. ask_of_kind k j) e

-- a test that an ask in a list passes
abbrev some : (Ask → Bool) → List Ask → Bool
some p [] = false
some p (a ∷ rest) = p a || some p rest

some_at : (p : Ask → Bool) (asks : List Ask) (j : ℕ) → p zeroed ≡ false → p (get_or asks j zeroed) ≡ true → some p asks ≡ true
some_at p [] j z e = sym z ∙ e
some_at p (a ∷ rest) zero z e = rw e
some_at p (a ∷ rest) (suc j) z e = rw (some_at p rest j z e) (or-true (p a))

-- a number for each ask, by which two are told apart
abbrev pub ask_number : Ask → ℕ
ask_number zeroed = 0
ask_number any_type = 1
ask_number lower_type = 2
ask_number lower_flat = 3
ask_number constructor_of = 4
ask_number counted = 5
ask_number byte = 6
ask_number free = 7
ask_number total = 8
ask_number never = 9
ask_number (next_of σ) = 16 + sort_number σ
ask_number (part σ) = 32 + sort_number σ

asks_constructor : Ask → Bool
asks_constructor a = eqb (ask_number a) (ask_number constructor_of)

no-flat : {a : Ask} → false ≡ true → a ≡ lower_flat
no-flat e = absurd (false≢true e)

-- where a word asks for a constructor, word a asks for a flat type
pub constructor-of-flat : (n j : ℕ) → ask_of n j ≡ constructor_of → ask_of n 2 ≡ lower_flat
unfolding ask_of asks_constructor
constructor-of-flat n j e =
    looked-up (λ x. some asks_constructor (asks_in x) ≡ true → get_or (asks_in x) 2 zeroed ≡ lower_flat) kind_rows n (
      no-flat,
      (
        no-flat,
        (
          no-flat,
          (
            no-flat,
            (
              no-flat,
              (
                no-flat,
                (
                  no-flat,
                  (
                    no-flat,
                    (
                      no-flat,
                      (
                        no-flat,
                        (
                          no-flat,
                          (
                            no-flat,
                            (
                              no-flat,
                              ((λ e. refl), (no-flat, (no-flat, tt))),
                            ),
                          ),
                        ),
                      ),
                    ),
                  ),
                ),
              ),
            ),
          ),
        ),
      ),
    ) no-flat
    (some_at asks_constructor (asks_in (row_of n)) j refl (rw e))

sort_with : ℕ → Sort
sort_with zero = no_sort
sort_with (suc zero) = headers
sort_with (suc (suc zero)) = types
sort_with (suc (suc (suc zero))) = expressions
sort_with (suc (suc (suc (suc zero)))) = patterns
sort_with (suc (suc (suc (suc (suc n))))) = leafs

sort-with-number : (σ : Sort) → sort_with (sort_number σ) ≡ σ
unfolding sort_with
sort-with-number no_sort = refl
sort-with-number headers = refl
sort-with-number types = refl
sort-with-number expressions = refl
sort-with-number patterns = refl
sort-with-number leafs = refl

pub same-sort : (σ τ : Sort) → same_sort σ τ ≡ true → σ ≡ τ
same-sort σ τ e = sym (sort-with-number σ) ∙ ap sort_with (eqb-true (sort_number σ) (sort_number τ) e) ∙ sort-with-number τ

pub is-flat : (k : Kind) → is_flat k ≡ true → k ≡ type_of flat
is-flat (type_of flat) e = refl
is-flat (type_of pair) e = cc
is-flat header e = cc
is-flat (expression k) e = cc
is-flat (pattern k) e = cc
is-flat leaf e = cc
is-flat unknown e = cc

pub is-pair : (k : Kind) → is_pair k ≡ true → k ≡ type_of pair
is-pair (type_of pair) e = refl
is-pair (type_of flat) e = cc
is-pair header e = cc
is-pair (expression k) e = cc
is-pair (pattern k) e = cc
is-pair leaf e = cc
is-pair unknown e = cc

pub is-header : (k : Kind) → is_header k ≡ true → k ≡ header
is-header header e = refl
is-header (type_of k) e = cc
is-header (expression k) e = cc
is-header (pattern k) e = cc
is-header leaf e = cc
is-header unknown e = cc

pub is-delay : (k : Kind) → is_delay k ≡ true → k ≡ expression delay
is-delay (expression delay) e = refl
is-delay (expression constant) e = cc
is-delay (expression name) e = cc
is-delay (expression tuple) e = cc
is-delay (expression first) e = cc
is-delay (expression second) e = cc
is-delay (expression let_in) e = cc
is-delay (expression feedback) e = cc
is-delay (expression if_matches) e = cc
is-delay header e = cc
is-delay (type_of k) e = cc
is-delay (pattern k) e = cc
is-delay leaf e = cc
is-delay unknown e = cc

-- a sort says which kinds a record may have
abbrev pub OfSort : Sort → Kind → Type 0
OfSort headers k = k ≡ header
OfSort types k = (t : TypeKind) × (k ≡ type_of t)
OfSort expressions k = (e : ExpressionKind) × (k ≡ expression e)
OfSort patterns k = (p : PatternKind) × (k ≡ pattern p)
OfSort leafs k = k ≡ leaf
OfSort no_sort k = k ≡ unknown

of-sort : (k : Kind) → OfSort (sort_of k) k
of-sort header = refl
of-sort (type_of t) = (t, refl)
of-sort (expression e) = (e, refl)
of-sort (pattern p) = (p, refl)
of-sort leaf = refl
of-sort unknown = refl

pub kind-of-sort : (σ : Sort) (k : Kind) → sort_of k ≡ σ → OfSort σ k
kind-of-sort σ k e = rw e at (of-sort k)
