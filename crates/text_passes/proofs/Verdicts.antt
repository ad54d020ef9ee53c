-- The verdict on the sheet of a text: 3 and 5 by the declarations alone, and never 1, 2 or 4.
-- Assumes nothing.
use Prim.Native.Nat.{ℕ, zero, suc, ◌+◌, ◌-◌, ◌%◌, ◌≤◌, ◌<◌}
use mathlib.Core.Path.{◌≡◌, refl, ap, sym, ◌∙◌}
use mathlib.Core.Logic.{◌≢◌, ◌↔◌}
use mathlib.Core.Bool.{Bool, true, false, not, ◌||◌, and-false}
use mathlib.Core.List.{List, [], ◌∷◌}
use mathlib.Core.Option.{Option, none, some}
use native.Mathlib.Omega.{arith}
use borrow.Author.Tests.{lt-ltb, ltb-true, ltb-false}
use lib.Dec.{eqb, ltb}
use lib.ListN.{length, take}
use Rattle.records.specs.Words.{count}
use Rattle.records.specs.Kinds.{Kind, header, type_of, flat, pair, expression, pattern, leaf, unknown, types, sort_of, same_sort, is_pair, row_of, kind_of}
use Rattle.records.specs.Says.{kind_at, sort_at, Naming, namings, well_named}
use Rattle.records.specs.SheetOf.{sheet_of}
use Rattle.answers.specs.Answers.{code, verdict_answer, lowest}
use Rattle.answers.specs.Promises.{LowestBreaking}
use Rattle.answers.proofs.Kept as Answers
use Rattle.answers.specs.Answers.{Verdict}
use Rattle.answers.specs.Answers.{Accepted, WrongRecord, WrongType, TooDeep, IllTyped}
use Rattle.structure.specs.Rules.{wrong_length, wrong_header, wrong_record, wrong_naming, wrong_type, too_deep}
use Rattle.typing.specs.Judgements.{judgements, first_failing}
use Rattle.records.specs.Trees.{circuit, type_at, TypeRecord}
use Rattle.records.proofs.Tests.{neither_left, neither_right}
use Rattle.accepted.proofs.Laws.{exact}
use Rattle.verdict.specs.Scopes.{inputs}
use Rattle.verdict.specs.Verdict.{refusing, output_type, by_types, by_records, verdict}
use Rattle.grammar.specs.Tokens.{Token}
use Rattle.grammar.specs.Source.{Identifier, identifier, Declaration, Expression, Text, text}
use Rattle.grammar.specs.Grammar.{ReadsText}
use Rattle.name_rules.specs.Checks.{AllPass}
use Rattle.name_rules.specs.Names.{text_checks}
use Rattle.name_rules.specs.RecordsNeeded.{records_needed}
use Rattle.layout.specs.Layout.{types_laid, room_of, laid, text_records, sheet_of_text}
use Rattle.layout.proofs.Standing.{RecordIs, Stands, one-stands, sheet-stands, stands-append, sheet-count}
use Rattle.layout.proofs.Kept as Translation
use Rattle.layout.proofs.Kept.{names-good}
use Rattle.text_passes.specs.RefusedTypes.{declaration_at, where_declared, has_many_constructors, over_counted, is_refused_pair, refused_pair}
use Rattle.text_passes.specs.Promises.{FittingText, NeverAnswered, AnsweredThree, AnsweredFive, AnsweredSix, TypeDeclared, OutputDeclared}
use Rattle.text_passes.specs.NamedTypes.{type_name_of}
use Rattle.text_passes.proofs.TypesReady.{few_constructors}
use Rattle.text_passes.proofs.NamedOnce.{sheet_long, length-passes, named_once}
use Rattle.text_passes.proofs.RecordsSaid.{Said}
use Rattle.text_passes.proofs.SheetSaid.{text-is-said}
use Rattle.text_passes.specs.TextDepths.{text_expressions, first_too_deep}
use Rattle.text_passes.proofs.TextDeep.{deep-as}
use Rattle.text_passes.proofs.PairTypes.{types-refused, declared-named}

-- a search that comes to nothing past a bound
module _ (p q : ℕ → Bool) (n m : ℕ) (fewer : n ≤ m) (same : (r : ℕ) → r < n → p r ≡ q r)
    (past : lowest q n ≡ none → (r : ℕ) → n ≤ r → r < m → p r ≡ false) where
  same-lowest : lowest p m ≡ lowest q n
  same-lowest = go (lowest q n) refl
    where
      go : (o : Option ℕ) → lowest q n ≡ o → lowest p m ≡ o
      go none e = ((Answers.kept).lowest_none p m).1 (λ r h. here r h (ltb r n) refl)
        where
          here : (r : ℕ) → r < m → (b : Bool) → ltb r n ≡ b → p r ≡ false
          here r h true f = let l = ltb-true r n f in same r l ∙ ((Answers.kept).lowest_none q n).0 e r l
          here r h false f = past e r (ltb-false r n f) h
      go (some r) e =
          let f = ((Answers.kept).lowest_found q n r).0 e in
          let l = f.0 in
          ((Answers.kept).lowest_found p m r).1
          (omega (arith, l, fewer), same r l ∙ f.1, λ k h. same k (omega (arith, l, h)) ∙ f.2 k h)

-- there is no declaration past the last
pub none_after : (ds : List Declaration) (k : ℕ) → length ds ≤ k → declaration_at ds (suc k) ≡ none
none_after [] k h = refl
none_after (d ∷ ds) zero h = let no : ⊥ = omega arith in elim no [ ]
none_after (d ∷ ds) (suc k) h = none_after ds k (omega arith)

pub none_before : (ds : List Declaration) → declaration_at ds 0 ≡ none
none_before [] = refl
none_before (d ∷ ds) = refl

pub all-counted : (ds : List Declaration) → lowest (over_counted ds) (suc (length ds)) ≡ none → (i : ℕ) → over_counted ds i ≡ false
unfolding over_counted
all-counted ds e i = go i (ltb i (suc (length ds))) refl
  where
    go : (i : ℕ) (b : Bool) → ltb i (suc (length ds)) ≡ b → where_declared has_many_constructors (declaration_at ds i) ≡ false
    go i true f = ((Answers.kept).lowest_none (over_counted ds) (suc (length ds))).0 e i (ltb-true i (suc (length ds)) f)
    go zero false f = rw (none_before ds)
    go (suc i) false f = let h = ltb-false (suc i) (suc (length ds)) f in rw (none_after ds i (omega (arith, h)))

pub all_fit : (ds : List Declaration) → lowest (refused_pair ds) (suc (length ds)) ≡ none → (i : ℕ) → refused_pair ds i ≡ false
unfolding refused_pair
all_fit ds e i = go i (ltb i (suc (length ds))) refl
  where
    go : (i : ℕ) (b : Bool) → ltb i (suc (length ds)) ≡ b → where_declared (is_refused_pair ds (take (i - 1) ds)) (declaration_at ds i) ≡ false
    go i true f = ((Answers.kept).lowest_none (refused_pair ds) (suc (length ds))).0 e i (ltb-true i (suc (length ds)) f)
    go zero false f = rw (none_before ds)
    go (suc i) false f = let h = ltb-false (suc i) (suc (length ds)) f in rw (none_after ds i (omega (arith, h)))

-- a kind that is no type is no pair type
no-pair-kind : (k : Kind) → same_sort (sort_of k) types ≡ false → is_pair k ≡ false
no-pair-kind header h = refl
no-pair-kind (type_of flat) h = refl
no-pair-kind (type_of pair) h = h
no-pair-kind (expression k) h = refl
no-pair-kind (pattern k) h = refl
no-pair-kind leaf h = refl
no-pair-kind unknown h = refl

said-record : {s : List ℕ} {r : ℕ} → Said s r → wrong_record s r ≡ false
unfolding wrong_record
said-record {s} {r} x = rw (x.other, x.said) (and-false (ltb 0 r))

said-type : {s : List ℕ} {r : ℕ} → Said s r → wrong_type s r ≡ false
unfolding wrong_type
said-type {s} {r} x = rw (no-pair-kind (kind_at s r) x.no-type)

header-record : (s : List ℕ) → wrong_record s 0 ≡ false
unfolding wrong_record
header-record s = refl

name-passes : (s : List ℕ) (r : ℕ) → (0 < r → length (namings s r) ≡ 1) → wrong_naming s r ≡ false
unfolding wrong_naming
name-passes s zero f = refl
name-passes s (suc r) f = rw (lt-ltb 0 (suc r) (omega arith)) (go (namings s (suc r)) (f (omega arith)))
  where
    go : (ns : List Naming) → length ns ≡ 1 → not (well_named ns) ≡ false
    go [] e = let no : ⊥ = omega (arith, e) in elim no [ ]
    go (n ∷ []) e = refl
    go (n ∷ m ∷ ns) e = let no : ⊥ = omega (arith, e) in elim no [ ]

-- what the answer of the check is made of, where neither 1, 2 nor 4 applies
abbrev shape : (records types depths judged : Option ℕ) (output : ℕ) → Verdict
shape o p q r a = refusing o WrongRecord (refusing p WrongType (refusing q TooDeep (refusing r IllTyped (Accepted a))))

abbrev Never : ℕ → Type 0
Never c = (c ≢ 1) × (c ≢ 2) × (c ≢ 4)

none_of : (o p q r : Option ℕ) (a : ℕ) → Never (code (verdict_answer (shape o p q r a)))
none_of (some k) p q r a = (λ e. omega arith, λ e. omega arith, λ e. omega arith)
none_of none (some k) q r a = (λ e. omega arith, λ e. omega arith, λ e. omega arith)
none_of none none (some k) r a = (λ e. omega arith, λ e. omega arith, λ e. omega arith)
none_of none none none (some k) a = (λ e. omega arith, λ e. omega arith, λ e. omega arith)
none_of none none none none a = (λ e. omega arith, λ e. omega arith, λ e. omega arith)

three-of : (o p q r : Option ℕ) (a k : ℕ) → shape o p q r a ≡ WrongRecord k → o ≡ some k
three-of (some i) p q r a k e = cc
three-of none (some i) q r a k e = absurd (let no : ◌≡◌ {A = ℕ} 0 1 = cc in omega arith)
three-of none none (some i) r a k e = absurd (let no : ◌≡◌ {A = ℕ} 0 1 = cc in omega arith)
three-of none none none (some i) a k e = absurd (let no : ◌≡◌ {A = ℕ} 0 1 = cc in omega arith)
three-of none none none none a k e = absurd (let no : ◌≡◌ {A = ℕ} 0 1 = cc in omega arith)

five-of : (o p q r : Option ℕ) (a k : ℕ) → shape o p q r a ≡ WrongType k → (o ≡ none) × (p ≡ some k)
five-of (some i) p q r a k e = absurd (let no : ◌≡◌ {A = ℕ} 0 1 = cc in omega arith)
five-of none (some i) q r a k e = (refl, cc)
five-of none none (some i) r a k e = absurd (let no : ◌≡◌ {A = ℕ} 0 1 = cc in omega arith)
five-of none none none (some i) a k e = absurd (let no : ◌≡◌ {A = ℕ} 0 1 = cc in omega arith)
five-of none none none none a k e = absurd (let no : ◌≡◌ {A = ℕ} 0 1 = cc in omega arith)

seven-of : (o p q r : Option ℕ) (a k : ℕ) → shape o p q r a ≡ IllTyped k → (o ≡ none) × (p ≡ none) × (q ≡ none)
seven-of (some i) p q r a k e = absurd (let no : ◌≡◌ {A = ℕ} 0 1 = cc in omega arith)
seven-of none (some i) q r a k e = absurd (let no : ◌≡◌ {A = ℕ} 0 1 = cc in omega arith)
seven-of none none (some i) r a k e = absurd (let no : ◌≡◌ {A = ℕ} 0 1 = cc in omega arith)
seven-of none none none r a k e = (refl, refl, refl)

never_both : {v : Verdict} {r τ : ℕ} → v ≡ IllTyped r → v ≡ Accepted τ → ⊥
never_both p q = let no : ◌≡◌ {A = ℕ} 0 1 = cc in omega arith

abbrev pairs : List ℕ → Option ℕ
pairs s = lowest (wrong_type s) (count s)

abbrev depths : List ℕ → Option ℕ
depths s = lowest (too_deep s) (count s)

abbrev judged : List ℕ → Option ℕ
judged s = first_failing s (judgements s (inputs s) (circuit s))

six-of : (o p q r : Option ℕ) (a k : ℕ) → shape o p q r a ≡ TooDeep k → (o ≡ none) × (p ≡ none) × (q ≡ some k)
six-of (some i) p q r a k e = absurd (let no : ◌≡◌ {A = ℕ} 0 1 = cc in omega arith)
six-of none (some i) q r a k e = absurd (let no : ◌≡◌ {A = ℕ} 0 1 = cc in omega arith)
six-of none none (some i) r a k e = (refl, refl, cc)
six-of none none none (some i) a k e = absurd (let no : ◌≡◌ {A = ℕ} 0 1 = cc in omega arith)
six-of none none none none a k e = absurd (let no : ◌≡◌ {A = ℕ} 0 1 = cc in omega arith)

shaped : (s : List ℕ) → wrong_length s ≡ false → wrong_header s ≡ false → lowest (wrong_naming s) (count s) ≡ none
    → verdict s
    ≡ shape (lowest (wrong_record s) (count s)) (pairs s) (depths s) (judged s) (output_type s)
unfolding verdict by_records by_types
shaped s l h n = rw (l, h, n)

-- the searches of codes 3, 4 and 5 in the sheet of a text
pub record Searched (s : List ℕ) (ds : List Declaration) : Type 0 where
  pub fits : wrong_length s ≡ false
  pub headed : wrong_header s ≡ false
  pub recorded : lowest (wrong_record s) (count s) ≡ lowest (over_counted ds) (suc (length ds))
  pub named : lowest (wrong_naming s) (count s) ≡ none
  pub typed : lowest (over_counted ds) (suc (length ds)) ≡ none
      → lowest (wrong_type s) (count s) ≡ lowest (refused_pair ds) (suc (length ds))

module _ {s : List ℕ} {ds : List Declaration} (x : Searched s ds) where
  abbrev flats : Option ℕ
  flats = lowest (over_counted ds) (suc (length ds))

  is-shape : verdict s
      ≡ shape flats (pairs s) (depths s) (judged s) (output_type s)
  is-shape =
      shaped s x.fits x.headed x.named
      ∙ ap (λ o. shape o (pairs s) (depths s) (judged s) (output_type s)) x.recorded

  never : Never (code (verdict_answer (verdict s)))
  never =
      rw is-shape
      (none_of flats (pairs s) (depths s) (judged s) (output_type s))

  three : (r : ℕ) → verdict s ≡ WrongRecord r ↔ LowestBreaking (over_counted ds) (suc (length ds)) r
  three r = (
    λ e. ((Answers.kept).lowest_found (over_counted ds) (suc (length ds)) r).0
        (three-of flats (pairs s) (depths s) (judged s) (output_type s) r (sym is-shape ∙ e)),
    λ b. is-shape ∙ rw (((Answers.kept).lowest_found (over_counted ds) (suc (length ds)) r).1 b),
  )

  five : (r : ℕ) → verdict s ≡ WrongType r
      ↔ (((i : ℕ) → over_counted ds i ≡ false) × LowestBreaking (refused_pair ds) (suc (length ds)) r)
  five r = (
    λ e. let f = five-of flats (pairs s) (depths s) (judged s) (output_type s) r (sym is-shape ∙ e) in (
      all-counted ds f.0,
      ((Answers.kept).lowest_found (refused_pair ds) (suc (length ds)) r).0 (sym (x.typed f.0) ∙ f.1),
    ),
    λ b. let no = ((Answers.kept).lowest_none (over_counted ds) (suc (length ds))).1 (λ i h. b.0 i) in
        let at = x.typed no ∙ ((Answers.kept).lowest_found (refused_pair ds) (suc (length ds)) r).1 b.1 in
        is-shape ∙ rw (no, at),
  )

  six : (deep : Option ℕ) → depths s ≡ deep → (r : ℕ) → verdict s ≡ TooDeep r
      ↔ (((i : ℕ) → over_counted ds i ≡ false) × ((i : ℕ) → refused_pair ds i ≡ false) × (deep ≡ some r))
  six deep same r = (
    λ e. let f = six-of flats (pairs s) (depths s) (judged s) (output_type s) r (sym is-shape ∙ e) in (
      all-counted ds f.0,
      all_fit ds (sym (x.typed f.0) ∙ f.1),
      sym same ∙ f.2,
    ),
    λ b. let no = ((Answers.kept).lowest_none (over_counted ds) (suc (length ds))).1 (λ i h. b.0 i) in
        let at = x.typed no ∙ ((Answers.kept).lowest_none (refused_pair ds) (suc (length ds))).1 (λ i h. b.1 i) in
        let it = same ∙ b.2 in
        is-shape ∙ rw (no, at, it),
  )

  pub seven : (deep : Option ℕ) → depths s ≡ deep → ((r : ℕ) × (verdict s ≡ IllTyped r))
      ↔ (((i : ℕ) → over_counted ds i ≡ false)
      × ((i : ℕ) → refused_pair ds i ≡ false)
      × (deep ≡ none)
      × ((τ : ℕ) → verdict s ≡ Accepted τ → ⊥))
  seven deep same = (
    λ a. let f = seven-of flats (pairs s) (depths s) (judged s) (output_type s) a.0 (sym is-shape ∙ a.1) in (
      all-counted ds f.0,
      all_fit ds (sym (x.typed f.0) ∙ f.1),
      sym same ∙ f.2,
      λ τ b. never_both a.1 b,
    ),
    λ b. let no = ((Answers.kept).lowest_none (over_counted ds) (suc (length ds))).1 (λ i h. b.0 i) in
        let at = x.typed no ∙ ((Answers.kept).lowest_none (refused_pair ds) (suc (length ds))).1 (λ i h. b.1 i) in
        let it = same ∙ b.2 in
        go (judged s) refl no at it b.3,
  )
    where
      go : (o : Option ℕ) → judged s ≡ o → flats ≡ none → pairs s ≡ none → depths s ≡ none → ((τ : ℕ) → verdict s ≡ Accepted τ → ⊥)
          → (r : ℕ) × (verdict s ≡ IllTyped r)
      go (some r) e counts at it f = (r, is-shape ∙ rw (counts, at, it, e))
      go none e counts at it f = absurd (f (output_type s) (is-shape ∙ rw (counts, at, it, e)))

header-type : {s : List ℕ} {n a b c : ℕ} → RecordIs s 0 1 n a b c 0 → wrong_type s 0 ≡ false
unfolding wrong_type kind_of row_of
header-type x = rw x.kind-is

none_at_zero : (d : Declaration) (ds : List Declaration) → (over_counted (d ∷ ds) 0 ≡ false) × (refused_pair (d ∷ ds) 0 ≡ false)
unfolding over_counted refused_pair
none_at_zero d ds = (refl, refl)

-- the types as they stand
pub types-stand : (d : Declaration) (ds : List Declaration) (w : List ℕ) (p : ℕ) (e : Expression)
    → Stands (sheet_of_text (text d ds (identifier w p) e)) 1 (types_laid 1 [] (d ∷ ds))
unfolding sheet_of_text
types-stand d ds w p e = go (sheet-stands (text_records (text d ds (identifier w p) e)))
  where
    go : Stands (sheet_of (text_records (text d ds (identifier w p) e))) 0 (text_records (text d ds (identifier w p) e))
        → Stands (sheet_of (text_records (text d ds (identifier w p) e))) 1 (types_laid 1 [] (d ∷ ds))
    go (one-stands x st) = (stands-append 1 (types_laid 1 [] (d ∷ ds)) (laid (d ∷ ds) [] (suc (length (d ∷ ds))) e) st).0

-- the searches find what the declarations say
module _ (ts : List Token) (d : Declaration) (ds : List Declaration) (w : List ℕ) (p : ℕ) (e : Expression)
    (fitting : FittingText ts (text d ds (identifier w p) e)) where
  abbrev source : Text
  source = text d ds (identifier w p) e

  abbrev sheet : List ℕ
  sheet = sheet_of_text source

  pub sheet-counted : count sheet ≡ suc (length (d ∷ ds)) + room_of (d ∷ ds) [] e
  unfolding sheet_of_text
  sheet-counted =
      let c = sheet-count (text_records source) in
      let n = (Translation.kept).as_many_records ts source fitting.read fitting.good in
      c ∙ n ∙ omega arith

  header-fits : wrong_type sheet 0 ≡ false
  unfolding sheet_of_text
  header-fits = go (sheet-stands (text_records source))
    where
      go : Stands (sheet_of (text_records source)) 0 (text_records source) → wrong_type (sheet_of (text_records source)) 0 ≡ false
      go (one-stands x st) = header-type x

  pub searched : Searched sheet (d ∷ ds)
  searched =
      let x = text-is-said ts d ds w p e fitting.read fitting.good in
      let names = names-good d ds w p e fitting.good in
      let n = suc (length (d ∷ ds)) in
      let c = sheet-counted in
      let all : lowest (over_counted (d ∷ ds)) n ≡ none → (r : ℕ) → n ≤ r → r < count sheet → Said sheet r =
      λ o r low high. (x.expression (few_constructors (d ∷ ds) (λ k. all-counted (d ∷ ds) o (suc k)))).each r low (omega (arith, c, high)) in
      record {
        fits = length-passes ts source fitting;
        headed = x.header;
        recorded =
            same-lowest (wrong_record sheet) (over_counted (d ∷ ds)) n (count sheet) (omega (arith, c))
            (λ r h. records-as r h)
            (λ o r low high. said-record (all o r low high));
        named =
            ((Answers.kept).lowest_none (wrong_naming sheet) (count sheet)).1
            (λ r l. name-passes sheet r (λ past. named_once ts source fitting.read fitting.good r past l));
        typed =
            λ o. same-lowest (wrong_type sheet) (refused_pair (d ∷ ds)) n (count sheet) (omega (arith, c))
            (λ r h. types-as r h)
            (λ q r low high. said-type (all o r low high));
      }
    where
      records-as : (r : ℕ) → r < suc (length (d ∷ ds)) → wrong_record sheet r ≡ over_counted (d ∷ ds) r
      records-as zero h = header-record sheet ∙ sym (none_at_zero d ds).0
      records-as (suc k) h =
          let f : suc k ≡ 1 + k = omega arith in
          ap (wrong_record sheet) f ∙ (text-is-said ts d ds w p e fitting.read fitting.good).declared k (omega (arith, h))

      types-as : (r : ℕ) → r < suc (length (d ∷ ds)) → wrong_type sheet r ≡ refused_pair (d ∷ ds) r
      types-as zero h = header-fits ∙ sym (none_at_zero d ds).1
      types-as (suc k) h =
          let f : suc k ≡ 1 + k = omega arith in
          ap (wrong_type sheet) f
          ∙ types-refused (d ∷ ds) (names-good d ds w p e fitting.good).0 (types-stand d ds w p e)
          ((Translation.kept).types_as_declared source fitting.good) k (omega (arith, h))

pub never_answered : NeverAnswered
never_answered ts (text d ds (identifier w p) e) f = never (searched ts d ds w p e f)

pub answered_three : AnsweredThree
answered_three ts (text d ds (identifier w p) e) f r = three (searched ts d ds w p e f) r

pub answered_five : AnsweredFive
answered_five ts (text d ds (identifier w p) e) f r = five (searched ts d ds w p e f) r

pub answered_six : AnsweredSix
answered_six ts (text d ds (identifier w p) e) f r =
    six (searched ts d ds w p e f) (first_too_deep (text_expressions (text d ds (identifier w p) e))) (deep-as ts d ds w p e f.read f.good) r

-- an accepted sheet fits, and its output's type is a declaration's record
accepted-few : (ts : List Token) (d : Declaration) (ds : List Declaration) (n : Identifier) (e : Expression)
    → ReadsText ts (text d ds n e) → AllPass (text_checks (text d ds n e)) → wrong_length (sheet_of_text (text d ds n e)) ≡ false
    → records_needed (text d ds n e) ≤ 4096
unfolding sheet_of_text wrong_length
accepted-few ts d ds n e rd good h =
    let t = text d ds n e in
    let s = sheet_of (text_records t) in
    let l = sheet_long (text_records t) in
    let c = (Translation.kept).as_many_records ts t rd good in
    let both = neither_right (ltb (length s) 12) (ltb 49152 (length s) || not (eqb (length s % 12) 0)) h in
    let few = ltb-false 49152 (length s) (neither_left (ltb 49152 (length s)) (not (eqb (length s % 12) 0)) both) in
    omega (arith, l, c, few)

no-type-record : {s : List ℕ} {r : ℕ} → Said s r → sort_at s r ≡ types → ⊥
no-type-record {s} {r} x e = let f : true ≡ false = rw e at x.no-type in let no : ◌≡◌ {A = ℕ} 0 1 = cc in omega arith

-- a type record of the sheet is that of a declaration
pub type-declared : (ts : List Token) (d : Declaration) (ds : List Declaration) (w : List ℕ) (p : ℕ) (e : Expression)
    → FittingText ts (text d ds (identifier w p) e) → lowest (over_counted (d ∷ ds)) (suc (length (d ∷ ds))) ≡ none
    → (τ : ℕ) → TypeRecord (sheet_of_text (text d ds (identifier w p) e)) τ → TypeDeclared (text d ds (identifier w p) e) τ
type-declared ts d ds w p e f counts τ there =
    let said =
    (text-is-said ts d ds w p e f.read f.good).expression (few_constructors (d ∷ ds) (λ k. all-counted (d ∷ ds) counts (suc k))) in
    let c = sheet-counted ts d ds w p e f in
    let within = there.there in
    go τ there.past (ltb τ (suc (length (d ∷ ds)))) refl
    (λ low. no-type-record (said.each τ low (omega (arith, c, within))) there.sort)
  where
    go : (τ : ℕ) → 0 < τ → (b : Bool) → ltb τ (suc (length (d ∷ ds))) ≡ b → (suc (length (d ∷ ds)) ≤ τ → ⊥)
        → TypeDeclared (text d ds (identifier w p) e) τ
    go zero past b h past_all = absurd (omega arith)
    go (suc k) past false h past_all = absurd (past_all (ltb-false (suc k) (suc (length (d ∷ ds))) h))
    go (suc k) past true h past_all =
        let t = text d ds (identifier w p) e in
        let l = ltb-true (suc k) (suc (length (d ∷ ds))) h in
        let meant = (Translation.kept).types_as_declared t f.good in
        let r = declared-named (d ∷ ds) (names-good d ds w p e f.good).0 (types-stand d ds w p e) meant k (omega (arith, l)) in
        record {
          declared = r.0;
          at = r.1;
          number = r.2;
          type = ap (type_at (sheet_of_text t)) (sym r.2) ∙ meant (type_name_of r.0);
        }

pub output_declared : OutputDeclared
output_declared ts (text d ds (identifier w p) e) rd good τ accepted =
    let all = (exact (sheet_of_text (text d ds (identifier w p) e)) τ).0 accepted in
    let f : FittingText ts (text d ds (identifier w p) e) =
    record { read = rd; good = good; few = accepted-few ts d ds (identifier w p) e rd good all.0.length } in
    type-declared ts d ds w p e f (sym (searched ts d ds w p e f).recorded ∙ all.0.records) τ all.1.0
