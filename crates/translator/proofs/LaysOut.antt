-- What is assembled from the instructions of a text is the text's, and what the steps after it find is the call's answer.
-- Assumes nothing.
use Prim.Native.Nat.{ℕ, suc, ◌+◌, ◌*◌, ◌-◌, ◌≤◌, ◌<◌}
use native.Mathlib.Omega.{arith}
use mathlib.Core.Path.{◌≡◌, refl, sym, ap, ap₂, subst, ◌∙◌}
use mathlib.Core.Bool.{Bool, true, false, cond}
use mathlib.Core.List.{List, [], ◌∷◌, ◌++◌}
use mathlib.Core.Option.{none, some}
use lib.ListN.{length, replicate}
use Rattle.std.specs.Prelude.{Option as Found, Some, None, Result, Err, reverse}
use Rattle.std.proofs.lemmas.List.{length-reverse}
use lib.Dec.{ltb}
use borrow.Author.Tests.{lt-ltb, le-ltb}
use Rattle.records.specs.SheetOf.{sheet_of}
use Rattle.answers.specs.Answers.{Done, Refused}
use Rattle.grammar.specs.Tokens.{Token}
use Rattle.grammar.specs.Source.{identifier, Text, text}
use Rattle.grammar.specs.Legal.{Reading, LeavesGrammar, Keeps}
use Rattle.grammar.specs.Walk.{PlaceTold}
use Rattle.name_rules.specs.Checks.{AllPass, first_bad_place}
use Rattle.name_rules.specs.Constants.{constants_of_text}
use Rattle.name_rules.specs.Names.{name_checks, text_checks}
use Rattle.name_rules.specs.RecordsNeeded.{records_needed}
use Rattle.layout.specs.Layout.{room_of, laid, text_records, sheet_of_text}
use Rattle.instructions.specs.Instruction.{Instruction}
use Rattle.instructions.specs.TextOrder.{text_instructions}
use Rattle.instructions.specs.Assembly.{nothing_assembled, assemble_all}
use Rattle.instructions.specs.RecordOrder.{declared_types}
use Rattle.instructions.specs.Emission.{emission, of_number, written_of, cursor_of, emit_all, records_written}
use Rattle.instructions.proofs.Assembled.{text-assembled as assembled-parts}
use Rattle.instructions.proofs.Written.{declared-many, emitted, laid-many, records-written}
use Rattle.ordering.specs.Held.{place_of, assembled}
use Rattle.ordering.specs.Assembled.{types_in, input_in, code_in, records_assembled, untyped_in, Few}
use Rattle.ordering.specs.declared.assembly.Assembly.{Assembly}
use Rattle.ordering.proofs.FewLaws.{few-assembled}
use Rattle.recognizer.specs.Coded.{illegal}
use Rattle.resolving.specs.Walked.{TextResolved}
use Rattle.resolving.specs.declared.BadName.{BadName}
use Rattle.emitting.specs.Emitting.{emitted_from, Emitting, Emitted}
use Rattle.translator.specs.Translated.{length_needed, lacks_room, Translated}
use Rattle.translator.specs.LayingOut.{TranslatingResolved, TranslatingAssembled}
use Rattle.translator.proofs.Answered.{bad-name, untyped-constant, no_room, sheet-written}
use Rattle.name_rules.proofs.First.{none-bad, both-pass}
use Rattle.translator.proofs.PlacesWithin.{names-within}

module _ {bytes : List ℕ} (C : List Instruction) (a : Assembly) where
  of-text : {ts : List Token} (t : Text) → Keeps bytes → Reading bytes ts t → first_bad_place (name_checks t) ≡ none
      → reverse C ≡ text_instructions t → length C ≤ 65535 → assembled a ≡ assemble_all nothing_assembled (reverse C) → TranslatingAssembled bytes a
  of-text {ts} (text d ds (identifier w p) e) k r g h f x =
      let t = text d ds (identifier w p) e in
      let q = x ∙ ap (assemble_all nothing_assembled) h ∙ assembled-parts d ds (identifier w p) e (none-bad (name_checks t) g) in
      let T : a.types ≡ declared_types (d ∷ ds) = ap types_in q in
      let many : length a.types ≡ length (d ∷ ds) = ap length T ∙ declared-many (d ∷ ds) in
      let R : a.records ≡ room_of (d ∷ ds) [] e = ap records_assembled q in
      let few : Few (length (reverse C)) (assembled a) = subst (Few (length (reverse C))) (sym x) (few-assembled (reverse C)) in
      let l = length-reverse C in
      record {
        tokens = ts;
        first = d;
        more = ds;
        name = w;
        named_at = p;
        root = e;
        keeps = k;
        reading = r;
        good = g;
        types_are = T;
        input_is = ap input_in q;
        code_is = ap code_in q;
        counted = omega (arith, many, R);
        types_many = many;
        untyped_is = ap untyped_in q;
        code_few = let c = few.few_instructions in omega (arith, c, f, l);
        small = let u = few.few_types in let v = few.few_records in omega (arith, u, v, f, l);
      }

  pub laid_out : TranslatingResolved bytes C → assembled a ≡ assemble_all nothing_assembled (reverse C) → TranslatingAssembled bytes a
  laid_out l x = of-text l.source l.keeps l.reading l.good l.held l.few x

-- with so many types
module _ {bytes : List ℕ} {a : Assembly} {n : ℕ} (many : n ≡ length a.types) (w : TranslatingAssembled bytes a) where
  abbrev source : Text
  source = text w.first w.more (identifier w.name w.named_at) w.root

  abbrev all : ℕ
  all = 1 + n + a.records

  needs : all ≡ records_needed source
  needs = let e = w.counted in omega (arith, e, many)

  pub untyped-found : (entry : List ℕ) (place : ℕ) → a.untyped ≡ Some place → Translated bytes entry (Refused 14 place) entry
  untyped-found entry place o = untyped-constant w.keeps w.reading place w.good (sym w.untyped_is ∙ ap place_of o)

  typed : a.untyped ≡ None → first_bad_place (constants_of_text source) ≡ none
  typed o = sym w.untyped_is ∙ ap place_of o

  refused : (entry : List ℕ) → a.untyped ≡ None → lacks_room source (length entry) ≡ true → Translated bytes entry (Refused 15 (12 * all)) entry
  refused entry o f =
      subst (λ k. Translated bytes entry (Refused 15 (12 * k)) entry) (sym needs) (no_room w.keeps w.reading w.good (typed o) f)

  pub too_short : (entry : List ℕ) → a.untyped ≡ None → length entry < 12 * all → Translated bytes entry (Refused 15 (12 * all)) entry
  too_short entry o l =
      refused entry o
      (ap (λ b. cond b true (ltb 4096 (records_needed source)))
      (lt-ltb (length entry) (length_needed source) (subst (λ k. length entry < 12 * k) needs l)))

  pub too_many : (entry : List ℕ) → a.untyped ≡ None → 4096 < all → Translated bytes entry (Refused 15 (12 * all)) entry
  too_many entry o l = refused entry o (go (ltb (length entry) (length_needed source)))
    where
      m : ltb 4096 (records_needed source) ≡ true
      m = lt-ltb 4096 (records_needed source) (subst (λ k. 4096 < k) needs l)

      go : (b : Bool) → cond b true (ltb 4096 (records_needed source)) ≡ true
      go true = refl
      go false = m

  passed : a.untyped ≡ None → AllPass (text_checks source)
  passed o = both-pass (none-bad (name_checks source) w.good) (none-bad (constants_of_text source) (typed o))

  emission-is : a.untyped ≡ None
      → emitted_from a.types a.code all
      ≡ emission (laid (w.first ∷ w.more) [] (suc (length (w.first ∷ w.more))) w.root) (suc (length (w.first ∷ w.more)))
      (of_number (suc (length (w.first ∷ w.more))) ∷ []) 0
  emission-is o =
      ap (λ T. emit_all T (emission [] all [] 0) a.code) w.types_are
      ∙ ap₂ (λ k C. emit_all (declared_types (w.first ∷ w.more)) (emission [] k [] 0) C) needs w.code_is
      ∙ emitted w.first w.more w.name w.named_at w.root (passed o)

  pub emitting : (sheet : List ℕ) → a.untyped ≡ None → 12 * all ≤ length sheet → all ≤ 4096 → Emitting a.types a.code all sheet
  emitting sheet o l m =
      let e = emission-is o in
      let t = w.types_many in
      let c = ap cursor_of e in
      let v = ap (λ x. length (written_of x)) e in
      let k = laid-many w.first w.more w.name w.named_at w.root (passed o) in
      let b = needs in
      record {
        few = m;
        sheet_long = l;
        code_few = w.code_few;
        types_few = omega (arith, many);
        ends = omega (arith, c, t);
        fits = omega (arith, v, k, t, b);
      }

  pub out_written : (entry exit : List ℕ) → a.untyped ≡ None → 12 * all ≤ length entry → all ≤ 4096
      → Emitted a.types (emitted_from a.types a.code all) a.input all entry exit → Translated bytes entry (Done (12 * all)) exit
  unfolding sheet_of_text
  out_written entry exit o l m x =
      let room : lacks_room source (length entry) ≡ false =
      ap (λ b. cond b true (ltb 4096 (records_needed source)))
      (le-ltb (length entry) (length_needed source) (subst (λ k. 12 * k ≤ length entry) needs l))
      ∙ le-ltb 4096 (records_needed source) (subst (λ k. k ≤ 4096) needs m) in
      let rs : records_written a.types a.input (written_of (emitted_from a.types a.code all)) ≡ text_records source =
      ap (λ y. records_written a.types a.input (written_of y)) (emission-is o)
      ∙ ap₂ (λ T i. records_written T i (laid (w.first ∷ w.more) [] (suc (length (w.first ∷ w.more))) w.root)) w.types_are w.input_is
      ∙ records-written w.first w.more w.name w.named_at w.root (passed o) in
      let same : sheet_of_text source ++ replicate (length entry - length_needed source) 0 ≡ exit =
      ap₂ (λ y k. sheet_of y ++ replicate (length entry - 12 * k) 0) (sym rs) (sym needs) ∙ sym x.written_out in
      subst (λ k. Translated bytes entry (Done (12 * k)) exit) (sym needs)
      (subst (Translated bytes entry (Done (length_needed source))) same (sheet-written w.keeps w.reading w.good (typed o) room))

-- what the walk over the names found
module _ {bytes : List ℕ} (C : List Instruction) {r : Result Unit BadName} (k : Keeps bytes)
    (h : (ts : List Token) (t : Text) → Reading bytes ts t → TextResolved bytes t C r) where
  first-bad : (b : BadName) → r ≡ Err b → first_bad_place (name_checks k.legal.1) ≡ some b.place
  first-bad b e = let l = k.legal in subst (TextResolved bytes l.1 C) e (h l.0 l.1 l.2)

  pub bad-place : (b : BadName) → r ≡ Err b → b.place < 65536
  bad-place b e =
      let l = k.legal in
      let s = k.short in
      let w = names-within l.2.lexed l.2.parsed b.place (first-bad b e) in
      omega (arith, s, w)

  pub name-found : (entry : List ℕ) (b : BadName) → r ≡ Err b → Translated bytes entry (Refused 14 b.place) entry
  name-found entry b e = let l = k.legal in bad-name k l.2 b.place (first-bad b e)

-- what the reading of the bytes found
pub told_at : {bytes : List ℕ} {r : Found ℕ} {i : ℕ} → PlaceTold bytes (illegal r) → r ≡ Some i → LeavesGrammar bytes i
told_at {bytes} h e = subst (λ x. PlaceTold bytes (illegal x)) e h
