-- What is computed from the bytes is what a call gives.
-- Assumes nothing.
use Prim.Native.Nat.{ℕ, suc, ◌+◌, ◌*◌, ◌-◌}
use native.Mathlib.Omega.{arith}
use mathlib.Core.Path.{◌≡◌, refl, sym, ap, ap₂, subst, ◌∙◌}
use mathlib.Core.Bool.{Bool, true, false, cond}
use mathlib.Core.List.{List, [], ◌∷◌, ◌++◌, append-nil}
use mathlib.Core.Option.{Option, none, some}
use lib.ListN.{length, replicate, length-replicate, take-append-drop}
use lib.Dec.{ltb}
use Rattle.records.specs.SheetOf.{Record, sheet_of}
use Rattle.answers.specs.Answers.{when}
use Rattle.answers.specs.Answers.{Answer}
use Rattle.answers.specs.Answers.{Done, Refused}
use Rattle.grammar.specs.Tokens.{Token}
use Rattle.grammar.specs.Source.{identifier, Text, text}
use Rattle.grammar.specs.Grammar.{ReadsText}
use Rattle.grammar.specs.Legal.{Reading, Keeps}
use Rattle.grammar.specs.Walk.{PlaceTold}
use Rattle.grammar.specs.Machine.{begins}
use Rattle.grammar.specs.Walk.{first_illegal}
use Rattle.grammar.proofs.Exact.{first-illegal-exact}
use Rattle.name_rules.specs.Checks.{AllPass, first_bad_place}
use Rattle.name_rules.specs.Constants.{letters, constants_of_text}
use Rattle.name_rules.specs.Names.{name_checks, text_checks}
use Rattle.name_rules.specs.RecordsNeeded.{records_needed}
use Rattle.name_rules.specs.TokenWalk.{walk_checks}
use Rattle.name_rules.proofs.ByTokens.{first_scope, by-tokens}
use Rattle.layout.specs.Resolved.{type_number, type_entries}
use Rattle.layout.specs.Layout.{room_of, text_records, sheet_of_text}
use Rattle.layout.proofs.ConstructorTables.{pass-both}
use Rattle.instructions.specs.Assembly.{assembly, nothing_assembled, assemble_all}
use Rattle.instructions.specs.RecordOrder.{declared_types, text_code}
use Rattle.instructions.specs.Emission.{emission, emit_all, records_written}
use Rattle.instructions.proofs.Instructed.{instructed}
use Rattle.instructions.proofs.Assembled.{text-assembled}
use Rattle.instructions.proofs.Written.{declared-many, emitted, records-written}
use Rattle.translator.specs.Translated.{length_needed, lacks_room, text_answer, final_sheet, Translated, outside_grammar, in_grammar}
use Rattle.translator.proofs.Answered.{answer_by, answered}
use Rattle.translator.proofs.Kept as Translator
use Rattle.name_rules.proofs.First.{none-bad}
use Rattle.text_table.specs.Lexer.{tokens_in}
use Rattle.text_table.specs.Computed.{assembled_from, room_answer, untyped_answer, assembly_answer, names_answer, tokens_answer, illegal_answer, computed_answer, assembly_records, computed_records}
use Rattle.instructions.specs.Emission.{written_of}
use Rattle.text_table.proofs.Lexed.{tokens-are}

room-answer : (b : Bool) (n : ℕ) → cond b (Refused 15 n) (Done n) ≡ answer_by none none (when b n) n
room-answer true n = refl
room-answer false n = refl

-- a text whose names are good, by what is assembled
assembly-answer : {ts : List Token} (t : Text) (room : ℕ) → ReadsText ts t → first_bad_place (name_checks t) ≡ none
    → assembly_answer (assembled_from ts) room ≡ text_answer t room
assembly-answer (text d ds (identifier w p) e) room r g =
    let t = text d ds (identifier w p) e in
    let h = none-bad (name_checks t) g in
    let n : suc (length (declared_types (d ∷ ds))) + room_of (d ∷ ds) [] e ≡ records_needed t =
    let m = declared-many (d ∷ ds) in omega (arith, m) in
    ap (λ is. assembly_answer (assemble_all nothing_assembled is) room) (instructed r h)
    ∙ ap (λ a. assembly_answer a room) (text-assembled d ds (identifier w p) e h)
    ∙ ap (λ k. untyped_answer (first_bad_place (constants_of_text t)) k room) n
    ∙ go (first_bad_place (constants_of_text t)) refl
  where
    go : (u : Option ℕ) → first_bad_place (constants_of_text (text d ds (identifier w p) e)) ≡ u
        → untyped_answer u (records_needed (text d ds (identifier w p) e)) room ≡ text_answer (text d ds (identifier w p) e) room
    go (some q) f = sym (answered (text d ds (identifier w p) e) room g f refl)
    go none f =
        room-answer (lacks_room (text d ds (identifier w p) e) room) (length_needed (text d ds (identifier w p) e))
        ∙ sym (answered (text d ds (identifier w p) e) room g f refl)

tokens-answer : {ts : List Token} (t : Text) (room : ℕ) → ReadsText ts t → tokens_answer ts room ≡ text_answer t room
tokens-answer {ts} t room r =
    ap (λ cs. names_answer (first_bad_place cs) ts room) (by-tokens r) ∙ go (first_bad_place (name_checks t)) refl
  where
    go : (o : Option ℕ) → first_bad_place (name_checks t) ≡ o → names_answer o ts room ≡ text_answer t room
    go (some p) f = sym (answered t room f refl refl)
    go none f = assembly-answer t room r f

pub computes : (bytes entry : List ℕ) → (exit : List ℕ) × Translated bytes entry (computed_answer bytes (length entry)) exit
computes bytes entry = go (first_illegal bytes) (first-illegal-exact bytes)
  where
    go : (o : Option ℕ) → PlaceTold bytes o → (exit : List ℕ) × Translated bytes entry (illegal_answer o (tokens_in bytes) (length entry)) exit
    go (some i) l = (entry, outside_grammar l)
    go none k =
        let l = k.legal in
        let t = l.1 in
        let r = l.2 in (
          final_sheet t entry,
          subst (λ a. Translated bytes entry a (final_sheet t entry))
              (sym (ap (λ ts. tokens_answer ts (length entry)) (tokens-are r.lexed) ∙ tokens-answer t (length entry) r.parsed)) (in_grammar k r),
        )

-- the records of a text whose names and constants are good
pub records-computed : {bytes : List ℕ} {ts : List Token} (t : Text) → Reading bytes ts t → AllPass (text_checks t)
    → computed_records bytes ≡ text_records t
records-computed (text d ds (identifier w p) e) r h =
    let t = text d ds (identifier w p) e in
    let names = (pass-both (name_checks t) (constants_of_text t) h).0 in
    let T = declared_types (d ∷ ds) in
    let n : suc (length T) + room_of (d ∷ ds) [] e ≡ records_needed t = let m = declared-many (d ∷ ds) in omega (arith, m) in
    let i = type_number (type_entries (d ∷ ds)) w in
    ap (λ ts. assembly_records (assembled_from ts)) (tokens-are r.lexed)
    ∙ ap (λ is. assembly_records (assemble_all nothing_assembled is)) (instructed r.parsed names)
    ∙ ap assembly_records (text-assembled d ds (identifier w p) e names)
    ∙ ap (λ k. records_written T i (written_of (emit_all T (emission [] k [] 0) (text_code t)))) n
    ∙ ap (λ x. records_written T i (written_of x)) (emitted d ds w p e h) ∙ records-written d ds w p e h

-- a text that is translated into a slice of its sheet's length
pub sheet-computed : (bytes : List ℕ) (rs : List Record) → computed_answer bytes (length (sheet_of rs)) ≡ Done (length (sheet_of rs))
    → computed_records bytes ≡ rs
    → Translated bytes (replicate (length (sheet_of rs)) 255) (Done (length (sheet_of rs))) (sheet_of rs)
unfolding sheet_of_text
sheet-computed bytes rs e f =
    let n = length (sheet_of rs) in
    let entry = replicate {A = ℕ} n 255 in
    let c = computes bytes entry in
    let x = c.0 in
    let g : Translated bytes entry (Done n) x =
    subst (λ a. Translated bytes entry a x) (ap (computed_answer bytes) (length-replicate n 255) ∙ e) c.1 in
    let o = (Translator.kept).writes_sheet bytes entry n x g in
    let l : length entry - n ≡ 0 = let z = length-replicate {A = ℕ} n 255 in omega (arith, z) in
    let same : x ≡ sheet_of rs =
    sym (take-append-drop n x)
    ∙ ap₂ (λ a b. a ++ b) (o.sheet ∙ ap sheet_of (sym (records-computed o.source o.reading o.good) ∙ f))
    (o.zeros ∙ ap (λ k. replicate k 0) l)
    ∙ append-nil (sheet_of rs) in
    subst (Translated bytes entry (Done n)) same g
