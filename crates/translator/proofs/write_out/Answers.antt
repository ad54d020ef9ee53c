-- What each step found is the call's answer.
-- Assumes nothing.
use native.Mathlib.Omega.{arith}
use mathlib.Core.Path.{refl, sym, subst}
use Rattle.answers.specs.Answers.{Refused}
use Rattle.translator.specs.Translated.{Translated}
use Rattle.translator.proofs.LaysOut.{untyped-found, too_short, too_many, emitting, out_written}
use Rattle.translator.proofs.write_out.Goals as goal

pub returns-in-Some : goal.returns-in-Some
returns-in-Some c =
    subst (λ p. Translated c.args.text.now c.args.sheet.now (Refused 14 p) c.args.sheet.now) (sym c.from.ensures)
    (untyped-found refl c.requires c.args.sheet.now c.in-Some.place c.in-Some.is)

pub returns-then-sheet-needed : goal.returns-then-sheet-needed
returns-then-sheet-needed c = too_short c.len.ensures.0 c.requires c.args.sheet.now c.in_default.is c.if-sheet-needed.true

pub returns-then-records-gt-RECORDS : goal.returns-then-records-gt-RECORDS
returns-then-records-gt-RECORDS c = too_many c.len.ensures.0 c.requires c.args.sheet.now c.in_default.is c.if-records-gt-RECORDS.true

pub write_sheet-requires : goal.write_sheet-requires
write_sheet-requires c =
    emitting c.len.ensures.0 c.requires c.args.sheet.now c.in_default.is (let h = c.if-sheet-needed.false in omega (arith, h))
    (let h = c.if-records-gt-RECORDS.false in omega (arith, h))

pub returns : goal.returns
returns c =
    out_written c.len.ensures.0 c.requires c.args.sheet.now _ c.in_default.is (let h = c.if-sheet-needed.false in omega (arith, h))
    (let h = c.if-records-gt-RECORDS.false in omega (arith, h)) c.write_sheet.ensures
