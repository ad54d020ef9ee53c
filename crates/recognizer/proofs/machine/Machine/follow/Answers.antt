-- A blank, the first byte of a token, or a letter of a name, by its class.
-- Assumes nothing.
use mathlib.Core.Logic.{inl, inr}
use Rattle.recognizer.proofs.MachineLaws.{told-false, told-true, moved-as, blank-read, token-begun, none-begun, no-letter-more, one-letter-more}
use Rattle.recognizer.proofs.machine.Machine.follow.Goals.{then-self-eq0-via-then-self-eq0, then-self-eq0-via-else-self-eq0+then-not-is_letter, then-not-is_small_letter-via-then-not-is_small_letter, then-not-is_small_letter-via-else-not-is_small_letter+then-self-ge-NAME_LETTERS}
use Rattle.recognizer.proofs.machine.Machine.follow.Goals as goal

pub returns-then-is_blank : goal.returns-then-is_blank
returns-then-is_blank c = blank-read c.self.inside.state c.self.inside.word c.self.inside.stack c.self.view_is c.self.invariant.1 c.requires.ended c.args.b c.of-class.ensures (told-true c.is_blank.ensures c.if-is_blank.true)

pub returns-then-is_lead : goal.returns-then-is_lead
returns-then-is_lead c = moved-as (token-begun c.self.inside.state c.self.inside.word c.self.inside.stack c.self.view_is c.self.invariant.1 c.requires.ended c.args.b c.of-class.ensures (told-false c.is_blank.ensures c.if-is_blank.false) (elim c.then-self-eq0.branch [ then-self-eq0-via-then-self-eq0 w ↦ inl w.if-self-eq0.true | then-self-eq0-via-else-self-eq0+then-not-is_letter w ↦ inr (told-false w.is_letter.ensures w.if-not-is_letter.true) ]) (told-true c.is_lead.ensures c.if-is_lead.true)) c.begin.ensures

pub returns-else-is_lead : goal.returns-else-is_lead
returns-else-is_lead c = none-begun c.self.inside.state c.self.inside.word c.self.inside.stack c.self.view_is c.self.invariant.1 c.requires.ended c.args.b c.of-class.ensures (told-false c.is_blank.ensures c.if-is_blank.false) (elim c.then-self-eq0.branch [ then-self-eq0-via-then-self-eq0 w ↦ inl w.if-self-eq0.true | then-self-eq0-via-else-self-eq0+then-not-is_letter w ↦ inr (told-false w.is_letter.ensures w.if-not-is_letter.true) ]) c.is_lead.ensures c.if-is_lead.false

pub returns-then-not-is_small_letter : goal.returns-then-not-is_small_letter
returns-then-not-is_small_letter c = no-letter-more c.self.inside.state c.self.inside.word c.self.inside.stack c.self.view_is c.self.invariant.1 c.requires.ended c.args.b c.of-class.ensures (told-false c.is_blank.ensures c.if-is_blank.false) c.if-self-eq0.false (told-true c.is_letter.ensures c.if-not-is_letter.false).0 (elim c.then-not-is_small_letter.branch [ then-not-is_small_letter-via-then-not-is_small_letter w ↦ inl (told-false c.is_small_letter.ensures w.if-not-is_small_letter.true) | then-not-is_small_letter-via-else-not-is_small_letter+then-self-ge-NAME_LETTERS w ↦ inr w.if-self-ge-NAME_LETTERS.true ])

pub returns : goal.returns
returns c = one-letter-more c.self.inside.state c.self.inside.word c.self.inside.stack c.self.view_is c.self.invariant.1 c.requires.ended c.args.b c.of-class.ensures (told-false c.is_blank.ensures c.if-is_blank.false) c.if-self-eq0.false (told-true c.is_letter.ensures c.if-not-is_letter.false).0 (told-true c.is_small_letter.ensures c.if-not-is_small_letter.false) c.if-self-ge-NAME_LETTERS.false
