-- Assumes nothing.
use mathlib.Core.Path.{ap}
use Rattle.listing.specs.Texts.{Written}
use Rattle.replay_line.proofs.Telling.{line-told, refusal-told, difference-told, agreement-told}
use borrow.Author.Rules.{rules}
use Rattle.replay_line.proofs.tell_replay.Goals as goal

pub returns-then-result-ne0 : goal.returns-then-result-ne0
returns-then-result-ne0 c =
    line-told c.put_refused.new.self (search rules) c.len.ensures
    (refusal-told c.replay-told.ensures (search rules) c.if-result-ne0.true c.code_of-code.ensures c.place_of-place.ensures c.put_refused.ensures
    (ap (λ (w : Written). w.bytes) c.new-text.ensures))

pub returns-then-told-ne0 : goal.returns-then-told-ne0
returns-then-told-ne0 c =
    line-told c.put_numbers_line.new.self (search rules) c.len-then-told-ne0.ensures
    (difference-told c.replay-told.ensures (search rules) c.if-result-ne0.false c.if-told-ne0.true c.put_numbers_line.ensures
    (ap (λ (w : Written). w.bytes) c.new-text.ensures))

pub returns : goal.returns
returns c =
    line-told c.put_word_line.new.self (search rules) c.len-2.ensures
    (agreement-told c.replay-told.ensures (search rules) c.if-result-ne0.false c.if-told-ne0.false c.put_word_line.ensures
    (ap (λ (w : Written). w.bytes) c.new-text.ensures))
