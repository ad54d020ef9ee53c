-- By the class of its first byte.
-- Assumes nothing.
use mathlib.Core.Path.{◌∙◌}
use Rattle.name_rules.specs.TokenWalk.{bound_in, declared_in}
use Rattle.scoping.specs.Held.{held}
use Rattle.symbols.specs.Names.{letters_at}
use Rattle.recognizer.specs.Coded.{state_of}
use Rattle.recognizer.specs.Classes.{class_index}
use Rattle.recognizer.proofs.MachineLaws.{told-false}
use Rattle.resolving.specs.Said.{op_said}
use Rattle.resolving.proofs.SayingLaws.{none_said, said-as, class-other, silent-other, loud-other}
use Rattle.resolving.proofs.walk.Walk.say_token.Goals as goal

pub returns-in-Some : goal.returns-in-Some
returns-in-Some c =
    let s = c.args.self.now.scope in
    said-as
    (class-other (op_said c.args.said) c.args.delayed (letters_at s.names.text.now c.args.span) (bound_in (held s)) (declared_in (held s)) (class_index c.args.class) c.args.start
    (state_of c.args.state) (told-false c.is_small_letter.ensures c.if-is_small_letter.false)
    ∙ loud-other c.args.said c.in-Some.op c.args.start c.in-Some.is) c.say.ensures

pub returns-in_default : goal.returns-in_default
returns-in_default c =
    let s = c.args.self.now.scope in
    said-as
    (class-other (op_said c.args.said) c.args.delayed (letters_at s.names.text.now c.args.span) (bound_in (held s)) (declared_in (held s)) (class_index c.args.class) c.args.start
    (state_of c.args.state) (told-false c.is_small_letter.ensures c.if-is_small_letter.false)
    ∙ silent-other c.args.said c.args.start c.in_default.is) none_said
