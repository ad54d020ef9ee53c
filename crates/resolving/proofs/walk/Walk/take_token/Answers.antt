-- The token that is met is the first of those that are left.
-- Assumes nothing.
use native.Mathlib.Omega.{arith}
use mathlib.Core.Path.{refl, ap, ◌∙◌}
use Rattle.recognizer.proofs.MachineLaws.{told-false, told-true}
use Rattle.recognizer.specs.Classes.{class_index}
use Rattle.lexer.proofs.Found.{longer-end}
use lib.ListN.{get_or}
use Rattle.name_rules.specs.TokenWalk.{bound_in, declared_in}
use Rattle.recognizer.specs.Coded.{lead_bytes, state_of}
use Rattle.scoping.specs.Held.{held}
use Rattle.instructions.specs.TokenOrder.{op_by}
use Rattle.symbols.specs.Names.{letters_at}
use Rattle.resolving.proofs.DeclareLaws.{still-numbered}
use Rattle.resolving.proofs.SayingLaws.{said-by-row}
use Rattle.resolving.proofs.TakenLaws.{unled-token, stuck-token, bad-token, good-token, walking-next}
use Rattle.resolving.proofs.walk.Walk.take_token.Goals as goal

pub returns-then-not-is_lead : goal.returns-then-not-is_lead
returns-then-not-is_lead c =
    let n = told-false c.is_lead.ensures c.if-not-is_lead.true in
    (refl, unled-token c.args.self.now c.args.code.now c.requires.1 c.of-class.ensures (omega (arith, n)))

pub returns-then-not-begin : goal.returns-then-not-begin
returns-then-not-begin c =
    (refl, stuck-token c.args.self.now c.args.code.now c.requires.1 c.of-class.ensures c.token_end-end.ensures.0 c.begin.ensures c.if-not-begin.true)

pub returns-then-not-note_token : goal.returns-then-not-note_token
returns-then-not-note_token c = (
  refl,
  bad-token c.args.self.now c.args.code.now c.requires.1 c.of-class.ensures c.token_end-end.ensures.0 c.begin.ensures c.row-state.result c.span_of-span.ensures
      c.row-state.ensures.told c.index.ensures c.at-effect.ensures c.note_token.ensures c.if-not-note_token.true,
)

pub number_from-requires : goal.number_from-requires
number_from-requires c =
    let d = c.note_token.ensures.declared c.if-not-note_token.false in
    let f = c.note_token.ensures.few c.if-not-note_token.false in
    let a = c.note_token.new.scope.above in
    let g = c.requires.0.few in
    let h = c.requires.0.short in
    let l = c.requires.1 in
    (still-numbered d c.requires.0.numbered, d.higher, omega arith)

pub returns : goal.returns
returns c =
    let o = c.if-not-note_token.false in
    let d = c.note_token.ensures.declared o in
    let n = told-true c.is_lead.ensures c.if-not-is_lead.false in
    let g = longer-end c.args.self.now.scope.names.text.now c.args.start (class_index c.of-class.result) c.requires.1 c.of-class.ensures n in
    let e = c.token_end-end.ensures.0 in
    let s = c.args.self.now.scope in
    let class = class_index c.of-class.result in
    let byte = get_or lead_bytes class 0 in
    let by-table = c.saying-said.ensures ∙ ap (λ r. op_by (state_of r) byte) c.from.ensures in
    let spoken = said-by-row c.row-state.result byte class c.args.start c.args.self.now.machine.waiting c.is_in_constant-delayed.result
    (letters_at s.names.text.now c.span_of-span.result) (bound_in (held s)) (declared_in (held s)) c.saying-said.result
    c.row-state.ensures.told by-table c.is_in_constant-delayed.ensures c.say_token.ensures in
    record {
      same_text = c.note_token.ensures.same_text;
      walking = walking-next c.args.self.now c.args.code.now c.requires.1 c.of-class.ensures c.token_end-end.ensures.0 c.begin.ensures
          c.row-state.result c.span_of-span.ensures c.row-state.ensures.told c.index.ensures c.at-effect.ensures c.note_token.ensures c.number_from.new.self refl
          c.requires.0 (omega (arith, g, e)) c.token_end-end.ensures.1 o c.number_from.ensures;
      further = omega (arith, g, e);
      inside = c.token_end-end.ensures.1;
      walked = good-token c.args.self.now c.args.code.now c.requires.1 c.of-class.ensures c.token_end-end.ensures.0 c.begin.ensures
          c.row-state.result c.span_of-span.ensures c.row-state.ensures.told c.index.ensures c.at-effect.ensures c.note_token.ensures c.say_token.new.code
          c.number_from.new.self spoken o;
    }
