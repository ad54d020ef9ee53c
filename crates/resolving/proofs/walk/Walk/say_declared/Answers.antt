-- The numbers of the entry that is found.
-- Assumes nothing.
use native.Mathlib.Omega.{arith}
use mathlib.Core.Path.{sym, ap, ap₂, ◌∙◌}
use mathlib.Core.List.{[], ◌∷◌}
use Rattle.symbols.specs.Names.{letters_at}
use Rattle.symbols.proofs.Search.{nearest-below}
use Rattle.instructions.specs.Instruction.{instruction_of}
use Rattle.instructions.specs.Said.{number_of}
use Rattle.instructions.specs.TokenOrder.{declared_op}
use Rattle.resolving.proofs.NameEntries.{named-said}
use Rattle.resolving.proofs.SayingLaws.{said-as}
use Rattle.resolving.proofs.walk.Walk.say_declared.Goals as goal

pub has_role-typed-requires : goal.has_role-typed-requires
has_role-typed-requires c =
    let s = c.args.self.now.scope in
    let l = nearest-below s.names.text.now s.names.spans (letters_at s.names.text.now c.args.span) s.base in
    let a = s.above in
    let b = c.requires.0.narrow in
    let e = c.find_declared-k.ensures in
    omega (arith, e)

pub entry-requires : goal.entry-requires
entry-requires c =
    let s = c.args.self.now.scope in
    let l = nearest-below s.names.text.now s.names.spans (letters_at s.names.text.now c.args.span) s.base in
    let a = s.above in
    let b = c.requires.0.narrow in
    let e = c.find_declared-k.ensures in
    omega (arith, e)

pub entry-requires-2 : goal.entry-requires-2
entry-requires-2 c =
    let s = c.args.self.now.scope in
    let l = nearest-below s.names.text.now s.names.spans (letters_at s.names.text.now c.args.span) s.base in
    let a = s.above in
    let b = c.requires.0.narrow in
    let e = c.find_declared-k.ensures in
    omega (arith, e)

pub returns : goal.returns
returns c =
    let s = c.args.self.now.scope in
    said-as
    (ap (λ i. i ∷ [])
    (named-said s.names.text.now s.names.spans s.named c.requires.0.numbered (letters_at s.names.text.now c.args.span) (number_of c.args.op)
    c.args.delayed _ _ c.find_declared-k.ensures
    (c.declared_op.ensures ∙ ap (declared_op (number_of c.args.op) c.args.delayed) c.has_role-typed.ensures)
    ∙ ap₂ (instruction_of (number_of c.declared_op.result)) (sym c.entry.ensures) (sym c.entry-2.ensures))) c.say.ensures
