-- A bound name, a constructor, or `input`.
-- Assumes nothing.
use native.Mathlib.Omega.{arith}
use mathlib.Core.Path.{◌≡◌, sym, ap, ap₂, ◌∙◌}
use mathlib.Core.List.{[], ◌∷◌}
use Prim.Native.Nat.{suc, ◌-◌, ◌≤◌}
use Rattle.symbols.specs.Names.{letters_at, entry_number, nearest}
use Rattle.instructions.specs.Instruction.{instruction_of, use_name}
use Rattle.resolving.proofs.NameEntries.{bound-said, constructor-said, input-said, bound-below}
use Rattle.resolving.proofs.SayingLaws.{said-as}
use Rattle.resolving.proofs.walk.Walk.say_value.Goals as goal
use Rattle.resolving.proofs.walk.Walk.say_value.Goals.{in_default-via-in-Some+else-base-k, in_default-via-in_default}

pub overflow_sub-n : goal.overflow_sub-n
overflow_sub-n c =
    let s = c.args.self.now.scope in
    let l = bound-below s.names.text.now s.names.spans s.named c.requires.0.numbered (letters_at s.names.text.now c.args.span) s.names.count (suc c.in-Some.k) s.above c.in-Some.ensures in
    omega (arith, l)

pub overflow_sub-n-in-Some : goal.overflow_sub-n-in-Some
overflow_sub-n-in-Some c =
    let s = c.args.self.now.scope in
    let l = bound-below s.names.text.now s.names.spans s.named c.requires.0.numbered (letters_at s.names.text.now c.args.span) s.names.count (suc c.in-Some.k) s.above c.in-Some.ensures in
    omega (arith, l)

pub returns-in-Some : goal.returns-in-Some
returns-in-Some c =
    let s = c.args.self.now.scope in
    let h = c.if-base-k.true in
    let e : s.names.count - suc c.in-Some.k ≡ s.names.count - c.in-Some.k - 1 = omega arith in
    said-as
    (ap (λ i. i ∷ [])
    (bound-said s.names.text.now s.names.spans s.named c.requires.0.numbered (letters_at s.names.text.now c.args.span) s.names.count (suc c.in-Some.k) s.above c.in-Some.ensures (omega arith)
    ∙ ap use_name e)) c.say.ensures

pub returns-in_default : goal.returns-in_default
returns-in_default c =
    let s = c.args.self.now.scope in
    let w = letters_at s.names.text.now c.args.span in
    let k = entry_number c.in_default.found in
    let f : (k ≡ nearest s.names.text.now s.names.spans w s.names.count) × (k ≤ s.base)
    = elim c.in_default.branch [
      | in_default-via-in-Some+else-base-k w ↦
          let e = ap entry_number w.found-is in
          let l = w.if-base-k.false in
          (e ∙ w.in-Some.ensures, omega (arith, e))
      | in_default-via-in_default w ↦ (ap entry_number w.found-is ∙ c.find-found.ensures, (let e = ap entry_number (w.found-is ∙ w.in_default.is) in omega (arith, e)))
    ] in
    said-as
    (ap (λ i. i ∷ [])
    (constructor-said s.names.text.now s.names.spans s.named c.requires.0.numbered w s.names.count k s.above f.0 f.1
    (sym c.if-has_role.true ∙ c.has_role.ensures)
    ∙ ap₂ (instruction_of 6) (sym c.entry.ensures) (sym c.entry-in_default.ensures))) c.say-in_default.ensures

pub returns-in_default-2 : goal.returns-in_default-2
returns-in_default-2 c =
    let s = c.args.self.now.scope in
    let w = letters_at s.names.text.now c.args.span in
    let k = entry_number c.in_default.found in
    let f : (k ≡ nearest s.names.text.now s.names.spans w s.names.count) × (k ≤ s.base)
    = elim c.in_default.branch [
      | in_default-via-in-Some+else-base-k w ↦
          let e = ap entry_number w.found-is in
          let l = w.if-base-k.false in
          (e ∙ w.in-Some.ensures, omega (arith, e))
      | in_default-via-in_default w ↦ (ap entry_number w.found-is ∙ c.find-found.ensures, (let e = ap entry_number (w.found-is ∙ w.in_default.is) in omega (arith, e)))
    ] in
    said-as
    (ap (λ i. i ∷ [])
    (input-said s.names.text.now s.names.spans s.named c.requires.0.numbered w s.names.count k s.above f.0 f.1
    (sym c.if-has_role.false ∙ c.has_role.ensures))) c.say-in_default-2.ensures
