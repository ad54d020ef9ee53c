-- A bound name, a declared one, `input`, or none.
-- Assumes nothing.
use Rattle.std.proofs.Common.{refl, ap, ◌∙◌, arith, cond}
use Rattle.name_rules.specs.Declared.{same_name, input}
use Rattle.symbols.specs.RoleNumbers.{role_codes}
use Rattle.symbols.proofs.Roles.{bound-found, declared-found, nothing-found, code-at}
use Rattle.symbols.proofs.tables.NameTable.role.Goals as goal

pub returns-in-Some : goal.returns-in-Some
returns-in-Some c =
    let s = c.args.self.now in
    bound-found s.text.now s.spans (role_codes c.args.roles.now) c.args.base c.args.limit c.args.span _ c.requires.2 c.requires.3 c.in-Some.ensures (let h = c.if-base-k.true in omega arith)

pub returns-in-Some-2 : goal.returns-in-Some-2
returns-in-Some-2 c =
    let s = c.args.self.now in
    code-at c.args.roles.now c.in-Some.k
    ∙ declared-found s.text.now s.spans (role_codes c.args.roles.now) c.args.base c.args.limit c.args.span _ c.requires.2 c.requires.3 c.in-Some.ensures c.in-Some.k refl (let h = c.if-base-k.false in omega arith)

pub returns-in-None : goal.returns-in-None
returns-in-None c =
    let s = c.args.self.now in
    c.unlisted.ensures
    ∙ ap (λ w. cond (same_name w input) 2 4) c.letters.ensures
    ∙ nothing-found s.text.now s.spans (role_codes c.args.roles.now) c.args.base c.args.limit c.args.span _ c.requires.2 c.requires.3 c.in-None.ensures refl
