-- The entry that is found, `input`, or none.
-- Assumes nothing.
use Rattle.std.proofs.Common.{refl, ap, ◌∙◌, arith, cond}
use Rattle.name_rules.specs.Declared.{same_name, input}
use Rattle.symbols.specs.Names.{letters_at}
use Rattle.symbols.specs.RoleNumbers.{role_codes}
use Rattle.symbols.proofs.Search.{nearest-below}
use Rattle.symbols.proofs.Roles.{entry-alone, nothing-alone, code-at}
use Rattle.symbols.proofs.tables.NameTable.declared_role.Goals as goal

pub bounds-roles-k : goal.bounds-roles-k
bounds-roles-k c =
    let s = c.args.self.now in
    let l = nearest-below s.text.now s.spans (letters_at s.text.now c.args.span) s.count in
    let e = c.in-Some.ensures in
    let r = s.hashed.room in
    omega arith

pub returns-in-Some : goal.returns-in-Some
returns-in-Some c =
    let s = c.args.self.now in
    code-at c.args.roles.now c.in-Some.k
    ∙ entry-alone s.text.now s.spans (role_codes c.args.roles.now) c.args.base s.count c.args.span _ c.requires.1 c.requires.2 c.in-Some.ensures c.in-Some.k refl c.requires.3

pub returns-in-None : goal.returns-in-None
returns-in-None c =
    let s = c.args.self.now in
    c.unlisted.ensures
    ∙ ap (λ w. cond (same_name w input) 2 4) c.letters.ensures
    ∙ nothing-alone s.text.now s.spans (role_codes c.args.roles.now) c.args.base s.count c.args.span _ c.requires.1 c.requires.2 c.in-None.ensures refl
