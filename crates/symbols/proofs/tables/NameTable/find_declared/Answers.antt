-- The nearest name of all, where it is declared; none, where it is bound and tells of none; or the search among the declared names.
-- Assumes nothing.
use borrow.Author.Rules.{rules}
use Rattle.std.proofs.Common.{refl, arith, subst, ◌<◌, get_or}
use Rattle.symbols.specs.Names.{letters_at}
use Rattle.symbols.specs.RoleNumbers.{role_codes}
use Rattle.symbols.specs.declared.meanings.Role.TheVariants.{TypeName}
use Rattle.symbols.proofs.Search.{nearest-below}
use Rattle.symbols.proofs.Roles.{declared-there, declared-nowhere, code-at, neither-declared}
use Rattle.symbols.proofs.tables.NameTable.find_declared.Goals as goal

pub returns-in-Some : goal.returns-in-Some
returns-in-Some c =
    let s = c.args.self.now in
    declared-there s.text.now s.spans (role_codes c.args.roles.now) c.args.base s.count c.args.span _ c.requires.1 c.requires.2 c.in-Some.ensures (let h = c.if-k-base.true in omega arith)

pub bounds : goal.bounds
bounds c =
    let s = c.args.self.now in
    let l = nearest-below s.text.now s.spans (letters_at s.text.now c.args.span) s.count in
    let e = c.in-Some-2.ensures in
    let r = s.hashed.room in
    omega arith

pub returns-in_default : goal.returns-in_default
returns-in_default c =
    let s = c.args.self.now in
    declared-nowhere s.text.now s.spans (role_codes c.args.roles.now) c.args.base s.count c.args.span _ c.requires.1 c.requires.2 c.in-Some.ensures c.in-Some.k refl c.requires.3
    (let h = c.if-k-base.false in omega arith)
    (subst (λ n. 1 < n) (code-at c.args.roles.now c.in-Some.k) (neither-declared (get_or c.args.roles.now c.in-Some.k TypeName) (search rules) (search rules)))

pub returns-in-None : goal.returns-in-None
returns-in-None c =
    let s = c.args.self.now in
    declared-there s.text.now s.spans (role_codes c.args.roles.now) c.args.base s.count c.args.span _ c.requires.1 c.requires.2 c.in-None.ensures (omega arith)
