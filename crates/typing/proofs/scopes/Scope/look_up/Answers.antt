-- A name's place from the end is its place in the list. Assumes nothing.
use mathlib.Core.Path.{◌∙◌, sym, ap}
use mathlib.Core.List.{List}
use native.Mathlib.Omega.{arith}
use Prim.Native.Nat.{ℕ}
use lib.ListN.{length, get_or}
use Rattle.typing.proofs.ScopeLists.{scope-length, scope-at}
use Rattle.typing.proofs.scopes.Scope.look_up.Goals as goal

pub returns-then-self-k : goal.returns-then-self-k
returns-then-self-k c =
    let l = ap length (sym c.self.view_is) ∙ scope-length c.self.inside.names c.self.inside.types in
    omega (arith, c.if-self-k.true)

pub returns : goal.returns
returns c =
    let l = ap length (sym c.self.view_is) ∙ scope-length c.self.inside.names c.self.inside.types in (
      omega (arith, c.if-self-k.false),
      c.from.ensures
          ∙ sym (scope-at c.self.inside.names c.self.inside.types c.args.k c.if-self-k.false)
          ∙ ap (λ (Γ : List ℕ). get_or Γ c.args.k 0) c.self.view_is,
    )
