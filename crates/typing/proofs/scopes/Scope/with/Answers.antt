-- The names below stay, and the new one stands above them. Assumes nothing.
use mathlib.Core.Path.{◌∙◌, sym, ap}
use mathlib.Core.List.{List, ◌∷◌}
use native.Mathlib.Omega.{arith}
use Prim.Native.Nat.{ℕ}
use lib.ListN.{length}
use Rattle.typing.proofs.ScopeLists.{one-name-more, scope-length}
use Rattle.typing.proofs.scopes.Scope.with.Goals as goal

pub returns : goal.returns
returns c =
    let l = ap length (sym c.self.view_is) ∙ scope-length c.self.inside.names c.self.inside.types in
    one-name-more c.self.inside.types c.self.inside.names c.args.t c.self.told (omega (arith, c.requires.0))
    ∙ ap (λ (Γ : List ℕ). c.args.t ∷ Γ) c.self.view_is
