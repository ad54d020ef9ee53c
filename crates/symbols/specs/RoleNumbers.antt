-- The roles of names as the numbers of the rules (`role_in`).
use Rattle.std.specs.Prelude.{ℕ, List, map}
use Rattle.symbols.specs.declared.meanings.Role.{Role}
use Rattle.symbols.specs.declared.meanings.Role.TheVariants.{TypeName, Constructor, Input, Bound, Unknown}

abbrev pub role_code : Role → ℕ
role_code TypeName = 0
role_code Constructor = 1
role_code Input = 2
role_code Bound = 3
role_code Unknown = 4

abbrev pub role_codes : List Role → List ℕ
role_codes roles = map role_code roles
