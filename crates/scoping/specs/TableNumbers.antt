-- The rules and effects of the code's tables as those of the states.
use Rattle.std.specs.Prelude.{ℕ}
use Rattle.name_rules.specs.TokenWalk as rules
use Rattle.scoping.specs.declared.tables.NameRule.{NameRule}
use Rattle.scoping.specs.declared.tables.NameRule.TheVariants.{NewName, TypeUse, PatternUse, ConstantUse, ValueUse, Ruleless}
use Rattle.scoping.specs.declared.tables.Effect.{Effect}
use Rattle.scoping.specs.declared.tables.Effect.TheVariants.{KeepsScope, Pends, DeclaresFirst, DeclaresNext, Binds, BindsPending, DeclaresPending, Unbinds}

abbrev pub rule_of : NameRule → rules.NameRule
rule_of NewName = rules.new_name
rule_of TypeUse = rules.type_use
rule_of PatternUse = rules.pattern_use
rule_of ConstantUse = rules.constant_use
rule_of ValueUse = rules.value_use
rule_of Ruleless = rules.ruleless

abbrev pub effect_code : Effect → ℕ
effect_code KeepsScope = 0
effect_code Pends = 1
effect_code DeclaresFirst = 2
effect_code DeclaresNext = 3
effect_code Binds = 4
effect_code BindsPending = 5
effect_code DeclaresPending = 6
effect_code Unbinds = 7
