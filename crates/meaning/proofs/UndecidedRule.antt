-- The rule in force for an undecided IF is lawful, and agrees with its counterpart on 000's constants; the earlier rule lies at or
-- below it. Nothing above this file opens the rule but where values are computed.
-- Assumes nothing.
use Rattle.meaning.specs.Undecided.{undecided_rule, undecided_constant}
use Rattle.meaning.specs.RuleLaws.{undefined_leaves, Lawful, Agreeing}
use Rattle.meaning.specs.Ordered.{RuleBelow}
use Rattle.meaning.proofs.UndefinedLeavesLawful.{undefined_lawful}
use Rattle.meaning.proofs.AgreedLeavesLawful.{agreed_lawful, agreed_agreeing, lawful-below-agreed}

pub rule-lawful : Lawful undecided_rule
unfolding undecided_rule
rule-lawful = agreed_lawful

pub rule-agreeing : Agreeing undecided_rule undecided_constant
unfolding undecided_rule undecided_constant
rule-agreeing = agreed_agreeing

pub earlier_rule_below : RuleBelow undefined_leaves undecided_rule
unfolding undecided_rule
earlier_rule_below = lawful-below-agreed undefined_lawful
