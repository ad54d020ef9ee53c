-- One term of every promise of the front page.
-- Assumes nothing.
use mathlib.Core.Path.{sym, subst}
use Rattle.name_rules.specs.Names.{text_checks}
use Rattle.name_rules.specs.Promises.{NamingPromises, Increasing}
use Rattle.name_rules.proofs.First.{hold_or_fail, never-pass-and-fail, one_bad_place}
use Rattle.name_rules.proofs.EachOnce.{each_once}
use Rattle.name_rules.proofs.Bounded.{records_bounded}
use Rattle.name_rules.proofs.SameName.{same-equal, equal-same}
use Rattle.name_rules.proofs.TextOrder.{names-increase}
use Rattle.name_rules.proofs.ConstantOrder.{each_constant_once, constants-increase}

pub kept : NamingPromises
kept =
    record {
      hold_or_fail = λ t. hold_or_fail (text_checks t);
      not_both = λ t p f h. never-pass-and-fail f h;
      one_bad_place = λ t p q f g. one_bad_place f g;
      each_name_once = λ ts t r. each_once r;
      in_text_order = λ bytes ts t r. subst Increasing (sym (each_once r.parsed)) (names-increase r.lexed);
      each_constant_once = λ ts t r. each_constant_once r;
      constants_in_text_order = λ bytes ts t r. subst Increasing (sym (each_constant_once r.parsed)) (constants-increase r.lexed);
      records_bounded = λ bytes ts t r. records_bounded r.lexed r.parsed;
      same_letters = λ v w. (same-equal v w, equal-same v w);
    }
