use mathlib.Core.Path.{sym}
use native.Mathlib.Nat.{mod-eq_of_lt}
use Rattle.primitive.proofs.RemainderLaws.{reached}
use Rattle.primitive.proofs.remainder.reduced.Goals as goal

pub returns-then-divisor-number : goal.returns-then-divisor-number
returns-then-divisor-number c = reached c.args.number c.args.divisor c.requires c.if-divisor-number.true

pub returns-else-divisor-number : goal.returns-else-divisor-number
returns-else-divisor-number c = sym (mod-eq_of_lt c.if-divisor-number.false)
