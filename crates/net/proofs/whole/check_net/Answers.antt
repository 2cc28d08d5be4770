-- `check_net`: refused by 2, by 16, or accepted, by the two tests.
-- Assumes nothing.
use mathlib.Core.Path.{sym, ap}
use Rattle.kinds.specs.Given.{refusing}
use Rattle.net.proofs.NetLaws.{net_number-2, net_number-16, net_number-0}
use Rattle.net.proofs.whole.check_net.Goals as goal

pub returns-then-not-full_size : goal.returns-then-not-full_size
returns-then-not-full_size c =
    rw c.refused_by.ensures (ap refusing (net_number-2 c.args.lent.now (sym c.if-not-full_size.ensures)))

pub is_net-requires : goal.is_net-requires
is_net-requires c = sym c.if-not-full_size.ensures

pub returns-then-not-is_net : goal.returns-then-not-is_net
returns-then-not-is_net c =
    rw c.refused_by-then-not-is_net.ensures
    (ap refusing (net_number-16 c.args.lent.now (sym c.if-not-full_size.ensures) (sym c.if-not-is_net.ensures)))

pub returns : goal.returns
returns c = ap refusing (net_number-0 c.args.lent.now (sym c.if-not-full_size.ensures) (sym c.if-not-is_net.ensures))
