-- `check5`: the tests stand in the order of the definition, and each decides it at its way out.
-- Assumes nothing.
use Rattle.checks.proofs.ChecksLaws.{not_refused}
use Rattle.checks.proofs.ChecksLaws.{fails5_root, fails5_owner, fails5_line, fails5_before, fails5_held}
use Rattle.component.proofs.RecordLaws.{but_component}
use Rattle.checks.proofs.check5.Goals as goal

pub returns-in_default : goal.returns-in_default
returns-in_default c = absurd (search (not_refused))

pub returns-then-p-eq0 : goal.returns-then-p-eq0
returns-then-p-eq0 c = search (fails5_root)

pub returns-then-not-is_composite_at : goal.returns-then-not-is_composite_at
returns-then-not-is_composite_at c = search (fails5_owner)

pub returns-in_default-says : goal.returns-in_default-says
returns-in_default-says c =
    let k = but_component c.in-Taken.says c.in_default-says.not-Component in
    search (fails5_line)

pub returns-then-o-p : goal.returns-then-o-p
returns-then-o-p c = search (fails5_before)

pub returns : goal.returns
returns c = search (fails5_held)
