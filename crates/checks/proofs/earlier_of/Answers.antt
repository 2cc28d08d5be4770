-- `earlier_of`: the invariant: the first of the records to come that enters the input is the answer.
-- Assumes nothing.
use Rattle.component.specs.Reading.{enters}
use Rattle.checks.proofs.ChecksLaws.{earlier_none, earlier_start}
use Rattle.component.proofs.ScanLaws.{scan_kth_here, scan_kth_next, scan_kth_none}
use Rattle.checks.proofs.earlier_of.Goals as goal

pub returns-in_default : goal.returns-in_default
returns-in_default c = search (earlier_none)

pub loop-q-init : goal.loop-q-init
loop-q-init c = search (earlier_start)

pub returns-then-same_entry : goal.returns-then-same_entry
returns-then-same_entry c =
    let k = c.in-Some.entry in
    search (scan_kth_here c.args.file.now (enters k.owner k.to.0 k.input))

pub loop-q-preserved : goal.loop-q-preserved
loop-q-preserved c =
    let k = c.in-Some.entry in
    search (scan_kth_next c.args.file.now (enters k.owner k.to.0 k.input))

pub returns : goal.returns
returns c =
    let k = c.in-Some.entry in
    search (scan_kth_none c.args.file.now (enters k.owner k.to.0 k.input))
