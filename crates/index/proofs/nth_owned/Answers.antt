-- `nth_owned`: the invariant: the one sought, with those still to pass, among the records to come is the answer.
-- Assumes nothing.
use Rattle.component.specs.Record.{owned_as}
use Rattle.component.proofs.ScanLaws.{scan_kth_here, scan_kth_counts, scan_kth_next, scan_kth_none}
use Rattle.index.proofs.nth_owned.Goals as goal
use Rattle.index.proofs.nth_owned.Goals.{else-is_owned, then-is_owned+else-left-eq0}

-- this one
pub returns-then-left-eq0 : goal.returns-then-left-eq0
returns-then-left-eq0 c =
    let a = c.args in
    search (scan_kth_here a.file.now (owned_as a.form a.o))

pub loop-q-preserved : goal.loop-q-preserved
loop-q-preserved c =
    let a = c.args in
    elim c.if-is_owned.branch [ then-is_owned+else-left-eq0 w ↦ rw w.left-is (search (scan_kth_counts a.file.now (owned_as a.form a.o))) | else-is_owned w ↦ rw w.left-is (search (scan_kth_next a.file.now (owned_as a.form a.o))) ]

-- none
pub returns : goal.returns
returns c =
    let a = c.args in
    search (scan_kth_none a.file.now (owned_as a.form a.o))
