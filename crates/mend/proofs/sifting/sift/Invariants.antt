-- `sift`: the records passed so far are sifted, and what the kept ones enter is marked.
-- Assumes nothing.
use Rattle.lists.specs.Marks.{IsMarked}
use Rattle.mend.specs.Sifting.{IsSifted, kept_entry, kept_mark}
use Rattle.mend.proofs.sifting.sift.Given as goal

abbrev pub invariant-loop-p : goal.invariant-loop-p
invariant-loop-p l =
    IsSifted l.file l.p l.kept × IsMarked 16384 (kept_entry l.file) (kept_mark l.file) 0 l.p l.marks
