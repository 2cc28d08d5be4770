-- `is_again`: an id whose mark is not set is none of those that are marked.
-- Assumes nothing.
use mathlib.Core.Path.{sym, ap, ◌∙◌}
use Prim.Native.Nat.{ℕ}
use lib.ListN.{get_or}
use Rattle.kinds.specs.Marks.{mark_of}
use Rattle.tables.specs.Words.{id_in}
use Rattle.net.proofs.PassLaws.{has_unmarked}
use Rattle.net.proofs.ids.is_again.Goals as goal

pub returns-then-marks-at-eq0 : goal.returns-then-marks-at-eq0
returns-then-marks-at-eq0 c =
    let a = c.args in
    sym
    (has_unmarked 4096 mark_of (id_in a.components.now) a.marks.now a.id.0 a.count c.requires.1
    (ap (λ (k : ℕ). get_or a.marks.now k 0) (sym c.mark_of-at.ensures.0) ∙ c.if-marks-at-eq0.true))

pub id_among-requires : goal.id_among-requires
id_among-requires c = c.requires.0
