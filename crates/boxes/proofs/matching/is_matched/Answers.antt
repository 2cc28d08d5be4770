-- `is_matched`: the components differ, or the wires decide.
-- Assumes nothing.
use Rattle.component.specs.Record.{record_at, record_count}
use Rattle.boxes.proofs.MatchLaws.{matched_not, matched_by}
use Rattle.boxes.proofs.matching.is_matched.Goals as goal

pub components_match-requires : goal.components_match-requires
components_match-requires c = rw (c.counts-counts.ensures, c.components.ensures) (c.requires.0, c.requires.2)

pub returns-then-not-components_match : goal.returns-then-not-components_match
returns-then-not-components_match c =
    let a = c.args in
    matched_not (record_at a.file.now) (record_count a.file.now) a.lent.now _
    (rw (c.counts-counts.ensures, c.components.ensures) at c.components_match.ensures) c.if-not-components_match.true

pub wires_match-requires : goal.wires_match-requires
wires_match-requires c = rw (c.counts-counts.ensures, c.wires.ensures) (c.requires.0, c.requires.1, c.requires.3)

pub returns : goal.returns
returns c =
    let a = c.args in
    matched_by (record_at a.file.now) (record_count a.file.now) a.lent.now _
    (rw (c.counts-counts.ensures, c.components.ensures) at c.components_match.ensures) c.if-not-components_match.false _
    (rw (c.counts-counts.ensures, c.wires.ensures) at c.wires_match.ensures)
