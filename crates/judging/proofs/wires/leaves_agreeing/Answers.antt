-- `leaves_agreeing`: a wire that leaves no marked component is not looked at; the ends of another are compared.
-- Assumes nothing.
use mathlib.Core.Path.{◌≡◌, sym, ap, ◌∙◌, subst}
use mathlib.Core.List.{[]}
use native.Mathlib.Omega.{arith}
use lib.ListN.{get_or}
use Rattle.tables.specs.declared.Wire.{Wire}
use Rattle.tables.specs.Tables.{Tables}
use Rattle.tables.specs.Words.{no_counts}
use Rattle.net.specs.Parts.{lent}
use Rattle.judging.specs.Judged.{wire_agrees}
use Rattle.judging.specs.Steps.{CanCompare}
use Rattle.judging.proofs.JudgingLaws.{unmarked_wire, marked_wire}
use Rattle.judging.proofs.wires.leaves_agreeing.Goals as goal
use Rattle.judging.proofs.wires.leaves_agreeing.Lts as lts
use Rattle.judging.proofs.wires.leaves_agreeing.Tie as tie
use Rattle.judging.proofs.wires.leaves_agreeing.Reads as reads

abbrev Start : Type 0
Start = lts.Start tie.the-claims reads.Pre reads.Post

abbrev T : Start → Tables
T s = lent s.args.components.now s.args.inputs.now s.args.outputs.now [] no_counts

pub bounds-marks-from : goal.bounds-marks-from
bounds-marks-from c =
    let p : CanCompare (T c.before.before.before.before.before.before.before) c.wire_at-wire.result = subst (CanCompare (T c.before.before.before.before.before.before.before)) (sym c.wire_at-wire.ensures) c.requires.1 in
    omega (arith, p.source_few, p.target_few)

pub returns-then-marks-from-eq0 : goal.returns-then-marks-from-eq0
returns-then-marks-from-eq0 c =
    let e = c.wire_at-wire.ensures in
    λ xs l. unmarked_wire c.args.marks.now xs _ _ c.requires.1.source_few l
    (subst (λ (w : Wire). get_or c.args.marks.now w.src.comp.0 0 ≡ 0) e c.if-marks-from-eq0.true)

pub wire_agrees-requires : goal.wire_agrees-requires
wire_agrees-requires c = subst (CanCompare (T c.before.before.before.before.before.before.before.before.before)) (sym c.wire_at-wire.ensures) c.requires.1

pub returns : goal.returns
returns c =
    let e = c.wire_at-wire.ensures in
    λ xs l. c.wire_agrees.ensures ∙ ap (wire_agrees (T c.before.before.before.before.before.before.before.before.before.before)) e ∙ marked_wire c.args.marks.now xs _ _ c.requires.1.source_few l
    (subst (λ (w : Wire). get_or c.args.marks.now w.src.comp.0 0 ≡ 0 → ⊥) e c.if-marks-from-eq0.false)
