-- `berxundar_edit`: too few count words, or what the engine answers.
-- Assumes nothing.
use mathlib.Core.Path.{◌∙◌}
use Rattle.tables.specs.declared.Counts.{Counts}
use Rattle.tables.specs.Tables.{Tables, tables_of, answer_gives}
use Rattle.simulator.specs.Edit.{goes_first}
use Rattle.simulator.specs.Calls.{Edits}
use Rattle.words.proofs.PlainLaws.{plain_fits, plain_spoken}
use Rattle.words.proofs.SaidLaws.{change_short, change_made}
use Rattle.changing.proofs.ChangingLaws.{edited_plain}
use Rattle.changing.proofs.edit.berxundar_edit.Goals as goal
use Rattle.changing.proofs.edit.berxundar_edit.Lts as lts
use Rattle.changing.proofs.edit.berxundar_edit.Tie as tie
use Rattle.changing.proofs.edit.berxundar_edit.Reads as reads

abbrev Start : Type 0
Start = lts.Start tie.the-claims reads.Pre reads.Post

-- The tables that came in, by their counts.
abbrev came : Start → Counts → Tables
came s =
    tables_of s.args.components.now s.args.inputs.now s.args.outputs.now s.args.wires.now
    s.args.current.now
    s.args.following.now s.args.standing.now

pub returns-then-counts-lt7 : goal.returns-then-counts-lt7
returns-then-counts-lt7 c =
    change_short _ _ _ c.if-counts-lt7.true

pub keep-requires : goal.keep-requires
keep-requires c =
    let r = c.edit-answer in (
      c.if-counts-lt7.false,
      plain_fits (answer_gives r.result) (edited_plain (came c.before.before.before.before.before.before.before.before.before.before.before.before.before.before.before.before.before.before.before.before.before.before c.counts_in.result) c.args.index c.args.number (answer_gives r.result) _ r.ensures.0),
    )

pub returns : goal.returns
returns c =
    let m = c.counts_in in
    let r = c.edit-answer in
    let k = c.keep in
    let p = edited_plain (came c.before.before.before.before.before.before.before.before.before.before.before.before.before.before.before.before.before.before.before.before.before.before.before.before.before m.result) c.args.index c.args.number (answer_gives r.result) _ r.ensures.0 in
    change_made (Edits goes_first c.args.index c.args.number) c.args.counts.now (came c.before.before.before.before.before.before.before.before.before.before.before.before.before.before.before.before.before.before.before.before.before.before.before.before.before) r.result m.result k.new.words _ k.result
    c.if-counts-lt7.false m.ensures
    r.ensures (k.ensures.0 ∙ plain_spoken (answer_gives r.result) p) k.ensures.1
