-- `berxundar_run_until_calm`: too few words, or what the engine answers.
-- Assumes nothing.
use mathlib.Core.Path.{◌∙◌}
use Rattle.tables.specs.declared.Counts.{Counts}
use Rattle.tables.specs.Tables.{Tables, tables_of}
use Rattle.simulator.specs.Calls.{ran_gives, Runs}
use Rattle.words.proofs.PlainLaws.{plain_fits, plain_spoken}
use Rattle.words.proofs.SaidLaws.{enough_counts, enough_found}
use Rattle.changing.proofs.ChangingLaws.{changed_plain, run_short, run_made}
use Rattle.changing.proofs.run.berxundar_run_until_calm.Goals as goal
use Rattle.changing.proofs.run.berxundar_run_until_calm.Lts as lts
use Rattle.changing.proofs.run.berxundar_run_until_calm.Tie as tie
use Rattle.changing.proofs.run.berxundar_run_until_calm.Reads as reads

abbrev Start : Type 0
Start = lts.Start tie.the-claims reads.Pre reads.Post

-- The tables that came in, by their counts.
abbrev came : Start → Counts → Tables
came s =
    tables_of s.args.components.now s.args.inputs.now s.args.outputs.now s.args.wires.now
    s.args.current.now
    s.args.following.now s.args.standing.now

pub returns-then-counts-found : goal.returns-then-counts-found
returns-then-counts-found c =
    run_short _ _ _ _ c.if-counts-found.true

pub lay_run-requires : goal.lay_run-requires
lay_run-requires c =
    let h = c.if-counts-found.false in (
      enough_counts c.args.counts.now c.args.found.now 3 h,
      enough_found c.args.counts.now c.args.found.now 3 h,
      plain_fits (ran_gives c.run_until_calm-answer.result) (changed_plain (came c.before.before.before.before.before.before.before.before.before.before.before.before.before.before.before.before.before.before.before.before.before.before.before.before.before.before.before.before.before.before c.counts_in.result) (ran_gives c.run_until_calm-answer.result) _ c.run_until_calm-answer.ensures.0),
    )

pub returns : goal.returns
returns c =
    let m = c.counts_in in
    let r = c.run_until_calm-answer in
    let k = c.lay_run in
    let p = changed_plain (came c.before.before.before.before.before.before.before.before.before.before.before.before.before.before.before.before.before.before.before.before.before.before.before.before.before.before.before.before.before.before.before.before.before.before.before m.result) (ran_gives r.result) _ r.ensures.0 in
    run_made (Runs c.args.time c.args.limit) c.args.counts.now c.args.found.now (came c.before.before.before.before.before.before.before.before.before.before.before.before.before.before.before.before.before.before.before.before.before.before.before.before.before.before.before.before.before.before.before.before.before.before.before) r.result m.result k.new.words k.new.found _
    k.result c.if-counts-found.false m.ensures
    r.ensures (k.ensures.0 ∙ plain_spoken (ran_gives r.result) p) k.ensures.1 k.ensures.2
