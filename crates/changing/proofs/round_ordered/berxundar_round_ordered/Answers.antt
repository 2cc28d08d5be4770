-- `berxundar_round_ordered`: too few count words, or what the engine answers.
-- Assumes nothing.
use native.Mathlib.Omega.{arith}
use mathlib.Core.Path.{◌∙◌}
use Rattle.tables.specs.declared.Counts.{Counts}
use Rattle.tables.specs.Tables.{Tables, tables_of, answer_gives}
use Rattle.simulator.specs.Ordered.{RoundsOrdered}
use Rattle.words.proofs.PlainLaws.{plain_fits, plain_spoken}
use Rattle.changing.proofs.ChangingLaws.{round_short, round_answered, ordered_plain}
use Rattle.changing.proofs.round_ordered.berxundar_round_ordered.Goals as goal
use Rattle.changing.proofs.round_ordered.berxundar_round_ordered.Lts as lts
use Rattle.changing.proofs.round_ordered.berxundar_round_ordered.Tie as tie
use Rattle.changing.proofs.round_ordered.berxundar_round_ordered.Reads as reads

abbrev Start : Type 0
Start = lts.Start tie.the-claims reads.Pre reads.Post

-- The tables that came in, by their counts.
abbrev came : Start → Counts → Tables
came s =
    tables_of s.args.components.now s.args.inputs.now s.args.outputs.now s.args.wires.now
    s.args.current.now
    s.args.following.now s.args.standing.now

pub returns-then-counts-lt7 : goal.returns-then-counts-lt7
returns-then-counts-lt7 c =
    round_short (λ bs' T a U. RoundsOrdered c.args.time c.args.order.now c.args.moved.now T a U bs') _ _ _ c.if-counts-lt7.true

pub keep-requires : goal.keep-requires
keep-requires c =
    let p =
    ordered_plain (came c.before.before.before.before.before.before.before.before.before.before.before.before.before.before.before.before.before.before.before.before.before.before.before.before.before.before.before.before.before.before.before.before.before c.counts_in.result) c.args.order.now c.args.moved.now (answer_gives c.round_ordered-answer.result) _
    c.round_ordered-answer.ensures.0.0 in
    (omega arith, plain_fits (answer_gives c.round_ordered-answer.result) p)

pub returns : goal.returns
returns c =
    let k = c.keep in
    let m = c.counts_in in
    let r = c.round_ordered-answer in
    let p = ordered_plain (came c.before.before.before.before.before.before.before.before.before.before.before.before.before.before.before.before.before.before.before.before.before.before.before.before.before.before.before.before.before.before.before.before.before.before.before.before m.result) c.args.order.now c.args.moved.now (answer_gives r.result) _ r.ensures.0.0 in
    round_answered (λ bs' T a U. RoundsOrdered c.args.time c.args.order.now c.args.moved.now T a U bs') c.args.counts.now c.args.moved.now (came c.before.before.before.before.before.before.before.before.before.before.before.before.before.before.before.before.before.before.before.before.before.before.before.before.before.before.before.before.before.before.before.before.before.before.before.before)
    r.result m.result k.new.words _ _ k.result c.if-counts-lt7.false m.ensures r.ensures (k.ensures.0 ∙ plain_spoken (answer_gives r.result) p) k.ensures.1
