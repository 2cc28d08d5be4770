-- `put_rounds`: what is written so far and what is to come are the rounds; each round leaves a net.
-- Assumes nothing.
use mathlib.Core.Path.{refl, ◌∙◌}
use mathlib.Core.Bool.{true, false}
use native.Mathlib.Omega.{arith}
use Rattle.tables.specs.Tables.{tables_of}
use Rattle.rounds.proofs.Sound.{current_in}
use Rattle.running.proofs.RoundsLaws.{net_left, round_put, begun_inside, last_part, rounds_end}
use Rattle.running.proofs.put_rounds.Goals as goal

pub loop-round-init : goal.loop-round-init
loop-round-init c =
    let a = c.args in
    (refl, refl, refl, refl, refl, c.requires.1, begun_inside a.out.now _ a.at c.requires.0)

pub round_left-left-requires : goal.round_left-left-requires
round_left-left-requires c = c.loop-round.invariant.5

pub put_round-next-requires : goal.put_round-next-requires
put_round-next-requires c =
    let a = c.args in
    let l = c.loop-round in
    let r = c.round_left-left in
    let T = tables_of a.components.now l.inputs l.outputs a.wires.now l.current l.following l.standing l.reached in
    let U =
    tables_of a.components.now r.new.inputs r.new.outputs a.wires.now r.new.current
    r.new.following r.new.standing r.result.counts in
    current_in U (net_left T U r.result.calm l.invariant.5 r.ensures)

pub returns-then-left : goal.returns-then-left
returns-then-left c =
    let a = c.args in
    let l = c.loop-round in
    let r = c.round_left-left in
    let p = c.put_round-next in
    let T = tables_of a.components.now l.inputs l.outputs a.wires.now l.current l.following l.standing l.reached in
    let U =
    tables_of a.components.now r.new.inputs r.new.outputs a.wires.now r.new.current
    r.new.following r.new.standing r.result.counts in
    last_part (round_put T U r.result.calm r.ensures l.round (omega arith) true c.if-left.true l.invariant.6 p.ensures) c.put_end.ensures

pub loop-round-preserved : goal.loop-round-preserved
loop-round-preserved c =
    let a = c.args in
    let l = c.loop-round in
    let r = c.round_left-left in
    let p = c.put_round-next in
    let T = tables_of a.components.now l.inputs l.outputs a.wires.now l.current l.following l.standing l.reached in
    let U =
    tables_of a.components.now r.new.inputs r.new.outputs a.wires.now r.new.current
    r.new.following r.new.standing r.result.counts in (
      r.auto.inputs ∙ l.invariant.0,
      r.auto.outputs ∙ l.invariant.1,
      r.auto.current ∙ l.invariant.2,
      r.auto.following ∙ l.invariant.3,
      r.auto.standing ∙ l.invariant.4,
      net_left T U r.result.calm l.invariant.5 r.ensures,
      round_put T U r.result.calm r.ensures l.round (omega arith) false c.if-left.false l.invariant.6 p.ensures,
    )

pub returns : goal.returns
returns c =
    let a = c.args in
    let l = c.loop-round in
    let T = tables_of a.components.now l.inputs l.outputs a.wires.now l.current l.following l.standing l.reached in
    rounds_end l.round T (omega arith) l.invariant.6 c.put_end-2.ensures
