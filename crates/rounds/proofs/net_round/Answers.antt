-- `net_round`: a net gives what a round requires, and the wires that are met are those of the order in which they are linked.
-- Assumes nothing.
use native.Mathlib.Omega.{arith}
use Rattle.tables.specs.Tables.{tables_of}
use Rattle.rounds.specs.Round.{wires_from}
use Rattle.rounds.specs.Links.{linked_wires}
use Rattle.rounds.proofs.StepsLaws.{runs_evaluates, fits_small}
use Rattle.rounds.proofs.RoundLaws.{net_runs, net_fits, net_visited, net_leaving, round_alike, bits_alike}
use Rattle.rounds.proofs.net_round.Goals as goal

pub round_over-requires : goal.round_over-requires
round_over-requires c =
    let a = c.args in
    let T = tables_of a.components.now a.inputs.now a.outputs.now a.wires.now a.current.now a.following.now a.standing.now a.counts in
    let fits = net_fits T c.requires.0 in (
      fits.0,
      fits.1,
      fits.2,
      c.requires.1,
      λ j h. (
        runs_evaluates a.components.now a.wires.now a.counts _ _ _ (net_runs T c.requires.0) (net_visited T c.requires.0 j h),
        (net_runs T c.requires.0, c.requires.2 (omega arith), fits_small a.components.now _ _ fits.0 j h),
      ),
    )

pub returns : goal.returns
returns c vs f =
    let a = c.args in
    let T = tables_of a.components.now a.inputs.now a.outputs.now a.wires.now a.current.now a.following.now a.standing.now a.counts in
    let met = linked_wires a.wires.now a.counts.wires a.head.now a.after.now in
    let same = net_leaving T a.head.now a.after.now vs c.requires.0 f in
    let r = c.round_over.ensures a.wires.now in (
      round_alike T met (wires_from vs) a.time same _ r.0,
      bits_alike T met (wires_from vs) a.time same _ _ r.1,
    )
