-- `round` straight from the drawing: what an accepted file and its tables give a round, and the round leaves such tables.
-- Assumes nothing.
use mathlib.Core.List.{[]}
use Rattle.tables.specs.Tables.{tables_of}
use Rattle.slow.proofs.RunsLaws.{run_lists, run_visited, run_few, run_inside, run_listed, run_made, run_bits, run_bits-length, run_on}
use Rattle.slow.proofs.rounding.DrawnEngine.round.Goals as goal

pub round_over-requires : goal.round_over-requires
round_over-requires c =
    let a = c.args in
    let T = tables_of a.components.now a.inputs.now a.outputs.now [] a.current.now a.following.now a.standing.now a.counts in
    let g = c.requires.0 in
    let lists = run_lists a.self.now.file.now _ _ T g in
    (lists.0, lists.1, lists.2, c.requires.1, run_visited a.self.now.file.now _ _ T g)

pub returns : goal.returns
returns c =
    let a = c.args in
    let file = a.self.now.file.now in
    let T = tables_of a.components.now a.inputs.now a.outputs.now [] a.current.now a.following.now a.standing.now a.counts in
    let r = c.round_over in
    let U = tables_of a.components.now r.new.inputs r.new.outputs [] r.new.current r.new.following r.new.standing r.result in
    let g = c.requires.0 in
    let e = r.ensures [] in
    let on = run_on file _ _ T g a.time U e.0 in (
      run_made file _ _ T g a.time U e.0,
      run_bits file _ _ T g a.time a.moved.now _ e.1,
      on,
      run_listed file _ _ T g,
      run_bits-length file _ _ T g a.time,
      run_few file _ _ T g,
      run_inside file _ _ U on,
    )
