-- `berxundar_slow_run_until_calm`: too few count words, or what the engine answers.
-- Assumes nothing.
use mathlib.Core.Path.{sym, ap, ◌∙◌}
use mathlib.Core.Bool.{Bool, ◌&&◌, ◌||◌}
use mathlib.Core.List.{◌∷◌}
use Rattle.component.specs.Record.{sized}
use Rattle.words.specs.Said.{short}
use Rattle.slow.specs.declared.SlowCounts.{SlowCounts}
use Rattle.slow.specs.Slow.{SlowTables, slow_tables_of, slow_words, slow_ran_gives, SlowRuns}
use Rattle.slowly.proofs.SlowlyLaws.{run_short, run_made, run_is, said_small, done_sized, room_run}
use Rattle.slowly.proofs.run.berxundar_slow_run_until_calm.Goals as goal
use Rattle.slowly.proofs.run.berxundar_slow_run_until_calm.Lts as lts
use Rattle.slowly.proofs.run.berxundar_slow_run_until_calm.Tie as tie
use Rattle.slowly.proofs.run.berxundar_slow_run_until_calm.Reads as reads

abbrev Start : Type 0
Start = lts.Start tie.the-claims reads.Pre reads.Post

-- The tables that came in, by their counts.
abbrev came : Start → SlowCounts → SlowTables
came s = slow_tables_of s.args.inputs.now s.args.outputs.now s.args.current.now s.args.following.now s.args.standing.now

-- Too few words, whether the file has a size or not.
abbrev lack : Start → Bool
lack s = short s.args.counts.now 5 || short s.args.found.now 3

pub returns-then-is_sized-counts : goal.returns-then-is_sized-counts
returns-then-is_sized-counts c =
    run_short (SlowRuns c.args.file.now c.args.time c.args.limit) (sized c.args.file.now && lack c.before.before.before.before.before.before.before.before.before.before.before) c.args.counts.now
    c.args.found.now (came c.before.before.before.before.before.before.before.before.before.before.before) (ap (λ (b : Bool). b && lack c.before.before.before.before.before.before.before.before.before.before.before) (sym c.is_sized.ensures) ∙ c.if-is_sized-counts.true)

pub keep_run-requires : goal.keep_run-requires
keep_run-requires c =
    let r = c.run_until_calm-answer in
    let few = ap (λ (b : Bool). b && lack c.before.before.before.before.before.before.before.before.before.before.before.before.before.before.before.before.before.before.before.before.before.before.before.before.before.before.before.before.before.before) (sym c.is_sized.ensures) ∙ c.if-is_sized-counts.false in
    let is = run_is c.args.file.now (came c.before.before.before.before.before.before.before.before.before.before.before.before.before.before.before.before.before.before.before.before.before.before.before.before.before.before.before.before.before.before c.counts_in.result) in (
      λ ran e. room_run c.args.file.now c.args.counts.now c.args.found.now few
          (done_sized c.args.file.now _ is (slow_ran_gives r.result) _ r.ensures.0 (ran.rounds ∷ ran.evaluations ∷ ran.moved ∷ slow_words ran.counts) (ap slow_ran_gives e)),
      said_small c.args.file.now _ is (slow_ran_gives r.result) _ r.ensures.0,
    )

pub returns : goal.returns
returns c =
    let r = c.run_until_calm-answer in
    let m = c.counts_in in
    let k = c.keep_run in
    let few = ap (λ (b : Bool). b && lack c.before.before.before.before.before.before.before.before.before.before.before.before.before.before.before.before.before.before.before.before.before.before.before.before.before.before.before.before.before.before.before.before.before.before.before) (sym c.is_sized.ensures) ∙ c.if-is_sized-counts.false in
    run_made (SlowRuns c.args.file.now c.args.time c.args.limit) (sized c.args.file.now && lack c.before.before.before.before.before.before.before.before.before.before.before.before.before.before.before.before.before.before.before.before.before.before.before.before.before.before.before.before.before.before.before.before.before.before.before) c.args.counts.now c.args.found.now
    (came c.before.before.before.before.before.before.before.before.before.before.before.before.before.before.before.before.before.before.before.before.before.before.before.before.before.before.before.before.before.before.before.before.before.before.before) r.result m.result k.new.words k.new.found _ k.result few m.ensures r.ensures k.ensures.0 k.ensures.1 k.ensures.2
