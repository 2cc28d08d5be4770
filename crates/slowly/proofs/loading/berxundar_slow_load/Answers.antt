-- `berxundar_slow_load`: too few count words, or what the engine answers.
-- Assumes nothing.
use mathlib.Core.Path.{refl, sym, ap, ◌∙◌}
use mathlib.Core.Bool.{Bool, ◌&&◌}
use lib.ListN.{length}
use lib.Dec.{ltb}
use Rattle.slow.specs.declared.SlowCounts.{SlowCounts}
use Rattle.slow.specs.Slow.{SlowTables, slow_tables_of, slow_words, slow_gives, SlowLoads}
use Rattle.slowly.specs.Slowly.{slow_counts_in, few_slow}
use Rattle.slowly.proofs.SlowlyLaws.{call_short, call_made, load_is, said_small, done_sized, room_counts}
use Rattle.slowly.proofs.loading.berxundar_slow_load.Goals as goal
use Rattle.slowly.proofs.loading.berxundar_slow_load.Lts as lts
use Rattle.slowly.proofs.loading.berxundar_slow_load.Tie as tie
use Rattle.slowly.proofs.loading.berxundar_slow_load.Reads as reads

abbrev Start : Type 0
Start = lts.Start tie.the-claims reads.Pre reads.Post

-- The tables that came in, by their counts.
abbrev came : Start → SlowCounts → SlowTables
came s = slow_tables_of s.args.inputs.now s.args.outputs.now s.args.current.now s.args.following.now s.args.standing.now

pub returns-then-is_sized-counts : goal.returns-then-is_sized-counts
returns-then-is_sized-counts c =
    call_short (SlowLoads c.args.file.now) (few_slow c.args.file.now c.args.counts.now) c.args.counts.now (came c.before.before.before.before.before.before.before.before.before.before)
    (ap (λ (b : Bool). b && ltb (length c.args.counts.now) 5) (sym c.is_sized.ensures) ∙ c.if-is_sized-counts.true)

pub keep-requires : goal.keep-requires
keep-requires c =
    let r = c.load-answer in
    let few = ap (λ (b : Bool). b && ltb (length c.args.counts.now) 5) (sym c.is_sized.ensures) ∙ c.if-is_sized-counts.false in
    let m = slow_counts_in c.args.counts.now in
    let is = load_is c.args.file.now (came c.before.before.before.before.before.before.before.before.before.before.before.before.before.before.before.before.before.before.before.before.before.before.before.before.before.before.before m) in (
      λ k e. room_counts c.args.file.now c.args.counts.now few
          (done_sized c.args.file.now _ is (slow_gives r.result) _ (r.ensures m).0 (slow_words k) (ap slow_gives e)),
      said_small c.args.file.now _ is (slow_gives r.result) _ (r.ensures m).0,
    )

pub returns : goal.returns
returns c =
    let r = c.load-answer in
    let k = c.keep in
    let few = ap (λ (b : Bool). b && ltb (length c.args.counts.now) 5) (sym c.is_sized.ensures) ∙ c.if-is_sized-counts.false in
    call_made (SlowLoads c.args.file.now) (few_slow c.args.file.now c.args.counts.now) c.args.counts.now (came c.before.before.before.before.before.before.before.before.before.before.before.before.before.before.before.before.before.before.before.before.before.before.before.before.before.before.before.before.before.before) r.result
    (slow_counts_in c.args.counts.now) k.new.words _ k.result few refl (r.ensures (slow_counts_in c.args.counts.now)) k.ensures.0 k.ensures.1
