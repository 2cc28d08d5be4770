-- `berxundar_load`: a file of no size, too few count words, or what the engine answers.
-- Assumes nothing.
use mathlib.Core.Path.{sym, ◌∙◌}
use Rattle.tables.specs.declared.Counts.{Counts}
use Rattle.tables.specs.Tables.{Tables, tables_of, answer_gives}
use Rattle.words.specs.Words.{counts_in}
use Rattle.host.proofs.NumbersLaws.{load_small}
use Rattle.host.proofs.HostLaws.{load_unsized, load_short, load_made}
use Rattle.host.proofs.loading.berxundar_load.Goals as goal
use Rattle.host.proofs.loading.berxundar_load.Lts as lts
use Rattle.host.proofs.loading.berxundar_load.Tie as tie
use Rattle.host.proofs.loading.berxundar_load.Reads as reads

abbrev Start : Type 0
Start = lts.Start tie.the-claims reads.Pre reads.Post

-- The tables that came in, by their counts.
abbrev came : Start → Counts → Tables
came s =
    tables_of s.args.components.now s.args.inputs.now s.args.outputs.now s.args.wires.now
    s.args.current.now
    s.args.following.now s.args.standing.now

pub returns-then-not-is_sized : goal.returns-then-not-is_sized
returns-then-not-is_sized c =
    load_unsized _ _ _ (sym c.is_sized.ensures ∙ c.if-not-is_sized.true)

pub returns-then-counts-lt7 : goal.returns-then-counts-lt7
returns-then-counts-lt7 c =
    load_short _ _ _ (sym c.is_sized.ensures ∙ c.if-not-is_sized.false) c.if-counts-lt7.true

pub keep_loaded-requires : goal.keep_loaded-requires
keep_loaded-requires c =
    let m = counts_in c.args.counts.now in
    (c.if-counts-lt7.false, load_small c.args.file.now (came c.before.before.before.before.before.before.before.before.before.before.before.before.before.before.before.before.before.before.before.before.before.before.before.before.before.before.before.before.before.before.before.before.before.before.before.before m) (answer_gives c.load-answer.result) _ (c.load-answer.ensures m).0)

pub returns : goal.returns
returns c =
    load_made c.args.file.now c.args.counts.now (came c.before.before.before.before.before.before.before.before.before.before.before.before.before.before.before.before.before.before.before.before.before.before.before.before.before.before.before.before.before.before.before.before.before.before.before.before.before.before.before) c.load-answer.result c.keep_loaded.new.words _ c.keep_loaded.result
    (sym c.is_sized.ensures ∙ c.if-not-is_sized.false) c.if-counts-lt7.false c.load-answer.ensures c.keep_loaded.ensures.0 c.keep_loaded.ensures.1
