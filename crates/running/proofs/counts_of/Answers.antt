-- `counts_of`: the counts of the answer, or those before it.
-- Assumes nothing.
use mathlib.Core.Path.{sym, ap}
use Rattle.tables.specs.Tables.{counts_after}
use Rattle.running.proofs.counts_of.Goals as goal
use Rattle.std.specs.Prelude.{Result}
use Rattle.tables.specs.declared.Counts.{Counts}
use Rattle.kinds.specs.declared.answers.Refusal.{Refusal}

pub returns-in_default : goal.returns-in_default
returns-in_default c = sym (ap (λ (a : Result Counts Refusal). counts_after a c.args.before) c.in_default.is)
