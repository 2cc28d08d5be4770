-- `count_at`: inside the table its word, past its end 0.
-- Assumes nothing.
use mathlib.Core.Path.{sym}
use lib.ListN.{get_or-eq_default}
use Rattle.words.proofs.counts.count_at.Goals as goal

pub returns-else-at-words : goal.returns-else-at-words
returns-else-at-words c = sym (get_or-eq_default c.args.words.now 0 c.if-at-words.false)
