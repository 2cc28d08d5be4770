-- `lies_below`: nothing is left of a number below 2^width when the width's places are moved out.
-- Assumes nothing.
use borrow.Author.Rules.{rules}
use mathlib.Core.Path.{sym}
use borrow.Author.Tests.{lt-ltb}
use Rattle.value.proofs.ValueLaws.{shr_none, further_below}
use Rattle.value.proofs.lies_below.Goals as goal

pub returns-then-width-lt-WORD : goal.returns-then-width-lt-WORD
returns-then-width-lt-WORD c = shr_none c.args.number c.args.width

-- 64 bits and more
pub returns-else-width-lt-WORD : goal.returns-else-width-lt-WORD
returns-else-width-lt-WORD c = sym (lt-ltb _ _ (further_below _ 64 _ (search rules) c.if-width-lt-WORD.false))
