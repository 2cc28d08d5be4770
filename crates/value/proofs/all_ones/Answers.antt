-- `all_ones`: the shifted one less one is the word of the width's bits; at 64 the largest word.
-- Assumes nothing.
use mathlib.Core.Path.{◌≡◌}
use native.Mathlib.Omega.{arith}
use lib.Pow.{pow_pos}
use Rattle.value.proofs.ValueLaws.{one_shl, shl_ones}
use Rattle.value.proofs.all_ones.Goals as goal

pub overflow_sub-result : goal.overflow_sub-result
overflow_sub-result c = rw (one_shl _ c.if-width-lt-WORD.true) (pow_pos _)

pub returns-then-width-lt-WORD : goal.returns-then-width-lt-WORD
returns-then-width-lt-WORD c = shl_ones _ c.if-width-lt-WORD.true

-- 64 bits
pub returns-else-width-lt-WORD : goal.returns-else-width-lt-WORD
returns-else-width-lt-WORD c = let e : c.args.width ≡ 64 = omega arith in rw e
