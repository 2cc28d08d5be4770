-- `id_at`: a word of 32 bits is an id.
-- Assumes nothing.
use native.Mathlib.Omega.{arith}
use Rattle.value.proofs.ValueLaws.{below_lt}
use Rattle.tables.specs.Words.{id_in}
use Rattle.net.proofs.ids.id_at.Goals as goal

pub overflow_cast-result : goal.overflow_cast-result
overflow_cast-result c =
    omega (arith, c.id_word.ensures, below_lt (id_in c.args.components.now c.args.i) 32 c.requires.1)
