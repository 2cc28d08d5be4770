-- `fields_at`: each word fits its field, and is the definition's.
-- Assumes nothing.
use native.Mathlib.Omega.{arith}
use Rattle.tables.specs.Words.{fields_in}
use Rattle.tables.proofs.RowsLaws.{fields_fit-kind, fields_fit-inputs, fields_fit-outputs, fields_fit-width}
use Rattle.tables.proofs.rows.fields_at.Goals as goal

pub overflow_cast-result : goal.overflow_cast-result
overflow_cast-result c =
    omega (arith, c.word_of.ensures, fields_fit-kind (fields_in c.args.components.now c.args.i) c.requires.1)

pub overflow_cast-result-2 : goal.overflow_cast-result-2
overflow_cast-result-2 c =
    omega (arith, c.word_of-2.ensures, fields_fit-inputs (fields_in c.args.components.now c.args.i) c.requires.1)

pub overflow_cast-result-3 : goal.overflow_cast-result-3
overflow_cast-result-3 c =
    omega (
      arith,
      c.word_of-3.ensures,
      fields_fit-outputs (fields_in c.args.components.now c.args.i)
          c.requires.1,
    )

pub overflow_cast-result-4 : goal.overflow_cast-result-4
overflow_cast-result-4 c =
    omega (arith, c.word_of-4.ensures, fields_fit-width (fields_in c.args.components.now c.args.i) c.requires.1)

pub returns : goal.returns
returns c =
    rw (
      c.word_of-5.ensures,
      c.word_of-4.ensures,
      c.word_of-3.ensures,
      c.word_of-2.ensures,
      c.word_of.ensures,
    )
