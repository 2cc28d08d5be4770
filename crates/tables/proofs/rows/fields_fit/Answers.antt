-- `fields_fit`: the tests are those of the definition, on the words that the callee reads.
-- Assumes nothing.
use Rattle.tables.specs.Words.{fields_fit}
use Rattle.tables.proofs.rows.fields_fit.Goals as goal

pub returns : goal.returns
unfolding fields_fit
returns c =
    rw (
      c.word_of-width.ensures,
      c.word_of-outputs.ensures,
      c.word_of-inputs.ensures,
      c.word_of-kind.ensures,
    )
