-- `Value::bit`: a shift and a remainder; past bit 63 a word has none.
-- Assumes nothing.
use borrow.Author.Rules.{rules}
use Rattle.value.proofs.ValueLaws.{no_bit}
use Rattle.value.proofs.Value.bit.Goals as goal

-- past bit 63
pub returns-else-i-lt-WORD : goal.returns-else-i-lt-WORD
returns-else-i-lt-WORD c = rw (no_bit c.args.self.number 64 c.args.i (search rules) c.if-i-lt-WORD.false)
