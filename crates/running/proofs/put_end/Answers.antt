-- `put_end`: each ending.
-- Assumes nothing.
use Rattle.text.specs.Text.{ascii}
use Rattle.text.proofs.TextLaws.{put}
use Rattle.running.proofs.put_end.Goals as goal

pub returns-then-calm : goal.returns-then-calm
returns-then-calm c = rw c.if-calm.true (put (ascii "calm\n") (c.put_bytes.ensures.value, c.put_bytes.ensures.out_after))

pub returns : goal.returns
returns c = rw c.if-calm.false (put (ascii "not calm\n") (c.put_bytes-2.ensures.value, c.put_bytes-2.ensures.out_after))
