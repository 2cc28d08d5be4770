-- `put_bytes`: what is still to come, put after what was, is all of it put.
-- Assumes nothing.
use Prim.Native.Nat.{◌≤◌}
use lib.ListN.{length, drop}
use Rattle.text.proofs.TextLaws.{ToCome}
use Rattle.text.proofs.put_bytes.Given as goal

abbrev pub invariant-loop-byte : goal.invariant-loop-byte
invariant-loop-byte l = (l.byte-index ≤ length l.bytes) × ToCome l.initial.out l.at l.bytes l.out l.next (drop l.byte-index l.bytes)
