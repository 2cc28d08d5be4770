-- `put_bytes`: what is still to come, put after what was, is all of it put.
-- Assumes nothing.
use mathlib.Core.Path.{subst}
use mathlib.Core.List.{[], ◌∷◌}
use Prim.Native.Nat.{◌+◌}
use native.Mathlib.Omega.{arith}
use lib.ListN.{get_or, drop}
use Rattle.text.proofs.TextLaws.{ToCome, begun, put_piece, ended, byte_first, none_left}
use Rattle.text.proofs.put_bytes.Goals as goal

pub loop-byte-init : goal.loop-byte-init
loop-byte-init c =
    let a = c.args in
    (omega arith, begun a.out.now a.bytes.now a.at c.within-next.result c.within-next.ensures)

pub loop-byte-preserved : goal.loop-byte-preserved
loop-byte-preserved c =
    let a = c.args in
    let s = c.loop-byte in
    let r = c.put-next in (
      omega arith,
      put_piece a.out.now a.bytes.now s.out r.new.out (get_or a.bytes.now s.byte-index 0 ∷ [])
          (drop (s.byte-index + 1) a.bytes.now) a.at s.next r.result
          (subst (ToCome a.out.now a.at a.bytes.now s.out s.next)
          (byte_first a.bytes.now s.byte-index (omega arith)) s.invariant.1)
          r.ensures.value r.ensures.out_after,
    )

pub returns : goal.returns
returns c =
    let a = c.args in
    let s = c.loop-byte in
    let e = ended a.out.now a.bytes.now s.out (drop s.byte-index a.bytes.now) a.at s.next s.invariant.1
    (none_left a.bytes.now s.byte-index s.invariant.0 (omega arith)) in
    record { value = e.0; out_after = e.1 }
