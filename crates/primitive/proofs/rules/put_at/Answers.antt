-- `put_at`: an output that is what it shall be stays, and no bit is set; any other is written, and its bit is set.
-- Assumes nothing.
use mathlib.Core.Path.{refl, sym, ap, ◌∙◌}
use native.Mathlib.Omega.{arith}
use borrow.Author.Tests.{eq-eqb, ne_eqb}
use lib.ListN.{get_or, set}
use lib.Seq.{set-get_or}
use Rattle.primitive.proofs.MovedLaws.{bit_set}
use Rattle.primitive.proofs.rules.put_at.Goals as goal

-- It is what it shall be.
pub returns-then-outputs-i : goal.returns-then-outputs-i
returns-then-outputs-i c =
    let ys = c.args.outputs.now in
    let e = eq-eqb (get_or ys c.args.i 0) c.args.number c.if-outputs-i.true in (
      rw e (omega arith),
      sym (ap (set ys c.args.i) (sym c.if-outputs-i.true) ∙ set-get_or ys c.args.i 0),
    )

-- It is written.
pub returns : goal.returns
returns c =
    let e = ne_eqb (get_or c.args.outputs.now c.args.i 0) c.args.number c.if-outputs-i.false in
    (bit_set c.args.bits c.args.i c.requires.1 c.requires.2 ∙ rw e, refl)
