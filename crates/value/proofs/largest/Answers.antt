-- `largest`: the smaller of the width and the widest is the one that the test finds.
-- Assumes nothing.
use mathlib.Core.Path.{◌≡◌, ◌∙◌, ap}
use Prim.Native.Nat.{min}
use native.Mathlib.Omega.{arith}
use Rattle.value.specs.Value.{widest, ones}
use Rattle.value.proofs.largest.Goals as goal

pub returns-then-width-lt-WIDEST : goal.returns-then-width-lt-WIDEST
returns-then-width-lt-WIDEST c =
    let w = c.args.width in
    let e : w ≡ min w widest = omega arith in
    c.all_ones.ensures ∙ ap ones e

-- the widest and past it
pub returns-else-width-lt-WIDEST : goal.returns-else-width-lt-WIDEST
returns-else-width-lt-WIDEST c =
    let w = c.args.width in
    let e : widest ≡ min w widest = omega arith in
    c.all_ones-else-width-lt-WIDEST.ensures ∙ ap ones e
