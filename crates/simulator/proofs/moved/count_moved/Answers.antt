-- `count_moved`: the bits of the words so far.
-- Assumes nothing.
use mathlib.Core.Path.{◌≡◌, refl, ap, ◌∙◌}
use Prim.Native.Nat.{ℕ}
use native.Mathlib.Omega.{arith}
use lib.ListN.{get_or, length, take}
use lib.Seq.{length-take-le, take-length}
use Rattle.lists.specs.Lists.{total}
use Rattle.simulator.specs.Calls.{bits_set}
use Rattle.simulator.proofs.MovedLaws.{bits_set-le, counted_next}
use Rattle.simulator.proofs.moved.count_moved.Goals as goal

pub loop-word-init : goal.loop-word-init
loop-word-init c = (omega arith, refl)

pub overflow_add-moved : goal.overflow_add-moved
overflow_add-moved c =
    let a = c.args in
    let l = c.loop-word in
    let n = length-take-le a.count a.bits.now c.requires.0 in
    omega (arith, n, l.invariant.0, c.bits_set-moved.ensures, bits_set-le (get_or (take a.count a.bits.now) l.word-index 0))

pub loop-word-preserved : goal.loop-word-preserved
loop-word-preserved c =
    let a = c.args in
    let l = c.loop-word in
    let ws = take a.count a.bits.now in (
      omega (arith, l.invariant.0, c.bits_set-moved.ensures, bits_set-le (get_or ws l.word-index 0)),
      counted_next ws l.word-index _ _ (omega arith) c.bits_set-moved.ensures l.invariant.1,
    )

pub returns : goal.returns
returns c =
    let l = c.loop-word in
    let ws = take c.args.count c.args.bits.now in
    let e : l.word-index ≡ length ws = omega arith in
    l.invariant.1 ∙ ap (λ (j : ℕ). total bits_set (take j ws)) e ∙ ap (total bits_set) (take-length ws)
