-- `split`: the outputs before i are written, their bits are set, and what is left is the input, halved i times.
-- Assumes nothing.
use mathlib.Core.Path.{◌≡◌, refl, sym, ap, ◌∙◌}
use Prim.Native.Nat.{ℕ, ◌/◌, ◌%◌, ◌<◌}
use native.Mathlib.Nat.{div-one}
use native.Mathlib.Omega.{arith}
use lib.ListN.{length, get_or, length-set}
use lib.Pow.{shr-shr}
use Rattle.value.specs.declared.Value.{Value}
use Rattle.value.proofs.ValueLaws.{bit_of-lowest}
use Rattle.primitive.specs.Evaluate.{split, moved}
use Rattle.primitive.proofs.RulesLaws.{split_length, split_at}
use Rattle.primitive.proofs.MovedLaws.{written_step, moved_step, moved_room, written_all, moved_all}
use Rattle.primitive.proofs.rules.split.Goals as goal

pub loop-i-init : goal.loop-i-init
loop-i-init c = (omega arith, refl, refl, refl, sym (div-one c.args.input))

pub put_at-bits-requires : goal.put_at-bits-requires
put_at-bits-requires c =
    let s = c.loop-i in
    let ys = c.args.outputs.now in
    let few = c.requires in
    (omega (arith, s.invariant.1), omega arith, moved_room ys (split c.args.input (length ys)) s.i _ s.invariant.0 s.invariant.3)

pub loop-i-preserved : goal.loop-i-preserved
loop-i-preserved c =
    let s = c.loop-i in
    let x = c.args.input in
    let ys = c.args.outputs.now in
    let zs = split x (length ys) in
    let put = c.put_at-bits in
    let l = sym (split_length x (length ys)) in
    let h : s.i < length ys = omega arith in
    let bit : c.bit.result.number ≡ get_or zs s.i 0 =
    ap (λ (w : Value). w.number) c.bit.ensures ∙ bit_of-lowest s.left ∙ ap (λ (n : ℕ). n % 2) s.invariant.4
    ∙ sym (split_at x (length ys) s.i h) in (
      omega arith,
      ap length put.ensures.1 ∙ simp length-set s.invariant.1,
      put.ensures.1 ∙ written_step ys zs s.outputs s.i _ l h s.invariant.2 bit,
      moved_step ys zs s.outputs s.i _ l h s.invariant.2 bit s.bits put.result s.invariant.3 put.ensures.0,
      ap (λ (n : ℕ). n / 2) s.invariant.4 ∙ shr-shr x s.i 1,
    )

pub returns : goal.returns
returns c =
    let s = c.loop-i in
    let x = c.args.input in
    let ys = c.args.outputs.now in
    let zs = split x (length ys) in
    let l = sym (split_length x (length ys)) in
    let e : s.i ≡ length ys = omega arith in
    let written_now : s.outputs ≡ zs = s.invariant.2 ∙ written_all ys zs s.i l e in
    (s.invariant.3 ∙ moved_all ys zs s.i l e ∙ ap (moved ys) (sym written_now), written_now)
