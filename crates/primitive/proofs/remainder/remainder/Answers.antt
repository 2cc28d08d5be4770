use mathlib.Core.Path.{◌≡◌, ◌∙◌, ap}
use Prim.Native.Nat.{ℕ, ◌*◌, ◌/◌, ◌%◌, ◌<◌}
use native.Mathlib.Omega.{arith}
use native.Mathlib.Nat.{mod-lt}
use Rattle.primitive.proofs.RemainderLaws.{halved, halved_mod, ended}
use Rattle.primitive.proofs.remainder.remainder.Goals as goal

pub doubled-multiple-requires : goal.doubled-multiple-requires
doubled-multiple-requires c = c.requires

pub reduced-left-requires : goal.reduced-left-requires
reduced-left-requires c = c.doubled-multiple.ensures.1

pub loop-multiple-init : goal.loop-multiple-init
loop-multiple-init c = (c.doubled-multiple.ensures.0, c.reduced-left.ensures)

pub reduced-left-requires-in-loop-multiple : goal.reduced-left-requires-in-loop-multiple
reduced-left-requires-in-loop-multiple c =
    let s = c.loop-multiple in
    let n = c.args.number in
    let h = halved s.invariant.0 (omega arith) in
    let l : n % s.multiple < s.multiple = mod-lt n (omega arith) in
    omega (arith, s.invariant.1, l, h.twice)

pub loop-multiple-smaller : goal.loop-multiple-smaller
loop-multiple-smaller c = omega arith

pub loop-multiple-preserved : goal.loop-multiple-preserved
loop-multiple-preserved c =
    let s = c.loop-multiple in
    let n = c.args.number in
    let h = halved s.invariant.0 (omega arith) in
    let l : s.left ≡ n % (2 * (s.multiple / 2)) = s.invariant.1 ∙ ap (λ (m : ℕ). n % m) h.twice in
    (h.doubled, c.reduced-left-in-loop-multiple.ensures ∙ ap (λ (x : ℕ). x % (s.multiple / 2)) l ∙ halved_mod n (s.multiple / 2))

pub returns : goal.returns
returns c =
    let s = c.loop-multiple in
    let a = c.args in
    s.invariant.1 ∙ ap (λ (m : ℕ). a.number % m) (ended s.invariant.0 (omega arith))
