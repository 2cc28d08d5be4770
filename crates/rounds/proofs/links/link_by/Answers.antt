-- `link_by`: the wires behind are linked in the order that was handed in.
-- Assumes nothing.
use mathlib.Core.Path.{◌≡◌, sym, ap, ◌∙◌, subst}
use Prim.Native.Nat.{ℕ, ◌-◌, ◌<◌}
use native.Mathlib.Omega.{arith}
use lib.ListN.{length, take}
use lib.Seq.{slice, slice_empty, length-take-le}
use Rattle.rounds.specs.Links.{IsLinked}
use Rattle.rounds.proofs.LinksLaws.{order_below, order_new, order_next, left_length, left_rest, left_last}
use Rattle.rounds.proofs.links.link_by.Goals as goal

pub loop-entry-init : goal.loop-entry-init
loop-entry-init c =
    let a = c.args in
    let left = c.into_iter-entry-iterator.result.iter.rest.now in
    let all : left ≡ take a.count a.order.now =
    ap (λ s. s.iter.rest.now) c.into_iter-entry-iterator.ensures.into_iter_gives
    ∙ ap (λ s. s.rest.now) c.rev-entry-items.ensures.source ∙ c.iter.ensures.rest in
    let long : length left ≡ a.count = ap length all ∙ length-take-le a.count a.order.now c.requires.1 in (
      omega (arith, long),
      all ∙ ap (λ (k : ℕ). take k a.order.now) (sym long),
      subst (λ (k : ℕ). IsLinked a.wires.now a.count a.head.now a.after.now (slice k a.count a.order.now)) (sym long)
          (subst (IsLinked a.wires.now a.count a.head.now a.after.now) (sym (slice_empty a.count a.order.now)) c.requires.4),
    )

pub link_first-requires : goal.link_first-requires
link_first-requires c =
    let a = c.args in
    let left = c.loop-entry.entry-iterator.iter.rest.now in
    let rest = c.next.new.self.iter.rest.now in
    let x = c.in-Some.entry.now in
    let i = c.loop-entry.invariant in
    let p = c.in-Some.ensures.steps in
    let e = left_last a.order.now left rest x i.1 p in
    let h : x < a.count =
    omega (
      arith,
      e,
      order_below a.count a.order.now c.requires.1 c.requires.2 (length left - 1)
          (omega (arith, i.0, left_length a.order.now left rest x i.1 p)),
    ) in
    (omega (arith, h, c.requires.0), c.requires.3 x h, omega (arith, h, c.requires.5))

pub loop-entry-preserved : goal.loop-entry-preserved
loop-entry-preserved c =
    let a = c.args in
    let left = c.loop-entry.entry-iterator.iter.rest.now in
    let rest = c.next.new.self.iter.rest.now in
    let x = c.in-Some.entry.now in
    let i = c.loop-entry.invariant in
    let p = c.in-Some.ensures.steps in
    let e = left_last a.order.now left rest x i.1 p in
    let d = left_length a.order.now left rest x i.1 p in
    let b : 0 < length left = omega (arith, d) in
    let h : x < a.count =
    omega (arith, e, order_below a.count a.order.now c.requires.1 c.requires.2 (length left - 1) (omega (arith, i.0, d))) in
    let k : length left - 1 ≡ length rest = omega (arith, d) in (
      omega (arith, i.0, d),
      left_rest a.order.now left rest x i.1 p,
      subst (λ (j : ℕ). IsLinked a.wires.now a.count c.link_first.new.head c.link_first.new.after (slice j a.count a.order.now)) k
          (order_next a.count a.order.now c.requires.1 c.requires.2 a.wires.now _ _ (length left) x b i.0 e
          (c.link_first.ensures a.count (slice (length left) a.count a.order.now) h
          (order_new a.count a.order.now c.requires.1 c.requires.2 (length left) x b i.0 e) i.2)),
    )

pub returns : goal.returns
returns c =
    let a = c.args in
    let l = c.loop-entry in
    subst (λ (k : ℕ). IsLinked a.wires.now a.count l.head l.after (slice k a.count a.order.now)) c.in-None.ensures.steps.0 l.invariant.2
