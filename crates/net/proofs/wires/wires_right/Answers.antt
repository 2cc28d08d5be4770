-- `wires_right`: the wires still to come have ends that exist exactly if all have, and enter inputs that are fresh exactly if no input has
-- two wires.
-- Assumes nothing.
use mathlib.Core.Path.{◌≡◌, refl, sym, ap, ◌∙◌}
use mathlib.Core.Bool.{Bool, true}
use mathlib.Core.List.{List, [], map}
use Prim.Native.Nat.{ℕ, ◌-◌, ◌<◌}
use native.Mathlib.Omega.{arith}
use lib.ListN.{length-set}
use Rattle.lists.specs.Lists.{from, every, distinct}
use Rattle.lists.proofs.ListsLaws.{every_fails, every_next, every_end}
use Rattle.tables.specs.declared.Wire.{Wire}
use Rattle.tables.specs.Tables.{Tables, input_place}
use Rattle.tables.specs.Words.{uncounted}
use Rattle.net.specs.Net.{wire_fits, wires_fit, inputs_once}
use Rattle.net.specs.Parts.{lent, place_in}
use Rattle.net.proofs.LoopsLaws.{from_start}
use Rattle.net.proofs.MarksLaws.{fresh_start, fresh_from-again, fresh_from-next, fresh_from-end}
use Rattle.net.proofs.ClausesLaws.{wires_fit-every, inputs_once-places, left_fails, right_fails, none_fails}
use Rattle.net.proofs.NetLaws.{wire_fits-target, wire_fits-place}
use Rattle.net.proofs.wires.wires_right.Goals as goal
use Rattle.net.proofs.wires.wires_right.Invariants.{fits_at}
use Rattle.net.proofs.wires.wires_right.Lts as lts
use Rattle.net.proofs.wires.wires_right.Tie as tie
use Rattle.net.proofs.wires.wires_right.Reads as reads

abbrev Start : Type 0
Start = lts.Start tie.the-claims reads.Pre reads.Post goal.the-invariant-loop-k goal.the-decreases-loop-k

abbrev AfterWireFits : Type 0
AfterWireFits = lts.After-wire_fits tie.the-claims reads.Pre reads.Post goal.the-invariant-loop-k goal.the-decreases-loop-k

abbrev ElseNotWireFits : Type 0
ElseNotWireFits = lts.Else1 tie.the-claims reads.Pre reads.Post goal.the-invariant-loop-k goal.the-decreases-loop-k

abbrev AfterPlaceOfPlace : Type 0
AfterPlaceOfPlace = lts.After-place_of tie.the-claims reads.Pre reads.Post goal.the-invariant-loop-k goal.the-decreases-loop-k

-- The components, and the clauses that are tested.
abbrev L : Start → Tables
L s = lent s.args.components.now [] [] [] s.args.counts

abbrev fit : Start → Bool
fit s = wires_fit (lent s.args.components.now [] [] s.args.wires.now s.args.counts)

abbrev once : Start → Bool
once s = inputs_once (lent s.args.components.now [] [] s.args.wires.now s.args.counts)

-- The wire of a turn fits, or not.
tested : (c : AfterWireFits)
    →
    fits_at c.args.components.now c.args.wires.now c.args.counts c.loop-k.k ≡ c.wire_fits.result
tested c =
    ap (wire_fits (L c.before.before.before.before.before.before)) (sym c.wire_at-wire.ensures) ∙ sym c.wire_fits.ensures

fits : (c : ElseNotWireFits) → wire_fits (L c.before.before.before.before.before.before.before) c.wire_at-wire.result ≡ true
fits c = sym c.wire_fits.ensures ∙ c.if-not-wire_fits.false

-- The place of a turn is that of its wire, and one of full size.
place_is : (c : AfterPlaceOfPlace)
    →
    c.place_of-place.result ≡ place_in c.args.components.now c.args.wires.now c.loop-k.k
place_is c =
    c.place_of-place.ensures
    ∙ ap (λ (w : Wire). input_place (uncounted c.args.components.now []) w.dst) c.wire_at-wire.ensures

place-small : (c : AfterPlaceOfPlace) → c.place_of-place.result < 1024
place-small c =
    omega (arith, c.place_of-place.ensures, wire_fits-place (L c.before.before.before.before.before.before.before.before) c.wire_at-wire.result (fits c.before) c.requires.5 c.requires.1)

pub loop-k-init : goal.loop-k-init
loop-k-init c =
    let a = c.args in
    let places = place_in a.components.now a.wires.now in (
      omega arith,
      refl,
      ap (every (fits_at a.components.now a.wires.now a.counts)) (from_start a.counts.wires),
      fresh_start 1024 (map places (from 0 (a.counts.wires - 0))) ∙ ap (λ (l : List ℕ). distinct (map places l))
          (from_start a.counts.wires),
    )

pub wire_at-wire-requires : goal.wire_at-wire-requires
wire_at-wire-requires c = omega (arith, c.requires.3, c.loop-k-test.true)

pub wire_fits-requires : goal.wire_fits-requires
wire_fits-requires c = (c.requires.0, c.requires.2, c.requires.4)

pub returns-then-not-wire_fits : goal.returns-then-not-wire_fits
returns-then-not-wire_fits c =
    let a = c.args in
    let l = c.loop-k in
    left_fails (fit c.before.before.before.before.before.before.before.before) (once c.before.before.before.before.before.before.before.before)
    (every_fails (fits_at a.components.now a.wires.now a.counts) l.k a.counts.wires _ c.loop-k-test.true
    (tested c.before.before ∙ c.if-not-wire_fits.true) l.invariant.2
    ∙ wires_fit-every a.components.now a.wires.now a.counts)

pub place_of-place-requires : goal.place_of-place-requires
place_of-place-requires c = (
  omega (arith, c.requires.2, wire_fits-target (L c.before.before.before.before.before.before.before.before) c.wire_at-wire.result (fits c.before)),
  wire_fits-place (L c.before.before.before.before.before.before.before.before) c.wire_at-wire.result (fits c.before) c.requires.5 c.requires.1,
)

pub returns-then-seen-place-ne0 : goal.returns-then-seen-place-ne0
returns-then-seen-place-ne0 c =
    let a = c.args in
    let l = c.loop-k in
    let e = place_is c.before.before in
    right_fails (fit c.before.before.before.before.before.before.before.before.before.before) (once c.before.before.before.before.before.before.before.before.before.before)
    (fresh_from-again (place_in a.components.now a.wires.now) l.seen l.k a.counts.wires _ l.invariant.3
    c.loop-k-test.true (λ z. c.if-seen-place-ne0.true (rw e z))
    ∙ inputs_once-places a.components.now a.wires.now a.counts)

pub bounds-seen-place : goal.bounds-seen-place
bounds-seen-place c = place-small c.before

pub bounds-seen-place-in-loop-k : goal.bounds-seen-place-in-loop-k
bounds-seen-place-in-loop-k c = place-small c.before.before

pub loop-k-preserved : goal.loop-k-preserved
loop-k-preserved c =
    let a = c.args in
    let l = c.loop-k in
    let b = c.loop-k-test.true in
    let e = place_is c.before.before in (
      omega (arith, b),
      simp length-set l.invariant.1,
      every_next (fits_at a.components.now a.wires.now a.counts) l.k a.counts.wires _ b
          (tested c.before.before.before.before ∙ c.if-not-wire_fits.false) l.invariant.2,
      rw e
          (fresh_from-next (place_in a.components.now a.wires.now) l.seen l.k a.counts.wires _ l.invariant.3 b
          (omega (arith, e, l.invariant.1, place-small c.before.before)) (rw e at c.if-seen-place-ne0.false)),
    )

pub returns : goal.returns
returns c =
    let a = c.args in
    let l = c.loop-k in
    none_fails (fit c.before.before.before.before.before) (once c.before.before.before.before.before)
    (every_end (fits_at a.components.now a.wires.now a.counts) l.k a.counts.wires _ (omega arith) l.invariant.2
    ∙ wires_fit-every a.components.now a.wires.now a.counts)
    (fresh_from-end (place_in a.components.now a.wires.now) l.seen l.k a.counts.wires _ l.invariant.3 (omega arith)
    ∙ inputs_once-places a.components.now a.wires.now a.counts)
