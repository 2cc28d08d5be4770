-- `rows_right`: the rows so far are right, their ids are distinct and marked, and the widths of their ports are noted.
-- Assumes nothing.
use borrow.Author.Tests.{not-true, not-false}
use mathlib.Core.Path.{◌≡◌, refl, sym, ap, ◌∙◌, subst}
use mathlib.Core.Bool.{Bool, true, ◌&&◌, true≢false}
use mathlib.Core.List.{[], map}
use Prim.Native.Nat.{ℕ}
use native.Mathlib.Omega.{arith}
use Rattle.lists.specs.Lists.{from, every, distinct}
use Rattle.lists.proofs.TestsLaws.{and_both}
use Rattle.lists.proofs.ListsLaws.{every_fails, every_next, every_end}
use Rattle.lists.proofs.KeysLaws.{marks_start}
use Rattle.kinds.specs.Marks.{mark_of}
use Rattle.tables.specs.Words.{fields_in, id_in, uncounted}
use Rattle.net.specs.Net.{input_sum, output_sum}
use Rattle.net.specs.Parts.{obeyed_at, stands_at, holds_at, row_right, Widths}
use Rattle.net.proofs.LoopsLaws.{from_start, total_step}
use Rattle.net.proofs.PassLaws.{stands_obeyed, stands_id, stands_ports, stands_within, ports_inside, within_inputs, within_outputs}
use Rattle.net.proofs.PassLaws.{rows_fail, rows_again, rows_end, distinct_next, widths_next}
use Rattle.net.proofs.rows.rows_right.Goals as goal
use Rattle.net.proofs.rows.rows_right.Lts as lts
use Rattle.net.proofs.rows.rows_right.Tie as tie
use Rattle.net.proofs.rows.rows_right.Reads as reads

abbrev Start : Type 0
Start = lts.Start tie.the-claims reads.Pre reads.Post goal.the-invariant-loop-i goal.the-decreases-loop-i

abbrev ElseNotRowStands : Type 0
ElseNotRowStands = lts.Else1 tie.the-claims reads.Pre reads.Post goal.the-invariant-loop-i goal.the-decreases-loop-i

abbrev ElseNotRowHolds : Type 0
ElseNotRowHolds = lts.Else2 tie.the-claims reads.Pre reads.Post goal.the-invariant-loop-i goal.the-decreases-loop-i

-- The test of one row.
abbrev row : Start → ℕ → Bool
row s = row_right s.args.components.now s.args.inputs.now s.args.outputs.now s.args.counts

-- The row of a turn stands.
stands : (c : ElseNotRowStands) →
    stands_at c.args.components.now c.args.counts c.loop-i.i ≡ true
stands c =
    sym c.row_stands.ensures ∙ c.if-not-row_stands.false

obeyed : (c : ElseNotRowStands) →
    obeyed_at c.args.components.now c.loop-i.i ≡ true
obeyed c =
    stands_obeyed c.args.components.now c.args.counts c.loop-i.i (stands c)

-- The row of a turn is right.
right : (c : ElseNotRowHolds) →
    row c.before.before.before.before.before.before.before.before.before.before.before c.loop-i.i ≡ true
right c =
    let a = c.args in
    and_both (stands_at a.components.now a.counts c.loop-i.i)
    (holds_at a.components.now a.inputs.now a.outputs.now c.loop-i.i) (stands c.before.before.before.before)
    (sym c.row_holds.ensures.0 ∙ c.if-not-row_holds.false)

pub loop-i-init : goal.loop-i-init
loop-i-init c = (
  omega arith,
  refl,
  refl,
  omega arith,
  omega arith,
  ap (every (row c.before.before.before.before)) (from_start c.args.counts.components),
  marks_start 4096 (λ j. true) (λ j. mark_of (id_in c.args.components.now j)) 0,
  refl,
  c.requires.6,
)

pub row_stands-requires : goal.row_stands-requires
row_stands-requires c =
    let l = c.loop-i in (
      omega (arith, c.requires.3, c.loop-i-test.true),
      omega (arith, l.invariant.3, c.requires.1),
      omega (arith, l.invariant.4, c.requires.2),
      l.invariant.1,
      l.invariant.2,
    )

pub returns-then-not-row_stands : goal.returns-then-not-row_stands
returns-then-not-row_stands c =
    let a = c.args in
    let l = c.loop-i in
    let e = sym c.row_stands.ensures ∙ c.if-not-row_stands.true in (
      rows_fail a.components.now a.inputs.now a.outputs.now a.counts
          (every_fails (row c.before.before.before.before.before.before.before.before) l.i a.counts.components _ c.loop-i-test.true
          (ap (λ (b : Bool). b && holds_at a.components.now a.inputs.now a.outputs.now l.i) e) l.invariant.5),
      λ q. absurd (true≢false (sym q)),
    )

pub row_holds-requires : goal.row_holds-requires
row_holds-requires c =
    let a = c.args in
    let l = c.loop-i in
    let b = c.loop-i-test.true in
    let p =
    ports_inside a.components.now a.counts l.i a.inputs.now a.outputs.now
    (stands_ports a.components.now a.counts l.i (stands c.before.before.before)) (omega (arith, c.requires.1, c.requires.4))
    (omega (arith, c.requires.2, c.requires.5)) in
    (omega (arith, c.requires.3, b), obeyed c.before.before.before, omega (arith, c.requires.0, b), p.0, p.1)

pub returns-then-not-row_holds : goal.returns-then-not-row_holds
returns-then-not-row_holds c =
    let a = c.args in
    let l = c.loop-i in
    let e = sym c.row_holds.ensures.0 ∙ c.if-not-row_holds.true in (
      rows_fail a.components.now a.inputs.now a.outputs.now a.counts
          (every_fails (row c.before.before.before.before.before.before.before.before.before.before.before.before) l.i a.counts.components _ c.loop-i-test.true
          (ap (λ (b : Bool). b && holds_at a.components.now a.inputs.now a.outputs.now l.i) (stands c.before.before.before.before.before) ∙ e) l.invariant.5),
      λ q. absurd (true≢false (sym q)),
    )

pub id_new-requires : goal.id_new-requires
id_new-requires c =
    let l = c.loop-i in (
      omega (arith, c.requires.3, c.loop-i-test.true),
      stands_id c.args.components.now c.args.counts l.i (stands c.before.before.before.before.before.before),
      l.invariant.6,
    )

pub returns-then-not-id_new : goal.returns-then-not-id_new
returns-then-not-id_new c =
    let a = c.args in
    let l = c.loop-i in (
      rows_again a.components.now a.inputs.now a.outputs.now a.counts l.i c.loop-i-test.true
          (not-false _ (sym c.id_new.ensures.0 ∙ c.if-not-id_new.true)),
      λ q. absurd (true≢false (sym q)),
    )

pub next_after-next-requires : goal.next_after-next-requires
next_after-next-requires c =
    let l = c.loop-i in (
      omega (arith, c.requires.3, c.loop-i-test.true),
      obeyed c.before.before.before.before.before.before.before.before,
      omega (arith, l.invariant.3, c.requires.1),
      omega (arith, l.invariant.4, c.requires.2),
    )

pub loop-i-preserved : goal.loop-i-preserved
loop-i-preserved c =
    let a = c.args in
    let l = c.loop-i in
    let b = c.loop-i-test.true in
    let r = c.next_after-next.ensures in
    let new : c.id_new.result ≡ true = c.if-not-id_new.false in
    let w = stands_within a.components.now a.counts l.i (stands c.before.before.before.before.before.before.before.before.before) in (
      omega (arith, b),
      r.0 ∙ total_step (λ j. (fields_in a.components.now j).inputs) l.next.input _ l.i l.invariant.1 refl,
      r.1 ∙ total_step (λ j. (fields_in a.components.now j).outputs) l.next.output _ l.i l.invariant.2 refl,
      omega (arith, r.0, l.invariant.1, within_inputs a.components.now a.counts l.i w),
      omega (arith, r.1, l.invariant.2, within_outputs a.components.now a.counts l.i w),
      every_next (row c.before.before.before.before.before.before.before.before.before.before.before.before.before.before.before.before) l.i a.counts.components _ b (right c.before.before.before.before.before) l.invariant.5,
      c.id_new.ensures.1 new,
      distinct_next (id_in a.components.now) l.i (not-true _ (sym c.id_new.ensures.0 ∙ new)) l.invariant.7,
      widths_next a.components.now l.i l.entering l.leaving _ _ (omega (arith, c.requires.0, b)) l.invariant.8
          c.row_holds.ensures.1 c.row_holds.ensures.2,
    )

pub returns : goal.returns
returns c =
    let a = c.args in
    let l = c.loop-i in
    let e : l.i ≡ a.counts.components = omega (arith, l.invariant.0, c.loop-i-test.false) in (
      rows_end a.components.now a.inputs.now a.outputs.now a.counts _ _
          (every_end (row c.before.before.before.before.before.before.before.before.before.before) l.i a.counts.components _ (omega (arith, e)) l.invariant.5)
          (subst (λ (k : ℕ). distinct (map (id_in a.components.now) (from 0 k)) ≡ true) e l.invariant.7)
          (l.invariant.1 ∙ ap (input_sum (uncounted a.components.now [])) e)
          (l.invariant.2 ∙ ap (output_sum (uncounted a.components.now [])) e),
      λ q. subst (λ (k : ℕ). Widths a.components.now k l.entering l.leaving) e l.invariant.8,
    )
