-- `show_side`: the ports passed are shown.
-- Assumes nothing.
use mathlib.Core.Path.{◌≡◌, refl, ap, ◌∙◌}
use Prim.Native.Nat.{ℕ}
use native.Mathlib.Omega.{arith}
use mathlib.Core.List.{map}
use lib.ListN.{length-set}
use lib.Seq.{sets}
use Rattle.lists.specs.Lists.{from}
use Rattle.value.specs.declared.Value.{Value}
use Rattle.component.specs.Record.{record_at, record_count}
use Rattle.boxes.specs.Boxes.{ports_on}
use Rattle.look.specs.Looking.{ported, value_shown}
use Rattle.look.proofs.ShowLaws.{shown_step}
use Rattle.look.proofs.showing.show_side.Goals as goal

pub loop-i-init : goal.loop-i-init
loop-i-init c = (omega arith, refl, refl, refl, refl)

pub value_shown-value-requires : goal.value_shown-value-requires
value_shown-value-requires c =
    record {
      ready = c.requires.ready;
      rows_held = c.requires.rows_held;
      i_bound = (omega (arith, c.requires.count_value.0, c.loop-i-test.true), c.requires.count_value.1);
    }

pub overflow_add-k : goal.overflow_add-k
overflow_add-k c = omega arith

pub offset_bounds-numbers-k : goal.offset_bounds-numbers-k
offset_bounds-numbers-k c = omega arith

pub bounds-numbers-k : goal.bounds-numbers-k
bounds-numbers-k c = omega arith

pub offset_bounds-widths-k : goal.offset_bounds-widths-k
offset_bounds-widths-k c = omega arith

pub bounds-widths-k : goal.bounds-widths-k
bounds-widths-k c = omega arith

pub loop-i-preserved : goal.loop-i-preserved
loop-i-preserved c =
    let l = c.loop-i in
    let a = c.args in
    let shows = value_shown (record_at a.file.now) (record_count a.file.now) (ported a.components.now a.inputs.now a.outputs.now) a.side a.c in (
      omega arith,
      simp length-set l.invariant.1,
      simp length-set l.invariant.2,
      shown_step (λ (v : Value). v.number) shows a.numbers.now l.numbers a.at l.i _ l.invariant.3 c.value_shown-value.ensures,
      shown_step (λ (v : Value). v.width) shows a.widths.now l.widths a.at l.i _ l.invariant.4 c.value_shown-value.ensures,
    )

pub shape_of-numbers : goal.shape_of-numbers
shape_of-numbers c = omega arith

pub shape_of-widths : goal.shape_of-widths
shape_of-widths c = omega arith

pub returns : goal.returns
returns c =
    let l = c.loop-i in
    let a = c.args in
    let all : l.i ≡ ports_on a.side (record_at a.file.now a.c) = omega (arith, c.requires.count_value.0) in
    let shows = value_shown (record_at a.file.now) (record_count a.file.now) (ported a.components.now a.inputs.now a.outputs.now) a.side a.c in record {
      numbers_after = l.invariant.3 ∙ ap (λ (j : ℕ). sets a.numbers.now a.at (map (λ (v : Value). v.number) (map shows (from 0 j)))) all;
      widths_after = l.invariant.4 ∙ ap (λ (j : ℕ). sets a.widths.now a.at (map (λ (v : Value). v.width) (map shows (from 0 j)))) all;
    }
