-- `show`: inputs first, then outputs behind them.
-- Assumes nothing.
use mathlib.Core.Path.{ap}
use Rattle.value.specs.declared.Value.{Value}
use Rattle.kinds.specs.declared.table.Fields.{Fields}
use Rattle.look.proofs.ShowLaws.{first_room, second_room, both_shown}
use Rattle.look.proofs.showing.show.Goals as goal
use Rattle.look.specs.declared.Looked.{Looked}

-- What a component of these fields shows.
abbrev looked : Fields → Looked
looked f = record { inputs = f.inputs; outputs = f.outputs }

pub show_side-requires : goal.show_side-requires
show_side-requires c =
    let a = c.args in
    let fields = c.fields_at-fields.ensures in
    let flats = c.index_flat.ensures in record {
      ready = record { accepted = c.requires.file_value.0; indexed = c.requires.file_value.1; indexes = flats };
      rows_held = c.requires.rows_held;
      count_value = (ap (λ (f : Fields). f.inputs) fields, c.requires.c_value);
      count_in_bounds = (
        first_room a.file.now a.components.now a.inputs.now a.outputs.now c.requires.file_value.0 a.c _ (ap (λ (f : Fields). f.inputs) fields) (λ (v : Value). v.number) a.numbers.now c.requires.file_value.2,
        first_room a.file.now a.components.now a.inputs.now a.outputs.now c.requires.file_value.0 a.c _ (ap (λ (f : Fields). f.inputs) fields) (λ (v : Value). v.width) a.widths.now c.requires.file_value.3,
      );
    }

pub show_side-requires-2 : goal.show_side-requires-2
show_side-requires-2 c =
    let a = c.args in
    let fields = c.fields_at-fields.ensures in
    let flats = c.index_flat.ensures in record {
      ready = record { accepted = c.requires.file_value.0; indexed = c.requires.file_value.1; indexes = flats };
      rows_held = c.requires.rows_held;
      count_value = (ap (λ (f : Fields). f.outputs) fields, c.requires.c_value);
      count_in_bounds = (
        second_room a.file.now a.components.now a.inputs.now a.outputs.now c.requires.file_value.0 a.c _ (ap (λ (f : Fields). f.inputs) fields) (λ (v : Value). v.number) a.numbers.now _ c.requires.file_value.2 c.show_side.ensures.numbers_after _ (ap (λ (f : Fields). f.outputs) fields),
        second_room a.file.now a.components.now a.inputs.now a.outputs.now c.requires.file_value.0 a.c _ (ap (λ (f : Fields). f.inputs) fields) (λ (v : Value). v.width) a.widths.now _ c.requires.file_value.3 c.show_side.ensures.widths_after _ (ap (λ (f : Fields). f.outputs) fields),
      );
    }

pub returns : goal.returns
returns c =
    let a = c.args in
    let fields = c.fields_at-fields.ensures in
    let first = c.show_side.ensures in
    let second = c.show_side-2.ensures in record {
      value = ap looked fields;
      numbers_after = both_shown a.file.now a.components.now a.inputs.now a.outputs.now c.requires.file_value.0 a.c _ (ap (λ (f : Fields). f.inputs) fields) (λ (v : Value). v.number) a.numbers.now _ c.requires.file_value.2 first.numbers_after _ second.numbers_after;
      widths_after = both_shown a.file.now a.components.now a.inputs.now a.outputs.now c.requires.file_value.0 a.c _ (ap (λ (f : Fields). f.inputs) fields) (λ (v : Value). v.width) a.widths.now _ c.requires.file_value.3 first.widths_after _ second.widths_after;
    }
