-- `row_holds`: widths of a component that obeys the table of kinds fit a byte; the first test that fails decides.
-- Assumes nothing.
use mathlib.Core.Path.{◌≡◌, sym, ap, ◌∙◌}
use mathlib.Core.Bool.{Bool, ◌&&◌}
use native.Mathlib.Omega.{arith}
use lib.ListN.{set}
use Rattle.kinds.specs.Kinds.{input_width, output_width}
use Rattle.tables.specs.Words.{fields_in}
use Rattle.tables.proofs.RowsLaws.{obeyed_fit}
use Rattle.net.specs.Parts.{values_fit_at, held_at}
use Rattle.net.proofs.PassLaws.{input_width-small, output_width-small}
use Rattle.net.proofs.rows.row_holds.Goals as goal
use Rattle.net.proofs.rows.row_holds.Lts as lts
use Rattle.net.proofs.rows.row_holds.Tie as tie
use Rattle.net.proofs.rows.row_holds.Reads as reads

abbrev AfterOutputWidthOutward : Type 0
AfterOutputWidthOutward = lts.After-output_width tie.the-claims reads.Pre reads.Post

abbrev AfterRowFits : Type 0
AfterRowFits = lts.After-row_fits tie.the-claims reads.Pre reads.Post

inward : (c : AfterOutputWidthOutward) →
    c.input_width-inward.result ≡ input_width (fields_in c.args.components.now c.args.i)
inward c =
    c.input_width-inward.ensures ∙ ap input_width c.fields_at-f.ensures

outward : (c : AfterOutputWidthOutward) →
    c.output_width-outward.result ≡ output_width (fields_in c.args.components.now c.args.i)
outward c =
    c.output_width-outward.ensures ∙ ap output_width c.fields_at-f.ensures

-- Whether the values fit.
fit : (c : AfterRowFits) →
    c.row_fits.result ≡ values_fit_at c.args.components.now c.args.inputs.now c.args.outputs.now c.args.i
fit c =
    rw (← inward c.before.before.before, ← outward c.before.before.before) c.row_fits.ensures

pub fields_at-f-requires : goal.fields_at-f-requires
fields_at-f-requires c = (c.requires.0, obeyed_fit _ c.requires.1)

pub overflow_cast-entering : goal.overflow_cast-entering
overflow_cast-entering c =
    omega (arith, inward c.before, input_width-small (fields_in c.args.components.now c.args.i) c.requires.1)

pub bounds-entering-i : goal.bounds-entering-i
bounds-entering-i c = c.requires.2

pub overflow_cast-leaving : goal.overflow_cast-leaving
overflow_cast-leaving c =
    omega (arith, outward c.before.before, output_width-small (fields_in c.args.components.now c.args.i) c.requires.1)

pub bounds-leaving-i : goal.bounds-leaving-i
bounds-leaving-i c = c.requires.2

pub row_fits-requires : goal.row_fits-requires
row_fits-requires c = (c.requires.0, c.requires.3, c.requires.4)

pub returns-then-not-row_fits : goal.returns-then-not-row_fits
returns-then-not-row_fits c =
    let a = c.args in (
      rw (sym (fit c.before.before) ∙ c.if-not-row_fits.true),
      ap (set a.entering.now a.i) (inward c.before.before.before.before.before),
      ap (set a.leaving.now a.i) (outward c.before.before.before.before.before),
    )

pub row_held-requires : goal.row_held-requires
row_held-requires c = (c.requires.0, c.requires.1, c.requires.4)

pub returns : goal.returns
returns c =
    let a = c.args in (
      c.row_held.ensures
          ∙ ap (λ (b : Bool). b && held_at a.components.now a.outputs.now a.i) (sym (sym (fit c.before.before.before) ∙ c.if-not-row_fits.false)),
      ap (set a.entering.now a.i) (inward c.before.before.before.before.before.before),
      ap (set a.leaving.now a.i) (outward c.before.before.before.before.before.before),
    )
