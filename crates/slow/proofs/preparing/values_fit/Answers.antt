-- `values_fit`: the values of the components still to come fit exactly if those of all do.
-- Assumes nothing.
use mathlib.Core.Path.{◌≡◌, ap, sym, ◌∙◌}
use Prim.Native.Nat.{ℕ}
use native.Mathlib.Omega.{arith}
use native.Mathlib.Nat.{sub-zero}
use Rattle.lists.specs.Lists.{from, every}
use Rattle.lists.proofs.ListsLaws.{every_fails, every_next, every_end}
use Rattle.net.specs.Parts.{values_fit_at}
use Rattle.tables.proofs.RowsLaws.{obeyed_fit}
use Rattle.slow.proofs.preparing.values_fit.Goals as goal
use Rattle.slow.proofs.preparing.values_fit.Lts as lts
use Rattle.slow.proofs.preparing.values_fit.Tie as tie
use Rattle.slow.proofs.preparing.values_fit.Reads as reads

abbrev AfterRowFits : Type 0
AfterRowFits = lts.After-row_fits tie.the-claims reads.Pre reads.Post goal.the-invariant-loop-i goal.the-decreases-loop-i

-- The test at hand is the clause of the component.
here : (c : AfterRowFits) →
    let a = c.args in
    c.row_fits.result ≡ values_fit_at a.components.now a.inputs.now a.outputs.now c.loop-i.i
here c =
    c.row_fits.ensures
    ∙ rw (c.input_width-inward.ensures, c.output_width-outward.ensures, c.fields_at-f.ensures)

pub loop-i-init : goal.loop-i-init
loop-i-init c =
    let a = c.args in
    ap (λ (m : ℕ). every (values_fit_at a.components.now a.inputs.now a.outputs.now) (from 0 m)) (sub-zero a.count)

pub fields_at-f-requires : goal.fields_at-f-requires
fields_at-f-requires c =
    let r = c.requires c.loop-i.i c.loop-i-test.true in
    (r.0, obeyed_fit _ r.1)

pub row_fits-requires : goal.row_fits-requires
row_fits-requires c =
    let r = c.requires c.loop-i.i c.loop-i-test.true in
    (r.0, r.2, r.3)

pub returns-then-not-row_fits : goal.returns-then-not-row_fits
returns-then-not-row_fits c =
    let a = c.args in
    let l = c.loop-i in
    every_fails (values_fit_at a.components.now a.inputs.now a.outputs.now) l.i a.count _ c.loop-i-test.true
    (sym (here c.before.before) ∙ c.if-not-row_fits.true) l.invariant

pub loop-i-preserved : goal.loop-i-preserved
loop-i-preserved c =
    let a = c.args in
    let l = c.loop-i in
    every_next (values_fit_at a.components.now a.inputs.now a.outputs.now) l.i a.count _ c.loop-i-test.true
    (sym (here c.before.before) ∙ c.if-not-row_fits.false) l.invariant

pub returns : goal.returns
returns c =
    let a = c.args in
    let l = c.loop-i in
    every_end (values_fit_at a.components.now a.inputs.now a.outputs.now) l.i a.count _ (omega arith) l.invariant
