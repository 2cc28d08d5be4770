-- `Value::complement`: the test decides which of the definition's two cases holds; a number that fits is at most all ones.
-- Assumes nothing.
use borrow.Author.Tests.{not-true, not-false}
use mathlib.Core.Bool.{true}
use mathlib.Core.Path.{◌≡◌, ◌∙◌, sym, ap}
use native.Mathlib.Omega.{arith}
use Rattle.value.specs.declared.Fit.{Fit}
use Rattle.value.specs.Value.{fits}
use Rattle.value.proofs.ValueLaws.{fits_widest, fits_below}
use Rattle.value.proofs.Value.complement.Goals as goal
use Rattle.value.proofs.Value.complement.Lts as lts
use Rattle.value.proofs.Value.complement.Tie as tie
use Rattle.value.proofs.Value.complement.Reads as reads

abbrev ElseNotFits : Type 0
ElseNotFits = lts.Else1 tie.the-claims reads.Pre reads.Post

-- What is known once the test is passed.
fitting : (c : ElseNotFits) → fits c.args.self ≡ true
fitting c = sym (ap (λ (f : Fit). f.fits) c.fits.ensures) ∙ not-false _ c.if-not-fits.false

-- does not fit: handed back as it came
pub returns-then-not-fits : goal.returns-then-not-fits
returns-then-not-fits c = rw (sym (ap (λ (f : Fit). f.fits) c.fits.ensures) ∙ not-true _ c.if-not-fits.true)

pub all_ones-requires : goal.all_ones-requires
all_ones-requires c = omega (arith, fits_widest c.args.self (fitting c))

pub overflow_sub-result : goal.overflow_sub-result
overflow_sub-result c =
    let v = c.args.self in
    omega (arith, c.all_ones.ensures, fits_below v (fitting c.before.before))

-- fits: flipped
pub returns : goal.returns
returns c = rw (fitting c.before.before, c.all_ones.ensures)
