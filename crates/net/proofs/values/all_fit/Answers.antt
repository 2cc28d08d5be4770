-- `all_fit`: the values still to come fit exactly if all do.
-- Assumes nothing.
use mathlib.Core.List.{List}
use mathlib.Core.Path.{◌≡◌, sym, ap, ◌∙◌}
use Prim.Native.Nat.{ℕ, ◌+◌}
use native.Mathlib.Omega.{arith}
use borrow.Author.Tests.{not-true, not-false}
use lib.ListN.{length}
use lib.Seq.{slice, take_all}
use Rattle.std.proofs.lemmas.Slice.{between_is}
use Rattle.std.specs.List.{between}
use Rattle.lists.specs.Lists.{every}
use Rattle.value.specs.declared.Fit.{Fit}
use Rattle.net.proofs.LoopsLaws.{every_slice-fails, every_slice-next, every_slice-end}
use Rattle.net.proofs.values.all_fit.Goals as goal
use Rattle.net.proofs.values.all_fit.Invariants.{fits_bits}

-- The part of the table that is gone through.
part : (s n : ℕ) (t : List ℕ) → between s (s + n) t ≡ slice s (s + n) t
part s n t = between_is t s (s + n)

pub loop-number-init : goal.loop-number-init
loop-number-init c =
    let a = c.args in
    let xs = between a.start (a.start + a.count) a.ports.now in
    ap (every (fits_bits a.width)) (take_all (length xs) xs (omega arith))

pub returns-then-not-fits : goal.returns-then-not-fits
returns-then-not-fits c =
    let a = c.args in
    let l = c.loop-number in
    let xs = between a.start (a.start + a.count) a.ports.now in
    every_slice-fails (fits_bits a.width) xs l.number-index (length xs) _ (omega arith) l.invariant c.loop-number-test.true
    (sym (ap (λ (f : Fit). f.fits) c.fits.ensures) ∙ not-true _ c.if-not-fits.true)
    ∙ ap (every (fits_bits a.width)) (part a.start a.count a.ports.now)

pub loop-number-preserved : goal.loop-number-preserved
loop-number-preserved c =
    let a = c.args in
    let l = c.loop-number in
    let xs = between a.start (a.start + a.count) a.ports.now in
    every_slice-next (fits_bits a.width) xs l.number-index (length xs) _ (omega arith) l.invariant c.loop-number-test.true
    (sym (ap (λ (f : Fit). f.fits) c.fits.ensures) ∙ not-false _ c.if-not-fits.false)

pub returns : goal.returns
returns c =
    let a = c.args in
    let l = c.loop-number in
    let xs = between a.start (a.start + a.count) a.ports.now in
    every_slice-end (fits_bits a.width) xs l.number-index (length xs) _ (omega arith) l.invariant (omega arith)
    ∙ ap (every (fits_bits a.width)) (part a.start a.count a.ports.now)
