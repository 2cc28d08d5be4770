-- `put_number`: the digits that are made are the numeral.
-- Assumes nothing.
use mathlib.Core.Path.{◌≡◌, ap, ◌∙◌}
use Prim.Native.Nat.{ℕ}
use mathlib.Core.List.{List}
use lib.ListN.{length, take}
use Rattle.text.specs.Text.{written, place_after, numeral}
use Rattle.text.proofs.NumeralLaws.{fewest_numeral}
use Rattle.text.proofs.put_number.Goals as goal

pub returns : goal.returns
returns c =
    let a = c.args in
    let d = c.decimal-count in
    let r = c.put_bytes in
    let e : take d.result d.new.out ≡ numeral a.number =
    d.ensures.digits ∙ fewest_numeral d.result a.number d.ensures.len c.ranges.number.fits in
    record {
      value = r.ensures.value ∙ ap (λ (l : List ℕ). place_after a.out.now a.at (length l)) e;
      out_after = r.ensures.out_after ∙ ap (written a.out.now a.at) e;
    }
