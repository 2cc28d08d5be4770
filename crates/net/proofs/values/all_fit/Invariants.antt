-- `all_fit`: the values still to come fit exactly if all do.
-- Assumes nothing.
use mathlib.Core.Path.{◌≡◌}
use mathlib.Core.Bool.{Bool}
use Prim.Native.Nat.{ℕ}
use lib.ListN.{length}
use lib.Seq.{slice}
use Rattle.lists.specs.Lists.{every}
use Rattle.value.specs.Value.{fits, of_width}
use Rattle.net.proofs.values.all_fit.Given as goal

-- A number fits a port of w bits.
abbrev pub fits_bits : ℕ → ℕ → Bool
fits_bits w x = fits (of_width w x)

abbrev pub invariant-loop-number : goal.invariant-loop-number
invariant-loop-number l =
    every (fits_bits l.width) (slice l.number-index (length l.number-items) l.number-items) ≡ every (fits_bits l.width) l.number-items
