-- `lay_target`: the two words are stored one behind the other.
-- Assumes nothing.
use mathlib.Core.Path.{ap}
use Prim.Native.Nat.{ℕ, ◌*◌}
use native.Mathlib.Numerals.{add-one}
use native.Mathlib.Omega.{arith}
use lib.ListN.{length-set, set}
use Rattle.flatten.proofs.targets.lay_target.Goals as goal

pub bounds-targets-at-2 : goal.bounds-targets-at-2
bounds-targets-at-2 c = simp length-set (omega arith)

pub returns : goal.returns
returns c =
    let a = c.args in
    ap (λ (i : ℕ). set (set a.targets.now (2 * a.k) a.target.comp) i a.target.port) (add-one (2 * a.k))
