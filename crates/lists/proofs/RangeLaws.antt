-- A range of the library is the numbers from its start on, and what `any` finds over it is said in the words of specs/Lists.
-- Assumes nothing.
use mathlib.Core.Path.{◌≡◌, refl, ap}
use mathlib.Core.Bool.{Bool, ◌||◌}
use Prim.Native.Nat.{ℕ, zero, suc}
use native.Mathlib.Numerals.{add-one}
use Rattle.std.specs.List.{list_any, range_with_len}
use Rattle.lists.specs.Lists.{from, any}

-- Whether one position of a range passes.
pub any_range : (f : ℕ → Bool) (q n : ℕ) → list_any f (range_with_len q n) ≡ any f (from q n)
any_range f q zero = refl
any_range f q (suc n) = rw (add-one q) (ap (λ (b : Bool). f q || b) (any_range f (suc q) n))
