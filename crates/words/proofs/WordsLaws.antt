-- No words laid at the front leave a list as it was.
-- Assumes nothing.
use mathlib.Core.Path.{◌≡◌, refl}
use mathlib.Core.List.{List, []}
use Prim.Native.Nat.{ℕ}
use Rattle.lists.specs.Lists.{overlay}

pub none_laid : (ws : List ℕ) → ws ≡ overlay [] ws
unfolding overlay
none_laid ws = refl
