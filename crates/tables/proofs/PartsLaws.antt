-- A test of several parts, a && b && c && ..: it holds exactly if each part does.
--   AllTrue bs     each of these parts holds
-- Assumes nothing.
use mathlib.Core.Path.{◌≡◌}
use mathlib.Core.Bool.{Bool, true, ◌&&◌}
use mathlib.Core.List.{List, [], ◌∷◌, foldl}
use Rattle.lists.proofs.TestsLaws.{and_left, and_right}

abbrev pub AllTrue : List Bool → Type 0
AllTrue [] = Unit
AllTrue (b ∷ bs) = (b ≡ true) × AllTrue bs

-- The parts of the test b && c && .., where bs is c, ...
pub parts_sound : (b : Bool) (bs : List Bool) → foldl ◌&&◌ b bs ≡ true → AllTrue (b ∷ bs)
parts_sound b [] e = (e, tt)
parts_sound b (c ∷ bs) e =
    let r = parts_sound (b && c) bs e in
    (and_left b c r.0, (and_right b c r.0, r.1))

pub parts_complete : (b : Bool) (bs : List Bool) → AllTrue (b ∷ bs) → foldl ◌&&◌ b bs ≡ true
parts_complete b [] h = h.0
parts_complete b (c ∷ bs) h = parts_complete (b && c) bs (rw h.0 h.1.0, h.1.1)
