-- Files in which two records meet: the host's two numbers of each. One proof, by computing the definitions. Assumes nothing.
use mathlib.Core.Path.{◌≡◌, refl}
use Prim.Native.Nat.{ℕ, ◌+◌, ◌*◌}
use mathlib.Core.List.{List, [], ◌∷◌, ◌++◌}
use lib.ListN.{take, drop}
use Rattle.kinds.specs.Given.{spoken, spoken_pair, verdict_gives}
use Rattle.kinds.specs.Kinds.{obeys}
use Rattle.component.specs.Drawing.{deepest}
use Rattle.component.proofs.Drawings.{component_bytes, connection_bytes, input_map_bytes, output_map_bytes, lamp, lamp_twice}
use Rattle.flatten.specs.Descent.{output_below, inputs_below, comes_from, goes_to}
use Rattle.flatten.specs.Verdict.{verdict}
use Rattle.meeting.specs.Meeting.{judgement}

-- The lamp drawing with a second map into the Nor's input 0, as record 11.
abbrev two_maps : List ℕ
two_maps = take 264 lamp ++ input_map_bytes 3 1 0 0 ++ drop 264 lamp

-- A box whose input and whose Switch both enter its Not.
abbrev wire_and_map : List ℕ
wire_and_map =
    component_bytes 0 0 0 0 100 0 ++ component_bytes 0 0 1 1 3 0 ++ component_bytes 3 1 1 1 4 0 ++ component_bytes 7 1 0 1 5 0
    ++ connection_bytes 1 1 0 0 0 ++ input_map_bytes 1 0 0 0 ++ output_map_bytes 1 0 0

-- A box with a Nor of two inputs: a connection enters input 1, two maps input 0, and a third map input 1. Two maps come first in the file.
abbrev maps_first : List ℕ
maps_first =
    component_bytes 0 0 0 0 100 0 ++ component_bytes 0 0 3 1 3 0 ++ component_bytes 5 1 2 1 4 0 ++ component_bytes 7 1 0 1 5 0
    ++ connection_bytes 1 1 0 0 1 ++ input_map_bytes 1 0 0 0 ++ input_map_bytes 1 1 0 0 ++ input_map_bytes 1 2 0 1 ++ output_map_bytes 1 0 0

-- Both of the host's numbers.
abbrev spoken_both : List ℕ → List ℕ
spoken_both file = spoken (verdict_gives (verdict file) []) ∷ spoken_pair (verdict_gives (judgement file) []) ∷ []

-- A number, its position and the earlier record, in the host's second number.
abbrev told : ℕ → ℕ → ℕ → ℕ
told k p q = 4294967296 * k + 65536 * p + q

-- 13 at 9 against 6; 23 at 11 against 9; 22 at 5 against 4; 23 at 6 against 5, and not the 22 at 7 behind it. Any other number names no
-- earlier record: the lamp drawing without its output map is 14 at 3. An accepted file gives 0.
pub met_hold :
    (spoken_both lamp_twice ≡ (65536 * 13 + 9) ∷ told 13 9 6 ∷ [])
    × (spoken_both two_maps ≡ (65536 * 13 + 11) ∷ told 23 11 9 ∷ [])
    × (spoken_both wire_and_map ≡ (65536 * 13 + 5) ∷ told 22 5 4 ∷ [])
    × (spoken_both maps_first ≡ (65536 * 13 + 6) ∷ told 23 6 5 ∷ [])
    × (spoken_both (take 264 lamp) ≡ (65536 * 14 + 3) ∷ told 14 3 0 ∷ [])
    × (spoken_both lamp ≡ 0 ∷ 0 ∷ [])
unfolding verdict judgement deepest obeys output_below inputs_below comes_from goes_to
met_hold = (refl, refl, refl, refl, refl, refl)
