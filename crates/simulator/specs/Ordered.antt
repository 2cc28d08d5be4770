-- A round that is handed an order of all wires, as a call. docs/SPECIFICATION.md, "Rounds" (orders) and "Numbers given back".
--   wires_by T order                the wires in that order
--   ordered_number, ordered_tables   the number given back, and the tables afterwards
--   RoundsOrdered                  the promise of `round_ordered`
-- Assumes nothing.
use Rattle.std.specs.Prelude.{◌≡◌, ℕ, cond, not, ◌||◌, List, [], ◌∷◌, map, length, ltb}
use Rattle.lists.specs.Lists.{overlay, refusal, ◌if◌}
use Rattle.kinds.specs.Given.{giving}
use Rattle.tables.specs.declared.Wire.{Wire}
use Rattle.tables.specs.Tables.{Tables, wire_at, answer_gives, Changes}
use Rattle.net.specs.Net.{on_net}
use Rattle.rounds.specs.Round.{order_list, is_order, bits_by, round_by}
use Rattle.simulator.specs.Calls.{after}
use Rattle.std.specs.Prelude.{Result}
use Rattle.tables.specs.declared.Counts.{Counts}
use Rattle.kinds.specs.declared.answers.Refusal.{Refusal}

module _ (T : Tables) (order : List ℕ) where
  -- "an order of all wires, which each component's wires follow"
  abbrev pub wires_by : List Wire
  wires_by = map (wire_at T) (order_list T.counts.wires order)

  module _ (bits : List ℕ) where
    -- "24, an order that is not each wire once, after 16; 2 for an order table shorter than 1,024", and for bits shorter than 256.
    unfoldable pub ordered_number : ℕ
    ordered_number =
        cond (ltb (length order) 1024 || ltb (length bits) 256) 2
        (on_net T (refusal ((24 if not (is_order T.counts.wires order)) ∷ [])))

    -- The tables after such a round at time t, and the table of bits.
    unfoldable pub ordered_tables : ℕ → Tables
    ordered_tables t = after ordered_number (round_by wires_by t T) T

    unfoldable pub ordered_moved : ℕ → List ℕ
    ordered_moved t = after ordered_number (overlay (bits_by wires_by t T) bits) bits

-- The promise of `round_ordered`: its answer r, and the tables and the table of bits that it leaves.
abbrev pub RoundsOrdered : ℕ → List ℕ → List ℕ → Tables → Result Counts Refusal → Tables → List ℕ → Type 0
RoundsOrdered t order bits before r left moved =
    Changes answer_gives (giving (ordered_number before order bits)) (ordered_tables before order bits t) r left
    × (moved ≡ ordered_moved before order bits t)
