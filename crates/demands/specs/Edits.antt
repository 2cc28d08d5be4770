-- When an edited component is evaluated. docs/SPECIFICATION.md, "Rounds" (edits). A round evaluates what its current list names.
--   AnyEdits T U   any edits, of either way, refused ones too, lead from the tables T to U
--   AnyRound T U   a round, in stored order or in an order that it is handed and that is one, leads from T to U
--   EditNext       an edit that goes first: in the very next round
--   EditThird      an edit of the old way: no later than the third round after
-- Assumes nothing.
use Rattle.std.specs.Prelude.{◌≡◌, ℕ, true, ◌||◌, List}
use Rattle.lists.specs.Lists.{has}
use Rattle.tables.specs.Tables.{Tables, current_list}
use Rattle.simulator.specs.Edit.{Way, goes_first, stands}
use Rattle.simulator.specs.Calls.{round_tables, edit_number, edit_tables}
use Rattle.simulator.specs.Ordered.{ordered_number, ordered_tables}

pub data AnyEdits (T : Tables) : Tables → Type 0 where
  none : AnyEdits T T
  more : {U : Tables} (way : Way) (i v : ℕ) → AnyEdits T U → AnyEdits T (edit_tables way U i v)

pub data AnyRound (T : Tables) : Tables → Type 0 where
  stored : (t : ℕ) → AnyRound T (round_tables T t)
  ordered : (t : ℕ) (order bits : List ℕ) → ordered_number T order bits ≡ 0 → AnyRound T (ordered_tables T order bits t)

-- "it is evaluated in the very next round": with U the tables on which that round is called, any edits before it, its current list names the component.
abbrev pub EditNext : Type 0
EditNext =
    (T U : Tables) (i v : ℕ) → edit_number T i v ≡ 0 → AnyEdits (edit_tables goes_first T i v) U → has i (current_list U) ≡ true

-- With U₁, U₂ and U₃ the tables on which the next three rounds are called, V₁ and V₂ those after the first two, and any edits before each, the current list
-- of one of them names the component.
abbrev pub EditThird : Type 0
EditThird =
    (T U₁ V₁ U₂ V₂ U₃ : Tables) (i v : ℕ) → edit_number T i v ≡ 0 → AnyEdits (edit_tables stands T i v) U₁
    → AnyRound U₁ V₁ → AnyEdits V₁ U₂ → AnyRound U₂ V₂ → AnyEdits V₂ U₃
    → (has i (current_list U₁) || has i (current_list U₂) || has i (current_list U₃)) ≡ true
