-- Edits keep a net a net, as rounds do. docs/SPECIFICATION.md, "Rounds" and "Numbers given back".
-- First an edit that is made, then the call as its contract describes it, a refused one too.
-- Assumes nothing.
use mathlib.Core.Path.{◌≡◌, sym}
use mathlib.Core.Bool.{true}
use Prim.Native.Nat.{ℕ}
use Rattle.tables.specs.Tables.{Tables, full_size}
use Rattle.net.specs.Net.{is_net, net_number}
use Rattle.net.proofs.NetLaws.{net_number-full, net_number-is_net, net_number-0}
use Rattle.rounds.specs.Round.{state_of, leave}
use Rattle.simulator.specs.Edit.{Way, edited_state}
use Rattle.simulator.specs.Calls.{edit_number, edit_tables}
use Rattle.simulator.proofs.EditsLaws.{edit_is_net, edit_there}
use Rattle.rounds.proofs.Sound.{is_net-wiring}
use Rattle.rounds.proofs.Held.{Held}
use Rattle.simulator.proofs.Kept.{by_number}
use Rattle.quiet.proofs.Edited.{edit_number-editable, edited_held}
use Rattle.tables.proofs.SameLaws.{SameWiring, same_wiring-none}
use Rattle.rounds.proofs.Left.{leave_wiring, is_net-held, full_size-kept, is_net-kept}

-- An edit that is not refused: the tables are a net, and it leaves a net of full size.
module _ (way : Way) (T : Tables) (i v : ℕ) (e : edit_number T i v ≡ 0) where
  full : full_size T ≡ true
  full = net_number-full T (edit_is_net T i v e)

  net : is_net T ≡ true
  net = net_number-is_net T (edit_is_net T i v e)

  edited_leaves : Held T (edited_state T way i v (state_of T))
  edited_leaves =
      edited_held T (is_net-wiring T full net) i v (edit_there T i v e) (state_of T) (is_net-held T full net) way
      (edit_number-editable T i v e)

  edited_net : net_number (leave T (edited_state T way i v (state_of T))) ≡ 0
  edited_net =
      sym (net_number-0 (leave T (edited_state T way i v (state_of T)))
      (full_size-kept T full net (edited_state T way i v (state_of T)) edited_leaves)
      (is_net-kept T full net (edited_state T way i v (state_of T)) edited_leaves))

-- The tables after an edit that is not refused.
pub edit_tables-done : (way : Way) (T : Tables) (i v : ℕ) → edit_number T i v ≡ 0
    → edit_tables way T i v ≡ leave T (edited_state T way i v (state_of T))
unfolding edit_tables
edit_tables-done way T i v e = rw e

-- Any edit, refused or not, of any tables leaves components and wires as they were, and their counts.
pub edit_tables-wiring : (way : Way) (T : Tables) (i v : ℕ) → SameWiring T (edit_tables way T i v)
unfolding edit_tables
edit_tables-wiring way T i v =
    by_number (SameWiring T) (edit_number T i v) (leave T (edited_state T way i v (state_of T))) T
    (λ e. leave_wiring T (edited_state T way i v (state_of T)))
    (same_wiring-none T)

-- An edit of a net, refused or not, leaves a net.
pub edit_tables-net : (way : Way) (T : Tables) (i v : ℕ) → net_number T ≡ 0 → net_number (edit_tables way T i v) ≡ 0
unfolding edit_tables
edit_tables-net way T i v e =
    by_number (λ (U : Tables). net_number U ≡ 0) (edit_number T i v) (leave T (edited_state T way i v (state_of T))) T
    (edited_net way T i v) e
