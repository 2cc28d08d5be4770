-- Rounds keep a net a net. docs/SPECIFICATION.md, "Rounds" and "Numbers given back".
-- First a round with its wires in any order, then the call, a refused one too.
-- Assumes nothing.
use mathlib.Core.Path.{◌≡◌, refl, sym, ap, ◌∙◌}
use mathlib.Core.Bool.{Bool, true, false, cond}
use mathlib.Core.List.{List}
use Prim.Native.Nat.{ℕ}
use borrow.Author.Tests.{eqb-true}
use lib.Dec.{eqb}
use Rattle.tables.specs.declared.Wire.{Wire}
use Rattle.tables.specs.Tables.{Tables, full_size, wires_in}
use Rattle.net.specs.Net.{is_net, net_number}
use Rattle.net.proofs.NetLaws.{net_number-full, net_number-is_net, net_number-0}
use Rattle.rounds.specs.Round.{state_of, leave, wires_from, round, round_by, round_of}
use Rattle.simulator.specs.Calls.{after, round_tables}
use Rattle.rounds.proofs.Sound.{Sound, is_net-wiring}
use Rattle.rounds.proofs.Held.{Held, Order, stored_order, round_held}
use Rattle.tables.proofs.SameLaws.{SameWiring, same_wiring-none}
use Rattle.rounds.proofs.Left.{leave_wiring, is_net-held, full_size-kept, is_net-kept}

-- On a net of full size.
module _ (T : Tables) (full : full_size T ≡ true) (net : is_net T ≡ true) where
  sound : Sound T
  sound = is_net-wiring T full net

  -- A round that takes the wires in any order leaves a net of full size.
  module _ (ws : List Wire) (o : Order T ws) (t : ℕ) where
    pub round_leaves : Held T (round T (wires_from ws) t (state_of T))
    round_leaves = round_held T sound ws o t (state_of T) (is_net-held T full net)

    pub round-is_net : is_net (leave T (round T (wires_from ws) t (state_of T))) ≡ true
    round-is_net = is_net-kept T full net (round T (wires_from ws) t (state_of T)) round_leaves

    pub round-full_size : full_size (leave T (round T (wires_from ws) t (state_of T))) ≡ true
    round-full_size = full_size-kept T full net (round T (wires_from ws) t (state_of T)) round_leaves

-- A round of a net, in any order, leaves a net: the next call is given neither 2 nor 16.
pub round_net : (T : Tables) (ws : List Wire) → Order T ws → (t : ℕ) → net_number T ≡ 0 → net_number (round_by ws t T) ≡ 0
round_net T ws o t e =
    let f = net_number-full T e in
    let n = net_number-is_net T e in
    sym (net_number-0 (round_by ws t T) (round-full_size T f n ws o t) (round-is_net T f n ws o t))

-- A call either is not refused, and its tables are the new ones, or it is, and they are the old ones.
pub by_number : (P : Tables → Type 0) (k : ℕ) (new old : Tables) → (k ≡ 0 → P new) → P old → P (after k new old)
by_number P k new old f g = by_test (eqb k 0) refl
  where
    by_test : (b : Bool) → eqb k 0 ≡ b → P (cond b new old)
    by_test true e = f (eqb-true k 0 e)
    by_test false e = g

-- The tables after a round that is not refused.
pub round_tables-done : (T : Tables) (t : ℕ) → net_number T ≡ 0 → round_tables T t ≡ round_of t T
unfolding round_tables
round_tables-done T t e = rw e

-- Any round, refused or not, of any tables leaves components and wires as they were, and their counts.
pub round_tables-wiring : (T : Tables) (t : ℕ) → SameWiring T (round_tables T t)
unfolding round_tables round_of
round_tables-wiring T t =
    by_number (SameWiring T) (net_number T) (round_of t T) T (λ e. leave_wiring T (round T (wires_from (wires_in T)) t (state_of T)))
    (same_wiring-none T)

-- A round in stored order of a net leaves a net.
pub round_tables-net : (T : Tables) (t : ℕ) → net_number T ≡ 0 → net_number (round_tables T t) ≡ 0
unfolding round_of
round_tables-net T t e = ap net_number (round_tables-done T t e) ∙ round_net T (wires_in T) (stored_order T) t e
