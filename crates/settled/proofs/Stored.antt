-- A round that is handed the stored order is a round: that order names each wire once, so only what refuses a round refuses it, and the wires are the same.
-- Assumes nothing.
use mathlib.Core.Path.{◌≡◌, refl, sym, ap, ◌∙◌}
use mathlib.Core.Bool.{Bool, true, false, cond, ◌&&◌}
use mathlib.Core.List.{List, map}
use Prim.Native.Nat.{ℕ, ◌≤◌}
use borrow.Author.Tests.{eqb-true, le-ltb}
use lib.ListN.{length}
use lib.Dec.{eqb, ltb}
use Rattle.lists.specs.Lists.{from, every, distinct, overlay}
use Rattle.lists.proofs.MembersLaws.{distinct_from, from0_sound}
use Rattle.lists.proofs.NamesLaws.{names_complete}
use Rattle.tables.specs.Tables.{Tables, wire_at, wires_in}
use Rattle.net.specs.Net.{net_number}
use Rattle.rounds.specs.Round.{order_list, is_order, round_bits, bits_by, round_of, round_by}
use Rattle.simulator.specs.Calls.{after, round_number, round_tables, round_call, round_moved}
use Rattle.simulator.specs.Ordered.{wires_by, ordered_number, ordered_tables, ordered_moved}
use Rattle.settled.specs.Settled.{OrderStored}

-- A number, or 0 where it is 0.
after_itself : (k : ℕ) → after k 0 k ≡ k
after_itself k = by_test (eqb k 0) refl
  where
    by_test : (b : Bool) → eqb k 0 ≡ b → cond b 0 k ≡ k
    by_test true e = sym (eqb-true k 0 e)
    by_test false e = refl

module _ (T : Tables) (order bits : List ℕ) (t : ℕ) (room : 1024 ≤ length order)
    (stored : order_list T.counts.wires order ≡ from 0 T.counts.wires) where
  stored_each : is_order T.counts.wires order ≡ true
  unfolding is_order
  stored_each =
      let m = T.counts.wires in
      ap (λ (l : List ℕ). every (λ k. ltb k m) l && distinct l) stored
      ∙ names_complete m (from 0 m) (record { exist = λ k h. from0_sound m k h; once = distinct_from 0 m })

  stored_wires : wires_by T order ≡ wires_in T
  stored_wires = ap (map (wire_at T)) stored

  stored_number : ordered_number T order bits ≡ round_number T bits
  unfolding ordered_number
  stored_number = rw (le-ltb (length order) 1024 room, stored_each) (ap (cond (ltb (length bits) 256) 2) (after_itself (net_number T)))

  -- What a call leaves.
  stored_tables : ordered_tables T order bits t ≡ round_call T bits t
  unfolding ordered_tables round_tables round_of
  stored_tables =
      (λ i. after (stored_number i) (round_by (stored_wires i) t T) T) ∙ by_room (ltb (length bits) 256)
    where
      by_room : (b : Bool) → after (cond b 2 (net_number T)) (round_by (wires_in T) t T) T ≡ cond b T (after (net_number T) (round_by (wires_in T) t T) T)
      by_room true = refl
      by_room false = refl

  stored_moved : ordered_moved T order bits t ≡ round_moved T bits t
  unfolding ordered_moved round_moved round_bits
  stored_moved = λ i. after (stored_number i) (overlay (bits_by (stored_wires i) t T) bits) bits

pub order_stored : OrderStored
order_stored T order bits t room stored = (
  stored_number T order bits t room stored,
  stored_tables T order bits t room stored,
  stored_moved T order bits t room stored,
)
