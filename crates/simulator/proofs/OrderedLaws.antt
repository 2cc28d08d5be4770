-- Rounds in an order as calls: what the number says, the answer and the tables of a refused call and of one that is made; an order of all wires is one
-- in the sense of what rounds keep; and a round in an order keeps a net a net.
-- Assumes nothing.
use mathlib.Core.Path.{◌≡◌, refl, sym, ap, ◌∙◌, subst}
use mathlib.Core.Bool.{Bool, true, false, cond, not, ◌||◌}
use mathlib.Core.List.{List, [], ◌∷◌}
use Prim.Native.Nat.{ℕ, ◌≤◌}
use native.Mathlib.Omega.{arith}
use borrow.Author.Tests.{eqb-true, eqb-false, eq-eqb, ne_eqb, ltb-false}
use lib.ListN.{length}
use lib.Seq.{length-take-le}
use lib.Dec.{eqb, ltb}
use Rattle.lists.specs.Lists.{from, overlay, refusal, ◌if◌}
use Rattle.lists.proofs.TestsLaws.{or_left, or_right}
use Rattle.lists.proofs.MembersLaws.{In, map_sound, map_complete, from0_sound}
use Rattle.lists.proofs.NamesLaws.{Names, names_sound, names_all}
use Rattle.kinds.specs.declared.answers.Refusal.{Refusal}
use Rattle.kinds.specs.Given.{Verdict, refusing}
use Rattle.kinds.proofs.GivenLaws.{refusing_err}
use Rattle.tables.specs.declared.Wire.{Wire}
use Rattle.tables.specs.declared.Counts.{Counts}
use Rattle.tables.specs.Tables.{Tables, wire_at, wires_in}
use Rattle.tables.proofs.SameLaws.{SameWiring, same_wiring-none}
use Rattle.net.specs.Net.{net_number, Checks}
use Rattle.net.proofs.NetLaws.{passed_net}
use Rattle.rounds.specs.Round.{state_of, wires_from, order_list, is_order, round, bits_by, round_by}
use Rattle.rounds.proofs.Sound.{net_within, wire_in_lem}
use Rattle.rounds.proofs.Held.{Order}
use Rattle.rounds.proofs.Left.{leave_wiring}
use Rattle.simulator.specs.Ordered.{wires_by, ordered_number, ordered_tables, ordered_moved, RoundsOrdered}
use Rattle.simulator.proofs.CallsLaws.{counted}
use Rattle.simulator.proofs.Kept.{by_number, round_net}
use Rattle.std.specs.Prelude.{Ok, Err}

-- The checks, one after the other: where none refuses.
checked : (short : Bool) (k : ℕ) (each : Bool) → cond short 2 (cond (eqb k 0) (refusal ((24 if not each) ∷ [])) k) ≡ 0
    → (short ≡ false) × (k ≡ 0) × (each ≡ true)
checked true k each e = absurd (omega (arith, e))
checked false k each e = by_net (eqb k 0) refl each e
  where
    by_net : (b : Bool) → eqb k 0 ≡ b → (o : Bool) → cond b (refusal ((24 if not o) ∷ [])) k ≡ 0 → (false ≡ false) × (k ≡ 0) × (o ≡ true)
    by_net true q true z = (refl, eqb-true k 0 q, refl)
    by_net true q false z = absurd (omega (arith, z))
    by_net false q o z = absurd (eqb-false k 0 q z)

module _ (T : Tables) (order bits : List ℕ) where
  -- The number that was given back, check by check.
  pub ordered_short : (ltb (length order) 1024 || ltb (length bits) 256) ≡ true → 2 ≡ ordered_number T order bits
  unfolding ordered_number
  ordered_short h = rw h

  module _ (room : (ltb (length order) 1024 || ltb (length bits) 256) ≡ false) (v : Verdict) (said : Checks T v) where
    pub ordered_unnet : (r : Refusal) → v ≡ Err r → ◌≡◌ {A = Verdict} (Err r) (refusing (ordered_number T order bits))
    unfolding ordered_number
    ordered_unnet r e =
        let p = refusing_err (net_number T) v r said e in
        sym e ∙ said ∙ ap refusing (rw (room, ne_eqb (net_number T) 0 p.0) refl)

    module _ (passed : v ≡ Ok tt) (b : Bool) (each : b ≡ is_order T.counts.wires order) where
      pub ordered_repeats : not b ≡ true → 24 ≡ ordered_number T order bits
      unfolding ordered_number
      ordered_repeats e = rw (room, eq-eqb (net_number T) 0 (passed_net T v said passed), sym each, e)

      pub ordered_passed : not b ≡ false → 0 ≡ ordered_number T order bits
      unfolding ordered_number
      ordered_passed e = rw (room, eq-eqb (net_number T) 0 (passed_net T v said passed), sym each, e)

  pub order_room : (ltb (length order) 1024 || ltb (length bits) 256) ≡ false → (1024 ≤ length order) × (256 ≤ length bits)
  order_room e = (
    ltb-false (length order) 1024 (or_left (ltb (length order) 1024) (ltb (length bits) 256) e),
    ltb-false (length bits) 256 (or_right (ltb (length order) 1024) (ltb (length bits) 256) e),
  )

  -- A call that is refused changes no table.
  pub ordered_refused : (t : ℕ) (v : Verdict) (r : Refusal) → v ≡ refusing (ordered_number T order bits) → v ≡ Err r
      → RoundsOrdered t order bits T (Err r) T bits
  unfolding ordered_tables ordered_moved
  ordered_refused t v r said e =
      let p = refusing_err (ordered_number T order bits) v r said e in
      rw (p.1, ne_eqb (ordered_number T order bits) 0 p.0) ((refl, refl), refl)

  -- One that is made: the tables are a net, and the order is each wire once.
  module _ (none : ordered_number T order bits ≡ 0) where
    made : ((ltb (length order) 1024 || ltb (length bits) 256) ≡ false) × (net_number T ≡ 0) × (is_order T.counts.wires order ≡ true)
    unfolding ordered_number
    made =
        checked (ltb (length order) 1024 || ltb (length bits) 256) (net_number T) (is_order T.counts.wires order) none

    pub made_room : (1024 ≤ length order) × (256 ≤ length bits)
    made_room = order_room made.0

    pub made_net : net_number T ≡ 0
    made_net = made.1

    pub made_each : is_order T.counts.wires order ≡ true
    made_each = made.2

    pub made_long : T.counts.wires ≤ length order
    made_long = omega (arith, made_room.0, (net_within T made_net).wires)

    pub ordered_made : (t : ℕ) (U : Tables) (r : Counts) (moved : List ℕ) → counted U r ≡ round_by (wires_by T order) t T
        → moved ≡ overlay (bits_by (wires_by T order) t T) bits → RoundsOrdered t order bits T (Ok r) (counted U r) moved
    unfolding ordered_tables ordered_moved
    ordered_made t U r moved so over = rw (eq-eqb (ordered_number T order bits) 0 none) ((refl, so), over)

    order_names : Names T.counts.wires (order_list T.counts.wires order)
    unfolding is_order
    order_names = names_sound T.counts.wires (order_list T.counts.wires order) made_each

    -- It names each wire.
    pub order_order : Order T (wires_by T order)
    order_order =
        record {
          only = λ w m.
              let r = map_sound (wire_at T) w (order_list T.counts.wires order) m in
              subst (λ (x : Wire). In x (wires_in T)) (sym r.2) (wire_in_lem T r.0 (order_names.exist r.0 r.1));
          all = λ w m.
              let r = map_sound (wire_at T) w (from 0 T.counts.wires) m in
              subst (λ (x : Wire). In x (wires_by T order)) (sym r.2)
              (map_complete (wire_at T) r.0 (order_list T.counts.wires order)
              (names_all T.counts.wires (order_list T.counts.wires order) order_names (length-take-le T.counts.wires order made_long)
              r.0 (from0_sound T.counts.wires r.0 r.1)));
        }

-- The tables after it: of a call that is not refused; and of any call the wiring, and of a net a net.
module _ (T : Tables) (order bits : List ℕ) (t : ℕ) where
  pub ordered_tables-done : ordered_number T order bits ≡ 0 → ordered_tables T order bits t ≡ round_by (wires_by T order) t T
  unfolding ordered_tables
  ordered_tables-done e = rw e

  pub ordered_tables-wiring : SameWiring T (ordered_tables T order bits t)
  unfolding ordered_tables
  ordered_tables-wiring =
      by_number (SameWiring T) (ordered_number T order bits) (round_by (wires_by T order) t T) T
      (λ e. leave_wiring T (round T (wires_from (wires_by T order)) t (state_of T))) (same_wiring-none T)

  pub ordered_tables-net : net_number T ≡ 0 → net_number (ordered_tables T order bits t) ≡ 0
  unfolding ordered_tables
  ordered_tables-net z =
      by_number (λ (U : Tables). net_number U ≡ 0) (ordered_number T order bits) (round_by (wires_by T order) t T) T
      (λ e. round_net T (wires_by T order) (order_order T order bits e) t z) z
