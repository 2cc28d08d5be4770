-- The invariant on tables: it holds as a load leaves them, and every call keeps it, refused ones too.
--   Fresh T              a net as a load leaves it: all components current, every Clock standing, following a copy
--   Unbroken T ran t     the invariant; whether a round has run, and the time of the last
-- Assumes nothing.
use mathlib.Core.Path.{◌≡◌, refl, sym, subst}
use mathlib.Core.Bool.{Bool, true, false, cond, ◌||◌, or-true, or-false}
use mathlib.Core.List.{List}
use Prim.Native.Nat.{ℕ, ◌<◌}
use borrow.Author.Tests.{eqb-true}
use lib.Dec.{eqb}
use Rattle.lists.specs.Lists.{from, has}
use Rattle.lists.proofs.MembersLaws.{In, has_sound, from0_complete}
use Rattle.kinds.specs.declared.Kind.TheVariants.{Clock}
use Rattle.kinds.specs.Kinds.{is}
use Rattle.tables.specs.declared.Wire.{Wire}
use Rattle.tables.specs.Tables.{Tables, fields_at, wires_in, current_list, following_list, standing_list}
use Rattle.net.specs.Net.{net_number}
use Rattle.rounds.specs.Round.{State, state_of, leave, wires_from, round, round_by, round_of}
use Rattle.simulator.specs.Edit.{Way, edited_state}
use Rattle.simulator.specs.Calls.{round_tables, edit_number, edit_tables}
use Rattle.simulator.specs.Ordered.{wires_by, ordered_number, ordered_tables}
use Rattle.rounds.proofs.Sound.{net_sound}
use Rattle.rounds.proofs.Held.{Order, stored_order}
use Rattle.quiet.proofs.Edited.{edit_number-editable}
use Rattle.rounds.proofs.Left.{state_of-leave, net_held}
use Rattle.simulator.proofs.EditsLaws.{edit_is_net, edit_there}
use Rattle.simulator.proofs.Kept.{by_number}
use Rattle.simulator.proofs.OrderedLaws.{order_order}
use Rattle.quiet.proofs.Invariant.{Inv, round_inv, start_inv}
use Rattle.quiet.proofs.EditInvariant.{edited_inv}

-- A net as a load leaves it.
pub record Fresh (T : Tables) : Type 0 where
  pub net : net_number T ≡ 0
  pub current : current_list T ≡ from 0 T.counts.components
  pub following : following_list T ≡ standing_list T
  pub clocks : (i : ℕ) → i < T.counts.components → is Clock (fields_at T i) ≡ true → has i (standing_list T) ≡ true

-- The invariant of a net's tables.
abbrev pub Unbroken : Tables → Bool → ℕ → Type 0
Unbroken T ran t = Inv T ran t (state_of T)

-- It speaks of nothing that a state left in the tables changes but that state;
leave_inv : (T : Tables) (ran : Bool) (t : ℕ) (s : State) → Inv T ran t s → Inv (leave T s) ran t s
unfolding leave
leave_inv T ran t s a =
    record {
      wired = a.wired;
      fitted = a.fitted;
      clock_current = a.clock_current;
      clock_following = a.clock_following;
      clock_standing = a.clock_standing;
    }

-- so it is the invariant of the state that was left.
pub leave_unbroken : (T : Tables) (ran : Bool) (t : ℕ) (s : State) → Inv T ran t s → Unbroken (leave T s) ran t
leave_unbroken T ran t s a =
    subst (λ (u : State). Inv (leave T s) ran t u) (sym (state_of-leave T s)) (leave_inv T ran t s a)

-- It holds as a load leaves the tables.
pub fresh_unbroken : (T : Tables) → Fresh T → Unbroken T false 0
fresh_unbroken T f =
    start_inv T 0 (state_of T) (net_sound T f.net)
    (λ i h. subst (λ (l : List ℕ). In i l) (sym f.current) (from0_complete T.counts.components i h))
    (λ i h e. subst (λ (l : List ℕ). In i l) (sym f.following) (has_sound i (standing_list T) (f.clocks i h e)))
    (λ i h e. has_sound i (standing_list T) (f.clocks i h e))

-- A round of a net keeps it, its wires in any order.
pub round_unbroken : (T : Tables) (ws : List Wire) → Order T ws → (ran : Bool) (t u : ℕ) → net_number T ≡ 0
    → Unbroken T ran t
    → Unbroken (leave T (round T (wires_from ws) u (state_of T))) true u
round_unbroken T ws o ran t u e a =
    leave_unbroken T true u (round T (wires_from ws) u (state_of T))
    (round_inv T (net_sound T e) ws o u ran t (state_of T) (net_held T e) a)

-- A round as a call keeps it: refused, it is none that has run.
pub round_tables-unbroken : (T : Tables) (ran : Bool) (t u : ℕ) → Unbroken T ran t
    → Unbroken (round_tables T u) (ran || eqb (net_number T) 0) (cond (eqb (net_number T) 0) u t)
unfolding round_tables round_of
round_tables-unbroken T ran t u a = by_number (eqb (net_number T) 0) refl
  where
    by_number : (b : Bool) → eqb (net_number T) 0 ≡ b → Unbroken (cond b (round_of u T) T) (ran || b) (cond b u t)
    by_number true e =
        subst (λ (r : Bool). Unbroken (round_of u T) r u) (sym (or-true ran))
        (round_unbroken T (wires_in T) (stored_order T) ran t u (eqb-true (net_number T) 0 e) a)
    by_number false e = subst (λ (r : Bool). Unbroken T r t) (sym (or-false ran)) a

-- So does a round in an order.
pub ordered_tables-unbroken : (T : Tables) (order bits : List ℕ) (ran : Bool) (t u : ℕ) → net_number T ≡ 0 → Unbroken T ran t
    → Unbroken (ordered_tables T order bits u) (ran || eqb (ordered_number T order bits) 0) (cond (eqb (ordered_number T order bits) 0) u t)
unfolding ordered_tables
ordered_tables-unbroken T order bits ran t u z a = by_number (eqb (ordered_number T order bits) 0) refl
  where
    by_number : (b : Bool) → eqb (ordered_number T order bits) 0 ≡ b → Unbroken (cond b (round_by (wires_by T order) u T) T) (ran || b) (cond b u t)
    by_number true e =
        subst (λ (r : Bool). Unbroken (round_by (wires_by T order) u T) r u) (sym (or-true ran))
        (round_unbroken T (wires_by T order)
        (order_order T order bits (eqb-true (ordered_number T order bits) 0 e)) ran t u z a)
    by_number false e = subst (λ (r : Bool). Unbroken T r t) (sym (or-false ran)) a

-- An edit as a call keeps it, of either way, refused or not.
pub edit_tables-unbroken : (way : Way) (T : Tables) (ran : Bool) (t i v : ℕ) → Unbroken T ran t → Unbroken (edit_tables way T i v) ran t
unfolding edit_tables
edit_tables-unbroken way T ran t i v a =
    by_number (λ (U : Tables). Unbroken U ran t) (edit_number T i v) (leave T (edited_state T way i v (state_of T))) T done a
  where
    done : edit_number T i v ≡ 0 → Unbroken (leave T (edited_state T way i v (state_of T))) ran t
    done e =
        let z = edit_is_net T i v e in
        leave_unbroken T ran t (edited_state T way i v (state_of T))
        (edited_inv T (net_sound T z) way ran t i v (edit_there T i v e) (state_of T)
        (net_held T z) a (edit_number-editable T i v e))
