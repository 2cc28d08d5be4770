-- When an edited component is evaluated: no edit takes a name off a list, so what an edit put there the rounds after it find; what stands is evaluated no
-- later than the third round (crate quiet). Assumes nothing.
use mathlib.Core.Path.{◌≡◌, refl, sym, ap, ◌∙◌, subst}
use mathlib.Core.Logic.{◌⊎◌, inl, inr}
use mathlib.Core.Bool.{true, ◌||◌, or-true}
use mathlib.Core.List.{List}
use Prim.Native.Nat.{ℕ}
use Rattle.lists.specs.Lists.{has}
use Rattle.lists.proofs.MembersLaws.{In, has_complete}
use Rattle.lists.proofs.NamesLaws.{append_new-has}
use Rattle.tables.specs.declared.Wire.{Wire}
use Rattle.tables.specs.Tables.{Tables, wires_in, current_list, following_list, standing_list}
use Rattle.net.specs.Net.{net_number}
use Rattle.rounds.specs.Round.{State, state_of, leave, round_by, round_of}
use Rattle.simulator.specs.Edit.{Way, goes_first, stands, port_set, edited_state}
use Rattle.rounds.proofs.Held.{Order, stored_order}
use Rattle.rounds.proofs.Left.{state_of-leave}
use Rattle.simulator.specs.Calls.{edit_number, edit_tables}
use Rattle.simulator.specs.Ordered.{wires_by, ordered_number}
use Rattle.simulator.proofs.EditsLaws.{edit_is_net, port_set-ports}
use Rattle.simulator.proofs.Kept.{by_number, round_net, round_tables-done}
use Rattle.simulator.proofs.OrderedLaws.{order_order, ordered_tables-done}
use Rattle.quiet.proofs.Appended.{appended_current, appended_following, appended_standing}
use Rattle.quiet.proofs.EditKept.{edit_tables-done, edit_tables-net}
use Rattle.quiet.proofs.Third.{round_by-standing, round_by-following}
use Rattle.demands.specs.Edits.{AnyEdits, none, more, AnyRound, stored, ordered, EditNext, EditThird}

edits_net : (T : Tables) {U : Tables} → net_number T ≡ 0 → AnyEdits T U → net_number U ≡ 0
edits_net T e none = e
edits_net T e (more {U = U} way i v r) = edit_tables-net way U i v (edits_net T e r)

-- What every edit of a state keeps, edits of tables keep, refused ones too.
edits_keep : (P : State → Type 0) → ((way : Way) (T : Tables) (i v : ℕ) → P (state_of T) → P (edited_state T way i v (state_of T)))
    → (T : Tables) {U : Tables} → P (state_of T) → AnyEdits T U → P (state_of U)
unfolding edit_tables
edits_keep P f T p none = p
edits_keep P f T p (more {U = U} way i v r) =
    let q = edits_keep P f T p r in
    by_number (λ (W : Tables). P (state_of W)) (edit_number U i v) (leave U (edited_state U way i v (state_of U))) U
    (λ e. subst P (sym (state_of-leave U (edited_state U way i v (state_of U)))) (f way U i v q)) q

-- So no name is taken off a list.
module _ (x : ℕ) where
  edits_current : (T : Tables) {U : Tables} → In x (current_list T) → AnyEdits T U → In x (current_list U)
  unfolding edited_state
  edits_current = edits_keep (λ (s : State). In x s.current)
      (λ way T i v m. appended_current i x (port_set T i v (state_of T)) way (rw (port_set-ports T i v (state_of T)) m))

  edits_following : (T : Tables) {U : Tables} → In x (following_list T) → AnyEdits T U → In x (following_list U)
  unfolding edited_state
  edits_following = edits_keep (λ (s : State). In x s.following)
      (λ way T i v m. appended_following i x (port_set T i v (state_of T)) way (rw (port_set-ports T i v (state_of T)) m))

  edits_standing : (T : Tables) {U : Tables} → In x (standing_list T) → AnyEdits T U → In x (standing_list U)
  unfolding edited_state
  edits_standing = edits_keep (λ (s : State). In x s.standing)
      (λ way T i v m. appended_standing i x (port_set T i v (state_of T)) way (rw (port_set-ports T i v (state_of T)) m))

-- An edit that is not refused names its component in the list of its way.
module _ (T : Tables) (i v : ℕ) (e : edit_number T i v ≡ 0) where
  edited_state_lem : (way : Way) → state_of (edit_tables way T i v) ≡ edited_state T way i v (state_of T)
  edited_state_lem way = ap state_of (edit_tables-done way T i v e) ∙ state_of-leave T (edited_state T way i v (state_of T))

  first_current : In i (current_list (edit_tables goes_first T i v))
  unfolding edited_state
  first_current = subst (λ (s : State). In i s.current) (sym (edited_state_lem goes_first)) (append_new-has i (port_set T i v (state_of T)).current)

  stands_standing : In i (standing_list (edit_tables stands T i v))
  unfolding edited_state
  stands_standing = subst (λ (s : State). In i s.standing) (sym (edited_state_lem stands)) (append_new-has i (port_set T i v (state_of T)).standing)

-- After an edit that goes first and is not refused, the very next round evaluates its component.
pub edit_next : EditNext
edit_next T U i v e a =
    has_complete i (current_list U) (edits_current i (edit_tables goes_first T i v) (first_current T i v e) a)

-- A round of a net takes the wires in an order of all of them.
record Rounded (T U : Tables) : Type 0 where
  wires : List Wire
  time : ℕ
  all : Order T wires
  made : U ≡ round_by wires time T

rounded : {T U : Tables} → net_number T ≡ 0 → AnyRound T U → Rounded T U
unfolding round_of
rounded {T} z (stored t) = record { wires = wires_in T; time = t; all = stored_order T; made = round_tables-done T t z }
rounded {T} z (ordered t order bits e) =
    record {
      wires = wires_by T order;
      time = t;
      all = order_order T order bits e;
      made = ordered_tables-done T order bits t e;
    }

-- After an edit of the old way that is not refused, one of the next three rounds evaluates its component.
pub edit_third : EditThird
edit_third T U₁ V₁ U₂ V₂ U₃ i v e a r₁ b r₂ c = by_round (round_by-standing U₁ i f₁.wires f₁.time still)
  where
    net₁ : net_number U₁ ≡ 0
    net₁ = edits_net (edit_tables stands T i v) (edit_tables-net stands T i v (edit_is_net T i v e)) a

    f₁ : Rounded U₁ V₁
    f₁ = rounded net₁ r₁

    net₂ : net_number U₂ ≡ 0
    net₂ = edits_net V₁ (ap net_number f₁.made ∙ round_net U₁ f₁.wires f₁.all f₁.time net₁) b

    f₂ : Rounded U₂ V₂
    f₂ = rounded net₂ r₂

    still : In i (standing_list U₁)
    still = edits_standing i (edit_tables stands T i v) (stands_standing T i v e) a

    by_round : In i (current_list U₁) ⊎ In i (following_list (round_by f₁.wires f₁.time U₁))
        → (has i (current_list U₁) || has i (current_list U₂) || has i (current_list U₃)) ≡ true
    by_round (inl m) = rw (has_complete i (current_list U₁) m)
    by_round (inr m) =
        let f : In i (following_list U₂) = edits_following i V₁ (subst (λ (W : Tables). In i (following_list W)) (sym f₁.made) m) b in
        let k : In i (current_list U₃) =
        edits_current i V₂ (subst (λ (W : Tables). In i (current_list W)) (sym f₂.made) (round_by-following U₂ i f₂.wires f₂.time f)) c in
        rw (has_complete i (current_list U₃) k, or-true (has i (current_list U₁) || has i (current_list U₂)))
