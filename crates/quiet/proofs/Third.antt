-- What stands is evaluated no later than the third round after. docs/SPECIFICATION.md, "Rounds".
-- A round evaluates what its current list names. A standing component that the round at hand does not evaluate stays
-- standing, so the following list names it after, and what that list names the next round makes current.
-- Assumes nothing.
use mathlib.Core.Path.{◌≡◌, sym, subst}
use mathlib.Core.Logic.{◌⊎◌, inl, inr, ⊎_elim}
use mathlib.Core.List.{List, [], ◌∷◌, foldl}
use Prim.Native.Nat.{ℕ}
use native.Mathlib.Decide.{ℕ_discrete}
use Rattle.lists.proofs.MembersLaws.{In}
use Rattle.lists.proofs.NamesLaws.{append_new-kept}
use Rattle.tables.specs.declared.Wire.{Wire}
use Rattle.tables.specs.Tables.{Tables, current_list, following_list, standing_list}
use Rattle.rounds.specs.Round.{State, state_of, wires_from, evaluated, send, visit, round, round_by}
use Rattle.rounds.proofs.Held.{foldl_keeps, written, SendCase, agrees, writes, send_case}
use Rattle.rounds.proofs.Left.{state_of-leave}
use Rattle.quiet.proofs.Invariant.{evaluated_standing}

-- Within a round.
module _ (T : Tables) (x : ℕ) where
  send_following : (s : State) (w : Wire) → In x s.following → In x (send T s w).following
  unfolding written
  send_following s w m = by_case (send_case T s w)
    where
      by_case : SendCase T s w → In x (send T s w).following
      by_case (agrees p e) = rw e m
      by_case (writes p e) = rw e (append_new-kept w.dst.comp.0 x s.following m)

  send_standing : (s : State) (w : Wire) → In x s.standing → In x (send T s w).standing
  unfolding written
  send_standing s w m = by_case (send_case T s w)
    where
      by_case : SendCase T s w → In x (send T s w).standing
      by_case (agrees p e) = rw e m
      by_case (writes p e) = rw e m

  sends_following : (ws : List Wire) (s : State) → In x s.following → In x (foldl (send T) s ws).following
  sends_following ws = foldl_keeps (λ (s : State). In x s.following) (send T) ws (λ s w k. send_following s w)

  sends_standing : (ws : List Wire) (s : State) → In x s.standing → In x (foldl (send T) s ws).standing
  sends_standing ws = foldl_keeps (λ (s : State). In x s.standing) (send T) ws (λ s w k. send_standing s w)

  module _ (leaving : ℕ → List Wire) (t : ℕ) where
    visit_following : (s : State) (i : ℕ) → In x s.following → In x (visit T leaving t s i).following
    unfolding visit evaluated
    visit_following s i m = sends_following (leaving i) (evaluated T t i s) m

    visit_standing : (s : State) (i : ℕ) → (x ≡ i → ⊥) → In x s.standing → In x (visit T leaving t s i).standing
    unfolding visit
    visit_standing s i ne m = sends_standing (leaving i) (evaluated T t i s) (evaluated_standing T t i x s ne m)

    visits_following : (xs : List ℕ) (s : State) → In x s.following → In x (foldl (visit T leaving t) s xs).following
    visits_following xs =
        foldl_keeps (λ (s : State). In x s.following) (visit T leaving t) xs (λ s i k. visit_following s i)

    visits_standing : (xs : List ℕ) (s : State) → In x s.standing → In x xs
        ⊎ In x (foldl (visit T leaving t) s xs).standing
    visits_standing [] s m = inr m
    visits_standing (i ∷ xs) s m = by_name (ℕ_discrete x i) (λ k. visits_standing xs (visit T leaving t s i) k)
      where
        Last : Type 0
        Last = In x (foldl (visit T leaving t) (visit T leaving t s i) xs).standing

        by_name : Dec (x ≡ i) → (In x (visit T leaving t s i).standing → In x xs ⊎ Last) → In x (i ∷ xs) ⊎ Last
        by_name (yes e) later = inl (inl e)
        by_name (no ne) later = ⊎_elim (λ k. inl (inr k)) (λ k. inr k) (later (visit_standing s i ne m))

    -- What stands is evaluated in this round, or is followed after it, whatever the order of the wires.
    pub round_standing : (s : State) → In x s.standing → In x s.current ⊎ In x (round T leaving t s).following
    unfolding round
    round_standing s m = visits_standing s.current s m

    -- What is followed is current after it.
    pub round_following : (s : State) → In x s.following → In x (round T leaving t s).current
    unfolding round
    round_following s m = visits_following s.current s m

-- The same of the tables after a round, whatever the order of its wires.
module _ (T : Tables) (x : ℕ) (ws : List Wire) (t : ℕ) where
  after_state : state_of (round_by ws t T) ≡ round T (wires_from ws) t (state_of T)
  after_state = state_of-leave T (round T (wires_from ws) t (state_of T))

  pub round_by-standing : In x (standing_list T) → In x (current_list T) ⊎ In x (following_list (round_by ws t T))
  round_by-standing m =
      ⊎_elim (λ k. inl k) (λ k. inr (subst (λ (s : State). In x s.following) (sym after_state) k))
      (round_standing T x (wires_from ws) t (state_of T) m)

  pub round_by-following : In x (following_list T) → In x (current_list (round_by ws t T))
  round_by-following m = subst (λ (s : State). In x s.current) (sym after_state) (round_following T x (wires_from ws) t (state_of T) m)
