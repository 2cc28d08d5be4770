-- What the bits of a round say: in the word of each component evaluated bit i is set exactly where output i of it is not after the round what it was
-- before; and no output of any other component moves. docs/SPECIFICATION.md, "Rounds" (which outputs moved).
--   output_in T os i j        output j of component i, in the outputs os
--   moved_in T z ws o t i j   it is not after a round at time t, its wires in the order ws, what it was before
-- Assumes nothing.
use mathlib.Core.Path.{◌≡◌, refl, sym, ap, subst, ◌∙◌}
use mathlib.Core.Bool.{Bool, true, false, not, ◌&&◌}
use mathlib.Core.Logic.{inl, inr}
use mathlib.Core.List.{List, [], ◌∷◌, foldl}
use Prim.Native.Nat.{ℕ, zero, suc, ◌+◌, ◌<◌}
use native.Mathlib.Omega.{arith}
use borrow.Author.Tests.{eq-eqb, ltb-true}
use lib.ListN.{length, get_or}
use lib.Dec.{eqb, ltb}
use Rattle.lists.proofs.MembersLaws.{In, in-get_or}
use Rattle.lists.proofs.NamesLaws.{Names}
use Rattle.value.specs.Value.{level, bit_of}
use Rattle.primitive.specs.Evaluate.{moved, moved_outputs}
use Rattle.primitive.proofs.MovedLaws.{moved_port}
use Rattle.tables.specs.declared.Wire.{Wire}
use Rattle.tables.specs.Tables.{Tables, fields_at, first_output, outputs_at, current_list}
use Rattle.net.specs.Net.{net_number}
use Rattle.rounds.specs.Round.{State, state_of, leave, wires_from, evaluated, send, visit, moved_at, moved_by, round, bits_by, round_by}
use Rattle.rounds.proofs.Sound.{Sound, net_sound}
use Rattle.rounds.proofs.Ports.{numbers_length, numbers_at}
use Rattle.rounds.proofs.Held.{Held, Order, SendCase, agrees, writes, send_case, written, made, made_length, others_left, own, own_outputs, outputs_room, visit_held}
use Rattle.rounds.proofs.Left.{net_held}
use Rattle.rounds.proofs.MovedLaws.{moved_by-length}

-- Output j of component i in the outputs os.
abbrev pub output_in : Tables → List ℕ → ℕ → ℕ → ℕ
output_in T os i j = get_or os (first_output T i + j) 0

-- A wire leaves all outputs.
send_outputs : (T : Tables) (s : State) (w : Wire) → (send T s w).outputs ≡ s.outputs
unfolding written
send_outputs T s w = by_case (send_case T s w)
  where
    by_case : SendCase T s w → (send T s w).outputs ≡ s.outputs
    by_case (agrees p e) = rw e
    by_case (writes p e) = rw e

sends_outputs : (T : Tables) (s : State) (ws : List Wire) → (foldl (send T) s ws).outputs ≡ s.outputs
sends_outputs T s [] = refl
sends_outputs T s (w ∷ ws) = sends_outputs T (send T s w) ws ∙ send_outputs T s w

module _ (T : Tables) (g : Sound T) (ws : List Wire) (o : Order T ws) (t : ℕ) where
  abbrev n : ℕ
  n = T.counts.components

  -- A visit leaves the outputs of every other component, and the component's own are what the evaluation makes them.
  module _ (s : State) (a : Held T s) (i : ℕ) (h : i < n) where
    visit_others : (d j : ℕ) → d < n → (d ≡ i → ⊥) → j < (fields_at T d).outputs
        → output_in T (visit T (wires_from ws) t s i).outputs d j ≡ output_in T s.outputs d j
    unfolding visit evaluated
    visit_others d j q ne l =
        ap (λ (os : List ℕ). output_in T os d j) (sends_outputs T (evaluated T t i s) (wires_from ws i))
        ∙ others_left T g t i h s a d j q ne l

    visit_own : (j : ℕ) → j < (fields_at T i).outputs → output_in T (visit T (wires_from ws) t s i).outputs i j ≡ get_or (made T t s i) j 0
    unfolding visit evaluated
    visit_own j l =
        ap (λ (os : List ℕ). output_in T os i j) (sends_outputs T (evaluated T t i s) (wires_from ws i))
        ∙ own_outputs T g t i h s a j l

    -- Bit j of the component's word.
    visit_bit : (j : ℕ) → bit_of (moved_at T t s i) j
        ≡ level (ltb j (fields_at T i).outputs && not (eqb (output_in T s.outputs i j) (output_in T (visit T (wires_from ws) t s i).outputs i j)))
    unfolding moved_outputs
    visit_bit j =
        moved_port (outputs_at T s.outputs i) (made T t s i) (fields_at T i).outputs
        (numbers_length s.outputs (first_output T i) (fields_at T i).outputs (outputs_room T g t i h s a)) (made_length T g t i h s a) j _ _
        (λ l. numbers_at s.outputs (first_output T i) (fields_at T i).outputs (outputs_room T g t i h s a) j l)
        (λ l. sym (visit_own j l))

  -- Visits leave the outputs of a component that they do not name.
  visits_others : (xs : List ℕ) (s : State) → Held T s → ((x : ℕ) → In x xs → x < n) → (d j : ℕ) → d < n → (In d xs → ⊥)
      → j < (fields_at T d).outputs
      → output_in T (foldl (visit T (wires_from ws) t) s xs).outputs d j ≡ output_in T s.outputs d j
  visits_others [] s a f d j q ne l = refl
  visits_others (x ∷ xs) s a f d j q ne l =
      visits_others xs (visit T (wires_from ws) t s x) (visit_held T g ws o t s x (f x (inl refl)) a) (λ y m. f y (inr m)) d j q (λ m. ne (inr m)) l
      ∙ visit_others s a x (f x (inl refl)) d j q (λ e. ne (inl e)) l

  -- Output j of component d is not after visits what it was.
  abbrev moved_over : State → List ℕ → ℕ → ℕ → Bool
  moved_over s xs d j =
      ltb j (fields_at T d).outputs && not (eqb (output_in T s.outputs d j) (output_in T (foldl (visit T (wires_from ws) t) s xs).outputs d j))

  -- Bit j of word k is that of output j of the component at place k.
  visits_bits : (xs : List ℕ) → Names n xs → (s : State) → Held T s → (k j : ℕ) → k < length xs
      → bit_of (get_or (moved_by T (wires_from ws) t s xs) k 0) j ≡ level (moved_over s xs (get_or xs k 0) j)
  visits_bits [] m s a k j h = absurd (omega arith)
  visits_bits (x ∷ xs) m s a zero j h = visit_bit s a x (m.exist x (inl refl)) j ∙ by_port (ltb j (fields_at T x).outputs) refl
    where
      by_port : (b : Bool) → ltb j (fields_at T x).outputs ≡ b
          → level (b && not (eqb (output_in T s.outputs x j) (output_in T (visit T (wires_from ws) t s x).outputs x j)))
          ≡ level (b && not (eqb (output_in T s.outputs x j) (output_in T (foldl (visit T (wires_from ws) t) (visit T (wires_from ws) t s x) xs).outputs x j)))
      by_port true e =
          rw (visits_others xs (visit T (wires_from ws) t s x) (visit_held T g ws o t s x (m.exist x (inl refl)) a) (λ y p. m.exist y (inr p)) x j
          (m.exist x (inl refl)) m.once.0 (ltb-true j (fields_at T x).outputs e))
      by_port false e = refl
  visits_bits (x ∷ xs) m s a (suc k) j h =
      visits_bits xs (record { exist = λ y p. m.exist y (inr p); once = m.once.1 }) (visit T (wires_from ws) t s x)
      (visit_held T g ws o t s x (m.exist x (inl refl)) a) k j (omega arith)
      ∙ by_port (ltb j (fields_at T (get_or xs k 0)).outputs) refl
    where
      there : In (get_or xs k 0) xs
      there = in-get_or xs k 0 (omega arith)

      by_port : (b : Bool) → ltb j (fields_at T (get_or xs k 0)).outputs ≡ b
          → level (b && not (eqb (output_in T (visit T (wires_from ws) t s x).outputs (get_or xs k 0) j) (output_in T (foldl (visit T (wires_from ws) t) (visit T (wires_from ws) t s x) xs).outputs (get_or xs k 0) j)))
          ≡ level (b && not (eqb (output_in T s.outputs (get_or xs k 0) j) (output_in T (foldl (visit T (wires_from ws) t) (visit T (wires_from ws) t s x) xs).outputs (get_or xs k 0) j)))
      by_port true e =
          rw (visit_others s a x (m.exist x (inl refl)) (get_or xs k 0) j (m.exist (get_or xs k 0) (inr there)) (λ q. m.once.0 (subst (λ (y : ℕ). In y xs) q there))
          (ltb-true j (fields_at T (get_or xs k 0)).outputs e))
      by_port false e = refl

-- A round of a net.
module _ (T : Tables) (z : net_number T ≡ 0) (ws : List Wire) (o : Order T ws) (t : ℕ) where
  -- Output j of component d is not after the round what it was before.
  abbrev pub moved_in : ℕ → ℕ → Bool
  moved_in d j = not (eqb (output_in T T.outputs d j) (output_in T (round_by ws t T).outputs d j))

  pub round_bits_length : length (bits_by ws t T) ≡ length (current_list T)
  round_bits_length = moved_by-length T (wires_from ws) t (state_of T) (current_list T)

  pub round_bit : (k j : ℕ) → k < length (current_list T)
      → bit_of (get_or (bits_by ws t T) k 0) j ≡ level (ltb j (fields_at T (get_or (current_list T) k 0)).outputs && moved_in (get_or (current_list T) k 0) j)
  unfolding round leave
  round_bit k j h = visits_bits T (net_sound T z) ws o t (current_list T) (net_held T z).current (state_of T) (net_held T z) k j h

  pub round_still : (d j : ℕ) → d < T.counts.components → (In d (current_list T) → ⊥) → j < (fields_at T d).outputs → moved_in d j ≡ false
  unfolding round leave
  round_still d j q ne l =
      rw (
        visits_others T (net_sound T z) ws o t (current_list T) (state_of T) (net_held T z) (net_held T z).current.exist d j q ne l,
        eq-eqb (output_in T T.outputs d j) (output_in T T.outputs d j) refl,
      )
