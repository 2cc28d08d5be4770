-- Demand 3 on the tables' own wires and components, for any net of which the invariant holds.
-- docs/SPECIFICATION.md, "Flattening" (satisfied) and "Rounds".
--   Equal T w       the output and the input of the wire w hold the same number
--   Follows T t i   the outputs of component i are its function of its inputs, at time t
--   SatisfiedAt T t   each wire's ends are equal, and each component follows its function; a Switch's output is free
--   ObeyedAt T ran t  the three parts of demand 3
-- Assumes nothing.
use mathlib.Core.Path.{◌≡◌, refl, sym, ap, ◌∙◌}
use mathlib.Core.Logic.{◌⊎◌, inl, inr}
use mathlib.Core.Bool.{Bool, true, false, ◌&&◌, ◌||◌, or-true, true≢false}
use mathlib.Core.List.{List, [], ◌∷◌}
use Prim.Native.Nat.{ℕ, suc, ◌+◌, ◌≤◌, ◌<◌}
use native.Mathlib.Omega.{arith}
use lib.ListN.{length, get_or}
use lib.Seq.{slice, slice-cons, slice_empty}
use Rattle.lists.specs.Lists.{has}
use Rattle.lists.proofs.TestsLaws.{or_left}
use Rattle.lists.proofs.MembersLaws.{In, has_complete}
use Rattle.kinds.specs.declared.Kind.TheVariants.{Switch, Clock, Const}
use Rattle.kinds.specs.Kinds.{is}
use Rattle.primitive.specs.Evaluate.{function_of}
use Rattle.tables.specs.declared.Wire.{Wire}
use Rattle.tables.specs.Tables.{Tables, fields_at, first_output, input_place, output_place, numbers, inputs_at, outputs_at, wires_in, current_list, following_list, standing_list, named}
use Rattle.net.specs.Net.{net_number}
use Rattle.rounds.specs.Round.{state_of}
use Rattle.rounds.proofs.Evaluation.{const_outputs, outputs_after-function, function_of-const}
use Rattle.rounds.proofs.Sound.{Sound, net_sound}
use Rattle.rounds.proofs.Held.{Held, Agree}
use Rattle.rounds.proofs.Left.{net_held}
use Rattle.quiet.proofs.Invariant.{clocked, Fits, Awaits, Named, now, next, later}
use Rattle.quiet.proofs.Since.{Unbroken}

-- The output and the input of a wire hold the same number.
abbrev pub Equal : Tables → Wire → Type 0
Equal T w = get_or T.outputs (output_place T w.src) 0 ≡ get_or T.inputs (input_place T w.dst) 0

-- The outputs of component i are its function of its inputs, at time t.
abbrev pub Follows : Tables → ℕ → ℕ → Type 0
Follows T t i = outputs_at T T.outputs i ≡ function_of (fields_at T i) (inputs_at T T.inputs i) t

-- The net is satisfied at time t.
pub record SatisfiedAt (T : Tables) (t : ℕ) : Type 0 where
  pub equal : (w : Wire) → In w (wires_in T) → Equal T w
  pub follow : (i : ℕ) → i < T.counts.components → is Switch (fields_at T i) ≡ false → Follows T t i

-- The three parts of demand 3 for tables in which a round has run or not, the last at time t.
pub record ObeyedAt (T : Tables) (ran : Bool) (t : ℕ) : Type 0 where
  -- Where the ends of a wire differ, a list names the component that it leaves.
  pub differing : (w : Wire) → In w (wires_in T) → (Equal T w → ⊥) → named T w.src.comp.0 ≡ true
  -- So is each component, Switches and Clocks aside, whose outputs are not its function of its inputs.
  pub unfollowed : (i : ℕ) → i < T.counts.components → (is Switch (fields_at T i) || is Clock (fields_at T i)) ≡ false
      → (Follows T t i → ⊥) → named T i ≡ true
  -- After a round, if the lists name only Clocks, the net is satisfied, Clocks taken at the last round's time.
  pub settled : ran ≡ true → ((i : ℕ) → i < T.counts.components → named T i ≡ true → is Clock (fields_at T i) ≡ true)
      → SatisfiedAt T t

named_test : (T : Tables) (i : ℕ) → Named (state_of T) i → named T i ≡ true
named_test T i (now m) = rw (has_complete i (current_list T) m)
named_test T i (next m) = rw (has_complete i (following_list T) m, or-true (has i (current_list T)))
named_test T i (later m) =
    rw (has_complete i (standing_list T) m, or-true (has i (current_list T) || has i (following_list T)))

-- One port's numbers are its number.
numbers_one : (l : List ℕ) (a k : ℕ) → k ≡ 1 → a + k ≤ length l → numbers l a k ≡ get_or l a 0 ∷ []
numbers_one l a k e h =
    let p : a + k ≡ suc a = omega arith in
    ap (λ (j : ℕ). slice a j l) p ∙ slice-cons a (suc a) l 0 (omega arith) (omega arith)
    ∙ ap (λ (r : List ℕ). get_or l a 0 ∷ r) (slice_empty (suc a) l)

module _ (T : Tables) (ran : Bool) (t : ℕ) (e : net_number T ≡ 0) (a : Unbroken T ran t) where
  g : Sound T
  g = net_sound T e

  held : Held T (state_of T)
  held = net_held T e

  -- A component that an evaluation would leave as it is follows its function, a Switch aside.
  pub fits_follows : (i : ℕ) → i < T.counts.components → is Switch (fields_at T i) ≡ false → Fits T t (state_of T) i
      → Follows T t i
  fits_follows i h s f = by_const (is Const (fields_at T i)) refl
    where
      by_const : (b : Bool) → is Const (fields_at T i) ≡ b → Follows T t i
      by_const true c =
          numbers_one T.outputs (first_output T i) (fields_at T i).outputs
          (const_outputs (fields_at T i) (g.obeyed i h) c) (g.outputs_in i h)
          ∙ ap (λ (x : ℕ). x ∷ []) (held.consts i h c)
          ∙ sym (function_of-const (fields_at T i) (inputs_at T T.inputs i) t c)
      by_const false c =
          sym f ∙ outputs_after-function (fields_at T i) (inputs_at T T.inputs i) (outputs_at T T.outputs i) t s c

  -- A net of which the invariant holds obeys demand 3.
  pub unbroken_obeyed : ObeyedAt T ran t
  unbroken_obeyed =
      record {
        differing = λ w m. differ w (a.wired w m);
        unfollowed = λ i h k. unfollow i h (or_left (is Switch (fields_at T i)) (is Clock (fields_at T i)) k)
            (a.fitted i h);
        settled = settle;
      }
    where
      differ : (w : Wire) → Agree T (state_of T) w
          ⊎ Awaits T ran (state_of T) w.src.comp.0
          → (Equal T w → ⊥) → named T w.src.comp.0 ≡ true
      differ w (inl q) ne = absurd (ne q)
      differ w (inr q) ne = named_test T w.src.comp.0 q.1

      unfollow : (i : ℕ) → i < T.counts.components → is Switch (fields_at T i) ≡ false
          → Fits T t (state_of T) i ⊎ Awaits T ran (state_of T) i → (Follows T t i → ⊥)
          → named T i ≡ true
      unfollow i h s (inl q) ne = absurd (ne (fits_follows i h s q))
      unfollow i h s (inr q) ne = named_test T i q.1

      settle : ran ≡ true → ((i : ℕ) → i < T.counts.components → named T i ≡ true → is Clock (fields_at T i) ≡ true)
          → SatisfiedAt T t
      settle r only =
          record {
            equal = λ w m. agree w m (a.wired w m);
            follow = λ i h s. follow i h s (a.fitted i h);
          }
        where
          clash : (i : ℕ) → i < T.counts.components → Awaits T ran (state_of T) i → ⊥
          clash i h q =
              true≢false (sym (only i h (named_test T i q.1)) ∙ ap (λ (b : Bool). b && clocked T i) (sym r) ∙ q.0)

          agree : (w : Wire) → In w (wires_in T)
              → Agree T (state_of T) w
              ⊎ Awaits T ran (state_of T) w.src.comp.0 → Equal T w
          agree w m (inl q) = q
          agree w m (inr q) = absurd (clash w.src.comp.0 (g.source w m) q)

          follow : (i : ℕ) → i < T.counts.components → is Switch (fields_at T i) ≡ false
              → Fits T t (state_of T) i ⊎ Awaits T ran (state_of T) i → Follows T t i
          follow i h s (inl q) = fits_follows i h s q
          follow i h s (inr q) = absurd (clash i h q)
