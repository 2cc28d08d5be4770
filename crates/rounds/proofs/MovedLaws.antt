-- The bits that visits pass on: one word for each component visited; the loop that writes them; and that they are those of the tables which came in.
-- Assumes nothing.
use mathlib.Core.Path.{◌≡◌, refl, sym, ap, ◌∙◌}
use mathlib.Core.Logic.{inl, inr}
use mathlib.Core.List.{List, [], ◌∷◌}
use Prim.Native.Nat.{ℕ, suc, ◌+◌, ◌≤◌, ◌<◌}
use native.Mathlib.Numerals.{add-one}
use native.Mathlib.Omega.{arith}
use lib.ListN.{length, get_or, set, take, drop}
use lib.Seq.{slice, slice-cons, drop-cons, take-length, length-take-le}
use Rattle.lists.specs.Lists.{overlay}
use Rattle.lists.proofs.MembersLaws.{In}
use Rattle.tables.specs.declared.Wire.{Wire}
use Rattle.tables.specs.Tables.{Tables, current_list, following_list, standing_list}
use Rattle.tables.proofs.NamedLaws.{overlay_step}
use Rattle.rounds.specs.Round.{State, state_of, with_current, evaluated, send, visit, moved_at, moved_by}
use Rattle.rounds.specs.Steps.{bare, state_at}
use Rattle.rounds.proofs.StepsLaws.{visit_current, visit_alike}

module _ (T : Tables) (leaving : ℕ → List Wire) (t : ℕ) where
  -- As many words as components visited.
  pub moved_by-length : (s : State) (xs : List ℕ) → length (moved_by T leaving t s xs) ≡ length xs
  moved_by-length s [] = refl
  moved_by-length s (i ∷ xs) = ap suc (moved_by-length (visit T leaving t s i) xs)

  -- No visit reads the current list,
  moved_by-current : (d : List ℕ) (s : State) (xs : List ℕ) → moved_by T leaving t (with_current d s) xs ≡ moved_by T leaving t s xs
  moved_by-current d s [] = refl
  moved_by-current d s (i ∷ xs) =
      ap (λ (l : List ℕ). moved_at T t s i ∷ l)
      (ap (λ (u : State). moved_by T leaving t u xs) (visit_current T leaving t d s i) ∙ moved_by-current d (visit T leaving t s i) xs)

  -- nor more of the tables than the components.
  moved_by-bare : (s : State) (xs : List ℕ) → moved_by (bare T.components) leaving t s xs ≡ moved_by T leaving t s xs
  unfolding visit evaluated send
  moved_by-bare s [] = refl
  moved_by-bare s (i ∷ xs) = ap (λ (l : List ℕ). moved_at T t s i ∷ l) (moved_by-bare (visit T leaving t s i) xs)

  -- So what visits write over lent words ms, from lists that were copied out, is what the state in the tables makes them.
  pub round_moved_lem : (fol std ms ms' : List ℕ) → fol ≡ following_list T → std ≡ standing_list T
      → ms' ≡ overlay (moved_by (bare T.components) leaving t (state_at T.inputs T.outputs fol std) (current_list T)) ms
      → ms' ≡ overlay (moved_by T leaving t (state_of T) (current_list T)) ms
  round_moved_lem fol std ms ms' f d e =
      let s = state_at T.inputs T.outputs (following_list T) (standing_list T) in
      let b : moved_by (bare T.components) leaving t s (current_list T) ≡ moved_by T leaving t (state_of T) (current_list T) =
      moved_by-bare s (current_list T) ∙ sym (moved_by-current (current_list T) s (current_list T)) in
      e ∙ rw (f, d) (ap (λ (l : List ℕ). overlay l ms) b)

-- They are as the wires of the components that are visited.
pub moved_alike : (T : Tables) (ws vs : ℕ → List Wire) (t : ℕ) (s : State) (xs : List ℕ) → ((x : ℕ) → In x xs → ws x ≡ vs x)
    → moved_by T ws t s xs ≡ moved_by T vs t s xs
moved_alike T ws vs t s [] h = refl
moved_alike T ws vs t s (x ∷ xs) h =
    ap (λ (l : List ℕ). moved_at T t s x ∷ l)
    (ap (λ (u : State). moved_by T ws t u xs) (visit_alike T ws vs t s x (h x (inl refl)))
    ∙ moved_alike T ws vs t (visit T vs t s x) xs (λ y m. h y (inr m)))

-- The loop over the first n components of a list, from the state o: all words of bits, and so many of them over lent words ms.
module _ (T : Tables) (leaving : ℕ → List Wire) (t : ℕ) (list : List ℕ) (n : ℕ) (o : State) (ms : List ℕ) where
  abbrev pub all_bits : List ℕ
  all_bits = moved_by T leaving t o (take n list)

  -- The first q words are written, and those still to come are those of the components still to come, from the state s.
  pub record BitsSo (q : ℕ) (s : State) (now : List ℕ) : Type 0 where
    pub written : now ≡ overlay (take q all_bits) ms
    pub to_come : moved_by T leaving t s (slice q n list) ≡ drop q all_bits

  pub bits_start : BitsSo 0 o ms
  unfolding overlay
  bits_start = record { written = refl; to_come = refl }

  module _ (inside : n ≤ length list) where
    bits_length : length all_bits ≡ n
    bits_length = moved_by-length T leaving t o (take n list) ∙ length-take-le n list inside

    pub bits_next : (q i m : ℕ) (s u : State) (now : List ℕ) → q < n → n ≤ length ms → i ≡ get_or list q 0 → u ≡ visit T leaving t s i
        → m ≡ moved_at T t s i → BitsSo q s now → BitsSo (q + 1) u (set now q m)
    bits_next q i m s u now h room e eu em b =
        let c : drop q all_bits ≡ moved_at T t s i ∷ moved_by T leaving t u (slice (q + 1) n list) =
        sym b.to_come ∙ rw (slice-cons q n list 0 h inside, add-one, eu, e) in
        let d : drop q all_bits ≡ get_or all_bits q 0 ∷ drop (q + 1) all_bits =
        drop-cons all_bits q 0 (omega (arith, bits_length)) ∙ rw add-one in
        let f : m ≡ get_or all_bits q 0 = em ∙ ap (λ (l : List ℕ). get_or l 0 0) (sym c ∙ d) in
        let g : moved_by T leaving t u (slice (q + 1) n list) ≡ drop (q + 1) all_bits = ap (drop 1) (sym c ∙ d) in
        record {
          written = rw (b.written, f) (overlay_step all_bits ms q (omega (arith, bits_length)) (omega arith));
          to_come = g;
        }

    pub bits_end : (q : ℕ) (s : State) (now : List ℕ) → q ≡ n → BitsSo q s now → now ≡ overlay all_bits ms
    bits_end q s now e b =
        b.written ∙ ap (λ (l : List ℕ). overlay l ms) (ap (λ (k : ℕ). take k all_bits) (e ∙ sym bits_length) ∙ take-length all_bits)
