-- Laws of the three loops that copy: which records are picked, and what stands there in the end.
-- Assumes nothing.
use mathlib.Core.Path.{◌≡◌, refl, sym, ap, ◌∙◌}
use mathlib.Core.Bool.{not-not, Bool, true, false, not}
use mathlib.Core.List.{List, [], ◌∷◌, ◌++◌, append-nil}
use Prim.Native.Nat.{ℕ, ◌+◌, ◌*◌, ◌%◌, ◌≤◌, ◌<◌}
use native.Mathlib.Omega.{arith}
use borrow.Author.Tests.{eq-eqb, ne_eqb, lt-ltb}
use lib.Dec.{eqb}
use lib.ListN.{length, get_or, set, length-append}
use lib.Seq.{sets}
use Rattle.lists.specs.Lists.{from, keep, joined, has, overlay}
use Rattle.lists.proofs.MembersLaws.{from0_sound, keep_cong}
use Rattle.lists.proofs.KeepLaws.{has_keep}
use Rattle.lists.proofs.OverlayLaws.{sets_overlay}
use Rattle.lists.proofs.LayingLaws.{sets_next, Laid, laid_end, laid_count}
use Rattle.component.specs.Record.{part_at, record_count, loose_at}
use Rattle.component.specs.Drawing.{is_component}
use Rattle.component.proofs.RecordLaws.{part_at_lem}
use Rattle.component.proofs.LooseLaws.{part_length}
use Rattle.mend.specs.Mend.{kept, mended, dropped}
use Rattle.mend.specs.Sifting.{drops_plainly, plain_part, parts_of, IsSifted}
use Rattle.mend.proofs.KeptLaws.{kept_records_lem}
use Rattle.mend.proofs.CopyLaws.{plain_length, picked, picked_room, picked_joined}

module _ (file : List ℕ) where
  abbrev n : ℕ
  n = record_count file

  -- A component's record by its first byte.
  pub component_byte : (p : ℕ) → p < n → is_component (loose_at file) p ≡ eqb (get_or file (24 * p) 0) 1
  component_byte p h =
      let e : 24 * p + 0 ≡ 24 * p = omega arith in
      rw (lt-ltb p n h) (ap (λ (x : ℕ). eqb x 1) (part_at_lem file p 0 (omega arith) ∙ ap (λ (j : ℕ). get_or file j 0) e))

  abbrev pub component_part : ℕ → List ℕ
  component_part p = plain_part (part_at file p)

  abbrev pub lays_components : ℕ → List ℕ
  lays_components = picked (is_component (loose_at file)) component_part 24 n (plain_length file)

  parts_joined : parts_of file ≡ joined lays_components (from 0 n)
  unfolding parts_of
  parts_joined = picked_joined (is_component (loose_at file)) component_part 24 n (plain_length file)

  parts_room : length (joined lays_components (from 0 n)) ≤ 24 * n
  parts_room = picked_room (is_component (loose_at file)) component_part 24 n (plain_length file) n (omega arith)

  pub parts_laid : (t u : List ℕ) (p k : ℕ) → Laid lays_components p t u k → p ≡ n → 24 * n ≤ length t
      → (u ≡ overlay (parts_of file) t) × (k ≡ length (parts_of file))
  parts_laid t u p k h e room = (
    laid_end lays_components t p u k h n e (omega (arith, parts_room, room)) ∙ ap (λ (xs : List ℕ). overlay xs t) (sym parts_joined),
    laid_count lays_components t p u k h n e ∙ ap length (sym parts_joined),
  )

  pub parts_most : length (parts_of file) ≤ 24 * n
  parts_most = omega (arith, ap length parts_joined, parts_room)

  -- The records that are kept.
  abbrev pub stays : ℕ → Bool
  stays p = not (drops_plainly (loose_at file) n p)

  abbrev pub lays_kept : ℕ → List ℕ
  lays_kept = picked stays (part_at file) 24 n (part_length file)

  mended_joined : mended file ≡ joined lays_kept (from 0 n)
  unfolding mended
  mended_joined =
      ap (joined (part_at file)) (kept_records_lem (loose_at file) n) ∙ picked_joined stays (part_at file) 24 n (part_length file)

  kept_room : length (joined lays_kept (from 0 n)) ≤ 24 * n
  kept_room = picked_room stays (part_at file) 24 n (part_length file) n (omega arith)

  pub mended_most : length (mended file) ≤ 24 * n
  mended_most = omega (arith, ap length mended_joined, kept_room)

  pub kept_laid : (t u : List ℕ) (p k : ℕ) → Laid lays_kept p t u k → p ≡ n → 24 * n ≤ length t
      → (u ≡ overlay (mended file) t) × (k ≡ length (mended file))
  kept_laid t u p k h e room = (
    laid_end lays_kept t p u k h n e (omega (arith, kept_room, room)) ∙ ap (λ (xs : List ℕ). overlay xs t) (sym mended_joined),
    laid_count lays_kept t p u k h n e ∙ ap length (sym mended_joined),
  )

  -- The positions that are dropped.
  abbrev pub goes : ℕ → Bool
  goes p = drops_plainly (loose_at file) n p

  abbrev pub alone : ℕ → List ℕ
  alone p = p ∷ []

  abbrev pub lists : ℕ → List ℕ
  lists = picked goes alone 1 n (λ p h. refl)

  joined_alone : (xs : List ℕ) → joined alone xs ≡ xs
  joined_alone [] = refl
  joined_alone (x ∷ xs) = ap (λ (l : List ℕ). x ∷ l) (joined_alone xs)

  whole_dropped : keep (λ p. not (has p (kept file))) (from 0 n) ≡ joined lists (from 0 n)
  whole_dropped =
      keep_cong (λ p. not (has p (kept file))) goes (from 0 n)
      (λ p i. ap (λ (xs : List ℕ). not (has p xs)) (kept_records_lem (loose_at file) n)
      ∙ ap not (has_keep stays n p (from0_sound n p i)) ∙ not-not (goes p))
      ∙ sym (joined_alone (keep goes (from 0 n)))
      ∙ picked_joined goes alone 1 n (λ p h. refl)

  dropped_room : length (joined lists (from 0 n)) ≤ n
  dropped_room = omega (arith, picked_room goes alone 1 n (λ p h. refl) n (omega arith))

  module _ (t u : List ℕ) (p k : ℕ) (h : Laid lists p t u k) (e : p ≡ n) (room : n + 1 ≤ length t) where
    -- no part record
    pub dropped_laid : length file % 24 ≡ 0 → (u ≡ overlay (dropped file) t) × (k ≡ length (dropped file))
    unfolding dropped
    dropped_laid z =
        let d : joined lists (from 0 n) ≡ dropped file =
        sym (append-nil (joined lists (from 0 n))) ∙ rw (eq-eqb (length file % 24) 0 z) (ap (λ (xs : List ℕ). xs ++ []) (sym whole_dropped)) in (
          laid_end lists t p u k h n e (omega (arith, dropped_room, room)) ∙ ap (λ (xs : List ℕ). overlay xs t) d,
          laid_count lists t p u k h n e ∙ ap length d,
        )

    -- and one
    pub dropped_part : (length file % 24 ≡ 0 → ⊥) → (set u k n ≡ overlay (dropped file) t) × (k + 1 ≡ length (dropped file))
    unfolding dropped
    dropped_part z =
        let xs = joined lists (from 0 n) in
        let d : xs ++ (n ∷ []) ≡ dropped file =
        rw (ne_eqb (length file % 24) 0 z) (ap (λ (ys : List ℕ). ys ++ (n ∷ [])) (sym whole_dropped)) in
        let place : k ≡ 0 + length xs = omega (arith, laid_count lists t p u k h n e) in
        let table : u ≡ sets t 0 xs = h.table ∙ ap (λ (q : ℕ). sets t 0 (joined lists (from 0 q))) e in (
          ap (λ (l : List ℕ). set l k n) table ∙ ap (λ (j : ℕ). set (sets t 0 xs) j n) place
              ∙ sets_next t 0 xs n ∙ ap (sets t 0) d
              ∙ sets_overlay (dropped file) t (omega (arith, room, dropped_room, ap length (sym d), length-append xs (n ∷ []))),
          omega (arith, place, ap length (sym d), length-append xs (n ∷ [])),
        )

  -- A mark that is set, and one that is not.
  module _ (marks : List ℕ) (p : ℕ) (s : IsSifted file n marks) (h : p < n) where
    pub marked_stays : (get_or marks p 0 ≡ 0 → ⊥) → stays p ≡ true
    marked_stays z = sym (s.marked p h) ∙ ap not (ne_eqb (get_or marks p 0) 0 z)

    pub unmarked_goes : get_or marks p 0 ≡ 0 → stays p ≡ false
    unmarked_goes z = sym (s.marked p h) ∙ ap not (eq-eqb (get_or marks p 0) 0 z)

    pub marked_not : (get_or marks p 0 ≡ 0 → ⊥) → goes p ≡ false
    marked_not z = sym (not-not (goes p)) ∙ ap not (marked_stays z)

    pub unmarked_so : get_or marks p 0 ≡ 0 → goes p ≡ true
    unmarked_so z = sym (not-not (goes p)) ∙ ap not (unmarked_goes z)
