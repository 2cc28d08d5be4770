-- The records of what is mended are those that are kept: how many they are, and the bytes of each.
--   kept_at file i   the position that the record at i of what is mended had in the file
-- Assumes nothing.
use mathlib.Core.Path.{◌≡◌, sym, ap, ◌∙◌}
use mathlib.Core.Bool.{true, not}
use mathlib.Core.List.{List}
use Prim.Native.Nat.{ℕ, ◌*◌, ◌<◌}
use native.Mathlib.Decide.{dec_lt}
use native.Mathlib.Omega.{arith}
use borrow.Author.Tests.{lt-ltb}
use lib.ListN.{length, get_or, get_or-eq_default}
use Rattle.lists.specs.Lists.{from}
use Rattle.lists.proofs.MembersLaws.{In, keep_sound, in-get_or, from0_sound}
use Rattle.lists.proofs.KeepLaws.{joined_room, joined_list}
use Rattle.component.specs.Record.{numbers_in, part_at, record_count, loose_at}
use Rattle.component.proofs.LooseLaws.{part_length, loose_none}
use Rattle.mend.specs.Mend.{kept, mended}
use Rattle.mend.specs.Sifting.{drops_plainly}
use Rattle.mend.proofs.KeptLaws.{kept_records_lem}

module _ (file : List ℕ) where
  -- What is kept stands in the file and is not dropped.
  pub kept_sound : (p : ℕ) → In p (kept file) → (not (drops_plainly (loose_at file) (record_count file) p) ≡ true) × (p < record_count file)
  kept_sound p h =
      let z = keep_sound (λ q. not (drops_plainly (loose_at file) (record_count file) q)) p (from 0 (record_count file))
      (rw (kept_records_lem (loose_at file) (record_count file)) at h) in
      (z.0, from0_sound (record_count file) p z.1)

  kept_parts : (p : ℕ) → In p (kept file) → length (part_at file p) ≡ 24
  kept_parts p h = part_length file p (kept_sound p h).1

  pub mended_length : length (mended file) ≡ 24 * length (kept file)
  unfolding mended
  mended_length = joined_room (part_at file) 24 (kept file) kept_parts

  pub mended_count : record_count (mended file) ≡ length (kept file)
  mended_count = omega (arith, mended_length)

  pub mended_part : (k d : ℕ) → k < length (kept file) → part_at (mended file) k ≡ part_at file (get_or (kept file) k d)
  unfolding mended
  mended_part k d h = joined_list (part_at file) 24 (kept file) kept_parts k d h

  abbrev pub kept_at : ℕ → ℕ
  kept_at i = get_or (kept file) i (record_count file)

  -- What stands at i of what is mended, by its byte 0.
  pub mended_loose : (i : ℕ) → loose_at (mended file) i ≡ loose_at file (kept_at i)
  mended_loose i = by_place (dec_lt i (length (kept file)))
    where
      by_place : Dec (i < length (kept file)) → loose_at (mended file) i ≡ loose_at file (kept_at i)
      by_place (yes h) =
          let below : i < record_count (mended file) = omega (arith, h, mended_count) in
          let inside = (kept_sound (kept_at i) (in-get_or (kept file) i (record_count file) h)).1 in
          rw (lt-ltb i (record_count (mended file)) below, lt-ltb (kept_at i) (record_count file) inside)
          (ap numbers_in (mended_part i (record_count file) h))
      by_place (no h) =
          loose_none (mended file) i (omega (arith, h, mended_count))
          ∙ sym (loose_none file (kept_at i)
          (omega (arith, get_or-eq_default (kept file) (record_count file) {n = i} (omega (arith, h)))))
