-- A file of bytes: an id in it has 32 bits. docs/SPECIFICATION.md, "The drawing file".
-- Assumes nothing.
use mathlib.Core.Path.{sym, subst}
use mathlib.Core.Bool.{Bool, true, false, cond}
use mathlib.Core.List.{List}
use Prim.Native.Nat.{ℕ, ◌+◌, ◌*◌, ◌^◌, ◌<◌}
use native.Mathlib.Omega.{arith}
use lib.ListN.{get_or, take, drop}
use lib.Dec.{ltb}
use Rattle.component.specs.declared.Record.{Record}
use Rattle.component.specs.Record.{IsBytes, le32, numbers_in, well_formed, no_record, record_count, record_at}
use Rattle.component.specs.Reading.{record_in}
use Rattle.component.specs.Reading.{id_of}
use Rattle.component.proofs.RecordLaws.{part_at_lem}

module _ (file : List ℕ) (bytes : IsBytes file) where
  -- The 24 bytes of a record.
  abbrev part_at : ℕ → List ℕ
  part_at p = take 24 (drop (24 * p) file)

  -- A byte of a record.
  part_byte : (p i : ℕ) → i < 24 → get_or (part_at p) i 0 < 256
  part_byte p i h =
      subst (λ (x : ℕ). x < 256) (sym (part_at_lem file p i h)) (bytes (24 * p + i))

  part_id : (p : ℕ) → le32 (part_at p) 12 < 2 ^ 32
  part_id p =
      omega (
        arith,
        part_byte p 12 (omega arith),
        part_byte p 13 (omega arith),
        part_byte p 14 (omega arith),
        part_byte p 15 (omega arith),
      )

  -- Of two records, whichever a test takes.
  taken_id : (b : Bool) (r s : Record) → id_of r < 2 ^ 32 → id_of s < 2 ^ 32 → id_of (cond b r s) < 2 ^ 32
  taken_id true r s u v = u
  taken_id false r s u v = v

  -- Every id in the file has 32 bits: it is read from four bytes, and no record has id 0.
  pub record_at-id : (p : ℕ) → id_of (record_at file p) < 2 ^ 32
  record_at-id p =
      let r = numbers_in (part_at p) in
      let none : 0 < 2 ^ 32 = omega arith in
      taken_id (ltb p (record_count file)) (record_in r) no_record (taken_id (well_formed r) r no_record (part_id p) none) none
