-- What a mending owes. docs/SPECIFICATION.md, "Mending a drawing".
--   MendIdentical   an accepted file comes out identical, and nothing is dropped
--   MendNever       what is mended is never refused with 13, 22 or 23, and with 12 only for an output map
--   MendMakesUp     what is dropped and what is kept make up the file
--   MendPlain       what is kept, without reference to what was kept before
--   MendRoom        what is lent has room for what is written
--   MendAccepted    what is written is an accepted drawing
-- Assumes nothing.
use Rattle.std.specs.Prelude.{◌≡◌, ℕ, ◌+◌, ◌%◌, ◌≤◌, ◌<◌, false, cond, not, List, [], length, get_or, take, eqb}
use Rattle.lists.specs.Lists.{from, keep, has, overlay}
use Rattle.kinds.specs.declared.answers.Refusal.{Refusal}
use Rattle.kinds.specs.Given.{tells_of_two}
use Rattle.component.specs.declared.Record.{Record}
use Rattle.component.specs.Record.{record_at, record_count, part_at}
use Rattle.meeting.specs.Meeting.{judgement}
use Rattle.mend.specs.declared.Mended.{Mended}
use Rattle.mend.specs.Mend.{kept_records, kept, mended, dropped, Mends}
use Rattle.mend.specs.Sifting.{drops_plainly}
use Rattle.std.specs.Prelude.{Result, Ok, Err}

-- "an accepted file comes out identical": it is what stands at the front of the buffer, and the list is as it was.
abbrev pub MendIdentical : Type 0
MendIdentical =
    (file : List ℕ) → judgement file ≡ Ok tt
    → (mended file ≡ file) × (dropped file ≡ [])
    × ((out list out' list' : List ℕ) (r : Result Mended Refusal) → length file ≤ length out → 1025 ≤ length list → Mends file out list r out' list'
    → (r ≡ Ok (record { bytes = length file; positions = 0 })) × (out' ≡ overlay file out) × (list' ≡ list))

-- After mending no two records meet, and check 12 refuses only an output map.
abbrev pub MendNever : Type 0
MendNever =
    (file : List ℕ) (r : Refusal) → judgement (mended file) ≡ Err r
    → (tells_of_two r.number ≡ false) × (r.number ≡ 12 → (record_at (mended file) r.position).form ≡ 4)

-- "kept records stand in order with their bytes", and each whole record is either kept or dropped, the part record dropped.
pub record MakesUp (file : List ℕ) : Type 0 where
  pub in_order : kept file ≡ keep (λ p. has p (kept file)) (from 0 (record_count file))
  pub either : (p : ℕ) → p < record_count file → has p (dropped file) ≡ not (has p (kept file))
  pub part : has (record_count file) (dropped file) ≡ not (eqb (length file % 24) 0)
  pub count : length (kept file) + length (dropped file) ≡ record_count file + cond (eqb (length file % 24) 0) 0 1
  pub records : record_count (mended file) ≡ length (kept file)
  pub bytes : (k : ℕ) → k < length (kept file) → part_at (mended file) k ≡ part_at file (get_or (kept file) k 0)

abbrev pub MendMakesUp : Type 0
MendMakesUp = (file : List ℕ) → MakesUp file

-- Of the records that check 12 passes and that enter one input the first is kept.
abbrev pub MendPlain : Type 0
MendPlain = (at : ℕ → Record) (n : ℕ) → kept_records at n ≡ keep (λ p. not (drops_plainly at n p)) (from 0 n)

abbrev pub MendRoom : Type 0
MendRoom = (file : List ℕ) → record_count file ≤ 1024 → (length (mended file) ≤ length file) × (length (dropped file) ≤ 1025)

-- What a mending that is not refused has written is an accepted drawing.
abbrev pub MendAccepted : Type 0
MendAccepted =
    (file out list out' list' : List ℕ) (bytes positions : ℕ) → Mends file out list (Ok (record { bytes = bytes; positions = positions })) out' list'
    → (judgement (take bytes out') ≡ Ok tt) × (take bytes out' ≡ mended file) × (take positions list' ≡ dropped file)
