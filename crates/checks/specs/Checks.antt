-- What the functions of src/lib.rt answer.
-- Nobody has to believe anything here: each word only shortens what a definition of specs/Drawing.antt says.
--   EntryAs              what is seen of an entry
--   IsFirst f n r        of n positions r is the first that f holds of; n where it holds of none
--   is_entry at p         the record at p enters a child's input
--   id_mark, place_mark, entry_mark   the marks of the id of component p, of an input of a child, and of the one that record p enters
-- Assumes nothing.
use Rattle.std.specs.Prelude.{ℕ, ◌+◌, ◌*◌, ◌%◌, ◌≤◌, ◌<◌, ◌≡◌, Bool, true, false, Option, Some, None}
use Rattle.component.specs.declared.Record.{Record}
use Rattle.component.specs.Record.{to_of, input_of, entering}
use Rattle.component.specs.Reading.{owner_of}
use Rattle.checks.specs.declared.Entry.{Entry}
use Rattle.kinds.specs.Marks.{mark_of}
use Rattle.component.specs.Drawing.{child}

-- What is seen of an entry: the input that a record enters, or that it enters none.
abbrev pub EntryAs : Option Entry → Record → Type 0
EntryAs (Some x) r = (entering r ≡ true) × (owner_of r ≡ x.owner) × (to_of r ≡ x.to.0) × (input_of r ≡ x.input)
EntryAs None r = entering r ≡ false

pub record IsFirst (f : ℕ → Bool) (n r : ℕ) : Type 0 where
  pub within : r ≤ n
  pub before : (j : ℕ) → j < r → f j ≡ false
  pub here : r < n → f r ≡ true

abbrev pub is_entry : (ℕ → Record) → ℕ → Bool
is_entry at p = entering (at p)

abbrev pub id_mark : (ℕ → Record) → ℕ → ℕ
id_mark at p = mark_of (at p).id

abbrev pub place_mark : (ℕ → Record) → ℕ → ℕ → ℕ → ℕ → ℕ
place_mark at n o c d = (64 * (child at n o c % 256) + d) % 16384

abbrev pub entry_mark : (ℕ → Record) → ℕ → ℕ → ℕ
entry_mark at n p = place_mark at n (at p).owner (to_of (at p)) (input_of (at p))
