-- What the functions of src/ carry along. Nobody has to believe anything here: each word only shortens what a definition of specs/Mend.antt says, or
-- says it in another way.
--   drops_plainly at n p   the record at p is dropped, said without reference to the records kept before
--   plain_part s, parts_of file   a component's record with its field D at 0; the component records of a file as a file of their own
--   marked_kept kept q       the table `kept` marks the record at q as kept
--   IsSifted file p kept  it marks those of the records before p that are kept
--   kept_entry, kept_mark   the record at j is kept and enters a child's input; the mark of that input
-- Assumes nothing.
use Rattle.std.specs.Prelude.{◌≡◌, ℕ, ◌<◌, Bool, not, ◌&&◌, ◌||◌, List, length, get_or, set, eqb}
use Rattle.lists.specs.Lists.{from, any, joined}
use Rattle.component.specs.declared.Record.{Record}
use Rattle.component.specs.Record.{record_at, loose_at, part_at, record_count, to_of, input_of, entering, entering_as}
use Rattle.component.specs.Reading.{owner_of}
use Rattle.checks.specs.Checks.{place_mark}
use Rattle.mend.specs.Mend.{components, refused12}

-- Of the records that check 12 passes and that enter one input the first is kept: an earlier kept one has entered an input exactly where an earlier one
-- that check 12 passes enters it.
abbrev pub drops_plainly : (ℕ → Record) → ℕ → ℕ → Bool
drops_plainly at n p =
    entering (at p) && (refused12 at n (at p) || any (λ q. entering_as (at p) (at q) && not (refused12 at n (at q))) (from 0 p))

abbrev pub plain_part : List ℕ → List ℕ
plain_part s = set (set s 10 0) 11 0

-- Not an `abbrev`: what is known of it is said by laws.
unfoldable pub parts_of : List ℕ → List ℕ
parts_of file = joined (λ p. plain_part (part_at file p)) (components (loose_at file) (record_count file))

abbrev pub marked_kept : List ℕ → ℕ → Bool
marked_kept kept q = not (eqb (get_or kept q 0) 0)

pub record IsSifted (file : List ℕ) (p : ℕ) (kept : List ℕ) : Type 0 where
  pub size : length kept ≡ 1024
  pub marked : (q : ℕ) → q < p → marked_kept kept q ≡ not (drops_plainly (loose_at file) (record_count file) q)

abbrev pub kept_entry : List ℕ → ℕ → Bool
kept_entry file j = entering (loose_at file j) && not (drops_plainly (loose_at file) (record_count file) j)

abbrev pub kept_mark : List ℕ → ℕ → ℕ
kept_mark file j =
    let r = loose_at file j in
    place_mark (record_at (parts_of file)) (record_count (parts_of file)) (owner_of r) (to_of r) (input_of r)
