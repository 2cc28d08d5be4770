-- What the split of 13 owes. docs/SPECIFICATION.md, "Numbers given back", 13, 22 and 23.
--   Meets at p r   the refusal r tells of the record at p and of the one earlier record that enters the same input
--   Split          13, 22 and 23 stand where the verdict has 13, with the earlier record; all else is as the verdict says
-- Assumes nothing.
use Rattle.std.specs.Prelude.{◌≡◌, ℕ, ◌<◌, true, List, ◌↔◌}
use Rattle.kinds.specs.declared.answers.Refusal.{Refusal}
use Rattle.kinds.specs.Given.{tells_of_two}
use Rattle.component.specs.declared.Record.{Record}
use Rattle.component.specs.Record.{record_at, entering, entering_as}
use Rattle.flatten.specs.Verdict.{refused, verdict}
use Rattle.meeting.specs.Meeting.{judgement}
use Rattle.std.specs.Prelude.{Ok, Err}

-- Two records that meet: both enter the same input, the earlier is the only one before that does, and the number says what they are.
pub record Meets (at : ℕ → Record) (p : ℕ) (r : Refusal) : Type 0 where
  pub position : r.position ≡ p
  pub before : r.earlier < p
  pub later_enters : entering (at p) ≡ true
  pub same_input : entering_as (at p) (at r.earlier) ≡ true
  pub only : (q : ℕ) → q < p → entering_as (at p) (at q) ≡ true → q ≡ r.earlier
  pub one_of : tells_of_two r.number ≡ true
  pub two_connections : r.number ≡ 13 ↔ ((at r.earlier).form ≡ 2) × ((at p).form ≡ 2)
  pub connection_and_map : r.number ≡ 22 ↔ ((at r.earlier).form ≡ 2) × ((at p).form ≡ 3)
  pub two_maps_lem : r.number ≡ 23 ↔ ((at r.earlier).form ≡ 3) × ((at p).form ≡ 3)

-- A file is accepted as by the verdict; it is refused with any number but 13 as by the verdict, which names no earlier record; where the verdict is 13 at
-- p, the two records that meet are told; and they are told nowhere else.
abbrev pub Split : Type 0
Split =
    (file : List ℕ)
    → (judgement file ≡ Ok tt ↔ verdict file ≡ Ok tt)
    × ((k p : ℕ) → (k ≡ 13 → ⊥) → verdict file ≡ refused k p → judgement file ≡ refused k p)
    × ((p : ℕ) → verdict file ≡ refused 13 p → (r : Refusal) × (judgement file ≡ Err r) × Meets (record_at file) p r)
    × ((r : Refusal) → judgement file ≡ Err r → tells_of_two r.number ≡ true → verdict file ≡ refused 13 r.position)
