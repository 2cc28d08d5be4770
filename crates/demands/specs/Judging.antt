-- What "satisfied or not" says of the drawing: the question that a screen asks between rounds. docs/SPECIFICATION.md, "Rounds" (satisfied or not) and
-- "Flattening" (satisfied).
--   JudgedSatisfied   judging what the lists name is "proved equal to judging all"; once a round has run it is right exactly where the drawing is
--                     satisfied, Clocks taken at the last round's time
-- Assumes nothing.
use Rattle.std.specs.Prelude.{◌≡◌, ◌↔◌, ℕ, Bool, true, List}
use Rattle.component.specs.Record.{record_at, record_count}
use Rattle.tables.specs.Tables.{Tables}
use Rattle.judging.specs.Judged.{judged_all, judged_named}
use Rattle.demands.specs.Reached.{Reached}
use Rattle.demands.specs.Demand.{Satisfied}

abbrev pub JudgedSatisfied : Type 0
JudgedSatisfied =
    (file : List ℕ) (ran : Bool) (t : ℕ) (T : Tables) → Reached file ran t T
    → (judged_named T ≡ judged_all T) × (ran ≡ true → (judged_named T ≡ true) ↔ Satisfied (record_at file) (record_count file) T t)
