-- What calm says of the drawing: the question that a screen asks. docs/SPECIFICATION.md, "Rounds" (calm) and "Flattening" (satisfied).
--   CalmSatisfied   calm, once a round has run, means that the drawing is satisfied, Clocks taken at the last round's time
-- Assumes nothing.
use Rattle.std.specs.Prelude.{◌≡◌, ℕ, true, List}
use Rattle.component.specs.Record.{record_at, record_count}
use Rattle.tables.specs.Tables.{Tables}
use Rattle.rounds.specs.Round.{calm}
use Rattle.demands.specs.Reached.{Reached}
use Rattle.demands.specs.Demand.{Satisfied}

abbrev pub CalmSatisfied : Type 0
CalmSatisfied =
    (file : List ℕ) (t : ℕ) (T : Tables) → Reached file true t T → calm T ≡ true → Satisfied (record_at file) (record_count file) T t
