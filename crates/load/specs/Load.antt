-- A load: its answer and the tables it leaves. docs/SPECIFICATION.md, "Numbers given back", "Flattening" and "Rounds" (the state at load).
use Rattle.std.specs.Prelude.{ℕ, cond, List, length, replicate}
use Rattle.lists.specs.Lists.{from, joined, overlay}
use Rattle.primitive.specs.Evaluate.{starting}
use Rattle.component.specs.declared.Record.{Record}
use Rattle.component.specs.Record.{record_at, record_count, fields_of, sized}
use Rattle.component.specs.Drawing.{inputs_before, outputs_before}
use Rattle.flatten.specs.Verdict.{refused}
use Rattle.meeting.specs.Meeting.{judgement}
use Rattle.tables.specs.Tables.{Tables, wire_words, counts_of, tables_of, full_size, answer_gives, Changes}
use Rattle.laying.specs.Laid.{primitives, primitive_words, flat_wires, standing_at_load}
use Rattle.kinds.specs.Given.{Verdict, verdict_gives}
use Rattle.std.specs.Prelude.{Result, Ok, Err}
use Rattle.tables.specs.declared.Counts.{Counts}
use Rattle.kinds.specs.declared.answers.Refusal.{Refusal}

-- The tables after the load of an accepted drawing: all ports 0, a Const's output its value; following a copy of standing; current all components.
unfoldable pub drawing_tables : (ℕ → Record) → ℕ → Tables → Tables
drawing_tables at n T =
    tables_of (overlay (joined (primitive_words at n) (primitives at n)) T.components) (overlay (replicate (inputs_before at n) 0) T.inputs)
    (overlay (joined (λ x. starting (fields_of (at x))) (primitives at n)) T.outputs)
    (overlay (joined wire_words (flat_wires at n)) T.wires) (overlay (from 0 (length (primitives at n))) T.current)
    (overlay (standing_at_load at n) T.following) (overlay (standing_at_load at n) T.standing)
    (counts_of (length (primitives at n)) (inputs_before at n) (outputs_before at n) (length (flat_wires at n)) (length (primitives at n))
    (length (standing_at_load at n)) (length (standing_at_load at n)))

-- The verdict of a load: check 2 stands between 1 and 3.
unfoldable pub load_verdict : List ℕ → Tables → Verdict
load_verdict file T = cond (sized file) (cond (full_size T) (judgement file) (refused 2 0)) (refused 1 0)

-- The tables after a load, counts included: a refusal changes none.
abbrev pub tables_by : Verdict → Tables → Tables → Tables
tables_by (Ok _) new old = new
tables_by (Err r) new old = old

unfoldable pub load_tables : List ℕ → Tables → Tables
load_tables file T = tables_by (load_verdict file T) (drawing_tables (record_at file) (record_count file) T) T

-- The promise of `load`: its answer gives what the verdict gives, with the new counts where it is accepted.
abbrev pub Loads : List ℕ → Tables → Result Counts Refusal → Tables → Type 0
Loads file before r after = Changes answer_gives (verdict_gives (load_verdict file before)) (load_tables file before) r after
