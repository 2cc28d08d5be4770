-- The rounds of a listing. docs/SPECIFICATION.md, "The lamp drawing and marked cases".
--   ending b   how the rounds end, where b says whether they are calm
--   round_lines k r T   at most k rounds at time 0 until calm, of tables T, the next of them round r
-- Assumes nothing.
use Rattle.std.specs.Prelude.{ℕ, zero, suc, Bool, true, false, cond, List, ◌++◌}
use Rattle.tables.specs.Tables.{Tables, current_list}
use Rattle.rounds.specs.Round.{calm}
use Rattle.simulator.specs.Calls.{round_tables}
use Rattle.text.specs.Text.{ascii}
use Rattle.lines.specs.Lines.{round_line}

-- How the rounds end.
abbrev pub ending : Bool → List ℕ
ending b = cond b (ascii "calm\n") (ascii "not calm\n")

-- Rounds at time 0 until calm, each with the current list that it leaves: at most k of them, the next is round r.
unfoldable pub round_lines : ℕ → ℕ → Tables → List ℕ
round_lines zero r T = ending false
round_lines (suc k) r T =
    let U = round_tables T 0 in
    round_line r (current_list U) ++ cond (calm U) (ending true) (round_lines k (suc r) U)
