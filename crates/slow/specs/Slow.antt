-- The slow engine: rounds, edits and runs until calm straight from the drawing file, with no wire table. docs/SPECIFICATION.md, "The slow
-- engine". How a component is evaluated, a wire sent along and a port set, what a round, its bits and a run are, the other engine's definitions
-- say (rounds/specs/Round, simulator/specs): they are handed what is worked out here, the components and the wires of each.
--   drawn S                 the components of the file, with the ports and the lists of S, and no wire
--   leaving i, led_into i    the wires that leave primitive i, and whether one enters it, worked out through the maps
--   slow_right S             not 20
use Rattle.std.specs.Prelude.{◌≡◌, ℕ, Bool, cond, not, ◌&&◌, List, [], ◌∷◌, map, length, replicate, eqb, leb}
use Rattle.lists.specs.Lists.{from, any, joined, overlay, refusal, ◌if◌}
use Rattle.kinds.specs.Given.{Given, done, declined, Verdict, verdict_gives}
use Rattle.component.specs.declared.Record.{Record}
use Rattle.component.specs.Record.{record_at, record_count, sized}
use Rattle.component.specs.Drawing.{inputs_before, outputs_before}
use Rattle.flatten.specs.declared.Pin.{Pin}
use Rattle.flatten.specs.Descent.{comes_from, goes_to, flat}
use Rattle.flatten.specs.Verdict.{refused, and_then, list_by}
use Rattle.meeting.specs.Meeting.{judgement}
use Rattle.tables.specs.declared.Counts.{Counts}
use Rattle.tables.specs.declared.Wire.{Wire}
use Rattle.tables.specs.Tables.{Tables, tables_of, counts_of, fields_at, current_list, following_list, standing_list}
use Rattle.laying.specs.Laid.{primitives, primitive_words, flat_pin}
use Rattle.load.specs.Load.{drawing_tables}
use Rattle.net.specs.Net.{values_fit, consts_held, names}
use Rattle.rounds.specs.Round.{state_of, leave, moved_by, round}
use Rattle.simulator.specs.Edit.{Way, edited_state}
use Rattle.simulator.specs.Calls.{edit_checks, Run, run_by}
use Rattle.slow.specs.declared.SlowCounts.{SlowCounts}
use Rattle.simulator.specs.declared.Ran.{Ran}
use Rattle.std.specs.Prelude.{Result, Ok, Err}
use Rattle.kinds.specs.declared.answers.Refusal.{Refusal}

-- The five lent tables, and how many entries of each are in use.
pub record SlowTables : Type 0 where
  pub inputs : List ℕ
  pub outputs : List ℕ
  pub current : List ℕ
  pub following : List ℕ
  pub standing : List ℕ
  pub counts : SlowCounts

-- The tables as a function is lent them; contracts build both their sides with it.
abbrev pub slow_tables_of : List ℕ → List ℕ → List ℕ → List ℕ → List ℕ → SlowCounts → SlowTables
slow_tables_of is os cur fol std m = record { inputs = is; outputs = os; current = cur; following = fol; standing = std; counts = m }

-- Not 2: no table is shorter than full size.
unfoldable pub slow_full : SlowTables → Bool
slow_full S =
    leb 1024 (length S.inputs) && leb 1024 (length S.outputs)
    && leb 256 (length S.current) && leb 256 (length S.following) && leb 256 (length S.standing)

-- What the other engine's tables hold but for components and wires.
abbrev pub slow_counts_of : Counts → SlowCounts
slow_counts_of m =
    record { inputs = m.inputs; outputs = m.outputs; current = m.current; following = m.following; standing = m.standing }

abbrev pub slow_of : Tables → SlowTables
slow_of T = slow_tables_of T.inputs T.outputs T.current T.following T.standing (slow_counts_of T.counts)

-- The counts of the other engine's tables: so many components, and no wire.
abbrev pub counts_for : SlowCounts → ℕ → Counts
counts_for m k = counts_of k m.inputs m.outputs 0 m.current m.following m.standing

module _ (at : ℕ → Record) (n : ℕ) where
  -- The words of the components of the file, its primitives in file order, in a table of zeros.
  abbrev pub drawn_words : List ℕ
  drawn_words = overlay (joined (primitive_words at n) (primitives at n)) (replicate 2048 0)

  -- These components, with the ports and the lists of S; no wire.
  abbrev pub drawn : SlowTables → Tables
  drawn S =
      tables_of drawn_words S.inputs S.outputs [] S.current S.following S.standing
      (counts_for S.counts (length (primitives at n)))

  -- The wires that leave primitive i and are of the connection at p: one to each primitive input that it leads to, in map order, if it
  -- comes from an output of primitive i.
  abbrev pub leaving_by : ℕ → ℕ → List Wire
  leaving_by i p =
      cond (eqb (at p).form 2 && eqb (flat at n (comes_from at n p).comp) i)
      (map (λ (t : Pin). record { src = flat_pin at n (comes_from at n p); dst = flat_pin at n t }) (goes_to at n p)) []

  -- The wires that leave primitive i, in order of their connections, "each source and target" worked out "through the maps".
  unfoldable pub leaving : ℕ → List Wire
  leaving i = joined (leaving_by i) (from 0 n)

  -- The record at p is a connection that leads into primitive i.
  abbrev pub enters_by : ℕ → ℕ → Bool
  enters_by i p = eqb (at p).form 2 && any (λ (t : Pin). eqb (flat at n t.comp) i) (goes_to at n p)

  -- A connection leads into primitive i.
  unfoldable pub led_into : ℕ → Bool
  led_into i = any (enters_by i) (from 0 n)

  -- A round at time t: the other engine's, these wires handed in.
  unfoldable pub slow_round_of : ℕ → Tables → Tables
  slow_round_of t D = leave D (round D leaving t (state_of D))

  -- The bits that it passes on.
  unfoldable pub slow_bits : ℕ → Tables → List ℕ
  slow_bits t D = moved_by D leaving t (state_of D) (current_list D)

  -- Not 20: "its ports are the file's, values fit, each Const's output is its value and lists name primitives without repeats". A list
  -- has at most 256 entries.
  unfoldable pub slow_right : SlowTables → Bool
  slow_right S =
      (eqb S.counts.inputs (inputs_before at n) && eqb S.counts.outputs (outputs_before at n)
      && leb S.counts.current 256 && leb S.counts.following 256 && leb S.counts.standing 256)
      && values_fit (drawn S) && consts_held (drawn S)
      && (names (drawn S) (current_list (drawn S)) && names (drawn S) (following_list (drawn S)) && names (drawn S) (standing_list (drawn S)))

  -- "where 16 stood": 20.
  unfoldable pub slow_number : SlowTables → ℕ
  slow_number S = refusal ((20 if not (slow_right S)) ∷ [])

  -- An edit of primitive i to the number v, of either way: 20, 17, 18, 19.
  unfoldable pub slow_edit_number : SlowTables → ℕ → ℕ → ℕ
  slow_edit_number S i v =
      refusal ((20 if not (slow_right S)) ∷ edit_checks (length (primitives at n)) (fields_at (drawn S) i) (led_into i) i v)

-- The verdict of a call: "a load's own", 1, 2 unless all that is lent is long enough, 3 to 15; then the call's number k.
abbrev pub slow_verdict : List ℕ → Bool → ℕ → Verdict
slow_verdict file long k = cond (sized file) (cond long (and_then (judgement file) k) (refused 2 0)) (refused 1 0)

-- The tables after a call of that verdict: a refusal changes none.
abbrev pub slow_by : Verdict → SlowTables → SlowTables → SlowTables
slow_by (Ok _) new old = new
slow_by (Err r) new old = old

-- Each call on a file and on tables S.
module _ (file : List ℕ) (S : SlowTables) where
  abbrev pub slow_drawn : Tables
  slow_drawn = drawn (record_at file) (record_count file) S

  -- A load: the ports and the lists that a load gives the other engine.
  unfoldable pub slow_load_verdict : Verdict
  slow_load_verdict = slow_verdict file (slow_full S) 0

  unfoldable pub slow_load_tables : SlowTables
  slow_load_tables = slow_by slow_load_verdict (slow_of (drawing_tables (record_at file) (record_count file) slow_drawn)) S

  -- A round at time t, lent a table of bits: "2 also for a lent table of bits shorter than 256".
  unfoldable pub slow_round_verdict : List ℕ → Verdict
  slow_round_verdict bits = slow_verdict file (slow_full S && leb 256 (length bits)) (slow_number (record_at file) (record_count file) S)

  unfoldable pub slow_round_tables : List ℕ → ℕ → SlowTables
  slow_round_tables bits t = slow_by (slow_round_verdict bits) (slow_of (slow_round_of (record_at file) (record_count file) t slow_drawn)) S

  -- The table of bits after it.
  unfoldable pub slow_moved : List ℕ → ℕ → List ℕ
  slow_moved bits t = list_by (slow_round_verdict bits) (slow_bits (record_at file) (record_count file) t slow_drawn) bits

  -- An edit of primitive i to the number v, of a way.
  unfoldable pub slow_edit_verdict : ℕ → ℕ → Verdict
  slow_edit_verdict i v = slow_verdict file (slow_full S) (slow_edit_number (record_at file) (record_count file) S i v)

  unfoldable pub slow_edit_tables : Way → ℕ → ℕ → SlowTables
  slow_edit_tables way i v = slow_by (slow_edit_verdict i v) (slow_of (leave slow_drawn (edited_state slow_drawn way i v (state_of slow_drawn)))) S

  -- Run until calm, with a time and a limit of rounds.
  unfoldable pub slow_run_verdict : Verdict
  slow_run_verdict = slow_verdict file (slow_full S) (slow_number (record_at file) (record_count file) S)

  abbrev pub slow_run : ℕ → ℕ → Run
  slow_run t limit = run_by (slow_round_of (record_at file) (record_count file) t) (slow_bits (record_at file) (record_count file) t) limit slow_drawn

  unfoldable pub slow_run_tables : ℕ → ℕ → SlowTables
  slow_run_tables t limit = slow_by slow_run_verdict (slow_of (slow_run t limit).tables) S

-- The counts as values.
abbrev pub slow_words : SlowCounts → List ℕ
slow_words m = m.inputs ∷ m.outputs ∷ m.current ∷ m.following ∷ m.standing ∷ []

-- What each answer gives: the new counts, or the refusal; of a run also the rounds, the evaluations and how many bits were set.
abbrev pub slow_gives : Result SlowCounts Refusal → Given
slow_gives (Ok m) = done (slow_words m)
slow_gives (Err r) = declined r

abbrev pub slow_ran_gives : Result (Ran SlowCounts) Refusal → Given
slow_ran_gives (Ok a) = done (a.rounds ∷ a.evaluations ∷ a.moved ∷ slow_words a.counts)
slow_ran_gives (Err r) = declined r

-- The counts after a call: those in the answer, or the ones before where it is refused.
abbrev pub slow_counts_after : Result SlowCounts Refusal → SlowCounts → SlowCounts
slow_counts_after (Ok m) old = m
slow_counts_after (Err r) old = old

abbrev pub slow_counts_after_run : Result (Ran SlowCounts) Refusal → SlowCounts → SlowCounts
slow_counts_after_run (Ok a) old = a.counts
slow_counts_after_run (Err r) old = old

-- The promises: the answer r gives what the verdict gives, with the new counts where it accepts, and the tables `left` are those after the call.
abbrev pub SlowLoads : List ℕ → SlowTables → Result SlowCounts Refusal → SlowTables → Type 0
SlowLoads file before r left =
    (slow_gives r ≡ verdict_gives (slow_load_verdict file before) (slow_words left.counts)) × (left ≡ slow_load_tables file before)

abbrev pub SlowRounds : List ℕ → ℕ → List ℕ → SlowTables → Result SlowCounts Refusal → SlowTables → List ℕ → Type 0
SlowRounds file t bits before r left moved =
    (slow_gives r ≡ verdict_gives (slow_round_verdict file before bits) (slow_words left.counts))
    × (left ≡ slow_round_tables file before bits t) × (moved ≡ slow_moved file before bits t)

abbrev pub SlowEdits : List ℕ → Way → ℕ → ℕ → SlowTables → Result SlowCounts Refusal → SlowTables → Type 0
SlowEdits file way i v before r left =
    (slow_gives r ≡ verdict_gives (slow_edit_verdict file before i v) (slow_words left.counts)) × (left ≡ slow_edit_tables file before way i v)

abbrev pub SlowRuns : List ℕ → ℕ → ℕ → SlowTables → Result (Ran SlowCounts) Refusal → SlowTables → Type 0
SlowRuns file t limit before r left =
    let made = slow_run file before t limit in
    (slow_ran_gives r
    ≡ verdict_gives (slow_run_verdict file before) (made.rounds ∷ made.evaluations ∷ made.moved ∷ slow_words left.counts))
    × (left ≡ slow_run_tables file before t limit)
