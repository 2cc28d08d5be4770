-- What the slow engine owes: "Its port values, three lists and refusals after every call equal those of the flat engine, proved for every accepted
-- drawing and any calls from a load." docs/SPECIFICATION.md, "The slow engine". Both engines are lent the same ports and lists: `slow_of T` is
-- what the flat engine's tables T hold of them.
--   LeavingStored, LedIntoStored   the wires that are worked out are the stored ones
--   SlowAsLoad                     a load is refused alike, and leaves the same
--   SameCalls file T               each call on these tables is refused alike, leaves the same and tells the same
--   SlowEqual                      all of that, of any tables that calls reach from a load
--   SlowAlong                      the same said of any list of calls, made on both engines side by side
--   Where16Stood                   lent any ports and lists, it gives 20 where the flat engine gives 16, and else the calls are the same
-- Assumes nothing.
use Rattle.std.specs.Prelude.{◌≡◌, ℕ, Bool, true, List, [], ◌∷◌}
use Rattle.component.specs.declared.Record.{Record}
use Rattle.component.specs.Record.{record_at, record_count, IsBytes}
use Rattle.flatten.specs.Verdict.{and_then}
use Rattle.tables.specs.Tables.{Tables, tables_of, counts_of, full_size}
use Rattle.laying.specs.Laid.{flat_wires}
use Rattle.load.specs.Load.{load_verdict, load_tables}
use Rattle.net.specs.Net.{is_net, net_number}
use Rattle.rounds.specs.Round.{wires_from}
use Rattle.simulator.specs.Edit.{Way}
use Rattle.simulator.specs.Calls.{round_number, round_call, round_moved, driven, edit_number, edit_tables, Run, run, run_tables}
use Rattle.slow.specs.Slow.{SlowTables, slow_full, slow_of, leaving, led_into, slow_right, slow_load_verdict, slow_load_tables, slow_round_verdict, slow_round_tables}
use Rattle.slow.specs.Slow.{slow_moved, slow_edit_verdict, slow_edit_tables, slow_run_verdict, slow_run, slow_run_tables}
use Rattle.demands.specs.Reached.{Call, call_number, call_tables, Reached}
use Rattle.demands.specs.Reached as calls
use Rattle.kinds.specs.Given.{Verdict}
use Rattle.std.specs.Prelude.{Ok}

-- "working out each source and target through the maps when needed": for any records, what is worked out of primitive i are the wires that a load
-- stores and that leave i, in their order.
abbrev pub LeavingStored : Type 0
LeavingStored = (at : ℕ → Record) (n i : ℕ) → leaving at n i ≡ wires_from (flat_wires at n) i

-- A connection leads into primitive i where a wire of the tables enters it.
abbrev pub LedIntoStored : Type 0
LedIntoStored =
    (file : List ℕ) (ran : Bool) (t : ℕ) (T : Tables) → Reached file ran t T → (i : ℕ) → led_into (record_at file) (record_count file) i ≡ driven T i

-- "Refusals: a load's own": with tables of full size both engines refuse a file alike, whatever the tables hold; lent the same five, they leave the
-- same; and any five of full size can be lent to both.
abbrev pub SlowAsLoad : Type 0
SlowAsLoad =
    (file : List ℕ)
    → ((S : SlowTables) (T : Tables) → slow_full S ≡ true → full_size T ≡ true → slow_load_verdict file S ≡ load_verdict file T)
    × ((T : Tables) → full_size T ≡ true
    → (slow_load_verdict file (slow_of T) ≡ load_verdict file T) × (slow_load_tables file (slow_of T) ≡ slow_of (load_tables file T)))
    × ((S : SlowTables) → slow_full S ≡ true → (T : Tables) × (full_size T ≡ true) × (slow_of T ≡ S))

-- A call on tables T and on what T holds of ports and lists. A number of the flat engine's, at position 0, is the verdict `and_then Accepted`.
module _ (file : List ℕ) (T : Tables) where
  -- A round, lent a table of bits of any length: also the bits that it passes on.
  abbrev pub SameRounds : Type 0
  SameRounds =
      (bits : List ℕ) (t : ℕ)
      → (slow_round_verdict file (slow_of T) bits ≡ and_then (Ok tt) (round_number T bits))
      × (slow_round_tables file (slow_of T) bits t ≡ slow_of (round_call T bits t))
      × (slow_moved file (slow_of T) bits t ≡ round_moved T bits t)

  -- "both ways of editing".
  abbrev pub SameEdits : Type 0
  SameEdits =
      (way : Way) (i v : ℕ)
      → (slow_edit_verdict file (slow_of T) i v ≡ and_then (Ok tt) (edit_number T i v))
      × (slow_edit_tables file (slow_of T) way i v ≡ slow_of (edit_tables way T i v))

  -- Run until calm: also as many rounds, evaluations and changes of an output.
  abbrev pub SameRuns : Type 0
  SameRuns =
      (t limit : ℕ)
      → let slow = slow_run file (slow_of T) t limit in let flat = run limit t T in
      (slow_run_verdict file (slow_of T) ≡ and_then (Ok tt) (net_number T))
      × (slow_run_tables file (slow_of T) t limit ≡ slow_of (run_tables T t limit))
      × (slow.rounds ≡ flat.rounds) × (slow.evaluations ≡ flat.evaluations) × (slow.moved ≡ flat.moved)

  abbrev pub SameCalls : Type 0
  SameCalls = SameRounds × SameEdits × SameRuns

-- "after every call", "for every accepted drawing and any calls from a load".
abbrev pub SlowEqual : Type 0
SlowEqual = SlowAsLoad × ((file : List ℕ) (ran : Bool) (t : ℕ) (T : Tables) → Reached file ran t T → SameCalls file T)

-- A call that both engines have; a round in an order is the flat engine's alone.
pub data SharedCall : Type 0 where
  rounded : ℕ → List ℕ → SharedCall
  edited : Way → ℕ → ℕ → SharedCall
  until_calm : ℕ → ℕ → SharedCall

-- It as the flat engine's.
abbrev pub flat_call : SharedCall → Call
flat_call (rounded t bits) = calls.rounded t bits
flat_call (edited way i v) = calls.edited way i v
flat_call (until_calm t limit) = calls.until_calm t limit

-- The calls one by one, on either engine: the verdict of each, and the words that it gives beside the tables and the counts: the table of bits after a
-- round; the rounds, evaluations and changes of a run.
abbrev pub run_words : Run → List ℕ
run_words r = r.rounds ∷ r.evaluations ∷ r.moved ∷ []

pub record Told : Type 0 where
  pub verdict : Verdict
  pub words : List ℕ

abbrev pub call_words : SharedCall → Tables → List ℕ
call_words (rounded t bits) T = round_moved T bits t
call_words (edited way i v) T = []
call_words (until_calm t limit) T = run_words (run limit t T)

-- The tables after these calls, the first one first, and what each told.
abbrev pub calls_tables : List SharedCall → Tables → Tables
calls_tables [] T = T
calls_tables (c ∷ cs) T = calls_tables cs (call_tables (flat_call c) T)

abbrev pub calls_told : List SharedCall → Tables → List Told
calls_told [] T = []
calls_told (c ∷ cs) T =
    record { verdict = and_then (Ok tt) (call_number (flat_call c) T); words = call_words c T } ∷ calls_told cs (call_tables (flat_call c) T)

-- The slow engine's.
module _ (file : List ℕ) where
  abbrev pub slow_call_verdict : SharedCall → SlowTables → Verdict
  slow_call_verdict (rounded t bits) S = slow_round_verdict file S bits
  slow_call_verdict (edited way i v) S = slow_edit_verdict file S i v
  slow_call_verdict (until_calm t limit) S = slow_run_verdict file S

  abbrev pub slow_call_tables : SharedCall → SlowTables → SlowTables
  slow_call_tables (rounded t bits) S = slow_round_tables file S bits t
  slow_call_tables (edited way i v) S = slow_edit_tables file S way i v
  slow_call_tables (until_calm t limit) S = slow_run_tables file S t limit

  abbrev pub slow_call_words : SharedCall → SlowTables → List ℕ
  slow_call_words (rounded t bits) S = slow_moved file S bits t
  slow_call_words (edited way i v) S = []
  slow_call_words (until_calm t limit) S = run_words (slow_run file S t limit)

  abbrev pub slow_calls_tables : List SharedCall → SlowTables → SlowTables
  slow_calls_tables [] S = S
  slow_calls_tables (c ∷ cs) S = slow_calls_tables cs (slow_call_tables c S)

  abbrev pub slow_calls_told : List SharedCall → SlowTables → List Told
  slow_calls_told [] S = []
  slow_calls_told (c ∷ cs) S = record { verdict = slow_call_verdict c S; words = slow_call_words c S } ∷ slow_calls_told cs (slow_call_tables c S)

-- One file is loaded on both engines, lent the same ports and lists, and accepted; then the same calls are made on both, refused ones among them, each
-- engine going on from what its own last call left. Each call told the same on both, and after the last, and so after each, ports and lists are the same.
abbrev pub SlowAlong : Type 0
SlowAlong =
    (file : List ℕ) (T : Tables) (cs : List SharedCall) → IsBytes file → load_verdict file T ≡ Ok tt
    → let slow = slow_load_tables file (slow_of T) in let flat = load_tables file T in
    (slow_calls_told file cs slow ≡ calls_told cs flat) × (slow_calls_tables file cs slow ≡ slow_of (calls_tables cs flat))

-- Ports and lists S, beside the components and wires of T.
abbrev pub beside : SlowTables → Tables → Tables
beside S T =
    tables_of T.components S.inputs S.outputs T.wires S.current S.following S.standing
    (counts_of T.counts.components S.counts.inputs S.counts.outputs T.counts.wires S.counts.current S.counts.following
    S.counts.standing)

-- "then, where 16 stood, 20": lent any ports and lists, whatever wrote them, the slow engine gives 20 where the flat engine, lent the same beside the
-- components and wires of a load, gives 16; and where neither is given, and none is too short, the calls are the same.
abbrev pub Where16Stood : Type 0
Where16Stood =
    (file : List ℕ) (ran : Bool) (t : ℕ) (T : Tables) → Reached file ran t T → (S : SlowTables)
    → (slow_right (record_at file) (record_count file) S ≡ is_net (beside S T))
    × (slow_full S ≡ true → is_net (beside S T) ≡ true → SameCalls file (beside S T))
