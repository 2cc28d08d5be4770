-- What the bits of an evaluation and of a round, and the number of a run, say of the outputs. docs/SPECIFICATION.md, "Rounds" (which outputs moved).
--   EvaluatedRight    of a component evaluated alone, bit i is set exactly where its output i changed
--   changed T U i j   output j of component i holds another number in the tables U than in the tables T
--   BitsRight         the same of each component's word in a round; no output changed that no bit tells of
--   BitsBeside        a round that is lent bits enough leaves the tables of a round, whatever the bits held; one that is not leaves everything
--   RunSum            the number that a run answers is the sum over its rounds
-- Assumes nothing.
use Rattle.std.specs.Prelude.{◌≡◌, ℕ, zero, suc, ◌≤◌, ◌<◌, Bool, false, not, ◌&&◌, List, length, get_or, eqb, ltb}
use Rattle.lists.specs.Lists.{from, has, total}
use Rattle.value.specs.Value.{level, bit_of}
use Rattle.kinds.specs.declared.table.Fields.{Fields}
use Rattle.primitive.specs.Evaluate.{Evaluates}
use Rattle.tables.specs.Tables.{Tables, fields_at, end_at, output_place, current_list}
use Rattle.net.specs.Net.{net_number}
use Rattle.rounds.specs.Round.{bits_by, round_bits}
use Rattle.simulator.specs.Calls.{round_tables, round_number, round_call, round_moved, bits_set, run}
use Rattle.simulator.specs.Ordered.{wires_by, ordered_number, ordered_tables}
use Rattle.std.specs.Prelude.{Ok}

-- Evaluating a component, not refused, which finds the outputs ys and leaves zs: bit j tells of the component's output j and of nothing else.
abbrev pub EvaluatedRight : Type 0
EvaluatedRight =
    (f : Fields) (xs vs ys ws : List ℕ) (t bits : ℕ) (zs : List ℕ) → Evaluates f xs vs ys ws t (Ok bits) zs
    → (j : ℕ) → bit_of bits j ≡ level (ltb j f.outputs && not (eqb (get_or ys j 0) (get_or zs j 0)))

-- Output j of component i, of T, holds another number in U than in T.
abbrev pub changed : Tables → Tables → ℕ → ℕ → Bool
changed T U i j = not (eqb (get_or T.outputs (output_place T (end_at i j)) 0) (get_or U.outputs (output_place T (end_at i j)) 0))

-- The bits that a round passes on, on the tables T, and the tables U that it leaves: a word for each component of the current list, whose bit j tells of
-- output j and of nothing else; and a component that the list does not name changes no output.
abbrev pub Tells : Tables → List ℕ → Tables → Type 0
Tells T bits U =
    (length bits ≡ length (current_list T))
    × ((k j : ℕ) → k < length (current_list T)
    → bit_of (get_or bits k 0) j ≡ level (ltb j (fields_at T (get_or (current_list T) k 0)).outputs && changed T U (get_or (current_list T) k 0) j))
    × ((i j : ℕ) → i < T.counts.components → j < (fields_at T i).outputs → has i (current_list T) ≡ false → changed T U i j ≡ false)

-- Every round that is made tells so, in stored order and in one that it is handed.
abbrev pub BitsRight : Type 0
BitsRight =
    ((T : Tables) (t : ℕ) → net_number T ≡ 0 → Tells T (round_bits t T) (round_tables T t))
    × ((T : Tables) (order bits : List ℕ) (t : ℕ) → ordered_number T order bits ≡ 0
    → Tells T (bits_by (wires_by T order) t T) (ordered_tables T order bits t))

-- "Values and lists stay those of demand 2."
abbrev pub BitsBeside : Type 0
BitsBeside =
    (T : Tables) (bits : List ℕ) (t : ℕ)
    → (256 ≤ length bits → (round_number T bits ≡ net_number T) × (round_call T bits t ≡ round_tables T t))
    × (length bits < 256 → (round_number T bits ≡ 2) × (round_call T bits t ≡ T) × (round_moved T bits t ≡ bits))

-- The tables after k rounds at time t.
abbrev pub rounds_on : ℕ → ℕ → Tables → Tables
rounds_on zero t T = T
rounds_on (suc k) t T = rounds_on k t (round_tables T t)

-- The bits set in round 0, round 1, and so on, as many rounds as the run has.
abbrev pub RunSum : Type 0
RunSum =
    (limit t : ℕ) (T : Tables)
    → (run limit t T).moved ≡ total (λ k. total bits_set (round_bits t (rounds_on k t T))) (from 0 (run limit t T).rounds)
