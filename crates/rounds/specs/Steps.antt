-- What the steps of a round are handed, and what a net gives them. Only contracts of functions inside our crates cite it.
--   wiring             the components and the wires, which no round writes
--   bare cs            the components cs alone, as many as a table of full size has words of: what a step of a round looks at
--   state_at            the ports and the two lists that a round changes as it goes; no step reads the current list
--   CanEvaluate, CanSend   component i can be evaluated; wire w can be sent along, and its target appended
--   CanReach             the wire w can be sent along, whatever is listed
--   CanRun               all components and all wires can; runs_kept: it depends on the ports by their number
--   ListFits T n t       the first n entries of the table t name components of T, none twice
--   ListInside cs n t    the words of the components that the first n entries of the table t name stand in the table cs
-- Assumes nothing.
use Rattle.std.specs.Prelude.{ℕ, ◌+◌, ◌≤◌, ◌<◌, ◌≡◌, true, ◌&&◌, List, [], length, get_or, take}
use mathlib.Core.Path.{sym, subst}
use Rattle.lists.specs.Lists.{append_new}
use Rattle.kinds.specs.Kinds.{primitive, obeys}
use Rattle.tables.specs.declared.Wire.{Wire}
use Rattle.tables.specs.declared.Counts.{Counts}
use Rattle.tables.specs.Tables.{Tables, tables_of, counts_of, fields_at, first_input, first_output, input_place, output_place, wire_at}
use Rattle.tables.specs.Words.{RowInside, RowsInside, WiresInside}
use Rattle.net.specs.Net.{names}
use Rattle.rounds.specs.Round.{State}

-- The components and the wires, and how many there are.
abbrev pub wiring : List ℕ → List ℕ → Counts → Tables
wiring cs ws m = tables_of cs [] [] ws [] [] [] m

-- Components, as many as a table has words of, and no wire.
abbrev pub bare : List ℕ → Tables
bare cs = wiring cs [] (counts_of 256 1024 1024 0 256 256 256)

-- The ports, the following list and the standing list.
abbrev pub state_at : List ℕ → List ℕ → List ℕ → List ℕ → State
state_at ins outs fol std = record { inputs = ins; outputs = outs; current = []; following = fol; standing = std }

-- Component i obeys the table of kinds, and its words and its ports stand in the tables.
pub record CanEvaluate (T : Tables) (is os : List ℕ) (i : ℕ) : Type 0 where
  pub few : i < 256
  pub row : RowInside T.components i
  pub obeyed : (primitive (fields_at T i) && obeys (fields_at T i)) ≡ true
  pub inputs_in : first_input T i + (fields_at T i).inputs ≤ length is
  pub outputs_in : first_output T i + (fields_at T i).outputs ≤ length os

-- The ends of a wire and the words of their components stand in the tables, and the list of n entries in the table t has room for its target, one of full size.
pub record CanSend (T : Tables) (is os : List ℕ) (n : ℕ) (t : List ℕ) (w : Wire) : Type 0 where
  pub source_row : RowInside T.components w.src.comp.0
  pub target_row : RowInside T.components w.dst.comp.0
  pub source : output_place T w.src < length os
  pub target : input_place T w.dst < length is
  pub few : w.dst.comp.0 < 256
  pub count : n ≤ length t
  pub room : length (append_new w.dst.comp.0 (take n t)) ≤ length t

-- What a wire of a net gives: it joins components of the net, and both its ends stand in the tables.
pub record CanReach (T : Tables) (is os : List ℕ) (w : Wire) : Type 0 where
  pub few : T.counts.components ≤ 256
  pub rows : RowsInside T.components T.counts.components
  pub leaves : w.src.comp.0 < T.counts.components
  pub named : w.dst.comp.0 < T.counts.components
  pub source : output_place T w.src < length os
  pub target : input_place T w.dst < length is

-- What a net gives: components obey the table of kinds; their words and those of wires, their ports and the ends of wires stand in the tables.
pub record CanRun (T : Tables) (is os : List ℕ) : Type 0 where
  pub few : T.counts.components ≤ 256
  pub few_wires : T.counts.wires ≤ 1024
  pub rows : RowsInside T.components T.counts.components
  pub wires_in_lem : WiresInside T.wires T.counts.wires
  pub obeyed : (i : ℕ) → i < T.counts.components → (primitive (fields_at T i) && obeys (fields_at T i)) ≡ true
  pub inputs_in : (i : ℕ) → i < T.counts.components → first_input T i + (fields_at T i).inputs ≤ length is
  pub outputs_in : (i : ℕ) → i < T.counts.components → first_output T i + (fields_at T i).outputs ≤ length os
  pub source : (k : ℕ) → k < T.counts.wires → output_place T (wire_at T k).src < length os
  pub target : (k : ℕ) → k < T.counts.wires → input_place T (wire_at T k).dst < length is
  pub leaves : (k : ℕ) → k < T.counts.wires → (wire_at T k).src.comp.0 < T.counts.components
  pub named : (k : ℕ) → k < T.counts.wires → (wire_at T k).dst.comp.0 < T.counts.components

-- It depends on the tables of ports by their lengths only.
pub runs_kept : (T : Tables) (is os ms ns : List ℕ) → CanRun T is os → length ms ≡ length is → length ns ≡ length os → CanRun T ms ns
runs_kept T is os ms ns g e f =
    record {
      few = g.few;
      few_wires = g.few_wires;
      rows = g.rows;
      wires_in_lem = g.wires_in_lem;
      obeyed = g.obeyed;
      inputs_in = λ i h. subst (λ (n : ℕ). first_input T i + (fields_at T i).inputs ≤ n) (sym e) (g.inputs_in i h);
      outputs_in = λ i h. subst (λ (n : ℕ). first_output T i + (fields_at T i).outputs ≤ n) (sym f) (g.outputs_in i h);
      source = λ k h. subst (λ (n : ℕ). output_place T (wire_at T k).src < n) (sym f) (g.source k h);
      target = λ k h. subst (λ (n : ℕ). input_place T (wire_at T k).dst < n) (sym e) (g.target k h);
      leaves = g.leaves;
      named = g.named;
    }

-- A list in a table of full size.
pub record ListFits (T : Tables) (n : ℕ) (t : List ℕ) : Type 0 where
  pub whole : 256 ≤ length t
  pub count : n ≤ length t
  pub named : names T (take n t) ≡ true

-- What a list names can be looked up.
abbrev pub ListInside : List ℕ → ℕ → List ℕ → Type 0
ListInside cs n t = (n ≤ length t) × ((j : ℕ) → j < n → RowInside cs (get_or t j 0))

-- The count is within the table, and the state is what it should be.
pub record Step (n : ℕ) (t : List ℕ) (s should : State) : Type 0 where
  pub count : n ≤ length t
  pub state : s ≡ should
