-- What the functions of src/ are handed and answer on their way. Only contracts of functions inside this crate cite it; nobody has to believe
-- anything here.
--   lead_to fs f t       a wire of the net from its output f to the input t of the drawing, fs being the flat indexes
--   Drawing             an accepted file with its index, its flat indexes and the words of its components, and tables of ports of full size; drawing_kept: it
--                       depends on the tables of ports by their lengths
--   set_by, drawn_inputs, drawn_outputs   the ports after an edit
--   prepared_verdict r   the verdict that a preparation comes to
--   IsPrepared          the same with tables that 20 does not refuse
--   InRun file ix fs T   T are the tables of the drawing, which 20 does not refuse
-- Assumes nothing.
use Rattle.std.specs.Prelude.{◌≡◌, ℕ, ◌≤◌, true, List, length}
use mathlib.Core.Path.{sym, subst}
use Rattle.component.specs.declared.Record.{Record}
use Rattle.component.specs.Record.{IsBytes, record_at, record_count}
use Rattle.flatten.specs.declared.Pin.{Pin}
use Rattle.tables.specs.declared.End.{End}
use Rattle.tables.specs.declared.Wire.{Wire}
use Rattle.tables.specs.Tables.{Tables}
use Rattle.laying.specs.Laid.{primitives}
use Rattle.laying.specs.Laying.{end_by, Ready as IsReady}
use Rattle.simulator.specs.Asked.{inputs_set, outputs_set}
use Rattle.slow.specs.Slow.{SlowTables, slow_full, slow_of, drawn, drawn_words, slow_right}
use Rattle.kinds.specs.Given.{Verdict}
use Rattle.std.specs.Prelude.{Result, Ok, Err}
use Rattle.kinds.specs.declared.answers.Refusal.{Refusal}

abbrev pub lead_to : List ℕ → End → Pin → Wire
lead_to fs f t = record { src = f; dst = end_by fs t }

pub record Drawing (file index fs cs is os : List ℕ) : Type 0 where
  pub ready : IsReady file index fs
  pub words : cs ≡ drawn_words (record_at file) (record_count file)
  pub inputs : 1024 ≤ length is
  pub outputs : 1024 ≤ length os

pub drawing_kept : (file index fs cs is os ms ns : List ℕ) → Drawing file index fs cs is os → length ms ≡ length is → length ns ≡ length os
    → Drawing file index fs cs ms ns
drawing_kept file index fs cs is os ms ns d e f =
    record {
      ready = d.ready;
      words = d.words;
      inputs = subst (λ (n : ℕ). 1024 ≤ n) (sym e) d.inputs;
      outputs = subst (λ (n : ℕ). 1024 ≤ n) (sym f) d.outputs;
    }

-- The verdict that a preparation comes to.
abbrev pub prepared_verdict : Result ℕ Refusal → Verdict
prepared_verdict (Ok k) = Ok tt
prepared_verdict (Err r) = Err r

pub record IsPrepared (file index fs cs : List ℕ) (k : ℕ) (S : SlowTables) : Type 0 where
  pub ready : IsReady file index fs
  pub words : cs ≡ drawn_words (record_at file) (record_count file)
  pub count : k ≡ length (primitives (record_at file) (record_count file))
  pub full : slow_full S ≡ true
  pub right : slow_right (record_at file) (record_count file) S ≡ true

-- The same between the rounds of a run.
pub record InRun (file ix fs : List ℕ) (T : Tables) : Type 0 where
  pub bytes : IsBytes file
  pub ready : IsReady file ix fs
  pub is_drawn : T ≡ drawn (record_at file) (record_count file) (slow_of T)
  pub full : slow_full (slow_of T) ≡ true
  pub right : slow_right (record_at file) (record_count file) (slow_of T) ≡ true

-- A table of ports after an edit of that verdict.
abbrev pub set_by : Verdict → List ℕ → List ℕ → List ℕ
set_by (Ok _) new old = new
set_by (Err r) new old = old

-- The inputs, and the outputs, with the port of component i of the file set to v.
abbrev pub drawn_inputs : (ℕ → Record) → ℕ → ℕ → ℕ → List ℕ → List ℕ
drawn_inputs at n i v ins = inputs_set (drawn_words at n) i v ins

abbrev pub drawn_outputs : (ℕ → Record) → ℕ → ℕ → ℕ → List ℕ → List ℕ
drawn_outputs at n i v outs = outputs_set (drawn_words at n) i v outs
