-- An edit of a state: a port is set, and the component is appended to the list of the edit's way. docs/SPECIFICATION.md, "Rounds" (edits).
-- Assumes nothing.
use Rattle.std.specs.Prelude.{ℕ, cond, set}
use Rattle.lists.specs.Lists.{append_new}
use Rattle.kinds.specs.declared.Kind.TheVariants.{Switch}
use Rattle.kinds.specs.Kinds.{is}
use Rattle.tables.specs.Tables.{Tables, fields_at, first_input, first_output}
use Rattle.rounds.specs.Round.{State, with_inputs, with_outputs, with_current, with_standing}

-- The two ways: "to the current list, unless there, and not to the standing list"; and the old way, to the standing list.
pub data Way : Type 0 where
  goes_first : Way
  stands : Way

-- Component i is appended to the list of the way, unless there; what else the lists name they still name.
abbrev pub appended : Way → ℕ → State → State
appended goes_first i s = with_current (append_new i s.current) s
appended stands i s = with_standing (append_new i s.standing) s

-- T is the tables as they came in, of which an edit writes no component and no wire.
module _ (T : Tables) where
  -- Component i's port is set to v: a Switch's output, or else an Input's input.
  unfoldable pub port_set : ℕ → ℕ → State → State
  port_set i v s = cond (is Switch (fields_at T i)) (with_outputs (set s.outputs (first_output T i) v) s) (with_inputs (set s.inputs (first_input T i) v) s)

  -- An edit sets the port and appends the component.
  unfoldable pub edited_state : Way → ℕ → ℕ → State → State
  edited_state way i v s = appended way i (port_set i v s)
