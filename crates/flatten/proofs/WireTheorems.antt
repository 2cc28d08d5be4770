-- What an accepted file is known to be: the theorems of this crate, of a file's bytes.
-- docs/SPECIFICATION.md, "Flattening" and "Numbers given back".
-- With `file` accepted, `at` is its records by position and `n` is how many it has.
-- Assumes nothing.
use mathlib.Core.Path.{◌≡◌}
use mathlib.Core.List.{List}
use Prim.Native.Nat.{ℕ, ◌≤◌}
use lib.ListN.{length}
use Rattle.lists.proofs.MembersLaws.{In, Distinct}
use Rattle.component.specs.declared.Record.{Record}
use Rattle.component.specs.Record.{record_at, record_count}
use Rattle.component.specs.Drawing.{primitives_before, inputs_before, outputs_before}
use Rattle.flatten.specs.declared.Pin.{Pin}
use Rattle.flatten.specs.declared.Lead.{Lead}
use Rattle.flatten.specs.Descent.{wires}
use Rattle.flatten.specs.Leads.{Leads}
use Rattle.flatten.specs.Verdict.{verdict}
use Rattle.flatten.proofs.Accepted.{Passed, accepted_check, accepted_passed}
use Rattle.flatten.proofs.Wires.{lead, wires_lead, leads_wires}
use Rattle.flatten.proofs.Ends.{IsOutput, IsInput, SameWidths, wires_leave, wires_enter, wires_width}
use Rattle.flatten.proofs.Bound.{entered, wires_distinct, wires_bound}
use Rattle.flatten.proofs.Primitives.{primitives_bound, inputs_bound, outputs_bound}
use Rattle.std.specs.Prelude.{Ok}

module _ (file : List ℕ) where
  abbrev at : ℕ → Record
  at = record_at file

  abbrev n : ℕ
  n = record_count file

  module _ (accepted : verdict file ≡ Ok tt) where
    passed : Passed at n
    passed = accepted_passed file accepted

    -- From the source of each wire the drawing leads to its target.
    pub accepted_wires_lead : (w : Lead) → In w (wires at n) → Leads at n w.src w.dst
    accepted_wires_lead = wires_lead at n passed

    -- Wherever the drawing leads from an output to an input, there is a wire: with the theorem above, the wires
    -- are exactly what the drawing leads to.
    pub accepted_leads_wires : (s t : Pin) → Leads at n s t → In (lead s t) (wires at n)
    accepted_leads_wires = leads_wires at n passed

    -- No two wires enter one input.
    pub accepted_wires_distinct : Distinct (entered (wires at n))
    accepted_wires_distinct = wires_distinct at n passed

    -- The wire table has room for all wires: they are at most 1,024.
    pub accepted_wires_bound : length (wires at n) ≤ 1024
    accepted_wires_bound = wires_bound at n passed

    -- Each wire leaves an output that a primitive has,
    pub accepted_wires_leave : (w : Lead) → In w (wires at n) → IsOutput at w.src
    accepted_wires_leave = wires_leave at n passed

    -- enters an input that a primitive has,
    pub accepted_wires_enter : (w : Lead) → In w (wires at n) → IsInput at w.dst
    accepted_wires_enter = wires_enter at n passed

    -- and the two have the same width.
    pub accepted_wires_width : SameWidths at n
    accepted_wires_width = wires_width at n passed (accepted_check file accepted 15)

    -- The tables have room for all primitives, which are at most 256,
    pub accepted_primitives_bound : length (primitives_before at n) ≤ 256
    accepted_primitives_bound = primitives_bound at n passed

    -- for their inputs, at most 1,024,
    pub accepted_inputs_bound : inputs_before at n ≤ 1024
    accepted_inputs_bound = inputs_bound at n passed

    -- and for their outputs, at most 1,024.
    pub accepted_outputs_bound : outputs_before at n ≤ 1024
    accepted_outputs_bound = outputs_bound at n passed
