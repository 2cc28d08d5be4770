-- No component of an accepted drawing has more than 64 inputs or 64 outputs, so that what a look shows has room in its lists.
-- Assumes nothing.
use mathlib.Core.Path.{◌≡◌, ap}
use mathlib.Core.Logic.{⊎_elim}
use Prim.Native.Nat.{ℕ, ◌≤◌}
use native.Mathlib.Omega.{arith}
use mathlib.Core.List.{List}
use Rattle.kinds.specs.declared.table.Fields.{Fields}
use Rattle.kinds.specs.Kinds.{kind_of, most_ports}
use Rattle.kinds.proofs.ObeysLaws.{row_few, obeys_row}
use Rattle.component.specs.Record.{record_at, record_count, fields_of, inputs_of, outputs_of}
use Rattle.component.proofs.RecordLaws.{fields_cases}
use Rattle.flatten.specs.Verdict.{verdict}
use Rattle.flatten.proofs.Accepted.{accepted_passed}
use Rattle.flatten.proofs.Primitives.{component_obeys}
use Rattle.std.specs.Prelude.{Ok}

pub ports_few : (file : List ℕ) → verdict file ≡ Ok tt → (c : ℕ)
    → (inputs_of (record_at file c) ≤ most_ports) × (outputs_of (record_at file c) ≤ most_ports)
ports_few file accepted c =
    let f = fields_of (record_at file c) in
    ⊎_elim
    (λ e. row_few (kind_of f.kind) f (obeys_row f (component_obeys (record_at file) (record_count file) (accepted_passed file accepted) c e)))
    (λ e. (omega (arith, ap (λ (g : Fields). g.inputs) e), omega (arith, ap (λ (g : Fields). g.outputs) e)))
    (fields_cases (record_at file c))
