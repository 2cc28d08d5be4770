-- `set_port`: the kind decides which port is set.
-- Assumes nothing.
use mathlib.Core.Path.{◌≡◌, refl, sym, ◌∙◌}
use mathlib.Core.Bool.{true, false, true≢false}
use native.Mathlib.Omega.{arith}
use Rattle.kinds.specs.declared.Kind.TheVariants.{Switch}
use Rattle.kinds.specs.Kinds.{is}
use Rattle.tables.specs.Words.{fields_in}
use Rattle.simulator.proofs.edits.set_port.Goals as goal

pub is_kind-requires : goal.is_kind-requires
is_kind-requires c = c.requires.0

pub first_output-at-requires : goal.first_output-at-requires
first_output-at-requires c = c.requires.0

pub offset_bounds-outputs-at : goal.offset_bounds-outputs-at
offset_bounds-outputs-at c =
    omega (arith, c.first_output-at.ensures, c.requires.1 (sym c.is_kind.ensures ∙ c.if-is_kind.true))

pub bounds-outputs-at : goal.bounds-outputs-at
bounds-outputs-at c =
    omega (arith, c.first_output-at.ensures, c.requires.1 (sym c.is_kind.ensures ∙ c.if-is_kind.true))

pub first_input-at-requires : goal.first_input-at-requires
first_input-at-requires c = c.requires.0

pub offset_bounds-inputs-at : goal.offset_bounds-inputs-at
offset_bounds-inputs-at c =
    omega (
      arith,
      c.first_input-at.ensures,
      c.requires.2
          (λ e. true≢false (sym e ∙ sym c.is_kind.ensures ∙ c.if-is_kind.false)),
    )

pub bounds-inputs-at : goal.bounds-inputs-at
bounds-inputs-at c =
    omega (
      arith,
      c.first_input-at.ensures,
      c.requires.2
          (λ e. true≢false (sym e ∙ sym c.is_kind.ensures ∙ c.if-is_kind.false)),
    )

pub returns-then-is_kind : goal.returns-then-is_kind
returns-then-is_kind c =
    let a = c.args in
    let k : is Switch (fields_in a.components.now a.i) ≡ true =
    sym c.is_kind.ensures ∙ c.if-is_kind.true in
    rw (k, c.first_output-at.ensures) (refl, refl)

pub returns-else-is_kind : goal.returns-else-is_kind
returns-else-is_kind c =
    let a = c.args in
    let k : is Switch (fields_in a.components.now a.i) ≡ false =
    sym c.is_kind.ensures ∙ c.if-is_kind.false in
    rw (k, c.first_input-at.ensures) (refl, refl)
