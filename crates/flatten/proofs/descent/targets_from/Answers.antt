-- `targets_from`: a primitive, or the descent from the greatest depth.
-- Assumes nothing.
use Rattle.flatten.proofs.TargetsLaws.{primitive_number, list_room, list_here}
use Rattle.flatten.proofs.DescentLaws.{deepest_some}
use Rattle.flatten.specs.Targets.{target_place, Listed}
use Rattle.flatten.specs.Descent.{inputs_below}
use Rattle.component.specs.Drawing.{deepest}
use Rattle.component.specs.Record.{record_at}
use lib.ListN.{length}
use native.Mathlib.Omega.{arith}
use Prim.Native.Nat.{ℕ, ◌+◌, ◌/◌, ◌≤◌}
use mathlib.Core.Path.{◌≡◌, ap, subst}
use Rattle.flatten.proofs.descent.targets_from.Goals as goal

pub lay_target-requires : goal.lay_target-requires
lay_target-requires c =
    let a = c.args in
    let n = length a.file.now / 24 in
    let room : target_place (0 + length (inputs_below (record_at a.file.now) n deepest a.c a.i)) ≤ length a.targets.now =
    omega (arith, c.requires.1) in (
      list_room a.file.now n deepest a.c a.i a.targets.now 0 _ deepest_some c.is_primitive_at.ensures c.if-is_primitive_at.true room,
      primitive_number a.file.now a.c _ c.requires.0.few c.is_primitive_at.ensures c.if-is_primitive_at.true,
    )

pub returns-then-is_primitive_at : goal.returns-then-is_primitive_at
returns-then-is_primitive_at c =
    let a = c.args in
    list_here a.file.now (length a.file.now / 24) deepest a.c a.i a.targets.now 0 _ deepest_some c.is_primitive_at.ensures
    c.if-is_primitive_at.true _ c.lay_target.ensures

pub list_targets-requires : goal.list_targets-requires
list_targets-requires c =
    let a = c.args in
    let n = length a.file.now / 24 in
    let e : length (inputs_below (record_at a.file.now) n c.deepest.result a.c a.i)
    ≡ length (inputs_below (record_at a.file.now) n deepest a.c a.i) =
    ap (λ (d : ℕ). length (inputs_below (record_at a.file.now) n d a.c a.i)) c.deepest.ensures in
    record { index = (c.requires.0, c.requires.0.few); i_in_bounds = omega (arith, c.requires.1, e) }

pub returns : goal.returns
returns c =
    let a = c.args in
    subst (λ (d : ℕ). Listed a.targets.now 0 (inputs_below (record_at a.file.now) (length a.file.now / 24) d a.c a.i)
    c.list_targets.new.targets c.list_targets.result)
    c.deepest.ensures c.list_targets.ensures
