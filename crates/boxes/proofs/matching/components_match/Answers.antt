-- `components_match`: the entries of all primitives are laid, and compared where there are as many.
-- Assumes nothing.
use mathlib.Core.Path.{refl, sym, ap}
use Prim.Native.Nat.{◌*◌, ◌≤◌}
use native.Mathlib.Omega.{arith}
use lib.ListN.{length}
use lib.Seq.{length-take-le}
use Rattle.lists.proofs.OverlayLaws.{joined_width}
use Rattle.component.specs.Record.{record_at, record_count}
use Rattle.flatten.proofs.WireTheorems.{accepted_primitives_bound}
use Rattle.laying.specs.declared.rows.Before.{Before}
use Rattle.laying.specs.Laid.{primitives, primitive_words}
use Rattle.boxes.proofs.MatchLaws.{laid_other, laid_room, laid_same}
use Rattle.boxes.proofs.matching.components_match.Goals as goal
use Rattle.boxes.proofs.matching.components_match.Goals.{Else-all-count}

pub returns-then-all-count : goal.returns-then-all-count
returns-then-all-count c =
    let at = record_at c.args.file.now in
    let n = record_count c.args.file.now in
    laid_other (primitive_words at n) 8 (λ x. refl) (primitives at n) c.args.components.now _ c.args.count
    (ap (λ (b : Before). b.components) c.lay_components-all.ensures.value) (λ i j e. omega arith) c.requires.1 c.if-all-count.true

room : (c : Else-all-count) → 8 * c.args.count ≤ length c.lay_components-all.new.components
room c =
    let at = record_at c.args.file.now in
    let n = record_count c.args.file.now in
    laid_room (primitive_words at n) 8 (λ x. refl) (primitives at n) c.args.components.now _ c.args.count
    (ap (λ (b : Before). b.components) c.lay_components-all.ensures.value) _ _ c.lay_components-all.ensures.components_after c.if-all-count.false
    (omega (arith, joined_width (primitive_words at n) 8 (λ x. refl) (primitives at n), accepted_primitives_bound c.args.file.now c.requires.0))

pub slice_bounds-laid-end : goal.slice_bounds-laid-end
slice_bounds-laid-end c = omega (arith, room (goal.at.slice_bounds-laid-end c).Else-all-count)

pub slice_bounds-eq-end-2 : goal.slice_bounds-eq-end-2
slice_bounds-eq-end-2 c =
    sym (length-take-le _ c.lay_components-all.new.components (omega (arith, room (goal.at.slice_bounds-eq-end-2 c).Else-all-count)))

pub returns : goal.returns
returns c =
    let at = record_at c.args.file.now in
    let n = record_count c.args.file.now in
    laid_same (primitive_words at n) 8 (λ x. refl) (primitives at n) c.args.components.now _ c.args.count
    (ap (λ (b : Before). b.components) c.lay_components-all.ensures.value) _ _ c.lay_components-all.ensures.components_after c.if-all-count.false
    _ c.eq.ensures
