-- `wires_match`: all wires are laid, and compared where there are as many.
-- Assumes nothing.
use mathlib.Core.Path.{refl, sym}
use Prim.Native.Nat.{◌*◌, ◌≤◌}
use native.Mathlib.Omega.{arith}
use lib.ListN.{length}
use lib.Seq.{length-take-le}
use Rattle.lists.proofs.OverlayLaws.{joined_width}
use Rattle.component.specs.Record.{record_at, record_count}
use Rattle.flatten.proofs.Accepted.{accepted_passed}
use Rattle.tables.specs.Tables.{wire_words}
use Rattle.laying.specs.Laid.{flat_wires}
use Rattle.laying.proofs.FlatWires.{flat_wires-bound}
use Rattle.boxes.proofs.MatchLaws.{laid_other, laid_room, laid_same}
use Rattle.boxes.proofs.matching.wires_match.Goals as goal
use Rattle.boxes.proofs.matching.wires_match.Goals.{Else-lay_wires-count}

pub returns-then-lay_wires-count : goal.returns-then-lay_wires-count
returns-then-lay_wires-count c =
    let ws = flat_wires (record_at c.args.file.now) (record_count c.args.file.now) in
    laid_other wire_words 4 (λ w. refl) ws c.args.wires.now _ c.args.count c.lay_wires.ensures.value (λ i j e. omega arith) c.requires.2
    c.if-lay_wires-count.true

room : (c : Else-lay_wires-count) → 4 * c.args.count ≤ length c.lay_wires.new.wires
room c =
    let at = record_at c.args.file.now in
    let n = record_count c.args.file.now in
    laid_room wire_words 4 (λ w. refl) (flat_wires at n) c.args.wires.now _ c.args.count c.lay_wires.ensures.value _ _ c.lay_wires.ensures.wires_after
    c.if-lay_wires-count.false
    (omega (arith, joined_width wire_words 4 (λ w. refl) (flat_wires at n), flat_wires-bound at n (accepted_passed c.args.file.now c.requires.0)))

pub slice_bounds-laid-end : goal.slice_bounds-laid-end
slice_bounds-laid-end c = omega (arith, room (goal.at.slice_bounds-laid-end c).Else-lay_wires-count)

pub slice_bounds-eq-end-2 : goal.slice_bounds-eq-end-2
slice_bounds-eq-end-2 c =
    sym (length-take-le _ c.lay_wires.new.wires (omega (arith, room (goal.at.slice_bounds-eq-end-2 c).Else-lay_wires-count)))

pub returns : goal.returns
returns c =
    let ws = flat_wires (record_at c.args.file.now) (record_count c.args.file.now) in
    laid_same wire_words 4 (λ w. refl) ws c.args.wires.now _ c.args.count c.lay_wires.ensures.value _ _ c.lay_wires.ensures.wires_after
    c.if-lay_wires-count.false _ c.eq.ensures
