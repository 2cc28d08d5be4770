-- `check_edit`: 2 and 16, or the number on the net.
-- Assumes nothing.
use mathlib.Core.Path.{ap, ◌∙◌}
use mathlib.Core.List.{List}
use Prim.Native.Nat.{ℕ}
use native.Mathlib.Omega.{arith}
use Rattle.kinds.specs.Given.{refusing}
use Rattle.kinds.proofs.GivenLaws.{handed_on}
use Rattle.tables.specs.declared.Counts.{Counts}
use Rattle.net.proofs.ClausesLaws.{kinds_obeyed-fit}
use Rattle.net.proofs.NetLaws.{passed_net, net_number-net}
use Rattle.rounds.proofs.RoundLaws.{net_rows, net_wires}
use Rattle.simulator.specs.Asked.{entered}
use Rattle.simulator.proofs.EditsLaws.{edit_refused, edit_net}
use Rattle.simulator.proofs.edits.check_edit.Goals as goal

pub returns-in_err-check_net : goal.returns-in_err-check_net
returns-in_err-check_net c =
    rw (handed_on c.from_residual.result _ c.from_residual.ensures.1)
    (edit_refused c.args.lent.now c.args.i c.args.number _ _ c.check_net.ensures c.in_err-check_net.was)

pub is_driven-entered-requires : goal.is_driven-entered-requires
is_driven-entered-requires c =
    let T = c.args.lent.now in
    rw c.wires.ensures
    (omega (arith, net_wires T (passed_net T _ c.check_net.ensures c.in_ok-check_net.was), ap (λ (m : Counts). m.wires) c.counts-counts.ensures))

pub check_port-requires : goal.check_port-requires
check_port-requires c =
    let T = c.args.lent.now in
    let z = passed_net T _ c.check_net.ensures c.in_ok-check_net.was in
    rw (c.counts-counts.ensures, c.components.ensures)
    (λ h. (omega (arith, net_rows T z, h), kinds_obeyed-fit T (net_number-net T z).kinds c.args.i h))

pub returns : goal.returns
returns c =
    let a = c.args in
    let T = a.lent.now in
    let z = passed_net T _ c.check_net.ensures c.in_ok-check_net.was in
    let driven = c.is_driven-entered.ensures ∙ ap (λ (ws : List ℕ). entered ws c.counts-counts.result.wires a.i) c.wires.ensures
    ∙ ap (λ (m : Counts). entered T.wires m.wires a.i) c.counts-counts.ensures in
    (rw (c.counts-counts.ensures, c.components.ensures) at c.check_port.ensures) ∙ ap refusing (edit_net T a.i a.number z _ driven)
