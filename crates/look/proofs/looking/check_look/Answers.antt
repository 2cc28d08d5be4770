-- `check_look`: each way out is one of the cases of the definition.
-- Assumes nothing.
use mathlib.Core.Path.{ap, ◌∙◌}
use Rattle.std.specs.Prelude.{Err}
use native.Mathlib.Omega.{arith}
use Rattle.kinds.specs.Given.{refusing}
use Rattle.kinds.proofs.GivenLaws.{handed_on}
use Rattle.component.specs.Record.{record_at, record_count}
use Rattle.net.proofs.NetLaws.{passed_net, net_number-sizes}
use Rattle.rounds.proofs.Sound.{net_within}
use Rattle.look.proofs.LookLaws.{number_16, number_20, number_no_path, number_21, number_0}
use Rattle.look.proofs.looking.check_look.Goals as goal

pub returns-in_err-check_net : goal.returns-in_err-check_net
returns-in_err-check_net c =
    let a = c.args in
    rw (handed_on c.from_residual.result _ c.from_residual.ensures.1)
    (number_16 (record_at a.file.now) (record_count a.file.now) a.lent.now a.place c.requires.lent_value _ c.check_net.ensures _ c.in_err-check_net.was)

pub is_matched-requires : goal.is_matched-requires
is_matched-requires c =
    let T = c.args.lent.now in
    let z = passed_net T _ c.check_net.ensures c.in_ok-check_net.was in (
      c.requires.file_value.0,
      c.requires.file_value.1,
      omega (arith, (net_within T z).components, (net_number-sizes T z).components),
      omega (arith, (net_within T z).wires, (net_number-sizes T z).wires),
    )

pub returns-then-not-is_matched : goal.returns-then-not-is_matched
returns-then-not-is_matched c =
    let a = c.args in
    rw c.refused_by.ensures
    (ap refusing (number_20 (record_at a.file.now) (record_count a.file.now) a.lent.now a.place c.requires.lent_value _ c.check_net.ensures
    c.in_ok-check_net.was _ c.is_matched.ensures c.if-not-is_matched.true))

pub returns-then-file-place : goal.returns-then-file-place
returns-then-file-place c =
    let a = c.args in
    rw c.refused_by-then-file-place.ensures
    (ap refusing (number_no_path (record_at a.file.now) (record_count a.file.now) a.lent.now a.place c.requires.lent_value _ c.check_net.ensures
    c.in_ok-check_net.was _ c.is_matched.ensures c.if-not-is_matched.false c.if-file-place.true))

pub returns-then-is_dangling : goal.returns-then-is_dangling
returns-then-is_dangling c =
    let a = c.args in
    ap Err c.refused_by-then-is_dangling.ensures
    ∙ (ap refusing (number_21 (record_at a.file.now) (record_count a.file.now) a.lent.now a.place c.requires.lent_value _ c.check_net.ensures
    c.in_ok-check_net.was _ c.is_matched.ensures c.if-not-is_matched.false c.if-file-place.false _ c.is_dangling.ensures c.if-is_dangling.true))

pub returns : goal.returns
returns c =
    let a = c.args in
    ap refusing (number_0 (record_at a.file.now) (record_count a.file.now) a.lent.now a.place c.requires.lent_value _ c.check_net.ensures
    c.in_ok-check_net.was _ c.is_matched.ensures c.if-not-is_matched.false c.if-file-place.false _ c.is_dangling.ensures c.if-is_dangling.false)
