-- `mend`: refused for its size; for what is lent; still refused; mended.
-- Assumes nothing.
use mathlib.Core.Path.{refl}
use native.Mathlib.Omega.{arith}
use Rattle.kinds.proofs.GivenLaws.{handed_on}
use Rattle.mend.proofs.MendLaws.{mends_size, few, mends_short, fits_out, fits_list, mends_refused, mends_done}
use Rattle.mend.proofs.mending.mend.Goals as goal

pub returns-then-n : goal.returns-then-n
returns-then-n c =
    let a = c.args in
    mends_size a.file.now a.out.now a.dropped.now c.refused_by.result c.if-n.true c.refused_by.ensures

pub returns-then-out-file : goal.returns-then-out-file
returns-then-out-file c =
    let a = c.args in
    mends_short a.file.now a.out.now a.dropped.now c.if-n.false c.refused_by-then-out-file.result c.if-out-file.true c.refused_by-then-out-file.ensures

pub judge_mended-requires : goal.judge_mended-requires
judge_mended-requires c = let a = c.args in (few a.file.now a.out.now a.dropped.now c.if-n.false, refl)

pub returns-in_err-judge_mended : goal.returns-in_err-judge_mended
returns-in_err-judge_mended c =
    let a = c.args in
    rw (handed_on c.from_residual.result _ c.from_residual.ensures.1)
    (mends_refused a.file.now a.out.now a.dropped.now c.if-n.false c.if-out-file.false c.judge_mended.result c.judge_mended.ensures.judges _
    c.in_err-judge_mended.was)

pub copy_kept-bytes-requires : goal.copy_kept-bytes-requires
copy_kept-bytes-requires c =
    let a = c.args in
    let n = few a.file.now a.out.now a.dropped.now c.if-n.false in
    (c.judge_mended.ensures.sifted, n, omega (arith, fits_out a.file.now a.out.now a.dropped.now c.if-n.false c.if-out-file.false))

pub list_dropped-positions-requires : goal.list_dropped-positions-requires
list_dropped-positions-requires c =
    let a = c.args in
    (c.judge_mended.ensures.sifted, few a.file.now a.out.now a.dropped.now c.if-n.false, fits_list a.file.now a.out.now a.dropped.now c.if-n.false c.if-out-file.false)

pub returns : goal.returns
returns c =
    let a = c.args in
    let j = c.judge_mended in
    let k = c.copy_kept-bytes in
    let l = c.list_dropped-positions in
    mends_done a.file.now a.out.now a.dropped.now c.if-n.false c.if-out-file.false j.result j.ensures.judges k.result l.result _ _
    c.in_ok-judge_mended.was k.ensures.0 k.ensures.1 l.ensures.0 l.ensures.1
