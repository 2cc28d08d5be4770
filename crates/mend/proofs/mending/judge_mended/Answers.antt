-- `judge_mended`: the components, what is kept by them, and what that makes, in one buffer after the other.
-- Assumes nothing.
use mathlib.Core.Path.{subst}
use mathlib.Core.List.{List}
use Prim.Native.Nat.{ℕ}
use native.Mathlib.Omega.{arith}
use Rattle.meeting.specs.Meeting.{Judges}
use Rattle.mend.specs.Mend.{mended}
use Rattle.mend.specs.Sifting.{parts_of}
use Rattle.mend.proofs.CopiesLaws.{parts_most, mended_most}
use Rattle.mend.proofs.MendLaws.{front}
use Rattle.mend.proofs.mending.judge_mended.Goals as goal

pub slice_bounds-sift-end : goal.slice_bounds-sift-end
slice_bounds-sift-end c =
    omega (arith, c.copy_components-parts.ensures.1, parts_most c.args.file.now, c.requires.0)

pub sift-requires : goal.sift-requires
sift-requires c =
    let r = c.copy_components-parts in
    (front (parts_of c.args.file.now) _ _ r.result r.ensures.0 r.ensures.1, c.requires.0, c.requires.1)

pub slice_bounds-judge-end : goal.slice_bounds-judge-end
slice_bounds-judge-end c =
    omega (arith, c.copy_kept-length.ensures.1, mended_most c.args.file.now, c.requires.0)

pub returns : goal.returns
returns c =
    let r = c.copy_kept-length in record { judges = subst (λ (xs : List ℕ). Judges xs c.judge.result) (front (mended c.args.file.now) _ _ r.result r.ensures.0 r.ensures.1) c.judge.ensures; sifted = c.sift.ensures }
