-- What the host says of a verdict: a judgement's number and position fit its answer.
-- Assumes nothing.
use mathlib.Core.Path.{◌≡◌, refl}
use mathlib.Core.Bool.{Bool, true, false, cond}
use mathlib.Core.List.{List, []}
use Prim.Native.Nat.{ℕ, ◌<◌}
use native.Mathlib.Omega.{arith}
use Rattle.kinds.specs.Given.{spoken, Verdict, verdict_gives}
use Rattle.meeting.specs.Meeting.{judgement}
use Rattle.meeting.proofs.MeetingLaws.{judgement_small}
use Rattle.std.specs.Prelude.{Ok, Err}

-- The host's number of a verdict.
abbrev pub spoken_of : Verdict → ℕ
spoken_of v = spoken (verdict_gives v [])

-- A judgement's number and position fit the answer.
pub judged_small : (file : List ℕ) (v : Verdict) → judgement file ≡ v → spoken_of v < 4294967296
judged_small file (Ok _) e = omega arith
judged_small file (Err r) e = let b = judgement_small file r e in omega (arith, b.number, b.position)

pub cond_small : (b : Bool) (x y : Verdict) → spoken_of x < 4294967296 → spoken_of y < 4294967296 → spoken_of (cond b x y) < 4294967296
cond_small true x y h k = h
cond_small false x y h k = k

pub by_verdict : (v : Verdict) (xs : List ℕ) → spoken (verdict_gives v xs) ≡ spoken_of v
by_verdict (Ok _) xs = refl
by_verdict (Err r) xs = refl
