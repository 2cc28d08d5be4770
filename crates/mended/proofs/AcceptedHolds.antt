-- What a mending that is not refused has written is an accepted drawing: `mend_accepted`.
-- Assumes nothing.
use mathlib.Core.Path.{◌≡◌, refl, ap, ◌∙◌}
use mathlib.Core.Bool.{Bool, true, false, cond, ◌&&◌}
use mathlib.Core.List.{List, [], ◌∷◌}
use Prim.Native.Nat.{ℕ}
use lib.Dec.{leb}
use lib.ListN.{length, take}
use Rattle.lists.specs.Lists.{within, overlay}
use Rattle.lists.proofs.OverlayLaws.{overlay_front}
use Rattle.kinds.specs.Given.{done, Verdict, verdict_gives}
use Rattle.kinds.proofs.GivenLaws.{done_values, done_declined}
use Rattle.component.specs.Record.{record_count}
use Rattle.flatten.specs.Verdict.{refused, list_by}
use Rattle.flatten.proofs.Accepted.{refused_not}
use Rattle.meeting.specs.Meeting.{judgement}
use Rattle.mend.specs.Mend.{mended, dropped, mend_verdict}
use Rattle.mended.specs.Owed.{MendAccepted}
use Rattle.std.specs.Prelude.{Ok, Err}

-- What is done is accepted, and gives what it wrote.
gives_accepted : (v : Verdict) (xs ys : List ℕ) → done xs ≡ verdict_gives v ys → (v ≡ Ok tt) × (xs ≡ ys)
gives_accepted (Ok _) xs ys e = (refl, done_values xs ys e)
gives_accepted (Err r) xs ys e = absurd (done_declined xs r e)

-- A mending that is not refused has judged what it mended.
verdict_judged : (file out list : List ℕ) → mend_verdict file out list ≡ Ok tt → judgement (mended file) ≡ Ok tt
unfolding mend_verdict
verdict_judged file out list e =
    by_tests (within 1 1024 (record_count file)) (leb (length file) (length out) && leb 1025 (length list)) e
  where
    by_tests : (b c : Bool) → cond b (cond c (judgement (mended file)) (refused 2 0)) (refused 1 0) ≡ Ok tt
        → judgement (mended file) ≡ Ok tt
    by_tests true true u = u
    by_tests true false u = absurd (refused_not 2 0 u)
    by_tests false c u = absurd (refused_not 1 0 u)

-- So many words from the front of a list that is written.
front : (v : Verdict) (xs lent after : List ℕ) (k : ℕ) → v ≡ Ok tt → after ≡ list_by v xs lent → k ≡ length xs → take k after ≡ xs
front v xs lent after k a e h =
    let z : after ≡ overlay xs lent = rw a at e in
    ap (λ (j : ℕ). take j after) h ∙ ap (take (length xs)) z ∙ overlay_front xs lent

pub mend_accepted : MendAccepted
mend_accepted file out list out' list' bytes positions h =
    let v = mend_verdict file out list in
    let z = gives_accepted v (bytes ∷ positions ∷ []) (length (mended file) ∷ length (dropped file) ∷ []) h.0 in
    let b : bytes ≡ length (mended file) = cc in
    let p : positions ≡ length (dropped file) = cc in
    let written = front v (mended file) out out' bytes z.0 h.1 b in
    (ap judgement written ∙ verdict_judged file out list z.0, written, front v (dropped file) list list' positions z.0 h.2 p)
