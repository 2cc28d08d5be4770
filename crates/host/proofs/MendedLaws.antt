-- A mending that is refused for its file's size, is lent too few words, or that the engine answers; and its number and position fit the answer.
-- Assumes nothing.
use mathlib.Core.Path.{◌≡◌, refl, sym, ap, ◌∙◌, subst}
use mathlib.Core.Bool.{Bool, true, false, cond, ◌&&◌, ◌||◌}
use mathlib.Core.List.{List}
use Prim.Native.Nat.{ℕ, ◌≤◌, ◌<◌}
use native.Mathlib.Omega.{arith}
use borrow.Author.Tests.{lt-ltb, le-ltb}
use lib.ListN.{length}
use lib.Dec.{leb, ltb}
use Rattle.lists.specs.Lists.{within, overlay}
use Rattle.kinds.specs.Given.{Given, refused_by, spoken, verdict_gives}
use Rattle.component.specs.Record.{record_count}
use Rattle.flatten.specs.Verdict.{refused}
use Rattle.meeting.specs.Meeting.{judgement}
use Rattle.mend.specs.declared.Mended.{Mended}
use Rattle.mend.specs.Mend.{mended, mend_verdict, mend_gives, Mends}
use Rattle.mend.proofs.MendLaws.{outside, inside, mends_size}
use Rattle.words.specs.Words.{values_in}
use Rattle.words.specs.Said.{short}
use Rattle.words.proofs.WordsLaws.{none_laid}
use Rattle.host.specs.Host.{CallMends, few_to_mend, mended_by}
use Rattle.meeting.proofs.SpokenLaws.{spoken_of, judged_small, cond_small, by_verdict}
use Rattle.std.specs.Prelude.{Result, Err}
use Rattle.kinds.specs.declared.answers.Refusal.{Refusal}

verdict_small : (file out ds : List ℕ) → spoken_of (mend_verdict file out ds) < 4294967296
unfolding mend_verdict
verdict_small file out ds =
    let room = leb (length file) (length out) && leb 1025 (length ds) in
    cond_small (within 1 1024 (record_count file)) (cond room (judgement (mended file)) (refused 2 0)) (refused 1 0)
    (cond_small room (judgement (mended file)) (refused 2 0) (judged_small (mended file) (judgement (mended file)) refl) (omega arith)) (omega arith)

pub mend_small : (file out ds : List ℕ) (g : Given) (xs : List ℕ) → g ≡ verdict_gives (mend_verdict file out ds) xs → spoken g < 4294967296
mend_small file out ds g xs e =
    subst (λ (k : ℕ). k < 4294967296) (sym (ap spoken e ∙ by_verdict (mend_verdict file out ds) xs)) (verdict_small file out ds)

-- The ways out.
module _ (file out ds fs : List ℕ) where
  pub mend_unsized : (ltb (record_count file) 1 || ltb 1024 (record_count file)) ≡ true → CallMends file out out ds ds fs fs 65536
  mend_unsized h =
      mended_by (Err (refused_by 1)) (ap (λ (b : Bool). b && short fs 2) (outside 1 1024 (record_count file) h))
      (mends_size file out ds (refused_by 1) h refl) refl (none_laid fs)

  module _ (h : (ltb (record_count file) 1 || ltb 1024 (record_count file)) ≡ false) where
    pub mend_short : length fs < 2 → CallMends file out out ds ds fs fs 131072
    mend_short s = few_to_mend (rw (inside 1 1024 (record_count file) h, lt-ltb (length fs) 2 s)) refl refl refl refl

    pub mend_made : 2 ≤ length fs → (a : Result Mended Refusal) (out' ds' fs' : List ℕ) (r : ℕ) → Mends file out ds a out' ds' → r ≡ spoken (mend_gives a)
        → fs' ≡ overlay (values_in (mend_gives a)) fs → CallMends file out out' ds ds' fs fs' r
    mend_made s a out' ds' fs' r p n f = mended_by a (rw (inside 1 1024 (record_count file) h, le-ltb (length fs) 2 s)) p n f
