-- Laws of specs/Mend.antt: what the ways out of `mend` promise; what stands at the front of the buffer.
-- Assumes nothing.
use mathlib.Core.Path.{◌≡◌, refl, sym, ap, ◌∙◌}
use mathlib.Core.Bool.{and-false, Bool, true, false, ◌&&◌, ◌||◌}
use mathlib.Core.Logic.{◌⊎◌, inl, inr}
use mathlib.Core.List.{List, [], ◌∷◌}
use Prim.Native.Nat.{ℕ, ◌-◌, ◌*◌, ◌≤◌}
use native.Mathlib.Nat.{sub-zero}
use native.Mathlib.Omega.{arith}
use borrow.Author.Tests.{ltb-true, ltb-false, le-leb, lt-leb}
use lib.Dec.{leb, ltb}
use lib.ListN.{length, take}
use Rattle.lists.specs.Lists.{within, overlay}
use Rattle.lists.proofs.TestsLaws.{or_cases, or_left, or_right, and_both}
use Rattle.lists.proofs.OverlayLaws.{overlay_front}
use Rattle.kinds.specs.declared.answers.Refusal.{Refusal}
use Rattle.kinds.specs.Given.{refused_by, Verdict, verdict_gives}
use Rattle.component.specs.Record.{record_count}
use Rattle.flatten.specs.Verdict.{list_by}
use Rattle.flatten.proofs.JudgementLaws.{verdict_gives-is}
use Rattle.meeting.specs.Meeting.{judgement, Judges}
use Rattle.mend.specs.Mend.{mended, dropped, mend_verdict, Mends}
use Rattle.std.specs.Prelude.{Ok, Err}

-- What was written at the front.
pub front : (xs t u : List ℕ) (k : ℕ) → u ≡ overlay xs t → k ≡ length xs → take (k - 0) u ≡ xs
front xs t u k e d =
    ap (λ (j : ℕ). take j u) (sub-zero k ∙ d) ∙ ap (take (length xs)) e ∙ overlay_front xs t

-- A number between two others, and one that is not.
pub outside : (a b x : ℕ) → (ltb x a || ltb b x) ≡ true → within a b x ≡ false
outside a b x e = by_case (or_cases (ltb x a) (ltb b x) e)
  where
    by_case : (ltb x a ≡ true) ⊎ (ltb b x ≡ true) → within a b x ≡ false
    by_case (inl h) = ap (λ (t : Bool). t && leb x b) (lt-leb a x (ltb-true x a h))
    by_case (inr h) = ap (λ (t : Bool). leb a x && t) (lt-leb x b (ltb-true b x h)) ∙ and-false (leb a x)

pub inside : (a b x : ℕ) → (ltb x a || ltb b x) ≡ false → within a b x ≡ true
inside a b x e =
    and_both (leb a x) (leb x b) (le-leb a x (ltb-false x a (or_left (ltb x a) (ltb b x) e)))
    (le-leb x b (ltb-false b x (or_right (ltb x a) (ltb b x) e)))

short : (a b c d : ℕ) → (ltb b a || ltb d c) ≡ true → (leb a b && leb c d) ≡ false
short a b c d e = by_case (or_cases (ltb b a) (ltb d c) e)
  where
    by_case : (ltb b a ≡ true) ⊎ (ltb d c ≡ true) → (leb a b && leb c d) ≡ false
    by_case (inl h) = ap (λ (t : Bool). t && leb c d) (lt-leb a b (ltb-true b a h))
    by_case (inr h) = ap (λ (t : Bool). leb a b && t) (lt-leb c d (ltb-true d c h)) ∙ and-false (leb a b)

room : (a b c d : ℕ) → (ltb b a || ltb d c) ≡ false → (leb a b && leb c d) ≡ true
room a b c d e =
    and_both (leb a b) (leb c d) (le-leb a b (ltb-false b a (or_left (ltb b a) (ltb d c) e)))
    (le-leb c d (ltb-false d c (or_right (ltb b a) (ltb d c) e)))

module _ (file out list : List ℕ) where
  abbrev found : Verdict
  found = mend_verdict file out list

  -- a refusal writes nothing
  refuses : (r : Refusal) → found ≡ Err r → Mends file out list (Err r) out list
  refuses r e = (
    ap (λ (v : Verdict). verdict_gives v (length (mended file) ∷ length (dropped file) ∷ [])) (sym e),
    ap (λ (v : Verdict). list_by v (mended file) out) (sym e),
    ap (λ (v : Verdict). list_by v (dropped file) list) (sym e),
  )

  -- 1
  pub mends_size : (r : Refusal) → (ltb (record_count file) 1 || ltb 1024 (record_count file)) ≡ true → r ≡ refused_by 1
      → Mends file out list (Err r) out list
  unfolding mend_verdict
  mends_size r h e = refuses r (rw (outside 1 1024 (record_count file) h) (ap Err (sym e)))

  module _ (whole : (ltb (record_count file) 1 || ltb 1024 (record_count file)) ≡ false) where
    pub few : record_count file ≤ 1024
    few = ltb-false 1024 (record_count file) (or_right (ltb (record_count file) 1) (ltb 1024 (record_count file)) whole)

    -- 2
    pub mends_short : (r : Refusal) → (ltb (length out) (length file) || ltb (length list) 1025) ≡ true → r ≡ refused_by 2
        → Mends file out list (Err r) out list
    unfolding mend_verdict
    mends_short r h e =
        refuses r
        (rw (inside 1 1024 (record_count file) whole, short (length file) (length out) 1025 (length list) h) (ap Err (sym e)))

    -- there is room
    pub fits_out : (ltb (length out) (length file) || ltb (length list) 1025) ≡ false → 24 * record_count file ≤ length out
    fits_out h = omega (arith, ltb-false (length out) (length file) (or_left (ltb (length out) (length file)) (ltb (length list) 1025) h))

    pub fits_list : (ltb (length out) (length file) || ltb (length list) 1025) ≡ false → 1025 ≤ length list
    fits_list h = ltb-false (length list) 1025 (or_right (ltb (length out) (length file)) (ltb (length list) 1025) h)

    module _ (fits : (ltb (length out) (length file) || ltb (length list) 1025) ≡ false) (v : Verdict) (judged : Judges (mended file) v) where
      judged_is : found ≡ v
      unfolding mend_verdict
      judged_is =
          rw (inside 1 1024 (record_count file) whole, room (length file) (length out) 1025 (length list) fits)
          (sym (verdict_gives-is v (judgement (mended file)) judged))

      -- still refused
      pub mends_refused : (r : Refusal) → v ≡ Err r → Mends file out list (Err r) out list
      mends_refused r e = refuses r (judged_is ∙ e)

      -- mended
      pub mends_done : (b k : ℕ) (out' list' : List ℕ) → v ≡ Ok tt → out' ≡ overlay (mended file) out → b ≡ length (mended file)
          → list' ≡ overlay (dropped file) list → k ≡ length (dropped file) → Mends file out list (Ok (record { bytes = b; positions = k })) out' list'
      mends_done b k out' list' e eo eb el ek = (
        rw (judged_is ∙ e, eb, ek) refl,
        eo ∙ ap (λ (x : Verdict). list_by x (mended file) out) (sym (judged_is ∙ e)),
        el ∙ ap (λ (x : Verdict). list_by x (dropped file) list) (sym (judged_is ∙ e)),
      )
