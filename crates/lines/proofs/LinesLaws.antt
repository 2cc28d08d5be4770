-- Laws of parts that are put one after the other, and of loops that put a line for each number.
-- Assumes nothing.
use mathlib.Core.Path.{◌≡◌, refl, sym, ap, subst, ◌∙◌}
use mathlib.Core.Bool.{Bool, true, false, ◌||◌}
use mathlib.Core.List.{List, [], ◌++◌, append_assoc}
use Prim.Native.Nat.{ℕ, ◌+◌, ◌-◌, ◌≤◌, ◌<◌}
use native.Mathlib.Nat.{sub-zero}
use native.Mathlib.Omega.{arith}
use lib.ListN.{length}
use lib.Seq.{length-sets}
use lib.Dec.{eqb}
use Rattle.lists.specs.Lists.{from, joined}
use Rattle.lists.proofs.ListsLaws.{from_end, joined_step}
use Rattle.kinds.specs.declared.answers.Refusal.{Refusal}
use Rattle.kinds.specs.Given.{tells_of_two}
use Rattle.text.specs.Text.{numeral, ascii, Puts}
use Rattle.text.proofs.TextLaws.{put_both, ToCome, begun, put_piece, ended}
use Rattle.lines.specs.Lines.{against_text}

module _ {t mid u xs ys : List ℕ} {at b m : ℕ} where
  -- Two parts, one after the other.
  pub both : Puts t at xs mid b → Puts mid b ys u m → Puts t at (xs ++ ys) u m
  both p q =
      let r = put_both t mid u xs ys at b m p.place p.buffer q.place q.buffer in
      record { place = r.0; buffer = r.1 }

-- The same, where the second part is itself made of two.
pub both_ended : (ys zs : List ℕ) {t mid u xs : List ℕ} {at b m : ℕ} → Puts t at xs mid b → Puts mid b (ys ++ zs) u m
    → Puts t at (xs ++ ys ++ zs) u m
both_ended ys zs {t} {mid} {u} {xs} {at} {b} {m} p q =
    subst (λ (l : List ℕ). Puts t at l u m) (sym (append_assoc xs ys zs)) (both p q)

-- A part whose bytes are those of another.
pub named_as : {t u xs ys : List ℕ} {at m : ℕ} → xs ≡ ys → Puts t at xs u m → Puts t at ys u m
named_as {t} {u} {xs} {ys} {at} {m} e p = subst (λ (l : List ℕ). Puts t at l u m) e p

-- A head is put, and a loop begins to put a line for each number behind it.
pub begun_lines : (f : ℕ → List ℕ) (n : ℕ) {t head u : List ℕ} {at m : ℕ} → Puts t at head u m
    → ToCome u m (joined f (from 0 n)) u m (joined f (from 0 (n - 0)))
begun_lines f n {t} {head} {u} {at} {m} p =
    let kept : length u ≡ length t = ap length p.buffer ∙ length-sets t at head in
    let all : joined f (from 0 n) ≡ joined f (from 0 (n - 0)) = ap (λ (k : ℕ). joined f (from 0 k)) (sym (sub-zero n)) in
    subst (ToCome u m (joined f (from 0 n)) u m) all (begun u (joined f (from 0 n)) m m (omega (arith, p.place)))

-- A loop that puts a line for each number: one more line, and the end.
module _ (f : ℕ → List ℕ) (q n : ℕ) {t bs out : List ℕ} {at next : ℕ} where
  pub next_line : {new : List ℕ} {after : ℕ} → q < n → ToCome t at bs out next (joined f (from q (n - q)))
      → Puts out next (f q) new after → ToCome t at bs new after (joined f (from (q + 1) (n - (q + 1))))
  next_line {new} {after} h so_far p =
      put_piece t bs out new (f q) (joined f (from (q + 1) (n - (q + 1)))) at next after
      (subst (ToCome t at bs out next) (joined_step f q n h) so_far) p.place p.buffer

  pub no_line : n ≤ q → ToCome t at bs out next (joined f (from q (n - q))) → Puts t at bs out next
  no_line h so_far =
      let r = ended t bs out (joined f (from q (n - q))) at next so_far (ap (joined f) (from_end q n h)) in
      record { place = r.0; buffer = r.1 }

-- A number that tells of two records that meet, by the three tests of it; the earlier record is put, or nothing.
module _ (x : Refusal) where
  abbrev meets : Bool
  meets = (eqb x.number 13 || eqb x.number 22) || eqb x.number 23

  meets_tells : tells_of_two x.number ≡ meets
  meets_tells = by_tests (eqb x.number 13) (eqb x.number 22) (eqb x.number 23)
    where
      by_tests : (a b c : Bool) → (a || (b || (c || false))) ≡ ((a || b) || c)
      by_tests true b c = refl
      by_tests false true c = refl
      by_tests false false true = refl
      by_tests false false false = refl

  pub against_named : meets ≡ true → ascii " against " ++ numeral x.earlier ≡ against_text x
  against_named h = rw (meets_tells ∙ h)

  pub against_none : meets ≡ false → [] ≡ against_text x
  against_none h = rw (meets_tells ∙ h)
