-- What is dropped and what is kept make up the file, and what is lent has room for both: `mend_makes_up`, `mend_room`; and what is kept, without reference to
-- what was kept before: `mend_plain`.
-- Assumes nothing.
use mathlib.Core.Path.{◌≡◌, refl, sym, ap, ◌∙◌}
use mathlib.Core.Bool.{Bool, true, false, cond, not, ◌&&◌, ◌||◌, or-false, and-false, and-true}
use mathlib.Core.List.{List, [], ◌∷◌}
use Prim.Native.Nat.{ℕ, ◌+◌, ◌%◌, ◌≤◌, ◌<◌}
use native.Mathlib.Omega.{arith}
use borrow.Author.Tests.{eq-eqb, ne_eqb}
use lib.Dec.{eqb}
use lib.ListN.{length, length-append}
use Rattle.lists.specs.Lists.{from, keep, has}
use Rattle.lists.proofs.MembersLaws.{any_append, keep_sound, has_none, from0_sound, from_length, keep_cong}
use Rattle.lists.proofs.KeepLaws.{keep_lengths, has_keep}
use Rattle.component.specs.Record.{record_count, loose_at}
use Rattle.mend.specs.Mend.{kept, mended, dropped}
use Rattle.mend.specs.Sifting.{drops_plainly}
use Rattle.mend.proofs.KeptLaws.{kept_records_lem}
use Rattle.mended.specs.Owed.{MakesUp, MendMakesUp, MendPlain, MendRoom}
use Rattle.mended.proofs.Parts.{mended_length, mended_count, mended_part}

pub mend_plain : MendPlain
mend_plain at n = kept_records_lem at n

module _ (file : List ℕ) where
  abbrev n : ℕ
  n = record_count file

  abbrev plain : ℕ → Bool
  plain p = not (drops_plainly (loose_at file) n p)

  -- A whole record is kept where it is not dropped plainly.
  has_kept : (p : ℕ) → p < n → has p (kept file) ≡ plain p
  has_kept p h = ap (has p) (kept_records_lem (loose_at file) n) ∙ has_keep plain n p h

  in_order : kept file ≡ keep (λ p. has p (kept file)) (from 0 n)
  in_order =
      kept_records_lem (loose_at file) n
      ∙ keep_cong plain (λ p. has p (kept file)) (from 0 n) (λ p u. sym (has_kept p (from0_sound n p u)))

  -- The part record.
  abbrev rest : List ℕ
  rest = cond (eqb (length file % 24) 0) [] (n ∷ [])

  abbrev gone : ℕ → Bool
  gone p = not (has p (kept file))

  has_dropped : (p : ℕ) → has p (dropped file) ≡ (has p (keep gone (from 0 n)) || has p rest)
  unfolding dropped
  has_dropped p = any_append (eqb p) (keep gone (from 0 n)) rest

  has_rest : (p : ℕ) → has p rest ≡ (not (eqb (length file % 24) 0) && eqb p n)
  has_rest p = by_test (eqb (length file % 24) 0)
    where
      by_test : (b : Bool) → has p (cond b [] (n ∷ [])) ≡ (not b && eqb p n)
      by_test true = refl
      by_test false = or-false (eqb p n)

  either : (p : ℕ) → p < n → has p (dropped file) ≡ not (has p (kept file))
  either p h =
      has_dropped p ∙ ap (λ (b : Bool). b || has p rest) (has_keep gone n p h)
      ∙ ap (λ (b : Bool). gone p || b) (has_rest p) ∙ rw (ne_eqb p n (λ z. omega (arith, z, h)), and-false (not (eqb (length file % 24) 0))) (or-false (gone p))

  part : has n (dropped file) ≡ not (eqb (length file % 24) 0)
  part =
      has_dropped n
      ∙ ap (λ (b : Bool). b || has n rest)
      (has_none n (keep gone (from 0 n)) (λ u. omega (arith, from0_sound n n (keep_sound gone n (from 0 n) u).1)))
      ∙ has_rest n ∙ rw (eq-eqb n n refl) (and-true (not (eqb (length file % 24) 0)))

  rest_length : length rest ≡ cond (eqb (length file % 24) 0) 0 1
  rest_length = by_test (eqb (length file % 24) 0)
    where
      by_test : (b : Bool) → length (cond b [] (n ∷ [])) ≡ cond b 0 1
      by_test true = refl
      by_test false = refl

  dropped_length : length (dropped file) ≡ length (keep gone (from 0 n)) + cond (eqb (length file % 24) 0) 0 1
  unfolding dropped
  dropped_length = omega (arith, length-append (keep gone (from 0 n)) rest, rest_length)

  count : length (kept file) + length (dropped file) ≡ n + cond (eqb (length file % 24) 0) 0 1
  count =
      omega (arith, dropped_length, ap length in_order, keep_lengths (λ p. has p (kept file)) (from 0 n), from_length 0 n)

  makes_up : MakesUp file
  makes_up =
      record {
        in_order = in_order;
        either = either;
        part = part;
        count = count;
        records = mended_count file;
        bytes = λ k h. mended_part file k 0 h;
      }

  few : cond (eqb (length file % 24) 0) 0 1 ≤ 1
  few = by_test (eqb (length file % 24) 0)
    where
      by_test : (b : Bool) → cond b 0 1 ≤ 1
      by_test true = omega arith
      by_test false = omega arith

  few_kept : length (kept file) ≤ n
  few_kept = omega (arith, ap length in_order, keep_lengths (λ p. has p (kept file)) (from 0 n), from_length 0 n)

  room : n ≤ 1024 → (length (mended file) ≤ length file) × (length (dropped file) ≤ 1025)
  room h = (omega (arith, mended_length file, few_kept), omega (arith, count, few, h))

pub mend_makes_up : MendMakesUp
mend_makes_up file = makes_up file

pub mend_room : MendRoom
mend_room file h = room file h
