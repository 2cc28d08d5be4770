-- What it means that checks accept: no record fails any of them. docs/SPECIFICATION.md, "Numbers given back".
--   check_numbered at n k   the check whose number is k
--   Passed at n            n records, record p being `at p`, of which none fails a check before 15
-- `judged_passes` says it once, for any list of checks; `accepted_check` says it of an accepted file and all checks, and `accepted_passed`
-- of the checks before 15, as `passed_before` does where those alone have passed. So what rests on `Passed` is known to check 15 itself.
-- Assumes nothing.
use mathlib.Core.Path.{◌≡◌, refl, sym, ap, ◌∙◌}
use mathlib.Core.Logic.{◌⊎◌, inl, inr}
use mathlib.Core.Bool.{Bool, true, false, cond}
use mathlib.Core.List.{List, [], ◌∷◌}
use mathlib.Core.Option.{Option, none, some}
use Prim.Native.Nat.{ℕ, ◌-◌, ◌≤◌, ◌<◌}
use native.Mathlib.Omega.{arith}
use borrow.Author.Tests.{le-ltb, ltb-true}
use lib.Dec.{ltb}
use lib.ListN.{length, get_or, take}
use lib.Seq.{get_or-take}
use Rattle.lists.specs.Lists.{from, first}
use Rattle.lists.proofs.MembersLaws.{In, first_none, from0_complete, get_or-cases}
use Rattle.kinds.specs.declared.answers.Refusal.{Refusal}
use Rattle.component.specs.declared.Record.{Record}
use Rattle.component.specs.Record.{no_record, record_at, record_count, sized}
use Rattle.component.specs.Reading.{Readable}
use Rattle.flatten.specs.Verdict.{checks, refused, or_later, judged, verdict}
use Rattle.flatten.specs.Searches.{PassedBefore}
use Rattle.std.specs.Prelude.{Ok, Err}

-- A check: its number, and the positions that fail it.
abbrev pub Check : Type 0
Check = ℕ × (ℕ → Bool)

-- A refusal is no acceptance.
pub not_accepted : (r : Refusal) → Err r ≡ Ok (tt {0}) → ⊥
not_accepted r e = let z : ◌≡◌ {A = ℕ} 0 1 = cc in omega arith

pub refused_not : (k p : ℕ) → refused k p ≡ Ok tt → ⊥
refused_not k p e = not_accepted _ e

-- Where the judgement is "accepted", no record fails any of the checks.
pub judged_passes : (n : ℕ) (ks : List Check) → judged n ks ≡ Ok tt
    → (k : Check) → In k ks → (p : ℕ) → p < n → k.1 p ≡ false
judged_passes n [] e k h p l = absurd h
judged_passes n (j ∷ ks) e k h p l =
    by_found (λ z u. judged_passes n ks z k u p l) (first j.1 (from 0 n)) refl e h
  where
    by_found : (judged n ks ≡ Ok tt → In k ks → k.1 p ≡ false)
        → (found : Option ℕ) → first j.1 (from 0 n) ≡ found
        → or_later j.0 found (judged n ks) ≡ Ok tt → In k (j ∷ ks) → k.1 p ≡ false
    by_found later (some q) z e h = absurd (refused_not j.0 q e)
    by_found later none z e (inl u) =
        ap (λ (c : Check). c.1 p) u
        ∙ first_none j.1 p (from 0 n) z (from0_complete n p l)
    by_found later none z e (inr u) = later e u

-- No check, which never fails.
abbrev pub no_check : Check
no_check = (0, λ p. false)

-- No record fails the check at a place of the list; past its end there is none.
judged_place : (n : ℕ) (ks : List Check) → judged n ks ≡ Ok tt → (j p : ℕ) → p < n → (get_or ks j no_check).1 p ≡ false
judged_place n ks e j p l = by_place (get_or-cases ks j no_check)
  where
    by_place : (get_or ks j no_check ≡ no_check) ⊎ ((j < length ks) × In (get_or ks j no_check) ks) → (get_or ks j no_check).1 p ≡ false
    by_place (inl u) = ap (λ (c : Check). c.1 p) u
    by_place (inr h) = judged_passes n ks e _ h.1 p l

-- The check of a number; one that never fails where there is none.
abbrev pub check_numbered : (ℕ → Record) → ℕ → ℕ → Check
check_numbered at n k = get_or (checks at n) (k - 3) no_check

-- A drawing that passes every check before 15, and has no record past its end: with d : Passed at n, `d.passes 4 refl p` says of record p
-- that it does not fail check 4.
pub record Passed (at : ℕ → Record) (n : ℕ) : Type 0 where
  pub past : (p : ℕ) → n ≤ p → at p ≡ no_record
  pub passes : (k : ℕ) → ltb k 15 ≡ true → (p : ℕ) → p < n → (check_numbered at n k).1 p ≡ false

-- Behind the last record there is none.
pub record_at-past : (file : List ℕ) (p : ℕ) → record_count file ≤ p → record_at file p ≡ no_record
record_at-past file p h = rw (le-ltb p (record_count file) h)

-- No record fails a check whose place is before that of m, where the checks before m have passed.
pub passed_check : (at : ℕ → Record) (n m k p : ℕ) → PassedBefore at n m → k - 3 < m - 3 → p < n → (check_numbered at n k).1 p ≡ false
passed_check at n m k p e h l =
    ap (λ (c : Check). c.1 p) (sym (get_or-take (m - 3) (checks at n) (k - 3) no_check h))
    ∙ judged_place n (take (m - 3) (checks at n)) e (k - 3) p l

pub passed_before : (file : List ℕ) → PassedBefore (record_at file) (record_count file) 15 → Passed (record_at file) (record_count file)
passed_before file e =
    record {
      past = record_at-past file;
      passes = λ k h p l. passed_check (record_at file) (record_count file) 15 k p e (omega (arith, ltb-true k 15 h)) l;
    }

-- An accepted file has a size that check 1 passes.
pub accepted_sized : (file : List ℕ) → verdict file ≡ Ok tt → sized file ≡ true
unfolding verdict
accepted_sized file accepted = by_size (sized file) accepted
  where
    by_size : (b : Bool)
        → cond b (judged (record_count file) (checks (record_at file) (record_count file))) (refused 1 0) ≡ Ok tt
        → b ≡ true
    by_size true e = refl
    by_size false e = absurd (refused_not 1 0 e)

module _ (file : List ℕ) (accepted : verdict file ≡ Ok tt) where
  judged_all_lem : judged (record_count file) (checks (record_at file) (record_count file)) ≡ Ok tt
  unfolding verdict
  judged_all_lem = rw (accepted_sized file accepted) at accepted

  -- Of an accepted file no record p fails the check numbered k, for any p and k.
  pub accepted_check : (k p : ℕ) → p < record_count file → (check_numbered (record_at file) (record_count file) k).1 p ≡ false
  accepted_check k p l = judged_place (record_count file) (checks (record_at file) (record_count file)) judged_all_lem (k - 3) p l

  pub accepted_readable : Readable file
  accepted_readable p l = accepted_check 3 p l

  pub accepted_passed : Passed (record_at file) (record_count file)
  accepted_passed = record { past = record_at-past file; passes = λ k h. accepted_check k }
