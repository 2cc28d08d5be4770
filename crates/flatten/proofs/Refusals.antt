-- What it means that checks refuse: one of them finds the record, those before it have passed, and no record before fails it; and what the checks before
-- it give. docs/SPECIFICATION.md, "Numbers given back".
--   number_in v, position_in v   what a verdict tells
--   FirstAt f q k p            of the k positions from q on p is the first that f holds of
--   FirstFails at n k p        the record at p is the first that fails check k, and none fails a check before
-- Assumes nothing.
use mathlib.Core.Path.{◌≡◌, refl, sym, ap, ◌∙◌, subst}
use mathlib.Core.Bool.{Bool, true, false, cond, false≢true}
use mathlib.Core.List.{List, [], ◌∷◌}
use mathlib.Core.Option.{Option, none, some}
use Prim.Native.Nat.{ℕ, zero, suc, ◌+◌, ◌-◌, ◌≤◌, ◌<◌}
use native.Mathlib.Decide.{dec_lt}
use native.Mathlib.Omega.{arith}
use borrow.Author.Tests.{eqb-false, ltb-false}
use lib.Dec.{ltb}
use lib.ListN.{length, get_or, take}
use Rattle.lists.specs.Lists.{from, first}
use Rattle.lists.proofs.TestsLaws.{or_left}
use Rattle.component.specs.declared.Record.{Record}
use Rattle.component.specs.Record.{record_at, record_count, sized}
use Rattle.component.specs.Reading.{form_of}
use Rattle.flatten.specs.Verdict.{or_later, judged, checks, refused, verdict}
use Rattle.flatten.specs.Searches.{PassedBefore}
use Rattle.flatten.proofs.Accepted.{Check, no_check, check_numbered, not_accepted, passed_check}
use Rattle.flatten.proofs.JudgementLaws.{number_at}
use Rattle.kinds.specs.Given.{Verdict}
use Rattle.std.specs.Prelude.{Ok, Err}

-- What a verdict tells.
abbrev pub number_in : Verdict → ℕ
number_in (Ok _) = 0
number_in (Err r) = r.number

abbrev pub position_in : Verdict → ℕ
position_in (Ok _) = 0
position_in (Err r) = r.position

-- What a search that finds p says.
pub record FirstAt (f : ℕ → Bool) (q k p : ℕ) : Type 0 where
  pub passes : f p ≡ true
  pub least : q ≤ p
  pub most : p < q + k
  pub before : (r : ℕ) → q ≤ r → r < p → f r ≡ false

abbrev some_of : Option ℕ → ℕ
some_of none = 0
some_of (some p) = p

abbrev is_some : Option ℕ → Bool
is_some none = false
is_some (some p) = true

pub first_at : (f : ℕ → Bool) (q k p : ℕ) → first f (from q k) ≡ some p → FirstAt f q k p
first_at f q zero p e = absurd (false≢true (ap is_some e))
first_at f q (suc k) p e = by_test (f q) refl (λ u. first_at f (suc q) k p u) e
  where
    by_test : (b : Bool) → f q ≡ b → (first f (from (suc q) k) ≡ some p → FirstAt f (suc q) k p)
        → cond b (some q) (first f (from (suc q) k)) ≡ some p → FirstAt f q (suc k) p
    by_test true t later u =
        let z : q ≡ p = ap some_of u in
        record {
          passes = subst (λ (x : ℕ). f x ≡ true) z t;
          least = omega (arith, z);
          most = omega (arith, z);
          before = λ r l h. absurd (omega (arith, z, l, h));
        }
    by_test false t later u =
        let z = later u in
        record {
          passes = z.passes;
          least = omega (arith, z.least);
          most = omega (arith, z.most);
          before = λ r l h. by_place r l h (dec_lt q r) z;
        }
      where
        by_place : (r : ℕ) → q ≤ r → r < p → Dec (q < r) → FirstAt f (suc q) k p → f r ≡ false
        by_place r l h (yes g) z = z.before r g h
        by_place r l h (no g) z = subst (λ (x : ℕ). f x ≡ false) (omega (arith, l, g)) t

-- Where checks refuse, one of them finds the record, and those before it have passed.
record Finds (n : ℕ) (cs : List Check) (k p : ℕ) : Type 0 where
  place : ℕ
  there : place < length cs
  numbered : (get_or cs place no_check).0 ≡ k
  found : first (get_or cs place no_check).1 (from 0 n) ≡ some p
  passed : judged n (take place cs) ≡ Ok tt

judged_finds : (n : ℕ) (cs : List Check) (k p : ℕ) → judged n cs ≡ refused k p → Finds n cs k p
judged_finds n [] k p e = absurd (not_accepted _ (sym e))
judged_finds n (c ∷ cs) k p e = by_found (first c.1 (from 0 n)) refl e (λ u. judged_finds n cs k p u)
  where
    by_found : (o : Option ℕ) → first c.1 (from 0 n) ≡ o → or_later c.0 o (judged n cs) ≡ refused k p
        → (judged n cs ≡ refused k p → Finds n cs k p) → Finds n (c ∷ cs) k p
    by_found (some q) f u later =
        record { place = 0; there = omega arith; numbered = ap number_in u; found = f ∙ ap some (ap position_in u); passed = refl }
    by_found none f u later =
        let z = later u in
        record {
          place = suc z.place;
          there = omega (arith, z.there);
          numbered = z.numbered;
          found = z.found;
          passed = ap (λ (o : Option ℕ). or_later c.0 o (judged n (take z.place cs))) f ∙ z.passed;
        }

pub record FirstFails (at : ℕ → Record) (n k p : ℕ) : Type 0 where
  pub passed : PassedBefore at n k
  pub found : first (check_numbered at n k).1 (from 0 n) ≡ some p

judged_first : (at : ℕ → Record) (n k p : ℕ) → judged n (checks at n) ≡ refused k p → FirstFails at n k p
judged_first at n k p e =
    let z = judged_finds n (checks at n) k p e in
    let j : z.place ≡ k - 3 = omega (arith, number_at (checks at n) 3 z.place refl z.there, z.numbered) in
    record {
      passed = ap (λ (m : ℕ). judged n (take m (checks at n))) (sym j) ∙ z.passed;
      found = ap (λ (m : ℕ). first (get_or (checks at n) m no_check).1 (from 0 n)) (sym j) ∙ z.found;
    }

pub verdict_first : (file : List ℕ) (k p : ℕ) → (k ≡ 1 → ⊥) → verdict file ≡ refused k p → FirstFails (record_at file) (record_count file) k p
unfolding verdict
verdict_first file k p h e = by_size (sized file) e
  where
    by_size : (b : Bool)
        → cond b (judged (record_count file) (checks (record_at file) (record_count file))) (refused 1 0) ≡ refused k p
        → FirstFails (record_at file) (record_count file) k p
    by_size true u = judged_first (record_at file) (record_count file) k p u
    by_size false u = absurd (h (sym (ap number_in u)))

-- Where check 4 has passed, kinds do not fall.
module _ (at : ℕ → Record) (n k : ℕ) (passed : PassedBefore at n k) (h : 4 < k) where
  not_falls : (r : ℕ) → suc r < n → form_of (at r) ≤ form_of (at (suc r))
  not_falls r l =
      ltb-false (form_of (at (suc r))) (form_of (at r))
      (or_left (ltb (form_of (at (suc r))) (form_of (at r))) _ (passed_check at n k 4 (suc r) passed (omega (arith, h)) l))

  pub forms_rise : (q m : ℕ) → q ≤ m → m < n → form_of (at q) ≤ form_of (at m)
  forms_rise q zero l u =
      let e : 0 ≡ q = omega (arith, l) in
      let r : form_of (at 0) ≤ form_of (at 0) = omega arith in
      subst (λ (x : ℕ). form_of (at x) ≤ form_of (at 0)) e r
  forms_rise q (suc m) l u = by_place (dec_lt q (suc m)) (λ g. forms_rise q m (omega (arith, g)) (omega (arith, u)))
    where
      by_place : Dec (q < suc m) → (q < suc m → form_of (at q) ≤ form_of (at m)) → form_of (at q) ≤ form_of (at (suc m))
      by_place (yes g) v = omega (arith, v g, not_falls m u)
      by_place (no g) v =
          let e : suc m ≡ q = omega (arith, l, g) in
          let r : form_of (at (suc m)) ≤ form_of (at (suc m)) = omega arith in
          subst (λ (x : ℕ). form_of (at x) ≤ form_of (at (suc m))) e r

  -- So components stand first.
  pub forms_first : (c q : ℕ) → c < n → form_of (at c) ≡ 1 → q ≤ c → form_of (at q) ≡ 1
  forms_first c q l e g =
      let three = eqb-false (form_of (at q)) 0 (passed_check at n k 3 q passed (omega (arith, h)) (omega (arith, l, g))) in
      omega (arith, three, forms_rise q c g l, e)
