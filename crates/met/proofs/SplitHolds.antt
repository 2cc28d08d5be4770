-- The split of 13 holds: `Split`.
-- Where the verdict is 13 at p, the checks 3 to 12 pass all records and p is the first that fails 13; so of the records before p exactly one enters
-- the same input, and by check 4 a connection never stands behind a map.
-- First two records that enter one input; then the three numbers; then the theorem.
-- Assumes nothing.
use mathlib.Core.Path.{◌≡◌, refl, sym, ap, ◌∙◌, subst}
use mathlib.Core.Logic.{◌↔◌, ◌⊎◌, inl, inr}
use Prim.Native.Nat.{ℕ, ◌≤◌, ◌<◌}
use native.Mathlib.Omega.{arith}
use native.Mathlib.Decide.{dec_lt}
use mathlib.Core.Bool.{Bool, true, cond, ◌&&◌, true≢false}
use borrow.Author.Tests.{ne_eqb}
use lib.ListN.{get_or}
use lib.Dec.{eqb}
use Rattle.lists.specs.Lists.{from, keep, any}
use Rattle.lists.proofs.TestsLaws.{and_left, and_right}
use Rattle.lists.proofs.MembersLaws.{In, keep_sound, keep_first, any_some, from0_sound, from0_complete}
use Rattle.kinds.specs.Given.{tells_of_two}
use Rattle.component.specs.declared.Record.{Record}
use Rattle.component.specs.Record.{record_at, record_count, entering, entering_as}
use Rattle.component.specs.Reading.{form_of}
use Rattle.component.specs.Drawing.{fails13, earlier_of}
use Rattle.component.proofs.EnteringLaws.{enters_as, enters_sound, enters_both}
use Rattle.flatten.proofs.Refusals.{FirstAt, first_at, FirstFails, verdict_first, forms_rise}
use Rattle.meeting.specs.Meeting.{meeting, against, judgement}
use Rattle.meeting.proofs.MeetingLaws.{judgement_accepted, accepted_judgement, judgement_told}
use Rattle.met.specs.Met.{Meets, Split}

module _ (at : ℕ → Record) (n p : ℕ) (k : FirstFails at n 13 p) where
  here : FirstAt (fails13 at) 0 n p
  here = first_at (fails13 at) 0 n p k.found

  abbrev meets : ℕ → Bool
  meets q = entering_as (at p) (at q)

  later_enters : entering (at p) ≡ true
  later_enters = and_left (entering (at p)) (any meets (from 0 p)) here.passes

  -- Of a record that enters, the earlier one is the first that enters its input.
  earlier_is : get_or (keep meets (from 0 p)) 0 p ≡ earlier_of at p
  earlier_is = rw later_enters

  earlier_in : (meets (earlier_of at p) ≡ true) × In (earlier_of at p) (from 0 p)
  earlier_in =
      subst (λ (q : ℕ). (meets q ≡ true) × In q (from 0 p)) earlier_is
      (keep_sound meets (get_or (keep meets (from 0 p)) 0 p) (from 0 p)
      (keep_first meets (from 0 p) p (and_right (entering (at p)) (any meets (from 0 p)) here.passes)))

  before : earlier_of at p < p
  before = from0_sound p (earlier_of at p) earlier_in.1

  -- No record before p has an earlier one that enters its input.
  none_earlier : (q r : ℕ) → r < p → q < r → meets q ≡ true → meets r ≡ true → ⊥
  none_earlier q r h l e f =
      true≢false
      (sym (rw (enters_sound (at p) (at r) f).enters
      (any_some (λ x. entering_as (at r) (at x)) q (from 0 r) (enters_both (at p) (at r) (at q) f e) (from0_complete r q l)))
      ∙ here.before r (omega arith) h)

  only : (q : ℕ) → q < p → meets q ≡ true → q ≡ earlier_of at p
  only q h e = by_order (dec_lt q (earlier_of at p)) (dec_lt (earlier_of at p) q)
    where
      by_order : Dec (q < earlier_of at p) → Dec (earlier_of at p < q) → q ≡ earlier_of at p
      by_order (yes l) d = absurd (none_earlier q (earlier_of at p) before l e earlier_in.0)
      by_order (no l) (yes g) = absurd (none_earlier (earlier_of at p) q h g earlier_in.0 e)
      by_order (no l) (no g) = omega (arith, l, g)

-- The number by the kinds of the earlier and of the later record.
abbrev number : ℕ → ℕ → ℕ
number a b = cond (eqb a 2 && eqb b 2) 13 (cond (eqb a 3 && eqb b 3) 23 22)

record Told (a b x : ℕ) : Type 0 where
  two_connections : x ≡ 13 ↔ (a ≡ 2) × (b ≡ 2)
  connection_and_map : x ≡ 22 ↔ (a ≡ 2) × (b ≡ 3)
  two_maps_lem : x ≡ 23 ↔ (a ≡ 3) × (b ≡ 3)
  one_of : tells_of_two x ≡ true

told_13 : Told 2 2 13
told_13 =
    record {
      two_connections = (λ e. (refl, refl), λ e. refl);
      connection_and_map = (λ e. absurd (omega (arith, e)), λ e. absurd (omega (arith, e.1)));
      two_maps_lem = (λ e. absurd (omega (arith, e)), λ e. absurd (omega (arith, e.1)));
      one_of = refl;
    }

told_22 : Told 2 3 22
told_22 =
    record {
      two_connections = (λ e. absurd (omega (arith, e)), λ e. absurd (omega (arith, e.1)));
      connection_and_map = (λ e. (refl, refl), λ e. refl);
      two_maps_lem = (λ e. absurd (omega (arith, e)), λ e. absurd (omega (arith, e.0)));
      one_of = refl;
    }

told_23 : Told 3 3 23
told_23 =
    record {
      two_connections = (λ e. absurd (omega (arith, e)), λ e. absurd (omega (arith, e.1)));
      connection_and_map = (λ e. absurd (omega (arith, e)), λ e. absurd (omega (arith, e.0)));
      two_maps_lem = (λ e. (refl, refl), λ e. refl);
      one_of = refl;
    }

told : (a b : ℕ) → (a ≡ 2) ⊎ (a ≡ 3) → (b ≡ 2) ⊎ (b ≡ 3) → a ≤ b → Told a b (number a b)
told a b (inl x) (inl y) l = rw (x, y) told_13
told a b (inl x) (inr y) l = rw (x, y) told_22
told a b (inr x) (inl y) l = absurd (omega (arith, x, y, l))
told a b (inr x) (inr y) l = rw (x, y) told_23

meets_here : (at : ℕ → Record) (n p : ℕ) → FirstFails at n 13 p → Meets at p (meeting at p)
meets_here at n p k =
    let e = earlier_of at p in
    let t = told (form_of (at e)) (form_of (at p))
    (enters_as (at e) (enters_sound (at p) (at e) (earlier_in at n p k).0).enters)
    (enters_as (at p) (later_enters at n p k))
    (forms_rise at n 13 k.passed (omega arith) e p (omega (arith, before at n p k)) (omega (arith, (here at n p k).most))) in
    record {
      position = refl;
      before = before at n p k;
      later_enters = later_enters at n p k;
      same_input = (earlier_in at n p k).0;
      only = only at n p k;
      one_of = t.one_of;
      two_connections = t.two_connections;
      connection_and_map = t.connection_and_map;
      two_maps_lem = t.two_maps_lem;
    }

pub split : Split
unfolding judgement
split file = (
  (judgement_accepted file, accepted_judgement file),
  λ k p h e. ap (against (record_at file)) e ∙ rw (ne_eqb k 13 h),
  λ p e. (
    meeting (record_at file) p,
    ap (against (record_at file)) e,
    meets_here (record_at file) (record_count file) p (verdict_first file 13 p (λ z. omega (arith, z)) e),
  ),
  judgement_told file,
)
