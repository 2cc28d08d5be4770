-- Laws of specs/Meeting.antt: the ways out of the functions of src/lib.rt; what a judgement is where the verdict is known, its bounds,
-- and what the verdict is where the judgement is known.
-- Assumes nothing.
use mathlib.Core.Path.{◌≡◌, refl, sym, ap, ◌∙◌}
use mathlib.Core.Bool.{Bool, true, false, cond, ◌&&◌, true≢false}
use mathlib.Core.List.{List, []}
use Prim.Native.Nat.{ℕ, ◌≤◌, ◌<◌}
use native.Mathlib.Omega.{arith}
use borrow.Author.Tests.{eqb-true, eqb-false, eq-eqb, ne_eqb}
use lib.Dec.{eqb}
use Rattle.kinds.specs.declared.Id.{Id}
use Rattle.kinds.specs.declared.table.Fields.{Fields}
use Rattle.kinds.specs.declared.answers.Refusal.{Refusal}
use Rattle.kinds.specs.Given.{tells_of_two, Verdict, verdict_gives}
use Rattle.component.specs.declared.Record.{Record}
use Rattle.component.specs.declared.ChildNo.{ChildNo}
use Rattle.component.specs.declared.Says.{Says}
use Rattle.component.specs.declared.Says.TheVariants.{Component, Connection, InputMap, OutputMap}
use Rattle.component.specs.declared.Reading.{Reading}
use Rattle.component.specs.declared.Reading.TheVariants.{Taken, Refused as NotTaken}
use Rattle.component.specs.Record.{record_at}
use Rattle.component.specs.Reading.{form_of, form_by, said}
use Rattle.component.specs.Drawing.{earlier_of}
use Rattle.component.proofs.RecordLaws.{refused_is, taken_form}
use Rattle.flatten.specs.Verdict.{refused, verdict}
use Rattle.flatten.proofs.Accepted.{not_accepted}
use Rattle.flatten.proofs.Refusals.{number_in, position_in}
use Rattle.flatten.proofs.JudgementLaws.{verdict_gives-is, verdict_bound}
use Rattle.checks.proofs.ChecksLaws.{earlier_most}
use Rattle.meeting.specs.Meeting.{met_as, meeting, against, judgement, Judges}
use Rattle.std.specs.Prelude.{Ok, Err}

-- A record's kind: refused; taken apart.
module _ (t : Record) (r : Reading) (e : said r ≡ t) where
  pub kind_refused : {k : ℕ} → r ≡ NotTaken k → 0 ≡ form_of t
  kind_refused h = sym (ap form_of (refused_is t r e h))

  module _ (o : ℕ) (x : Says) (h : r ≡ Taken o x) where
    pub kind_component : {i : Id} {f : Fields} → x ≡ Component i f → 1 ≡ form_of t
    kind_component z = sym (taken_form t r e o x h ∙ ap form_by z)

    pub kind_connection : {a c : ChildNo} {b d : ℕ} → x ≡ Connection a b c d → 2 ≡ form_of t
    kind_connection z = sym (taken_form t r e o x h ∙ ap form_by z)

    pub kind_input_map : {a d : ℕ} {c : ChildNo} → x ≡ InputMap a c d → 3 ≡ form_of t
    kind_input_map z = sym (taken_form t r e o x h ∙ ap form_by z)

    pub kind_output_map : {a : ChildNo} {b : ℕ} → x ≡ OutputMap a b → 4 ≡ form_of t
    kind_output_map z = sym (taken_form t r e o x h ∙ ap form_by z)

-- What two records are, by their kinds.
module _ (at : ℕ → Record) (q p a b : ℕ) (ea : a ≡ form_of (at q)) (eb : b ≡ form_of (at p)) where
  pub met_connections : (eqb a 2 && eqb b 2) ≡ true → 13 ≡ met_as at q p
  met_connections h = rw (← ea, ← eb, h)

  module _ (h : (eqb a 2 && eqb b 2) ≡ false) where
    pub met_maps : (eqb a 3 && eqb b 3) ≡ true → 23 ≡ met_as at q p
    met_maps k = rw (← ea, ← eb, h, k)

    pub met_both : (eqb a 3 && eqb b 3) ≡ false → 22 ≡ met_as at q p
    met_both k = rw (← ea, ← eb, h, k)

-- The refusal of a record that meets an earlier one.
pub meeting_is : (at : ℕ → Record) (p k q : ℕ) → q ≡ earlier_of at p → k ≡ met_as at q p
    → record { number = k; position = p; earlier = q } ≡ meeting at p
meeting_is at p k q e d =
    let n : k ≡ met_as at (earlier_of at p) p = d ∙ ap (λ (x : ℕ). met_as at x p) e in
    λ j. record { number = n j; position = p; earlier = e j }

-- A verdict with another number than 13; with 13.
module _ (at : ℕ → Record) (v : Verdict) (r : Refusal) (e : v ≡ Err r) where
  pub against_other : (r.number ≡ 13 → ⊥) → Err r ≡ against at v
  against_other h = rw (e, ne_eqb r.number 13 h)

  pub against_met : (m : Refusal) → r.number ≡ 13 → m ≡ meeting at r.position → Err m ≡ against at v
  against_met m h d = rw (e, eq-eqb r.number 13 h, d)

-- What `judge` promises is the judgement.
pub judges_judgement : (s : List ℕ) (v : Verdict) → Judges s v → v ≡ judgement s
judges_judgement s v e = verdict_gives-is v (judgement s) e

pub judgement_judges : (s : List ℕ) (u v : Verdict) → u ≡ verdict s → v ≡ against (record_at s) u → Judges s v
unfolding judgement
judgement_judges s u v e d = ap (λ (x : Verdict). verdict_gives x []) (d ∙ ap (against (record_at s)) e)

-- A verdict that is accepted, and one that is not, stay so.
pub against_accepted : (at : ℕ → Record) (v : Verdict) → against at v ≡ Ok tt → v ≡ Ok tt
against_accepted at (Ok _) e = refl
against_accepted at (Err r) e = absurd (not_accepted _ e)

pub judgement_accepted : (s : List ℕ) → judgement s ≡ Ok tt → verdict s ≡ Ok tt
unfolding judgement
judgement_accepted s e = against_accepted (record_at s) (verdict s) e

pub accepted_judgement : (s : List ℕ) → verdict s ≡ Ok tt → judgement s ≡ Ok tt
unfolding judgement
accepted_judgement s e = ap (against (record_at s)) e

-- The number of two records that meet is 13, 22 or 23.
pub met_as-most : (at : ℕ → Record) (q p : ℕ) → met_as at q p ≤ 23
met_as-most at q p = by_test (eqb (at q).form 2 && eqb (at p).form 2) (eqb (at q).form 3 && eqb (at p).form 3)
  where
    by_test : (b c : Bool) → cond b 13 (cond c 23 22) ≤ 23
    by_test true c = omega arith
    by_test false true = omega arith
    by_test false false = omega arith

-- A judgement's number is at most 23, its position and its earlier record are below 1,024.
pub record Small (r : Refusal) : Type 0 where
  pub number : r.number ≤ 23
  pub position : r.position < 1024
  pub earlier : r.earlier < 1024

against_small : (at : ℕ → Record) (v : Verdict) (r : Refusal)
    → ((u : Refusal) → v ≡ Err u → (u.number < 16) × (u.position < 1024) × (u.earlier ≡ 0)) → against at v ≡ Err r → Small r
against_small at (Ok _) r h e = absurd (not_accepted r (sym e))
against_small at (Err u) r h e = by_number (eqb u.number 13) e
  where
    by_number : (b : Bool) → ◌≡◌ {A = Verdict} (Err (cond b (meeting at u.position) u)) (Err r) → Small r
    by_number true d =
        let z : meeting at u.position ≡ r = cc in
        let most = met_as-most at (earlier_of at u.position) u.position in
        let k : met_as at (earlier_of at u.position) u.position ≡ r.number = ap (λ (x : Refusal). x.number) z in
        let p : u.position ≡ r.position = ap (λ (x : Refusal). x.position) z in
        let q : earlier_of at u.position ≡ r.earlier = ap (λ (x : Refusal). x.earlier) z in
        let l = earlier_most at u.position in
        let b = (h u refl).1 in
        record { number = omega (arith, k, most); position = omega (arith, p, b); earlier = omega (arith, q, l, b) }
    by_number false d =
        let z : u ≡ r = cc in
        let k : u.number ≡ r.number = ap (λ (x : Refusal). x.number) z in
        let p : u.position ≡ r.position = ap (λ (x : Refusal). x.position) z in
        let q : u.earlier ≡ r.earlier = ap (λ (x : Refusal). x.earlier) z in
        let b = h u refl in
        record { number = omega (arith, k, b.0); position = omega (arith, p, b.1); earlier = omega (arith, q, b.2) }

pub judgement_small : (s : List ℕ) (r : Refusal) → judgement s ≡ Err r → Small r
unfolding judgement
judgement_small s r e = against_small (record_at s) (verdict s) r (λ u d. verdict_bound s u d) e

-- Where two records are told, the verdict is 13 at the later.
told_only : (at : ℕ → Record) (v : Verdict) (r : Refusal)
    → ((u : Refusal) → v ≡ Err u → (u.number < 16) × (u.position < 1024) × (u.earlier ≡ 0))
    → against at v ≡ Err r → tells_of_two r.number ≡ true → v ≡ refused 13 r.position
told_only at (Ok _) r h e t = absurd (not_accepted r (sym e))
told_only at (Err u) r h e t = by_number (eqb u.number 13) refl e
  where
    by_number : (b : Bool) → eqb u.number 13 ≡ b → ◌≡◌ {A = Verdict} (Err (cond b (meeting at u.position) u)) (Err r)
        → ◌≡◌ {A = Verdict} (Err u) (refused 13 r.position)
    by_number true y d =
        let n = eqb-true u.number 13 y in
        let p : u.position ≡ r.position = ap position_in d in
        let q = (h u refl).2 in
        λ j. Err (record { number = n j; position = p j; earlier = q j })
    by_number false y d =
        let k : u.number ≡ r.number = ap number_in d in
        let few = (h u refl).0 in
        let ne = eqb-false u.number 13 y in
        absurd
        (true≢false
        (sym t
        ∙ rw (ne_eqb r.number 13 (λ z. ne (k ∙ z)), ne_eqb r.number 22 (λ z. omega (arith, k, z, few)), ne_eqb r.number 23 (λ z. omega (arith, k, z, few)))))

pub judgement_told : (s : List ℕ) (r : Refusal) → judgement s ≡ Err r → tells_of_two r.number ≡ true → verdict s ≡ refused 13 r.position
unfolding judgement
judgement_told s r e t = told_only (record_at s) (verdict s) r (λ u d. verdict_bound s u d) e t

-- Where none are, the judgement is the verdict.
untold_same : (at : ℕ → Record) (v : Verdict) (r : Refusal) → against at v ≡ Err r → tells_of_two r.number ≡ false → v ≡ Err r
untold_same at (Ok _) r e t = absurd (not_accepted r (sym e))
untold_same at (Err u) r e t = by_number (eqb u.number 13) e
  where
    met_told : (b c : Bool) → tells_of_two (cond b 13 (cond c 23 22)) ≡ true
    met_told true c = refl
    met_told false true = refl
    met_told false false = refl

    by_number : (b : Bool) → ◌≡◌ {A = Verdict} (Err (cond b (meeting at u.position) u)) (Err r) → ◌≡◌ {A = Verdict} (Err u) (Err r)
    by_number true d =
        let q = earlier_of at u.position in
        absurd
        (true≢false
        (sym (met_told (eqb (at q).form 2 && eqb (at u.position).form 2) (eqb (at q).form 3 && eqb (at u.position).form 3))
        ∙ ap (λ (v : Verdict). tells_of_two (number_in v)) d ∙ t))
    by_number false d = d

pub judgement_untold : (s : List ℕ) (r : Refusal) → judgement s ≡ Err r → tells_of_two r.number ≡ false → verdict s ≡ Err r
unfolding judgement
judgement_untold s r e t = untold_same (record_at s) (verdict s) r e t
