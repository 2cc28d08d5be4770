-- A look and a load: what refuses a load refuses a look alike (`LookAsLoad`); and a look that is not refused has passed a load's own checks, 20 and
-- 21, so that it is at a component without an open input, and shows what the drawing says (`LookAccepted`).
-- Assumes nothing.
use mathlib.Core.Path.{◌≡◌, refl, ap}
use mathlib.Core.Logic.{◌⊎◌, inl, inr, ⊎_elim}
use Prim.Native.Nat.{ℕ, ◌-◌, ◌<◌}
use native.Mathlib.Nat.{zero-add}
use native.Mathlib.Omega.{arith}
use mathlib.Core.Bool.{Bool, true, false, cond, ◌&&◌}
use mathlib.Core.List.{List, [], ◌∷◌, foldl}
use borrow.Author.Tests.{eqb-true, le-ltb, not-false}
use lib.ListN.{length}
use lib.Dec.{eqb}
use Rattle.lists.specs.Lists.{from, keep}
use Rattle.lists.proofs.TestsLaws.{and_left}
use Rattle.lists.proofs.MembersLaws.{get_or-cases, keep_sound}
use Rattle.kinds.specs.Given.{refused_by, Verdict}
use Rattle.component.specs.declared.Record.{Record}
use Rattle.component.specs.Record.{record_at, record_count, owned_as, sized}
use Rattle.component.specs.Reading.{form_of, owner_of, id_of}
use Rattle.component.specs.Drawing.{deepest}
use Rattle.flatten.specs.Verdict.{refused, and_then}
use Rattle.flatten.proofs.Accepted.{Passed, not_accepted, refused_not, accepted_passed}
use Rattle.flatten.proofs.DescentLeads.{source_sound}
use Rattle.load.specs.Load.{load_verdict}
use Rattle.boxes.specs.Boxes.{child_named, place_of}
use Rattle.look.specs.Look.{look_number, looked_at, loads_own, look_verdict}
use Rattle.look.proofs.LookLaws.{own_passed, number_passed}
use Rattle.looked.specs.Owed.{LookAsLoad, LookAccepted}
use Rattle.looked.proofs.Shows.{no_open_input}
use Rattle.std.specs.Prelude.{Ok, Err}

pub look_as_load : LookAsLoad
unfolding look_verdict
look_as_load file T path ns ws h k r e =
    let own : loads_own file T ns ws ≡ Err r = rw (le-ltb (length ns) 256 h, le-ltb (length ws) 256 k) (by_size (sized file)) in
    ap (λ (v : Verdict). and_then v (look_number (record_at file) (record_count file) T (looked_at file path))) own
  where
    by_size : (b : Bool) → cond (b && false) (refused 2 0) (load_verdict file T) ≡ Err r
    by_size true = e
    by_size false = e

-- Accepted after both: each has passed.
and_then-passed : (v : Verdict) (k : ℕ) → and_then v k ≡ Ok tt → (v ≡ Ok tt) × (k ≡ 0)
and_then-passed (Err r) k e = absurd (not_accepted r e)
and_then-passed (Ok _) k e = by_number (eqb k 0) refl e
  where
    by_number : (b : Bool) → eqb k 0 ≡ b → ◌≡◌ {A = Verdict} (cond b (Ok tt) (Err (refused_by k))) (Ok tt) → ◌≡◌ {A = Verdict} (Ok tt) (Ok tt) × (k ≡ 0)
    by_number true z e = (refl, eqb-true k 0 z)
    by_number false z e = absurd (refused_not k 0 e)

module _ (at : ℕ → Record) (n : ℕ) where
  -- What a path names below a component is a component, or nothing.
  path_component : (path : List ℕ) (c : ℕ) → (c ≡ n) ⊎ (form_of (at c) ≡ 1)
      → (foldl (child_named at n) c path ≡ n) ⊎ (form_of (at (foldl (child_named at n) c path)) ≡ 1)
  path_component [] c h = h
  path_component (i ∷ path) c h =
      path_component path (child_named at n c i)
      (⊎_elim (λ u. inl u) (λ v. inr (child_form (keep_sound named (child_named at n c i) (from 1 (n - 1)) v.1).0))
      (get_or-cases (keep named (from 1 (n - 1))) 0 n))
    where
      named : ℕ → Bool
      named q = owned_as 1 c (at q) && eqb (id_of (at q)) i

      child_form : {q : ℕ} → named q ≡ true → form_of (at q) ≡ 1
      child_form {q = q} e = eqb-true (form_of (at q)) 1 (and_left _ (eqb (owner_of (at q)) c) (and_left (owned_as 1 c (at q)) _ e))

  -- What is looked at is a component.
  place_component : Passed at n → (path : List ℕ) → place_of at n path < n → form_of (at (place_of at n path)) ≡ 1
  place_component d path l =
      let root : form_of (at 0) ≡ 1 = eqb-true (form_of (at 0)) 1 (not-false _ (d.passes 4 refl 0 (omega (arith, l)))) in
      ⊎_elim (λ u. absurd (omega (arith, u, l))) (λ v. v) (path_component path 0 (inr root))

pub look_accepted : LookAccepted
unfolding look_verdict
look_accepted file T path ns ws e =
    let at = record_at file in
    let n = record_count file in
    let c = looked_at file path in
    let passed = and_then-passed (loads_own file T ns ws) (look_number at n T c) e in
    let d = accepted_passed file (own_passed file T ns ws passed.0).judged in
    let found = number_passed at n T c passed.1 in (
      place_component at n d path found.there,
      no_open_input at n d c found.closed,
      λ i l. source_sound at n d 0 deepest c i (zero-add deepest) refl l,
    )
