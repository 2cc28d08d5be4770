-- What a look shows, on the records alone: `LookShows`. (That each port shown is a port of a primitive that is there: `shown_there_lem`, look/proofs/ShowLaws.)
-- An input shows the last of its targets, which is what it reaches last (LastLaws); an output shows its source, which is what it comes from.
-- Assumes nothing.
use mathlib.Core.Path.{◌≡◌, refl, subst}
use mathlib.Core.Logic.{inl, inr}
use Prim.Native.Nat.{ℕ}
use native.Mathlib.Nat.{zero-add}
use mathlib.Core.Bool.{Bool, true, false, ◌||◌, true≢false, false≢true}
use mathlib.Core.List.{List, [], ◌∷◌}
use borrow.Author.Tests.{eqb-true}
use lib.ListN.{length}
use lib.Dec.{eqb}
use Rattle.lists.specs.Lists.{from, any}
use Rattle.lists.proofs.MembersLaws.{In, any_none, length_nil, from0_sound, from0_complete}
use Rattle.component.specs.declared.Record.{Record}
use Rattle.component.specs.Record.{record_at, record_count, inputs_of}
use Rattle.component.specs.Drawing.{deepest}
use Rattle.flatten.specs.Descent.{pin}
use Rattle.flatten.proofs.Accepted.{Passed, accepted_passed}
use Rattle.flatten.proofs.DescentLeads.{targets_complete, source_complete}
use Rattle.boxes.specs.Boxes.{behind, dangling}
use Rattle.looked.specs.Owed.{InputsShown, OutputsShown, OpenInput, NoOpenInput, LookShows}
use Rattle.looked.proofs.LastLaws.{last_into, last_unique, last_sound}

-- A list that is not empty has a member.
length_member : {A : Type 0} (xs : List A) → eqb (length xs) 0 ≡ false → (a : A) × In a xs
length_member [] e = absurd (true≢false e)
length_member (x ∷ xs) e = (x, inl refl)

-- Where a test finds something, some member passes it.
any_member : {A : Type 0} (f : A → Bool) (xs : List A) → any f xs ≡ true → (a : A) × In a xs × (f a ≡ true)
any_member f [] e = absurd (false≢true e)
any_member {A = A} f (x ∷ xs) e = by_test (any_member f xs) (f x) refl e
  where
    by_test : (any f xs ≡ true → (a : A) × In a xs × (f a ≡ true)) → (b : Bool) → f x ≡ b → (b || any f xs) ≡ true
        → (a : A) × In a (x ∷ xs) × (f a ≡ true)
    by_test later true z u = (x, inl refl, z)
    by_test later false z u = let r = later u in (r.0, inr r.1, r.2)

-- Of a drawing that passes the checks before 15.
module _ (at : ℕ → Record) (n : ℕ) (d : Passed at n) where
  inputs_shown : (c : ℕ) → InputsShown at n c
  inputs_shown c i t l r =
      let m = targets_complete at n d 0 deepest c i t (zero-add deepest) refl (last_into at n r) in
      last_unique at n (last_sound at n d 0 deepest c i (pin n 0) t (zero-add deepest) refl m) r

  outputs_shown : (c : ℕ) → OutputsShown at n c
  outputs_shown c i s l r = source_complete at n d 0 deepest c i s (zero-add deepest) refl r

  open_input : (c : ℕ) → OpenInput at n c
  unfolding dangling
  open_input c e =
      let r = any_member (λ i. eqb (length (behind at n c i)) 0) (from 0 (inputs_of (at c))) e in
      let none = length_nil (behind at n c r.0) (eqb-true (length (behind at n c r.0)) 0 r.2) in (
        r.0,
        from0_sound (inputs_of (at c)) r.0 r.1,
        λ t v. subst (In t) none (targets_complete at n d 0 deepest c r.0 t (zero-add deepest) refl v),
      )

  pub no_open_input : (c : ℕ) → NoOpenInput at n c
  unfolding dangling
  no_open_input c e i l =
      let full = any_none (λ j. eqb (length (behind at n c j)) 0) i (from 0 (inputs_of (at c))) e (from0_complete (inputs_of (at c)) i l) in
      let m = length_member (behind at n c i) full in
      last_sound at n d 0 deepest c i (pin n 0) m.0 (zero-add deepest) refl m.1

pub look_shows : LookShows
look_shows file accepted c f =
    let at = record_at file in
    let n = record_count file in
    let d = accepted_passed file accepted in
    (inputs_shown at n d c, outputs_shown at n d c, open_input at n d c, no_open_input at n d c)
