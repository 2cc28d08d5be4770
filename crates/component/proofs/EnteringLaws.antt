-- Laws of records that enter an input, and of two that enter the same.
--   Enters s r   what it says that r enters the input that s enters
-- Assumes nothing.
use mathlib.Core.Path.{◌≡◌, sym, ◌∙◌}
use mathlib.Core.Logic.{◌⊎◌, inl, inr}
use mathlib.Core.Bool.{true, ◌&&◌}
use borrow.Author.Tests.{eqb-true, eq-eqb}
use lib.Dec.{eqb}
use Rattle.lists.proofs.TestsLaws.{and_left, and_right, or_cases}
use Rattle.component.specs.declared.Record.{Record}
use Rattle.component.specs.Record.{to_of, input_of, entering, entering_as}
use Rattle.component.specs.Reading.{form_of, owner_of}

-- A record that enters is a connection or a map.
pub enters_as : (r : Record) → entering r ≡ true → (form_of r ≡ 2) ⊎ (form_of r ≡ 3)
enters_as r e = by_form (or_cases (eqb (form_of r) 2) (eqb (form_of r) 3) e)
  where
    by_form : (eqb (form_of r) 2 ≡ true) ⊎ (eqb (form_of r) 3 ≡ true) → (form_of r ≡ 2) ⊎ (form_of r ≡ 3)
    by_form (inl x) = inl (eqb-true (form_of r) 2 x)
    by_form (inr x) = inr (eqb-true (form_of r) 3 x)

pub record Enters (s r : Record) : Type 0 where
  pub enters : entering r ≡ true
  pub owner : owner_of r ≡ owner_of s
  pub to : to_of r ≡ to_of s
  pub input : input_of r ≡ input_of s

pub enters_sound : (s r : Record) → entering_as s r ≡ true → Enters s r
enters_sound s r e =
    let o = entering r && eqb (owner_of r) (owner_of s) in
    let t = o && eqb (to_of r) (to_of s) in
    let a = and_left t (eqb (input_of r) (input_of s)) e in
    let b = and_left o (eqb (to_of r) (to_of s)) a in
    record {
      enters = and_left (entering r) (eqb (owner_of r) (owner_of s)) b;
      owner = eqb-true (owner_of r) (owner_of s) (and_right (entering r) (eqb (owner_of r) (owner_of s)) b);
      to = eqb-true (to_of r) (to_of s) (and_right o (eqb (to_of r) (to_of s)) a);
      input = eqb-true (input_of r) (input_of s) (and_right t (eqb (input_of r) (input_of s)) e);
    }

-- Two records that enter the input of a third enter each other's.
pub enters_both : (s q r : Record) → entering_as s q ≡ true → entering_as s r ≡ true → entering_as q r ≡ true
enters_both s q r e f =
    let a = enters_sound s q e in
    let b = enters_sound s r f in
    rw (
      b.enters,
      eq-eqb (owner_of r) (owner_of q) (b.owner ∙ sym a.owner),
      eq-eqb (to_of r) (to_of q) (b.to ∙ sym a.to),
      eq-eqb (input_of r) (input_of q) (b.input ∙ sym a.input),
    )

-- A record that enters the input of one that enters the input of s enters that of s.
pub enters_on : (s q r : Record) → entering_as s q ≡ true → entering_as q r ≡ true → entering_as s r ≡ true
enters_on s q r e f =
    let a = enters_sound s q e in
    let b = enters_sound q r f in
    rw (
      b.enters,
      eq-eqb (owner_of r) (owner_of s) (b.owner ∙ a.owner),
      eq-eqb (to_of r) (to_of s) (b.to ∙ a.to),
      eq-eqb (input_of r) (input_of s) (b.input ∙ a.input),
    )
