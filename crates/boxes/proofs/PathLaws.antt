-- The component that a path names: whether a record is the child of an id; one id more; no id names a component below none.
-- Assumes nothing.
use mathlib.Core.Path.{◌≡◌, refl, sym, ap, ◌∙◌}
use mathlib.Core.Logic.{⊎_elim}
use Prim.Native.Nat.{ℕ, suc, ◌+◌, ◌-◌, ◌<◌, ◌≤◌}
use native.Mathlib.Omega.{arith}
use mathlib.Core.Bool.{true, false, ◌&&◌}
use mathlib.Core.List.{List, [], ◌∷◌, foldl}
use lib.ListN.{length, get_or, drop, drop_of_length-le}
use lib.Seq.{drop-cons}
use lib.Dec.{eqb}
use borrow.Author.Tests.{eqb-true}
use Rattle.lists.specs.Lists.{from, keep}
use Rattle.lists.proofs.TestsLaws.{and_left, and_right}
use Rattle.lists.proofs.MembersLaws.{In, get_or-cases, keep_sound, from_sound}
use Rattle.component.specs.declared.Record.{Record}
use Rattle.component.specs.declared.Component.{Component}
use Rattle.component.specs.Record.{record_at, record_count, owned_as}
use Rattle.component.specs.Reading.{StandsAs}
use Rattle.component.proofs.RecordLaws.{unseen_test, seen_is}
use Rattle.flatten.specs.Verdict.{verdict}
use Rattle.flatten.proofs.Accepted.{Passed, accepted_passed}
use Rattle.flatten.proofs.Components.{component_below, owner_before}
use Rattle.boxes.specs.Boxes.{child_named}
use Rattle.boxes.specs.Naming.{named}
use Rattle.std.specs.Prelude.{Ok, Option, Some, None}

-- A record that is no component is no child, and a component is one where owner and id are those asked for.
module _ (at : ℕ → Record) (c id q : ℕ) (g : Option Component) (e : StandsAs g (at q)) where
  pub named_none : g ≡ None → false ≡ named at c id q
  named_none h = rw (unseen_test (at q) g e h)

  pub named_is : (x : Component) → g ≡ Some x → (eqb x.owner c && eqb x.id.0 id) ≡ named at c id q
  named_is x h = rw (seen_is (at q) g e x h)

-- Below none there is none.
module _ (at : ℕ → Record) (n : ℕ) (d : Passed at n) where
  none_owned : (id q : ℕ) → In q (from 1 (n - 1)) → named at n id q ≡ true → ⊥
  none_owned id q u h =
      let owned = and_left (owned_as 1 n (at q)) _ h in
      let form = eqb-true (at q).form 1 (and_left (eqb (at q).form 1) _ owned) in
      let owner = eqb-true (at q).owner n (and_right (eqb (at q).form 1) _ owned) in
      omega (arith, owner, owner_before at n d q (from_sound 1 (n - 1) q u).0 form, component_below at n d q form)

  pub child_none : (id : ℕ) → child_named at n n id ≡ n
  child_none id =
      ⊎_elim (λ u. u)
      (λ v. let r = keep_sound (named at n id) _ (from 1 (n - 1)) v.1 in absurd (none_owned id _ r.1 r.0))
      (get_or-cases (keep (named at n id) (from 1 (n - 1))) 0 n)

  pub place_none : (path : List ℕ) → foldl (child_named at n) n path ≡ n
  place_none [] = refl
  place_none (id ∷ path) = ap (λ (c : ℕ). foldl (child_named at n) c path) (child_none id) ∙ place_none path

-- A loop over the path: one id more; it names none; the end of the path. x is what the whole path names.
module _ (at : ℕ → Record) (n c k x : ℕ) (path : List ℕ) (inv : foldl (child_named at n) c (drop k path) ≡ x) where
  pub place_next : (b : ℕ) → k < length path → b ≡ child_named at n c (get_or path k 0) → foldl (child_named at n) b (drop (k + 1) path) ≡ x
  place_next b h e =
      let z : k + 1 ≡ suc k = omega arith in
      ap (λ (j : ℕ). foldl (child_named at n) b (drop j path)) z
      ∙ ap (λ (y : ℕ). foldl (child_named at n) y (drop (suc k) path)) e
      ∙ sym (ap (foldl (child_named at n) c) (drop-cons path k 0 h)) ∙ inv

  pub place_end : length path ≤ k → c ≡ x
  place_end h = ap (foldl (child_named at n) c) (sym (drop_of_length-le path h)) ∙ inv

pub place_missed : (s path : List ℕ) (c k b x : ℕ) → verdict s ≡ Ok tt
    → foldl (child_named (record_at s) (record_count s)) c (drop k path) ≡ x → k < length path
    → b ≡ child_named (record_at s) (record_count s) c (get_or path k 0) → b ≡ record_count s → record_count s ≡ x
place_missed s path c k b x a inv h e z =
    let at = record_at s in
    let n = record_count s in
    sym (place_none at n (accepted_passed s a) (drop (k + 1) path))
    ∙ ap (λ (y : ℕ). foldl (child_named at n) y (drop (k + 1) path)) (sym z) ∙ place_next at n c k x path inv b h e
