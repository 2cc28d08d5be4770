-- Laws of marks of the components that a list names: none, one more, one that is there, one that is struck.
-- Assumes nothing.
use mathlib.Core.Path.{◌≡◌, refl, sym, ap, ◌∙◌}
use mathlib.Core.Bool.{Bool, true, false, cond, not, ◌&&◌, ◌||◌, true≢false, false≢true}
use mathlib.Core.List.{List, [], ◌∷◌, ◌++◌}
use Prim.Native.Nat.{ℕ, ◌≤◌, ◌<◌}
use native.Mathlib.Omega.{arith}
use borrow.Author.Tests.{eq-eqb, ne_eqb, eqb-true, eqb-false, not-true, not-false}
use lib.ListN.{length, get_or, set, take, replicate, length-set, length-replicate}
use lib.Dec.{eqb}
use Rattle.lists.specs.Lists.{keep, has, append_new, strike, overlay}
use Rattle.lists.proofs.ListsLaws.{replicate_zero}
use Rattle.lists.proofs.MembersLaws.{has_complete, has_none}
use Rattle.lists.proofs.NamesLaws.{strike_sound}
use Rattle.tables.proofs.NamedLaws.{has_append, overlay_list}
use Rattle.net.proofs.MarksLaws.{mark_one}
use Rattle.rounds.specs.Links.{IsListed, ListCovered}

pub listed_none : IsListed (replicate 256 0) []
listed_none = record { whole = length-replicate {A = ℕ} 256 0; exact = λ x h. rw (replicate_zero 256 x) }

-- One more.
pub listed_more : (marks xs : List ℕ) (x : ℕ) → x < 256 → IsListed marks xs → IsListed (set marks x 1) (xs ++ (x ∷ []))
listed_more marks xs x h l =
    record {
      whole = simp length-set l.whole;
      exact = λ y b. mark_one marks x (omega (arith, l.whole)) y ∙ ap (λ (c : Bool). c && not (eqb x y)) (l.exact y b)
          ∙ grouped (has y xs) (eqb x y) (eqb y x) (turned x y) ∙ ap not (sym (has_append y xs (x ∷ [])));
    }
  where
    turned : (a b : ℕ) → eqb a b ≡ eqb b a
    turned a b = by_test (eqb b a) refl
      where
        by_test : (c : Bool) → eqb b a ≡ c → eqb a b ≡ c
        by_test true e = eq-eqb a b (sym (eqb-true b a e))
        by_test false e = ne_eqb a b (λ q. eqb-false b a e (sym q))

    grouped : (a b c : Bool) → b ≡ c → (not a && not b) ≡ not (a || (c || false))
    grouped true b c e = refl
    grouped false true true e = refl
    grouped false false false e = refl
    grouped false true false e = absurd (true≢false e)
    grouped false false true e = absurd (false≢true e)

-- A mark says whether a component is there.
module _ (marks xs : List ℕ) (x : ℕ) (h : x < 256) (l : IsListed marks xs) where
  pub listed_there : (get_or marks x 0 ≡ 0 → ⊥) → has x xs ≡ true
  listed_there n = not-false (has x xs) (sym (l.exact x h) ∙ ne_eqb (get_or marks x 0) 0 n)

  pub listed_new : get_or marks x 0 ≡ 0 → has x xs ≡ false
  listed_new e = not-true (has x xs) (sym (l.exact x h) ∙ eq-eqb (get_or marks x 0) 0 e)

  -- Appended unless there.
  pub listed_kept : has x xs ≡ true → IsListed marks (append_new x xs)
  unfolding append_new
  listed_kept e = rw e l

  pub listed_appended : has x xs ≡ false → IsListed (set marks x 1) (append_new x xs)
  unfolding append_new
  listed_appended e = rw e (listed_more marks xs x h l)

-- A list without x is its own without x.
pub strike_none : (x : ℕ) (xs : List ℕ) → has x xs ≡ false → strike x xs ≡ xs
unfolding strike
strike_none x [] e = refl
strike_none x (y ∷ ys) e = by_test (eqb x y) (λ u. strike_none x ys u) e
  where
    by_test : (b : Bool) → (has x ys ≡ false → keep (λ z. not (eqb x z)) ys ≡ ys) → (b || has x ys) ≡ false
        → cond (not b) (y ∷ keep (λ z. not (eqb x z)) ys) (keep (λ z. not (eqb x z)) ys) ≡ y ∷ ys
    by_test true later u = absurd (true≢false u)
    by_test false later u = ap (λ (l : List ℕ). y ∷ l) (later u)

-- What a list names is marked; and so what is left of it.
pub listed_covers : (marks t t' : List ℕ) (n : ℕ) → n ≤ length t' → take n t' ≡ take n t → IsListed marks (take n t)
    → ListCovered n t' marks
listed_covers marks t t' n h e l =
    record { count = h; covered = λ x b z. ap (has x) e ∙ listed_new marks (take n t) x b l z }

pub covered_struck : (marks t t' : List ℕ) (n r i : ℕ) → r ≤ length t' → take r t' ≡ strike i (take n t) → ListCovered n t marks
    → ListCovered r t' marks
covered_struck marks t t' n r i h e l =
    record {
      count = h;
      covered = λ x b z. ap (has x) e ∙ has_none x (strike i (take n t))
          (λ m. true≢false (sym (has_complete x (take n t) (strike_sound i x (take n t) m)) ∙ l.covered x b z));
    }

-- A list laid over a table.
pub listed_overlay : (marks xs t t' : List ℕ) (r : ℕ) → r ≡ length xs → t' ≡ overlay xs t → IsListed marks xs
    → IsListed marks (take r t')
listed_overlay marks xs t t' r e f l = rw (f, overlay_list xs t r e) l
