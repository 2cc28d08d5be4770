-- Checks 4 and 5 do not ask whether a record is one, nor check 15 whether the source of a connection is there, since the checks before
-- them have settled that; checks that asked it as well would change no verdict. docs/SPECIFICATION.md, "Numbers given back".
--   asked3 at f p        the record at p, if check 3 passes it or it is the first, fails f
--   asked15 at n p       the connection at p, if its source is a component, yields a wire whose ends differ in width
--   asked at n           the checks of a drawing with these for 4, 5 and 15
--   Same n done cs ds    the checks cs and ds say the same of each of n records, each where those before it, done first, have passed
-- Assumes nothing.
use mathlib.Core.Path.{◌≡◌, refl, sym, ap, ◌∙◌, subst}
use mathlib.Core.Logic.{inl, inr}
use mathlib.Core.Bool.{Bool, true, false, cond, not, ◌&&◌}
use mathlib.Core.List.{List, [], ◌∷◌, ◌++◌, append-nil, append_assoc}
use mathlib.Core.Option.{Option, none, some}
use Prim.Native.Nat.{ℕ, zero, suc, ◌<◌}
use borrow.Author.Tests.{eq-eqb, eqb-true}
use lib.ListN.{take, drop}
use lib.Dec.{eqb}
use Rattle.lists.specs.Lists.{from, any, first}
use Rattle.lists.proofs.MembersLaws.{In, from0_sound}
use Rattle.component.specs.declared.Record.{Record}
use Rattle.component.specs.Record.{record_at, record_count, sized}
use Rattle.component.specs.Reading.{form_of}
use Rattle.component.specs.Drawing.{is_component, fails3, fails4, fails5}
use Rattle.flatten.specs.Descent.{comes_from, wires_at, fails15}
use Rattle.flatten.specs.Verdict.{checks, refused, or_later, judged, verdict}
use Rattle.flatten.proofs.Accepted.{Check, judged_passes, passed_before}
use Rattle.flatten.proofs.JudgementLaws.{judged_append}
use Rattle.flatten.proofs.Components.{primitive_component}
use Rattle.flatten.proofs.Ends.{source_there}
use Rattle.flatten.proofs.WidthsLaws.{differing}
use Rattle.kinds.specs.Given.{Verdict}
use Rattle.std.specs.Prelude.{Ok}

module _ (n : ℕ) where
  -- Two checks say the same of each record.
  abbrev Agree : Check → Check → Type 0
  Agree c d = (c.0 ≡ d.0) × ((p : ℕ) → p < n → c.1 p ≡ d.1 p)

  abbrev Same : List Check → List Check → List Check → Type 0
  Same done [] [] = Unit
  Same done [] (d ∷ ds) = ⊥
  Same done (c ∷ cs) [] = ⊥
  Same done (c ∷ cs) (d ∷ ds) = (judged n done ≡ Ok tt → Agree c d) × Same (done ++ (d ∷ [])) cs ds

  -- Checks that are the same in both, in front.
  same_append : (done ks cs ds : List Check) → Same (done ++ ks) cs ds → Same done (ks ++ cs) (ks ++ ds)
  same_append done [] cs ds s = subst (λ (l : List Check). Same l cs ds) (append-nil done) s
  same_append done (k ∷ ks) cs ds s = (
    λ e. (refl, λ p l. refl),
    same_append (done ++ (k ∷ [])) ks cs ds (subst (λ (l : List Check). Same l cs ds) (sym (append_assoc done (k ∷ []) ks)) s),
  )

  first_members : (f g : ℕ → Bool) (xs : List ℕ) → ((x : ℕ) → In x xs → f x ≡ g x) → first f xs ≡ first g xs
  first_members f g [] h = refl
  first_members f g (x ∷ xs) h =
      let here = h x (inl refl) in
      let later = first_members f g xs (λ y u. h y (inr u)) in
      λ j. cond (here j) (some x) (later j)

  judged_same : (done cs ds : List Check) → judged n done ≡ Ok tt → Same done cs ds → judged n cs ≡ judged n ds
  judged_same done [] [] e s = refl
  judged_same done [] (d ∷ ds) e s = absurd s
  judged_same done (c ∷ cs) [] e s = absurd s
  judged_same done (c ∷ cs) (d ∷ ds) e s =
      let agree = s.0 e in
      let found = first_members c.1 d.1 (from 0 n) (λ p u. agree.1 p (from0_sound n p u)) in
      (λ j. or_later (agree.0 j) (found j) (judged n cs))
      ∙ by_found (λ z. judged_same (done ++ (d ∷ [])) cs ds z s.1) (first d.1 (from 0 n)) (judged_append n done (d ∷ []) e)
    where
      by_found : (judged n (done ++ (d ∷ [])) ≡ Ok tt → judged n cs ≡ judged n ds) → (found : Option ℕ)
          → judged n (done ++ (d ∷ [])) ≡ or_later d.0 found (Ok tt)
          → or_later d.0 found (judged n cs) ≡ or_later d.0 found (judged n ds)
      by_found later (some p) z = refl
      by_found later none z = later z

abbrev pub asked3 : (ℕ → Record) → (ℕ → Bool) → ℕ → Bool
asked3 at f zero = f zero
asked3 at f (suc q) = not (fails3 at (suc q)) && f (suc q)

asked3_same : (at : ℕ → Record) (f : ℕ → Bool) (p : ℕ) → fails3 at p ≡ false → asked3 at f p ≡ f p
asked3_same at f zero e = refl
asked3_same at f (suc q) e = rw e

module _ (at : ℕ → Record) (n : ℕ) where
  abbrev pub asked15 : ℕ → Bool
  asked15 p = eqb (form_of (at p)) 2 && is_component at (comes_from at n p).comp && any (differing at) (wires_at at n p)

  abbrev pub asked : List Check
  asked =
      (3, fails3 at) ∷ (4, asked3 at (fails4 at)) ∷ (5, asked3 at (fails5 at))
      ∷ (take 9 (drop 3 (checks at n)) ++ ((15, asked15) ∷ []))

module _ (file : List ℕ) where
  abbrev at : ℕ → Record
  at = record_at file

  abbrev n : ℕ
  n = record_count file

  -- After the checks 3 to 14 a connection's source is a component.
  asked15_same : judged n (take 12 (checks at n)) ≡ Ok tt → (p : ℕ) → p < n → asked15 at n p ≡ fails15 at n p
  asked15_same e p l = by_form (eqb (form_of (at p)) 2) refl
    where
      by_form : (b : Bool) → eqb (form_of (at p)) 2 ≡ b
          → (b && is_component at (comes_from at n p).comp && any (differing at) (wires_at at n p)) ≡ (b && any (differing at) (wires_at at n p))
      by_form false u = refl
      by_form true u =
          let source = source_there at n (passed_before file e) p l (eqb-true (form_of (at p)) 2 u) in
          rw (eq-eqb _ 1 (primitive_component (at (comes_from at n p).comp) source.of_primitive))

  -- Before 4 and 5, check 3 has passed.
  asked3_passed : (f : ℕ → Bool) (ks : List Check) → judged n ((3, fails3 at) ∷ ks) ≡ Ok tt → (p : ℕ) → p < n → asked3 at f p ≡ f p
  asked3_passed f ks e p l =
      asked3_same at f p (judged_passes n ((3, fails3 at) ∷ ks) e (3, fails3 at) (inl refl) p l)

  same : Same n [] (asked at n) (checks at n)
  same =
      let first_three : List Check = (3, fails3 at) ∷ (4, fails4 at) ∷ (5, fails5 at) ∷ [] in
      let middle = take 9 (drop 3 (checks at n)) in
      let last : Same n (first_three ++ middle) ((15, asked15 at n) ∷ []) ((15, fails15 at n) ∷ []) = (λ e. (refl, asked15_same e), tt) in
      let later = same_append n first_three middle ((15, asked15 at n) ∷ []) ((15, fails15 at n) ∷ []) last in (
        λ e. (refl, λ p l. refl),
        (λ e. (refl, asked3_passed (fails4 at) [] e), (λ e. (refl, asked3_passed (fails5 at) ((4, fails4 at) ∷ []) e), later)),
      )

  -- The verdict is the same.
  pub verdict_asked : cond (sized file) (judged n (asked at n)) (refused 1 0) ≡ verdict file
  unfolding verdict
  verdict_asked = ap (λ (v : Verdict). cond (sized file) v (refused 1 0)) (judged_same n [] (asked at n) (checks at n) refl same)
