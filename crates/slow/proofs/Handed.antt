-- What is handed to a round is the same in both engines: the wires that leave a primitive are the stored ones from it, for any records. A
-- connection's wires have one source, so choosing connections by their source and then leading each to its targets gives what choosing among
-- all wires gives. And a connection leads into a primitive where a stored wire enters it.
-- Assumes nothing.
use mathlib.Core.Path.{◌≡◌, refl, sym, ap, ◌∙◌}
use Prim.Native.Nat.{ℕ}
use mathlib.Core.Bool.{Bool, true, false, cond, ◌&&◌, ◌||◌}
use mathlib.Core.List.{List, [], ◌∷◌, ◌++◌, map, map-map}
use lib.Dec.{eqb}
use Rattle.lists.specs.Lists.{from, keep, any, joined}
use Rattle.lists.proofs.ListsLaws.{keep_append}
use Rattle.lists.proofs.MembersLaws.{map_joined, any_append, any_map, any_cong}
use Rattle.component.specs.declared.Record.{Record}
use Rattle.component.specs.Reading.{form_of}
use Rattle.flatten.specs.declared.Pin.{Pin}
use Rattle.flatten.specs.Descent.{comes_from, goes_to, wires_at, flat}
use Rattle.tables.specs.declared.Wire.{Wire}
use Rattle.laying.specs.Laid.{flat_pin, flat_wires}
use Rattle.laying.proofs.FlatWires.{flat_wire}
use Rattle.rounds.specs.Round.{wires_from}
use Rattle.slow.specs.Slow.{leaving_by, leaving, led_into, enters_by}

module _ {A B : Type 0} where
  keep_joined : (f : B → Bool) (g : A → List B) (xs : List A) → keep f (joined g xs) ≡ joined (λ a. keep f (g a)) xs
  keep_joined f g [] = refl
  keep_joined f g (x ∷ xs) = keep_append f (g x) (joined g xs) ∙ ap (λ (ys : List B). keep f (g x) ++ ys) (keep_joined f g xs)

  joined_same : (f g : A → List B) (xs : List A) → ((a : A) → f a ≡ g a) → joined f xs ≡ joined g xs
  joined_same f g [] h = refl
  joined_same f g (x ∷ xs) h = λ j. h x j ++ joined_same f g xs h j

  any_joined : (f : B → Bool) (g : A → List B) (xs : List A) → any f (joined g xs) ≡ any (λ a. any f (g a)) xs
  any_joined f g [] = refl
  any_joined f g (x ∷ xs) = any_append f (g x) (joined g xs) ∙ ap (λ (b : Bool). any f (g x) || b) (any_joined f g xs)

  -- A test that is b of each keeps all, or none.
  keep_by : (f : B → Bool) (g : A → B) (b : Bool) (xs : List A) → ((a : A) → f (g a) ≡ b) → keep f (map g xs) ≡ cond b (map g xs) []
  keep_by f g true [] h = refl
  keep_by f g false [] h = refl
  keep_by f g true (x ∷ xs) h = rw (h x) (ap (λ (ys : List B). g x ∷ ys) (keep_by f g true xs h))
  keep_by f g false (x ∷ xs) h = rw (h x) (keep_by f g false xs h)

module _ (at : ℕ → Record) (n i : ℕ) where
  abbrev from_i : Wire → Bool
  from_i w = eqb w.src.comp.0 i

  abbrev into_i : Wire → Bool
  into_i w = eqb w.dst.comp.0 i

  -- The wire of the connection at p to a target, and all of the record at p.
  abbrev led : ℕ → Pin → Wire
  led p t = record { src = flat_pin at n (comes_from at n p); dst = flat_pin at n t }

  abbrev of_record : ℕ → List Wire
  of_record p = map (flat_wire at n) (cond (eqb (form_of (at p)) 2) (wires_at at n p) [])

  led_all : (p : ℕ) → map (flat_wire at n) (wires_at at n p) ≡ map (led p) (goes_to at n p)
  led_all p = map-map (flat_wire at n) (λ (t : Pin). record { src = comes_from at n p; dst = t }) (goes_to at n p)

  all_wires_lem : flat_wires at n ≡ joined of_record (from 0 n)
  all_wires_lem = map_joined (flat_wire at n) (λ p. cond (eqb (form_of (at p)) 2) (wires_at at n p) []) (from 0 n)

  chosen : (p : ℕ) → keep from_i (of_record p) ≡ leaving_by at n i p
  chosen p = by_form (eqb (form_of (at p)) 2)
    where
      by_form : (b : Bool) → keep from_i (map (flat_wire at n) (cond b (wires_at at n p) []))
          ≡ cond (b && eqb (flat at n (comes_from at n p).comp) i) (map (led p) (goes_to at n p)) []
      by_form true = ap (keep from_i) (led_all p) ∙ keep_by from_i (led p) (eqb (flat at n (comes_from at n p).comp) i) (goes_to at n p) (λ t. refl)
      by_form false = refl

  -- The wires that leave primitive i are those of all wires that leave it, in their order.
  pub leaving_stored : leaving at n i ≡ wires_from (flat_wires at n) i
  unfolding leaving
  leaving_stored =
      sym
      (ap (keep from_i) all_wires_lem ∙ keep_joined from_i of_record (from 0 n)
      ∙ joined_same (λ p. keep from_i (of_record p)) (leaving_by at n i) (from 0 n) chosen)

  entering : (p : ℕ) → any into_i (of_record p) ≡ enters_by at n i p
  entering p = by_form (eqb (form_of (at p)) 2)
    where
      by_form : (b : Bool) → any into_i (map (flat_wire at n) (cond b (wires_at at n p) []))
          ≡ (b && any (λ (t : Pin). eqb (flat at n t.comp) i) (goes_to at n p))
      by_form true = ap (any into_i) (led_all p) ∙ any_map into_i (led p) (goes_to at n p)
      by_form false = refl

  -- A connection leads into primitive i where one of all wires enters it.
  pub led_into-stored : led_into at n i ≡ any into_i (flat_wires at n)
  unfolding led_into
  led_into-stored =
      sym
      (ap (any into_i) all_wires_lem ∙ any_joined into_i of_record (from 0 n)
      ∙ any_cong (λ p. any into_i (of_record p)) (enters_by at n i) (from 0 n) (λ p m. entering p))
