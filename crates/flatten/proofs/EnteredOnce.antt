-- No input is entered twice: the targets of all wires of a drawing that passes the checks before 15 have no repeats.
-- docs/SPECIFICATION.md, "Numbers given back", checks 12 and 13, and "Flattening".
--   entry at n q       the input that record q enters
--   start at q         the input that input map q starts at
--   targets_at at n p   the targets of record p, if it is a connection
--   Under at n x t     input maps lead down from x to t; the last of them stands outermost
-- One record enters an input (`entry_inj`). So of two paths that lead down to one input, one passes through the start
-- of the other (`under_linear`). A path leads strictly down, since an owner stands before what it owns (`map_down`).
-- Assumes nothing.
use mathlib.Core.Path.{◌≡◌, refl, sym, ap, ◌∙◌, subst}
use mathlib.Core.Logic.{◌⊎◌, inl, inr, ⊎_elim}
use mathlib.Core.Bool.{Bool, true, false, cond, true≢false}
use mathlib.Core.List.{List, [], ◌∷◌}
use Prim.Native.Nat.{ℕ, zero, suc, ◌≤◌, ◌<◌}
use native.Mathlib.Omega.{arith}
use borrow.Author.Tests.{eqb-true, eq-eqb, ltb-true, not-false}
use lib.Dec.{eqb, ltb}
use Rattle.lists.specs.Lists.{from, any, joined}
use Rattle.lists.proofs.TestsLaws.{and_right}
use Rattle.lists.proofs.MembersLaws.{In, Distinct, in_cond, any_none, from0_sound, from0_complete}
use Rattle.lists.proofs.TestsLaws.{or_cases}
use Rattle.lists.proofs.MembersLaws.{distinct_joined, distinct_from}
use Rattle.component.specs.declared.Record.{Record}
use Rattle.component.specs.Record.{to_of, input_of, port_of, inputs_of, is_primitive, entering, entering_as}
use Rattle.component.specs.Reading.{owner_of, form_of}
use Rattle.component.specs.Drawing.{deepest, child, maps_in, from_there, to_there}
use Rattle.flatten.specs.declared.Pin.{Pin}
use Rattle.flatten.specs.Descent.{pin, inputs_below, goes_to}
use Rattle.flatten.specs.Leads.{Into, ends, maps}
use Rattle.flatten.proofs.Accepted.{Passed}
use Rattle.flatten.proofs.Components.{input_component, owner_before, child_owner, child_inj}
use Rattle.flatten.proofs.DescentLeads.{maps_in-sound, targets_sound}

-- The input that record q enters.
abbrev pub entry : (ℕ → Record) → ℕ → ℕ → Pin
entry at n q = pin (child at n (owner_of (at q)) (to_of (at q))) (input_of (at q))

-- The input that input map q starts at.
abbrev start : (ℕ → Record) → ℕ → Pin
start at q = pin (owner_of (at q)) (port_of (at q))

-- The targets of record p, if it is a connection.
abbrev pub targets_at : (ℕ → Record) → ℕ → ℕ → List Pin
targets_at at n p = cond (eqb (form_of (at p)) 2) (goes_to at n p) []

data Under (at : ℕ → Record) (n : ℕ) (x : Pin) : Pin → Type 0 where
  here : {t : Pin} → t ≡ x → Under at n x t
  down : {t : Pin} (q : ℕ) → q < n → form_of (at q) ≡ 3 → Under at n x (start at q) → t ≡ entry at n q → Under at n x t

module _ (at : ℕ → Record) (n : ℕ) (d : Passed at n) where
  connection_enters : (p : ℕ) → form_of (at p) ≡ 2 → entering (at p) ≡ true
  connection_enters p e = rw e

  map_enters : (p : ℕ) → form_of (at p) ≡ 3 → entering (at p) ≡ true
  map_enters p e = rw e

  -- The input that a record enters is there (check 12).
  pub entry_there : (p : ℕ) → p < n → entering (at p) ≡ true
      → input_of (at p) < inputs_of (at (child at n (owner_of (at p)) (to_of (at p))))
  entry_there p l e =
      ltb-true _ _
      (⊎_elim (λ u. by_connection (eqb-true (form_of (at p)) 2 u)) (λ u. by_map (eqb-true (form_of (at p)) 3 u))
      (or_cases (eqb (form_of (at p)) 2) (eqb (form_of (at p)) 3) e))
    where
      by_connection : form_of (at p) ≡ 2 → to_there at n (at p) ≡ true
      by_connection u = and_right (from_there at n (at p)) (to_there at n (at p)) (not-false _ (rw u at (d.passes 12 refl p l)))

      by_map : form_of (at p) ≡ 3 → to_there at n (at p) ≡ true
      by_map u = and_right (ltb (port_of (at p)) (inputs_of (at (owner_of (at p))))) (to_there at n (at p)) (not-false _ (rw u at (d.passes 12 refl p l)))

  entry_component : (p : ℕ) → p < n → entering (at p) ≡ true → form_of (at (child at n (owner_of (at p)) (to_of (at p)))) ≡ 1
  entry_component p l e = input_component (at (child at n (owner_of (at p)) (to_of (at p)))) _ (entry_there p l e)

  entry_earlier : (p q : ℕ) → p < q → q < n → entering (at p) ≡ true → entering (at q) ≡ true
      → owner_of (at p) ≡ owner_of (at q) → to_of (at p) ≡ to_of (at q) → input_of (at p) ≡ input_of (at q) → ⊥
  entry_earlier p q l m a b o t i =
      let thirteen : any (λ z. entering_as (at q) (at z)) (from 0 q) ≡ false = rw b at (d.passes 13 refl q m) in
      let same : entering_as (at q) (at p) ≡ true = rw (a, eq-eqb _ _ o, eq-eqb _ _ t, eq-eqb _ _ i) in
      true≢false (sym same ∙ any_none (λ z. entering_as (at q) (at z)) p (from 0 q) thirteen (from0_complete q p l))

  -- Two records that enter one input are one record (check 13).
  pub entry_inj : (p q : ℕ) → p < n → q < n → entering (at p) ≡ true → entering (at q) ≡ true
      → entry at n p ≡ entry at n q → p ≡ q
  entry_inj p q l m a b e =
      let c : child at n (owner_of (at p)) (to_of (at p)) ≡ child at n (owner_of (at q)) (to_of (at q)) =
      ap (λ (x : Pin). x.comp) e in
      let i : input_of (at p) ≡ input_of (at q) = ap (λ (x : Pin). x.port) e in
      let op = (child_owner at n d (owner_of (at p)) (to_of (at p)) (entry_component p l a)).0 in
      let oq = (child_owner at n d (owner_of (at q)) (to_of (at q)) (entry_component q m b)).0 in
      let o : owner_of (at p) ≡ owner_of (at q) = sym op ∙ ap (λ (x : ℕ). owner_of (at x)) c ∙ oq in
      let t : to_of (at p) ≡ to_of (at q) =
      child_inj at n d (owner_of (at p)) (to_of (at p)) (to_of (at q)) (entry_component p l a)
      (c ∙ ap (λ (x : ℕ). child at n x (to_of (at q))) (sym o)) in
      let below : p < q → ⊥ = λ u. entry_earlier p q u m a b o t i in
      let above : q < p → ⊥ = λ u. entry_earlier q p u l b a (sym o) (sym t) (sym i) in
      omega arith

  -- An input map leads from a component to a later one.
  map_down : (q : ℕ) → q < n → form_of (at q) ≡ 3 → owner_of (at q) < child at n (owner_of (at q)) (to_of (at q))
  map_down q l e =
      let c = child at n (owner_of (at q)) (to_of (at q)) in
      let f = entry_component q l (map_enters q e) in
      let o = child_owner at n d (owner_of (at q)) (to_of (at q)) f in
      subst (λ (x : ℕ). x < c) o.0 (owner_before at n d c o.1 f)

  under_down : (x t : Pin) → Under at n x t → x.comp ≤ t.comp
  under_down x t (here e) = omega (arith, ap (λ (y : Pin). y.comp) e)
  under_down x t (down q l f u e) =
      omega (arith, ap (λ (y : Pin). y.comp) e, under_down x (start at q) u, map_down q l f)

  -- A path with one more input map at its upper end.
  under_above : (q : ℕ) → q < n → form_of (at q) ≡ 3 → (t : Pin) → Under at n (entry at n q) t
      → Under at n (start at q) t
  under_above q l f t (here e) = down q l f (here refl) e
  under_above q l f t (down r m g u e) = down r m g (under_above q l f (start at r) u) e

  maps_in-entry : (c i q : ℕ) → maps_in at c i q ≡ true
      → entry at n q ≡ pin (child at n c (to_of (at q))) (input_of (at q))
  maps_in-entry c i q m =
      ap (λ (o : ℕ). pin (child at n o (to_of (at q))) (input_of (at q))) (maps_in-sound at n c i q m).1

  maps_in-start : (c i q : ℕ) → maps_in at c i q ≡ true → start at q ≡ pin c i
  maps_in-start c i q m =
      let s = maps_in-sound at n c i q m in
      ap (λ (o : ℕ). pin o (port_of (at q))) s.1 ∙ ap (pin c) s.2

  into_under : (c i : ℕ) (t : Pin) → Into at n c i t → Under at n (pin c i) t
  into_under c i t (ends e u) = here u
  into_under c i t (maps q l e m r) =
      subst (λ (x : Pin). Under at n x t) (maps_in-start c i q m)
      (under_above q l (maps_in-sound at n c i q m).0 t
      (subst (λ (x : Pin). Under at n x t) (sym (maps_in-entry c i q m))
      (into_under (child at n c (to_of (at q))) (input_of (at q)) t r)))

  -- Of two paths to one input, one passes through the other's start.
  under_linear : (x y t : Pin) → Under at n x t → Under at n y t → Under at n x y ⊎ Under at n y x
  under_linear x y t (here e) v = inr (subst (λ (z : Pin). Under at n y z) e v)
  under_linear x y t (down q l f u e) (here g) = inl (subst (λ (z : Pin). Under at n x z) g (down q l f u e))
  under_linear x y t (down q l f u e) (down r m g v k) =
      let z = entry_inj r q m l (map_enters r g) (map_enters q f) (sym k ∙ e) in
      under_linear x y (start at q) u (subst (λ (j : ℕ). Under at n y (start at j)) z v)

  -- Of two input maps that start at one input, the first leads on to where the second enters only if they are one.
  map_single : (q r : ℕ) → q < n → r < n → form_of (at q) ≡ 3 → form_of (at r) ≡ 3 → start at q ≡ start at r
      → Under at n (entry at n q) (entry at n r) → q ≡ r
  map_single q r l m f g s (here e) = entry_inj q r l m (map_enters q f) (map_enters r g) (sym e)
  map_single q r l m f g s (down k o h u e) =
      let z : r ≡ k = entry_inj r k m o (map_enters r g) (map_enters k h) e in
      let a : owner_of (at q) ≡ owner_of (at k) = ap (λ (x : Pin). x.comp) s ∙ ap (λ (x : ℕ). owner_of (at x)) z in
      absurd (omega (arith, under_down (entry at n q) (start at k) u, map_down q l f))

  -- A connection leads on to where another enters only if they are one.
  connection_single : (p r : ℕ) → p < n → r < n → form_of (at p) ≡ 2 → form_of (at r) ≡ 2
      → Under at n (entry at n p) (entry at n r) → p ≡ r
  connection_single p r l m f g (here e) = entry_inj p r l m (connection_enters p f) (connection_enters r g) (sym e)
  connection_single p r l m f g (down k o h u e) =
      let z : r ≡ k = entry_inj r k m o (connection_enters r g) (map_enters k h) e in
      absurd (omega (arith, ap (λ (x : ℕ). form_of (at x)) z))

  -- No target of an input is found twice.
  pub targets_distinct : (f c i : ℕ) → Distinct (inputs_below at n f c i)
  unfolding inputs_below
  targets_distinct zero c i = tt
  targets_distinct (suc f) c i = by_kind (λ x j. targets_distinct f x j) (is_primitive (at c))
    where
      onward : ℕ → List Pin
      onward q = inputs_below at n f (child at n c (to_of (at q))) (input_of (at q))

      by_map : ((x j : ℕ) → Distinct (inputs_below at n f x j)) → (b : Bool) (q : ℕ) → Distinct (cond b (onward q) [])
      by_map each true q = each (child at n c (to_of (at q))) (input_of (at q))
      by_map each false q = tt

      path : (q : ℕ) (t : Pin) → maps_in at c i q ≡ true → In t (onward q) → Under at n (entry at n q) t
      path q t m h =
          subst (λ (x : Pin). Under at n x t) (sym (maps_in-entry c i q m))
          (into_under _ _ t (targets_sound at n f _ _ t h))

      apart : (p q : ℕ) (t : Pin) → In p (from 0 n) → In q (from 0 n)
          → In t (cond (maps_in at c i p) (onward p) []) → In t (cond (maps_in at c i q) (onward q) []) → p ≡ q
      apart p q t u v g h =
          let a = in_cond t (maps_in at c i p) (onward p) g in
          let b = in_cond t (maps_in at c i q) (onward q) h in
          let lp : p < n = from0_sound n p u in
          let lq : q < n = from0_sound n q v in
          let s : start at p ≡ start at q = maps_in-start c i p a.0 ∙ sym (maps_in-start c i q b.0) in
          let fp = (maps_in-sound at n c i p a.0).0 in
          let fq = (maps_in-sound at n c i q b.0).0 in
          ⊎_elim (λ w. map_single p q lp lq fp fq s w) (λ w. sym (map_single q p lq lp fq fp (sym s) w))
          (under_linear (entry at n p) (entry at n q) t (path p t a.0 a.1) (path q t b.0 b.1))

      by_kind : ((x j : ℕ) → Distinct (inputs_below at n f x j)) → (b : Bool)
          → Distinct (cond b (pin c i ∷ []) (joined (λ q. cond (maps_in at c i q) (onward q) []) (from 0 n)))
      by_kind each true = (λ u. u, tt)
      by_kind each false =
          distinct_joined (λ q. cond (maps_in at c i q) (onward q) []) (from 0 n) (distinct_from 0 n)
          (λ q u. by_map each (maps_in at c i q) q) apart

  pub goes_to-distinct : (p : ℕ) → Distinct (goes_to at n p)
  unfolding goes_to
  goes_to-distinct p = targets_distinct deepest (child at n (owner_of (at p)) (to_of (at p))) (input_of (at p))

  -- No input is the target of two connections, or twice of one.
  pub targets_at-distinct : Distinct (joined (targets_at at n) (from 0 n))
  unfolding goes_to
  targets_at-distinct =
      distinct_joined (targets_at at n) (from 0 n) (distinct_from 0 n) (λ p u. by_form (eqb (form_of (at p)) 2) p) apart
    where
      by_form : (b : Bool) (p : ℕ) → Distinct (cond b (goes_to at n p) [])
      by_form true p = goes_to-distinct p
      by_form false p = tt

      path : (p : ℕ) (t : Pin) → In t (goes_to at n p) → Under at n (entry at n p) t
      path p t h = into_under _ _ t (targets_sound at n deepest _ _ t h)

      apart : (p q : ℕ) (t : Pin) → In p (from 0 n) → In q (from 0 n) → In t (targets_at at n p)
          → In t (targets_at at n q) → p ≡ q
      apart p q t u v g h =
          let a = in_cond t (eqb (form_of (at p)) 2) (goes_to at n p) g in
          let b = in_cond t (eqb (form_of (at q)) 2) (goes_to at n q) h in
          let lp : p < n = from0_sound n p u in
          let lq : q < n = from0_sound n q v in
          let fp = eqb-true (form_of (at p)) 2 a.0 in
          let fq = eqb-true (form_of (at q)) 2 b.0 in
          ⊎_elim (λ w. connection_single p q lp lq fp fq w) (λ w. sym (connection_single q p lq lp fq fp w))
          (under_linear (entry at n p) (entry at n q) t (path p t a.1) (path q t b.1))
