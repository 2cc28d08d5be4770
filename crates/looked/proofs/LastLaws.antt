-- What an input reaches last: it is a place that the input goes to, there is at most one, and the last of the input's targets is it, since what
-- one map reaches stands before what the next does. By the depth left, as in flatten/proofs/DescentLeads.
-- Assumes nothing.
use mathlib.Core.Path.{◌≡◌, refl, sym, ◌∙◌, subst}
use mathlib.Core.Logic.{inl, ⊎_elim}
use Prim.Native.Nat.{ℕ, zero, suc, ◌+◌, ◌<◌}
use native.Mathlib.Nat.{zero-add}
use native.Mathlib.Omega.{arith}
use native.Mathlib.Decide.{dec_lt}
use mathlib.Core.Bool.{Bool, true, false, cond, true≢false}
use mathlib.Core.List.{List, [], ◌∷◌, ◌++◌}
use Rattle.lists.specs.Lists.{from, joined}
use Rattle.lists.proofs.MembersLaws.{In, in_cases, in_cond, joined_complete, from_complete}
use Rattle.component.specs.declared.Record.{Record}
use Rattle.component.specs.Record.{to_of, input_of, is_primitive}
use Rattle.component.specs.Drawing.{deepest, child, deeper, maps_in}
use Rattle.flatten.specs.declared.Pin.{Pin}
use Rattle.flatten.specs.Descent.{pin, inputs_below}
use Rattle.flatten.specs.Leads.{Into}
use Rattle.flatten.specs.Leads as into
use Rattle.flatten.proofs.Accepted.{Passed}
use Rattle.flatten.proofs.DescentLeads.{deeper_child, into_component, targets_sound, targets_complete}
use Rattle.boxes.specs.Boxes.{last_of}
use Rattle.looked.specs.Owed.{Last, ends, maps}

-- The last of two lists one after the other is the last of the second, or else of the first.
pub last_of-append : (z : Pin) (xs ys : List Pin) → last_of z (xs ++ ys) ≡ last_of (last_of z xs) ys
last_of-append z [] ys = refl
last_of-append z (x ∷ xs) ys = last_of-append x xs ys

module _ (at : ℕ → Record) (n : ℕ) where
  -- An input goes to what it reaches last.
  pub last_into : {c i : ℕ} {t : Pin} → Last at n c i t → Into at n c i t
  last_into (ends e u) = into.ends e u
  last_into (maps q l e m r none) = into.maps q l e m (last_into r)

  -- It reaches one last.
  pub last_unique : {c i : ℕ} {s t : Pin} → Last at n c i s → Last at n c i t → s ≡ t
  last_unique (ends e u) (ends f w) = u ∙ sym w
  last_unique (ends e u) (maps q l f m r none) = absurd (true≢false (sym e ∙ f))
  last_unique (maps q l e m r none) (ends f w) = absurd (true≢false (sym f ∙ e))
  last_unique {c = c} {s = s} {t = t} (maps q l e m r none) (maps p k f o v nothing) =
      by_place (dec_lt q p) (dec_lt p q) (λ w. last_unique r w)
    where
      by_place : Dec (q < p) → Dec (p < q) → (Last at n (child at n c (to_of (at q))) (input_of (at q)) t → s ≡ t) → s ≡ t
      by_place (yes a) b later = absurd (none p t a k o (last_into v))
      by_place (no a) (yes b) later = absurd (nothing q s b l m (last_into r))
      by_place (no a) (no b) later =
          let z : p ≡ q = omega (arith, a, b) in
          later (subst (λ (x : ℕ). Last at n (child at n c (to_of (at x))) (input_of (at x)) t) z v)

module _ (at : ℕ → Record) (n : ℕ) (d : Passed at n) where
  -- What record q reaches of input i of composite c, with the depth f left below.
  abbrev through : ℕ → ℕ → ℕ → ℕ → List Pin
  through f c i q = cond (maps_in at c i q) (inputs_below at n f (child at n c (to_of (at q))) (input_of (at q))) []

  -- Input i of a composite c that is met with the depth suc f left, if f is enough below it.
  module _ (g f c i : ℕ) (h : g + suc f ≡ deepest) (u : deeper at g c ≡ true) (p : is_primitive (at c) ≡ false)
      (down : (x j : ℕ) (z v : Pin) → deeper at (suc g) x ≡ true → In v (inputs_below at n f x j)
      → Last at n x j (last_of z (inputs_below at n f x j))) where
    abbrev below : ℕ → ℕ
    below q = child at n c (to_of (at q))

    below_deeper : (q : ℕ) (v : Pin) → Into at n (below q) (input_of (at q)) v → deeper at (suc g) (below q) ≡ true
    below_deeper q v r = deeper_child at n d g c (to_of (at q)) (into_component at n d _ _ v r) u

    reached_through : (q : ℕ) (v : Pin) → maps_in at c i q ≡ true → Into at n (below q) (input_of (at q)) v → In v (through f c i q)
    reached_through q v m r = rw m (targets_complete at n d (suc g) f _ _ v (omega (arith, h)) (below_deeper q v r) r)

    -- What the records from q on reach ends in what is reached last.
    last_from : (q k : ℕ) (z v : Pin) → q + k ≡ n → In v (joined (through f c i) (from q k))
        → Last at n c i (last_of z (joined (through f c i) (from q k)))
    last_from q zero z v e r = absurd r
    last_from q (suc k) z v e r =
        subst (Last at n c i) (sym (last_of-append z (through f c i q) rest)) (by_rest (λ y w. last_from (suc q) k y w (omega (arith, e))) rest refl)
      where
        rest : List Pin
        rest = joined (through f c i) (from (suc q) k)

        here : In v (through f c i q) → rest ≡ [] → Last at n c i (last_of z (through f c i q))
        here a none =
            let m = in_cond v (maps_in at c i q) (inputs_below at n f (below q) (input_of (at q))) a in
            let deep = below_deeper q v (targets_sound at n f _ _ v m.1) in
            rw m.0 (maps q (omega (arith, e)) p m.0 (down (below q) (input_of (at q)) z v deep m.1)
            (λ x w b l o s. subst (In w) none
            (joined_complete (through f c i) w (from (suc q) k) x (from_complete (suc q) k x b (omega (arith, e, l))) (reached_through x w o s))))

        by_rest : ((y w : Pin) → In w rest → Last at n c i (last_of y rest)) → (xs : List Pin) → rest ≡ xs
            → Last at n c i (last_of (last_of z (through f c i q)) rest)
        by_rest later (x ∷ xs) w = later (last_of z (through f c i q)) x (subst (In x) (sym w) (inl refl))
        by_rest later [] w =
            subst (λ (xs : List Pin). Last at n c i (last_of (last_of z (through f c i q)) xs)) (sym w)
            (here (⊎_elim (λ a. a) (λ b. absurd (subst (In v) w b)) (in_cases v (through f c i q) rest r)) w)

  -- Where an input has targets, the last is the one that it reaches last.
  pub last_sound : (g f c i : ℕ) (z v : Pin) → g + f ≡ deepest → deeper at g c ≡ true → In v (inputs_below at n f c i)
      → Last at n c i (last_of z (inputs_below at n f c i))
  unfolding inputs_below
  last_sound g zero c i z v h u r = absurd r
  last_sound g (suc f) c i z v h u r =
      by_kind (λ x j y w. last_sound (suc g) f x j y w (omega (arith, h))) (is_primitive (at c)) refl r
    where
      deep : List Pin
      deep = joined (through f c i) (from 0 n)

      by_kind : ((x j : ℕ) (y w : Pin) → deeper at (suc g) x ≡ true → In w (inputs_below at n f x j)
          → Last at n x j (last_of y (inputs_below at n f x j)))
          → (b : Bool) → is_primitive (at c) ≡ b → In v (cond b (pin c i ∷ []) deep) → Last at n c i (last_of z (cond b (pin c i ∷ []) deep))
      by_kind down true e a = ends e refl
      by_kind down false e a = last_from g f c i h u e down 0 n z v (zero-add n) a
