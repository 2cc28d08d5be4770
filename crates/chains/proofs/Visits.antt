-- What visits do to wires and lists, with the wires in any order: a visited component's wires agree, it is struck from the standing list, and what is
-- appended to the following list a wire joins to it.
-- Assumes nothing.
use mathlib.Core.Path.{◌≡◌, refl, sym, ap, ◌∙◌, subst}
use mathlib.Core.Logic.{◌⊎◌, inl, inr, ⊎_elim}
use mathlib.Core.Bool.{Bool, true, false, cond, not, true≢false}
use mathlib.Core.List.{List, [], ◌∷◌, foldl}
use Prim.Native.Nat.{ℕ, ◌+◌, ◌-◌, ◌≤◌, ◌<◌}
use native.Mathlib.Omega.{arith}
use native.Mathlib.Decide.{dec_lt}
use borrow.Author.Tests.{eq-eqb, eqb-true}
use lib.ListN.{length, get_or}
use lib.Seq.{sets, length-sets, ext_get_or}
use lib.Dec.{eqb}
use Rattle.lists.specs.Lists.{strike}
use Rattle.lists.proofs.MembersLaws.{In, keep_sound}
use Rattle.lists.proofs.NamesLaws.{append_new-sound}
use Rattle.tables.specs.declared.Wire.{Wire}
use Rattle.tables.specs.Tables.{Tables, fields_at, first_output, output_place, numbers, wires_in}
use Rattle.rounds.specs.Round.{State, wires_from, evaluated, send, visit}
use Rattle.rounds.proofs.Ports.{Off, sets_at_ne, sets_at, numbers_length, numbers_at}
use Rattle.rounds.proofs.Sound.{Sound}
use Rattle.rounds.proofs.Held.{Held, Order, foldl_keeps, Agree, written, SendCase, agrees, writes, send_case, send_held, outputs_room, evaluated_held, wires_from-in, visit_held}
use Rattle.quiet.proofs.Invariant.{clocked, Fits, Wired, stay_wired, written_wired, evaluated_wired}
use Rattle.chains.specs.Chains.{Joins}
use Rattle.chains.proofs.Joints.{wire_joins}

-- Storing what is there changes nothing.
sets_numbers : (l : List ℕ) (a k : ℕ) → a + k ≤ length l → sets l a (numbers l a k) ≡ l
sets_numbers l a k h = ext_get_or 0 (sets l a (numbers l a k)) l (length-sets l a (numbers l a k)) each
  where
    long : length (numbers l a k) ≡ k
    long = numbers_length l a k h

    each : (j : ℕ) → j < length (sets l a (numbers l a k)) → get_or (sets l a (numbers l a k)) j 0 ≡ get_or l j 0
    each j q = by_place (dec_lt j a) (dec_lt j (a + k))
      where
        off : Off a k j → get_or (sets l a (numbers l a k)) j 0 ≡ get_or l j 0
        off o = sets_at_ne (numbers l a k) l a j (subst (λ (x : ℕ). Off a x j) (sym long) o)

        own : (i : ℕ) → j ≡ a + i → i < k → get_or (sets l a (numbers l a k)) j 0 ≡ get_or l j 0
        own i e u =
            ap (λ (x : ℕ). get_or (sets l a (numbers l a k)) x 0) e
            ∙ sets_at (numbers l a k) l a i (omega (arith, long)) (omega (arith, long))
            ∙ numbers_at l a k h i u ∙ ap (λ (x : ℕ). get_or l x 0) (sym e)

        by_place : Dec (j < a) → Dec (j < a + k) → get_or (sets l a (numbers l a k)) j 0 ≡ get_or l j 0
        by_place (yes p) r = off (inl p)
        by_place (no p) (yes r) = own (j - a) (omega arith) (omega arith)
        by_place (no p) (no r) = off (inr (omega arith))

-- Another excuse serves as well.
pub wired_map : (T : Tables) (X Y : ℕ → Type 0) (s : State) → ((d : ℕ) → X d → Y d) → Wired T X [] s → Wired T Y [] s
wired_map T X Y s f a w m = by_case (a w m)
  where
    by_case : Agree T s w ⊎ (X w.src.comp.0 ⊎ In w []) → Agree T s w ⊎ (Y w.src.comp.0 ⊎ In w [])
    by_case (inl q) = inl q
    by_case (inr (inl q)) = inr (inl (f w.src.comp.0 q))
    by_case (inr (inr q)) = absurd q

-- What a fold appends to the following list, one of its steps appends.
pub foldl_appends : {A : Type 0} (f : State → A → State) (Kept : State → Type 0) (d : ℕ) (Q : Type 0) (xs : List A)
    → ((s : State) (a : A) → In a xs → Kept s → Kept (f s a) × (In d (f s a).following → In d s.following ⊎ Q))
    → (s : State) → Kept s → In d (foldl f s xs).following → In d s.following ⊎ Q
foldl_appends f Kept d Q [] k s p m = inl m
foldl_appends f Kept d Q (x ∷ xs) k s p m =
    let r = k s x (inl refl) p in
    ⊎_elim r.1 (λ q. inr q) (foldl_appends f Kept d Q xs (λ u a h. k u a (inr h)) (f s x) r.0 m)

module _ (T : Tables) (g : Sound T) where
  abbrev n : ℕ
  n = T.counts.components

  -- One wire.
  send_wired : (X : ℕ → Type 0) (ws : List Wire) (s : State) (v : Wire) → In v (wires_in T) → Held T s → Wired T X (v ∷ ws) s
      → Wired T X ws (send T s v)
  send_wired X ws s v m b a = by_case (send_case T s v)
    where
      by_case : SendCase T s v → Wired T X ws (send T s v)
      by_case (agrees p e) = rw e (stay_wired T g X ws s v p a)
      by_case (writes p e) = rw e (written_wired T g X X (λ d q. q) ws s v m b a)

  -- The wires of one component.
  sends_wired : (X : ℕ → Type 0) (ws : List Wire) → ((w : Wire) → In w ws → In w (wires_in T)) → (s : State) → Held T s
      → Wired T X ws s → Wired T X [] (foldl (send T) s ws)
  sends_wired X [] f s b a = a
  sends_wired X (w ∷ ws) f s b a =
      sends_wired X ws (λ x m. f x (inr m)) (send T s w) (send_held T g s w (f w (inl refl)) b)
      (send_wired X ws s w (f w (inl refl)) b a)

  -- Sending leaves the standing list,
  send_standing : (s : State) (w : Wire) → (send T s w).standing ≡ s.standing
  unfolding written
  send_standing s w = by_case (send_case T s w)
    where
      by_case : SendCase T s w → (send T s w).standing ≡ s.standing
      by_case (agrees p e) = rw e
      by_case (writes p e) = rw e

  sends_standing : (ws : List Wire) (s : State) → (foldl (send T) s ws).standing ≡ s.standing
  sends_standing ws s = foldl_keeps (λ (u : State). u.standing ≡ s.standing) (send T) ws (λ u w m e. send_standing u w ∙ e) s refl

  -- and appends only its target.
  send_following : (d : ℕ) (s : State) (w : Wire) → In d (send T s w).following → In d s.following ⊎ (w.dst.comp.0 ≡ d)
  unfolding written
  send_following d s w = by_case (send_case T s w)
    where
      by_case : SendCase T s w → In d (send T s w).following → In d s.following ⊎ (w.dst.comp.0 ≡ d)
      by_case (agrees p e) m = inl (rw e at m)
      by_case (writes p e) m = ⊎_elim (λ q. inr (sym q)) (λ q. inl q) (append_new-sound w.dst.comp.0 d s.following (rw e at m))

  -- Where all agree nothing is sent.
  sends_quiet : (ws : List Wire) (s : State) → ((w : Wire) → In w ws → Agree T s w) → foldl (send T) s ws ≡ s
  sends_quiet [] s f = refl
  sends_quiet (w ∷ ws) s f = by_case (sends_quiet ws s (λ v m. f v (inr m))) (send_case T s w)
    where
      by_case : foldl (send T) s ws ≡ s → SendCase T s w → foldl (send T) (send T s w) ws ≡ s
      by_case rest (agrees p e) = ap (λ (u : State). foldl (send T) u ws) e ∙ rest
      by_case rest (writes p e) = absurd (p (f w (inl refl)))

  -- An evaluation of one that fits leaves the outputs as they were.
  fits_outputs : (t i : ℕ) → i < n → (s : State) → Held T s → Fits T t s i → (evaluated T t i s).outputs ≡ s.outputs
  unfolding evaluated
  fits_outputs t i h s b f =
      ap (λ (vs : List ℕ). sets s.outputs (first_output T i) vs) f
      ∙ sets_numbers s.outputs (first_output T i) (fields_at T i).outputs (outputs_room T g t i h s b)

  -- Visits, their wires in an order.
  module _ (ws : List Wire) (o : Order T ws) (t : ℕ) where
    wires_from-source : (i : ℕ) (w : Wire) → In w (wires_from ws i) → w.src.comp.0 ≡ i
    wires_from-source i w m = eqb-true w.src.comp.0 i (keep_sound (λ (v : Wire). eqb v.src.comp.0 i) w ws m).0

    module _ (i : ℕ) (h : i < T.counts.components) (s : State) (b : Held T s) where
      -- Of the visited component every wire agrees; another's excuse may be weakened.
      pub visit_wired : (X Y : ℕ → Type 0) → ((d : ℕ) → (d ≡ i → ⊥) → X d → Y d) → Wired T X [] s → Wired T Y [] (visit T (wires_from ws) t s i)
      unfolding visit
      visit_wired X Y f a =
          sends_wired Y (wires_from ws i) (wires_from-in T g ws o t i) (evaluated T t i s) (evaluated_held T g t i h s b)
          (evaluated_wired T g t i h s b X Y ws o f a)

      -- Its targets alone are appended to the following list,
      pub visit_following : (d : ℕ) → In d (visit T (wires_from ws) t s i).following → In d s.following ⊎ Joins T i d
      unfolding visit evaluated
      visit_following d =
          foldl_appends (send T) (λ u. Unit) d (Joins T i d) (wires_from ws i)
          (λ u w m k. (tt, λ p. ⊎_elim (λ q. inl q) (λ e. inr (joint w m e)) (send_following d u w p))) (evaluated T t i s) tt
        where
          joint : (w : Wire) → In w (wires_from ws i) → w.dst.comp.0 ≡ d → Joins T i d
          joint w m e =
              subst (λ (y : ℕ). Joins T i y) e
              (subst (λ (x : ℕ). Joins T x w.dst.comp.0) (wires_from-source i w m) (wire_joins T w (wires_from-in T g ws o t i w m)))

      -- and no target of one that fits and whose wires agree.
      pub visit_quiet : Fits T t s i → ((w : Wire) → In w (wires_in T) → w.src.comp.0 ≡ i → Agree T s w)
          → (visit T (wires_from ws) t s i).following ≡ s.following
      unfolding visit evaluated
      visit_quiet f a =
          ap (λ (u : State). u.following)
          (sends_quiet (wires_from ws i) (evaluated T t i s)
          (λ w m. ap (λ (l : List ℕ). get_or l (output_place T w.src) 0) (fits_outputs t i h s b f)
          ∙ a w (wires_from-in T g ws o t i w m) (wires_from-source i w m)))

    -- What stands after it stood before and, a Clock aside, is another component.
    visit_standing : (i d : ℕ) (s : State) → clocked T d ≡ false → In d (visit T (wires_from ws) t s i).standing → In d s.standing × (d ≡ i → ⊥)
    unfolding visit evaluated strike
    visit_standing i d s c m =
        by_clock (clocked T i) refl (subst (λ (l : List ℕ). In d l) (sends_standing (wires_from ws i) (evaluated T t i s)) m)
      where
        by_clock : (b : Bool) → clocked T i ≡ b → In d (cond b s.standing (strike i s.standing)) → In d s.standing × (d ≡ i → ⊥)
        by_clock true e k = (k, λ p. true≢false (sym e ∙ ap (clocked T) (sym p) ∙ c))
        by_clock false e k =
            let r = keep_sound (λ y. not (eqb i y)) d s.standing k in
            (r.1, λ p. true≢false (sym r.0 ∙ ap not (eq-eqb i d (sym p))))

    -- What stands after visits stood before and, a Clock aside, was not visited.
    pub visits_standing : (d : ℕ) → clocked T d ≡ false → (xs : List ℕ) (s : State) → In d (foldl (visit T (wires_from ws) t) s xs).standing
        → In d s.standing × (In d xs → ⊥)
    visits_standing d c [] s m = (m, λ k. k)
    visits_standing d c (x ∷ xs) s m =
        let r = visits_standing d c xs (visit T (wires_from ws) t s x) m in
        let v = visit_standing x d s c r.0 in
        (v.0, λ k. ⊎_elim v.1 r.1 k)

    -- Visits need no excuse for those that they visited.
    pub visits_wired : (X : ℕ → Type 0) (xs : List ℕ) → ((x : ℕ) → In x xs → x < n) → (s : State) → Held T s
        → Wired T (λ d. X d ⊎ In d xs) [] s → Wired T X [] (foldl (visit T (wires_from ws) t) s xs)
    visits_wired X [] f s b a = wired_map T (λ d. X d ⊎ In d []) X s (λ d k. ⊎_elim (λ q. q) (λ q. absurd q) k) a
    visits_wired X (x ∷ xs) f s b a =
        let h = f x (inl refl) in
        visits_wired X xs (λ y m. f y (inr m)) (visit T (wires_from ws) t s x) (visit_held T g ws o t s x h b)
        (visit_wired x h s b (λ d. X d ⊎ In d (x ∷ xs)) (λ d. X d ⊎ In d xs)
        (λ d ne k. ⊎_elim (λ q. inl q) (λ q. ⊎_elim (λ e. absurd (ne e)) (λ m. inr m) q) k) a)
