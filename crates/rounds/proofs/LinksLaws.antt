-- Laws of links: what following `after` meets is one list, without repeats; one wire put before those of its source; a loop that sends
-- along what it meets.
--   Sending T ws after n h s k u   what is still met from wire k on makes of the state u what all that is met from h on makes of s
-- Assumes nothing.
use mathlib.Core.Path.{◌≡◌, refl, sym, ap, ◌∙◌, subst}
use mathlib.Core.Logic.{inl, inr}
use mathlib.Core.Bool.{Bool, true, false, cond, ◌||◌, true≢false}
use mathlib.Core.List.{List, [], ◌∷◌, ◌++◌, map, foldl}
use Prim.Native.Nat.{ℕ, zero, suc, ◌+◌, ◌-◌, ◌≤◌, ◌<◌}
use native.Mathlib.Nat.{sub-zero}
use native.Mathlib.Omega.{arith}
use borrow.Author.Tests.{eqb-true, eqb-false, lt-ltb, le-ltb}
use lib.ListN.{length, get_or, set, take, replicate, length-set, length-append, length-replicate, get_or-replicate}
use lib.Seq.{slice, slice-cons, get_or-set_same, get_or-set_other, get_or-take, get_or_at, take-append_seam, take-take, length-take-le}
use lib.Dec.{eqb}
use Rattle.lists.specs.Lists.{from, keep, has}
use Rattle.lists.proofs.ListsLaws.{from_step, from_end}
use Rattle.lists.proofs.MembersLaws.{In, Distinct, in-get_or, keep_sound, has_complete, has_none, from_sound}
use Rattle.lists.proofs.NamesLaws.{Names, names_sound, names_length}
use Rattle.tables.specs.declared.Wire.{Wire}
use Rattle.tables.specs.Tables.{Tables}
use Rattle.tables.specs.Words.{wire_in}
use Rattle.rounds.specs.Round.{State, wires_from, order_list, is_order, send}
use Rattle.rounds.specs.Links.{source_in, Along, met_from, linked_wires, numbers_from, IsLinked, Follows, Ready}

-- What is met from a wire on.
module _ (n : ℕ) (after : List ℕ) where
  pub along_unique : (k : ℕ) (xs ys : List ℕ) → Along n after k xs → Along n after k ys → xs ≡ ys
  along_unique k [] [] p q = refl
  along_unique k [] (y ∷ ys) p q = absurd (omega (arith, p, q.1))
  along_unique k (x ∷ xs) [] p q = absurd (omega (arith, q, p.1))
  along_unique k (x ∷ xs) (y ∷ ys) p q =
      let e : x ≡ y = sym p.0 ∙ q.0 in
      let t : xs ≡ ys = along_unique (get_or after k 0) xs ys p.2 q.2 in
      rw (e, t)

  -- From a wire that is met on, no more is met.
  along_later : (x k : ℕ) (ks : List ℕ) → Along n after k ks → In x ks
      → (js : List ℕ) × Along n after x js × (length js ≤ length ks)
  along_later x k [] p m = absurd m
  along_later x k (y ∷ ys) p (inl e) =
      (y ∷ ys, subst (λ (z : ℕ). Along n after z (y ∷ ys)) (p.0 ∙ sym e) p, omega arith)
  along_later x k (y ∷ ys) p (inr m) =
      let r = along_later x (get_or after k 0) ys p.2 m in (r.0, r.1, omega (arith, r.2))

  along_distinct : (k : ℕ) (ks : List ℕ) → Along n after k ks → Distinct ks
  along_distinct k [] p = tt
  along_distinct k (x ∷ xs) p = (again, along_distinct (get_or after k 0) xs p.2)
    where
      again : In x xs → ⊥
      again m =
          let r = along_later x (get_or after k 0) xs p.2 m in
          let e : r.0 ≡ x ∷ xs =
          along_unique x r.0 (x ∷ xs) r.1 (subst (λ (z : ℕ). Along n after z (x ∷ xs)) p.0 p) in
          omega (arith, r.2, ap length e)

  pub along_below : (x k : ℕ) (ks : List ℕ) → Along n after k ks → In x ks → x < n
  along_below x k [] p m = absurd m
  along_below x k (y ∷ ys) p (inl e) = omega (arith, p.0, p.1, e)
  along_below x k (y ∷ ys) p (inr m) = along_below x (get_or after k 0) ys p.2 m

  -- So no more wires are met than there are.
  pub along_length : (k : ℕ) (ks : List ℕ) → Along n after k ks → length ks ≤ n
  along_length k ks p = names_length n ks (record { exist = λ x m. along_below x k ks p m; once = along_distinct k ks p })

  -- They are the list of what is met,
  met_is : (f k : ℕ) (ks : List ℕ) → Along n after k ks → length ks ≤ f → met_from n after f k ≡ ks
  met_is zero k [] p h = refl
  met_is zero k (x ∷ xs) p h = absurd (omega arith)
  met_is (suc f) k [] p h = rw (le-ltb k n p)
  met_is (suc f) k (x ∷ xs) p h =
      let e : met_from n after f (get_or after k 0) ≡ xs = met_is f (get_or after k 0) xs p.2 (omega arith) in
      rw (lt-ltb k n p.1, e, p.0)

  pub met_all : (k : ℕ) (ks : List ℕ) → Along n after k ks → met_from n after n k ≡ ks
  met_all k ks p = met_is n k ks p (along_length k ks p)

  -- which grows shorter as it is followed.
  met_falls : (k : ℕ) (ks : List ℕ) → k < n → Along n after k ks
      → length (met_from n after n (get_or after k 0)) < length (met_from n after n k)
  met_falls k [] h p = absurd (omega (arith, p))
  met_falls k (x ∷ xs) h p =
      omega (
        arith,
        ap (λ (l : List ℕ). length l) (met_all k (x ∷ xs) p),
        ap (λ (l : List ℕ). length l) (met_all (get_or after k 0) xs p.2),
      )

  -- A change at a wire that is not met.
  along_kept : (x v k : ℕ) (ks : List ℕ) → (In x ks → ⊥) → Along n after k ks → Along n (set after x v) k ks
  along_kept x v k [] h p = p
  along_kept x v k (y ∷ ys) h p =
      let e : get_or (set after x v) k 0 ≡ get_or after k 0 = get_or-set_other after x k v 0 (λ q. h (inl (sym q ∙ p.0))) in (
        p.0,
        p.1,
        subst (λ (z : ℕ). Along n (set after x v) z ys) (sym e) (along_kept x v (get_or after k 0) ys (λ m. h (inr m)) p.2),
      )

-- Nothing is linked.
pub linked_none : (ws : List ℕ) (n : ℕ) → n ≤ 1024 → IsLinked ws n (replicate 256 65535) (replicate 1024 0) []
linked_none ws n h =
    record {
      heads = length-replicate {A = ℕ} 256 65535;
      afters = length-replicate {A = ℕ} 1024 0;
      linked = λ i l. omega (arith, get_or-replicate {A = ℕ} 256 i 65535 0 l);
    }

-- One wire is put before those of its source.
pub linked_first : (ws : List ℕ) (n : ℕ) (head after order : List ℕ) (k s : ℕ) → k < 1024 → s ≡ source_in ws k → s < 256
    → k < n → has k order ≡ false → IsLinked ws n head after order
    → IsLinked ws n (set head s k) (set after k (get_or head s 0)) (k ∷ order)
linked_first ws n head after order k s few e source h new l =
    record { heads = simp length-set l.heads; afters = simp length-set l.afters; linked = λ i b. by_test i b (eqb (source_in ws k) i) refl }
  where
    absent : (i : ℕ) → In k (numbers_from ws i order) → ⊥
    absent i m = true≢false (sym (has_complete k order (keep_sound (λ j. eqb (source_in ws j) i) k order m).1) ∙ new)

    rest : (i : ℕ) → i < 256 → Along n (set after k (get_or head s 0)) (get_or head i 0) (numbers_from ws i order)
    rest i b = along_kept n after k (get_or head s 0) (get_or head i 0) (numbers_from ws i order) (absent i) (l.linked i b)

    by_test : (i : ℕ) → i < 256 → (c : Bool) → eqb (source_in ws k) i ≡ c
        → Along n (set after k (get_or head s 0)) (get_or (set head s k) i 0) (cond c (k ∷ numbers_from ws i order) (numbers_from ws i order))
    by_test i b true q =
        let same : s ≡ i = e ∙ eqb-true (source_in ws k) i q in
        let here : get_or (set head s k) i 0 ≡ k =
        ap (λ (j : ℕ). get_or (set head s k) j 0) (sym same) ∙ get_or-set_same head s k 0 (omega (arith, l.heads)) in
        let next : get_or (set after k (get_or head s 0)) k 0 ≡ get_or head i 0 =
        get_or-set_same after k (get_or head s 0) 0 (omega (arith, l.afters)) ∙ ap (λ (j : ℕ). get_or head j 0) same in
        subst (λ (z : ℕ). Along n (set after k (get_or head s 0)) z (k ∷ numbers_from ws i order)) (sym here)
        (refl, h, subst (λ (z : ℕ). Along n (set after k (get_or head s 0)) z (numbers_from ws i order)) (sym next) (rest i b))
    by_test i b false q =
        let other : get_or (set head s k) i 0 ≡ get_or head i 0 =
        get_or-set_other head s i k 0 (λ z. eqb-false (source_in ws k) i q (sym e ∙ sym z)) in
        subst (λ (z : ℕ). Along n (set after k (get_or head s 0)) z (numbers_from ws i order)) (sym other) (rest i b)

-- A loop from the last wire to the first that puts each before those behind it.
module _ (ws : List ℕ) (n : ℕ) (head after : List ℕ) where
  pub links_start : IsLinked ws n head after [] → IsLinked ws n head after (from n (n - n))
  links_start l = subst (IsLinked ws n head after) (sym (from_end n n (omega arith))) l

  one_before : (k : ℕ) → 0 < k → k ≤ n → from (k - 1) (n - (k - 1)) ≡ (k - 1) ∷ from k (n - k)
  one_before k a b =
      let e : k - 1 + 1 ≡ k = omega arith in
      from_step (k - 1) n (omega arith) ∙ ap (λ (j : ℕ). (k - 1) ∷ from j (n - j)) e

  pub links_next : (k : ℕ) → 0 < k → k ≤ n → IsLinked ws n head after ((k - 1) ∷ from k (n - k))
      → IsLinked ws n head after (from (k - 1) (n - (k - 1)))
  links_next k a b l = subst (IsLinked ws n head after) (sym (one_before k a b)) l

  -- A wire that is put first is not linked yet.
  pub links_new : (k : ℕ) → 0 < k → has (k - 1) (from k (n - k)) ≡ false
  links_new k a = has_none (k - 1) (from k (n - k)) (λ m. let r = from_sound k (n - k) (k - 1) m in omega (arith, r.0))

  pub links_end : (k : ℕ) → k ≡ 0 → IsLinked ws n head after (from k (n - k)) → IsLinked ws n head after (from 0 n)
  links_end k e l =
      subst (IsLinked ws n head after) (ap (λ (j : ℕ). from j (n - j)) e ∙ ap (from 0) (sub-zero n)) l

  -- In stored order.
  pub stored_follows : IsLinked ws n head after (from 0 n) → Follows ws n head after (map (wire_in ws) (from 0 n))
  stored_follows l = record { order = from 0 n; links = l; these = refl }

-- A loop from the last entry of an order of n wires to the first that does the same.
module _ (n : ℕ) (order : List ℕ) (long : n ≤ length order) (o : is_order n order ≡ true) where
  order_names : Names n (order_list n order)
  unfolding is_order
  order_names = names_sound n (order_list n order) o

  -- Its entries are wires, and none stands again.
  pub order_below : (k : ℕ) → k < n → get_or order k 0 < n
  order_below k h =
      let e : get_or (take n order) k 0 ≡ get_or order k 0 = get_or-take n order k 0 h in
      order_names.exist (get_or order k 0)
      (subst (λ (x : ℕ). In x (take n order)) e (in-get_or (take n order) k 0 (omega (arith, length-take-le n order long))))

  order_distinct : (k : ℕ) → k ≤ n → Distinct (slice k n order)
  order_distinct zero h = order_names.once
  order_distinct (suc k) h =
      (subst (λ (l : List ℕ). Distinct l) (slice-cons k n order 0 (omega arith) long) (order_distinct k (omega arith))).1

  one_earlier : (k : ℕ) → 0 < k → k ≤ n → slice (k - 1) n order ≡ get_or order (k - 1) 0 ∷ slice k n order
  one_earlier k a b =
      let e : suc (k - 1) ≡ k = omega arith in
      slice-cons (k - 1) n order 0 (omega arith) long ∙ ap (λ (j : ℕ). get_or order (k - 1) 0 ∷ slice j n order) e

  pub order_new : (k x : ℕ) → 0 < k → k ≤ n → x ≡ get_or order (k - 1) 0 → has x (slice k n order) ≡ false
  order_new k x a b e =
      has_none x (slice k n order)
      (subst (λ (y : ℕ). In y (slice k n order) → ⊥) (sym e)
      (subst (λ (l : List ℕ). Distinct l) (one_earlier k a b) (order_distinct (k - 1) (omega arith))).0)

  pub order_next : (ws head after : List ℕ) (k x : ℕ) → 0 < k → k ≤ n → x ≡ get_or order (k - 1) 0
      → IsLinked ws n head after (x ∷ slice k n order) → IsLinked ws n head after (slice (k - 1) n order)
  order_next ws head after k x a b e l =
      subst (IsLinked ws n head after) (ap (λ (y : ℕ). y ∷ slice k n order) e ∙ sym (one_earlier k a b)) l

-- What is left of an order, and what is left when its last entry is taken.
module _ (order left rest : List ℕ) (x : ℕ) (e : left ≡ take (length left) order) (p : left ≡ rest ++ (x ∷ [])) where
  pub left_length : length left ≡ length rest + 1
  left_length = ap length p ∙ length-append rest (x ∷ [])

  pub left_rest : rest ≡ take (length rest) order
  left_rest =
      sym (take-append_seam rest (x ∷ [])) ∙ ap (take (length rest)) (sym p ∙ e)
      ∙ take-take (length rest) (length left) order (omega (arith, left_length))

  pub left_last : x ≡ get_or order (length left - 1) 0
  left_last =
      let d : length rest ≡ length left - 1 = omega (arith, left_length) in
      sym (get_or_at rest x [] 0 (length rest) refl) ∙ ap (λ (l : List ℕ). get_or l (length rest) 0) (sym p ∙ e)
      ∙ get_or-take (length left) order (length rest) 0 (omega (arith, left_length)) ∙ ap (λ (k : ℕ). get_or order k 0) d

pub ready_follows : (b : Bool) (ws : List ℕ) (n : ℕ) (head after : List ℕ) → b ≡ true → Ready b ws n head after
    → Follows ws n head after (map (wire_in ws) (from 0 n))
ready_follows true ws n head after e l = stored_follows ws n head after l
ready_follows false ws n head after e l = absurd (true≢false (sym e))

-- What a test for links already there, or for nothing to visit, says.
pub ready_done : (b : Bool) (current : ℕ) → (b || eqb current 0) ≡ true → 0 < current → b ≡ true
ready_done true current e h = refl
ready_done false current e h = absurd (let z = eqb-true current 0 e in omega (arith, z))

pub ready_none : (b : Bool) (current : ℕ) (ws : List ℕ) (n : ℕ) (head after : List ℕ) → (b || eqb current 0) ≡ false
    → Ready b ws n head after → IsLinked ws n head after []
ready_none true current ws n head after e l = absurd (true≢false e)
ready_none false current ws n head after e l = l

-- The wires of a component, and their numbers.
keep_map : (f : Wire → Bool) (g : ℕ → Wire) (xs : List ℕ) → keep f (map g xs) ≡ map g (keep (λ k. f (g k)) xs)
keep_map f g [] = refl
keep_map f g (x ∷ xs) = by_test (f (g x)) (keep_map f g xs)
  where
    by_test : (b : Bool) → keep f (map g xs) ≡ map g (keep (λ k. f (g k)) xs)
        → cond b (g x ∷ keep f (map g xs)) (keep f (map g xs)) ≡ map g (cond b (x ∷ keep (λ k. f (g k)) xs) (keep (λ k. f (g k)) xs))
    by_test true e = ap (λ (l : List Wire). g x ∷ l) e
    by_test false e = e

pub follows_from : (ws : List ℕ) (n : ℕ) (head after : List ℕ) (vs : List Wire) (f : Follows ws n head after vs) (i : ℕ)
    → wires_from vs i ≡ map (wire_in ws) (numbers_from ws i f.order)
follows_from ws n head after vs f i =
    ap (λ (us : List Wire). wires_from us i) f.these ∙ keep_map (λ (w : Wire). eqb w.src.comp.0 i) (wire_in ws) f.order

-- The wires that are met from component i's head are those of the order.
pub linked_follows : (ws : List ℕ) (n : ℕ) (head after : List ℕ) (vs : List Wire) → Follows ws n head after vs → (i : ℕ) → i < 256
    → linked_wires ws n head after i ≡ wires_from vs i
linked_follows ws n head after vs f i h =
    ap (map (wire_in ws)) (met_all n after (get_or head i 0) (numbers_from ws i f.order) (f.links.linked i h))
    ∙ sym (follows_from ws n head after vs f i)

-- A loop that sends along what it meets, from the wire h on.
module _ (T : Tables) (ws after : List ℕ) (n h : ℕ) (s : State) where
  abbrev pub Sending : ℕ → State → Type 0
  Sending k u =
      (ks : List ℕ) × Along n after k ks
      × ((js : List ℕ) → Along n after h js
      → foldl (send T) u (map (wire_in ws) ks) ≡ foldl (send T) s (map (wire_in ws) js))

  pub sending_start : (k : ℕ) (ks : List ℕ) → k ≡ h → Along n after h ks → Sending k s
  sending_start k ks e p = (
    ks,
    subst (λ (j : ℕ). Along n after j ks) (sym e) p,
    λ js q. ap (λ (l : List ℕ). foldl (send T) s (map (wire_in ws) l)) (along_unique n after h ks js p q),
  )

  pub sending_next : (k k' : ℕ) (u v : State) → k < n → k' ≡ get_or after k 0 → v ≡ send T u (wire_in ws k) → Sending k u → Sending k' v
  sending_next k k' u v l d e r = by_list r.0 r.1 r.2
    where
      by_list : (ks : List ℕ) → Along n after k ks
          → ((js : List ℕ) → Along n after h js → foldl (send T) u (map (wire_in ws) ks) ≡ foldl (send T) s (map (wire_in ws) js))
          → Sending k' v
      by_list [] p so_far = absurd (omega (arith, p))
      by_list (x ∷ xs) p so_far = (
        xs,
        subst (λ (j : ℕ). Along n after j xs) (sym d) p.2,
        λ js q. ap (λ (w : State). foldl (send T) w (map (wire_in ws) xs)) (e ∙ ap (λ (j : ℕ). send T u (wire_in ws j)) p.0)
            ∙ so_far js q,
      )

  pub sending_falls : (k k' : ℕ) (u : State) → k < n → k' ≡ get_or after k 0 → Sending k u
      → length (met_from n after n k') < length (met_from n after n k)
  sending_falls k k' u l d r = rw d (met_falls n after k r.0 l r.1)

  pub sending_end : (k : ℕ) (u : State) → n ≤ k → Sending k u → (js : List ℕ) → Along n after h js
      → u ≡ foldl (send T) s (map (wire_in ws) js)
  sending_end k u l r js q = by_list r.0 r.1 (r.2 js q)
    where
      by_list : (ks : List ℕ) → Along n after k ks
          → foldl (send T) u (map (wire_in ws) ks) ≡ foldl (send T) s (map (wire_in ws) js)
          → u ≡ foldl (send T) s (map (wire_in ws) js)
      by_list [] p e = e
      by_list (x ∷ xs) p e = absurd (omega (arith, p.1))
