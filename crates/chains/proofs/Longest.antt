-- Where the wires form no cycle no component stands twice on a chain, so a chain has no more primitives than there are components; and `longest` is the most.
-- Assumes nothing.
use mathlib.Core.Path.{◌≡◌, refl, sym, ap, ◌∙◌, subst}
use mathlib.Core.Logic.{◌⊎◌, inl, inr}
use mathlib.Core.Bool.{Bool, true, false, cond, not, ◌&&◌, true≢false}
use mathlib.Core.List.{List, [], ◌∷◌, map, foldl}
use Prim.Native.Nat.{ℕ, zero, suc, ◌≤◌, ◌<◌}
use native.Mathlib.Omega.{arith}
use borrow.Author.Tests.{leb-true, leb-false}
use lib.ListN.{length, get_or, length-map}
use lib.Dec.{leb}
use Rattle.lists.specs.Lists.{from, has, distinct}
use Rattle.lists.proofs.MembersLaws.{In, Distinct, distinct_bound, distinct_sound, has_sound, get_or-in, in-get_or, map_sound, map_complete, keep_sound, keep_complete, from0_sound, from0_complete, from_length}
use Rattle.lists.proofs.OverlayLaws.{map_at}
use Rattle.tables.specs.Tables.{Tables, indexes, joins, sources}
use Rattle.rounds.proofs.Sound.{Sound}
use Rattle.chains.specs.Chains.{Chain, alone, onward, Cycle, Most, larger, maximum, IsIndex, Joins, lengths, longest}
use Rattle.chains.proofs.Joints.{Deep, deep_one, deep_more, joins_source, joins_target}

-- The larger of two is none below either, and is one of them.
pub larger_left : (a b : ℕ) → a ≤ larger a b
larger_left a b = by_test (leb a b) refl
  where
    by_test : (c : Bool) → leb a b ≡ c → a ≤ cond c b a
    by_test true e = leb-true a b e
    by_test false e = omega arith

pub larger_right : (a b : ℕ) → b ≤ larger a b
larger_right a b = by_test (leb a b) refl
  where
    by_test : (c : Bool) → leb a b ≡ c → b ≤ cond c b a
    by_test true e = omega arith
    by_test false e = omega (arith, leb-false a b e)

larger_one : (a b : ℕ) → (larger a b ≡ a) ⊎ (larger a b ≡ b)
larger_one a b = by_test (leb a b)
  where
    by_test : (c : Bool) → (cond c b a ≡ a) ⊎ (cond c b a ≡ b)
    by_test true = inr refl
    by_test false = inl refl

-- The largest of a list is none below any of it, and is one of it or 0.
fold_start : (m : ℕ) (xs : List ℕ) → m ≤ foldl larger m xs
fold_start m [] = omega arith
fold_start m (x ∷ xs) = omega (arith, larger_left m x, fold_start (larger m x) xs)

fold_member : (m x : ℕ) (xs : List ℕ) → In x xs → x ≤ foldl larger m xs
fold_member m x [] h = absurd h
fold_member m x (y ∷ xs) (inl e) = omega (arith, e, larger_right m y, fold_start (larger m y) xs)
fold_member m x (y ∷ xs) (inr h) = fold_member (larger m y) x xs h

fold_one : (m : ℕ) (xs : List ℕ) → (foldl larger m xs ≡ m) ⊎ In (foldl larger m xs) xs
fold_one m [] = inl refl
fold_one m (x ∷ xs) = by_case (fold_one (larger m x) xs) (larger_one m x)
  where
    by_case : (foldl larger (larger m x) xs ≡ larger m x) ⊎ In (foldl larger (larger m x) xs) xs
        → (larger m x ≡ m) ⊎ (larger m x ≡ x) → (foldl larger (larger m x) xs ≡ m) ⊎ In (foldl larger (larger m x) xs) (x ∷ xs)
    by_case (inl e) (inl p) = inl (e ∙ p)
    by_case (inl e) (inr p) = inr (inl (e ∙ p))
    by_case (inr k) p = inr (inr k)

module _ (T : Tables) (g : Sound T) where
  abbrev n : ℕ
  n = T.counts.components

  abbrev Chained : ℕ → ℕ → ℕ → Type 0
  Chained = Chain (IsIndex T) (Joins T)

  abbrev Cyclic : Type 0
  Cyclic = Cycle (IsIndex T) (Joins T)

  ends_in : {k i j : ℕ} → Chained k i j → j < n
  ends_in (alone h) = h
  ends_in (onward {y = y} {z = z} c e) = joins_target T g y z e

  -- The primitives of a chain, from its end.
  members : {k i j : ℕ} → Chained k i j → List ℕ
  members (alone {x = x} h) = x ∷ []
  members (onward {z = z} c e) = z ∷ members c

  members_length : {k i j : ℕ} (c : Chained k i j) → length (members c) ≡ k
  unfolding members
  members_length (alone h) = refl
  members_length (onward c e) = ap suc (members_length c)

  members_in : {k i j : ℕ} (c : Chained k i j) (d : ℕ) → In d (members c) → d < n
  unfolding members
  members_in (alone h) d (inl q) = subst (λ (x : ℕ). x < n) (sym q) h
  members_in (alone h) d (inr m) = absurd m
  members_in (onward c e) d (inl q) = subst (λ (x : ℕ). x < n) (sym q) (ends_in (onward c e))
  members_in (onward c e) d (inr m) = members_in c d m

  -- From each of them the chain goes on to its end.
  chain_from : {k i j : ℕ} (c : Chained k i j) (d : ℕ) → In d (members c) → (r : ℕ) × Chained (suc r) d j
  unfolding members
  chain_from (alone {x = x} h) d (inl q) = (0, subst (λ (y : ℕ). Chained 1 y x) (sym q) (alone h))
  chain_from (alone h) d (inr m) = absurd m
  chain_from (onward {z = z} c e) d (inl q) = (0, subst (λ (y : ℕ). Chained 1 y z) (sym q) (alone (ends_in (onward c e))))
  chain_from (onward c e) d (inr m) = let r = chain_from c d m in (suc r.0, onward r.1 e)

  -- Without a cycle none of them stands twice.
  module _ (acyclic : Cycle (IsIndex T) (Joins T) → ⊥) where
    members_distinct : {k i j : ℕ} (c : Chained k i j) → Distinct (members c)
    unfolding members
    members_distinct (alone h) = (λ k. k, tt)
    members_distinct (onward {z = z} c e) = (λ m. let r = chain_from c z m in acyclic (r.0, z, onward r.1 e), members_distinct c)

    pub chain_bound : {k i j : ℕ} → Chain (IsIndex T) (Joins T) k i j → k ≤ T.counts.components
    chain_bound c =
        let l = distinct_bound (members c) (from 0 n) (members_distinct c) (λ d m. from0_complete n d (members_in c d m)) in
        omega (arith, members_length c, from_length 0 n)

  -- A longer chain comes back on itself.
  repeats_cycle : {k i j : ℕ} (c : Chained k i j) → distinct (members c) ≡ false → Cyclic
  unfolding members
  repeats_cycle (alone h) f = absurd (true≢false f)
  repeats_cycle (onward {z = z} c e) f = by_test (has z (members c)) refl f (λ k. repeats_cycle c k)
    where
      by_test : (b : Bool) → has z (members c) ≡ b → (not b && distinct (members c)) ≡ false → (distinct (members c) ≡ false → Cyclic) → Cyclic
      by_test true k f later = let r = chain_from c z (has_sound z (members c) k) in (r.0, z, onward r.1 e)
      by_test false k f later = later f

  pub long_cycle : {k i j : ℕ} → Chain (IsIndex T) (Joins T) k i j → T.counts.components < k → Cycle (IsIndex T) (Joins T)
  long_cycle c h = by_test (distinct (members c)) refl
    where
      by_test : (b : Bool) → distinct (members c) ≡ b → Cyclic
      by_test true e =
          let l = distinct_bound (members c) (from 0 n) (distinct_sound (members c) e) (λ d m. from0_complete n d (members_in c d m)) in
          absurd (omega (arith, members_length c, from_length 0 n))
      by_test false e = repeats_cycle c e

  -- The most primitives on a chain of at most k that ends at j, and of at most k that ends at a source of j.
  abbrev length_at : ℕ → ℕ → ℕ
  length_at k j = get_or (lengths T k) j 0

  abbrev before : ℕ → ℕ → List ℕ
  before k j = map (λ i. length_at k i) (sources T j)

  step : (k j : ℕ) → j < n → length_at (suc k) j ≡ suc (maximum (before k j))
  step k j h = map_at (λ i. suc (maximum (before k i))) n j 0 h

  joins_before : (k i j : ℕ) → Joins T i j → length_at k i ≤ maximum (before k j)
  unfolding sources
  joins_before k i j e =
      fold_member 0 (length_at k i) (before k j)
      (map_complete (λ x. length_at k x) i (sources T j)
      (keep_complete (λ x. joins T x j) i (indexes T) e (from0_complete n i (joins_source T g i j e))))

  before_joins : (k j x : ℕ) → In x (before k j) → (i : ℕ) × (i < n) × Joins T i j × (x ≡ length_at k i)
  unfolding sources
  before_joins k j x m =
      let r = map_sound (λ i. length_at k i) x (sources T j) m in
      let s = keep_sound (λ i. joins T i j) r.0 (indexes T) r.1 in
      (r.0, from0_sound n r.0 s.1, s.0, r.2)

  length_bound : (k : ℕ) {r i j : ℕ} → Chained r i j → r ≤ k → r ≤ length_at k j
  length_bound zero (alone h) u = absurd (omega arith)
  length_bound zero (onward c e) u = absurd (omega arith)
  length_bound (suc k) (alone {x = x} h) u = omega (arith, step k x h)
  length_bound (suc k) (onward {k = r} {y = y} {z = z} c e) u =
      let b : r ≤ length_at k y = length_bound k c (omega arith) in
      omega (arith, step k z (joins_target T g y z e), b, joins_before k y z e)

  length_attained : (k j : ℕ) → j < n → (length_at k j ≡ 0) ⊎ Deep T (length_at k j) j
  length_attained zero j h = inl (map_at (λ i. 0) n j 0 h)
  length_attained (suc k) j h = by_case (fold_one 0 (before k j)) (λ i q. length_attained k i q)
    where
      alone_deep : maximum (before k j) ≡ 0 → Deep T (length_at (suc k) j) j
      alone_deep e =
          let p : 1 ≡ length_at (suc k) j = omega (arith, step k j h, e) in
          subst (λ (x : ℕ). Deep T x j) p (deep_one T j h)

      on : (i : ℕ) → Joins T i j → maximum (before k j) ≡ length_at k i → (length_at k i ≡ 0) ⊎ Deep T (length_at k i) i → Deep T (length_at (suc k) j) j
      on i e p (inl q) = alone_deep (p ∙ q)
      on i e p (inr d) =
          let q : suc (length_at k i) ≡ length_at (suc k) j = omega (arith, step k j h, p) in
          subst (λ (x : ℕ). Deep T x j) q (deep_more T (length_at k i) i j e d)

      by_case : (maximum (before k j) ≡ 0) ⊎ In (maximum (before k j)) (before k j)
          → ((i : ℕ) → i < n → (length_at k i ≡ 0) ⊎ Deep T (length_at k i) i) → (length_at (suc k) j ≡ 0) ⊎ Deep T (length_at (suc k) j) j
      by_case (inl e) later = inr (alone_deep e)
      by_case (inr m) later =
          let r = before_joins k j (maximum (before k j)) m in inr (on r.0 r.2 r.3 (later r.0 r.1))

  long : (k : ℕ) → length (lengths T k) ≡ n
  long zero = length-map (from 0 n) (λ i. 0) ∙ from_length 0 n
  long (suc k) = length-map (from 0 n) (λ i. suc (maximum (before k i))) ∙ from_length 0 n

  lengths_in : (k j : ℕ) → j < n → In (length_at k j) (lengths T k)
  lengths_in k j h = in-get_or (lengths T k) j 0 (omega (arith, long k))

  lengths_at : (k x : ℕ) → In x (lengths T k) → (j : ℕ) × (j < n) × (x ≡ length_at k j)
  lengths_at k x m = let r = get_or-in x (lengths T k) 0 m in (r.0, omega (arith, r.1, long k), r.2)

  -- `longest` is the most primitives on any chain.
  pub longest_most : (Cycle (IsIndex T) (Joins T) → ⊥) → Most (IsIndex T) (Joins T) (longest T)
  unfolding longest
  longest_most acyclic =
      record {
        bound = λ k i j c. omega (
          arith,
          length_bound n c (chain_bound acyclic c),
          fold_member 0 (length_at n j) (lengths T n) (lengths_in n j (ends_in c)),
        );
        attained = λ h. by_case h (fold_one 0 (lengths T n));
      }
    where
      D : ℕ
      D = maximum (lengths T n)

      by_case : 0 < D → (D ≡ 0) ⊎ In D (lengths T n) → (i : ℕ) × (j : ℕ) × Chained D i j
      by_case h (inl e) = absurd (omega arith)
      by_case h (inr m) = let r = lengths_at n D m in deep r.0 r.2 (length_attained n r.0 r.1)
        where
          deep : (j : ℕ) → D ≡ length_at n j → (length_at n j ≡ 0) ⊎ Deep T (length_at n j) j → (i : ℕ) × (j : ℕ) × Chained D i j
          deep j e (inl q) = absurd (omega arith)
          deep j e (inr d) = (d.0, j, subst (λ (x : ℕ). Chained x d.0 j) (sym e) d.1)
