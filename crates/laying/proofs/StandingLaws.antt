-- Laws of the lists at load and of the flat indexes.
-- Assumes nothing.
use mathlib.Core.Path.{◌≡◌, refl, sym, ap, ◌∙◌}
use mathlib.Core.Bool.{Bool, true, false, cond, not, ◌||◌}
use mathlib.Core.List.{List, [], ◌∷◌, ◌++◌, map}
use Prim.Native.Nat.{ℕ, zero, suc, ◌+◌, ◌-◌, ◌≤◌, ◌<◌}
use native.Mathlib.Numerals.{add-one}
use native.Mathlib.Decide.{dec_lt}
use native.Mathlib.Omega.{arith}
use borrow.Author.Tests.{le-ltb}
use borrow.Author.Tests.{not-true, not-false}
use lib.ListN.{length, get_or, set, take, replicate, length-map, length-append, length-replicate}
use lib.Seq.{sets, get_or-set_same, get_or-set_other, get_or-take, length-take-le}
use Rattle.std.proofs.lemmas.List.{get_or_append_left, get_or-append_right, get_or-replicate}
use Rattle.lists.specs.Lists.{from, keep, joined, overlay}
use Rattle.lists.proofs.MembersLaws.{keep_length, from_length}
use Rattle.kinds.specs.declared.Kind.TheVariants.{Clock, Const}
use Rattle.kinds.specs.Kinds.{is}
use Rattle.component.specs.declared.Record.{Record}
use Rattle.component.specs.Record.{record_at, record_count, fields_of, is_primitive}
use Rattle.component.specs.Drawing.{primitives_before}
use Rattle.flatten.specs.Descent.{flat}
use Rattle.flatten.specs.Verdict.{verdict}
use Rattle.flatten.proofs.Accepted.{Passed, accepted_passed}
use Rattle.flatten.proofs.Primitives.{primitives_before-step, primitives_before-skip, primitives_bound}
use Rattle.flatten.proofs.WireTheorems.{accepted_primitives_bound}
use Rattle.laying.specs.declared.names.Stood.{Stood}
use Rattle.laying.specs.declared.rows.Primitive.{Primitive}
use Rattle.std.specs.Prelude.{Option, Some, None}
use Rattle.laying.specs.Laid.{primitives, standing_at_load}
use Rattle.laying.specs.Laying.{IsFlat, seen_if, seen, standing_if, standing_by, stood_by, standing_at}
use Rattle.lists.proofs.LayingLaws.{joined_keep, Laid, laid_room, laid_step, laid_end, laid_count}
use Rattle.laying.proofs.PassesLaws.{primitives_before-few}
use Rattle.std.specs.Prelude.{Ok}

-- Laying one record into the standing list: a primitive that does not stand; one that does.
module _ (r : Primitive) (s : Stood) (drawn : Option Primitive) (e : drawn ≡ Some r) (b : Bool)
    (h : b ≡ (is Const r.fields || is Clock r.fields))
    (t : List ℕ) where
  pub stand_not : not b ≡ true → (t ≡ sets t s.count (standing_by drawn s.components))
      × (record { components = s.components + 1; count = s.count } ≡ stood_by drawn s)
  stand_not k = let z : (is Const r.fields || is Clock r.fields) ≡ false = sym h ∙ not-true b k in rw (e, z) (refl, refl)

  pub stand_room : not b ≡ false → s.count + length (standing_by drawn s.components) ≤ length t → s.count < length t
  stand_room k room =
      let z : (is Const r.fields || is Clock r.fields) ≡ true = sym h ∙ not-false b k in
      let one : s.count + 1 ≤ length t = rw (e, z) at room in
      omega arith

  pub stand_laid : not b ≡ false
      → (set t s.count s.components ≡ sets t s.count (standing_by drawn s.components))
      × (record { components = s.components + 1; count = s.count + 1 } ≡ stood_by drawn s)
  stand_laid k = let z : (is Const r.fields || is Clock r.fields) ≡ true = sym h ∙ not-false b k in rw (e, z) (refl, refl)

-- How many more the standing list names after a record.
stood_count : (drawn : Option Primitive) (s : Stood)
    → (stood_by drawn s).count ≡ s.count + length (standing_by drawn s.components)
stood_count (Some r) s = by_test (is Const r.fields || is Clock r.fields)
  where
    by_test : (b : Bool) → cond b (s.count + 1) s.count ≡ s.count + length (standing_if b s.components)
    by_test true = refl
    by_test false = omega arith
stood_count None s = omega arith

-- Those that pass a test, by index, are what each gives under the test.
map_keep : (T : ℕ → Bool) (f : ℕ → ℕ) (xs : List ℕ) → map f (keep T xs) ≡ joined (λ x. standing_if (T x) (f x)) xs
map_keep T f [] = refl
map_keep T f (x ∷ xs) = by_test (T x) (map_keep T f xs)
  where
    by_test : (b : Bool) → map f (keep T xs) ≡ joined (λ x. standing_if (T x) (f x)) xs
        → map f (cond b (x ∷ keep T xs) (keep T xs)) ≡ standing_if b (f x) ++ joined (λ x. standing_if (T x) (f x)) xs
    by_test true e = ap (λ (l : List ℕ). f x ∷ l) e
    by_test false e = e

module _ (at : ℕ → Record) (n : ℕ) where
  -- The flat index of the component behind c: one more if c is a primitive.
  pub flat_next : (c x : ℕ) → is_primitive (at c) ≡ true → x ≡ flat at n c → x + 1 ≡ flat at n (c + 1)
  flat_next c x e h =
      let z : flat at n (c + 1) ≡ flat at n c + 1 =
      ap (flat at n) (add-one c) ∙ ap (λ (l : List ℕ). length l) (primitives_before-step at n c e)
      ∙ length-append (primitives_before at c) (c ∷ []) in
      omega arith

  pub flat_same : (c x : ℕ) → is_primitive (at c) ≡ false → x ≡ flat at n c → x ≡ flat at n (c + 1)
  flat_same c x e h =
      h ∙ ap (λ (l : List ℕ). length l) (sym (primitives_before-skip at n c e)) ∙ ap (flat at n) (sym (add-one c))

  -- It is at most c.
  pub flat_few : (c : ℕ) → flat at n c ≤ c
  flat_few c = omega (arith, keep_length (λ q. is_primitive (at q)) (from 0 c), from_length 0 c)

  -- One word more of the table of flat indexes.
  pub flat_word : (t : List ℕ) (c x : ℕ) → c < length t → x ≡ flat at n c → ((k : ℕ) → k < c → get_or t k 0 ≡ flat at n k)
      → (k : ℕ) → k < c + 1 → get_or (set t c x) k 0 ≡ flat at n k
  flat_word t c x h e words k l = by_place (dec_lt k c)
    where
      by_place : Dec (k < c) → get_or (set t c x) k 0 ≡ flat at n k
      by_place (yes g) = get_or-set_other t c k x 0 (λ z. omega arith) ∙ words k g
      by_place (no g) = let z : k ≡ c = omega arith in rw z (get_or-set_same t c x 0 h ∙ e)

  -- The standing list, record by record.
  pub standing_joined : standing_at_load at n ≡ joined (standing_at at n) (from 0 n)
  standing_joined =
      map_keep test (flat at n) (primitives at n)
      ∙ joined_keep (λ q. is_primitive (at q)) (λ q. standing_if (test q) (flat at n q)) (standing_at at n)
      (λ q. by_kind q (is_primitive (at q))) (from 0 n)
    where
      test : ℕ → Bool
      test q = is Const (fields_of (at q)) || is Clock (fields_of (at q))

      by_kind : (q : ℕ) (b : Bool)
          → cond b (standing_if (test q) (flat at n q)) [] ≡ standing_by (seen_if b (at q)) (flat at n q)
      by_kind q true = refl
      by_kind q false = refl

-- The standing list of a drawing that passes every check names at most 256 components.
pub standing_bound : (at : ℕ → Record) (n : ℕ) → Passed at n → length (standing_at_load at n) ≤ 256
standing_bound at n d =
    let test : ℕ → Bool = λ x. is Const (fields_of (at x)) || is Clock (fields_of (at x)) in
    let all = primitives at n in
    omega (arith, length-map (keep test all) (flat at n), keep_length test all, primitives_bound at n d)

-- Laying the standing list of an accepted file, in a table t of full size.
module _ (s : List ℕ) (accepted : verdict s ≡ Ok tt) where
  module _ (t : List ℕ) (full : 256 ≤ length t) where
    standing_all : length (joined (standing_at (record_at s) (record_count s)) (from 0 (record_count s))) ≤ length t
    standing_all =
        omega (
          arith,
          standing_bound (record_at s) (record_count s) (accepted_passed s accepted),
          ap (λ (l : List ℕ). length l) (standing_joined (record_at s) (record_count s)),
        )

    module _ (p : ℕ) (u : List ℕ) (k : Stood) (ek : k.components ≡ flat (record_at s) (record_count s) p)
        (laid : Laid (standing_at (record_at s) (record_count s)) p t u k.count) where
      pub standing_end : p ≡ record_count s
          → (u ≡ overlay (standing_at_load (record_at s) (record_count s)) t)
          × (k.count ≡ length (standing_at_load (record_at s) (record_count s)))
      standing_end e = (
        laid_end _ t p u _ laid (record_count s) e standing_all
            ∙ ap (λ (l : List ℕ). overlay l t) (sym (standing_joined (record_at s) (record_count s))),
        laid_count _ t p u _ laid (record_count s) e
            ∙ ap (λ (l : List ℕ). length l) (sym (standing_joined (record_at s) (record_count s))),
      )

      module _ (drawn : Option Primitive) (ed : drawn ≡ seen (record_at s p)) where
        standing_is : standing_by drawn k.components ≡ standing_at (record_at s) (record_count s) p
        standing_is = λ j. standing_by (ed j) (ek j)

        pub standing_requires : p < record_count s
            → (k.count + length (standing_by drawn k.components) ≤ length u) × (k.components ≤ 256)
        standing_requires l = (
          omega (
            arith,
            laid_room _ t p u _ laid (record_count s) l standing_all,
            ap (λ (x : List ℕ). length x) standing_is,
          ),
          omega (
            arith,
            ek,
            primitives_before-few (record_at s) (record_count s) p (omega arith),
            accepted_primitives_bound s accepted,
          ),
        )

        module _ (v : List ℕ) (m : Stood) (ev : v ≡ sets u k.count (standing_by drawn k.components))
            (em : m ≡ stood_by drawn k) where
          pub standing_components : m.components ≡ flat (record_at s) (record_count s) (p + 1)
          standing_components =
              ap (λ (x : Stood). x.components) em ∙ ap (λ (x : Option Primitive). (stood_by x k).components) ed
              ∙ by_kind (is_primitive (record_at s p)) refl
            where
              by_kind : (b : Bool) → is_primitive (record_at s p) ≡ b
                  → (stood_by (seen_if b (record_at s p)) k).components ≡ flat (record_at s) (record_count s) (p + 1)
              by_kind true e = flat_next (record_at s) (record_count s) p k.components e ek
              by_kind false e = flat_same (record_at s) (record_count s) p k.components e ek

          pub standing_step : Laid (standing_at (record_at s) (record_count s)) (p + 1) t v m.count
          standing_step =
              laid_step _ t p u _ laid (standing_by drawn k.components) v m.count standing_is ev
              (ap (λ (x : Stood). x.count) em ∙ stood_count drawn k)

-- Past the records the flat index stays.
pub flat_past : (s : List ℕ) (c x d : ℕ) → record_count s ≤ c → x ≡ flat (record_at s) (record_count s) c
    → x ≡ flat (record_at s) (record_count s) (c + d)
flat_past s c x zero h e =
    let z : c ≡ c + 0 = omega arith in e ∙ ap (flat (record_at s) (record_count s)) z
flat_past s c x (suc d) h e =
    let z : is_primitive (record_at s (c + d)) ≡ false = rw (le-ltb (c + d) (record_count s) (omega arith)) in
    let more : c + d + 1 ≡ c + suc d = omega arith in
    flat_same (record_at s) (record_count s) (c + d) x z (flat_past s c x d h e) ∙ ap (flat (record_at s) (record_count s)) more

-- Words of a table that are flat indexes up to place c, and behind them that of c: past the records all are.
module _ (s u v w : List ℕ) (c x : ℕ) (place : c ≤ 256) (past : c < 256 → record_count s ≤ c) (size : length u ≡ 256)
    (e : x ≡ flat (record_at s) (record_count s) c) (words : (k : ℕ) → k < c → get_or u k 0 ≡ flat (record_at s) (record_count s) k)
    (filled : v ≡ replicate (256 - c) x) (none : length w ≡ 0) where
  front : length (take c u) ≡ c
  front = length-take-le c u (omega arith)

  back : length v ≡ 256 - c
  back = ap (λ (l : List ℕ). length l) filled ∙ length-replicate {A = ℕ} (256 - c) x

  pub flat_filled : IsFlat (record_at s) (record_count s) (take c u ++ (v ++ w))
  flat_filled = record {
    size = omega (arith, length-append (take c u) (v ++ w), length-append v w, front, back, none);
    word = λ k l. by_place k l (dec_lt k c);
  }
    where
      by_place : (k : ℕ) → k < 256 → Dec (k < c) → get_or (take c u ++ (v ++ w)) k 0 ≡ flat (record_at s) (record_count s) k
      by_place k l (yes g) = get_or_append_left (take c u) (v ++ w) 0 k (omega (arith, front)) ∙ get_or-take c u k 0 g ∙ words k g
      by_place k l (no g) =
          let there : c + (k - c) ≡ k = omega arith in
          get_or-append_right (take c u) (v ++ w) c k 0 front (omega arith) ∙ get_or_append_left v w 0 (k - c) (omega (arith, back))
          ∙ ap (λ (l : List ℕ). get_or l (k - c) 0) filled ∙ get_or-replicate (256 - c) (k - c) x 0 (omega arith)
          ∙ flat_past s c x (k - c) (past (omega arith)) e ∙ ap (flat (record_at s) (record_count s)) there
