-- Laws of the part of the index that holds stretches (specs/Index.antt): one step of widening them, and what they hold in the end.
--   Widening   the invariant of the pass: the stretches hold the input maps before q
-- Assumes nothing.
use mathlib.Core.Path.{◌≡◌, refl, sym, ap, ◌∙◌}
use mathlib.Core.Bool.{Bool, true, false, cond, ◌&&◌}
use mathlib.Core.List.{List, [], ◌∷◌, ◌++◌}
use Prim.Native.Nat.{ℕ, ◌+◌, ◌≤◌, ◌<◌}
use native.Mathlib.Nat.{zero-add}
use native.Mathlib.Decide.{dec_lt}
use native.Mathlib.Omega.{arith}
use borrow.Author.Tests.{ne_eqb, lt-ltb, le-ltb, eqb-true, eqb-false, ltb-true, ltb-false}
use lib.Dec.{eqb, ltb}
use lib.ListN.{length, get_or, set, take, drop, length-set, length-drop, get_or-append}
use lib.Seq.{get_or-set_same, get_or-set_other, get_or-take, get_or-append-add, length-take-le}
use borrow.Rule.Slice.PartMut.{mid_of, post_of, put_mid, same_len_mid}
use Rattle.lists.proofs.TestsLaws.{and_both}
use Rattle.lists.proofs.TestsLaws.{and_left, and_right}
use Rattle.component.specs.declared.Record.{Record}
use types.Run.{OneOf}
use denote.Enum.Declared.{tag_of}
use Rattle.component.specs.declared.ChildNo.{ChildNo}
use Rattle.component.specs.declared.Says.{Says}
use Rattle.component.specs.declared.Says.TheVariants.{InputMap}
use Rattle.component.specs.declared.Reading.{Reading}
use Rattle.component.specs.declared.Reading.TheVariants.{Taken, Refused}
use Rattle.component.specs.Record.{record_at}
use Rattle.component.specs.Reading.{owner_of, form_of, apart, said}
use Rattle.component.proofs.RecordLaws.{no_input_map, refused_is, taken_form}
use Rattle.component.specs.contracts.Says.{the_type}
use Rattle.index.specs.Index.{widen_low, widen_high, IsRange}
use Rattle.component.specs.Record.{owned_as}

-- A step of the stretches, by the tests made: the record is refused; no input map; of an owner past the index; not the first of its
-- owner; the first.
module _ (r : Reading) (q : ℕ) (t : List ℕ) where
  abbrev widened : List ℕ
  widened = widen_low (said r) q (widen_high (said r) q t)

  pub widen_refused : {k : ℕ} → r ≡ Refused k → t ≡ widened
  widen_refused k = rw (ne_eqb (form_of (said r)) 3 (λ z. omega (arith, ap form_of (refused_is (said r) r refl k))))

  module _ (o : ℕ) (x : Says) (h : r ≡ Taken o x) where
    pub widen_other : OneOf (0 ∷ 1 ∷ 3 ∷ []) (tag_of the_type x) → t ≡ widened
    widen_other k = rw (ne_eqb (form_of (said r)) 3 (λ z. no_input_map x k (sym (taken_form (said r) r refl o x h) ∙ z)))

    module _ {a d : ℕ} {c : ChildNo} (k : x ≡ InputMap a c d) where
      map_is : said r ≡ apart o (InputMap a c d)
      map_is = ap said h ∙ ap (apart o) k

      pub widen_far : 256 ≤ o → t ≡ widened
      widen_far g = rw (map_is, le-ltb o 256 g)

      pub widen_later : o < 256 → get_or (set t (256 + o) (q + 1)) o 0 ≤ q → set t (256 + o) (q + 1) ≡ widened
      widen_later g l = rw (map_is, lt-ltb o 256 g, le-ltb q (get_or (set t (256 + o) (q + 1)) o 0) l)

      pub widen_first : o < 256 → q < get_or (set t (256 + o) (q + 1)) o 0 → set (set t (256 + o) (q + 1)) o q ≡ widened
      widen_first g l = rw (map_is, lt-ltb o 256 g, lt-ltb q (get_or (set t (256 + o) (q + 1)) o 0) l)

-- What a step does to the stretch of composite c: its low end never rises, its high end never falls, and they take in a map of c's own;
-- each end is kept by the step of the other.
abbrev mapping : Record → Bool
mapping r = eqb (form_of r) 3 && ltb (owner_of r) 256

module _ (r : Record) (q : ℕ) (t : List ℕ) (size : length t ≡ 512) (c : ℕ) (g : c < 256) where
  set_at : (b m x : ℕ) → b ≤ 256 → get_or (set t (b + m) x) (b + c) 0 ≡ cond (eqb c m) x (get_or t (b + c) 0)
  set_at b m x l = by_place (eqb c m) refl
    where
      by_place : (d : Bool) → eqb c m ≡ d → get_or (set t (b + m) x) (b + c) 0 ≡ cond d x (get_or t (b + c) 0)
      by_place true e = let z : c ≡ m = eqb-true c m e in rw (← z) (get_or-set_same t (b + c) x 0 (omega arith))
      by_place false e = get_or-set_other t (b + m) (b + c) x 0 (λ z. eqb-false c m e (omega arith))

  set_low : (m x : ℕ) → get_or (set t m x) c 0 ≡ cond (eqb c m) x (get_or t c 0)
  set_low m x = simp zero-add at (set_at 0 m x (omega arith))

  widen_low-le : get_or (widen_low r q t) c 0 ≤ get_or t c 0
  widen_low-le = by_test (mapping r && ltb q (get_or t (owner_of r) 0)) refl
    where
      by_place : (b : Bool) → eqb c (owner_of r) ≡ b → q < get_or t (owner_of r) 0 → cond b q (get_or t c 0) ≤ get_or t c 0
      by_place true e l = omega (arith, ap (λ (x : ℕ). get_or t x 0) (eqb-true c (owner_of r) e))
      by_place false e l = omega arith

      by_test : (b : Bool) → (mapping r && ltb q (get_or t (owner_of r) 0)) ≡ b
          → get_or (cond b (set t (owner_of r) q) t) c 0 ≤ get_or t c 0
      by_test true e =
          let d : ltb q (get_or t (owner_of r) 0) ≡ true = and_right (mapping r) (ltb q (get_or t (owner_of r) 0)) e in
          let l : q < get_or t (owner_of r) 0 = ltb-true q (get_or t (owner_of r) 0) d in
          rw (set_low (owner_of r) q) (by_place (eqb c (owner_of r)) refl l)
      by_test false e = omega arith

  widen_low-high : get_or (widen_low r q t) (256 + c) 0 ≡ get_or t (256 + c) 0
  widen_low-high = by_test (mapping r && ltb q (get_or t (owner_of r) 0)) refl
    where
      by_test : (b : Bool) → (mapping r && ltb q (get_or t (owner_of r) 0)) ≡ b
          → get_or (cond b (set t (owner_of r) q) t) (256 + c) 0 ≡ get_or t (256 + c) 0
      by_test true e =
          let d : ltb (owner_of r) 256 ≡ true =
          and_right (eqb (form_of r) 3) (ltb (owner_of r) 256) (and_left (mapping r) (ltb q (get_or t (owner_of r) 0)) e) in
          get_or-set_other t (owner_of r) (256 + c) q 0 (λ z. omega (arith, ltb-true (owner_of r) 256 d))
      by_test false e = refl

  widen_high-low : get_or (widen_high r q t) c 0 ≡ get_or t c 0
  widen_high-low = by_test (mapping r)
    where
      by_test : (b : Bool) → get_or (cond b (set t (256 + owner_of r) (q + 1)) t) c 0 ≡ get_or t c 0
      by_test true = get_or-set_other t (256 + owner_of r) c (q + 1) 0 (λ z. omega arith)
      by_test false = refl

  widen_high-le : get_or t (256 + c) 0 ≤ q → get_or (widen_high r q t) (256 + c) 0 ≤ q + 1
  widen_high-le h = by_test (mapping r)
    where
      by_place : (b : Bool) → cond b (q + 1) (get_or t (256 + c) 0) ≤ q + 1
      by_place true = omega arith
      by_place false = omega arith

      by_test : (b : Bool) → get_or (cond b (set t (256 + owner_of r) (q + 1)) t) (256 + c) 0 ≤ q + 1
      by_test true = rw (set_at 256 (owner_of r) (q + 1) (omega arith)) (by_place (eqb c (owner_of r)))
      by_test false = omega arith

  widen_high-ge : get_or t (256 + c) 0 ≤ q → get_or t (256 + c) 0 ≤ get_or (widen_high r q t) (256 + c) 0
  widen_high-ge h = by_test (mapping r)
    where
      by_place : (b : Bool) → get_or t (256 + c) 0 ≤ cond b (q + 1) (get_or t (256 + c) 0)
      by_place true = omega arith
      by_place false = omega arith

      by_test : (b : Bool) → get_or t (256 + c) 0 ≤ get_or (cond b (set t (256 + owner_of r) (q + 1)) t) (256 + c) 0
      by_test true = rw (set_at 256 (owner_of r) (q + 1) (omega arith)) (by_place (eqb c (owner_of r)))
      by_test false = omega arith

  module _ (e : owned_as 3 c r ≡ true) where
    mapper_is : owner_of r ≡ c
    mapper_is = eqb-true (owner_of r) c (and_right (eqb (form_of r) 3) (eqb (owner_of r) c) e)

    mapping_is : mapping r ≡ true
    mapping_is =
        and_both (eqb (form_of r) 3) (ltb (owner_of r) 256) (and_left (eqb (form_of r) 3) (eqb (owner_of r) c) e)
        (lt-ltb (owner_of r) 256 (omega (arith, mapper_is)))

    widen_low-own : get_or (widen_low r q t) c 0 ≤ q
    widen_low-own = rw (mapping_is, mapper_is) (by_test (ltb q (get_or t c 0)) refl)
      where
        by_test : (b : Bool) → ltb q (get_or t c 0) ≡ b → get_or (cond b (set t c q) t) c 0 ≤ q
        by_test true d = rw (get_or-set_same t c q 0 (omega arith)) (omega arith)
        by_test false d = ltb-false q (get_or t c 0) d

    widen_high-own : q < get_or (widen_high r q t) (256 + c) 0
    widen_high-own = rw (mapping_is, mapper_is, get_or-set_same t (256 + c) (q + 1) 0 (omega arith)) (omega arith)

widen_length : (b : Bool) (t : List ℕ) (i x : ℕ) → length (cond b (set t i x) t) ≡ length t
widen_length true t i x = length-set t i x
widen_length false t i x = refl

mid_of-length : (a k : ℕ) (xs : List ℕ) → a + k ≤ length xs → length (mid_of a k xs) ≡ k
mid_of-length a k xs h = length-take-le k (drop a xs) (omega (arith, length-drop a xs))

-- A table whose k words from a on are ys: one of them; one before them; its length.
module _ (a k : ℕ) (xs ys : List ℕ) where
  pub put_mid-in : (j : ℕ) → a ≤ length xs → j < length ys → get_or (put_mid a k xs ys) (a + j) 0 ≡ get_or ys j 0
  put_mid-in j h l =
      let z : length (take a xs) ≡ a = length-take-le a xs h in
      ap (λ (m : ℕ). get_or (put_mid a k xs ys) (m + j) 0) (sym z) ∙ get_or-append-add (take a xs) (ys ++ post_of a k xs) j 0
      ∙ get_or-append ys (post_of a k xs) 0 j l

  pub put_mid-before : (i : ℕ) → a ≤ length xs → i < a → get_or (put_mid a k xs ys) i 0 ≡ get_or xs i 0
  put_mid-before i h l =
      let z : length (take a xs) ≡ a = length-take-le a xs h in
      get_or-append (take a xs) (ys ++ post_of a k xs) 0 i (omega arith) ∙ get_or-take a xs i 0 l

  pub put_mid-length : a + k ≤ length xs → length ys ≡ k → length (put_mid a k xs ys) ≡ length xs
  put_mid-length h e = same_len_mid a k xs ys (e ∙ sym (mid_of-length a k xs h))

-- The invariant of the pass over the input maps: the stretches hold those before q.
pub record Widening (s : List ℕ) (n q : ℕ) (t : List ℕ) : Type 0 where
  pub size : length t ≡ 512
  pub reached : q ≤ n
  pub within : (c : ℕ) → c < 256 → get_or t (256 + c) 0 ≤ q
  pub starts : (p c : ℕ) → p < q → c < 256 → owned_as 3 c (record_at s p) ≡ true → get_or t c 0 ≤ p
  pub ends : (p c : ℕ) → p < q → c < 256 → owned_as 3 c (record_at s p) ≡ true → p < get_or t (256 + c) 0

module _ (s : List ℕ) (n : ℕ) where
  pub widening_start : (t : List ℕ) → length t ≡ 512 → ((c : ℕ) → c < 256 → get_or t (256 + c) 0 ≡ 0) → Widening s n 0 t
  widening_start t e h = record {
    size = e;
    reached = omega arith;
    within = λ c g. omega (arith, h c g);
    starts = λ p c l g o. absurd (omega arith);
    ends = λ p c l g o. absurd (omega arith);
  }

  -- both parts cleared, the high ends to 0
  pub widening_cleared : (xs ls hs : List ℕ) → length xs ≡ 512 → length ls ≡ length (mid_of 0 256 xs)
      → length hs ≡ length (mid_of 256 256 (put_mid 0 256 xs ls)) → ((c : ℕ) → c < length hs → get_or hs c 0 ≡ 0)
      → Widening s n 0 (put_mid 256 256 (put_mid 0 256 xs ls) hs)
  widening_cleared xs ls hs h el eh e =
      let ml : length ls ≡ 256 = el ∙ mid_of-length 0 256 xs (omega arith) in
      let h1 : length (put_mid 0 256 xs ls) ≡ 512 = put_mid-length 0 256 xs ls (omega arith) ml ∙ h in
      let mh : length hs ≡ 256 = eh ∙ mid_of-length 256 256 (put_mid 0 256 xs ls) (omega arith) in
      widening_start (put_mid 256 256 (put_mid 0 256 xs ls) hs) (put_mid-length 256 256 (put_mid 0 256 xs ls) hs (omega arith) mh ∙ h1)
      (λ c l. put_mid-in 256 256 (put_mid 0 256 xs ls) hs c (omega arith) (omega arith) ∙ e c (omega arith))

  pub widening_end : (q : ℕ) (t : List ℕ) → Widening s n q t → n ≤ q → IsRange s n t
  widening_end q t h e = record {
    size = h.size;
    within = λ c g. omega (arith, h.within c g, h.reached);
    starts = λ p c l g o. h.starts p c (omega arith) g o;
    ends = λ p c l g o. h.ends p c (omega arith) g o;
  }

  module _ (q : ℕ) (t : List ℕ) (h : Widening s n q t) (r : Record) (er : r ≡ record_at s q) where
    high_size : length (widen_high r q t) ≡ 512
    high_size = widen_length (mapping r) t (256 + owner_of r) (q + 1) ∙ h.size

    last_own : (p c : ℕ) → p < q + 1 → (p < q → ⊥) → owned_as 3 c (record_at s p) ≡ true → owned_as 3 c r ≡ true
    last_own p c l k o =
        let z : q ≡ p = omega arith in
        ap (owned_as 3 c) (er ∙ ap (record_at s) z) ∙ o

    step_least : (p c : ℕ) → p < q + 1 → c < 256 → owned_as 3 c (record_at s p) ≡ true
        → get_or (widen_low r q (widen_high r q t)) c 0 ≤ p
    step_least p c l g o = by_place (dec_lt p q)
      where
        by_place : Dec (p < q) → get_or (widen_low r q (widen_high r q t)) c 0 ≤ p
        by_place (yes a) =
            omega (arith, widen_low-le r q (widen_high r q t) high_size c g, widen_high-low r q t h.size c g, h.starts p c a g o)
        by_place (no a) = omega (arith, widen_low-own r q (widen_high r q t) high_size c g (last_own p c l a o))

    step_most : (p c : ℕ) → p < q + 1 → c < 256 → owned_as 3 c (record_at s p) ≡ true
        → p < get_or (widen_low r q (widen_high r q t)) (256 + c) 0
    step_most p c l g o = rw (widen_low-high r q (widen_high r q t) high_size c g) (by_place (dec_lt p q))
      where
        by_place : Dec (p < q) → p < get_or (widen_high r q t) (256 + c) 0
        by_place (yes a) = omega (arith, widen_high-ge r q t h.size c g (h.within c g), h.ends p c a g o)
        by_place (no a) = omega (arith, widen_high-own r q t h.size c g (last_own p c l a o))

    pub widening_step : (t' : List ℕ) → q < n → t' ≡ widen_low r q (widen_high r q t) → Widening s n (q + 1) t'
    widening_step t' l e =
        rw e (record {
          size = widen_length (mapping r && ltb q (get_or (widen_high r q t) (owner_of r) 0)) (widen_high r q t) (owner_of r) q ∙ high_size;
          reached = omega arith;
          within = λ c g. rw (widen_low-high r q (widen_high r q t) high_size c g) (widen_high-le r q t h.size c g (h.within c g));
          starts = step_least;
          ends = step_most;
        })
