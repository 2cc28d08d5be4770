-- Laws of a part of the index that numbers records by their owners (specs/Index.antt): one step of it, what it holds in the end, and
-- that a record of an owner with k such before it is its owner's kth.
--   Numbering    the invariant of the pass: the words say what the records before q say
-- Assumes nothing.
use mathlib.Core.Path.{◌≡◌, refl, sym, ap, ◌∙◌}
use mathlib.Core.Bool.{Bool, true, false, cond, not, ◌&&◌, false≢true}
use mathlib.Core.List.{List, [], ◌∷◌, ◌++◌}
use Prim.Native.Nat.{ℕ, ◌+◌, ◌-◌, ◌/◌, ◌≤◌, ◌<◌}
use native.Mathlib.Nat.{sub-zero}
use native.Mathlib.Decide.{dec_lt}
use native.Mathlib.Omega.{arith}
use borrow.Author.Tests.{eq-eqb, ne_eqb, lt-ltb, le-ltb, eqb-true, not-true, not-false, ltb-true}
use lib.Dec.{eqb, ltb}
use lib.ListN.{length, get_or, set, length-set, length-append, get_or-eq_default}
use lib.Seq.{get_or-set_same, get_or-set_other}
use Rattle.lists.specs.Lists.{from, keep}
use Rattle.lists.proofs.ListsLaws.{keep_append, keep_snoc_here, keep_snoc_next, length_keep_le}
use Rattle.lists.proofs.MembersLaws.{from_append}
use Rattle.lists.proofs.TestsLaws.{and_both, and_left, and_right}
use Rattle.component.specs.declared.Record.{Record}
use Rattle.component.specs.declared.Says.{Says}
use Rattle.component.specs.declared.Reading.{Reading}
use Rattle.component.specs.declared.Reading.TheVariants.{Taken, Refused}
use Rattle.component.specs.Record.{record_at, no_record, owned_as}
use Rattle.component.specs.Reading.{owner_of, form_of, form_by, said}
use Rattle.component.specs.Drawing.{child, out_map}
use Rattle.component.proofs.RecordLaws.{refused_is, taken_form, taken_owner}
use Rattle.component.proofs.ScanLaws.{tested}
use Rattle.index.specs.Index.{nth_owned, before, numbered, IsNumbered, IsIndex}

-- A record of a kind and of an owner: refused; taken apart.
module _ (t : Record) (form o : ℕ) (h : 1 ≤ form) (r : Reading) (e : said r ≡ t) where
  pub owned_refused : {k : ℕ} → r ≡ Refused k → false ≡ owned_as form o t
  owned_refused k = let z : 0 ≡ form → ⊥ = λ y. omega arith in rw (refused_is t r e k, ne_eqb 0 form z)

  pub owned_taken : (m : ℕ) (x : Says) (b : Bool) → r ≡ Taken m x → b ≡ eqb (form_by x) form → (b && eqb m o) ≡ owned_as form o t
  owned_taken m x b k d = rw (d, taken_form t r e m x k, taken_owner t r e m x k)

-- The step, by the tests made: the record is refused; of another kind; of an owner past the table; it has a word of its own; it has none.
-- b says whether it is of the kind.
module _ (w form : ℕ) (r : Reading) (q : ℕ) (t : List ℕ) where
  pub number_refused : {k : ℕ} → 1 ≤ form → r ≡ Refused k → t ≡ numbered w form (said r) q t
  number_refused h k = rw (ne_eqb (form_of (said r)) form (λ z. omega (arith, ap form_of (refused_is (said r) r refl k))))

  module _ (o : ℕ) (x : Says) (h : r ≡ Taken o x) (b : Bool) (d : b ≡ eqb (form_by x) form) where
    owner_taken : owner_of (said r) ≡ o
    owner_taken = taken_owner (said r) r refl o x h

    kind_taken : eqb (form_of (said r)) form ≡ b
    kind_taken = ap (λ (f : ℕ). eqb f form) (taken_form (said r) r refl o x h) ∙ sym d

    pub number_other : not b ≡ true → t ≡ numbered w form (said r) q t
    number_other k = rw (kind_taken ∙ not-true b k)

    module _ (k : not b ≡ false) where
      pub number_far : 256 ≤ o → t ≡ numbered w form (said r) q t
      number_far g = rw (kind_taken ∙ not-false b k, owner_taken, le-ltb o 256 g)

      pub number_placed : o < 256 → q < w → set (set t (w + o) (get_or t (w + o) 0 + 1)) q (get_or t (w + o) 0) ≡ numbered w form (said r) q t
      number_placed g l = rw (kind_taken ∙ not-false b k, owner_taken, lt-ltb o 256 g, lt-ltb q w l)

      pub number_counted : o < 256 → w ≤ q → set t (w + o) (get_or t (w + o) 0 + 1) ≡ numbered w form (said r) q t
      number_counted g l = rw (kind_taken ∙ not-false b k, owner_taken, lt-ltb o 256 g, le-ltb q w l)

-- What the step does to a word.
module _ (w form : ℕ) (r : Record) (q : ℕ) (t : List ℕ) where
  -- the owner, how many it has so far, the test of the step, and the table with its count
  abbrev m : ℕ
  m = owner_of r

  abbrev had : ℕ
  had = get_or t (w + m) 0

  abbrev counting : Bool
  counting = eqb (form_of r) form && ltb m 256

  abbrev counted : List ℕ
  counted = set t (w + m) (had + 1)

  numbered_length : length (numbered w form r q t) ≡ length t
  numbered_length = by_test counting (ltb q w)
    where
      by_test : (a b : Bool) → length (cond a (cond b (set counted q had) counted) t) ≡ length t
      by_test true true = length-set counted q had ∙ length-set t (w + m) (had + 1)
      by_test true false = length-set t (w + m) (had + 1)
      by_test false b = refl

  -- one that is neither the record's own nor its owner's
  numbered_else : (i : ℕ) → (i ≡ q → ⊥) → (counting ≡ true → i ≡ w + m → ⊥) → get_or (numbered w form r q t) i 0 ≡ get_or t i 0
  numbered_else i a h = by_test counting (ltb q w) refl
    where
      by_test : (c b : Bool) → counting ≡ c → get_or (cond c (cond b (set counted q had) counted) t) i 0 ≡ get_or t i 0
      by_test true true d = get_or-set_other counted q i had 0 a ∙ get_or-set_other t (w + m) i (had + 1) 0 (h d)
      by_test true false d = get_or-set_other t (w + m) i (had + 1) 0 (h d)
      by_test false b d = refl

  module _ (o : ℕ) (g : o < 256) (s : length t ≡ w + 256) where
    -- the count of an owner that is not the record's
    count_else : owned_as form o r ≡ false → get_or (numbered w form r q t) (w + o) 0 ≡ get_or t (w + o) 0
    count_else e = by_test counting (ltb q w) refl refl
      where
        other : counting ≡ true → w + o ≡ w + m → ⊥
        other d z =
            let y : m ≡ o = omega arith in
            false≢true (sym e ∙ and_both (eqb (form_of r) form) (eqb m o) (and_left (eqb (form_of r) form) (ltb m 256) d) (eq-eqb m o y))

        by_test : (c b : Bool) → counting ≡ c → ltb q w ≡ b
            → get_or (cond c (cond b (set counted q had) counted) t) (w + o) 0 ≡ get_or t (w + o) 0
        by_test true true d l =
            let k = ltb-true q w l in
            get_or-set_other counted q (w + o) had 0 (λ z. omega arith) ∙ get_or-set_other t (w + m) (w + o) (had + 1) 0 (other d)
        by_test true false d l = get_or-set_other t (w + m) (w + o) (had + 1) 0 (other d)
        by_test false b d l = refl

    module _ (e : owned_as form o r ≡ true) where
      owner_is : m ≡ o
      owner_is = eqb-true m o (and_right (eqb (form_of r) form) (eqb m o) e)

      counting_is : counting ≡ true
      counting_is =
          and_both (eqb (form_of r) form) (ltb m 256) (and_left (eqb (form_of r) form) (eqb m o) e)
          (lt-ltb m 256 (omega (arith, owner_is)))

      count_owner : get_or (numbered w form r q t) (w + o) 0 ≡ get_or t (w + o) 0 + 1
      count_owner = rw (counting_is, owner_is) (by_test (ltb q w) refl)
        where
          by_test : (b : Bool) → ltb q w ≡ b
              → get_or (cond b (set (set t (w + o) (get_or t (w + o) 0 + 1)) q (get_or t (w + o) 0)) (set t (w + o) (get_or t (w + o) 0 + 1))) (w + o) 0
              ≡ get_or t (w + o) 0 + 1
          by_test true l =
              let k = ltb-true q w l in
              get_or-set_other (set t (w + o) (get_or t (w + o) 0 + 1)) q (w + o) (get_or t (w + o) 0) 0 (λ z. omega arith)
              ∙ get_or-set_same t (w + o) (get_or t (w + o) 0 + 1) 0 (omega arith)
          by_test false l = get_or-set_same t (w + o) (get_or t (w + o) 0 + 1) 0 (omega arith)

      place_owner : q < w → get_or (numbered w form r q t) q 0 ≡ get_or t (w + o) 0
      place_owner l =
          rw (counting_is, owner_is, lt-ltb q w l)
          (get_or-set_same (set t (w + o) (get_or t (w + o) 0 + 1)) q (get_or t (w + o) 0) 0
          (omega (arith, length-set t (w + o) (get_or t (w + o) 0 + 1))))

-- The invariant of the pass: the words say what the records from `first` to before q say.
pub record Numbering (s : List ℕ) (n w form first q : ℕ) (t : List ℕ) : Type 0 where
  pub size : length t ≡ w + 256
  pub begun : first ≤ q
  pub until : q - first ≤ n - first
  pub place : (j o : ℕ) → first ≤ j → j < q → j < w → o < 256 → owned_as form o (record_at s j) ≡ true → get_or t j 0 ≡ before s form first o j
  pub count : (o : ℕ) → o < 256 → get_or t (w + o) 0 ≡ before s form first o q

module _ (s : List ℕ) (n w form first : ℕ) where
  pub numbering_start : (t : List ℕ) → length t ≡ w + 256 → ((i : ℕ) → i < length t → get_or t i 0 ≡ 0) → Numbering s n w form first first t
  numbering_start t e h =
      let z : first - first ≡ 0 = omega arith in
      record {
        size = e;
        begun = omega arith;
        until = omega arith;
        place = λ j o a b. absurd (omega arith);
        count = λ o a. rw z (h (w + o) (omega arith));
      }

  pub numbering_counts : (q : ℕ) (t : List ℕ) → Numbering s n w form first q t → n ≤ 1024 → (o : ℕ) → get_or t (w + o) 0 ≤ 1024
  numbering_counts q t h e o = by_place (dec_lt o 256)
    where
      by_place : Dec (o < 256) → get_or t (w + o) 0 ≤ 1024
      by_place (yes a) = omega (arith, h.count o a, length_keep_le (tested s (owned_as form o)) first q h.begun, h.until)
      by_place (no a) = omega (arith, get_or-eq_default t 0 {n = w + o} (omega (arith, h.size)))

  pub numbering_end : (q : ℕ) (t : List ℕ) → Numbering s n w form first q t → n ≤ q → IsNumbered s n w form first t
  numbering_end q t h e =
      let z : q - first ≡ n - first = omega (arith, h.until) in
      record {
        size = h.size;
        place = λ j o a b. h.place j o a (omega arith);
        count = λ o a. h.count o a ∙ rw z;
      }

  module _ (q : ℕ) (t : List ℕ) (h : Numbering s n w form first q t) (r : Record) (er : r ≡ record_at s q) where
    owned_at : (o : ℕ) (b : Bool) → owned_as form o r ≡ b → tested s (owned_as form o) q ≡ b
    owned_at o b e = ap (owned_as form o) (sym er) ∙ e

    step_place : (j o : ℕ) → first ≤ j → j < q + 1 → j < w → o < 256 → owned_as form o (record_at s j) ≡ true
        → get_or (numbered w form r q t) j 0 ≡ before s form first o j
    step_place j o a b l g e = by_place (dec_lt j q)
      where
        by_place : Dec (j < q) → get_or (numbered w form r q t) j 0 ≡ before s form first o j
        by_place (yes k) = numbered_else w form r q t j (λ z. omega arith) (λ c z. omega arith) ∙ h.place j o a k l g e
        by_place (no k) =
            let z : j ≡ q = omega arith in
            let y : owned_as form o r ≡ true = ap (owned_as form o) (er ∙ ap (record_at s) (sym z)) ∙ e in
            ap (λ (i : ℕ). get_or (numbered w form r q t) i 0) z ∙ place_owner w form r q t o g h.size y (omega arith)
            ∙ h.count o g ∙ ap (before s form first o) (sym z)

    step_count : (o : ℕ) → o < 256 → get_or (numbered w form r q t) (w + o) 0 ≡ before s form first o (q + 1)
    step_count o g = by_owner (owned_as form o r) refl
      where
        by_owner : (c : Bool) → owned_as form o r ≡ c → get_or (numbered w form r q t) (w + o) 0 ≡ before s form first o (q + 1)
        by_owner true e =
            let z : before s form first o (q + 1) ≡ before s form first o q + 1 =
            ap (λ (l : List ℕ). length l) (keep_snoc_here (tested s (owned_as form o)) first q h.begun (owned_at o true e))
            ∙ length-append (keep (tested s (owned_as form o)) (from first (q - first))) (q ∷ []) in
            omega (arith, count_owner w form r q t o g h.size e, h.count o g, z)
        by_owner false e =
            count_else w form r q t o g h.size e ∙ h.count o g
            ∙ ap (λ (l : List ℕ). length l) (sym (keep_snoc_next (tested s (owned_as form o)) first q h.begun (owned_at o false e)))

    pub numbering_step : (t' : List ℕ) → q < n → t' ≡ numbered w form r q t → Numbering s n w form first (q + 1) t'
    numbering_step t' l et =
        rw et (record {
          size = numbered_length w form r q t ∙ h.size;
          begun = omega (arith, h.begun);
          until = omega (arith, h.begun);
          place = step_place;
          count = step_count;
        })

-- A record that passes a test with k such before it is the kth.
keep_place : (f : ℕ → Bool) (a q n k d : ℕ) → a ≤ q → q < n → f q ≡ true → k ≡ length (keep f (from a (q - a)))
    → get_or (keep f (from a (n - a))) k d ≡ q
keep_place f a q n k d h l t e =
    let y : n - a ≡ (q + 1 - a) + (n - (q + 1)) = omega arith in
    let x : a + (q + 1 - a) ≡ q + 1 = omega arith in
    let rest = keep f (from (a + (q + 1 - a)) (n - (q + 1))) in
    ap (λ (m : ℕ). get_or (keep f (from a m)) k d) y
    ∙ ap (λ (l : List ℕ). get_or (keep f l) k d) (from_append a (q + 1 - a) (n - (q + 1)))
    ∙ ap (λ (l : List ℕ). get_or l k d) (keep_append f (from a (q + 1 - a)) (from (a + (q + 1 - a)) (n - (q + 1))))
    ∙ ap (λ (l : List ℕ). get_or (l ++ rest) k d) (keep_snoc_here f a q h t)
    ∙ ap (λ (m : ℕ). get_or ((keep f (from a (q - a)) ++ (q ∷ [])) ++ rest) m d) e
    ∙ seam (keep f (from a (q - a))) rest
  where
    seam : (xs ys : List ℕ) → get_or ((xs ++ (q ∷ [])) ++ ys) (length xs) d ≡ q
    seam [] ys = refl
    seam (x ∷ xs) ys = seam xs ys

pub nth_is : (s : List ℕ) (n form first o q k : ℕ) → first ≤ q → q < n → owned_as form o (record_at s q) ≡ true → k ≡ before s form first o q
    → q ≡ nth_owned s n form first o k
nth_is s n form first o q k h l e d = sym (keep_place (tested s (owned_as form o)) first q n k n h l e d)

-- The output maps are searched from the start of the file.
pub out_map-nth : (s : List ℕ) (n c i : ℕ) → nth_owned s n 4 0 c i ≡ out_map (record_at s) n c i
out_map-nth s n c i = rw (sub-zero n)

-- A record of an owner stands in the file.
owned_within : (s : List ℕ) (form o q : ℕ) → 1 ≤ form → owned_as form o (record_at s q) ≡ true → q < length s / 24
owned_within s form o q h e = by_place (dec_lt q (length s / 24))
  where
    by_place : Dec (q < length s / 24) → q < length s / 24
    by_place (yes l) = l
    by_place (no l) =
        let z : record_at s q ≡ no_record = rw (le-ltb q (length s / 24) (omega arith)) in
        let y = eqb-true (form_of (record_at s q)) form (and_left (eqb (form_of (record_at s q)) form) (eqb (owner_of (record_at s q)) o) e) in
        absurd (omega (arith, ap form_of z, y))

-- Past its owner's last child there is none.
pub child_none : (s t : List ℕ) → IsIndex s t → (o k : ℕ) → o < 256 → get_or t (256 + o) 0 ≤ k → length s / 24 ≡ child (record_at s) (length s / 24) o k
child_none s t ix o k h l =
    sym (get_or-eq_default (keep (tested s (owned_as 1 o)) (from 1 (length s / 24 - 1))) (length s / 24) (omega (arith, l, ix.kids o h)))

-- A guess that the record bears out: of a child; of an output map.
module _ (s t : List ℕ) (ix : IsIndex s t) (o q k : ℕ) (b : Bool) (g : o < 256) where
  pub child_is : (q ≡ 0 → ⊥) → q < 256 → b ≡ owned_as 1 o (record_at s q) → (b && eqb (get_or t q 0) k) ≡ true
      → q ≡ child (record_at s) (length s / 24) o k
  child_is z l e h =
      let owned = sym e ∙ and_left b (eqb (get_or t q 0) k) h in
      let here = owned_within s 1 o q (omega arith) owned in
      nth_is s (length s / 24) 1 1 o q k (omega arith) here owned
      (sym (eqb-true (get_or t q 0) k (and_right b (eqb (get_or t q 0) k) h)) ∙ ix.children q o (omega arith) here l g owned)

  pub out_map_is : b ≡ owned_as 4 o (record_at s q) → (b && eqb (get_or t (512 + q) 0) k) ≡ true
      → q ≡ out_map (record_at s) (length s / 24) o k
  out_map_is e h =
      let owned = sym e ∙ and_left b (eqb (get_or t (512 + q) 0) k) h in
      let here = owned_within s 4 o q (omega arith) owned in
      nth_is s (length s / 24) 4 0 o q k (omega arith) here owned
      (sym (eqb-true (get_or t (512 + q) 0) k (and_right b (eqb (get_or t (512 + q) 0) k) h)) ∙ ix.outs q o here g owned)
      ∙ out_map-nth s (length s / 24) o k
