-- Laws of tables that are written from the front and read by entries.
--   sets: words written behind words, and from the front of a table
--   overlay: what stands at the front, what is taken from it, and its length
--   joined: entries of one width w, entry i at w * i; and entries of any width, each behind those before it
--   slice: a part of a list by places
--   map and total over the indexes of a list; total by members
-- Not here: laws of length, get_or, take and drop alone (lib.ListN, lib.Seq).
-- Assumes nothing.
use mathlib.Core.Path.{◌≡◌, refl, sym, ap, ◌∙◌}
use mathlib.Core.Logic.{inl, inr}
use mathlib.Core.List.{List, [], ◌∷◌, ◌++◌, map, append_assoc}
use Prim.Native.Nat.{ℕ, zero, suc, ◌+◌, ◌*◌, ◌≤◌, ◌<◌}
use native.Mathlib.Nat.{zero-add, mul-zero, mul-suc}
use native.Mathlib.Omega.{arith}
use lib.ListN.{length, get_or, set, take, drop, replicate, length-append, length-drop, length-replicate, get_or-replicate, get_or-append}
use lib.Seq.{sets, sets-eq, slice, take-append_seam, get_or-append-add, get_or-take, get_or-drop, drop-append_seam, take-append-add, length-slice, ext_get_or}
use Rattle.lists.specs.Lists.{from, total, joined, overlay}
use Rattle.lists.proofs.MembersLaws.{In}

-- Words written behind words.
pub sets_append : (t : List ℕ) (k : ℕ) (xs ys : List ℕ) → sets t k (xs ++ ys) ≡ sets (sets t k xs) (k + length xs) ys
sets_append t k [] ys = let e : k ≡ k + 0 = omega arith in ap (λ (j : ℕ). sets t j ys) e
sets_append t k (x ∷ xs) ys =
    let e : suc k + length xs ≡ k + suc (length xs) = omega arith in
    sets_append (set t k x) (suc k) xs ys ∙ ap (λ (j : ℕ). sets (sets (set t k x) (suc k) xs) j ys) e

-- Words written from the front are laid over the table, if it is no shorter.
pub sets_overlay : (xs t : List ℕ) → length xs ≤ length t → sets t 0 xs ≡ overlay xs t
unfolding overlay
sets_overlay xs t h =
    let room : 0 + length xs ≤ length t = omega arith in
    sets-eq xs t 0 room ∙ ap (λ (k : ℕ). xs ++ drop k t) (zero-add (length xs))

-- A table with a list at its front.
module _ (xs t : List ℕ) where
  -- It is as long as it was, if the list is no longer.
  pub overlay_length : length xs ≤ length t → length (overlay xs t) ≡ length t
  unfolding overlay
  overlay_length h = omega (arith, length-append xs (drop (length xs) t), length-drop (length xs) t)

  -- Its first entries are those of the list,
  pub overlay_at : (i d : ℕ) → i < length xs → get_or (overlay xs t) i d ≡ get_or xs i d
  unfolding overlay
  overlay_at i d h = get_or-append xs (drop (length xs) t) d i h

  -- and as many as the list has are the list.
  pub overlay_front : take (length xs) (overlay xs t) ≡ xs
  unfolding overlay
  overlay_front = take-append_seam xs (drop (length xs) t)

module _ {A : Type 0} where
  -- Entry j of a part of a list.
  pub slice_at : (q k j : ℕ) (l : List A) (d : A) → j < k → get_or (slice q (q + k) l) j d ≡ get_or l (q + j) d
  slice_at q k j l d h =
      get_or-drop q (take (q + k) l) j d ∙ get_or-take (q + k) l (q + j) d (omega arith)

  -- The part of a list that stands behind xs.
  pub slice_behind : (xs ys zs : List A) → slice (length xs) (length xs + length ys) (xs ++ (ys ++ zs)) ≡ ys
  slice_behind xs ys zs =
      ap (drop (length xs))
      (take-append-add xs (ys ++ zs) (length ys) ∙ ap (λ (l : List A). xs ++ l) (take-append_seam ys zs))
      ∙ drop-append_seam xs ys

  -- A part all of whose entries are a.
  pub slice_replicate : (a : A) (q k : ℕ) (l : List A) → q + k ≤ length l
      → ((i : ℕ) → q ≤ i → i < q + k → get_or l i a ≡ a) → slice q (q + k) l ≡ replicate k a
  slice_replicate a q k l h all =
      ext_get_or a (slice q (q + k) l) (replicate k a) (omega (arith, length-slice q (q + k) l h, length-replicate k a))
      (λ i u. slice_at q k i l a (omega (arith, length-slice q (q + k) l h))
      ∙ all (q + i) (omega arith) (omega (arith, length-slice q (q + k) l h))
      ∙ sym (get_or-replicate k i a a (omega (arith, length-slice q (q + k) l h))))

-- Lists one after the other.
module _ {A B : Type 0} (f : A → List B) where
  pub joined_append : (xs ys : List A) → joined f (xs ++ ys) ≡ joined f xs ++ joined f ys
  joined_append [] ys = refl
  joined_append (x ∷ xs) ys =
      ap (λ (l : List B). f x ++ l) (joined_append xs ys) ∙ sym (append_assoc (f x) (joined f xs) (joined f ys))

  -- The list of x stands behind those before it.
  pub joined_part : (xs ys : List A) (x : A) (zs : List B)
      → slice (length (joined f xs)) (length (joined f xs) + length (f x)) (joined f (xs ++ (x ∷ ys)) ++ zs) ≡ f x
  joined_part xs ys x zs =
      ap (slice (length (joined f xs)) (length (joined f xs) + length (f x)))
      (ap (λ (l : List B). l ++ zs) (joined_append xs (x ∷ ys)) ∙ simp append_assoc)
      ∙ slice_behind (joined f xs) (f x) (joined f ys ++ zs)

  -- Lists of one length w: there are w times as many entries,
  module _ (w : ℕ) (width : (a : A) → length (f a) ≡ w) where
    pub joined_width : (xs : List A) → length (joined f xs) ≡ w * length xs
    joined_width [] = sym (mul-zero w)
    joined_width (x ∷ xs) =
        omega (arith, length-append (f x) (joined f xs), width x, joined_width xs, mul-suc w (length xs))

    -- and entry k of list i stands at w * i + k, whatever comes behind.
    pub joined_at : (xs : List A) (zs : List B) (i k : ℕ) (a : A) (d : B) → i < length xs → k < w
        → get_or (joined f xs ++ zs) (w * i + k) d ≡ get_or (f (get_or xs i a)) k d
    joined_at [] zs i k a d h l = absurd (omega arith)
    joined_at (x ∷ xs) zs zero k a d h l =
        let e : w * 0 + k ≡ k = omega (arith, mul-zero w) in
        rw (append_assoc, e) (get_or-append (f x) (joined f xs ++ zs) d k (omega (arith, width x)))
    joined_at (x ∷ xs) zs (suc i) k a d h l =
        let e : w * suc i + k ≡ length (f x) + (w * i + k) = omega (arith, mul-suc w i, width x) in
        rw (append_assoc, e)
        (get_or-append-add (f x) (joined f xs ++ zs) (w * i + k) d ∙ joined_at xs zs i k a d (omega arith) l)

-- A table of entries of w words, written from the front: word k of entry i.
pub overlay_entry : {A : Type 0} (f : A → List ℕ) (w : ℕ) → ((a : A) → length (f a) ≡ w) → (xs : List A) (t : List ℕ)
    (i k : ℕ) (a : A) → i < length xs → k < w
    → get_or (overlay (joined f xs) t) (w * i + k) 0 ≡ get_or (f (get_or xs i a)) k 0
unfolding overlay
overlay_entry f w width xs t i k a h l = joined_at f w width xs (drop (length (joined f xs)) t) i k a 0 h l

-- Index i from suc q on is index suc i from q on.
index_next : (q i : ℕ) → suc q + i ≡ q + suc i
index_next q i = omega arith

-- Over the indexes of a list: what gives entry i at index i gives the list,
module _ {A : Type 0} (f : ℕ → A) (d : A) where
  map_indexes_on : (q : ℕ) (xs : List A) → ((i : ℕ) → i < length xs → f (q + i) ≡ get_or xs i d)
      → map f (from q (length xs)) ≡ xs
  map_indexes_on q [] h = refl
  map_indexes_on q (x ∷ xs) h =
      let here : f q ≡ x = (let z : q ≡ q + 0 = omega arith in ap f z ∙ h 0 (omega arith)) in
      let later : map f (from (suc q) (length xs)) ≡ xs =
      map_indexes_on (suc q) xs (λ i u. ap f (index_next q i) ∙ h (suc i) (omega arith)) in
      λ j. here j ∷ later j

  pub map_indexes : (xs : List A) → ((i : ℕ) → i < length xs → f i ≡ get_or xs i d) → map f (from 0 (length xs)) ≡ xs
  map_indexes xs h = map_indexes_on 0 xs (λ i u. let z : 0 + i ≡ i = omega arith in ap f z ∙ h i u)

-- and entry i of what is given at each index is what is given at i;
map_at_on : {A : Type 0} (f : ℕ → A) (q n i : ℕ) (d : A) → i < n → get_or (map f (from q n)) i d ≡ f (q + i)
map_at_on f q zero i d h = absurd (omega arith)
map_at_on f q (suc n) zero d h = let z : q ≡ q + 0 = omega arith in ap f z
map_at_on f q (suc n) (suc i) d h = map_at_on f (suc q) n i d (omega arith) ∙ ap f (index_next q i)

pub map_at : {A : Type 0} (f : ℕ → A) (n i : ℕ) (d : A) → i < n → get_or (map f (from 0 n)) i d ≡ f i
map_at f n i d h = let z : 0 + i ≡ i = omega arith in map_at_on f 0 n i d h ∙ ap f z

-- and sums are those of the list.
module _ {A : Type 0} (f : ℕ → ℕ) (g : A → ℕ) (d : A) where
  total_indexes_on : (q : ℕ) (xs : List A) → ((i : ℕ) → i < length xs → f (q + i) ≡ g (get_or xs i d))
      → total f (from q (length xs)) ≡ total g xs
  total_indexes_on q [] h = refl
  total_indexes_on q (x ∷ xs) h =
      let here : f q ≡ g x = (let z : q ≡ q + 0 = omega arith in ap f z ∙ h 0 (omega arith)) in
      let later : total f (from (suc q) (length xs)) ≡ total g xs =
      total_indexes_on (suc q) xs (λ i u. ap f (index_next q i) ∙ h (suc i) (omega arith)) in
      omega arith

  pub total_indexes : (xs : List A) → ((i : ℕ) → i < length xs → f i ≡ g (get_or xs i d))
      → total f (from 0 (length xs)) ≡ total g xs
  total_indexes xs h = total_indexes_on 0 xs (λ i u. let z : 0 + i ≡ i = omega arith in ap f z ∙ h i u)

-- Two sums are equal where each member gives the same to both.
pub total_members : {A : Type 0} (f g : A → ℕ) (xs : List A) → ((a : A) → In a xs → f a ≡ g a) → total f xs ≡ total g xs
total_members f g [] h = refl
total_members f g (x ∷ xs) h = omega (arith, h x (inl refl), total_members f g xs (λ a u. h a (inr u)))
