-- Laws of text in a buffer: a byte past its end is left out, and one piece after the other writes them all.
-- Assumes nothing.
use mathlib.Core.Path.{◌≡◌, refl, sym, ap, subst, ◌∙◌}
use mathlib.Core.List.{List, [], ◌∷◌, ◌++◌}
use Prim.Native.Nat.{ℕ, suc, ◌+◌, ◌≤◌, ◌<◌, min}
use native.Mathlib.Decide.{dec_lt}
use native.Mathlib.Omega.{arith}
use lib.ListN.{length, get_or, set, take, drop, length-append}
use lib.Seq.{length-sets, set_out, drop-cons, drop-length, take-suc}
use Rattle.std.proofs.lemmas.List.{append-nil, append_assoc}
use Rattle.text.specs.Text.{written, place_after, numeral, spaced, Converted, Puts}

-- A place at or past the end: the next place is the end, and a byte there is left out.
pub min_past : (a k : ℕ) → k ≤ a → k ≡ min (a + 1) k
min_past a k h = omega arith

pub set_past : (t : List ℕ) (a b : ℕ) → length t ≤ a → t ≡ set t a b
set_past t a b h = sym (set_out t a b h)

-- Bytes past the end are left out.
written_past : (bs t : List ℕ) (a : ℕ) → length t ≤ a → written t a bs ≡ t
written_past [] t a h = refl
written_past (b ∷ bs) t a h =
    ap (λ (l : List ℕ). written l (suc a) bs) (set_out t a b h) ∙ written_past bs t (suc a) (omega arith)

-- A place past the end is as good as the end.
written_min : (t bs : List ℕ) (a : ℕ) → written t (min a (length t)) bs ≡ written t a bs
written_min t bs a = by_place (dec_lt a (length t))
  where
    by_place : Dec (a < length t) → written t (min a (length t)) bs ≡ written t a bs
    by_place (yes h) = let e : min a (length t) ≡ a = omega arith in ap (λ (k : ℕ). written t k bs) e
    by_place (no h) = written_past bs t (min a (length t)) (omega arith) ∙ sym (written_past bs t a (omega arith))

-- Two pieces, one after the other.
written_append : (xs t ys : List ℕ) (at : ℕ) → written (written t at xs) (at + length xs) ys ≡ written t at (xs ++ ys)
written_append [] t ys at = let e : at + 0 ≡ at = omega arith in ap (λ (k : ℕ). written t k ys) e
written_append (x ∷ xs) t ys at =
    let e : at + suc (length xs) ≡ suc at + length xs = omega arith in
    ap (λ (k : ℕ). written (written (set t at x) (suc at) xs) k ys) e ∙ written_append xs (set t at x) ys (suc at)

-- What two calls leave, the second at the place that the first answers.
pub put_both : (t mid new xs ys : List ℕ) (at between after : ℕ)
    → between ≡ place_after t at (length xs) → mid ≡ written t at xs
    → after ≡ place_after mid between (length ys) → new ≡ written mid between ys
    → (after ≡ place_after t at (length (xs ++ ys))) × (new ≡ written t at (xs ++ ys))
put_both t mid new xs ys at between after place buffer place' buffer' =
    let kept : length mid ≡ length t = ap length buffer ∙ length-sets t at xs in
    let joined : length (xs ++ ys) ≡ length xs + length ys = length-append xs ys in (
      omega arith,
      buffer' ∙ ap (λ (k : ℕ). written mid k ys) (place ∙ ap (min (at + length xs)) (sym kept))
          ∙ written_min mid ys (at + length xs) ∙ ap (λ (l : List ℕ). written l (at + length xs) ys) buffer
          ∙ written_append xs t ys at,
    )

-- Where a loop stands that puts bs into the buffer t at a place: the rest, put into what it has now, ends as all of bs.
pub record ToCome (t : List ℕ) (at : ℕ) (bs out : List ℕ) (next : ℕ) (rest : List ℕ) : Type 0 where
  pub same_length : length out ≡ length t
  pub inside : next ≤ length t
  pub place : place_after t next (length rest) ≡ place_after t at (length bs)
  pub buffer : written out next rest ≡ written t at bs

pub begun : (t bs : List ℕ) (at next : ℕ) → next ≡ min at (length t) → ToCome t at bs t next bs
begun t bs at next e =
    record {
      same_length = refl;
      inside = omega arith;
      place = omega arith;
      buffer = ap (λ (k : ℕ). written t k bs) e ∙ written_min t bs at;
    }

-- A piece is put, and the rest is what was to come after it.
pub put_piece : (t bs out new piece rest : List ℕ) (at next after : ℕ) → ToCome t at bs out next (piece ++ rest)
    → after ≡ place_after out next (length piece) → new ≡ written out next piece → ToCome t at bs new after rest
put_piece t bs out new piece rest at next after h place buffer =
    let kept : length new ≡ length out = ap length buffer ∙ length-sets out next piece in
    let joined : length (piece ++ rest) ≡ length piece + length rest = length-append piece rest in
    let end = place_after new after (length rest) in
    let both = put_both out new (written new after rest) piece rest next after end place buffer refl refl in
    record {
      same_length = kept ∙ h.same_length;
      inside = omega arith;
      place = omega arith;
      buffer = both.1 ∙ h.buffer;
    }

-- Nothing is left to come.
pub ended : (t bs out rest : List ℕ) (at next : ℕ) → ToCome t at bs out next rest → rest ≡ []
    → (next ≡ place_after t at (length bs)) × (out ≡ written t at bs)
ended t bs out rest at next h e =
    let none : length rest ≡ 0 = ap length e in
    (omega (arith, h.place), ap (written out next) (sym e) ∙ h.buffer)

-- The bytes, and the numbers, from an index on.
pub byte_first : (bs : List ℕ) (i : ℕ) → i < length bs → drop i bs ≡ (get_or bs i 0 ∷ []) ++ drop (i + 1) bs
byte_first bs i h =
    let e : i + 1 ≡ suc i = omega arith in
    drop-cons bs i 0 h ∙ ap (λ (k : ℕ). get_or bs i 0 ∷ drop k bs) (sym e)

pub none_left : (bs : List ℕ) (i : ℕ) → i ≤ length bs → length bs ≤ i → drop i bs ≡ []
none_left bs i a b = let e : i ≡ length bs = omega arith in ap (λ (k : ℕ). drop k bs) e ∙ drop-length bs

-- The loop over values that go into numbers: one number more is put, and it is the next value's.
spaced_more : (ns : List ℕ) (n : ℕ) → spaced (ns ++ (n ∷ [])) ≡ spaced ns ++ (32 ∷ numeral n)
spaced_more [] n = ap (λ (bs : List ℕ). 32 ∷ bs) (append-nil (numeral n))
spaced_more (m ∷ ns) n =
    ap (λ (bs : List ℕ). 32 ∷ (numeral m ++ bs)) (spaced_more ns n)
    ∙ ap (λ (bs : List ℕ). 32 ∷ bs) (sym (append_assoc (numeral m) (spaced ns) (32 ∷ numeral n)))

module _ {T : Type 0} (gives : T → ℕ → Type 0) where
  converted_more : (xs : List T) (ns : List ℕ) (x : T) (n : ℕ) → Converted gives xs ns → gives x n
      → Converted gives (xs ++ (x ∷ [])) (ns ++ (n ∷ []))
  converted_more [] [] x n h e = (e, tt)
  converted_more (y ∷ xs) (m ∷ ns) x n h e = (h.0, converted_more xs ns x n h.1 e)
  converted_more [] (m ∷ ns) x n h e = absurd h
  converted_more (y ∷ xs) [] x n h e = absurd h

  pub put_one_more : (t out new : List ℕ) (xs : List T) (at i : ℕ) (x : T) (n next after : ℕ) → i < length xs → x ≡ get_or xs i x → gives x n
      → ((ns : List ℕ) × Converted gives (take i xs) ns × Puts t at (spaced ns) out next)
      → after ≡ place_after out next (length (32 ∷ numeral n)) → new ≡ written out next (32 ∷ numeral n)
      → (ns : List ℕ) × Converted gives (take (i + 1) xs) ns × Puts t at (spaced ns) new after
  put_one_more t out new xs at i x n next after h e turns so_far place buffer =
      let ns = so_far.0 in
      let turn : suc i ≡ i + 1 = omega arith in
      let more : take i xs ++ (x ∷ []) ≡ take (i + 1) xs =
      ap (λ (y : T). take i xs ++ (y ∷ [])) e ∙ sym (take-suc xs i x h) ∙ ap (λ (k : ℕ). take k xs) turn in
      let both = put_both t out new (spaced ns) (32 ∷ numeral n) at next after so_far.2.place so_far.2.buffer place buffer in (
        ns ++ (n ∷ []),
        subst (λ (ys : List T). Converted gives ys (ns ++ (n ∷ []))) more (converted_more (take i xs) ns x n so_far.1 turns),
        subst (λ (bs : List ℕ). Puts t at bs new after) (sym (spaced_more ns n)) (record { place = both.0; buffer = both.1 }),
      )

-- Where each value gives itself, as numbers of 64 and of 16 bits do, what is put is the numbers themselves.
pub put_themselves : {t u : List ℕ} {at m : ℕ} (xs : List ℕ)
    → ((ns : List ℕ) × Converted (λ (x n : ℕ). n ≡ x) xs ns × Puts t at (spaced ns) u m) → Puts t at (spaced xs) u m
put_themselves {t} {u} {at} {m} xs h = subst (λ (ns : List ℕ). Puts t at (spaced ns) u m) (themselves xs h.0 h.1) h.2
  where
    themselves : (xs ns : List ℕ) → Converted (λ (x n : ℕ). n ≡ x) xs ns → ns ≡ xs
    themselves [] [] h = refl
    themselves (x ∷ xs) (n ∷ ns) h = ap (λ (k : ℕ). k ∷ ns) h.0 ∙ ap (λ (ks : List ℕ). x ∷ ks) (themselves xs ns h.1)
    themselves [] (n ∷ ns) h = absurd h
    themselves (x ∷ xs) [] h = absurd h

-- What a function of this crate leaves, as the promise of a part.
pub put : (bs : List ℕ) {t u : List ℕ} {at m : ℕ} → (m ≡ place_after t at (length bs)) × (u ≡ written t at bs) → Puts t at bs u m
put bs e = record { place = e.0; buffer = e.1 }
