-- Laws of `output_below` and `inputs_below` of specs/Descent.antt, one for each way out of a function of src/descent.rt.
--   given at n d c i q    what the record at q gives to the targets of input i of composite c, with depth d left below it
-- First lists one after the other; then the source; then the targets as lists; then the same in the form in which the functions have
-- their facts.
-- Assumes nothing.
use mathlib.Core.Path.{◌≡◌, refl, sym, ap, ◌∙◌}
use mathlib.Core.Bool.{Bool, true, false, cond, ◌&&◌}
use mathlib.Core.List.{List, [], ◌∷◌, ◌++◌, append-nil}
use Prim.Native.Nat.{ℕ, zero, suc, ◌+◌, ◌-◌, ◌/◌, ◌≤◌, ◌<◌}
use native.Mathlib.Decide.{dec_lt}
use native.Mathlib.Omega.{arith}
use borrow.Author.Tests.{eq-eqb, ne_eqb}
use lib.Dec.{eqb}
use lib.ListN.{length}
use types.Run.{OneOf}
use denote.Enum.Declared.{tag_of}
use Rattle.lists.specs.Lists.{from, joined}
use Rattle.lists.proofs.ListsLaws.{from_step, from_end}
use Rattle.lists.proofs.OverlayLaws.{joined_append}
use Rattle.lists.proofs.MembersLaws.{from_append}
use Rattle.component.specs.declared.ChildNo.{ChildNo}
use Rattle.component.specs.declared.Record.{Record}
use Rattle.component.specs.declared.Says.{Says}
use Rattle.component.specs.declared.Says.TheVariants.{Connection, InputMap, OutputMap}
use Rattle.component.specs.declared.Reading.{Reading}
use Rattle.component.specs.declared.Reading.TheVariants.{Taken, Refused}
use Rattle.component.specs.Record.{record_at, port_of, from_of, output_of, to_of, input_of, is_primitive}
use Rattle.component.specs.Reading.{owner_of, form_of, apart, said, form_by}
use Rattle.component.specs.Drawing.{deepest, child, maps_in, out_map}
use Rattle.index.specs.Index.{IsIndex, stretch_first, stretch_end}
use Rattle.component.specs.Record.{owned_as}
use Rattle.component.specs.contracts.Says.{the_type}
use Rattle.component.proofs.RecordLaws.{no_input_map, no_output_map, refused_is, taken_is, taken_form}
use Rattle.flatten.specs.declared.Pin.{Pin}
use Rattle.std.specs.Prelude.{Option, Some, None}
use Rattle.flatten.specs.Descent.{pin, output_below, inputs_below, comes_from, goes_to}
use Rattle.flatten.specs.Searches.{entered, IsStretch}

-- Lists one after the other.

module _ {B : Type 0} (g : ℕ → List B) where
  -- Positions that give nothing.
  pub joined_none : (a k : ℕ) → ((q : ℕ) → a ≤ q → q < a + k → g q ≡ []) → joined g (from a k) ≡ []
  joined_none a zero h = refl
  joined_none a (suc k) h =
      ap (λ (l : List B). l ++ joined g (from (suc a) k)) (h a (omega arith) (omega arith))
      ∙ joined_none (suc a) k (λ q l u. h q (omega arith) (omega arith))

  -- A loop `while q < e`: one turn, and its end.
  pub joined_step : (q e : ℕ) → q < e → joined g (from q (e - q)) ≡ g q ++ joined g (from (q + 1) (e - (q + 1)))
  joined_step q e h = ap (joined g) (from_step q e h)

  pub joined_end : (q e : ℕ) → e ≤ q → joined g (from q (e - q)) ≡ []
  joined_end q e h = ap (joined g) (from_end q e h)

  -- Where only the positions from a to before e give something, the others need not be looked at.
  pub joined_stretch : (n a e : ℕ) → e ≤ n → ((q : ℕ) → q < n → q < a → g q ≡ []) → ((q : ℕ) → q < n → e ≤ q → g q ≡ [])
      → joined g (from a (e - a)) ≡ joined g (from 0 n)
  joined_stretch n a e h below above = by_order (dec_lt a e)
    where
      by_order : Dec (a < e) → joined g (from a (e - a)) ≡ joined g (from 0 n)
      by_order (yes l) =
          let m = e - a in
          let k = n - e in
          let z : n ≡ a + (m + k) = omega arith in
          let y : 0 + a ≡ a = omega arith in
          let x : a + m ≡ e = omega arith in
          let before : joined g (from 0 a) ≡ [] = joined_none 0 a (λ q u v. below q (omega arith) (omega arith)) in
          let after : joined g (from (a + m) k) ≡ [] = joined_none (a + m) k (λ q u v. above q (omega arith) (omega arith)) in
          sym (
          ap (λ (j : ℕ). joined g (from 0 j)) z
          ∙ ap (joined g) (from_append 0 a (m + k))
          ∙ joined_append g (from 0 a) (from (0 + a) (m + k))
          ∙ ap (λ (l : List B). l ++ joined g (from (0 + a) (m + k))) before
          ∙ ap (λ (j : ℕ). joined g (from j (m + k))) y
          ∙ ap (joined g) (from_append a m k)
          ∙ joined_append g (from a m) (from (a + m) k)
          ∙ ap (λ (l : List B). joined g (from a m) ++ l) after
          ∙ append-nil (joined g (from a m))
          )
      by_order (no l) =
          joined_end a e (omega arith)
          ∙ sym (joined_none 0 n (λ q u v. by_place q (dec_lt q a) (omega arith)))
        where
          by_place : (q : ℕ) → Dec (q < a) → q < n → g q ≡ []
          by_place q (yes k) u = below q u k
          by_place q (no k) u = above q u (omega arith)

module _ (at : ℕ → Record) (n : ℕ) where
  -- The source: no depth left; a primitive; a composite.

  pub source_bottom : (d c i : ℕ) → d ≡ 0 → pin n 0 ≡ output_below at n d c i
  unfolding output_below
  source_bottom d c i h = rw h

  pub source_ends : (d c i : ℕ) → (d ≡ 0 → ⊥) → is_primitive (at c) ≡ true → pin c i ≡ output_below at n d c i
  unfolding output_below
  source_ends zero c i h e = absurd (h refl)
  source_ends (suc d) c i h e = rw e

  pub source_none : (d c i : ℕ) → (d ≡ 0 → ⊥) → is_primitive (at c) ≡ false → (form_of (at (out_map at n c i)) ≡ 4 → ⊥)
      → pin n 0 ≡ output_below at n d c i
  unfolding output_below
  source_none zero c i h e k = absurd (h refl)
  source_none (suc d) c i h e k = rw (e, ne_eqb (form_of (at (out_map at n c i))) 4 k)

  pub source_through : (d c i : ℕ) → (d ≡ 0 → ⊥) → is_primitive (at c) ≡ false → form_of (at (out_map at n c i)) ≡ 4
      → output_below at n (d - 1) (child at n c (from_of (at (out_map at n c i)))) (output_of (at (out_map at n c i))) ≡ output_below at n d c i
  unfolding output_below
  source_through zero c i h e k = absurd (h refl)
  source_through (suc d) c i h e k =
      let z : suc d - 1 ≡ d = omega arith in rw (e, eq-eqb (form_of (at (out_map at n c i))) 4 k, z)

  -- The targets: no depth left; a primitive; a composite.

  abbrev pub given : ℕ → ℕ → ℕ → ℕ → List Pin
  given d c i q = cond (maps_in at c i q) (inputs_below at n d (child at n c (to_of (at q))) (input_of (at q))) []

  pub targets_bottom : (d c i : ℕ) → d ≡ 0 → inputs_below at n d c i ≡ []
  unfolding inputs_below
  targets_bottom d c i h = rw h

  pub targets_ends : (d c i : ℕ) → (d ≡ 0 → ⊥) → is_primitive (at c) ≡ true → inputs_below at n d c i ≡ pin c i ∷ []
  unfolding inputs_below
  targets_ends zero c i h e = absurd (h refl)
  targets_ends (suc d) c i h e = rw e

  pub targets_maps : (d c i : ℕ) → (d ≡ 0 → ⊥) → is_primitive (at c) ≡ false
      → inputs_below at n d c i ≡ joined (given (d - 1) c i) (from 0 n)
  unfolding inputs_below
  targets_maps zero c i h e = absurd (h refl)
  targets_maps (suc d) c i h e = let z : suc d - 1 ≡ d = omega arith in rw (e, z)

  -- Only the stretch at which the input maps of c stand has to be looked at.
  given_none : (d c i q : ℕ) → (owned_as 3 c (at q) ≡ true → ⊥) → given d c i q ≡ []
  given_none d c i q h = by_test (maps_in at c i q) refl
    where
      owned : (a b p : Bool) → (a && b && p) ≡ true → (a && b) ≡ true
      owned true true p e = refl
      owned true false p e = e
      owned false b p e = e

      by_test : (b : Bool) → maps_in at c i q ≡ b → cond b (inputs_below at n d (child at n c (to_of (at q))) (input_of (at q))) [] ≡ []
      by_test true e = absurd (h (owned (eqb (form_of (at q)) 3) (eqb (owner_of (at q)) c) (eqb (port_of (at q)) i) e))
      by_test false e = refl

  pub targets_stretch : (d c i a e : ℕ) → (d ≡ 0 → ⊥) → is_primitive (at c) ≡ false → IsStretch at n c a e
      → inputs_below at n d c i ≡ joined (given (d - 1) c i) (from a (e - a))
  targets_stretch d c i a e h p s =
      targets_maps d c i h p
      ∙ sym (joined_stretch (given (d - 1) c i) n a e s.within
      (λ q l u. given_none (d - 1) c i q (λ o. omega (arith, s.starts q l o)))
      (λ q l u. given_none (d - 1) c i q (λ o. omega (arith, s.ends q l o))))

  -- One turn of a loop over it: the record at q leads on, or nowhere.
  abbrev follow : ℕ → Option Pin → List Pin
  follow d (Some t) = inputs_below at n d t.comp t.port
  follow d None = []

  given_is : (d c i q : ℕ) (g : Option Pin) → g ≡ entered at n c i q → given d c i q ≡ follow d g
  given_is d c i q g h = sym (by_test (maps_in at c i q)) ∙ ap (follow d) (sym h)
    where
      by_test : (b : Bool) → follow d (cond b (Some (pin (child at n c (to_of (at q))) (input_of (at q)))) None)
          ≡ cond b (inputs_below at n d (child at n c (to_of (at q))) (input_of (at q))) []
      by_test true = refl
      by_test false = refl

  pub given_to : (d c i q e : ℕ) (t : Pin) → q < e → Some t ≡ entered at n c i q
      → joined (given d c i) (from q (e - q)) ≡ inputs_below at n d t.comp t.port ++ joined (given d c i) (from (q + 1) (e - (q + 1)))
  given_to d c i q e t h k =
      joined_step (given d c i) q e h
      ∙ ap (λ (l : List Pin). l ++ joined (given d c i) (from (q + 1) (e - (q + 1)))) (given_is d c i q (Some t) k)

  pub given_nothing : (d c i q e : ℕ) → q < e → None ≡ entered at n c i q
      → joined (given d c i) (from q (e - q)) ≡ joined (given d c i) (from (q + 1) (e - (q + 1)))
  given_nothing d c i q e h k =
      joined_step (given d c i) q e h
      ∙ ap (λ (l : List Pin). l ++ joined (given d c i) (from (q + 1) (e - (q + 1)))) (given_is d c i q None k)

-- The stretch of an index.
pub stretch_is : (s t : List ℕ) (c a e : ℕ) → IsIndex s t → a ≡ stretch_first t c → e ≡ stretch_end t (length s / 24) c
    → IsStretch (record_at s) (length s / 24) c a e
stretch_is s t c a e h ea ee =
    rw (ea, ee) (record { within = h.within c; starts = λ q u o. h.starts q c u o; ends = λ q u o. h.ends q c u o })

-- There is some depth to start from.
pub deepest_some : deepest ≡ 0 → ⊥
unfolding deepest
deepest_some e = omega arith

-- In a file: record q is r, and b says whether a test holds of it.
module _ (s : List ℕ) (n : ℕ) where
  -- the source: a primitive; a composite whose map is refused, is no output map, is one
  module _ (d c i : ℕ) (b : Bool) (h : d ≡ 0 → ⊥) (p : b ≡ is_primitive (record_at s c)) where
    pub source_here : b ≡ true → pin c i ≡ output_below (record_at s) n d c i
    source_here t = source_ends (record_at s) n d c i h (sym p ∙ t)

    module _ (k : b ≡ false) (m : ℕ) (r : Reading) (em : m ≡ out_map (record_at s) n c i) (er : said r ≡ record_at s m) where
      map_is : said r ≡ record_at s (out_map (record_at s) n c i)
      map_is = er ∙ ap (record_at s) em

      pub source_refused : {z : ℕ} → r ≡ Refused z → pin n 0 ≡ output_below (record_at s) n d c i
      source_refused q =
          source_none (record_at s) n d c i h (sym p ∙ k)
          (λ z. omega (arith, z, ap form_of (refused_is (record_at s (out_map (record_at s) n c i)) r map_is q)))

      module _ (o : ℕ) (x : Says) (q : r ≡ Taken o x) where
        map_form : form_of (record_at s (out_map (record_at s) n c i)) ≡ form_by x
        map_form = taken_form (record_at s (out_map (record_at s) n c i)) r map_is o x q

        pub source_unmapped : OneOf (0 ∷ 1 ∷ 2 ∷ []) (tag_of the_type x) → pin n 0 ≡ output_below (record_at s) n d c i
        source_unmapped y = source_none (record_at s) n d c i h (sym p ∙ k) (λ z. no_output_map x y (sym map_form ∙ z))

        pub source_below : (f : ChildNo) (u t : ℕ) (v : Pin) → x ≡ OutputMap f u → t ≡ child (record_at s) n c f.0
            → v ≡ output_below (record_at s) n (d - 1) t u → v ≡ output_below (record_at s) n d c i
        source_below f u t v y et ev =
            let z : record_at s (out_map (record_at s) n c i) ≡ apart o (OutputMap f u) =
            taken_is (record_at s (out_map (record_at s) n c i)) r map_is o x q ∙ ap (apart o) y in
            ev ∙ ap (λ (j : ℕ). output_below (record_at s) n (d - 1) j u) et
            ∙ ap (λ (w : Record). output_below (record_at s) n (d - 1) (child (record_at s) n c (from_of w)) (output_of w)) (sym z)
            ∙ source_through (record_at s) n d c i h (sym p ∙ k) (ap form_of z)

  -- where the record at q leads: it is refused; no input map; one of another owner; of another input; of this one
  module _ (c i q : ℕ) (r : Reading) (e : said r ≡ record_at s q) where
    pub entered_refused : {z : ℕ} → r ≡ Refused z → None ≡ entered (record_at s) n c i q
    entered_refused k = rw (refused_is (record_at s q) r e k)

    module _ (o : ℕ) (x : Says) (h : r ≡ Taken o x) where
      pub entered_other : OneOf (0 ∷ 1 ∷ 3 ∷ []) (tag_of the_type x) → None ≡ entered (record_at s) n c i q
      entered_other k =
          rw (ne_eqb (form_of (record_at s q)) 3 (λ z. no_input_map x k (sym (taken_form (record_at s q) r e o x h) ∙ z)))

      module _ (a d : ℕ) (t : ChildNo) (k : x ≡ InputMap a t d) where
        at_map : record_at s q ≡ apart o (InputMap a t d)
        at_map = taken_is (record_at s q) r e o x h ∙ ap (apart o) k

        pub entered_owner : (o ≡ c → ⊥) → None ≡ entered (record_at s) n c i q
        entered_owner y = rw (at_map, ne_eqb o c y)

        pub entered_port : o ≡ c → (a ≡ i → ⊥) → None ≡ entered (record_at s) n c i q
        entered_port y g = rw (at_map, eq-eqb o c y, ne_eqb a i g)

        pub entered_to : (u : ℕ) → o ≡ c → a ≡ i → u ≡ child (record_at s) n c t.0 → Some (pin u d) ≡ entered (record_at s) n c i q
        entered_to u y g z = rw (z, at_map, eq-eqb o c y, eq-eqb a i g)

  -- a connection at p, and its ends
  pub connection_at : (p : ℕ) (r : Reading) → said r ≡ record_at s p → (o a b : ℕ) (f t : ChildNo) (x : Says) → r ≡ Taken o x
      → x ≡ Connection f a t b → record_at s p ≡ apart o (Connection f a t b)
  connection_at p r e o a b f t x h k = taken_is (record_at s p) r e o x h ∙ ap (apart o) k

  module _ (p o a b : ℕ) (f t : ChildNo) (e : record_at s p ≡ apart o (Connection f a t b)) where
    pub source_is : (m c : ℕ) (x : Pin) → m ≡ deepest → c ≡ child (record_at s) n o f.0 → x ≡ output_below (record_at s) n m c a
        → x ≡ comes_from (record_at s) n p
    unfolding comes_from
    source_is m c x em ec ex =
        ex ∙ ap (λ (j : ℕ). output_below (record_at s) n j c a) em ∙ ap (λ (j : ℕ). output_below (record_at s) n deepest j a) ec
        ∙ ap (λ (y : Record). output_below (record_at s) n deepest (child (record_at s) n (owner_of y) (from_of y)) (output_of y)) (sym e)

    pub targets_are : (m c : ℕ) → m ≡ deepest → c ≡ child (record_at s) n o t.0
        → inputs_below (record_at s) n m c b ≡ goes_to (record_at s) n p
    unfolding goes_to
    targets_are m c em ec =
        ap (λ (j : ℕ). inputs_below (record_at s) n j c b) em ∙ ap (λ (j : ℕ). inputs_below (record_at s) n deepest j b) ec
        ∙ ap (λ (y : Record). inputs_below (record_at s) n deepest (child (record_at s) n (owner_of y) (to_of y)) (input_of y)) (sym e)

    pub form_is : form_of (record_at s p) ≡ 2
    form_is = ap form_of e
