-- Laws of the wires at load: a wire to each target of a table, those of one record, and all of them.
-- Not here: laws of the source and the targets (DescentLaws and ConnectionLaws of crate flatten).
-- Assumes nothing.
use mathlib.Core.Path.{◌≡◌, refl, sym, ap, ◌∙◌, subst}
use mathlib.Core.Logic.{inl, inr}
use mathlib.Core.Bool.{Bool, true, false, cond}
use mathlib.Core.List.{List, [], ◌∷◌, ◌++◌, map}
use Prim.Native.Nat.{ℕ, ◌+◌, ◌*◌, ◌/◌, ◌≤◌, ◌<◌}
use native.Mathlib.Numerals.{add-one}
use native.Mathlib.Omega.{arith}
use borrow.Author.Tests.{eq-eqb, ne_eqb}
use types.Run.{OneOf}
use denote.Enum.Declared.{tag_of}
use lib.ListN.{length, length-map}
use lib.Seq.{sets, length-sets}
use lib.Dec.{eqb}
use Rattle.lists.specs.Lists.{from, joined, overlay}
use Rattle.lists.proofs.OverlayLaws.{sets_append, joined_append, joined_width}
use Rattle.lists.proofs.MembersLaws.{In, map_append, map_complete, from_last, from_length, from0_complete}
use Rattle.component.specs.declared.ChildNo.{ChildNo}
use Rattle.component.specs.declared.Record.{Record}
use Rattle.component.specs.declared.Says.{Says}
use Rattle.component.specs.declared.Says.TheVariants.{Connection}
use Rattle.component.specs.declared.Reading.{Reading}
use Rattle.component.specs.declared.Reading.TheVariants.{Taken, Refused}
use Rattle.component.specs.Reading.{said, form_of, apart}
use Rattle.component.specs.Record.{record_at, record_count, is_primitive}
use Rattle.component.specs.Drawing.{deepest, child}
use Rattle.component.specs.contracts.Says.{the_type}
use Rattle.component.proofs.RecordLaws.{no_connection, refused_is, taken_form}
use Rattle.flatten.specs.declared.Pin.{Pin}
use Rattle.flatten.specs.declared.Lead.{Lead}
use Rattle.flatten.specs.Descent.{output_below, inputs_below, comes_from, goes_to, wires_at, wires}
use Rattle.flatten.specs.Targets.{target_place, target_in, targets_in, Listed}
use Rattle.flatten.proofs.DescentLaws.{source_is, form_is}
use Rattle.flatten.proofs.Accepted.{Passed, accepted_passed}
use Rattle.flatten.proofs.Components.{primitive_component, component_number}
use Rattle.flatten.proofs.Ends.{source_there, target_there}
use Rattle.flatten.proofs.ConnectionLaws.{connection_read}
use Rattle.tables.specs.declared.End.{End}
use Rattle.tables.specs.Tables.{end_at, wire_words}
use Rattle.tables.specs.Words.{wire_place}
use Rattle.laying.specs.Laid.{flat_pin, flat_wires}
use Rattle.laying.specs.Laying.{Written, Ready, end_by, lead_by, lead_words, wires_given}
use Rattle.laying.proofs.FlatWires.{flat_wire, flat_wires-bound}
use Rattle.lists.proofs.LayingLaws.{Laid, laid_room, laid_step, laid_end, laid_count}

-- Lists made of others.
joined_map : {A B C : Type 0} (f : B → List C) (g : A → B) (xs : List A)
    → joined f (map g xs) ≡ joined (λ a. f (g a)) xs
joined_map f g [] = refl
joined_map {C = C} f g (x ∷ xs) = ap (λ (l : List C). f (g x) ++ l) (joined_map f g xs)

joined_joined : {A B C : Type 0} (f : B → List C) (g : A → List B) (xs : List A)
    → joined f (joined g xs) ≡ joined (λ a. joined f (g a)) xs
joined_joined f g [] = refl
joined_joined {C = C} f g (x ∷ xs) =
    joined_append f (g x) (joined g xs) ∙ ap (λ (l : List C). joined f (g x) ++ l) (joined_joined f g xs)

joined_members : {A B : Type 0} (f g : A → List B) (xs : List A) → ((x : A) → In x xs → f x ≡ g x) → joined f xs ≡ joined g xs
joined_members f g [] h = refl
joined_members f g (x ∷ xs) h = let here = h x (inl refl) in let later = joined_members f g xs (λ y u. h y (inr u)) in λ j. here j ++ later j

-- A wire from the output f to each of the first j targets of a table ts, laid in the table t from wire k on, fs being the flat indexes.
module _ (fs : List ℕ) (f : End) (ts t : List ℕ) (k : ℕ) where
  abbrev leads : ℕ → List ℕ
  leads j = joined (lead_by fs f) (targets_in ts j)

  leads_length : (j : ℕ) → length (leads j) ≡ wire_place j
  leads_length j =
      joined_width (lead_by fs f) 4 (λ x. refl) (targets_in ts j)
      ∙ ap (λ (m : ℕ). 4 * m) (length-map (from 0 j) (target_in ts) ∙ from_length 0 j)

  leads_snoc : (j : ℕ) → leads (j + 1) ≡ leads j ++ lead_by fs f (target_in ts j)
  leads_snoc j =
      ap (λ (m : ℕ). leads m) (add-one j)
      ∙ ap (λ (l : List ℕ). joined (lead_by fs f) (map (target_in ts) l)) (from_last j)
      ∙ ap (joined (lead_by fs f)) (map_append (target_in ts) (from 0 j) (j ∷ []))
      ∙ joined_append (lead_by fs f) (targets_in ts j) (target_in ts j ∷ [])

  pub leads_start : Written t (wire_place k) (leads 0) t (wire_place (k + 0))
  leads_start = record { table = refl; place = omega arith }

  module _ (j : ℕ) (u : List ℕ) (h : Written t (wire_place k) (leads j) u (wire_place (k + j))) where
    pub leads_size : length u ≡ length t
    leads_size = ap (λ (l : List ℕ). length l) h.table ∙ length-sets t (wire_place k) (leads j)

    pub leads_step : (v : List ℕ) (x : Pin) → x ≡ target_in ts j → v ≡ sets u (wire_place (k + j)) (lead_by fs f x)
        → Written t (wire_place k) (leads (j + 1)) v (wire_place (k + (j + 1)))
    leads_step v x ex ev =
        record {
          table =
              ev ∙ ap (λ (y : Pin). sets u (wire_place (k + j)) (lead_by fs f y)) ex
              ∙ (λ i. sets (h.table i) (h.place i) (lead_by fs f (target_in ts j)))
              ∙ sym (sets_append t (wire_place k) (leads j) (lead_by fs f (target_in ts j)))
              ∙ ap (sets t (wire_place k)) (sym (leads_snoc j));
          place = omega (arith, leads_length (j + 1));
        }

    pub leads_end : (m : ℕ) → j ≡ m → Written t (wire_place k) (leads m) u (wire_place (k + m))
    leads_end m e = subst (λ (i : ℕ). Written t (wire_place k) (leads i) u (wire_place (k + i))) e h

-- The wires of the record at p: it is refused; no connection; a connection.
module _ (s : List ℕ) (n : ℕ) where
  unwired : (p : ℕ) (t : List ℕ) (k : ℕ) → (form_of (record_at s p) ≡ 2 → ⊥) → Written t k (wires_given (record_at s) n p) t k
  unwired p t k h =
      let z : wires_given (record_at s) n p ≡ [] = rw (ne_eqb (form_of (record_at s p)) 2 h) in
      record { table = ap (sets t k) (sym z); place = omega (arith, ap (λ (l : List ℕ). length l) z) }

  pub connect_refused : (p : ℕ) (r : Reading) (t : List ℕ) (k : ℕ) {j : ℕ} → said r ≡ record_at s p → r ≡ Refused j
      → Written t k (wires_given (record_at s) n p) t k
  connect_refused p r t k e h = unwired p t k (λ z. omega (arith, z, ap form_of (refused_is (record_at s p) r e h)))

  pub connect_other : (p o : ℕ) (r : Reading) (x : Says) (t : List ℕ) (k : ℕ) → said r ≡ record_at s p → r ≡ Taken o x
      → OneOf (0 ∷ 2 ∷ 3 ∷ []) (tag_of the_type x) → Written t k (wires_given (record_at s) n p) t k
  connect_other p o r x t k e h y =
      unwired p t k (λ z. no_connection x y (sym (taken_form (record_at s p) r e o x h) ∙ z))

-- Record p of an accepted file is a connection.
module _ (s ix fs : List ℕ) (ready : Ready s ix fs) (p : ℕ) (l : p < length s / 24) (o a b : ℕ) (f g : ChildNo)
    (e : record_at s p ≡ apart o (Connection f a g b)) where
  abbrev count : ℕ
  count = length s / 24

  passed : Passed (record_at s) count
  passed = accepted_passed s ready.accepted

  pub connects : form_of (record_at s p) ≡ 2
  connects = form_is s count p o a b f g e

  primitive_number : (c : ℕ) → is_primitive (record_at s c) ≡ true → c < 256
  primitive_number c h = component_number (record_at s) count passed c (primitive_component (record_at s c) h)

  pub flat_end : (t : Pin) → t.comp < 256 → end_by fs t ≡ flat_pin (record_at s) count t
  flat_end t h = ap (λ (c : ℕ). end_at c t.port) (ready.indexes.word t.comp h)

  -- Its source is a primitive's, and has a number below 256.
  module _ (m c : ℕ) (x : Pin) (em : m ≡ deepest) (ec : c ≡ child (record_at s) count o f.0)
      (ex : x ≡ output_below (record_at s) count m c a) where
    pub from_source : x ≡ comes_from (record_at s) count p
    from_source = source_is s count p o a b f g e m c x em ec ex

    pub source_number : x.comp < 256
    source_number = rw from_source (primitive_number _ (source_there (record_at s) count passed p l connects).of_primitive)

    -- So has each target of a table us in which they are listed; and the wires to them are those of the record.
    module _ (j q : ℕ) (ej : j ≡ deepest) (eq : q ≡ child (record_at s) count o g.0) (ts us : List ℕ) (r : ℕ)
        (listed : Listed ts 0 (inputs_below (record_at s) count j q b) us r) (full : length ts ≡ target_place 1024) where
      pub read : targets_in us r ≡ goes_to (record_at s) count p
      read = connection_read s count passed p l o a b f g e j q ej eq ts us r listed full

      pub target_number : (t : Pin) → In t (goes_to (record_at s) count p) → t.comp < 256
      target_number t h = primitive_number t.comp (target_there (record_at s) count passed p l connects t h).of_primitive

      pub targets_small : (k : ℕ) → k < r → (target_in us k).comp < 256
      targets_small k h =
          target_number (target_in us k)
          (subst (λ (ts : List Pin). In (target_in us k) ts) read (map_complete (target_in us) k (from 0 r) (from0_complete r k h)))

      module _ (i : End) (ei : i ≡ end_by fs x) where
        wires_are : joined (lead_by fs i) (targets_in us r) ≡ wires_given (record_at s) count p
        wires_are =
            ap (joined (lead_by fs i)) read
            ∙ joined_members (lead_by fs i) (lead_words (record_at s) count i) (goes_to (record_at s) count p)
            (λ t h. ap (λ (y : End). wire_words (record { src = i; dst = y })) (flat_end t (target_number t h)))
            ∙ ap (λ (y : End). joined (lead_words (record_at s) count y) (goes_to (record_at s) count p))
            (ei ∙ flat_end x source_number ∙ ap (flat_pin (record_at s) count) from_source)
            ∙ ap (λ (z : Bool). cond z
            (joined (lead_words (record_at s) count (flat_pin (record_at s) count (comes_from (record_at s) count p))) (goes_to (record_at s) count p)) [])
            (sym (eq-eqb (form_of (record_at s p)) 2 connects))

        pub connect_room : (t : List ℕ) (k : ℕ) → wire_place k + length (wires_given (record_at s) count p) ≤ length t
            → wire_place (k + r) ≤ length t
        connect_room t k room = omega (arith, ap (λ (z : List ℕ). length z) wires_are, leads_length fs i us t k r)

        pub connect_written : (t u : List ℕ) (k v : ℕ) → Written t k (joined (lead_by fs i) (targets_in us r)) u v
            → Written t k (wires_given (record_at s) count p) u v
        connect_written t u k v h = subst (λ (z : List ℕ). Written t k z u v) wires_are h

-- The words of all wires, record by record.
module _ (at : ℕ → Record) (n : ℕ) where
  pub wires_joined : joined wire_words (flat_wires at n) ≡ joined (wires_given at n) (from 0 n)
  wires_joined =
      joined_map wire_words (flat_wire at n) (wires at n)
      ∙ joined_joined (λ (w : Lead). wire_words (flat_wire at n w))
      (λ p. cond (eqb (form_of (at p)) 2) (wires_at at n p) []) (from 0 n)
      ∙ (λ j. joined (λ p. by_form p (eqb (form_of (at p)) 2) j) (from 0 n))
    where
      by_form : (p : ℕ) (b : Bool) → joined (λ (w : Lead). wire_words (flat_wire at n w)) (cond b (wires_at at n p) [])
          ≡ cond b (joined (lead_words at n (flat_pin at n (comes_from at n p))) (goes_to at n p)) []
      by_form p true =
          joined_map (λ (w : Lead). wire_words (flat_wire at n w)) (λ t. record { src = comes_from at n p; dst = t })
          (goes_to at n p)
      by_form p false = refl

  pub wires_length : length (joined (wires_given at n) (from 0 n)) ≡ wire_place (length (flat_wires at n))
  wires_length =
      ap (λ (l : List ℕ). length l) (sym wires_joined) ∙ joined_width wire_words 4 (λ w. refl) (flat_wires at n)

-- Laying the wires of an accepted file, in a table t of full size.
module _ (s ix fs : List ℕ) (h : Ready s ix fs) (t : List ℕ) (full : 4096 ≤ length t) where
  abbrev n : ℕ
  n = record_count s

  wires_all : length (joined (wires_given (record_at s) n) (from 0 n)) ≤ length t
  wires_all =
      omega (
        arith,
        wires_length (record_at s) n,
        flat_wires-bound (record_at s) n
            (accepted_passed s h.accepted),
      )

  module _ (p : ℕ) (u : List ℕ) (k : ℕ) (laid : Laid (wires_given (record_at s) n) p t u (wire_place k)) where
    pub wires_requires : p < n → (p < n) × (wire_place k + length (wires_given (record_at s) n p) ≤ length u)
    wires_requires l = (l, laid_room _ t p u _ laid n l wires_all)

    pub wires_step : (v : List ℕ) (m : ℕ) → Written u (wire_place k) (wires_given (record_at s) n p) v (wire_place m)
        → Laid (wires_given (record_at s) n) (p + 1) t v (wire_place m)
    wires_step v m w = laid_step _ t p u _ laid (wires_given (record_at s) n p) v _ refl w.table w.place

    pub wires_end : p ≡ n
        → (u ≡ overlay (joined wire_words (flat_wires (record_at s) n)) t) × (k ≡ length (flat_wires (record_at s) n))
    wires_end e = (
      laid_end _ t p u _ laid n e wires_all ∙ ap (λ (l : List ℕ). overlay l t) (sym (wires_joined (record_at s) n)),
      omega (arith, laid_count _ t p u _ laid n e, wires_length (record_at s) n),
    )
