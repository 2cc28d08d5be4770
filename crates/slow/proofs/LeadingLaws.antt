-- Laws of sending along wires that are worked out: loops over targets and over records, and the wires of one record.
-- Assumes nothing.
use mathlib.Core.Path.{◌≡◌, refl, sym, ap, ◌∙◌, subst}
use mathlib.Core.Logic.{inl, inr}
use Prim.Native.Nat.{ℕ, ◌+◌, ◌-◌, ◌/◌, ◌≤◌, ◌<◌}
use mathlib.Core.Bool.{Bool, true, false, cond, ◌&&◌}
use mathlib.Core.List.{List, [], ◌∷◌, map, foldl, foldl-append, map-map}
use native.Mathlib.Omega.{arith}
use native.Mathlib.Nat.{sub-zero}
use borrow.Author.Tests.{eq-eqb, ne_eqb}
use types.Run.{OneOf}
use denote.Enum.Declared.{tag_of}
use lib.ListN.{length}
use lib.Dec.{eqb}
use Rattle.lists.specs.Lists.{from, any, joined}
use Rattle.lists.proofs.ListsLaws.{from_step, from_end, joined_step}
use Rattle.lists.proofs.MembersLaws.{In, any_cong, map_complete, joined_complete, from0_complete}
use Rattle.component.specs.declared.ChildNo.{ChildNo}
use Rattle.component.specs.declared.Record.{Record}
use Rattle.component.specs.declared.Says.{Says}
use Rattle.component.specs.declared.Says.TheVariants.{Connection}
use Rattle.component.specs.declared.Reading.{Reading}
use Rattle.component.specs.declared.Reading.TheVariants.{Taken, Refused}
use Rattle.component.specs.Reading.{said, form_of, apart}
use Rattle.component.specs.Record.{record_at, record_count}
use Rattle.component.specs.Drawing.{deepest, child}
use Rattle.component.specs.contracts.Says.{the_type}
use Rattle.component.proofs.RecordLaws.{no_connection, refused_is, taken_form}
use Rattle.flatten.specs.declared.Pin.{Pin}
use Rattle.flatten.specs.Descent.{output_below, inputs_below, comes_from, goes_to, flat}
use Rattle.flatten.specs.Targets.{target_place, target_in, targets_in, Listed}
use Rattle.tables.specs.declared.End.{End}
use Rattle.tables.specs.declared.Wire.{Wire}
use Rattle.tables.specs.Tables.{Tables}
use Rattle.laying.specs.Laid.{flat_pin}
use Rattle.laying.specs.Laying.{Ready, end_by}
use Rattle.laying.proofs.WiresLaws.{connects, flat_end, from_source, source_number, read, target_number, targets_small}
use Rattle.rounds.specs.Round.{State, send}
use Rattle.rounds.specs.Steps.{CanReach}
use Rattle.slow.specs.Slow.{leaving_by, leaving, led_into, enters_by}
use Rattle.slow.specs.Sending.{lead_to}

-- Loops: what is still to come.
module _ (T : Tables) (k n : ℕ) (s x : State) where
  pub sends_next : (f : ℕ → Wire) (u : State) → k < n → u ≡ send T s (f k) → foldl (send T) s (map f (from k (n - k))) ≡ x
      → foldl (send T) u (map f (from (k + 1) (n - (k + 1)))) ≡ x
  sends_next f u h e so_far = rw e (sym (ap (λ (l : List ℕ). foldl (send T) s (map f l)) (from_step k n h)) ∙ so_far)

  pub sends_end : (f : ℕ → Wire) → n ≤ k → foldl (send T) s (map f (from k (n - k))) ≡ x → s ≡ x
  sends_end f h so_far = sym (ap (λ (l : List ℕ). foldl (send T) s (map f l)) (from_end k n h)) ∙ so_far

  pub records_next : (f : ℕ → List Wire) (u : State) → k < n → u ≡ foldl (send T) s (f k) → foldl (send T) s (joined f (from k (n - k))) ≡ x
      → foldl (send T) u (joined f (from (k + 1) (n - (k + 1)))) ≡ x
  records_next f u h e so_far =
      rw e
      (sym (ap (foldl (send T) s) (joined_step f k n h) ∙ foldl-append (send T) s (f k) (joined f (from (k + 1) (n - (k + 1))))) ∙ so_far)

  pub records_end : (f : ℕ → List Wire) → n ≤ k → foldl (send T) s (joined f (from k (n - k))) ≡ x → s ≡ x
  records_end f h so_far = sym (ap (λ (l : List ℕ). foldl (send T) s (joined f l)) (from_end k n h)) ∙ so_far

-- Their starts.
pub sends_start : (T : Tables) (s : State) (fs ts : List ℕ) (i : End) (n : ℕ)
    → foldl (send T) s (map (λ k. lead_to fs i (target_in ts k)) (from 0 (n - 0))) ≡ foldl (send T) s (map (lead_to fs i) (targets_in ts n))
sends_start T s fs ts i n =
    ap (λ (m : ℕ). foldl (send T) s (map (λ k. lead_to fs i (target_in ts k)) (from 0 m))) (sub-zero n)
    ∙ ap (foldl (send T) s) (sym (map-map (lead_to fs i) (target_in ts) (from 0 n)))

pub records_start : (T : Tables) (s : State) (file : List ℕ) (i : ℕ)
    → foldl (send T) s (joined (leaving_by (record_at file) (record_count file) i) (from 0 (record_count file - 0)))
    ≡ foldl (send T) s (leaving (record_at file) (record_count file) i)
unfolding leaving
records_start T s file i =
    ap (λ (m : ℕ). foldl (send T) s (joined (leaving_by (record_at file) (record_count file) i) (from 0 m))) (sub-zero (record_count file))

-- What a wire needs depends on the table of inputs by its length only.
pub reach_kept : (T : Tables) (is os is' : List ℕ) (w : Wire) → CanReach T is os w → length is' ≡ length is → CanReach T is' os w
reach_kept T is os is' w g e =
    record {
      few = g.few;
      rows = g.rows;
      leaves = g.leaves;
      named = g.named;
      source = g.source;
      target = omega (arith, g.target);
    }

-- The wires of the record at p that leave primitive i: it is refused; no connection; a connection from another.
module _ (s : List ℕ) (n i p : ℕ) where
  unwired : (form_of (record_at s p) ≡ 2 → ⊥) → [] ≡ leaving_by (record_at s) n i p
  unwired h = rw (ne_eqb (form_of (record_at s p)) 2 h)

  unled : (form_of (record_at s p) ≡ 2 → ⊥) → false ≡ enters_by (record_at s) n i p
  unled h = rw (ne_eqb (form_of (record_at s p)) 2 h)

  not_two : (r : Reading) {j : ℕ} → said r ≡ record_at s p → r ≡ Refused j → form_of (record_at s p) ≡ 2 → ⊥
  not_two r e h z = omega (arith, z, ap form_of (refused_is (record_at s p) r e h))

  another : (o : ℕ) (r : Reading) (x : Says) → said r ≡ record_at s p → r ≡ Taken o x → OneOf (0 ∷ 2 ∷ 3 ∷ []) (tag_of the_type x)
      → form_of (record_at s p) ≡ 2 → ⊥
  another o r x e h y z = no_connection x y (sym (taken_form (record_at s p) r e o x h) ∙ z)

  pub leaves_refused : (r : Reading) {j : ℕ} → said r ≡ record_at s p → r ≡ Refused j → [] ≡ leaving_by (record_at s) n i p
  leaves_refused r e h = unwired (not_two r e h)

  pub leaves_other : (o : ℕ) (r : Reading) (x : Says) → said r ≡ record_at s p → r ≡ Taken o x → OneOf (0 ∷ 2 ∷ 3 ∷ []) (tag_of the_type x)
      → [] ≡ leaving_by (record_at s) n i p
  leaves_other o r x e h y = unwired (another o r x e h y)

  pub enters_refused : (r : Reading) {j : ℕ} → said r ≡ record_at s p → r ≡ Refused j → false ≡ enters_by (record_at s) n i p
  enters_refused r e h = unled (not_two r e h)

  pub enters_other : (o : ℕ) (r : Reading) (x : Says) → said r ≡ record_at s p → r ≡ Taken o x → OneOf (0 ∷ 2 ∷ 3 ∷ []) (tag_of the_type x)
      → false ≡ enters_by (record_at s) n i p
  enters_other o r x e h y = unled (another o r x e h y)

-- Record p of an accepted file is a connection, whose source is x, at the end z of the net.
module _ (s ix fs : List ℕ) (ready : Ready s ix fs) (p : ℕ) (l : p < length s / 24) (o a b : ℕ) (f g : ChildNo)
    (e : record_at s p ≡ apart o (Connection f a g b)) (m c : ℕ) (x : Pin) (em : m ≡ deepest)
    (ec : c ≡ child (record_at s) (length s / 24) o f.0) (ex : x ≡ output_below (record_at s) (length s / 24) m c a)
    (z : End) (ez : z ≡ end_by fs x) (i : ℕ) where
  abbrev at : ℕ → Record
  at = record_at s

  abbrev n : ℕ
  n = length s / 24

  end_is : z ≡ flat_pin at n (comes_from at n p)
  end_is =
      ez ∙ flat_end s ix fs ready p l o a b f g e x (source_number s ix fs ready p l o a b f g e m c x em ec ex)
      ∙ ap (flat_pin at n) (from_source s ix fs ready p l o a b f g e m c x em ec ex)

  is_form : eqb (form_of (at p)) 2 ≡ true
  is_form = eq-eqb (form_of (at p)) 2 (connects s ix fs ready p l o a b f g e)

  -- It comes from another primitive.
  pub leaves_elsewhere : (z.comp.0 ≡ i → ⊥) → [] ≡ leaving_by at n i p
  leaves_elsewhere h =
      rw (is_form, ne_eqb (flat at n (comes_from at n p).comp) i (λ y. h (ap (λ (v : End). v.comp.0) end_is ∙ y)))

  -- It comes from primitive i, and its targets are listed in the table us.
  module _ (j q : ℕ) (ej : j ≡ deepest) (eq : q ≡ child at n o g.0) (ts us : List ℕ) (r : ℕ)
      (listed : Listed ts 0 (inputs_below at n j q b) us r) (full : length ts ≡ target_place 1024) where
    targets_are : targets_in us r ≡ goes_to at n p
    targets_are = read s ix fs ready p l o a b f g e m c x em ec ex j q ej eq ts us r listed full

    abbrev led : Pin → Wire
    led t = record { src = flat_pin at n (comes_from at n p); dst = flat_pin at n t }

    map_members : (xs : List Pin) → ((t : Pin) → In t xs → lead_to fs z t ≡ led t) → map (lead_to fs z) xs ≡ map led xs
    map_members [] h = refl
    map_members (t ∷ xs) h = λ k. h t (inl refl) k ∷ map_members xs (λ u y. h u (inr y)) k

    wires_are : map (lead_to fs z) (targets_in us r) ≡ map led (goes_to at n p)
    wires_are =
        ap (map (lead_to fs z)) targets_are
        ∙ map_members (goes_to at n p)
        (λ t h.
        let u = flat_end s ix fs ready p l o a b f g e t
        (target_number s ix fs ready p l o a b f g e m c x em ec ex j q ej eq ts us r listed full t h) in
        λ k. record { src = end_is k; dst = u k })

    pub leaves_here : z.comp.0 ≡ i → map (lead_to fs z) (targets_in us r) ≡ leaving_by at n i p
    leaves_here h =
        wires_are
        ∙ sym (ap (λ (y : Bool). cond (y && eqb (flat at n (comes_from at n p).comp) i) (map led (goes_to at n p)) []) is_form
        ∙ ap (λ (y : Bool). cond y (map led (goes_to at n p)) [])
        (eq-eqb (flat at n (comes_from at n p).comp) i (sym (ap (λ (v : End). v.comp.0) end_is) ∙ h)))

    pub here_member : z.comp.0 ≡ i → (k : ℕ) → k < r → In (lead_to fs z (target_in us k)) (leaving at n i)
    unfolding leaving
    here_member h k y =
        joined_complete (leaving_by at n i) (lead_to fs z (target_in us k)) (from 0 n) p (from0_complete n p l)
        (subst (λ (ws : List Wire). In (lead_to fs z (target_in us k)) ws) (leaves_here h)
        (map_complete (lead_to fs z) (target_in us k) (targets_in us r) (map_complete (target_in us) k (from 0 r) (from0_complete r k y))))

-- The same record, of which only the targets are asked: whether it leads into primitive i.
module _ (s ix fs : List ℕ) (ready : Ready s ix fs) (p : ℕ) (l : p < length s / 24) (o a b : ℕ) (f g : ChildNo)
    (e : record_at s p ≡ apart o (Connection f a g b)) (j q : ℕ) (ej : j ≡ deepest) (eq : q ≡ child (record_at s) (length s / 24) o g.0)
    (ts us : List ℕ) (r : ℕ) (listed : Listed ts 0 (inputs_below (record_at s) (length s / 24) j q b) us r) (full : length ts ≡ target_place 1024) where
  abbrev starts : ℕ
  starts = child (record_at s) (length s / 24) o f.0

  abbrev source : Pin
  source = output_below (record_at s) (length s / 24) deepest starts a

  pub entered_small : (k : ℕ) → k < r → (target_in us k).comp < 256
  entered_small = targets_small s ix fs ready p l o a b f g e deepest starts source refl refl refl j q ej eq ts us r listed full

  pub enters_here : (i : ℕ) → any (λ (t : Pin). eqb (end_by fs t).comp.0 i) (targets_in us r) ≡ enters_by (record_at s) (length s / 24) i p
  enters_here i =
      ap (any (λ (t : Pin). eqb (end_by fs t).comp.0 i))
      (read s ix fs ready p l o a b f g e deepest starts source refl refl refl j q ej eq ts us r listed full)
      ∙ any_cong (λ (t : Pin). eqb (end_by fs t).comp.0 i) (λ (t : Pin). eqb (flat (record_at s) (length s / 24) t.comp) i)
      (goes_to (record_at s) (length s / 24) p)
      (λ t h. ap (λ (y : End). eqb y.comp.0 i) (flat_end s ix fs ready p l o a b f g e t
      (target_number s ix fs ready p l o a b f g e deepest starts source refl refl refl j q ej eq ts us r listed full t h)))
      ∙ sym (ap (λ (y : Bool). y && any (λ (t : Pin). eqb (flat (record_at s) (length s / 24) t.comp) i) (goes_to (record_at s) (length s / 24) p))
      (eq-eqb (form_of (record_at s p)) 2 (connects s ix fs ready p l o a b f g e)))

-- The loop over all records.
pub led_into-start : (file : List ℕ) (i : ℕ)
    → any (enters_by (record_at file) (record_count file) i) (from 0 (record_count file - 0)) ≡ led_into (record_at file) (record_count file) i
unfolding led_into
led_into-start file i = ap (λ (m : ℕ). any (enters_by (record_at file) (record_count file) i) (from 0 m)) (sub-zero (record_count file))
