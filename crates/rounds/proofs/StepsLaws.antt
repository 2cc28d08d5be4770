-- Laws of the steps of a round, one step at a time: a wire, the wires of a component, an evaluation, and a component of
-- the list.
-- Assumes nothing.
use mathlib.Core.Path.{◌≡◌, refl, sym, ap, ◌∙◌}
use mathlib.Core.Logic.{inl, inr}
use mathlib.Core.Bool.{Bool, true, false, cond}
use mathlib.Core.List.{List, [], ◌∷◌, ◌++◌, foldl, append_assoc}
use Prim.Native.Nat.{ℕ, zero, suc, ◌+◌, ◌-◌, ◌≤◌, ◌<◌}
use native.Mathlib.Nat.{zero-add, suc-add}
use native.Mathlib.Numerals.{add-one}
use native.Mathlib.Omega.{arith}
use borrow.Rule.Slice.PartMut.{put_mid, Post-is}
use borrow.Author.Tests.{eq-eqb, ne_eqb}
use lib.ListN.{length, get_or, take, drop, set, length-take}
use lib.Seq.{sets, sets-eq, take-nil, length-take-le, slice, slice-cons, slice_empty}
use lib.Dec.{eqb}
use Rattle.lists.specs.Lists.{has, append_new, strike, overlay}
use Rattle.lists.proofs.MembersLaws.{In}
use Rattle.lists.proofs.NamesLaws.{names_sound, names_complete, names_append, names_length}
use Rattle.kinds.specs.declared.Kind.TheVariants.{Clock}
use Rattle.kinds.specs.declared.table.Fields.{Fields}
use Rattle.kinds.specs.Kinds.{is}
use Rattle.primitive.specs.Evaluate.{outputs_after, moved_outputs}
use Rattle.primitive.specs.Own.{Own}
use Rattle.primitive.proofs.FitLaws.{outputs_after-length}
use Rattle.tables.specs.declared.Wire.{Wire}
use Rattle.tables.specs.declared.Counts.{Counts}
use Rattle.tables.specs.Tables.{Tables, fields_at, first_input, first_output, numbers, inputs_at, outputs_at, input_place, output_place}
use Rattle.tables.proofs.NamedLaws.{overlay_list, overlay_count}
use Rattle.tables.specs.Words.{uncounted, wire_in}
use Rattle.net.specs.Net.{names}
use Rattle.net.proofs.NetLaws.{names_entry}
use Rattle.rounds.specs.Round.{State, with_current, with_standing, evaluated, send, visit, moved_at}
use Rattle.rounds.specs.Steps.{wiring, bare, state_at, CanEvaluate, CanSend, CanReach, CanRun, ListFits, Step}
use Rattle.rounds.proofs.Ports.{numbers_length}
use Rattle.rounds.proofs.ListedLaws.{strike_none}
use Rattle.rounds.proofs.Held.{carried, received, written, SendCase, agrees, writes, send_case}

-- One wire, whose output and input hold the numbers x and y.
module _ (T : Tables) (ins outs fol : List ℕ) (n : ℕ) (w : Wire) (a b x y : ℕ) (pa : a ≡ output_place T w.src)
    (pb : b ≡ input_place T w.dst) (ex : x ≡ get_or outs a 0) (ey : y ≡ get_or ins b 0) where
  test : eqb (get_or outs (output_place T w.src) 0) (get_or ins (input_place T w.dst) 0) ≡ eqb x y
  test = rw (ex, ey, pa, pb)

  -- They agree.
  pub send_agrees : x ≡ y → n ≤ length fol
      → Step n fol (state_at ins outs (take n fol) []) (send T (state_at ins outs (take n fol) []) w)
  unfolding send
  send_agrees e h =
      let z : eqb (get_or outs (output_place T w.src) 0) (get_or ins (input_place T w.dst) 0) ≡ true =
      test ∙ eq-eqb x y e in
      record { count = h; state = rw z }

  -- They differ, and the target is appended.
  pub send_writes : (x ≡ y → ⊥) → (to r : ℕ) (fol' : List ℕ) → to ≡ w.dst.comp.0
      → r ≡ length (append_new to (take n fol))
      → fol' ≡ overlay (append_new to (take n fol)) fol
      → Step r fol' (state_at (set ins b x) outs (take r fol') []) (send T (state_at ins outs (take n fol) []) w)
  unfolding send
  send_writes e to r fol' et er ef =
      let z : eqb (get_or outs (output_place T w.src) 0) (get_or ins (input_place T w.dst) 0) ≡ false =
      test ∙ ne_eqb x y e in
      let l : take r fol' ≡ append_new w.dst.comp.0 (take n fol) =
      rw ef (overlay_list (append_new to (take n fol)) fol r er) ∙ ap (λ (c : ℕ). append_new c (take n fol)) et in
      let i : set ins b x ≡ set ins (input_place T w.dst) (get_or outs (output_place T w.src) 0) = rw (ex, pa, pb) in
      record { count = rw ef (overlay_count (append_new to (take n fol)) fol r er); state = rw (z, l, i) }

-- A part of a table that is lent.
drop_take : (a k : ℕ) (l : List ℕ) → drop a (take (a + k) l) ≡ take k (drop a l)
drop_take zero k l = ap (λ (j : ℕ). take j l) (zero-add k)
drop_take (suc a) k [] =
    ap (λ (j : ℕ). drop (suc a) (take j [])) (suc-add a k) ∙ sym (take-nil k)
drop_take (suc a) k (x ∷ xs) = ap (λ (j : ℕ). drop (suc a) (take j (x ∷ xs))) (suc-add a k) ∙ drop_take a k xs

part_numbers : (l : List ℕ) (a k : ℕ) → take (a + k - a) (drop a l) ≡ numbers l a k
part_numbers l a k =
    let e : a + k - a ≡ k = omega arith in
    ap (λ (j : ℕ). take j (drop a l)) e ∙ sym (drop_take a k l)

-- An evaluation of component i, whose fields are f and whose ports start at a and b.
module _ (T : Tables) (ins outs : List ℕ) (i : ℕ) (v : CanEvaluate T ins outs i) where
  all_own : Own (fields_at T i) (inputs_at T ins i) (outputs_at T outs i)
  all_own =
      record {
        obeyed = v.obeyed;
        all_inputs = numbers_length ins (first_input T i) (fields_at T i).inputs v.inputs_in;
        all_outputs = numbers_length outs (first_output T i) (fields_at T i).outputs v.outputs_in;
      }

  module _ (f : Fields) (a b : ℕ) (ef : f ≡ fields_at T i) (ea : a ≡ first_input T i) (eb : b ≡ first_output T i) where
    pub lent_inputs : a + f.inputs ≤ length ins
    lent_inputs = rw (ef, ea) v.inputs_in

    pub lent_outputs : b + f.outputs ≤ length outs
    lent_outputs = rw (ef, eb) v.outputs_in

    abbrev xs : List ℕ
    xs = take (a + f.inputs - a) (drop a ins)

    abbrev ys : List ℕ
    ys = take (b + f.outputs - b) (drop b outs)

    -- The part of the inputs that is lent is the component's own.
    pub lent_inputs_are : xs ≡ inputs_at T ins i
    lent_inputs_are = part_numbers ins a f.inputs ∙ rw (ef, ea)

    ys_are : ys ≡ outputs_at T outs i
    ys_are = part_numbers outs b f.outputs ∙ rw (ef, eb)

    pub lent_own : Own f xs ys
    lent_own = rw (lent_inputs_are, ys_are, ef) all_own

    -- The table of outputs with the part put back.
    pub outputs_put : (t : ℕ) (zs : List ℕ) → zs ≡ outputs_after f xs ys t
        → put_mid b (b + f.outputs - b) outs zs
        ≡ sets outs (first_output T i) (outputs_after (fields_at T i) (inputs_at T ins i) (outputs_at T outs i) t)
    outputs_put t zs e =
        let w = outputs_after (fields_at T i) (inputs_at T ins i) (outputs_at T outs i) t in
        let z : zs ≡ w = e ∙ rw (lent_inputs_are, ys_are, ef) in
        let l : length w ≡ (fields_at T i).outputs =
        outputs_after-length (fields_at T i) (inputs_at T ins i) (outputs_at T outs i) t all_own in
        let h : b ≤ b + f.outputs = omega arith in
        let r : put_mid b (b + f.outputs - b) outs zs ≡ take b outs ++ (zs ++ drop (b + f.outputs) outs) =
        rw (Post-is b (b + f.outputs) outs h) in
        let m : first_output T i + length w ≤ length outs = omega (arith, v.outputs_in) in
        let q : sets outs (first_output T i) w ≡ take (first_output T i) outs ++
        (w ++ drop (first_output T i + (fields_at T i).outputs) outs) =
        sets-eq w outs (first_output T i) m
        ∙ append_assoc (take (first_output T i) outs) w (drop (first_output T i + length w) outs)
        ∙ ap (λ (k : ℕ). take (first_output T i) outs ++ (w ++ drop (first_output T i + k) outs)) l in
        r ∙ rw (eb, z, ef) (sym q)

    -- The bits of the part that is lent are the component's.
    pub evaluated_moved : (t m : ℕ) (std : List ℕ) → m ≡ moved_outputs f xs ys t → m ≡ moved_at T t (state_at ins outs [] std) i
    evaluated_moved t m std e = e ∙ rw (lent_inputs_are, ys_are, ef)

    -- A component that is not in the standing list is not there to be struck,
    pub evaluated_unstood : (t n : ℕ) (zs std : List ℕ) → zs ≡ outputs_after f xs ys t → has i (take n std) ≡ false → n ≤ length std
        → Step n std (state_at ins (put_mid b (b + f.outputs - b) outs zs) [] (take n std))
        (evaluated T t i (state_at ins outs [] (take n std)))
    unfolding evaluated
    evaluated_unstood t n zs std e c h =
        record { count = h; state = rw (outputs_put t zs e, strike_none i (take n std) c, either (is Clock (fields_at T i)) (take n std)) }
      where
        either : (k : Bool) (l : List ℕ) → cond k l l ≡ l
        either true l = refl
        either false l = refl

    -- a Clock stays in it,
    pub evaluated_clock : (t n : ℕ) (zs std : List ℕ) → zs ≡ outputs_after f xs ys t → is Clock (fields_at T i) ≡ true → n ≤ length std
        → Step n std (state_at ins (put_mid b (b + f.outputs - b) outs zs) [] (take n std))
        (evaluated T t i (state_at ins outs [] (take n std)))
    unfolding evaluated
    evaluated_clock t n zs std e c h = record { count = h; state = rw (outputs_put t zs e, c) }

    -- and any other component is struck.
    pub evaluated_struck : (t n r : ℕ) (zs std std' : List ℕ) → zs ≡ outputs_after f xs ys t → is Clock (fields_at T i) ≡ false
        → r ≡ length (strike i (take n std)) → take r std' ≡ strike i (take n std)
        → Step r std' (state_at ins (put_mid b (b + f.outputs - b) outs zs) [] (take r std'))
        (evaluated T t i (state_at ins outs [] (take n std)))
    unfolding evaluated
    evaluated_struck t n r zs std std' e c l s =
        let m : length (take r std') ≡ r = ap length s ∙ sym l in
        record { count = omega (arith, length-take r std'); state = rw (outputs_put t zs e, c, s) }

-- The lists: what an append needs, and that a wire keeps them.
module _ (T : Tables) where
  pub append_room : (x : ℕ) (xs t : List ℕ) → names T xs ≡ true → x < T.counts.components
      → T.counts.components ≤ 256
      → 256 ≤ length t → length (append_new x xs) ≤ length t
  unfolding names
  append_room x xs t e h f l =
      omega (
        arith,
        names_length T.counts.components (append_new x xs)
            (names_append T.counts.components x xs h (names_sound T.counts.components xs e)),
      )

  pub append_names : (x : ℕ) (xs : List ℕ) → names T xs ≡ true → x < T.counts.components
      → names T (append_new x xs) ≡ true
  unfolding names
  append_names x xs e h =
      names_complete T.counts.components (append_new x xs)
      (names_append T.counts.components x xs h (names_sound T.counts.components xs e))

  pub send_names : (s : State) (w : Wire) → w.dst.comp.0 < T.counts.components → names T s.following ≡ true
      → names T (send T s w).following ≡ true
  unfolding written
  send_names s w h e = by_case (send_case T s w)
    where
      by_case : SendCase T s w → names T (send T s w).following ≡ true
      by_case (agrees p q) = rw q e
      by_case (writes p q) = rw q (append_names w.dst.comp.0 s.following e h)

-- A list that names components of few names components of many.
pub names_wider : (T U : Tables) (xs : List ℕ) → T.counts.components ≤ U.counts.components → names T xs ≡ true → names U xs ≡ true
unfolding names
names_wider T U xs h e =
    let n = names_sound T.counts.components xs e in
    names_complete U.counts.components xs (record { exist = λ x m. omega (arith, h, n.exist x m); once = n.once })

-- A list of n entries in the table t.
module _ (cs : List ℕ) (n : ℕ) (t : List ℕ) (l : ListFits (bare cs) n t) where
  pub fits_small : (j : ℕ) → j < n → get_or t j 0 < 256
  fits_small = names_entry (bare cs) n t l.count l.named

  -- It names no more components than there are.
  pub fits_few : n ≤ 256
  unfolding names
  fits_few = omega (arith, names_length 256 (take n t) (names_sound 256 (take n t) l.named), length-take-le n t l.count)

  -- Copied to another table of full size.
  pub fits_copied : (u : List ℕ) → 256 ≤ length u → take n u ≡ take n t → ListFits (bare cs) n u
  fits_copied u h e = record { whole = h; count = omega (arith, fits_few); named = ap (names (bare cs)) e ∙ l.named }

-- A step reads no counts.
module _ (cs : List ℕ) where
  pub send_bare : (s : State) (w : Wire) → send (uncounted cs []) s w ≡ send (bare cs) s w
  unfolding send
  send_bare s w = refl

  pub evaluated_bare : (t i : ℕ) (s : State) → evaluated (uncounted cs []) t i s ≡ evaluated (bare cs) t i s
  unfolding evaluated
  evaluated_bare t i s = refl

module _ (cs ws : List ℕ) (m : Counts) where
  -- Wire k of a net can be sent along.
  pub runs_reach : (ins outs : List ℕ) (k : ℕ) → CanRun (wiring cs ws m) ins outs → k < m.wires
      → CanReach (wiring cs ws m) ins outs (wire_in ws k)
  runs_reach ins outs k g h =
      record {
        few = g.few;
        rows = g.rows;
        leaves = g.leaves k h;
        named = g.named k h;
        source = g.source k h;
        target = g.target k h;
      }

  -- The list has room for what a wire enters, and stays one of names.
  module _ (ins outs : List ℕ) (w : Wire) (g : CanReach (wiring cs ws m) ins outs w) (n : ℕ) (fol : List ℕ) (l : ListFits (bare cs) n fol) where
    pub reach_sends : CanSend (uncounted cs []) ins outs n fol w
    reach_sends =
        record {
          source_row = omega (arith, g.leaves, g.rows);
          target_row = omega (arith, g.named, g.rows);
          source = g.source;
          target = g.target;
          few = omega (arith, g.named, g.few);
          count = l.count;
          room = append_room (bare cs) w.dst.comp.0 (take n fol) fol l.named (omega (arith, g.named, g.few)) (omega arith) l.whole;
        }

    pub sent_listed : (ins' fol' : List ℕ) (r : ℕ)
        → Step r fol' (state_at ins' outs (take r fol') []) (send (uncounted cs []) (state_at ins outs (take n fol) []) w)
        → length fol' ≡ length fol → ListFits (bare cs) r fol'
    unfolding send
    sent_listed ins' fol' r d e =
        record {
          whole = omega (arith, l.whole);
          count = d.count;
          named =
              ap (λ (u : State). names (bare cs) u.following) d.state
              ∙ send_names (bare cs) (state_at ins outs (take n fol) []) w (omega (arith, g.named, g.few)) l.named;
        }

-- An evaluation depends on the tables of ports by their lengths only.
pub evaluates_kept : (T : Tables) (is os ms ns : List ℕ) (i : ℕ) → CanEvaluate T is os i → length ms ≡ length is → length ns ≡ length os
    → CanEvaluate T ms ns i
evaluates_kept T is os ms ns i g e f =
    record {
      few = g.few;
      row = g.row;
      obeyed = g.obeyed;
      inputs_in = omega (arith, g.inputs_in);
      outputs_in = omega (arith, g.outputs_in);
    }

-- What a step leaves beside: sends leave the standing list, and no step reads or writes the current one.
abbrev beside : (List ℕ → List ℕ) → (List ℕ → List ℕ) → State → State
beside f g s = with_current (f s.current) (with_standing (g s.standing) s)

foldl_beside : {A : Type 0} (g : State → State) (f : State → A → State) → ((s : State) (a : A) → f (g s) a ≡ g (f s a))
    → (s : State) (xs : List A) → foldl f (g s) xs ≡ g (foldl f s xs)
foldl_beside g f h s [] = refl
foldl_beside {A} g f h s (x ∷ xs) = ap (λ (u : State). foldl f u xs) (h s x) ∙ foldl_beside g f h (f s x) xs

module _ (T : Tables) where
  send_beside : (f g : List ℕ → List ℕ) (s : State) (w : Wire) → send T (beside f g s) w ≡ beside f g (send T s w)
  unfolding send written
  send_beside f g s w = by_test (eqb (carried T s w) (received T s w))
    where
      by_test : (b : Bool) → cond b (beside f g s) (written T (beside f g s) w) ≡ beside f g (cond b s (written T s w))
      by_test true = refl
      by_test false = refl

  pub visit_current : (leaving : ℕ → List Wire) (t : ℕ) (d : List ℕ) (s : State) (i : ℕ)
      → visit T leaving t (with_current d s) i ≡ with_current d (visit T leaving t s i)
  unfolding visit evaluated
  visit_current leaving t d s i =
      foldl_beside (with_current d) (send T) (send_beside (λ l. d) (λ l. l)) (evaluated T t i s) (leaving i)

  pub visits_current : (leaving : ℕ → List Wire) (t : ℕ) (d : List ℕ) (s : State) (xs : List ℕ)
      → foldl (visit T leaving t) (with_current d s) xs ≡ with_current d (foldl (visit T leaving t) s xs)
  visits_current leaving t d s xs = foldl_beside (with_current d) (visit T leaving t) (visit_current leaving t d) s xs

  -- A component of the list, from its evaluation and its wires.
  pub visited : (leaving : ℕ → List Wire) (t i : ℕ) (ins outs fol std ins' outs' fol' std' : List ℕ)
      → state_at ins outs' [] std' ≡ evaluated T t i (state_at ins outs [] std)
      → state_at ins' outs' fol' [] ≡ foldl (send T) (state_at ins outs' fol []) (leaving i)
      → state_at ins' outs' fol' std' ≡ visit T leaving t (state_at ins outs fol std) i
  unfolding visit evaluated
  visited leaving t i ins outs fol std ins' outs' fol' std' e f =
      let o : outs' ≡ (evaluated T t i (state_at ins outs [] std)).outputs = ap (λ (u : State). u.outputs) e in
      let d : std' ≡ (evaluated T t i (state_at ins outs [] std)).standing = ap (λ (u : State). u.standing) e in
      let v : state_at ins outs' fol std' ≡ evaluated T t i (state_at ins outs fol std) = rw (o, d) in
      ap (with_standing std') f
      ∙ sym (foldl_beside (with_standing std') (send T) (send_beside (λ l. l) (λ l. std')) (state_at ins outs' fol [])
      (leaving i))
      ∙ ap (λ (u : State). foldl (send T) u (leaving i)) v

pub visit_alike : (T : Tables) (ws vs : ℕ → List Wire) (t : ℕ) (s : State) (i : ℕ) → ws i ≡ vs i → visit T ws t s i ≡ visit T vs t s i
unfolding visit
visit_alike T ws vs t s i e = ap (foldl (send T) (evaluated T t i s)) e

-- What visits need at a turn.
module _ (cs ws : List ℕ) (m : Counts) where
  pub runs_evaluates : (ins outs : List ℕ) (i : ℕ) → CanRun (wiring cs ws m) ins outs → i < m.components
      → CanEvaluate (uncounted cs []) ins outs i
  runs_evaluates ins outs i g h =
      record {
        few = omega (arith, g.few);
        row = omega (arith, g.rows, h);
        obeyed = g.obeyed i h;
        inputs_in = g.inputs_in i h;
        outputs_in = g.outputs_in i h;
      }

-- Visits read of the wires no more than those of the components that they visit.
pub visits_alike : (T : Tables) (ws vs : ℕ → List Wire) (t : ℕ) (s : State) (xs : List ℕ) → ((x : ℕ) → In x xs → ws x ≡ vs x)
    → foldl (visit T ws t) s xs ≡ foldl (visit T vs t) s xs
visits_alike T ws vs t s [] h = refl
visits_alike T ws vs t s (x ∷ xs) h =
    ap (λ (u : State). foldl (visit T ws t) u xs) (visit_alike T ws vs t s x (h x (inl refl)))
    ∙ visits_alike T ws vs t (visit T vs t s x) xs (λ y m. h y (inr m))

-- A loop over a list of components: what is still to come.
module _ (T : Tables) (leaving : ℕ → List Wire) (t : ℕ) (list : List ℕ) (q n : ℕ) (s x : State) where
  pub visits_next : (u : State) (i : ℕ) → q < n → n ≤ length list → i ≡ get_or list q 0 → u ≡ visit T leaving t s i
      → foldl (visit T leaving t) s (slice q n list) ≡ x → foldl (visit T leaving t) u (slice (q + 1) n list) ≡ x
  visits_next u i h l e eu so_far =
      let y : foldl (visit T leaving t) s (slice q n list) ≡ foldl (visit T leaving t) (visit T leaving t s (get_or list q 0))
      (slice (q + 1) n list) =
      rw (slice-cons q n list 0 h l, add-one) in
      rw (eu, e) (sym y ∙ so_far)

  pub visits_end : q ≡ n → foldl (visit T leaving t) s (slice q n list) ≡ x → s ≡ x
  visits_end h so_far = ap (foldl (visit T leaving t) s) (sym (ap (λ (k : ℕ). slice k n list) h ∙ slice_empty n list)) ∙ so_far
