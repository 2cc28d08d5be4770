-- What a port of a component shows: it is a port of a primitive that is there, and its value stands in tables that hold the drawing's primitives; and what a
-- side and both sides show has room in the lists.
--   IsPort side at p    p is a port, on a side, of a primitive that is there
-- Assumes nothing.
use mathlib.Core.Path.{◌≡◌, refl, sym, ap, ◌∙◌, subst}
use mathlib.Core.Logic.{inl, inr}
use Prim.Native.Nat.{ℕ, suc, ◌+◌, ◌<◌, ◌≤◌}
use native.Mathlib.Nat.{zero-add}
use native.Mathlib.Numerals.{add-one}
use native.Mathlib.Omega.{arith}
use mathlib.Core.Bool.{true, false, true≢false}
use mathlib.Core.List.{List, [], ◌∷◌, ◌++◌, map}
use lib.ListN.{length, set, length-map, length-append}
use lib.Seq.{sets, length-sets}
use lib.Dec.{eqb}
use borrow.Author.Tests.{ne_eqb}
use Rattle.lists.specs.Lists.{from, overlay}
use Rattle.lists.proofs.MembersLaws.{In, any_none, from0_complete, from_length, from_last, map_append}
use Rattle.lists.proofs.OverlayLaws.{sets_append, sets_overlay}
use Rattle.kinds.specs.declared.table.Fields.{Fields}
use Rattle.value.specs.declared.Value.{Value}
use Rattle.component.specs.declared.Record.{Record}
use Rattle.component.specs.Record.{record_at, record_count, fields_of, inputs_of, outputs_of, is_primitive}
use Rattle.component.specs.Drawing.{deepest}
use Rattle.flatten.specs.declared.Pin.{Pin}
use Rattle.flatten.specs.Descent.{pin, flat}
use Rattle.flatten.specs.Verdict.{verdict}
use Rattle.flatten.proofs.Accepted.{Passed, accepted_passed}
use Rattle.flatten.proofs.Components.{primitive_component, component_number}
use Rattle.flatten.proofs.DescentLeads.{targets_sound, source_sound}
use Rattle.flatten.proofs.Ends.{IsInput, IsOutput, into_there, from_there_lem}
use Rattle.tables.specs.declared.End.{End}
use Rattle.tables.specs.Words.{uncounted, fields_in}
use Rattle.laying.specs.Laying.{IsFlat, end_by}
use Rattle.lists.proofs.LayingLaws.{sets_next}
use Rattle.questions.specs.declared.Side.{Side}
use Rattle.questions.specs.declared.Side.TheVariants.{Inputs, Outputs}
use Rattle.questions.specs.Questions.{port_count, value_at}
use Rattle.questions.specs.Asked.{RowRight}
use Rattle.boxes.specs.Boxes.{last_of, ports_on, behind, dangling, port_shown}
use Rattle.look.specs.Look.{shown_on, shown}
use Rattle.look.specs.Looking.{RowsHeld, ported, value_shown}
use Rattle.look.proofs.FewPorts.{ports_few}
use Rattle.std.specs.Prelude.{Ok}

-- The last of a list that is not empty is in it.
last_in : (z : Pin) (xs : List Pin) → eqb (length xs) 0 ≡ false → In (last_of z xs) xs
last_in z [] e = absurd (true≢false e)
last_in z (x ∷ []) e = inl refl
last_in z (x ∷ y ∷ ys) e = inr (last_in x (y ∷ ys) (ne_eqb (suc (length ys)) 0 (λ h. omega (arith, h))))

abbrev pub IsPort : Side → (ℕ → Record) → Pin → Type 0
IsPort Inputs at t = IsInput at t
IsPort Outputs at s = IsOutput at s

-- Of a drawing that passes the checks before 15, and a component without an open input.
module _ (at : ℕ → Record) (n : ℕ) (d : Passed at n) where
  port_there : (side : Side) (c i : ℕ) → dangling at n c ≡ false → i < ports_on side (at c) → IsPort side at (port_shown at n side c i)
  unfolding dangling
  port_there Inputs c i e l =
      let full = any_none (λ j. eqb (length (behind at n c j)) 0) i (from 0 (inputs_of (at c))) e (from0_complete (inputs_of (at c)) i l) in
      into_there at n d c i _ l (targets_sound at n deepest c i _ (last_in (pin n 0) (behind at n c i) full))
  port_there Outputs c i e l = from_there_lem at n d c i _ l (source_sound at n d 0 deepest c i (zero-add deepest) refl l)

  port_primitive : (side : Side) (p : Pin) → IsPort side at p → is_primitive (at p.comp) ≡ true
  port_primitive Inputs p h = h.of_primitive
  port_primitive Outputs p h = h.of_primitive

-- Each port that a look shows of a component without an open input, in an accepted drawing, is a port of a primitive that is there.
pub shown_there_lem : (file : List ℕ) → verdict file ≡ Ok tt → (side : Side) (c i : ℕ) → dangling (record_at file) (record_count file) c ≡ false
    → i < ports_on side (record_at file c) → IsPort side (record_at file) (port_shown (record_at file) (record_count file) side c i)
shown_there_lem file accepted = port_there (record_at file) (record_count file) (accepted_passed file accepted)

-- Port i of component c on a side, in tables that hold the drawing's primitives, fs being its flat indexes.
module _ (s fs cs is os : List ℕ) (accepted : verdict s ≡ Ok tt) (flats : IsFlat (record_at s) (record_count s) fs)
    (rows : RowsHeld (record_at s) (record_count s) cs is os) (side : Side) (c i : ℕ)
    (closed : dangling (record_at s) (record_count s) c ≡ false) (there : i < ports_on side (record_at s c))
    (p : Pin) (shows : p ≡ port_shown (record_at s) (record_count s) side c i) where
  abbrev at : ℕ → Record
  at = record_at s

  abbrev n : ℕ
  n = record_count s

  port : IsPort side at p
  port = subst (IsPort side at) (sym shows) (shown_there_lem s accepted side c i closed there)

  primitive : is_primitive (at p.comp) ≡ true
  primitive = port_primitive at n (accepted_passed s accepted) side p port

  pub shown_number : p.comp < 256
  shown_number = component_number at n (accepted_passed s accepted) p.comp (primitive_component (at p.comp) primitive)

  -- Its place in the tables.
  module _ (e : End) (ends : e ≡ end_by fs p) where
    index : e.comp.0 ≡ flat at n p.comp
    index = ap (λ (x : End). x.comp.0) ends ∙ flats.word p.comp shown_number

    pub shown_row : RowRight cs is os e.comp.0
    shown_row = subst (RowRight cs is os) (sym index) (rows.row p.comp primitive)

    fields : fields_in cs e.comp.0 ≡ fields_of (at p.comp)
    fields = ap (fields_in cs) index ∙ rows.fields p.comp primitive

    pub shown_port : e.port < port_count (uncounted cs []) side e.comp.0
    shown_port = by_side side port
      where
        by_side : (x : Side) → IsPort x at p → e.port < port_count (uncounted cs []) x e.comp.0
        by_side Inputs h = omega (arith, h.there, ap (λ (f : Fields). f.inputs) fields, ap (λ (x : End). x.port) ends)
        by_side Outputs h = omega (arith, h.there, ap (λ (f : Fields). f.outputs) fields, ap (λ (x : End). x.port) ends)

    pub shown_value : (v : Value) → v ≡ value_at (ported cs is os) side e.comp.0 e.port → v ≡ value_shown at n (ported cs is os) side c i
    shown_value v h =
        h ∙ (λ j. value_at (ported cs is os) side (index j) (ends j).port)
        ∙ ap (λ (x : Pin). value_at (ported cs is os) side (flat at n x.comp) x.port) shows

-- One port more is shown: g is a value's number or its width, shows j what port j shows.
pub shown_step : (g : Value → ℕ) (shows : ℕ → Value) (t u : List ℕ) (k i : ℕ) (v : Value) → u ≡ sets t k (map g (map shows (from 0 i))) → v ≡ shows i
    → set u (k + i) (g v) ≡ sets t k (map g (map shows (from 0 (i + 1))))
shown_step g shows t u k i v e h =
    let many : k + i ≡ k + length (map g (map shows (from 0 i))) =
    omega (arith, length-map (map shows (from 0 i)) g, length-map (from 0 i) shows, from_length 0 i) in
    let more : map g (map shows (from 0 (i + 1))) ≡ map g (map shows (from 0 i)) ++ (g (shows i) ∷ []) =
    ap (λ (j : ℕ). map g (map shows (from 0 j))) (add-one i) ∙ ap (λ (l : List ℕ). map g (map shows l)) (from_last i)
    ∙ ap (map g) (map_append shows (from 0 i) (i ∷ [])) ∙ map_append g (map shows (from 0 i)) (shows i ∷ []) in
    ap (λ (l : List ℕ). set l (k + i) (g v)) e ∙ ap (λ (j : ℕ). set (sets t k (map g (map shows (from 0 i)))) j (g v)) many
    ∙ ap (λ (x : Value). set (sets t k (map g (map shows (from 0 i)))) (k + length (map g (map shows (from 0 i)))) (g x)) h
    ∙ sets_next t k (map g (map shows (from 0 i))) (g (shows i)) ∙ ap (sets t k) (sym more)

-- Both sides are shown, the second behind the first, k being how many ports the first has.
module _ (s cs is os : List ℕ) (accepted : verdict s ≡ Ok tt) (c k : ℕ) (ports : k ≡ inputs_of (record_at s c)) (g : Value → ℕ) where
  abbrev shown_there : Side → List Value
  shown_there side = shown_on (record_at s) (record_count s) (ported cs is os) side c

  side_length : (side : Side) → length (map g (shown_there side)) ≡ ports_on side (record_at s c)
  side_length side =
      length-map (shown_there side) g ∙ length-map (from 0 (ports_on side (record_at s c))) _ ∙ from_length 0 (ports_on side (record_at s c))

  pub first_room : (t : List ℕ) → 256 ≤ length t → 0 + k ≤ length t
  first_room t full = omega (arith, ports, (ports_few s accepted c).0)

  module _ (t u : List ℕ) (full : 256 ≤ length t) (inputs : u ≡ sets t 0 (map g (shown_there Inputs))) where
    pub second_room : (m : ℕ) → m ≡ outputs_of (record_at s c) → k + m ≤ length u
    second_room m e =
        omega (
          arith,
          ports,
          e,
          (ports_few s accepted c).0,
          (ports_few s accepted c).1,
          ap (λ (l : List ℕ). length l) inputs,
          length-sets t 0 (map g (shown_there Inputs)),
        )

    pub both_shown : (v : List ℕ) → v ≡ sets u k (map g (shown_there Outputs))
        → v ≡ overlay (map g (shown (record_at s) (record_count s) (ported cs is os) c)) t
    unfolding shown
    both_shown v outputs =
        let place : k ≡ 0 + length (map g (shown_there Inputs)) = omega (arith, ports, side_length Inputs) in
        let both = map_append g (shown_there Inputs) (shown_there Outputs) in
        let room : length (map g (shown_there Inputs ++ shown_there Outputs)) ≤ length t =
        omega (
          arith,
          ap (λ (l : List ℕ). length l) both,
          length-append (map g (shown_there Inputs)) (map g (shown_there Outputs)),
          side_length Inputs,
          side_length Outputs,
          (ports_few s accepted c).0,
          (ports_few s accepted c).1,
        ) in
        outputs ∙ ap (λ (l : List ℕ). sets l k (map g (shown_there Outputs))) inputs
        ∙ ap (λ (j : ℕ). sets (sets t 0 (map g (shown_there Inputs))) j (map g (shown_there Outputs))) place
        ∙ sym (sets_append t 0 (map g (shown_there Inputs)) (map g (shown_there Outputs)))
        ∙ ap (sets t 0) (sym both) ∙ sets_overlay (map g (shown_there Inputs ++ shown_there Outputs)) t room
