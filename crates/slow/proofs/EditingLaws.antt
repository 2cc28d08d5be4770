-- Laws of edits: the number by its checks, what they give an edit that none refuses, and the tables after it.
-- Assumes nothing.
use mathlib.Core.Path.{◌≡◌, refl, sym, ap, ◌∙◌}
use Prim.Native.Nat.{ℕ, ◌≤◌, ◌<◌}
use mathlib.Core.Bool.{Bool, true, false, cond, not, ◌&&◌, ◌||◌}
use mathlib.Core.List.{List, [], ◌∷◌}
use native.Mathlib.Omega.{arith}
use borrow.Author.Tests.{leb-false, not-false}
use lib.ListN.{length, take, take-append-drop}
use lib.Seq.{length-take-le}
use lib.Dec.{leb}
use Rattle.lists.specs.Lists.{overlay, append_new, refusal, ◌if◌}
use Rattle.lists.proofs.ListsLaws.{refusal_first, refusal_rest}
use Rattle.lists.proofs.TestsLaws.{and_left}
use Rattle.kinds.specs.declared.answers.Refusal.{Refusal}
use Rattle.kinds.specs.declared.Kind.TheVariants.{Switch, Input}
use Rattle.kinds.specs.Kinds.{is, input_width, output_width}
use Rattle.kinds.specs.Given.{refusing, Verdict, verdict_gives}
use Rattle.value.specs.Value.{fits, of_width}
use Rattle.component.specs.declared.Record.{Record}
use Rattle.component.specs.Record.{record_at, record_count}
use Rattle.flatten.specs.Verdict.{verdict, and_then}
use Rattle.flatten.proofs.WireTheorems.{accepted_primitives_bound}
use Rattle.tables.specs.Tables.{Tables, fields_at}
use Rattle.tables.specs.Words.{RowInside, uncounted, fields_fit, fields_in, first_input_in, first_output_in}
use Rattle.tables.proofs.RowsLaws.{obeyed_fit}
use Rattle.laying.specs.Laid.{primitives}
use Rattle.net.specs.Net.{names}
use Rattle.rounds.specs.Round.{state_of, leave}
use Rattle.rounds.specs.Steps.{CanEvaluate}
use Rattle.rounds.proofs.StepsLaws.{append_room}
use Rattle.rounds.proofs.Evaluation.{switch_outputs, input_inputs}
use Rattle.simulator.specs.Edit.{Way, goes_first, stands, edited_state}
use Rattle.simulator.specs.Asked.{edit_refusal, inputs_set, outputs_set}
use Rattle.simulator.specs.Calls.{edit_checks}
use Rattle.simulator.proofs.EditsLaws.{port_set-ports}
use Rattle.slow.specs.declared.SlowCounts.{SlowCounts}
use Rattle.slow.specs.Slow.{SlowTables, slow_tables_of, slow_full, slow_of, drawn, led_into, slow_right, slow_number, slow_edit_number, slow_verdict}
use Rattle.slow.specs.Slow.{slow_by, slow_edit_verdict, slow_edit_tables, slow_words, SlowEdits}
use Rattle.slow.specs.Sending.{IsPrepared, set_by, drawn_inputs, drawn_outputs}
use Rattle.slow.proofs.DrawingLaws.{words_evaluate}
use Rattle.slow.proofs.PreparingLaws.{SlowSizes, slow_full-sound, lent_refused, lent_room, lent_number, accepted_behind}
use Rattle.slow.proofs.WiredLaws.{SlowParts, right_sound}
use Rattle.std.specs.Prelude.{Ok, Err}

-- Refused before its own checks.
module _ (file : List ℕ) (S : SlowTables) (i v : ℕ) where
  abbrev at : ℕ → Record
  at = record_at file

  abbrev n : ℕ
  n = record_count file

  pub edit_declined : (r : Refusal) → Err r ≡ slow_verdict file (slow_full S) (slow_number at n S)
      → (Err r ≡ slow_edit_verdict file S i v)
      × (S.inputs ≡ set_by (Err r) (drawn_inputs at n i v S.inputs) S.inputs)
      × (S.outputs ≡ set_by (Err r) (drawn_outputs at n i v S.outputs) S.outputs)
  unfolding slow_edit_verdict slow_edit_number slow_number
  edit_declined r e = (by_right (slow_right at n S) e, refl, refl)
    where
      by_right : (b : Bool) → Err r ≡ slow_verdict file (slow_full S) (refusal ((20 if not b) ∷ []))
          → Err r ≡ slow_verdict file (slow_full S)
          (refusal ((20 if not b) ∷ edit_checks (length (primitives at n)) (fields_at (drawn at n S) i) (led_into at n i) i v))
      by_right true h =
          lent_refused file (slow_full S) r
          (refusal (edit_checks (length (primitives at n)) (fields_at (drawn at n S) i) (led_into at n i) i v)) h
      by_right false h = h

-- Past the checks before.
module _ (file ix fs cs : List ℕ) (k : ℕ) (ins outs cur fol std : List ℕ) (m : SlowCounts)
    (p : IsPrepared file ix fs cs k (slow_tables_of ins outs cur fol std m)) (i : ℕ) where
  abbrev S : SlowTables
  S = slow_tables_of ins outs cur fol std m

  abbrev D : Tables
  D = drawn (record_at file) (record_count file) S

  sizes : SlowSizes S
  sizes = slow_full-sound S p.full

  parts : SlowParts (record_at file) (record_count file) S
  parts = right_sound (record_at file) (record_count file) S p.right

  few : k ≤ 256
  few = omega (arith, p.count, accepted_primitives_bound file p.ready.accepted)

  given : i < k → CanEvaluate (uncounted cs []) ins outs i
  given h = words_evaluate file cs ins outs p.ready.accepted p.words sizes.inputs sizes.outputs i (omega (arith, h, p.count))

  pub row_there : i < k → RowInside cs i × (fields_fit (fields_in cs i) ≡ true)
  row_there h = ((given h).row, obeyed_fit (fields_in cs i) (given h).obeyed)

  module _ (v : ℕ) where
    abbrev entered : Bool
    entered = led_into (record_at file) (record_count file) i

    abbrev own : ℕ
    own = edit_refusal cs k entered i v

    -- The edit's verdict, by the number of its own checks.
    edit_verdict : (Ok tt) ≡ slow_verdict file (slow_full S) (slow_number (record_at file) (record_count file) S)
        → slow_edit_verdict file S i v ≡ and_then (Ok tt) own
    unfolding slow_edit_verdict slow_edit_number slow_number edit_refusal
    edit_verdict h =
        (λ j. slow_verdict file (slow_full S) (refusal ((20 if not (p.right j))
        ∷ edit_checks (sym p.count j) (fields_in (sym p.words j) i) entered i v)))
        ∙ accepted_behind file (slow_full S) (refusal ((20 if not (slow_right (record_at file) (record_count file) S)) ∷ [])) own
        (ap (λ (b : Bool). refusal ((20 if not b) ∷ [])) p.right) h

    pub edit_refused : (Ok tt) ≡ slow_verdict file (slow_full S) (slow_number (record_at file) (record_count file) S) → (said : Verdict) → said ≡ refusing own
        → (r : Refusal) → said ≡ Err r
        → (Err r ≡ slow_edit_verdict file S i v) × (ins ≡ set_by (Err r) (drawn_inputs (record_at file) (record_count file) i v ins) ins)
        × (outs ≡ set_by (Err r) (drawn_outputs (record_at file) (record_count file) i v outs) outs)
    edit_refused h said e r f = (sym f ∙ e ∙ sym (edit_verdict h), refl, refl)

    pub edit_passed : (Ok tt) ≡ slow_verdict file (slow_full S) (slow_number (record_at file) (record_count file) S) → own ≡ 0 → (ins' outs' : List ℕ)
        → ins' ≡ inputs_set cs i v ins → outs' ≡ outputs_set cs i v outs
        → ((Ok tt) ≡ slow_edit_verdict file S i v) × (ins' ≡ drawn_inputs (record_at file) (record_count file) i v ins)
        × (outs' ≡ drawn_outputs (record_at file) (record_count file) i v outs)
    edit_passed h z ins' outs' ei eo = (
      sym (edit_verdict h ∙ ap (and_then (Ok tt)) z),
      ei ∙ ap (λ (l : List ℕ). inputs_set l i v ins) p.words,
      eo ∙ ap (λ (l : List ℕ). outputs_set l i v outs) p.words,
    )

    -- Its own checks give none: the component and its port are there.
    module _ (z : own ≡ 0) where
      abbrev settable : Bool
      settable = is Switch (fields_in cs i) || (is Input (fields_in cs i) && not entered)

      abbrev from_19 : List (ℕ × Bool)
      from_19 = (19 if not (fits (of_width (cond (is Switch (fields_in cs i)) (output_width (fields_in cs i)) (input_width (fields_in cs i))) v))) ∷ []

      abbrev from_18 : List (ℕ × Bool)
      from_18 = (18 if not settable) ∷ from_19

      all : refusal ((17 if leb k i) ∷ from_18) ≡ 0
      unfolding edit_refusal
      all = z

      pub edit_there : i < k
      edit_there = leb-false k i (refusal_first 17 (leb k i) from_18 (λ q. omega arith) all)

      is_settable : settable ≡ true
      is_settable =
          not-false settable (refusal_first 18 (not settable) from_19 (λ q. omega arith) (refusal_rest 17 (leb k i) from_18 (λ q. omega arith) all))

      pub number_given : RowInside cs i
      number_given = (given edit_there).row

      pub port_output : is Switch (fields_in cs i) ≡ true → first_output_in cs i < length outs
      port_output s = omega (arith, switch_outputs (fields_in cs i) (given edit_there).obeyed s, (given edit_there).outputs_in)

      pub port_input : (is Switch (fields_in cs i) ≡ true → ⊥) → first_input_in cs i < length ins
      port_input ne =
          let q : is Input (fields_in cs i) ≡ true = an_input (is Switch (fields_in cs i)) (is Input (fields_in cs i)) entered is_settable ne in
          omega (arith, input_inputs (fields_in cs i) (given edit_there).obeyed q, (given edit_there).inputs_in)
        where
          an_input : (s q d : Bool) → (s || (q && not d)) ≡ true → (s ≡ true → ⊥) → q ≡ true
          an_input true q d e h = absurd (h refl)
          an_input false q d e h = and_left q (not d) e

-- A table with its own list at its front.
overlay_same : (n : ℕ) (t : List ℕ) → n ≤ length t → overlay (take n t) t ≡ t
unfolding overlay
overlay_same n t h = rw (length-take-le n t h) (take-append-drop n t)

-- The call, of tables as a function is lent them.
module _ (file ins outs cur fol std : List ℕ) (m : SlowCounts) (i v : ℕ) where
  abbrev came : SlowTables
  came = slow_tables_of ins outs cur fol std m

  abbrev at_file : ℕ → Record
  at_file = record_at file

  abbrev many : ℕ
  many = record_count file

  abbrev drawing : Tables
  drawing = drawn at_file many came

  abbrev made : Way → SlowTables
  made way = slow_of (leave drawing (edited_state drawing way i v (state_of drawing)))

  -- Refused: nothing was written.
  module _ (u : Verdict) (eu : u ≡ slow_edit_verdict file came i v) (ins' outs' : List ℕ) (ei : ins' ≡ set_by u (drawn_inputs at_file many i v ins) ins)
      (eo : outs' ≡ set_by u (drawn_outputs at_file many i v outs) outs) where
    pub edits_refused : (way : Way) (r : Refusal) → u ≡ Err r → SlowEdits file way i v came (Err r) (slow_tables_of ins' outs' cur fol std m)
    unfolding slow_edit_tables
    edits_refused way r e =
        let d = sym e ∙ eu in (
          ap (λ (w : Verdict). verdict_gives w (slow_words m)) d,
          (λ j. slow_tables_of ((ei ∙ ap (λ (w : Verdict). set_by w (drawn_inputs at_file many i v ins) ins) e) j)
              ((eo ∙ ap (λ (w : Verdict). set_by w (drawn_outputs at_file many i v outs) outs) e) j) cur fol std m)
              ∙ ap (λ (w : Verdict). slow_by w (made way) came) d,
        )

    -- Not refused: the component is there, and its list has room.
    module _ (e : u ≡ Ok tt) where
      passed : (Ok tt) ≡ slow_edit_verdict file came i v
      passed = sym e ∙ eu

      full : slow_full came ≡ true
      unfolding slow_edit_verdict
      full = lent_room file (slow_full came) (slow_edit_number at_file many came i v) passed

      numbered : slow_edit_number at_file many came i v ≡ 0
      unfolding slow_edit_verdict
      numbered = (lent_number file (slow_full came) (slow_edit_number at_file many came i v) passed).0

      accepted : verdict file ≡ Ok tt
      unfolding slow_edit_verdict
      accepted = (lent_number file (slow_full came) (slow_edit_number at_file many came i v) passed).1

      abbrev own_checks : List (ℕ × Bool)
      own_checks = edit_checks (length (primitives at_file many)) (fields_at drawing i) (led_into at_file many i) i v

      abbrev later_checks : List (ℕ × Bool)
      later_checks =
          (18 if not (is Switch (fields_at drawing i) || (is Input (fields_at drawing i) && not (led_into at_file many i))))
          ∷ (19 if not (fits (of_width (cond (is Switch (fields_at drawing i)) (output_width (fields_at drawing i)) (input_width (fields_at drawing i))) v)))
          ∷ []

      right : slow_right at_file many came ≡ true
      unfolding slow_edit_number
      right = not-false (slow_right at_file many came)
          (refusal_first 20 (not (slow_right at_file many came)) own_checks (λ q. omega arith) numbered)

      there : i < length (primitives at_file many)
      unfolding slow_edit_number
      there =
          leb-false (length (primitives at_file many)) i
          (refusal_first 17 (leb (length (primitives at_file many)) i) later_checks (λ q. omega arith)
          (refusal_rest 20 (not (slow_right at_file many came)) own_checks (λ q. omega arith) numbered))

      sizes_are : SlowSizes came
      sizes_are = slow_full-sound came full

      parts_are : SlowParts at_file many came
      parts_are = right_sound at_file many came right

      few_there : length (primitives at_file many) ≤ 256
      few_there = accepted_primitives_bound file accepted

      pub edits_index : i < 65536
      edits_index = omega (arith, there, few_there)

      in_current_lem : m.current ≤ length cur
      in_current_lem = omega (arith, parts_are.current, sizes_are.current)

      in_following_lem : m.following ≤ length fol
      in_following_lem = omega (arith, parts_are.following, sizes_are.following)

      in_standing_lem : m.standing ≤ length std
      in_standing_lem = omega (arith, parts_are.standing, sizes_are.standing)

      room : (l t : List ℕ) → names drawing l ≡ true → 256 ≤ length t → length (append_new i l) ≤ length t
      room l t named size = append_room drawing i l t named there few_there size

      pub edits_room_first : (m.current ≤ length cur) × (length (append_new i (take m.current cur)) ≤ length cur)
      edits_room_first = (in_current_lem, room (take m.current cur) cur parts_are.names_current sizes_are.current)

      pub edits_room_standing : (m.standing ≤ length std) × (length (append_new i (take m.standing std)) ≤ length std)
      edits_room_standing = (in_standing_lem, room (take m.standing std) std parts_are.names_standing sizes_are.standing)

      -- The counts with those of the current and the standing list put anew.
      abbrev counted : ℕ → ℕ → SlowCounts
      counted c d = record { inputs = m.inputs; outputs = m.outputs; current = c; following = m.following; standing = d }

      set_inputs : ins' ≡ drawn_inputs at_file many i v ins
      set_inputs = ei ∙ ap (λ (w : Verdict). set_by w (drawn_inputs at_file many i v ins) ins) e

      set_outputs : outs' ≡ drawn_outputs at_file many i v outs
      set_outputs = eo ∙ ap (λ (w : Verdict). set_by w (drawn_outputs at_file many i v outs) outs) e

      done : (way : Way) (L : SlowTables) → L ≡ made way → SlowEdits file way i v came (Ok L.counts) L
      unfolding slow_edit_tables
      done way L el = (
        ap (λ (w : Verdict). verdict_gives w (slow_words L.counts)) passed,
        el ∙ ap (λ (w : Verdict). slow_by w (made way) came) passed,
      )

      laid-goes_first : (cur' : List ℕ) (c : ℕ) → c ≡ length (append_new i (take m.current cur)) → cur' ≡ overlay (append_new i (take m.current cur)) cur
          → slow_tables_of ins' outs' cur' fol std (counted c m.standing) ≡ made goes_first
      unfolding leave edited_state
      laid-goes_first cur' c en es =
          rw (
            port_set-ports drawing i v (state_of drawing),
            set_inputs,
            set_outputs,
            en,
            es,
            overlay_same m.following fol in_following_lem,
            overlay_same m.standing std in_standing_lem,
            length-take-le m.following fol in_following_lem,
            length-take-le m.standing std in_standing_lem,
          )

      -- The component goes first: the current list has it,
      pub edits_first : (cur' : List ℕ) (c : ℕ) → c ≡ length (append_new i (take m.current cur))
          → cur' ≡ overlay (append_new i (take m.current cur)) cur
          → SlowEdits file goes_first i v came (Ok (counted c m.standing)) (slow_tables_of ins' outs' cur' fol std (counted c m.standing))
      edits_first cur' c en es = done goes_first (slow_tables_of ins' outs' cur' fol std (counted c m.standing)) (laid-goes_first cur' c en es)

      laid_stands : (std' : List ℕ) (d : ℕ) → d ≡ length (append_new i (take m.standing std)) → std' ≡ overlay (append_new i (take m.standing std)) std
          → slow_tables_of ins' outs' cur fol std' (counted m.current d) ≡ made stands
      unfolding leave edited_state
      laid_stands std' d en es =
          rw (
            port_set-ports drawing i v (state_of drawing),
            set_inputs,
            set_outputs,
            en,
            es,
            overlay_same m.current cur in_current_lem,
            overlay_same m.following fol in_following_lem,
            length-take-le m.current cur in_current_lem,
            length-take-le m.following fol in_following_lem,
          )

      -- or it stands: the standing list has it.
      pub edits_stand : (std' : List ℕ) (d : ℕ) → d ≡ length (append_new i (take m.standing std))
          → std' ≡ overlay (append_new i (take m.standing std)) std
          → SlowEdits file stands i v came (Ok (counted m.current d)) (slow_tables_of ins' outs' cur fol std' (counted m.current d))
      edits_stand std' d en es = done stands (slow_tables_of ins' outs' cur fol std' (counted m.current d)) (laid_stands std' d en es)
