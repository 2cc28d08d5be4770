-- Laws of a whole load: the tables that the passes leave are those of the definition, and each way out of the judgement
-- and of the load is one of its cases.
-- Assumes nothing.
use mathlib.Core.Path.{◌≡◌, refl, sym, ap, ◌∙◌}
use mathlib.Core.Bool.{Bool, true, false, cond}
use mathlib.Core.List.{List}
use Prim.Native.Nat.{ℕ, ◌+◌, ◌≤◌}
use native.Mathlib.Omega.{arith}
use lib.ListN.{length, take, replicate, length-replicate}
use lib.Seq.{sets}
use Rattle.lists.specs.Lists.{from, joined, overlay}
use Rattle.lists.proofs.MembersLaws.{from_length}
use Rattle.lists.proofs.OverlayLaws.{sets_overlay}
use Rattle.kinds.specs.declared.answers.Refusal.{Refusal}
use Rattle.kinds.specs.Given.{refused_by, Verdict}
use Rattle.component.specs.Record.{record_at, record_count, sized}
use Rattle.flatten.specs.Verdict.{refused, verdict}
use Rattle.flatten.proofs.Accepted.{refused_not, accepted_passed}
use Rattle.flatten.proofs.WireTheorems.{accepted_primitives_bound, accepted_inputs_bound}
use Rattle.meeting.specs.Meeting.{judgement}
use Rattle.meeting.proofs.MeetingLaws.{judgement_accepted}
use Rattle.tables.specs.declared.Counts.{Counts}
use Rattle.tables.specs.Tables.{Tables, tables_of, full_size, wire_words}
use Rattle.tables.proofs.SizesLaws.{full_size-sound}
use Rattle.tables.proofs.NamedLaws.{overlay_list, overlay_count}
use Rattle.laying.specs.declared.rows.Before.{Before}
use Rattle.laying.specs.Laid.{primitives, primitive_words, flat_wires, standing_at_load}
use Rattle.laying.specs.Laying.{before_at, starting_of}
use Rattle.laying.proofs.StandingLaws.{standing_bound}
use Rattle.load.specs.Load.{drawing_tables, load_verdict, load_tables, Loads}
use Rattle.std.specs.Prelude.{Ok, Err}

-- There is room for what the passes write.
module _ (s : List ℕ) (accepted : verdict s ≡ Ok tt) (t : List ℕ) where
  pub inputs_room : (b : Before) → b ≡ before_at (record_at s) (record_count s) (record_count s) → 1024 ≤ length t
      → 0 + b.inputs ≤ length t
  inputs_room b e full = omega (arith, ap (λ (x : Before). x.inputs) e, accepted_inputs_bound s accepted)

  pub current_room : (b : Before) → b ≡ before_at (record_at s) (record_count s) (record_count s) → 256 ≤ length t
      → (b.components ≤ length t) × (b.components ≤ 256)
  current_room b e full =
      let z = ap (λ (x : Before). x.components) e in
      let few = accepted_primitives_bound s accepted in
      (omega arith, omega arith)

  pub copy_room : (u v : List ℕ) (k : ℕ) → v ≡ overlay (standing_at_load (record_at s) (record_count s)) u
      → k ≡ length (standing_at_load (record_at s) (record_count s)) → 256 ≤ length t → (k ≤ length v) × (k ≤ length t)
  copy_room u v k e d full =
      let long = overlay_count (standing_at_load (record_at s) (record_count s)) u k d in
      (rw e long, omega (arith, standing_bound (record_at s) (record_count s) (accepted_passed s accepted)))

-- What the passes leave of the tables T, whose inputs and current list are of full size, for an accepted file.
module _ (s : List ℕ) (accepted : verdict s ≡ Ok tt) (T : Tables) (is : 1024 ≤ length T.inputs)
    (cur : 256 ≤ length T.current)
    (b : Before) (eb : b ≡ before_at (record_at s) (record_count s) (record_count s)) where
  filled_inputs : (u : List ℕ) → u ≡ sets T.inputs 0 (replicate b.inputs 0)
      → u ≡ (drawing_tables (record_at s) (record_count s) T).inputs
  unfolding drawing_tables
  filled_inputs u e =
      let few = accepted_inputs_bound s accepted in
      let many = length-replicate {A = ℕ} b.inputs 0 in
      e ∙ sets_overlay (replicate b.inputs 0) T.inputs (omega (arith, ap (λ (x : Before). x.inputs) eb))
      ∙ ap (λ (x : Before). overlay (replicate x.inputs 0) T.inputs) eb

  filled_current : (u : List ℕ) → u ≡ sets T.current 0 (from 0 b.components)
      → u ≡ (drawing_tables (record_at s) (record_count s) T).current
  unfolding drawing_tables
  filled_current u e =
      let few = accepted_primitives_bound s accepted in
      let many = from_length 0 b.components in
      e ∙ sets_overlay (from 0 b.components) T.current (omega (arith, ap (λ (x : Before). x.components) eb))
      ∙ ap (λ (x : Before). overlay (from 0 x.components) T.current) eb

  pub filled : (cs ins os ws cs' fs ss : List ℕ) (w k : ℕ)
      → cs ≡ overlay (joined (primitive_words (record_at s) (record_count s)) (primitives (record_at s) (record_count s)))
      T.components
      → ins ≡ sets T.inputs 0 (replicate b.inputs 0)
      → os ≡ overlay (joined (starting_of (record_at s)) (primitives (record_at s) (record_count s))) T.outputs
      → ws ≡ overlay (joined wire_words (flat_wires (record_at s) (record_count s))) T.wires
      → w ≡ length (flat_wires (record_at s) (record_count s))
      → cs' ≡ sets T.current 0 (from 0 b.components)
      → ss ≡ overlay (standing_at_load (record_at s) (record_count s)) T.standing
      → k ≡ length (standing_at_load (record_at s) (record_count s))
      → fs ≡ overlay (take k ss) T.following
      → tables_of cs ins os ws cs' fs ss
      (record {
        components = b.components;
        inputs = b.inputs;
        outputs = b.outputs;
        wires = w;
        current = b.components;
        following = k;
        standing = k;
      })
      ≡ drawing_tables (record_at s) (record_count s) T
  unfolding drawing_tables
  filled cs ins os ws cs' fs ss w k ecs eins eos ews ew ecur ess ek efs =
      let copied : take k ss ≡ standing_at_load (record_at s) (record_count s) =
      ap (take k) ess ∙ overlay_list (standing_at_load (record_at s) (record_count s)) T.standing k ek in
      let fol = efs ∙ ap (λ (l : List ℕ). overlay l T.following) copied in
      let first = filled_inputs ins eins in
      let all = filled_current cs' ecur in
      λ j. tables_of (ecs j) (first j) (eos j) (ews j) (all j) (fol j) (ess j) (record {
        components = (eb j).components;
        inputs = (eb j).inputs;
        outputs = (eb j).outputs;
        wires = ew j;
        current = (eb j).components;
        following = ek j;
        standing = ek j;
      })

-- What an accepted load has passed: check 2, and the judgement of the file.
pub record IsLoad (file : List ℕ) (T : Tables) : Type 0 where
  pub full : full_size T ≡ true
  pub judged : verdict file ≡ Ok tt

pub load_passed : (file : List ℕ) (T : Tables) → load_verdict file T ≡ Ok tt → IsLoad file T
unfolding load_verdict
load_passed file T accepted = by_size (sized file) (full_size T) refl accepted
  where
    by_size : (b c : Bool) → full_size T ≡ c → cond b (cond c (judgement file) (refused 2 0)) (refused 1 0) ≡ Ok tt
        → IsLoad file T
    by_size true true s e = record { full = s; judged = judgement_accepted file e }
    by_size true false s e = absurd (refused_not 2 0 e)
    by_size false c s e = absurd (refused_not 1 0 e)

-- The ways out of the judgement: 1; 2; and 0 or 3 to 15.
module _ (s : List ℕ) (T : Tables) where
  pub judge_unsized : sized s ≡ false → (r : Refusal) → r ≡ refused_by 1 → Err r ≡ load_verdict s T
  unfolding load_verdict
  judge_unsized e r d = rw (e, d)

  module _ (sz : sized s ≡ true) where
    pub judge_short : full_size T ≡ false → (r : Refusal) → r ≡ refused_by 2 → Err r ≡ load_verdict s T
    unfolding load_verdict
    judge_short e r d = rw (sz, e, d)

    pub judge_file : full_size T ≡ true → (v : Verdict) → v ≡ judgement s → v ≡ load_verdict s T
    unfolding load_verdict
    judge_file full v e = rw (sz, full, e)

module _ (s cs is os ws cur fol std : List ℕ) where
  abbrev lent : Counts → Tables
  lent = tables_of cs is os ws cur fol std

  -- A load looks at no counts.
  pub load_uncounted : (m k : Counts) → load_verdict s (lent m) ≡ load_verdict s (lent k)
  unfolding load_verdict full_size
  load_uncounted m k = refl

  -- The ways out of a load whose verdict is v.
  module _ (k : Counts) (v : Verdict) (h : v ≡ load_verdict s (lent k)) where
    pub load_refused : (r : Refusal) → v ≡ Err r → (m : Counts) → Loads s (lent m) (Err r) (lent m)
    unfolding load_tables
    load_refused r e m = rw (load_uncounted m k ∙ sym h ∙ e) (refl, refl)

    module _ (e : v ≡ Ok tt) where
      -- The file is accepted, and each table is of full size.
      pub load_ready : (verdict s ≡ Ok tt) × (2048 ≤ length cs) × (1024 ≤ length is) × (1024 ≤ length os)
          × (4096 ≤ length ws)
          × (256 ≤ length cur) × (256 ≤ length fol) × (256 ≤ length std)
      load_ready =
          let p = load_passed s (lent k) (sym h ∙ e) in
          let f = full_size-sound (lent k) p.full in
          (p.judged, f.components, f.inputs, f.outputs, f.wires, f.current, f.following, f.standing)

      pub load_done : (cs' is' os' ws' cur' fol' std' : List ℕ) (c : Counts)
          → tables_of cs' is' os' ws' cur' fol' std' c ≡ drawing_tables (record_at s) (record_count s) (lent c)
          → (m : Counts) → Loads s (lent m) (Ok c) (tables_of cs' is' os' ws' cur' fol' std' c)
      unfolding load_tables drawing_tables
      load_done cs' is' os' ws' cur' fol' std' c d m = rw (load_uncounted m k ∙ sym h ∙ e) (refl, d)
