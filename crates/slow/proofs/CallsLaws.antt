-- The calls: the answer and the tables of a refused call and of one that is made.
-- Assumes nothing.
use mathlib.Core.Path.{◌≡◌, refl, sym, ap, ◌∙◌, subst}
use Prim.Native.Nat.{ℕ, ◌≤◌, ◌<◌}
use mathlib.Core.Bool.{true, ◌&&◌}
use mathlib.Core.List.{List, [], ◌∷◌}
use native.Mathlib.Omega.{arith}
use lib.ListN.{length, get_or, take, replicate}
use lib.Seq.{sets}
use lib.Dec.{leb}
use Rattle.lists.specs.Lists.{from, joined, overlay}
use Rattle.kinds.specs.declared.answers.Refusal.{Refusal}
use Rattle.kinds.specs.Kinds.{is}
use Rattle.component.specs.declared.Record.{Record}
use Rattle.component.specs.Record.{record_at, record_count}
use Rattle.flatten.specs.Verdict.{verdict, list_by}
use Rattle.tables.specs.declared.Counts.{Counts}
use Rattle.tables.specs.Tables.{Tables, tables_of}
use Rattle.tables.specs.Words.{uncounted}
use Rattle.flatten.proofs.WireTheorems.{accepted_primitives_bound}
use Rattle.laying.specs.declared.rows.Before.{Before}
use Rattle.laying.specs.Laid.{primitives, standing_at_load}
use Rattle.laying.specs.Laying.{before_at, starting_of}
use Rattle.load.specs.Load.{drawing_tables}
use Rattle.load.proofs.LoadLaws.{filled}
use Rattle.net.specs.Net.{names}
use Rattle.net.proofs.NetLaws.{names_entry}
use Rattle.rounds.specs.Round.{state_of, leave, round}
use Rattle.rounds.specs.Steps.{bare, CanEvaluate, ListFits}
use Rattle.rounds.proofs.StepsLaws.{names_wider}
use Rattle.simulator.specs.Calls.{Run}
use Rattle.slow.specs.declared.SlowCounts.{SlowCounts}
use Rattle.slow.specs.Slow.{SlowTables, slow_tables_of, slow_full, slow_of, drawn, leaving, slow_round_of, slow_bits, slow_number, slow_verdict, slow_by}
use Rattle.slow.specs.Slow.{slow_load_verdict, slow_load_tables, slow_round_verdict, slow_round_tables, slow_moved, slow_run_verdict, slow_run}
use Rattle.slow.specs.Slow.{slow_run_tables, slow_words, SlowLoads, SlowRounds, SlowRuns, counts_for, slow_counts_of}
use Rattle.slow.specs.Sending.{Drawing, IsPrepared}
use Rattle.slow.proofs.DrawingLaws.{drawing_evaluates}
use Rattle.slow.proofs.PreparingLaws.{SlowSizes, slow_full-sound}
use Rattle.slow.proofs.WiredLaws.{SlowParts, right_sound}
use Rattle.kinds.specs.Given.{Verdict, verdict_gives}
use Rattle.std.specs.Prelude.{Ok, Err}

-- A load.
module _ (file : List ℕ) (S : SlowTables) where
  abbrev drawn_tables : SlowTables
  drawn_tables = slow_of (drawing_tables (record_at file) (record_count file) (drawn (record_at file) (record_count file) S))

  pub load_refused : (r : Refusal) → Err r ≡ slow_verdict file (slow_full S) 0 → SlowLoads file S (Err r) S
  unfolding slow_load_verdict slow_load_tables
  load_refused r e =
      (ap (λ (v : Verdict). verdict_gives v (slow_words S.counts)) e, ap (λ (v : Verdict). slow_by v drawn_tables S) e)

  pub load_done : (L : SlowTables) → (Ok tt) ≡ slow_verdict file (slow_full S) 0 → L ≡ drawn_tables → SlowLoads file S (Ok L.counts) L
  unfolding slow_load_verdict slow_load_tables
  load_done L e el =
      (ap (λ (v : Verdict). verdict_gives v (slow_words L.counts)) e, el ∙ ap (λ (v : Verdict). slow_by v drawn_tables S) e)

  -- What the passes leave.
  pub load_filled : verdict file ≡ Ok tt → 1024 ≤ length S.inputs → 256 ≤ length S.current
      → (b : Before) → b ≡ before_at (record_at file) (record_count file) (record_count file)
      → (ins os cur fol std : List ℕ) (k : ℕ) → ins ≡ sets S.inputs 0 (replicate b.inputs 0)
      → os ≡ overlay (joined (starting_of (record_at file)) (primitives (record_at file) (record_count file))) S.outputs
      → cur ≡ sets S.current 0 (from 0 b.components)
      → std ≡ overlay (standing_at_load (record_at file) (record_count file)) S.standing
      → k ≡ length (standing_at_load (record_at file) (record_count file)) → fol ≡ overlay (take k std) S.following
      → slow_tables_of ins os cur fol std
      (record { inputs = b.inputs; outputs = b.outputs; current = b.components; following = k; standing = k })
      ≡ drawn_tables
  load_filled a is cs b eb ins os cur fol std k ei eo ec es ek ef =
      ap slow_of
      (filled file a (drawn (record_at file) (record_count file) S) is cs b eb _ ins os _ cur fol std _ k refl ei eo refl refl ec es ek ef)

-- A round at time t, lent the bits.
module _ (file : List ℕ) (S : SlowTables) (bits : List ℕ) (t : ℕ) where
  abbrev at : ℕ → Record
  at = record_at file

  abbrev n : ℕ
  n = record_count file

  abbrev made : SlowTables
  made = slow_of (slow_round_of at n t (drawn at n S))

  abbrev passing : List ℕ
  passing = slow_bits at n t (drawn at n S)

  abbrev found : Verdict
  found = slow_verdict file (slow_full S && leb 256 (length bits)) (slow_number at n S)

  pub round_refused : (r : Refusal) → Err r ≡ found → SlowRounds file t bits S (Err r) S bits
  unfolding slow_round_verdict slow_round_tables slow_moved
  round_refused r e = (
    ap (λ (v : Verdict). verdict_gives v (slow_words S.counts)) e,
    ap (λ (v : Verdict). slow_by v made S) e,
    ap (λ (v : Verdict). list_by v passing bits) e,
  )

  pub round_done : (L : SlowTables) (moved : List ℕ) → (Ok tt) ≡ found → L ≡ made → moved ≡ overlay passing bits
      → SlowRounds file t bits S (Ok L.counts) L moved
  unfolding slow_round_verdict slow_round_tables slow_moved
  round_done L moved e el em = (
    ap (λ (v : Verdict). verdict_gives v (slow_words L.counts)) e,
    el ∙ ap (λ (v : Verdict). slow_by v made S) e,
    em ∙ ap (λ (v : Verdict). list_by v passing bits) e,
  )

-- Run until calm.
module _ (file : List ℕ) (S : SlowTables) (t limit : ℕ) where
  abbrev whole : Run
  whole = slow_run file S t limit

  abbrev told : Verdict
  told = slow_verdict file (slow_full S) (slow_number (record_at file) (record_count file) S)

  pub run_refused : (r : Refusal) → Err r ≡ told → SlowRuns file t limit S (Err r) S
  unfolding slow_run_verdict slow_run_tables
  run_refused r e = (
    ap (λ (v : Verdict). verdict_gives v (whole.rounds ∷ whole.evaluations ∷ whole.moved ∷ slow_words S.counts)) e,
    ap (λ (v : Verdict). slow_by v (slow_of whole.tables) S) e,
  )

  pub run_done : (T : Tables) (rounds evaluations moved : ℕ) → (Ok tt) ≡ told
      → record { tables = T; rounds = rounds; evaluations = evaluations; moved = moved } ≡ whole
      → SlowRuns file t limit S (Ok (record { counts = (slow_of T).counts; rounds = rounds; evaluations = evaluations; moved = moved })) (slow_of T)
  unfolding slow_run_verdict slow_run_tables
  run_done T rounds evaluations moved e er = (
    (λ j. verdict_gives (e j) ((er j).rounds ∷ (er j).evaluations ∷ (er j).moved ∷ slow_words (slow_of T).counts)),
    ap (λ (x : Run). slow_of x.tables) er ∙ ap (λ (v : Verdict). slow_by v (slow_of whole.tables) S) e,
  )

-- What is handed past the checks.
module _ (file ix fs cs : List ℕ) (k : ℕ) (is os cur fol std : List ℕ) (m : SlowCounts)
    (p : IsPrepared file ix fs cs k (slow_tables_of is os cur fol std m)) where
  abbrev S : SlowTables
  S = slow_tables_of is os cur fol std m

  sizes : SlowSizes S
  sizes = slow_full-sound S p.full

  parts : SlowParts (record_at file) (record_count file) S
  parts = right_sound (record_at file) (record_count file) S p.right

  pub prepared_drawing : Drawing file ix fs cs is os
  prepared_drawing = record { ready = p.ready; words = p.words; inputs = sizes.inputs; outputs = sizes.outputs }

  listed : (n : ℕ) (t : List ℕ) → 256 ≤ length t → n ≤ 256 → names (drawn (record_at file) (record_count file) S) (take n t) ≡ true
      → ListFits (bare cs) n t
  listed n t w l e =
      record {
        whole = w;
        count = omega (arith, w, l);
        named =
            names_wider (drawn (record_at file) (record_count file) S) (bare cs) (take n t)
            (accepted_primitives_bound file p.ready.accepted) e;
      }

  module _ (flat : Counts) (ef : flat ≡ counts_for m k) where
    pub prepared_is : tables_of cs is os [] cur fol std flat ≡ drawn (record_at file) (record_count file) S
    prepared_is =
        let words = p.words in
        let counts = ef ∙ ap (counts_for m) p.count in
        λ j. tables_of (words j) is os [] cur fol std (counts j)

    -- The same with the other engine's counts.
    pub prepared_for : IsPrepared file ix fs cs flat.components (slow_tables_of is os cur fol std (slow_counts_of flat)) × (flat.wires ≡ 0)
    prepared_for = (
      subst (λ (x : Counts). IsPrepared file ix fs cs x.components (slow_tables_of is os cur fol std (slow_counts_of x))) (sym ef) p,
      ap (λ (x : Counts). x.wires) ef,
    )

    -- Its lists name components, and those of the current list can be evaluated and their wires sent along.
    pub prepared_lists : ListFits (bare cs) flat.current cur × ListFits (bare cs) flat.following fol × ListFits (bare cs) flat.standing std
    prepared_lists =
        subst (λ (x : Counts). ListFits (bare cs) x.current cur × ListFits (bare cs) x.following fol × ListFits (bare cs) x.standing std) (sym ef) (
          listed m.current cur sizes.current parts.current parts.names_current,
          listed m.following fol sizes.following parts.following parts.names_following,
          listed m.standing std sizes.standing parts.standing parts.names_standing,
        )

    pub prepared_visited : (j : ℕ) → j < flat.current → CanEvaluate (uncounted cs []) is os (get_or cur j 0) × Drawing file ix fs cs is os
    prepared_visited j h =
        let l : j < m.current = omega (arith, h, ap (λ (x : Counts). x.current) ef) in (
          drawing_evaluates file ix fs cs is os prepared_drawing (get_or cur j 0)
              (names_entry (drawn (record_at file) (record_count file) S) m.current cur (omega (arith, parts.current, sizes.current))
              parts.names_current j l),
          prepared_drawing,
        )

-- A round of tables that are those of the drawing.
module _ (file : List ℕ) (T : Tables) (S : SlowTables) (e : T ≡ drawn (record_at file) (record_count file) S) (t : ℕ) where
  pub round_drawn : (U : Tables) → U ≡ leave T (round T (leaving (record_at file) (record_count file)) t (state_of T))
      → U ≡ slow_round_of (record_at file) (record_count file) t (drawn (record_at file) (record_count file) S)
  unfolding slow_round_of
  round_drawn U u = u ∙ ap (slow_round_of (record_at file) (record_count file) t) e
