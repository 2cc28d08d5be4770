-- Run until calm: what holds of the tables at each turn, and what a turn does.
-- Assumes nothing.
use mathlib.Core.Path.{◌≡◌, refl, sym, ap, ◌∙◌}
use Prim.Native.Nat.{ℕ, ◌*◌, ◌≤◌, ◌<◌}
use mathlib.Core.List.{List, []}
use native.Mathlib.Omega.{arith}
use lib.ListN.{length, get_or}
use lib.Seq.{length-take-le}
use Rattle.lists.specs.Lists.{overlay}
use Rattle.component.specs.Record.{IsBytes, record_at, record_count}
use Rattle.flatten.proofs.WireTheorems.{accepted_primitives_bound}
use Rattle.flatten.proofs.Accepted.{accepted_passed}
use Rattle.tables.specs.declared.Counts.{Counts}
use Rattle.tables.specs.declared.Wire.{Wire}
use Rattle.tables.specs.Tables.{Tables, tables_of, current_list}
use Rattle.tables.specs.Words.{uncounted}
use Rattle.rounds.specs.Round.{state_of, leave, moved_by, round}
use Rattle.rounds.specs.Steps.{bare, CanEvaluate, ListFits, ListInside}
use Rattle.rounds.proofs.StepsLaws.{fits_small, fits_few}
use Rattle.rounds.proofs.MovedLaws.{moved_by-length}
use Rattle.slow.specs.Slow.{SlowTables, slow_full, slow_of, drawn, leaving, slow_round_of, slow_bits, slow_right, counts_for}
use Rattle.slow.specs.Sending.{Drawing, IsPrepared, InRun}
use Rattle.slow.proofs.DrawingLaws.{words_long}
use Rattle.slow.proofs.CallsLaws.{prepared_lists, prepared_visited, round_drawn}
use Rattle.slow.proofs.WiredLaws.{still_full, still_right}

-- What is handed past the checks is such.
pub run_starts : (file ix fs cs : List ℕ) (is os cur fol std : List ℕ) (m : Counts) → IsBytes file
    → IsPrepared file ix fs cs m.components (slow_of (tables_of cs is os [] cur fol std m)) → m.wires ≡ 0
    → InRun file ix fs (tables_of cs is os [] cur fol std m)
run_starts file ix fs cs is os cur fol std m bytes p w =
    let words = p.words in
    let count = p.count in
    record {
      bytes = bytes;
      ready = p.ready;
      is_drawn = λ j. tables_of (words j) is os [] cur fol std
          (record {
            components = count j;
            inputs = m.inputs;
            outputs = m.outputs;
            wires = w j;
            current = m.current;
            following = m.following;
            standing = m.standing;
          });
      full = p.full;
      right = p.right;
    }

module _ (file ix fs : List ℕ) (T : Tables) (g : InRun file ix fs T) where
  prepared : IsPrepared file ix fs T.components T.counts.components (slow_of T)
  prepared =
      record {
        ready = g.ready;
        words = ap (λ (U : Tables). U.components) g.is_drawn;
        count = ap (λ (U : Tables). U.counts.components) g.is_drawn;
        full = g.full;
        right = g.right;
      }

  flat_is : T.counts ≡ counts_for (slow_of T).counts T.counts.components
  flat_is =
      let w = ap (λ (U : Tables). U.counts.wires) g.is_drawn in
      λ j. record {
        components = T.counts.components;
        inputs = T.counts.inputs;
        outputs = T.counts.outputs;
        wires = w j;
        current = T.counts.current;
        following = T.counts.following;
        standing = T.counts.standing;
      }

  -- What a round needs.
  pub run_lists : ListFits (bare T.components) T.counts.current T.current × ListFits (bare T.components) T.counts.following T.following
      × ListFits (bare T.components) T.counts.standing T.standing
  run_lists =
      prepared_lists file ix fs T.components T.counts.components T.inputs T.outputs T.current T.following T.standing _ prepared T.counts flat_is

  pub run_visited : (j : ℕ) → j < T.counts.current
      → CanEvaluate (uncounted T.components []) T.inputs T.outputs (get_or T.current j 0) × Drawing file ix fs T.components T.inputs T.outputs
  run_visited =
      prepared_visited file ix fs T.components T.counts.components T.inputs T.outputs T.current T.following T.standing _ prepared T.counts flat_is

  pub run_few : T.counts.current ≤ 256
  run_few = fits_few T.components T.counts.current T.current run_lists.0

  -- The words of what the lists name stand in the table.
  rows : 8 * 256 ≤ length T.components
  rows =
      omega (
        arith,
        ap (λ (l : List ℕ). length l) prepared.words,
        words_long file (accepted_passed file g.ready.accepted) (accepted_primitives_bound file g.ready.accepted),
      )

  pub run_inside : ListInside T.components T.counts.current T.current × ListInside T.components T.counts.following T.following
      × ListInside T.components T.counts.standing T.standing
  run_inside = (inside _ _ run_lists.0, inside _ _ run_lists.1, inside _ _ run_lists.2)
    where
      inside : (n : ℕ) (t : List ℕ) → ListFits (bare T.components) n t → ListInside T.components n t
      inside n t l = (l.count, λ j h. omega (arith, rows, fits_small T.components n t l j h))

  pub run_listed : length (current_list T) ≡ T.counts.current
  run_listed = length-take-le T.counts.current T.current run_lists.0.count

  module _ (t : ℕ) where
    abbrev ws : ℕ → List Wire
    ws = leaving (record_at file) (record_count file)

    -- The round, and its bits.
    pub run_made : (U : Tables) → U ≡ leave T (round T ws t (state_of T)) → U ≡ slow_round_of (record_at file) (record_count file) t T
    unfolding slow_round_of
    run_made U e = e

    pub run_bits : (ms ns : List ℕ) → ns ≡ overlay (moved_by T ws t (state_of T) (current_list T)) ms
        → ns ≡ overlay (slow_bits (record_at file) (record_count file) t T) ms
    unfolding slow_bits
    run_bits ms ns e = e

    pub run_bits-length : length (slow_bits (record_at file) (record_count file) t T) ≡ T.counts.current
    unfolding slow_bits
    run_bits-length = moved_by-length T ws t (state_of T) (current_list T) ∙ run_listed

    -- It leaves such tables.
    pub run_on : (U : Tables) → U ≡ leave T (round T ws t (state_of T)) → InRun file ix fs U
    unfolding slow_round_of leave
    run_on U e =
        let at = record_at file in
        let n = record_count file in
        let S = slow_of T in
        let made = round_drawn file T S g.is_drawn t U e in
        let left : slow_of U ≡ slow_of (slow_round_of at n t (drawn at n S)) = ap slow_of made in
        record {
          bytes = g.bytes;
          ready = g.ready;
          is_drawn = made ∙ again S ∙ ap (λ (X : SlowTables). drawn at n X) (sym left);
          full = ap slow_full left ∙ still_full file g.bytes g.ready.accepted S g.full g.right t;
          right = ap (slow_right at n) left ∙ still_right file g.bytes g.ready.accepted S g.full g.right t;
        }
      where
        again : (S : SlowTables) → slow_round_of (record_at file) (record_count file) t (drawn (record_at file) (record_count file) S)
            ≡ drawn (record_at file) (record_count file) (slow_of (slow_round_of (record_at file) (record_count file) t (drawn (record_at file) (record_count file) S)))
        again S = refl
