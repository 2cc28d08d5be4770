-- Each call of the slow engine on a net that calls reach from a load of its file is the flat engine's: rounds, their bits, edits of either way, and
-- runs, by the rounds of which they are made.
-- Assumes nothing.
use mathlib.Core.Path.{◌≡◌, refl, sym, ap, ◌∙◌}
use Prim.Native.Nat.{ℕ, zero, suc}
use mathlib.Core.Bool.{Bool, true, false, cond}
use mathlib.Core.List.{List}
use borrow.Author.Tests.{eqb-true, ltb-true, ltb-false, le-leb, lt-leb}
use lib.ListN.{length}
use lib.Dec.{eqb, leb, ltb}
use Rattle.lists.specs.Lists.{total, overlay}
use Rattle.kinds.specs.Given.{refused_by}
use Rattle.component.specs.declared.Record.{Record}
use Rattle.component.specs.Record.{record_at, record_count}
use Rattle.flatten.specs.Verdict.{and_then, list_by}
use Rattle.tables.specs.Tables.{Tables, current_list, wires_in}
use Rattle.net.specs.Net.{net_number}
use Rattle.net.proofs.NetLaws.{net_number-net}
use Rattle.rounds.specs.Round.{State, state_of, leave, wires_from, round, calm, round_bits, round_of}
use Rattle.simulator.specs.Edit.{edited_state}
use Rattle.simulator.specs.Calls.{after, round_tables, round_number, round_moved, edit_number, edit_tables, bits_set, Run, no_round, once_more, run_by, run}
use Rattle.simulator.proofs.EditsLaws.{edit_there}
use Rattle.simulator.proofs.Kept.{round_tables-done, round_tables-wiring, round_tables-net}
use Rattle.quiet.proofs.Runs.{run_tables-made}
use Rattle.demands.proofs.Called.{Origin}
use Rattle.slow.specs.Slow.{SlowTables, slow_of, drawn, slow_round_of, slow_bits, slow_number, slow_edit_number, slow_by, slow_round_verdict, slow_round_tables, slow_moved}
use Rattle.slow.specs.Slow.{slow_edit_verdict, slow_edit_tables, slow_run_verdict, slow_run, slow_run_tables}
use Rattle.alike.specs.Alike.{SameRounds, SameEdits, SameRuns, SameCalls}
use Rattle.alike.proofs.Drawn.{origin_on, origin_sized, origin_judged, edit_checks-same, edited_state-same, full, round_drawn, bits_drawn, calm_drawn}
use Rattle.alike.proofs.Stood.{net_right}
use Rattle.std.specs.Prelude.{Ok, Err}

-- What a call of number k leaves, on either engine.
left_by : (k : ℕ) (new : SlowTables) (T U : Tables) → (k ≡ 0 → new ≡ slow_of U) → slow_by (and_then (Ok tt) k) new (slow_of T) ≡ slow_of (after k U T)
left_by k new T U h = by_zero (eqb k 0) (λ e. h (eqb-true k 0 e))
  where
    by_zero : (b : Bool) → (b ≡ true → new ≡ slow_of U) → slow_by (cond b (Ok tt) (Err (refused_by k))) new (slow_of T) ≡ slow_of (cond b U T)
    by_zero true u = u refl
    by_zero false u = refl

-- A state left in what the file gives, or in the tables.
leave_drawn : (at : ℕ → Record) (n : ℕ) (T : Tables) (s : State) → leave (drawn at n (slow_of T)) s ≡ drawn at n (slow_of (leave T s))
unfolding leave
leave_drawn at n T s = refl

module _ (file : List ℕ) (T : Tables) (o : Origin file T) (z : net_number T ≡ 0) where
  abbrev at : ℕ → Record
  at = record_at file

  abbrev n : ℕ
  n = record_count file

  abbrev D : Tables
  D = drawn at n (slow_of T)

  -- No number is given for the tables.
  number : slow_number at n (slow_of T) ≡ 0
  unfolding slow_number
  number = rw (net_right file T o (net_number-net T z))

  -- The round of what the file gives is that of the tables.
  round_step : (t : ℕ) → slow_round_of at n t D ≡ drawn at n (slow_of (round_tables T t))
  unfolding slow_round_of round_of
  round_step t =
      ap (leave D) (round_drawn file T o z t) ∙ leave_drawn at n T (round T (wires_from (wires_in T)) t (state_of T))
      ∙ ap (λ (U : Tables). drawn at n (slow_of U)) (sym (round_tables-done T t z))

  -- A round: with room for its bits, and without.
  round_verdict : (bits : List ℕ) → slow_round_verdict file (slow_of T) bits ≡ and_then (Ok tt) (round_number T bits)
  unfolding slow_round_verdict
  round_verdict bits = rw (origin_sized file T o, full file T o z, origin_judged file T o, number, z) (by_room (ltb (length bits) 256) refl)
    where
      by_room : (b : Bool) → ltb (length bits) 256 ≡ b
          → cond (leb 256 (length bits)) (Ok tt) (Err (refused_by 2)) ≡ and_then (Ok tt) (cond b 2 0)
      by_room true e = rw (lt-leb 256 (length bits) (ltb-true (length bits) 256 e))
      by_room false e = rw (le-leb 256 (length bits) (ltb-false (length bits) 256 e))

  same_rounds : SameRounds file T
  unfolding slow_round_tables slow_moved round_moved
  same_rounds bits t = (
    round_verdict bits,
    rw (round_verdict bits) (tables (ltb (length bits) 256)),
    rw (round_verdict bits) (moved (ltb (length bits) 256)),
  )
    where
      tables : (b : Bool) → slow_by (and_then (Ok tt) (cond b 2 (net_number T))) (slow_of (slow_round_of at n t D)) (slow_of T) ≡ slow_of (cond b T (round_tables T t))
      tables true = refl
      tables false = rw z (ap slow_of (round_step t))

      moved : (b : Bool)
          → list_by (and_then (Ok tt) (cond b 2 (net_number T))) (slow_bits at n t D) bits
          ≡ after (cond b 2 (net_number T)) (overlay (round_bits t T) bits) bits
      moved true = refl
      moved false = rw z (ap (λ (l : List ℕ). overlay l bits) (bits_drawn file T o z t))

  -- An edit.
  edit_number_lem : (i v : ℕ) → slow_edit_number at n (slow_of T) i v ≡ edit_number T i v
  unfolding slow_edit_number edit_number
  edit_number_lem i v = rw (net_right file T o (net_number-net T z), z) (edit_checks-same file T o i v)

  edit_verdict : (i v : ℕ) → slow_edit_verdict file (slow_of T) i v ≡ and_then (Ok tt) (edit_number T i v)
  unfolding slow_edit_verdict
  edit_verdict i v = rw (origin_sized file T o, full file T o z, origin_judged file T o, edit_number_lem i v)

  same_edits : SameEdits file T
  unfolding slow_edit_tables edit_tables
  same_edits way i v = (edit_verdict i v, rw (edit_verdict i v) (left_by (edit_number T i v) _ T (leave T (edited_state T way i v (state_of T))) made))
    where
      made : edit_number T i v ≡ 0 → slow_of (leave D (edited_state D way i v (state_of D))) ≡ slow_of (leave T (edited_state T way i v (state_of T)))
      made e =
          ap (λ (s : State). slow_of (leave D s)) (edited_state-same file T o way i v (state_of T) (edit_there T i v e))
          ∙ ap slow_of (leave_drawn at n T (edited_state T way i v (state_of T)))

-- A run, its tables as the file gives them.
abbrev drawn_run : List ℕ → Run → Run
drawn_run file r =
    record {
      tables = drawn (record_at file) (record_count file) (slow_of r.tables);
      rounds = r.rounds;
      evaluations = r.evaluations;
      moved = r.moved;
    }

-- Rounds one by one, until calm or the limit.
run_drawn : (file : List ℕ) (t limit : ℕ) (T : Tables) → Origin file T → net_number T ≡ 0
    → slow_run file (slow_of T) t limit ≡ drawn_run file (run limit t T)
unfolding run_by
run_drawn file t zero T o z = refl
run_drawn file t (suc k) T o z =
    let step = round_step file T o z t in
    let bits = bits_drawn file T o z t in
    (λ j. once_more (length (current_list T)) (total bits_set (bits j))
    (cond (calm (step j)) (no_round (step j)) (run_by (slow_round_of at n t) (slow_bits at n t) k (step j))))
    ∙ ap (once_more (length (current_list T)) (total bits_set (round_bits t T)))
    (ap (λ (b : Bool). cond b (no_round (drawn at n (slow_of U))) (slow_run file (slow_of U) t k)) (calm_drawn file U p y)
    ∙ by_calm (calm U) (run_drawn file t k U p y))
  where
    at : ℕ → Record
    at = record_at file

    n : ℕ
    n = record_count file

    U : Tables
    U = round_tables T t

    p : Origin file U
    p = origin_on file T U o (round_tables-wiring T t)

    y : net_number U ≡ 0
    y = round_tables-net T t z

    -- It stops here, or goes on.
    by_calm : (b : Bool) → slow_run file (slow_of U) t k ≡ drawn_run file (run k t U)
        → cond b (no_round (drawn at n (slow_of U))) (slow_run file (slow_of U) t k) ≡ drawn_run file (cond b (no_round U) (run k t U))
    by_calm true e = refl
    by_calm false e = e

module _ (file : List ℕ) (T : Tables) (o : Origin file T) (z : net_number T ≡ 0) where
  run_verdict : slow_run_verdict file (slow_of T) ≡ and_then (Ok tt) (net_number T)
  unfolding slow_run_verdict
  run_verdict = rw (origin_sized file T o, full file T o z, origin_judged file T o, number file T o z, z)

  same_runs : SameRuns file T
  unfolding slow_run_tables
  same_runs t limit =
      let e = run_drawn file t limit T o z in (
        run_verdict,
        rw (run_verdict, z) (ap (λ (r : Run). slow_of r.tables) e ∙ ap slow_of (sym (run_tables-made T t limit z))),
        ap (λ (r : Run). r.rounds) e,
        ap (λ (r : Run). r.evaluations) e,
        ap (λ (r : Run). r.moved) e,
      )

  pub same_calls : SameCalls file T
  same_calls = (same_rounds file T o z, same_edits file T o z, same_runs)
