-- Calls other than edits are rounds one after the other: in stored order, in one handed in, or in a run until calm, and none where a call is refused.
--   RoundsFrom file k t T   the load that T comes from, k rounds back, and that calls reach T from it
-- Assumes nothing.
use mathlib.Core.Path.{◌≡◌, refl, sym, subst}
use mathlib.Core.Bool.{Bool, true, false, cond, ◌||◌, true≢false}
use mathlib.Core.List.{List}
use Prim.Native.Nat.{ℕ, zero, suc, ◌+◌, ◌≤◌, ◌<◌}
use native.Mathlib.Omega.{arith}
use native.Mathlib.Decide.{dec_lt}
use borrow.Author.Tests.{eqb-true, lt-ltb}
use lib.ListN.{length}
use lib.Dec.{eqb, ltb}
use Rattle.lists.proofs.TestsLaws.{or_second}
use Rattle.component.specs.Record.{IsBytes}
use Rattle.tables.specs.Tables.{Tables, wires_in}
use Rattle.net.specs.Net.{net_number}
use Rattle.load.specs.Load.{load_verdict, load_tables}
use Rattle.rounds.specs.Round.{calm, round_of, round_by}
use Rattle.rounds.proofs.Held.{stored_order}
use Rattle.simulator.specs.Calls.{after, round_tables, no_round, run_by, run, run_tables}
use Rattle.simulator.specs.Ordered.{wires_by, ordered_number, ordered_tables}
use Rattle.simulator.proofs.Kept.{round_tables-done, round_tables-net}
use Rattle.simulator.proofs.OrderedLaws.{order_order}
use Rattle.chains.proofs.Settle.{Ran, started, stepped, ran_net}
use Rattle.demands.specs.Reached.{Call, call_number, call_tables, Reached}
use Rattle.demands.specs.Reached as calls
use Rattle.demands.proofs.Called.{runs}
use Rattle.demands.proofs.Demand3.{load_fresh}
use Rattle.settled.specs.Settled.{is_edit, rounds_run, Unedited, loaded, called}
use Rattle.std.specs.Prelude.{Ok}

module _ (T₀ : Tables) where
  -- So many rounds from T₀, said by another number.
  ran_count : {k m : ℕ} {T : Tables} → k ≡ m → Ran T₀ k T → Ran T₀ m T
  ran_count {T = T} e = subst (λ (j : ℕ). Ran T₀ j T) e

  -- One more, in stored order.
  ran_stored : (k u : ℕ) (T : Tables) → net_number T ≡ 0 → Ran T₀ k T → Ran T₀ (suc k) (round_tables T u)
  unfolding round_of
  ran_stored k u T z r = subst (Ran T₀ (suc k)) (sym (round_tables-done T u z)) (stepped (wires_in T) u (stored_order T) r)

  -- Those of a run until calm.
  ran_run : (limit k u : ℕ) (T : Tables) → net_number T ≡ 0 → Ran T₀ k T → Ran T₀ (k + (run limit u T).rounds) (run limit u T).tables
  unfolding run_by
  ran_run zero k u T z r = ran_count (omega arith) r
  ran_run (suc limit) k u T z r =
      by_calm (calm (round_tables T u)) (ran_run limit (suc k) u (round_tables T u) (round_tables-net T u z) (ran_stored k u T z r))
    where
      by_calm : (b : Bool) → Ran T₀ (suc k + (run limit u (round_tables T u)).rounds) (run limit u (round_tables T u)).tables
          → Ran T₀ (k + suc (cond b (no_round (round_tables T u)) (run limit u (round_tables T u))).rounds)
          (cond b (no_round (round_tables T u)) (run limit u (round_tables T u))).tables
      by_calm true more = ran_count (omega arith) (ran_stored k u T z r)
      by_calm false more = ran_count (omega arith) more

  -- A call that is refused runs none.
  ran_after : (k j m : ℕ) (T U : Tables) → Ran T₀ k T → (j ≡ 0 → Ran T₀ (k + m) U) → Ran T₀ (k + after j m 0) (after j U T)
  ran_after k j m T U r more = by_number (eqb j 0) refl
    where
      by_number : (b : Bool) → eqb j 0 ≡ b → Ran T₀ (k + cond b m 0) (cond b U T)
      by_number true e = more (eqb-true j 0 e)
      by_number false e = ran_count (omega arith) r

  -- A call that is no edit.
  ran_call : (c : Call) (k : ℕ) (T : Tables) → is_edit c ≡ false → net_number T ≡ 0 → Ran T₀ k T → Ran T₀ (k + rounds_run c T) (call_tables c T)
  unfolding round_tables round_of run_tables ordered_tables
  ran_call (calls.rounded u bits) k T e z r = by_room (ltb (length bits) 256)
    where
      by_room : (b : Bool) → Ran T₀ (k + after (cond b 2 (net_number T)) 1 0) (cond b T (round_tables T u))
      by_room true = ran_count (omega arith) r
      by_room false = ran_after k (net_number T) 1 T (round_of u T) r (λ q. ran_count (omega arith) (stepped (wires_in T) u (stored_order T) r))
  ran_call (calls.edited way i v) k T e z r = absurd (true≢false e)
  ran_call (calls.until_calm u limit) k T e z r =
      ran_after k (net_number T) (run limit u T).rounds T (run limit u T).tables r (λ q. ran_run limit k u T z r)
  ran_call (calls.ordered u order bits) k T e z r =
      ran_after k (ordered_number T order bits) 1 T (round_by (wires_by T order) u T) r
      (λ q. ran_count (omega arith) (stepped (wires_by T order) u (order_order T order bits q) r))

-- A call that runs a round or more is one that has run.
ran_after_some : (j m : ℕ) → 1 ≤ after j m 0 → (eqb j 0 ≡ true) × (1 ≤ m)
ran_after_some j m h = by_number (eqb j 0) h
  where
    by_number : (b : Bool) → 1 ≤ cond b m 0 → (b ≡ true) × (1 ≤ m)
    by_number true h = (refl, h)
    by_number false h = absurd (omega arith)

run_some : (limit u : ℕ) (T : Tables) → 1 ≤ (run limit u T).rounds → ltb 0 limit ≡ true
unfolding run_by
run_some zero u T h = absurd (omega arith)
run_some (suc limit) u T h = lt-ltb 0 (suc limit) (omega arith)

call_runs : (c : Call) (T : Tables) → 1 ≤ rounds_run c T → runs c T ≡ true
call_runs (calls.rounded u bits) T h = (ran_after_some (call_number (calls.rounded u bits) T) 1 h).0
call_runs (calls.edited way i v) T h = absurd (omega arith)
call_runs (calls.until_calm u limit) T h =
    let r = ran_after_some (net_number T) (run limit u T).rounds h in rw (run_some limit u T r.1) r.0
call_runs (calls.ordered u order bits) T h = (ran_after_some (ordered_number T order bits) 1 h).0

pub record RoundsFrom (file : List ℕ) (k t : ℕ) (T : Tables) : Type 0 where
  pub lent : Tables
  pub bytes : IsBytes file
  pub accepted : load_verdict file lent ≡ Ok tt
  pub rounds : Ran (load_tables file lent) k T
  pub ran : Bool
  pub reached : Reached file ran t T
  pub once : 1 ≤ k → ran ≡ true

pub rounds_from : (file : List ℕ) {k t : ℕ} {T : Tables} → Unedited file k t T → RoundsFrom file k t T
rounds_from file (loaded T b a) =
    record {
      lent = T;
      bytes = b;
      accepted = a;
      rounds = started;
      ran = false;
      reached = calls.loaded T b a;
      once = λ h. absurd (omega arith);
    }
rounds_from file (called {k = k} {t = t} {T = T} c e r) =
    let f = rounds_from file r in
    let L = load_tables file f.lent in
    record {
      lent = f.lent;
      bytes = f.bytes;
      accepted = f.accepted;
      rounds = ran_call L c k T e (ran_net L (load_fresh file f.lent f.bytes f.accepted).net f.rounds) f.rounds;
      ran = f.ran || runs c T;
      reached = calls.called c f.reached;
      once = λ h. by_earlier (dec_lt 0 k) f.once h;
    }
  where
    by_earlier : {b : Bool} → Dec (0 < k) → (1 ≤ k → b ≡ true) → 1 ≤ k + rounds_run c T → (b || runs c T) ≡ true
    by_earlier (yes l) earlier h = rw (earlier (omega arith))
    by_earlier {b} (no l) earlier h = or_second b (runs c T) (call_runs c T (omega arith))
