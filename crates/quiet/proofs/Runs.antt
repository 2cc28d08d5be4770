-- Run until calm is rounds one after the other: what they keep, it keeps. docs/SPECIFICATION.md, "Rounds".
-- Assumes nothing.
use mathlib.Core.Path.{◌≡◌, sym, subst}
use mathlib.Core.Bool.{Bool, true, false, cond, ◌||◌, or-true, or-false}
use Prim.Native.Nat.{ℕ, zero, suc}
use native.Mathlib.Omega.{arith}
use borrow.Author.Tests.{eq-eqb, lt-ltb, le-ltb}
use lib.Dec.{ltb}
use Rattle.tables.specs.Tables.{Tables}
use Rattle.net.specs.Net.{net_number}
use Rattle.rounds.specs.Round.{calm}
use Rattle.simulator.specs.Calls.{round_tables, no_round, run_by, run, run_tables}
use Rattle.tables.proofs.SameLaws.{SameWiring, same_wiring-none, same_wiring-more}
use Rattle.simulator.proofs.Kept.{by_number, round_tables-wiring, round_tables-net}
use Rattle.quiet.proofs.Since.{Unbroken, round_tables-unbroken}

-- A run of one round or more stops after its first, or goes on.
run_or : (P : Tables → Type 0) (k t : ℕ) (T : Tables) → P (round_tables T t) → P (run k t (round_tables T t)).tables
    → P (run (suc k) t T).tables
unfolding run_by
run_or P k t T a r = by_calm (calm (round_tables T t))
  where
    by_calm : (b : Bool) → P (cond b (no_round (round_tables T t)) (run k t (round_tables T t))).tables
    by_calm true = a
    by_calm false = r

-- What every round at time t hands on, so many of them hand on.
run_tables_lem : (P : Tables → Type 0) (k t : ℕ) → ((T : Tables) → P T → P (round_tables T t)) → (T : Tables) → P T
    → P (run k t T).tables
unfolding run_by
run_tables_lem P zero t f T a = a
run_tables_lem P (suc k) t f T a = run_or P k t T (f T a) (run_tables_lem P k t f (round_tables T t) (f T a))

-- What the first of one round or more leaves, and every round hands on, they leave.
run_once : (P : Tables → Type 0) (k t : ℕ) → ((T : Tables) → P T → P (round_tables T t)) → (T : Tables) → P (round_tables T t)
    → P (run (suc k) t T).tables
run_once P k t f T a = run_or P k t T a (run_tables_lem P k t f (round_tables T t) a)

-- The same of the call.
run_call : (P : Tables → Type 0) (T : Tables) (t limit : ℕ) → ((T : Tables) → P T → P (round_tables T t)) → P T
    → P (run_tables T t limit)
unfolding run_tables
run_call P T t limit f a =
    by_number P (net_number T) (run limit t T).tables T (λ e. run_tables_lem P limit t f T a) a

module _ (T : Tables) (t limit : ℕ) where
  -- A run on a net leaves a net.
  pub run_tables-net : net_number T ≡ 0 → net_number (run_tables T t limit) ≡ 0
  run_tables-net = run_call (λ (U : Tables). net_number U ≡ 0) T t limit (λ U e. round_tables-net U t e)

  -- Any run leaves components and wires as they were, and their counts,
  pub run_tables-wiring : SameWiring T (run_tables T t limit)
  run_tables-wiring =
      run_call (SameWiring T) T t limit (λ U a. same_wiring-more T U (round_tables U t) a (round_tables-wiring U t))
      (same_wiring-none T)

  -- On a net the rounds are made.
  pub run_tables-made : net_number T ≡ 0 → run_tables T t limit ≡ (run limit t T).tables
  unfolding run_tables
  run_tables-made z = rw z

-- A round of a net has run, at its time.
round_tables-ran : (T : Tables) (ran : Bool) (t u : ℕ) → net_number T ≡ 0 → Unbroken T ran t → Unbroken (round_tables T u) true u
round_tables-ran T ran t u z a =
    subst (λ (b : Bool). Unbroken (round_tables T u) b u) (or-true ran)
    (subst (λ (b : Bool). Unbroken (round_tables T u) (ran || b) (cond b u t)) (eq-eqb (net_number T) 0 z)
    (round_tables-unbroken T ran t u a))

-- A run of a net keeps the invariant: its last round is at its time, unless the limit is 0 and no round runs.
pub run_tables-unbroken : (T : Tables) (ran : Bool) (t u limit : ℕ) → net_number T ≡ 0 → Unbroken T ran t
    → Unbroken (run_tables T u limit) (ran || ltb 0 limit) (cond (ltb 0 limit) u t)
unfolding run_by
run_tables-unbroken T ran t u zero z a =
    subst (λ (b : Bool). Unbroken (run_tables T u zero) (ran || b) (cond b u t)) (sym (le-ltb 0 zero (omega arith)))
    (subst (λ (b : Bool). Unbroken (run_tables T u zero) b t) (sym (or-false ran))
    (subst (λ (U : Tables). Unbroken U ran t) (sym (run_tables-made T u zero z)) a))
run_tables-unbroken T ran t u (suc k) z a =
    subst (λ (b : Bool). Unbroken (run_tables T u (suc k)) (ran || b) (cond b u t)) (sym (lt-ltb 0 (suc k) (omega arith)))
    (subst (λ (b : Bool). Unbroken (run_tables T u (suc k)) b u) (sym (or-true ran))
    (subst (λ (U : Tables). Unbroken U true u) (sym (run_tables-made T u (suc k) z))
    (run_once (λ (U : Tables). (net_number U ≡ 0) × Unbroken U true u) k u
    (λ U p. (round_tables-net U u p.0, round_tables-ran U true u u p.0 p.1)) T
    (round_tables-net T u z, round_tables-ran T ran t u z a)).1))
