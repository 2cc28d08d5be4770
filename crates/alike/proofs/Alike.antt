-- The slow engine is alike to the flat engine: the load, every call on tables that calls reach from a load (`SlowEqual`), and so any list of calls made
-- on both side by side (`SlowAlong`).
-- Assumes nothing.
use mathlib.Core.Path.{◌≡◌, refl, sym, ap, ◌∙◌}
use Prim.Native.Nat.{ℕ}
use mathlib.Core.Bool.{Bool, true, false, cond, ◌&&◌}
use mathlib.Core.List.{List, [], ◌∷◌}
use native.Mathlib.Omega.{arith}
use borrow.Author.Tests.{le-leb}
use lib.ListN.{length, replicate, length-replicate}
use lib.Dec.{leb}
use Rattle.component.specs.Record.{record_at, record_count, sized}
use Rattle.flatten.specs.Verdict.{refused, and_then}
use Rattle.meeting.specs.Meeting.{judgement}
use Rattle.tables.specs.Tables.{Tables, tables_of, counts_of, full_size}
use Rattle.load.specs.Load.{drawing_tables, tables_by, load_verdict, load_tables}
use Rattle.load.proofs.LoadLaws.{load_passed}
use Rattle.net.proofs.NetLaws.{net_number-0, net_number-full, net_number-net}
use Rattle.demands.specs.Reached.{call_number, call_tables, Reached, loaded, called}
use Rattle.demands.proofs.Called.{reached_kept}
use Rattle.demands.proofs.Demand3.{load_fresh}
use Rattle.slow.specs.Slow.{SlowTables, slow_full, slow_of, drawn, slow_by, slow_load_verdict, slow_load_tables}
use Rattle.alike.specs.Alike.{LeavingStored, LedIntoStored, SlowAsLoad, SameCalls, SlowEqual, beside, Where16Stood, SlowAlong}
use Rattle.alike.specs.Alike.{SharedCall, rounded, edited, until_calm, flat_call, call_words, calls_tables, calls_told}
use Rattle.alike.specs.Alike.{slow_call_verdict, slow_call_tables, slow_call_words, slow_calls_tables, slow_calls_told}
use Rattle.slow.proofs.Handed.{leaving_stored as stored}
use Rattle.alike.proofs.Drawn.{slow_full-five, led_into-driven}
use Rattle.alike.proofs.Stood.{net_origin, right-is_net, beside-full_size}
use Rattle.alike.proofs.SameCalls.{same_calls}
use Rattle.kinds.specs.Given.{Verdict}
use Rattle.std.specs.Prelude.{Ok, Err}

-- What is handed in is the same.
pub leaving_stored : LeavingStored
leaving_stored at n i = stored at n i

-- The load.
module _ (file : List ℕ) where
  load_verdict_lem : (S : SlowTables) (T : Tables) → slow_full S ≡ true → full_size T ≡ true → slow_load_verdict file S ≡ load_verdict file T
  unfolding slow_load_verdict load_verdict
  load_verdict_lem S T e f = rw (e, f) (by_verdict (sized file) (judgement file))
    where
      by_verdict : (b : Bool) (v : Verdict) → cond b (and_then v 0) (refused 1 0) ≡ cond b v (refused 1 0)
      by_verdict true (Ok _) = refl
      by_verdict true (Err r) = refl
      by_verdict false v = refl

  load_same : (T : Tables) → full_size T ≡ true
      → (slow_load_verdict file (slow_of T) ≡ load_verdict file T) × (slow_load_tables file (slow_of T) ≡ slow_of (load_tables file T))
  unfolding slow_load_tables load_tables drawing_tables
  load_same T e =
      let v = load_verdict_lem (slow_of T) T (slow_full-five T e) e in (v, rw v (by_verdict (load_verdict file T)))
    where
      by_verdict : (v : Verdict)
          → slow_by v (slow_of (drawing_tables (record_at file) (record_count file) (drawn (record_at file) (record_count file) (slow_of T)))) (slow_of T)
          ≡ slow_of (tables_by v (drawing_tables (record_at file) (record_count file) T) T)
      by_verdict (Ok _) = refl
      by_verdict (Err r) = refl

-- Five tables with components and wires beside them.
lent_both : (S : SlowTables) → slow_full S ≡ true → (T : Tables) × (full_size T ≡ true) × (slow_of T ≡ S)
unfolding slow_full full_size
lent_both S e = (
  tables_of (replicate 2048 0) S.inputs S.outputs (replicate 4096 0) S.current S.following S.standing
      (counts_of 0 S.counts.inputs S.counts.outputs 0 S.counts.current S.counts.following S.counts.standing),
  rw (long 2048, long 4096) (by_sizes (leb 1024 (length S.inputs)) (leb 1024 (length S.outputs)) (leb 256 (length S.current))
      (leb 256 (length S.following)) (leb 256 (length S.standing)) e),
  refl,
)
  where
    long : (k : ℕ) → leb k (length (replicate {A = ℕ} k 0)) ≡ true
    long k = le-leb k (length (replicate {A = ℕ} k 0)) (omega (arith, length-replicate {A = ℕ} k 0))

    by_sizes : (a b c d e : Bool) → (a && b && c && d && e) ≡ true → (true && a && b && true && c && d && e) ≡ true
    by_sizes true true c d e h = h
    by_sizes true false c d e h = h
    by_sizes false b c d e h = h

pub slow_as_load : SlowAsLoad
slow_as_load file = (load_verdict_lem file, load_same file, lent_both)

-- Tables that calls reach.
pub led_into_stored : LedIntoStored
led_into_stored file ran t T r i = led_into-driven file T (reached_kept file (load_fresh file) r).0 i

reached_same : (file : List ℕ) (ran : Bool) (t : ℕ) (T : Tables) → Reached file ran t T → SameCalls file T
reached_same file ran t T r =
    let kept = reached_kept file (load_fresh file) r in
    same_calls file T kept.0 kept.1.net

pub slow_equal : SlowEqual
slow_equal = (slow_as_load, reached_same)

pub where_16_stood : Where16Stood
where_16_stood file ran t T r S =
    let kept = reached_kept file (load_fresh file) r in
    let o = kept.0 in
    let z = kept.1.net in
    let N = net_number-net T z in (
      right-is_net file T o N S,
      λ f e.
          same_calls file (beside S T) (net_origin file T o N S e)
          (sym (net_number-0 (beside S T) (beside-full_size file T o N S (net_number-full T z) f) e)),
    )

-- One call.
record SameCall (file : List ℕ) (T : Tables) (c : SharedCall) : Type 0 where
  verdict : slow_call_verdict file c (slow_of T) ≡ and_then (Ok tt) (call_number (flat_call c) T)
  tables : slow_call_tables file c (slow_of T) ≡ slow_of (call_tables (flat_call c) T)
  words : slow_call_words file c (slow_of T) ≡ call_words c T

same_call : (file : List ℕ) (T : Tables) → SameCalls file T → (c : SharedCall) → SameCall file T c
same_call file T s (rounded t bits) =
    let r = s.0 bits t in
    record { verdict = r.0; tables = r.1; words = r.2 }
same_call file T s (edited way i v) =
    let e = s.1 way i v in
    record { verdict = e.0; tables = e.1; words = refl }
same_call file T s (until_calm t limit) =
    let u = s.2 t limit in
    record { verdict = u.0; tables = u.1; words = λ j. u.2 j ∷ u.3 j ∷ u.4 j ∷ [] }

-- One after the other.
along : (file : List ℕ) (cs : List SharedCall) (ran : Bool) (t : ℕ) (T : Tables) → Reached file ran t T
    → (slow_calls_told file cs (slow_of T) ≡ calls_told cs T) × (slow_calls_tables file cs (slow_of T) ≡ slow_of (calls_tables cs T))
along file [] ran t T r = (refl, refl)
along file (c ∷ cs) ran t T r =
    let s = same_call file T (reached_same file ran t T r) c in
    let next = along file cs _ _ (call_tables (flat_call c) T) (called (flat_call c) r) in
    let told = ap (slow_calls_told file cs) s.tables ∙ next.0 in (
      λ j. record { verdict = s.verdict j; words = s.words j } ∷ told j,
      ap (slow_calls_tables file cs) s.tables ∙ next.1,
    )

pub slow_along : SlowAlong
slow_along file T cs bytes a =
    let e = (load_same file T (load_passed file T a).full).1 in
    let next = along file cs false 0 (load_tables file T) (loaded T bytes a) in
    (ap (slow_calls_told file cs) e ∙ next.0, ap (slow_calls_tables file cs) e ∙ next.1)
