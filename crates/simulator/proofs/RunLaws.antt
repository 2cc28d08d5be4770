-- Run until calm: a turn of the loop, its end, and the call.
--   on_top r e m x      r rounds, e evaluations and m bits set before the run x
--   stopped_by round bits b k T   nothing more if b, else at most k rounds more
--   stopped t b k T    the same of rounds of a net at time t
-- Assumes nothing.
use mathlib.Core.Path.{◌≡◌, refl, sym, ap, ◌∙◌}
use mathlib.Core.Bool.{Bool, true, false, cond, not, ◌&&◌}
use mathlib.Core.List.{List, ◌∷◌}
use Prim.Native.Nat.{ℕ, suc, ◌+◌, ◌-◌, ◌≤◌, ◌<◌}
use native.Mathlib.Nat.{sub-zero, zero-add, add-zero}
use native.Mathlib.Omega.{arith}
use borrow.Author.Tests.{ltb-true, ltb-false, not-true}
use lib.ListN.{length, take}
use lib.Seq.{length-take-le}
use lib.Dec.{ltb}
use Rattle.lists.specs.Lists.{total, overlay}
use Rattle.lists.proofs.TestsLaws.{and_left, and_right}
use Rattle.kinds.specs.declared.answers.Refusal.{Refusal}
use Rattle.kinds.specs.Given.{Verdict, done}
use Rattle.tables.specs.declared.Counts.{Counts}
use Rattle.tables.specs.declared.Wire.{Wire}
use Rattle.tables.specs.Tables.{Tables, wires_in, current_list, count_words}
use Rattle.tables.proofs.NamedLaws.{overlay_list}
use Rattle.net.specs.Net.{net_number, Checks}
use Rattle.rounds.specs.Round.{state_of, wires_from, moved_by, calm, round_bits, round_of}
use Rattle.rounds.proofs.MovedLaws.{moved_by-length}
use Rattle.simulator.specs.Calls.{round_tables, bits_set, Run, no_round, once_more, run_by, run, run_tables, Runs}
use Rattle.simulator.proofs.Kept.{round_tables-done, round_tables-net}
use Rattle.rounds.proofs.Sound.{current_in}
use Rattle.simulator.proofs.CallsLaws.{counted, call_refused, call_made}
use Rattle.std.specs.Prelude.{Ok, Err}

abbrev pub on_top : ℕ → ℕ → ℕ → Run → Run
on_top r e m x = record { tables = x.tables; rounds = r + x.rounds; evaluations = e + x.evaluations; moved = m + x.moved }

-- Any rounds, and what they pass on.
module _ (round : Tables → Tables) (bits : Tables → List ℕ) where
  abbrev pub stopped_by : Bool → ℕ → Tables → Run
  stopped_by b k T = cond b (no_round T) (run_by round bits k T)

  -- Before the first round.
  pub run_by-start : (limit : ℕ) (T : Tables) → on_top 0 0 0 (stopped_by false (limit - 0) T) ≡ run_by round bits limit T
  run_by-start limit T =
      let e : run_by round bits (limit - 0) T ≡ run_by round bits limit T = ap (λ (k : ℕ). run_by round bits k T) (sub-zero limit) in
      ap (on_top 0 0 0) e ∙ plain (run_by round bits limit T)
    where
      plain : (x : Run) → on_top 0 0 0 x ≡ x
      plain x = simp zero-add

  -- One round: of the tables T it leaves the tables U.
  module _ (T U : Tables) (left : round T ≡ U) (listed : length (current_list T) ≡ T.counts.current) where
    run_more : (k : ℕ) → run_by round bits (suc k) T ≡ once_more T.counts.current (total bits_set (bits T)) (stopped_by (calm U) k U)
    unfolding run_by
    run_more k = rw (left, listed)

    pub run_by-turn : (limit r e m n : ℕ) (c : Bool) (x : Run) → r < limit → c ≡ calm U → n ≡ total bits_set (bits T)
        → on_top r e m (stopped_by false (limit - r) T) ≡ x
        → on_top (r + 1) (e + T.counts.current) (m + n) (stopped_by c (limit - (r + 1)) U) ≡ x
    run_by-turn limit r e m n c x h q k so_far =
        let d : limit - r ≡ suc (limit - (r + 1)) = omega arith in
        let y = stopped_by c (limit - (r + 1)) U in
        let a : run_by round bits (limit - r) T ≡ once_more T.counts.current n y =
        ap (λ (l : ℕ). run_by round bits l T) d ∙ run_more (limit - (r + 1))
        ∙ ap (λ (b : Bool). once_more T.counts.current (total bits_set (bits T)) (stopped_by b (limit - (r + 1)) U)) (sym q)
        ∙ ap (λ (l : ℕ). once_more T.counts.current l y) (sym k) in
        let f : r + 1 + y.rounds ≡ r + suc y.rounds = omega arith in
        let g : e + T.counts.current + y.evaluations ≡ e + (T.counts.current + y.evaluations) = omega arith in
        let j : m + n + y.moved ≡ m + (n + y.moved) = omega arith in
        let i : on_top (r + 1) (e + T.counts.current) (m + n) y ≡ on_top r e m (once_more T.counts.current n y) = rw (f, g, j) in
        i ∙ sym (ap (on_top r e m) a) ∙ so_far

  -- After the last: calm, or no round is left.
  module _ (limit r e m : ℕ) (T : Tables) (x : Run) where
    run_calm : on_top r e m (stopped_by true (limit - r) T) ≡ x → record { tables = T; rounds = r; evaluations = e; moved = m } ≡ x
    run_calm so_far = plain ∙ so_far
      where
        plain : record { tables = T; rounds = r; evaluations = e; moved = m } ≡ on_top r e m (no_round T)
        plain = simp add-zero

    run_limit : limit ≤ r → on_top r e m (stopped_by false (limit - r) T) ≡ x
        → record { tables = T; rounds = r; evaluations = e; moved = m } ≡ x
    unfolding run_by
    run_limit h so_far =
        let d : limit - r ≡ 0 = omega arith in
        run_calm (sym (ap (λ (k : ℕ). on_top r e m (run_by round bits k T)) d) ∙ so_far)

  pub run_by-end : (b : Bool) (limit r e m : ℕ) (T : Tables) (x : Run) → (not b && ltb r limit) ≡ false
      → on_top r e m (stopped_by b (limit - r) T) ≡ x → record { tables = T; rounds = r; evaluations = e; moved = m } ≡ x
  run_by-end true limit r e m T x q so_far = run_calm limit r e m T x so_far
  run_by-end false limit r e m T x q so_far = run_limit limit r e m T x (ltb-false r limit q) so_far

-- What is counted in the words that a round's bits are laid over, as many as there are bits.
pub counted_front : (bits ms ns : List ℕ) (n k : ℕ) → length bits ≡ n → ns ≡ overlay bits ms → k ≡ total bits_set (take n ns)
    → k ≡ total bits_set bits
counted_front bits ms ns n k l e ek = ek ∙ ap (total bits_set) (rw e (overlay_list bits ms n (sym l)))

-- The words that a round's bits are laid over: at their front stand the bits.
pub bits_front : (T : Tables) (leaving : ℕ → List Wire) (t : ℕ) (ms ns : List ℕ) → length (current_list T) ≡ T.counts.current
    → ns ≡ overlay (moved_by T leaving t (state_of T) (current_list T)) ms
    → take T.counts.current ns ≡ moved_by T leaving t (state_of T) (current_list T)
bits_front T leaving t ms ns listed e =
    rw e (overlay_list (moved_by T leaving t (state_of T) (current_list T)) ms T.counts.current
    (sym (moved_by-length T leaving t (state_of T) (current_list T) ∙ listed)))

-- A round of the tables T, which are a net, at time t.
module _ (t : ℕ) (T : Tables) where
  pub round_net : (U : Tables) → net_number T ≡ 0 → U ≡ round_of t T → net_number U ≡ 0
  round_net U net made = ap net_number (made ∙ sym (round_tables-done T t net)) ∙ round_tables-net T t net

  module _ (net : net_number T ≡ 0) where
    pub net_current : length (current_list T) ≡ T.counts.current
    net_current = length-take-le T.counts.current T.current (current_in T net)

    -- As many bits as components are listed.
    pub bits_length : length (round_bits t T) ≡ T.counts.current
    unfolding round_bits
    bits_length = moved_by-length T (wires_from (wires_in T)) t (state_of T) (current_list T) ∙ net_current

-- A turn of the loop by rounds of a net at time t.
module _ (t : ℕ) where
  abbrev pub stopped : Bool → ℕ → Tables → Run
  stopped b k T = stopped_by (λ V. round_tables V t) (round_bits t) b k T

  -- One round: of the tables T, which are a net, it leaves the tables U.
  module _ (T U : Tables) (net : net_number T ≡ 0) (made : U ≡ round_of t T) where
    pub run_turn : (limit r e m n : ℕ) (c : Bool) (x : Run) (ms bits : List ℕ) → r < limit → c ≡ calm U → bits ≡ overlay (round_bits t T) ms
        → n ≡ total bits_set (take T.counts.current bits)
        → on_top r e m (stopped false (limit - r) T) ≡ x
        → on_top (r + 1) (e + T.counts.current) (m + n) (stopped c (limit - (r + 1)) U) ≡ x
    run_turn limit r e m n c x ms bits h q over counted so_far =
        run_by-turn (λ V. round_tables V t) (round_bits t) T U (round_tables-done T t net ∙ sym made) (net_current t T net) limit r e m n c x h q
        (counted_front (round_bits t T) ms bits T.counts.current n (bits_length t T net) over counted) so_far

-- The loop's test.
pub test_going : (b : Bool) (r limit : ℕ) → (not b && ltb r limit) ≡ true → b ≡ false
test_going b r limit e = not-true b (and_left (not b) (ltb r limit) e)

pub test_below : (b : Bool) (r limit : ℕ) → (not b && ltb r limit) ≡ true → r < limit
test_below b r limit e = ltb-true r limit (and_right (not b) (ltb r limit) e)

-- The call.
module _ (T : Tables) (t limit : ℕ) (v : Verdict) (said : Checks T v) where
  pub run_refused : (r : Refusal) → v ≡ Err r → Runs t limit T (Err r) T
  unfolding run_tables
  run_refused r e =
      let p = call_refused T v said r e in
      rw (p.1, p.0) (refl, refl)

  pub run_made : v ≡ Ok tt → (U : Tables) (m : Counts) (rounds evaluations moved : ℕ)
      → record { tables = counted U m; rounds = rounds; evaluations = evaluations; moved = moved } ≡ run limit t T
      → Runs t limit T (Ok (record { counts = m; rounds = rounds; evaluations = evaluations; moved = moved })) (counted U m)
  unfolding run_tables
  run_made passed U m rounds evaluations moved made =
      rw (call_made T v said passed)
      (ap (λ (x : Run). done (x.rounds ∷ x.evaluations ∷ x.moved ∷ count_words m)) made, ap (λ (x : Run). x.tables) made)
