-- The bits of a component evaluated alone, by what an evaluation leaves; the bits of a round and the number of a run: what crate quiet has of the
-- tables' outputs, what a table of bits that is too short does, and the rounds of a run one by one.
-- Assumes nothing.
use mathlib.Core.Path.{◌≡◌, refl, sym, ap, ◌∙◌}
use mathlib.Core.Bool.{Bool, true, false, cond, not, ◌&&◌, true≢false}
use mathlib.Core.List.{List, [], ◌∷◌}
use Prim.Native.Nat.{ℕ, zero, suc, ◌+◌, ◌<◌}
use native.Mathlib.Omega.{arith}
use borrow.Author.Tests.{lt-ltb}
use lib.ListN.{length, get_or, take, drop, get_or-append}
use lib.Seq.{get_or-take}
use lib.Dec.{eqb, ltb}
use Rattle.lists.specs.Lists.{from, total}
use Rattle.lists.proofs.MembersLaws.{has_complete, total_later}
use Rattle.value.specs.Value.{level, bit_of}
use Rattle.kinds.specs.declared.table.Fields.{Fields}
use Rattle.kinds.proofs.GivenLaws.{done_giving}
use Rattle.primitive.specs.Evaluate.{function_of, outputs_after, moved_outputs, evaluate_number, evaluate_outputs}
use Rattle.primitive.specs.Own.{Own}
use Rattle.primitive.proofs.MovedLaws.{moved_port}
use Rattle.primitive.proofs.FitLaws.{outputs_after-length}
use Rattle.primitive.proofs.EvaluateLaws.{passed_own, done_outputs}
use Rattle.tables.specs.declared.Wire.{Wire}
use Rattle.tables.specs.Tables.{Tables, fields_at, wires_in, current_list}
use Rattle.net.specs.Net.{net_number}
use Rattle.rounds.specs.Round.{calm, bits_by, round_by, round_bits, round_of}
use Rattle.rounds.proofs.Held.{Order, stored_order}
use Rattle.simulator.specs.Calls.{round_tables, round_moved, bits_set, no_round, run_by, run}
use Rattle.simulator.specs.Ordered.{wires_by, ordered_number, ordered_tables}
use Rattle.simulator.proofs.Kept.{round_tables-done}
use Rattle.simulator.proofs.OrderedLaws.{made_net, order_order, ordered_tables-done}
use Rattle.simulator.proofs.CallsLaws.{round_number-room, round_call-room}
use Rattle.quiet.proofs.Moved.{round_bits_length, round_bit, round_still}
use Rattle.demands.specs.Moved.{EvaluatedRight, changed, Tells, BitsRight, BitsBeside, rounds_on, RunSum}

-- What an evaluation leaves: the component's outputs as it made them, and behind them what was there.
module _ (f : Fields) (xs vs ys ws : List ℕ) (t : ℕ) (z : evaluate_number f xs vs ys ws ≡ 0) where
  abbrev before : List ℕ
  before = take f.outputs ys

  abbrev made : List ℕ
  made = outputs_after f (take f.inputs xs) before t

  own : Own f (take f.inputs xs) before
  own = passed_own f xs vs ys ws z

  made_length : length made ≡ f.outputs
  made_length = outputs_after-length f (take f.inputs xs) before t own

  -- Output j of the component, before and after.
  made_at : (j : ℕ) → j < f.outputs → get_or (evaluate_outputs f xs vs ys ws t) j 0 ≡ get_or made j 0
  made_at j h =
      ap (λ (l : List ℕ). get_or l j 0) (sym (done_outputs f xs vs ys ws z made t refl made_length))
      ∙ get_or-append made (drop f.outputs ys) 0 j (omega (arith, made_length))

  evaluated_bit : (j : ℕ)
      → bit_of (moved_outputs f (take f.inputs xs) before t) j
      ≡ level (ltb j f.outputs && not (eqb (get_or ys j 0) (get_or (evaluate_outputs f xs vs ys ws t) j 0)))
  unfolding moved_outputs
  evaluated_bit j =
      moved_port before made f.outputs own.all_outputs made_length j _ _ (λ h. get_or-take f.outputs ys j 0 h) (λ h. sym (made_at j h))

pub evaluated_right : EvaluatedRight
evaluated_right f xs vs ys ws t bits zs p j =
    let given = done_giving (bits ∷ []) (moved_outputs f (take f.inputs xs) (take f.outputs ys) t ∷ []) (evaluate_number f xs vs ys ws) p.0 in
    ap (λ (l : List ℕ). bit_of (get_or l 0 0) j) given.1 ∙ evaluated_bit f xs vs ys ws t given.0 j
    ∙ ap (λ (l : List ℕ). level (ltb j f.outputs && not (eqb (get_or ys j 0) (get_or l j 0)))) (sym p.1)

-- A round of a net, its wires in any order.
tells : (T : Tables) → net_number T ≡ 0 → (ws : List Wire) → Order T ws → (t : ℕ) (U : Tables) → U ≡ round_by ws t T → Tells T (bits_by ws t T) U
tells T z ws o t U e = (
  round_bits_length T z ws o t,
  λ k j h. round_bit T z ws o t k j h
      ∙ ap (λ (W : Tables). level (ltb j (fields_at T (get_or (current_list T) k 0)).outputs && changed T W (get_or (current_list T) k 0) j)) (sym e),
  λ i j q l n. ap (λ (W : Tables). changed T W i j) e
      ∙ round_still T z ws o t i j q (λ m. true≢false (sym (has_complete i (current_list T) m) ∙ n)) l,
)

pub bits_right : BitsRight
unfolding round_bits round_of
bits_right = (
  λ T t z. tells T z (wires_in T) (stored_order T) t (round_tables T t) (round_tables-done T t z),
  λ T order bits t e.
      tells T (made_net T order bits e) (wires_by T order)
      (order_order T order bits e) t (ordered_tables T order bits t) (ordered_tables-done T order bits t e),
)

pub bits_beside : BitsBeside
unfolding round_moved
bits_beside T bits t = (
  λ h. (round_number-room T t bits h, round_call-room T t bits h),
  λ h. let s = lt-ltb (length bits) 256 h in (rw s, rw s, rw s),
)

pub run_sum : RunSum
unfolding run_by
run_sum zero t T = refl
run_sum (suc k) t T = ap (λ (x : ℕ). total bits_set (round_bits t T) + x) (by_calm (calm (round_tables T t)) (run_sum k t (round_tables T t)))
  where
    -- The rounds after the first: none, or those of the run from there.
    by_calm : (b : Bool)
        → (run k t (round_tables T t)).moved
        ≡ total (λ j. total bits_set (round_bits t (rounds_on j t (round_tables T t)))) (from 0 (run k t (round_tables T t)).rounds)
        → (cond b (no_round (round_tables T t)) (run k t (round_tables T t))).moved
        ≡ total (λ j. total bits_set (round_bits t (rounds_on j t T)))
        (from 1 (cond b (no_round (round_tables T t)) (run k t (round_tables T t))).rounds)
    by_calm true e = refl
    by_calm false e = e ∙ sym (total_later (λ j. total bits_set (round_bits t (rounds_on j t T))) 0 (run k t (round_tables T t)).rounds)

-- A Splitter of 3 bits that sees 5, by computing: its outputs were 0, 0, 0, and then 1, 1, 0.
pub splitter_moved :
    moved_outputs (record { kind = 10; inputs = 1; outputs = 3; width = 0; parameter = 3 }) (5 ∷ []) (0 ∷ 0 ∷ 0 ∷ []) 0
    ∷ moved_outputs (record { kind = 10; inputs = 1; outputs = 3; width = 0; parameter = 3 }) (5 ∷ []) (1 ∷ 1 ∷ 0 ∷ []) 0 ∷ []
    ≡ 5 ∷ 6 ∷ []
unfolding moved_outputs outputs_after function_of
splitter_moved = refl
