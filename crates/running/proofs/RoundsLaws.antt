-- A round of a net as two calls, and the loop that writes the rounds.
-- Assumes nothing.
use mathlib.Core.Path.{◌≡◌, sym, ap, subst, ◌∙◌}
use mathlib.Core.Bool.{Bool, true, false, cond}
use mathlib.Core.List.{List, [], ◌∷◌, ◌++◌}
use Prim.Native.Nat.{ℕ, suc, ◌+◌, ◌-◌, ◌≤◌, ◌<◌}
use native.Mathlib.Omega.{arith}
use lib.ListN.{length}
use lib.Dec.{eqb}
use Rattle.value.specs.Value.{level}
use Rattle.kinds.specs.Given.{done, declined, refused_by}
use Rattle.tables.specs.declared.Counts.{Counts}
use Rattle.tables.specs.Tables.{Tables, current_list, counts_after}
use Rattle.net.specs.Net.{net_number}
use Rattle.rounds.specs.Round.{calm}
use Rattle.simulator.specs.Calls.{round_tables, Rounds}
use Rattle.questions.specs.Questions.{AsksCalm}
use Rattle.questions.proofs.AnswersLaws.{whether_gives-is}
use Rattle.simulator.proofs.CallsLaws.{counted, round_call-room}
use Rattle.simulator.proofs.Kept.{round_tables-net}
use Rattle.text.proofs.TextLaws.{ToCome, begun, put_piece}
use Rattle.text.specs.Text.{Puts}
use Rattle.lines.specs.Lines.{round_line}
use Rattle.running.specs.Running.{ending, round_lines}
use Rattle.running.specs.Made.{RoundMade, calm_of}
use Rattle.std.specs.Prelude.{Result, Ok}
use Rattle.kinds.specs.declared.answers.Refusal.{Refusal}

-- Asked of a net, whether it is calm is answered.
calm_net : (W : Tables) → net_number W ≡ 0 → (q : Result Bool Refusal) → AsksCalm W q → calm_of q ≡ calm W
calm_net W z q e =
    let g = done (level (calm W) ∷ []) in
    ap calm_of (whether_gives-is q (Ok (calm W)) (e ∙ ap (λ (j : ℕ). cond (eqb j 0) g (declined (refused_by j))) z))

-- One round: the counts are those of the answer, and calm is asked of the tables that are left.
module _ (T U : Tables) (net : net_number T ≡ 0) where
  pub rounded : (bits moved : List ℕ) (a : Result Counts Refusal) (m : Counts) (q : Result Bool Refusal) (b : Bool) → 256 ≤ length bits
      → Rounds 0 bits T a (counted U (counts_after a T.counts)) moved → m ≡ counts_after a T.counts → AsksCalm (counted U m) q → b ≡ calm_of q → RoundMade T (counted U m) b
  rounded bits moved a m q b h p d f g =
      let made : counted U m ≡ round_tables T 0 = ap (counted U) d ∙ p.0.1 ∙ round_call-room T 0 bits h in
      let z : net_number (counted U m) ≡ 0 = ap net_number made ∙ round_tables-net T 0 net in
      record { tables = made; calmly = g ∙ calm_net (counted U m) z q f }

-- The tables after a round are a net.
pub net_left : (T U : Tables) (c : Bool) → net_number T ≡ 0 → RoundMade T U c → net_number U ≡ 0
net_left T U c z h = ap net_number h.tables ∙ round_tables-net T 0 z

-- One turn of the loop: round r, of at most 16.
module _ (T U : Tables) (c : Bool) (h : RoundMade T U c) (r : ℕ) (less : r < 17) where
  rounds_step : round_lines (17 - r) r T ≡ round_line r (current_list U) ++ cond c (ending true) (round_lines (17 - (r + 1)) (r + 1) U)
  unfolding round_lines
  rounds_step =
      let d : 17 - r ≡ suc (17 - (r + 1)) = omega arith in
      let e : suc r ≡ r + 1 = omega arith in
      rw (d, sym h.tables, sym h.calmly, e)

  pub round_put : {t bs out new : List ℕ} {at next after : ℕ} (b : Bool) → c ≡ b → ToCome t at bs out next (round_lines (17 - r) r T)
      → Puts out next (round_line r (current_list U)) new after
      → ToCome t at bs new after (cond b (ending true) (round_lines (17 - (r + 1)) (r + 1) U))
  round_put {t} {bs} {out} {new} {at} {next} {after} b f so_far p =
      let rest : List ℕ = cond b (ending true) (round_lines (17 - (r + 1)) (r + 1) U) in
      let e : round_lines (17 - r) r T ≡ round_line r (current_list U) ++ rest =
      rounds_step ∙ ap (λ (x : Bool). round_line r (current_list U) ++ cond x (ending true) (round_lines (17 - (r + 1)) (r + 1) U)) f in
      put_piece t bs out new (round_line r (current_list U)) rest at next after
      (subst (ToCome t at bs out next) e so_far) p.place p.buffer

-- The loop begins inside the buffer, and what ends it is the last to be written.
pub begun_inside : (t bs : List ℕ) (at : ℕ) → at ≤ length t → ToCome t at bs t at bs
begun_inside t bs at h = begun t bs at at (omega arith)

pub last_part : {t bs out rest u : List ℕ} {at next m : ℕ} → ToCome t at bs out next rest → Puts out next rest u m → Puts t at bs u m
last_part h p = record { place = omega (arith, p.place, h.place, h.same_length); buffer = p.buffer ∙ h.buffer }

pub rounds_end : {t bs out u : List ℕ} {at next m : ℕ} (r : ℕ) (T : Tables) → 17 ≤ r
    → ToCome t at bs out next (round_lines (17 - r) r T) → Puts out next (ending false) u m → Puts t at bs u m
unfolding round_lines
rounds_end {t} {bs} {out} {u} {at} {next} {m} r T h so_far p =
    let d : 17 - r ≡ 0 = omega arith in
    last_part (subst (λ (k : ℕ). ToCome t at bs out next (round_lines k r T)) d so_far) p
