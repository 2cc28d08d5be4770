-- `send_along`: both ends stand in the tables; where the numbers agree nothing is done, where they differ the input is
-- written and the list of names has room for the target.
-- Assumes nothing.
use mathlib.Core.Path.{◌≡◌, refl, ap}
use mathlib.Core.List.{[]}
use Prim.Native.Nat.{ℕ, ◌+◌}
use native.Mathlib.Omega.{arith}
use Rattle.tables.specs.Tables.{Tables, input_place, output_place}
use Rattle.tables.specs.Words.{uncounted}
use Rattle.rounds.proofs.StepsLaws.{send_agrees, send_writes}
use Rattle.rounds.proofs.ListedLaws.{listed_overlay}
use Rattle.rounds.proofs.send_along.Goals as goal
use Rattle.rounds.proofs.send_along.Lts as lts
use Rattle.rounds.proofs.send_along.Tie as tie
use Rattle.rounds.proofs.send_along.Reads as reads

abbrev Start : Type 0
Start = lts.Start tie.the-claims reads.Pre reads.Post

abbrev AfterFirstOutput : Type 0
AfterFirstOutput = lts.After-first_output tie.the-claims reads.Pre reads.Post

abbrev AfterFirstInput : Type 0
AfterFirstInput = lts.After-first_input tie.the-claims reads.Pre reads.Post

abbrev T : Start → Tables
T s = uncounted s.args.components.now []

-- Where the ends of the wire stand.
source-place : (c : AfterFirstOutput) →
    c.first_output.result + c.args.wire.src.port ≡ output_place (T c.before.before.before.before.before) c.args.wire.src
source-place c = ap (λ (x : ℕ). x + c.args.wire.src.port) c.first_output.ensures

target-place : (c : AfterFirstInput) →
    c.first_input.result + c.args.wire.dst.port ≡ input_place (T c.before.before.before.before.before.before.before) c.args.wire.dst
target-place c = ap (λ (x : ℕ). x + c.args.wire.dst.port) c.first_input.ensures

pub first_output-requires : goal.first_output-requires
first_output-requires c = c.requires.0.source_row

pub overflow_add-source : goal.overflow_add-source
overflow_add-source c = omega (arith, c.requires.0.source, source-place c.before.before)

pub first_input-requires : goal.first_input-requires
first_input-requires c = c.requires.0.target_row

pub overflow_add-target : goal.overflow_add-target
overflow_add-target c = omega (arith, c.requires.0.target, target-place c.before.before)

pub word-number-requires : goal.word-number-requires
word-number-requires c = omega (arith, c.requires.0.source, source-place c.before.before.before.before)

pub word-requires : goal.word-requires
word-requires c = omega (arith, c.requires.0.target, target-place c.before.before.before)

pub returns-then-number-word : goal.returns-then-number-word
returns-then-number-word c =
    let a = c.args in (
      send_agrees (T c.before.before.before.before.before.before.before.before.before.before.before.before) a.inputs.now a.outputs.now a.following.now a.count a.wire _ _ _ _
          (source-place c.before.before.before.before.before.before.before) (target-place c.before.before.before.before.before) c.word-number.ensures c.word.ensures c.if-number-word.true c.requires.0.count,
      c.requires.1,
    )

pub offset_bounds-inputs-target : goal.offset_bounds-inputs-target
offset_bounds-inputs-target c =
    omega (arith, c.requires.0.target, target-place c.before.before.before.before.before)

pub bounds-inputs-target : goal.bounds-inputs-target
bounds-inputs-target c =
    omega (arith, c.requires.0.target, target-place c.before.before.before.before.before)

pub append_marked-requires : goal.append_marked-requires
append_marked-requires c =
    let p = c.requires in (p.0.few, p.0.count, p.0.room, p.1)

pub returns : goal.returns
returns c =
    let a = c.args in
    let r = c.append_marked.ensures in (
      send_writes (T c.before.before.before.before.before.before.before.before.before.before.before.before.before.before.before.before.before) a.inputs.now a.outputs.now a.following.now a.count a.wire _ _ _ _
          (source-place c.before.before.before.before.before.before.before.before.before.before.before.before) (target-place c.before.before.before.before.before.before.before.before.before.before) c.word-number.ensures c.word.ensures c.if-number-word.false _ _ _ refl
          r.0 r.1,
      listed_overlay _ _ a.following.now _ _ r.0 r.1 r.2,
    )
