-- `join`: the ports passed, which are the last, are joined, and those before them are still to come.
-- Assumes nothing.
use mathlib.Core.Path.{◌≡◌, refl, sym, ap, ◌∙◌}
use mathlib.Core.List.{List, append-nil}
use Prim.Native.Nat.{ℕ}
use native.Mathlib.Omega.{arith}
use lib.ListN.{length, drop}
use lib.Seq.{drop-length}
use Rattle.std.specs.Iterator.Adapters.{rev_source}
use Rattle.std.specs.Slice.Iter.{iter_rest}
use Rattle.value.proofs.ValueLaws.{level_le}
use Rattle.primitive.specs.Evaluate.{join}
use Rattle.primitive.specs.Own.{high}
use Rattle.primitive.proofs.RulesLaws.{join_whole, join_step, join_room}
use Rattle.primitive.proofs.rules.join.Goals as goal
use Rattle.primitive.proofs.rules.join.Goals.{After-level_of}

-- The ports still to come before a turn, and after it.
abbrev before : After-level_of → List ℕ
before c = iter_rest (rev_source c.loop-port.port-iterator)

abbrev rest : After-level_of → List ℕ
rest c = iter_rest (rev_source c.next.new.self)

pub loop-port-init : goal.loop-port-init
loop-port-init c =
    let xs = c.args.ports.now in
    let e : iter_rest (rev_source c.into_iter-port-iterator.result) ≡ xs = cc in
    rw (e, drop-length xs) (sym (append-nil xs), refl)

pub overflow_mul-number : goal.overflow_mul-number
overflow_mul-number c =
    let s = c.loop-port in
    omega (arith, s.invariant.1, join_room c.args.ports.now (before c) (rest c) c.in-Some.port.now s.invariant.0 c.in-Some.ensures.steps (omega arith))

pub overflow_add-number : goal.overflow_add-number
overflow_add-number c =
    let s = c.loop-port in
    omega (
      arith,
      s.invariant.1,
      join_room c.args.ports.now (before c) (rest c) c.in-Some.port.now s.invariant.0 c.in-Some.ensures.steps (omega arith),
      c.level_of.ensures,
      level_le (high c.in-Some.port.now),
    )

pub loop-port-preserved : goal.loop-port-preserved
loop-port-preserved c =
    let s = c.loop-port in
    let xs = c.args.ports.now in
    let last = c.in-Some.ensures.steps in (
      join_whole xs (before c) (rest c) c.in-Some.port.now s.invariant.0 last,
      rw (c.level_of.ensures, s.invariant.1) (join_step xs (before c) (rest c) c.in-Some.port.now s.invariant.0 last),
    )

pub returns : goal.returns
returns c =
    let s = c.loop-port in
    let e : length (iter_rest (rev_source s.port-iterator)) ≡ 0 = c.in-None.ensures.steps.0 in
    s.invariant.1 ∙ ap (λ (k : ℕ). join (drop k c.args.ports.now)) e
