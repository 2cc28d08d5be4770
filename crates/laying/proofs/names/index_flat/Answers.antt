-- `index_flat`: the words of the components passed so far are their flat indexes, and the count is the next one's; past the records it stays.
-- Assumes nothing.
use mathlib.Core.Path.{◌≡◌, sym, ap, ◌∙◌}
use mathlib.Core.List.{◌++◌}
use Prim.Native.Nat.{ℕ, ◌-◌}
use native.Mathlib.Omega.{arith}
use lib.ListN.{length, drop, replicate}
use lib.Seq.{length-take-le}
use Rattle.std.proofs.Common.{rules}
use Rattle.std.proofs.lemmas.List.{places, get_or_append_left}
use Rattle.component.specs.Record.{record_at, record_count, is_primitive}
use Rattle.flatten.specs.Descent.{flat}
use Rattle.laying.proofs.StandingLaws.{flat_next, flat_same, flat_few, flat_word, flat_filled}
use Rattle.laying.proofs.names.index_flat.Goals as goal
use Rattle.laying.proofs.names.index_flat.Goals.{else-is_primitive_at, then-is_primitive_at}

pub overflow_add-count : goal.overflow_add-count
overflow_add-count c =
    let l = c.loop-c in
    let file = c.args.file.now in
    let size = length-take-le c.few-rows.result c.args.flat.now (omega arith) in
    omega (arith, l.invariant.0, flat_few (record_at file) (record_count file) l.c, size, c.few-rows.ensures.0)

pub loop-c-preserved : goal.loop-c-preserved
loop-c-preserved c =
    let l = c.loop-c in
    let file = c.args.file.now in
    let e : is_primitive (record_at file l.c) ≡ c.is_primitive_at.result =
    sym c.is_primitive_at.ensures in
    let words = flat_word (record_at file) (record_count file) l.entry-items l.c l.count (omega arith) l.invariant.0
    l.invariant.1 in
    elim c.if-is_primitive_at.branch [
      | then-is_primitive_at w ↦ (
        w.count-is ∙ flat_next (record_at file) (record_count file) l.c
            l.count (e ∙ w.if-is_primitive_at.true) l.invariant.0,
        words,
      )
      | else-is_primitive_at w ↦ (
        w.count-is ∙ flat_same (record_at file) (record_count file) l.c
            l.count (e ∙ w.if-is_primitive_at.false) l.invariant.0,
        words,
      )
    ]

pub returns : goal.returns
returns c =
    let l = c.loop-c in
    let few = c.few-rows.ensures in
    let file = c.args.file.now in
    let rows = c.few-rows.result in
    let size : length l.entry-items ≡ rows = search rules in
    let all : l.c ≡ rows = omega (arith, size) in
    let filled : c.fill.new.self ≡ replicate {A = ℕ} (256 - rows) l.count = search (rules, places) in
    flat_filled file (l.entry-items ++ drop rows c.args.flat.now) c.fill.new.self _ rows l.count few.0 (λ h. omega (arith, few.1 h)) (search (rules, places))
    (l.invariant.0 ∙ ap (flat (record_at file) (record_count file)) all)
    (λ k h. get_or_append_left l.entry-items _ 0 k (omega (arith, size)) ∙ l.invariant.1 k (omega arith)) filled (search (rules, places))
