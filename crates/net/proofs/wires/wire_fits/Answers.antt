-- `wire_fits`: where both components exist, what is left of the definition is tested, with the widths that are noted.
-- Assumes nothing.
use borrow.Author.Tests.{ltb-true}
use mathlib.Core.Bool.{true, ◌&&◌}
use mathlib.Core.Path.{◌≡◌}
use mathlib.Core.List.{[]}
use Prim.Native.Nat.{ℕ, ◌<◌}
use native.Mathlib.Omega.{arith}
use lib.Dec.{ltb}
use Rattle.lists.proofs.TestsLaws.{and_left, and_right}
use Rattle.net.specs.Parts.{lent}
use Rattle.net.proofs.ClausesLaws.{wire_fits-none, wire_fits-both}
use Rattle.net.proofs.wires.wire_fits.Goals as goal

-- A wire's components exist.
leaves : (from to n : ℕ) → ltb from n && ltb to n ≡ true → from < n
leaves from to n e = ltb-true from n (and_left (ltb from n) (ltb to n) e)

enters : (from to n : ℕ) → ltb from n && ltb to n ≡ true → to < n
enters from to n e = ltb-true to n (and_right (ltb from n) (ltb to n) e)

pub returns-then-not-from-n : goal.returns-then-not-from-n
returns-then-not-from-n c = wire_fits-none (lent c.args.components.now [] [] [] c.args.counts) c.args.wire c.if-not-from-n.true

pub output_count-outputs-requires : goal.output_count-outputs-requires
output_count-outputs-requires c = omega (arith, c.requires.1, leaves c.args.wire.src.comp.0 c.args.wire.dst.comp.0 c.args.counts.components c.if-not-from-n.false)

pub input_count-inputs-requires : goal.input_count-inputs-requires
input_count-inputs-requires c = omega (arith, c.requires.1, enters c.args.wire.src.comp.0 c.args.wire.dst.comp.0 c.args.counts.components c.if-not-from-n.false)

pub bounds-leaving-from : goal.bounds-leaving-from
bounds-leaving-from c = omega (arith, c.requires.0, leaves c.args.wire.src.comp.0 c.args.wire.dst.comp.0 c.args.counts.components c.if-not-from-n.false)

pub bounds-entering-to : goal.bounds-entering-to
bounds-entering-to c = omega (arith, c.requires.0, enters c.args.wire.src.comp.0 c.args.wire.dst.comp.0 c.args.counts.components c.if-not-from-n.false)

pub returns : goal.returns
returns c =
    let w = c.args.wire in
    let n = c.args.counts.components in
    rw (
      c.input_count-inputs.ensures,
      c.output_count-outputs.ensures,
      c.requires.2.outputs w.src.comp.0 (leaves w.src.comp.0 w.dst.comp.0 n c.if-not-from-n.false),
      c.requires.2.inputs w.dst.comp.0 (enters w.src.comp.0 w.dst.comp.0 n c.if-not-from-n.false),
    )
    (wire_fits-both (lent c.args.components.now [] [] [] c.args.counts) w c.if-not-from-n.false)
