-- `names`: the entries still to come name components that are fresh exactly if all name components and none stands
-- twice.
-- Assumes nothing.
use mathlib.Core.Path.{◌≡◌, refl}
use Prim.Native.Nat.{◌<◌}
use native.Mathlib.Omega.{arith}
use lib.ListN.{get_or, take, length-set}
use lib.Seq.{get_or-take, length-take-le}
use Rattle.net.specs.Net.{names}
use Rattle.net.proofs.MarksLaws.{naming_start, naming_slice-past, naming_slice-again, naming_slice-next, naming_slice-end}
use Rattle.net.proofs.naming.names.Goals as goal
use Rattle.net.proofs.naming.names.Goals.{In-loop-entry}

-- A turn is below the count, and its entry is that of the list.
inside : (c : In-loop-entry) → c.loop-entry.entry-index < c.args.count
inside c = omega (arith, length-take-le c.args.count c.args.list.now)

entry_is : (c : In-loop-entry) →
    get_or (take c.args.count c.args.list.now) c.loop-entry.entry-index 0 ≡ get_or c.args.list.now c.loop-entry.entry-index 0
entry_is c = get_or-take c.args.count c.args.list.now c.loop-entry.entry-index 0 (inside c)

pub loop-entry-init : goal.loop-entry-init
loop-entry-init c =
    let a = c.args in
    (omega arith, refl, naming_start a.counts.components 256 (take a.count a.list.now))

pub returns-then-n-named : goal.returns-then-n-named
unfolding names
returns-then-n-named c =
    let a = c.args in
    let l = c.loop-entry in
    let i = (goal.at.returns-then-n-named c).In-loop-entry in
    naming_slice-past a.counts.components l.seen a.list.now l.entry-index a.count _ (omega arith) l.invariant.2
    (inside i) (omega (arith, entry_is i, c.if-n-named.true))

pub returns-then-seen-named-ne0 : goal.returns-then-seen-named-ne0
unfolding names
returns-then-seen-named-ne0 c =
    let a = c.args in
    let l = c.loop-entry in
    let i = (goal.at.returns-then-seen-named-ne0 c).In-loop-entry in
    naming_slice-again a.counts.components l.seen a.list.now l.entry-index a.count _ (omega arith) l.invariant.2
    (inside i) (rw (entry_is i) at c.if-seen-named-ne0.true)

pub loop-entry-preserved : goal.loop-entry-preserved
loop-entry-preserved c =
    let a = c.args in
    let l = c.loop-entry in
    let i = (goal.at.loop-entry-preserved c).In-loop-entry in
    let e = entry_is i in (
      omega (arith, inside i),
      simp length-set l.invariant.1,
      rw e
          (naming_slice-next a.counts.components l.seen a.list.now l.entry-index a.count _ (omega arith)
          l.invariant.2 (inside i)
          (omega (arith, e, c.if-n-named.false)) (omega (arith, e, c.if-n-named.false, l.invariant.1, c.requires.0))
          (rw e at c.if-seen-named-ne0.false)),
    )

pub returns : goal.returns
unfolding names
returns c =
    let a = c.args in
    let l = c.loop-entry in
    let e : l.entry-index ≡ a.count = omega (arith, length-take-le a.count a.list.now) in
    naming_slice-end a.counts.components l.seen a.list.now l.entry-index a.count _ (omega arith) l.invariant.2 e
