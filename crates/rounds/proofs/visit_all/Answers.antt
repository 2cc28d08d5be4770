-- `visit_all`: what the components still to come make of the state is what all of them make of the state that came in.
-- Assumes nothing.
use mathlib.Core.Path.{◌≡◌, refl, ◌∙◌}
use Prim.Native.Nat.{◌<◌}
use native.Mathlib.Omega.{arith}
use mathlib.Core.List.{[]}
use lib.ListN.{length-set}
use lib.Seq.{get_or-take, length-take-le}
use Rattle.tables.specs.Words.{uncounted}
use Rattle.rounds.specs.Steps.{bare}
use Rattle.rounds.proofs.StepsLaws.{evaluates_kept, fits_few, visits_next, visits_end}
use Rattle.rounds.proofs.MovedLaws.{bits_start, bits_next, bits_end}
use Rattle.rounds.proofs.visit_all.Goals as goal

pub loop-k-init : goal.loop-k-init
loop-k-init g c = (refl, refl, refl, refl, refl, c.requires.2, c.requires.3, refl, bits_start _ _ _ _ _ _ _)

pub visit-visited-requires : goal.visit-visited-requires
visit-visited-requires g c =
    let l = c.loop-k in
    let b : l.k < c.args.count = omega (arith, length-take-le c.args.count c.args.list.now c.requires.0.count) in
    let e = get_or-take c.args.count c.args.list.now l.k 0 b in (
      rw e (evaluates_kept (uncounted c.args.components.now []) _ _ _ _ _ (c.requires.1 l.k b).0 l.invariant.0 l.invariant.1),
      rw e (g.met.W.Wiring.kept _ _ _ _ _ _ _ (c.requires.1 l.k b).1 l.invariant.0 l.invariant.1),
      l.invariant.5,
      l.invariant.6,
    )

pub offset_bounds-moved-k : goal.offset_bounds-moved-k
offset_bounds-moved-k g c =
    let l = c.loop-k in
    let b : l.k < c.args.count = omega (arith, length-take-le c.args.count c.args.list.now c.requires.0.count) in
    omega (arith, b, fits_few c.args.components.now c.args.count c.args.list.now c.requires.0)

pub bounds-moved-k : goal.bounds-moved-k
bounds-moved-k g c =
    let l = c.loop-k in
    let b : l.k < c.args.count = omega (arith, length-take-le c.args.count c.args.list.now c.requires.0.count) in
    omega (arith, b, fits_few c.args.components.now c.args.count c.args.list.now c.requires.0, c.requires.4, l.invariant.4)

pub loop-k-preserved : goal.loop-k-preserved
loop-k-preserved g c =
    let l = c.loop-k in
    let v = c.visit-visited in
    let b : l.k < c.args.count = omega (arith, length-take-le c.args.count c.args.list.now c.requires.0.count) in
    let e = get_or-take c.args.count c.args.list.now l.k 0 b in
    let few = fits_few c.args.components.now c.args.count c.args.list.now c.requires.0 in
    let T = bare c.args.components.now in
    let ws = g.W.Wiring.leaving c.args.wiring.now in (
      v.auto.inputs ∙ l.invariant.0,
      v.auto.outputs ∙ l.invariant.1,
      v.auto.following ∙ l.invariant.2,
      v.auto.standing ∙ l.invariant.3,
      simp length-set l.invariant.4,
      v.ensures.1,
      v.ensures.2,
      visits_next T ws c.args.time c.args.list.now l.k c.args.count _ _ _ _ b c.requires.0.count e v.ensures.0 l.invariant.7,
      bits_next T ws c.args.time c.args.list.now c.args.count _ c.args.moved.now c.requires.0.count
          l.k _ _ _ _ l.moved b (omega (arith, few, c.requires.4)) e v.ensures.0 v.ensures.3 l.invariant.8,
    )

pub returns : goal.returns
returns g c =
    let l = c.loop-k in
    let e : l.k ≡ c.args.count = omega (arith, length-take-le c.args.count c.args.list.now c.requires.0.count) in
    let T = bare c.args.components.now in
    let ws = g.W.Wiring.leaving c.args.wiring.now in (
      visits_end T ws c.args.time c.args.list.now l.k c.args.count _ _ e l.invariant.7,
      bits_end T ws c.args.time c.args.list.now c.args.count _ c.args.moved.now c.requires.0.count l.k _ l.moved e l.invariant.8,
      l.invariant.5.fits.count,
      l.invariant.6.count,
    )
