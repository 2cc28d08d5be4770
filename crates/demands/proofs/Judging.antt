-- Judging what the lists name: on a net of which the invariant holds it equals judging all (crate quiet), and the drawing is satisfied exactly
-- where the tables are.
-- Assumes nothing.
use Rattle.quiet.proofs.Judged.{net_judged, net_satisfied, satisfied_net}
use Rattle.demands.proofs.Called.{reached_kept}
use Rattle.demands.proofs.Demand3.{load_fresh, satisfied, satisfied_at}
use Rattle.demands.specs.Judging.{JudgedSatisfied}

-- In every state reached from an accepted load the answer equals judging all components and all wires; once a round has run, it is true exactly
-- where the drawing is satisfied, Clocks taken at the last round's time.
pub judging : JudgedSatisfied
judging file ran t T r =
    let p = reached_kept file (load_fresh file) r in
    let o = p.0 in
    let net = p.1.net in
    let unbroken = p.1.unbroken in (
      net_judged T ran t net unbroken,
      λ once. (
        λ e. satisfied file o.lent o.accepted T o.wiring t (net_satisfied T ran t net unbroken once e),
        λ s. satisfied_net T ran t net unbroken (satisfied_at file o.lent o.accepted T o.wiring t s),
      ),
    )
