-- `round_over`: the lists that were copied out are those of the tables, and their marks say what they name.
-- Assumes nothing.
use mathlib.Core.Path.{◌∙◌}
use native.Mathlib.Omega.{arith}
use Rattle.tables.specs.Tables.{tables_of}
use Rattle.rounds.proofs.StepsLaws.{fits_few, fits_small, fits_copied}
use Rattle.rounds.proofs.RoundLaws.{copy_list, round_made}
use Rattle.rounds.proofs.MovedLaws.{round_moved_lem}
use Rattle.rounds.proofs.ListedLaws.{listed_none, listed_covers}
use Rattle.rounds.proofs.round_over.Goals as goal

pub copy-requires : goal.copy-requires
copy-requires g c = (c.requires.1.count, omega (arith, fits_few c.args.components.now _ _ c.requires.1))

pub copy-requires-2 : goal.copy-requires-2
copy-requires-2 g c = (c.requires.2.count, omega (arith, fits_few c.args.components.now _ _ c.requires.2))

pub mark-requires : goal.mark-requires
mark-requires g c =
    (omega (arith, c.requires.1.count), λ j h. fits_small c.args.components.now _ _ c.requires.1 j (omega (arith, h)), listed_none)

pub mark-requires-2 : goal.mark-requires-2
mark-requires-2 g c =
    (omega (arith, c.requires.2.count), λ j h. fits_small c.args.components.now _ _ c.requires.2 j (omega (arith, h)), listed_none)

pub visit_all-reached-requires : goal.visit_all-reached-requires
visit_all-reached-requires g c =
    let a = c.args in
    let fol = copy_list a.counts.following a.following.now _ _ c.requires.1.count c.copy.ensures in (
      c.requires.0,
      c.requires.4,
      record {
        fits = fits_copied a.components.now _ _ c.requires.1 _ (omega (arith, c.copy.auto.into)) fol;
        marked = rw fol c.mark.ensures;
      },
      listed_covers _ a.standing.now _ a.counts.standing
          (omega (arith, fits_few a.components.now _ _ c.requires.2, c.copy-2.auto.into))
          (copy_list a.counts.standing a.standing.now _ _ c.requires.2.count c.copy-2.ensures) c.mark-2.ensures,
      c.requires.3,
    )

pub end_round-requires : goal.end_round-requires
end_round-requires g c =
    let v = c.visit_all-reached in
    let n = v.auto.following ∙ c.copy.auto.into in
    let l = v.auto.standing ∙ c.copy-2.auto.into in (
      v.ensures.2,
      v.ensures.3,
      omega (arith, v.ensures.2, n, c.requires.0.whole),
      omega (arith, v.ensures.3, l, c.requires.1.whole),
      omega (arith, v.ensures.3, l, c.requires.2.whole),
    )

pub returns : goal.returns
returns g c ws =
    let a = c.args in
    let came = tables_of a.components.now a.inputs.now a.outputs.now ws a.current.now a.following.now a.standing.now a.counts in
    let leaving = g.W.Wiring.leaving a.wiring.now in
    let fol = copy_list a.counts.following a.following.now _ _ c.requires.1.count c.copy.ensures in
    let std = copy_list a.counts.standing a.standing.now _ _ c.requires.2.count c.copy-2.ensures in
    let v = c.visit_all-reached in (
      round_made came a.time leaving _ _ _ _ _ _ _ _ _ v.result _ fol std v.ensures.0 c.end_round.ensures,
      round_moved_lem came leaving a.time _ _ a.moved.now _ fol std v.ensures.1,
    )
