use mathlib.Core.Path.{◌∙◌, ap, sym}
use Rattle.primitive.specs.Evaluate.{moved}
use Rattle.primitive.proofs.RulesLaws.{set_only}
use Rattle.primitive.proofs.MovedLaws.{moved_only}
use Rattle.primitive.proofs.rules.put.Goals as goal

pub returns : goal.returns
returns c =
    let ys = c.args.outputs.now in
    let e = set_only ys c.args.number c.requires in
    (moved_only ys c.args.number c.level_of-bits.result c.requires c.level_of-bits.ensures ∙ ap (moved ys) (sym e), e)
