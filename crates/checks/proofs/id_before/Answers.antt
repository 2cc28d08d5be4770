-- `id_before`: whether one of the positions before passes, in the library's words and in those of the definition.
-- Assumes nothing.
use mathlib.Core.Path.{refl, ◌∙◌}
use native.Mathlib.Nat.{sub-zero}
use borrow.Author.Rules.{rules}
use borrow.Author.Tests.{tests}
use Rattle.std.proofs.iter.Serving.{serving}
use Rattle.std.proofs.lemmas.Iterator.{YieldsList-from_range}
use Rattle.std.proofs.lemmas.Iterator.Search.{any_from_yields_List}
use Rattle.lists.proofs.RangeLaws.{any_range}
use Rattle.component.proofs.ScanLaws.{tested}
use Rattle.component.specs.Reading.{has_id}
use Rattle.checks.proofs.id_before.Goals as goal

pub any-requires-clause-callable : goal.any-requires-clause-callable
any-requires-clause-callable c = grind serving

pub returns : goal.returns
returns c =
    let test = tested c.args.file.now (has_id c.args.id.0) in
    any_from_yields_List test _ _ _ c.any.ensures.ran (YieldsList-from_range 0 c.args.p c.args.p refl (sub-zero c.args.p))
    (λ x b q k. search (rules, tests))
    ∙ any_range test 0 c.args.p
