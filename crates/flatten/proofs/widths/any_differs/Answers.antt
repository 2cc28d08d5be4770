-- `any_differs`: the closure computes whether the target has another width, and the chain asks it of each.
-- Assumes nothing.
use Rattle.std.proofs.Common.{rules}
use native.Mathlib.Omega.{arith}
use borrow.Author.Tests.{tests}
use Rattle.std.proofs.lemmas.Iterator.{YieldsList-from_range}
use Rattle.std.proofs.lemmas.Iterator.Search.{any_from_yields_List}
use Rattle.component.specs.Record.{record_at}
use Rattle.flatten.specs.Searches.{unlike}
use Rattle.flatten.specs.Targets.{target_in}
use Rattle.flatten.proofs.WidthsLaws.{differs_any}
use Rattle.flatten.proofs.widths.any_differs.Goals as goal

pub returns : goal.returns
returns c =
    let a = c.args in
    differs_any a.file.now a.targets.now a.width a.count _
    (any_from_yields_List (λ k. unlike (record_at a.file.now) a.width (target_in a.targets.now k)) _ _ _ c.any.ensures.ran
    (YieldsList-from_range 0 a.count a.count (cc) (omega arith)) (λ x b q k. search (rules, tests)))
