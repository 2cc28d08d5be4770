-- `all_fit`: each value passes the test exactly if all fit.
-- Assumes nothing.
use mathlib.Core.Path.{◌≡◌, ◌∙◌}
use lib.ListN.{take}
use Rattle.std.proofs.Common.{rules, tests}
use Rattle.std.proofs.lemmas.Iterator.{YieldsList-from_slice, YieldsList-from_zip}
use Rattle.std.proofs.lemmas.Iterator.Search.{all_from_yields_List}
use Rattle.std.specs.List.{list_all, zip}
use Rattle.primitive.proofs.EvaluateLaws.{pair_fits, fitting_pairs}
use Rattle.primitive.proofs.single.all_fit.Goals as goal

pub returns : goal.returns
returns c =
    let a = c.args in
    let ns = take a.count a.numbers.now in
    let ws = take a.count a.widths.now in
    let e : c.all.result ≡ list_all (pair_fits a.width) (zip ns ws) =
    all_from_yields_List (pair_fits a.width) c.all.new.self _ c.all.result c.all.ensures.ran
    (YieldsList-from_zip (YieldsList-from_slice ns cc) (YieldsList-from_slice ws cc)) (λ x b q k. search (rules, tests)) in
    e ∙ fitting_pairs a.width a.count a.numbers.now a.widths.now c.requires.0 c.requires.1
