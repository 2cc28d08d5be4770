-- `id_among`: a component of the range has the id exactly if it stands among their ids.
-- Assumes nothing.
use mathlib.Core.Path.{◌≡◌, refl, ◌∙◌}
use mathlib.Core.Bool.{Bool}
use Prim.Native.Nat.{ℕ}
use native.Mathlib.Omega.{arith}
use lib.Dec.{eqb}
use Rattle.std.proofs.Common.{rules, tests}
use Rattle.std.proofs.lemmas.Iterator.{YieldsList-from_range}
use Rattle.std.proofs.lemmas.Iterator.Search.{any_from_yields_List}
use Rattle.std.specs.List.{list_any, range_with_len}
use Rattle.tables.specs.Words.{id_in}
use Rattle.net.proofs.LoopsLaws.{any_gives}
use Rattle.net.proofs.ids.id_among.Goals as goal

pub returns : goal.returns
returns c =
    let a = c.args in
    let test : ℕ → Bool = λ i. eqb (id_in a.components.now i) a.id.0 in
    let e : c.any.result ≡ list_any test (range_with_len 0 a.count) =
    any_from_yields_List test c.any.new.self _ c.any.result c.any.ensures.ran (YieldsList-from_range 0 a.count a.count refl (omega arith)) (λ x b q k. search (rules, tests)) in
    e ∙ any_gives (id_in a.components.now) a.id.0 0 a.count
