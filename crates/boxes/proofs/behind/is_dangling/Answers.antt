-- `is_dangling`: whether one of the inputs is open is what the search over them finds.
-- Assumes nothing.
use mathlib.Core.Path.{◌≡◌, refl, ap, ◌∙◌}
use Prim.Native.Nat.{ℕ, ◌-◌}
use native.Mathlib.Omega.{arith}
use mathlib.Core.Bool.{Bool}
use lib.ListN.{length}
use lib.Dec.{eqb}
use borrow.Author.Tests.{tests}
use Rattle.std.proofs.Common.{rules}
use Rattle.std.proofs.lemmas.Iterator.{YieldsList-from_range}
use Rattle.std.proofs.lemmas.Iterator.Search.{any_from_yields_List}
use Rattle.kinds.specs.declared.table.Fields.{Fields}
use Rattle.component.specs.Record.{record_at, record_count}
use Rattle.boxes.specs.Boxes.{behind}
use Rattle.boxes.proofs.BehindLaws.{dangling_searched}
use Rattle.boxes.proofs.behind.is_dangling.Goals as goal

pub returns : goal.returns
returns c =
    let a = c.args in
    let count = c.fields_at-count.result.inputs in
    let bare : ℕ → Bool = λ i. eqb (length (behind (record_at a.file.now) (record_count a.file.now) a.c i)) 0 in
    let all : count - 0 ≡ count = omega arith in
    any_from_yields_List bare _ _ c.any.result c.any.ensures.ran (YieldsList-from_range 0 count count refl all) (λ x b q k. search (rules, tests))
    ∙ dangling_searched (record_at a.file.now) (record_count a.file.now) a.c count (ap (λ (f : Fields). f.inputs) c.fields_at-count.ensures)
