-- `entered_before`: the guess, or the chain, whose closure computes of each record before p whether it does.
-- Assumes nothing.
use Rattle.std.proofs.Common.{rules}
use mathlib.Core.Path.{sym, ◌∙◌}
use mathlib.Core.Bool.{Bool, ◌&&◌}
use Prim.Native.Nat.{ℕ}
use native.Mathlib.Omega.{arith}
use borrow.Author.Tests.{tests}
use Rattle.std.proofs.lemmas.Iterator.{YieldsList-from_range}
use Rattle.std.proofs.lemmas.Iterator.Search.{any_from_yields_List}
use Rattle.lists.specs.Lists.{from}
use Rattle.lists.proofs.MembersLaws.{any_some, from0_complete}
use Rattle.component.specs.Record.{loose_at}
use Rattle.component.specs.Reading.{enters}
use Rattle.lists.proofs.RangeLaws.{any_range}
use Rattle.mend.specs.Sifting.{marked_kept}
use Rattle.mend.proofs.sifting.entered_before.Goals as goal

pub returns-then-kept_enters : goal.returns-then-kept_enters
returns-then-kept_enters c =
    let f : ℕ → Bool = λ j. marked_kept c.args.kept.now j && enters c.args.entry.owner c.args.entry.to.0 c.args.entry.input (loose_at c.args.file.now j) in
    sym (any_some f c.args.guess (from 0 c.args.p) (sym c.kept_enters.ensures ∙ c.if-kept_enters.true)
    (from0_complete c.args.p c.args.guess (omega arith)))

pub returns : goal.returns
returns c =
    let a = c.args in
    let f : ℕ → Bool = λ j. marked_kept a.kept.now j && enters a.entry.owner a.entry.to.0 a.entry.input (loose_at a.file.now j) in
    any_from_yields_List f _ _ _ c.any.ensures.ran (YieldsList-from_range 0 a.p a.p (cc) (omega arith)) (λ x b q k. search (rules, tests))
    ∙ any_range f 0 a.p
