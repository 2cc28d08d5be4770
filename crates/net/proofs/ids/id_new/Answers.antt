-- `id_new`: the id is compared with those before, and then marked.
-- Assumes nothing.
use mathlib.Core.Path.{◌≡◌, sym, ap, ◌∙◌}
use mathlib.Core.Bool.{true, not, true≢false}
use mathlib.Core.List.{map}
use Prim.Native.Nat.{ℕ}
use native.Mathlib.Omega.{arith}
use Rattle.lists.specs.Lists.{from, has}
use Rattle.lists.proofs.KeysLaws.{marks_up}
use Rattle.kinds.specs.Marks.{mark_of}
use Rattle.tables.specs.Words.{id_in}
use Rattle.net.proofs.ids.id_new.Goals as goal
use Rattle.net.proofs.ids.id_new.Lts as lts
use Rattle.net.proofs.ids.id_new.Tie as tie
use Rattle.net.proofs.ids.id_new.Reads as reads

abbrev AfterIsAgain : Type 0
AfterIsAgain = lts.After-is_again tie.the-claims reads.Pre reads.Post

-- Whether the id stands before.
again : (c : AfterIsAgain) →
    c.is_again.result ≡ has (id_in c.args.components.now c.args.i) (map (id_in c.args.components.now) (from 0 c.args.i))
again c =
    c.is_again.ensures
    ∙ ap (λ (x : ℕ). has x (map (id_in c.args.components.now) (from 0 c.args.i))) c.id_at-id.ensures

pub id_at-id-requires : goal.id_at-id-requires
id_at-id-requires c = (c.requires.0, c.requires.1)

pub is_again-requires : goal.is_again-requires
is_again-requires c = (omega (arith, c.requires.0), c.requires.2)

pub returns-then-is_again : goal.returns-then-is_again
returns-then-is_again c = (ap not (sym c.if-is_again.true ∙ again c.before.before), λ e. absurd (true≢false (sym e)))

pub returns : goal.returns
returns c =
    let a = c.args in (
      ap not (sym c.if-is_again.false ∙ again c.before.before.before.before),
      λ e. marks_up 4096 (λ j. true) (λ j. mark_of (id_in a.components.now j)) 0 a.i a.marks.now c.requires.2
          c.mark_of-at.result c.mark_of-at.ensures.1 (c.mark_of-at.ensures.0 ∙ ap mark_of c.id_at-id.ensures),
    )
