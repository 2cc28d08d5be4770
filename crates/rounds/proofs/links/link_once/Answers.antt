-- `link_once`: linked already, nothing to visit, or linked here.
-- Assumes nothing.
use mathlib.Core.Path.{refl}
use Rattle.rounds.proofs.LinksLaws.{ready_done, ready_none}
use Rattle.rounds.proofs.links.link_once.Goals as goal

pub returns-then-linked-current : goal.returns-then-linked-current
returns-then-linked-current c = (λ h. ready_done c.args.linked c.args.current c.if-linked-current.true h, c.requires.2)

pub link-requires : goal.link-requires
link-requires c =
    let a = c.args in
    let none =
    ready_none a.linked a.current a.wires.now a.count a.head.now a.after.now c.if-linked-current.false c.requires.2 in
    (c.requires.0, c.requires.1, none, c.requires.3)

pub returns : goal.returns
returns c = (λ h. refl, c.link.ensures)
