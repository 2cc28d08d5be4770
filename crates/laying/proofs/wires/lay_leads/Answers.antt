-- `lay_leads`: the wires to the targets passed so far are laid.
-- Assumes nothing.
use mathlib.Core.Path.{◌≡◌}
use native.Mathlib.Omega.{arith}
use lib.ListN.{length}
use Rattle.laying.proofs.WiresLaws.{leads_start, leads_size, leads_step, leads_end}
use Rattle.laying.proofs.wires.lay_leads.Goals as goal

pub loop-k-init : goal.loop-k-init
loop-k-init c = (omega arith, search (leads_start))

pub target_at-requires : goal.target_at-requires
target_at-requires c = omega arith

pub overflow_add-at : goal.overflow_add-at
overflow_add-at c = omega arith

pub lay_lead-requires : goal.lay_lead-requires
lay_lead-requires c =
    let size : length c.loop-k.wires ≡ length c.args.wires.now = search (leads_size) in (
      c.requires.indexes_len.0,
      rw c.target_at.ensures (c.requires.count_in_bounds.1 c.loop-k.k c.loop-k-test.true),
      c.requires.indexes_len.1,
      omega arith,
    )

pub loop-k-preserved : goal.loop-k-preserved
loop-k-preserved c = (omega arith, search (leads_step))

pub overflow_add-result : goal.overflow_add-result
overflow_add-result c = omega arith

pub shape_of-wires : goal.shape_of-wires
shape_of-wires c = search (leads_size)

pub returns : goal.returns
returns c =
    let all : c.loop-k.k ≡ c.args.count = omega arith in
    search (leads_end)
