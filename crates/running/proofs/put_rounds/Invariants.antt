-- `put_rounds`: what is written so far and what is to come are the rounds; each round leaves a net.
-- Assumes nothing.
use mathlib.Core.Path.{◌≡◌}
use Prim.Native.Nat.{◌-◌}
use lib.ListN.{length}
use Rattle.tables.specs.Tables.{tables_of}
use Rattle.net.specs.Net.{net_number}
use Rattle.text.proofs.TextLaws.{ToCome}
use Rattle.running.specs.Running.{round_lines}
use Rattle.running.proofs.put_rounds.Given as goal

abbrev pub invariant-loop-round : goal.invariant-loop-round
invariant-loop-round l =
    (length l.inputs ≡ length l.initial.inputs) × (length l.outputs ≡ length l.initial.outputs) × (length l.current ≡ length l.initial.current)
    × (length l.following ≡ length l.initial.following) × (length l.standing ≡ length l.initial.standing)
    × (net_number (tables_of l.components l.inputs l.outputs l.wires l.current l.following l.standing l.reached) ≡ 0)
    × ToCome l.initial.out l.at (round_lines 16 1 (tables_of l.components l.initial.inputs l.initial.outputs l.wires l.initial.current l.initial.following l.initial.standing l.initial.reached)) l.out l.next
    (round_lines (17 - l.round) l.round (tables_of l.components l.inputs l.outputs l.wires l.current l.following l.standing l.reached))
