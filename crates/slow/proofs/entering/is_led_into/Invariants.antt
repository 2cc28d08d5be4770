-- `is_led_into`: one of the records still to come leads into component i exactly if one of all does.
-- Assumes nothing.
use mathlib.Core.Path.{◌≡◌}
use Prim.Native.Nat.{◌-◌}
use lib.ListN.{length}
use Rattle.lists.specs.Lists.{from, any}
use Rattle.component.specs.Record.{record_at, record_count}
use Rattle.slow.specs.Slow.{led_into, enters_by}
use Rattle.slow.proofs.entering.is_led_into.Given as goal

abbrev pub invariant-loop-p : goal.invariant-loop-p
invariant-loop-p l =
    (length l.targets ≡ 2048)
    × (any (enters_by (record_at l.file) (record_count l.file) l.i) (from l.p (record_count l.file - l.p)) ≡ led_into (record_at l.file) (record_count l.file) l.i)
