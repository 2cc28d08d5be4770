-- A connection's targets, listed in a table of 1,024, in a drawing that passes the checks before 15: there is room for them, and those read
-- are those that the connection goes to. For check 15, and for whoever else lists the targets of a connection.
-- Assumes nothing.
use mathlib.Core.Path.{◌≡◌, ap, ◌∙◌}
use mathlib.Core.List.{List}
use Prim.Native.Nat.{ℕ, ◌+◌, ◌≤◌, ◌<◌}
use native.Mathlib.Omega.{arith}
use lib.ListN.{length}
use Rattle.component.specs.declared.ChildNo.{ChildNo}
use Rattle.component.specs.declared.Says.TheVariants.{Connection}
use Rattle.component.specs.Record.{record_at}
use Rattle.component.specs.Reading.{apart}
use Rattle.component.specs.Drawing.{deepest, child}
use Rattle.flatten.specs.declared.Pin.{Pin}
use Rattle.flatten.specs.Descent.{inputs_below, goes_to}
use Rattle.flatten.specs.Targets.{target_place, targets_in, Listed}
use Rattle.flatten.proofs.DescentLaws.{targets_are, form_is}
use Rattle.flatten.proofs.TargetsLaws.{listed_count, listed_length, listed_read}
use Rattle.flatten.proofs.Accepted.{Passed}
use Rattle.flatten.proofs.Bound.{targets_bound}

-- Record p of the file s is a connection, and g is the child that it enters.
module _ (s : List ℕ) (n : ℕ) (d : Passed (record_at s) n) (p : ℕ) (l : p < n) (o a b : ℕ) (f t : ChildNo)
    (e : record_at s p ≡ apart o (Connection f a t b)) (m g : ℕ) (em : m ≡ deepest) (eg : g ≡ child (record_at s) n o t.0) where
  goes : inputs_below (record_at s) n m g b ≡ goes_to (record_at s) n p
  goes = targets_are s n p o a b f t e m g em eg

  pub connection_room : target_place (0 + length (inputs_below (record_at s) n m g b)) ≤ target_place 1024
  connection_room = omega (arith, ap (λ (y : List Pin). length y) goes, targets_bound (record_at s) n d p l (form_is s n p o a b f t e))

  module _ (ts us : List ℕ) (c : ℕ) (listed : Listed ts 0 (inputs_below (record_at s) n m g b) us c) (full : length ts ≡ target_place 1024) where
    pub connection_within : target_place c ≤ length us
    connection_within = omega (arith, listed_count ts _ us c listed, listed_length ts _ us c listed, connection_room)

    pub connection_read : targets_in us c ≡ goes_to (record_at s) n p
    connection_read = listed_read ts _ us c listed (omega (arith, connection_room)) ∙ goes
