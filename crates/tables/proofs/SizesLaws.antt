-- What tables of full size have, taken apart and put together.
-- Assumes nothing.
use mathlib.Core.Path.{◌≡◌}
use mathlib.Core.Bool.{true}
use mathlib.Core.List.{[], ◌∷◌}
use Prim.Native.Nat.{◌*◌, ◌≤◌}
use borrow.Author.Tests.{leb-true, le-leb}
use lib.ListN.{length}
use lib.Dec.{leb}
use Rattle.tables.specs.Tables.{Tables, full_size}
use Rattle.tables.proofs.PartsLaws.{parts_sound}

pub record Full (T : Tables) : Type 0 where
  pub components : 2048 ≤ length T.components
  pub inputs : 1024 ≤ length T.inputs
  pub outputs : 1024 ≤ length T.outputs
  pub wires : 4096 ≤ length T.wires
  pub current : 256 ≤ length T.current
  pub following : 256 ≤ length T.following
  pub standing : 256 ≤ length T.standing

pub full_size-sound : (T : Tables) → full_size T ≡ true → Full T
unfolding full_size
full_size-sound T e =
    let p =
    parts_sound (leb 2048 (length T.components))
    (leb 1024 (length T.inputs) ∷ leb 1024 (length T.outputs) ∷ leb 4096 (length T.wires) ∷ leb 256
    (length T.current)
    ∷ leb 256 (length T.following) ∷ leb 256 (length T.standing) ∷ []) e in
    record {
      components = leb-true _ _ p.0;
      inputs = leb-true _ _ p.1.0;
      outputs = leb-true _ _ p.1.1.0;
      wires = leb-true _ _ p.1.1.1.0;
      current = leb-true _ _ p.1.1.1.1.0;
      following = leb-true _ _ p.1.1.1.1.1.0;
      standing = leb-true _ _ p.1.1.1.1.1.1.0;
    }

pub full_size-complete : (T : Tables) → Full T → full_size T ≡ true
unfolding full_size
full_size-complete T z =
    rw (
      le-leb (8 * 256) (length T.components) z.components,
      le-leb 1024 (length T.inputs) z.inputs,
      le-leb 1024 (length T.outputs) z.outputs,
      le-leb (4 * 1024) (length T.wires) z.wires,
      le-leb 256 (length T.current) z.current,
      le-leb 256 (length T.following) z.following,
      le-leb 256 (length T.standing) z.standing,
    )
