-- Rounds as calls: the answer and the tables of a refused call and of one that is made.
-- Assumes nothing.
use mathlib.Core.Path.{◌≡◌, refl}
use mathlib.Core.Bool.{true, false}
use mathlib.Core.List.{List}
use Prim.Native.Nat.{ℕ, ◌≤◌, ◌<◌}
use borrow.Author.Tests.{eq-eqb, ne_eqb, lt-ltb, le-ltb}
use lib.ListN.{length}
use lib.Dec.{eqb}
use Rattle.lists.specs.Lists.{overlay}
use Rattle.kinds.specs.declared.answers.Refusal.{Refusal}
use Rattle.kinds.specs.Given.{Verdict, refused_by}
use Rattle.kinds.proofs.GivenLaws.{refusing_err}
use Rattle.tables.specs.declared.Counts.{Counts}
use Rattle.tables.specs.Tables.{Tables, tables_of}
use Rattle.net.specs.Net.{net_number, Checks}
use Rattle.net.proofs.NetLaws.{passed_net}
use Rattle.rounds.specs.Round.{round_bits, round_of}
use Rattle.simulator.specs.Calls.{round_tables, round_number, round_call, round_moved, Rounds}
use Rattle.std.specs.Prelude.{Ok, Err}

-- The tables with other counts.
abbrev pub counted : Tables → Counts → Tables
counted T m = tables_of T.components T.inputs T.outputs T.wires T.current T.following T.standing m

-- The verdict that was given back, tested.
module _ (T : Tables) (v : Verdict) (said : Checks T v) where
  pub call_refused : (r : Refusal) → v ≡ Err r → (eqb (net_number T) 0 ≡ false) × (r ≡ refused_by (net_number T))
  call_refused r e =
      let p = refusing_err (net_number T) v r said e in
      (ne_eqb (net_number T) 0 p.0, p.1)

  pub call_made : v ≡ Ok tt → eqb (net_number T) 0 ≡ true
  call_made e = eq-eqb (net_number T) 0 (passed_net T v said e)

module _ (T : Tables) (t : ℕ) (bits : List ℕ) where
  -- A round that is lent bits enough has the number and the tables of a round.
  pub round_number-room : 256 ≤ length bits → round_number T bits ≡ net_number T
  round_number-room h = rw (le-ltb (length bits) 256 h)

  pub round_call-room : 256 ≤ length bits → round_call T bits t ≡ round_tables T t
  round_call-room h = rw (le-ltb (length bits) 256 h)

  -- A round that is lent too few bits changes no table.
  pub round_short : length bits < 256 → Rounds t bits T (Err (refused_by 2)) T bits
  unfolding round_moved
  round_short h = rw (lt-ltb (length bits) 256 h) ((refl, refl), refl)

  module _ (room : 256 ≤ length bits) (v : Verdict) (said : Checks T v) where
    -- Nor does one that is refused for the tables.
    pub round_refused : (r : Refusal) → v ≡ Err r → Rounds t bits T (Err r) T bits
    unfolding round_tables round_moved
    round_refused r e =
        let p = call_refused T v said r e in
        rw (p.1, le-ltb (length bits) 256 room, p.0) ((refl, refl), refl)

    -- A round that is made.
    pub round_made : v ≡ Ok tt → (U : Tables) (r : Counts) (moved : List ℕ) → counted U r ≡ round_of t T → moved ≡ overlay (round_bits t T) bits
        → Rounds t bits T (Ok r) (counted U r) moved
    unfolding round_tables round_moved
    round_made e U r moved made over = rw (le-ltb (length bits) 256 room, call_made T v said e) ((refl, made), over)
