-- What every call keeps, one clause a call, and what is known of all tables that calls reach: they are a net with the components and wires of the
-- load, and the invariant holds of them. A new call adds a clause to `call_kept`; nothing after it changes.
--   Kept ran t T U   U is a net with T's wiring, and the invariant holds of it
--   Origin file T    the load that reached tables started from
-- Assumes nothing.
use mathlib.Core.Path.{◌≡◌, sym, subst}
use mathlib.Core.Bool.{Bool, true, false, cond, ◌&&◌, ◌||◌, or-false}
use mathlib.Core.List.{List}
use Prim.Native.Nat.{ℕ}
use lib.ListN.{length}
use borrow.Author.Tests.{eq-eqb}
use lib.Dec.{eqb, ltb}
use Rattle.component.specs.Record.{IsBytes}
use Rattle.tables.specs.Tables.{Tables}
use Rattle.tables.proofs.SameLaws.{SameWiring, same_wiring-none, same_wiring-more}
use Rattle.net.specs.Net.{net_number}
use Rattle.load.specs.Load.{load_verdict, load_tables}
use Rattle.simulator.specs.Calls.{round_tables}
use Rattle.simulator.proofs.Kept.{round_tables-wiring, round_tables-net}
use Rattle.simulator.proofs.OrderedLaws.{ordered_tables-wiring, ordered_tables-net}
use Rattle.quiet.proofs.EditKept.{edit_tables-wiring, edit_tables-net}
use Rattle.quiet.proofs.Since.{Fresh, Unbroken, fresh_unbroken, round_tables-unbroken, ordered_tables-unbroken, edit_tables-unbroken}
use Rattle.quiet.proofs.Runs.{run_tables-net, run_tables-wiring, run_tables-unbroken}
use Rattle.demands.specs.Reached.{Call, call_number, call_tables, is_round, call_time, Reached, loaded, called}
use Rattle.demands.specs.Reached as calls
use Rattle.std.specs.Prelude.{Ok}

-- A call on these tables has run a round.
abbrev pub runs : Call → Tables → Bool
runs c T = is_round c && eqb (call_number c T) 0

pub record Kept (ran : Bool) (t : ℕ) (T U : Tables) : Type 0 where
  pub net : net_number U ≡ 0
  pub wiring : SameWiring T U
  pub unbroken : Unbroken U ran t

and_true : (a b : Bool) → b ≡ true → a ≡ (a && b)
and_true true b e = sym e
and_true false b e = λ i. false

-- What each call keeps of a net.
pub call_kept : (c : Call) (T : Tables) (ran : Bool) (t : ℕ) → net_number T ≡ 0 → Unbroken T ran t
    → Kept (ran || runs c T) (cond (runs c T) (call_time c) t) T (call_tables c T)
call_kept (calls.rounded u bits) T ran t z a = by_room (ltb (length bits) 256)
  where
    -- A table of bits that is too short leaves everything; else it is a round.
    by_room : (b : Bool) → Kept (ran || eqb (cond b 2 (net_number T)) 0) (cond (eqb (cond b 2 (net_number T)) 0) u t) T (cond b T (round_tables T u))
    by_room true =
        record {
          net = z;
          wiring = same_wiring-none T;
          unbroken = subst (λ (b : Bool). Unbroken T b t) (sym (or-false ran)) a;
        }
    by_room false = record { net = round_tables-net T u z; wiring = round_tables-wiring T u; unbroken = round_tables-unbroken T ran t u a }
call_kept (calls.edited way i v) T ran t z a =
    record {
      net = edit_tables-net way T i v z;
      wiring = edit_tables-wiring way T i v;
      unbroken = subst (λ (b : Bool). Unbroken (call_tables (calls.edited way i v) T) b t) (sym (or-false ran)) (edit_tables-unbroken way T ran t i v a);
    }
call_kept (calls.until_calm u limit) T ran t z a =
    record {
      net = run_tables-net T u limit z;
      wiring = run_tables-wiring T u limit;
      unbroken = subst (λ (b : Bool). Unbroken (call_tables (calls.until_calm u limit) T) (ran || b) (cond b u t))
          (and_true (ltb 0 limit) (eqb (net_number T) 0) (eq-eqb (net_number T) 0 z)) (run_tables-unbroken T ran t u limit z a);
    }
call_kept (calls.ordered u order bits) T ran t z a =
    record {
      net = ordered_tables-net T order bits u z;
      wiring = ordered_tables-wiring T order bits u;
      unbroken = ordered_tables-unbroken T order bits ran t u z a;
    }

pub record Origin (file : List ℕ) (T : Tables) : Type 0 where
  pub lent : Tables
  pub bytes : IsBytes file
  pub accepted : load_verdict file lent ≡ Ok tt
  pub wiring : SameWiring (load_tables file lent) T

-- The load that reached tables started from; and, where a load leaves a net in which every call starts afresh, what holds of them.
module _ (file : List ℕ) (fresh : (T : Tables) → IsBytes file → load_verdict file T ≡ Ok tt → Fresh (load_tables file T)) where
  pub reached_kept : {ran : Bool} {t : ℕ} {T : Tables} → Reached file ran t T → Origin file T × Kept ran t T T
  reached_kept (loaded T b a) =
      let f = fresh T b a in (
        record { lent = T; bytes = b; accepted = a; wiring = same_wiring-none (load_tables file T) },
        record { net = f.net; wiring = same_wiring-none (load_tables file T); unbroken = fresh_unbroken (load_tables file T) f },
      )
  reached_kept (called {ran = ran} {t = t} {T = T} c r) =
      let p = reached_kept r in
      let o = p.0 in
      let k = call_kept c T ran t p.1.net p.1.unbroken in (
        record {
          lent = o.lent;
          bytes = o.bytes;
          accepted = o.accepted;
          wiring = same_wiring-more (load_tables file o.lent) T (call_tables c T) o.wiring k.wiring;
        },
        record { net = k.net; wiring = same_wiring-none (call_tables c T); unbroken = k.unbroken },
      )
