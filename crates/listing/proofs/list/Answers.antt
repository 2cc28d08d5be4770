-- `list`: an accepted file leaves a net, whose parts are put one after the other; a refused one its line.
-- Assumes nothing.
use mathlib.Core.Path.{◌≡◌}
use native.Mathlib.Omega.{arith}
use Rattle.component.specs.Record.{IsBytes}
use Rattle.tables.specs.Tables.{tables_of}
use Rattle.net.specs.Net.{net_number}
use Rattle.rounds.proofs.RoundLaws.{net_rows, net_wires}
use Rattle.lines.proofs.LinesLaws.{both, named_as}
use Rattle.running.specs.Running.{round_lines}
use Rattle.listing.specs.Listing.{fresh}
use Rattle.listing.proofs.LoadedLaws.{inside, listed_refused, listed_net, listed_done}
use Rattle.listing.proofs.list.Goals as goal

-- T: the tables that an accepted load leaves; they are a net.
pub put_net-wired-requires : goal.put_net-wired-requires
put_net-wired-requires c =
    let r = c.load-answer in
    let T = tables_of r.new.components r.new.inputs r.new.outputs r.new.wires r.new.current r.new.following r.new.standing c.in-Ok.counts in
    let bytes : IsBytes c.args.file.now = λ i. omega (arith, c.type_inv.file i) in
    let is_net : net_number T ≡ 0 = listed_net c.args.file.now r.result T (r.ensures fresh.counts) _ c.in-Ok.is bytes in
    (net_rows T is_net, net_wires T is_net)

pub put_rounds-requires : goal.put_rounds-requires
put_rounds-requires c =
    let r = c.load-answer in
    let T = tables_of r.new.components r.new.inputs r.new.outputs r.new.wires r.new.current r.new.following r.new.standing c.in-Ok.counts in
    let bytes : IsBytes c.args.file.now = λ i. omega (arith, c.type_inv.file i) in
    let is_net : net_number T ≡ 0 = listed_net c.args.file.now r.result T (r.ensures fresh.counts) _ c.in-Ok.is bytes in
    (inside c.put_net-wired.ensures, is_net)

pub returns-in-Ok : goal.returns-in-Ok
returns-in-Ok c =
    let r = c.load-answer in
    let T = tables_of r.new.components r.new.inputs r.new.outputs r.new.wires r.new.current r.new.following r.new.standing c.in-Ok.counts in
    named_as (listed_done c.args.file.now r.result T (r.ensures fresh.counts) _ c.in-Ok.is)
    (both {ys = round_lines 16 1 T} c.put_net-wired.ensures c.put_rounds.ensures)

pub returns-in-Err : goal.returns-in-Err
returns-in-Err c =
    let r = c.load-answer in
    let T = tables_of r.new.components r.new.inputs r.new.outputs r.new.wires r.new.current r.new.following r.new.standing fresh.counts in
    named_as (listed_refused c.args.file.now r.result T (r.ensures fresh.counts) _ c.in-Err.is) c.put_refused.ensures
