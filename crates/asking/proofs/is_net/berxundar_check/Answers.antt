-- `berxundar_check`: too few count words, or the number of the refusal, 0 where there is none.
-- Assumes nothing.
use mathlib.Core.Path.{◌≡◌, refl, ap, ◌∙◌}
use mathlib.Core.List.{[]}
use native.Mathlib.Omega.{arith}
use borrow.Author.Tests.{lt-ltb, le-ltb}
use lib.ListN.{length}
use Rattle.kinds.specs.Given.{Verdict, verdict_gives, spoken}
use Rattle.tables.specs.Tables.{tables_of}
use Rattle.kinds.specs.declared.answers.Refusal.{Refusal}
use Rattle.kinds.proofs.GivenLaws.{refusing_err}
use Rattle.net.specs.Net.{Checks, net_number}
use Rattle.words.proofs.WordsLaws.{none_laid}
use Rattle.words.proofs.PlainLaws.{net_small}
use Rattle.asking.proofs.AskingLaws.{ask_short, ask_made}
use Rattle.asking.proofs.is_net.berxundar_check.Goals as goal

pub returns-then-counts-lt7 : goal.returns-then-counts-lt7
returns-then-counts-lt7 c =
    let a = c.args in
    ask_short (λ (v : Verdict). verdict_gives v []) Checks _ _ _ (tables_of a.components.now a.inputs.now a.outputs.now a.wires.now a.current.now a.following.now a.standing.now) (lt-ltb (length a.counts.now) 7 c.if-counts-lt7.true)

pub speak-requires : goal.speak-requires
speak-requires c =
    let p = refusing_err (net_number c.new-lent.result) _ _ c.check_net.ensures c.in-Err.is in
    rw p.1 (omega (arith, net_small c.new-lent.result))

pub returns-in-Ok : goal.returns-in-Ok
returns-in-Ok c =
    let a = c.args in
    let v = c.check_net.result in
    let came = tables_of a.components.now a.inputs.now a.outputs.now a.wires.now a.current.now a.following.now a.standing.now in
    ask_made (λ (u : Verdict). verdict_gives u []) Checks _ a.counts.now [] came v c.counts_in.result [] 0
    (le-ltb (length a.counts.now) 7 c.if-counts-lt7.false) c.counts_in.ensures (rw c.new-lent.ensures at c.check_net.ensures)
    (rw c.in-Ok.is refl) (rw c.in-Ok.is (none_laid []))

pub returns-in-Err : goal.returns-in-Err
returns-in-Err c =
    let a = c.args in
    let v = c.check_net.result in
    let came = tables_of a.components.now a.inputs.now a.outputs.now a.wires.now a.current.now a.following.now a.standing.now in
    let p = refusing_err (net_number c.new-lent.result) _ _ c.check_net.ensures c.in-Err.is in
    ask_made (λ (u : Verdict). verdict_gives u []) Checks _ a.counts.now [] came v c.counts_in.result [] c.speak.result
    (le-ltb (length a.counts.now) 7 c.if-counts-lt7.false) c.counts_in.ensures (rw c.new-lent.ensures at c.check_net.ensures)
    (rw c.in-Err.is (c.speak.ensures ∙ rw p.1 (omega arith))) (rw c.in-Err.is (none_laid []))
