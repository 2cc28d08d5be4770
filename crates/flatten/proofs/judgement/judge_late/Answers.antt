-- `judge_late`: the tests that ask the index, likewise.
-- Assumes nothing.
use Prim.Native.Nat.{ℕ, ◌/◌, ◌<◌}
use mathlib.Core.Path.{◌≡◌}
use mathlib.Core.Bool.{false}
use lib.ListN.{length}
use native.Mathlib.Omega.{arith}
use borrow.Author.Rules.{rules}
use borrow.Author.Tests.{tests}
use Rattle.std.proofs.iter.Serving.{serving}
use Rattle.component.specs.Record.{record_at}
use Rattle.component.specs.Drawing.{fails6}
use Rattle.flatten.proofs.JudgementLaws.{first_by}
use Rattle.flatten.proofs.Accepted.{passed_check}
use Rattle.flatten.proofs.judgement.judge_late.Goals as goal

-- 12
pub refused_at-requires-clause-first : goal.refused_at-requires-clause-first
refused_at-requires-clause-first c =
    (c.requires.0.few, omega arith, omega arith, first_by _ _ _ c.first_failing.ensures (λ p k. search (rules, tests)) (λ k. search (rules, tests)))

-- 14, of a record that check 6 passes
pub first_failing-requires-2 : goal.first_failing-requires-2
first_failing-requires-2 c =
    let s = c.args.file.now in
    let few : (p : ℕ) → p < length s / 24 → fails6 (record_at s) p ≡ false =
    λ p. passed_check (record_at s) (length s / 24) 12 6 p c.requires.1 (omega arith) in
    grind (serving, few)

pub refused_at-requires-3-clause-first : goal.refused_at-requires-3-clause-first
refused_at-requires-3-clause-first c =
    (c.requires.0.few, omega arith, omega arith, first_by _ _ _ c.first_failing-2.ensures (λ p k. search (rules, tests)) (λ k. search (rules, tests)))
