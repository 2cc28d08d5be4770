-- `judge_early`: a test is made of each record before the next test begins; what the tests before have passed is what each one asks.
-- Assumes nothing.
use Prim.Native.Nat.{ℕ, ◌/◌, ◌<◌}
use mathlib.Core.Path.{◌≡◌}
use mathlib.Core.Bool.{false}
use lib.ListN.{length}
use native.Mathlib.Omega.{arith}
use borrow.Author.Rules.{rules}
use borrow.Author.Tests.{tests}
use Rattle.std.proofs.iter.Serving.{serving}
use Rattle.component.specs.Record.{record_at}
use Rattle.component.specs.Drawing.{fails3}
use Rattle.component.specs.Reading.{Readable}
use Rattle.flatten.proofs.Accepted.{passed_check}
use Rattle.flatten.proofs.JudgementLaws.{readable_before, first_by}
use Rattle.flatten.proofs.judgement.judge_early.Goals as goal

-- 3
pub refused_at-requires-clause-first : goal.refused_at-requires-clause-first
refused_at-requires-clause-first c =
    (c.requires, omega arith, omega arith, first_by _ _ _ c.first_failing.ensures (λ p k. search (rules, tests)) (λ k. search (rules, tests)))

-- 4
pub first_failing-requires-2 : goal.first_failing-requires-2
first_failing-requires-2 c =
    let s = c.args.file.now in
    let passed = c.refused_at.ensures.passed c.in_ok-refused_at.was in
    let ready : Readable s = readable_before s 4 (omega arith) passed in
    let taken : (p : ℕ) → p < length s / 24 → fails3 (record_at s) p ≡ false =
    λ p. passed_check (record_at s) (length s / 24) 4 3 p passed (omega arith) in
    grind (serving, ready, taken)

pub refused_at-requires-2-clause-first : goal.refused_at-requires-2-clause-first
refused_at-requires-2-clause-first c =
    (c.requires, omega arith, omega arith, first_by _ _ _ c.first_failing-2.ensures (λ p k. search (rules, tests)) (λ k. search (rules, tests)))

-- 5
pub first_failing-requires-3 : goal.first_failing-requires-3
first_failing-requires-3 c =
    let s = c.args.file.now in
    let passed = c.refused_at-2.ensures.passed c.in_ok-refused_at-2.was in
    let ready : Readable s = readable_before s 5 (omega arith) passed in
    let taken : (p : ℕ) → p < length s / 24 → fails3 (record_at s) p ≡ false =
    λ p. passed_check (record_at s) (length s / 24) 5 3 p passed (omega arith) in
    grind (serving, ready, taken)

pub refused_at-requires-3-clause-first : goal.refused_at-requires-3-clause-first
refused_at-requires-3-clause-first c =
    (c.requires, omega arith, omega arith, first_by _ _ _ c.first_failing-3.ensures (λ p k. search (rules, tests)) (λ k. search (rules, tests)))

-- 6
pub first_failing-requires-4 : goal.first_failing-requires-4
first_failing-requires-4 c =
    let s = c.args.file.now in
    let passed = c.refused_at-3.ensures.passed c.in_ok-refused_at-3.was in
    let ready : Readable s = readable_before s 6 (omega arith) passed in
    grind serving

pub refused_at-requires-4-clause-first : goal.refused_at-requires-4-clause-first
refused_at-requires-4-clause-first c =
    (c.requires, omega arith, omega arith, first_by _ _ _ c.first_failing-4.ensures (λ p k. search (rules, tests)) (λ k. search (rules, tests)))

-- 7
pub first_failing-requires-5 : goal.first_failing-requires-5
first_failing-requires-5 c =
    let s = c.args.file.now in
    let passed = c.refused_at-4.ensures.passed c.in_ok-refused_at-4.was in
    let ready : Readable s = readable_before s 7 (omega arith) passed in
    grind serving

pub refused_at-requires-5-clause-first : goal.refused_at-requires-5-clause-first
refused_at-requires-5-clause-first c =
    (c.requires, omega arith, omega arith, first_by _ _ _ c.first_failing-5.ensures (λ p k. search (rules, tests)) (λ k. search (rules, tests)))

-- 8
pub first_failing-requires-6 : goal.first_failing-requires-6
first_failing-requires-6 c =
    let s = c.args.file.now in
    let passed = c.refused_at-5.ensures.passed c.in_ok-refused_at-5.was in
    let ready : Readable s = readable_before s 8 (omega arith) passed in
    grind serving

pub refused_at-requires-6-clause-first : goal.refused_at-requires-6-clause-first
refused_at-requires-6-clause-first c =
    (c.requires, omega arith, omega arith, first_by _ _ _ c.first_failing-6.ensures (λ p k. search (rules, tests)) (λ k. search (rules, tests)))

-- 9
pub first_failing-requires-7 : goal.first_failing-requires-7
first_failing-requires-7 c =
    let s = c.args.file.now in
    let passed = c.refused_at-6.ensures.passed c.in_ok-refused_at-6.was in
    let ready : Readable s = readable_before s 9 (omega arith) passed in
    grind serving

pub refused_at-requires-7-clause-first : goal.refused_at-requires-7-clause-first
refused_at-requires-7-clause-first c =
    (c.requires, omega arith, omega arith, first_by _ _ _ c.first_failing-7.ensures (λ p k. search (rules, tests)) (λ k. search (rules, tests)))

-- 10
pub first10-requires : goal.first10-requires
first10-requires c = readable_before c.args.file.now 10 (omega arith) (c.refused_at-7.ensures.passed c.in_ok-refused_at-7.was)

-- 11
pub first11-requires : goal.first11-requires
first11-requires c = readable_before c.args.file.now 11 (omega arith) (c.refused_at-8.ensures.passed c.in_ok-refused_at-8.was)
