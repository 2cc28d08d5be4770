-- `prepare`: a load's own refusal, or one of the clauses of 20 fails, or all hold.
-- Assumes nothing.
use mathlib.Core.Path.{◌≡◌, refl, sym, ap, ◌∙◌}
use mathlib.Core.Bool.{true, false, ◌&&◌}
use mathlib.Core.List.{List}
use Prim.Native.Nat.{ℕ}
use native.Mathlib.Omega.{arith}
use lib.ListN.{length}
use Rattle.flatten.proofs.Accepted.{accepted_readable}
use Rattle.flatten.proofs.WireTheorems.{accepted_primitives_bound}
use Rattle.laying.specs.declared.rows.Before.{Before}
use Rattle.slow.specs.Slow.{slow_tables_of}
use Rattle.slow.proofs.PreparingLaws.{slow_full-sound, lent_refused, lent_long, lent_accepted, listed, right_counts, right_values, right_consts, right_lists, verdict_20, verdict_right, counts_as, found_lists, laid_words, row_given, values_as, consts_as, names_as, not_ready, ready_is}
use Rattle.slow.proofs.preparing.prepare.Goals as goal

pub returns-in-Err : goal.returns-in-Err
returns-in-Err c =
    let a = c.args in (
      lent_refused a.file.now a.long _ _ (sym c.in-Err.is ∙ c.judge_lent.ensures.value),
      λ k e. absurd (not_ready _ k e),
    )

-- The load's own checks have passed, so that the file is accepted and the tables are of full size.
pub lay_components-all-requires : goal.lay_components-all-requires
lay_components-all-requires c =
    let a = c.args in
    let passed = sym c.in_default.is ∙ c.judge_lent.ensures.value in
    (lent_accepted a.file.now a.long passed, omega (arith, ap (λ (l : List ℕ). length l) c.requires.index_len.2))

-- No way out but the last is ready.
pub returns-then-not-counts_match : goal.returns-then-not-counts_match
returns-then-not-counts_match c =
    let a = c.args in
    let S = slow_tables_of a.inputs.now a.outputs.now a.current.now a.following.now a.standing.now a.counts in
    let passed = sym c.in_default.is ∙ c.judge_lent.ensures.value in
    let l = c.lay_components-all in
    let counted = c.counts_match.ensures ∙ counts_as a.file.now a.counts l.result l.ensures.value S refl in (
      rw c.refused_by.ensures (verdict_20 a.file.now S a.long passed (right_counts a.file.now S (sym counted ∙ c.if-not-counts_match.true))),
      λ k e. absurd (not_ready _ k e),
    )

pub values_fit-requires : goal.values_fit-requires
values_fit-requires c =
    let a = c.args in
    let S = slow_tables_of a.inputs.now a.outputs.now a.current.now a.following.now a.standing.now a.counts in
    let passed = sym c.in_default.is ∙ c.judge_lent.ensures.value in
    let l = c.lay_components-all in
    let sizes = slow_full-sound S (c.requires.counts_value (lent_long a.file.now a.long passed)) in
    row_given a.file.now _ a.inputs.now a.outputs.now (lent_accepted a.file.now a.long passed)
    (laid_words a.file.now _ _ l.ensures.components_after c.requires.index_len.2) sizes.inputs sizes.outputs _
    (ap (λ (b : Before). b.components) l.ensures.value)

pub returns-then-not-values_fit : goal.returns-then-not-values_fit
returns-then-not-values_fit c =
    let a = c.args in
    let S = slow_tables_of a.inputs.now a.outputs.now a.current.now a.following.now a.standing.now a.counts in
    let passed = sym c.in_default.is ∙ c.judge_lent.ensures.value in
    let l = c.lay_components-all in
    let words = laid_words a.file.now _ _ l.ensures.components_after c.requires.index_len.2 in
    let many = ap (λ (b : Before). b.components) l.ensures.value in
    let counted = c.counts_match.ensures ∙ counts_as a.file.now a.counts l.result l.ensures.value S refl in
    let values = c.values_fit.ensures ∙ values_as a.file.now _ words _ many S in (
      rw c.refused_by-then-not-values_fit.ensures (verdict_20 a.file.now S a.long passed
          (right_values a.file.now S (sym counted ∙ c.if-not-counts_match.false) (sym values ∙ c.if-not-values_fit.true))),
      λ k e. absurd (not_ready _ k e),
    )

pub consts_held-requires : goal.consts_held-requires
consts_held-requires c i h =
    let a = c.args in
    let S = slow_tables_of a.inputs.now a.outputs.now a.current.now a.following.now a.standing.now a.counts in
    let passed = sym c.in_default.is ∙ c.judge_lent.ensures.value in
    let l = c.lay_components-all in
    let sizes = slow_full-sound S (c.requires.counts_value (lent_long a.file.now a.long passed)) in
    let r = row_given a.file.now _ a.inputs.now a.outputs.now (lent_accepted a.file.now a.long passed)
    (laid_words a.file.now _ _ l.ensures.components_after c.requires.index_len.2) sizes.inputs sizes.outputs _
    (ap (λ (b : Before). b.components) l.ensures.value) i h in
    (r.0, r.1, r.3)

pub returns-then-not-consts_held : goal.returns-then-not-consts_held
returns-then-not-consts_held c =
    let a = c.args in
    let S = slow_tables_of a.inputs.now a.outputs.now a.current.now a.following.now a.standing.now a.counts in
    let passed = sym c.in_default.is ∙ c.judge_lent.ensures.value in
    let l = c.lay_components-all in
    let words = laid_words a.file.now _ _ l.ensures.components_after c.requires.index_len.2 in
    let many = ap (λ (b : Before). b.components) l.ensures.value in
    let counted = c.counts_match.ensures ∙ counts_as a.file.now a.counts l.result l.ensures.value S refl in
    let values = c.values_fit.ensures ∙ values_as a.file.now _ words _ many S in
    let consts = c.consts_held.ensures ∙ consts_as a.file.now _ words _ many S in (
      rw c.refused_by-then-not-consts_held.ensures (verdict_20 a.file.now S a.long passed
          (right_consts a.file.now S (sym counted ∙ c.if-not-counts_match.false) (sym values ∙ c.if-not-values_fit.false)
          (sym consts ∙ c.if-not-consts_held.true))),
      λ k e. absurd (not_ready _ k e),
    )

-- The lists' counts are within their tables, and the components few.
pub names-requires : goal.names-requires
names-requires c =
    let a = c.args in
    let S = slow_tables_of a.inputs.now a.outputs.now a.current.now a.following.now a.standing.now a.counts in
    let passed = sym c.in_default.is ∙ c.judge_lent.ensures.value in
    let l = c.lay_components-all in
    let sizes = slow_full-sound S (c.requires.counts_value (lent_long a.file.now a.long passed)) in
    let many = ap (λ (b : Before). b.components) l.ensures.value in
    let short = found_lists a.file.now a.counts _ l.ensures.value (sym c.counts_match.ensures ∙ c.if-not-counts_match.false) in
    let bound = accepted_primitives_bound a.file.now (lent_accepted a.file.now a.long passed) in
    (rw c.counts_for-flat.ensures (omega (arith, many, bound)), omega (arith, short.0, sizes.current))

pub names-requires-2 : goal.names-requires-2
names-requires-2 c =
    let a = c.args in
    let S = slow_tables_of a.inputs.now a.outputs.now a.current.now a.following.now a.standing.now a.counts in
    let passed = sym c.in_default.is ∙ c.judge_lent.ensures.value in
    let l = c.lay_components-all in
    let sizes = slow_full-sound S (c.requires.counts_value (lent_long a.file.now a.long passed)) in
    let many = ap (λ (b : Before). b.components) l.ensures.value in
    let short = found_lists a.file.now a.counts _ l.ensures.value (sym c.counts_match.ensures ∙ c.if-not-counts_match.false) in
    let bound = accepted_primitives_bound a.file.now (lent_accepted a.file.now a.long passed) in
    (rw c.counts_for-flat.ensures (omega (arith, many, bound)), omega (arith, short.1, sizes.following))

pub names-requires-3 : goal.names-requires-3
names-requires-3 c =
    let a = c.args in
    let S = slow_tables_of a.inputs.now a.outputs.now a.current.now a.following.now a.standing.now a.counts in
    let passed = sym c.in_default.is ∙ c.judge_lent.ensures.value in
    let l = c.lay_components-all in
    let sizes = slow_full-sound S (c.requires.counts_value (lent_long a.file.now a.long passed)) in
    let many = ap (λ (b : Before). b.components) l.ensures.value in
    let short = found_lists a.file.now a.counts _ l.ensures.value (sym c.counts_match.ensures ∙ c.if-not-counts_match.false) in
    let bound = accepted_primitives_bound a.file.now (lent_accepted a.file.now a.long passed) in
    (rw c.counts_for-flat.ensures (omega (arith, many, bound)), omega (arith, short.2, sizes.standing))

pub shape_of-index-then-not-names : goal.shape_of-index-then-not-names
shape_of-index-then-not-names c = c.judge_lent.auto.index

pub shape_of-components-then-not-names : goal.shape_of-components-then-not-names
shape_of-components-then-not-names c = c.lay_components-all.auto.components

pub returns-then-not-names : goal.returns-then-not-names
returns-then-not-names c =
    let a = c.args in
    let S = slow_tables_of a.inputs.now a.outputs.now a.current.now a.following.now a.standing.now a.counts in
    let passed = sym c.in_default.is ∙ c.judge_lent.ensures.value in
    let l = c.lay_components-all in
    let words = laid_words a.file.now _ _ l.ensures.components_after c.requires.index_len.2 in
    let many = ap (λ (b : Before). b.components) l.ensures.value in
    let counted = c.counts_match.ensures ∙ counts_as a.file.now a.counts l.result l.ensures.value S refl in
    let values = c.values_fit.ensures ∙ values_as a.file.now _ words _ many S in
    let consts = c.consts_held.ensures ∙ consts_as a.file.now _ words _ many S in
    let same = names_as a.file.now _ words _ many S _ c.counts_for-flat.ensures in
    let naming : (c.names.result && c.names-2.result && c.names-3.result) ≡ listed a.file.now S =
    rw (c.names.ensures ∙ same _, c.names-2.ensures ∙ same _, c.names-3.ensures ∙ same _) in
    let right = right_lists a.file.now S (sym counted ∙ c.if-not-counts_match.false) (sym values ∙ c.if-not-values_fit.false)
    (sym consts ∙ c.if-not-consts_held.false) false (sym naming ∙ c.if-not-names.true) in (
      rw c.refused_by-then-not-names.ensures (verdict_20 a.file.now S a.long passed right),
      λ k e. absurd (not_ready _ k e),
    )

pub index_flat-requires : goal.index_flat-requires
index_flat-requires c =
    let a = c.args in
    let passed = sym c.in_default.is ∙ c.judge_lent.ensures.value in
    (accepted_readable a.file.now (lent_accepted a.file.now a.long passed), c.requires.index_len.1)

pub shape_of-index : goal.shape_of-index
shape_of-index c = c.judge_lent.auto.index

pub shape_of-components : goal.shape_of-components
shape_of-components c = c.lay_components-all.auto.components

pub returns : goal.returns
returns c =
    let a = c.args in
    let S = slow_tables_of a.inputs.now a.outputs.now a.current.now a.following.now a.standing.now a.counts in
    let passed = sym c.in_default.is ∙ c.judge_lent.ensures.value in
    let l = c.lay_components-all in
    let words = laid_words a.file.now _ _ l.ensures.components_after c.requires.index_len.2 in
    let many = ap (λ (b : Before). b.components) l.ensures.value in
    let counted = c.counts_match.ensures ∙ counts_as a.file.now a.counts l.result l.ensures.value S refl in
    let values = c.values_fit.ensures ∙ values_as a.file.now _ words _ many S in
    let consts = c.consts_held.ensures ∙ consts_as a.file.now _ words _ many S in
    let same = names_as a.file.now _ words _ many S _ c.counts_for-flat.ensures in
    let naming : (c.names.result && c.names-2.result && c.names-3.result) ≡ listed a.file.now S =
    rw (c.names.ensures ∙ same _, c.names-2.ensures ∙ same _, c.names-3.ensures ∙ same _) in
    let right = right_lists a.file.now S (sym counted ∙ c.if-not-counts_match.false) (sym values ∙ c.if-not-values_fit.false)
    (sym consts ∙ c.if-not-consts_held.false) true (sym naming ∙ c.if-not-names.false) in (
      verdict_right a.file.now S a.long passed right,
      λ k e. record {
        ready =
            record {
              accepted = lent_accepted a.file.now a.long passed;
              indexed = c.judge_lent.ensures.index c.in_default.is;
              indexes = c.index_flat.ensures;
            };
        words = words;
        count = ready_is _ k e ∙ many;
        full = c.requires.counts_value (lent_long a.file.now a.long passed);
        right = right;
      },
    )
