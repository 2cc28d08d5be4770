-- `sift`: the records passed so far are sifted, and what the kept ones enter is marked.
-- Assumes nothing.
use mathlib.Core.Path.{◌≡◌, refl, sym, subst, ◌∙◌}
use mathlib.Core.Bool.{Bool, true, false, not}
use mathlib.Core.List.{List}
use Prim.Native.Nat.{ℕ, ◌≤◌}
use native.Mathlib.Omega.{arith}
use mir.Val.{bool_byte}
use lib.Dec.{eqb}
use Rattle.lists.proofs.KeysLaws.{marks_start}
use Rattle.component.specs.Record.{record_count}
use Rattle.component.specs.Reading.{Readable}
use Rattle.mend.specs.Sifting.{IsSifted}
use Rattle.mend.proofs.PartsLaws.{parts_readable, parts_few}
use Rattle.mend.proofs.SiftLaws.{sifted_start, sifted_step}
use Rattle.mend.proofs.sifting.sift.Goals as goal

byte_says : (b : Bool) → not (eqb (bool_byte b) 0) ≡ b
byte_says true = refl
byte_says false = refl

pub fill_index-requires : goal.fill_index-requires
fill_index-requires c =
    let e = sym c.requires.0 in
    (subst Readable e (parts_readable c.args.file.now), subst (λ (ps : List ℕ). record_count ps ≤ 1024) e (parts_few c.args.file.now c.requires.1), refl)

pub loop-p-init : goal.loop-p-init
loop-p-init c =
    (sifted_start c.args.file.now c.args.kept.now c.requires.2, marks_start 16384 _ _ 0)

pub is_kept-stays-requires : goal.is_kept-stays-requires
is_kept-stays-requires c =
    let l = c.loop-p in
    (c.requires.0, c.fill_index.ensures, l.invariant.0, omega arith, l.invariant.1)

pub bounds-kept-p : goal.bounds-kept-p
bounds-kept-p c = let l = c.loop-p in omega (arith, l.invariant.0.size)

pub loop-p-preserved : goal.loop-p-preserved
loop-p-preserved c =
    let l = c.loop-p in
    let r = c.is_kept-stays in (
      sifted_step c.args.file.now l.kept l.p (bool_byte r.result) l.invariant.0 (omega arith) (byte_says r.result ∙ r.ensures.value),
      r.ensures.marked,
    )

pub shape_of-kept : goal.shape_of-kept
shape_of-kept c = c.loop-p.invariant.0.size ∙ sym c.requires.2

pub returns : goal.returns
returns c =
    let l = c.loop-p in
    subst (λ (k : ℕ). IsSifted c.args.file.now k l.kept) (omega arith) l.invariant.0
