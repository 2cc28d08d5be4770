-- `count_up`: the numbers passed are written into the part that is counted, and the rest stays.
-- Assumes nothing.
use mathlib.Core.Path.{◌≡◌, refl, sym, ap, ◌∙◌}
use mathlib.Core.List.{List, [], ◌++◌, append-nil}
use Prim.Native.Nat.{ℕ, ◌≤◌}
use native.Mathlib.Omega.{arith}
use lib.ListN.{length, take, drop, drop_of_length-le}
use lib.Seq.{sets, length-take-le}
use Rattle.lists.specs.Lists.{from, overlay}
use Rattle.lists.proofs.MembersLaws.{from_length}
use Rattle.lists.proofs.OverlayLaws.{sets_overlay}
use Rattle.lists.proofs.LayingLaws.{numbers_step}
use Rattle.laying.proofs.names.count_up.Goals as goal

-- A part that is written whole, before the rest.
counted : (t u : List ℕ) (n : ℕ) → n ≤ length t → u ≡ sets (take n t) 0 (from 0 n) → u ++ drop n t ≡ sets t 0 (from 0 n)
unfolding overlay
counted t u n h e =
    let many = from_length 0 n in
    let short = length-take-le n t h in
    let none : drop (length (from 0 n)) (take n t) ≡ [] = drop_of_length-le (take n t) (omega (arith, many, short)) in
    ap (λ (l : List ℕ). l ++ drop n t)
    (e ∙ sets_overlay (from 0 n) (take n t) (omega (arith, many, short)) ∙ ap (λ (l : List ℕ). from 0 n ++ l) none ∙ append-nil (from 0 n))
    ∙ ap (λ (k : ℕ). from 0 n ++ drop k t) (sym many) ∙ sym (sets_overlay (from 0 n) t (omega (arith, many)))

pub loop-i-init : goal.loop-i-init
loop-i-init c = refl

pub loop-i-preserved : goal.loop-i-preserved
loop-i-preserved c =
    let l = c.loop-i in
    numbers_step (take c.args.count c.args.list.now) l.entry-items l.i l.invariant

pub returns : goal.returns
returns c =
    let l = c.loop-i in
    let a = c.args in
    let all : l.i ≡ a.count = omega (arith, length-take-le a.count a.list.now c.requires.0) in
    counted a.list.now l.entry-items a.count c.requires.0 (rw all at l.invariant)
