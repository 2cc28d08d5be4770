-- `zeros`: the part of the ports that is filled is the zeros, and the rest stays.
-- Assumes nothing.
use mathlib.Core.Path.{◌≡◌, sym, ap, ◌∙◌}
use mathlib.Core.List.{◌++◌, append_assoc}
use Prim.Native.Nat.{ℕ, ◌+◌}
use native.Mathlib.Omega.{arith}
use lib.ListN.{length, take, drop, replicate, length-replicate}
use Rattle.std.proofs.Common.{rules}
use Rattle.std.proofs.lemmas.Slice.{put_mid-paste}
use Rattle.std.proofs.lemmas.List.Edits.{paste_all, sets-eq}
use Rattle.laying.proofs.rows.zeros.Goals as goal

pub returns : goal.returns
returns c =
    let a = c.args in
    let ports = a.ports.now in
    let zeros = replicate {A = ℕ} a.count 0 in
    let many : a.count ≡ length zeros = sym (length-replicate {A = ℕ} a.count 0) in
    let filled : c.fill.new.self ≡ zeros = search rules in
    put_mid-paste a.at _ ports c.fill.new.self zeros a.count filled (omega arith) many
    ∙ paste_all ports a.at zeros a.count many
    ∙ ap (λ (k : ℕ). take a.at ports ++ (zeros ++ drop (a.at + k) ports)) many
    ∙ sym (append_assoc (take a.at ports) zeros (drop (a.at + length zeros) ports))
    ∙ sym (sets-eq zeros ports a.at (omega arith))
