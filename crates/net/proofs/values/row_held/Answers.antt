-- `row_held`: no Const has nothing to hold; of a Const the words are compared.
-- Assumes nothing.
use mathlib.Core.Path.{◌≡◌, sym, ◌∙◌}
use mathlib.Core.Bool.{true}
use native.Mathlib.Omega.{arith}
use Rattle.kinds.specs.declared.Kind.TheVariants.{Const}
use Rattle.kinds.specs.Kinds.{is}
use Rattle.tables.specs.Words.{fields_in}
use Rattle.net.proofs.PassLaws.{const_inside}
use Rattle.net.proofs.values.row_held.Goals as goal
use Rattle.net.proofs.values.row_held.Lts as lts
use Rattle.net.proofs.values.row_held.Tie as tie
use Rattle.net.proofs.values.row_held.Reads as reads

abbrev ElseNotIsKind : Type 0
ElseNotIsKind = lts.Else1 tie.the-claims reads.Pre reads.Post

const : (c : ElseNotIsKind) → is Const (fields_in c.args.components.now c.args.i) ≡ true
const c = sym c.is_kind.ensures ∙ c.if-not-is_kind.false

pub is_kind-requires : goal.is_kind-requires
is_kind-requires c = c.requires.0

pub returns-then-not-is_kind : goal.returns-then-not-is_kind
returns-then-not-is_kind c = rw (sym c.is_kind.ensures ∙ c.if-not-is_kind.true)

pub first_output-requires : goal.first_output-requires
first_output-requires c = c.requires.0

pub word-held-requires : goal.word-held-requires
word-held-requires c =
    omega (
      arith,
      c.first_output.ensures,
      const_inside c.args.components.now c.args.outputs.now c.args.i c.requires.1 c.requires.2 (const c.before.before),
    )

pub parameter_word-requires : goal.parameter_word-requires
parameter_word-requires c = c.requires.0

pub returns : goal.returns
returns c =
    rw (c.parameter_word.ensures, c.word-held.ensures, c.first_output.ensures, const c.before.before.before.before)
