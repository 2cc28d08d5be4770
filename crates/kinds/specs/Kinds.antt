-- The kinds of component, their numbers and their table. docs/SPECIFICATION.md, "The drawing file".
--   number_of k, seen_as n, kind_of n   the number of a kind, and back
--   for_custom n, unknown n, no_kind   a number kept for Custom; one that is no kind; one that stays none
--   row k c p                        the table of kinds
--   obeys f                          a component obeys it
--   input_width f, output_width f      the bits of each port
-- Assumes nothing.
use Rattle.std.specs.Prelude.{ℕ, ◌^◌, min, Bool, true, false, not, ◌&&◌, List, [], ◌∷◌, length, get_or, eqb, leb, Result, Ok, Err}
use Rattle.lists.specs.Lists.{within}
use Rattle.value.specs.Value.{widest, ones}
use Rattle.kinds.specs.declared.Kind.{Kind}
use Rattle.kinds.specs.declared.Kind.TheVariants.{Composite, And, Or, Not, Nand, Nor, Xor, Switch, Input, Output, Splitter, Joiner, Clock, Const, Majority}
use Rattle.kinds.specs.declared.NoKind.{NoKind}
use Rattle.kinds.specs.declared.NoKind.TheVariants.{Kept, Unknown}
use Rattle.kinds.specs.declared.table.Fields.{Fields}
use Rattle.kinds.specs.declared.table.Span.{Span}
use Rattle.kinds.specs.declared.table.Row.{Row}

-- The number of a kind.
abbrev pub number_of : Kind → ℕ
number_of Composite = 0
number_of And = 1
number_of Or = 2
number_of Not = 3
number_of Nand = 4
number_of Nor = 5
number_of Xor = 6
number_of Switch = 7
number_of Input = 8
number_of Output = 9
number_of Splitter = 10
number_of Joiner = 11
number_of Clock = 12
number_of Const = 13
number_of Majority = 15

-- What each number is read as, from 0 on: a kind, or kept for `Custom`.
abbrev pub numbered : List (Result Kind NoKind)
numbered =
    Ok Composite ∷ Ok And ∷ Ok Or ∷ Ok Not ∷ Ok Nand ∷ Ok Nor ∷ Ok Xor ∷ Ok Switch ∷ Ok Input ∷ Ok Output
    ∷ Ok Splitter ∷ Ok Joiner ∷ Ok Clock ∷ Ok Const ∷ Err Kept ∷ Ok Majority ∷ []

-- What a number is read as; past the last there is no kind.
abbrev pub seen_as : ℕ → Result Kind NoKind
seen_as n = get_or numbered n (Err Unknown)

-- The kind that was read; Composite where there is none, and every user tests that first.
abbrev pub kind_in : Result Kind NoKind → Kind
kind_in (Ok k) = k
kind_in (Err e) = Composite

-- The kind of a number.
abbrev pub kind_of : ℕ → Kind
kind_of n = kind_in (seen_as n)

-- It was read as kept.
abbrev pub kept_in : Result Kind NoKind → Bool
kept_in (Ok k) = false
kept_in (Err Kept) = true
kept_in (Err Unknown) = false

-- "component kind 14, kept for `Custom`"
abbrev pub for_custom : ℕ → Bool
for_custom n = kept_in (seen_as n)

-- "8 now starts at kind 16": a number past the last is no kind.
abbrev pub unknown : ℕ → Bool
unknown n = leb (length numbered) n

-- A number that is no kind, and stays none.
abbrev pub no_kind : ℕ
no_kind = 255

-- A component is of a kind.
abbrev pub is : Kind → Fields → Bool
is k f = eqb f.kind (number_of k)

-- A component is of a kind other than the composite's.
abbrev pub primitive : Fields → Bool
primitive f = leb 1 f.kind && (not (for_custom f.kind) && not (unknown f.kind))

-- "0-64": the most inputs or outputs of a component.
abbrev pub most_ports : ℕ
most_ports = 64

-- From a to b.
infix 4 ◌to◌
abbrev pub ◌to◌ : ℕ → ℕ → Span
a to b = record { least = a; most = b }

-- Only a.
abbrev pub only : ℕ → Span
only a = a to a

-- A row from its columns.
abbrev pub line : Span → Span → Span → Span → ℕ → ℕ → Row
line i o c p w v = record { inputs = i; outputs = o; width = c; parameter = p; inward = w; outward = v }

-- The table of kinds, for a component whose C is c and whose parameter is p: inputs, outputs, C, parameter,
-- and the bits of each input and of each output. (A C past the widest is refused as a C: its 2^C is never asked for.)
abbrev pub row : Kind → ℕ → ℕ → Row
row Composite c p = line (0 to most_ports) (0 to most_ports) (only 0) (only 0) 1 1
row And c p = line (0 to most_ports) (only 1) (only 0) (only 0) 1 1
row Or c p = line (0 to most_ports) (only 1) (only 0) (only 0) 1 1
row Not c p = line (only 1) (only 1) (only 0) (only 0) 1 1
row Nand c p = line (0 to most_ports) (only 1) (only 0) (only 0) 1 1
row Nor c p = line (0 to most_ports) (only 1) (only 0) (only 0) 1 1
row Xor c p = line (1 to most_ports) (only 1) (only 0) (only 0) 1 1
row Switch c p = line (only 0) (only 1) (only 0) (only 0) 1 1
row Input c p = line (only 1) (only 1) (only 0) (1 to widest) p p
row Output c p = line (only 1) (only 1) (only 0) (1 to widest) p p
row Splitter c p = line (only 1) (only p) (only 0) (1 to widest) p 1
row Joiner c p = line (only p) (only 1) (only 0) (1 to widest) 1 p
row Clock c p = line (only 0) (only 1) (only 0) (1 to 2 ^ 62) 1 1
row Const c p = line (only 0) (only 1) (1 to widest) (0 to ones (min c widest)) 1 c
row Majority c p = line (1 to most_ports) (only 1) (only 0) (only 0) 1 1

-- The row that a component must obey.
abbrev pub row_of : Fields → Row
row_of f = row (kind_of f.kind) f.width f.parameter

-- A span has a number in it.
abbrev pub spans : Span → ℕ → Bool
spans s x = within s.least s.most x

-- A component of a kind that there is obeys the table of kinds.
unfoldable pub obeys : Fields → Bool
obeys f =
    let r = row_of f in
    not (for_custom f.kind) && not (unknown f.kind) && spans r.inputs f.inputs && spans r.outputs f.outputs
    && spans r.width f.width && spans r.parameter f.parameter

-- "Both ports of 8 and 9, the Splitter's input and the Joiner's output have `bits` bits, a Const's output its width; all other ports have 1."
abbrev pub input_width : Fields → ℕ
input_width f = (row_of f).inward

abbrev pub output_width : Fields → ℕ
output_width f = (row_of f).outward
