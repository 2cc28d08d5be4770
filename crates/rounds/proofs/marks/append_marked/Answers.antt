-- `append_marked`: a mark says whether x is there; where it is the table stays, and else x stands behind the list and is marked.
-- Assumes nothing.
use native.Mathlib.Omega.{arith}
use lib.ListN.{take}
use Rattle.tables.proofs.NamedLaws.{append_there, append_length, append_more}
use Rattle.rounds.proofs.ListedLaws.{listed_there, listed_new, listed_kept, listed_appended}
use Rattle.rounds.proofs.marks.append_marked.Goals as goal

pub returns-then-marks-x-ne0 : goal.returns-then-marks-x-ne0
returns-then-marks-x-ne0 c =
    let a = c.args in
    let there = listed_there a.marks.now (take a.count a.list.now) a.x c.requires.0 c.requires.3 c.if-marks-x-ne0.true in
    let e = append_there a.list.now a.count a.x c.requires.1 there in
    (e.0, e.1, listed_kept a.marks.now (take a.count a.list.now) a.x c.requires.0 c.requires.3 there)

pub bounds-list-count : goal.bounds-list-count
bounds-list-count c =
    let a = c.args in
    let new = listed_new a.marks.now (take a.count a.list.now) a.x c.requires.0 c.requires.3 c.if-marks-x-ne0.false in
    omega (arith, c.requires.2, append_length a.list.now a.count a.x c.requires.1 new)

pub returns : goal.returns
returns c =
    let a = c.args in
    let new = listed_new a.marks.now (take a.count a.list.now) a.x c.requires.0 c.requires.3 c.if-marks-x-ne0.false in
    let e = append_more a.list.now a.count a.x c.requires.1 new (bounds-list-count c) in
    (e.0, e.1, listed_appended a.marks.now (take a.count a.list.now) a.x c.requires.0 c.requires.3 new)
