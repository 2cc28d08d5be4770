-- `judge_look`: a list is too short, or what a load is judged to be.
-- Assumes nothing.
use Rattle.flatten.proofs.Accepted.{not_accepted}
use Rattle.look.proofs.LookLaws.{own_lists, own_load}
use Rattle.look.proofs.looking.judge_look.Goals as goal

pub returns-then-is_sized-numbers : goal.returns-then-is_sized-numbers
returns-then-is_sized-numbers c =
    let a = c.args in record {
      value = own_lists a.file.now a.lent.now a.numbers.now a.widths.now _ c.is_sized.ensures c.if-is_sized-numbers.true _ c.refused_by.ensures;
      index = λ y. absurd (not_accepted _ y);
    }

pub returns : goal.returns
returns c =
    let a = c.args in record {
      value = own_load a.file.now a.lent.now a.numbers.now a.widths.now _ c.is_sized.ensures c.if-is_sized-numbers.false _ c.judge_load.ensures.value;
      index = c.judge_load.ensures.index;
    }
