use Rattle.std.proofs.Common.{sym, ◌∙◌}
use Rattle.cedar_writer.proofs.RecordsOpened.{has_more}
use Rattle.cedar_writer.proofs.opening.open_nary.Goals as goal

pub returns-in_ok-put_all-in-Or : goal.returns-in_ok-put_all-in-Or
returns-in_ok-put_all-in-Or c = λ table. rw c.in-Or.is (c.in_ok-put_all-in-Or.ensures, has_more c.args.rest.now (sym c.is_empty.ensures ∙ c.if-is_empty.false))

pub returns-in_ok-put_all-in-And : goal.returns-in_ok-put_all-in-And
returns-in_ok-put_all-in-And c = λ table. rw c.in-And.is (c.in_ok-put_all-in-And.ensures, has_more c.args.rest.now (sym c.is_empty.ensures ∙ c.if-is_empty.false))

pub returns-in_ok-put_all-in-Mul : goal.returns-in_ok-put_all-in-Mul
returns-in_ok-put_all-in-Mul c = λ table. rw c.in-Mul.is (c.in_ok-put_all-in-Mul.ensures, has_more c.args.rest.now (sym c.is_empty.ensures ∙ c.if-is_empty.false))
