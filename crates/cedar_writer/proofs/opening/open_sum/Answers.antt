use Rattle.std.proofs.Common.{sym, ◌∙◌}
use Rattle.cedar_writer.proofs.RecordsOpened.{has_terms}
use Rattle.cedar_writer.proofs.opening.open_sum.Goals as goal

pub returns : goal.returns
returns c = λ table. (c.in_ok-put_all.ensures, has_terms c.args.rest.now (sym c.is_empty.ensures ∙ c.if-is_empty.false))
