use Rattle.std.proofs.Common.{sym, ◌∙◌}
use Rattle.cedar_writer.proofs.RecordsOpened.{key_sought, path_sought, no_path}
use Rattle.cedar_writer.proofs.opening.sought.Goals as goal

pub returns-then-is_empty : goal.returns-then-is_empty
returns-then-is_empty c = key_sought c.args.first.now c.args.rest.now (sym c.is_empty.ensures ∙ c.if-is_empty.true)

pub returns-then-is_path : goal.returns-then-is_path
returns-then-is_path c = path_sought c.args.first.now c.args.rest.now (sym c.is_empty.ensures ∙ c.if-is_empty.false) (sym c.is_path.ensures ∙ c.if-is_path.true)

pub returns-else-is_path : goal.returns-else-is_path
returns-else-is_path c = no_path c.args.first.now c.args.rest.now (sym c.is_empty.ensures ∙ c.if-is_empty.false) (sym c.is_path.ensures ∙ c.if-is_path.false)
