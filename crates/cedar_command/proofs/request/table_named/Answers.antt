use Rattle.std.proofs.Common.{◌∙◌}
use Rattle.cedar_command.proofs.Naming.{same_table}
use Rattle.cedar_command.proofs.request.table_named.Goals as goal

pub returns : goal.returns
returns c = same_table _ _ (λ name. c.new.ensures.functions name ∙ c.in_ok-functions.ensures name) (λ id. c.new.ensures.methods id ∙ c.in_ok-methods_of.ensures id)
