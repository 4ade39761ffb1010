use Rattle.std.proofs.Common.{refl}
use Rattle.cedar_grammar.proofs.machines.Expected.{each_kind}
use Rattle.cedar_text.proofs.text_to_cst.laws.kinds_by_name.Goals as goal

pub returns-clause-sorted : goal.returns-clause-sorted
returns-clause-sorted c = refl

pub returns-clause-each : goal.returns-clause-each
returns-clause-each c = each_kind
