use Rattle.std.specs.HashMap as hash
use Rattle.std.proofs.lemmas.Iterator.{YieldsList-from_slice}
use Rattle.std.proofs.lemmas.Iterator.Adapters.{fact_from_collect}
use Rattle.std.proofs.lemmas.Iterator.Consumers.{YieldsList-from_copied}
use Rattle.cedar_syntax.proofs.TableLemmas.{same_text, made_rules}
use Rattle.cedar_syntax.proofs.err.expected.table_of.Goals as goal

pub returns : goal.returns
returns c = made_rules c.args.pairs.now c.collect.result (fact_from_collect (hash.IsFromIterResult same_text) c.collect.result c.collect.ensures.ran (YieldsList-from_copied (YieldsList-from_slice c.args.pairs.now cc))) c.requires
