use Rattle.std.specs.HashSet as bag
use Rattle.std.proofs.lemmas.Iterator.{YieldsList-from_slice}
use Rattle.std.proofs.lemmas.Iterator.Adapters.{fact_from_collect}
use Rattle.std.proofs.lemmas.Iterator.Consumers.{YieldsList-from_copied}
use Rattle.cedar_syntax.proofs.TableLemmas.{same_text, made_set}
use Rattle.cedar_syntax.proofs.err.expected.set_of_names.Goals as goal

pub returns : goal.returns
returns c = made_set c.args.names.now c.collect.result (fact_from_collect (bag.IsFromIterResult same_text) c.collect.result c.collect.ensures.ran (YieldsList-from_copied (YieldsList-from_slice c.args.names.now cc)))
