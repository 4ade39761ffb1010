use Rattle.std.specs.Str.{chars}
use Rattle.cedar_syntax.proofs.Layouts.{laid_out, laid_once}
use Rattle.cedar_syntax.proofs.unescape.laws.one_layout.Goals as goal

pub returns-clause-some : goal.returns-clause-some
returns-clause-some c = λ raw. laid_out 0 (chars raw)

pub returns-clause-one : goal.returns-clause-one
returns-clause-one c = λ raw. laid_once 0 (chars raw)
