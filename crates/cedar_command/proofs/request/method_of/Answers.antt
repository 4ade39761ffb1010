use Rattle.std.proofs.Common.{codes}
use Rattle.cedar_command.proofs.Naming.{stripped, found_method, no_method}
use Rattle.cedar_command.proofs.request.method_of.Goals as goal

pub returns-in-Some : goal.returns-in-Some
returns-in-Some c =
    let word = c.args.word.now in
    found_method word c.in-Some.text.now c.id_of.result (stripped (codes "method:") word c.in-Some.text.now c.in-Some.ensures.cases) c.id_of.ensures

pub returns-in-None : goal.returns-in-None
returns-in-None c = no_method c.args.word.now c.in-None.ensures.cases
