use Rattle.std.proofs.Common.{codes}
use Rattle.cedar_command.proofs.Naming.{stripped, found_function, no_function}
use Rattle.cedar_command.proofs.request.function_of.Goals as goal

pub returns-in-Some : goal.returns-in-Some
returns-in-Some c =
    let word = c.args.word.now in
    found_function word c.in-Some.text.now c.name_of.result (stripped (codes "fn:") word c.in-Some.text.now c.in-Some.ensures.cases) c.name_of.ensures

pub returns-in-None : goal.returns-in-None
returns-in-None c = no_function c.args.word.now c.in-None.ensures.cases
