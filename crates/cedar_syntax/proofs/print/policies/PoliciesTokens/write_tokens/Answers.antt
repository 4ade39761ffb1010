use Rattle.cedar_syntax.proofs.Printing.{as_texts}
use Rattle.cedar_syntax.proofs.Texts.{policies_texts}
use Rattle.cedar_syntax.proofs.print.policies.PoliciesTokens.write_tokens.Goals as goal

pub returns : goal.returns
returns g c =
    let took = g.W.Write.write_str_gives in
    as_texts took (policies_texts c.args.self.now) c.in_ok-fresh.ensures
