use Rattle.cedar_syntax.proofs.Printing.{as_texts}
use Rattle.cedar_syntax.proofs.Texts.{policy_texts}
use Rattle.cedar_syntax.proofs.print.policies.PolicyTokens.write_tokens.Goals as goal

pub returns : goal.returns
returns g c =
    let took = g.W.Write.write_str_gives in
    as_texts took (policy_texts _ _ c.inner_of.ensures) c.in_ok-fresh.ensures
