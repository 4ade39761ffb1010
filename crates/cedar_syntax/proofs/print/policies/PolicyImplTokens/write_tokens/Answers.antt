use Rattle.cedar_syntax.proofs.Printing.{after, as_texts}
use Rattle.cedar_syntax.proofs.Texts.{policy_impl_texts}
use Rattle.cedar_syntax.proofs.print.policies.PolicyImplTokens.write_tokens.Goals as goal

pub returns : goal.returns
returns g c =
    let took = g.W.Write.write_str_gives in
    as_texts took (policy_impl_texts c.args.self.now) (after took c.in_ok-fresh.ensures (after took c.in_ok-fresh-2.ensures (after took c.in_ok-fresh-3.ensures (after took c.in_ok-fresh-4.ensures (after took c.in_ok-fresh-5.ensures (after took c.in_ok-fresh-6.ensures c.in_ok-fresh-7.ensures))))))
