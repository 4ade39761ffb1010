use Rattle.cedar_syntax.proofs.Printing.{after, as_texts}
use Rattle.cedar_syntax.proofs.Texts.{ref_init_texts}
use Rattle.cedar_syntax.proofs.print.leaves.RefInitTokens.write_tokens.Goals as goal

pub returns : goal.returns
returns g c =
    let took = g.W.Write.write_str_gives in
    as_texts took (ref_init_texts c.args.self.now) (after took c.in_ok-fresh.ensures (after took c.in_ok-fresh-2.ensures c.in_ok-fresh-3.ensures))
