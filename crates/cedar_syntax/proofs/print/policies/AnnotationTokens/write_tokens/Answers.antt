use Rattle.cedar_syntax.proofs.Printing.{after, as_texts}
use Rattle.cedar_syntax.proofs.Texts.{key_texts, key_value_texts}
use Rattle.cedar_syntax.proofs.print.policies.AnnotationTokens.write_tokens.Goals as goal

pub returns-in-None : goal.returns-in-None
returns-in-None g c =
    let took = g.W.Write.write_str_gives in
    as_texts took (key_texts c.args.self.now c.in-None.is) (after took c.in_ok-fresh.ensures c.in_ok-fresh-2.ensures)

pub returns-in_ok-fresh-in-Some-3 : goal.returns-in_ok-fresh-in-Some-3
returns-in_ok-fresh-in-Some-3 g c =
    let took = g.W.Write.write_str_gives in
    as_texts took (key_value_texts c.args.self.now _ c.in-Some.is) (after took c.in_ok-fresh.ensures (after took c.in_ok-fresh-2.ensures (after took c.in_ok-fresh-in-Some.ensures (after took c.in_ok-fresh-in-Some-2.ensures c.in_ok-fresh-in-Some-3.ensures))))
