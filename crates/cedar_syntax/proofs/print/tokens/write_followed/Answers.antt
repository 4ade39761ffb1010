use Rattle.std.proofs.Common.{sym}
use Rattle.cedar_syntax.proofs.Printing.{after, as_texts, followed-take}
use Rattle.cedar_syntax.proofs.print.tokens.write_followed.Goals as goal

pub loop-item-preserved : goal.loop-item-preserved
loop-item-preserved g c =
    let took = g.W.Write.write_str_gives in
    as_texts took (sym (followed-take g.T.Tokens.tokens c.args.mark.now c.as_slice-item-items.result.now c.loop-item.item-index c.item-item.result c.loop-item-test.true c.item-item.is))
    (after took c.loop-item.invariant (after took c.in_ok-fresh.ensures c.in_ok-fresh-2.ensures))
