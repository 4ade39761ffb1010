use Rattle.std.proofs.Common.{subst, sym}
use Rattle.cedar_syntax.specs.printing.Printed.{Texts}
use Rattle.cedar_syntax.specs.printing.Printing.{HasPrinted}
use Rattle.cedar_syntax.proofs.Printing.{printed-append, in_row-take}
use Rattle.cedar_syntax.proofs.print.tokens.ItemsTokens.write_tokens.Goals as goal

pub loop-item-preserved : goal.loop-item-preserved
loop-item-preserved g c = λ plain.
    let took = g.W.Write.write_str_gives in
    let one = c.loop-item.invariant plain in
    let two = c.in_ok-fresh.ensures one.written.plain in
    let e = in_row-take g.T.Tokens.tokens c.as_slice-item-items.result.now c.loop-item.item-index c.item-item.result c.loop-item-test.true c.item-item.is in
    subst (λ (ts : Texts). HasPrinted took c.args.f.now c.args.fresh ts c.in_ok-fresh.fresh c.write_tokens.new.f) (sym e) (printed-append took _ _ one two)
