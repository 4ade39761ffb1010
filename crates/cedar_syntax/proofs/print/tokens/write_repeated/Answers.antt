use Rattle.std.proofs.Common.{subst}
use Rattle.std.proofs.lemmas.List.{replicate_more}
use Rattle.cedar_syntax.specs.printing.Printed.{Texts}
use Rattle.cedar_syntax.specs.printing.Printing.{HasPrinted}
use Rattle.cedar_syntax.proofs.Printing.{printed-append}
use Rattle.cedar_syntax.proofs.print.tokens.write_repeated.Goals as goal

pub loop-i-preserved : goal.loop-i-preserved
loop-i-preserved g c = λ plain.
    let took = g.W.Write.write_str_gives in
    let one = c.loop-i.invariant plain in
    let two = c.in_ok-fresh.ensures one.written.plain in
    subst (λ (ts : Texts). HasPrinted took c.args.f.now c.args.fresh ts c.in_ok-fresh.fresh c.write_token.new.f) (replicate_more c.loop-i._i c.args.token.now) (printed-append took _ _ one two)
