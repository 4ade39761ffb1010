use Rattle.std.proofs.Common.{replicate}
use Rattle.std.specs.Fmt.{IsPlainFormatter}
use Rattle.cedar_syntax.specs.printing.Printing.{HasPrinted}
use Rattle.cedar_syntax.proofs.print.tokens.write_repeated.Given as goal

abbrev pub invariant-loop-i : goal.invariant-loop-i
invariant-loop-i g l =
    IsPlainFormatter l.fn.f → HasPrinted g.W.Write.write_str_gives l.fn.f l.fn.fresh (replicate l._i l.token) l.fresh l.f
