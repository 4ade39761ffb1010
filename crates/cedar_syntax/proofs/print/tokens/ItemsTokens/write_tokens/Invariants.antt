use Rattle.std.proofs.Common.{take}
use Rattle.std.specs.Fmt.{IsPlainFormatter}
use Rattle.cedar_syntax.specs.printing.Printing.{HasPrinted, in_row}
use Rattle.cedar_syntax.proofs.print.tokens.ItemsTokens.write_tokens.Given as goal

abbrev pub invariant-loop-item : goal.invariant-loop-item
invariant-loop-item g l =
    IsPlainFormatter l.fn.f → HasPrinted g.W.Write.write_str_gives l.fn.f l.fn.fresh (in_row g.T.Tokens.tokens (take l.item-index l.item-items)) l.fresh l.f
