use Rattle.std.proofs.Common.{ap, sym, ◌∙◌}
use Rattle.cedar_syntax.specs.printing.Printing.{between}
use Rattle.cedar_syntax.proofs.Printing.{prints-then, prints-of_eq}
use Rattle.cedar_syntax.proofs.print.tokens.write_between.Goals as goal

pub returns-in_ok-fresh-in-Some : goal.returns-in_ok-fresh-in-Some
returns-in_ok-fresh-in-Some g c =
    let took = g.W.Write.write_str_gives in
    prints-of_eq took _ _ _ _ _ _ (ap (between c.args.mark.now g.T.Tokens.tokens) (sym c.in-Some.ensures.cases.0 ∙ c.as_slice.ensures))
    (prints-then took _ _ _ _ _ _ (g.T.Tokens.tokens c.in-Some.first.now) _ c.in_ok-fresh-in-Some.ensures c.write_all_marked.ensures)
