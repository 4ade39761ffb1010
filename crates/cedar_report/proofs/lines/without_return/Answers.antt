use Rattle.std.proofs.Common.{Some, None, inl, inr, refl, lit<}
use Rattle.std.proofs.lemmas.Str.Pattern.{strip_suffix_char}
use Rattle.cedar_report.proofs.lines.without_return.Goals as goal

pub returns-in-Some : goal.returns-in-Some
returns-in-Some c = inl (strip_suffix_char 13 c.args.line.now (Some c.in-Some.rest) c.in-Some.ensures.cases (lit< tt))

pub returns-in-None : goal.returns-in-None
returns-in-None c = inr (refl, strip_suffix_char 13 c.args.line.now None c.in-None.ensures.cases (lit< tt))
