use Rattle.std.proofs.Common.{◌≡◌, None, Some, lit<}
use Rattle.std.proofs.lemmas.Str.Pattern.{strip_prefix_char}
use Rattle.cedar_grammar.proofs.Quotes.{begins_so}
use Rattle.cedar_grammar.proofs.reading.literal.behind_quote.Goals as goal

pub unreachable-requires : goal.unreachable-requires
unreachable-requires c =
    let none : c.strip_prefix.result ≡ None = c.in_default.is in
    begins_so c.args.text.now _ c.requires (strip_prefix_char 34 c.args.text.now c.strip_prefix.result c.strip_prefix.ensures.cases (lit< tt)) none

pub returns : goal.returns
returns c = strip_prefix_char 34 c.args.text.now (Some c.in-Some.rest) c.in-Some.ensures.cases (lit< tt)
