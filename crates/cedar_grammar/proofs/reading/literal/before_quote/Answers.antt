use Rattle.std.proofs.Common.{◌≡◌, None, Some, lit<}
use Rattle.std.proofs.lemmas.Str.Pattern.{strip_suffix_char}
use Rattle.cedar_grammar.proofs.Quotes.{quote_found}
use Rattle.cedar_grammar.proofs.reading.literal.before_quote.Goals as goal

pub unreachable-requires : goal.unreachable-requires
unreachable-requires c =
    let none : c.strip_suffix.result ≡ None = c.in_default.is in
    quote_found c.args.text.now c.requires.0 _ c.requires.1 (strip_suffix_char 34 c.args.text.now c.strip_suffix.result c.strip_suffix.ensures.cases (lit< tt)) none

pub returns : goal.returns
returns c = strip_suffix_char 34 c.args.text.now (Some c.in-Some.front) c.in-Some.ensures.cases (lit< tt)
