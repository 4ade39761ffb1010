use Rattle.cedar_grammar.proofs.Quotes.{ends_so, inside_is}
use Rattle.cedar_grammar.proofs.reading.literal.between_quotes.Goals as goal

pub before_quote-requires : goal.before_quote-requires
before_quote-requires c = ends_so _ _ c.requires c.behind_quote.ensures

pub returns : goal.returns
returns c = inside_is _ _ _ c.behind_quote.ensures c.before_quote.ensures
