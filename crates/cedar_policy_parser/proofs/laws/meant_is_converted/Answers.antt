use Rattle.cedar_grammar.specs.grammar.Place.{placed}
use Rattle.cedar_policy_parser.proofs.complete.Whole.{complete}
use Rattle.cedar_policy_parser.proofs.laws.meant_is_converted.Goals as goal

pub returns : goal.returns
returns c e src ts w h = let d = complete e src h in (d.tree, d.reads, d.gives (placed src ts d.tree).loc)
