use Rattle.cedar_grammar.specs.grammar.Place.{placed}
use Rattle.cedar_policy_parser.proofs.sound.Whole.{sound_value}
use Rattle.cedar_policy_parser.proofs.laws.converted_is_meant.Goals as goal

pub returns : goal.returns
returns c e src ts x w r h = sound_value e (placed src ts x).loc w r h
