use Rattle.cedar_grammar.specs.grammar.Place.{placed}
use Rattle.cedar_policy_parser.proofs.meaning.Meaning.{same_value}
use Rattle.cedar_policy_parser.proofs.sound.Whole.{sound_value}
use Rattle.cedar_policy_parser.proofs.laws.same_meaning.Goals as goal

pub returns : goal.returns
returns c e src ts x w r = (
  λ h. same_value c.expressions.ensures.one_tree e src ts x w r h,
  λ h. sound_value e (placed src ts x).loc w r h,
)
