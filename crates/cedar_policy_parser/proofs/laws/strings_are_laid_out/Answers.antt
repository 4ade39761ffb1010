use Rattle.cedar_conversion.proofs.Quoted.{layout_laid}
use Rattle.cedar_policy_parser.proofs.laws.strings_are_laid_out.Goals as goal

pub returns : goal.returns
returns c = layout_laid
