use Rattle.std.proofs.Common.{arith}
use Rattle.std.proofs.lemmas.Grind.{common_steps}
use Rattle.cedar_conversion.proofs.Fields.{not_alone}
use Rattle.cedar_conversion.proofs.Outcomes.{refuses}
use Rattle.cedar_conversion.proofs.operators.has_side.string_alone.Goals as goal

pub returns-else-is_empty : goal.returns-else-is_empty
returns-else-is_empty c = refuses c.invalid_has_rhs.result _ _ _ (not_alone c.args.side.loc.now c.args.loc.now c.args.raw.now c.args.accesses.now (λ h. grind (arith, common_steps))) c.invalid_has_rhs.ensures
