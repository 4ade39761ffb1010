use Rattle.std.proofs.Common.{sym, ◌∙◌}
use Rattle.cedar_conversion.proofs.LoneParts.{sign_none, unsigned_part}
use Rattle.cedar_conversion.proofs.operators.single_child.UnarySingleChild.single_child.Goals as goal

pub returns-then-no_sign-clause-part : goal.returns-then-no_sign-clause-part
returns-then-no_sign-clause-part c = unsigned_part c.args.self.now (sym c.no_sign.ensures ∙ c.if-no_sign.true)

pub returns-else-no_sign-clause-part : goal.returns-else-no_sign-clause-part
returns-else-no_sign-clause-part c = sign_none c.args.self.now (sym c.no_sign.ensures ∙ c.if-no_sign.false)
