use Rattle.std.proofs.Common.{◌∙◌}
use Rattle.cedar_conversion.proofs.styles.ExtStyles.cedar.Goals as goal

pub returns : goal.returns
returns c = λ i. record {
  functions = λ name. (c.new.ensures.functions name ∙ c.in_ok-functions.ensures name) i;
  methods = λ id. (c.new.ensures.methods id ∙ c.in_ok-methods.ensures id) i;
}
