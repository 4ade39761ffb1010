use Rattle.std.proofs.Common.{ap, sym, ◌∙◌}
use Rattle.cedar_syntax.specs.trees.Forms.{expr_form, data_form}
use Rattle.cedar_syntax.proofs.FormLevels.{expr_out, impl_out}
use Rattle.cedar_conversion.proofs.convert.data_of.Goals as goal

pub returns : goal.returns
returns c = ap expr_form c.inner.ensures ∙ expr_out _ ∙ impl_out _ ∙ ap data_form (sym c.as_ref.ensures)
