use Rattle.std.proofs.Common.{string_bytes, sym, ap, ◌∙◌}
use Rattle.std.specs.Option.{option_copied}
use Rattle.cedar_syntax.specs.trees.Unplaced.{expr_tree}
use Rattle.cedar_answers.proofs.Printing.{nothing_printed}
use Rattle.cedar_answers.proofs.expressions.tree_text.Goals as goal

pub returns-in-None : goal.returns-in-None
returns-in-None c = nothing_printed expr_tree c.args.tree.now (string_bytes c.new.result) (sym c.as_inner.ensures ∙ ap option_copied c.in-None.is) c.new.ensures.bytes
