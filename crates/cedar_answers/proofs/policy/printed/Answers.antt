use Rattle.std.proofs.Common.{string_bytes, sym, ap, ◌∙◌}
use Rattle.std.specs.Option.{option_copied}
use Rattle.cedar_syntax.specs.trees.Unplaced.{policy_tree}
use Rattle.cedar_answers.proofs.Printing.{nothing_printed}
use Rattle.cedar_answers.proofs.policy.printed.Goals as goal

pub returns-in-None : goal.returns-in-None
returns-in-None c = nothing_printed policy_tree c.args.node.now (string_bytes c.new.result) (sym c.as_inner.ensures ∙ ap option_copied c.in-None.is) c.new.ensures.bytes
