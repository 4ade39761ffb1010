use Rattle.std.proofs.Common.{ap, ◌∙◌}
use Rattle.cedar_answers.specs.Told.{policies_told}
use Rattle.cedar_answers.proofs.policies.shown.Goals as goal

pub returns : goal.returns
returns c = c.handed_policies.ensures ∙ c.in_ok-made.ensures ∙ ap (λ t. policies_told t c.args.parsed.now.set c.args.parsed.now.tree) c.in_ok-lines.ensures
