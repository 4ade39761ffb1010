use Rattle.std.proofs.Common.{Ok, option_copied}
use Rattle.cedar_conversion.specs.outcome.Seen.{itself}
use Rattle.cedar_conversion.specs.strict.Table.{table_of}
use Rattle.cedar_conversion.specs.parts.Names.{content_outcome}
use Rattle.cedar_conversion.proofs.Outcomes.{given_next, gives_at, passed_on, refused_next}
use Rattle.cedar_policy_conversion.specs.Scope.{element_of, element_outcome}
use Rattle.cedar_policy_conversion.proofs.ScopeParts.{is_there, not_there}
use Rattle.cedar_policy_conversion.proofs.scope.element.element.Goals as goal

pub returns-in_err-node : goal.returns-in_err-node
returns-in_err-node c =
    not_there c.args.expected (λ n. Ok n) (element_outcome (table_of c.args.styles.now) c.args.expected) c.args.before.now (option_copied c.args.node) c.from_residual.result c.in_err-node.field-0.0 c.from_residual.ensures.1 c.in_err-node.ensures

pub returns-in_err-content : goal.returns-in_err-content
returns-in_err-content c =
    is_there c.args.expected (λ n. Ok n) (element_outcome (table_of c.args.styles.now) c.args.expected) c.args.before.now (option_copied c.args.node) c.in_ok-node.node.now c.from_residual-in_err-content.result c.in_ok-node.ensures
    (passed_on itself c.from_residual-in_err-content.result c.in_err-content.field-0.0 _ c.from_residual-in_err-content.ensures.1 (refused_next c.in_err-content.field-0.0 (content_outcome c.in_ok-node.node.now.loc c.in_ok-node.node.now.node) (element_of (table_of c.args.styles.now) c.args.expected c.in_ok-node.node.now.loc) c.in_err-content.ensures))

pub returns : goal.returns
returns c =
    is_there c.args.expected (λ n. Ok n) (element_outcome (table_of c.args.styles.now) c.args.expected) c.args.before.now (option_copied c.args.node) c.in_ok-node.node.now c.element_of.result c.in_ok-node.ensures
    (gives_at itself c.element_of.result _ _ (given_next (content_outcome c.in_ok-node.node.now.loc c.in_ok-node.node.now.node) c.in_ok-content.field-0.now (element_of (table_of c.args.styles.now) c.args.expected c.in_ok-node.node.now.loc) c.in_ok-content.ensures) c.element_of.ensures)
