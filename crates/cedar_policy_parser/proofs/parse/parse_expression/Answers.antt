use Rattle.std.proofs.Common.{inl}
use Rattle.cedar_expressions.specs.Meaning.{expr_meaning}
use Rattle.cedar_syntax.specs.faults.ParseErrors.{IsMemory}
use Rattle.cedar_policy_parser.specs.faults.Refused.{RefusesText}
use Rattle.cedar_conversion.specs.strict.Table.{table_of}
use Rattle.cedar_policy_parser.proofs.Parsed.{tree_found, read_value, read_only, err_on, passed_on, told_tree}
use Rattle.cedar_policy_parser.proofs.Written.{expression_written}
use Rattle.cedar_policy_parser.proofs.parse.parse_expression.Goals as goal

pub returns-in_err-tree-clause-only : goal.returns-in_err-tree-clause-only
returns-in_err-tree-clause-only c ts w cut means =
    let d = tree_found (table_of c.args.styles.now) c.args.text.now ts w cut means in
    passed_on c.from_residual.result c.in_err-tree.field-0.0 _ _ c.from_residual.ensures.1 (c.in_err-tree.ensures.only d.tree d.stands)

pub returns-clause-value : goal.returns-clause-value
returns-clause-value c = read_value (table_of c.args.styles.now) expr_meaning c.args.text.now c.in_ok-tree.tree c.to_expr.result c.in_ok-tree.ensures.found c.to_expr.ensures

pub returns-clause-only : goal.returns-clause-only
returns-clause-only c ts w cut means =
    let d = tree_found (table_of c.args.styles.now) c.args.text.now ts w cut means in
    read_only (table_of c.args.styles.now) expr_meaning c.in_ok-tree.tree d.tree w c.to_expr.result (c.in_ok-tree.ensures.only d.tree d.stands) c.to_expr.ensures d.gives

pub returns-in_err-tree-clause-refused : goal.returns-in_err-tree-clause-refused
returns-in_err-tree-clause-refused c = err_on c.from_residual.result c.in_err-tree.field-0.0 (λ f. RefusesText (table_of c.args.styles.now) f c.args.text.now) c.from_residual.ensures.1 (inl c.in_err-tree.ensures.refused)

pub returns-clause-refused : goal.returns-clause-refused
returns-clause-refused c = told_tree (table_of c.args.styles.now) expr_meaning c.args.text.now c.in_ok-tree.tree c.to_expr.result c.in_ok-tree.ensures.found c.to_expr.ensures

pub returns-in_err-tree-clause-written : goal.returns-in_err-tree-clause-written
returns-in_err-tree-clause-written c w h =
    expression_written (table_of c.args.styles.now) c.args.text.now c.from_residual.result IsMemory expr_meaning w (returns-in_err-tree-clause-only c) h

pub returns-clause-written : goal.returns-clause-written
returns-clause-written c w h = expression_written (table_of c.args.styles.now) c.args.text.now c.to_expr.result IsMemory expr_meaning w (returns-clause-only c) h
