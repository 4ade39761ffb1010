use Rattle.std.proofs.Common.{Result, Ok, inl, inr, ap, ◌∙◌}
use Rattle.cedar_expressions.specs.Meaning.{expr_meaning}
use Rattle.cedar_expressions.specs.declared.expr.Expr.{Expr}
use Rattle.cedar_syntax.specs.declared.err.faults.Failure.{Failure}
use Rattle.cedar_syntax.specs.faults.ParseErrors.{IsMemory}
use Rattle.cedar_syntax.specs.trees.Forms.{located, expr_form}
use Rattle.cedar_conversion.specs.outcome.Conversion.{value_outcome}
use Rattle.cedar_conversion.specs.strict.Table.{table_of}
use Rattle.cedar_policy_parser.specs.faults.Refused.{RefusesText}
use Rattle.cedar_policy_parser.proofs.Parsed.{err_on, read_value, tree_found}
use Rattle.cedar_answers.proofs.WantOfMemory.{memory_alone}
use Rattle.cedar_answers.proofs.expressions.expression_of.Goals as goal

pub returns-in_err-tree-clause-only : goal.returns-in_err-tree-clause-only
returns-in_err-tree-clause-only c meant =
    let d = tree_found (table_of c.args.styles.now) c.args.text.now meant.1 meant.0 meant.2 meant.3 in
    err_on c.from_residual.result c.in_err-tree.field-0.0 IsMemory c.from_residual.ensures.1 (c.in_err-tree.ensures.only d.tree d.stands)

pub returns-in_err-value-clause-only : goal.returns-in_err-value-clause-only
returns-in_err-value-clause-only c meant =
    let e = table_of c.args.styles.now in
    let d = tree_found e c.args.text.now meant.1 meant.0 meant.2 meant.3 in
    let f = c.in_err-value.field-0.0 in
    err_on c.from_residual-in_err-value.result f IsMemory c.from_residual-in_err-value.ensures.1
    (memory_alone f _ meant.0 (ap (λ t. value_outcome e (located expr_form t)) (c.in_ok-tree.ensures.only d.tree d.stands) ∙ d.gives) c.in_err-value.ensures)

pub returns-clause-meant : goal.returns-clause-meant
returns-clause-meant c =
    let value : Result Expr Failure = Ok c.in_ok-value.value in
    let read = read_value (table_of c.args.styles.now) expr_meaning c.args.text.now c.in_ok-tree.tree value c.in_ok-tree.ensures.found c.in_ok-value.ensures in
    (expr_meaning c.in_ok-value.value, read.0, read.1, read.2)

pub returns-clause-printed : goal.returns-clause-printed
returns-clause-printed c = record { tree = c.in_ok-tree.tree; stands = c.in_ok-tree.ensures.found; is = c.in_ok-printed.ensures }

pub returns-in_err-tree-clause-refused : goal.returns-in_err-tree-clause-refused
returns-in_err-tree-clause-refused c =
    err_on c.from_residual.result c.in_err-tree.field-0.0 (λ f. RefusesText (table_of c.args.styles.now) f c.args.text.now) c.from_residual.ensures.1 (inl c.in_err-tree.ensures.refused)

pub returns-in_err-value-clause-refused : goal.returns-in_err-value-clause-refused
returns-in_err-value-clause-refused c =
    err_on c.from_residual-in_err-value.result c.in_err-value.field-0.0 (λ f. RefusesText (table_of c.args.styles.now) f c.args.text.now) c.from_residual-in_err-value.ensures.1
    (inr (c.in_ok-tree.tree, c.in_ok-tree.ensures.found, c.in_err-value.ensures))
