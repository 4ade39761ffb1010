use Rattle.std.proofs.Common.{inl, inr}
use Rattle.cedar_syntax.specs.faults.ParseErrors.{IsMemory}
use Rattle.cedar_policy_parser.specs.faults.Refused.{RefusesText}
use Rattle.cedar_conversion.specs.strict.Table.{table_of}
use Rattle.cedar_command.proofs.Verdicts.{meant_by, read_only, refused_for_memory, err_on}
use Rattle.cedar_command.proofs.run.tree_of.Goals as goal

pub returns-in_err-tree-clause-only : goal.returns-in_err-tree-clause-only
returns-in_err-tree-clause-only c meant =
    let d = read_only (table_of c.args.styles.now) c.meant_is_converted.ensures c.args.text.now c.in_err-tree.ensures.only meant in
    err_on c.from_residual.result c.in_err-tree.field-0.0 IsMemory c.from_residual.ensures.1 d.3

pub returns-in_err-convert-clause-only : goal.returns-in_err-convert-clause-only
returns-in_err-convert-clause-only c meant =
    let d = read_only (table_of c.args.styles.now) c.meant_is_converted.ensures c.args.text.now c.in_ok-tree.ensures.only meant in
    let f = c.in_err-convert.field-0.0 in
    err_on c.from_residual-in_err-convert.result f IsMemory c.from_residual-in_err-convert.ensures.1 (refused_for_memory _ f c.in_ok-tree.tree d.0 d.1 d.3 c.in_err-convert.ensures.refused d.2)

pub returns-clause-meant : goal.returns-clause-meant
returns-clause-meant c =
    let tree = c.in_ok-tree.ensures.found in
    let value = c.in_ok-convert.ensures.value in
    meant_by (table_of c.args.styles.now) c.converted_is_meant.ensures c.args.text.now c.in_ok-tree.tree value.0 tree value.1

pub returns-in_err-tree-clause-refused : goal.returns-in_err-tree-clause-refused
returns-in_err-tree-clause-refused c =
    err_on c.from_residual.result c.in_err-tree.field-0.0 (λ f. RefusesText (table_of c.args.styles.now) f c.args.text.now) c.from_residual.ensures.1 (inl c.in_err-tree.ensures.refused)

pub returns-in_err-convert-clause-refused : goal.returns-in_err-convert-clause-refused
returns-in_err-convert-clause-refused c =
    err_on c.from_residual-in_err-convert.result c.in_err-convert.field-0.0 (λ f. RefusesText (table_of c.args.styles.now) f c.args.text.now) c.from_residual-in_err-convert.ensures.1
    (inr (c.in_ok-tree.tree, c.in_ok-tree.ensures.found, c.in_err-convert.ensures.refused))
