use Rattle.std.proofs.Common.{inl, inr, ap, ◌∙◌}
use Rattle.cedar_syntax.specs.faults.ParseErrors.{IsMemory}
use Rattle.cedar_grammar.specs.faults.Leftmost.{HasLeftmost}
use Rattle.cedar_grammar.specs.grammar.LoosePolicies.{ReadsPolicies}
use Rattle.cedar_conversion.specs.strict.Table.{table_of}
use Rattle.cedar_policy_conversion.specs.Policies.{policies_outcome}
use Rattle.cedar_policy_parser.specs.faults.Refused.{RefusesSet}
use Rattle.cedar_policy_parser.proofs.Parsed.{err_on}
use Rattle.cedar_policy_parser.proofs.ParsedSets.{tree_found, text_meant, has_tree, memory_alone}
use Rattle.cedar_policy_parser.proofs.formatter.meant_tree.Goals as goal

pub returns-in_err-tree-clause-only : goal.returns-in_err-tree-clause-only
returns-in_err-tree-clause-only c set means =
    let d = tree_found (table_of c.args.styles.now) c.args.text.now means.0 set means.1 means.2 in
    err_on c.from_residual.result c.in_err-tree.field-0.0 IsMemory c.from_residual.ensures.1 (c.in_err-tree.ensures.only d.tree d.stands)

pub returns-in_err-convert-clause-only : goal.returns-in_err-convert-clause-only
returns-in_err-convert-clause-only c set means =
    let e = table_of c.args.styles.now in
    let d = tree_found e c.args.text.now means.0 set means.1 means.2 in
    let f = c.in_err-convert.field-0.0 in
    err_on c.from_residual-in_err-convert.result f IsMemory c.from_residual-in_err-convert.ensures.1
    (memory_alone f _ set (ap (λ t. policies_outcome e t) (c.in_ok-tree.ensures.only d.tree d.stands) ∙ d.gives) c.in_err-convert.ensures.refused)

pub returns-clause-meant : goal.returns-clause-meant
returns-clause-meant c =
    let value = c.in_ok-convert.ensures.value in
    (value.0, text_meant (table_of c.args.styles.now) c.args.text.now c.in_ok-tree.tree value.0 c.in_ok-tree.ensures.found value.1)

pub returns-in_err-tree-clause-refused : goal.returns-in_err-tree-clause-refused
returns-in_err-tree-clause-refused c =
    err_on c.from_residual.result c.in_err-tree.field-0.0 (λ f. RefusesSet (table_of c.args.styles.now) f c.args.text.now) c.from_residual.ensures.1 (inl c.in_err-tree.ensures.refused)

pub returns-in_err-convert-clause-refused : goal.returns-in_err-convert-clause-refused
returns-in_err-convert-clause-refused c =
    err_on c.from_residual-in_err-convert.result c.in_err-convert.field-0.0 (λ f. RefusesSet (table_of c.args.styles.now) f c.args.text.now) c.from_residual-in_err-convert.ensures.1
    (inr (c.in_ok-tree.tree, c.in_ok-tree.ensures.found, c.in_err-convert.ensures.refused))

pub returns-in_err-tree-clause-leftmost : goal.returns-in_err-tree-clause-leftmost
returns-in_err-tree-clause-leftmost c ts cut fit none =
    err_on c.from_residual.result c.in_err-tree.field-0.0 (λ f. HasLeftmost ReadsPolicies c.args.text.now ts f) c.from_residual.ensures.1 (c.in_err-tree.ensures.leftmost ts cut fit)

pub returns-in_err-convert-clause-leftmost : goal.returns-in_err-convert-clause-leftmost
returns-in_err-convert-clause-leftmost c ts cut fit none =
    absurd (none (has_tree c.at_most_one_cut.ensures c.args.text.now c.in_ok-tree.tree ts c.in_ok-tree.ensures.found cut))

pub returns-clause-leftmost : goal.returns-clause-leftmost
returns-clause-leftmost c ts cut fit none =
    absurd (none (has_tree c.at_most_one_cut.ensures c.args.text.now c.in_ok-tree.tree ts c.in_ok-tree.ensures.found cut))

pub returns-clause-one : goal.returns-clause-one
returns-clause-one c y h = c.in_ok-tree.ensures.only y h
