use Rattle.std.proofs.Common.{inl}
use Rattle.cedar_policy_store.specs.PlaceFree.{set_meaning}
use Rattle.cedar_grammar.specs.faults.Leftmost.{HasLeftmost}
use Rattle.cedar_grammar.specs.grammar.LoosePolicies.{ReadsPolicies}
use Rattle.cedar_syntax.specs.faults.ParseErrors.{IsMemory}
use Rattle.cedar_policy_conversion.specs.Policies.{set_parts}
use Rattle.cedar_policy_parser.specs.faults.Refused.{RefusesSet}
use Rattle.cedar_conversion.specs.strict.Table.{table_of}
use Rattle.cedar_policy_parser.proofs.Parsed.{err_on, passed_on}
use Rattle.cedar_policy_parser.proofs.ParsedSets.{tree_found, read_value, read_only, parts_placed, told_tree, has_tree}
use Rattle.cedar_policy_parser.proofs.meaning.RaisedLimit.{old_set}
use Rattle.cedar_policy_parser.proofs.meaning.VariedTexts.{spaces_clause, parentheses_clause}
use Rattle.cedar_policy_parser.proofs.Written.{policy_written, policies_written, set_written}
use Rattle.cedar_policy_parser.proofs.parse.parse_policyset.Goals as goal

pub returns-in_err-tree-clause-only : goal.returns-in_err-tree-clause-only
returns-in_err-tree-clause-only c ts set cut means =
    let d = tree_found (table_of c.args.styles.now) c.args.text.now ts set cut means in
    passed_on c.from_residual.result c.in_err-tree.field-0.0 _ _ c.from_residual.ensures.1 (c.in_err-tree.ensures.only d.tree d.stands)

pub returns-in_err-tree-clause-kept : goal.returns-in_err-tree-clause-kept
returns-in_err-tree-clause-kept c ts set cut means = returns-in_err-tree-clause-only c ts set cut (old_set means)

pub returns-clause-value : goal.returns-clause-value
returns-clause-value c = read_value (table_of c.args.styles.now) set_meaning c.args.text.now c.in_ok-tree.tree c.into_policyset.result c.in_ok-tree.ensures.found c.into_policyset.ensures.meant

pub returns-clause-only : goal.returns-clause-only
returns-clause-only c ts set cut means =
    let d = tree_found (table_of c.args.styles.now) c.args.text.now ts set cut means in
    read_only (table_of c.args.styles.now) set_meaning c.in_ok-tree.tree d.tree set c.into_policyset.result (c.in_ok-tree.ensures.only d.tree d.stands) c.into_policyset.ensures.meant d.gives

pub returns-clause-placed : goal.returns-clause-placed
returns-clause-placed c =
    parts_placed (table_of c.args.styles.now) set_parts c.args.text.now c.in_ok-tree.tree c.into_policyset.result c.in_ok-tree.ensures.found c.into_policyset.ensures.placed

pub returns-in_err-tree-clause-refused : goal.returns-in_err-tree-clause-refused
returns-in_err-tree-clause-refused c = err_on c.from_residual.result c.in_err-tree.field-0.0 (λ f. RefusesSet (table_of c.args.styles.now) f c.args.text.now) c.from_residual.ensures.1 (inl c.in_err-tree.ensures.refused)

pub returns-clause-refused : goal.returns-clause-refused
returns-clause-refused c = told_tree (table_of c.args.styles.now) set_meaning c.args.text.now c.in_ok-tree.tree c.into_policyset.result c.in_ok-tree.ensures.found c.into_policyset.ensures.meant

pub returns-in_err-tree-clause-leftmost : goal.returns-in_err-tree-clause-leftmost
returns-in_err-tree-clause-leftmost c ts cut fit none =
    err_on c.from_residual.result c.in_err-tree.field-0.0 (λ f. HasLeftmost ReadsPolicies c.args.text.now ts f) c.from_residual.ensures.1 (c.in_err-tree.ensures.leftmost ts cut fit)

pub returns-clause-leftmost : goal.returns-clause-leftmost
returns-clause-leftmost c ts cut fit none = absurd (none (has_tree c.at_most_one_cut.ensures c.args.text.now c.in_ok-tree.tree ts c.in_ok-tree.ensures.found cut))

pub returns-clause-kept : goal.returns-clause-kept
returns-clause-kept c ts set cut means = returns-clause-only c ts set cut (old_set means)

pub returns-clause-spaces : goal.returns-clause-spaces
returns-clause-spaces c =
    let e = table_of c.args.styles.now in
    spaces_clause c.at_most_one_cut.ensures e set_meaning c.args.text.now c.into_policyset.result c.utf8.text
    (read_value e set_meaning c.args.text.now c.in_ok-tree.tree c.into_policyset.result c.in_ok-tree.ensures.found c.into_policyset.ensures.meant)

pub returns-clause-parentheses : goal.returns-clause-parentheses
returns-clause-parentheses c =
    let e = table_of c.args.styles.now in
    parentheses_clause c.at_most_one_cut.ensures e (c.one_set.ensures e) set_meaning c.args.text.now c.into_policyset.result c.utf8.text
    (read_value e set_meaning c.args.text.now c.in_ok-tree.tree c.into_policyset.result c.in_ok-tree.ensures.found c.into_policyset.ensures.meant)

pub returns-in_err-tree-clause-written_policy : goal.returns-in_err-tree-clause-written_policy
returns-in_err-tree-clause-written_policy c p h =
    policy_written (table_of c.args.styles.now) c.args.text.now c.from_residual.result IsMemory set_meaning (returns-in_err-tree-clause-only c) p h

pub returns-clause-written_policy : goal.returns-clause-written_policy
returns-clause-written_policy c p h = policy_written (table_of c.args.styles.now) c.args.text.now c.into_policyset.result IsMemory set_meaning (returns-clause-only c) p h

pub returns-in_err-tree-clause-written_policies : goal.returns-in_err-tree-clause-written_policies
returns-in_err-tree-clause-written_policies c all h =
    policies_written (table_of c.args.styles.now) c.args.text.now c.from_residual.result IsMemory set_meaning (returns-in_err-tree-clause-only c) all h

pub returns-clause-written_policies : goal.returns-clause-written_policies
returns-clause-written_policies c all h =
    policies_written (table_of c.args.styles.now) c.args.text.now c.into_policyset.result IsMemory set_meaning (returns-clause-only c) all h

pub returns-in_err-tree-clause-written_set : goal.returns-in_err-tree-clause-written_set
returns-in_err-tree-clause-written_set c set is h =
    set_written (table_of c.args.styles.now) c.args.text.now c.from_residual.result IsMemory set_meaning (returns-in_err-tree-clause-only c) set is h

pub returns-clause-written_set : goal.returns-clause-written_set
returns-clause-written_set c set is h =
    set_written (table_of c.args.styles.now) c.args.text.now c.into_policyset.result IsMemory set_meaning (returns-clause-only c) set is h
