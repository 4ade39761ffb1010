use Rattle.std.proofs.Common.{inl, inr, ap, ◌∙◌}
use Rattle.cedar_syntax.specs.faults.ParseErrors.{IsMemory}
use Rattle.cedar_policy_store.specs.PlaceFree.{set_meaning}
use Rattle.cedar_conversion.specs.strict.Table.{table_of}
use Rattle.cedar_policy_conversion.specs.Policies.{policies_outcome}
use Rattle.cedar_policy_parser.specs.faults.Refused.{RefusesSet}
use Rattle.cedar_policy_parser.proofs.Parsed.{err_on}
use Rattle.cedar_policy_parser.proofs.ParsedSets.{tree_found, text_meant, memory_alone}
use Rattle.cedar_answers.proofs.Counting.{has_each}
use Rattle.cedar_answers.proofs.sets.read.Goals as goal

pub returns-in_err-tree-clause-only : goal.returns-in_err-tree-clause-only
returns-in_err-tree-clause-only c set means =
    let d = tree_found (table_of c.args.styles.now) c.args.text.now means.0 set means.1 means.2 in
    err_on c.from_residual.result c.in_err-tree.field-0.0 IsMemory c.from_residual.ensures.1 (c.in_err-tree.ensures.only d.tree d.stands)

pub returns-in_err-set-clause-only : goal.returns-in_err-set-clause-only
returns-in_err-set-clause-only c set means =
    let e = table_of c.args.styles.now in
    let d = tree_found e c.args.text.now means.0 set means.1 means.2 in
    let f = c.in_err-set.field-0.0 in
    err_on c.from_residual-in_err-set.result f IsMemory c.from_residual-in_err-set.ensures.1
    (memory_alone f _ set (ap (λ t. policies_outcome e t) (c.in_ok-tree.ensures.only d.tree d.stands) ∙ d.gives) c.in_err-set.ensures.meant)

pub returns-clause-set : goal.returns-clause-set
returns-clause-set c = text_meant (table_of c.args.styles.now) c.args.text.now c.in_ok-tree.tree (set_meaning c.in_ok-set.set) c.in_ok-tree.ensures.found c.in_ok-set.ensures.meant

pub returns-clause-each : goal.returns-clause-each
returns-clause-each c = has_each (table_of c.args.styles.now) c.in_ok-set.set c.in_ok-tree.tree c.in_ok-set.ensures.meant

pub returns-in_err-tree-clause-refused : goal.returns-in_err-tree-clause-refused
returns-in_err-tree-clause-refused c =
    err_on c.from_residual.result c.in_err-tree.field-0.0 (λ f. RefusesSet (table_of c.args.styles.now) f c.args.text.now) c.from_residual.ensures.1 (inl c.in_err-tree.ensures.refused)

pub returns-in_err-set-clause-refused : goal.returns-in_err-set-clause-refused
returns-in_err-set-clause-refused c =
    err_on c.from_residual-in_err-set.result c.in_err-set.field-0.0 (λ f. RefusesSet (table_of c.args.styles.now) f c.args.text.now) c.from_residual-in_err-set.ensures.1
    (inr (c.in_ok-tree.tree, c.in_ok-tree.ensures.found, c.in_err-set.ensures.meant))
