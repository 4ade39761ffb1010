use Rattle.cedar_syntax.specs.faults.ParseErrors.{IsMemory}
use Rattle.cedar_policy_store.specs.PlaceFree.{set_meaning}
use Rattle.cedar_conversion.specs.strict.Table.{table_of}
use Rattle.cedar_policy_parser.specs.faults.Refused.{RefusesSet}
use Rattle.cedar_policy_parser.proofs.Parsed.{err_on}
use Rattle.cedar_answers.specs.Told.{nodes_of, policy_read}
use Rattle.cedar_answers.proofs.Counting.{each_told}
use Rattle.cedar_answers.proofs.policies.policies_of.Goals as goal

pub returns-clause-meant : goal.returns-clause-meant
returns-clause-meant c = (set_meaning c.in_ok-parsed.parsed.set, c.in_ok-parsed.ensures.set)

pub returns-clause-told : goal.returns-clause-told
returns-clause-told c = record {
  set = c.in_ok-parsed.parsed.set;
  tree = c.in_ok-parsed.parsed.tree;
  meant = c.in_ok-parsed.ensures.set;
  stands = c.in_ok-parsed.ensures.tree;
  each = each_told c.args.text.now c.in_ok-parsed.parsed.set (nodes_of c.in_ok-parsed.parsed.tree.node) policy_read c.in_ok-policies.policies.now c.in_ok-parsed.ensures.each c.in_ok-policies.ensures;
  told = c.in_ok-policies.ensures;
}

pub returns-in_err-parsed-clause-only : goal.returns-in_err-parsed-clause-only
returns-in_err-parsed-clause-only c meant =
    err_on c.from_residual.result c.in_err-parsed.field-0.0 IsMemory c.from_residual.ensures.1 (c.in_err-parsed.ensures.only meant.0 meant.1)

pub returns-in_err-parsed-clause-refused : goal.returns-in_err-parsed-clause-refused
returns-in_err-parsed-clause-refused c =
    err_on c.from_residual.result c.in_err-parsed.field-0.0 (λ f. RefusesSet (table_of c.args.styles.now) f c.args.text.now) c.from_residual.ensures.1 c.in_err-parsed.ensures.refused
