use Rattle.cedar_grammar.specs.grammar.LooseExpressions.{ReadsExpr, ReadsPrimary}
use Rattle.cedar_grammar.specs.grammar.LoosePolicies.{ReadsPolicies, ReadsPolicy}
use Rattle.cedar_syntax.specs.trees.Unplaced.{expr_tree, primary_tree, policy_tree, policies_tree}
use Rattle.cedar_text.proofs.SpannedPolicies.{within, expr_within, primary_within, policy_within, policies_within}
use Rattle.cedar_text.proofs.text_to_cst.laws.trees_nest_as_told.Goals as goal

pub returns-clause-expressions : goal.returns-clause-expressions
returns-clause-expressions c = within ReadsExpr expr_tree expr_within

pub returns-clause-primaries : goal.returns-clause-primaries
returns-clause-primaries c = within ReadsPrimary primary_tree primary_within

pub returns-clause-policies : goal.returns-clause-policies
returns-clause-policies c = within ReadsPolicies policies_tree policies_within

pub returns-clause-policy : goal.returns-clause-policy
returns-clause-policy c = within ReadsPolicy policy_tree policy_within
