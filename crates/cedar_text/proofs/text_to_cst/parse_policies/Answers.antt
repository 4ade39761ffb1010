use Rattle.cedar_grammar.specs.grammar.LoosePolicies.{ReadsPolicies}
use Rattle.cedar_syntax.specs.trees.UnlocatedTrees.{unlocated_policies}
use Rattle.cedar_syntax.specs.trees.Unplaced.{policies_tree}
use Rattle.cedar_grammar.specs.faults.MendedFaults.{PoliciesBefore}
use Rattle.cedar_policy_machine.proofs.machines.MendedClauses.{found_clause, only_clause, refused_clause, leftmost_clause}
use Rattle.cedar_text.proofs.machines.PolicyParts.{policies_mend}
use Rattle.cedar_grammar.proofs.machines.Told.{places_clause}
use Rattle.cedar_grammar.proofs.PolicyPlaces.{policies_places_lie}
use Rattle.cedar_text.proofs.machines.PrintLaws.{printed_clause, policies_printed}
use Rattle.cedar_text.proofs.text_to_cst.parse_policies.Goals as goal

pub returns-clause-found : goal.returns-clause-found
returns-clause-found c = found_clause PoliciesBefore (policies_mend c.args.text.now) _ c.parse_on.ensures

pub returns-clause-only : goal.returns-clause-only
returns-clause-only c = only_clause PoliciesBefore (policies_mend c.args.text.now) _ c.parse_on.ensures

pub returns-clause-refused : goal.returns-clause-refused
returns-clause-refused c = refused_clause PoliciesBefore (policies_mend c.args.text.now) _ c.parse_on.ensures

pub returns-clause-places : goal.returns-clause-places
returns-clause-places c = places_clause _ (λ x g. policies_places_lie c.args.text.now x c.utf8.text g) (found_clause PoliciesBefore (policies_mend c.args.text.now) _ c.parse_on.ensures)

pub returns-clause-leftmost : goal.returns-clause-leftmost
returns-clause-leftmost c = λ ts k g. leftmost_clause PoliciesBefore (policies_mend c.args.text.now) _ c.parse_on.ensures c.utf8.text ts k g

pub returns-clause-printed : goal.returns-clause-printed
returns-clause-printed c = printed_clause ReadsPolicies unlocated_policies policies_tree policies_printed c.args.text.now _ (returns-clause-found c)
