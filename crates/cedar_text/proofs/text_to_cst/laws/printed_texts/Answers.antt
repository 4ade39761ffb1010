use Rattle.cedar_grammar.proofs.again.Lines.{formatted_again}
use Rattle.cedar_text.proofs.machines.PrintLaws.{one_policies_tree, policies_printed, single_policies_printed, expressions_printed, primaries_printed, entity_literals_printed, names_printed, identifiers_printed}
use Rattle.cedar_text.proofs.text_to_cst.laws.printed_texts.Goals as goal

pub returns-clause-policies : goal.returns-clause-policies
returns-clause-policies c = policies_printed

pub returns-clause-single_policies : goal.returns-clause-single_policies
returns-clause-single_policies c = single_policies_printed

pub returns-clause-expressions : goal.returns-clause-expressions
returns-clause-expressions c = expressions_printed

pub returns-clause-primaries : goal.returns-clause-primaries
returns-clause-primaries c = primaries_printed

pub returns-clause-entity_literals : goal.returns-clause-entity_literals
returns-clause-entity_literals c = entity_literals_printed

pub returns-clause-names : goal.returns-clause-names
returns-clause-names c = names_printed

pub returns-clause-identifiers : goal.returns-clause-identifiers
returns-clause-identifiers c = identifiers_printed

pub returns-clause-lines : goal.returns-clause-lines
returns-clause-lines c = formatted_again one_policies_tree
