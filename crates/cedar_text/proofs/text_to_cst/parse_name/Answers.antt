use Rattle.cedar_grammar.specs.grammar.LooseWords.{ReadsName}
use Rattle.cedar_syntax.specs.trees.Unlocated.{unlocated_name}
use Rattle.cedar_syntax.specs.trees.Unplaced.{name_tree}
use Rattle.cedar_expression_machine.proofs.machines.NamesRead.{names_read}
use Rattle.cedar_grammar.proofs.machines.Told.{follows, found_clause, only_clause, refused_clause, places_clause}
use Rattle.cedar_grammar.proofs.WordPlaces.{name_places_lie}
use Rattle.cedar_text.proofs.machines.PrintLaws.{printed_clause, names_printed}
use Rattle.cedar_text.proofs.text_to_cst.parse_name.Goals as goal

pub returns-clause-found : goal.returns-clause-found
returns-clause-found c = found_clause (follows (names_read c.args.text.now)) _ _ c.parse.ensures

pub returns-clause-only : goal.returns-clause-only
returns-clause-only c = only_clause (follows (names_read c.args.text.now)) _ _ c.parse.ensures

pub returns-clause-refused : goal.returns-clause-refused
returns-clause-refused c = refused_clause (follows (names_read c.args.text.now)) _ _ c.parse.ensures

pub returns-clause-places : goal.returns-clause-places
returns-clause-places c = places_clause _ (λ x g. name_places_lie c.args.text.now x c.utf8.text g) (found_clause (follows (names_read c.args.text.now)) _ _ c.parse.ensures)

pub returns-clause-printed : goal.returns-clause-printed
returns-clause-printed c = printed_clause ReadsName unlocated_name name_tree names_printed c.args.text.now _ (returns-clause-found c)
