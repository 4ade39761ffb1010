use Rattle.cedar_grammar.specs.grammar.LooseWords.{ReadsRef}
use Rattle.cedar_syntax.specs.trees.Unlocated.{unlocated_ref}
use Rattle.cedar_syntax.specs.trees.Unplaced.{ref_tree}
use Rattle.cedar_expression_machine.proofs.machines.NamesRead.{refs_read}
use Rattle.cedar_grammar.proofs.machines.Told.{follows, found_clause, only_clause, refused_clause, places_clause}
use Rattle.cedar_grammar.proofs.WordPlaces.{ref_places_lie}
use Rattle.cedar_text.proofs.machines.PrintLaws.{printed_clause, entity_literals_printed}
use Rattle.cedar_text.proofs.text_to_cst.parse_ref.Goals as goal

pub returns-clause-found : goal.returns-clause-found
returns-clause-found c = found_clause (follows (refs_read c.args.text.now)) _ _ c.parse.ensures

pub returns-clause-only : goal.returns-clause-only
returns-clause-only c = only_clause (follows (refs_read c.args.text.now)) _ _ c.parse.ensures

pub returns-clause-refused : goal.returns-clause-refused
returns-clause-refused c = refused_clause (follows (refs_read c.args.text.now)) _ _ c.parse.ensures

pub returns-clause-places : goal.returns-clause-places
returns-clause-places c = places_clause _ (λ x g. ref_places_lie c.args.text.now x c.utf8.text g) (found_clause (follows (refs_read c.args.text.now)) _ _ c.parse.ensures)

pub returns-clause-printed : goal.returns-clause-printed
returns-clause-printed c = printed_clause ReadsRef unlocated_ref ref_tree entity_literals_printed c.args.text.now _ (returns-clause-found c)
