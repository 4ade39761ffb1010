use Rattle.cedar_grammar.specs.grammar.LooseWords.{ReadsIdent}
use Rattle.cedar_syntax.specs.trees.UnlocatedTrees.{unlocated_ident}
use Rattle.cedar_syntax.specs.trees.Unplaced.{ident_tree}
use Rattle.cedar_expression_machine.proofs.machines.NamesRead.{idents_read}
use Rattle.cedar_grammar.proofs.machines.Told.{follows, found_clause, only_clause, refused_clause, places_clause}
use Rattle.cedar_grammar.proofs.WordPlaces.{ident_places_lie}
use Rattle.cedar_text.proofs.machines.PrintLaws.{printed_clause, identifiers_printed}
use Rattle.cedar_text.proofs.text_to_cst.parse_ident.Goals as goal

pub returns-clause-found : goal.returns-clause-found
returns-clause-found c = found_clause (follows (idents_read c.args.text.now)) _ _ c.parse.ensures

pub returns-clause-only : goal.returns-clause-only
returns-clause-only c = only_clause (follows (idents_read c.args.text.now)) _ _ c.parse.ensures

pub returns-clause-refused : goal.returns-clause-refused
returns-clause-refused c = refused_clause (follows (idents_read c.args.text.now)) _ _ c.parse.ensures

pub returns-clause-places : goal.returns-clause-places
returns-clause-places c = places_clause _ (λ x g. ident_places_lie c.args.text.now x c.utf8.text g) (found_clause (follows (idents_read c.args.text.now)) _ _ c.parse.ensures)

pub returns-clause-printed : goal.returns-clause-printed
returns-clause-printed c = printed_clause ReadsIdent unlocated_ident ident_tree identifiers_printed c.args.text.now _ (returns-clause-found c)
