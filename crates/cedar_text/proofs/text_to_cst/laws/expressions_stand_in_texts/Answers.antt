use Rattle.cedar_grammar.proofs.ExpressionPlaces.{expr_places_lie, primary_places_lie}
use Rattle.cedar_text.proofs.text_to_cst.laws.expressions_stand_in_texts.Goals as goal

pub returns-clause-expressions : goal.returns-clause-expressions
returns-clause-expressions c = expr_places_lie

pub returns-clause-primaries : goal.returns-clause-primaries
returns-clause-primaries c = primary_places_lie
