-- The faults of a text's tree are due, and those of each expression in it.
use Rattle.std.proofs.Common.{ℕ, List, sym, ◌∙◌, subst}
use Rattle.cedar_lexer.specs.Token.{Lexeme}
use Rattle.cedar_syntax.specs.declared.cst.Expr.{Expr}
use Rattle.cedar_syntax.specs.trees.Forms.{located, expr_form}
use Rattle.cedar_grammar.specs.grammar.Grammar.{IsTreeOf}
use Rattle.cedar_grammar.specs.grammar.LooseExpressions.{ReadsExpr}
use Rattle.cedar_grammar.specs.grammar.Place.{placed}
use Rattle.cedar_syntax.specs.trees.Trees.{Cell}
use Rattle.cedar_grammar.proofs.ExpressionTokens.{expr_some}
use Rattle.cedar_grammar.proofs.WordPlaces.{start_is}
use Rattle.cedar_conversion.specs.outcome.Conversion.{value_outcome}
use Rattle.cedar_policy_parser.specs.faults.DueKinds.{AreDueIn}
use Rattle.cedar_conversion.specs.strict.Extensions.{Extensions}
use Rattle.cedar_policy_parser.specs.faults.Sites.{wanted, expression}
use Rattle.cedar_policy_parser.specs.faults.Standing.{AreTokensOf}
use Rattle.cedar_policy_parser.proofs.standing.Fitting.{all_fit}
use Rattle.cedar_policy_parser.proofs.standing.StandingTexts.{some_fit}
use Rattle.cedar_policy_parser.proofs.standing.NestedTrees.{sits, expr_holds}
use Rattle.cedar_policy_parser.proofs.due.DueTrees.{faults_are_due}

pub expr_due : (e : Extensions) (text : List ℕ) (tree : Cell Expr) → IsTreeOf ReadsExpr text tree → AreDueIn e (wanted expression (located expr_form tree)) (value_outcome e (located expr_form tree))
expr_due e text tree g =
    let ts : List Lexeme = g.tokens in
    let x : Expr = g.stands.tree in
    let some = expr_some g.stands.reads in
    let h = all_fit text _ _ ts g.cut some in
    let c : Cell Expr = placed text ts x in
    subst (λ y. AreDueIn e (wanted expression (located expr_form y)) (value_outcome e (located expr_form y))) (sym (g.stands.is ∙ start_is text ts x some))
    (faults_are_due e c.loc (located expr_form c) (sits c.loc text expr_form ts x h some (λ i. expr_holds g.stands.reads i)))

pub each_expr_due : (e : Extensions) (text : List ℕ) (ts : List Lexeme) (x : Expr) → AreTokensOf text ts → ReadsExpr text ts x
    → AreDueIn e (wanted expression (located expr_form (placed text ts x))) (value_outcome e (located expr_form (placed text ts x)))
each_expr_due e text ts x g r =
    let some = expr_some r in
    let h = some_fit text ts g some in
    let c : Cell Expr = placed text ts x in
    faults_are_due e c.loc (located expr_form c) (sits c.loc text expr_form ts x h some (λ i. expr_holds r i))
