-- Where tokens have at most one tree they mean what it is converted to, and nothing else.
use Rattle.std.proofs.Common.{◌≡◌, ℕ, List, [], sym, ap, ◌∙◌}
use Rattle.cedar_lexer.specs.Token.{Lexeme}
use Rattle.cedar_expressions.specs.Value.{Value}
use Rattle.cedar_syntax.specs.declared.cst.Expr.{Expr}
use Rattle.cedar_syntax.specs.tokens.Signs.{sign_limit}
use Rattle.cedar_syntax.specs.trees.Forms.{located, expr_form}
use Rattle.cedar_grammar.specs.grammar.LooseExpressions.{ReadsExpr}
use Rattle.cedar_grammar.specs.grammar.Place.{placed}
use Rattle.cedar_conversion.specs.outcome.Conversion.{Converts, value_outcome}
use Rattle.cedar_conversion.specs.strict.Extensions.{Extensions}
use Rattle.cedar_conversion.specs.strict.Strict.{Means, expression}
use Rattle.cedar_conversion.proofs.Inverted.{ok_is}
use Rattle.cedar_policy_parser.proofs.complete.Whole.{complete}

-- tokens have at most one tree, whatever the source
abbrev pub OneTree : Type 0
OneTree = (src : List ℕ) (ts : List Lexeme) (x y : Expr) → ReadsExpr src ts x → ReadsExpr src ts y → x ≡ y

pub same_value : OneTree → (e : Extensions) (src : List ℕ) (ts : List Lexeme) (x : Expr) (w : Value) → ReadsExpr src ts x → Means e sign_limit expression ts w → Converts e (located expr_form (placed src ts x)) w
same_value one_tree e src ts x w r h =
    let d = complete e src h in
    ap (λ t. value_outcome e (located expr_form (placed src ts t))) (one_tree src ts x d.tree r d.reads) ∙ d.gives (placed src ts d.tree).loc

pub one_value : OneTree → (e : Extensions) (ts : List Lexeme) (v w : Value) → Means e sign_limit expression ts v → Means e sign_limit expression ts w → v ≡ w
one_value one_tree e ts v w h k =
    let d = complete e [] h in
    ok_is (sym (d.gives (placed [] ts d.tree).loc) ∙ same_value one_tree e [] ts d.tree w d.reads k)
