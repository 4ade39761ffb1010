-- A primary alone is an expression, in parentheses to any depth, and is found again.
use Rattle.std.proofs.Common.{◌≡◌, ℕ, List, [], ◌++◌, Option, None, Ok, Err, false, refl, ap, ◌∙◌}
use Rattle.cedar_lexer.specs.Token.{Lexeme}
use Rattle.cedar_lexer.specs.declared.token.TokenKind.TheVariants as kind
use Rattle.cedar_expressions.specs.Value.{Value}
use Rattle.cedar_syntax.specs.declared.loc.Loc.{Loc}
use Rattle.cedar_syntax.specs.declared.cst.Expr.{Expr}
use Rattle.cedar_syntax.specs.declared.cst.Primary.{Primary}
use Rattle.cedar_syntax.specs.declared.cst.Primary as P
use Rattle.cedar_syntax.specs.trees.Forms.{located, expr_form, primary_form}
use Rattle.cedar_syntax.specs.trees.Located.{Located, at}
use Rattle.cedar_grammar.specs.grammar.LooseExpressions as l
use Rattle.cedar_grammar.specs.grammar.LooseExpressions.{ReadsExpr, ReadsMember, ReadsPrimary, lone_expr}
use Rattle.cedar_grammar.specs.grammar.Place.{placed}
use Rattle.cedar_syntax.specs.tokens.Tokens.{Spot, one}
use Rattle.cedar_syntax.specs.trees.Trees.{add_of, and_of, common_of, member_of, mult_of, or_of, unary_of}
use Rattle.cedar_conversion.specs.outcome.Conversion.{expression_at, outcome, tree_place, value_outcome}
use Rattle.cedar_conversion.specs.strict.Extensions.{Extensions}
use Rattle.cedar_conversion.specs.outcome.Held.{as_expression}
use Rattle.cedar_conversion.specs.outcome.Outcome.{Outcome, next}
use Rattle.cedar_policy_conversion.specs.References.{lone, lone_form}
use Rattle.cedar_policy_conversion.specs.Scope.{is_made_by_is}
use Rattle.cedar_policy_parser.proofs.Made.{gives_paren}
use Rattle.cedar_policy_parser.proofs.MadeLones as lones
use Rattle.cedar_policy_parser.proofs.complete.Lone.{alone_gives, alone_reads, expr_reads}
use Rattle.cedar_policy_parser.proofs.sound.Ifs.{lone_given}

-- an expression that is a primary alone
abbrev pub tree_of : List ℕ → List Lexeme → Primary → Expr
tree_of src ts x = lone_expr src ts (member_of (placed src ts x) [])

-- it is found through each level
pub lone_tree : (src : List ℕ) (ts : List Lexeme) (x : Primary) (p : Option Loc) → lone (at p (expr_form (tree_of src ts x))) ≡ lone (located primary_form (placed src ts x))
unfolding lone_form
lone_tree src ts x p =
    let m = placed src ts (member_of (placed src ts x) []) in
    let u = placed src ts (unary_of None m) in
    let f = placed src ts (mult_of u []) in
    let t = placed src ts (add_of f []) in
    let r = placed src ts (common_of t []) in
    let c = placed src ts (and_of r []) in
    let d = placed src ts (or_of c []) in
    lones.lone_only p d ∙ lones.lone_or d.loc c [] ∙ lones.lone_and c.loc r [] ∙ lones.lone_common r.loc t [] ∙ lones.lone_add t.loc f [] ∙ lones.lone_mult f.loc u [] ∙ lones.lone_unary u.loc None m ∙ lones.lone_member m.loc (placed src ts x) []

-- and so it is while it is converted
tree_given : (e : Extensions) (src : List ℕ) (ts : List Lexeme) (x : Primary) (p : Option Loc) → outcome e (at p (expr_form (tree_of src ts x))) ≡ outcome e (located primary_form (placed src ts x))
tree_given e src ts x p = lone_given e p src ts (member_of (placed src ts x) []) ∙ alone_gives e src ts (placed src ts (member_of (placed src ts x) [])).loc x

-- what an expression refers to, wherever it stands; `is` doesn't make it
pub record LoneAs {X : Type 0} (e : Extensions) (src : List ℕ) (ts : List Lexeme) (wanted : Located → Outcome X) (x : X) : Type 0 where
  pub tree : Expr
  pub reads : ReadsExpr src ts tree
  pub gives : (p : Option Loc) → next (lone (at p (expr_form tree))) wanted ≡ Ok x
  pub plain : (p : Option Loc) → is_made_by_is (value_outcome e (at p (expr_form tree))) ≡ false

pub alone_as : {X : Type 0} (e : Extensions) (src : List ℕ) (ts : List Lexeme) (wanted : Located → Outcome X) (x : X) (y : Primary) → ReadsPrimary src ts y → lone (located primary_form (placed src ts y)) ≡ Ok (located primary_form (placed src ts y))
    → wanted (located primary_form (placed src ts y)) ≡ Ok x → is_made_by_is (next (outcome e (located primary_form (placed src ts y))) as_expression) ≡ false → LoneAs e src ts wanted x
alone_as e src ts wanted x y r found h plain = record {
  tree = tree_of src ts y;
  reads = expr_reads src ts (member_of (placed src ts y) []) (alone_reads src ts y r);
  gives = λ p. ap (λ o. next o wanted) (lone_tree src ts y p ∙ found) ∙ h;
  plain = λ p. ap (λ o. is_made_by_is (next o as_expression)) (tree_given e src ts y p) ∙ plain;
}

inner_plain : (p : Option Loc) (o : Outcome Value) → is_made_by_is o ≡ false → is_made_by_is (next (next o (expression_at p)) as_expression) ≡ false
inner_plain p (Ok x) h = h
inner_plain p (Err fs) h = refl

pub in_parentheses : {X : Type 0} (e : Extensions) (src : List ℕ) {ts : List Lexeme} (wanted : Located → Outcome X) (x : X) (a b : Spot) → LoneAs e src ts wanted x → LoneAs e src (one kind.OpenParen a ++ ts ++ one kind.CloseParen b) wanted x
in_parentheses e src {ts = ts} wanted x a b d =
    let all = one kind.OpenParen a ++ ts ++ one kind.CloseParen b in
    let y = P.Expr (placed src ts d.tree) in
    record {
      tree = tree_of src all y;
      reads = expr_reads src all (member_of (placed src all y) []) (alone_reads src all y (l.paren a b d.reads));
      gives = λ p. ap (λ o. next o wanted) (lone_tree src all y p ∙ lones.lone_paren (placed src all y).loc (placed src ts d.tree)) ∙ d.gives (placed src ts d.tree).loc;
      plain = λ p. ap (λ o. is_made_by_is (next o as_expression)) (tree_given e src all y p ∙ gives_paren e (placed src all y).loc (placed src ts d.tree))
          ∙ inner_plain (tree_place (located expr_form (placed src ts d.tree))) (value_outcome e (located expr_form (placed src ts d.tree))) (d.plain (placed src ts d.tree).loc);
    }
