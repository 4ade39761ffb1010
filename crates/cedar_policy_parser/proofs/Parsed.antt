-- The tree of a text, what it is converted to, and what its tokens mean.
use Rattle.std.proofs.Common.{◌≡◌, ℕ, List, [], ◌∷◌, Result, Ok, Err, IfOk, IfErr, IsErrAnd, MatchResult, inr, refl, sym, ap, ◌∙◌, subst}
use Rattle.cedar_lexer.specs.Cut.{Cuts}
use Rattle.cedar_lexer.specs.Token.{Lexeme}
use Rattle.cedar_expressions.specs.Value.{Value}
use Rattle.cedar_syntax.specs.declared.cst.Expr.{Expr}
use Rattle.cedar_syntax.specs.tokens.Signs.{sign_limit}
use Rattle.cedar_syntax.specs.declared.err.faults.Failure.{Failure}
use Rattle.cedar_syntax.specs.declared.err.faults.Failure.TheVariants.{Memory, Errors}
use Rattle.cedar_syntax.specs.trees.Forms.{located, expr_form}
use Rattle.cedar_syntax.specs.trees.Located.{at}
use Rattle.cedar_syntax.specs.faults.ParseErrors.{IsMemory}
use Rattle.cedar_grammar.specs.grammar.Grammar.{IsTreeOf}
use Rattle.cedar_grammar.specs.grammar.LooseExpressions.{ReadsExpr}
use Rattle.cedar_grammar.specs.grammar.Place.{placed_or_start}
use Rattle.cedar_syntax.specs.trees.Trees.{Cell}
use Rattle.cedar_conversion.specs.outcome.Conversion.{Converts, value_outcome}
use Rattle.cedar_conversion.specs.strict.Extensions.{Extensions}
use Rattle.cedar_conversion.specs.outcome.Outcome.{Outcome}
use Rattle.cedar_policy_parser.specs.faults.Refused.{RefusesText}
use Rattle.cedar_conversion.specs.outcome.Seen.{Gives, Refuses}
use Rattle.cedar_conversion.specs.strict.Strict as m
use Rattle.cedar_conversion.specs.strict.Strict.{Means}
use Rattle.cedar_conversion.proofs.Inverted.{ok_is}
use Rattle.cedar_policy_parser.proofs.complete.Reads.{ExprRead}
use Rattle.cedar_policy_parser.proofs.complete.Whole.{complete}
use Rattle.cedar_policy_parser.proofs.sound.Whole.{sound_value}

-- an error that `?` passes on
pub passed_on : {T : Type 0} (r : Result T Failure) (f : Failure) (P : T → Type 0) (Q : Failure → Type 0) → IsErrAnd r (λ y. y ≡ f) → Q f → MatchResult r P Q
passed_on (Ok x) f P Q is q = absurd is
passed_on (Err y) f P Q is q = subst Q (sym is) q

-- the node of a whole text is its tree at some place
at_start : (src : List ℕ) (ts : List Lexeme) (x : Expr) → located expr_form (placed_or_start src ts x) ≡ at (placed_or_start src ts x).loc (expr_form x)
at_start src [] x = refl
at_start src (t ∷ ts) x = refl

-- a tree that is converted to a value is that of tokens which mean it
tree_meant : (e : Extensions) (src : List ℕ) (n : Cell Expr) (w : Value) → (g : IsTreeOf ReadsExpr src n) → Converts e (located expr_form n) w → Means e sign_limit m.expression g.tokens w
tree_meant e src n w g h =
    let ts = g.tokens in
    let x = g.stands.tree in
    let there = ap (λ y. value_outcome e (located expr_form y)) g.stands.is ∙ ap (λ t. value_outcome e t) (at_start src ts x) in
    sound_value e (placed_or_start src ts x).loc w g.stands.reads (sym there ∙ h)

-- tokens that mean something have such a tree
pub record Found (e : Extensions) (src : List ℕ) (w : Value) : Type 0 where
  pub tree : Cell Expr
  pub stands : IsTreeOf ReadsExpr src tree
  pub gives : Converts e (located expr_form tree) w

pub tree_found : (e : Extensions) (src : List ℕ) (ts : List Lexeme) (w : Value) → Cuts src ts → Means e sign_limit m.expression ts w → Found e src w
tree_found e src ts w cut h =
    let d : ExprRead e src ts w = complete e src h in
    record {
      tree = placed_or_start src ts d.tree;
      stands = record { tokens = ts; cut = cut; stands = record { tree = d.tree; reads = d.reads; is = refl } };
      gives = ap (λ t. value_outcome e t) (at_start src ts d.tree) ∙ d.gives (placed_or_start src ts d.tree).loc;
    }

-- ---- a text that is read, then converted

pub read_value : {E : Type 0} (e : Extensions) (meaning : E → Value) (src : List ℕ) (n : Cell Expr) (r : Result E Failure) → IsTreeOf ReadsExpr src n → Gives meaning r (value_outcome e (located expr_form n))
    → IfOk r (λ x. (ts : List Lexeme) × Cuts src ts × Means e sign_limit m.expression ts (meaning x))
read_value e meaning src n (Ok x) g h = (g.tokens, g.cut, tree_meant e src n (meaning x) g h)
read_value e meaning src n (Err f) g h = tt

-- an outcome that gives a value is refused for want of memory alone
memory_alone : (f : Failure) (o : Outcome Value) (w : Value) → o ≡ Ok w → Refuses f o → IsMemory f
memory_alone (Memory e) o w h k = tt
memory_alone (Errors es) o w h k = let no = sym h ∙ k in cc

pub read_only : {E : Type 0} (e : Extensions) (meaning : E → Value) (n o : Cell Expr) (w : Value) (r : Result E Failure) → n ≡ o → Gives meaning r (value_outcome e (located expr_form n)) → Converts e (located expr_form o) w
    → MatchResult r (λ x. meaning x ≡ w) IsMemory
read_only e meaning n o w (Ok x) same h k = ok_is (sym h ∙ ap (λ t. value_outcome e (located expr_form t)) same ∙ k)
read_only e meaning n o w (Err f) same h k = memory_alone f _ w (ap (λ t. value_outcome e (located expr_form t)) same ∙ k) h

pub err_on : {E : Type 0} (r : Result E Failure) (f : Failure) (Q : Failure → Type 0) → IsErrAnd r (λ e. e ≡ f) → Q f → IfErr r Q
err_on (Ok e) f Q is q = tt
err_on (Err e) f Q is q = rw is q

pub told_tree : {E : Type 0} (e : Extensions) (meaning : E → Value) (src : List ℕ) (n : Cell Expr) (r : Result E Failure) → IsTreeOf ReadsExpr src n → Gives meaning r (value_outcome e (located expr_form n)) → IfErr r (λ f. RefusesText e f src)
told_tree e meaning src n (Ok x) g h = tt
told_tree e meaning src n (Err f) g h = inr (n, g, h)
