-- A text, its tree, and what both say of its meaning.
use Rattle.std.specs.Result.{result_and}
use Rattle.std.proofs.Common.{◌≡◌, ℕ, List, Result, Ok, Err, IfOk, IfErr, IsErrAnd, sym, ap, ◌∙◌}
use Rattle.cedar_lexer.specs.Token.{Lexeme}
use Rattle.cedar_expressions.specs.Value.{Value}
use Rattle.cedar_syntax.specs.declared.cst.Expr.{Expr}
use Rattle.cedar_syntax.specs.tokens.Signs.{sign_limit}
use Rattle.cedar_syntax.specs.declared.err.faults.Failure.{Failure}
use Rattle.cedar_syntax.specs.declared.err.faults.Failure.TheVariants.{Memory, Errors}
use Rattle.cedar_syntax.specs.trees.Located.{Located}
use Rattle.cedar_syntax.specs.trees.Forms.{located, expr_form}
use Rattle.cedar_syntax.specs.faults.ParseErrors.{IsMemory}
use Rattle.cedar_grammar.specs.grammar.Grammar.{IsTreeOf}
use Rattle.cedar_grammar.specs.grammar.LooseExpressions.{ReadsExpr}
use Rattle.cedar_grammar.specs.grammar.Place.{placed}
use Rattle.cedar_syntax.specs.trees.Trees.{Cell}
use Rattle.cedar_grammar.proofs.ExpressionTokens.{expr_some}
use Rattle.cedar_grammar.proofs.WordPlaces.{start_is}
use Rattle.cedar_conversion.specs.outcome.Conversion.{Converts, value_outcome}
use Rattle.cedar_conversion.specs.strict.Extensions.{Extensions}
use Rattle.cedar_policy_parser.specs.faults.Refused.{TellsTree}
use Rattle.cedar_conversion.specs.outcome.Seen.{Gives}
use Rattle.cedar_conversion.specs.strict.Strict.{Means, expression}
use Rattle.cedar_command.specs.declared.request.Command.TheVariants as command
use Rattle.cedar_command.specs.Ends.{IsMeant}

-- the law of the conversion that tokens which mean something have a tree that is converted to it
abbrev pub Complete : Type 0
Complete = (table : Extensions) (src : List ℕ) (ts : List Lexeme) (w : Value) → Means table sign_limit expression ts w
    → (x : Expr) × ReadsExpr src ts x × Converts table (located expr_form (placed src ts x)) w

-- the law of the conversion that a tree which is converted has tokens that mean the value
abbrev pub Sound : Type 0
Sound = (table : Extensions) (src : List ℕ) (ts : List Lexeme) (x : Expr) (w : Value) → ReadsExpr src ts x
    → Converts table (located expr_form (placed src ts x)) w → Means table sign_limit expression ts w

-- a text is meant whose tree is converted
pub meant_by : (table : Extensions) → Sound → (src : List ℕ) (y : Cell Expr) (w : Value) → IsTreeOf ReadsExpr src y → Converts table (located expr_form y) w
    → IsMeant command.Expression table src
meant_by table sound src y w g converted =
    let x = g.stands.tree in
    let r = g.stands.reads in
    let same : y ≡ placed src g.tokens x = g.stands.is ∙ start_is src g.tokens x (expr_some r) in (
      g.tokens,
      w,
      g.cut,
      sound table src g.tokens x w r (sym (ap (λ n. value_outcome table (located expr_form n)) same) ∙ converted),
    )

-- where a text is meant, what reads only its tree reads it
pub read_only : {R : Cell Expr → Type 0} (table : Extensions) → Complete → (src : List ℕ) (only : (y : Cell Expr) → IsTreeOf ReadsExpr src y → R y) → IsMeant command.Expression table src
    → (y : Cell Expr) × (w : Value) × Converts table (located expr_form y) w × R y
read_only table complete src only (ts, w, cut, means) =
    let d = complete table src ts w means in
    let x = d.0 in (
      placed src ts x,
      w,
      d.2,
      only (placed src ts x) (record {
        tokens = ts;
        cut = cut;
        stands = record { tree = x; reads = d.1; is = sym (start_is src ts x (expr_some d.1)) };
      }),
    )

pub refused_for_memory : (table : Extensions) (f : Failure) (n o : Cell Expr) (w : Value) → n ≡ o → TellsTree table f n → Converts table (located expr_form o) w → IsMemory f
refused_for_memory table (Memory e) n o w same r k = tt
refused_for_memory table (Errors es) n o w same r k = let no = sym r ∙ ap (λ t. value_outcome table (located expr_form t)) same ∙ k in cc

pub err_on : {E F : Type 0} (r : Result E F) (f : F) (Q : F → Type 0) → IsErrAnd r (λ e. e ≡ f) → Q f → IfErr r Q
err_on (Ok e) f Q is q = tt
err_on (Err e) f Q is q = rw is q

-- what a conversion's answer says once its value is let go
pub converted : {X U : Type 0} (meaning : X → Value) (answer : Result X Failure) (done : Result U Failure) (nothing : U) (table : Extensions) (tree : Located)
    → Gives meaning answer (value_outcome table tree) → done ≡ result_and answer (Ok nothing) → IfOk done (λ none. (w : Value) × Converts table tree w)
converted meaning (Ok x) done nothing table tree gives is = rw is (meaning x, gives)
converted meaning (Err f) done nothing table tree gives is = rw is tt

-- and what its refusal says
pub told : {X U : Type 0} (meaning : X → Value) (answer : Result X Failure) (done : Result U Failure) (nothing : U) (table : Extensions) (tree : Cell Expr)
    → Gives meaning answer (value_outcome table (located expr_form tree)) → done ≡ result_and answer (Ok nothing) → IfErr done (λ f. TellsTree table f tree)
told meaning (Ok x) done nothing table tree gives is = rw is tt
told meaning (Err f) done nothing table tree gives is = rw is gives
