-- The readers of expressions, sums and primaries are the parsers of their rules.
use Rattle.std.proofs.Common.{ℕ, List}
use Rattle.cedar_lexer.specs.Token.{Lexeme}
use Rattle.cedar_syntax.specs.declared.cst.Expr.{Expr}
use Rattle.cedar_syntax.specs.declared.cst.Add.{Add}
use Rattle.cedar_syntax.specs.declared.cst.Primary.{Primary}
use Rattle.cedar_grammar.specs.grammar.LooseExpressions.{ReadsExpr, ReadsAdd}
use Rattle.cedar_syntax.specs.trees.Trees.{Cell}
use Rattle.cedar_grammar.specs.machines.Machine.{machine_of, RunsTo, IsParser, IsOutline, no_tree}
use Rattle.cedar_expression_machine.specs.declared.words.state.WordsState.{WordsState}
use Rattle.cedar_expression_machine.specs.declared.expression.state.Spanned.{Spanned}
use Rattle.cedar_expression_machine.specs.declared.expression.state.StartSymbol.TheVariants as form
use Rattle.cedar_expression_machine.specs.machines.Expressions.{expression_reader, sum_reader, primary_reader}
use Rattle.cedar_expression_machine.specs.machines.ExpressionShapes.{WordOutline, shape_of}
use Rattle.cedar_expression_machine.specs.machines.ExpressionOutline.{expression_outline}
use Rattle.cedar_expression_machine.specs.machines.Named.{NameOrEntity, IsWords}
use Rattle.cedar_grammar.proofs.machines.Readers.{answers_by}
use Rattle.cedar_expression_machine.proofs.expressions.Held.{Held}
use Rattle.cedar_expression_machine.proofs.expressions.Stepping.{Names}
use Rattle.cedar_expression_machine.proofs.expressions.complete.Complete.{expressions_complete, sums_complete, primaries_complete}
use Rattle.cedar_expression_machine.proofs.expressions.complete.Viable.{expressions_viable, sums_viable, primaries_viable}
use Rattle.cedar_expression_machine.proofs.expressions.sound.Begun.{Reading, reads}
use Rattle.cedar_expression_machine.proofs.expressions.sound.Whole.{AloneAt, alone_reads, expressions_sound, sums_sound, primaries_sound}

expression_reading : {W K : Type 0} (src : List ℕ) (names : Names) (n : WordOutline W K) (f : WordsState → W) (g : NameOrEntity → K) → Held src names n f g → IsWords (machine_of src names) → (ts : List Lexeme) (x : Spanned Expr) → Reading (ReadsExpr src) ts x → RunsTo (machine_of src (expression_reader names n f)) ts x
expression_reading src names n f g h i ts _ (reads {x = x} r) = expressions_complete src names n f g h i ts x r

pub expressions_parser : {W K : Type 0} (src : List ℕ) (names : Names) (n : WordOutline W K) (f : WordsState → W) (g : NameOrEntity → K) → Held src names n f g → IsWords (machine_of src names) → IsOutline src (expression_reader names n f) (expression_outline form.Expr n) (λ s. shape_of f s) no_tree →
    IsParser (machine_of src (expression_reader names n f)) (Reading (ReadsExpr src))
expressions_parser src names n f g h i o = record {
  complete = expression_reading src names n f g h i;
  sound = expressions_sound src names n f h;
  viable = expressions_viable src names n f g h i;
  answers = λ s t. answers_by o s t;
}

sum_reading : {W K : Type 0} (src : List ℕ) (names : Names) (n : WordOutline W K) (f : WordsState → W) (g : NameOrEntity → K) → Held src names n f g → IsWords (machine_of src names) → (ts : List Lexeme) (x : Spanned Add) → Reading (ReadsAdd src) ts x → RunsTo (machine_of src (sum_reader names n f)) ts x
sum_reading src names n f g h i ts _ (reads {x = x} r) = sums_complete src names n f g h i ts x r

pub sums_parser : {W K : Type 0} (src : List ℕ) (names : Names) (n : WordOutline W K) (f : WordsState → W) (g : NameOrEntity → K) → Held src names n f g → IsWords (machine_of src names) → IsOutline src (sum_reader names n f) (expression_outline form.Sum n) (λ s. shape_of f s) no_tree →
    IsParser (machine_of src (sum_reader names n f)) (Reading (ReadsAdd src))
sums_parser src names n f g h i o = record {
  complete = sum_reading src names n f g h i;
  sound = sums_sound src names n f h;
  viable = sums_viable src names n f g h i;
  answers = λ s t. answers_by o s t;
}

primary_reading : {W K : Type 0} (src : List ℕ) (names : Names) (n : WordOutline W K) (f : WordsState → W) (g : NameOrEntity → K) → Held src names n f g → IsWords (machine_of src names) → (ts : List Lexeme) (x : Cell Primary) → AloneAt src ts x → RunsTo (machine_of src (primary_reader names n f)) ts x
primary_reading src names n f g h i ts _ (alone_reads {x = x} r) = primaries_complete src names n f g h i ts x r

pub primaries_parser : {W K : Type 0} (src : List ℕ) (names : Names) (n : WordOutline W K) (f : WordsState → W) (g : NameOrEntity → K) → Held src names n f g → IsWords (machine_of src names) → IsOutline src (primary_reader names n f) (expression_outline form.Primary n) (λ s. shape_of f s) no_tree →
    IsParser (machine_of src (primary_reader names n f)) (AloneAt src)
primaries_parser src names n f g h i o = record {
  complete = primary_reading src names n f g h i;
  sound = primaries_sound src names n f h;
  viable = primaries_viable src names n f g h i;
  answers = λ s t. answers_by o s t;
}
