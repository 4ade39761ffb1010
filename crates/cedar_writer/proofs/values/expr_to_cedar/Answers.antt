use Rattle.std.proofs.Common.{◌≡◌, sym, ◌∙◌, subst}
use Rattle.std.specs.String.{string_bytes}
use Rattle.cedar_expressions.specs.Meaning.{expr_meaning}
use Rattle.cedar_conversion.specs.strict.Table.{table_of}
use Rattle.cedar_syntax.specs.tokens.Signs.{sign_limit}
use Rattle.cedar_writer.specs.Spacing.{line_of}
use Rattle.cedar_writer.specs.WrittenTexts.{IsTextOf, HasNoText}
use Rattle.cedar_writer.specs.Writing.{words}
use Rattle.cedar_writer.proofs.Refusals.{err_on}
use Rattle.cedar_writer.proofs.TextsMean.{line_written, text_means, refused_text}
use Rattle.cedar_writer.proofs.values.expr_to_cedar.Goals as goal

pub returns-clause-line : goal.returns-clause-line
returns-clause-line c =
    c.into_string.ensures
    ∙ line_written c.new-out.result c.write_expr.new.out (words (table_of c.args.styles.now) (expr_meaning c.args.expr.now))
    c.new-out.ensures.text c.new-out.ensures.edge c.in_ok-write_expr.ensures.0

pub returns-clause-means : goal.returns-clause-means
returns-clause-means c =
    let table = table_of c.args.styles.now in
    let value = expr_meaning c.args.expr.now in
    let line : string_bytes c.into_string.result ≡ line_of (words table value) =
    c.into_string.ensures
    ∙ line_written c.new-out.result c.write_expr.new.out (words table value) c.new-out.ensures.text c.new-out.ensures.edge c.in_ok-write_expr.ensures.0 in
    subst (IsTextOf table sign_limit value) (sym line) (text_means table sign_limit value c.in_ok-write_expr.ensures.1)

pub returns-in_err-write_expr-clause-refused : goal.returns-in_err-write_expr-clause-refused
returns-in_err-write_expr-clause-refused c =
    err_on c.from_residual.result c.in_err-write_expr.field-0.0 (HasNoText (table_of c.args.styles.now) sign_limit (expr_meaning c.args.expr.now)) c.from_residual.ensures.1
    (refused_text (table_of c.args.styles.now) (expr_meaning c.args.expr.now) c.in_err-write_expr.field-0.0 c.new-out.result c.write_expr.new.out c.in_err-write_expr.ensures)
