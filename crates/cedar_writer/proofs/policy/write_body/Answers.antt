use Rattle.std.proofs.Common.{◌++◌, codes, sym, ap, ◌∙◌, subst}
use Rattle.std.specs.Prelude.{◌==◌}
use Rattle.cedar_lexer.specs.declared.token.TokenKind.TheVariants as kind
use Rattle.cedar_expressions.specs.Meaning.{unplaced}
use Rattle.cedar_expressions.specs.Slots.{slots_in}
use Rattle.cedar_conversion.specs.strict.Table.{table_of}
use Rattle.cedar_syntax.specs.tokens.Signs.{sign_limit}
use Rattle.cedar_writer.specs.WrittenWords.{alone}
use Rattle.cedar_writer.specs.Writing.{words}
use Rattle.cedar_writer.specs.machines.Outputs.{Adds}
use Rattle.cedar_writer.specs.machines.Policies.{IsFreeBody, IsUnwritableBody, Writes}
use Rattle.cedar_writer.proofs.PolicyParts.{bare_free, bare_words, slot_found, some_slots, no_slots, body_unwritten}
use Rattle.cedar_writer.proofs.Refusals.{handed_on}
use Rattle.cedar_writer.proofs.WordsAdded.{then}
use Rattle.cedar_writer.proofs.policy.write_body.Goals as goal

pub returns-then-not-is_empty : goal.returns-then-not-is_empty
returns-then-not-is_empty c =
    slot_found (table_of c.args.styles.now) sign_limit c.args.expr.now (some_slots c.in_ok-slots.field-0.items (slots_in c.args.expr.now) (ap (λ n. n == 0) (sym c.in_ok-slots.field-0.ok.0) ∙ sym c.is_empty.ensures ∙ c.if-not-is_empty.true) c.in_ok-slots.ensures)

pub returns-in_err-write_expr : goal.returns-in_err-write_expr
returns-in_err-write_expr c =
    handed_on c.from_residual-in_err-write_expr.result c.in_err-write_expr.field-0.0
    (λ r. Writes (alone kind.OpenBrace (codes "{") ++ words (table_of c.args.styles.now) (unplaced c.args.expr.now) ++ alone kind.CloseBrace (codes "}")) (IsFreeBody (table_of c.args.styles.now) sign_limit (unplaced c.args.expr.now)) (IsUnwritableBody (table_of c.args.styles.now) sign_limit (unplaced c.args.expr.now)) r c.args.out.now c.write_expr.new.out)
    c.from_residual-in_err-write_expr.ensures.1
    (body_unwritten (table_of c.args.styles.now) c.args.expr.now c.in_err-write_expr.field-0.0 (alone kind.OpenBrace (codes "{") ++ words (table_of c.args.styles.now) (unplaced c.args.expr.now) ++ alone kind.CloseBrace (codes "}")) c.word.new.self c.write_expr.new.out c.args.out.now c.write_expr.new.out
    (no_slots c.in_ok-slots.field-0.items (slots_in c.args.expr.now) (ap (λ n. n == 0) (sym c.in_ok-slots.field-0.ok.0) ∙ sym c.is_empty.ensures ∙ c.if-not-is_empty.false) c.in_ok-slots.ensures)
    c.in_err-write_expr.ensures)

pub returns : goal.returns
returns c =
    let none = no_slots c.in_ok-slots.field-0.items (slots_in c.args.expr.now) (ap (λ n. n == 0) (sym c.in_ok-slots.field-0.ok.0) ∙ sym c.is_empty.ensures ∙ c.if-not-is_empty.false) c.in_ok-slots.ensures in (
      then (then c.in_ok-word.ensures (subst (Adds c.word.new.self c.write_expr.new.out) (bare_words (table_of c.args.styles.now) c.args.expr.now none) c.in_ok-write_expr.ensures.0)) c.in_ok-word-2.ensures,
      bare_free (table_of c.args.styles.now) sign_limit c.args.expr.now none c.in_ok-write_expr.ensures.1,
    )
