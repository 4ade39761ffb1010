use Rattle.std.proofs.Common.{◌≡◌, sym, ◌∙◌, subst}
use Rattle.std.specs.String.{string_bytes}
use Rattle.cedar_conversion.specs.strict.Table.{table_of}
use Rattle.cedar_policy_store.specs.PlaceFree.{template_meaning}
use Rattle.cedar_syntax.specs.tokens.Signs.{sign_limit}
use Rattle.cedar_writer.specs.Spacing.{line_of}
use Rattle.cedar_writer.specs.WrittenPolicies.{policy_words}
use Rattle.cedar_writer.specs.WrittenTexts.{IsTextOfPolicy, HasNoPolicyText, written_parts}
use Rattle.cedar_writer.proofs.Refusals.{err_on}
use Rattle.cedar_writer.proofs.TextsMean.{line_written, policy_text_means, refused_policy}
use Rattle.cedar_writer.proofs.values.template_to_cedar.Goals as goal

pub returns-clause-line : goal.returns-clause-line
returns-clause-line c =
    c.into_string.ensures
    ∙ line_written c.new-out.result c.write_template.new.out (policy_words (table_of c.args.styles.now) (written_parts c.args.template.now))
    c.new-out.ensures.text c.new-out.ensures.edge c.in_ok-write_template.ensures.0

pub returns-clause-means : goal.returns-clause-means
returns-clause-means c =
    let table = table_of c.args.styles.now in
    let t = c.args.template.now in
    let line : string_bytes c.into_string.result ≡ line_of (policy_words table (written_parts t)) =
    c.into_string.ensures
    ∙ line_written c.new-out.result c.write_template.new.out (policy_words table (written_parts t)) c.new-out.ensures.text c.new-out.ensures.edge c.in_ok-write_template.ensures.0 in
    subst (IsTextOfPolicy table sign_limit (template_meaning t)) (sym line) (policy_text_means table sign_limit t c.in_ok-write_template.ensures.1)

pub returns-in_err-write_template-clause-refused : goal.returns-in_err-write_template-clause-refused
returns-in_err-write_template-clause-refused c =
    err_on c.from_residual.result c.in_err-write_template.field-0.0 (HasNoPolicyText (table_of c.args.styles.now) sign_limit (template_meaning c.args.template.now)) c.from_residual.ensures.1
    (refused_policy (table_of c.args.styles.now) c.args.template.now c.in_err-write_template.field-0.0 c.new-out.result c.write_template.new.out c.in_err-write_template.ensures)
