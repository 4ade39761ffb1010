use Rattle.std.proofs.Common.{◌≡◌, [], ap, sym, ◌∙◌, subst}
use Rattle.std.specs.String.{string_bytes}
use Rattle.std.specs.Vec.Iter.{into_iter_items}
use Rattle.cedar_conversion.specs.strict.Table.{table_of}
use Rattle.cedar_syntax.specs.tokens.Signs.{sign_limit}
use Rattle.cedar_writer.specs.declared.refusal.NotWritten.TheVariants.{Memory}
use Rattle.cedar_writer.specs.Spacing.{ended}
use Rattle.cedar_writer.specs.WrittenPolicies.{policies_words}
use Rattle.cedar_writer.specs.WrittenTexts.{templates_lent, all_parts, lines_written, IsTextOfAll, HasNoTextOfSet}
use Rattle.cedar_writer.proofs.Refusals.{err_on}
use Rattle.cedar_writer.proofs.TextsMean.{line_written, set_text_means, refused_set}
use Rattle.cedar_writer.proofs.values.policyset_to_cedar.Goals as goal

pub returns-clause-means : goal.returns-clause-means
returns-clause-means c =
    let table = table_of c.args.styles.now in
    let all = into_iter_items c.in_ok-policies.policies in
    let ts = templates_lent all in
    let lines : string_bytes c.in_ok-into_lines.field-0 ≡ lines_written table ts =
    c.in_ok-into_lines.ensures
    ∙ ap ended (line_written c.new-out.result c.write_policies.new.out (policies_words table (all_parts ts) []) c.new-out.ensures.text c.new-out.ensures.edge c.in_ok-write_policies.ensures.0) in
    (all, c.in_ok-policies.ensures, lines, subst (IsTextOfAll table sign_limit ts) (sym lines) (set_text_means table sign_limit ts c.in_ok-write_policies.ensures.1))

pub returns-in_err-policies-clause-refused : goal.returns-in_err-policies-clause-refused
returns-in_err-policies-clause-refused c =
    err_on c.from_residual.result Memory (HasNoTextOfSet (table_of c.args.styles.now) sign_limit c.args.set.now) c.from_residual.ensures.1 tt

pub returns-in_err-write_policies-clause-refused : goal.returns-in_err-write_policies-clause-refused
returns-in_err-write_policies-clause-refused c =
    let table = table_of c.args.styles.now in
    let why = c.in_err-write_policies.field-0.0 in
    err_on c.from_residual-in_err-write_policies.result why (HasNoTextOfSet table sign_limit c.args.set.now) c.from_residual-in_err-write_policies.ensures.1
    (refused_set table c.args.set.now (into_iter_items c.in_ok-policies.policies) why c.new-out.result c.write_policies.new.out c.in_ok-policies.ensures c.in_err-write_policies.ensures)

pub returns-in_err-into_lines-clause-refused : goal.returns-in_err-into_lines-clause-refused
returns-in_err-into_lines-clause-refused c =
    err_on c.from_residual-in_err-into_lines.result Memory (HasNoTextOfSet (table_of c.args.styles.now) sign_limit c.args.set.now) c.from_residual-in_err-into_lines.ensures.1 tt
