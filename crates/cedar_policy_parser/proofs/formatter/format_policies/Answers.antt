use Rattle.std.proofs.Common.{string_bytes}
use Rattle.cedar_conversion.specs.strict.Table.{table_of}
use Rattle.cedar_policy_parser.proofs.meaning.Formatting.{no_lines, mean_the_same, stay, once_more}
use Rattle.cedar_policy_parser.proofs.formatter.format_policies.Goals as goal

pub returns-in_err-tree-clause-formats : goal.returns-in_err-tree-clause-formats
returns-in_err-tree-clause-formats c = no_lines (table_of c.args.styles.now) c.args.text.now c.from_residual.result c.in_err-tree.field-0.0 c.from_residual.ensures.1 c.in_err-tree.ensures.only

pub returns-clause-meaning : goal.returns-clause-meaning
returns-clause-meaning c =
    let meant = c.in_ok-tree.ensures.meant in
    mean_the_same (table_of c.args.styles.now) c.args.text.now (string_bytes c.in_ok-lines.lines) c.in_ok-tree.tree meant.0 c.printed_texts.ensures.lines c.in_ok-tree.ensures.found c.in_ok-tree.ensures.one meant.1 c.in_ok-lines.ensures

pub returns-clause-stays : goal.returns-clause-stays
returns-clause-stays c = stay c.args.text.now (string_bytes c.in_ok-lines.lines) c.in_ok-tree.tree c.printed_texts.ensures.lines c.formatted_policies.ensures.stays c.in_ok-tree.ensures.found c.in_ok-lines.ensures

pub returns-clause-again : goal.returns-clause-again
returns-clause-again c = once_more (table_of c.args.styles.now) c.args.text.now (string_bytes c.in_ok-lines.lines) (returns-clause-stays c) (returns-clause-meaning c)
