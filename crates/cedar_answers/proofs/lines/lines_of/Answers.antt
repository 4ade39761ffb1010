use Rattle.cedar_conversion.specs.strict.Table.{table_of}
use Rattle.cedar_answers.proofs.Reading.{lines_meant, lines_for, lines_only}
use Rattle.cedar_answers.proofs.lines.lines_of.Goals as goal

pub returns-clause-meant : goal.returns-clause-meant
returns-clause-meant c = lines_meant (table_of c.args.styles.now) c.args.text.now c.format_policies.result c.format_policies.ensures.meaning

pub returns-clause-lines : goal.returns-clause-lines
returns-clause-lines c =
    lines_for (table_of c.args.styles.now) c.args.text.now c.format_policies.result c.format_policies.ensures.formats c.format_policies.ensures.meaning c.format_policies.ensures.stays

pub returns-clause-only : goal.returns-clause-only
returns-clause-only c = lines_only (table_of c.args.styles.now) c.args.text.now c.format_policies.result c.format_policies.ensures.formats

pub returns-clause-refused : goal.returns-clause-refused
returns-clause-refused c = c.format_policies.ensures.refused
