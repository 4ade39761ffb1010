use Rattle.cedar_conversion.specs.strict.Table.{table_of}
use Rattle.cedar_answers.proofs.Writable.{meant_is_written}
use Rattle.cedar_answers.proofs.written.set_text.Goals as goal

pub unreachable-requires : goal.unreachable-requires
unreachable-requires c =
    let here = c.in-Err-NotWritable in
    meant_is_written (table_of c.args.styles.now) c.requires.0 c.args.set.now here.field-0 here.field-0-0 c.requires.1 here.field-0-is here.ensures.refused
