use Rattle.std.proofs.Common.{string_bytes, sym, ap, ◌∙◌}
use Rattle.std.specs.Option.{option_copied}
use Rattle.cedar_policy_parser.proofs.meaning.Formatting.{empty_line}
use Rattle.cedar_policy_parser.proofs.formatter.add_line.Goals as goal

pub returns-in-None : goal.returns-in-None
returns-in-None c = empty_line c.args.node.now (string_bytes c.args.text.now) (string_bytes c.push_str.new.self) c.push_str.result (sym c.as_inner.ensures ∙ ap option_copied c.in-None.is) c.push_str.ensures.bytes
