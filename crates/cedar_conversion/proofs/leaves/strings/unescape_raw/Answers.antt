use Rattle.std.proofs.Common.{sym, ap, ◌∙◌, Ok}
use Rattle.cedar_conversion.proofs.Quoted.{text_expected}
use Rattle.cedar_conversion.proofs.leaves.strings.unescape_raw.Goals as goal

pub returns-then-is_plain : goal.returns-then-is_plain
returns-then-is_plain c = text_expected c.args.loc.now c.args.raw.now c.args.raw.now (rw c.as_str.ensures at (c.is_plain.ensures (cc))) ∙ ap Ok (sym c.in_ok-try_clone.ensures)
