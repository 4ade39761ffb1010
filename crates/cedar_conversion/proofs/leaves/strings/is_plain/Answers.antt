use Rattle.std.proofs.Common.{sym, ◌∙◌}
use Rattle.cedar_conversion.proofs.PlainText.{plain_is_itself}
use Rattle.cedar_conversion.proofs.leaves.strings.is_plain.Goals as goal

pub returns : goal.returns
returns c h = plain_is_itself c.args.raw.now c.utf8.raw (rw c.as_bytes.ensures.value at (sym c.all_plain.ensures ∙ h))
