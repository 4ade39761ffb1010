use Rattle.std.proofs.Common.{◌↔◌, length}
use denote.Text.{Utf8}
use denote.Shadow.{shadow}
use Rattle.cedar_command.specs.Request.{SpellsName}
use Rattle.cedar_command.proofs.request.is_name.Given as goal

-- the text spells a name exactly if what is left of it does
abbrev pub invariant-loop-part : goal.invariant-loop-part
invariant-loop-part l = shadow (Utf8 l.rest) × (SpellsName l.text ↔ SpellsName l.rest)

abbrev pub decreases-loop-part : goal.decreases-loop-part
decreases-loop-part l = length l.rest
