use Rattle.std.proofs.Common.{◌≡◌, ◌↔◌, ◌++◌, true, length}
use denote.Text.{Utf8}
use denote.Shadow.{shadow}
use Rattle.std.specs.List.{list_all}
use Rattle.cedar_expressions.specs.Path.{namespace_text, is_unreserved_identifier}
use Rattle.cedar_command.specs.Request.{SpellsName}
use Rattle.cedar_command.proofs.request.name_of.Given as goal

-- the text spells a name exactly if what is left of it does, and the identifiers so far stand
-- before that
abbrev pub invariant-loop-part : goal.invariant-loop-part
invariant-loop-part l =
    shadow (Utf8 l.rest) × (SpellsName l.text ↔ SpellsName l.rest)
    × (list_all is_unreserved_identifier l.path.items ≡ true)
    × (namespace_text l.path.items ++ l.rest ≡ l.text)

abbrev pub decreases-loop-part : goal.decreases-loop-part
decreases-loop-part l = length l.rest
