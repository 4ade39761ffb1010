-- What is written are the elements so far, escaped.
use Rattle.std.proofs.Common.{take}
use Rattle.std.specs.Fmt.{HasWritten, IsPlainFormatter}
use Rattle.std.specs.List.{flat_map}
use Rattle.std.specs.Str.{encode_utf8_all}
use Rattle.cedar_expressions.specs.Escapes.{escaped_elem}
use Rattle.cedar_expressions.proofs.escape.EscapedPatternDisplay.fmt.Given as goal

abbrev pub invariant-loop-elem : goal.invariant-loop-elem
invariant-loop-elem g l =
    IsPlainFormatter l.fn.f → HasWritten g.W.Write.write_str_gives l.fn.f (flat_map (λ p. encode_utf8_all (escaped_elem p)) (take l.elem-index l.elem-items)) l.f
