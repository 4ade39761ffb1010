-- What is written are the texts so far, each behind a comma.
use Rattle.std.proofs.Common.{map, take}
use Rattle.std.specs.Fmt.{HasWritten, IsPlainFormatter}
use Rattle.cedar_expressions.specs.Shown.{each_behind_comma, string_text}
use Rattle.cedar_expressions.proofs.show.LaterTextsDisplay.fmt.Given as goal

abbrev pub invariant-loop-text : goal.invariant-loop-text
invariant-loop-text g l =
    IsPlainFormatter l.fn.f → HasWritten g.W.Write.write_str_gives l.fn.f (each_behind_comma (map string_text (take l.text-index l.text-items))) l.f
