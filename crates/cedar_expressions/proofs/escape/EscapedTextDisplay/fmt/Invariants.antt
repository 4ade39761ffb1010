-- What is written are the characters so far, escaped.
use Rattle.std.specs.Fmt.{HasWritten, IsPlainFormatter}
use Rattle.std.specs.Str.{encode_utf8_all}
use Rattle.cedar_expressions.specs.Escapes.{escaped_chars}
use Rattle.cedar_expressions.proofs.escape.EscapedTextDisplay.fmt.Given as goal

abbrev pub invariant-loop-c : goal.invariant-loop-c
invariant-loop-c g l =
    IsPlainFormatter l.fn.f → HasWritten g.W.Write.write_str_gives l.fn.f (encode_utf8_all (escaped_chars l.yielded)) l.f
