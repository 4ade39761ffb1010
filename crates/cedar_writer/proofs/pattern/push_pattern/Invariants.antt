-- The parts so far were written, but for the characters behind the last star; and each character
-- among them is one.
use Rattle.std.proofs.Common.{◌≡◌, ◌++◌, take}
use Rattle.std.specs.String.{string_bytes}
use Rattle.cedar_expressions.specs.Escapes.{escaped_text, escaped_pattern}
use Rattle.cedar_writer.specs.Writable.{IsWritablePattern}
use Rattle.cedar_writer.proofs.pattern.push_pattern.Given as goal

abbrev pub invariant-loop-elem : goal.invariant-loop-elem
invariant-loop-elem l =
    (string_bytes l.out ++ escaped_text (string_bytes l.plain)
    ≡ string_bytes l.fn.out ++ escaped_pattern (take l.elem-index l.elems))
    × IsWritablePattern (take l.elem-index l.elems)
