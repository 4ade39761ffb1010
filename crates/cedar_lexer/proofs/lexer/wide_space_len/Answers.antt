-- The first character is white space or not, and past ASCII no comment begins.
use Rattle.std.proofs.Common.{sym, ◌∙◌}
use Rattle.cedar_lexer.proofs.Steps.{space_here, dark_here}
use Rattle.cedar_lexer.proofs.lexer.wide_space_len.Goals as goal

pub returns-then-is_whitespace : goal.returns-then-is_whitespace
returns-then-is_whitespace c =
    rw c.len_utf8.ensures.len (space_here c.args.text.now _ c.in-Some.c (sym c.chars.ensures.rest ∙ c.in-Some.ensures.steps.0) (sym c.is_whitespace.ensures ∙ c.if-is_whitespace.true))

pub returns-else-is_whitespace : goal.returns-else-is_whitespace
returns-else-is_whitespace c =
    dark_here c.args.text.now _ c.in-Some.c c.requires (sym c.chars.ensures.rest ∙ c.in-Some.ensures.steps.0) (sym c.is_whitespace.ensures ∙ c.if-is_whitespace.false)
