use Rattle.std.proofs.Common.{refl, sym, ap, ◌∙◌}
use Rattle.std.proofs.Output.{has_written_append, has_written_of_eq}
use Rattle.std.specs.Str.{chars, encode_utf8_all}
use Rattle.std.proofs.lemmas.Iterator.{YieldsList-from_chars}
use Rattle.std.proofs.lemmas.Iterator.Consumers.{YieldsList-end}
use Rattle.cedar_expressions.specs.Escapes.{escaped_scalar, escaped_chars}
use Rattle.cedar_expressions.proofs.EscapesAt.{one_more, itself}
use Rattle.cedar_expressions.proofs.escape.EscapedTextDisplay.fmt.Goals as goal

pub loop-c-preserved : goal.loop-c-preserved
loop-c-preserved g c = λ plain.
    let took = g.W.Write.write_str_gives in
    let before = c.loop-c.invariant plain in
    has_written_of_eq took _ _ _ _ (sym (one_more c.loop-c.yielded c.in-Some.c))
    (has_written_append took _ _ _ _ _ before (has_written_of_eq took _ _ _ _ (ap (λ x. encode_utf8_all (escaped_scalar x)) c.new.ensures) (c.in_ok-fmt.ensures.writes before.plain refl)))

pub returns-clause-writes : goal.returns-clause-writes
returns-clause-writes g c = λ plain ok.
    let took = g.W.Write.write_str_gives in
    let t = YieldsList-end (YieldsList-from_chars c.as_str.result.now c.as_str.utf8 cc) c.loop-c.yielded _ c.loop-c.yielded_by _ _ c.in-None.is c.next.ensures.steps in
    has_written_of_eq took _ _ _ _ (ap (λ ys. encode_utf8_all (escaped_chars ys)) (sym (itself c.loop-c.yielded) ∙ t.0) ∙ ap (λ text. encode_utf8_all (escaped_chars (chars text))) c.as_str.ensures) (c.loop-c.invariant plain)
