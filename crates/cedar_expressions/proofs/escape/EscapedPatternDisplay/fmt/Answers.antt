use Rattle.std.proofs.Common.{ap, ◌∙◌}
use Rattle.std.proofs.Output.{has_written_of_eq}
use Rattle.std.proofs.lemmas.List.{take_all}
use Rattle.std.specs.List.{flat_map}
use Rattle.std.specs.Str.{encode_utf8_all}
use Rattle.cedar_expressions.specs.Escapes.{escaped_elem}
use Rattle.cedar_expressions.proofs.EscapesAt.{pattern_bytes}
use Rattle.cedar_expressions.proofs.escape.EscapedPatternDisplay.fmt.Goals as goal

pub returns-clause-writes : goal.returns-clause-writes
returns-clause-writes g c = λ plain ok.
    let all = take_all c.loop-elem.elem-index c.args.self.now.0.now c.loop-elem-test.false in
    has_written_of_eq g.W.Write.write_str_gives _ _ _ _ (ap (flat_map (λ p. encode_utf8_all (escaped_elem p))) all ∙ pattern_bytes c.args.self.now.0.now) (c.loop-elem.invariant plain)
