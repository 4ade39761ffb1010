use Rattle.std.proofs.Common.{◌≡◌, ◌++◌, refl}
use Rattle.std.specs.Char.{encode_utf8}
use Rattle.std.proofs.lemmas.Str.{chars_past_char}
use Rattle.cedar_syntax.proofs.unescape.piece.first_char.Goals as goal

pub returns-clause-read : goal.returns-clause-read
returns-clause-read c =
    let stands : c.args.text.now ≡ encode_utf8 c.in_ok-first.first ++ c.as_str.result.now = cc (c.in_ok-first.ensures.steps.0) in
    rw (chars_past_char c.args.text.now c.as_str.result.now c.in_ok-first.first c.utf8.text stands) refl
