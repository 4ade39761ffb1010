use Rattle.std.proofs.Common.{[], ◌∷◌, ◌++◌, flat_map, append-nil, sym, ap, ◌∙◌, ◌≡◌, refl}
use Rattle.std.specs.Str.{chars}
use Rattle.std.proofs.lemmas.Grind.{put_two}
use Rattle.std.proofs.lemmas.Iterator.{YieldsList-from_chars}
use Rattle.std.proofs.lemmas.Iterator.Consumers.{YieldsList-end}
use Rattle.std.proofs.lemmas.List.Concat.{flat_map-append}
use Rattle.cedar_report.specs.Escapes.{escaped_char}
use Rattle.cedar_report.proofs.Writing.{same_escaped}
use Rattle.cedar_report.proofs.glyph.write_escaped.Goals as goal

pub returns : goal.returns
returns g c =
    let t = YieldsList-end (YieldsList-from_chars c.args.text.now c.utf8.text cc) c.loop-c.yielded _ c.loop-c.yielded_by _ _ c.in-None.is c.next.ensures.steps in
    λ plain ok. same_escaped g.W.Write.write_str_gives _ _ c.loop-c.yielded (chars c.args.text.now) t.0 (c.loop-c.invariant plain)

-- one character more is written
pub loop-c-preserved : goal.loop-c-preserved
loop-c-preserved g c =
    let more : flat_map escaped_char c.loop-c.yielded ++ escaped_char c.in-Some.c ≡ flat_map escaped_char (c.loop-c.yielded ++ c.in-Some.c ∷ []) =
    sym (flat_map-append escaped_char c.loop-c.yielded (c.in-Some.c ∷ []) ∙ ap (λ ys. flat_map escaped_char c.loop-c.yielded ++ ys) (append-nil (escaped_char c.in-Some.c))) in
    λ plain. put_two g.W.Write.write_str_gives _ _ _ _ _ _ (c.loop-c.invariant plain) (c.in_ok-write.ensures.writes (c.loop-c.invariant plain).plain refl) more
