use Rattle.std.proofs.Common.{◌≡◌, ℕ, List, [], ◌∷◌, ◌++◌, sym, ap, ◌∙◌, append_assoc}
use Rattle.std.specs.String.{string_bytes}
use Rattle.std.specs.Str.{encode_utf8_all}
use Rattle.std.proofs.lemmas.Iterator.{YieldsList-from_chars}
use Rattle.std.proofs.lemmas.Iterator.Consumers.{YieldsList-end}
use Rattle.cedar_expressions.specs.Escapes.{escaped_scalar, escaped_chars}
use Rattle.cedar_expressions.proofs.EscapesAt.{one_more, itself}
use Rattle.cedar_expressions.proofs.escape.push_escaped.Goals as goal

more : (first out next ys : List ℕ) (x : ℕ) → out ≡ first ++ encode_utf8_all (escaped_chars ys) → next ≡ out ++ encode_utf8_all (escaped_scalar x) → next ≡ first ++ encode_utf8_all (escaped_chars (ys ++ x ∷ []))
more first out next ys x e f =
    f ∙ ap (λ t. t ++ encode_utf8_all (escaped_scalar x)) e ∙ append_assoc first (encode_utf8_all (escaped_chars ys)) (encode_utf8_all (escaped_scalar x))
    ∙ ap (λ t. first ++ t) (sym (one_more ys x))

pub loop-c-preserved : goal.loop-c-preserved
loop-c-preserved c = more (string_bytes c.args.out.now) (string_bytes c.loop-c.out) (string_bytes c.push_char.new.out) c.loop-c.yielded c.in-Some.c c.loop-c.invariant c.in_ok-push_char.ensures

pub returns : goal.returns
returns c =
    let t = YieldsList-end (YieldsList-from_chars c.args.text.now c.utf8.text cc) c.loop-c.yielded _ c.loop-c.yielded_by _ _ c.in-None.is c.next.ensures.steps in
    c.loop-c.invariant ∙ ap (λ ys. string_bytes c.args.out.now ++ encode_utf8_all (escaped_chars ys)) (sym (itself c.loop-c.yielded) ∙ t.0)
