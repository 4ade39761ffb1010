use Rattle.std.proofs.Common.{◌≡◌, ℕ, true, false, List, [], ◌∷◌, ◌++◌, Result, Ok, Err, OnOk, IfOk, refl, sym, ap, ◌∙◌, codes, append_assoc, append-nil, rules}
use Rattle.std.specs.Prelude.{◌==◌, if◌then◌else◌}
use Rattle.std.specs.Result.{is_ok}
use Rattle.std.specs.String.{string_bytes}
use Rattle.std.specs.Char.{IsScalar, encode_utf8}
use Rattle.std.specs.Str.{IsUtf8, chars, encode_utf8_all}
use Rattle.std.proofs.lemmas.Bool.{ne_eqb}
use Rattle.std.proofs.lemmas.List.Concat.{flat_map-append}
use Rattle.std.proofs.lemmas.Str.{chars-append, chars-nil, chars_past_char, encodes-append, IsUtf8-encode, IsUtf8-string_bytes}
use Rattle.cedar_expressions.specs.declared.atoms.PatternElem.{PatternElem}
use Rattle.cedar_expressions.specs.declared.atoms.PatternElem.TheVariants.{Char, Wildcard}
use Rattle.cedar_expressions.specs.Escapes.{escaped_text, escaped_scalar, escaped_chars, escaped_elem}
use Rattle.cedar_writer.proofs.pattern.push_elem.Goals as goal

-- a character more is escaped behind the others
one_more : (text : List ℕ) (c : ℕ) → IsUtf8 text → IsUtf8 (encode_utf8 c) → escaped_text (text ++ encode_utf8 c) ≡ escaped_text text ++ encode_utf8_all (escaped_scalar c)
one_more text c u v =
    let alone : chars (encode_utf8 c) ≡ c ∷ [] = chars_past_char (encode_utf8 c) [] c v (sym (append-nil (encode_utf8 c))) ∙ ap (λ cs. c ∷ cs) chars-nil in
    ap (λ cs. encode_utf8_all (escaped_chars cs)) (chars-append text (encode_utf8 c) u ∙ ap (λ cs. chars text ++ cs) alone)
    ∙ ap encode_utf8_all (flat_map-append escaped_scalar (chars text) (c ∷ []) ∙ ap (λ cs. escaped_chars (chars text) ++ cs) (append-nil (escaped_scalar c)))
    ∙ encodes-append (escaped_chars (chars text)) (escaped_scalar c)

star_on : {T E : Type 0} (r : Result T E) (out plain before star : List ℕ) (e : PatternElem) → OnOk r (out ≡ before ++ star) → OnOk r (plain ≡ []) → star ≡ encode_utf8_all (escaped_elem e) → IfOk r (λ done. out ++ escaped_text plain ≡ before ++ encode_utf8_all (escaped_elem e))
star_on (Ok x) out plain before star e p q s =
    ap (λ t. out ++ escaped_text t) q ∙ ap (λ cs. out ++ encode_utf8_all (escaped_chars cs)) chars-nil ∙ append-nil out ∙ p ∙ ap (λ t. before ++ t) s
star_on (Err x) out plain before star e p q s = tt

plain_on : {T E : Type 0} (r : Result T E) (out plain new : List ℕ) (c : ℕ) (e : PatternElem) → IsUtf8 plain → IsUtf8 (encode_utf8 c) → new ≡ (if is_ok r then plain ++ encode_utf8 c else plain)
    → e ≡ Char c → (c == 42) ≡ false → IfOk r (λ done. out ++ escaped_text new ≡ (out ++ escaped_text plain) ++ encode_utf8_all (escaped_elem e))
plain_on (Ok x) out plain new c e u v p is none =
    ap (λ t. out ++ escaped_text t) p ∙ ap (λ t. out ++ t) (one_more plain c u v) ∙ sym (append_assoc out (escaped_text plain) (encode_utf8_all (escaped_scalar c)))
    ∙ ap (λ cs. (out ++ escaped_text plain) ++ encode_utf8_all cs) (ap (λ b. if b then codes "\\*" else escaped_scalar c) (sym none) ∙ ap escaped_elem (sym is))
plain_on (Err x) out plain new c e u v p is none = tt

wildcard : codes "*" ≡ encode_utf8_all (codes "*")
unfolding encode_utf8
wildcard = refl

star : codes "\\*" ≡ encode_utf8_all (codes "\\*")
unfolding encode_utf8
star = refl

pub returns-in-Wildcard-clause-written : goal.returns-in-Wildcard-clause-written
returns-in-Wildcard-clause-written c =
    star_on c.push_star.result (string_bytes c.push_star.new.out) (string_bytes c.push_star.new.plain) (string_bytes c.args.out.now ++ escaped_text (string_bytes c.args.plain.now)) (codes "*") c.args.elem c.push_star.ensures.written
    c.push_star.ensures.plain (wildcard ∙ ap (λ e. encode_utf8_all (escaped_elem e)) (sym c.in-Wildcard.is))

pub returns-then-c-eq42-clause-written : goal.returns-then-c-eq42-clause-written
returns-then-c-eq42-clause-written c =
    let is : c.args.elem ≡ Char 42 = c.in-Char.is ∙ ap (λ x. Char x) c.if-c-eq42.true in
    star_on c.push_star-then-c-eq42.result (string_bytes c.push_star-then-c-eq42.new.out) (string_bytes c.push_star-then-c-eq42.new.plain) (string_bytes c.args.out.now ++ escaped_text (string_bytes c.args.plain.now)) (codes "\\*") c.args.elem c.push_star-then-c-eq42.ensures.written
    c.push_star-then-c-eq42.ensures.plain (star ∙ ap (λ e. encode_utf8_all (escaped_elem e)) (sym is))

pub returns-else-c-eq42-clause-written : goal.returns-else-c-eq42-clause-written
returns-else-c-eq42-clause-written c =
    let scalar : IsScalar c.in-Char.c = search rules in
    plain_on c.push.result (string_bytes c.args.out.now) (string_bytes c.args.plain.now) (string_bytes c.push.new.self) c.in-Char.c c.args.elem (IsUtf8-string_bytes c.args.plain.now) (IsUtf8-encode c.in-Char.c scalar) c.push.ensures.bytes c.in-Char.is (ne_eqb c.in-Char.c 42 c.if-c-eq42.false)
