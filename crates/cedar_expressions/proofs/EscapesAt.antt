-- Escaped texts, a character more.
use Rattle.std.proofs.Common.{◌≡◌, ℕ, List, [], ◌∷◌, ◌++◌, map, refl, sym, ap, ◌∙◌, append-nil}
use Rattle.std.specs.List.{flat_map}
use Rattle.std.specs.Str.{encode_utf8_all}
use Rattle.std.proofs.lemmas.Str.{encodes-append}
use Rattle.std.proofs.lemmas.List.Concat.{flat_map-append}
use Rattle.cedar_expressions.specs.Escapes.{escaped_scalar, escaped_chars, escaped_elem, escaped_elems, escaped_pattern}
use Rattle.cedar_expressions.specs.declared.atoms.PatternElem.{PatternElem}

pub one_more : (ys : List ℕ) (x : ℕ) → encode_utf8_all (escaped_chars (ys ++ x ∷ [])) ≡ encode_utf8_all (escaped_chars ys) ++ encode_utf8_all (escaped_scalar x)
one_more ys x =
    ap encode_utf8_all (flat_map-append escaped_scalar ys (x ∷ []) ∙ ap (λ t. escaped_chars ys ++ t) (append-nil (escaped_scalar x)))
    ∙ encodes-append (escaped_chars ys) (escaped_scalar x)

-- a pattern element by element
pub pattern_bytes : (ps : List PatternElem) → flat_map (λ p. encode_utf8_all (escaped_elem p)) ps ≡ escaped_pattern ps
pattern_bytes [] = refl
pattern_bytes (p ∷ ps) =
    ap (λ t. encode_utf8_all (escaped_elem p) ++ t) (pattern_bytes ps) ∙ sym (encodes-append (escaped_elem p) (escaped_elems ps))

pub itself : (xs : List ℕ) → map (λ x. x) xs ≡ xs
itself [] = refl
itself (x ∷ xs) = ap (λ t. x ∷ t) (itself xs)
