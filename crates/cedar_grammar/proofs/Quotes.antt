-- The text of a string without its quotes.
use Rattle.std.proofs.Common.{◌≡◌, ◌≢◌, ℕ, ◌-◌, List, [], ◌∷◌, ◌++◌, Option, Some, None, MatchOption, length, take, drop, sym, ap, ◌∙◌, arith, length-append}
use denote.Ref.{Bor}
use Rattle.std.proofs.Math.Seq.{take-append_seam}
use Rattle.cedar_lexer.specs.declared.token.TokenKind.TheVariants as kind
use Rattle.cedar_syntax.specs.tokens.Tokens.{between_quotes}
use Rattle.cedar_grammar.specs.grammar.WrittenTokens.{Written}

-- it begins with a quote
pub begins_so : (text : List ℕ) (r : Option (Bor (List ℕ))) → Written kind.StringLit text → MatchOption r ((rest : List ℕ) → text ≢ 34 ∷ rest) (λ x. text ≡ 34 ∷ x.now) → r ≡ None → ⊥
begins_so text None h m e = m _ h.1
begins_so text (Some x) h m e = cc

-- and ends with one
pub ends_so : (text rest : List ℕ) → Written kind.StringLit text → text ≡ 34 ∷ rest → (front : List ℕ) × (rest ≡ front ++ (34 ∷ []))
ends_so text rest h e = (h.0, ap (λ x. drop 1 x) (sym e ∙ h.1))

-- so that the second quote is found too
pub quote_found : (text front : List ℕ) (r : Option (Bor (List ℕ))) → text ≡ front ++ (34 ∷ []) → MatchOption r ((front : List ℕ) → text ≢ front ++ (34 ∷ [])) (λ x. text ≡ x.now ++ (34 ∷ [])) → r ≡ None → ⊥
quote_found text front None h m e = m front h
quote_found text front (Some x) h m e = cc

-- what stands between
pub inside_is : (text rest inside : List ℕ) → text ≡ 34 ∷ rest → rest ≡ inside ++ (34 ∷ []) → inside ≡ between_quotes text
inside_is text rest inside e f =
    let g : text ≡ (34 ∷ inside) ++ (34 ∷ []) = e ∙ ap (λ x. 34 ∷ x) f in
    let n : length text - 1 ≡ length (34 ∷ inside) = omega (arith, ap length g, length-append (34 ∷ inside) (34 ∷ [])) in
    sym (ap (λ k. drop 1 (take k text)) n
    ∙ ap (λ x. drop 1 (take (length (34 ∷ inside)) x)) g
    ∙ ap (λ x. drop 1 x) (take-append_seam (34 ∷ inside) (34 ∷ [])))
