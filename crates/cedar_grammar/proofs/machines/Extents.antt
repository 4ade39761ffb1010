-- Extents of tokens laid end to end.
use Rattle.std.proofs.Common.{◌≡◌, List, [], ◌∷◌, ◌++◌, Option, Some, None, refl, sym, ◌∙◌, ap}
use Rattle.cedar_lexer.specs.Token.{Lexeme}
use Rattle.cedar_lexer.specs.declared.token.TokenKind.{TokenKind}
use Rattle.cedar_grammar.specs.declared.reading.extent.Extent.{Extent}
use Rattle.cedar_grammar.specs.grammar.Place.{joint_extent, extent_of, extent}
use Rattle.cedar_syntax.specs.tokens.Tokens.{Spot, one}

pub join-assoc : (a b c : Option Extent) → joint_extent (joint_extent a b) c ≡ joint_extent a (joint_extent b c)
join-assoc None b c = refl
join-assoc (Some a) None c = refl
join-assoc (Some a) (Some b) None = refl
join-assoc (Some a) (Some b) (Some c) = refl

pub extent-append : (a b : List Lexeme) → extent (a ++ b) ≡ joint_extent (extent a) (extent b)
extent-append [] b = refl
extent-append (t ∷ a) b = ap (λ p. joint_extent (Some (extent_of t)) p) (extent-append a b) ∙ sym (join-assoc (Some (extent_of t)) (extent a) (extent b))

abbrev pub at : Spot → Extent
at p = record { start = p.start; end = p.end }

abbrev pub from_to : Extent → Extent → Extent
from_to a b = record { start = a.start; end = b.end }

ends_at : (a b : Option Extent) (c d : Extent) → a ≡ Some c → joint_extent (joint_extent a b) (Some d) ≡ Some (from_to c d)
ends_at None b c d e = cc
ends_at (Some a) None c d e = ap (λ w. joint_extent (joint_extent w None) (Some d)) e
ends_at (Some a) (Some b) c d e = ap (λ w. joint_extent (joint_extent w (Some b)) (Some d)) e

-- from the first token of these to the one behind them
pub spans : (ts us : List Lexeme) (k : TokenKind) (p : Spot) (a : Extent) → extent ts ≡ Some a → extent (ts ++ us ++ one k p) ≡ Some (from_to a (at p))
spans ts us k p a e = extent-append (ts ++ us) (one k p) ∙ ap (λ w. joint_extent w (Some (at p))) (extent-append ts us) ∙ ends_at (extent ts) (extent us) a (at p) e
