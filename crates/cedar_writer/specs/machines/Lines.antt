-- The two words that stand last in a line; identifiers and entities with a mark behind each, or
-- before.
use Rattle.std.specs.Prelude.{ℕ, List, [], ◌∷◌, ◌++◌}
use Rattle.std.specs.List.{flat_map}
use Rattle.cedar_lexer.specs.declared.token.TokenKind.{TokenKind}
use Rattle.cedar_lexer.specs.Words.{TokenText}
use Rattle.cedar_expressions.specs.declared.entity.EntityUID.{EntityUID}
use Rattle.cedar_writer.specs.Spacing.{Edge, edge_behind}
use Rattle.cedar_writer.specs.WrittenWords.{colons, dot, identifier_words, entity_words}
use Rattle.cedar_writer.specs.Writing.{comma}

abbrev pub line_edge : TokenKind → TokenKind → Edge
line_edge before last = record { before = before; last = last }

abbrev pub edge_of : Edge → List TokenText → Edge
edge_of e [] = e
edge_of e (w ∷ ws) = edge_of (edge_behind e w) ws

abbrev pub qualified : List ℕ → List TokenText
qualified id = identifier_words id ++ colons

abbrev pub namespace_words : List (List ℕ) → List TokenText
namespace_words ids = flat_map qualified ids

abbrev pub accessed : List ℕ → List TokenText
accessed id = dot ++ identifier_words id

abbrev pub accesses_words : List (List ℕ) → List TokenText
accesses_words ids = flat_map accessed ids

abbrev pub behind_comma : EntityUID → List TokenText
behind_comma u = comma ++ entity_words u

abbrev pub later_entities_words : List EntityUID → List TokenText
later_entities_words us = flat_map behind_comma us
