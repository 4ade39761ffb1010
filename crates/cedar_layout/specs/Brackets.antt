-- The open brackets of a text, the innermost first, and what each holds.
use Rattle.std.specs.Prelude.{Bool, false, cond, List, [], ◌∷◌, Option, Some, None}
use Rattle.cedar_lexer.specs.declared.token.TokenKind.{TokenKind}
use Rattle.cedar_layout.specs.declared.brackets.Bracket.{Bracket}
use Rattle.cedar_layout.specs.declared.brackets.Bracket.TheVariants.{Annotation, Body, Sole, Short, Inner}
use Rattle.cedar_layout.specs.Kinds.{opens, closes, is_at, is_brace, is_square}

abbrev pub is_at_sign : Option TokenKind → Bool
is_at_sign None = false
is_at_sign (Some kind) = is_at kind

-- behind `@` and a name an annotation's value, between braces a condition's body
abbrev pub outer_bracket : Option TokenKind → TokenKind → Bracket
outer_bracket before kind = cond (is_brace kind) Body (cond (is_at_sign before) Annotation Inner)

-- one list or one record and nothing else, or in a list numbers and short texts; or anything
abbrev pub told_bracket : TokenKind → Bracket
told_bracket kind = cond (is_square kind) Short Sole

abbrev pub inner_bracket : TokenKind → Bool → Bracket
inner_bracket kind told = cond told (told_bracket kind) Inner

-- in another bracket, or in none, where `before` stands two words before the bracket
abbrev pub new_bracket : Option Bracket → Option TokenKind → TokenKind → Bool → Bracket
new_bracket None before kind told = outer_bracket before kind
new_bracket (Some bracket) before kind told = inner_bracket kind told

abbrev pub innermost_of : List Bracket → Option Bracket
innermost_of [] = None
innermost_of (bracket ∷ brackets) = Some bracket

abbrev pub without_first : List Bracket → List Bracket
without_first [] = []
without_first (bracket ∷ brackets) = brackets

-- the brackets that are open behind a word, where `before` stands two words before it, and of which
-- is told what it holds
abbrev pub brackets_behind : List Bracket → Option TokenKind → TokenKind → Bool → List Bracket
brackets_behind brackets before kind told =
    cond (opens kind) (new_bracket (innermost_of brackets) before kind told ∷ brackets)
    (cond (closes kind) (without_first brackets) brackets)
