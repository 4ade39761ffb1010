-- Where a line may end in a bracket: at all gaps of a level or at none, the outermost level first;
-- at those that are packed or filled where what follows doesn't fit.
use Rattle.std.specs.Prelude.{ℕ, Bool, cond}
use Rattle.cedar_lexer.specs.declared.token.TokenKind.{TokenKind}
use Rattle.cedar_lexer.specs.declared.token.TokenKind.TheVariants.{If, In, Has, Like, Is, Then, Else, Dot, Colon, CloseParen, OpenBrace, OpenBracket, EqEq, NotEq, Less, LessEq, GreaterEq, Greater, Eq, OrOr, AndAnd, Plus, Minus, Star, Slash, Percent}
use Rattle.cedar_layout.specs.declared.levels.Level.{Level}
use Rattle.cedar_layout.specs.declared.levels.Level.TheVariants.{Listed, Branched, Disjoined, Conjoined, Related, Added, Multiplied, Chained, Packed, Filled, Fixed}

-- the outermost level first
abbrev pub rank : Level → ℕ
rank Listed = 0
rank Branched = 1
rank Disjoined = 2
rank Conjoined = 3
rank Related = 4
rank Added = 5
rank Multiplied = 6
rank Chained = 7
rank Packed = 8
rank Filled = 9
rank Fixed = 10

-- at an operator
abbrev pub operator_level : TokenKind → Level
operator_level OrOr = Disjoined
operator_level AndAnd = Conjoined
operator_level EqEq = Related
operator_level NotEq = Related
operator_level Less = Related
operator_level LessEq = Related
operator_level GreaterEq = Related
operator_level Greater = Related
operator_level Eq = Related
operator_level In = Related
operator_level Plus = Added
operator_level Minus = Added
operator_level Star = Multiplied
operator_level Slash = Multiplied
operator_level Percent = Multiplied
operator_level Has = Filled
operator_level Like = Filled
operator_level Is = Filled
operator_level kind = Fixed

-- behind an operator; but a list or a record stands on the line of its relation
abbrev pub before_operand : Level → TokenKind → Level
before_operand Related OpenBracket = Filled
before_operand Related OpenBrace = Filled
before_operand level next = level

-- behind an operator that begins its line its operand follows on it
abbrev pub behind_led : Level → Level
behind_led Fixed = Fixed
behind_led level = Filled

-- behind a word before an operand
abbrev pub word_level : TokenKind → Level
word_level If = Filled
word_level Then = Filled
word_level Else = Filled
word_level Colon = Filled
word_level kind = operator_level kind

abbrev pub level_behind : Bool → TokenKind → TokenKind → Level
level_behind led last next =
    cond led (behind_led (before_operand (word_level last) next))
    (before_operand (word_level last) next)

-- before a word that isn't an operator behind a comment
abbrev pub plain_level : Bool → TokenKind → TokenKind → Level
plain_level led last Then = Branched
plain_level led last Else = Branched
plain_level led last next = level_behind led last next

-- an operator that begins its line does so at its own level
abbrev pub led_level : Level → Level → Level
led_level Fixed plain = plain
led_level level plain = level

-- the level of a gap between words that nothing joins, and of one between joined words. An operator
-- leads its line in the place of ending it where a comment stands before it: `leads` says this of
-- the second word, `led` of the first
abbrev pub level_apart : Bool → Bool → TokenKind → TokenKind → Level
level_apart leads led last next =
    cond leads (led_level (operator_level next) (plain_level led last next))
    (plain_level led last next)

abbrev pub level_joined : TokenKind → TokenKind → Level
level_joined CloseParen Dot = Chained
level_joined last next = Fixed
