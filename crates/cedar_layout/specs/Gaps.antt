-- What stands between two words: what joins them on a line, and where the line may end.
use Rattle.std.specs.Prelude.{ℕ, Bool, true, false, cond, not, ◌&&◌, ◌||◌, List, Option, Some, None, slice_index}
use Rattle.cedar_lexer.specs.declared.token.TokenKind.{TokenKind}
use Rattle.cedar_lexer.specs.declared.token.TokenKind.TheVariants.{At, Dot, Comma, Semicolon, Colon, ColonColon, OpenParen, CloseParen, OpenBracket, CloseBracket, Minus, Bang}
use Rattle.cedar_layout.specs.Laid.{goes_on}
use Rattle.cedar_layout.specs.declared.decisions.BlankRule.{BlankRule}
use Rattle.cedar_layout.specs.declared.decisions.BlankRule.TheVariants.{Never, Kept, Always}
use Rattle.cedar_layout.specs.declared.levels.Level.{Level}
use Rattle.cedar_layout.specs.declared.levels.Level.TheVariants.{Listed, Packed, Filled, Fixed}
use Rattle.cedar_layout.specs.declared.gaps.Gap.{Gap}
use Rattle.cedar_layout.specs.declared.brackets.Bracket.{Bracket}
use Rattle.cedar_layout.specs.declared.brackets.Bracket.TheVariants.{Annotation, Body, Sole, Short, Inner}
use Rattle.cedar_layout.specs.Brackets.{is_at_sign}
use Rattle.cedar_layout.specs.Kinds.{opens, closes, is_lettered, ends_operand, begins_condition, is_semicolon, is_at, is_paren, is_comma}
use Rattle.cedar_layout.specs.Levels.{level_apart, level_joined}

abbrev pub word_gap : Bool → Level → Gap
word_gap spaced level = record {
  spaced = spaced;
  level = level;
  begins_line = false;
  rule = Kept;
  closing = false;
}

abbrev pub line_gap : BlankRule → Gap
line_gap rule = record {
  spaced = false;
  level = Fixed;
  begins_line = true;
  rule = rule;
  closing = false;
}

abbrev pub end_gap : Bool → Level → Bool → Gap
end_gap spaced level closing = record {
  spaced = spaced;
  level = level;
  begins_line = false;
  rule = Never;
  closing = closing;
}

-- nothing stands behind these, and nothing before those
abbrev pub is_negation : Option TokenKind → Bool
is_negation None = true
is_negation (Some before) = not (ends_operand before)

abbrev pub holds_next : Option TokenKind → TokenKind → Bool
holds_next before Dot = true
holds_next before ColonColon = true
holds_next before At = true
holds_next before Bang = true
holds_next before Minus = is_negation before
holds_next before kind = false

abbrev pub holds_back : TokenKind → TokenKind → Bool
holds_back last Comma = true
holds_back last Semicolon = true
holds_back last CloseParen = true
holds_back last CloseBracket = true
holds_back last Colon = true
holds_back last ColonColon = true
holds_back last Dot = true
holds_back last OpenParen = ends_operand last
holds_back last OpenBracket = ends_operand last
holds_back last kind = false

-- between two words of an expression. An operator behind a comment leads its line: `leads` says
-- that a comment stands before the second word, `led` that the first leads its line
abbrev pub flat_gap : Bool → Bool → Option TokenKind → TokenKind → TokenKind → Gap
flat_gap leads led before last next =
    cond (holds_next before last) (word_gap false Fixed)
    (cond (holds_back last next) (word_gap false (level_joined last next))
    (word_gap true (level_apart (leads && ends_operand last) led last next)))

-- no blank line stands before a condition
abbrev pub outer_rule : TokenKind → BlankRule
outer_rule next = cond (begins_condition next) Never Kept

-- outside of brackets: a policy ends, an annotation, an effect or a condition begins a line
abbrev pub outer_gap : Option TokenKind → TokenKind → TokenKind → Gap
outer_gap before last next =
    cond (is_semicolon last) (line_gap Always)
    (cond (not (is_at last) && (is_at next || is_lettered next)) (line_gap (outer_rule next))
    (cond (is_paren next && is_lettered last && not (is_at_sign before)) (word_gap true Fixed)
    (word_gap (flat_gap false false before last next).spaced Fixed)))

-- behind a comma; but behind one that leads its line the next item follows on it
abbrev pub comma_level : Bool → Level → Level
comma_level led level = cond led Filled level

-- behind a comma lines end at gaps of this level
abbrev pub held_gap :
    Bool → Level → Bool → Bool → Option TokenKind → TokenKind → TokenKind → Gap
held_gap spaced level leads led before last next =
    cond (opens last && closes next) (end_gap false Fixed true)
    (cond (opens last || closes next) (end_gap spaced Listed (closes next))
    (cond (is_comma last) (word_gap true (comma_level led level))
    (cond (leads && is_comma next) (word_gap false Listed)
    (flat_gap leads led before last next))))

abbrev pub inner_gap :
    Bracket → Bool → Bool → Option TokenKind → TokenKind → TokenKind → Gap
inner_gap Annotation leads led before last next = end_gap false Fixed (closes next)
inner_gap Body leads led before last next = held_gap true Listed leads led before last next
inner_gap Sole leads led before last next = end_gap false Fixed (closes next)
inner_gap Short leads led before last next =
    held_gap false Packed leads led before last next
inner_gap Inner leads led before last next = held_gap false Listed leads led before last next

-- by the innermost open bracket
abbrev pub gap_between :
    Option Bracket → Bool → Bool → Option TokenKind → TokenKind → TokenKind → Gap
gap_between None leads led before last next = outer_gap before last next
gap_between (Some bracket) leads led before last next =
    inner_gap bracket leads led before last next

-- words that may not touch stand apart
abbrev pub parted : Gap → Bool → Gap
parted g glued = record {
  spaced = g.spaced || glued;
  level = g.level;
  begins_line = g.begins_line;
  rule = g.rule;
  closing = g.closing;
}

-- the gap before a word, or before the first, with a comment in it or not, and with one in the gap
-- before or not; with one in each the word behind an operator begins a line
abbrev pub gap_at :
    Option Bracket → Bool → Bool → Option TokenKind → Option TokenKind → TokenKind → List ℕ → Gap
gap_at bracket leads led before None kind text = word_gap false Fixed
gap_at bracket leads led before (Some last) kind text =
    parted (gap_between bracket leads (led && not leads) before last kind)
    (goes_on last (slice_index text 0))

abbrev pub is_never : BlankRule → Bool
is_never Never = true
is_never rule = false

-- what becomes of a blank line before a word that begins a line, where this is the rule of what
-- stands before the word and behind the last comment
abbrev pub line_rule : BlankRule → Gap → BlankRule
line_rule rule g = cond (g.closing || g.begins_line && is_never g.rule) Never rule
