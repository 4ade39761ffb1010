-- Which parentheses hold one list or one record and nothing else, and which lists numbers and short
-- texts.
use Rattle.std.specs.Prelude.{ℕ, Bool, true, false, cond, ◌&&◌, ◌||◌, nat_le, List, [], ◌∷◌}
use Rattle.cedar_lexer.specs.declared.token.TokenKind.{TokenKind}
use Rattle.cedar_lexer.specs.declared.token.TokenKind.TheVariants.{Number, StringLit, Minus, Comma}
use Rattle.cedar_layout.specs.declared.hugs.Tail as code
use Rattle.cedar_layout.specs.Columns.{width_of}
use Rattle.cedar_layout.specs.Kinds.{opens, closes, is_list, is_paren, is_square}
use Rattle.cedar_layout.specs.Pieces.{Item, word, beside, below}

-- what is known of the words from a place on, read from the end of the text to there: whether a
-- bracket closes at once; whether a list or a record opens at once, behind whose end another
-- bracket closes at once; whether up to a bracket's end numbers stand, short texts and what stands
-- between them, and no comment; of each bracket that closes there and opens before, whether another
-- one closes at once behind it; and of each word, whether parentheses open with it that hold one
-- list or one record, or a list that holds numbers and short texts
pub record Tail : Type 0 where
  pub closing : Bool
  pub sole : Bool
  pub short : Bool
  pub behind : List Bool
  pub hugs : List Bool

abbrev pub tail_now : code.Tail → Tail
tail_now t = record {
  closing = t.closing;
  sole = t.sole;
  short = t.short;
  behind = t.behind.items;
  hugs = t.hugs.items;
}

abbrev pub no_words : Tail
no_words = record { closing = false; sole = false; short = false; behind = []; hugs = [] }

-- the first of these, or none
abbrev pub first_flag : List Bool → Bool
first_flag [] = false
first_flag (b ∷ bs) = b

abbrev pub rest_flags : List Bool → List Bool
rest_flags [] = []
rest_flags (b ∷ bs) = bs

abbrev pub behind_kind : TokenKind → Bool → List Bool → List Bool
behind_kind kind closing behind =
    cond (opens kind) (rest_flags behind) (cond (closes kind) (closing ∷ behind) behind)

-- a list's line goes on with it
abbrev pub is_short : TokenKind → List ℕ → Bool
is_short Number text = true
is_short Minus text = true
is_short Comma text = true
is_short StringLit text = nat_le (width_of text) 10
is_short kind text = false

abbrev pub before_word : TokenKind → List ℕ → Tail → Tail
before_word kind text t = record {
  closing = closes kind;
  sole = is_list kind && first_flag t.behind;
  short = closes kind || t.short && is_short kind text;
  behind = behind_kind kind t.closing t.behind;
  hugs = (is_paren kind && t.sole || is_square kind && t.short) ∷ t.hugs;
}

-- a comment stands at once
abbrev pub before_comment : Tail → Tail
before_comment t = record {
  closing = false;
  sole = false;
  short = false;
  behind = t.behind;
  hugs = t.hugs;
}

abbrev pub before_item : Item → Tail → Tail
before_item (word w) t = before_word w.kind w.text t
before_item (beside c) t = before_comment t
before_item (below c) t = before_comment t

abbrev pub tail_of : List Item → Tail
tail_of [] = no_words
tail_of (i ∷ is) = before_item i (tail_of is)

-- of each word of a text
abbrev pub hugs_of : List Item → List Bool
hugs_of is = (tail_of is).hugs
