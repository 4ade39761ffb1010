-- Which kinds of token a refusal records as expected: all that are allowed, or of them those that
-- close what is open.
use Rattle.std.specs.Prelude.{Bool, true, false, ◌&&◌, IsTrue, ◌⊎◌, List, [], ◌∷◌, Option, Some, None}
use Rattle.std.specs.Cmp.Lexicographic.{slice_cmp}
use Rattle.std.specs.Ordering.{nat_cmp}
use Rattle.std.specs.declared.cmp.Ordering.{Ordering}
use Rattle.std.specs.declared.cmp.Ordering.TheVariants.{Less, Equal, Greater}
use Rattle.cedar_lexer.specs.Token.{Lexeme}
use Rattle.cedar_lexer.specs.Names.{kind_name}
use Rattle.cedar_lexer.specs.declared.token.TokenKind.{TokenKind}
use Rattle.cedar_lexer.specs.declared.token.TokenKind.TheVariants as kind
use Rattle.cedar_grammar.specs.declared.reading.expected.ClosersOnly.{ClosersOnly}
use Rattle.cedar_grammar.specs.declared.reading.expected.ClosersOnly.TheVariants as narrowing
use Rattle.cedar_grammar.specs.grammar.Sentences.{Allowed}

-- all kinds, in byte order of their recorded names
abbrev pub by_name : List TokenKind
by_name =
    kind.Bang ∷ kind.NotEq ∷ kind.Percent ∷ kind.AndAnd ∷ kind.OpenParen ∷ kind.CloseParen ∷
    kind.Star ∷ kind.Plus ∷ kind.Comma ∷ kind.Minus ∷ kind.Dot ∷ kind.Slash ∷ kind.Colon ∷
    kind.ColonColon ∷ kind.Semicolon ∷ kind.Less ∷ kind.LessEq ∷ kind.Eq ∷ kind.EqEq ∷
    kind.Greater ∷ kind.GreaterEq ∷ kind.At ∷ kind.OpenBracket ∷ kind.CloseBracket ∷
    kind.OpenBrace ∷ kind.OrOr ∷ kind.CloseBrace ∷ kind.Action ∷ kind.Context ∷ kind.Else ∷
    kind.False ∷ kind.Forbid ∷ kind.Has ∷ kind.Identifier ∷ kind.If ∷ kind.In ∷ kind.Is ∷
    kind.Like ∷ kind.Number ∷ kind.OtherSlot ∷ kind.Permit ∷ kind.Principal ∷ kind.PrincipalSlot ∷
    kind.Resource ∷ kind.ResourceSlot ∷ kind.StringLit ∷ kind.Then ∷ kind.True ∷ kind.Unless ∷
    kind.When ∷ []

-- what ends an expression that stands within something begun: `then else ) ] } , :`
abbrev pub is_closer : TokenKind → Bool
is_closer kind.Then = true
is_closer kind.Else = true
is_closer kind.CloseParen = true
is_closer kind.CloseBracket = true
is_closer kind.CloseBrace = true
is_closer kind.Comma = true
is_closer kind.Colon = true
is_closer _ = false

-- what can stand behind an operand: `. ( [ * / % + - < <= >= > != == = in has like is && ||` and
-- what closes
abbrev pub goes_behind : TokenKind → Bool
goes_behind kind.Dot = true
goes_behind kind.OpenParen = true
goes_behind kind.OpenBracket = true
goes_behind kind.Star = true
goes_behind kind.Slash = true
goes_behind kind.Percent = true
goes_behind kind.Plus = true
goes_behind kind.Minus = true
goes_behind kind.Less = true
goes_behind kind.LessEq = true
goes_behind kind.GreaterEq = true
goes_behind kind.Greater = true
goes_behind kind.NotEq = true
goes_behind kind.EqEq = true
goes_behind kind.Eq = true
goes_behind kind.In = true
goes_behind kind.Has = true
goes_behind kind.Like = true
goes_behind kind.Is = true
goes_behind kind.AndAnd = true
goes_behind kind.OrOr = true
goes_behind k = is_closer k

-- whether a list of expected kinds may be narrowed where this is refused, a kind or the end:
-- `Never` never, `Tokens` where the kind can stand behind an operand, `TokensAndEnd` there and at
-- the end
abbrev pub can_narrow : ClosersOnly → Option TokenKind → Bool
can_narrow narrowing.Never after = false
can_narrow narrowing.Tokens None = false
can_narrow narrowing.Tokens (Some k) = goes_behind k
can_narrow narrowing.TokensAndEnd None = true
can_narrow narrowing.TokensAndEnd (Some k) = goes_behind k

-- it is narrowed where it may be, where an operand is complete, so that `*` or `&&` may follow,
-- and where what ends an expression within something begun may follow too
pub record IsNarrowed {T : Type 0} (R : List Lexeme → T → Type 0) (n : ClosersOnly)
    (ks : List TokenKind) (after : Option TokenKind) : Type 0 where
  pub may : IsTrue (can_narrow n after)
  pub operand : Allowed R ks (Some kind.Star) ⊎ Allowed R ks (Some kind.AndAnd)
  pub closer : (k : TokenKind) × IsTrue (is_closer k) × Allowed R ks (Some k)

-- those of a list that a fact holds of, in their order
pub data Picks (P : TokenKind → Type 0) : List TokenKind → List TokenKind → Type 0 where
  no_kind : Picks P [] []
  picked : {k : TokenKind} {ks us : List TokenKind} → P k → Picks P ks us →
      Picks P (k ∷ ks) (k ∷ us)
  passed : {k : TokenKind} {ks us : List TokenKind} → ¬ (P k) → Picks P ks us → Picks P (k ∷ ks) us

-- behind these kinds, where this is refused, these are expected: the kinds that some sentence
-- allows there, or of them what closes
pub data IsExpected {T : Type 0} (R : List Lexeme → T → Type 0) (n : ClosersOnly)
    (ks : List TokenKind) (after : Option TokenKind) : List TokenKind → Type 0 where
  all_allowed : {us : List TokenKind} → ¬ (IsNarrowed R n ks after) →
      Picks (λ k. Allowed R ks (Some k)) by_name us → IsExpected R n ks after us
  closers : {us : List TokenKind} → IsNarrowed R n ks after →
      Picks (λ k. IsTrue (is_closer k) × Allowed R ks (Some k)) by_name us →
      IsExpected R n ks after us

-- a kind stands in a list
pub data IsIn (k : TokenKind) : List TokenKind → Type 0 where
  here : {ks : List TokenKind} → IsIn k (k ∷ ks)
  there : {j : TokenKind} {ks : List TokenKind} → IsIn k ks → IsIn k (j ∷ ks)

-- whether a comparison says that the first is less
abbrev pub is_less : Ordering → Bool
is_less Less = true
is_less Equal = false
is_less Greater = false

-- the name of this kind stands before that of the list's first one, if there is one
abbrev pub is_before : TokenKind → List TokenKind → Bool
is_before j [] = true
is_before j (k ∷ ks) = is_less (slice_cmp nat_cmp (kind_name j) (kind_name k))

-- in the list each name stands before the next
abbrev pub stand_by_name : List TokenKind → Bool
stand_by_name [] = true
stand_by_name (k ∷ ks) = is_before k ks && stand_by_name ks
