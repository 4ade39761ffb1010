-- Depths that are told token by token.
use Rattle.std.proofs.Common.{◌≡◌, ℕ, ◌+◌, ◌<◌, ◌≤◌, max, false, List, [], ◌∷◌, ◌++◌, refl, sym, ap, ◌∙◌, subst, append_assoc, arith, inl, inr, Option, Some, None, Ok, Err}
use Rattle.std.specs.Str.{IsUtf8}
use Rattle.std.proofs.lemmas.Bool.{both_ways}
use Rattle.std.proofs.lemmas.List.{append-nil}
use Rattle.std.proofs.Math.Nat.{le-max_left, max-eq_left}
use Rattle.cedar_lexer.specs.declared.token.Token.{Token}
use Rattle.cedar_lexer.specs.declared.token.TokenKind.{TokenKind}
use Rattle.cedar_lexer.specs.declared.token.TokenKind.TheVariants as kind
use Rattle.cedar_lexer.specs.declared.token.InvalidToken.{InvalidToken}
use Rattle.cedar_lexer.specs.Token.{Lexeme, lexeme_of}
use Rattle.cedar_lexer.specs.Cut.{Layout, nothing}
use Rattle.cedar_lexer.specs.LexerState.{LexerState, fresh_lexer, lexer_at, IsCutOrStop, IsNextToken, LexerAnswers}
use Rattle.cedar_lexer.proofs.Cuts.{laid_on}
use Rattle.cedar_lexer.proofs.Runs.{stand_in_order, next_range}
use Rattle.cedar_text.specs.Nesting.{depth_behind, deepest, IsNesting}

-- a token goes one deeper at most
one_deeper : (k : TokenKind) (depth : ℕ) → depth_behind k depth ≤ depth + 1
one_deeper kind.Semicolon depth = omega arith
one_deeper _ depth = omega arith

-- the deepest place is no less deep than the first
pub at_least : (depth : ℕ) (ts : List Lexeme) → depth ≤ deepest depth ts
at_least depth [] = omega arith
at_least depth (t ∷ ts) = le-max_left depth (deepest (depth_behind t.kind depth) ts)

-- the deepest place so far is no less deep than this one: one token more
one_more : (most depth : ℕ) (t : Lexeme) (ts : List Lexeme) → depth ≤ most →
    max most (deepest depth (t ∷ ts))
    ≡ max (max (depth_behind t.kind depth) most) (deepest (depth_behind t.kind depth) ts)
one_more most depth t ts below =
    let first = at_least (depth_behind t.kind depth) ts in
    omega (arith, below, first)

-- the tokens before the lexer's place are counted: the depth there, and the most so far. It is no
-- deeper there than bytes stand before it
pub record Counted (source : List ℕ) (s : LexerState) (depth most : ℕ) : Type 0 where
  pub utf8 : IsUtf8 source
  pub before : List Lexeme
  pub laid : Layout source 0 before s.offset
  pub same : s.source ≡ source
  pub goes : s.ended ≡ false
  pub low : depth ≤ s.offset
  pub below : depth ≤ most
  pub counts : (ts : List Lexeme) →
      deepest 0 (before ++ ts) ≡ max most (deepest depth ts)

pub none_counted : (source : List ℕ) (s : LexerState) → IsUtf8 source → s ≡ fresh_lexer source →
    Counted source s 0 0
none_counted source s u e = subst (λ s. Counted source s 0 0) (sym e) (record {
  utf8 = u;
  before = [];
  laid = nothing;
  same = refl;
  goes = refl;
  low = omega arith;
  below = omega arith;
  counts = λ ts. omega arith;
})

-- the next token of a counted beginning ends behind it
ends_behind : {source : List ℕ} {s u : LexerState} {depth most : ℕ} (t : Token) →
    Counted source s depth most → LexerAnswers s (Some (Ok t)) u → s.offset < t.end
ends_behind {source} {s} {u} t c a =
    let next : IsNextToken source s.offset (lexeme_of t) = subst (λ w. IsNextToken w s.offset (lexeme_of t)) c.same a.1 in
    let boundary = (stand_in_order source c.before s.offset c.utf8 c.laid).1 in
    let range = next_range source s.offset (lexeme_of t) c.utf8 boundary next in
    omega (arith, range.0, range.1.nonempty)

pub next_counted : {source : List ℕ} {s u : LexerState} {depth most further farthest : ℕ} (t : Token) →
    Counted source s depth most → LexerAnswers s (Some (Ok t)) u →
    further ≡ depth_behind t.kind depth → farthest ≡ max further most → Counted source u further farthest
next_counted {source} {s} {u} {depth} {most} {further} {farthest} t c a behind top =
    let next : IsNextToken source s.offset (lexeme_of t) = subst (λ w. IsNextToken w s.offset (lexeme_of t)) c.same a.1 in
    let ends = ends_behind t c a in
    let step = one_deeper t.kind depth in
    let counted : Counted source (lexer_at s t.end) further farthest = record {
      utf8 = c.utf8;
      before = c.before ++ lexeme_of t ∷ [];
      laid = laid_on c.laid next;
      same = c.same;
      goes = refl;
      low = omega (arith, ends, c.low, step, behind);
      below = omega (arith, top);
      counts = λ ts.
          ap (λ us. deepest 0 us) (append_assoc c.before (lexeme_of t ∷ []) ts)
          ∙ (c.counts (lexeme_of t ∷ ts)
          ∙ (one_more most depth (lexeme_of t) ts c.below
          ∙ (ap (λ n. max (max n most) (deepest n ts)) (sym behind)
          ∙ ap (λ n. max n (deepest further ts)) (sym top))));
    } in
    subst (λ w. Counted source w further farthest) (sym a.2) counted

-- tokens up to a place, and none from there on to the end or to a bad place
joined : {source : List ℕ} {ts : List Lexeme} {place : ℕ} (bad : Option ℕ) → Layout source 0 ts place →
    IsCutOrStop source place [] bad → IsCutOrStop source 0 ts bad
joined {source} {ts} None l cut =
    subst (λ us. IsCutOrStop source 0 us None) (append-nil ts) (laid_on l cut)
joined {source} {ts} (Some bad) l stop =
    subst (λ us. IsCutOrStop source 0 us (Some bad)) (append-nil ts) (laid_on l stop.0, stop.1, stop.2)

-- where no token follows, all are counted
told : {source : List ℕ} {s : LexerState} {depth most : ℕ} (bad : Option ℕ) → Counted source s depth most →
    IsCutOrStop s.source s.offset [] bad → IsNesting source most
told {source} {s} {depth} {most} bad c rest = (
  c.before,
  bad,
  joined bad c.laid (subst (λ w. IsCutOrStop w s.offset [] bad) c.same rest),
  sym (ap (λ us. deepest 0 us) (sym (append-nil c.before)) ∙ (c.counts [] ∙ max-eq_left c.below)),
)

pub all_counted : {source : List ℕ} {s u : LexerState} {depth most : ℕ} → Counted source s depth most →
    LexerAnswers s None u → IsNesting source most
all_counted {s = s} c a = elim a.0 [
  | inl ended ↦ absurd (both_ways s.ended c.goes ended)
  | inr cut ↦ told None c cut
]

pub stopped_counted : {source : List ℕ} {s u : LexerState} {depth most : ℕ} (e : InvalidToken) →
    Counted source s depth most → LexerAnswers s (Some (Err e)) u → IsNesting source most
stopped_counted e c a = told (Some e.location) c a.1
