-- Tokens that reach a depth, and come back to none that is less than the one where they begin.
use Rattle.std.proofs.Common.{◌≡◌, ℕ, ◌+◌, ◌-◌, ◌≤◌, max, List, [], ◌∷◌, ◌++◌, Some, refl, sym, arith}
use Rattle.std.proofs.Math.Nat.{le-max_left, max-eq_right}
use Rattle.cedar_lexer.specs.Token.{Lexeme}
use Rattle.cedar_lexer.specs.declared.token.TokenKind.{TokenKind}
use Rattle.cedar_lexer.specs.declared.token.TokenKind.TheVariants as kind
use Rattle.cedar_syntax.specs.declared.cst.Ident.{Ident}
use Rattle.cedar_syntax.specs.tokens.Tokens.{Spot, one, any_of}
use Rattle.cedar_text.specs.Nesting.{depth_behind, deepest}
use Rattle.cedar_text.proofs.Counting.{at_least}

-- the depth behind tokens
abbrev pub end_depth : ℕ → List Lexeme → ℕ
end_depth depth [] = depth
end_depth depth (t ∷ ts) = end_depth (depth_behind t.kind depth) ts

pub record Spans (ts : List Lexeme) (n : ℕ) : Type 0 where
  pub reaches : (depth : ℕ) → depth + n ≤ deepest depth ts
  pub back : (depth : ℕ) → depth ≤ end_depth depth ts

-- a token that leaves nothing
abbrev pub Keeps : TokenKind → Type 0
Keeps k = (depth : ℕ) → depth ≤ depth_behind k depth

-- one that goes one deeper, and one that comes back
abbrev pub Opens : TokenKind → Type 0
Opens k = (depth : ℕ) → depth_behind k depth ≡ depth + 1

abbrev pub Closes : TokenKind → Type 0
Closes k = (depth : ℕ) → depth_behind k depth ≡ depth - 1

pub deepest_append : (depth : ℕ) (ts us : List Lexeme) →
    deepest depth (ts ++ us) ≡ max (deepest depth ts) (deepest (end_depth depth ts) us)
deepest_append depth [] us = sym (max-eq_right (at_least depth us))
deepest_append depth (t ∷ ts) us =
    let more = deepest_append (depth_behind t.kind depth) ts us in
    omega (arith, more)

pub end_append : (depth : ℕ) (ts us : List Lexeme) → end_depth depth (ts ++ us) ≡ end_depth (end_depth depth ts) us
end_append depth [] us = refl
end_append depth (t ∷ ts) us = end_append (depth_behind t.kind depth) ts us

pub lower : {ts : List Lexeme} {n m : ℕ} → Spans ts n → m ≤ n → Spans ts m
lower s le = record {
  reaches = λ depth. let h = s.reaches depth in omega (arith, h, le);
  back = s.back;
}

pub nothing_spans : Spans [] 0
nothing_spans = record { reaches = λ depth. omega arith; back = λ depth. omega arith }

pub token_spans : (k : TokenKind) (p : Spot) → Keeps k → Spans (one k p) 0
token_spans k p keeps = record {
  reaches = λ depth. let h = le-max_left depth (depth_behind k depth) in omega (arith, h);
  back = keeps;
}

pub beside : {ts us : List Lexeme} {n m : ℕ} → Spans ts n → Spans us m → Spans (ts ++ us) (max n m)
beside {ts} {us} {n} {m} a b = record {
  reaches = λ depth.
      let e = deepest_append depth ts us in
      let first = a.reaches depth in
      let second = b.reaches (end_depth depth ts) in
      let back = a.back depth in
      omega (arith, e, first, second, back);
  back = λ depth.
      let e = end_append depth ts us in
      let first = a.back depth in
      let second = b.back (end_depth depth ts) in
      omega (arith, e, first, second);
}

-- a token behind them, before them, and between two
pub followed : {ts : List Lexeme} {n : ℕ} (k : TokenKind) (p : Spot) → Keeps k → Spans ts n → Spans (ts ++ one k p) n
followed k p keeps a = lower (beside a (token_spans k p keeps)) (omega arith)

pub led : {ts : List Lexeme} {n : ℕ} (k : TokenKind) (p : Spot) → Keeps k → Spans ts n → Spans (one k p ++ ts) n
led k p keeps a = lower (beside (token_spans k p keeps) a) (omega arith)

pub joined_by : {ts us : List Lexeme} {n m : ℕ} (k : TokenKind) (p : Spot) → Keeps k → Spans ts n → Spans us m →
    Spans (ts ++ one k p ++ us) (max n m)
joined_by k p keeps a b = beside (followed k p keeps a) b

-- behind a token that goes deeper, and between two brackets
pub deeper : {ts : List Lexeme} {n : ℕ} (k : TokenKind) (p : Spot) → Opens k → Spans ts n → Spans (one k p ++ ts) (n + 1)
deeper {ts} {n} k p opens a = record {
  reaches = λ depth.
      let e = opens depth in
      let inner = a.reaches (depth_behind k depth) in
      omega (arith, e, inner);
  back = λ depth.
      let e = opens depth in
      let inner = a.back (depth_behind k depth) in
      omega (arith, e, inner);
}

pub bracketed : {ts : List Lexeme} {n : ℕ} (k j : TokenKind) (l m : Spot) → Opens k → Closes j → Spans ts n →
    Spans (one k l ++ ts ++ one j m) (n + 1)
bracketed {ts} {n} k j l m opens closes a = record {
  reaches = λ depth.
      let e = opens depth in
      let inner = a.reaches (depth_behind k depth) in
      let all = deepest_append (depth_behind k depth) ts (one j m) in
      omega (arith, e, inner, all);
  back = λ depth.
      let e = opens depth in
      let inner = a.back (depth_behind k depth) in
      let all = end_append (depth_behind k depth) ts (one j m) in
      let down = closes (end_depth (depth_behind k depth) ts) in
      omega (arith, e, inner, all, down);
}

-- an identifier's token
pub any_keeps : (k : TokenKind) (text : List ℕ) (i : Ident) → any_of k text ≡ Some i → Keeps k
any_keeps kind.CloseParen text i e depth = absurd (cc)
any_keeps kind.CloseBracket text i e depth = absurd (cc)
any_keeps kind.CloseBrace text i e depth = absurd (cc)
any_keeps kind.Semicolon text i e depth = absurd (cc)
any_keeps kind.OpenParen text i e depth = omega arith
any_keeps kind.OpenBracket text i e depth = omega arith
any_keeps kind.OpenBrace text i e depth = omega arith
any_keeps kind.If text i e depth = omega arith
any_keeps _ text i e depth = omega arith
