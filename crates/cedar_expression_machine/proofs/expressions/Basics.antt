-- Extents, runs and signs, one step more.
use Rattle.std.specs.Prelude.{cond, nat_le, nat_lt}
use Rattle.std.proofs.Common.{◌≡◌, ℕ, ◌+◌, ◌≤◌, ◌<◌, List, ◌++◌, Some, None, Bool, true, false, refl, sym, ap, arith}
use Rattle.std.proofs.lemmas.Bool.{leb-true, leb-false, lt-leb, lt-ltb, le-ltb}
use Rattle.cedar_lexer.specs.Token.{Lexeme}
use Rattle.cedar_lexer.specs.declared.token.TokenKind.{TokenKind}
use Rattle.cedar_syntax.specs.declared.cst.NegOp.TheVariants as neg
use Rattle.cedar_grammar.specs.declared.reading.class.Sign.TheVariants as sign
use Rattle.cedar_grammar.specs.grammar.Place.{joint_extent, extent}
use Rattle.cedar_syntax.specs.tokens.Signs.{sign_limit}
use Rattle.cedar_syntax.specs.trees.Trees.{bangs_of, dashes_of}
use Rattle.cedar_syntax.specs.tokens.Tokens.{Spot, one}
use Rattle.cedar_grammar.specs.machines.Classes.{with_sign}
pub use Rattle.cedar_grammar.proofs.machines.Extents.{join-assoc, extent-append, at}

pub chain_extent : (ts us : List Lexeme) (k : TokenKind) (p : Spot) → joint_extent (joint_extent (extent ts) (Some (at p))) (extent us) ≡ extent (ts ++ one k p ++ us)
chain_extent ts us k p = rw (extent-append (ts ++ one k p) us, extent-append ts (one k p))

-- one sign more, at the limit and below it

limit_more : (k n : ℕ) (a b : Bool) → nat_le n k ≡ a → nat_le (n + 1) k ≡ b → nat_lt n k ≡ b
limit_more k n a true e f = let g : n + 1 ≤ k = leb-true (n + 1) k f in let h : n < k = omega arith in lt-ltb n k h
limit_more k n a false e f = let g : k < n + 1 = leb-false (n + 1) k f in let h : k ≤ n = omega arith in le-ltb n k h

over_more : (k n : ℕ) → nat_le n k ≡ false → nat_le (n + 1) k ≡ false
over_more k n e = let g : k < n = leb-false n k e in let h : k < n + 1 = omega arith in lt-leb (n + 1) k h

pub bang_more : (n : ℕ) → with_sign (Some (bangs_of n)) sign.Bang ≡ Some (bangs_of (n + 1))
bang_more n = go (nat_le n sign_limit) refl
  where
    go : (a : Bool) → nat_le n sign_limit ≡ a → with_sign (Some (cond a (neg.Bang n) neg.OverBang)) sign.Bang ≡ Some (bangs_of (n + 1))
    go true e = ap (λ b. Some (cond b (neg.Bang (n + 1)) neg.OverBang)) (limit_more sign_limit n true (nat_le (n + 1) sign_limit) e refl)
    go false e = ap (λ b. Some (cond b (neg.Bang (n + 1)) neg.OverBang)) (sym (over_more sign_limit n e))

pub dash_more : (n : ℕ) → with_sign (Some (dashes_of n)) sign.Dash ≡ Some (dashes_of (n + 1))
dash_more n = go (nat_le n sign_limit) refl
  where
    go : (a : Bool) → nat_le n sign_limit ≡ a → with_sign (Some (cond a (neg.Dash n) neg.OverDash)) sign.Dash ≡ Some (dashes_of (n + 1))
    go true e = ap (λ b. Some (cond b (neg.Dash (n + 1)) neg.OverDash)) (limit_more sign_limit n true (nat_le (n + 1) sign_limit) e refl)
    go false e = ap (λ b. Some (cond b (neg.Dash (n + 1)) neg.OverDash)) (sym (over_more sign_limit n e))

pub bang_dash : (n : ℕ) → with_sign (Some (bangs_of n)) sign.Dash ≡ None
bang_dash n = go (nat_le n sign_limit)
  where
    go : (a : Bool) → with_sign (Some (cond a (neg.Bang n) neg.OverBang)) sign.Dash ≡ None
    go true = refl
    go false = refl

pub dash_bang : (n : ℕ) → with_sign (Some (dashes_of n)) sign.Bang ≡ None
dash_bang n = go (nat_le n sign_limit)
  where
    go : (a : Bool) → with_sign (Some (cond a (neg.Dash n) neg.OverDash)) sign.Bang ≡ None
    go true = refl
    go false = refl
