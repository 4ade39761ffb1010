-- Signs before an operand: what is given is an expression, and which one.
use Rattle.std.proofs.Common.{◌≡◌, ◌≤◌, ◌<◌, ◌+◌, ◌^◌, ℕ, zero, suc, Bool, true, false, cond, nat_le, List, [], ◌∷◌, ◌++◌, Option, Some, None, Ok, sym, ap, ◌∙◌, inl, inr, arith, add-one}
use Rattle.cedar_lexer.specs.Token.{Lexeme}
use Rattle.cedar_lexer.specs.declared.token.TokenKind.{TokenKind}
use Rattle.cedar_lexer.specs.declared.token.TokenKind.TheVariants as kind
use Rattle.cedar_expressions.specs.Value as v
use Rattle.cedar_expressions.specs.Value.{Value}
use Rattle.cedar_syntax.specs.declared.loc.Loc.{Loc}
use Rattle.cedar_syntax.specs.declared.cst.NegOp.TheVariants as sign
use Rattle.cedar_grammar.specs.grammar.LooseExpressions as l
use Rattle.cedar_grammar.specs.grammar.LooseExpressions.{ReadsSigns}
use Rattle.cedar_syntax.specs.tokens.Tokens.{number_of}
use Rattle.cedar_syntax.specs.trees.Trees.{bangs_of, dashes_of}
use Rattle.cedar_syntax.specs.tokens.Signs.{sign_limit}
use Rattle.cedar_conversion.specs.outcome.Conversion.{application_outcome, dashes_outcome, signs_outcome, expression_at, negative}
use Rattle.cedar_conversion.specs.strict.Extensions.{Extensions}
use Rattle.cedar_conversion.specs.outcome.Held.{Held, expression, as_expression}
use Rattle.cedar_conversion.specs.outcome.Detail as detail
use Rattle.cedar_conversion.specs.outcome.Outcome.{Outcome, next, integer_literal_too_large}
use Rattle.cedar_conversion.specs.strict.Strict as m
use Rattle.cedar_conversion.specs.strict.Strict.{largest}
use Rattle.cedar_conversion.proofs.Inverted.{ok_is, next_ok, if_ok}
use Rattle.cedar_conversion.proofs.Signed.{banged_value, bangs_value, dashed_value, dashes_value, literal_of}
use Rattle.cedar_policy_parser.proofs.sound.Bare.{Meant, HeldAs, means_at}
use Rattle.cedar_policy_parser.proofs.sound.Leaves.{held_as}
use Rattle.cedar_policy_parser.proofs.sound.Numerals.{IsBareAs}

pub signs_there : {k : TokenKind} {ts : List Lexeme} {n : ℕ} → ReadsSigns k ts n → 0 < n
signs_there (l.one_sign p) = omega arith
signs_there (l.more_signs p r) = omega arith

applied_made : (place : Option Loc) (n : ℕ) (g : Value → Value) (x : Outcome Held) (h : Held) → application_outcome place (suc n) g x ≡ Ok h → (w : Value) × (expression place w ≡ h)
applied_made place n g x h k = let d = next_ok (next x as_expression) _ h k in (_, ok_is d.2)

bangs_made : (place : Option Loc) (n : ℕ) (b : Bool) (bare : Option ℕ) (x : Outcome Held) (h : Held) → signs_outcome place (Some (cond b (sign.Bang (suc n)) sign.OverBang)) bare x ≡ Ok h → (w : Value) × (expression place w ≡ h)
bangs_made place n true bare x h k = applied_made place n v.not x h k
bangs_made place n false bare x h k = cc

some_bangs : (place : Option Loc) (n : ℕ) (bare : Option ℕ) (x : Outcome Held) (h : Held) → 0 < n → signs_outcome place (Some (bangs_of n)) bare x ≡ Ok h → (w : Value) × (expression place w ≡ h)
some_bangs place zero bare x h low k = absurd (omega arith)
some_bangs place (suc n) bare x h low k = bangs_made place n (nat_le (suc n) sign_limit) bare x h k

pub banged_held : (e : Extensions) (ts us : List Lexeme) (place : Option Loc) (n : ℕ) (bare : Option ℕ) (x : Outcome Held) (h : Held) → ReadsSigns kind.Bang ts n → ((a : Value) → next x as_expression ≡ Ok a → Meant e m.member us a)
    → signs_outcome place (Some (bangs_of n)) bare x ≡ Ok h → HeldAs e m.signed (ts ++ us) h
banged_held e ts us place n bare x h r operand_is k =
    let w = some_bangs place n bare x h (signs_there r) k in
    let few = bangs_value place n bare x w.0 (ap (λ o. next o as_expression) (k ∙ ap Ok (sym w.1))) in
    let d = banged_value place n x w.0 (signs_there r) few.1 in
    held_as e m.signed (ts ++ us) (expression place w.0) h w.1 (means_at d.2 (m.negated r few.0 (operand_is d.0 d.1)))

-- ---- `-`

negative_made : (place : Option Loc) (n k : ℕ) (h : Held) → negative place n k ≡ Ok h → (w : Value) × (expression place w ≡ h)
negative_made place n k h g =
    let d = if_ok (nat_le k largest) (expression_at place (literal_of n k)) ((integer_literal_too_large, place, detail.number k) ∷ []) h g in
    (_, ok_is d.1)

dashed_made : (place : Option Loc) (n : ℕ) (bare : Option ℕ) (x : Outcome Held) (h : Held) → dashes_outcome place (suc n) bare x ≡ Ok h → (w : Value) × (expression place w ≡ h)
dashed_made place n (Some k) x h g = negative_made place n k h g
dashed_made place n None x h g = applied_made place n v.neg x h g

dashes_made : (place : Option Loc) (n : ℕ) (b : Bool) (bare : Option ℕ) (x : Outcome Held) (h : Held) → signs_outcome place (Some (cond b (sign.Dash (suc n)) sign.OverDash)) bare x ≡ Ok h → (w : Value) × (expression place w ≡ h)
dashes_made place n true bare x h k = dashed_made place n bare x h k
dashes_made place n false bare x h k = cc

some_dashes : (place : Option Loc) (n : ℕ) (bare : Option ℕ) (x : Outcome Held) (h : Held) → 0 < n → signs_outcome place (Some (dashes_of n)) bare x ≡ Ok h → (w : Value) × (expression place w ≡ h)
some_dashes place zero bare x h low k = absurd (omega arith)
some_dashes place (suc n) bare x h low k = dashes_made place n (nat_le (suc n) sign_limit) bare x h k

dashed_meant : (e : Extensions) (ts us : List Lexeme) (place : Option Loc) (n : ℕ) (bare : Option ℕ) (o : Outcome Held) (w : Value) → ReadsSigns kind.Minus ts n → n ≤ sign_limit → IsBareAs bare us
    → ((a : Value) → next o as_expression ≡ Ok a → Meant e m.member us a) → next (dashes_outcome place n bare o) as_expression ≡ Ok w → Meant e m.signed (ts ++ us) w
dashed_meant e ts us place zero bare o w r few b operand_is h = let low = signs_there r in absurd (omega (arith, low))
dashed_meant e ts us place (suc n) (Some k) o w r few b operand_is h = elim (dashed_value place n (Some k) o w h) [
  | inl i ↦
      let same : k ≡ i.0 = cc in
      let number : number_of b.0.text ≡ i.0 = b.2 ∙ same in
      let read : ReadsSigns kind.Minus ts (n + 1) = rw add-one r in
      let small : number_of b.0.text ≤ 2 ^ 63 = rw number i.2 in
      let value : w ≡ literal_of n (number_of b.0.text) = rw number i.3 in
      rw (b.1, value) (m.negative n b.0 read (omega (arith, few)) small)
  | inr i ↦ cc
]
dashed_meant e ts us place (suc n) None o w r few b operand_is h = elim (dashed_value place n None o w h) [
  | inl i ↦ cc
  | inr i ↦ means_at i.3 (m.opposite r few b (operand_is i.0 i.2))
]

pub dashed_held : (e : Extensions) (ts us : List Lexeme) (place : Option Loc) (n : ℕ) (bare : Option ℕ) (x : Outcome Held) (h : Held) → ReadsSigns kind.Minus ts n → IsBareAs bare us → ((a : Value) → next x as_expression ≡ Ok a → Meant e m.member us a)
    → signs_outcome place (Some (dashes_of n)) bare x ≡ Ok h → HeldAs e m.signed (ts ++ us) h
dashed_held e ts us place n bare x h r b operand_is k =
    let w = some_dashes place n bare x h (signs_there r) k in
    let few = dashes_value place n bare x w.0 (ap (λ o. next o as_expression) (k ∙ ap Ok (sym w.1))) in
    held_as e m.signed (ts ++ us) (expression place w.0) h w.1 (dashed_meant e ts us place n bare x w.0 r few.0 b operand_is few.1)
