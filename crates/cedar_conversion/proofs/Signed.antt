-- Signs and numbers: what they had where they gave a value, and what they give.
use Rattle.std.proofs.Common.{◌≡◌, ◌≤◌, ◌<◌, ℕ, zero, suc, Bool, true, false, cond, Option, Some, None, Ok, nat_le, refl, ap, ◌∙◌, ◌⊎◌, inl, inr, arith, pos, neg_ℤ}
use Rattle.cedar_expressions.specs.declared.atoms.Literal.TheVariants as literals
use Rattle.cedar_expressions.specs.Value as v
use Rattle.cedar_expressions.specs.Value.{Value}
use Rattle.cedar_syntax.specs.declared.loc.Loc.{Loc}
use Rattle.cedar_syntax.specs.declared.err.faults.Failure.{Failure}
use Rattle.cedar_syntax.specs.declared.cst.NegOp.TheVariants as sign
use Rattle.cedar_syntax.specs.trees.Trees.{bangs_of, dashes_of}
use Rattle.cedar_syntax.specs.tokens.Signs.{sign_limit}
use Rattle.cedar_conversion.specs.outcome.Conversion.{application_outcome, dashes_outcome, signs_outcome, number_outcome, expression_at}
use Rattle.cedar_conversion.specs.outcome.Held.{Held, as_expression}
use Rattle.cedar_conversion.specs.outcome.Detail as detail
use Rattle.cedar_conversion.specs.outcome.Outcome.{Outcome, next, detailed_outcome, integer_literal_too_large}
use Rattle.cedar_conversion.specs.outcome.Seen.{Refuses}
use Rattle.cedar_conversion.specs.strict.Strict.{iteration, largest}
use Rattle.cedar_conversion.proofs.Inverted.{next_ok, made_is}
use Rattle.cedar_conversion.proofs.Outcomes.{refused_next}

-- what refuses the operand as an expression refuses it with its signs
pub refused_by : (p : Option Loc) (n : ℕ) (g : Value → Value) (o : Outcome Held) (f : Failure) → 0 < n → Refuses f (next o as_expression) → Refuses f (application_outcome p n g o)
refused_by p zero g o f h r = absurd (omega arith)
refused_by p (suc n) g o f h r = refused_next f (next o as_expression) _ r

applied_value : (p : Option Loc) (n : ℕ) (g : Value → Value) (o : Outcome Held) (x : Value) → next (application_outcome p (suc n) g o) as_expression ≡ Ok x
    → (b : Value) × (next o as_expression ≡ Ok b) × (x ≡ iteration (suc n) g b)
applied_value p n g o x e =
    let a = next_ok (application_outcome p (suc n) g o) as_expression x e in
    let b = next_ok (next o as_expression) _ a.0 a.1 in
    (b.0, b.1, made_is p (iteration (suc n) g b.0) x (ap (λ h. next h as_expression) b.2 ∙ a.2))

pub banged_value : (p : Option Loc) (n : ℕ) (o : Outcome Held) (x : Value) → 0 < n → next (application_outcome p n v.not o) as_expression ≡ Ok x → (b : Value) × (next o as_expression ≡ Ok b) × (x ≡ iteration n v.not b)
banged_value p zero o x h e = absurd (omega arith)
banged_value p (suc n) o x h e = applied_value p n v.not o x e

abbrev pub literal_of : ℕ → ℕ → Value
literal_of n k = iteration n v.neg (v.val (literals.Long (neg_ℤ (pos k))))

negative_value : (p : Option Loc) (n k : ℕ) (b : Bool) (x : Value) → nat_le k largest ≡ b → next (cond b (expression_at p (literal_of n k)) (detailed_outcome integer_literal_too_large p (detail.number k))) as_expression ≡ Ok x → (k ≤ largest) × (x ≡ literal_of n k)
negative_value p n k true x h e = (grind (arith, h), cc)
negative_value p n k false x h e = cc

-- the value behind n + 1 times `-`: a literal, or the operand's
abbrev pub IsDashed : ℕ → Option ℕ → Outcome Held → Value → Type 0
IsDashed n bare o x = ((k : ℕ) × (bare ≡ Some k) × (k ≤ largest) × (x ≡ literal_of n k)) ⊎ ((b : Value) × (bare ≡ None) × (next o as_expression ≡ Ok b) × (x ≡ iteration (suc n) v.neg b))

pub dashed_value : (p : Option Loc) (n : ℕ) (bare : Option ℕ) (o : Outcome Held) (x : Value) → next (dashes_outcome p (suc n) bare o) as_expression ≡ Ok x → IsDashed n bare o x
dashed_value p n (Some k) o x e = let h = negative_value p n k (nat_le k largest) x refl e in inl (k, refl, h.0, h.1)
dashed_value p n None o x e = let h = applied_value p n v.neg o x e in inr (h.0, refl, h.1, h.2)

bangs_within : (p : Option Loc) (n : ℕ) (b : Bool) (bare : Option ℕ) (o : Outcome Held) (x : Value) → nat_le n sign_limit ≡ b → next (signs_outcome p (Some (cond b (sign.Bang n) sign.OverBang)) bare o) as_expression ≡ Ok x
    → (n ≤ sign_limit) × (next (application_outcome p n v.not o) as_expression ≡ Ok x)
bangs_within p n true bare o x h e = (grind (arith, h), e)
bangs_within p n false bare o x h e = cc

-- only signs within the limit have a value
pub bangs_value : (p : Option Loc) (n : ℕ) (bare : Option ℕ) (o : Outcome Held) (x : Value) → next (signs_outcome p (Some (bangs_of n)) bare o) as_expression ≡ Ok x → (n ≤ sign_limit) × (next (application_outcome p n v.not o) as_expression ≡ Ok x)
bangs_value p n bare o x e = bangs_within p n (nat_le n sign_limit) bare o x refl e

dashes_within : (p : Option Loc) (n : ℕ) (b : Bool) (bare : Option ℕ) (o : Outcome Held) (x : Value) → nat_le n sign_limit ≡ b → next (signs_outcome p (Some (cond b (sign.Dash n) sign.OverDash)) bare o) as_expression ≡ Ok x
    → (n ≤ sign_limit) × (next (dashes_outcome p n bare o) as_expression ≡ Ok x)
dashes_within p n true bare o x h e = (grind (arith, h), e)
dashes_within p n false bare o x h e = cc

pub dashes_value : (p : Option Loc) (n : ℕ) (bare : Option ℕ) (o : Outcome Held) (x : Value) → next (signs_outcome p (Some (dashes_of n)) bare o) as_expression ≡ Ok x → (n ≤ sign_limit) × (next (dashes_outcome p n bare o) as_expression ≡ Ok x)
dashes_value p n bare o x e = dashes_within p n (nat_le n sign_limit) bare o x refl e

pub bangs_give : (p : Option Loc) (n : ℕ) (bare : Option ℕ) (o : Outcome Held) (a : Value) → 0 < n → n ≤ sign_limit → next o as_expression ≡ Ok a → next (signs_outcome p (Some (bangs_of n)) bare o) as_expression ≡ Ok (iteration n v.not a)
bangs_give p zero bare o a low high e = absurd (omega arith)
bangs_give p (suc n) bare o a low high e = let yes : nat_le (suc n) sign_limit ≡ true = grind arith in rw (yes, e) refl

pub dashes_give : (p : Option Loc) (n : ℕ) (bare : Option ℕ) (o : Outcome Held) (a : Value) → 0 < n → n ≤ sign_limit → bare ≡ None → next o as_expression ≡ Ok a → next (signs_outcome p (Some (dashes_of n)) bare o) as_expression ≡ Ok (iteration n v.neg a)
dashes_give p zero bare o a low high b e = absurd (omega arith)
dashes_give p (suc n) bare o a low high b e = let yes : nat_le (suc n) sign_limit ≡ true = grind arith in rw (yes, b, e) refl

pub negative_gives : (p : Option Loc) (n k : ℕ) (bare : Option ℕ) (o : Outcome Held) → n < sign_limit → k ≤ largest → bare ≡ Some k → next (signs_outcome p (Some (dashes_of (suc n))) bare o) as_expression ≡ Ok (literal_of n k)
negative_gives p n k bare o within fits b =
    let few : nat_le (suc n) sign_limit ≡ true = grind arith in
    let small : nat_le k largest ≡ true = grind arith in
    rw (few, b, small) refl

literal_within : (p : Option Loc) (n : ℕ) (b : Bool) (x : Value) → nat_le largest n ≡ b → next (cond b (detailed_outcome integer_literal_too_large p (detail.number n)) (expression_at p (v.val (literals.Long (pos n))))) as_expression ≡ Ok x → (n < largest) × (x ≡ v.val (literals.Long (pos n)))
literal_within p n true x h e = cc
literal_within p n false x h e = (grind (arith, h), cc)

pub literal_value : (p : Option Loc) (n : ℕ) (x : Value) → next (number_outcome p n) as_expression ≡ Ok x → (n < largest) × (x ≡ v.val (literals.Long (pos n)))
literal_value p n x e = literal_within p n (nat_le largest n) x refl e

pub literal_gives : (p : Option Loc) (n : ℕ) → n < largest → next (number_outcome p n) as_expression ≡ Ok (v.val (literals.Long (pos n)))
literal_gives p n h = let no : nat_le largest n ≡ false = grind arith in rw no refl

-- before what is no number each `-` applies `neg`
pub no_number : (p : Option Loc) (n : ℕ) (o : Outcome Held) → dashes_outcome p n None o ≡ application_outcome p n v.neg o
no_number p zero o = refl
no_number p (suc n) o = refl
