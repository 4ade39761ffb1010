-- What is planned with a kind where an identifier may stand, as cases of the kind.
use Rattle.std.proofs.Common.{◌≡◌, ℕ, List, [], Option, Some, None, cond, refl, sym, ◌∙◌, ap, subst}
use Rattle.cedar_lexer.specs.declared.token.TokenKind.{TokenKind}
use Rattle.cedar_lexer.specs.declared.token.TokenKind.TheVariants as kind
use Rattle.cedar_syntax.specs.declared.cst.Ident.{Ident}
use Rattle.cedar_syntax.specs.tokens.Tokens.{any_of}
use Rattle.cedar_grammar.specs.machines.Machine.{is_some}
use Rattle.cedar_grammar.specs.machines.SingleTokens.{if_any}
use Rattle.cedar_grammar.proofs.machines.Laws.{some_is, none_some}

-- whether a kind is one hangs on no text
pub same_any : (k : TokenKind) (text : List ℕ) → is_some (any_of k []) ≡ is_some (any_of k text)
same_any kind.True text = refl
same_any _ text = refl

pub planned_any : {A : Type 0} (k : TokenKind) (text : List ℕ) (a : A) (i : Ident) → any_of k text ≡ Some i → if_any k a ≡ Some a
planned_any k text a i e = ap (λ b. cond b (Some a) None) (same_any k text ∙ ap (λ o. is_some o) e)

pub unplanned_any : {A : Type 0} (k : TokenKind) (text : List ℕ) (a : A) → any_of k text ≡ None → if_any k a ≡ None
unplanned_any k text a e = ap (λ b. cond b (Some a) None) (same_any k text ∙ ap (λ o. is_some o) e)

-- a number is none
pub no_number : (k : TokenKind) (text : List ℕ) (i : Ident) → any_of k text ≡ Some i → k ≡ kind.Number → ⊥
no_number k text i e f = none_some (ap (λ k. any_of k text) f) e

any_at : {A : Type 0} (P : A → Type 0) (k : TokenKind) (text : List ℕ) (a b : A) (o : Option Ident) → any_of k text ≡ o → if_any k a ≡ Some b → ((i : Ident) → any_of k text ≡ Some i → P a) → P b
any_at P k text a b (Some i) f e h = subst P (some_is (sym (planned_any k text a i f) ∙ e)) (h i f)
any_at P k text a b None f e h = absurd (none_some (unplanned_any k text a f) e)

pub any_case : {A : Type 0} (P : A → Type 0) (k : TokenKind) (text : List ℕ) (a b : A) → if_any k a ≡ Some b → ((i : Ident) → any_of k text ≡ Some i → P a) → P b
any_case P k text a b e h = any_at P k text a b (any_of k text) refl e h
