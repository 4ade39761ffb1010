-- What is planned with a kind in a path or an entity literal, as cases of the kind.
use Rattle.std.proofs.Common.{◌≡◌, ℕ, List, Option, Some, None, refl, subst}
use Rattle.cedar_lexer.specs.declared.token.TokenKind.{TokenKind}
use Rattle.cedar_lexer.specs.declared.token.TokenKind.TheVariants as kind
use Rattle.cedar_syntax.specs.declared.cst.Ident.{Ident}
use Rattle.cedar_expression_machine.specs.declared.words.state.PathAct.TheVariants as path_acts
use Rattle.cedar_expression_machine.specs.declared.words.state.InitAct.{InitAct}
use Rattle.cedar_expression_machine.specs.declared.words.state.InitAct.TheVariants as init_acts
use Rattle.cedar_expression_machine.specs.declared.words.state.WordsAct.{WordsAct}
use Rattle.cedar_expression_machine.specs.declared.words.state.WordsAct.TheVariants as words_acts
use Rattle.cedar_syntax.specs.tokens.Tokens.{any_of}
use Rattle.cedar_grammar.specs.machines.Machine.{option_image}
use Rattle.cedar_expression_machine.specs.machines.WordShapes.{had_plan, more_plan, item_plan, key_plan, value_plan, item_had_plan}
use Rattle.cedar_grammar.proofs.machines.Laws.{some_is, none_some}
use Rattle.cedar_grammar.proofs.machines.SingleTokens.{planned_any, any_case}

-- ---- by the place in a path

pub had_case : {A : Type 0} (P : TokenKind → A → Type 0) (k : TokenKind) (a b : A) → had_plan a k ≡ Some b → P kind.ColonColon a → P k b
had_case P kind.ColonColon a b e h = subst (λ b. P kind.ColonColon b) (some_is e) h
had_case P _ a b e h = absurd (none_some refl e)

pub more_case : (P : TokenKind → WordsAct → Type 0) (k : TokenKind) (text : List ℕ) (b : WordsAct) → more_plan k ≡ Some b → P kind.StringLit words_acts.Eid → P kind.OpenBrace words_acts.Open →
    ((i : Ident) → any_of k text ≡ Some i → P k (words_acts.Path path_acts.More)) → P k b
more_case P kind.StringLit text b e f g h = subst (λ b. P kind.StringLit b) (some_is e) f
more_case P kind.OpenBrace text b e f g h = subst (λ b. P kind.OpenBrace b) (some_is e) g
more_case P k text b e f g h = any_case (λ b. P k b) k text (words_acts.Path path_acts.More) b e h

pub planned_more : (k : TokenKind) (text : List ℕ) (i : Ident) → any_of k text ≡ Some i → more_plan k ≡ Some (words_acts.Path path_acts.More)
planned_more kind.StringLit text i e = absurd (none_some refl e)
planned_more kind.OpenBrace text i e = absurd (none_some refl e)
planned_more k text i e = planned_any k text (words_acts.Path path_acts.More) i e

-- ---- by the place in braces

pub item_case : (P : TokenKind → InitAct → Type 0) (k : TokenKind) (text : List ℕ) (b : InitAct) → item_plan k ≡ Some b → P kind.CloseBrace init_acts.Close → ((i : Ident) → any_of k text ≡ Some i → P k init_acts.Key) → P k b
item_case P kind.CloseBrace text b e f h = subst (λ b. P kind.CloseBrace b) (some_is e) f
item_case P k text b e f h = any_case (λ b. P k b) k text init_acts.Key b e h

pub planned_item : (k : TokenKind) (text : List ℕ) (i : Ident) → any_of k text ≡ Some i → item_plan k ≡ Some init_acts.Key
planned_item kind.CloseBrace text i e = absurd (none_some refl e)
planned_item k text i e = planned_any k text init_acts.Key i e

pub key_case : (P : TokenKind → InitAct → Type 0) (k : TokenKind) (b : InitAct) → key_plan k ≡ Some b → P kind.Colon init_acts.Colon → P k b
key_case P kind.Colon b e f = subst (λ b. P kind.Colon b) (some_is e) f
key_case P _ b e f = absurd (none_some refl e)

pub value_case : (P : TokenKind → InitAct → Type 0) (k : TokenKind) (b : InitAct) → value_plan k ≡ Some b → P kind.True init_acts.True → P kind.False init_acts.False → P kind.Number init_acts.Number → P kind.StringLit init_acts.String → P k b
value_case P kind.True b e f g h i = subst (λ b. P kind.True b) (some_is e) f
value_case P kind.False b e f g h i = subst (λ b. P kind.False b) (some_is e) g
value_case P kind.Number b e f g h i = subst (λ b. P kind.Number b) (some_is e) h
value_case P kind.StringLit b e f g h i = subst (λ b. P kind.StringLit b) (some_is e) i
value_case P _ b e f g h i = absurd (none_some refl e)

pub item_had_case : (P : TokenKind → InitAct → Type 0) (k : TokenKind) (b : InitAct) → item_had_plan k ≡ Some b → P kind.Comma init_acts.Comma → P kind.CloseBrace init_acts.Close → P k b
item_had_case P kind.Comma b e f g = subst (λ b. P kind.Comma b) (some_is e) f
item_had_case P kind.CloseBrace b e f g = subst (λ b. P kind.CloseBrace b) (some_is e) g
item_had_case P _ b e f g = absurd (none_some refl e)

-- what is planned in braces is planned of the whole
pub image_case : {A B : Type 0} (g : A → B) (P : B → Type 0) (o : Option A) (b : B) → option_image g o ≡ Some b → ((a : A) → o ≡ Some a → P (g a)) → P b
image_case g P (Some a) b e h = subst P (some_is e) (h a refl)
image_case g P None b e h = absurd (none_some refl e)
