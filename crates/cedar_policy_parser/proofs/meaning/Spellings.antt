-- What is spelled as an identifier for the lexer and for names, and what the identifier of a text
-- gives.
use Rattle.std.proofs.Common.{◌≡◌, ◌∙◌, ℕ, Bool, true, false, ◌&&◌, not, cond, List, [], ◌∷◌, codes, Option, Some, None, Ok, refl, sym, ap, subst}
use Rattle.std.specs.Bool.{Decides}
use Rattle.std.specs.List.{list_all}
use Rattle.std.specs.Str.{bytes_eq}
use Rattle.std.proofs.lemmas.List.Elements.{All-nil, All-cons}
use Rattle.std.proofs.lemmas.List.Folds.{list_any_none}
use Rattle.std.proofs.lemmas.List.Sums.{AllPass-from_list_all, list_all-from_AllPass}
use Rattle.std.proofs.lemmas.Slice.Eq.{bytes_eq-Decides}
use Rattle.cedar_lexer.specs.Cut.{Cuts}
use Rattle.cedar_lexer.specs.Spelling.{HasOwnKind, IsIdentifierText, Spells, one_text}
use Rattle.cedar_lexer.specs.Token.{Lexeme}
use Rattle.cedar_lexer.specs.declared.token.TokenKind.{TokenKind}
use Rattle.cedar_lexer.specs.declared.token.TokenKind.TheVariants as kind
use Rattle.cedar_expressions.specs.Path.{begins_identifier, continues_identifier, is_identifier, is_reserved_word, is_valid_identifier, reserved_words}
use Rattle.cedar_syntax.specs.declared.cst.Ident.{Ident}
use Rattle.cedar_syntax.specs.declared.loc.Loc.{Loc}
use Rattle.cedar_grammar.specs.grammar.Grammar.{IsTreeOf}
use Rattle.cedar_grammar.specs.grammar.LooseWords.{ReadsAny, any, ReadsIdent}
use Rattle.cedar_grammar.specs.grammar.Place.{placed, placed_or_start}
use Rattle.cedar_syntax.specs.tokens.Tokens.{one, any_of}
use Rattle.cedar_syntax.specs.trees.Trees.{Cell}
use Rattle.cedar_conversion.specs.parts.Names.{spelling_outcome as spelled_text, any_ident_of, any_ident}
use Rattle.cedar_conversion.specs.outcome.Detail.{spelling}
use Rattle.cedar_conversion.specs.outcome.Outcome.{Outcome, detailed_outcome, invalid_identifier}
use Rattle.cedar_policy_parser.proofs.standing.Fitting.{Spelled, laid_spelled}

abbrev given_text : List ℕ → Outcome (List ℕ)
given_text text = Ok text

abbrev some_text : List ℕ → Option (List ℕ)
some_text text = Some text

each : (a b : Bool) → (a && b) ≡ true → (a ≡ true) × (b ≡ true)
each true b h = (refl, h)
each false b h = cc

both : (a b : Bool) → a ≡ true → b ≡ true → (a && b) ≡ true
both a b h k = rw (h, k) refl

pub named : (text : List ℕ) → IsIdentifierText text → is_identifier text ≡ true
named [] h = absurd h
named (b ∷ bs) h = both (begins_identifier b) (list_all continues_identifier bs) h.0 (list_all-from_AllPass continues_identifier bs h.1)

pub spelled : (text : List ℕ) → is_identifier text ≡ true → IsIdentifierText text
spelled [] h = cc
spelled (b ∷ bs) h =
    let all = each (begins_identifier b) (list_all continues_identifier bs) h in
    (all.0, AllPass-from_list_all continues_identifier bs all.1)

-- ---- an IDENTIFIER is none of the words

undecided : {P : Type 0} (b : Bool) → Decides b P → ¬ P → b ≡ false
undecided true d h = absurd (h (d.0 refl))
undecided false d h = refl

no_word : (text : List ℕ) → ¬ (HasOwnKind text) → (k : TokenKind) (word : List ℕ) → one_text k ≡ Some word → bytes_eq text word ≡ false
no_word text h k word e = undecided (bytes_eq text word) (bytes_eq-Decides text word) (λ same. h (k, e ∙ ap (λ x. Some x) (sym same)))

abbrev IsNot : List ℕ → List ℕ → Type 0
IsNot text word = bytes_eq text word ≡ false

not_reserved : (text : List ℕ) → ¬ (HasOwnKind text) → is_reserved_word text ≡ false
not_reserved text h =
    list_any_none (bytes_eq text) reserved_words
    (All-cons (IsNot text) (codes "if") (codes "true" ∷ codes "false" ∷ codes "then" ∷ codes "else" ∷ codes "in" ∷ codes "is" ∷ codes "has" ∷ codes "like" ∷ []) (no_word text h kind.If (codes "if") refl)
    (All-cons (IsNot text) (codes "true") (codes "false" ∷ codes "then" ∷ codes "else" ∷ codes "in" ∷ codes "is" ∷ codes "has" ∷ codes "like" ∷ []) (no_word text h kind.True (codes "true") refl)
    (All-cons (IsNot text) (codes "false") (codes "then" ∷ codes "else" ∷ codes "in" ∷ codes "is" ∷ codes "has" ∷ codes "like" ∷ []) (no_word text h kind.False (codes "false") refl)
    (All-cons (IsNot text) (codes "then") (codes "else" ∷ codes "in" ∷ codes "is" ∷ codes "has" ∷ codes "like" ∷ []) (no_word text h kind.Then (codes "then") refl)
    (All-cons (IsNot text) (codes "else") (codes "in" ∷ codes "is" ∷ codes "has" ∷ codes "like" ∷ []) (no_word text h kind.Else (codes "else") refl)
    (All-cons (IsNot text) (codes "in") (codes "is" ∷ codes "has" ∷ codes "like" ∷ []) (no_word text h kind.In (codes "in") refl)
    (All-cons (IsNot text) (codes "is") (codes "has" ∷ codes "like" ∷ []) (no_word text h kind.Is (codes "is") refl)
    (All-cons (IsNot text) (codes "has") (codes "like" ∷ []) (no_word text h kind.Has (codes "has") refl)
    (All-cons (IsNot text) (codes "like") [] (no_word text h kind.Like (codes "like") refl) (All-nil (IsNot text)))))))))))

-- so a name may hold it
pub valid_word : (text : List ℕ) → Spells kind.Identifier text → is_valid_identifier text ≡ true
valid_word text h = both (is_identifier text) (not (is_reserved_word text)) (named text h.0) (ap not (not_reserved text h.1))

-- ---- the identifier that a token is

some_is : {x y : List ℕ} → some_text x ≡ some_text y → x ≡ y
some_is e = cc

abbrev AnyGiven : Option Loc → List ℕ → Option Ident → Type 0
AnyGiven p text None = Unit {0}
AnyGiven p text (Some i) = any_ident_of p i ≡ given_text text

spelled_given : (p : Option Loc) (text : List ℕ) → is_identifier text ≡ true → spelled_text p text ≡ given_text text
spelled_given p text h = ap (λ b. cond b (given_text text) (detailed_outcome invalid_identifier p (spelling text))) h

given_word : (p : Option Loc) (k : TokenKind) (text : List ℕ) → Spells k text → AnyGiven p text (any_of k text)
given_word p kind.True text h = ap given_text (some_is h)
given_word p kind.False text h = ap given_text (some_is h)
given_word p kind.If text h = ap given_text (some_is h)
given_word p kind.Permit text h = ap given_text (some_is h)
given_word p kind.Forbid text h = ap given_text (some_is h)
given_word p kind.When text h = ap given_text (some_is h)
given_word p kind.Unless text h = ap given_text (some_is h)
given_word p kind.In text h = ap given_text (some_is h)
given_word p kind.Has text h = ap given_text (some_is h)
given_word p kind.Like text h = ap given_text (some_is h)
given_word p kind.Is text h = ap given_text (some_is h)
given_word p kind.Then text h = ap given_text (some_is h)
given_word p kind.Else text h = ap given_text (some_is h)
given_word p kind.Principal text h = ap given_text (some_is h)
given_word p kind.Action text h = ap given_text (some_is h)
given_word p kind.Resource text h = ap given_text (some_is h)
given_word p kind.Context text h = ap given_text (some_is h)
given_word p kind.Identifier text h = spelled_given p text (named text h.0)
given_word p k text h = tt

-- a token that is an identifier, and the text that its node gives
record TextGiven (text : List ℕ) (ts : List Lexeme) (tree : Cell Ident) : Type 0 where
  token : Lexeme
  alone : ts ≡ token ∷ []
  gives : any_ident tree ≡ given_text token.text

token_given : (text : List ℕ) (ts : List Lexeme) (tree : Cell Ident) (i : Ident) → ReadsAny ts i → Spelled ts → tree ≡ placed_or_start text ts i → TextGiven text ts tree
token_given text ts tree i (any {k = k} p e) h is = record {
  token = record { kind = k; start = p.start; end = p.end; text = p.text };
  alone = refl;
  gives = ap any_ident is ∙ subst (AnyGiven (placed text (one k p) i).loc p.text) e (given_word (placed text (one k p) i).loc k p.text h.0);
}

pub text_given : (text : List ℕ) (tree : Cell Ident) → IsTreeOf ReadsIdent text tree → (t : Lexeme) × Cuts text (t ∷ []) × (any_ident tree ≡ given_text t.text)
text_given text tree g =
    let d = token_given text g.tokens tree g.stands.tree g.stands.reads (laid_spelled g.cut) g.stands.is in
    (d.token, subst (Cuts text) d.alone g.cut, d.gives)
