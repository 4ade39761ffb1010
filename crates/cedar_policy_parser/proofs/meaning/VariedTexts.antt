-- Added space and parentheses leave the meaning of a text as it is.
use Rattle.std.proofs.Common.{◌≡◌, ℕ, true, false, List, [], ◌∷◌, ◌++◌, length, codes, refl, sym, ap, ◌∙◌, subst, append_assoc, Some, None, Ok, Err}
use Rattle.std.specs.Prelude.{Result, IfOk}
use Rattle.std.specs.Str.{IsUtf8}
use Rattle.cedar_lexer.specs.Cut.{Cuts}
use Rattle.cedar_lexer.specs.Token.{Lexeme}
use Rattle.cedar_lexer.specs.declared.token.TokenKind.TheVariants as kind
use Rattle.cedar_policy_store.specs.PlaceFree.{Policies}
use Rattle.cedar_grammar.specs.declared.reading.extent.Extent.{Extent}
use Rattle.cedar_grammar.specs.grammar.Place.{extent, extent_of, joint_extent, placed}
use Rattle.cedar_syntax.specs.tokens.Signs.{sign_limit}
use Rattle.cedar_syntax.specs.tokens.Tokens.{Spot, one}
use Rattle.cedar_syntax.specs.trees.Trees.{Cell}
use Rattle.cedar_syntax.specs.trees.UnlocatedTrees.{BarePolicy}
use Rattle.cedar_lexer.specs.Varied as varied
use Rattle.cedar_lexer.specs.Varied.{IsPadding, BeginsAt, NoSlashBefore, FitsBefore, last_end}
use Rattle.cedar_lexer.specs.Words.{words_of}
use Rattle.cedar_lexer.proofs.Padded.{padded_cut, enclosed_cut, words_join}
use Rattle.cedar_grammar.proofs.again.SamePolicies.{policies_same}
use Rattle.cedar_conversion.specs.strict.Extensions.{Extensions}
use Rattle.cedar_policy_parser.specs.meaning.StrictPolicy.{IsPolicySet}
use Rattle.cedar_policy_parser.specs.meaning.VariedTexts.{SpacesKeep, ParenthesesKeep}
use Rattle.cedar_policy_parser.proofs.independent.IndependentSets.{sets_same}
use Rattle.cedar_policy_parser.proofs.meaning.Enclosed.{set_in_parentheses}
use Rattle.cedar_policy_parser.proofs.meaning.NoSlash.{is_slash, NoneIsSlash, no_slash}
use Rattle.cedar_policy_parser.proofs.ParsedSets.{OneCut}
use Rattle.cedar_policy_parser.proofs.complete.Sets.{set_read}
use Rattle.cedar_policy_parser.proofs.sound.Sets.{set_meant}

-- ---- tokens with the same words mean the same

pub same_words_mean : (table : Extensions) (ts us : List Lexeme) (set : Policies) → IsPolicySet table sign_limit ts set → words_of us ≡ words_of ts → IsPolicySet table sign_limit us set
same_words_mean table ts us set h e =
    let d = set_read table [] h in
    let a = policies_same d.reads [] us e in
    set_meant table set a.reads (sets_same table (placed [] ts d.tree) (placed [] us a.tree) set (ap (λ (c : List (Cell BarePolicy)). record { node = Some c; loc = None }) (sym a.same)) d.gives)

-- ---- padding

no_slash_before : (place : ℕ) (ts : List Lexeme) → NoneIsSlash ts → NoSlashBefore place ts
no_slash_before place [] h = tt
no_slash_before place (t ∷ ts) h = (λ at is. differs (sym (ap is_slash is) ∙ h.0), no_slash_before place ts h.1)
  where
    differs : true ≡ false → ⊥
    differs e = cc

fits : {padding : List ℕ} (p : IsPadding padding) (place : ℕ) (ts : List Lexeme) → NoneIsSlash ts → FitsBefore p place ts
fits (varied.space c white) place ts h = tt
fits (varied.comment line end inside ends) place ts h = no_slash_before place ts h

pub spaces_keep : OneCut → (table : Extensions) (text : List ℕ) (all : List Lexeme) (set : Policies) → IsUtf8 text → Cuts text all → IsPolicySet table sign_limit all set → SpacesKeep table sign_limit text set
spaces_keep one_cut table text all set u whole h front padding rest ts e cut begins p =
    let means : IsPolicySet table sign_limit ts set = subst (λ xs. IsPolicySet table sign_limit xs set) (one_cut text all ts whole cut) h in
    let d = padded_cut front padding rest ts (subst IsUtf8 e u) (subst (λ x. Cuts x ts) e cut) begins p (fits p (length front) ts (no_slash means).none) in
    (d.0, d.1, same_words_mean table ts d.0 set means d.2)

-- ---- parentheses

abbrev extent_at : ℕ → ℕ → Extent
extent_at a b = record { start = a; end = b }

extent_is : (t : Lexeme) (ts : List Lexeme) → extent (t ∷ ts) ≡ Some (extent_at t.start (last_end (t ∷ ts)))
extent_is t [] = refl
extent_is t (u ∷ us) = ap (joint_extent (Some (extent_of t))) (extent_is u us)

extents_are : {e d : Extent} → Some e ≡ Some d → e ≡ d
extents_are h = cc

enclosed_words : (before vs after : List Lexeme) (l m : Spot) → words_of (before ++ (one kind.OpenParen l ++ vs ++ one kind.CloseParen m) ++ after)
    ≡ words_of before ++ (record { kind = kind.OpenParen; text = l.text } ∷ (words_of vs ++ (record { kind = kind.CloseParen; text = m.text } ∷ words_of after)))
enclosed_words before vs after l m =
    ap words_of (append_assoc before (one kind.OpenParen l ++ vs ++ one kind.CloseParen m) after)
    ∙ words_join before ((one kind.OpenParen l ++ vs ++ one kind.CloseParen m) ++ after)
    ∙ ap (λ ws. words_of before ++ (record { kind = kind.OpenParen; text = l.text } ∷ ws)) (ap words_of (append_assoc vs (one kind.CloseParen m) after) ∙ words_join vs (one kind.CloseParen m ++ after))

-- tokens mean at most one set
abbrev pub OneSet : Extensions → Type 0
OneSet table = (ts : List Lexeme) (v w : Policies) → IsPolicySet table sign_limit ts v → IsPolicySet table sign_limit ts w → v ≡ w

pub parentheses_keep : OneCut → (table : Extensions) → OneSet table → (text : List ℕ) (all : List Lexeme) (set : Policies) → IsUtf8 text → Cuts text all → IsPolicySet table sign_limit all set
    → ParenthesesKeep table sign_limit text set
parentheses_keep one_cut table one_set text all set u whole h front middle rest before [] after other e cut where_is stands = absurd (cc)
parentheses_keep one_cut table one_set text all set u whole h front middle rest before (t ∷ ts) after other e cut where_is stands =
    let vs = t ∷ ts in
    let i = set_in_parentheses table sign_limit before vs after other stands in
    let means : IsPolicySet table sign_limit (before ++ vs ++ after) set = subst (λ xs. IsPolicySet table sign_limit xs set) (one_cut text all (before ++ vs ++ after) whole cut) h in
    let same : other ≡ set = one_set (before ++ vs ++ after) other set i.0 means in
    let place = extents_are (sym (extent_is t ts) ∙ where_is) in
    let laid : Cuts (front ++ (middle ++ rest)) (before ++ t ∷ (ts ++ after)) = subst (Cuts (front ++ (middle ++ rest))) (append_assoc before vs after) (subst (λ x. Cuts x (before ++ vs ++ after)) e cut) in
    let d = enclosed_cut front middle rest before t ts after (subst IsUtf8 e u) laid (ap (λ (e : Extent). e.start) place) (ap (λ (e : Extent). e.end) place) in
    let l : Spot = record { start = 0; end = 0; text = codes "(" } in
    let m : Spot = record { start = 0; end = 0; text = codes ")" } in
    let within : IsPolicySet table sign_limit (before ++ (one kind.OpenParen l ++ vs ++ one kind.CloseParen m) ++ after) set = subst (IsPolicySet table sign_limit (before ++ (one kind.OpenParen l ++ vs ++ one kind.CloseParen m) ++ after)) same (i.1 l m) in
    (d.0, d.1, same_words_mean table (before ++ (one kind.OpenParen l ++ vs ++ one kind.CloseParen m) ++ after) d.0 set within (d.2 ∙ sym (enclosed_words before vs after l m)))

-- ---- as clauses of a call that answers what a text means

pub spaces_clause : {S E : Type 0} → OneCut → (table : Extensions) (meaning : S → Policies) (text : List ℕ) (r : Result S E) → IsUtf8 text
    → IfOk r (λ x. (ts : List Lexeme) × Cuts text ts × IsPolicySet table sign_limit ts (meaning x)) → IfOk r (λ x. SpacesKeep table sign_limit text (meaning x))
spaces_clause one_cut table meaning text (Ok x) u h = spaces_keep one_cut table text h.0 (meaning x) u h.1 h.2
spaces_clause one_cut table meaning text (Err e) u h = tt

pub parentheses_clause : {S E : Type 0} → OneCut → (table : Extensions) → OneSet table → (meaning : S → Policies) (text : List ℕ) (r : Result S E) → IsUtf8 text
    → IfOk r (λ x. (ts : List Lexeme) × Cuts text ts × IsPolicySet table sign_limit ts (meaning x)) → IfOk r (λ x. ParenthesesKeep table sign_limit text (meaning x))
parentheses_clause one_cut table one_set meaning text (Ok x) u h = parentheses_keep one_cut table one_set text h.0 (meaning x) u h.1 h.2
parentheses_clause one_cut table one_set meaning text (Err e) u h = tt
