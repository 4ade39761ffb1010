-- The words of a line are cut as just these words.
use Rattle.std.proofs.Common.{◌≡◌, ℕ, ◌+◌, true, false, List, [], ◌∷◌, ◌++◌, length, drop, refl, sym, ap, ◌∙◌, subst, arith, append-nil, append_assoc, Some}
use Rattle.std.specs.Prelude.{not, slice_index}
use Rattle.std.proofs.lemmas.Bool.{cond_both, and_parts, not-true}
use Rattle.std.proofs.lemmas.List.{length-append}
use Rattle.cedar_lexer.specs.Cut.{Layout, nothing, skip, token, Cuts, IsSkip, IsSkipAt, space}
use Rattle.std.proofs.lemmas.Str.{encode_ascii}
use Rattle.cedar_lexer.specs.Scan.{spelling}
use Rattle.cedar_lexer.specs.Spelling.{Spells}
use Rattle.cedar_lexer.specs.Token.{Lexeme}
use Rattle.cedar_lexer.specs.Words.{TokenText, words_of, AreSpelled}
use Rattle.cedar_lexer.specs.declared.token.TokenKind.{TokenKind}
use Rattle.cedar_lexer.specs.declared.token.TokenKind.TheVariants as kind
use Rattle.cedar_lexer.proofs.Cuts.{laid_on}
use Rattle.cedar_lexer.proofs.Ends.{at_end, scan_ends, scanned}
use Rattle.cedar_lexer.proofs.Skips.{spelling_some}
use Rattle.cedar_lexer.proofs.Spaced.{token_of, behind, space_at}
use Rattle.cedar_writer.specs.Spacing.{runs_on_with, Edge, is_joined, space_behind, gap, edge_behind, text_behind, line_start, line_of, ended}
use Rattle.cedar_writer.proofs.Touching.{scan_touches}

tokens_behind : Edge → ℕ → List TokenText → List Lexeme
tokens_behind e i [] = []
tokens_behind e i (w ∷ ws) = token_of (i + length (gap e w)) w ∷ tokens_behind (edge_behind e w) (i + length (gap e w) + length w.text) ws

words_behind : (e : Edge) (i : ℕ) (ws : List TokenText) → words_of (tokens_behind e i ws) ≡ ws
unfolding tokens_behind
words_behind e i [] = refl
words_behind e i (w ∷ ws) = ap (λ vs. w ∷ vs) (words_behind (edge_behind e w) (i + length (gap e w) + length w.text) ws)

space_stops : (k : TokenKind) → runs_on_with k 32 ≡ false
space_stops kind.Number = refl
space_stops k = refl

line_stops : (k : TokenKind) → runs_on_with k 10 ≡ false
line_stops kind.Number = refl
line_stops k = refl

line_at : (source : List ℕ) (i : ℕ) (rest : List ℕ) → drop i source ≡ 10 ∷ rest → IsSkipAt source i (i + 1)
line_at source i rest stands = record {
  text = 10 ∷ [];
  after = rest;
  stands = stands;
  skips = subst (λ xs. IsSkip xs rest) (encode_ascii 10 (omega arith)) (space 10 refl);
  ends = refl;
}

-- what stands behind a word stops its scan
at_space : (k j : TokenKind) (text rest : List ℕ) → Spells k text → spelling (text ++ (space_behind j ++ rest)) ≡ Some (k, length text)
at_space k kind.Semicolon text rest s = scan_touches k text 10 rest s (line_stops k)
at_space k j text rest s = scan_touches k text 32 rest s (space_stops k)

space_laid : (j : TokenKind) (source : List ℕ) (i : ℕ) (rest : List ℕ) → drop i source ≡ space_behind j ++ rest → Layout source i [] (i + length (space_behind j))
space_laid kind.Semicolon source i rest stands = skip (line_at source i rest stands) nothing
space_laid j source i rest stands = skip (space_at source i rest stands) nothing

touching : (k j : TokenKind) (text more rest : List ℕ) → Spells k text → Spells j more → not (runs_on_with k (slice_index more 0)) ≡ true → spelling (text ++ (more ++ rest)) ≡ Some (k, length text)
touching k j text [] rest s t m = absurd (omega (arith, spelling_some j [] t))
touching k j text (c ∷ cs) rest s t m = scan_touches k text c (cs ++ rest) s (not-true (runs_on_with k c) m)

-- what stands at the end: nothing, or a line feed
abbrev Stops : List ℕ → Type 0
Stops after = (k : TokenKind) (text : List ℕ) → Spells k text → spelling (text ++ after) ≡ Some (k, length text)

-- a word's text and what stands behind it
scans : (after : List ℕ) → Stops after → (e : Edge) (k : TokenKind) (text : List ℕ) (ws : List TokenText) → e.last ≡ k → Spells k text → AreSpelled ws → spelling (text ++ (text_behind e ws ++ after)) ≡ Some (k, length text)
scans after stop e k text [] same s t = stop k text s
scans after stop e k text (w ∷ ws) same s t =
    let rest = w.text ++ text_behind (edge_behind e w) ws in
    let split : text ++ ((gap e w ++ rest) ++ after) ≡ text ++ (gap e w ++ (w.text ++ (text_behind (edge_behind e w) ws ++ after))) =
    ap (λ x. text ++ x) (append_assoc (gap e w) rest after ∙ ap (λ x. gap e w ++ x) (append_assoc w.text (text_behind (edge_behind e w) ws) after)) in
    ap spelling split ∙
    cond_both (is_joined e w.kind (slice_index w.text 0)) [] (space_behind e.last) (λ g. spelling (text ++ (g ++ (w.text ++ (text_behind (edge_behind e w) ws ++ after)))) ≡ Some (k, length text))
    (λ h. touching k w.kind text w.text (text_behind (edge_behind e w) ws ++ after) s t.0 (subst (λ (l : TokenKind). not (runs_on_with l (slice_index w.text 0)) ≡ true) same (and_parts _ _ h).1))
    (λ h. at_space k e.last text (w.text ++ (text_behind (edge_behind e w) ws ++ after)) s)

gap_laid : (e : Edge) (w : TokenText) (source : List ℕ) (i : ℕ) (rest : List ℕ) → drop i source ≡ gap e w ++ rest → Layout source i [] (i + length (gap e w))
gap_laid e w source i rest =
    cond_both (is_joined e w.kind (slice_index w.text 0)) [] (space_behind e.last) (λ g. drop i source ≡ g ++ rest → Layout source i [] (i + length g))
    (λ h stands. subst (Layout source i []) (omega arith) nothing)
    (λ h stands. space_laid e.last source i rest stands)

laid : (after : List ℕ) → Stops after → (e : Edge) (source : List ℕ) (ws : List TokenText) (i : ℕ) → AreSpelled ws → drop i source ≡ text_behind e ws ++ after → Layout source i (tokens_behind e i ws) (i + length (text_behind e ws))
unfolding tokens_behind
laid after stop e source [] i s stands = subst (Layout source i []) (omega arith) nothing
laid after stop e source (w ∷ ws) i s stands =
    let g = gap e w in
    let f = edge_behind e w in
    let rest = text_behind f ws in
    let whole : drop i source ≡ g ++ (w.text ++ (rest ++ after)) = stands ∙ append_assoc g (w.text ++ rest) after ∙ ap (λ x. g ++ x) (append_assoc w.text rest after) in
    let here : drop (i + length g) source ≡ w.text ++ (rest ++ after) = behind source i g (w.text ++ (rest ++ after)) whole in
    let next : drop (i + length g + length w.text) source ≡ rest ++ after = behind source (i + length g) w.text (rest ++ after) here in
    let far : i + length g + length w.text + length rest ≡ i + length (g ++ (w.text ++ rest)) = omega (arith, length-append g (w.text ++ rest), length-append w.text rest) in
    subst (Layout source i (tokens_behind e i (w ∷ ws))) far
    (laid_on (gap_laid e w source i (w.text ++ (rest ++ after)) whole)
    (token (scanned source (i + length g) (token_of (i + length g) w) (rest ++ after) here s.0 (scans after stop f w.kind w.text ws refl s.0 s.1) refl refl)
    (laid after stop f source ws (i + length g + length w.text) s.1 next)))

no_more : Stops []
no_more k text s = scan_ends k text [] s at_end

line_feed : Stops (10 ∷ [])
line_feed k text s = scan_touches k text 10 [] s (line_stops k)

line_laid : (ws : List TokenText) → AreSpelled ws → Cuts (line_of ws) (tokens_behind line_start 0 ws)
line_laid ws s =
    let far : 0 + length (line_of ws) ≡ length (line_of ws) = omega arith in
    subst (Layout (line_of ws) 0 (tokens_behind line_start 0 ws)) far (laid [] no_more line_start (line_of ws) ws 0 s (sym (append-nil (line_of ws))))

pub line_cuts : (ws : List TokenText) → AreSpelled ws → (ts : List Lexeme) × Cuts (line_of ws) ts × (words_of ts ≡ ws)
line_cuts ws s = (tokens_behind line_start 0 ws, line_laid ws s, words_behind line_start 0 ws)

ended_laid : (text : List ℕ) (ts : List Lexeme) → Layout (text ++ 10 ∷ []) 0 ts (0 + length text) → Cuts (text ++ 10 ∷ []) ts
ended_laid text ts l =
    let rest : drop (0 + length text) (text ++ 10 ∷ []) ≡ 10 ∷ [] = behind (text ++ 10 ∷ []) 0 text (10 ∷ []) refl in
    let far : 0 + length text + 1 ≡ length (text ++ 10 ∷ []) = omega (arith, length-append text (10 ∷ [])) in
    subst (Layout (text ++ 10 ∷ []) 0 ts) far (subst (λ us. Layout (text ++ 10 ∷ []) 0 us (0 + length text + 1)) (append-nil ts) (laid_on l (skip (line_at (text ++ 10 ∷ []) (0 + length text) [] rest) nothing)))

ended_by : (text : List ℕ) (ws : List TokenText) (ts : List Lexeme) → text ≡ line_of ws → Cuts (line_of ws) ts → Cuts (line_of ws ++ 10 ∷ []) ts → Cuts (ended text) ts
ended_by [] ws ts e h k = subst (λ t. Cuts t ts) (sym e) h
ended_by (b ∷ bs) ws ts e h k = subst (λ t. Cuts (t ++ 10 ∷ []) ts) (sym e) k

-- the same with a line feed at the end
pub lines_cut : (ws : List TokenText) → AreSpelled ws → (ts : List Lexeme) × Cuts (ended (line_of ws)) ts × (words_of ts ≡ ws)
lines_cut ws s =
    let ts = tokens_behind line_start 0 ws in
    (ts, ended_by (line_of ws) ws ts refl (line_laid ws s) (ended_laid (line_of ws) ts (laid (10 ∷ []) line_feed line_start (line_of ws ++ 10 ∷ []) ws 0 s refl)), words_behind line_start 0 ws)
