-- The laws of the cut.
use Rattle.std.proofs.Common.{◌≡◌, ℕ, ◌-◌, ◌<◌, ◌≤◌, false, List, [], ◌∷◌, length, take, drop, refl, sym, ap, ◌∙◌, subst, arith, inl, inr, Option, Some, None, Ok, Err}
use Rattle.std.specs.Prelude.{◌⊎◌, ◌↔◌, Result}
use Rattle.std.specs.Iterator.{Yields, Drains}
use Rattle.std.specs.Str.{IsUtf8, IsCharBoundary}
use Rattle.std.proofs.lemmas.Bool.{both_ways, cases_lt}
use Rattle.std.proofs.lemmas.List.{take_at}
use Rattle.std.proofs.lemmas.Str.{IsUtf8-drop}
use Rattle.cedar_lexer.specs.declared.token.Token.{Token}
use Rattle.cedar_lexer.specs.declared.token.InvalidToken.{InvalidToken}
use Rattle.cedar_lexer.specs.Token.{Lexeme, lexeme_of}
use Rattle.cedar_lexer.specs.Cut.{Layout, nothing, skip, token, IsTokenAt, Cuts, CutsFrom, StopsFrom, StopsAt, IsTokenRange, StandInOrder}
use Rattle.cedar_lexer.specs.LexerState.{LexerState, lexer_at, fresh_lexer, IsNextToken, LexerAnswers, IsCutOrStop, AnswersAre}
use Rattle.cedar_lexer.proofs.Cuts.{onward, laid_on, one_end, nothing_at_end, behind_skip, behind_token, Stopped, stops}
use Rattle.cedar_lexer.proofs.Steps.{boundary}

-- ---- a cut or a bad place

ends : (source : List ℕ) (h : Stopped source 0) → (h.place < length source) ⊎ (length source ≤ h.place) →
    ((ts : List Lexeme) × Cuts source ts) ⊎ ((ts : List Lexeme) × (place : ℕ) × StopsAt source ts place)
ends source h (inl more) = inr (h.tokens, h.place, (h.laid, more, h.stops))
ends source h (inr all) = let end : h.place ≡ length source = omega (arith, h.within) in inl (h.tokens, subst (Layout source 0 h.tokens) end h.laid)

pub cuts_or_stops : (source : List ℕ) → IsUtf8 source → ((ts : List Lexeme) × Cuts source ts) ⊎ ((ts : List Lexeme) × (place : ℕ) × StopsAt source ts place)
cuts_or_stops source u = let h = stops (length source) source 0 (omega arith) (omega arith) u in ends source h (cases_lt h.place (length source))

pub not_both : (source : List ℕ) (ts us : List Lexeme) (place : ℕ) → Cuts source ts → StopsAt source us place → ⊥
not_both source ts us place c s = let e = (one_end c (nothing_at_end source) s.0 s.2).1 in absurd (omega (arith, e, s.1))

-- ---- the next token

pub next_cuts : (source : List ℕ) (i : ℕ) (t : Lexeme) (us : List Lexeme) → IsNextToken source i t →
    CutsFrom source i us ↔ ((ts : List Lexeme) × (us ≡ t ∷ ts) × CutsFrom source t.end ts)
next_cuts source i t us n = (
  (λ c. let h = onward n c (nothing_at_end source) in (h.rest, h.is, h.laid)),
  (λ (ts, e, c). subst (λ xs. CutsFrom source i xs) (sym e) (laid_on n c)),
)

pub next_stops : (source : List ℕ) (i : ℕ) (t : Lexeme) (us : List Lexeme) (place : ℕ) → IsNextToken source i t →
    StopsFrom source i us place ↔ ((ts : List Lexeme) × (us ≡ t ∷ ts) × StopsFrom source t.end ts place)
next_stops source i t us place n = (
  (λ s. let h = onward n s.0 s.2 in (h.rest, h.is, (h.laid, s.1, s.2))),
  (λ (ts, e, s). subst (λ xs. StopsFrom source i xs place) (sym e) (laid_on n s.0, s.1, s.2)),
)

-- ---- places

range_of : (source : List ℕ) (i : ℕ) (t : Lexeme) → i ≤ length source → IsUtf8 (drop i source) → IsTokenAt source i t → IsTokenRange source t
range_of source i t l u s =
    let h = behind_token source i t u s in
    let size : t.end - t.start ≡ length t.text = omega (arith, s.starts, s.ends) in
    let text : take (t.end - t.start) (drop t.start source) ≡ t.text =
    ap (λ n. take n (drop t.start source)) size ∙ (ap (λ n. take (length t.text) (drop n source)) s.starts
    ∙ (ap (take (length t.text)) s.stands ∙ take_at t.text s.after (length t.text) refl)) in
    record {
      nonempty = omega (arith, s.starts, h.1);
      within = h.2;
      starts = subst (IsCharBoundary source) (sym s.starts) (boundary source i l u);
      ends = boundary source t.end h.2 h.0;
      text = sym text;
    }

in_order : {source : List ℕ} {ts : List Lexeme} {i j from : ℕ} → Layout source i ts j → from ≤ i → i ≤ length source → IsUtf8 (drop i source) → StandInOrder source from ts × IsCharBoundary source j
in_order {source = source} {i = i} nothing after l u = (tt, boundary source i l u)
in_order {source = source} (skip {i = i} {j = j} s more) after l u =
    let h = behind_skip source i j u s in
    in_order more (omega (arith, h.1)) h.2 h.0
in_order {source = source} (token {i = i} {t = t} s more) after l u =
    let h = behind_token source i t u s in
    let g = in_order more (omega arith) h.2 h.0 in
    ((omega (arith, s.starts), range_of source i t l u s, g.0), g.1)

pub stand_in_order : (source : List ℕ) (ts : List Lexeme) (place : ℕ) → IsUtf8 source → Layout source 0 ts place → StandInOrder source 0 ts × IsCharBoundary source place
stand_in_order source ts place u l = in_order l (omega arith) (omega arith) u

pub next_range : (source : List ℕ) (i : ℕ) (t : Lexeme) → IsUtf8 source → IsCharBoundary source i → IsNextToken source i t → (i ≤ t.start) × IsTokenRange source t
next_range source i t u b n = let h = in_order n (omega arith) b.0 (IsUtf8-drop source i u b) in (h.0.0, h.0.1)

-- ---- a whole run

on : (source : List ℕ) (i : ℕ) (t : Lexeme) (ts : List Lexeme) (bad : Option ℕ) → IsNextToken source i t → IsCutOrStop source t.end ts bad → IsCutOrStop source i (t ∷ ts) bad
on source i t ts None n c = laid_on n c
on source i t ts (Some place) n c = (laid_on n c.0, c.1, c.2)

going : (s u : LexerState) (x : Result Token InvalidToken) → LexerAnswers s (Some x) u → s.ended ≡ false
going s u (Ok t) a = a.0
going s u (Err e) a = a.0

-- what a run from here has answered when it answers nothing
pub record Ran (s : LexerState) (answers : List (Result Token InvalidToken)) : Type 0 where
  pub tokens : List Lexeme
  pub bad : Option ℕ
  pub outcome : IsCutOrStop s.source s.offset tokens bad
  pub answered : AnswersAre answers tokens bad

ran : (answers : List (Result Token InvalidToken)) (s t u : LexerState) → s.ended ≡ false → Yields LexerAnswers s answers t → LexerAnswers t None u → Ran s answers
ran [] s t u goes same last = elim last.0 [
  | inl ended ↦ absurd (both_ways t.ended (sym (ap (λ (r : LexerState). r.ended) same) ∙ goes) ended)
  | inr cut ↦ record { tokens = []; bad = None; outcome = subst (λ (r : LexerState). CutsFrom r.source r.offset []) (sym same) cut; answered = (refl, refl) }
]
ran (Ok k ∷ answers) s t u goes (j, step, more) last =
    let moved : j ≡ lexer_at s k.end = step.2 in
    let h = ran answers j t u (ap (λ (r : LexerState). r.ended) moved) more last in
    let outcome : IsCutOrStop s.source k.end h.tokens h.bad = subst (λ (r : LexerState). IsCutOrStop r.source r.offset h.tokens h.bad) moved h.outcome in
    record {
      tokens = lexeme_of k ∷ h.tokens;
      bad = h.bad;
      outcome = on s.source s.offset (lexeme_of k) h.tokens h.bad step.1 outcome;
      answered = (h.tokens, refl, h.answered);
    }
ran (Err e ∷ []) s t u goes (j, step, more) last =
    record { tokens = []; bad = Some e.location; outcome = step.1; answered = (refl, refl, refl) }
ran (Err e ∷ (x ∷ answers)) s t u goes (j, step, (k, next, more)) last =
    absurd (both_ways j.ended (going j k x next) (ap (λ (r : LexerState). r.ended) step.2))

pub whole_run : (source : List ℕ) (answers : List (Result Token InvalidToken)) → Drains LexerAnswers (fresh_lexer source) answers →
    (ts : List Lexeme) × (bad : Option ℕ) × IsCutOrStop source 0 ts bad × AnswersAre answers ts bad
whole_run source answers (u, (t, yields, last)) =
    let h = ran answers (fresh_lexer source) t u refl yields last in
    (h.tokens, h.bad, h.outcome, h.answered)
