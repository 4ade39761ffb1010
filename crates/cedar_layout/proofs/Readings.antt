-- Pieces that are read token by token.
use Rattle.std.proofs.Common.{◌≡◌, ℕ, ◌≤◌, Bool, true, false, List, [], ◌∷◌, ◌++◌, drop, refl, sym, ap, ap₂, ◌∙◌, subst, append_assoc, arith, inl, inr, Some, None, Ok, Err}
use Rattle.std.specs.Prelude.{slice_range}
use Rattle.std.specs.Str.{IsUtf8, IsCharBoundary}
use Rattle.std.proofs.lemmas.Bool.{both_ways}
use Rattle.cedar_lexer.specs.declared.token.InvalidToken.{InvalidToken}
use Rattle.cedar_lexer.specs.declared.token.Token.{Token}
use Rattle.cedar_lexer.specs.Token.{Lexeme, lexeme_of}
use Rattle.cedar_lexer.specs.Cut.{Layout, nothing, CutsFrom, StopsFrom, StopsAt, IsTokenRange}
use Rattle.cedar_lexer.specs.LexerState.{LexerState, fresh_lexer, lexer_at, IsNextToken, LexerAnswers}
use Rattle.cedar_lexer.proofs.Cuts.{laid_on}
use Rattle.cedar_lexer.proofs.Runs.{stand_in_order, next_range}
use Rattle.cedar_lexer.specs.Words.{written}
use Rattle.cedar_layout.specs.declared.pieces.Item.TheVariants.{Word}
use Rattle.cedar_layout.specs.declared.pieces.SpacedItem.{SpacedItem}
use Rattle.cedar_layout.specs.Pieces as spec
use Rattle.cedar_layout.specs.Pieces.{outside, comments_in, token_pieces, pieces_behind, word_piece, behind_bytes, is_behind_blank, IsReadAs}
use Rattle.cedar_layout.specs.Read.{piece_now, pieces_now}

pub pieces_join : (ps qs : List SpacedItem) → pieces_now (ps ++ qs) ≡ pieces_now ps ++ pieces_now qs
pieces_join [] qs = refl
pieces_join (p ∷ ps) qs = ap (λ xs. piece_now p ∷ xs) (pieces_join ps qs)

-- the tokens before the lexer's place are read
pub record Sofar (source : List ℕ) (s : LexerState) (at : ℕ) (near : Bool) (ps : List SpacedItem) : Type 0 where
  pub utf8 : IsUtf8 source
  pub before : List Lexeme
  pub laid : Layout source 0 before s.offset
  pub same : s.source ≡ source
  pub goes : s.ended ≡ false
  pub place : at ≡ s.offset
  pub reads : (ts : List Lexeme) → pieces_behind source false 0 (before ++ ts) ≡ pieces_now ps ++ pieces_behind source near at ts

pub none_read : (source : List ℕ) (s : LexerState) → IsUtf8 source → s ≡ fresh_lexer source → Sofar source s 0 false []
none_read source s u e = subst (λ s. Sofar source s 0 false []) (sym e) (record {
  utf8 = u;
  before = [];
  laid = nothing;
  same = refl;
  goes = refl;
  place = refl;
  reads = λ ts. refl;
})

-- where the text that is left begins
pub begins_here : {source : List ℕ} {s : LexerState} {at : ℕ} {near : Bool} {ps : List SpacedItem} → Sofar source s at near ps → IsCharBoundary source at
begins_here {source} {s} c = subst (IsCharBoundary source) (sym c.place) (stand_in_order source c.before s.offset c.utf8 c.laid).1

next_token : {source : List ℕ} {s u : LexerState} {at : ℕ} {near : Bool} {ps : List SpacedItem} (t : Token) → Sofar source s at near ps → LexerAnswers s (Some (Ok t)) u → IsNextToken source s.offset (lexeme_of t)
next_token {source} {s} t c a = subst (λ w. IsNextToken w s.offset (lexeme_of t)) c.same a.1

pub token_behind : {source : List ℕ} {s u : LexerState} {at : ℕ} {near : Bool} {ps : List SpacedItem} (t : Token) → Sofar source s at near ps → LexerAnswers s (Some (Ok t)) u → (at ≤ t.start) × IsTokenRange source (lexeme_of t)
token_behind {source} {s} t c a =
    let boundary = (stand_in_order source c.before s.offset c.utf8 c.laid).1 in
    let range = next_range source s.offset (lexeme_of t) c.utf8 boundary (next_token t c a) in
    (omega (arith, range.0, c.place), range.1)

one_token : (source : List ℕ) (near : Bool) (at : ℕ) (t : Lexeme) (ts : List Lexeme) → pieces_behind source near at (t ∷ ts) ≡ token_pieces source near at t ++ pieces_behind source true t.end ts
one_token source near at t ts =
    let gap = slice_range source at t.start in
    sym (append_assoc (comments_in (outside near 0) gap) (word_piece (behind_bytes (outside near 0) gap) t ∷ []) (pieces_behind source true t.end ts))

-- a token's pieces are put behind those that are there
pub token_read : (source : List ℕ) (near : Bool) (at : ℕ) (t : Token) (gap : List ℕ) (blank : Bool) (old mid new : List SpacedItem) → gap ≡ slice_range source at t.start → pieces_now mid ≡ pieces_now old ++ comments_in (outside near 0) gap
    → blank ≡ is_behind_blank (behind_bytes (outside near 0) gap) → new ≡ mid ++ record { blank = blank; item = Word t.kind t.text } ∷ [] → pieces_now new ≡ pieces_now old ++ token_pieces source near at (lexeme_of t)
token_read source near at t gap blank old mid new is more behind put =
    let o = outside near 0 in
    let piece : SpacedItem = record { blank = blank; item = Word t.kind t.text } in
    let named : piece_now piece ≡ word_piece (behind_bytes o gap) (lexeme_of t) = ap (λ b. blank_word b t) behind in
    ap pieces_now put
    ∙ (pieces_join mid (piece ∷ [])
    ∙ (ap₂ (λ (xs : List spec.SpacedItem) (x : spec.SpacedItem). xs ++ (x ∷ [])) more named
    ∙ (append_assoc (pieces_now old) (comments_in o gap) (word_piece (behind_bytes o gap) (lexeme_of t) ∷ [])
    ∙ ap (λ g. pieces_now old ++ (comments_in o g ++ (word_piece (behind_bytes o g) (lexeme_of t) ∷ []))) is)))
  where
    blank_word : Bool → Token → spec.SpacedItem
    blank_word b t = record { blank = b; item = spec.word (written (lexeme_of t)) }

pub next_read : {source : List ℕ} {s u : LexerState} {at : ℕ} {near : Bool} {ps : List SpacedItem} (qs : List SpacedItem) (t : Token) → Sofar source s at near ps → LexerAnswers s (Some (Ok t)) u →
    pieces_now qs ≡ pieces_now ps ++ token_pieces source near at (lexeme_of t) → Sofar source u t.end true qs
next_read {source} {s} {u} {at} {near} {ps} qs t c a more =
    let sofar : Sofar source (lexer_at s t.end) t.end true qs = record {
      utf8 = c.utf8;
      before = c.before ++ lexeme_of t ∷ [];
      laid = laid_on c.laid (next_token t c a);
      same = c.same;
      goes = refl;
      place = refl;
      reads = λ ts.
          ap (pieces_behind source false 0) (append_assoc c.before (lexeme_of t ∷ []) ts)
          ∙ (c.reads (lexeme_of t ∷ ts)
          ∙ (ap (λ xs. pieces_now ps ++ xs) (one_token source near at (lexeme_of t) ts)
          ∙ (sym (append_assoc (pieces_now ps) (token_pieces source near at (lexeme_of t)) (pieces_behind source true t.end ts))
          ∙ ap (λ xs. xs ++ pieces_behind source true t.end ts) (sym more))));
    } in
    subst (λ w. Sofar source w t.end true qs) (sym a.2) sofar

-- where no token follows, all are read
cut_read : {source : List ℕ} {s : LexerState} {at : ℕ} {near : Bool} {ps : List SpacedItem} (qs : List SpacedItem) → Sofar source s at near ps → CutsFrom s.source s.offset [] → pieces_now qs ≡ pieces_now ps ++ comments_in (outside near 0) (drop at source) → IsReadAs source (pieces_now qs)
cut_read {source} {s} {at} {near} {ps} qs c cut more = (
  c.before ++ [],
  laid_on c.laid (subst (λ w. CutsFrom w s.offset []) c.same cut),
  more ∙ sym (c.reads []),
)

pub all_read : {source : List ℕ} {s u : LexerState} {at : ℕ} {near : Bool} {ps : List SpacedItem} (qs : List SpacedItem) → Sofar source s at near ps → LexerAnswers s None u → pieces_now qs ≡ pieces_now ps ++ comments_in (outside near 0) (drop at source) → IsReadAs source (pieces_now qs)
all_read {s = s} qs c a more = elim a.0 [
  | inl ended ↦ absurd (both_ways s.ended c.goes ended)
  | inr cut ↦ cut_read qs c cut more
]

-- where none starts, it stops
pub stops_read : {source : List ℕ} {s u : LexerState} {at : ℕ} {near : Bool} {ps : List SpacedItem} (e : InvalidToken) → Sofar source s at near ps → LexerAnswers s (Some (Err e)) u → (ts : List Lexeme) × StopsAt source ts e.location
stops_read {source} {s} e c a =
    let stop : StopsFrom source s.offset [] e.location = subst (λ w. StopsFrom w s.offset [] e.location) c.same a.1 in
    (c.before ++ [], (laid_on c.laid stop.0, stop.1, stop.2))
