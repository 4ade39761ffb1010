-- The driver's progress, and where it stops, for any machine.
use Rattle.std.proofs.Common.{◌≡◌, ℕ, ◌-◌, ◌<◌, ◌≤◌, Bool, true, false, cond, List, [], ◌∷◌, ◌++◌, Option, Some, None, Result, Ok, Err, length, refl, sym, ◌∙◌, ap, subst, append_assoc, inl, inr, arith}
use Rattle.std.specs.Prelude.{◌⊎◌, MatchResult}
use Rattle.std.proofs.lemmas.List.{append-nil}
use Rattle.std.specs.Str.{IsUtf8}
use Rattle.cedar_lexer.specs.Token.{Lexeme, lexeme_of}
use Rattle.cedar_lexer.specs.Cut.{Layout, nothing, Cuts, StopsAt, CutsFrom, StopsFrom}
use Rattle.cedar_lexer.specs.LexerState.{LexerState, LexerAnswers, fresh_lexer, IsCutOrStop}
use Rattle.cedar_lexer.specs.declared.token.InvalidToken.{InvalidToken}
use Rattle.cedar_lexer.specs.declared.token.Token.{Token}
use Rattle.cedar_lexer.specs.declared.token.TokenKind.{TokenKind}
use Rattle.cedar_lexer.proofs.Cuts.{laid_on, laid_utf8, onward, nothing_at_end}
use Rattle.cedar_lexer.proofs.Runs.{cuts_or_stops}
use Rattle.cedar_syntax.specs.declared.err.faults.Failure.{Failure}
use Rattle.cedar_syntax.specs.declared.err.faults.Failure.TheVariants.{Memory, Errors}
use Rattle.cedar_grammar.specs.declared.reading.extent.Extent.{Extent}
use Rattle.cedar_grammar.specs.declared.reading.expected.ClosersOnly.{ClosersOnly}
use Rattle.cedar_grammar.specs.declared.reading.token_read.TokenRead.{TokenRead}
use Rattle.cedar_grammar.specs.declared.reading.token_read.TokenRead.TheVariants.{Done, TooLarge}
use Rattle.cedar_syntax.specs.declared.err.to_cst.RawFault.TheVariants as fault
use Rattle.cedar_grammar.specs.faults.FirstFault.{end_at, tokens_end, unexpected_fault, early_at, large_at}
use Rattle.cedar_grammar.specs.grammar.Place.{joint_extent, extent_of, extent}
use Rattle.cedar_grammar.specs.grammar.WrittenTokens.{IsWritten}
use Rattle.cedar_grammar.specs.machines.Machine.{next, Machine, answer_state, Comes, is_some, Reader, done_answer, planned_answer, machine_of, allowed_by}
use Rattle.cedar_grammar.specs.machines.Judged.{done_as, wanted_kinds, IsRead, IsFault, FailsWith, large_fault, stop_fault, IsStop, StopsAtToken, StopsAtEnd}
use Rattle.cedar_grammar.proofs.machines.Laws.{then_steps}
use Rattle.cedar_grammar.proofs.machines.Extents.{extent-append}
use Rattle.cedar_grammar.proofs.Written.{AllWritten, all_written, one_bounds}

pub end_joined : (o : Option Extent) (e : Extent) → end_at (joint_extent o (Some e)) ≡ e.end
end_joined None e = refl
end_joined (Some a) e = refl

pub end_snoc : (ts : List Lexeme) (t : Lexeme) → tokens_end (ts ++ t ∷ []) ≡ t.end
end_snoc ts t = ap (λ o. end_at o) (extent-append ts (t ∷ [])) ∙ end_joined (extent ts) (extent_of t)

-- ---- the lexer's next answer, behind tokens that are laid out

-- the text's tokens begin with these, and the lexer stands behind them
abbrev pub Behind : List ℕ → List Lexeme → LexerState → Type 0
Behind text before l = Layout text 0 before l.offset × (l.source ≡ text) × (l.ended ≡ false)

pub token_behind : (text : List ℕ) (before : List Lexeme) (l u : LexerState) (t : Token) → Behind text before l → LexerAnswers l (Some (Ok t)) u → Behind text (before ++ lexeme_of t ∷ []) u
token_behind text before l u t b a =
    let next : Layout text l.offset (lexeme_of t ∷ []) t.end = subst (λ w. Layout w l.offset (lexeme_of t ∷ []) t.end) b.1 a.1 in
    (subst (λ n. Layout text 0 (before ++ lexeme_of t ∷ []) n) (sym (ap (λ r. r.offset) a.2)) (laid_on b.0 next), ap (λ r. r.source) a.2 ∙ b.1, ap (λ r. r.ended) a.2)

not_ended : {b : Bool} → b ≡ false → b ≡ true → ⊥
not_ended e f = cc

pub end_behind : (text : List ℕ) (before : List Lexeme) (l u : LexerState) → Behind text before l → LexerAnswers l None u → Cuts text before
end_behind text before l u b a = go a.0
  where
    go : ((l.ended ≡ true) ⊎ CutsFrom l.source l.offset []) → Cuts text before
    go (inl e) = absurd (not_ended b.2 e)
    go (inr c) = subst (λ w. Layout text 0 w (length text)) (append-nil before) (laid_on b.0 (subst (λ w. Layout w l.offset [] (length w)) b.1 c))

pub stops_behind : (text : List ℕ) (before : List Lexeme) (l : LexerState) (place : ℕ) → Behind text before l → StopsFrom l.source l.offset [] place → StopsAt text before place
stops_behind text before l place b s =
    let r : StopsFrom text l.offset [] place = subst (λ w. StopsFrom w l.offset [] place) b.1 s in
    (subst (λ w. Layout text 0 w place) (append-nil before) (laid_on b.0 r.0), r.1, r.2)

pub begun : (text : List ℕ) (l : LexerState) → l ≡ fresh_lexer text → Behind text [] l
begun text l e = subst (λ l. Behind text [] l) (sym e) (nothing, refl, refl)

last_written : (ts : List Lexeme) (t : Lexeme) → AllWritten (ts ++ t ∷ []) → IsWritten t
last_written [] t h = h.0
last_written (u ∷ ts) t h = last_written ts t h.1

-- what the next token is written as
pub next_written : (text : List ℕ) (before : List Lexeme) (l u : LexerState) (t : Token) → Behind text before l → LexerAnswers l (Some (Ok t)) u → IsWritten (lexeme_of t)
next_written text before l u t b a = last_written before (lexeme_of t) (all_written (token_behind text before l u t b a).0)

-- how much of the text is left

abbrev pub bytes_left : LexerState → ℕ
bytes_left l = length l.source - l.offset

less_left : (n a b : ℕ) → a < b → b ≤ n → n - b < n - a
less_left n a b h g = omega arith

pub fewer_left : (text : List ℕ) (before : List Lexeme) (l u : LexerState) (t : Token) → IsUtf8 text → Behind text before l → LexerAnswers l (Some (Ok t)) u → bytes_left u < bytes_left l
fewer_left text before l u t w b a =
    let c = laid_utf8 b.0 (omega arith) w in
    let next : Layout text l.offset (lexeme_of t ∷ []) t.end = subst (λ w. Layout w l.offset (lexeme_of t ∷ []) t.end) b.1 a.1 in
    let d = one_bounds next c.2 c.0 in
    let f : length u.source ≡ length text = ap (λ r. length r.source) a.2 ∙ ap (λ x. length x) b.1 in
    let g : u.offset ≡ t.end = ap (λ r. r.offset) a.2 in
    let h : length l.source ≡ length text = ap (λ x. length x) b.1 in
    rw (f, g, h) (less_left (length text) l.offset t.end d.0 d.1)

-- ---- the tokens behind some of them

pub record Rest (text : List ℕ) (ts : List Lexeme) : Type 0 where
  pub rest : List Lexeme
  pub bad : Option ℕ
  pub cut : IsCutOrStop text 0 (ts ++ rest) bad

pub rest_of : (text : List ℕ) (ts : List Lexeme) (k : ℕ) → IsUtf8 text → Layout text 0 ts k → Rest text ts
rest_of text ts k u l = go (cuts_or_stops text u)
  where
    go : ((us : List Lexeme) × Cuts text us) ⊎ ((us : List Lexeme) × (place : ℕ) × StopsAt text us place) → Rest text ts
    go (inl c) = let o = onward l c.1 (nothing_at_end text) in record { rest = o.rest; bad = None; cut = subst (λ w. Cuts text w) o.is c.1 }
    go (inr s) = let o = onward l s.2.0 s.2.2 in record { rest = o.rest; bad = Some s.1; cut = subst (λ w. StopsAt text w s.1) o.is s.2 }

pub snoc_on : (ts : List Lexeme) (t : Lexeme) (us : List Lexeme) → (ts ++ t ∷ []) ++ us ≡ ts ++ t ∷ us
snoc_on ts t us = simp append_assoc

-- ---- progress

-- some tokens of the text are read, and the lexer stands behind them
pub record Progress {S T : Type 0} (m : Machine Lexeme S T) (text : List ℕ) (s : S) (end : ℕ) (l : LexerState) : Type 0 where
  pub utf8 : IsUtf8 text
  pub before : List Lexeme
  pub comes : Comes m before s
  pub ends : end ≡ tokens_end before
  pub stands : Behind text before l

pub at_start : {S T : Type 0} (m : Machine Lexeme S T) (text : List ℕ) (s : S) (l : LexerState) → IsUtf8 text → m.start ≡ s → l ≡ fresh_lexer text → Progress m text s 0 l
at_start m text s l w f g = record { utf8 = w; before = []; comes = ap (λ w. Some w) f; ends = refl; stands = begun text l g }

-- what the lexer gave, at what it is
pub given : (l u : LexerState) (o a : Option (Result Token InvalidToken)) → LexerAnswers l o u → o ≡ a → LexerAnswers l a u
given l u o a g e = subst (λ o. LexerAnswers l o u) e g

pub token_written : {S T : Type 0} {m : Machine Lexeme S T} {text : List ℕ} {s : S} {end : ℕ} {l u : LexerState} (t : Token) → Progress m text s end l → LexerAnswers l (Some (Ok t)) u → IsWritten (lexeme_of t)
token_written {text = text} {l = l} {u = u} t p a = next_written text p.before l u t p.stands a

pub fewer : {S T : Type 0} {m : Machine Lexeme S T} {text : List ℕ} {s : S} {end : ℕ} {l u : LexerState} (t : Token) → Progress m text s end l → LexerAnswers l (Some (Ok t)) u → bytes_left u < bytes_left l
fewer {text = text} {l = l} {u = u} t p a = fewer_left text p.before l u t p.utf8 p.stands a

comes_on : {S T : Type 0} (m : Machine Lexeme S T) (before : List Lexeme) (s r : S) (t : Lexeme) → Comes m before s → m.step s t ≡ next r → Comes m (before ++ t ∷ []) r
comes_on m before s r t c h = then_steps m (Some m.start) (Some s) (Some r) before (t ∷ []) c (ap (λ a. answer_state a) h)

pub one_more : {S T : Type 0} {m : Machine Lexeme S T} {text : List ℕ} {s r : S} {end : ℕ} {l u : LexerState} (t : Token) → Progress m text s end l → LexerAnswers l (Some (Ok t)) u → m.step s (lexeme_of t) ≡ next r → Progress m text r t.end u
one_more {m = m} {text = text} {s = s} {r = r} {l = l} {u = u} t p a h = record {
  utf8 = p.utf8;
  before = p.before ++ lexeme_of t ∷ [];
  comes = comes_on m p.before s r (lexeme_of t) p.comes h;
  ends = sym (end_snoc p.before (lexeme_of t));
  stands = token_behind text p.before l u t p.stands a;
}

-- a planned token is taken
pub takes : {S A T : Type 0} (r : Reader S A T) (src : List ℕ) (s q : S) (a : A) (t : Lexeme) (read : TokenRead) → r.plan s t.kind ≡ Some a → done_as read q ≡ r.act src s a t → read ≡ Done → (machine_of src r).step s t ≡ next q
takes r src s q a t read g h i =
    ap (λ o. planned_answer (λ a. r.act src s a t) (r.finish src s) o) g ∙ (ap (λ o. done_answer o) (sym h) ∙ ap (λ b. done_answer (done_as b q)) i)

-- ---- where it stops

pub stops_at_token : {S T : Type 0} {m : Machine Lexeme S T} (p : S → Option TokenKind → Bool) (n : ClosersOnly) {text : List ℕ} {s : S} {end : ℕ} {l u : LexerState} (t : Token) (f : Failure) → Progress m text s end l → LexerAnswers l (Some (Ok t)) u →
    StopsAtToken m p n text s (lexeme_of t) f → IsStop m p n text f
stops_at_token p n t (Memory e) q a h = tt
stops_at_token p n {text = text} {s = s} {l = l} {u = u} t (Errors errors) q a h =
    let b = token_behind text q.before l u t q.stands a in
    let r = rest_of text (q.before ++ lexeme_of t ∷ []) u.offset q.utf8 b.0 in (
      h.0,
      record {
        before = q.before;
        rest = lexeme_of t ∷ r.rest;
        bad = r.bad;
        state = s;
        cut = subst (λ w. IsCutOrStop text 0 w r.bad) (snoc_on q.before (lexeme_of t) r.rest) r.cut;
        comes = q.comes;
        is = h.1;
      },
      h.2,
    )

-- a planned number that doesn't fit
pub stops_at_number : {S A T : Type 0} (r : Reader S A T) (n : ClosersOnly) (src : List ℕ) (s q : S) (a : A) (t : Lexeme) (read : TokenRead) (f : Failure) → r.plan s t.kind ≡ Some a → done_as read q ≡ r.act src s a t → read ≡ TooLarge → FailsWith src (large_at src t) f →
    StopsAtToken (machine_of src r) (allowed_by r) n src s t f
stops_at_number r n src s q a t read (Memory e) g h i w = tt
stops_at_number {S = S} {T = T} r n src s q a t read (Errors errors) g h i w = (
  large_at src t,
  ap (λ o. cond (is_some o) (large_fault src (planned_answer (λ a. r.act src s a t) (r.finish src s) o) t) (Some (unexpected_fault t (wanted_kinds (allowed_by r s) n (Some t.kind))))) g
      ∙ (ap (λ o. large_fault {S = S} {T = T} src (done_answer o) t) (sym h) ∙ ap (λ b. large_fault {S = S} {T = T} src (done_answer (done_as b q)) t) i),
  w,
)

pub stops_badly : {S T : Type 0} {m : Machine Lexeme S T} (p : S → Option TokenKind → Bool) (n : ClosersOnly) {text : List ℕ} {s : S} {end : ℕ} {l u : LexerState} (e : InvalidToken) (f : Failure) → Progress m text s end l → LexerAnswers l (Some (Err e)) u → FailsWith text (fault.InvalidToken e.location) f → IsStop m p n text f
stops_badly p n e (Memory w) q a b = tt
stops_badly p n {text = text} {s = s} {l = l} e (Errors errors) q a b = (
  _,
  record {
    before = q.before;
    rest = [];
    bad = Some e.location;
    state = s;
    cut = subst (λ w. StopsAt text w e.location) (sym (append-nil q.before)) (stops_behind text q.before l e.location q.stands a.1);
    comes = q.comes;
    is = refl;
  },
  b,
)

early_told : {S T : Type 0} (m : Machine Lexeme S T) (p : S → Option TokenKind → Bool) (n : ClosersOnly) (text : List ℕ) (s : S) (ts : List Lexeme) → p s None ≡ false → stop_fault m p n text s ts [] None ≡ Some (early_at (tokens_end ts) (wanted_kinds (p s) n None))
early_told m p n text s ts h = ap (λ b. cond b None (Some (early_at (tokens_end ts) (wanted_kinds (p s) n None)))) h

stops_at_end : {S T : Type 0} {m : Machine Lexeme S T} (p : S → Option TokenKind → Bool) (n : ClosersOnly) {text : List ℕ} {s : S} {end : ℕ} {l u : LexerState} (f : Failure) → Progress m text s end l → LexerAnswers l None u → StopsAtEnd m p n text s end f → IsStop m p n text f
stops_at_end p n (Memory e) q a h = tt
stops_at_end {m = m} p n {text = text} {s = s} {l = l} {u = u} (Errors errors) q a h = (
  _,
  record {
    before = q.before;
    rest = [];
    bad = None;
    state = s;
    cut = subst (λ w. Cuts text w) (sym (append-nil q.before)) (end_behind text q.before l u q.stands a);
    comes = q.comes;
    is = early_told m p n text s q.before h.0;
  },
  subst (λ e. IsFault text errors (early_at e (wanted_kinds (p s) n None))) q.ends h.1,
)

reads_whole : {S T : Type 0} {m : Machine Lexeme S T} {text : List ℕ} {s : S} {end : ℕ} {l u : LexerState} (x : T) → Progress m text s end l → LexerAnswers l None u → m.finish s ≡ Some x → IsRead m text x
reads_whole {text = text} {s = s} {l = l} {u = u} x q a h = record { tokens = q.before; cut = end_behind text q.before l u q.stands a; runs = record { last = s; goes = q.comes; ends = h } }

pub concluded : {S T : Type 0} {m : Machine Lexeme S T} (p : S → Option TokenKind → Bool) (n : ClosersOnly) {text : List ℕ} {s : S} {end : ℕ} {l : LexerState} (u : LexerState) (r : Result T Failure) → Progress m text s end l → LexerAnswers l None u →
    MatchResult r (λ x. m.finish s ≡ Some x) (λ f. StopsAtEnd m p n text s end f) → MatchResult r (λ x. IsRead m text x) (λ f. IsStop m p n text f)
concluded p n u (Ok x) q a g = reads_whole x q a g
concluded p n u (Err f) q a g = stops_at_end p n f q a g
