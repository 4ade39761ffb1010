-- The progress of a run that recovers, and what it tells at last, for any machine.
use Rattle.std.proofs.Common.{◌≡◌, ℕ, ◌<◌, Bool, true, false, List, [], ◌∷◌, ◌++◌, Option, Some, None, Result, Ok, Err, refl, sym, ◌∙◌, ap, subst}
use Rattle.std.specs.Prelude.{MatchResult, IfOk}
use Rattle.std.specs.Str.{IsUtf8}
use Rattle.cedar_lexer.specs.Token.{Lexeme, lexeme_of}
use Rattle.cedar_lexer.specs.LexerState.{LexerState, LexerAnswers, fresh_lexer, IsCutOrStop}
use Rattle.cedar_lexer.specs.declared.token.InvalidToken.{InvalidToken}
use Rattle.cedar_lexer.specs.declared.token.Token.{Token}
use Rattle.cedar_lexer.specs.declared.token.TokenKind.{TokenKind}
use Rattle.cedar_grammar.specs.declared.reading.mending.Phase.{Phase}
use Rattle.cedar_grammar.specs.declared.reading.mending.Phase.TheVariants as phase
use Rattle.cedar_grammar.specs.declared.reading.mending.Refusal.{Refusal}
use Rattle.cedar_grammar.specs.declared.reading.mending.Refusal.TheVariants as refusal
use Rattle.cedar_grammar.specs.declared.reading.mending.Run.{Run}
use Rattle.cedar_grammar.specs.declared.reading.recovery.RecoveryWay.{RecoveryWay}
use Rattle.cedar_grammar.specs.faults.MendedFaults.{faults_with_last}
use Rattle.cedar_grammar.specs.grammar.WrittenTokens.{IsWritten}
use Rattle.cedar_grammar.specs.machines.Machine.{Machine, Answer, next, ended, refused, too_large, answer_state, steps}
use Rattle.cedar_grammar.specs.machines.Judged.{IsRead}
use Rattle.cedar_grammar.specs.machines.Recovery.{Recovers, Recovery, reading, skipping, stopped}
use Rattle.cedar_grammar.specs.machines.Marks.{mark_of}
use Rattle.cedar_grammar.specs.machines.Skipping.{Skipped, on, over, stop, skip, behind_skip}
use Rattle.cedar_grammar.specs.machines.Mending.{stage, stage_of, taken_stage, judgment_by, recovery_step_by, recovery_of_all_by, last_of, met_faults, IsToldBy, RefusesWith}
use Rattle.cedar_grammar.proofs.machines.Driving.{Behind, begun, token_behind, end_behind, stops_behind, next_written, bytes_left, fewer_left}

-- ---- progress

-- some tokens of the text have been met, and the lexer stands behind them
pub record Met {S T F : Type 0} (m : Machine Lexeme S T) (p : S → Option TokenKind → Bool) (r : Recovers S F) (text : List ℕ) (q : Recovery S F) (l : LexerState) : Type 0 where
  pub utf8 : IsUtf8 text
  pub before : List Lexeme
  pub is : q ≡ recovery_of_all_by m p r (reading [] 0 m.start) before
  pub stands : Behind text before l

-- ---- the beginning

pub begun_stage : {S F : Type 0} (run : Run S F) (s : S) → run.phase ≡ phase.Reading → run.mended ≡ [] → run.end ≡ 0 → s ≡ run.state → stage_of run ≡ reading [] 0 s
begun_stage run s h i j k =
    ap (λ d. stage d run.mended run.end run.state) h ∙ (ap (λ xs. stage phase.Reading xs run.end run.state) i ∙ (ap (λ n. stage phase.Reading [] n run.state) j ∙ ap (λ s. stage phase.Reading [] 0 s) (sym k)))

pub at_start : {S T F : Type 0} (m : Machine Lexeme S T) (p : S → Option TokenKind → Bool) (r : Recovers S F) (text : List ℕ) (q : Recovery S F) (l : LexerState) → IsUtf8 text → q ≡ reading [] 0 m.start → l ≡ fresh_lexer text → Met m p r text q l
at_start m p r text q l w e g = record { utf8 = w; before = []; is = e; stands = begun text l g }

-- ---- one token more

recover_snoc : {S T F : Type 0} (m : Machine Lexeme S T) (p : S → Option TokenKind → Bool) (r : Recovers S F) (q : Recovery S F) (ts : List Lexeme) (t : Lexeme) →
    recovery_of_all_by m p r q (ts ++ t ∷ []) ≡ recovery_step_by m p r (recovery_of_all_by m p r q ts) t
recover_snoc m p r q [] t = refl
recover_snoc m p r q (u ∷ ts) t = recover_snoc m p r (recovery_step_by m p r q u) ts t

pub token_written : {S T F : Type 0} {m : Machine Lexeme S T} {p : S → Option TokenKind → Bool} {r : Recovers S F} {text : List ℕ} {q : Recovery S F} {l u : LexerState} (t : Token) → Met m p r text q l → LexerAnswers l (Some (Ok t)) u → IsWritten (lexeme_of t)
token_written {text = text} {l = l} {u = u} t w a = next_written text w.before l u t w.stands a

pub fewer : {S T F : Type 0} {m : Machine Lexeme S T} {p : S → Option TokenKind → Bool} {r : Recovers S F} {text : List ℕ} {q : Recovery S F} {l u : LexerState} (t : Token) → Met m p r text q l → LexerAnswers l (Some (Ok t)) u → bytes_left u < bytes_left l
fewer {text = text} {l = l} {u = u} t w a = fewer_left text w.before l u t w.utf8 w.stands a

pub one_more : {S T F : Type 0} {m : Machine Lexeme S T} {p : S → Option TokenKind → Bool} {r : Recovers S F} {text : List ℕ} {q n : Recovery S F} {l u : LexerState} (t : Token) → Met m p r text q l → LexerAnswers l (Some (Ok t)) u → n ≡ recovery_step_by m p r q (lexeme_of t) → Met m p r text n u
one_more {m = m} {p = p} {r = r} {text = text} {l = l} {u = u} t w a h = record {
  utf8 = w.utf8;
  before = w.before ++ lexeme_of t ∷ [];
  is = h ∙ (ap (λ q. recovery_step_by m p r q (lexeme_of t)) w.is ∙ sym (recover_snoc m p r (reading [] 0 m.start) w.before (lexeme_of t)));
  stands = token_behind text w.before l u t w.stands a;
}

-- what the lexer answers at the end, or at a bad place
abbrev pub ending : Option ℕ → Option (Result Token InvalidToken)
ending (Some place) = Some (Err record { location = place })
ending None = None

ends_there : {S T F : Type 0} {m : Machine Lexeme S T} {p : S → Option TokenKind → Bool} {r : Recovers S F} {text : List ℕ} {q : Recovery S F} {l : LexerState} (u : LexerState) (bad : Option ℕ) → (w : Met m p r text q l) → LexerAnswers l (ending bad) u → IsCutOrStop text 0 w.before bad
ends_there {text = text} {l = l} u None w a = end_behind text w.before l u w.stands a
ends_there {text = text} {l = l} u (Some place) w a = stops_behind text w.before l place w.stands a.1

-- ---- a run that tells nothing has only read

-- a fault has been met
abbrev Spoilt : {S F : Type 0} → Recovery S F → Type 0
Spoilt (reading [] l s) = ⊥
Spoilt (reading (x ∷ xs) l s) = Unit {0}
Spoilt (skipping xs w s x) = Unit {0}
Spoilt (stopped xs x) = Unit {0}

snoc_spoilt : {S F : Type 0} (xs : List F) (x : F) (l : ℕ) (s : S) → Spoilt (reading (xs ++ x ∷ []) l s)
snoc_spoilt [] x l s = tt
snoc_spoilt (y ∷ xs) x l s = tt

skip_spoilt : {S F : Type 0} (xs : List F) (w : RecoveryWay) (x : F) (t : Lexeme) (k : Skipped S) → Spoilt (behind_skip xs w x t k)
skip_spoilt xs w x t (on s) = tt
skip_spoilt xs w x t (over s) = snoc_spoilt xs x t.end s
skip_spoilt xs w x t stop = tt

taken_spoilt : {S T F : Type 0} (r : Recovers S F) (x : F) (xs : List F) (t : Lexeme) (a : Answer S T) → Spoilt (taken_stage r (x ∷ xs) t a)
taken_spoilt r x xs t (next q) = tt
taken_spoilt r x xs t (ended y) = tt
taken_spoilt r x xs t refused = tt
taken_spoilt r x xs t too_large = tt

judged_spoilt : {S T F : Type 0} (b : Bool) (r : Recovers S F) (x : F) (xs : List F) (l : ℕ) (s : S) (t : Lexeme) (a : Answer S T) → Spoilt (judgment_by b r (x ∷ xs) l s t a)
judged_spoilt true r x xs l s t a = taken_spoilt r x xs t a
judged_spoilt false r x xs l s t a = skip_spoilt (x ∷ xs) (r.way s) (r.tell s l (Some t)) t (skip r.close r.end (r.way s) s (mark_of t.kind))

recover_spoilt : {S T F : Type 0} (m : Machine Lexeme S T) (p : S → Option TokenKind → Bool) (r : Recovers S F) (q : Recovery S F) (t : Lexeme) → Spoilt q → Spoilt (recovery_step_by m p r q t)
recover_spoilt m p r (reading [] l s) t h = absurd h
recover_spoilt m p r (reading (x ∷ xs) l s) t h = judged_spoilt (p s (Some t.kind)) r x xs l s t (m.step s t)
recover_spoilt m p r (skipping xs w s x) t h = skip_spoilt xs w x t (skip r.close r.end w s (mark_of t.kind))
recover_spoilt m p r (stopped xs x) t h = tt

all_spoilt : {S T F : Type 0} (m : Machine Lexeme S T) (p : S → Option TokenKind → Bool) (r : Recovers S F) (q : Recovery S F) (ts : List Lexeme) → Spoilt q → Spoilt (recovery_of_all_by m p r q ts)
all_spoilt m p r q [] h = h
all_spoilt m p r q (t ∷ ts) h = all_spoilt m p r (recovery_step_by m p r q t) ts (recover_spoilt m p r q t h)

never_clean : {S T F : Type 0} (m : Machine Lexeme S T) (p : S → Option TokenKind → Bool) (r : Recovers S F) (q : Recovery S F) (ts : List Lexeme) (n : ℕ) (s : S) → Spoilt q → recovery_of_all_by m p r q ts ≡ reading [] n s → ⊥
never_clean m p r q ts n s h e = subst (λ q. Spoilt q) e (all_spoilt m p r q ts h)

reading_is : {S F : Type 0} {xs ys : List F} {l n : ℕ} {s q : S} → reading xs l s ≡ reading ys n q → s ≡ q
reading_is e = cc

clean_by : {S T F : Type 0} (m : Machine Lexeme S T) (p : S → Option TokenKind → Bool) (r : Recovers S F) (l n : ℕ) (s q : S) (t : Lexeme) (ts : List Lexeme) (b : Bool) (a : Answer S T) → recovery_of_all_by m p r (judgment_by b r [] l s t a) ts ≡ reading [] n q →
    ((u : S) → recovery_of_all_by m p r (reading [] t.end u) ts ≡ reading [] n q → steps m (Some u) ts ≡ Some q) → steps m (answer_state a) ts ≡ Some q
clean_by m p r l n s q t ts true (next u) e go = go u e
clean_by m p r l n s q t ts true (ended x) e go = absurd (never_clean m p r (stopped [] (r.large t)) ts n q tt e)
clean_by m p r l n s q t ts true refused e go = absurd (never_clean m p r (stopped [] (r.large t)) ts n q tt e)
clean_by m p r l n s q t ts true too_large e go = absurd (never_clean m p r (stopped [] (r.large t)) ts n q tt e)
clean_by m p r l n s q t ts false a e go = absurd (never_clean m p r (judgment_by false r [] l s t a) ts n q (skip_spoilt [] (r.way s) (r.tell s l (Some t)) t (skip r.close r.end (r.way s) s (mark_of t.kind))) e)

clean_run : {S T F : Type 0} (m : Machine Lexeme S T) (p : S → Option TokenKind → Bool) (r : Recovers S F) (l n : ℕ) (s q : S) (ts : List Lexeme) → recovery_of_all_by m p r (reading [] l s) ts ≡ reading [] n q → steps m (Some s) ts ≡ Some q
clean_run m p r l n s q [] e = ap (λ s. Some s) (reading_is e)
clean_run m p r l n s q (t ∷ ts) e = clean_by m p r l n s q t ts (p s (Some t.kind)) (m.step s t) e (λ u h. clean_run m p r t.end n u q ts h)

-- ---- the end

listed_more : {F : Type 0} (o : Option F) (x : F) (xs : List F) → faults_with_last o (x ∷ xs) ≡ [] → ⊥
listed_more None x xs e = cc
listed_more (Some y) x xs e = cc

more_none : {F : Type 0} (x : F) (xs : List F) → x ∷ xs ≡ [] → ⊥
more_none x xs e = cc

record Clean {S F : Type 0} (q : Recovery S F) (bad : Option ℕ) : Type 0 where
  end : ℕ
  state : S
  is : q ≡ reading [] end state
  goes : bad ≡ None

clean_at : {S F : Type 0} (p : S → Option TokenKind → Bool) (r : Recovers S F) (b : ℕ → F) (q : Recovery S F) (bad : Option ℕ) → met_faults p r b q bad ≡ [] → Clean q bad
clean_at p r b (reading [] l s) None e = record { end = l; state = s; is = refl; goes = refl }
clean_at p r b (reading (x ∷ xs) l s) None e = absurd (listed_more (last_of p r b (reading (x ∷ xs) l s) None) x xs e)
clean_at p r b (reading xs l s) (Some place) e = absurd (more_none (b place) xs e)
clean_at p r b (skipping xs w s x) None e = absurd (more_none x xs e)
clean_at p r b (skipping xs w s x) (Some place) e = absurd (more_none (b place) xs e)
clean_at p r b (stopped xs x) bad e = absurd (more_none x xs e)

stage_state : {S F : Type 0} (d : Phase F) (xs : List F) (l n : ℕ) (s q : S) → stage d xs l s ≡ reading [] n q → s ≡ q
stage_state phase.Reading xs l n s q e = reading_is e
stage_state (phase.Skipping w) xs l n s q e = absurd (cc)
stage_state (phase.Stopped x) xs l n s q e = absurd (cc)

reads_whole : {S T F : Type 0} {m : Machine Lexeme S T} (p : S → Option TokenKind → Bool) (r : Recovers S F) (b : ℕ → F) {text : List ℕ} (run : Run S F) {l : LexerState} (u : LexerState) (bad : Option ℕ) (x : T) → Met m p r text (stage_of run) l → LexerAnswers l (ending bad) u →
    m.finish run.state ≡ Some x → met_faults p r b (stage_of run) bad ≡ [] → IsRead m text x
reads_whole {m = m} p r b {text = text} run u bad x w a f e =
    let c = clean_at p r b (stage_of run) bad e in
    record {
      tokens = w.before;
      cut = subst (λ o. IsCutOrStop text 0 w.before o) c.goes (ends_there u bad w a);
      runs = record {
        last = run.state;
        goes = clean_run m p r 0 c.end m.start c.state w.before (sym w.is ∙ c.is) ∙ ap (λ s. Some s) (sym (stage_state run.phase run.mended run.end c.end run.state c.state c.is));
        ends = f;
      };
    }

tells_all : {S T F : Type 0} {m : Machine Lexeme S T} (p : S → Option TokenKind → Bool) (r : Recovers S F) (b : ℕ → F) {text : List ℕ} {q : Recovery S F} {l : LexerState} (u : LexerState) (bad : Option ℕ) (f : Refusal F) → Met m p r text q l → LexerAnswers l (ending bad) u →
    RefusesWith (met_faults p r b q bad) f → IsToldBy m p r b text f
tells_all p r b u bad (refusal.Memory e) w a h = tt
tells_all p r b u bad (refusal.Faults faults) w a h = record { tokens = w.before; bad = bad; cut = ends_there u bad w a; is = h ∙ ap (λ q. met_faults p r b q bad) w.is }

pub concluded : {S T F : Type 0} {m : Machine Lexeme S T} (p : S → Option TokenKind → Bool) (r : Recovers S F) (b : ℕ → F) {text : List ℕ} (run : Run S F) {l : LexerState} (u : LexerState) (bad : Option ℕ) (o : Result T (Refusal F)) → Met m p r text (stage_of run) l → LexerAnswers l (ending bad) u →
    IfOk o (λ x. m.finish run.state ≡ Some x) → MatchResult o (λ x. met_faults p r b (stage_of run) bad ≡ []) (λ f. RefusesWith (met_faults p r b (stage_of run) bad) f) →
    MatchResult o (λ x. IsRead m text x) (λ f. IsToldBy m p r b text f)
concluded p r b run u bad (Ok x) w g f e = reads_whole p r b run u bad x w g f e
concluded p r b run u bad (Err f) w g i e = tells_all p r b u bad f w g e
