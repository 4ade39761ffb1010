-- Recovery in place tells the faults of the mended tokens, and no others.
use Rattle.std.specs.Prelude.{◌↔◌}
use Rattle.std.proofs.Common.{◌≡◌, ℕ, List, [], ◌∷◌, ◌++◌, Option, Some, None, Bool, true, false, refl, sym, ◌∙◌, ap, subst, append_assoc}
use Rattle.cedar_lexer.specs.Token.{Lexeme}
use Rattle.cedar_lexer.specs.declared.token.TokenKind.{TokenKind}
use Rattle.cedar_lexer.specs.declared.token.TokenKind.TheVariants as kind
use Rattle.cedar_grammar.specs.declared.reading.mark.Mark.TheVariants as mark
use Rattle.cedar_grammar.specs.declared.reading.recovery.RecoveryWay.{RecoveryWay}
use Rattle.cedar_grammar.specs.declared.reading.recovery.RecoveryWay.TheVariants as way
use Rattle.cedar_syntax.specs.tokens.Tokens.{Spot, one}
use Rattle.cedar_grammar.specs.grammar.Sentences.{first}
use Rattle.cedar_grammar.specs.faults.Mended.{InBraces, EndsInBraces, BegunPolicy, NoneIs, short_policy, Mended, to_brace, to_end, head}
use Rattle.cedar_grammar.specs.machines.Machine.{Machine, Answer, next, ended, refused, answer_state, steps, Comes, AnswersRightly, IsParser, is_taken, is_some, allows, IsShape, Shapes, no_tree}
use Rattle.cedar_grammar.specs.machines.Machine as parser
use Rattle.cedar_grammar.specs.machines.Marks.{mark_of}
use Rattle.cedar_grammar.specs.machines.Recovery.{Recovers, reading, skipping, stopped, skip_step, judgment, run_faults, told_reading, told_all}
use Rattle.cedar_grammar.proofs.machines.Laws.{some_is, none_some, false_true, steps-none, ends_alike}
use Rattle.cedar_grammar.proofs.machines.Holding.{snoc_assoc}
use Rattle.cedar_grammar.proofs.machines.Ending.{spot_of, token_at}
use Rattle.cedar_policy_machine.proofs.machines.Alike.{IsByShape}
use Rattle.cedar_policy_machine.proofs.machines.SequenceShapes.{IsShapeBy}

-- where the last token ends
abbrev pub end_from : ℕ → List Lexeme → ℕ
end_from l [] = l
end_from l (t ∷ ts) = end_from t.end ts

-- tokens that end with a begun policy
pub record Split (src : List ℕ) (W : List Lexeme → Type 0) (ts : List Lexeme) : Type 0 where
  pub whole : List Lexeme
  pub part : List Lexeme
  pub is : whole ++ part ≡ ts
  pub stands : W whole
  pub begun : BegunPolicy src part

-- a state of this shape behind these tokens
pub record Comparable {S T V : Type 0} (m : Machine Lexeme S T) (f : S → V) (ts : List Lexeme) (v : V) : Type 0 where
  pub state : S
  pub comes : Comes m ts state
  pub alike : v ≡ f state

-- what a machine shows of itself to be recovered
pub record Recoverable {S T F V : Type 0} (src : List ℕ) (m : Machine Lexeme S T) (R : List Lexeme → T → Type 0) (W : List Lexeme → Type 0) (U : List Lexeme → Option Lexeme → F → Type 0) (L : Lexeme → F → Type 0) (r : Recovers S F)
    (n : Machine TokenKind V (Unit {0})) (f : S → V) : Type 0 where
  pub parser : IsParser m R
  pub shaped : Shapes m n f no_tree
  pub by_shape : IsByShape r f
  pub tells : (ts : List Lexeme) (s : S) (o : Option Lexeme) (x : F) → Comes m ts s → U ts o x ↔ (r.tell s (end_from 0 ts) o ≡ x)
  pub larges : (t : Lexeme) (x : F) → L t x ↔ (r.large t ≡ x)
  pub inside : (ts : List Lexeme) (s : S) → Comes m ts s → r.way s ≡ way.ToBrace → EndsInBraces src W ts
  pub braces : (us vs : List Lexeme) (s : S) → InBraces src W us vs → Comes m (us ++ vs) s → r.way s ≡ way.ToBrace
  pub begun : (ts : List Lexeme) (s : S) → Comes m ts s → (r.way s ≡ way.Stop → ⊥) → Split src W ts
  pub not_begun : (ts us : List Lexeme) (s : S) → W ts → BegunPolicy src us → Comes m (ts ++ us) s → r.way s ≡ way.Stop → ⊥
  pub closes : (us vs : List Lexeme) (s : S) (e : Spot) → InBraces src W us vs → Comes m (us ++ vs) s → Comparable m f (us ++ one kind.CloseBrace e) (f (r.close s))
  pub ends : (ts us : List Lexeme) (s : S) (e : Spot) → W ts → BegunPolicy src us → Comes m (ts ++ us) s → Comparable m f (ts ++ short_policy e) (f (r.end s))

-- runs of the parser that recovers

reads_by : {S T F : Type 0} (m : Machine Lexeme S T) (r : Recovers S F) (xs : List F) (l : ℕ) (s q : S) (t : Lexeme) (ts us : List Lexeme) (a : Answer S T) → steps m (answer_state a) ts ≡ Some q →
    ((u : S) → steps m (Some u) ts ≡ Some q → told_all m r (reading xs t.end u) (ts ++ us) ≡ told_all m r (reading xs (end_from t.end ts) q) us) →
    told_all m r (judgment r xs l s t a) (ts ++ us) ≡ told_all m r (reading xs (end_from t.end ts) q) us
reads_by m r xs l s q t ts us (next u) h go = go u h
reads_by m r xs l s q t ts us (ended x) h go = absurd (none_some (steps-none m ts) h)
reads_by m r xs l s q t ts us refused h go = absurd (none_some (steps-none m ts) h)
reads_by m r xs l s q t ts us parser.too_large h go = absurd (none_some (steps-none m ts) h)

-- tokens that are taken
pub reads : {S T F : Type 0} (m : Machine Lexeme S T) (r : Recovers S F) (xs : List F) (l : ℕ) (s q : S) (ts us : List Lexeme) → steps m (Some s) ts ≡ Some q →
    told_all m r (reading xs l s) (ts ++ us) ≡ told_all m r (reading xs (end_from l ts) q) us
reads m r xs l s q [] us h = ap (λ s. told_all m r (reading xs l s) us) (some_is h)
reads m r xs l s q (t ∷ ts) us h = reads_by m r xs l s q t ts us (m.step s t) h (λ u g. reads m r xs t.end u q ts us g)

pub stays : {S T F : Type 0} (m : Machine Lexeme S T) (r : Recovers S F) (xs : List F) (x : F) (ts : List Lexeme) → told_all m r (stopped xs x) ts ≡ run_faults xs (Some x)
stays m r xs x [] = refl
stays m r xs x (t ∷ ts) = stays m r xs x ts

-- skipping

-- where it ends: at a semicolon, and in braces at a closing brace too
abbrev pub is_stop : Bool → TokenKind → Bool
is_stop b kind.CloseBrace = b
is_stop b kind.Semicolon = true
is_stop b _ = false

-- tokens that are skipped
abbrev pub Skips : Bool → List Lexeme → Type 0
Skips b [] = Unit {0}
Skips b (t ∷ ts) = (is_stop b t.kind ≡ false) × Skips b ts

abbrev pub braced : RecoveryWay → Bool
braced way.ToBrace = true
braced way.ToEnd = false
braced way.Stop = false

abbrev pub skips_on : RecoveryWay → Bool
skips_on way.ToBrace = true
skips_on way.ToEnd = true
skips_on way.Stop = false

skip_one : {S F : Type 0} (r : Recovers S F) (xs : List F) (w : RecoveryWay) (s : S) (x : F) (t : Lexeme) (k : TokenKind) → skips_on w ≡ true → is_stop (braced w) k ≡ false → skip_step r xs w s x t (mark_of k) ≡ skipping xs w s x
skip_one r xs way.ToBrace s x t kind.CloseBrace h e = absurd (cc)
skip_one r xs way.ToBrace s x t kind.Semicolon h e = absurd (cc)
skip_one r xs way.ToBrace s x t _ h e = refl
skip_one r xs way.ToEnd s x t kind.Semicolon h e = absurd (cc)
skip_one r xs way.ToEnd s x t _ h e = refl
skip_one r xs way.Stop s x t k h e = absurd (cc)

pub skips : {S T F : Type 0} (m : Machine Lexeme S T) (r : Recovers S F) (xs : List F) (w : RecoveryWay) (s : S) (x : F) (ts us : List Lexeme) → skips_on w ≡ true → Skips (braced w) ts →
    told_all m r (skipping xs w s x) (ts ++ us) ≡ told_all m r (skipping xs w s x) us
skips m r xs w s x [] us h i = refl
skips m r xs w s x (t ∷ ts) us h i = ap (λ q. told_all m r q (ts ++ us)) (skip_one r xs w s x t t.kind h i.0) ∙ skips m r xs w s x ts us h i.1

pub skips_out : {S T F : Type 0} (m : Machine Lexeme S T) (r : Recovers S F) (xs : List F) (w : RecoveryWay) (s : S) (x : F) (ts : List Lexeme) → skips_on w ≡ true → Skips (braced w) ts → told_all m r (skipping xs w s x) ts ≡ run_faults xs (Some x)
skips_out m r xs w s x [] h i = refl
skips_out m r xs w s x (t ∷ ts) h i = ap (λ q. told_all m r q ts) (skip_one r xs w s x t t.kind h i.0) ∙ skips_out m r xs w s x ts h i.1

pub no_stop : (b : Bool) (ts us : List Lexeme) (t : Lexeme) → is_stop b t.kind ≡ true → Skips b (ts ++ t ∷ us) → ⊥
no_stop b [] us t e h = false_true h.0 e
no_stop b (j ∷ ts) us t e h = no_stop b ts us t e h.1

-- what is skipped, by its kinds

none_stops : (b : Bool) (k : TokenKind) → is_stop b k ≡ true → (ts : List Lexeme) → Skips b ts → NoneIs k ts
none_stops b k e [] h = tt
none_stops b k e (t ∷ ts) h = (λ i. false_true h.0 (ap (λ k. is_stop b k) i ∙ e), none_stops b k e ts h.1)

goes_on_within : (k : TokenKind) → ¬ (k ≡ kind.CloseBrace) → ¬ (k ≡ kind.Semicolon) → is_stop true k ≡ false
goes_on_within kind.CloseBrace h i = absurd (h refl)
goes_on_within kind.Semicolon h i = absurd (i refl)
goes_on_within _ h i = refl

goes_on_outside : (k : TokenKind) → ¬ (k ≡ kind.Semicolon) → is_stop false k ≡ false
goes_on_outside kind.Semicolon h = absurd (h refl)
goes_on_outside _ h = refl

skips_within : (ts : List Lexeme) → NoneIs kind.CloseBrace ts → NoneIs kind.Semicolon ts → Skips true ts
skips_within [] h i = tt
skips_within (t ∷ ts) h i = (goes_on_within t.kind h.0 i.0, skips_within ts h.1 i.1)

skips_outside : (ts : List Lexeme) → NoneIs kind.Semicolon ts → Skips false ts
skips_outside [] h = tt
skips_outside (t ∷ ts) h = (goes_on_outside t.kind h.0, skips_outside ts h.1)

-- a fault is told, and then it is left

refused_by : {S T F V : Type 0} (m : Machine Lexeme S T) (r : Recovers S F) (f : S → V) (xs : List F) (l : ℕ) (s : S) (t : Lexeme) (ts : List Lexeme) (a : Answer S T) (c : Answer V (Unit {0})) → IsShapeBy f a c → is_taken c ≡ false →
    told_all m r (judgment r xs l s t a) ts ≡ told_all m r (skipping xs (r.way s) s (r.tell s l (Some t))) (t ∷ ts)
refused_by m r f xs l s t ts (next q) c i e = absurd (false_true e (ap (λ c. is_taken c) i))
refused_by m r f xs l s t ts (ended x) c i e = refl
refused_by m r f xs l s t ts refused c i e = refl
refused_by m r f xs l s t ts parser.too_large c i e = absurd (false_true e i)

end_told : {T F : Type 0} (xs : List F) (x : F) (o : Option T) → is_some o ≡ false → told_reading xs x o ≡ run_faults xs (Some x)
end_told xs x None e = refl
end_told xs x (Some y) e = absurd (cc)

bool_false : (b : Bool) → (b ≡ true → ⊥) → b ≡ false
bool_false true h = absurd (h refl)
bool_false false h = refl

pub fault_told : {S T F V : Type 0} {m : Machine Lexeme S T} {n : Machine TokenKind V (Unit {0})} (r : Recovers S F) (f : S → V) → Shapes m n f no_tree → (xs : List F) (l : ℕ) (s : S) (us : List Lexeme) → allows n (f s) (first us) ≡ false →
    told_all m r (reading xs l s) us ≡ told_all m r (skipping xs (r.way s) s (r.tell s l (head us))) us
fault_told {m = m} r f i xs l s [] e = end_told xs (r.tell s l None) (m.finish s) (sym (ends_alike f no_tree i s) ∙ e)
fault_told {m = m} {n = n} r f i xs l s (t ∷ ts) e = refused_by m r f xs l s t ts (m.step s t) (n.step (f s) t.kind) (i.steps s t) e

-- the first place where skipping ends
pub data Search (b : Bool) : List Lexeme → Type 0 where
  found_none : {ts : List Lexeme} → Skips b ts → Search b ts
  found : (ts : List Lexeme) (t : Lexeme) (us : List Lexeme) → Skips b ts → is_stop b t.kind ≡ true → Search b (ts ++ t ∷ us)

search_on : (b : Bool) (t : Lexeme) (ts : List Lexeme) (c : Bool) → is_stop b t.kind ≡ c → Search b ts → Search b (t ∷ ts)
search_on b t ts true e h = found [] t ts tt e
search_on b t ts false e (found_none h) = found_none (e, h)
search_on b t ts false e (found vs j us h i) = found (t ∷ vs) j us (e, h) i

pub search : (b : Bool) (ts : List Lexeme) → Search b ts
search b [] = found_none tt
search b (t ∷ ts) = search_on b t ts (is_stop b t.kind) refl (search b ts)

-- at a stop the tokens can be mended, and recovery comes to a state of the same shape

pub end_from-append : (l : ℕ) (ts us : List Lexeme) → end_from l (ts ++ us) ≡ end_from (end_from l ts) us
end_from-append l [] us = refl
end_from-append l (t ∷ ts) us = end_from-append t.end ts us

pub record StopAt {S T F V : Type 0} (src : List ℕ) (m : Machine Lexeme S T) (R : List Lexeme → T → Type 0) (W : List Lexeme → Type 0) (r : Recovers S F) (f : S → V) (before : List Lexeme) (s : S) (vs ws : List Lexeme) (t : Lexeme) : Type 0 where
  pub front : List Lexeme
  pub to : S
  pub state : S
  pub mended : Mended src W before (vs ++ t ∷ ws) (front ++ ws)
  pub comes : Comes m front state
  pub last : end_from 0 front ≡ t.end
  pub alike : f to ≡ f state
  pub resumes : (xs : List F) (x : F) → skip_step r xs (r.way s) s x t (mark_of t.kind) ≡ reading (xs ++ x ∷ []) t.end to

stop_assoc : (ts vs ws : List Lexeme) (t : Lexeme) → ts ++ (vs ++ (t ∷ []) ++ ws) ≡ ts ++ (vs ++ t ∷ ws)
stop_assoc ts vs ws t = simp append_assoc

at_brace : {S T F V : Type 0} {src : List ℕ} {m : Machine Lexeme S T} {R : List Lexeme → T → Type 0} {W : List Lexeme → Type 0} {U : List Lexeme → Option Lexeme → F → Type 0} {L : Lexeme → F → Type 0} {r : Recovers S F} {n : Machine TokenKind V (Unit {0})} {f : S → V} →
    Recoverable src m R W U L r n f → (before : List Lexeme) (s : S) (vs ws : List Lexeme) (e : Spot) → Comes m before s → r.way s ≡ way.ToBrace → Skips true vs → StopAt src m R W r f before s vs ws (token_at kind.CloseBrace e)
at_brace {src = src} {m = m} {W = W} {r = r} {f = f} d before s vs ws e c h k =
    let b = d.inside before s c h in
    let g = d.closes b.opened b.within s e b.braces (subst (λ ts. Comes m ts s) (sym b.is) c) in
    record {
      front = b.opened ++ one kind.CloseBrace e;
      to = r.close s;
      state = g.state;
      mended = subst (λ ts. Mended src W ts (vs ++ token_at kind.CloseBrace e ∷ ws) ((b.opened ++ one kind.CloseBrace e) ++ ws)) b.is
          (subst (λ us. Mended src W (b.opened ++ b.within) us ((b.opened ++ one kind.CloseBrace e) ++ ws)) (snoc_assoc vs (token_at kind.CloseBrace e) ws) (to_brace b.opened b.within vs ws e b.braces (none_stops true kind.CloseBrace refl vs k) (none_stops true kind.Semicolon refl vs k)));
      comes = g.comes;
      last = end_from-append 0 b.opened (one kind.CloseBrace e);
      alike = g.alike;
      resumes = λ xs x. ap (λ w. skip_step r xs w s x (token_at kind.CloseBrace e) mark.CloseBrace) h;
    }

way_apart : {w : RecoveryWay} → w ≡ way.ToBrace → w ≡ way.ToEnd → ⊥
way_apart e f = cc

not_stopped : (w : RecoveryWay) → skips_on w ≡ true → w ≡ way.Stop → ⊥
not_stopped way.ToBrace h e = cc
not_stopped way.ToEnd h e = cc
not_stopped way.Stop h e = absurd (cc)

-- behind tokens that end in braces, what is skipped has no closing brace
brace_behind : {S T F V : Type 0} {src : List ℕ} {m : Machine Lexeme S T} {R : List Lexeme → T → Type 0} {W : List Lexeme → Type 0} {U : List Lexeme → Option Lexeme → F → Type 0} {L : Lexeme → F → Type 0} {r : Recovers S F} {n : Machine TokenKind V (Unit {0})} {f : S → V} →
    Recoverable src m R W U L r n f → (before : List Lexeme) (s : S) (w : RecoveryWay) → Comes m before s → r.way s ≡ w → skips_on w ≡ true → (vs : List Lexeme) → Skips (braced w) vs → EndsInBraces src W before → NoneIs kind.CloseBrace vs
brace_behind d before s way.ToBrace c h i vs k j = none_stops true kind.CloseBrace refl vs k
brace_behind {m = m} d before s way.ToEnd c h i vs k j = absurd (way_apart (d.braces j.opened j.within s j.braces (subst (λ ts. Comes m ts s) (sym j.is) c)) h)
brace_behind d before s way.Stop c h i vs k j = absurd (cc)

-- and what has none, where they do, is skipped
skipped_behind : {S T F V : Type 0} {src : List ℕ} {m : Machine Lexeme S T} {R : List Lexeme → T → Type 0} {W : List Lexeme → Type 0} {U : List Lexeme → Option Lexeme → F → Type 0} {L : Lexeme → F → Type 0} {r : Recovers S F} {n : Machine TokenKind V (Unit {0})} {f : S → V} →
    Recoverable src m R W U L r n f → (before : List Lexeme) (s : S) (w : RecoveryWay) → Comes m before s → r.way s ≡ w → (vs : List Lexeme) → (EndsInBraces src W before → NoneIs kind.CloseBrace vs) → NoneIs kind.Semicolon vs → Skips (braced w) vs
skipped_behind d before s way.ToBrace c h vs k j = skips_within vs (k (d.inside before s c h)) j
skipped_behind d before s way.ToEnd c h vs k j = skips_outside vs j
skipped_behind d before s way.Stop c h vs k j = skips_outside vs j

end_resumes : {S F : Type 0} (r : Recovers S F) (xs : List F) (w : RecoveryWay) (s : S) (x : F) (e : Spot) → skips_on w ≡ true → skip_step r xs w s x (token_at kind.Semicolon e) mark.Semicolon ≡ reading (xs ++ x ∷ []) e.end (r.end s)
end_resumes r xs way.ToBrace s x e h = refl
end_resumes r xs way.ToEnd s x e h = refl
end_resumes r xs way.Stop s x e h = absurd (cc)

at_semicolon : {S T F V : Type 0} {src : List ℕ} {m : Machine Lexeme S T} {R : List Lexeme → T → Type 0} {W : List Lexeme → Type 0} {U : List Lexeme → Option Lexeme → F → Type 0} {L : Lexeme → F → Type 0} {r : Recovers S F} {n : Machine TokenKind V (Unit {0})} {f : S → V} →
    Recoverable src m R W U L r n f → (before : List Lexeme) (s : S) (vs ws : List Lexeme) (e : Spot) → Comes m before s → skips_on (r.way s) ≡ true → Skips (braced (r.way s)) vs → StopAt src m R W r f before s vs ws (token_at kind.Semicolon e)
at_semicolon {src = src} {m = m} {W = W} {r = r} {f = f} d before s vs ws e c h k =
    let b = d.begun before s c (not_stopped (r.way s) h) in
    let g = d.ends b.whole b.part s e b.stands b.begun (subst (λ ts. Comes m ts s) (sym b.is) c) in
    let front : List Lexeme = b.whole ++ short_policy e in
    record {
      front = front;
      to = r.end s;
      state = g.state;
      mended = subst (λ ts. Mended src W ts (vs ++ token_at kind.Semicolon e ∷ ws) (front ++ ws)) b.is
          (subst (λ us. Mended src W (b.whole ++ b.part) us (front ++ ws)) (snoc_assoc vs (token_at kind.Semicolon e) ws)
          (to_end b.whole b.part vs ws e b.stands b.begun (λ i. brace_behind d before s (r.way s) c refl h vs k (subst (λ ts. EndsInBraces src W ts) b.is i)) (none_stops (braced (r.way s)) kind.Semicolon refl vs k)));
      comes = g.comes;
      last = end_from-append 0 b.whole (short_policy e);
      alike = g.alike;
      resumes = λ xs x. end_resumes r xs (r.way s) s x e h;
    }

stop_kind : {S T F V : Type 0} {src : List ℕ} {m : Machine Lexeme S T} {R : List Lexeme → T → Type 0} {W : List Lexeme → Type 0} {U : List Lexeme → Option Lexeme → F → Type 0} {L : Lexeme → F → Type 0} {r : Recovers S F} {n : Machine TokenKind V (Unit {0})} {f : S → V} →
    Recoverable src m R W U L r n f → (before : List Lexeme) (s : S) (vs ws : List Lexeme) (w : RecoveryWay) (k : TokenKind) (e : Spot) → Comes m before s → r.way s ≡ w → skips_on w ≡ true → Skips (braced w) vs → is_stop (braced w) k ≡ true →
    StopAt src m R W r f before s vs ws (token_at k e)
stop_kind d before s vs ws way.ToBrace kind.CloseBrace e c h i k j = at_brace d before s vs ws e c h k
stop_kind d before s vs ws w kind.Semicolon e c h i k j =
    at_semicolon d before s vs ws e c (ap (λ w. skips_on w) h ∙ i) (subst (λ w. Skips (braced w) vs) (sym h) k)
stop_kind d before s vs ws way.ToBrace _ e c h i k j = absurd (false_true refl j)
stop_kind d before s vs ws way.ToEnd _ e c h i k j = absurd (false_true refl j)
stop_kind d before s vs ws way.Stop _ e c h i k j = absurd (cc)

pub stop_at : {S T F V : Type 0} {src : List ℕ} {m : Machine Lexeme S T} {R : List Lexeme → T → Type 0} {W : List Lexeme → Type 0} {U : List Lexeme → Option Lexeme → F → Type 0} {L : Lexeme → F → Type 0} {r : Recovers S F} {n : Machine TokenKind V (Unit {0})} {f : S → V} →
    Recoverable src m R W U L r n f → (before : List Lexeme) (s : S) (vs ws : List Lexeme) (t : Lexeme) → Comes m before s → skips_on (r.way s) ≡ true → Skips (braced (r.way s)) vs → is_stop (braced (r.way s)) t.kind ≡ true →
    StopAt src m R W r f before s vs ws t
stop_at {r = r} d before s vs ws t c h k j = stop_kind d before s vs ws (r.way s) t.kind (spot_of t) c refl h k j

-- and mended tokens come from a stop

pub record Resumed {S T F V : Type 0} (m : Machine Lexeme S T) (r : Recovers S F) (f : S → V) (s : S) (rest mended : List Lexeme) : Type 0 where
  pub skips : List Lexeme
  pub stop : Lexeme
  pub after : List Lexeme
  pub front : List Lexeme
  pub to : S
  pub state : S
  pub goes_on : skips_on (r.way s) ≡ true
  pub parts : rest ≡ skips ++ stop ∷ after
  pub skipping : Skips (braced (r.way s)) skips
  pub is_one : is_stop (braced (r.way s)) stop.kind ≡ true
  pub mends : mended ≡ front ++ after
  pub comes : Comes m front state
  pub last : end_from 0 front ≡ stop.end
  pub alike : f to ≡ f state
  pub resumes : (xs : List F) (x : F) → skip_step r xs (r.way s) s x stop (mark_of stop.kind) ≡ reading (xs ++ x ∷ []) stop.end to

goes_on_by : (w : RecoveryWay) → (w ≡ way.Stop → ⊥) → skips_on w ≡ true
goes_on_by way.ToBrace h = refl
goes_on_by way.ToEnd h = refl
goes_on_by way.Stop h = absurd (h refl)

pub resumed : {S T F V : Type 0} {src : List ℕ} {m : Machine Lexeme S T} {R : List Lexeme → T → Type 0} {W : List Lexeme → Type 0} {U : List Lexeme → Option Lexeme → F → Type 0} {L : Lexeme → F → Type 0} {r : Recovers S F} {n : Machine TokenKind V (Unit {0})} {f : S → V} →
    Recoverable src m R W U L r n f → {before rest mended : List Lexeme} (s : S) → Mended src W before rest mended → Comes m before s → Resumed m r f s rest mended
resumed {r = r} d s (to_brace ts us vs ws e b k j) c =
    let h = d.braces ts us s b c in
    let g = d.closes ts us s e b c in
    record {
      skips = vs;
      stop = token_at kind.CloseBrace e;
      after = ws;
      front = ts ++ one kind.CloseBrace e;
      to = r.close s;
      state = g.state;
      goes_on = ap (λ w. skips_on w) h;
      parts = snoc_assoc vs (token_at kind.CloseBrace e) ws;
      skipping = subst (λ w. Skips (braced w) vs) (sym h) (skips_within vs k j);
      is_one = ap (λ w. braced w) h;
      mends = refl;
      comes = g.comes;
      last = end_from-append 0 ts (one kind.CloseBrace e);
      alike = g.alike;
      resumes = λ xs x. ap (λ w. skip_step r xs w s x (token_at kind.CloseBrace e) mark.CloseBrace) h;
    }
resumed {r = r} d s (to_end ts us vs ws e p q k j) c =
    let h = goes_on_by (r.way s) (d.not_begun ts us s p q c) in
    let g = d.ends ts us s e p q c in
    record {
      skips = vs;
      stop = token_at kind.Semicolon e;
      after = ws;
      front = ts ++ short_policy e;
      to = r.end s;
      state = g.state;
      goes_on = h;
      parts = snoc_assoc vs (token_at kind.Semicolon e) ws;
      skipping = skipped_behind d (ts ++ us) s (r.way s) c refl vs k j;
      is_one = refl;
      mends = refl;
      comes = g.comes;
      last = end_from-append 0 ts (short_policy e);
      alike = g.alike;
      resumes = λ xs x. end_resumes r xs (r.way s) s x e h;
    }
