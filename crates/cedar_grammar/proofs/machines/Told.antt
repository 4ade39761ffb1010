-- What a machine tells where it stops is the first fault by its rule, and what it reads is the
-- tree.
use Rattle.std.specs.Prelude.{IsTrue, ◌↔◌, cond, ◌⊎◌, MatchResult, IfOk, IfErr}
use Rattle.std.proofs.Common.{◌≡◌, ℕ, List, [], ◌∷◌, ◌++◌, Option, Some, None, Bool, true, false, Result, Ok, Err, refl, sym, ◌∙◌, ap, subst, inl, inr, append_assoc}
use Rattle.std.proofs.lemmas.List.{append-nil}
use Rattle.cedar_lexer.specs.Token.{Lexeme}
use Rattle.cedar_lexer.specs.Cut.{Cuts}
use Rattle.cedar_lexer.specs.LexerState.{IsCutOrStop}
use Rattle.cedar_lexer.specs.declared.token.TokenKind.{TokenKind}
use Rattle.cedar_lexer.specs.declared.token.TokenKind.TheVariants as kind
use Rattle.cedar_lexer.proofs.Cuts.{one_end, nothing_at_end}
use Rattle.cedar_lexer.proofs.Runs.{not_both}
use Rattle.cedar_syntax.specs.declared.err.faults.Failure.{Failure}
use Rattle.cedar_syntax.specs.declared.err.faults.Failure.TheVariants.{Memory, Errors}
use Rattle.cedar_syntax.specs.declared.err.to_cst.RawFault.{RawFault}
use Rattle.cedar_grammar.specs.declared.reading.expected.ClosersOnly.{ClosersOnly}
use Rattle.cedar_grammar.specs.faults.Expected.{IsExpected}
use Rattle.cedar_grammar.specs.faults.FirstFault.{tokens_end, unexpected_fault, early_at, large_at, FirstFault, unexpected, early_end, large_number, bad_place, IsFaultIn, IsRefusal}
use Rattle.cedar_syntax.specs.faults.ParseErrors.{IsMemory}
use Rattle.cedar_grammar.specs.grammar.Grammar.{Rule, IsNodeOf, IsTreeOf}
use Rattle.cedar_grammar.specs.grammar.Place.{placed_or_start}
use Rattle.cedar_syntax.specs.tokens.Tokens.{fits}
use Rattle.cedar_syntax.specs.trees.Trees.{Cell}
use Rattle.cedar_grammar.specs.grammar.Sentences.{kinds, HasTree, Starts, Sentence, Allowed, IsFirstRefused}
use Rattle.cedar_grammar.specs.machines.Machine.{Answer, next, ended, refused, too_large, Machine, answer_state, steps, Comes, RunsTo, AnswersRightly, is_some, Reader, machine_of, allowed_by}
use Rattle.cedar_grammar.specs.machines.Judged.{may_take, ReadsBy, wanted_kinds, IsRead, large_fault, stop_fault, IsStop}
use Rattle.cedar_grammar.proofs.machines.Laws.{some_is, none_some, false_true, steps-none, then_steps, starts_from, comes}
use Rattle.cedar_grammar.proofs.machines.Expected.{expected_is, one_list}
use Rattle.cedar_grammar.proofs.machines.Readers.{may_by}

-- ---- the rule's relation, and the one of nodes

node_of : {T : Type 0} (R : Rule T) (src : List ℕ) (ts : List Lexeme) (x : T) → R src ts x → IsNodeOf R src ts (placed_or_start src ts x)
node_of R src ts x r = record { tree = x; reads = r; is = refl }

to_sentence : {T : Type 0} {R : Rule T} {src : List ℕ} {ks : List TokenKind} → Sentence (R src) ks → Sentence (IsNodeOf R src) ks
to_sentence {R = R} {src = src} s = record { tokens = s.tokens; spelled = s.spelled; tree = placed_or_start src s.tokens s.tree; reads = node_of R src s.tokens s.tree s.reads }

of_sentence : {T : Type 0} {R : Rule T} {src : List ℕ} {ks : List TokenKind} → Sentence (IsNodeOf R src) ks → Sentence (R src) ks
of_sentence s = record { tokens = s.tokens; spelled = s.spelled; tree = s.reads.tree; reads = s.reads.reads }

pub to_allowed : {T : Type 0} (R : Rule T) (src : List ℕ) (ks : List TokenKind) (after : Option TokenKind) → Allowed (R src) ks after → Allowed (IsNodeOf R src) ks after
to_allowed R src ks (Some k) a = (a.0, to_sentence a.1)
to_allowed R src ks None a = to_sentence a

pub of_allowed : {T : Type 0} (R : Rule T) (src : List ℕ) (ks : List TokenKind) (after : Option TokenKind) → Allowed (IsNodeOf R src) ks after → Allowed (R src) ks after
of_allowed R src ks (Some k) a = (a.0, of_sentence a.1)
of_allowed R src ks None a = of_sentence a

-- ---- what is used of a machine that reads by a rule

pub record Follows {S T : Type 0} (m : Machine Lexeme S (Cell T)) (R : Rule T) (src : List ℕ) (p : S → Option TokenKind → Bool) : Type 0 where
  pub begins : (ts : List Lexeme) (s : S) → Comes m ts s → Starts (R src) ts
  pub state : (ts : List Lexeme) → Starts (R src) ts → (s : S) × Comes m ts s
  pub exact : (ts : List Lexeme) (s : S) (after : Option TokenKind) → Comes m ts s → IsTrue (p s after) ↔ Allowed (R src) (kinds ts) after
  pub takes : (s : S) (t : Lexeme) → may_take (m.step s t) ≡ p s (Some t.kind)
  pub ends : (s : S) → is_some (m.finish s) ≡ p s None
  pub answers : (s : S) (t : Lexeme) → AnswersRightly t (m.step s t) (m.finish s)
  pub runs : (ts : List Lexeme) (x : T) → R src ts x → RunsTo m ts (placed_or_start src ts x)
  pub reads : (ts : List Lexeme) (s : S) (y : Cell T) → Comes m ts s → m.finish s ≡ Some y → IsNodeOf R src ts y

pub follows : {S A T : Type 0} {r : Reader S A (Cell T)} {R : Rule T} {src : List ℕ} → ReadsBy src r (IsNodeOf R src) → Follows (machine_of src r) R src (allowed_by r)
follows {r = r} {R = R} {src = src} h = record {
  begins = λ ts s c. let w = starts_from h.parser ts s c in (w.0, (w.1.1.tree, w.1.1.reads));
  state = λ ts w. comes h.parser ts (w.0, (placed_or_start src (ts ++ w.0) w.1.0, node_of R src (ts ++ w.0) w.1.0 w.1.1));
  exact = λ ts s after c. (λ e. of_allowed R src (kinds ts) after ((h.exact ts s after c).0 e), λ a. (h.exact ts s after c).1 (to_allowed R src (kinds ts) after a));
  takes = λ s t. may_by src r s t;
  ends = h.ends;
  answers = h.parser.answers;
  runs = λ ts x r. h.parser.complete ts (placed_or_start src ts x) (node_of R src ts x r);
  reads = λ ts s y c e. h.parser.sound ts s y c e;
}

-- ---- told is the first fault

refused_there : {S T : Type 0} {m : Machine Lexeme S (Cell T)} {R : Rule T} {src : List ℕ} {p : S → Option TokenKind → Bool} → Follows m R src p → (ts : List Lexeme) (s : S) (after : Option TokenKind) → Comes m ts s → p s after ≡ false → IsFirstRefused (R src) ts after
refused_there w ts s after c e = record { starts = w.begins ts s c; refuses = λ a. false_true e ((w.exact ts s after c).1 a) }

expects : {S T : Type 0} {m : Machine Lexeme S (Cell T)} {R : Rule T} {src : List ℕ} {p : S → Option TokenKind → Bool} → Follows m R src p → (n : ClosersOnly) (ts : List Lexeme) (s : S) (after : Option TokenKind) → Comes m ts s →
    IsExpected (R src) n (kinds ts) after (wanted_kinds (p s) n after)
expects {R = R} {src = src} {p = p} w n ts s after c = expected_is (R src) (kinds ts) (p s) n after (λ k. w.exact ts s (Some k) c)

large_there : {S T : Type 0} {m : Machine Lexeme S (Cell T)} {R : Rule T} {src : List ℕ} {p : S → Option TokenKind → Bool} → Follows m R src p → (n : ClosersOnly) (ts us : List Lexeme) (t : Lexeme) (bad : Option ℕ) (s : S) (raw : RawFault) (a : Answer S (Cell T)) → Comes m ts s →
    p s (Some t.kind) ≡ true → AnswersRightly t a (m.finish s) → large_fault src a t ≡ Some raw → FirstFault (R src) n src ts (t ∷ us) bad raw
large_there w n ts us t bad s raw (next r) c e h f = absurd (none_some refl f)
large_there w n ts us t bad s raw (ended x) c e h f = absurd (none_some refl f)
large_there w n ts us t bad s raw refused c e h f = absurd (none_some refl f)
large_there {R = R} {src = src} w n ts us t bad s raw too_large c e h f =
    subst (λ raw. FirstFault (R src) n src ts (t ∷ us) bad raw) (some_is f)
    (large_number (w.begins ts s c) (subst (λ k. Allowed (R src) (kinds ts) (Some k)) h.0 ((w.exact ts s (Some t.kind) c).0 e)) h.0 h.1)

token_told : {S T : Type 0} {m : Machine Lexeme S (Cell T)} {R : Rule T} {src : List ℕ} {p : S → Option TokenKind → Bool} → Follows m R src p → (n : ClosersOnly) (ts us : List Lexeme) (t : Lexeme) (bad : Option ℕ) (s : S) (raw : RawFault) (b : Bool) → Comes m ts s →
    p s (Some t.kind) ≡ b → cond b (large_fault src (m.step s t) t) (Some (unexpected_fault t (wanted_kinds (p s) n (Some t.kind)))) ≡ Some raw → FirstFault (R src) n src ts (t ∷ us) bad raw
token_told {m = m} w n ts us t bad s raw true c e f = large_there w n ts us t bad s raw (m.step s t) c e (w.answers s t) f
token_told {R = R} {src = src} w n ts us t bad s raw false c e f =
    subst (λ raw. FirstFault (R src) n src ts (t ∷ us) bad raw) (some_is f) (unexpected (refused_there w ts s (Some t.kind) c e) (expects w n ts s (Some t.kind) c))

end_told : {S T : Type 0} {m : Machine Lexeme S (Cell T)} {R : Rule T} {src : List ℕ} {p : S → Option TokenKind → Bool} → Follows m R src p → (n : ClosersOnly) (ts : List Lexeme) (s : S) (raw : RawFault) (b : Bool) → Comes m ts s → p s None ≡ b →
    cond b None (Some (early_at (tokens_end ts) (wanted_kinds (p s) n None))) ≡ Some raw → FirstFault (R src) n src ts [] None raw
end_told w n ts s raw true c e f = absurd (none_some refl f)
end_told {R = R} {src = src} w n ts s raw false c e f = subst (λ raw. FirstFault (R src) n src ts [] None raw) (some_is f) (early_end (refused_there w ts s None c e) (expects w n ts s None c))

pub told_is : {S T : Type 0} {m : Machine Lexeme S (Cell T)} {R : Rule T} {src : List ℕ} {p : S → Option TokenKind → Bool} → Follows m R src p → (n : ClosersOnly) (ts us : List Lexeme) (bad : Option ℕ) (s : S) (raw : RawFault) → Comes m ts s → stop_fault m p n src s ts us bad ≡ Some raw →
    FirstFault (R src) n src ts us bad raw
told_is {p = p} w n ts (t ∷ us) bad s raw c f = token_told w n ts us t bad s raw (p s (Some t.kind)) c refl f
told_is {p = p} w n ts [] None s raw c f = end_told w n ts s raw (p s None) c refl f
told_is {R = R} {src = src} w n ts [] (Some place) s raw c f = subst (λ raw. FirstFault (R src) n src ts [] (Some place) raw) (some_is f) (bad_place (w.begins ts s c))

-- ---- and the first fault is told

pub record Tells {S T : Type 0} (m : Machine Lexeme S T) (p : S → Option TokenKind → Bool) (n : ClosersOnly) (src : List ℕ) (ts us : List Lexeme) (bad : Option ℕ) (raw : RawFault) : Type 0 where
  pub state : S
  pub comes : Comes m ts state
  pub is : stop_fault m p n src state ts us bad ≡ Some raw

bool_false : (b : Bool) → (b ≡ true → ⊥) → b ≡ false
bool_false true h = absurd (h refl)
bool_false false h = refl

is_refused : {S T : Type 0} {m : Machine Lexeme S (Cell T)} {R : Rule T} {src : List ℕ} {p : S → Option TokenKind → Bool} → Follows m R src p → (ts : List Lexeme) (s : S) (after : Option TokenKind) → Comes m ts s → ¬ (Allowed (R src) (kinds ts) after) → p s after ≡ false
is_refused {p = p} w ts s after c r = bool_false (p s after) (λ e. r ((w.exact ts s after c).0 e))

large_answer : {S T : Type 0} (src : List ℕ) (t : Lexeme) (a : Answer S T) (o : Option T) → AnswersRightly t a o → may_take a ≡ true → t.kind ≡ kind.Number → fits t.text ≡ false → large_fault src a t ≡ Some (large_at src t)
large_answer src t (next s) o h e k f = absurd (false_true f (h k))
large_answer src t (ended x) o h e k f = absurd (false_true refl e)
large_answer src t refused o h e k f = absurd (false_true refl e)
large_answer src t too_large o h e k f = refl

pub fault_told : {S T : Type 0} {m : Machine Lexeme S (Cell T)} {R : Rule T} {src : List ℕ} {p : S → Option TokenKind → Bool} {n : ClosersOnly} {ts us : List Lexeme} {bad : Option ℕ} {raw : RawFault} → Follows m R src p → FirstFault (R src) n src ts us bad raw →
    Tells m p n src ts us bad raw
fault_told {m = m} {src = src} {p = p} {n = n} w (unexpected {ts = ts} {t = t} h e) =
    let c = w.state ts h.starts in record {
      state = c.0;
      comes = c.1;
      is = ap (λ b. cond b (large_fault src (m.step c.0 t) t) (Some (unexpected_fault t (wanted_kinds (p c.0) n (Some t.kind))))) (is_refused w ts c.0 (Some t.kind) c.1 h.refuses) ∙
          ap (λ ks. Some (unexpected_fault t ks)) (one_list (expects w n ts c.0 (Some t.kind) c.1) e);
    }
fault_told {src = src} {p = p} {n = n} w (early_end {ts = ts} h e) =
    let c = w.state ts h.starts in record {
      state = c.0;
      comes = c.1;
      is = ap (λ b. cond b None (Some (early_at (tokens_end ts) (wanted_kinds (p c.0) n None)))) (is_refused w ts c.0 None c.1 h.refuses) ∙ ap (λ ks. Some (early_at (tokens_end ts) ks)) (one_list (expects w n ts c.0 None c.1) e);
    }
fault_told {m = m} {R = R} {src = src} {p = p} {n = n} w (large_number {ts = ts} {t = t} h a k f) =
    let c = w.state ts h in
    let e : p c.0 (Some t.kind) ≡ true = (w.exact ts c.0 (Some t.kind) c.1).1 (subst (λ k. Allowed (R src) (kinds ts) (Some k)) (sym k) a) in record {
      state = c.0;
      comes = c.1;
      is = ap (λ b. cond b (large_fault src (m.step c.0 t) t) (Some (unexpected_fault t (wanted_kinds (p c.0) n (Some t.kind))))) e ∙ large_answer src t (m.step c.0 t) (m.finish c.0) (w.answers c.0 t) (w.takes c.0 t ∙ e) k f;
    }
fault_told w (bad_place {ts = ts} h) = let c = w.state ts h in record { state = c.0; comes = c.1; is = refl }

-- ---- the one fault that the machine finds in a list of tokens

abbrev found_on : {S T : Type 0} → Answer S T → Option RawFault → (S → Option RawFault) → Option RawFault
found_on (next r) o go = go r
found_on (ended x) o go = o
found_on refused o go = o
found_on too_large o go = o

abbrev found_by : {S T : Type 0} → Machine Lexeme S T → (S → Option TokenKind → Bool) → ClosersOnly → List ℕ → S → List Lexeme → List Lexeme → Option ℕ → Option RawFault
found_by m p n src s ts [] bad = stop_fault m p n src s ts [] bad
found_by m p n src s ts (t ∷ us) bad = found_on (m.step s t) (stop_fault m p n src s ts (t ∷ us) bad) (λ r. found_by m p n src r (ts ++ t ∷ []) us bad)

-- behind tokens that are taken it goes on
on_taken : {S T : Type 0} (m : Machine Lexeme S T) (a : Answer S T) (o : Option RawFault) (go : S → Option RawFault) (vs : List Lexeme) (r : S) (w : Option RawFault) → ((q : S) → steps m (Some q) vs ≡ Some r → go q ≡ w) → steps m (answer_state a) vs ≡ Some r →
    found_on a o go ≡ w
on_taken m (next q) o go vs r w h e = h q e
on_taken m (ended x) o go vs r w h e = absurd (none_some (steps-none m vs) e)
on_taken m refused o go vs r w h e = absurd (none_some (steps-none m vs) e)
on_taken m too_large o go vs r w h e = absurd (none_some (steps-none m vs) e)

snoc_on : (ts : List Lexeme) (t : Lexeme) (us : List Lexeme) → (ts ++ t ∷ []) ++ us ≡ ts ++ t ∷ us
snoc_on ts t us = simp append_assoc

found_past : {S T : Type 0} (m : Machine Lexeme S T) (p : S → Option TokenKind → Bool) (n : ClosersOnly) (src : List ℕ) (s r : S) (ts vs us : List Lexeme) (bad : Option ℕ) → steps m (Some s) vs ≡ Some r →
    found_by m p n src s ts (vs ++ us) bad ≡ found_by m p n src r (ts ++ vs) us bad
found_past m p n src s r ts [] us bad e = ap (λ s. found_by m p n src s ts us bad) (some_is e) ∙ ap (λ ts. found_by m p n src r ts us bad) (sym (append-nil ts))
found_past m p n src s r ts (v ∷ vs) us bad e =
    on_taken m (m.step s v) (stop_fault m p n src s ts (v ∷ vs ++ us) bad) (λ r. found_by m p n src r (ts ++ v ∷ []) (vs ++ us) bad) vs r (found_by m p n src r (ts ++ v ∷ vs) us bad)
    (λ q h. found_past m p n src q r (ts ++ v ∷ []) vs us bad h ∙ ap (λ ts. found_by m p n src r ts us bad) (snoc_on ts v vs)) e

-- what is told is found
not_next : {S T : Type 0} (src : List ℕ) (t : Lexeme) (a : Answer S T) (b : Bool) (o : Option RawFault) (go : S → Option RawFault) (raw : RawFault) → may_take a ≡ b → cond b (large_fault src a t) o ≡ Some raw → found_on a (cond b (large_fault src a t) o) go ≡ Some raw
not_next src t (next r) true o go raw h e = absurd (none_some refl e)
not_next src t (next r) false o go raw h e = absurd (false_true h refl)
not_next src t (ended x) b o go raw h e = e
not_next src t refused b o go raw h e = e
not_next src t too_large b o go raw h e = e

told_found : {S T : Type 0} {m : Machine Lexeme S (Cell T)} {R : Rule T} {src : List ℕ} {p : S → Option TokenKind → Bool} → Follows m R src p → (n : ClosersOnly) (s : S) (ts us : List Lexeme) (bad : Option ℕ) (raw : RawFault) → stop_fault m p n src s ts us bad ≡ Some raw →
    found_by m p n src s ts us bad ≡ Some raw
told_found w n s ts [] bad raw e = e
told_found {m = m} {src = src} {p = p} w n s ts (t ∷ us) bad raw e =
    not_next src t (m.step s t) (p s (Some t.kind)) (Some (unexpected_fault t (wanted_kinds (p s) n (Some t.kind)))) (λ r. found_by m p n src r (ts ++ t ∷ []) us bad) raw (w.takes s t) e

found_in : {S T : Type 0} {m : Machine Lexeme S (Cell T)} {R : Rule T} {src : List ℕ} {p : S → Option TokenKind → Bool} → Follows m R src p → (n : ClosersOnly) (ts : List Lexeme) (bad : Option ℕ) (raw : RawFault) → IsFaultIn (R src) n src ts bad raw →
    found_by m p n src m.start [] ts bad ≡ Some raw
found_in {m = m} {src = src} {p = p} w n ts bad raw h =
    let c = fault_told w h.stands in
    ap (λ ts. found_by m p n src m.start [] ts bad) h.is ∙ found_past m p n src m.start c.state [] h.before h.rest bad c.comes ∙ told_found w n c.state h.before h.rest bad raw c.is

-- ---- the laws

pub one_fault : {S T : Type 0} {m : Machine Lexeme S (Cell T)} {R : Rule T} {src : List ℕ} {p : S → Option TokenKind → Bool} → Follows m R src p → (n : ClosersOnly) (ts : List Lexeme) (bad : Option ℕ) (f g : RawFault) → IsFaultIn (R src) n src ts bad f →
    IsFaultIn (R src) n src ts bad g → f ≡ g
one_fault w n ts bad f g a b = some_is (sym (found_in w n ts bad f a) ∙ found_in w n ts bad g b)

pub one_tree : {S T : Type 0} {m : Machine Lexeme S (Cell T)} {R : Rule T} {src : List ℕ} {p : S → Option TokenKind → Bool} → Follows m R src p → (ts : List Lexeme) (x y : T) → R src ts x → R src ts y → x ≡ y
one_tree {m = m} {src = src} w ts x y r s =
    let h = w.runs ts x r in
    let g = w.runs ts y s in
    same_tree src ts x y (some_is (sym h.ends ∙ ap (λ s. m.finish s) (some_is (sym h.goes ∙ g.goes)) ∙ g.ends))
  where
    same_tree : {T : Type 0} (src : List ℕ) (ts : List Lexeme) (x y : T) → placed_or_start src ts x ≡ placed_or_start src ts y → x ≡ y
    same_tree src [] x y e = some_is (ap (λ c. c.node) e)
    same_tree src (t ∷ ts) x y e = some_is (ap (λ c. c.node) e)

pub not_both_of : {S T : Type 0} {m : Machine Lexeme S (Cell T)} {R : Rule T} {src : List ℕ} {p : S → Option TokenKind → Bool} → Follows m R src p → (n : ClosersOnly) (ts : List Lexeme) (raw : RawFault) → HasTree (R src) ts →
    IsFaultIn (R src) n src ts None raw → ⊥
not_both_of {m = m} {src = src} {p = p} w n ts raw t h =
    let r = w.runs ts t.0 t.1 in
    let e : p r.last None ≡ true = sym (w.ends r.last) ∙ ap (λ o. is_some o) r.ends in
    none_some (ap (λ ts. found_by m p n src m.start [] ts None) (sym (append-nil ts)) ∙ found_past m p n src m.start r.last [] ts [] None r.goes ∙ ap (λ b. cond b None (Some (early_at (tokens_end ts) (wanted_kinds (p r.last) n None)))) e) (found_in w n ts None raw h)

-- a tree or a first fault

abbrev Either : {T : Type 0} → Rule T → ClosersOnly → List ℕ → List Lexeme → Option ℕ → Type 0
Either R n src ts bad = (HasTree (R src) ts × (bad ≡ None)) ⊎ ((raw : RawFault) × IsFaultIn (R src) n src ts bad raw)

either_there : {S T : Type 0} {m : Machine Lexeme S (Cell T)} {R : Rule T} {src : List ℕ} {p : S → Option TokenKind → Bool} → Follows m R src p → (n : ClosersOnly) (ts us : List Lexeme) (bad : Option ℕ) (s : S) (raw : RawFault) → Comes m ts s →
    stop_fault m p n src s ts us bad ≡ Some raw → Either R n src (ts ++ us) bad
either_there w n ts us bad s raw c e = inr (raw, record { before = ts; rest = us; is = refl; stands = told_is w n ts us bad s raw c e })

-- a token that isn't taken is told
told_token : {S T : Type 0} (src : List ℕ) (t : Lexeme) (a : Answer S T) (b : Bool) (raw : RawFault) → may_take a ≡ b → ((r : S) → a ≡ next r → ⊥) → (w : RawFault) × (cond b (large_fault src a t) (Some raw) ≡ Some w)
told_token src t (next r) b raw h k = absurd (k r refl)
told_token src t (ended x) true raw h k = absurd (false_true refl h)
told_token src t (ended x) false raw h k = (raw, refl)
told_token src t refused true raw h k = absurd (false_true refl h)
told_token src t refused false raw h k = (raw, refl)
told_token src t too_large true raw h k = (large_at src t, refl)
told_token src t too_large false raw h k = absurd (false_true h refl)

no_ended : {S T : Type 0} (a : Answer S T) (x : T) (r : S) → a ≡ ended x → a ≡ next r → ⊥
no_ended a x r e f = cc

no_refused : {S T : Type 0} (a : Answer S T) (r : S) → a ≡ refused → a ≡ next r → ⊥
no_refused a r e f = cc

no_large : {S T : Type 0} (a : Answer S T) (r : S) → a ≡ too_large → a ≡ next r → ⊥
no_large a r e f = cc

step_either : {S T : Type 0} {m : Machine Lexeme S (Cell T)} {R : Rule T} {src : List ℕ} {p : S → Option TokenKind → Bool} → Follows m R src p → (n : ClosersOnly) (ts us : List Lexeme) (t : Lexeme) (bad : Option ℕ) (s : S) (a : Answer S (Cell T)) → Comes m ts s → m.step s t ≡ a →
    ((r : S) → Comes m (ts ++ t ∷ []) r → Either R n src ((ts ++ t ∷ []) ++ us) bad) → Either R n src (ts ++ t ∷ us) bad
step_either {m = m} {R = R} {src = src} w n ts us t bad s (next r) c e go = subst (λ ts. Either R n src ts bad) (snoc_on ts t us) (go r (then_steps m (Some m.start) (Some s) (Some r) ts (t ∷ []) c (ap (λ a. answer_state a) e)))
step_either {m = m} {src = src} {p = p} w n ts us t bad s (ended x) c e go =
    let k = told_token src t (m.step s t) (p s (Some t.kind)) (unexpected_fault t (wanted_kinds (p s) n (Some t.kind))) (w.takes s t) (λ r h. no_ended (m.step s t) x r e h) in
    either_there w n ts (t ∷ us) bad s k.0 c k.1
step_either {m = m} {src = src} {p = p} w n ts us t bad s refused c e go =
    let k = told_token src t (m.step s t) (p s (Some t.kind)) (unexpected_fault t (wanted_kinds (p s) n (Some t.kind))) (w.takes s t) (λ r h. no_refused (m.step s t) r e h) in
    either_there w n ts (t ∷ us) bad s k.0 c k.1
step_either {m = m} {src = src} {p = p} w n ts us t bad s too_large c e go =
    let k = told_token src t (m.step s t) (p s (Some t.kind)) (unexpected_fault t (wanted_kinds (p s) n (Some t.kind))) (w.takes s t) (λ r h. no_large (m.step s t) r e h) in
    either_there w n ts (t ∷ us) bad s k.0 c k.1

end_either : {S T : Type 0} {m : Machine Lexeme S (Cell T)} {R : Rule T} {src : List ℕ} {p : S → Option TokenKind → Bool} → Follows m R src p → (n : ClosersOnly) (ts : List Lexeme) (s : S) (o : Option (Cell T)) → Comes m ts s → m.finish s ≡ o → Either R n src (ts ++ []) None
end_either {R = R} {src = src} w n ts s (Some y) c e = let r = w.reads ts s y c e in inl ((r.tree, subst (λ ts. R src ts r.tree) (sym (append-nil ts)) r.reads), refl)
end_either {p = p} w n ts s None c e =
    either_there w n ts [] None s _ c (ap (λ b. cond b None (Some (early_at (tokens_end ts) (wanted_kinds (p s) n None)))) (sym (w.ends s) ∙ ap (λ o. is_some o) e))

run_either : {S T : Type 0} {m : Machine Lexeme S (Cell T)} {R : Rule T} {src : List ℕ} {p : S → Option TokenKind → Bool} → Follows m R src p → (n : ClosersOnly) (ts us : List Lexeme) (bad : Option ℕ) (s : S) → Comes m ts s → Either R n src (ts ++ us) bad
run_either {m = m} w n ts [] None s c = end_either w n ts s (m.finish s) c refl
run_either w n ts [] (Some place) s c = either_there w n ts [] (Some place) s _ c refl
run_either {m = m} w n ts (t ∷ us) bad s c = step_either w n ts us t bad s (m.step s t) c refl (λ r h. run_either w n (ts ++ t ∷ []) us bad r h)

pub tree_or_fault : {S T : Type 0} {m : Machine Lexeme S (Cell T)} {R : Rule T} {src : List ℕ} {p : S → Option TokenKind → Bool} → Follows m R src p → (n : ClosersOnly) (ts : List Lexeme) (bad : Option ℕ) → Either R n src ts bad
tree_or_fault {m = m} w n ts bad = run_either w n [] ts bad m.start refl

-- ---- the clauses of a call

pub found_of : {S T : Type 0} {m : Machine Lexeme S (Cell T)} {R : Rule T} {p : S → Option TokenKind → Bool} {text : List ℕ} → Follows m R text p → (x : Cell T) → IsRead m text x → IsTreeOf R text x
found_of w x h = record { tokens = h.tokens; cut = h.cut; stands = w.reads h.tokens h.runs.last x h.runs.goes h.runs.ends }

one_cut : (text : List ℕ) (ts us : List Lexeme) → Cuts text ts → Cuts text us → ts ≡ us
one_cut text ts us c d = (one_end c (nothing_at_end text) d (nothing_at_end text)).0

only_of : {S T : Type 0} {m : Machine Lexeme S (Cell T)} {R : Rule T} {p : S → Option TokenKind → Bool} {text : List ℕ} → Follows m R text p → (x y : Cell T) → IsRead m text x → IsTreeOf R text y → x ≡ y
only_of {m = m} {R = R} {text = text} w x y h g =
    let a = found_of w x h in
    a.stands.is ∙ same_place text a.tokens g.tokens a.stands.tree g.stands.tree (one_cut text a.tokens g.tokens a.cut g.cut)
    (one_tree w g.tokens a.stands.tree g.stands.tree (subst (λ ts. R text ts a.stands.tree) (one_cut text a.tokens g.tokens a.cut g.cut) a.stands.reads) g.stands.reads) ∙ sym g.stands.is
  where
    same_place : {T : Type 0} (src : List ℕ) (ts us : List Lexeme) (x y : T) → ts ≡ us → x ≡ y → placed_or_start src ts x ≡ placed_or_start src us y
    same_place src ts us x y e f = ap (λ ts. placed_or_start src ts x) e ∙ ap (λ x. placed_or_start src us x) f

refusal_of : {S T : Type 0} {m : Machine Lexeme S (Cell T)} {R : Rule T} {p : S → Option TokenKind → Bool} {text : List ℕ} → Follows m R text p → (n : ClosersOnly) (f : Failure) → IsStop m p n text f → IsRefusal R n text f
refusal_of w n (Memory e) h = tt
refusal_of w n (Errors errors) h = (
  h.0,
  record {
    tokens = h.1.before ++ h.1.rest;
    bad = h.1.bad;
    cut = h.1.cut;
    fault = record { before = h.1.before; rest = h.1.rest; is = refl; stands = told_is w n h.1.before h.1.rest h.1.bad h.1.state h.0 h.1.comes h.1.is };
  },
  h.2,
)

no_fault : {S T : Type 0} {m : Machine Lexeme S (Cell T)} {R : Rule T} {p : S → Option TokenKind → Bool} {text : List ℕ} → Follows m R text p → (n : ClosersOnly) (y : Cell T) (ts : List Lexeme) (bad : Option ℕ) (raw : RawFault) → IsTreeOf R text y → IsCutOrStop text 0 ts bad →
    IsFaultIn (R text) n text ts bad raw → ⊥
no_fault {R = R} {text = text} w n y ts None raw g c h =
    not_both_of w n ts raw (g.stands.tree, subst (λ ts. R text ts g.stands.tree) (one_cut text g.tokens ts g.cut c) g.stands.reads) h
no_fault {text = text} w n y ts (Some place) raw g c h = not_both text g.tokens ts place g.cut c

memory_of : {S T : Type 0} {m : Machine Lexeme S (Cell T)} {R : Rule T} {p : S → Option TokenKind → Bool} {text : List ℕ} → Follows m R text p → (n : ClosersOnly) (y : Cell T) (f : Failure) → IsRefusal R n text f → IsTreeOf R text y → IsMemory f
memory_of w n y (Memory e) h g = tt
memory_of w n y (Errors errors) h g = no_fault w n y h.1.tokens h.1.bad h.0 g h.1.cut h.1.fault

pub found_clause : {S T : Type 0} {m : Machine Lexeme S (Cell T)} {R : Rule T} {p : S → Option TokenKind → Bool} {text : List ℕ} → Follows m R text p → (n : ClosersOnly) (r : Result (Cell T) Failure) → MatchResult r (λ x. IsRead m text x) (λ f. IsStop m p n text f) →
    IfOk r (λ x. IsTreeOf R text x)
found_clause w n (Ok x) h = found_of w x h
found_clause w n (Err f) h = tt

pub only_clause : {S T : Type 0} {m : Machine Lexeme S (Cell T)} {R : Rule T} {p : S → Option TokenKind → Bool} {text : List ℕ} → Follows m R text p → (n : ClosersOnly) (r : Result (Cell T) Failure) → MatchResult r (λ x. IsRead m text x) (λ f. IsStop m p n text f) →
    (y : Cell T) → IsTreeOf R text y → MatchResult r (λ x. x ≡ y) IsMemory
only_clause w n (Ok x) h y g = only_of w x y h g
only_clause w n (Err f) h y g = memory_of w n y f (refusal_of w n f h) g

pub refused_clause : {S T : Type 0} {m : Machine Lexeme S (Cell T)} {R : Rule T} {p : S → Option TokenKind → Bool} {text : List ℕ} → Follows m R text p → (n : ClosersOnly) (r : Result (Cell T) Failure) → MatchResult r (λ x. IsRead m text x) (λ f. IsStop m p n text f) →
    IfErr r (λ f. IsRefusal R n text f)
refused_clause w n (Ok x) h = tt
refused_clause w n (Err f) h = refusal_of w n f h

-- what holds of each tree of a text, holds of the answer
pub places_clause : {T : Type 0} {R : Rule T} {text : List ℕ} {P : Cell T → Type 0} (r : Result (Cell T) Failure) → ((x : Cell T) → IsTreeOf R text x → P x) → IfOk r (λ x. IsTreeOf R text x) → IfOk r P
places_clause (Ok x) f h = f x h
places_clause (Err e) f h = tt
