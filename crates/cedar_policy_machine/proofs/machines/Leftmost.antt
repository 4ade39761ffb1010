-- The leftmost fault: the mended tokens up to the one behind which reading goes on begin a
-- sentence, so each fault that is told of them stands behind it, and the one that was mended
-- before.
use Rattle.std.specs.Prelude.{◌⊎◌}
use Rattle.std.specs.List.{AllByRecursion}
use Rattle.std.specs.Str.{IsUtf8}
use Rattle.std.proofs.Common.{◌≡◌, ℕ, ◌<◌, ◌≤◌, List, [], ◌∷◌, ◌++◌, Option, Some, None, refl, sym, ◌∙◌, ap, subst, inl, inr, arith, append_assoc}
use Rattle.cedar_lexer.specs.Cut.{Cuts, StandInOrder}
use Rattle.cedar_lexer.specs.LexerState.{IsCutOrStop}
use Rattle.cedar_lexer.specs.Token.{Lexeme}
use Rattle.cedar_lexer.specs.declared.token.TokenKind.{TokenKind}
use Rattle.cedar_lexer.specs.declared.token.TokenKind.TheVariants as kind
use Rattle.cedar_lexer.proofs.Cuts.{one_end, nothing_at_end}
use Rattle.cedar_lexer.proofs.Runs.{not_both, stand_in_order}
use Rattle.cedar_syntax.specs.declared.err.faults.Failure.{Failure}
use Rattle.cedar_syntax.specs.declared.err.faults.Failure.TheVariants.{Memory, Errors}
use Rattle.cedar_syntax.specs.declared.err.faults.ParseError.{ParseError}
use Rattle.cedar_syntax.specs.declared.err.to_cst.RawFault.{RawFault}
use Rattle.cedar_grammar.specs.declared.reading.expected.ClosersOnly.{ClosersOnly}
use Rattle.cedar_grammar.specs.declared.reading.expected.ClosersOnly.TheVariants as narrowing
use Rattle.cedar_grammar.specs.faults.Expected.{IsNarrowed, Picks, no_kind, picked, passed, IsExpected, all_allowed, closers}
use Rattle.cedar_grammar.specs.faults.FirstFault.{tokens_end, FirstFault, unexpected, early_end, large_number, bad_place, IsFaultIn}
use Rattle.cedar_grammar.specs.grammar.Grammar.{Rule, IsNodeOf}
use Rattle.cedar_grammar.specs.faults.Leftmost.{IsFitting, NumbersFit, start_of, IsBefore, StartsBefore, StandsLeftmost, HasLeftmost}
use Rattle.cedar_grammar.specs.faults.Mended.{Mended, to_brace, to_end, Faults, no_fault, too_large, last_fault, more_faults, short_policy, head}
use Rattle.cedar_grammar.specs.faults.MendedFaults.{fault_of, Unallowed, a_token, the_end, IsLarge, faults_with_last, FaultsOf, IsListed, IsFaultList, IsMendedRefusal}
use Rattle.cedar_grammar.specs.grammar.Sentences.{kinds, Starts, Allowed, IsFirstRefused, first}
use Rattle.cedar_syntax.specs.tokens.Tokens.{Spot, one}
use Rattle.cedar_grammar.proofs.machines.Laws.{some_is, false_true, kinds-append}
use Rattle.cedar_policy_machine.proofs.machines.Recovery.{end_from, end_from-append}
use Rattle.cedar_policy_machine.proofs.machines.Telling.{end_is}
use Rattle.cedar_grammar.proofs.machines.Told.{to_allowed, of_allowed}

-- ---- lists

-- of two ways to part a list one takes the longer beginning
data Parted {A : Type 0} (a b c d : List A) : Type 0 where
  shorter : (x : A) (xs : List A) → c ≡ a ++ x ∷ xs → b ≡ x ∷ (xs ++ d) → Parted a b c d
  longer : (xs : List A) → a ≡ c ++ xs → d ≡ xs ++ b → Parted a b c d

first_same : {A : Type 0} {x y : A} {xs ys : List A} → x ∷ xs ≡ y ∷ ys → x ≡ y
first_same e = cc

rest_same : {A : Type 0} {x y : A} {xs ys : List A} → x ∷ xs ≡ y ∷ ys → xs ≡ ys
rest_same e = cc

none_more : {A : Type 0} (x : A) (xs : List A) → [] ≡ x ∷ xs → ⊥
none_more x xs e = cc

parted_on : {A : Type 0} {a b c d : List A} (x y : A) → x ≡ y → Parted a b c d → Parted (x ∷ a) b (y ∷ c) d
parted_on {a = a} {c = c} x y e (shorter z zs f g) = shorter z zs (ap (λ w. w ∷ c) (sym e) ∙ ap (λ ws. x ∷ ws) f) g
parted_on {c = c} x y e (longer zs f g) = longer zs (ap (λ ws. x ∷ ws) f ∙ ap (λ w. w ∷ (c ++ zs)) e) g

parted : {A : Type 0} (a b c d : List A) → a ++ b ≡ c ++ d → Parted a b c d
parted [] b [] d e = longer [] refl (sym e)
parted [] b (y ∷ c) d e = shorter y c refl e
parted (x ∷ a) b [] d e = longer (x ∷ a) refl (sym e)
parted (x ∷ a) b (y ∷ c) d e = parted_on x y (first_same e) (parted a b c d (rest_same e))

-- what holds of all items of a list

all_left : {A : Type 0} (P : A → Type 0) (xs ys : List A) → AllByRecursion P (xs ++ ys) → AllByRecursion P xs
all_left P [] ys h = tt
all_left P (x ∷ xs) ys h = (h.0, all_left P xs ys h.1)

all_right : {A : Type 0} (P : A → Type 0) (xs ys : List A) → AllByRecursion P (xs ++ ys) → AllByRecursion P ys
all_right P [] ys h = h
all_right P (x ∷ xs) ys h = all_right P xs ys h.1

all_both : {A : Type 0} (P : A → Type 0) (xs ys : List A) → AllByRecursion P xs → AllByRecursion P ys → AllByRecursion P (xs ++ ys)
all_both P [] ys h g = g
all_both P (x ∷ xs) ys h g = (h.0, all_both P xs ys h.1 g)

all_at : {A : Type 0} (P : A → Type 0) (xs : List A) (y : A) (ys : List A) → AllByRecursion P (xs ++ y ∷ ys) → P y
all_at P xs y ys h = (all_right P xs (y ∷ ys) h).0

-- ---- numbers that fit

fit_left : (ts us : List Lexeme) → NumbersFit (ts ++ us) → NumbersFit ts
fit_left ts us h = all_left IsFitting ts us h

fit_right : (ts us : List Lexeme) → NumbersFit (ts ++ us) → NumbersFit us
fit_right ts us h = all_right IsFitting ts us h

fit_both : (ts us : List Lexeme) → NumbersFit ts → NumbersFit us → NumbersFit (ts ++ us)
fit_both ts us h g = all_both IsFitting ts us h g

identifier_fits : kind.Identifier ≡ kind.Number → ⊥
identifier_fits e = cc

open_fits : kind.OpenParen ≡ kind.Number → ⊥
open_fits e = cc

close_fits : kind.CloseParen ≡ kind.Number → ⊥
close_fits e = cc

semicolon_fits : kind.Semicolon ≡ kind.Number → ⊥
semicolon_fits e = cc

short_fits : (e : Spot) → NumbersFit (short_policy e)
short_fits e = (λ e. absurd (identifier_fits e), (λ e. absurd (open_fits e), (λ e. absurd (close_fits e), (λ e. absurd (semicolon_fits e), tt))))

-- no number is put in by mending
fit_mended : {src : List ℕ} {W : List Lexeme → Type 0} {before rest mended : List Lexeme} → Mended src W before rest mended → NumbersFit (before ++ rest) → NumbersFit mended
fit_mended (to_brace ts us vs ws e b k j) h =
    let g : NumbersFit (vs ++ one kind.CloseBrace e ++ ws) = fit_right (ts ++ us) (vs ++ one kind.CloseBrace e ++ ws) h in
    fit_both (ts ++ one kind.CloseBrace e) ws
    (fit_both ts (one kind.CloseBrace e) (fit_left ts us (fit_left (ts ++ us) (vs ++ one kind.CloseBrace e ++ ws) h)) (fit_right vs (one kind.CloseBrace e) (fit_left (vs ++ one kind.CloseBrace e) ws g)))
    (fit_right (vs ++ one kind.CloseBrace e) ws g)
fit_mended (to_end ts us vs ws e w b k j) h =
    fit_both (ts ++ short_policy e) ws
    (fit_both ts (short_policy e) (fit_left ts us (fit_left (ts ++ us) (vs ++ one kind.Semicolon e ++ ws) h)) (short_fits e))
    (fit_right (vs ++ one kind.Semicolon e) ws (fit_right (ts ++ us) (vs ++ one kind.Semicolon e ++ ws) h))

-- ---- tokens in order

-- none starts before the one in front of it ends, nor the first before this place
abbrev Ordered : ℕ → List Lexeme → Type 0
Ordered n [] = Unit {0}
Ordered n (t ∷ ts) = (n ≤ t.start) × (t.start < t.end) × Ordered t.end ts

ordered_of : (source : List ℕ) (n : ℕ) (ts : List Lexeme) → StandInOrder source n ts → Ordered n ts
ordered_of source n [] h = tt
ordered_of source n (t ∷ ts) h = (h.0, h.1.nonempty, ordered_of source t.end ts h.2)

ordered_rest : (n : ℕ) (ts us : List Lexeme) → Ordered n (ts ++ us) → (n ≤ end_from n ts) × Ordered (end_from n ts) us
ordered_rest n [] us h = (omega arith, h)
ordered_rest n (t ∷ ts) us h = let g = ordered_rest t.end ts us h.2 in (omega (arith, h.0, h.1, g.0), g.1)

-- at a token further on
record AtStop (n : ℕ) (stop : Lexeme) (after : List Lexeme) : Type 0 where
  starts : n ≤ stop.start
  takes : stop.start < stop.end
  goes : Ordered stop.end after

at_stop : (n : ℕ) (ts : List Lexeme) (t : Lexeme) (us : List Lexeme) → Ordered n (ts ++ t ∷ us) → AtStop n t us
at_stop n ts t us h = let g = ordered_rest n ts (t ∷ us) h in record { starts = omega (arith, g.0, g.1.0); takes = g.1.1; goes = g.1.2 }

first_before : (n : ℕ) (t : Lexeme) (us ts : List Lexeme) (stop : Lexeme) (after : List Lexeme) → Ordered n (t ∷ us) → t ∷ us ≡ ts ++ stop ∷ after → t.start < stop.end
first_before n t us [] stop after h e = let i : t.end ≡ stop.end = ap (λ t. t.end) (first_same e) in omega (arith, h.1, i)
first_before n t us (j ∷ ts) stop after h e =
    let g = at_stop t.end ts stop after (subst (λ us. Ordered t.end us) (rest_same e) h.2) in
    omega (arith, h.1, g.starts, g.takes)

-- ---- faults behind a place

abbrev IsFrom : ℕ → Option ℕ → Type 0
IsFrom n None = ⊥
IsFrom n (Some i) = n ≤ i

abbrev StartsFrom : ℕ → ParseError → Type 0
StartsFrom n x = IsFrom n (start_of x)

abbrev LastFrom : ℕ → Option ParseError → Type 0
LastFrom n None = Unit {0}
LastFrom n (Some x) = StartsFrom n x

from_less : (n m : ℕ) (o : Option ℕ) → n ≤ m → IsFrom m o → IsFrom n o
from_less n m None l h = h
from_less n m (Some i) l h = omega (arith, l, h)

all_less : (n m : ℕ) (xs : List ParseError) → n ≤ m → AllByRecursion (λ x. StartsFrom m x) xs → AllByRecursion (λ x. StartsFrom n x) xs
all_less n m [] l h = tt
all_less n m (x ∷ xs) l h = (from_less n m (start_of x) l h.0, all_less n m xs l h.1)

last_less : (n m : ℕ) (y : Option ParseError) → n ≤ m → LastFrom m y → LastFrom n y
last_less n m None l h = tt
last_less n m (Some x) l h = from_less n m (start_of x) l h

-- the fault of the first of these tokens, or the end
starts_from_place : {T : Type 0} {R : List Lexeme → T → Type 0} {src : List ℕ} (n : ℕ) (front ts us : List Lexeme) → end_from 0 front ≡ n → Ordered n (ts ++ us) → {before : List Lexeme} {x : ParseError} → before ≡ front ++ ts →
    Unallowed R narrowing.Tokens src before (head us) x → StartsFrom n x
starts_from_place n front ts [] w o {before = before} e (the_end h) =
    let i : tokens_end before ≡ end_from n ts = end_is before ∙ ap (λ ts. end_from 0 ts) e ∙ end_from-append 0 front ts ∙ ap (λ n. end_from n ts) w in
    let g = ordered_rest n ts [] o in
    omega (arith, i, g.0)
starts_from_place n front ts (t ∷ us) w o e (a_token h) = let g = ordered_rest n ts (t ∷ us) o in omega (arith, g.0, g.1.0)

-- ---- a refused token stands behind tokens that begin a sentence

allowed_on : {T : Type 0} {R : List Lexeme → T → Type 0} (ts : List Lexeme) (t : Lexeme) (us : List Lexeme) → Starts R (ts ++ t ∷ us) → Allowed R (kinds ts) (Some t.kind)
allowed_on ts t us s = (
  kinds (us ++ s.0),
  record {
    tokens = (ts ++ t ∷ us) ++ s.0;
    spelled = ap (λ ts. kinds ts) (assoc ts (t ∷ us) s.0) ∙ kinds-append ts (t ∷ (us ++ s.0));
    tree = s.1.0;
    reads = s.1.1;
  },
)
  where
    assoc : (ts us vs : List Lexeme) → (ts ++ us) ++ vs ≡ ts ++ (us ++ vs)
    assoc ts us vs = simp append_assoc

refused_behind : {T : Type 0} {R : List Lexeme → T → Type 0} (ts us front after : List Lexeme) → Starts R front → IsFirstRefused R ts (first us) → Parted ts us front after → (js : List Lexeme) × (ts ≡ front ++ js) × (after ≡ js ++ us)
refused_behind {R = R} ts us front after s u (shorter j js e f) =
    absurd (u.refuses (subst (λ us. Allowed R (kinds ts) (first us)) (sym f) (allowed_on ts j js (subst (λ ts. Starts R ts) e s))))
refused_behind ts us front after s u (longer js e f) = (js, e, f)

-- ---- mended tokens

-- they go on behind the stop, and up to it they begin a sentence
pub record Goes {T : Type 0} (R : List Lexeme → T → Type 0) (before rest mended : List Lexeme) : Type 0 where
  pub skips : List Lexeme
  pub stop : Lexeme
  pub after : List Lexeme
  pub front : List Lexeme
  pub parts : rest ≡ skips ++ stop ∷ after
  pub mends : mended ≡ front ++ after
  pub starts : Starts R front
  pub last : end_from 0 front ≡ stop.end

abbrev pub Resumes : {T : Type 0} → List ℕ → (List Lexeme → T → Type 0) → (List Lexeme → Type 0) → Type 0
Resumes src R W = (before rest mended : List Lexeme) → Mended src W before rest mended → Starts R before → Goes R before rest mended

record Later (n : ℕ) (xs : List ParseError) (y : Option ParseError) : Type 0 where
  mended : AllByRecursion (λ x. StartsFrom n x) xs
  last : LastFrom n y

-- all faults of tokens that begin so stand behind this beginning
later : {T : Type 0} {src : List ℕ} {R : List Lexeme → T → Type 0} {W : List Lexeme → Type 0} → Resumes src R W → {ts : List Lexeme} {xs : List ParseError} {y : Option ParseError} → Faults src R W (Unallowed R narrowing.Tokens src) (IsLarge src) ts xs y →
    (n : ℕ) (front after : List Lexeme) → ts ≡ front ++ after → Starts R front → end_from 0 front ≡ n → NumbersFit ts → Ordered n after → Later n xs y
later m (no_fault h) n front after e s w f o = record { mended = tt; last = tt }
later m (too_large ts us {t = t} h a k i l) n front after e s w f o = absurd (false_true i ((fit_right ts (t ∷ us) f).0 k))
later m (last_fault ts us u v none) n front after e s w f o =
    let g = refused_behind ts us front after s u (parted ts us front after e) in
    record { mended = tt; last = starts_from_place n front g.0 us w (subst (λ ts. Ordered n ts) g.2 o) g.1 v }
later m (more_faults ts us {vs = vs} {x = x} {xs = xs} {y = y} u v q more) n front after e s w f o =
    let g = refused_behind ts us front after s u (parted ts us front after e) in
    let i = subst (λ ts. Ordered n ts) g.2 o in
    let j = ordered_rest n g.0 us i in
    let r = m ts us vs q u.starts in
    let a = at_stop (end_from n g.0) r.skips r.stop r.after (subst (λ ts. Ordered (end_from n g.0) ts) r.parts j.1) in
    let d = later m more r.stop.end r.front r.after r.mends r.starts r.last (fit_mended q f) a.goes in
    let l : n ≤ r.stop.end = omega (arith, j.0, a.starts, a.takes) in
    record { mended = (starts_from_place n front g.0 us w i g.1 v, all_less n r.stop.end xs l d.mended); last = last_less n r.stop.end y l d.last }

-- ---- the first fault, and the others

record First {T : Type 0} (R : List Lexeme → T → Type 0) (src : List ℕ) (ts us : List Lexeme) (x : ParseError) : Type 0 where
  raw : RawFault
  is : x ≡ fault_of src raw
  stands : FirstFault R narrowing.Tokens src ts us None raw

first_fault : {T : Type 0} {R : List Lexeme → T → Type 0} {src : List ℕ} (ts us : List Lexeme) → IsFirstRefused R ts (first us) → {x : ParseError} → Unallowed R narrowing.Tokens src ts (head us) x → First R src ts us x
first_fault ts [] u (the_end h) = record { raw = _; is = refl; stands = early_end u h }
first_fault ts (t ∷ us) u (a_token h) = record { raw = _; is = refl; stands = unexpected u h }

-- it starts before the stop ends
record Started (n : ℕ) (x : ParseError) : Type 0 where
  start : ℕ
  is : start_of x ≡ Some start
  before : start < n

started : {T : Type 0} {R : List Lexeme → T → Type 0} {src : List ℕ} {before : List Lexeme} (n : ℕ) (us skips : List Lexeme) (stop : Lexeme) (after : List Lexeme) → Ordered n us → us ≡ skips ++ stop ∷ after → {x : ParseError} →
    Unallowed R narrowing.Tokens src before (head us) x → Started stop.end x
started n [] [] stop after o e u = absurd (none_more stop after e)
started n [] (j ∷ skips) stop after o e u = absurd (none_more j (skips ++ stop ∷ after) e)
started n (t ∷ us) skips stop after o e (a_token h) = record { start = t.start; is = refl; before = first_before n t us skips stop after o e }

before_from : (a b : Option ℕ) (i n : ℕ) → a ≡ Some i → i < n → IsFrom n b → IsBefore a b
before_from None b i n e l h = absurd (cc)
before_from (Some j) None i n e l h = h
before_from (Some j) (Some k) i n e l h = let f : j ≡ i = some_is e in omega (arith, f, l, h)

before_all : (n : ℕ) (x : ParseError) (xs : List ParseError) → Started n x → AllByRecursion (λ x. StartsFrom n x) xs → AllByRecursion (λ y. StartsBefore x y) xs
before_all n x [] s h = tt
before_all n x (y ∷ xs) s h = (before_from (start_of x) (start_of y) s.start n s.is s.before h.0, before_all n x xs s h.1)

leftmost_of : (n : ℕ) (x : ParseError) (xs : List ParseError) (y : Option ParseError) → Started n x → Later n xs y → StandsLeftmost x (faults_with_last y (x ∷ xs))
leftmost_of n x xs None s d = record { earlier = []; later = xs; is = refl; before_others = before_all n x xs s d.mended }
leftmost_of n x xs (Some y) s d = record { earlier = y ∷ []; later = xs; is = refl; before_others = (before_from (start_of x) (start_of y) s.start n s.is s.before d.last, before_all n x xs s d.mended) }

-- no fault, or this one
data Leading {T : Type 0} (R : List Lexeme → T → Type 0) (src : List ℕ) (ts : List Lexeme) (xs : List ParseError) : Type 0 where
  leads_none : xs ≡ [] → Leading R src ts xs
  leads : (raw : RawFault) → IsFaultIn R narrowing.Tokens src ts None raw → StandsLeftmost (fault_of src raw) xs → Leading R src ts xs

leading : {T : Type 0} {src : List ℕ} {R : List Lexeme → T → Type 0} {W : List Lexeme → Type 0} → Resumes src R W → {ts : List Lexeme} {xs : List ParseError} {y : Option ParseError} → Faults src R W (Unallowed R narrowing.Tokens src) (IsLarge src) ts xs y →
    NumbersFit ts → Ordered 0 ts → Leading R src ts (faults_with_last y xs)
leading m (no_fault h) f o = leads_none refl
leading m (too_large ts us {t = t} h a k i l) f o = absurd (false_true i ((fit_right ts (t ∷ us) f).0 k))
leading m (last_fault ts us u v none) f o =
    let g = first_fault ts us u v in
    leads g.raw record { before = ts; rest = us; is = refl; stands = g.stands } record { earlier = []; later = []; is = ap (λ x. x ∷ []) g.is; before_others = tt }
leading m (more_faults ts us {vs = vs} {x = x} {xs = xs} {y = y} u v q more) f o =
    let g = first_fault ts us u v in
    let r = m ts us vs q u.starts in
    let i = (ordered_rest 0 ts us o).1 in
    let a = at_stop (end_from 0 ts) r.skips r.stop r.after (subst (λ us. Ordered (end_from 0 ts) us) r.parts i) in
    let d = later m more r.stop.end r.front r.after r.mends r.starts r.last (fit_mended q f) a.goes in
    let s = started (end_from 0 ts) us r.skips r.stop r.after i r.parts v in
    leads g.raw record { before = ts; rest = us; is = refl; stands = g.stands } (subst (λ z. StandsLeftmost z (faults_with_last y (x ∷ xs))) g.is (leftmost_of r.stop.end x xs y s d))

-- ---- the rule's relation, and the one of nodes

picks_by : {P Q : TokenKind → Type 0} → ((k : TokenKind) → P k → Q k) → ((k : TokenKind) → Q k → P k) → {ks us : List TokenKind} → Picks P ks us → Picks Q ks us
picks_by f g no_kind = no_kind
picks_by f g (picked {k = k} p h) = picked (f k p) (picks_by f g h)
picks_by f g (passed {k = k} p h) = passed (λ q. p (g k q)) (picks_by f g h)

narrowed_by : {A B : Type 0} {R : List Lexeme → A → Type 0} {Q : List Lexeme → B → Type 0} {n : ClosersOnly} {ks : List TokenKind} {after : Option TokenKind} → ((k : TokenKind) → Allowed R ks (Some k) → Allowed Q ks (Some k)) → IsNarrowed R n ks after → IsNarrowed Q n ks after
narrowed_by {R = R} {Q = Q} {ks = ks} f h = record { may = h.may; operand = operand h.operand; closer = (h.closer.0, h.closer.1, f h.closer.0 h.closer.2) }
  where
    operand : Allowed R ks (Some kind.Star) ⊎ Allowed R ks (Some kind.AndAnd) → Allowed Q ks (Some kind.Star) ⊎ Allowed Q ks (Some kind.AndAnd)
    operand (inl w) = inl (f kind.Star w)
    operand (inr w) = inr (f kind.AndAnd w)

expected_by_rule : {T : Type 0} (R : Rule T) (src : List ℕ) {n : ClosersOnly} (ks : List TokenKind) {after : Option TokenKind} {us : List TokenKind} → IsExpected (IsNodeOf R src) n ks after us → IsExpected (R src) n ks after us
expected_by_rule R src ks (all_allowed h p) = all_allowed (λ w. h (narrowed_by (λ k. to_allowed R src ks (Some k)) w)) (picks_by (λ k. of_allowed R src ks (Some k)) (λ k. to_allowed R src ks (Some k)) p)
expected_by_rule R src ks (closers h p) = closers (narrowed_by (λ k. of_allowed R src ks (Some k)) h) (picks_by (λ k w. (w.0, of_allowed R src ks (Some k) w.1)) (λ k w. (w.0, to_allowed R src ks (Some k) w.1)) p)

starts_by_rule : {T : Type 0} (R : Rule T) (src : List ℕ) (ts : List Lexeme) → Starts (IsNodeOf R src) ts → Starts (R src) ts
starts_by_rule R src ts s = (s.0, (s.1.1.tree, s.1.1.reads))

refused_by_rule : {T : Type 0} (R : Rule T) (src : List ℕ) (ts : List Lexeme) (after : Option TokenKind) → IsFirstRefused (IsNodeOf R src) ts after → IsFirstRefused (R src) ts after
refused_by_rule R src ts after u = record { starts = starts_by_rule R src ts u.starts; refuses = λ a. u.refuses (to_allowed R src (kinds ts) after a) }

fault_by_rule : {T : Type 0} (R : Rule T) (src : List ℕ) {n : ClosersOnly} {ts us : List Lexeme} {bad : Option ℕ} {raw : RawFault} → FirstFault (IsNodeOf R src) n src ts us bad raw → FirstFault (R src) n src ts us bad raw
fault_by_rule R src (unexpected {ts = ts} {t = t} u h) = unexpected (refused_by_rule R src ts (Some t.kind) u) (expected_by_rule R src (kinds ts) h)
fault_by_rule R src (early_end {ts = ts} u h) = early_end (refused_by_rule R src ts None u) (expected_by_rule R src (kinds ts) h)
fault_by_rule R src (large_number {ts = ts} s a k e) = large_number (starts_by_rule R src ts s) (of_allowed R src (kinds ts) (Some kind.Number) a) k e
fault_by_rule R src (bad_place {ts = ts} s) = bad_place (starts_by_rule R src ts s)

-- ---- a text

has_leftmost : {T : Type 0} {R : Rule T} {src : List ℕ} {ts : List Lexeme} (xs ys : List ParseError) (x : ParseError) → x ∷ xs ≡ ys → Leading (IsNodeOf R src) src ts ys → (raw : RawFault) × IsFaultIn (R src) narrowing.Tokens src ts None raw × StandsLeftmost (fault_of src raw) (x ∷ xs)
has_leftmost xs ys x e (leads_none f) = absurd (none_more x xs (sym (e ∙ f)))
has_leftmost {R = R} {src = src} xs ys x e (leads raw h l) = (raw, record { before = h.before; rest = h.rest; is = h.is; stands = fault_by_rule R src h.stands }, subst (λ ys. StandsLeftmost (fault_of src raw) ys) (sym e) l)

leftmost_list : {T : Type 0} {R : Rule T} (W : List ℕ → List Lexeme → Type 0) (text : List ℕ) → Resumes text (IsNodeOf R text) (W text) → IsUtf8 text → (ts : List Lexeme) → Cuts text ts → NumbersFit ts → (x : ParseError) (xs : List ParseError) →
    (h : IsFaultList R W text (x ∷ xs)) (bad : Option ℕ) → IsCutOrStop text 0 h.tokens bad → IsListed R W text h.tokens bad h.mended h.last (x ∷ xs) → (raw : RawFault) × IsFaultIn (R text) narrowing.Tokens text ts None raw × StandsLeftmost (fault_of text raw) (x ∷ xs)
leftmost_list W text m u ts c f x xs h (Some place) k i = absurd (not_both text ts h.tokens place c k)
leftmost_list {R = R} W text m u ts c f x xs h None k i =
    let same : h.tokens ≡ ts = (one_end k (nothing_at_end text) c (nothing_at_end text)).0 in
    has_leftmost xs (faults_with_last h.last h.mended) x i (leading m (subst (λ ts. FaultsOf R W text ts h.mended h.last) same h.stands) f (ordered_of text 0 ts (stand_in_order text ts _ u c).0))

-- the leftmost fault of a refusal
pub leftmost : {T : Type 0} {R : Rule T} (W : List ℕ → List Lexeme → Type 0) (text : List ℕ) → Resumes text (IsNodeOf R text) (W text) → IsUtf8 text → (ts : List Lexeme) → Cuts text ts → NumbersFit ts → (e : Failure) → IsMendedRefusal R W text e → HasLeftmost R text ts e
leftmost W text m u ts c f (Memory e) h = tt
leftmost W text m u ts c f (Errors errors) h = leftmost_list W text m u ts c f errors.faults.head errors.faults.tail h h.bad h.cut h.is

-- ---- there is one leftmost fault

never_both : (a b : Option ℕ) → IsBefore a b → IsBefore b a → ⊥
never_both None b h g = h
never_both (Some i) None h g = h
never_both (Some i) (Some j) h g = absurd (omega (arith, h, g))

-- where both stand in the list at different places, each starts before the other
apart : (x y : ParseError) (before between after : List ParseError) → AllByRecursion (λ z. StartsBefore x z) (before ++ (between ++ y ∷ after)) → AllByRecursion (λ z. StartsBefore y z) ((before ++ x ∷ between) ++ after) → ⊥
apart x y before between after h g =
    never_both (start_of x) (start_of y) (all_at (λ z. StartsBefore x z) between y after (all_right (λ z. StartsBefore x z) before (between ++ y ∷ after) h))
    (all_at (λ z. StartsBefore y z) before x between (all_left (λ z. StartsBefore y z) (before ++ x ∷ between) after g))

apart_at : (x y z : ParseError) (a b c d zs : List ParseError) → AllByRecursion (λ z. StartsBefore x z) (a ++ b) → AllByRecursion (λ z. StartsBefore y z) (c ++ d) → c ≡ a ++ z ∷ zs → x ∷ b ≡ z ∷ (zs ++ y ∷ d) → ⊥
apart_at x y z a b c d zs h g e f =
    apart x y a zs d (subst (λ b. AllByRecursion (λ z. StartsBefore x z) (a ++ b)) (rest_same f) h)
    (subst (λ c. AllByRecursion (λ z. StartsBefore y z) (c ++ d)) (e ∙ ap (λ z. a ++ z ∷ zs) (sym (first_same f))) g)

one_of : (x y : ParseError) (a b c d : List ParseError) → AllByRecursion (λ z. StartsBefore x z) (a ++ b) → AllByRecursion (λ z. StartsBefore y z) (c ++ d) → Parted a (x ∷ b) c (y ∷ d) → x ≡ y
one_of x y a b c d h g (shorter z zs e f) = absurd (apart_at x y z a b c d zs h g e f)
one_of x y a b c d h g (longer [] e f) = sym (first_same f)
one_of x y a b c d h g (longer (z ∷ zs) e f) = absurd (apart_at y x z c d a b zs g h e f)

pub one_leftmost : (xs : List ParseError) (x y : ParseError) → StandsLeftmost x xs → StandsLeftmost y xs → x ≡ y
one_leftmost xs x y h g = one_of x y h.earlier h.later g.earlier g.later h.before_others g.before_others (parted h.earlier (x ∷ h.later) g.earlier (y ∷ g.later) (sym h.is ∙ g.is))
