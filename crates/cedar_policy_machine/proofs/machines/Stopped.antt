-- Whether the parse has stopped at a fault, whatever tokens follow, is told by its state: the fault
-- in hand is one of the end, or of what is skipped, and a `;` more changes what is told.
use Rattle.std.proofs.Common.{◌≡◌, ℕ, suc, List, [], ◌∷◌, ◌++◌, Option, Some, None, Bool, true, false, refl, sym, ◌∙◌, ap, inl, inr, true≢false, arith}
use Rattle.cedar_lexer.specs.Token.{Lexeme}
use Rattle.cedar_lexer.specs.declared.token.TokenKind.{TokenKind}
use Rattle.cedar_lexer.specs.declared.token.TokenKind.TheVariants as kind
use Rattle.cedar_syntax.specs.declared.err.faults.ParseError.{ParseError}
use Rattle.cedar_syntax.specs.declared.err.faults.ParseError.TheVariants.{ToCST}
use Rattle.cedar_syntax.specs.declared.err.to_cst.RawFault.{RawFault}
use Rattle.cedar_syntax.specs.declared.err.to_cst.RawFault.TheVariants as fault
use Rattle.cedar_syntax.specs.trees.Trees.{Cell}
use Rattle.cedar_grammar.specs.declared.reading.expected.ClosersOnly.TheVariants as narrowing
use Rattle.cedar_grammar.specs.declared.reading.mark.Mark.{Mark}
use Rattle.cedar_grammar.specs.declared.reading.mark.Mark.TheVariants as mark
use Rattle.cedar_grammar.specs.declared.reading.recovery.RecoveryWay.{RecoveryWay}
use Rattle.cedar_grammar.specs.declared.reading.recovery.RecoveryWay.TheVariants as way
use Rattle.cedar_grammar.specs.faults.MendedFaults.{fault_of, Unallowed, IsLarge, HasStopped, IsListed}
use Rattle.cedar_grammar.specs.grammar.Grammar.{Rule, IsNodeOf}
use Rattle.cedar_grammar.specs.machines.Machine.{Machine, Answer, next, ended, refused, too_large}
use Rattle.cedar_grammar.specs.machines.Marks.{mark_of}
use Rattle.cedar_grammar.specs.machines.Mending.{bad_fault, recovers_of}
use Rattle.cedar_grammar.specs.machines.Recovery.{Recovers, Recovery, RunFaults, reading, skipping, stopped, skip_step, judgment, recovery_step, recovery_of_all, run_faults, told_reading, told_end, told_all}
use Rattle.cedar_policy_machine.proofs.machines.Faults.{faults_exactly}
use Rattle.cedar_policy_machine.proofs.machines.Recovery.{Recoverable, stays}

-- ---- what is told of an end is told at its place, and of no token

pub record TellsApart {S : Type 0} (r : Recovers S ParseError) : Type 0 where
  pub ends : (s q : S) (l k : ℕ) → r.tell s l None ≡ r.tell q k None → l ≡ k
  pub token : (s q : S) (l k : ℕ) (t : Lexeme) → r.tell s l None ≡ r.tell q k (Some t) → ⊥
  pub large : (s : S) (l : ℕ) (t : Lexeme) → r.tell s l None ≡ r.large t → ⊥

abbrev raw_end : RawFault → Option ℕ
raw_end (fault.UnrecognizedEof place ks) = Some place
raw_end _ = None

abbrev told_place : ParseError → Option ℕ
told_place (ToCST e) = raw_end e.raw
told_place _ = None

some_once : {A : Type 0} {x y : A} → Some x ≡ Some y → x ≡ y
some_once e = cc

some_none : {A : Type 0} {x : A} → Some x ≡ None → ⊥
some_none e = cc

pub tells_apart : {S : Type 0} (p : S → Option TokenKind → Bool) (w : S → RecoveryWay) (c e : S → S) (src : List ℕ) → TellsApart (recovers_of p w c e fault_of src)
tells_apart p w c e src = record {
  ends = λ s q l k h. some_once (ap told_place h);
  token = λ s q l k t h. some_none (ap told_place h);
  large = λ s l t h. some_none (ap told_place h);
}

-- ---- runs

all_more : {S T F : Type 0} (m : Machine Lexeme S T) (r : Recovers S F) (q : Recovery S F) (ts us : List Lexeme) → recovery_of_all m r q (ts ++ us) ≡ recovery_of_all m r (recovery_of_all m r q ts) us
all_more m r q [] us = refl
all_more m r q (t ∷ ts) us = all_more m r (recovery_step m r q t) ts us

-- nothing is skipped where a fault stops the parse
abbrev Skips : RecoveryWay → Type 0
Skips way.Stop = ⊥
Skips way.ToBrace = Unit {0}
Skips way.ToEnd = Unit {0}

abbrev pub IsWell : {S F : Type 0} → Recovery S F → Type 0
IsWell (reading xs l s) = Unit {0}
IsWell (skipping xs w s x) = Skips w
IsWell (stopped xs x) = Unit {0}

skips_well : {S F : Type 0} (r : Recovers S F) (xs : List F) (w : RecoveryWay) (s : S) (x : F) (t : Lexeme) (k : Mark) → IsWell (skip_step r xs w s x t k)
skips_well r xs way.ToBrace s x t mark.At = tt
skips_well r xs way.ToBrace s x t mark.OpenParen = tt
skips_well r xs way.ToBrace s x t mark.CloseParen = tt
skips_well r xs way.ToBrace s x t mark.OpenBrace = tt
skips_well r xs way.ToBrace s x t mark.CloseBrace = tt
skips_well r xs way.ToBrace s x t mark.Comma = tt
skips_well r xs way.ToBrace s x t mark.Colon = tt
skips_well r xs way.ToBrace s x t mark.Semicolon = tt
skips_well r xs way.ToBrace s x t mark.Is = tt
skips_well r xs way.ToBrace s x t mark.String = tt
skips_well r xs way.ToBrace s x t mark.Other = tt
skips_well r xs way.ToEnd s x t mark.At = tt
skips_well r xs way.ToEnd s x t mark.OpenParen = tt
skips_well r xs way.ToEnd s x t mark.CloseParen = tt
skips_well r xs way.ToEnd s x t mark.OpenBrace = tt
skips_well r xs way.ToEnd s x t mark.CloseBrace = tt
skips_well r xs way.ToEnd s x t mark.Comma = tt
skips_well r xs way.ToEnd s x t mark.Colon = tt
skips_well r xs way.ToEnd s x t mark.Semicolon = tt
skips_well r xs way.ToEnd s x t mark.Is = tt
skips_well r xs way.ToEnd s x t mark.String = tt
skips_well r xs way.ToEnd s x t mark.Other = tt
skips_well r xs way.Stop s x t k = tt

judged_well : {S T F : Type 0} (r : Recovers S F) (xs : List F) (l : ℕ) (s : S) (t : Lexeme) (a : Answer S T) → IsWell (judgment r xs l s t a)
judged_well r xs l s t (next q) = tt
judged_well r xs l s t (ended x) = skips_well r xs (r.way s) s (r.tell s l (Some t)) t (mark_of t.kind)
judged_well r xs l s t refused = skips_well r xs (r.way s) s (r.tell s l (Some t)) t (mark_of t.kind)
judged_well r xs l s t too_large = tt

step_well : {S T F : Type 0} (m : Machine Lexeme S T) (r : Recovers S F) (q : Recovery S F) (t : Lexeme) → IsWell (recovery_step m r q t)
step_well m r (reading xs l s) t = judged_well r xs l s t (m.step s t)
step_well m r (skipping xs w s x) t = skips_well r xs w s x t (mark_of t.kind)
step_well m r (stopped xs x) t = tt

pub all_well : {S T F : Type 0} (m : Machine Lexeme S T) (r : Recovers S F) (q : Recovery S F) (ts : List Lexeme) → IsWell q → IsWell (recovery_of_all m r q ts)
all_well m r q [] w = w
all_well m r q (t ∷ ts) w = all_well m r (recovery_step m r q t) ts (step_well m r q t)

-- ---- a `;` more

abbrev semicolon_at : ℕ → Lexeme
semicolon_at place = record { kind = kind.Semicolon; start = 0; end = place; text = [] }

abbrev tail_of : {F : Type 0} → List F → List F
tail_of [] = []
tail_of (x ∷ xs) = xs

longer : {F : Type 0} (xs : List F) (x : F) → xs ++ x ∷ [] ≡ xs → ⊥
longer [] x e = cc
longer (y ∷ xs) x e = longer xs x (ap tail_of e)

reading_mended : {T F : Type 0} (xs : List F) (y : F) (o : Option T) → (told_reading xs y o).mended ≡ xs
reading_mended xs y None = refl
reading_mended xs y (Some x) = refl

-- a fault in hand is mended by it
mended_by_it : {S T : Type 0} (m : Machine Lexeme S T) (r : Recovers S ParseError) (xs : List ParseError) (w : RecoveryWay) (s : S) (x : ParseError) (place : ℕ) (y : Option ParseError) → Skips w →
    told_end m r (skip_step r xs w s x (semicolon_at place) mark.Semicolon) ≡ run_faults xs y → ⊥
mended_by_it m r xs way.ToBrace s x place y w e =
    longer xs x (sym (reading_mended (xs ++ x ∷ []) (r.tell (r.end s) place None) (m.finish (r.end s))) ∙ ap (λ a. a.mended) e)
mended_by_it m r xs way.ToEnd s x place y w e =
    longer xs x (sym (reading_mended (xs ++ x ∷ []) (r.tell (r.end s) place None) (m.finish (r.end s))) ∙ ap (λ a. a.mended) e)
mended_by_it m r xs way.Stop s x place y w e = w

-- an end is told no more where it isn't the end
read_on : {S T : Type 0} (r : Recovers S ParseError) → TellsApart r → (xs : List ParseError) (l : ℕ) (s q : S) (o : Option T) → told_reading xs (r.tell q (suc l) None) o ≡ run_faults xs (Some (r.tell s l None)) → ⊥
read_on r a xs l s q None e = let same = a.ends q s (suc l) l (some_once (ap (λ a. a.last) e)) in omega (arith, same)
read_on r a xs l s q (Some x) e = some_none (sym (ap (λ a. a.last) e))

stopped_there : {S T : Type 0} (m : Machine Lexeme S T) (r : Recovers S ParseError) → TellsApart r → (xs : List ParseError) (l : ℕ) (s : S) (w : RecoveryWay) →
    told_end m r (skip_step r xs w s (r.tell s l (Some (semicolon_at (suc l)))) (semicolon_at (suc l)) mark.Semicolon) ≡ run_faults xs (Some (r.tell s l None)) → ⊥
stopped_there m r a xs l s way.ToBrace e = mended_by_it m r xs way.ToBrace s (r.tell s l (Some (semicolon_at (suc l)))) (suc l) (Some (r.tell s l None)) tt e
stopped_there m r a xs l s way.ToEnd e = mended_by_it m r xs way.ToEnd s (r.tell s l (Some (semicolon_at (suc l)))) (suc l) (Some (r.tell s l None)) tt e
stopped_there m r a xs l s way.Stop e = a.token s s l l (semicolon_at (suc l)) (some_once (sym (ap (λ a. a.last) e)))

not_ended : {S T : Type 0} (m : Machine Lexeme S T) (r : Recovers S ParseError) → TellsApart r → (xs : List ParseError) (l : ℕ) (s : S) (x : Answer S T) →
    told_end m r (judgment r xs l s (semicolon_at (suc l)) x) ≡ run_faults xs (Some (r.tell s l None)) → ⊥
not_ended m r a xs l s (next q) e = read_on r a xs l s q (m.finish q) e
not_ended m r a xs l s (ended v) e = stopped_there m r a xs l s (r.way s) e
not_ended m r a xs l s refused e = stopped_there m r a xs l s (r.way s) e
not_ended m r a xs l s too_large e = a.large s l (semicolon_at (suc l)) (some_once (sym (ap (λ a. a.last) e)))

-- ---- a list at a bad place

-- what a run tells there
abbrev pub at_bad : {S : Type 0} → List ℕ → ℕ → Recovery S ParseError → List ParseError
at_bad src place (reading xs l s) = bad_fault fault_of src place ∷ xs
at_bad src place (skipping xs w s x) = bad_fault fault_of src place ∷ xs
at_bad src place (stopped xs x) = x ∷ xs

reading_at_bad : {S V A : Type 0} {R : Rule A} (W : List ℕ → List Lexeme → Type 0) {src : List ℕ} {m : Machine Lexeme S (Cell A)} {r : Recovers S ParseError} {n : Machine TokenKind V (Unit {0})} {f : S → V} →
    Recoverable src m (IsNodeOf R src) (W src) (Unallowed (IsNodeOf R src) narrowing.Tokens src) (IsLarge src) r n f → TellsApart r → (ts : List Lexeme) (place : ℕ) (xs : List ParseError) (l : ℕ) (s : S) →
    reading xs l s ≡ recovery_of_all m r (reading [] 0 m.start) ts → (o : Option (Cell A)) → IsListed R W src ts (Some place) (told_reading xs (r.tell s l None) o).mended (told_reading xs (r.tell s l None) o).last (bad_fault fault_of src place ∷ xs)
reading_at_bad W {m = m} {r = r} d a ts place xs l s at None = inr (
  λ h. let t = semicolon_at (suc l) in
      let told = (faults_exactly d (ts ++ t ∷ []) xs (Some (r.tell s l None))).0 (h.2 (t ∷ [])) in
      not_ended m r a xs l s (m.step s t) (ap (λ q. told_all m r q (t ∷ [])) at ∙ sym (ap (λ q. told_end m r q) (all_more m r (reading [] 0 m.start) ts (t ∷ []))) ∙ told),
  refl,
)
reading_at_bad W d a ts place xs l s at (Some v) = inr (λ h. some_none (sym h.1), refl)

skipping_at_bad : {S V A : Type 0} {R : Rule A} (W : List ℕ → List Lexeme → Type 0) {src : List ℕ} {m : Machine Lexeme S (Cell A)} {r : Recovers S ParseError} {n : Machine TokenKind V (Unit {0})} {f : S → V} →
    Recoverable src m (IsNodeOf R src) (W src) (Unallowed (IsNodeOf R src) narrowing.Tokens src) (IsLarge src) r n f → (ts : List Lexeme) (place : ℕ) (xs : List ParseError) (w : RecoveryWay) (s : S) (x : ParseError) → Skips w →
    skipping xs w s x ≡ recovery_of_all m r (reading [] 0 m.start) ts → IsListed R W src ts (Some place) xs (Some x) (bad_fault fault_of src place ∷ xs)
skipping_at_bad W {m = m} {r = r} d ts place xs w s x skips at = inr (
  λ h. let t = semicolon_at 0 in
      let told = (faults_exactly d (ts ++ t ∷ []) xs (Some x)).0 (h.2 (t ∷ [])) in
      mended_by_it m r xs w s x 0 (Some x) skips (ap (λ q. told_all m r q (t ∷ [])) at ∙ sym (ap (λ q. told_end m r q) (all_more m r (reading [] 0 m.start) ts (t ∷ []))) ∙ told),
  refl,
)

stopped_at_bad : {S V A : Type 0} {R : Rule A} (W : List ℕ → List Lexeme → Type 0) {src : List ℕ} {m : Machine Lexeme S (Cell A)} {r : Recovers S ParseError} {n : Machine TokenKind V (Unit {0})} {f : S → V} →
    Recoverable src m (IsNodeOf R src) (W src) (Unallowed (IsNodeOf R src) narrowing.Tokens src) (IsLarge src) r n f → (ts : List Lexeme) (place : ℕ) (xs : List ParseError) (x : ParseError) →
    stopped xs x ≡ recovery_of_all m r (reading [] 0 m.start) ts → IsListed R W src ts (Some place) xs (Some x) (x ∷ xs)
stopped_at_bad W {m = m} {r = r} d ts place xs x at = inl (
  (
    x,
    refl,
    λ us. (faults_exactly d (ts ++ us) xs (Some x)).1
        (ap (λ q. told_end m r q) (all_more m r (reading [] 0 m.start) ts us) ∙ sym (ap (λ q. told_all m r q us) at) ∙ stays m r xs x us),
  ),
  refl,
)

pub listed_at_bad : {S V A : Type 0} {R : Rule A} (W : List ℕ → List Lexeme → Type 0) {src : List ℕ} {m : Machine Lexeme S (Cell A)} {r : Recovers S ParseError} {n : Machine TokenKind V (Unit {0})} {f : S → V} →
    Recoverable src m (IsNodeOf R src) (W src) (Unallowed (IsNodeOf R src) narrowing.Tokens src) (IsLarge src) r n f → TellsApart r → (ts : List Lexeme) (place : ℕ) (q : Recovery S ParseError) → IsWell q →
    q ≡ recovery_of_all m r (reading [] 0 m.start) ts → IsListed R W src ts (Some place) (told_end m r q).mended (told_end m r q).last (at_bad src place q)
listed_at_bad W {m = m} d a ts place (reading xs l s) w at = reading_at_bad W d a ts place xs l s at (m.finish s)
listed_at_bad W d a ts place (skipping xs v s x) w at = skipping_at_bad W d ts place xs v s x w at
listed_at_bad W d a ts place (stopped xs x) w at = stopped_at_bad W d ts place xs x at
