-- The clauses of the rules in which reading goes on behind a fault.
use Rattle.std.specs.Prelude.{MatchResult, IfOk, IfErr}
use Rattle.std.specs.Str.{IsUtf8}
use Rattle.std.proofs.Common.{◌≡◌, ℕ, List, [], ◌∷◌, Option, Some, None, Result, Ok, Err, sym, ◌∙◌, ap, subst}
use Rattle.cedar_lexer.specs.Token.{Lexeme}
use Rattle.cedar_lexer.specs.Cut.{Cuts}
use Rattle.cedar_lexer.specs.LexerState.{IsCutOrStop}
use Rattle.cedar_lexer.specs.declared.token.TokenKind.{TokenKind}
use Rattle.cedar_lexer.proofs.Cuts.{one_end, nothing_at_end}
use Rattle.cedar_lexer.proofs.Runs.{not_both}
use Rattle.cedar_syntax.specs.declared.err.faults.Failure.{Failure}
use Rattle.cedar_syntax.specs.declared.err.faults.Failure.TheVariants.{Memory, Errors}
use Rattle.cedar_syntax.specs.declared.err.faults.ParseError.{ParseError}
use Rattle.cedar_grammar.specs.declared.reading.expected.ClosersOnly.TheVariants as narrowing
use Rattle.cedar_syntax.specs.faults.ParseErrors.{IsMemory}
use Rattle.cedar_grammar.specs.grammar.Grammar.{Rule, IsNodeOf, IsTreeOf}
use Rattle.cedar_grammar.specs.faults.Leftmost.{NumbersFit, HasLeftmost}
use Rattle.cedar_grammar.specs.faults.Mended.{no_fault}
use Rattle.cedar_grammar.specs.faults.MendedFaults.{Unallowed, IsLarge, FaultsOf, faults_with_last, IsListed, IsFaultList, IsMendedRefusal}
use Rattle.cedar_grammar.specs.grammar.Sentences.{HasTree}
use Rattle.cedar_syntax.specs.trees.Trees.{Cell}
use Rattle.cedar_grammar.specs.machines.Machine.{Machine, Reader, machine_of, allowed_by}
use Rattle.cedar_grammar.specs.machines.Judged.{IsRead}
use Rattle.cedar_grammar.specs.machines.Mending.{IsTold}
use Rattle.cedar_grammar.specs.machines.Recovery.{Recovers, reading, run_faults, told_all}
use Rattle.cedar_policy_machine.proofs.machines.Faults.{has_faults, faults_exactly}
use Rattle.cedar_grammar.proofs.machines.Laws.{at_most_one, comes, starts_from}
use Rattle.cedar_policy_machine.proofs.machines.Leftmost.{Resumes, leftmost}
use Rattle.cedar_policy_machine.proofs.machines.Recovery.{Recoverable, resumed}
use Rattle.cedar_grammar.proofs.machines.Rightly.{EndsRightly}
use Rattle.cedar_policy_machine.proofs.machines.Stopped.{TellsApart}
use Rattle.cedar_policy_machine.proofs.machines.Telling.{refused_list}

-- a form that is read by this rule and is recovered
pub record Mends {S A T V : Type 0} (R : Rule T) (W : List ℕ → List Lexeme → Type 0) (text : List ℕ) (p : Reader S A (Cell T)) (r : Recovers S ParseError) (n : Machine TokenKind V (Unit {0})) (f : S → V) : Type 0 where
  pub right : EndsRightly text p
  pub mended : Recoverable text (machine_of text p) (IsNodeOf R text) (W text) (Unallowed (IsNodeOf R text) narrowing.Tokens text) (IsLarge text) r n f
  pub apart : TellsApart r

tree_of : {S A T V : Type 0} {R : Rule T} {text : List ℕ} {p : Reader S A (Cell T)} {r : Recovers S ParseError} {n : Machine TokenKind V (Unit {0})} {f : S → V} (W : List ℕ → List Lexeme → Type 0) → Mends R W text p r n f → (x : Cell T) → IsRead (machine_of text p) text x → IsTreeOf R text x
tree_of W d x h = record { tokens = h.tokens; cut = h.cut; stands = d.mended.parser.sound h.tokens h.runs.last x h.runs.goes h.runs.ends }

one_cut : (text : List ℕ) (ts us : List Lexeme) → Cuts text ts → Cuts text us → ts ≡ us
one_cut text ts us c d = (one_end c (nothing_at_end text) d (nothing_at_end text)).0

one_tree : {S A T V : Type 0} {R : Rule T} {text : List ℕ} {p : Reader S A (Cell T)} {r : Recovers S ParseError} {n : Machine TokenKind V (Unit {0})} {f : S → V} (W : List ℕ → List Lexeme → Type 0) → Mends R W text p r n f → (x y : Cell T) → IsTreeOf R text x → IsTreeOf R text y → x ≡ y
one_tree {R = R} {text = text} W d x y h g =
    at_most_one d.mended.parser g.tokens x y (subst (λ ts. IsNodeOf R text ts x) (one_cut text h.tokens g.tokens h.cut g.cut) h.stands) g.stands

none_listed : (x : ParseError) (xs : List ParseError) → x ∷ xs ≡ [] → ⊥
none_listed x xs e = cc

-- a text with a tree has no list of faults
no_list : {S A T V : Type 0} {R : Rule T} {text : List ℕ} {p : Reader S A (Cell T)} {r : Recovers S ParseError} {n : Machine TokenKind V (Unit {0})} {f : S → V} (W : List ℕ → List Lexeme → Type 0) → Mends R W text p r n f → (y : Cell T) → IsTreeOf R text y → (x : ParseError) (xs : List ParseError) →
    (h : IsFaultList R W text (x ∷ xs)) (bad : Option ℕ) → IsCutOrStop text 0 h.tokens bad → IsListed R W text h.tokens bad h.mended h.last (x ∷ xs) → ⊥
no_list {text = text} W d y g x xs h (Some place) c i = not_both text g.tokens h.tokens place g.cut c
no_list {R = R} {text = text} {p = p} {r = r} W d y g x xs h None c i =
    let same : g.tokens ≡ h.tokens = one_cut text g.tokens h.tokens g.cut c in
    let e : told_all (machine_of text p) r (reading [] 0 p.start) h.tokens ≡ run_faults h.mended h.last = (faults_exactly d.mended h.tokens h.mended h.last).0 h.stands in
    let w : told_all (machine_of text p) r (reading [] 0 p.start) h.tokens ≡ run_faults [] None = (faults_exactly d.mended h.tokens [] None).0 (no_fault (subst (λ ts. HasTree (IsNodeOf R text) ts) same (y, g.stands))) in
    none_listed x xs (i ∙ ap (λ a. faults_with_last a.last a.mended) (sym e ∙ w))

pub found_clause : {S A T V : Type 0} {R : Rule T} {text : List ℕ} {p : Reader S A (Cell T)} {r : Recovers S ParseError} {n : Machine TokenKind V (Unit {0})} {f : S → V} (W : List ℕ → List Lexeme → Type 0) → Mends R W text p r n f → (o : Result (Cell T) Failure) →
    MatchResult o (λ x. IsRead (machine_of text p) text x) (λ e. IsTold (machine_of text p) (allowed_by p) r text e) → IfOk o (λ x. IsTreeOf R text x)
found_clause W d (Ok x) h = tree_of W d x h
found_clause W d (Err e) h = tt

only_memory : {S A T V : Type 0} {R : Rule T} {text : List ℕ} {p : Reader S A (Cell T)} {r : Recovers S ParseError} {n : Machine TokenKind V (Unit {0})} {f : S → V} (W : List ℕ → List Lexeme → Type 0) → Mends R W text p r n f → (e : Failure) → IsMendedRefusal R W text e → (y : Cell T) →
    IsTreeOf R text y → IsMemory e
only_memory W d (Memory w) h y g = tt
only_memory W d (Errors errors) h y g = no_list W d y g errors.faults.head errors.faults.tail h h.bad h.cut h.is

pub only_clause : {S A T V : Type 0} {R : Rule T} {text : List ℕ} {p : Reader S A (Cell T)} {r : Recovers S ParseError} {n : Machine TokenKind V (Unit {0})} {f : S → V} (W : List ℕ → List Lexeme → Type 0) → Mends R W text p r n f → (o : Result (Cell T) Failure) →
    MatchResult o (λ x. IsRead (machine_of text p) text x) (λ e. IsTold (machine_of text p) (allowed_by p) r text e) → (y : Cell T) → IsTreeOf R text y → MatchResult o (λ x. x ≡ y) IsMemory
only_clause W d (Ok x) h y g = one_tree W d x y (tree_of W d x h) g
only_clause {text = text} {p = p} W d (Err e) h y g = only_memory W d e (refused_list W text p d.right d.mended d.apart e h) y g

pub refused_clause : {S A T V : Type 0} {R : Rule T} {text : List ℕ} {p : Reader S A (Cell T)} {r : Recovers S ParseError} {n : Machine TokenKind V (Unit {0})} {f : S → V} (W : List ℕ → List Lexeme → Type 0) → Mends R W text p r n f → (o : Result (Cell T) Failure) →
    MatchResult o (λ x. IsRead (machine_of text p) text x) (λ e. IsTold (machine_of text p) (allowed_by p) r text e) → IfErr o (λ e. IsMendedRefusal R W text e)
refused_clause W d (Ok x) h = tt
refused_clause {text = text} {p = p} W d (Err e) h = refused_list W text p d.right d.mended d.apart e h

-- mended tokens go on from a stop
goes_from_stop : {S A T V : Type 0} {R : Rule T} {text : List ℕ} {p : Reader S A (Cell T)} {r : Recovers S ParseError} {n : Machine TokenKind V (Unit {0})} {f : S → V} (W : List ℕ → List Lexeme → Type 0) → Mends R W text p r n f → Resumes text (IsNodeOf R text) (W text)
goes_from_stop W d before rest mended q s =
    let c = comes d.mended.parser before s in
    let g = resumed d.mended c.0 q c.1 in
    record { skips = g.skips; stop = g.stop; after = g.after; front = g.front; parts = g.parts; mends = g.mends; starts = starts_from d.mended.parser g.front g.state g.comes; last = g.last }

pub leftmost_clause : {S A T V : Type 0} {R : Rule T} {text : List ℕ} {p : Reader S A (Cell T)} {r : Recovers S ParseError} {n : Machine TokenKind V (Unit {0})} {f : S → V} (W : List ℕ → List Lexeme → Type 0) → Mends R W text p r n f → (o : Result (Cell T) Failure) →
    MatchResult o (λ x. IsRead (machine_of text p) text x) (λ e. IsTold (machine_of text p) (allowed_by p) r text e) → IsUtf8 text → (ts : List Lexeme) → Cuts text ts → NumbersFit ts → IfErr o (λ e. HasLeftmost R text ts e)
leftmost_clause W d (Ok x) h u ts c g = tt
leftmost_clause {text = text} {p = p} W d (Err e) h u ts c g = leftmost W text (goes_from_stop W d) u ts c g e (refused_list W text p d.right d.mended d.apart e h)

-- ---- laws

pub has_list : {S A T V : Type 0} {R : Rule T} {src : List ℕ} {p : Reader S A (Cell T)} {r : Recovers S ParseError} {n : Machine TokenKind V (Unit {0})} {f : S → V} (W : List ℕ → List Lexeme → Type 0) → Mends R W src p r n f → (ts : List Lexeme) →
    (ys : List ParseError) × (y : Option ParseError) × FaultsOf R W src ts ys y
has_list W d ts = let a = has_faults d.mended ts in (a.mended, a.last, a.stands)

told_alike : {F : Type 0} {xs ys : List F} {x y : Option F} → run_faults xs x ≡ run_faults ys y → (xs ≡ ys) × (x ≡ y)
told_alike e = (ap (λ a. a.mended) e, ap (λ a. a.last) e)

pub one_fault_list : {S A T V : Type 0} {R : Rule T} {src : List ℕ} {p : Reader S A (Cell T)} {r : Recovers S ParseError} {n : Machine TokenKind V (Unit {0})} {f : S → V} (W : List ℕ → List Lexeme → Type 0) → Mends R W src p r n f →
    (ts : List Lexeme) (xs ys : List ParseError) (x y : Option ParseError) → FaultsOf R W src ts xs x → FaultsOf R W src ts ys y → (xs ≡ ys) × (x ≡ y)
one_fault_list W d ts xs ys x y h g = told_alike (sym ((faults_exactly d.mended ts xs x).0 h) ∙ (faults_exactly d.mended ts ys y).0 g)
