-- What each act keeps that is planned, holds behind each run.
use Rattle.std.proofs.Common.{◌≡◌, ℕ, List, [], ◌∷◌, ◌++◌, Option, Some, None, refl, IfSome}
use Rattle.cedar_lexer.specs.Token.{Lexeme}
use Rattle.cedar_grammar.specs.machines.Machine.{answer_state, Comes, Reader, done_answer, end_answer, planned_answer, machine_of}
use Rattle.cedar_grammar.proofs.machines.Holding.{kept}

kept_end : (S : Type 0) {T : Type 0} (P : S → Type 0) (o : Option T) → IfSome (answer_state (end_answer {S = S} o)) P
kept_end S P (Some x) = tt
kept_end S P None = tt

kept_done : {S : Type 0} (T : Type 0) (P : S → Type 0) (o : Option S) → IfSome o P → IfSome (answer_state (done_answer {T = T} o)) P
kept_done T P (Some q) h = h
kept_done T P None h = tt

kept_at : {S A T : Type 0} (P : S → Type 0) (act : A → Option S) (tree : Option T) (o : Option A) → ((a : A) → o ≡ Some a → IfSome (act a) P) → IfSome (answer_state (planned_answer act tree o)) P
kept_at {S = S} P act tree None h = kept_end S P tree
kept_at {T = T} P act tree (Some a) h = kept_done T P (act a) (h a refl)

pub keeps : {S A T : Type 0} (src : List ℕ) (r : Reader S A T) (P : List Lexeme → S → Type 0) → P [] r.start →
    ((ts : List Lexeme) (s : S) (t : Lexeme) (a : A) → P ts s → r.plan s t.kind ≡ Some a → IfSome (r.act src s a t) (λ q. P (ts ++ t ∷ []) q)) → (ts : List Lexeme) (s : S) → Comes (machine_of src r) ts s → P ts s
keeps src r P p h = kept (machine_of src r) P p (λ ts s t w. kept_at (λ q. P (ts ++ t ∷ []) q) (λ a. r.act src s a t) (r.finish src s) (r.plan s t.kind) (λ a e. h ts s t a w e))
