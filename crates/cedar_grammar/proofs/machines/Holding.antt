-- What a machine takes, the machine above that holds its state takes too.
use Rattle.std.proofs.Common.{◌≡◌, List, [], ◌∷◌, ◌++◌, Option, Some, None, refl, ◌∙◌, ap, subst, append_assoc, IfSome}
use Rattle.std.proofs.lemmas.List.{append-nil}
use Rattle.cedar_lexer.specs.Token.{Lexeme}
use Rattle.cedar_grammar.specs.machines.Machine.{Machine, Answer, next, ended, refused, too_large, answer_state, steps, Comes}
use Rattle.cedar_grammar.proofs.machines.Laws.{some_is, none_some, steps-none, then_steps}

pub snoc_assoc : {A : Type 0} (ts : List A) (t : A) (us : List A) → (ts ++ t ∷ []) ++ us ≡ ts ++ t ∷ us
snoc_assoc ts t us = simp append_assoc

-- the second machine holds the first one's state there, and hands it each token
abbrev pub Holds : {K S T U V : Type 0} → Machine K S T → Machine K U V → (S → U) → Type 0
Holds {K = K} {S = S} m n at = (s q : S) (t : K) → m.step s t ≡ next q → n.step (at s) t ≡ next (at q)

on_next : {K S T U V : Type 0} (m : Machine K S T) (n : Machine K U V) (at : S → U) (u : U) (t : K) (ts : List K) (r : S) (a : Answer S T) → ((q : S) → a ≡ next q → n.step u t ≡ next (at q)) →
    ((q : S) → steps m (Some q) ts ≡ Some r → steps n (Some (at q)) ts ≡ Some (at r)) → steps m (answer_state a) ts ≡ Some r → steps n (Some u) (t ∷ ts) ≡ Some (at r)
on_next m n at u t ts r (next q) h go e = ap (λ a. steps n (answer_state a) ts) (h q refl) ∙ go q e
on_next m n at u t ts r (ended x) h go e = absurd (none_some (steps-none m ts) e)
on_next m n at u t ts r refused h go e = absurd (none_some (steps-none m ts) e)
on_next m n at u t ts r too_large h go e = absurd (none_some (steps-none m ts) e)

pub held : {K S T U V : Type 0} (m : Machine K S T) (n : Machine K U V) (at : S → U) → Holds m n at → (ts : List K) (s r : S) → steps m (Some s) ts ≡ Some r → steps n (Some (at s)) ts ≡ Some (at r)
held m n at h [] s r e = ap (λ s. Some (at s)) (some_is e)
held m n at h (t ∷ ts) s r e = on_next m n at (at s) t ts r (m.step s t) (λ q w. h s q t w) (λ q g. held m n at h ts q r g) e

-- the first token leads from another state into the one that is held
pub entered : {K S T U V : Type 0} (m : Machine K S T) (n : Machine K U V) (at : S → U) → Holds m n at → (u : U) (t : K) → ((q : S) → m.step m.start t ≡ next q → n.step u t ≡ next (at q)) →
    (ts : List K) (r : S) → Comes m (t ∷ ts) r → steps n (Some u) (t ∷ ts) ≡ Some (at r)
entered m n at h u t i ts r e = on_next m n at u t ts r (m.step m.start t) i (λ q g. held m n at h ts q r g) e

-- one more token
pub one_more : {K S T : Type 0} (m : Machine K S T) (ts : List K) (s q : S) (t : K) → Comes m ts s → m.step s t ≡ next q → Comes m (ts ++ t ∷ []) q
one_more m ts s q t f e = then_steps m (Some m.start) (Some s) (Some q) ts (t ∷ []) f (ap (λ a. answer_state a) e)

-- what holds at the start and is kept by each token that is taken, holds behind each run

on_taken : {S T : Type 0} (m : Machine Lexeme S T) (P : List Lexeme → S → Type 0) → ((ts : List Lexeme) (s : S) (t : Lexeme) → P ts s → IfSome (answer_state (m.step s t)) (λ q. P (ts ++ t ∷ []) q)) →
    (ts us : List Lexeme) (o : Option S) (r : S) → IfSome o (λ s. P ts s) → steps m o us ≡ Some r → P (ts ++ us) r
on_taken m P h ts us None r p e = absurd (none_some (steps-none m us) e)
on_taken m P h ts [] (Some s) r p e = rw append-nil (subst (λ q. P ts q) (some_is e) p)
on_taken m P h ts (t ∷ us) (Some s) r p e = subst (λ w. P w r) (snoc_assoc ts t us) (on_taken m P h (ts ++ t ∷ []) us (answer_state (m.step s t)) r (h ts s t p) e)

pub kept : {S T : Type 0} (m : Machine Lexeme S T) (P : List Lexeme → S → Type 0) → P [] m.start → ((ts : List Lexeme) (s : S) (t : Lexeme) → P ts s → IfSome (answer_state (m.step s t)) (λ q. P (ts ++ t ∷ []) q)) →
    (ts : List Lexeme) (s : S) → Comes m ts s → P ts s
kept m P p h ts s e = on_taken m P h [] ts (Some m.start) s p e
