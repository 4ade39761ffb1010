-- What follows for every machine that is a parser.
use Rattle.std.specs.Prelude.{IsTrue, ◌↔◌}
use Rattle.std.proofs.Common.{◌≡◌, List, [], ◌∷◌, ◌++◌, Option, Some, None, Bool, true, false, refl, sym, ◌∙◌, ap, subst, IfSome}
use Rattle.cedar_lexer.specs.Token.{Lexeme}
use Rattle.cedar_lexer.specs.declared.token.TokenKind.{TokenKind}
use Rattle.cedar_grammar.specs.grammar.Sentences.{kinds, Starts, Sentence, Allowed, IsFirstRefused}
use Rattle.cedar_grammar.specs.machines.Machine.{Machine, Answer, next, ended, refused, too_large, answer_state, step_from, steps, Comes, RunsTo, AnswersRightly, IsParser, is_taken, is_some, allows, IsShape, option_image, Shapes}

-- some token of a kind
abbrev pub some_token : TokenKind → Lexeme
some_token k = record { kind = k; start = 0; end = 0; text = [] }

pub some_is : {A : Type 0} {x y : A} → Some x ≡ Some y → x ≡ y
some_is e = cc

pub none_some : {A : Type 0} {x : A} {o : Option A} → o ≡ None → o ≡ Some x → ⊥
none_some e f = cc

pub false_true : {b : Bool} → b ≡ false → b ≡ true → ⊥
false_true e f = cc

pub if_some : {A : Type 0} (P : A → Type 0) (o : Option A) (x : A) → IfSome o P → o ≡ Some x → P x
if_some P None x h e = absurd (cc)
if_some P (Some y) x h e = subst P (some_is e) h

-- runs

pub steps-append : {K S T : Type 0} (m : Machine K S T) (s : Option S) (a b : List K) → steps m s (a ++ b) ≡ steps m (steps m s a) b
steps-append m s [] b = refl
steps-append m s (k ∷ a) b = steps-append m (step_from m s k) a b

pub steps-none : {K S T : Type 0} (m : Machine K S T) (ts : List K) → steps m None ts ≡ None
steps-none m [] = refl
steps-none m (k ∷ ts) = steps-none m ts

pub then_steps : {K S T : Type 0} (m : Machine K S T) (s a b : Option S) (ts us : List K) → steps m s ts ≡ a → steps m a us ≡ b → steps m s (ts ++ us) ≡ b
then_steps m s a b ts us f g = steps-append m s ts us ∙ ap (λ q. steps m q us) f ∙ g

-- behind tokens that it has taken, the run over more of them goes on from there
pub rest_of_run : {K S T : Type 0} (m : Machine K S T) (ts us : List K) (s : S) (o : Option S) → Comes m ts s → steps m (Some m.start) (ts ++ us) ≡ o → steps m (Some s) us ≡ o
rest_of_run m ts us s o f g = sym (ap (λ q. steps m q us) f) ∙ sym (steps-append m (Some m.start) ts us) ∙ g

-- trees

pub at_most_one : {S T : Type 0} {m : Machine Lexeme S T} {R : List Lexeme → T → Type 0} → IsParser m R → (ts : List Lexeme) (x y : T) → R ts x → R ts y → x ≡ y
at_most_one {m = m} d ts x y r s =
    let h = d.complete ts x r in
    let g = d.complete ts y s in
    some_is (sym h.ends ∙ ap (λ s. m.finish s) (some_is (sym h.goes ∙ g.goes)) ∙ g.ends)

pub starts_from : {S T : Type 0} {m : Machine Lexeme S T} {R : List Lexeme → T → Type 0} → IsParser m R → (ts : List Lexeme) (s : S) → Comes m ts s → Starts R ts
starts_from {m = m} d ts s f =
    let c = d.viable s in
    (c.more, (c.tree, d.sound (ts ++ c.more) c.last c.tree (then_steps m (Some m.start) (Some s) (Some c.last) ts c.more f c.goes) c.ends))

-- shapes go over kinds as the machine goes over tokens

from_shaped : {S T U V : Type 0} (m : Machine Lexeme S T) (n : Machine TokenKind U V) (f : S → U) (g : T → V) (ts : List Lexeme) (r : S) (a : Answer S T) (c : Answer U V) →
    ((w : S) → steps m (Some w) ts ≡ Some r → steps n (Some (f w)) (kinds ts) ≡ Some (f r)) → IsShape f g a c → steps m (answer_state a) ts ≡ Some r → steps n (answer_state c) (kinds ts) ≡ Some (f r)
from_shaped m n f g ts r (next w) c go h e = ap (λ c. steps n (answer_state c) (kinds ts)) h ∙ go w e
from_shaped m n f g ts r (ended x) c go h e = absurd (none_some (steps-none m ts) e)
from_shaped m n f g ts r refused c go h e = absurd (none_some (steps-none m ts) e)
from_shaped m n f g ts r too_large c go h e = absurd (none_some (steps-none m ts) e)

pub steps_shaped : {S T U V : Type 0} {m : Machine Lexeme S T} {n : Machine TokenKind U V} (f : S → U) (g : T → V) → Shapes m n f g → (ts : List Lexeme) (s r : S) → steps m (Some s) ts ≡ Some r →
    steps n (Some (f s)) (kinds ts) ≡ Some (f r)
steps_shaped f g i [] s r e = ap (λ s. Some (f s)) (some_is e)
steps_shaped {m = m} {n = n} f g i (t ∷ ts) s r e = from_shaped m n f g ts r (m.step s t) (n.step (f s) t.kind) (λ w h. steps_shaped f g i ts w r h) (i.steps s t) e

shape_comes : {S T U V : Type 0} {m : Machine Lexeme S T} {n : Machine TokenKind U V} (f : S → U) (g : T → V) → Shapes m n f g → (ts : List Lexeme) (s : S) → Comes m ts s → Comes n (kinds ts) (f s)
shape_comes {m = m} {n = n} f g i ts s e = ap (λ u. steps n (Some u) (kinds ts)) (sym i.starts) ∙ steps_shaped f g i ts m.start s e

pub image_some : {T V : Type 0} (g : T → V) (o : Option T) → is_some (option_image g o) ≡ is_some o
image_some g (Some x) = refl
image_some g None = refl

pub ends_alike : {S T U V : Type 0} {m : Machine Lexeme S T} {n : Machine TokenKind U V} (f : S → U) (g : T → V) → Shapes m n f g → (s : S) → is_some (n.finish (f s)) ≡ is_some (m.finish s)
ends_alike {m = m} f g i s = ap (λ o. is_some o) (i.finishes s) ∙ image_some g (m.finish s)

-- what may come next

pub kinds-append : (ts us : List Lexeme) → kinds (ts ++ us) ≡ kinds ts ++ kinds us
kinds-append [] us = refl
kinds-append (t ∷ ts) us = ap (λ ks. t.kind ∷ ks) (kinds-append ts us)

-- a token that is taken, behind those that were
pub goes_on : {S T : Type 0} {m : Machine Lexeme S T} {R : List Lexeme → T → Type 0} → IsParser m R → (ts : List Lexeme) (s r : S) (t : Lexeme) → Comes m ts s → m.step s t ≡ next r → Allowed R (kinds ts) (Some t.kind)
goes_on {m = m} {R = R} d ts s r t f e =
    let c = d.viable r in (
      kinds c.more,
      record {
        tokens = ts ++ t ∷ c.more;
        spelled = kinds-append ts (t ∷ c.more);
        tree = c.tree;
        reads = d.sound (ts ++ t ∷ c.more) c.last c.tree (then_steps m (Some m.start) (Some s) (Some c.last) ts (t ∷ c.more) f (ap (λ a. steps m (answer_state a) c.more) e ∙ c.goes)) c.ends;
      },
    )

takes_on : {S T U V : Type 0} {m : Machine Lexeme S T} {n : Machine TokenKind U V} {R : List Lexeme → T → Type 0} (f : S → U) (g : T → V) → IsParser m R → Shapes m n f g → (ts : List Lexeme) (s : S) (k : TokenKind) (a : Answer S T) →
    Comes m ts s → m.step s (some_token k) ≡ a → IsShape f g a (n.step (f s) k) → AnswersRightly (some_token k) a (m.finish s) → is_taken (n.step (f s) k) ≡ true → Allowed R (kinds ts) (Some k)
takes_on f g d i ts s k (next r) e h w v x = goes_on d ts s r (some_token k) e h
takes_on f g d i ts s k (ended y) e h w v x = absurd (false_true (ap (λ a. is_taken a) w) x)
takes_on f g d i ts s k refused e h w v x = absurd (false_true (ap (λ a. is_taken a) w) x)
takes_on f g d i ts s k too_large e h w v x = absurd (false_true v.1 refl)

taken_run : {K S T : Type 0} (m : Machine K S T) (a : Answer S T) (ts : List K) (r : S) → steps m (answer_state a) ts ≡ Some r → is_taken a ≡ true
taken_run m (next s) ts r e = refl
taken_run m (ended x) ts r e = absurd (none_some (steps-none m ts) e)
taken_run m refused ts r e = absurd (none_some (steps-none m ts) e)
taken_run m too_large ts r e = absurd (none_some (steps-none m ts) e)

-- a sentence's shape
record Ends {K S T : Type 0} (n : Machine K S T) (ks : List K) : Type 0 where
  last : S
  goes : Comes n ks last
  ends : is_some (n.finish last) ≡ true

sentence_shape : {S T U V : Type 0} {m : Machine Lexeme S T} {n : Machine TokenKind U V} {R : List Lexeme → T → Type 0} (f : S → U) (g : T → V) → IsParser m R → Shapes m n f g → (ks : List TokenKind) → Sentence R ks → Ends n ks
sentence_shape {n = n} f g d i ks h =
    let r = d.complete h.tokens h.tree h.reads in
    record {
      last = f r.last;
      goes = ap (λ ks. steps n (Some n.start) ks) (sym h.spelled) ∙ shape_comes f g i h.tokens r.last r.goes;
      ends = ends_alike f g i r.last ∙ ap (λ o. is_some o) r.ends;
    }

kind_taken : {S T U V : Type 0} {m : Machine Lexeme S T} {n : Machine TokenKind U V} {R : List Lexeme → T → Type 0} (f : S → U) (g : T → V) → IsParser m R → Shapes m n f g → (ts : List Lexeme) (s : S) (k : TokenKind) →
    Comes m ts s → Allowed R (kinds ts) (Some k) → is_taken (n.step (f s) k) ≡ true
kind_taken {n = n} f g d i ts s k e h =
    let r = sentence_shape f g d i (kinds ts ++ k ∷ h.0) h.1 in
    taken_run n (n.step (f s) k) h.0 r.last (rest_of_run n (kinds ts) (k ∷ h.0) (f s) (Some r.last) (shape_comes f g i ts s e) r.goes)

ends_here : {S T : Type 0} {m : Machine Lexeme S T} {R : List Lexeme → T → Type 0} → IsParser m R → (ts : List Lexeme) (s : S) (o : Option T) → Comes m ts s → m.finish s ≡ o → is_some o ≡ true → Sentence R (kinds ts)
ends_here d ts s (Some x) f e i = record { tokens = ts; spelled = refl; tree = x; reads = d.sound ts s x f e }
ends_here d ts s None f e i = absurd (cc)

end_taken : {S T U V : Type 0} {m : Machine Lexeme S T} {n : Machine TokenKind U V} {R : List Lexeme → T → Type 0} (f : S → U) (g : T → V) → IsParser m R → Shapes m n f g → (ts : List Lexeme) (s : S) → Comes m ts s → Sentence R (kinds ts) →
    is_some (n.finish (f s)) ≡ true
end_taken {n = n} f g d i ts s e h =
    let r = sentence_shape f g d i (kinds ts) h in
    ap (λ u. is_some (n.finish u)) (some_is (sym (shape_comes f g i ts s e) ∙ r.goes)) ∙ r.ends

pub exactly : {S T U V : Type 0} {m : Machine Lexeme S T} {n : Machine TokenKind U V} {R : List Lexeme → T → Type 0} (f : S → U) (g : T → V) → IsParser m R → Shapes m n f g → (ts : List Lexeme) (s : S) (after : Option TokenKind) → Comes m ts s →
    IsTrue (allows n (f s) after) ↔ Allowed R (kinds ts) after
exactly {m = m} f g d i ts s (Some k) e = (λ h. takes_on f g d i ts s k (m.step s (some_token k)) e refl (i.steps s (some_token k)) (d.answers s (some_token k)) h, λ h. kind_taken f g d i ts s k e h)
exactly {m = m} f g d i ts s None e = (λ h. ends_here d ts s (m.finish s) e refl (sym (ends_alike f g i s) ∙ h), λ h. end_taken f g d i ts s e h)

-- the first that no sentence allows is where shapes stop

pub stops_at : {S T U V : Type 0} {m : Machine Lexeme S T} {n : Machine TokenKind U V} {R : List Lexeme → T → Type 0} (f : S → U) (g : T → V) → IsParser m R → Shapes m n f g → (ts : List Lexeme) (s : S) (after : Option TokenKind) → Comes m ts s →
    allows n (f s) after ≡ false → IsFirstRefused R ts after
stops_at f g d i ts s after e h = record { starts = starts_from d ts s e; refuses = λ w. false_true h ((exactly f g d i ts s after e).1 w) }

-- tokens that some more make a sentence are taken
some_state : {K S T : Type 0} (m : Machine K S T) (o : Option S) (ts : List K) (r : S) → steps m o ts ≡ Some r → (s : S) × (o ≡ Some s)
some_state m (Some s) ts r e = (s, refl)
some_state m None ts r e = absurd (none_some (steps-none m ts) e)

pub comes : {S T : Type 0} {m : Machine Lexeme S T} {R : List Lexeme → T → Type 0} → IsParser m R → (ts : List Lexeme) → Starts R ts → (s : S) × Comes m ts s
comes {m = m} d ts h =
    let r = d.complete (ts ++ h.0) h.1.0 h.1.1 in
    some_state m (steps m (Some m.start) ts) h.0 r.last (sym (steps-append m (Some m.start) ts h.0) ∙ r.goes)

-- a machine comes to a tree just where the tokens have it
pub runs_exactly : {S T : Type 0} {m : Machine Lexeme S T} {R : List Lexeme → T → Type 0} → IsParser m R → (ts : List Lexeme) (x : T) → RunsTo m ts x ↔ R ts x
runs_exactly d ts x = (λ h. d.sound ts h.last x h.goes h.ends, λ r. d.complete ts x r)
