-- Machines that read tokens one by one, and what the driver that runs one, or a machine that
-- contains it, may rely on. `K` is what it takes for a token: the machine itself reads tokens, and
-- its shapes read kinds.
use Rattle.std.specs.Prelude.{◌≡◌, ℕ, Bool, true, false, List, [], ◌∷◌, Option, Some, None}
use Rattle.cedar_lexer.specs.Token.{Lexeme}
use Rattle.cedar_lexer.specs.declared.token.TokenKind.{TokenKind}
use Rattle.cedar_lexer.specs.declared.token.TokenKind.TheVariants as kind
use Rattle.cedar_syntax.specs.tokens.Tokens.{fits}

-- what a machine answers to a token
pub data Answer (S T : Type 0) : Type 0 where
  -- it is taken
  next : S → Answer S T
  -- the tree ended before it: it is not the machine's own
  ended : T → Answer S T
  -- no sentence has it here
  refused : Answer S T
  -- a number that doesn't fit, where a number may stand
  too_large : Answer S T

pub record Machine (K S T : Type 0) : Type 0 where
  pub start : S
  pub step : S → K → Answer S T
  -- the tree, where it can end
  pub finish : S → Option T

abbrev pub answer_state : {S T : Type 0} → Answer S T → Option S
answer_state (next s) = Some s
answer_state (ended x) = None
answer_state refused = None
answer_state too_large = None

abbrev pub step_from : {K S T : Type 0} → Machine K S T → Option S → K → Option S
step_from m None k = None
step_from m (Some s) k = answer_state (m.step s k)

abbrev pub steps : {K S T : Type 0} → Machine K S T → Option S → List K → Option S
steps m s [] = s
steps m s (k ∷ ts) = steps m (step_from m s k) ts

-- it comes to this state by these tokens
abbrev pub Comes : {K S T : Type 0} → Machine K S T → List K → S → Type 0
Comes m ts s = steps m (Some m.start) ts ≡ Some s

-- and to this tree
pub record RunsTo {K S T : Type 0} (m : Machine K S T) (ts : List K) (x : T) : Type 0 where
  pub last : S
  pub goes : Comes m ts last
  pub ends : m.finish last ≡ Some x

-- from this state some more tokens come to a tree
pub record Completed {K S T : Type 0} (m : Machine K S T) (s : S) : Type 0 where
  pub more : List K
  pub last : S
  pub tree : T
  pub goes : steps m (Some s) more ≡ Some last
  pub ends : m.finish last ≡ Some tree

abbrev pub is_taken : {S T : Type 0} → Answer S T → Bool
is_taken (next s) = true
is_taken (ended x) = false
is_taken refused = false
is_taken too_large = false

abbrev pub is_some : {T : Type 0} → Option T → Bool
is_some (Some x) = true
is_some None = false

-- what a machine answers to a token, beside the tree that it could end with
abbrev pub AnswersRightly : {S T : Type 0} → Lexeme → Answer S T → Option T → Type 0
AnswersRightly t (next s) o = (t.kind ≡ kind.Number) → fits t.text ≡ true
-- a token that is not taken has ended the tree just where there is one
AnswersRightly t (ended x) o = o ≡ Some x
AnswersRightly t refused o = o ≡ None
AnswersRightly t too_large o = (t.kind ≡ kind.Number) × (fits t.text ≡ false)

-- a form that is read by a plan: what is done with a token is decided by its kind and the state's
-- shape, and then done. `A` is what may be done.
pub record Reader (S A T : Type 0) : Type 0 where
  pub start : S
  -- what is done with a token of this kind, or nothing where it isn't the form's
  pub plan : S → TokenKind → Option A
  -- what that makes of a state, over the source; nothing where a number doesn't fit
  pub act : List ℕ → S → A → Lexeme → Option S
  -- whether the tree can end
  pub ends : S → Bool
  -- the tree, where it can
  pub finish : List ℕ → S → Option T

abbrev pub done_answer : {S T : Type 0} → Option S → Answer S T
done_answer (Some s) = next s
done_answer None = too_large

abbrev pub end_answer : {S T : Type 0} → Option T → Answer S T
end_answer (Some x) = ended x
end_answer None = refused

-- a token that is planned is taken, unless it is a number that doesn't fit; any other has ended
-- the tree, where one can end
abbrev pub planned_answer : {S T A : Type 0} → (A → Option S) → Option T → Option A → Answer S T
planned_answer act tree (Some a) = done_answer (act a)
planned_answer act tree None = end_answer tree

-- the machine that reads by the plan
abbrev pub machine_of : {S A T : Type 0} → List ℕ → Reader S A T → Machine Lexeme S T
machine_of src r = record {
  start = r.start;
  step = λ s t. planned_answer (λ a. r.act src s a t) (r.finish src s) (r.plan s t.kind);
  finish = λ s. r.finish src s;
}

-- what a state allows next, a kind of token or the end
abbrev pub allowed_by : {S A T : Type 0} → Reader S A T → S → Option TokenKind → Bool
allowed_by r s (Some k) = is_some (r.plan s k)
allowed_by r s None = r.ends s

-- what of a reader's states decides which kinds may come next, and what an act with a token of
-- this kind makes of it; `V` is what of the tree the form above asks for
pub record Outline (U A V : Type 0) : Type 0 where
  pub start : U
  pub plan : U → TokenKind → Option A
  pub act : U → A → TokenKind → U
  pub finish : U → Option V

-- nothing of a tree decides
abbrev pub no_tree : {T : Type 0} → T → Unit {0}
no_tree x = tt

-- a tree of which nothing is asked, where it can end
abbrev pub ends_with : Bool → Option (Unit {0})
ends_with true = Some tt
ends_with false = None

-- it goes over kinds as the reader goes over tokens
abbrev pub outline_machine : {U A V : Type 0} → Outline U A V → Machine TokenKind U V
outline_machine n = record {
  start = n.start;
  step = λ u k. planned_answer (λ a. Some (n.act u a k)) (n.finish u) (n.plan u k);
  finish = n.finish;
}

-- The machine is the rule's parser: it comes to a tree by just the tokens that the rule reads as
-- that tree, each of its states can still come to one, and it takes no number that doesn't fit. A
-- machine above uses no more of it.
pub record IsParser {S T : Type 0} (m : Machine Lexeme S T)
    (R : List Lexeme → T → Type 0) : Type 0 where
  pub complete : (ts : List Lexeme) (x : T) → R ts x → RunsTo m ts x
  pub sound : (ts : List Lexeme) (s : S) (x : T) → Comes m ts s → m.finish s ≡ Some x → R ts x
  pub viable : (s : S) → Completed m s
  pub answers : (s : S) (t : Lexeme) → AnswersRightly t (m.step s t) (m.finish s)

-- a kind that a machine above reads behind this one's trees: it neither begins one, nor goes on
-- with one that can end
pub record IsOutside {S T : Type 0} (m : Machine Lexeme S T) (k : TokenKind) : Type 0 where
  pub behind : (s : S) (x : T) (t : Lexeme) → t.kind ≡ k → m.finish s ≡ Some x →
      m.step s t ≡ ended x
  pub before : (t : Lexeme) → t.kind ≡ k → m.step m.start t ≡ refused

-- what may come next, as a machine of shapes has it
abbrev pub allows : {S T : Type 0} → Machine TokenKind S T → S → Option TokenKind → Bool
allows n s (Some k) = is_taken (n.step s k)
allows n s None = is_some (n.finish s)

-- the shape of what a token makes of a state; a number that doesn't fit stops the machine, not the
-- shapes
abbrev pub IsShape : {S T U V : Type 0} → (S → U) → (T → V) → Answer S T → Answer U V → Type 0
IsShape f g (next s) a = a ≡ next (f s)
IsShape f g (ended x) a = a ≡ ended (g x)
IsShape f g refused a = a ≡ refused
IsShape f g too_large a = is_taken a ≡ true

abbrev pub option_image : {T V : Type 0} → (T → V) → Option T → Option V
option_image g (Some x) = Some (g x)
option_image g None = None

-- the second machine goes over kinds as the first one does over tokens
pub record Shapes {S T U V : Type 0} (m : Machine Lexeme S T) (n : Machine TokenKind U V)
    (f : S → U) (g : T → V) : Type 0 where
  pub starts : f m.start ≡ n.start
  pub steps : (s : S) (t : Lexeme) → IsShape f g (m.step s t) (n.step (f s) t.kind)
  pub finishes : (s : S) → n.finish (f s) ≡ option_image g (m.finish s)

-- a planned act is total but for numbers that don't fit
abbrev pub IsDone : {S : Type 0} → Lexeme → Option S → Type 0
IsDone t (Some s) = (t.kind ≡ kind.Number) → fits t.text ≡ true
IsDone t None = (t.kind ≡ kind.Number) × (fits t.text ≡ false)

-- all that a reader and its outline owe
pub record IsOutline {S A T U V : Type 0} (src : List ℕ) (r : Reader S A T) (n : Outline U A V)
    (f : S → U) (g : T → V) : Type 0 where
  pub starts : f r.start ≡ n.start
  pub plans : (s : S) (k : TokenKind) → r.plan s k ≡ n.plan (f s) k
  pub acts : (s q : S) (a : A) (t : Lexeme) → r.plan s t.kind ≡ Some a →
      r.act src s a t ≡ Some q → f q ≡ n.act (f s) a t.kind
  pub done : (s : S) (a : A) (t : Lexeme) → r.plan s t.kind ≡ Some a → IsDone t (r.act src s a t)
  pub ends : (s : S) → r.ends s ≡ is_some (n.finish (f s))
  pub finishes : (s : S) → n.finish (f s) ≡ option_image g (r.finish src s)
