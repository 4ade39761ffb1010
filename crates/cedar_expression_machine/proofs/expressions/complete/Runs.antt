-- The run of the machine of expressions over tokens, in whichever form it is wanted, and extents
-- and signs, one step more.
use Rattle.std.specs.Prelude.{cond}
use Rattle.std.proofs.Common.{◌≡◌, ℕ, List, [], ◌∷◌, ◌++◌, Option, Some, None, Bool, true, false, refl, sym, ◌∙◌, ap}
use Rattle.cedar_lexer.specs.Token.{Lexeme}
use Rattle.cedar_lexer.specs.declared.token.TokenKind.{TokenKind}
pub use Rattle.cedar_grammar.proofs.machines.Laws.{some_is, none_some}
pub use Rattle.cedar_grammar.proofs.machines.Extents.{join-assoc, extent-append, at}
pub use Rattle.cedar_expression_machine.proofs.expressions.Basics.{chain_extent, bang_more, dash_more}
use Rattle.cedar_expression_machine.specs.machines.Named.{NameOrEntity, joins_words, IsWords}
use Rattle.cedar_expression_machine.specs.declared.words.state.WordsState.{WordsState}
use Rattle.cedar_expression_machine.specs.declared.expression.state.PendingOperators.{PendingOperators}
use Rattle.cedar_expression_machine.specs.declared.expression.state.Operand.{Operand}
use Rattle.cedar_expression_machine.specs.declared.expression.state.Frame.{Frame}
use Rattle.cedar_expression_machine.specs.declared.expression.state.OperandPlace.{OperandPlace}
use Rattle.cedar_expression_machine.specs.declared.expression.state.OperandPlace.TheVariants as place
use Rattle.cedar_expression_machine.specs.declared.expression.state.OperandMode.{OperandMode}
use Rattle.cedar_expression_machine.specs.declared.expression.state.OperandMode.TheVariants as mode
use Rattle.cedar_expression_machine.specs.declared.expression.state.State.{State}
use Rattle.cedar_expression_machine.specs.declared.expression.state.StartSymbol.{StartSymbol}
use Rattle.cedar_expression_machine.specs.declared.expression.state.FollowSet.{FollowSet}
use Rattle.cedar_expression_machine.specs.declared.expression.state.FollowSet.TheVariants as follow_set
use Rattle.cedar_grammar.specs.declared.reading.extent.Extent.{Extent}
use Rattle.cedar_grammar.specs.grammar.Place.{joint_extent, extent_of}
use Rattle.cedar_syntax.specs.tokens.Tokens.{Spot, one}
use Rattle.cedar_grammar.specs.machines.Machine.{machine_of, option_image}
use Rattle.cedar_expression_machine.specs.machines.ExpressionStates.{state}
use Rattle.cedar_expression_machine.specs.machines.ExpressionPlans.{edge, may_follow, if_follows}
use Rattle.cedar_expression_machine.specs.machines.Expressions.{have_act, last_operand}
use Rattle.cedar_expression_machine.specs.machines.ExpressionShapes.{WordOutline, stack_shape, relation_shape}
use Rattle.cedar_expression_machine.specs.machines.Having.{follow_act}
use Rattle.cedar_grammar.specs.machines.Classes.{follow_class}
use Rattle.cedar_grammar.specs.declared.reading.class.FollowClass.{FollowClass}
use Rattle.cedar_expression_machine.specs.declared.expression.state.Act.TheVariants as act
use Rattle.cedar_expression_machine.proofs.expressions.Held.{Held}
use Rattle.cedar_expression_machine.proofs.expressions.Stepping.{Names, planned, had, edge_shape, step_of}

-- extents

pub join-none : (a : Option Extent) → joint_extent a None ≡ a
join-none None = refl
join-none (Some a) = refl

-- the form that is wanted of the whole, and the machine of words

pub record Setting (src : List ℕ) : Type 1 where
  pub W : Type 0
  pub K : Type 0
  pub symbol : StartSymbol
  pub names : Names
  pub outline : WordOutline W K
  pub shape : WordsState → W
  pub kind : NameOrEntity → K
  pub held : Held src names outline shape kind
  pub words : IsWords (machine_of src names)

-- runs

-- what one token more makes of a state
abbrev pub steps_to : {src : List ℕ} → Setting src → State → Lexeme → Option State
steps_to {src = src} c s t = step_of c.symbol src c.names c.outline c.shape s t

abbrev pub from : {src : List ℕ} → Setting src → Option State → Lexeme → Option State
from c None t = None
from c (Some s) t = steps_to c s t

abbrev pub run : {src : List ℕ} → Setting src → Option State → List Lexeme → Option State
run c s [] = s
run c s (t ∷ ts) = run c (from c s t) ts

pub run-append : {src : List ℕ} (c : Setting src) (s : Option State) (a b : List Lexeme) → run c s (a ++ b) ≡ run c (run c s a) b
run-append c s [] b = refl
run-append c s (t ∷ a) b = run-append c (from c s t) a b

pub run-none : {src : List ℕ} (c : Setting src) (ts : List Lexeme) → run c None ts ≡ None
run-none c [] = refl
run-none c (t ∷ ts) = run-none c ts

pub two : {src : List ℕ} (c : Setting src) (s a b : Option State) (ts us : List Lexeme) → run c s ts ≡ a → run c a us ≡ b → run c s (ts ++ us) ≡ b
two c s a b ts us f g = run-append c s ts us ∙ ap (λ q. run c q us) f ∙ g

pub three : {src : List ℕ} (c : Setting src) (s a b d : Option State) (ts us vs : List Lexeme) → run c s ts ≡ a → run c a us ≡ b → run c b vs ≡ d → run c s (ts ++ us ++ vs) ≡ d
three c s a b d ts us vs f g h = two c s b d (ts ++ us) vs (two c s a b ts us f g) h

-- tokens

abbrev pub token : TokenKind → Spot → Lexeme
token k p = record { kind = k; start = p.start; end = p.end; text = p.text }

abbrev pub spot_of : Lexeme → Spot
spot_of t = record { start = t.start; end = t.end; text = t.text }

-- an operand goes on so far here
abbrev pub follow_set_at : StartSymbol → List Frame → Operand → FollowSet
follow_set_at w st m = cond m.is_if follow_set.If (edge w st)

-- what a token behind an operand makes of the state
abbrev pub having : StartSymbol → List ℕ → List Frame → PendingOperators → Operand → Lexeme → Option State
having w src st lv m t = had src st lv m (follow_set_at w st m) (follow_class t.kind) (extent_of t)

-- to stand at an operand: what follows, or the end, reads it as the last one
pub record StandsAt {src : List ℕ} (c : Setting src) (st : List Frame) (lv : PendingOperators) (md : OperandMode) (m : Operand) : Type 0 where
  pub behind : (t : Lexeme) → joins_words t.kind ≡ false → steps_to c (state st lv md) t ≡ having c.symbol src st lv m t
  pub ends : last_operand src c.names [] md ≡ Some m

-- how far it goes on is the same of the shapes of the brackets
pub same_follow_set : {src : List ℕ} (c : Setting src) (st : List Frame) (lv : PendingOperators) (m : Operand) (t : Lexeme) →
    had src st lv m (cond m.is_if follow_set.If (edge c.symbol (stack_shape st))) (follow_class t.kind) (extent_of t) ≡ having c.symbol src st lv m t
same_follow_set {src = src} c st lv m t = ap (λ r. had src st lv m (cond m.is_if follow_set.If r) (follow_class t.kind) (extent_of t)) (sym (edge_shape c.symbol st))

follows : (src : List ℕ) (st : List Frame) (lv : PendingOperators) (m : Operand) (t : Lexeme) (b : Bool) (o : FollowClass) → planned (option_image (λ o. act.Follow o) (if_follows b o)) (λ a. have_act src st lv m a t) ≡ cond b (follow_act src st lv m o (extent_of t)) None
follows src st lv m t true o = refl
follows src st lv m t false o = refl

pub stands : {src : List ℕ} (c : Setting src) (st : List Frame) (lv : PendingOperators) (m : Operand) → StandsAt c st lv (mode.Have m None) m
stands {src = src} c st lv m = record {
  behind = λ t e. follows src st lv m t (may_follow (stack_shape st) (relation_shape lv.relation) (cond m.is_if follow_set.If (edge c.symbol (stack_shape st))) (follow_class t.kind)) (follow_class t.kind) ∙ same_follow_set c st lv m t;
  ends = refl;
}

pub met : {src : List ℕ} (c : Setting src) (st : List Frame) (lv : PendingOperators) (md : OperandMode) (m : Operand) (k : TokenKind) (p : Spot) → StandsAt c st lv md m → joins_words k ≡ false →
    run c (Some (state st lv md)) (one k p) ≡ having c.symbol src st lv m (token k p)
met c st lv md m k p h e = h.behind (token k p) e

-- how far an operand goes on

-- by products and sums
pub data Sums : FollowSet → Type 0 where
  a_sum : Sums follow_set.Sum
  a_whole : Sums follow_set.Whole

-- by `&&` and `||`
pub data Joins : FollowSet → Type 0 where
  an_if : Joins follow_set.If
  all_joins : Joins follow_set.Whole

-- by accesses
pub data Accesses : FollowSet → Type 0 where
  if_accessed : Accesses follow_set.If
  sum_accessed : Accesses follow_set.Sum
  all_accessed : Accesses follow_set.Whole

pub sums_accessed : {r : FollowSet} → Sums r → Accesses r
sums_accessed a_sum = sum_accessed
sums_accessed a_whole = all_accessed

pub follow_set_at_edge : {src : List ℕ} (c : Setting src) (st : List Frame) (m : Operand) → m.is_if ≡ false → follow_set_at c.symbol st m ≡ edge c.symbol st
follow_set_at_edge c st m e = ap (λ b. cond b follow_set.If (edge c.symbol st)) e

-- places

-- no sign stands there
abbrev pub is_alone : OperandPlace → Bool
is_alone place.Primary = true
is_alone _ = false

-- `if` begins a conditional there
abbrev pub is_first : OperandPlace → Bool
is_first place.Expr = true
is_first place.Item = true
is_first place.Key = true
is_first _ = false

pub not_alone : (pl : OperandPlace) → is_first pl ≡ true → is_alone pl ≡ false
not_alone place.Expr e = refl
not_alone place.Item e = refl
not_alone place.Key e = refl
not_alone place.Has e = refl
not_alone place.Operand e = refl
not_alone place.Primary e = sym e
