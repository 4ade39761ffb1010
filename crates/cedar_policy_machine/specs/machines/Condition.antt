-- How a condition is read: a word, and an expression in braces, or none (`ReadsCond` of
-- `LoosePolicies`), over any reader of expressions.
use Rattle.std.specs.Prelude.{◌≡◌, ℕ, List, Bool, true, false, IsTrue, Option, Some, None}
use Rattle.cedar_lexer.specs.Token.{Lexeme}
use Rattle.cedar_lexer.specs.declared.token.TokenKind.{TokenKind}
use Rattle.cedar_lexer.specs.declared.token.TokenKind.TheVariants as kind
use Rattle.cedar_syntax.specs.declared.cst.Expr.{Expr}
use Rattle.cedar_syntax.specs.declared.cst.Ident.{Ident}
use Rattle.cedar_syntax.specs.declared.cst.Cond.{Cond}
use Rattle.cedar_policy_machine.specs.declared.condition.ConditionState.{ConditionState}
use Rattle.cedar_policy_machine.specs.declared.condition.ConditionPart.{ConditionPart}
use Rattle.cedar_policy_machine.specs.declared.condition.ConditionPart.TheVariants as part
use Rattle.cedar_policy_machine.specs.declared.condition.ConditionAct.{ConditionAct}
use Rattle.cedar_policy_machine.specs.declared.condition.ConditionAct.TheVariants as act
use Rattle.cedar_syntax.specs.trees.Trees.{Cell, cond_of}
use Rattle.cedar_grammar.specs.machines.Machine.{Machine, Reader, machine_of, option_image}
use Rattle.cedar_policy_machine.specs.machines.Annotation.{any_node}
use Rattle.cedar_grammar.specs.machines.SingleTokens.{if_any}

-- the word, and what stands behind it
abbrev pub condition_state : {E : Type 0} → Cell Ident → ConditionPart E → ConditionState E
condition_state i p = record { word = i; part = p }

-- ---- plans, by the part that is begun, for any plan of the body

-- `{` behind the word
abbrev pub brace_plan : {C : Type 0} → TokenKind → Option (ConditionAct C)
brace_plan kind.OpenBrace = Some act.Open
brace_plan _ = None

-- braces may be empty
abbrev pub empty_plan : {C : Type 0} → TokenKind → Option (ConditionAct C)
empty_plan kind.CloseBrace = Some act.CloseEmpty
empty_plan _ = None

-- behind `{`: the body's first token, or what closes an empty one
abbrev pub opened_plan : {C : Type 0} → Option C → TokenKind → Option (ConditionAct C)
opened_plan (Some a) k = Some (act.First a)
opened_plan None k = empty_plan k

-- behind a body that can end
abbrev pub close_plan : {C : Type 0} → TokenKind → Option (ConditionAct C)
close_plan kind.CloseBrace = Some act.Close
close_plan _ = None

-- in the body; `b` says whether it can end
abbrev pub body_plan : {C : Type 0} → Option C → Bool → TokenKind → Option (ConditionAct C)
body_plan (Some a) b k = Some (act.Body a)
body_plan None true k = close_plan k
body_plan None false k = None

-- what the body does with a first token and with each further one, and whether it can end
abbrev pub condition_plan : {E C : Type 0} → (TokenKind → Option C) → (E → TokenKind → Option C) →
    (E → Bool) → ConditionPart E → TokenKind → Option (ConditionAct C)
condition_plan first on ends part.Start k = if_any k act.Word
condition_plan first on ends part.Word k = brace_plan k
condition_plan first on ends part.Opened k = opened_plan (first k) k
condition_plan first on ends (part.Body s) k = body_plan (on s k) (ends s) k
condition_plan first on ends (part.Closed x) k = None

-- ---- acts; of a part where one isn't planned nothing is said

-- a token of the body, whose state that makes
abbrev pub body_going : {E : Type 0} → ConditionState E → Option E → Option (ConditionState E)
body_going s o = option_image (λ q. condition_state s.word (part.Body q)) o

-- of the body that is begun
abbrev pub in_body : {E C : Type 0} → List ℕ → Reader E C (Cell Expr) → ConditionState E →
    ConditionPart E → C → Lexeme → Option (ConditionState E)
in_body src e s (part.Body q) a t = body_going s (e.act src q a t)
in_body src e s _ a t = None

-- the body has ended
abbrev pub behind_body : {E C : Type 0} → List ℕ → Reader E C (Cell Expr) → ConditionState E →
    ConditionPart E → Option (ConditionState E)
behind_body src e s (part.Body q) =
    Some (condition_state s.word (part.Closed (e.finish src q)))
behind_body src e s _ = None

-- what each act makes
abbrev pub condition_act : {E C : Type 0} → Reader E C (Cell Expr) → List ℕ → ConditionState E →
    ConditionAct C → Lexeme → Option (ConditionState E)
condition_act e src s act.Word t = option_image (λ i. condition_state i part.Word) (any_node src t)
condition_act e src s act.Open t = Some (condition_state s.word part.Opened)
condition_act e src s (act.First a) t = body_going s (e.act src e.start a t)
condition_act e src s (act.Body a) t = in_body src e s s.part a t
condition_act e src s act.Close t = behind_body src e s s.part
condition_act e src s act.CloseEmpty t = Some (condition_state s.word (part.Closed None))

-- ---- the tree

-- behind `}` alone
abbrev pub condition_ends : {E : Type 0} → ConditionPart E → Bool
condition_ends part.Start = false
condition_ends part.Word = false
condition_ends part.Opened = false
condition_ends (part.Body s) = false
condition_ends (part.Closed x) = true

abbrev pub finished_condition : {E : Type 0} → Cell Ident → ConditionPart E → Option Cond
finished_condition i part.Start = None
finished_condition i part.Word = None
finished_condition i part.Opened = None
finished_condition i (part.Body s) = None
finished_condition i (part.Closed x) = Some (cond_of i x)

abbrev pub condition_finish : {E : Type 0} → ConditionState E → Option Cond
condition_finish s = finished_condition s.word s.part

-- the reader, and its machine

abbrev pub condition_reader : {E C : Type 0} → Reader E C (Cell Expr) →
    Reader (ConditionState E) (ConditionAct C) Cond
condition_reader e = record {
  start = condition_state record { node = None; loc = None } part.Start;
  plan = λ s k. condition_plan (λ k. e.plan e.start k) e.plan e.ends s.part k;
  act = λ src s a t. condition_act e src s a t;
  ends = λ s. condition_ends s.part;
  finish = λ src s. condition_finish s;
}

abbrev pub conditions : {E C : Type 0} → List ℕ → Reader E C (Cell Expr) →
    Machine Lexeme (ConditionState E) Cond
conditions src e = machine_of src (condition_reader e)

-- ---- what the code asks of a state

-- a body is begun, and this is planned with a token of this kind
abbrev pub IsBodyPlan : {E C : Type 0} → (E → TokenKind → Option C) → ConditionPart E → TokenKind →
    C → Type 0
IsBodyPlan on part.Start k a = ⊥
IsBodyPlan on part.Word k a = ⊥
IsBodyPlan on part.Opened k a = ⊥
IsBodyPlan on (part.Body s) k a = on s k ≡ Some a
IsBodyPlan on (part.Closed x) k a = ⊥

-- a body is begun, and can end
abbrev pub HasBody : {E : Type 0} → (E → Bool) → ConditionPart E → Type 0
HasBody ends part.Start = ⊥
HasBody ends part.Word = ⊥
HasBody ends part.Opened = ⊥
HasBody ends (part.Body s) = IsTrue (ends s)
HasBody ends (part.Closed x) = ⊥
