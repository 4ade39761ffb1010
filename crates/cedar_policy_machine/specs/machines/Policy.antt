-- How a policy is read (`ReadsPolicy` in `LoosePolicies`), over readers of its annotations, its
-- scope and its conditions, which are sequences.
use Rattle.std.specs.Prelude.{ℕ, List, [], Bool, true, false, Option, Some, None}
use Rattle.cedar_lexer.specs.Token.{Lexeme}
use Rattle.cedar_lexer.specs.declared.token.TokenKind.{TokenKind}
use Rattle.cedar_lexer.specs.declared.token.TokenKind.TheVariants as kind
use Rattle.cedar_syntax.specs.declared.cst.Ident.{Ident}
use Rattle.cedar_syntax.specs.declared.cst.Annotation.{Annotation}
use Rattle.cedar_syntax.specs.declared.cst.VariableDef.{VariableDef}
use Rattle.cedar_syntax.specs.declared.cst.Cond.{Cond}
use Rattle.cedar_syntax.specs.declared.cst.Policy.{Policy}
use Rattle.cedar_policy_machine.specs.declared.policy.PolicyState.{PolicyState}
use Rattle.cedar_policy_machine.specs.declared.policy.Section.{Section}
use Rattle.cedar_policy_machine.specs.declared.policy.Section.TheVariants as section
use Rattle.cedar_policy_machine.specs.declared.policy.PolicyAct.{PolicyAct}
use Rattle.cedar_policy_machine.specs.declared.policy.PolicyAct.TheVariants as act
use Rattle.cedar_policy_machine.specs.declared.sequence.Sequence.{Sequence}
use Rattle.cedar_syntax.specs.tokens.Tokens.{any_of}
use Rattle.cedar_syntax.specs.trees.Trees.{Cell, policy_of}
use Rattle.cedar_grammar.specs.machines.Machine.{Machine, Reader, machine_of, option_image, is_some}
use Rattle.cedar_policy_machine.specs.machines.Annotation.{any_node}
use Rattle.cedar_policy_machine.specs.machines.Sequences.{sequence}
use Rattle.cedar_grammar.specs.machines.SingleTokens.{if_any}

-- a policy over the states of one annotation, one element and one condition
abbrev pub PolicyOf : Type 0 → Type 0 → Type 0 → Type 0
PolicyOf A V C =
    PolicyState (Sequence A (Cell Annotation)) (Sequence V (Cell VariableDef))
    (Sequence C (Cell Cond))

abbrev pub policy_state : {A V C : Type 0} → Section → A → Cell Ident → V → C →
    PolicyState A V C
policy_state n a i v c =
    record { section = n; annotations = a; effect = i; scope = v; conditions = c }

-- one of the words, or an identifier, whatever its text
abbrev pub is_word : TokenKind → Bool
is_word k = is_some (any_of k [])

-- the readers of the parts, whose acts are `X`, `Y` and `Z`
pub record Sections (A V C X Y Z : Type 0) : Type 0 where
  pub annotations : Reader (Sequence A (Cell Annotation)) X (List (Cell Annotation))
  pub scope : Reader (Sequence V (Cell VariableDef)) Y (List (Cell VariableDef))
  pub conditions : Reader (Sequence C (Cell Cond)) Z (List (Cell Cond))

-- ---- plans, for any plans of the parts; `b` says whether a part can end

abbrev pub annotations_plan : {X Y Z : Type 0} → Option X → Bool → TokenKind →
    Option (PolicyAct X Y Z)
annotations_plan (Some a) b k = Some (act.Annotation a)
annotations_plan None true k = if_any k act.Effect
annotations_plan None false k = None

abbrev pub open_plan : {X Y Z : Type 0} → TokenKind → Option (PolicyAct X Y Z)
open_plan kind.OpenParen = Some act.Open
open_plan _ = None

abbrev pub close_plan : {X Y Z : Type 0} → TokenKind → Option (PolicyAct X Y Z)
close_plan kind.CloseParen = Some act.Close
close_plan _ = None

abbrev pub scope_plan : {X Y Z : Type 0} → Option Y → Bool → TokenKind → Option (PolicyAct X Y Z)
scope_plan (Some a) b k = Some (act.Element a)
scope_plan None true k = close_plan k
scope_plan None false k = None

abbrev pub shut_plan : {X Y Z : Type 0} → TokenKind → Option (PolicyAct X Y Z)
shut_plan kind.Semicolon = Some act.Shut
shut_plan _ = None

abbrev pub conditions_plan : {X Y Z : Type 0} → Option Z → Bool → TokenKind →
    Option (PolicyAct X Y Z)
conditions_plan (Some a) b k = Some (act.Condition a)
conditions_plan None true k = shut_plan k
conditions_plan None false k = None

abbrev pub policy_plan : {A V C X Y Z : Type 0} → Sections A V C X Y Z → Section →
    PolicyOf A V C → TokenKind → Option (PolicyAct X Y Z)
policy_plan m section.Annotations s k =
    annotations_plan (m.annotations.plan s.annotations k) (m.annotations.ends s.annotations) k
policy_plan m section.Effect s k = open_plan k
policy_plan m section.Scope s k = scope_plan (m.scope.plan s.scope k) (m.scope.ends s.scope) k
policy_plan m section.Conditions s k =
    conditions_plan (m.conditions.plan s.conditions k) (m.conditions.ends s.conditions) k
policy_plan m section.Closed s k = None

-- ---- acts; of a state where one isn't planned nothing is said

-- the parts are put where they stay

abbrev pub with_annotations : {A V C : Type 0} → PolicyOf A V C → Sequence A (Cell Annotation) →
    PolicyOf A V C
with_annotations s q = policy_state s.section q s.effect s.scope s.conditions

abbrev pub with_scope : {A V C : Type 0} → PolicyOf A V C → Sequence V (Cell VariableDef) →
    PolicyOf A V C
with_scope s q = policy_state s.section s.annotations s.effect q s.conditions

abbrev pub with_conditions : {A V C : Type 0} → PolicyOf A V C → Sequence C (Cell Cond) →
    PolicyOf A V C
with_conditions s q = policy_state s.section s.annotations s.effect s.scope q

-- behind the annotations and the effect, behind `)` and behind `;`

abbrev pub behind_effect : {A V C : Type 0} → PolicyOf A V C → List (Cell Annotation) →
    Cell Ident → PolicyOf A V C
behind_effect s xs i = policy_state section.Effect (sequence xs None) i s.scope s.conditions

abbrev pub behind_scope : {A V C : Type 0} → PolicyOf A V C → List (Cell VariableDef) →
    PolicyOf A V C
behind_scope s ys =
    policy_state section.Conditions s.annotations s.effect (sequence ys None) s.conditions

abbrev pub behind_conditions : {A V C : Type 0} → PolicyOf A V C → List (Cell Cond) →
    PolicyOf A V C
behind_conditions s zs =
    policy_state section.Closed s.annotations s.effect s.scope (sequence zs None)

abbrev pub effect_read : {A V C : Type 0} → PolicyOf A V C → Option (List (Cell Annotation)) →
    Option (Cell Ident) → Option (PolicyOf A V C)
effect_read s None o = None
effect_read s (Some xs) o = option_image (λ i. behind_effect s xs i) o

abbrev pub policy_act : {A V C X Y Z : Type 0} → Sections A V C X Y Z → List ℕ →
    PolicyOf A V C → PolicyAct X Y Z → Lexeme → Option (PolicyOf A V C)
policy_act m src s (act.Annotation a) t =
    option_image (λ q. with_annotations s q) (m.annotations.act src s.annotations a t)
policy_act m src s act.Effect t =
    effect_read s (m.annotations.finish src s.annotations) (any_node src t)
policy_act m src s act.Open t =
    Some (policy_state section.Scope s.annotations s.effect s.scope s.conditions)
policy_act m src s (act.Element a) t =
    option_image (λ q. with_scope s q) (m.scope.act src s.scope a t)
policy_act m src s act.Close t =
    option_image (λ ys. behind_scope s ys) (m.scope.finish src s.scope)
policy_act m src s (act.Condition a) t =
    option_image (λ q. with_conditions s q) (m.conditions.act src s.conditions a t)
policy_act m src s act.Shut t =
    option_image (λ zs. behind_conditions s zs) (m.conditions.finish src s.conditions)

-- ---- the tree

abbrev pub policy_ends : Section → Bool
policy_ends section.Annotations = false
policy_ends section.Effect = false
policy_ends section.Scope = false
policy_ends section.Conditions = false
policy_ends section.Closed = true

abbrev pub finished_policy : {A V C : Type 0} → Section → PolicyOf A V C → Option Policy
finished_policy section.Annotations s = None
finished_policy section.Effect s = None
finished_policy section.Scope s = None
finished_policy section.Conditions s = None
finished_policy section.Closed s =
    Some (policy_of s.annotations.done s.effect s.scope.done s.conditions.done)

abbrev pub policy_finish : {A V C : Type 0} → PolicyOf A V C → Option Policy
policy_finish s = finished_policy s.section s

abbrev pub policy_reader : {A V C X Y Z : Type 0} → Sections A V C X Y Z →
    Reader (PolicyOf A V C) (PolicyAct X Y Z) Policy
policy_reader m = record {
  start =
      policy_state section.Annotations m.annotations.start record { node = None; loc = None }
      m.scope.start m.conditions.start;
  plan = λ s k. policy_plan m s.section s k;
  act = λ src s a t. policy_act m src s a t;
  ends = λ s. policy_ends s.section;
  finish = λ src s. policy_finish s;
}

abbrev pub policies : {A V C X Y Z : Type 0} → List ℕ → Sections A V C X Y Z →
    Machine Lexeme (PolicyOf A V C) Policy
policies src m = machine_of src (policy_reader m)
