-- How an element of the scope is read: a variable, and possibly a type name, an entity type and a
-- constraint (`ReadsVariableDef` of `LoosePolicies`), over any readers of names, sums and
-- expressions.
use Rattle.std.specs.Prelude.{ℕ, List, Bool, true, false, IsTrue, Option, Some, None}
use Rattle.cedar_lexer.specs.Token.{Lexeme}
use Rattle.cedar_lexer.specs.declared.token.TokenKind.{TokenKind}
use Rattle.cedar_lexer.specs.declared.token.TokenKind.TheVariants as kind
use Rattle.cedar_syntax.specs.declared.cst.RelOp.{RelOp}
use Rattle.cedar_syntax.specs.declared.cst.Expr.{Expr}
use Rattle.cedar_syntax.specs.declared.cst.Add.{Add}
use Rattle.cedar_syntax.specs.declared.cst.Ident.{Ident}
use Rattle.cedar_syntax.specs.declared.cst.Name.{Name}
use Rattle.cedar_syntax.specs.declared.cst.VariableDef.{VariableDef}
use Rattle.cedar_policy_machine.specs.declared.scope.ElementState.{ElementState}
use Rattle.cedar_policy_machine.specs.declared.scope.ElementPart.{ElementPart}
use Rattle.cedar_policy_machine.specs.declared.scope.ElementPart.TheVariants as part
use Rattle.cedar_policy_machine.specs.declared.scope.ElementAct.{ElementAct}
use Rattle.cedar_policy_machine.specs.declared.scope.ElementAct.TheVariants as act
use Rattle.cedar_syntax.specs.trees.Trees.{Cell, variable_def_of}
use Rattle.cedar_grammar.specs.machines.Machine.{Machine, Reader, machine_of, option_image}
use Rattle.cedar_grammar.specs.machines.Marks.{relation_of}
use Rattle.cedar_policy_machine.specs.machines.Annotation.{any_node}
use Rattle.cedar_grammar.specs.machines.SingleTokens.{if_any}

-- the readers of the parts, whose acts are `A`, `B` and `C`
pub record PartReaders (N S E A B C : Type 0) : Type 0 where
  pub name : Reader N A (Cell Name)
  pub sum : Reader S B (Cell Add)
  pub expression : Reader E C (Cell Expr)

abbrev pub readers_of : {N S E A B C : Type 0} → Reader N A (Cell Name) → Reader S B (Cell Add) →
    Reader E C (Cell Expr) → PartReaders N S E A B C
readers_of n s e = record { name = n; sum = s; expression = e }

-- what has been read, and the part that is begun
abbrev pub element_state : {N S E : Type 0} → Cell Ident → Option (Cell Name) → Option (Cell Add) →
    ElementPart N S E → ElementState N S E
element_state i x y p =
    record { variable = i; unused_type_name = x; entity_type = y; part = p }

-- the same, with another part begun
abbrev pub element_with_part : {N S E : Type 0} → ElementState N S E → ElementPart N S E →
    ElementState N S E
element_with_part s p = element_state s.variable s.unused_type_name s.entity_type p

-- ---- plans, by the part that is begun, for any plans of the parts

-- an operator, behind all that may stand before one
abbrev pub compare_plan : {A B C : Type 0} → TokenKind → Option (ElementAct A B C)
compare_plan k = option_image (λ o. act.Compare o) (relation_of k)

-- `is` or an operator
abbrev pub narrow_plan : {A B C : Type 0} → TokenKind → Option (ElementAct A B C)
narrow_plan kind.Is = Some act.Is
narrow_plan k = compare_plan k

-- `:`, `is` or an operator
abbrev pub bare_plan : {A B C : Type 0} → TokenKind → Option (ElementAct A B C)
bare_plan kind.Colon = Some act.Colon
bare_plan k = narrow_plan k

-- in a part; `b` says whether it can end
abbrev pub type_name_plan : {A B C : Type 0} → Option A → Bool → TokenKind →
    Option (ElementAct A B C)
type_name_plan (Some a) b k = Some (act.TypeName a)
type_name_plan None true k = narrow_plan k
type_name_plan None false k = None

-- behind an entity type only an operator stands
abbrev pub entity_type_plan : {A B C : Type 0} → Option B → Bool → TokenKind →
    Option (ElementAct A B C)
entity_type_plan (Some a) b k = Some (act.EntityType a)
entity_type_plan None true k = compare_plan k
entity_type_plan None false k = None

-- and nothing behind a constraint
abbrev pub constraint_plan : {A B C : Type 0} → Option C → Option (ElementAct A B C)
constraint_plan o = option_image (λ a. act.Constraint a) o

-- what the parts do with a token, and whether they can end
pub record PartPlans (N S E A B C : Type 0) : Type 0 where
  pub name : N → TokenKind → Option A
  pub name_ends : N → Bool
  pub sum : S → TokenKind → Option B
  pub sum_ends : S → Bool
  pub expression : E → TokenKind → Option C
  pub expression_ends : E → Bool

abbrev pub reader_plans : {N S E A B C : Type 0} → PartReaders N S E A B C →
    PartPlans N S E A B C
reader_plans m = record {
  name = m.name.plan;
  name_ends = m.name.ends;
  sum = m.sum.plan;
  sum_ends = m.sum.ends;
  expression = m.expression.plan;
  expression_ends = m.expression.ends;
}

-- by the part that is begun
abbrev pub element_plan : {N S E A B C : Type 0} → PartPlans N S E A B C → ElementPart N S E →
    TokenKind → Option (ElementAct A B C)
element_plan p part.Start k = if_any k act.Variable
element_plan p part.Nothing k = bare_plan k
element_plan p (part.TypeName s) k = type_name_plan (p.name s k) (p.name_ends s) k
element_plan p (part.EntityType s) k = entity_type_plan (p.sum s k) (p.sum_ends s) k
element_plan p (part.Constraint o s) k = constraint_plan (p.expression s k)

-- a variable alone can end, and else the part that is begun
abbrev pub element_ends : {N S E A B C : Type 0} → PartPlans N S E A B C → ElementPart N S E → Bool
element_ends p part.Start = false
element_ends p part.Nothing = true
element_ends p (part.TypeName s) = p.name_ends s
element_ends p (part.EntityType s) = p.sum_ends s
element_ends p (part.Constraint o s) = p.expression_ends s

-- ---- acts; of a part where one isn't planned nothing is said

-- this part begins; a type name or an entity type that has ended is put where it stays
abbrev pub behind_part : {N S E A B C : Type 0} → List ℕ → PartReaders N S E A B C →
    ElementState N S E → ElementPart N S E → ElementPart N S E → ElementState N S E
behind_part src m s part.Start u = element_with_part s u
behind_part src m s part.Nothing u = element_with_part s u
behind_part src m s (part.TypeName q) u =
    element_state s.variable (m.name.finish src q) s.entity_type u
behind_part src m s (part.EntityType q) u =
    element_state s.variable s.unused_type_name (m.sum.finish src q) u
behind_part src m s (part.Constraint o q) u = element_with_part s u

-- a token of the part that is begun

abbrev pub in_name : {N S E A : Type 0} → List ℕ → Reader N A (Cell Name) → ElementPart N S E → A →
    Lexeme → Option (ElementPart N S E)
in_name src m (part.TypeName q) a t = option_image (λ q. part.TypeName q) (m.act src q a t)
in_name src m _ a t = None

abbrev pub in_sum : {N S E B : Type 0} → List ℕ → Reader S B (Cell Add) → ElementPart N S E → B →
    Lexeme → Option (ElementPart N S E)
in_sum src m (part.EntityType q) a t = option_image (λ q. part.EntityType q) (m.act src q a t)
in_sum src m _ a t = None

abbrev pub in_expression : {N S E C : Type 0} → List ℕ → Reader E C (Cell Expr) →
    ElementPart N S E → C → Lexeme → Option (ElementPart N S E)
in_expression src m (part.Constraint o q) a t =
    option_image (λ q. part.Constraint o q) (m.act src q a t)
in_expression src m _ a t = None

-- the part that is begun goes on
abbrev pub going_on : {N S E : Type 0} → ElementState N S E → Option (ElementPart N S E) →
    Option (ElementState N S E)
going_on s o = option_image (λ p. element_with_part s p) o

-- the variable
abbrev pub with_variable : {N S E : Type 0} → ElementState N S E → Cell Ident → ElementState N S E
with_variable s i = element_state i s.unused_type_name s.entity_type part.Nothing

-- an entity type or a constraint begins, behind a part that ends
abbrev pub sum_beginning : {N S E A B C : Type 0} → List ℕ → PartReaders N S E A B C →
    ElementState N S E → ElementState N S E
sum_beginning src m s = behind_part src m s s.part (part.EntityType m.sum.start)

abbrev pub constraint_beginning : {N S E A B C : Type 0} → List ℕ → PartReaders N S E A B C →
    ElementState N S E → RelOp → ElementState N S E
constraint_beginning src m s o =
    behind_part src m s s.part (part.Constraint o m.expression.start)

-- what each act makes
abbrev pub element_act : {N S E A B C : Type 0} → PartReaders N S E A B C → List ℕ →
    ElementState N S E → ElementAct A B C → Lexeme → Option (ElementState N S E)
element_act m src s act.Variable t = option_image (λ i. with_variable s i) (any_node src t)
element_act m src s act.Colon t = Some (element_with_part s (part.TypeName m.name.start))
element_act m src s (act.TypeName a) t = going_on s (in_name src m.name s.part a t)
element_act m src s act.Is t = Some (sum_beginning src m s)
element_act m src s (act.EntityType a) t = going_on s (in_sum src m.sum s.part a t)
element_act m src s (act.Compare o) t = Some (constraint_beginning src m s o)
element_act m src s (act.Constraint a) t = going_on s (in_expression src m.expression s.part a t)

-- ---- the tree

abbrev pub with_type_name : {N S E : Type 0} → ElementState N S E → Option (Cell Name) →
    Option VariableDef
with_type_name s o = option_image (λ x. variable_def_of s.variable (Some x) s.entity_type None) o

abbrev pub with_entity_type : {N S E : Type 0} → ElementState N S E → Option (Cell Add) →
    Option VariableDef
with_entity_type s o =
    option_image (λ y. variable_def_of s.variable s.unused_type_name (Some y) None) o

abbrev pub with_constraint : {N S E : Type 0} → ElementState N S E → RelOp → Option (Cell Expr) →
    Option VariableDef
with_constraint s r o =
    option_image
    (λ z. variable_def_of s.variable s.unused_type_name s.entity_type (Some (r, z))) o

abbrev pub finished_element : {N S E A B C : Type 0} → List ℕ → PartReaders N S E A B C →
    ElementState N S E → ElementPart N S E → Option VariableDef
finished_element src m s part.Start = None
finished_element src m s part.Nothing =
    Some (variable_def_of s.variable s.unused_type_name s.entity_type None)
finished_element src m s (part.TypeName q) = with_type_name s (m.name.finish src q)
finished_element src m s (part.EntityType q) = with_entity_type s (m.sum.finish src q)
finished_element src m s (part.Constraint o q) = with_constraint s o (m.expression.finish src q)

abbrev pub element_finish : {N S E A B C : Type 0} → PartReaders N S E A B C → List ℕ →
    ElementState N S E → Option VariableDef
element_finish m src s = finished_element src m s s.part

-- the reader, and its machine

abbrev pub element_reader : {N S E A B C : Type 0} → PartReaders N S E A B C →
    Reader (ElementState N S E) (ElementAct A B C) VariableDef
element_reader m = record {
  start = element_state record { node = None; loc = None } None None part.Start;
  plan = λ s k. element_plan (reader_plans m) s.part k;
  act = λ src s a t. element_act m src s a t;
  ends = λ s. element_ends (reader_plans m) s.part;
  finish = λ src s. element_finish m src s;
}

abbrev pub elements : {N S E A B C : Type 0} → List ℕ → PartReaders N S E A B C →
    Machine Lexeme (ElementState N S E) VariableDef
elements src m = machine_of src (element_reader m)

-- ---- what the code asks of a state

-- the variable is there, and a type name or an entity type that is begun can end
abbrev pub MayLeave : {N S E A B C : Type 0} → PartPlans N S E A B C → ElementPart N S E → Type 0
MayLeave p part.Start = ⊥
MayLeave p part.Nothing = Unit {0}
MayLeave p (part.TypeName s) = IsTrue (p.name_ends s)
MayLeave p (part.EntityType s) = IsTrue (p.sum_ends s)
MayLeave p (part.Constraint o s) = ⊥
