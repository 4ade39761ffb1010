-- The machine of expressions behind an operand: operators, accesses, and what ends an expression
-- in brackets.
use Rattle.std.specs.Prelude.{ℕ, List, [], ◌∷◌, ◌++◌, Option, Some, None}
use Rattle.cedar_expressions.specs.declared.operators.AddOp.{AddOp}
use Rattle.cedar_syntax.specs.declared.cst.Expr.{Expr}
use Rattle.cedar_syntax.specs.declared.cst.RelOp.{RelOp}
use Rattle.cedar_syntax.specs.declared.cst.RelOp.TheVariants as rel
use Rattle.cedar_syntax.specs.declared.cst.Add.{Add}
use Rattle.cedar_syntax.specs.declared.cst.MultOp.{MultOp}
use Rattle.cedar_syntax.specs.declared.cst.MemAccess.TheVariants as access
use Rattle.cedar_syntax.specs.declared.cst.Primary.TheVariants as primary
use Rattle.cedar_syntax.specs.declared.cst.Ident.{Ident}
use Rattle.cedar_grammar.specs.declared.reading.class.Closing.{Closing}
use Rattle.cedar_grammar.specs.declared.reading.class.Closing.TheVariants as closing
use Rattle.cedar_grammar.specs.declared.reading.class.AccessStart.{AccessStart}
use Rattle.cedar_grammar.specs.declared.reading.class.AccessStart.TheVariants as opens
use Rattle.cedar_grammar.specs.declared.reading.class.SideWord.{SideWord}
use Rattle.cedar_grammar.specs.declared.reading.class.SideWord.TheVariants as side
use Rattle.cedar_grammar.specs.declared.reading.class.FollowClass.{FollowClass}
use Rattle.cedar_grammar.specs.declared.reading.class.FollowClass.TheVariants as operator
use Rattle.cedar_expression_machine.specs.declared.expression.state.Spanned.{Spanned}
use Rattle.cedar_expression_machine.specs.declared.expression.state.Branch.{Branch}
use Rattle.cedar_expression_machine.specs.declared.expression.state.PendingRelation.{PendingRelation}
use Rattle.cedar_expression_machine.specs.declared.expression.state.PendingRelation.TheVariants as left
use Rattle.cedar_expression_machine.specs.declared.expression.state.PendingOperators.{PendingOperators}
use Rattle.cedar_expression_machine.specs.declared.expression.state.Operand.{Operand}
use Rattle.cedar_expression_machine.specs.declared.expression.state.Paren.{Paren}
use Rattle.cedar_expression_machine.specs.declared.expression.state.Set.{Set}
use Rattle.cedar_expression_machine.specs.declared.expression.state.Call.{Call}
use Rattle.cedar_expression_machine.specs.declared.expression.state.Index.{Index}
use Rattle.cedar_expression_machine.specs.declared.expression.state.Record.{Record}
use Rattle.cedar_expression_machine.specs.declared.expression.state.Key.{Key}
use Rattle.cedar_expression_machine.specs.declared.expression.state.Guard.{Guard}
use Rattle.cedar_expression_machine.specs.declared.expression.state.Then.{Then}
use Rattle.cedar_expression_machine.specs.declared.expression.state.Frame.{Frame}
use Rattle.cedar_expression_machine.specs.declared.expression.state.Frame.TheVariants as frame
use Rattle.cedar_expression_machine.specs.declared.expression.state.OperandPlace.{OperandPlace}
use Rattle.cedar_expression_machine.specs.declared.expression.state.OperandPlace.TheVariants as place
use Rattle.cedar_expression_machine.specs.declared.expression.state.OperandMode.TheVariants as mode
use Rattle.cedar_expression_machine.specs.declared.expression.state.State.{State}
use Rattle.cedar_grammar.specs.declared.reading.extent.Extent.{Extent}
use Rattle.cedar_grammar.specs.grammar.Place.{joint_extent, node_at}
use Rattle.cedar_syntax.specs.trees.Trees.{Cell, rec_init_of}
use Rattle.cedar_expression_machine.specs.machines.Closing.{spanned_tree, node_of, plain_chain, marked_chain, onward, pending, unary_at, mult_at, add_at, relation_at, and_at, whole, levels_of, with_access}
use Rattle.cedar_expression_machine.specs.machines.ExpressionStates.{state, wants, opening, going_on, has_operand, has_primary, around}
use Rattle.cedar_expression_machine.specs.machines.Wanting.{set_with, record_with, set_closing, record_closing, call_closing}

-- behind an operand: operators

abbrev pub product_beginning : List ℕ → List Frame → PendingOperators → Operand → MultOp → Extent
    → State
product_beginning src st lv m o e =
    going_on st (levels_of lv.branches lv.or lv.and lv.relation lv.add
    (Some (pending (marked_chain src lv.mult (unary_at src m)) o e)))

abbrev pub sum_beginning : List ℕ → List Frame → PendingOperators → Operand → AddOp → Extent
    → State
sum_beginning src st lv m o e =
    going_on st (levels_of lv.branches lv.or lv.and lv.relation
    (Some (pending (marked_chain src lv.add (mult_at src lv m)) o e)) None)

abbrev pub left_beginning : List Frame → PendingOperators → PendingRelation → OperandPlace → State
left_beginning st lv l p =
    state st (levels_of lv.branches lv.or lv.and (Some l) None None) (wants p)

-- a left side and the word behind it
abbrev pub before : List ℕ → Spanned Add → Extent → Spanned (Cell Add)
before src x e = spanned_tree (joint_extent x.extent (Some e)) (node_of src x)

-- `in` behind `is` and its type
abbrev pub is_within : List ℕ → List Frame → PendingOperators → Spanned (Cell Add) → Spanned Add
    → RelOp → Extent → Option State
is_within src st lv y x rel.In e = Some
    (left_beginning st lv (left.IsIn y.tree (node_of src x)
    (joint_extent (joint_extent y.extent x.extent) (Some e))) place.Operand)
is_within src st lv y x _ e = None

abbrev pub comparison_beginning : List ℕ → List Frame → PendingOperators → Option PendingRelation
    → Spanned Add → RelOp
    → Extent → Option State
comparison_beginning src st lv None x o e =
    Some (left_beginning st lv (left.Common (pending (marked_chain src None x) o e))
    place.Operand)
comparison_beginning src st lv (Some (left.Common p)) x o e =
    Some (left_beginning st lv
    (left.Common (pending (marked_chain src (Some p) x) o e)) place.Operand)
comparison_beginning src st lv (Some (left.Is y)) x o e = is_within src st lv y x o e
comparison_beginning src st lv (Some (left.Has y)) x o e = None
comparison_beginning src st lv (Some (left.Like y)) x o e = None
comparison_beginning src st lv (Some (left.IsIn y z l)) x o e = None

abbrev pub side_of : SideWord → Spanned (Cell Add) → PendingRelation
side_of side.Has y = left.Has y
side_of side.Like y = left.Like y
side_of side.Is y = left.Is y

abbrev pub side_place : SideWord → OperandPlace
side_place side.Has = place.Has
side_place side.Like = place.Operand
side_place side.Is = place.Operand

abbrev pub side_beginning : List ℕ → List Frame → PendingOperators → Option PendingRelation
    → Spanned Add → SideWord
    → Extent → Option State
side_beginning src st lv None x s e =
    Some (left_beginning st lv (side_of s (before src x e)) (side_place s))
side_beginning src st lv (Some l) x s e = None

abbrev pub conjunction_beginning : List ℕ → List Frame → PendingOperators → Operand → Extent
    → State
conjunction_beginning src st lv m e =
    going_on st (levels_of lv.branches lv.or (Some
    (onward (plain_chain src lv.and (relation_at src lv m)) e)) None None None)

abbrev pub disjunction_beginning : List ℕ → List Frame → PendingOperators → Operand → Extent
    → State
disjunction_beginning src st lv m e =
    going_on st (levels_of lv.branches
    (Some (onward (plain_chain src lv.or (and_at src lv m)) e)) None None None None)

-- accesses

abbrev pub access_beginning : List Frame → PendingOperators → Operand → AccessStart → Extent
    → State
access_beginning st lv m opens.Dot e = state st lv (mode.Have m (Some e))
access_beginning st lv m opens.Paren e =
    opening (frame.Call record {
      outer = lv;
      operand = m;
      opened = e;
      items = [];
    } ∷ st) [] place.Item
access_beginning st lv m opens.Bracket e =
    opening (frame.Index record { outer = lv; operand = m; opened = e } ∷ st) [] place.Expr

-- behind `.`
abbrev pub field_reading : List ℕ → List Frame → PendingOperators → Operand → Extent → Option Ident
    → Extent → Option State
field_reading src st lv m d None e = None
field_reading src st lv m d (Some i) e = Some
    (has_operand st lv (with_access src m (spanned_tree (around d e)
    (access.Field (node_at src (Some e) i)))))

-- what ends an expression inside of brackets

abbrev pub paren_ending : List ℕ → List Frame → Paren → Spanned Expr → Closing → Extent
    → Option State
paren_ending src st f x closing.Paren m = Some
    (has_primary src st f.outer f.signs (spanned_tree (around f.opened m)
    (primary.Expr (node_of src x))))
paren_ending src st f x _ m = None

abbrev pub set_more : List ℕ → Set → Spanned Expr → Set
set_more src f x = set_with f.outer f.signs f.opened (f.items ++ node_of src x ∷ [])

abbrev pub set_ending : List ℕ → List Frame → Set → Spanned Expr → Closing → Extent → Option State
set_ending src st f x closing.Comma m =
    Some (opening (frame.Set (set_more src f x) ∷ st) [] place.Item)
set_ending src st f x closing.Bracket m = Some (set_closing src st (set_more src f x) m)
set_ending src st f x _ m = None

abbrev pub call_more : List ℕ → Call → Spanned Expr → Call
call_more src f x = record {
  outer = f.outer;
  operand = f.operand;
  opened = f.opened;
  items = f.items ++ node_of src x ∷ [];
}

abbrev pub call_ending : List ℕ → List Frame → Call → Spanned Expr → Closing → Extent
    → Option State
call_ending src st f x closing.Comma m =
    Some (opening (frame.Call (call_more src f x) ∷ st) [] place.Item)
call_ending src st f x closing.Paren m = Some (call_closing src st (call_more src f x) m)
call_ending src st f x _ m = None

abbrev pub index_ending : List ℕ → List Frame → Index → Spanned Expr → Closing → Extent
    → Option State
index_ending src st f x closing.Bracket m = Some
    (has_operand st f.outer (with_access src f.operand
    (spanned_tree (around f.opened m) (access.Index (node_of src x)))))
index_ending src st f x _ m = None

-- a key and its colon: the value begins
abbrev pub value_beginning : List Frame → Record → Cell Expr → Option Extent → Extent → State
value_beginning st f x e m =
    opening (frame.Record (record_with f.outer f.signs f.opened f.items
    (Some record { node = x; extent = joint_extent e (Some m) })) ∷ st) [] place.Expr

abbrev pub key_ending : List ℕ → List Frame → Record → Spanned Expr → Closing → Extent
    → Option State
key_ending src st f x closing.Colon m = Some (value_beginning st f (node_of src x) x.extent m)
key_ending src st f x _ m = None

-- the value of a pair whose key this is: one pair more
abbrev pub record_more : List ℕ → Record → Key → Spanned Expr → Record
record_more src f k x = record_with f.outer f.signs f.opened
    (f.items ++ node_at src (joint_extent k.extent x.extent)
    (rec_init_of k.node (node_of src x)) ∷ []) None

abbrev pub value_ending : List ℕ → List Frame → Record → Key → Spanned Expr → Closing → Extent
    → Option State
value_ending src st f k x closing.Comma m =
    Some (opening (frame.Record (record_more src f k x) ∷ st) [] place.Key)
value_ending src st f k x closing.Brace m =
    Some (record_closing src st (record_more src f k x) m)
value_ending src st f k x _ m = None

abbrev pub record_ending : List ℕ → List Frame → Record → Option Key → Spanned Expr → Closing
    → Extent → Option State
record_ending src st f None x c m = key_ending src st f x c m
record_ending src st f (Some k) x c m = value_ending src st f k x c m

abbrev pub guard_ending : List ℕ → List Frame → Guard → Spanned Expr → Closing → Extent
    → Option State
guard_ending src st f x closing.Then m = Some
    (opening (frame.Then record {
      branches = f.branches;
      guard = node_of src x;
      extent = joint_extent (joint_extent f.opened x.extent) (Some m);
    } ∷ st) [] place.Expr)
guard_ending src st f x _ m = None

abbrev pub branch_of : List ℕ → Then → Spanned Expr → Extent → Branch
branch_of src f x m = record {
  guard = f.guard;
  yes = node_of src x;
  extent = joint_extent (joint_extent f.extent x.extent) (Some m);
}

abbrev pub then_ending : List ℕ → List Frame → Then → Spanned Expr → Closing → Extent
    → Option State
then_ending src st f x closing.Else m =
    Some (opening st (branch_of src f x m ∷ f.branches) place.Expr)
then_ending src st f x _ m = None

abbrev pub frame_ending : List ℕ → List Frame → Spanned Expr → Closing → Extent → Option State
frame_ending src [] x c m = None
frame_ending src (frame.Paren f ∷ st) x c m = paren_ending src st f x c m
frame_ending src (frame.Set f ∷ st) x c m = set_ending src st f x c m
frame_ending src (frame.Call f ∷ st) x c m = call_ending src st f x c m
frame_ending src (frame.Index f ∷ st) x c m = index_ending src st f x c m
frame_ending src (frame.Record f ∷ st) x c m = record_ending src st f f.key x c m
frame_ending src (frame.Guard f ∷ st) x c m = guard_ending src st f x c m
frame_ending src (frame.Then f ∷ st) x c m = then_ending src st f x c m

-- what is done with a token behind an operand
abbrev pub follow_act : List ℕ → List Frame → PendingOperators → Operand → FollowClass → Extent
    → Option State
follow_act src st lv m (operator.Access a) e = Some (access_beginning st lv m a e)
follow_act src st lv m (operator.Multiply o) e = Some (product_beginning src st lv m o e)
follow_act src st lv m (operator.Sum o) e = Some (sum_beginning src st lv m o e)
follow_act src st lv m (operator.Compare o) e =
    comparison_beginning src st lv lv.relation (add_at src lv m) o e
follow_act src st lv m (operator.Side s) e =
    side_beginning src st lv lv.relation (add_at src lv m) s e
follow_act src st lv m operator.And e = Some (conjunction_beginning src st lv m e)
follow_act src st lv m operator.Or e = Some (disjunction_beginning src st lv m e)
follow_act src st lv m (operator.Ends c) e = frame_ending src st (whole src lv m) c e
follow_act src st lv m operator.Other e = None
