-- How an expression is shown: the builder calls that made it, by their names, each with what it was
-- given, from the left. Constants, variables and slots stand as they are written. But for places
-- nothing is left out. (`cedar_writer` writes Cedar text, for which it takes a table.)
use Rattle.std.specs.Prelude.{ℕ, List, [], ◌∷◌, ◌++◌, codes, map}
use Rattle.std.specs.List.{flat_map}
use Rattle.cedar_expressions.specs.declared.operators.AddOp.{AddOp}
use Rattle.cedar_expressions.specs.declared.operators.UnaryOp.TheVariants as operator
use Rattle.cedar_expressions.specs.declared.expr.Expr.{Expr}
use Rattle.cedar_expressions.specs.declared.expr.ExprKind.TheOpen.{ExprKind-F, Expr-F}
use Rattle.cedar_expressions.specs.declared.expr.ExprKind.TheFolds.{fold-Expr}
use Rattle.cedar_expressions.specs.declared.expr.UnaryCall.{UnaryCall}
use Rattle.cedar_expressions.specs.declared.expr.UnaryCall.TheVariants as unary
use Rattle.cedar_expressions.specs.declared.expr.BinaryOp.{BinaryOp}
use Rattle.cedar_expressions.specs.declared.expr.BinaryOp.TheVariants as between
use Rattle.cedar_expressions.specs.declared.expr.BinaryCall.{BinaryCall}
use Rattle.cedar_expressions.specs.declared.expr.BinaryCall.TheVariants as binary
use Rattle.cedar_expressions.specs.declared.expr.NaryOp.{NaryOp}
use Rattle.cedar_expressions.specs.declared.expr.NaryOp.TheVariants as nary
use Rattle.cedar_expressions.specs.declared.expr.ListCall.{ListCall}
use Rattle.cedar_expressions.specs.declared.expr.ListCall.TheVariants as list
use Rattle.cedar_expressions.specs.declared.text.Text.{Text}
use Rattle.cedar_expressions.specs.Escapes.{escaped_text, escaped_pattern, quoted}
use Rattle.cedar_expressions.specs.Path.{name_text}
use Rattle.cedar_expressions.specs.Written.{add_op_text, literal_text, var_text, slot_text}

-- texts with a comma between each two
abbrev pub each_behind_comma : List (List ℕ) → List ℕ
each_behind_comma texts = flat_map (λ text. codes ", " ++ text) texts

abbrev pub comma_separated : List (List ℕ) → List ℕ
comma_separated [] = []
comma_separated (text ∷ texts) = text ++ each_behind_comma texts

abbrev pub call_text : List ℕ → List (List ℕ) → List ℕ
call_text name texts = name ++ (codes "(" ++ (comma_separated texts ++ codes ")"))

abbrev pub string_text : List ℕ → List ℕ
string_text text = quoted (escaped_text text)

-- ---- the calls

abbrev pub unary_call_text : UnaryCall → List ℕ → List ℕ
unary_call_text (unary.Op operator.Not) a = call_text (codes "not") (a ∷ [])
unary_call_text (unary.Op operator.Neg) a = call_text (codes "neg") (a ∷ [])
unary_call_text unary.IsEmpty a = call_text (codes "is_empty") (a ∷ [])
unary_call_text (unary.Like pattern) a =
    call_text (codes "like") (a ∷ quoted (escaped_pattern pattern) ∷ [])
unary_call_text (unary.Is entity_type) a =
    call_text (codes "is_entity_type") (a ∷ name_text entity_type.name ∷ [])
unary_call_text (unary.GetAttr attr) a = call_text (codes "get_attr") (a ∷ string_text attr ∷ [])
unary_call_text (unary.ExtendedHasAttr first rest) a =
    call_text (codes "extended_has_attr") (a ∷ string_text first ∷ map string_text rest)

abbrev pub binary_name : BinaryOp → List ℕ
binary_name between.And = codes "and"
binary_name between.Less = codes "less"
binary_name between.LessEq = codes "lesseq"
binary_name between.Greater = codes "greater"
binary_name between.GreaterEq = codes "greatereq"
binary_name between.Eq = codes "is_eq"
binary_name between.NotEq = codes "noteq"
binary_name between.In = codes "is_in"
binary_name between.Contains = codes "contains"
binary_name between.ContainsAll = codes "contains_all"
binary_name between.ContainsAny = codes "contains_any"
binary_name between.GetTag = codes "get_tag"
binary_name between.HasTag = codes "has_tag"

abbrev pub binary_call_text : BinaryCall → List ℕ → List ℕ → List ℕ
binary_call_text (binary.Op op) a b = call_text (binary_name op) (a ∷ b ∷ [])
binary_call_text (binary.IsIn entity_type) a b =
    call_text (codes "is_in_entity_type") (a ∷ name_text entity_type.name ∷ b ∷ [])

abbrev pub nary_name : NaryOp → List ℕ
nary_name nary.Or = codes "or_nary"
nary_name nary.And = codes "and_naryl"
nary_name nary.Mul = codes "mul_nary"

-- an operand of a sum behind its operator, a part of a record behind its key
abbrev pub operand_text : AddOp × List ℕ → List ℕ
operand_text term = add_op_text term.0 ++ (codes " " ++ term.1)

abbrev pub pair_text : Text × List ℕ → List ℕ
pair_text pair = string_text pair.0 ++ (codes ": " ++ pair.1)

abbrev pub list_call_text : ListCall → List (List ℕ) → List ℕ
list_call_text list.Set texts = call_text (codes "set") texts
list_call_text (list.Extension function) texts =
    call_text (codes "call_extension_fn") (name_text function ∷ texts)

abbrev pub kind_shown : ExprKind-F (List ℕ) (List ℕ) → List ℕ
kind_shown (ExprKind-F.Val literal) = literal_text literal
kind_shown (ExprKind-F.Var x) = var_text x
kind_shown (ExprKind-F.Slot id) = slot_text id
kind_shown (ExprKind-F.Ite texts) = call_text (codes "ite") (texts.0 ∷ texts.1 ∷ texts.2 ∷ [])
kind_shown (ExprKind-F.Unary call a) = unary_call_text call a
kind_shown (ExprKind-F.Binary call texts) = binary_call_text call texts.0 texts.1
kind_shown (ExprKind-F.Nary op a rest) = call_text (nary_name op) (a ∷ rest)
kind_shown (ExprKind-F.Sum a rest) = call_text (codes "add_nary") (a ∷ map operand_text rest)
kind_shown (ExprKind-F.List call texts) = list_call_text call texts
kind_shown (ExprKind-F.Record pairs) = call_text (codes "record") (map pair_text pairs)

abbrev pub expr_shown : Expr-F (List ℕ) (List ℕ) → List ℕ
expr_shown e = e.kind

unfoldable pub expr_text : Expr → List ℕ
expr_text = fold-Expr (List ℕ) (List ℕ) kind_shown expr_shown
