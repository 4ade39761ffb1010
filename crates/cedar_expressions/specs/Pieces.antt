-- What is still to be shown of an expression, and how much of it there is. No public clause cites
-- this module.
use Rattle.std.specs.Prelude.{ℕ, ◌+◌, ◌*◌, List, [], ◌∷◌, ◌++◌, codes, map}
use Rattle.std.specs.List.{sum_by}
use Rattle.cedar_expressions.specs.declared.operators.AddOp.{AddOp}
use Rattle.cedar_expressions.specs.declared.expr.Expr.{Expr}
use Rattle.cedar_expressions.specs.declared.expr.ExprKind.{ExprKind}
use Rattle.cedar_expressions.specs.declared.expr.ExprKind.TheOpen.{ExprKind-F}
use Rattle.cedar_expressions.specs.declared.expr.ExprKind.TheViews.{out-ExprKind}
use Rattle.cedar_expressions.specs.declared.text.Text.{Text}
use Rattle.cedar_expressions.specs.declared.show.Leaf.{Leaf}
use Rattle.cedar_expressions.specs.declared.show.Leaf.TheVariants as leaf
use Rattle.cedar_expressions.specs.declared.show.Piece.{Piece}
use Rattle.cedar_expressions.specs.declared.show.Piece.TheVariants as piece
use Rattle.cedar_expressions.specs.Escapes.{quoted, escaped_pattern}
use Rattle.cedar_expressions.specs.Parts.{parts, size}
use Rattle.cedar_expressions.specs.Path.{name_text}
use Rattle.cedar_expressions.specs.Shown.{each_behind_comma, call_text, string_text, operand_text, pair_text, unary_call_text, binary_call_text, nary_name, list_call_text, expr_text}
use Rattle.cedar_expressions.specs.Written.{add_op_text, literal_text, var_text, slot_text}

-- ---- texts

abbrev pub leaf_text : Leaf → List ℕ
leaf_text (leaf.Literal literal) = literal_text literal.now
leaf_text (leaf.Var x) = var_text x
leaf_text (leaf.Slot id) = slot_text id
leaf_text (leaf.Name name) = name_text name.now
leaf_text (leaf.Text text) = string_text text.now
leaf_text (leaf.Texts texts) = each_behind_comma (map string_text texts.now)
leaf_text (leaf.Pattern pattern) = quoted (escaped_pattern pattern.now)
leaf_text (leaf.Op op) = add_op_text op

abbrev pub operand_shown : AddOp × Expr → List ℕ
operand_shown t = operand_text (t.0, expr_text t.1)

abbrev pub pair_shown : Text × Expr → List ℕ
pair_shown p = pair_text (p.0, expr_text p.1)

abbrev pub piece_text : Piece → List ℕ
piece_text (piece.Word word) = word.now
piece_text (piece.Leaf l) = leaf_text l
piece_text (piece.Expr e) = expr_text e.now
piece_text (piece.Items es) = each_behind_comma (map expr_text es.now)
piece_text (piece.Terms ts) = each_behind_comma (map operand_shown ts.now)
piece_text (piece.Pairs ps) = each_behind_comma (map pair_shown ps.now)

-- what is shown of a piece as it stands, before anything is put in its place
abbrev pub text_now : Piece → List ℕ
text_now (piece.Word word) = word.now
text_now (piece.Leaf l) = leaf_text l
text_now (piece.Expr e) = []
text_now (piece.Items es) = []
text_now (piece.Terms ts) = []
text_now (piece.Pairs ps) = []

abbrev pub pieces_text : List Piece → List ℕ
pieces_text [] = []
pieces_text (p ∷ ps) = piece_text p ++ pieces_text ps

-- what a kind is shown as, from how its parts are shown
abbrev pub kind_text : ExprKind-F ExprKind Expr → List ℕ
kind_text (ExprKind-F.Val literal) = literal_text literal
kind_text (ExprKind-F.Var x) = var_text x
kind_text (ExprKind-F.Slot id) = slot_text id
kind_text (ExprKind-F.Ite es) =
    call_text (codes "ite") (expr_text es.0 ∷ expr_text es.1 ∷ expr_text es.2 ∷ [])
kind_text (ExprKind-F.Unary call e) = unary_call_text call (expr_text e)
kind_text (ExprKind-F.Binary call es) = binary_call_text call (expr_text es.0) (expr_text es.1)
kind_text (ExprKind-F.Nary op e rest) =
    call_text (nary_name op) (expr_text e ∷ map expr_text rest)
kind_text (ExprKind-F.Sum e rest) =
    call_text (codes "add_nary") (expr_text e ∷ map operand_shown rest)
kind_text (ExprKind-F.List call es) = list_call_text call (map expr_text es)
kind_text (ExprKind-F.Record pairs) = call_text (codes "record") (map pair_shown pairs)

abbrev pub own_text : Expr → List ℕ
own_text e = kind_text (out-ExprKind e.kind)

-- ---- weights: each expression weighs more than what is put there in its place

abbrev pub piece_weight : Piece → ℕ
piece_weight (piece.Word word) = 1
piece_weight (piece.Leaf l) = 1
piece_weight (piece.Expr e) = 16 + 20 * sum_by size (parts e.now)
piece_weight (piece.Items es) = 1 + 20 * sum_by size es.now
piece_weight (piece.Terms ts) = 1 + 20 * sum_by size (map (λ t. t.1) ts.now)
piece_weight (piece.Pairs ps) = 1 + 20 * sum_by size (map (λ p. p.1) ps.now)

abbrev pub pieces_weight : List Piece → ℕ
pieces_weight [] = 0
pieces_weight (p ∷ ps) = piece_weight p + pieces_weight ps
