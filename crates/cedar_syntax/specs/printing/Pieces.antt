-- What is still to be printed: pieces of a tree, the next one first.
use Rattle.std.specs.Prelude.{List, [], ◌∷◌, Option, Some, None}
use denote.Ref.{Bor}
use Rattle.cedar_syntax.specs.declared.cst.Expr.{Expr}
use Rattle.cedar_syntax.specs.declared.pieces.Piece.{Piece}
use Rattle.cedar_syntax.specs.declared.pieces.Piece.TheVariants as piece
use Rattle.cedar_syntax.specs.printing.Printed.{Texts, printed, rel_op_texts, add_op_texts, mult_op_texts, neg_op_texts}
use Rattle.cedar_syntax.specs.printing.Printing.{in_row}
use Rattle.cedar_syntax.specs.trees.Unplaced.{expr_tree, ident_tree, name_tree, literal_tree, slot_tree, ref_tree}
use Rattle.cedar_syntax.specs.trees.Inside.{all_inside}

abbrev pub piece_texts : Piece → Texts
piece_texts (piece.Token token) = token.now ∷ []
piece_texts (piece.Compare op) = rel_op_texts op
piece_texts (piece.Add op) = add_op_texts op
piece_texts (piece.Multiply op) = mult_op_texts op
piece_texts (piece.Neg op) = neg_op_texts op
piece_texts (piece.Ident x) = printed (ident_tree x.now)
piece_texts (piece.Name x) = printed (name_tree x.now)
piece_texts (piece.Literal x) = printed (literal_tree x.now)
piece_texts (piece.Ref x) = printed (ref_tree x.now)
piece_texts (piece.Slot x) = printed (slot_tree x.now)
piece_texts (piece.Expr x) = printed (expr_tree x.now)

-- the expression that a piece is
abbrev pub piece_exprs : Piece → List Expr
piece_exprs (piece.Expr x) = x.now ∷ []
piece_exprs other = []

abbrev pub pieces_texts : List Piece → Texts
pieces_texts = in_row piece_texts

abbrev pub exprs_in : List Piece → List Expr
exprs_in = all_inside piece_exprs

-- ---- the next expression, with what stands before it

-- a piece that is no expression
abbrev pub leaf_texts : Piece → Texts
leaf_texts (piece.Expr x) = []
leaf_texts other = piece_texts other

abbrev pub next_texts : Option (Bor Expr) → Texts
next_texts None = []
next_texts (Some x) = printed (expr_tree x.now)

abbrev pub next_exprs : Option (Bor Expr) → List Expr
next_exprs None = []
next_exprs (Some x) = x.now ∷ []
