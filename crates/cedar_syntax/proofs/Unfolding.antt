-- What stands in a row of pieces, part by part.
use Rattle.std.proofs.Common.{◌≡◌, refl, ap, sym, ◌∙◌, Option, Some, None, List, [], ◌∷◌, ◌++◌, append_assoc, Result, Ok, Err, OnOk}
use Rattle.std.specs.Prelude.{IsNone, is_some}
use denote.Ref.{Bor}
use Rattle.std.proofs.lemmas.List.{append-nil}
use Rattle.cedar_syntax.specs.declared.cst.Expr.{Expr}
use Rattle.cedar_syntax.specs.declared.cst.Expr.TheVariants as EV
use Rattle.cedar_syntax.specs.declared.cst.ExprData.{ExprData}
use Rattle.cedar_syntax.specs.declared.cst.ExprImpl.{ExprImpl, out-ExprImpl}
use Rattle.cedar_syntax.specs.declared.pieces.Piece.{Piece}
use Rattle.cedar_syntax.specs.printing.Printed.{Texts, printed}
use Rattle.cedar_syntax.specs.printing.Printing.{in_row}
use Rattle.cedar_syntax.specs.printing.Pieces.{piece_texts, piece_exprs, pieces_texts, exprs_in, leaf_texts, next_texts, next_exprs}
use Rattle.cedar_syntax.specs.trees.Inside.{option_inside, all_inside}
use Rattle.cedar_syntax.specs.trees.Unplaced.{data_tree}
use Rattle.cedar_syntax.proofs.Texts.{expr_texts, impl_texts}

-- a part, and the part behind it
pub joined : {T : Type 0} (first second rest : List T) {whole behind : List T}
    → whole ≡ first ++ behind → behind ≡ second ++ rest → whole ≡ (first ++ second) ++ rest
joined first second rest p q =
    p ∙ ap (λ l. first ++ l) q ∙ sym (append_assoc first second rest)

-- a part by another name
pub renamed : {T : Type 0} (rest : List T) {first other whole : List T} → first ≡ other
    → whole ≡ first ++ rest → whole ≡ other ++ rest
renamed rest e p = p ∙ ap (λ l. l ++ rest) e

-- a piece more
pub pushed : (x : Piece) {old new : List Piece} → new ≡ x ∷ old
    → pieces_texts new ≡ piece_texts x ++ pieces_texts old
pushed x e = ap pieces_texts e

pub put : (x : Piece) {old new : List Piece} → new ≡ x ∷ old
    → exprs_in new ≡ piece_exprs x ++ exprs_in old
put x e = ap exprs_in e

-- what holds no expression
pub bare : {T : Type 0} (o : Option T) → option_inside (λ x. []) o ≡ []
bare None = refl
bare (Some x) = refl

-- ---- lists, of which the last item is unfolded first

module _ {X T : Type 0} (f : X → List T) (g : List X → List T) (snoc : (xs : List X) (x : X) → g (xs ++ x ∷ []) ≡ g xs ++ f x) where
  pub taken : (xs : List X) (x : X) (behind : List T) {all : List X} {now whole : List T}
      → all ≡ xs ++ x ∷ [] → now ≡ f x ++ behind → g all ++ behind ≡ whole → g xs ++ now ≡ whole
  taken xs x behind e p q = ap (λ l. g xs ++ l) p ∙ sym (append_assoc (g xs) (f x) behind)
      ∙ ap (λ l. l ++ behind) (sym (snoc xs x) ∙ ap g (sym e)) ∙ q

pub row-last : {X : Type 0} (f : X → Texts) (xs : List X) (x : X) → in_row f (xs ++ x ∷ []) ≡ in_row f xs ++ f x
row-last f [] x = append-nil (f x)
row-last f (y ∷ ys) x = ap (λ l. f y ++ l) (row-last f ys x) ∙ sym (append_assoc (f y) (in_row f ys) (f x))

pub inside-last : {X : Type 0} (f : X → List Expr) (xs : List X) (x : X) → all_inside f (xs ++ x ∷ []) ≡ all_inside f xs ++ f x
inside-last f [] x = append-nil (f x)
inside-last f (y ∷ ys) x = ap (λ l. f y ++ l) (inside-last f ys x) ∙ sym (append_assoc (f y) (all_inside f ys) (f x))

-- ---- the piece on top, where it is no expression

pub leaf_written : (x : Piece) (first : Texts) (new : List Piece) {r : Option (Bor Expr)} {whole : Texts} {rest : List Piece}
    → whole ≡ first ++ pieces_texts rest → rest ≡ x ∷ new → piece_texts x ≡ leaf_texts x ++ next_texts r → r ≡ None
    → whole ≡ (first ++ leaf_texts x) ++ pieces_texts new
leaf_written x first new p e h k = p ∙ ap (λ l. first ++ l) (ap pieces_texts e ∙ ap (λ t. t ++ pieces_texts new) (h ∙ ap (λ o. leaf_texts x ++ next_texts o) k ∙ append-nil (leaf_texts x))) ∙ sym (append_assoc first (leaf_texts x) (pieces_texts new))

pub leaf_skipped : (x : Piece) (new : List Piece) {r : Option (Bor Expr)} {whole : List Expr} {rest : List Piece}
    → whole ≡ exprs_in rest → rest ≡ x ∷ new → piece_exprs x ≡ next_exprs r → r ≡ None → whole ≡ exprs_in new
leaf_skipped x new p e h k = p ∙ ap exprs_in e ∙ ap (λ l. l ++ exprs_in new) (h ∙ ap next_exprs k)

-- ---- up to the next expression

-- there is none
pub all_written : (before first : Texts) (r : Option (Bor Expr)) (rest new : List Piece) {whole : Texts}
    → whole ≡ before ++ pieces_texts rest → pieces_texts rest ≡ first ++ (next_texts r ++ pieces_texts new)
    → r ≡ None → (IsNone r → new ≡ []) → whole ≡ before ++ first
all_written before first r rest new p e k h = p ∙ ap (λ l. before ++ l) (e ∙ ap (λ l. first ++ l) (ap (λ o. next_texts o ++ pieces_texts new) k ∙ ap pieces_texts (h (ap is_some k))) ∙ append-nil first)

-- it is unfolded
pub gone_into : (before first : Texts) (r : Option (Bor Expr)) (y : Bor Expr) (i : ExprImpl) (d : ExprData) (rest new next : List Piece) {whole : Texts}
    → whole ≡ before ++ pieces_texts rest → pieces_texts rest ≡ first ++ (next_texts r ++ pieces_texts new)
    → r ≡ Some y → y.now ≡ EV.Expr i → d ≡ (out-ExprImpl i).expr.content
    → pieces_texts next ≡ printed (data_tree d) ++ pieces_texts new → whole ≡ (before ++ first) ++ pieces_texts next
gone_into before first r y i d rest new next p e k a b u = p ∙ ap (λ l. before ++ l) (e ∙ ap (λ l. first ++ l) (ap (λ o. next_texts o ++ pieces_texts new) k ∙ ap (λ t. t ++ pieces_texts new) (sym (expr_texts y.now i a) ∙ sym (impl_texts i) ∙ ap (λ o. printed (data_tree o)) (sym b)) ∙ sym u)) ∙ sym (append_assoc before first (pieces_texts next))

-- the same of a call's answer
pub on_ok : {A E : Type 0} {P Q : Type 0} (r : Result A E) → (P → Q) → OnOk r P → OnOk r Q
on_ok (Ok x) f h = f h
on_ok (Err e) f h = tt
