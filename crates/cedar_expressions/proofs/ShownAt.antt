-- How an expression is shown: of each kind from how its parts are shown; and one step of the walk
-- that shows it.
use Rattle.std.proofs.Common.{◌≡◌, ℕ, suc, ◌+◌, ◌*◌, ◌<◌, List, [], ◌∷◌, ◌++◌, codes, refl, ap, sym, ◌∙◌, subst, map, Option, None, MatchOption, Bor, append_assoc, append-nil, arith}
use Rattle.std.specs.List.{fold, sum_by}
use Rattle.std.specs.Fmt.{HasWritten, IsPlainFormatter}
use Rattle.std.specs.declared.fmt.Formatter.{Formatter}
use Rattle.std.proofs.Output.{writes_in_calls_nil}
use Rattle.cedar_expressions.specs.declared.operators.AddOp.{AddOp}
use Rattle.cedar_expressions.specs.declared.text.Text.{Text}
use Rattle.cedar_expressions.specs.declared.expr.Expr.{Expr}
use Rattle.cedar_expressions.specs.declared.expr.ExprKind.{ExprKind}
use Rattle.cedar_expressions.specs.declared.expr.ExprKind.TheOpen.{ExprKind-F}
use Rattle.cedar_expressions.specs.declared.expr.ExprKind.TheViews.{out-ExprKind, roll-ExprKind, out-roll-ExprKind}
use Rattle.cedar_expressions.specs.declared.expr.ExprKind.TheFolds.{fold-Expr, fold-ExprKind, map-ExprKind, fold_out-Expr, fold_out-ExprKind}
use Rattle.cedar_expressions.specs.declared.atoms.Literal.{Literal}
use Rattle.cedar_expressions.specs.declared.atoms.Var.{Var}
use Rattle.cedar_expressions.specs.declared.atoms.SlotId.{SlotId}
use Rattle.cedar_expressions.specs.declared.expr.ExprKind.TheVariants as kind
use Rattle.cedar_expressions.specs.Parts.{parts, size}
use Rattle.cedar_expressions.specs.Written.{literal_text, var_text, slot_text}
use Rattle.cedar_expressions.proofs.PartsAt.{size_at}
use Rattle.cedar_expressions.specs.declared.show.Piece.{Piece}
use Rattle.cedar_expressions.specs.declared.show.Piece.TheVariants as piece
use Rattle.cedar_expressions.specs.Pieces.{kind_text, own_text, operand_shown, pair_shown, piece_text, pieces_text, piece_weight, pieces_weight, text_now}
use Rattle.cedar_expressions.specs.Shown.{call_text, operand_text, pair_text, kind_shown, expr_shown, expr_text}

terms_shown : (ts : List (AddOp × Expr)) → map operand_text (map (λ (t : AddOp × Expr). (t.0, expr_text t.1)) ts) ≡ map operand_shown ts
terms_shown [] = refl
terms_shown (t ∷ ts) = ap (λ us. operand_shown t ∷ us) (terms_shown ts)

pairs_shown : (ps : List (Text × Expr)) → map pair_text (map (λ (p : Text × Expr). (p.0, expr_text p.1)) ps) ≡ map pair_shown ps
pairs_shown [] = refl
pairs_shown (p ∷ ps) = ap (λ us. pair_shown p ∷ us) (pairs_shown ps)

abbrev kind_folded : ExprKind → List ℕ
kind_folded = fold-ExprKind (List ℕ) (List ℕ) kind_shown expr_shown

kind_at : (x : ExprKind-F ExprKind Expr) → kind_shown (map-ExprKind ExprKind Expr (List ℕ) (List ℕ) kind_folded expr_text x) ≡ kind_text x
kind_at (ExprKind-F.Val l) = refl
kind_at (ExprKind-F.Var x) = refl
kind_at (ExprKind-F.Slot s) = refl
kind_at (ExprKind-F.Ite p) = refl
kind_at (ExprKind-F.Unary call a) = refl
kind_at (ExprKind-F.Binary call p) = refl
kind_at (ExprKind-F.Nary op a rest) = refl
kind_at (ExprKind-F.Sum a rest) = ap (λ us. call_text (codes "add_nary") (expr_text a ∷ us)) (terms_shown rest)
kind_at (ExprKind-F.List call items) = refl
kind_at (ExprKind-F.Record pairs) = ap (λ us. call_text (codes "record") us) (pairs_shown pairs)

-- an expression is shown as its kind is, from how its parts are shown
pub text_at : (e : Expr) → expr_text e ≡ own_text e
unfolding expr_text
text_at e =
    fold_out-Expr (List ℕ) (List ℕ) kind_shown expr_shown e
    ∙ fold_out-ExprKind (List ℕ) (List ℕ) kind_shown expr_shown e.kind
    ∙ kind_at (out-ExprKind e.kind)

of_kind : (e : Expr) (x : ExprKind-F ExprKind Expr) → e.kind ≡ roll-ExprKind x → kind_text x ≡ expr_text e
of_kind e x h = sym (text_at e ∙ ap (λ k. kind_text (out-ExprKind k)) h ∙ ap kind_text (out-roll-ExprKind x))

pub of_val : (e : Expr) (l : Literal) → e.kind ≡ kind.Val l → literal_text l ≡ expr_text e
of_val e l h = of_kind e (ExprKind-F.Val l) (h ∙ sym (kind.rolls-Val l))

pub of_var : (e : Expr) (x : Var) → e.kind ≡ kind.Var x → var_text x ≡ expr_text e
of_var e x h = of_kind e (ExprKind-F.Var x) (h ∙ sym (kind.rolls-Var x))

pub of_slot : (e : Expr) (s : SlotId) → e.kind ≡ kind.Slot s → slot_text s ≡ expr_text e
of_slot e s h = of_kind e (ExprKind-F.Slot s) (h ∙ sym (kind.rolls-Slot s))

-- ---- one step: what is still to be shown, and how much that weighs

-- what is written of what is written so far, and of what is shown of a piece
pub shown_on : (done whole : List ℕ) (piece : Piece) (old popped new : List Piece) → done ++ pieces_text old ≡ whole → old ≡ piece ∷ popped → text_now piece ++ pieces_text new ≡ piece_text piece ++ pieces_text popped → (done ++ text_now piece) ++ pieces_text new ≡ whole
shown_on done whole piece old popped new known is next =
    append_assoc done (text_now piece) (pieces_text new) ∙ ap (λ t. done ++ t) (next ∙ sym (ap pieces_text is)) ∙ known

pub first_shown : (e : Bor Expr) (old new : List Piece) → new ≡ piece.Expr e ∷ old → old ≡ [] → [] ++ pieces_text new ≡ expr_text e.now
first_shown e old new is none = ap pieces_text (is ∙ ap (λ ps. piece.Expr e ∷ ps) none) ∙ append-nil (expr_text e.now)

pub all_shown : (done whole : List ℕ) (popped : Option Piece) (old new : List Piece) → done ++ pieces_text old ≡ whole → MatchOption popped ((old ≡ []) × (new ≡ [])) (λ x. old ≡ x ∷ new) → popped ≡ None → done ≡ whole
all_shown done whole popped old new known is none =
    let left : (old ≡ []) × (new ≡ []) = subst (λ o. MatchOption o ((old ≡ []) × (new ≡ [])) (λ x. old ≡ x ∷ new)) none is in
    sym (append-nil done) ∙ ap (λ ps. done ++ pieces_text ps) (sym left.0) ∙ known

-- an expression, which is shown as its parts are
pub opened : (p : Piece) (e : Bor Expr) (old new : List ℕ) → p ≡ piece.Expr e → new ≡ own_text e.now ++ old → text_now p ++ new ≡ piece_text p ++ old
opened p e old new is next =
    ap (λ q. text_now q ++ new) is ∙ next ∙ ap (λ t. t ++ old) (sym (text_at e.now)) ∙ ap (λ q. piece_text q ++ old) (sym is)

pub lighter : (piece : Piece) (old popped new : List Piece) → old ≡ piece ∷ popped → pieces_weight new < piece_weight piece + pieces_weight popped → pieces_weight new < pieces_weight old
lighter piece old popped new is less = subst (λ ps. pieces_weight new < pieces_weight ps) (sym is) less

pub nothing_written : {W : Type 0} (took : W → List ℕ → W → Type 0) (f : Formatter W) → IsPlainFormatter f → HasWritten took f [] f
nothing_written took f plain = record { wrote = writes_in_calls_nil took f.writer; plain = plain }

sums_from : {A : Type 0} (f : A → ℕ) (xs : List A) (n : ℕ) → fold (λ a y. a + f y) n xs ≡ n + sum_by f xs
sums_from f [] n = omega arith
sums_from f (x ∷ xs) n = let more = sums_from f xs (n + f x) in let own = sums_from f xs (0 + f x) in omega (arith, more, own)

sum_before : (e : Expr) (es : List Expr) → sum_by size (e ∷ es) ≡ size e + sum_by size es
sum_before e es = let more = sums_from size es (0 + size e) in omega (arith, more)

abbrev pub weight_of : Expr → ℕ
weight_of e = 16 + 20 * sum_by size (parts e)

pub in_three : (e : Expr) (new old : ℕ) → new ≡ 1 + (weight_of e + (1 + old)) → new < 16 + 20 * sum_by size (e ∷ []) + old
in_three e new old all = let own = size_at e in let sum = sum_before e [] in omega (arith, all, own, sum)

pub in_five : (e : Expr) (new old : ℕ) → new ≡ 1 + (weight_of e + (1 + (1 + (1 + old)))) → new < 16 + 20 * sum_by size (e ∷ []) + old
in_five e new old all = let own = size_at e in let sum = sum_before e [] in omega (arith, all, own, sum)

pub in_six : (e : Expr) (new old : ℕ) → new ≡ 1 + (weight_of e + (1 + (1 + (1 + (1 + old))))) → new < 16 + 20 * sum_by size (e ∷ []) + old
in_six e new old all = let own = size_at e in let sum = sum_before e [] in omega (arith, all, own, sum)

pub of_binary : (a b : Expr) (new old : ℕ) → new ≡ 1 + (1 + (weight_of a + (1 + (weight_of b + (1 + old))))) → new < 16 + 20 * sum_by size (a ∷ b ∷ []) + old
of_binary a b new old all =
    let one = size_at a in let two = size_at b in let sum = sum_before a (b ∷ []) in let last = sum_before b [] in omega (arith, all, one, two, sum, last)

pub of_is_in : (a b : Expr) (new old : ℕ) → new ≡ 1 + (weight_of a + (1 + (1 + (1 + (weight_of b + (1 + old)))))) → new < 16 + 20 * sum_by size (a ∷ b ∷ []) + old
of_is_in a b new old all =
    let one = size_at a in let two = size_at b in let sum = sum_before a (b ∷ []) in let last = sum_before b [] in omega (arith, all, one, two, sum, last)

pub of_conditional : (a b d : Expr) (new old : ℕ) → new ≡ 1 + (weight_of a + (1 + (weight_of b + (1 + (weight_of d + (1 + old)))))) → new < 16 + 20 * sum_by size (a ∷ b ∷ d ∷ []) + old
of_conditional a b d new old all =
    let one = size_at a in let two = size_at b in let three = size_at d in
    let sum = sum_before a (b ∷ d ∷ []) in let then = sum_before b (d ∷ []) in let last = sum_before d [] in
    omega (arith, all, one, two, three, sum, then, last)

pub of_nary : (e : Expr) (es : List Expr) (new old : ℕ) → new ≡ 1 + (1 + (weight_of e + ((1 + 20 * sum_by size es) + (1 + old)))) → new < 16 + 20 * sum_by size (e ∷ es) + old
of_nary e es new old all = let own = size_at e in let sum = sum_before e es in omega (arith, all, own, sum)

pub of_list : (e : Expr) (es : List Expr) (new old : ℕ) → new ≡ 1 + (weight_of e + ((1 + 20 * sum_by size es) + (1 + old))) → new < 16 + 20 * sum_by size (e ∷ es) + old
of_list e es new old all = let own = size_at e in let sum = sum_before e es in omega (arith, all, own, sum)

pub of_record : (e : Expr) (es : List Expr) (new old : ℕ) → new ≡ 1 + (1 + (1 + (weight_of e + ((1 + 20 * sum_by size es) + (1 + old))))) → new < 16 + 20 * sum_by size (e ∷ es) + old
of_record e es new old all = let own = size_at e in let sum = sum_before e es in omega (arith, all, own, sum)

pub of_items : (e : Expr) (es : List Expr) (new old : ℕ) → new ≡ 1 + (weight_of e + ((1 + 20 * sum_by size es) + old)) → new < 1 + 20 * sum_by size (e ∷ es) + old
of_items e es new old all = let own = size_at e in let sum = sum_before e es in omega (arith, all, own, sum)

pub of_pairs : (e : Expr) (es : List Expr) (new old : ℕ) → new ≡ 1 + (1 + (1 + (weight_of e + ((1 + 20 * sum_by size es) + old)))) → new < 1 + 20 * sum_by size (e ∷ es) + old
of_pairs e es new old all = let own = size_at e in let sum = sum_before e es in omega (arith, all, own, sum)

-- the same of a list that this is
pub with_list : (k new old : ℕ) (es fs : List Expr) → es ≡ fs → new < k + 20 * sum_by size fs + old → new < k + 20 * sum_by size es + old
with_list k new old es fs is less = subst (λ gs. new < k + 20 * sum_by size gs + old) (sym is) less
