-- What a walk by parts gives: of an expression its size, its slots and all expressions in it.
use Rattle.std.proofs.Common.{◌≡◌, ℕ, suc, ◌+◌, ◌<◌, List, [], ◌∷◌, ◌++◌, Option, refl, ap, sym, ◌∙◌, map, append_assoc, append-nil, arith}
use Rattle.std.proofs.lemmas.Grind.{flat_map-append}
use Rattle.std.proofs.lemmas.List.Sums.{sum_by-append}
use Rattle.std.specs.List.{fold, sum_by, flat_map}
use Rattle.std.specs.Option.{option_to_list}
use Rattle.cedar_expressions.specs.declared.place.Place.{Place}
use Rattle.cedar_expressions.specs.declared.place.Slot.{Slot}
use Rattle.cedar_expressions.specs.declared.expr.Expr.{Expr}
use Rattle.cedar_expressions.specs.declared.expr.ExprKind.{ExprKind}
use Rattle.cedar_expressions.specs.declared.expr.ExprKind.TheOpen.{ExprKind-F}
use Rattle.cedar_expressions.specs.declared.expr.ExprKind.TheViews.{out-ExprKind}
use Rattle.cedar_expressions.specs.declared.expr.ExprKind.TheFolds.{fold-Expr, fold-ExprKind, map-ExprKind, fold_out-Expr, fold_out-ExprKind}
use Rattle.cedar_expressions.specs.Meaning.{AtPlace, kind_call, expr_call, expr_meaning, kind_meaning}
use Rattle.cedar_expressions.specs.Parts.{form_parts, parts, size_step, size, Listing, listed, listing_step, subexpressions}
use Rattle.cedar_expressions.specs.Slots.{Slots, slots_of, slots_in, slots_of_kind, slots_in_row}
use Rattle.cedar_expressions.specs.Value.{Value}
use Rattle.cedar_expressions.specs.Walks.{form_slot, own_slot}
use Rattle.cedar_expressions.proofs.SlotsAt.{at_expr, of_unary, of_binary, of_nary, of_list, of_row, of_terms, of_fields}

-- the parts of what each part was changed in are the changed parts
second_of : {A E F : Type 0} (g : E → F) (xs : List (A × E)) → map (λ (t : A × F). t.1) (map (λ (t : A × E). (t.0, g t.1)) xs) ≡ map g (map (λ (t : A × E). t.1) xs)
second_of g [] = refl
second_of g (x ∷ xs) = ap (λ ys. g x.1 ∷ ys) (second_of g xs)

parts_map : {K E L F : Type 0} (f : K → L) (g : E → F) (x : ExprKind-F K E) → form_parts (map-ExprKind K E L F f g x) ≡ map g (form_parts x)
parts_map f g (ExprKind-F.Val l) = refl
parts_map f g (ExprKind-F.Var x) = refl
parts_map f g (ExprKind-F.Slot s) = refl
parts_map f g (ExprKind-F.Ite p) = refl
parts_map f g (ExprKind-F.Unary call a) = refl
parts_map f g (ExprKind-F.Binary call p) = refl
parts_map f g (ExprKind-F.Nary op a rest) = refl
parts_map f g (ExprKind-F.Sum a rest) = ap (λ ys. g a ∷ ys) (second_of g rest)
parts_map f g (ExprKind-F.List call items) = refl
parts_map f g (ExprKind-F.Record pairs) = second_of g pairs

-- ---- sizes

sums : {A : Type 0} (f : A → ℕ) (xs : List A) (n : ℕ) → fold (λ a y. a + y) n (map f xs) ≡ fold (λ a y. a + f y) n xs
sums f [] n = refl
sums f (x ∷ xs) n = sums f xs (n + f x)

pub size_at : (e : Expr) → size e ≡ suc (sum_by size (parts e))
unfolding size
size_at e =
    fold_out-Expr (List ℕ) ℕ form_parts size_step e
    ∙ ap (λ ns. suc (sum_by (λ n. n) ns)) (fold_out-ExprKind (List ℕ) ℕ form_parts size_step e.kind ∙ parts_map (fold-ExprKind (List ℕ) ℕ form_parts size_step) (fold-Expr (List ℕ) ℕ form_parts size_step) (out-ExprKind e.kind))
    ∙ ap suc (sums (fold-Expr (List ℕ) ℕ form_parts size_step) (parts e) 0)

-- ---- all expressions in one

listed_own : (f : Expr → Listing) (es : List Expr) → listed (map f es) es ≡ flat_map (λ e. f e e) es
listed_own f [] = refl
listed_own f (e ∷ es) = ap (λ ys. f e e ++ ys) (listed_own f es)

pub subexpressions_at : (e : Expr) → subexpressions e ≡ e ∷ flat_map subexpressions (parts e)
unfolding subexpressions
subexpressions_at e =
    ap (λ (f : Listing). f e) (fold_out-Expr (List Listing) Listing form_parts listing_step e)
    ∙ ap (λ fs. e ∷ listed fs (parts e)) (fold_out-ExprKind (List Listing) Listing form_parts listing_step e.kind ∙ parts_map (fold-ExprKind (List Listing) Listing form_parts listing_step) (fold-Expr (List Listing) Listing form_parts listing_step) (out-ExprKind e.kind))
    ∙ ap (λ ys. e ∷ ys) (listed_own (fold-Expr (List Listing) Listing form_parts listing_step) (parts e))

-- ---- slots

second_slots : {A : Type 0} (xs : List (A × Expr)) → slots_in_row (λ t. slots_in t.1) xs ≡ flat_map slots_in (map (λ t. t.1) xs)
second_slots [] = refl
second_slots (x ∷ xs) = ap (λ ys. slots_in x.1 ++ ys) (second_slots xs)

slots_of_form : (x : ExprKind-F ExprKind Expr) (place : Option Place) → slots_of (kind_call AtPlace (map-ExprKind ExprKind Expr AtPlace Value kind_meaning expr_meaning x) place) ≡ option_to_list (form_slot x place) ++ flat_map slots_in (form_parts x)
unfolding slots_of slots_in
slots_of_form (ExprKind-F.Val l) place = refl
slots_of_form (ExprKind-F.Var x) place = refl
slots_of_form (ExprKind-F.Slot s) place = refl
slots_of_form (ExprKind-F.Ite p) place =
    append_assoc (slots_in p.0) (slots_in p.1) (slots_in p.2) ∙ ap (λ ys. slots_in p.0 ++ (slots_in p.1 ++ ys)) (sym (append-nil (slots_in p.2)))
slots_of_form (ExprKind-F.Unary call a) place = of_unary call (expr_meaning a) ∙ sym (append-nil (slots_in a))
slots_of_form (ExprKind-F.Binary call p) place = of_binary call (expr_meaning p.0) (expr_meaning p.1) ∙ ap (λ ys. slots_in p.0 ++ ys) (sym (append-nil (slots_in p.1)))
slots_of_form (ExprKind-F.Nary op a rest) place = of_nary op (expr_meaning a) (map expr_meaning rest) ∙ ap (λ ys. slots_in a ++ ys) (of_row rest)
slots_of_form (ExprKind-F.Sum a rest) place = ap (λ ys. slots_in a ++ ys) (of_terms rest ∙ second_slots rest)
slots_of_form (ExprKind-F.List call items) place = of_list call (map expr_meaning items) ∙ of_row items
slots_of_form (ExprKind-F.Record pairs) place = of_fields pairs ∙ second_slots pairs

pub slots_at : (e : Expr) → slots_in e ≡ option_to_list (own_slot e) ++ flat_map slots_in (parts e)
unfolding slots_in slots_of_kind kind_meaning expr_meaning
slots_at e =
    at_expr e
    ∙ ap (λ (h : Option Place → Value). slots_of (h e.place.place)) (fold_out-ExprKind AtPlace Value (kind_call AtPlace) expr_call e.kind)
    ∙ slots_of_form (out-ExprKind e.kind) e.place.place

-- ---- one step of a walk

pub found_on : (found next all : Slots) (e : Expr) (own : Option Slot) (waits after : List Expr) → found ++ flat_map slots_in (e ∷ waits) ≡ all → own ≡ own_slot e → next ≡ found ++ option_to_list own → after ≡ parts e ++ waits → next ++ flat_map slots_in after ≡ all
found_on found next all e own waits after known here more left =
    let whole : slots_in e ++ flat_map slots_in waits ≡ option_to_list (own_slot e) ++ (flat_map slots_in (parts e) ++ flat_map slots_in waits) =
    ap (λ s. s ++ flat_map slots_in waits) (slots_at e) ∙ append_assoc (option_to_list (own_slot e)) (flat_map slots_in (parts e)) (flat_map slots_in waits)
    in
    ap (λ f. f ++ flat_map slots_in after) more ∙ append_assoc found (option_to_list own) (flat_map slots_in after)
    ∙ ap (λ o. found ++ (option_to_list o ++ flat_map slots_in after)) here
    ∙ ap (λ ys. found ++ (option_to_list (own_slot e) ++ ys)) (ap (flat_map slots_in) left ∙ flat_map-append slots_in (parts e) waits)
    ∙ ap (λ ys. found ++ ys) (sym whole) ∙ known

pub met_on : (met next all : List Expr) (e : Expr) (waits after : List Expr) → met ++ flat_map subexpressions (e ∷ waits) ≡ all → next ≡ met ++ e ∷ [] → after ≡ parts e ++ waits → next ++ flat_map subexpressions after ≡ all
met_on met next all e waits after known more left =
    let whole : subexpressions e ++ flat_map subexpressions waits ≡ e ∷ (flat_map subexpressions (parts e) ++ flat_map subexpressions waits) = ap (λ s. s ++ flat_map subexpressions waits) (subexpressions_at e) in
    ap (λ m. m ++ flat_map subexpressions after) more ∙ append_assoc met (e ∷ []) (flat_map subexpressions after)
    ∙ ap (λ ys. met ++ e ∷ ys) (ap (flat_map subexpressions) left ∙ flat_map-append subexpressions (parts e) waits)
    ∙ ap (λ ys. met ++ ys) (sym whole) ∙ known

sums_from : {A : Type 0} (f : A → ℕ) (xs : List A) (n : ℕ) → fold (λ a y. a + f y) n xs ≡ n + sum_by f xs
sums_from f [] n = omega arith
sums_from f (x ∷ xs) n = let more = sums_from f xs (n + f x) in let own = sums_from f xs (0 + f x) in omega (arith, more, own)

pub fewer : (e : Expr) (waits after : List Expr) → after ≡ parts e ++ waits → sum_by size after < sum_by size (e ∷ waits)
fewer e waits after left =
    let all : sum_by size after ≡ sum_by size (parts e) + sum_by size waits = ap (sum_by size) left ∙ sum_by-append size (parts e) waits in
    let old : sum_by size (e ∷ waits) ≡ (0 + size e) + sum_by size waits = sums_from size waits (0 + size e) in
    omega (arith, all, old, size_at e)
