-- Copies of the parts of a tree, one after another.
use Rattle.std.proofs.Common.{◌≡◌, ap, subst, sym, ◌∙◌, Option, Some, List, [], ◌∷◌, ◌++◌, append_assoc, Result, Ok, Err}
use Rattle.std.proofs.lemmas.List.{append-nil}
use Rattle.std.specs.Prelude.{IfOk, IsOkAnd}
use denote.Ref.{Bor}
use Rattle.cedar_syntax.specs.declared.cst.Expr.{Expr}
use Rattle.cedar_syntax.specs.declared.cst.Expr.TheVariants as EV
use Rattle.cedar_syntax.specs.declared.cst.ExprImpl.{ExprImpl, out-ExprImpl}
use Rattle.cedar_syntax.specs.declared.cst.Linked.{Linked}
use Rattle.cedar_syntax.specs.printing.Pieces.{next_exprs}
use Rattle.cedar_syntax.specs.trees.Inside.{option_inside, data_inside, linked_inside, Leads, lent}
use Rattle.cedar_syntax.proofs.InsideForms as form
use Rattle.cedar_syntax.proofs.Unfolding.{joined, renamed}

-- a part, and the part behind it
pub two_parts : {P Q : Type 0} (xs ys rest old mid new : List Expr)
    → ((r : List Expr) → old ≡ xs ++ r → P × (mid ≡ r)) → ((r : List Expr) → mid ≡ ys ++ r → Q × (new ≡ r))
    → old ≡ (xs ++ ys) ++ rest → P × Q × (new ≡ rest)
two_parts xs ys rest old mid new f g e =
    let one = f (ys ++ rest) (e ∙ append_assoc xs ys rest) in
    let two = g rest one.1 in
    (one.0, two.0, two.1)

-- a part beside those that are held
pub held_and_made : {A B E : Type 0} {R : Type 0} (r : Result B E) (held a : A) (b s : B)
    → IsOkAnd r (λ one. ◌≡◌ {A = A × B} (a, b) (held, one)) → IfOk r (λ copy. (copy ≡ s) × R) → (a ≡ held) × (b ≡ s) × R
held_and_made (Ok x) held a b s e h = (ap (λ p. p.0) e, ap (λ p. p.1) e ∙ h.0, h.1)
held_and_made (Err x) held a b s e h = absurd e

-- two parts, the second made beside the first
pub two_held : {A B E P : Type 0} (xs ys rest old mid new : List Expr) (r : Result B E) (held a : A) (b s : B)
    → ((q : List Expr) → old ≡ xs ++ q → P × (mid ≡ q))
    → IsOkAnd r (λ one. ◌≡◌ {A = A × B} (a, b) (held, one))
    → ((q : List Expr) → mid ≡ ys ++ q → IfOk r (λ copy. (copy ≡ s) × (new ≡ q)))
    → old ≡ (xs ++ ys) ++ rest → P × (a ≡ held) × (b ≡ s) × (new ≡ rest)
two_held xs ys rest old mid new r held a b s f k g e =
    let one = f (ys ++ rest) (e ∙ append_assoc xs ys rest) in
    let two = held_and_made r held a b s k (g rest one.1) in
    (one.0, two.0, two.1, two.2)

-- three parts, each made beside those before it
pub three_held : {A B C E F P : Type 0} (xs ys zs rest old mid next new : List Expr)
    (r : Result B E) (held a : A) (b s : B) (q : Result C F) (both : A × B) (c t : C)
    → ((l : List Expr) → old ≡ xs ++ l → P × (mid ≡ l))
    → IsOkAnd r (λ one. ◌≡◌ {A = A × B} (a, b) (held, one))
    → ((l : List Expr) → mid ≡ ys ++ l → IfOk r (λ copy. (copy ≡ s) × (next ≡ l)))
    → IsOkAnd q (λ one. ◌≡◌ {A = (A × B) × C} (both, c) ((a, b), one))
    → ((l : List Expr) → next ≡ zs ++ l → IfOk q (λ copy. (copy ≡ t) × (new ≡ l)))
    → old ≡ (xs ++ (ys ++ zs)) ++ rest
    → P × (a ≡ held) × (b ≡ s) × (◌≡◌ {A = A × B} both (a, b)) × (c ≡ t) × (new ≡ rest)
three_held {A} {B} xs ys zs rest old mid next new r held a b s q both c t f k g m h e =
    let one = f ((ys ++ zs) ++ rest) (e ∙ append_assoc xs (ys ++ zs) rest) in
    let two = held_and_made r held a b s k (g (zs ++ rest) (one.1 ∙ append_assoc ys zs rest)) in
    let pair : A × B = (a, b) in
    let three = held_and_made q pair both c t m (h rest two.2) in
    (one.0, two.0, two.1, three.0, three.1, three.2)

-- an expression more in the list, before those in it
pub one_more : (order new : List (Bor Expr)) (y : Bor Expr) (i : ExprImpl) (l : Linked) (r : Option (Bor Expr)) (old one two three ys : List Expr)
    → Leads (lent order) old ys → old ≡ next_exprs r ++ one → r ≡ Some y → new ≡ y ∷ order → y.now ≡ EV.Expr i → l ≡ (out-ExprImpl i).expr
    → two ≡ option_inside (λ x. x ∷ []) l.next ++ one → three ≡ data_inside l.content ++ two → Leads (lent new) three ys
one_more order new y i l r old one two three ys h e k o a b u v = subst (λ os. Leads (lent os) three ys) (sym o) (
  one,
  renamed one (ap linked_inside b ∙ sym (form.expr y.now i a)) (joined (data_inside l.content) (option_inside (λ x. x ∷ []) l.next) one v u),
  subst (λ xs. Leads (lent order) xs ys) (e ∙ ap (λ t. next_exprs t ++ one) k) h,
)

-- where no expression is left to be copied, the copies are those of the tree's own
pub at_end : (order : List (Bor Expr)) (copies ys : List Expr) → order ≡ [] → Leads (lent order) copies ys → copies ≡ ys ++ []
at_end order copies ys e h = subst (λ o. Leads (lent o) copies ys) e h ∙ sym (append-nil ys)

pub copy_alone : {A E : Type 0} (R : Type 0) (r : Result A E) (s : A) → IfOk r (λ x. (x ≡ s) × R) → IfOk r (λ x. x ≡ s)
copy_alone R (Ok x) s h = h.0
copy_alone R (Err x) s h = tt
