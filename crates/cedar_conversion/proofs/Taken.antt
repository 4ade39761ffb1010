-- How answers that wait are taken, one part's after another's.
use Rattle.std.proofs.Common.{◌≡◌, ◌<◌, ◌+◌, ℕ, append-nil, List, [], ◌∷◌, ◌++◌, append_assoc, map, take, length, get_or, Option, Err, alloc_error, subst, sym, ap, ◌∙◌}
use Rattle.std.specs.List.{flat_map}
use Rattle.std.proofs.lemmas.List.{flat_map_more}
use denote.Ref.{Bor}
use Rattle.cedar_syntax.specs.declared.cst.Expr.{Expr}
use Rattle.cedar_syntax.specs.declared.node.Node.{Node}
use Rattle.cedar_syntax.specs.trees.Forms.{located, expr_form}
use Rattle.cedar_syntax.specs.trees.Located.{Located}
use Rattle.cedar_conversion.specs.outcome.Conversion.{outcome}
use Rattle.cedar_expressions.specs.Value.{Value}
use Rattle.cedar_conversion.specs.strict.Extensions.{Extensions}
use Rattle.cedar_conversion.specs.outcome.Seen.{Gives}
use Rattle.cedar_conversion.specs.machines.Nested.{nested, lent_nodes}
use Rattle.cedar_syntax.specs.declared.err.faults.Failure.TheVariants.{Memory}
use Rattle.cedar_conversion.specs.machines.Taking.{ExprAnswer, Waits, Taking, took, LeadTo}
use Rattle.cedar_conversion.specs.machines.Views.{plain}
use Rattle.cedar_conversion.proofs.Loops.{take_next, map_snoc}
use Rattle.cedar_conversion.proofs.Weights.{all_weight, first_opened}

pub opened : {N : Type 0} {W : N → List Located → Type 0} {a b : N} {ns : List Located} {X : Type 0} → Taking W a ns b X → (rest : List Located) → W a (ns ++ rest) → X × W b rest
opened (took h) = h

-- none is taken
pub untaken : {N : Type 0} {W : N → List Located → Type 0} {a : N} {X : Type 0} → X → Taking W a [] a X
untaken x = took (λ rest w. (x, w))

-- the same in other words
pub made : {N : Type 0} {W : N → List Located → Type 0} {a b : N} {ns ms : List Located} {X Y : Type 0} → ns ≡ ms → Taking W a ms b X → (X → Y) → Taking W a ns b Y
made {N} {W} {a} {b} {ns} {ms} h t f =
    took (λ rest w. let p = opened t rest (subst (λ xs. W a (xs ++ rest)) h w) in (f p.0, p.1))

-- those of one part, and then those of the parts behind it
pub next_taken : {N : Type 0} {W : N → List Located → Type 0} {a b c : N} {ns ms : List Located} {X Y : Type 0} → Taking W a ns b X → (X → Taking W b ms c Y) → Taking W a (ns ++ ms) c (X × Y)
next_taken {N} {W} {a} {b} {c} {ns} {ms} h k =
    took (λ rest w.
    let p = opened h (ms ++ rest) (subst (λ xs. W a xs) (append_assoc ns ms rest) w) in
    let q = opened (k p.0) rest p.1 in
    ((p.0, q.0), q.1))

-- ---- the answers that wait

-- the newest answer alone
pub newest : {E : Type 0} (m : E → Value) (e : Extensions) (n : Located) (old new : List (ExprAnswer E)) (answer given : ExprAnswer E) → old ≡ answer ∷ new → given ≡ answer → Taking (Waits m e) old (n ∷ []) new (Gives (plain m) given (outcome e n))
newest m e n old new answer given h k =
    took (λ rest w.
    let v = subst (λ ws. Waits m e ws (n ∷ rest)) h w in
    (subst (λ r. Gives (plain m) r (outcome e n)) (sym k) v.0, v.1))

-- one answer waits at least
pub none_waits : {E : Type 0} (m : E → Value) (e : Extensions) (n : Located) (old new : List (ExprAnswer E)) {X : Type 0} → old ≡ [] → Taking (Waits m e) old (n ∷ []) new X
none_waits m e n old new h = took (λ rest w. absurd (subst (λ ws. Waits m e ws (n ∷ rest)) h w))

-- ---- what is converted where it stands

pub within : {N : Type 0} (W : N → List Located → Type 0) (n : Located) (ns : List Located) (old new : N) {X : Type 0} → Taking W old ns new X → Taking (λ w xs. (ms : List Located) → W w ms) old (n ∷ []) new X
within W n ns old new t =
    took (λ rest w. ((opened t [] (w (ns ++ []))).0, λ ms. (opened t ms (w (ns ++ ms))).1))

-- want of memory is an answer of anything
pub too_deep : {E N : Type 0} (m : E → Value) (e : Extensions) (n : Located) (ns : List Located) (old new : N) (answer : ExprAnswer E) → answer ≡ Err (Memory alloc_error) → Taking (λ w xs. Unit {0}) old ns new (Gives (plain m) answer (outcome e n))
too_deep m e n ns old new answer h = took (λ rest w. (subst (λ r. Gives (plain m) r (outcome e n)) (sym h) tt, tt))

-- ---- lists, one longer at the end

pub more_nested : {X : Type 0} (ns : List Located) (f : X → List Located) (xs : List X) (i : ℕ) (x : X) → i < length xs → x ≡ get_or xs i x → ns ++ flat_map f (take (i + 1) xs) ≡ (ns ++ flat_map f (take i xs)) ++ f x
more_nested ns f xs i x h k = rw (take_next xs i x h k) (sym (flat_map_more f ns (take i xs) x))

pub one_item : {X : Type 0} (g : X → Located) (xs : List X) (i : ℕ) (x : X) → i < length xs → x ≡ get_or xs i x → map g (take (i + 1) xs) ≡ map g (take i xs) ++ g x ∷ []
one_item g xs i x h k = rw (take_next xs i x h k) (map_snoc g (take i xs) x)

-- one part alone behind another
pub lone_behind : {X : Type 0} (ns : List Located) (f : X → List Located) (xs : List X) (x : X) → xs ≡ x ∷ [] → ns ++ flat_map f xs ≡ ns ++ f x
lone_behind ns f xs x h = ap (λ ys. ns ++ flat_map f ys) h ∙ ap (λ ms. ns ++ ms) (append-nil (f x))

-- ---- the whole order

-- an expression's own answer waits in the place of those nested in it
pub answered : {E : Type 0} (m : E → Value) (e : Extensions) (before after kept : List (ExprAnswer E)) (answer : ExprAnswer E) (n : Located) (ns xs ys : List Located)
    → Waits m e before xs → LeadTo (n ∷ ns) xs ys → Taking (Waits m e) before (nested n) after (Gives (plain m) answer (outcome e n)) → kept ≡ answer ∷ after
    → (zs : List Located) × Waits m e kept zs × LeadTo ns zs ys
answered m e before after kept answer n ns xs ys w l t k =
    let p = opened t l.0 (subst (λ zs. Waits m e before zs) l.1 w) in
    (n ∷ l.0, subst (λ ws. Waits m e ws (n ∷ l.0)) (sym k) p, l.2)

-- the same where the expression was the next one of those that are left
pub answered_next : {E : Type 0} (m : E → Value) (e : Extensions) (before after kept : List (ExprAnswer E)) (answer : ExprAnswer E) (order left : List (Bor (Node (Option Expr)))) (n : Bor (Node (Option Expr))) (ys : List Located)
    → (xs : List Located) × Waits m e before xs × LeadTo (lent_nodes order) xs ys → order ≡ n ∷ left → Taking (Waits m e) before (nested (located expr_form n.now)) after (Gives (plain m) answer (outcome e (located expr_form n.now))) → kept ≡ answer ∷ after
    → (zs : List Located) × Waits m e kept zs × LeadTo (lent_nodes left) zs ys
answered_next m e before after kept answer order left n ys inv h t k =
    answered m e before after kept answer (located expr_form n.now) (lent_nodes left) inv.0 ys inv.1 (subst (λ o. LeadTo (lent_nodes o) inv.0 ys) h inv.2) t k

-- none is left
pub all_answered : {E : Type 0} (m : E → Value) (e : Extensions) (answers : List (ExprAnswer E)) (order : List (Bor (Node (Option Expr)))) (ys : List Located)
    → (xs : List Located) × Waits m e answers xs × LeadTo (lent_nodes order) xs ys → order ≡ [] → Waits m e answers ys
all_answered m e answers order ys inv h = subst (λ xs. Waits m e answers xs) (subst (λ o. LeadTo (lent_nodes o) inv.0 ys) h inv.2) inv.1

-- where whatever is asked for is answered for
pub given_all : {N : Type 0} {W : N → List Located → Type 0} {before after : N} {ns : List Located} {X : Type 0} → W before (ns ++ []) → Taking W before ns after X → X
given_all w t = (opened t [] w).0

-- where these alone wait
pub alone : {N : Type 0} {W : N → List Located → Type 0} {before after : N} {ns : List Located} {X : Type 0} (all : List Located) → W before all → all ≡ ns ++ [] → Taking W before ns after X → X
alone {N} {W} {before} all w h t = (opened t [] (subst (λ xs. W before xs) h w)).0

-- ---- the order itself

-- one expression more is listed, and those nested in it are left
pub listed_on : (order pushed left popped all : List (Bor (Node (Option Expr)))) (n : Bor (Node (Option Expr))) (ys : List Located) → LeadTo (lent_nodes order) (lent_nodes left) ys → left ≡ n ∷ popped → pushed ≡ n ∷ order → lent_nodes all ≡ nested (located expr_form n.now) ++ lent_nodes popped
    → LeadTo (lent_nodes pushed) (lent_nodes all) ys
listed_on order pushed left popped all n ys h l p k =
    subst (λ o. LeadTo (lent_nodes o) (lent_nodes all) ys) (sym p) (lent_nodes popped, k, subst (λ xs. LeadTo (lent_nodes order) (lent_nodes xs) ys) l h)

pub left_lighter : (left popped all : List (Bor (Node (Option Expr)))) (n : Bor (Node (Option Expr))) → left ≡ n ∷ popped → lent_nodes all ≡ nested (located expr_form n.now) ++ lent_nodes popped → all_weight (lent_nodes all) < all_weight (lent_nodes left)
left_lighter left popped all n l k =
    subst (λ xs. all_weight (lent_nodes all) < all_weight (lent_nodes xs)) (sym l) (first_opened (located expr_form n.now) (lent_nodes popped) (lent_nodes all) k)
