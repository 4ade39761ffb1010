-- The weight of each syntax tree, level by level.
use Rattle.std.proofs.Common.{◌≡◌, ℕ, suc, ◌+◌, arith, refl, ap, sym, ◌∙◌, map, Option, Some, None, List, [], ◌∷◌}
use mathlib.Core.Former.{or_map, const, or, pair, this}
use mathlib.Core.Logic.{inl, inr}
use Rattle.std.specs.List.{sum_by}
use Rattle.std.proofs.lemmas.List.Sums.{sum_by-cons}
use Rattle.cedar_syntax.specs.declared.node.Node.{Node}
use Rattle.cedar_syntax.specs.declared.cst.Ident.{Ident}
use Rattle.cedar_syntax.specs.declared.cst.Literal.{Literal}
use Rattle.cedar_syntax.specs.declared.cst.Ref.{Ref}
use Rattle.cedar_syntax.specs.declared.cst.Name.{Name}
use Rattle.cedar_syntax.specs.declared.cst.Slot.{Slot}
use Rattle.cedar_syntax.specs.declared.cst.RelOp.{RelOp}
use Rattle.cedar_syntax.specs.declared.cst.Add.{Add, out-Add}
use Rattle.cedar_syntax.specs.declared.cst.And.{And}
use Rattle.cedar_syntax.specs.declared.cst.Expr.{Expr}
use Rattle.cedar_syntax.specs.declared.cst.ExprData.{ExprData}
use Rattle.cedar_syntax.specs.declared.cst.ExprImpl.{ExprImpl, out-ExprImpl}
use Rattle.cedar_syntax.specs.declared.cst.Linked.{Linked}
use Rattle.cedar_syntax.specs.declared.cst.MemAccess.{MemAccess}
use Rattle.cedar_syntax.specs.declared.cst.Member.{Member}
use Rattle.cedar_syntax.specs.declared.cst.Mult.{Mult, out-Mult}
use Rattle.cedar_syntax.specs.declared.cst.Or.{Or, out-Or}
use Rattle.cedar_syntax.specs.declared.cst.Primary.{Primary}
use Rattle.cedar_syntax.specs.declared.cst.RecInit.{RecInit}
use Rattle.cedar_syntax.specs.declared.cst.Relation.{Relation}
use Rattle.cedar_syntax.specs.declared.cst.Unary.{Unary, out-Unary}
use Rattle.cedar_syntax.specs.declared.cst.Expr.TheViews.{roll-ExprImpl, out-roll-ExprImpl}
use Rattle.cedar_syntax.specs.declared.cst.Expr.TheOpen.{Expr-F, ExprData-F, ExprImpl-F, MemAccess-F, Primary-F, Relation-F}
use Rattle.cedar_syntax.specs.declared.cst.Expr.TheFolds.{fold_out-Add, fold_out-And, fold_out-ExprImpl, fold_out-Linked, fold_out-Member, fold_out-Mult, fold_out-Or, fold_out-RecInit, fold_out-Unary, fold-roll-Expr, fold-roll-ExprData, fold-roll-MemAccess, fold-roll-Primary, fold-roll-Relation}
use Rattle.cedar_syntax.specs.declared.cst.Expr.TheVariants as EV
use Rattle.cedar_syntax.specs.declared.cst.ExprData as D
use Rattle.cedar_syntax.specs.declared.cst.ExprData.TheVariants as DV
use Rattle.cedar_syntax.specs.declared.cst.MemAccess as M
use Rattle.cedar_syntax.specs.declared.cst.MemAccess.TheVariants as MV
use Rattle.cedar_syntax.specs.declared.cst.Primary as P
use Rattle.cedar_syntax.specs.declared.cst.Primary.TheVariants as PV
use Rattle.cedar_syntax.specs.declared.cst.Relation as R
use Rattle.cedar_syntax.specs.declared.cst.Relation.TheVariants as RV
use Rattle.cedar_syntax.specs.trees.Weight.{counted, in_cell, in_pair, option_weight, waiting_weight, expr_step, data_step, access_step, primary_step, relation_step, add_step, and_step, impl_step, linked_step, member_step, mult_step, or_step, init_step, unary_step, expr_weight, data_weight, access_weight, primary_weight, relation_weight, add_weight, and_weight, impl_weight, linked_weight, member_weight, mult_weight, or_weight, init_weight, unary_weight}

-- what the fold does at a node, which is `option_map`
abbrev through : {X : Type 0} → (X → ℕ) → Option X → Option ℕ
through {X} f o = elim (or_map (const (Unit {0})) (or (pair (this {0}) (const (Unit {0}))) (const ⊥)) X ℕ f (elim o as (λ x. (or (const (Unit {0})) (or (pair (this {0}) (const (Unit {0}))) (const ⊥))).Of X) [ None ↦ inl (tt {0}) | Some x ↦ inr (inl (x, tt {0})) ])) as (λ x. Option ℕ) [ inl x ↦ None | inr x ↦ elim x as (λ x'. Option ℕ) [ inl x' ↦ Some x'.0 | inr z ↦ absurd {A = Option ℕ} z ] ]

through-weight : {X : Type 0} (f : X → ℕ) (o : Option X) → counted (through f o) ≡ option_weight f o
through-weight f None = refl
through-weight f (Some x) = refl

-- a node with what it contains counted
abbrev by : {X : Type 0} → (X → ℕ) → Node (Option X) → Node (Option ℕ)
by f n = record { node = through f n.node; loc = n.loc }

-- what stands in a node
abbrev pub node_weight : {X : Type 0} → (X → ℕ) → Node (Option X) → ℕ
node_weight f n = option_weight f n.node

cell : {X : Type 0} (f : X → ℕ) (n : Node (Option X)) → in_cell (by f n) ≡ node_weight f n
cell f n = through-weight f n.node

cells : {X : Type 0} (f : X → ℕ) (ns : List (Node (Option X))) → sum_by in_cell (map (by f) ns) ≡ sum_by (node_weight f) ns
cells f [] = refl
cells f (n ∷ ns) = sum_by-cons in_cell (by f n) (map (by f) ns) ∙ rw (cell f n, cells f ns) (sym (sum_by-cons (node_weight f) n ns))

pairs : {O X : Type 0} (f : X → ℕ) (ps : List (O × Node (Option X))) → sum_by in_pair (map (λ p. (p.0, by f p.1)) ps) ≡ sum_by (λ p. node_weight f p.1) ps
pairs f [] = refl
pairs f (p ∷ ps) = sum_by-cons in_pair (p.0, by f p.1) (map (λ q. (q.0, by f q.1)) ps) ∙ rw (cell f p.1, pairs f ps) (sym (sum_by-cons (λ q. node_weight f q.1) p ps))

-- ---- each level's equation

pub or_out : (d : Or) → or_weight d ≡ node_weight and_weight (out-Or d).initial + sum_by (node_weight and_weight) (out-Or d).extended
unfolding or_weight and_weight
or_out d = rw (fold_out-Or ℕ ℕ ℕ ℕ ℕ ℕ ℕ ℕ ℕ ℕ ℕ ℕ ℕ ℕ expr_step data_step access_step primary_step relation_step add_step and_step impl_step linked_step member_step mult_step or_step init_step unary_step d) (rw (cell and_weight (out-Or d).initial, cells and_weight (out-Or d).extended) refl)

pub and_out : (d : And) → and_weight d ≡ node_weight relation_weight d.initial + sum_by (node_weight relation_weight) d.extended
unfolding and_weight relation_weight
and_out d = rw (fold_out-And ℕ ℕ ℕ ℕ ℕ ℕ ℕ ℕ ℕ ℕ ℕ ℕ ℕ ℕ expr_step data_step access_step primary_step relation_step add_step and_step impl_step linked_step member_step mult_step or_step init_step unary_step d) (rw (cell relation_weight d.initial, cells relation_weight d.extended) refl)

pub add_out : (d : Add) → add_weight d ≡ node_weight mult_weight (out-Add d).initial + sum_by (λ p. node_weight mult_weight p.1) (out-Add d).extended
unfolding add_weight mult_weight
add_out d = rw (fold_out-Add ℕ ℕ ℕ ℕ ℕ ℕ ℕ ℕ ℕ ℕ ℕ ℕ ℕ ℕ expr_step data_step access_step primary_step relation_step add_step and_step impl_step linked_step member_step mult_step or_step init_step unary_step d) (rw (cell mult_weight (out-Add d).initial, pairs mult_weight (out-Add d).extended) refl)

pub mult_out : (d : Mult) → mult_weight d ≡ node_weight unary_weight (out-Mult d).initial + sum_by (λ p. node_weight unary_weight p.1) (out-Mult d).extended
unfolding mult_weight unary_weight
mult_out d = rw (fold_out-Mult ℕ ℕ ℕ ℕ ℕ ℕ ℕ ℕ ℕ ℕ ℕ ℕ ℕ ℕ expr_step data_step access_step primary_step relation_step add_step and_step impl_step linked_step member_step mult_step or_step init_step unary_step d) (rw (cell unary_weight (out-Mult d).initial, pairs unary_weight (out-Mult d).extended) refl)

pub unary_out : (d : Unary) → unary_weight d ≡ node_weight member_weight (out-Unary d).item
unfolding unary_weight member_weight
unary_out d = rw (fold_out-Unary ℕ ℕ ℕ ℕ ℕ ℕ ℕ ℕ ℕ ℕ ℕ ℕ ℕ ℕ expr_step data_step access_step primary_step relation_step add_step and_step impl_step linked_step member_step mult_step or_step init_step unary_step d) (cell member_weight (out-Unary d).item)

pub member_out : (d : Member) → member_weight d ≡ node_weight primary_weight d.item + sum_by (node_weight access_weight) d.access
unfolding member_weight primary_weight access_weight
member_out d = rw (fold_out-Member ℕ ℕ ℕ ℕ ℕ ℕ ℕ ℕ ℕ ℕ ℕ ℕ ℕ ℕ expr_step data_step access_step primary_step relation_step add_step and_step impl_step linked_step member_step mult_step or_step init_step unary_step d) (rw (cell primary_weight d.item, cells access_weight d.access) refl)

pub init_out : (d : RecInit) → init_weight d ≡ node_weight expr_weight d.0 + node_weight expr_weight d.1
unfolding init_weight expr_weight
init_out d = rw (fold_out-RecInit ℕ ℕ ℕ ℕ ℕ ℕ ℕ ℕ ℕ ℕ ℕ ℕ ℕ ℕ expr_step data_step access_step primary_step relation_step add_step and_step impl_step linked_step member_step mult_step or_step init_step unary_step d) (rw (cell expr_weight d.0, cell expr_weight d.1) refl)

pub impl_out : (d : ExprImpl) → impl_weight d ≡ linked_weight (out-ExprImpl d).expr
unfolding impl_weight linked_weight
impl_out d = rw (fold_out-ExprImpl ℕ ℕ ℕ ℕ ℕ ℕ ℕ ℕ ℕ ℕ ℕ ℕ ℕ ℕ expr_step data_step access_step primary_step relation_step add_step and_step impl_step linked_step member_step mult_step or_step init_step unary_step d) (refl)

pub linked_out : (d : Linked) → linked_weight d ≡ suc (data_weight d.content + waiting_weight d.next)
unfolding linked_weight data_weight expr_weight
linked_out d = rw (fold_out-Linked ℕ ℕ ℕ ℕ ℕ ℕ ℕ ℕ ℕ ℕ ℕ ℕ ℕ ℕ expr_step data_step access_step primary_step relation_step add_step and_step impl_step linked_step member_step mult_step or_step init_step unary_step d) (rw (through-weight expr_weight d.next) refl)

pub expr_out : (i : ExprImpl) → expr_weight (EV.Expr i) ≡ impl_weight i
unfolding expr_weight impl_weight
expr_out i = ap expr_weight (sym (EV.rolls-Expr i)) ∙ fold-roll-Expr ℕ ℕ ℕ ℕ ℕ ℕ ℕ ℕ ℕ ℕ ℕ ℕ ℕ ℕ expr_step data_step access_step primary_step relation_step add_step and_step impl_step linked_step member_step mult_step or_step init_step unary_step (Expr-F.«Expr::Expr» i)

pub data_or : (a : Node (Option Or)) → data_weight (D.Or a) ≡ node_weight or_weight a
unfolding data_weight or_weight
data_or a = ap data_weight (sym (DV.rolls-Or a)) ∙ fold-roll-ExprData ℕ ℕ ℕ ℕ ℕ ℕ ℕ ℕ ℕ ℕ ℕ ℕ ℕ ℕ expr_step data_step access_step primary_step relation_step add_step and_step impl_step linked_step member_step mult_step or_step init_step unary_step (ExprData-F.Or a) ∙ cell or_weight a

pub data_if : (a : Node (Option Expr)) (b : Node (Option Expr)) (c : Node (Option Expr)) → data_weight (D.If a b c) ≡ node_weight expr_weight a + (node_weight expr_weight b + node_weight expr_weight c)
unfolding data_weight expr_weight
data_if a b c = ap data_weight (sym (DV.rolls-If a b c)) ∙ fold-roll-ExprData ℕ ℕ ℕ ℕ ℕ ℕ ℕ ℕ ℕ ℕ ℕ ℕ ℕ ℕ expr_step data_step access_step primary_step relation_step add_step and_step impl_step linked_step member_step mult_step or_step init_step unary_step (ExprData-F.If a b c) ∙ rw (cell expr_weight a, cell expr_weight b, cell expr_weight c) refl

pub relation_common : (a : Node (Option Add)) (xs : List (RelOp × Node (Option Add))) → relation_weight (R.Common a xs) ≡ node_weight add_weight a + sum_by (λ p. node_weight add_weight p.1) xs
unfolding relation_weight add_weight
relation_common a xs = ap relation_weight (sym (RV.rolls-Common a xs)) ∙ fold-roll-Relation ℕ ℕ ℕ ℕ ℕ ℕ ℕ ℕ ℕ ℕ ℕ ℕ ℕ ℕ expr_step data_step access_step primary_step relation_step add_step and_step impl_step linked_step member_step mult_step or_step init_step unary_step (Relation-F.Common a xs) ∙ rw (cell add_weight a, pairs add_weight xs) refl

pub relation_has : (a : Node (Option Add)) (b : Node (Option Add)) → relation_weight (R.Has a b) ≡ node_weight add_weight a + node_weight add_weight b
unfolding relation_weight add_weight
relation_has a b = ap relation_weight (sym (RV.rolls-Has a b)) ∙ fold-roll-Relation ℕ ℕ ℕ ℕ ℕ ℕ ℕ ℕ ℕ ℕ ℕ ℕ ℕ ℕ expr_step data_step access_step primary_step relation_step add_step and_step impl_step linked_step member_step mult_step or_step init_step unary_step (Relation-F.Has a b) ∙ rw (cell add_weight a, cell add_weight b) refl

pub relation_like : (a : Node (Option Add)) (b : Node (Option Add)) → relation_weight (R.Like a b) ≡ node_weight add_weight a + node_weight add_weight b
unfolding relation_weight add_weight
relation_like a b = ap relation_weight (sym (RV.rolls-Like a b)) ∙ fold-roll-Relation ℕ ℕ ℕ ℕ ℕ ℕ ℕ ℕ ℕ ℕ ℕ ℕ ℕ ℕ expr_step data_step access_step primary_step relation_step add_step and_step impl_step linked_step member_step mult_step or_step init_step unary_step (Relation-F.Like a b) ∙ rw (cell add_weight a, cell add_weight b) refl

pub relation_is : (a b : Node (Option Add)) → relation_weight (R.IsIn a b None) ≡ node_weight add_weight a + (node_weight add_weight b + option_weight (node_weight add_weight) None)
unfolding relation_weight add_weight
relation_is a b = ap relation_weight (sym (RV.rolls-IsIn a b None)) ∙ fold-roll-Relation ℕ ℕ ℕ ℕ ℕ ℕ ℕ ℕ ℕ ℕ ℕ ℕ ℕ ℕ expr_step data_step access_step primary_step relation_step add_step and_step impl_step linked_step member_step mult_step or_step init_step unary_step (Relation-F.IsIn a b None) ∙ rw (cell add_weight a, cell add_weight b) refl

pub relation_is_in : (a b c : Node (Option Add)) → relation_weight (R.IsIn a b (Some c)) ≡ node_weight add_weight a + (node_weight add_weight b + option_weight (node_weight add_weight) (Some c))
unfolding relation_weight add_weight
relation_is_in a b c = ap relation_weight (sym (RV.rolls-IsIn a b (Some c))) ∙ fold-roll-Relation ℕ ℕ ℕ ℕ ℕ ℕ ℕ ℕ ℕ ℕ ℕ ℕ ℕ ℕ expr_step data_step access_step primary_step relation_step add_step and_step impl_step linked_step member_step mult_step or_step init_step unary_step (Relation-F.IsIn a b (Some c)) ∙ rw (cell add_weight a, cell add_weight b, cell add_weight c) refl

pub relation_typed : (a b : Node (Option Add)) (c : Option (Node (Option Add))) → relation_weight (R.IsIn a b c) ≡ node_weight add_weight a + (node_weight add_weight b + option_weight (node_weight add_weight) c)
relation_typed a b None = relation_is a b
relation_typed a b (Some c) = relation_is_in a b c

pub access_field : (a : Node (Option Ident)) → access_weight (M.Field a) ≡ 0
unfolding access_weight
access_field a = ap access_weight (sym (MV.rolls-Field a)) ∙ fold-roll-MemAccess ℕ ℕ ℕ ℕ ℕ ℕ ℕ ℕ ℕ ℕ ℕ ℕ ℕ ℕ expr_step data_step access_step primary_step relation_step add_step and_step impl_step linked_step member_step mult_step or_step init_step unary_step (MemAccess-F.Field a)

pub access_call : (a : List (Node (Option Expr))) → access_weight (M.Call a) ≡ sum_by (node_weight expr_weight) a
unfolding access_weight expr_weight
access_call a = ap access_weight (sym (MV.rolls-Call a)) ∙ fold-roll-MemAccess ℕ ℕ ℕ ℕ ℕ ℕ ℕ ℕ ℕ ℕ ℕ ℕ ℕ ℕ expr_step data_step access_step primary_step relation_step add_step and_step impl_step linked_step member_step mult_step or_step init_step unary_step (MemAccess-F.Call a) ∙ cells expr_weight a

pub access_index : (a : Node (Option Expr)) → access_weight (M.Index a) ≡ node_weight expr_weight a
unfolding access_weight expr_weight
access_index a = ap access_weight (sym (MV.rolls-Index a)) ∙ fold-roll-MemAccess ℕ ℕ ℕ ℕ ℕ ℕ ℕ ℕ ℕ ℕ ℕ ℕ ℕ ℕ expr_step data_step access_step primary_step relation_step add_step and_step impl_step linked_step member_step mult_step or_step init_step unary_step (MemAccess-F.Index a) ∙ cell expr_weight a

pub primary_literal : (a : Node (Option Literal)) → primary_weight (P.Literal a) ≡ 0
unfolding primary_weight
primary_literal a = ap primary_weight (sym (PV.rolls-Literal a)) ∙ fold-roll-Primary ℕ ℕ ℕ ℕ ℕ ℕ ℕ ℕ ℕ ℕ ℕ ℕ ℕ ℕ expr_step data_step access_step primary_step relation_step add_step and_step impl_step linked_step member_step mult_step or_step init_step unary_step (Primary-F.Literal a)

pub primary_ref : (a : Node (Option Ref)) → primary_weight (P.Ref a) ≡ 0
unfolding primary_weight
primary_ref a = ap primary_weight (sym (PV.rolls-Ref a)) ∙ fold-roll-Primary ℕ ℕ ℕ ℕ ℕ ℕ ℕ ℕ ℕ ℕ ℕ ℕ ℕ ℕ expr_step data_step access_step primary_step relation_step add_step and_step impl_step linked_step member_step mult_step or_step init_step unary_step (Primary-F.Ref a)

pub primary_name : (a : Node (Option Name)) → primary_weight (P.Name a) ≡ 0
unfolding primary_weight
primary_name a = ap primary_weight (sym (PV.rolls-Name a)) ∙ fold-roll-Primary ℕ ℕ ℕ ℕ ℕ ℕ ℕ ℕ ℕ ℕ ℕ ℕ ℕ ℕ expr_step data_step access_step primary_step relation_step add_step and_step impl_step linked_step member_step mult_step or_step init_step unary_step (Primary-F.Name a)

pub primary_slot : (a : Node (Option Slot)) → primary_weight (P.Slot a) ≡ 0
unfolding primary_weight
primary_slot a = ap primary_weight (sym (PV.rolls-Slot a)) ∙ fold-roll-Primary ℕ ℕ ℕ ℕ ℕ ℕ ℕ ℕ ℕ ℕ ℕ ℕ ℕ ℕ expr_step data_step access_step primary_step relation_step add_step and_step impl_step linked_step member_step mult_step or_step init_step unary_step (Primary-F.Slot a)

pub primary_expr : (a : Node (Option Expr)) → primary_weight (P.Expr a) ≡ node_weight expr_weight a
unfolding primary_weight expr_weight
primary_expr a = ap primary_weight (sym (PV.rolls-Expr a)) ∙ fold-roll-Primary ℕ ℕ ℕ ℕ ℕ ℕ ℕ ℕ ℕ ℕ ℕ ℕ ℕ ℕ expr_step data_step access_step primary_step relation_step add_step and_step impl_step linked_step member_step mult_step or_step init_step unary_step (Primary-F.«Primary::Expr» a) ∙ cell expr_weight a

pub primary_list : (a : List (Node (Option Expr))) → primary_weight (P.EList a) ≡ sum_by (node_weight expr_weight) a
unfolding primary_weight expr_weight
primary_list a = ap primary_weight (sym (PV.rolls-EList a)) ∙ fold-roll-Primary ℕ ℕ ℕ ℕ ℕ ℕ ℕ ℕ ℕ ℕ ℕ ℕ ℕ ℕ expr_step data_step access_step primary_step relation_step add_step and_step impl_step linked_step member_step mult_step or_step init_step unary_step (Primary-F.EList a) ∙ cells expr_weight a

pub primary_inits : (a : List (Node (Option RecInit))) → primary_weight (P.RInits a) ≡ sum_by (node_weight init_weight) a
unfolding primary_weight init_weight
primary_inits a = ap primary_weight (sym (PV.rolls-RInits a)) ∙ fold-roll-Primary ℕ ℕ ℕ ℕ ℕ ℕ ℕ ℕ ℕ ℕ ℕ ℕ ℕ ℕ expr_step data_step access_step primary_step relation_step add_step and_step impl_step linked_step member_step mult_step or_step init_step unary_step (Primary-F.RInits a) ∙ cells init_weight a

pub rolled : (l : Linked) → impl_weight (roll-ExprImpl record { expr = l }) ≡ linked_weight l
rolled l = impl_out (roll-ExprImpl record { expr = l }) ∙ ap (λ (o : ExprImpl-F Expr ExprData MemAccess Primary Relation Add And ExprImpl Linked Member Mult Or RecInit Unary). linked_weight o.expr) (out-roll-ExprImpl record { expr = l })

-- ---- parts let wait one after another

pub none : {p w : ℕ} → w ≡ 0 → p ≡ w + p
none {p} {w} e = omega arith

pub one : (a p : ℕ) {r w : ℕ} → r ≡ a + p → w ≡ a → r ≡ w + p
one a p {r} {w} d e = omega arith

pub two : (a b p : ℕ) {m r w : ℕ} → m ≡ a + p → r ≡ b + m → w ≡ a + b → r ≡ w + p
two a b p {m} {r} {w} d e f = omega arith

pub three : (a b c p : ℕ) {m n r w : ℕ} → m ≡ a + p → n ≡ b + m → r ≡ c + n
    → w ≡ a + (b + c) → r ≡ w + p
three a b c p {m} {n} {r} {w} d e f g = omega arith
