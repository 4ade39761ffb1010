-- The expressions that stand straight in a tree weigh what the tree does.
use Rattle.std.proofs.Common.{◌≡◌, ℕ, suc, ◌+◌, ◌<◌, arith, refl, ap, sym, ◌∙◌, Option, Some, None, List, [], ◌∷◌, ◌++◌}
use Rattle.std.specs.List.{sum_by}
use Rattle.std.proofs.lemmas.List.Sums.{sum_by-cons, sum_by-append}
use denote.Ref.{Bor}
use Rattle.cedar_syntax.specs.declared.node.Node.{Node}
use Rattle.cedar_syntax.specs.declared.cst.Expr.{Expr}
use Rattle.cedar_syntax.specs.declared.cst.ExprData.{ExprData, out-ExprData}
use Rattle.cedar_syntax.specs.declared.cst.MemAccess.{MemAccess, out-MemAccess}
use Rattle.cedar_syntax.specs.declared.cst.Primary.{Primary, out-Primary}
use Rattle.cedar_syntax.specs.declared.cst.Relation.{Relation, out-Relation}
use Rattle.cedar_syntax.specs.declared.cst.Add.{Add, out-Add}
use Rattle.cedar_syntax.specs.declared.cst.And.{And}
use Rattle.cedar_syntax.specs.declared.cst.ExprImpl.{ExprImpl, out-ExprImpl}
use Rattle.cedar_syntax.specs.declared.cst.Linked.{Linked}
use Rattle.cedar_syntax.specs.declared.cst.Member.{Member}
use Rattle.cedar_syntax.specs.declared.cst.Mult.{Mult, out-Mult}
use Rattle.cedar_syntax.specs.declared.cst.Or.{Or, out-Or}
use Rattle.cedar_syntax.specs.declared.cst.RecInit.{RecInit}
use Rattle.cedar_syntax.specs.declared.cst.Unary.{Unary, out-Unary}
use Rattle.cedar_syntax.specs.declared.cst.Expr.TheOpen.{ExprData-F, MemAccess-F, Primary-F, Relation-F}
use Rattle.cedar_syntax.specs.declared.cst.Expr.TheViews.{roll-ExprData, roll-MemAccess, roll-Primary, roll-Relation, roll-out-ExprData, roll-out-MemAccess, roll-out-Primary, roll-out-Relation}
use Rattle.cedar_syntax.specs.declared.cst.Expr.TheVariants as EV
use Rattle.cedar_syntax.specs.declared.cst.ExprData.TheVariants as DV
use Rattle.cedar_syntax.specs.declared.cst.MemAccess.TheVariants as MV
use Rattle.cedar_syntax.specs.declared.cst.Primary.TheVariants as PV
use Rattle.cedar_syntax.specs.declared.cst.Relation.TheVariants as RV
use Rattle.cedar_syntax.specs.trees.Weight.{option_weight, waiting_weight, expr_weight, data_weight, access_weight, primary_weight, relation_weight, add_weight, and_weight, member_weight, mult_weight, or_weight, init_weight, unary_weight}
use Rattle.cedar_syntax.specs.printing.Pieces.{next_exprs}
use Rattle.cedar_syntax.specs.trees.Inside.{option_inside, node_inside, all_inside, operand_inside, expr_in, in_primary, in_access, in_relation, in_data, data_inside, access_inside, primary_inside, relation_inside, add_inside, and_inside, member_inside, mult_inside, or_inside, init_inside, unary_inside}
use Rattle.cedar_syntax.proofs.Weights as level
use Rattle.cedar_syntax.proofs.Weights.{node_weight}

abbrev pub exprs_weight : List Expr → ℕ
exprs_weight = sum_by expr_weight

two : (xs ys : List Expr) {m n : ℕ} → exprs_weight xs ≡ m → exprs_weight ys ≡ n → exprs_weight (xs ++ ys) ≡ m + n
two xs ys p q = sum_by-append expr_weight xs ys ∙ (λ i. p i + q i)

module _ {X : Type 0} (f : X → List Expr) (w : X → ℕ) (h : (x : X) → exprs_weight (f x) ≡ w x) where
  option : (o : Option X) → exprs_weight (option_inside f o) ≡ option_weight w o
  option None = refl
  option (Some x) = h x

  all : (xs : List X) → exprs_weight (all_inside f xs) ≡ sum_by w xs
  all [] = refl
  all (x ∷ xs) = two (f x) (all_inside f xs) (h x) (all xs) ∙ sym (sum_by-cons w x xs)

module _ {X : Type 0} (f : X → List Expr) (w : X → ℕ) (h : (x : X) → exprs_weight (f x) ≡ w x) where
  node : (n : Node (Option X)) → exprs_weight (node_inside f n) ≡ node_weight w n
  node n = option f w h n.node

  nodes : (ns : List (Node (Option X))) → exprs_weight (all_inside (node_inside f) ns) ≡ sum_by (node_weight w) ns
  nodes ns = all (node_inside f) (node_weight w) node ns

  operands : {O : Type 0} (ps : List (O × Node (Option X))) → exprs_weight (all_inside (operand_inside f) ps) ≡ sum_by (λ p. node_weight w p.1) ps
  operands ps = all (operand_inside f) (λ p. node_weight w p.1) (λ p. node p.1) ps

one : (x : Expr) → exprs_weight (x ∷ []) ≡ expr_weight x
one x = omega arith

it : (n : Node (Option Expr)) → exprs_weight (expr_in n) ≡ node_weight expr_weight n
it n = node (λ x. x ∷ []) expr_weight one n

its : (ns : List (Node (Option Expr))) → exprs_weight (all_inside expr_in ns) ≡ sum_by (node_weight expr_weight) ns
its ns = nodes (λ x. x ∷ []) expr_weight one ns

-- ---- each level

init_is : (d : RecInit) → exprs_weight (init_inside d) ≡ init_weight d
init_is d = two (expr_in d.0) (expr_in d.1) (it d.0) (it d.1) ∙ sym (level.init_out d)

in_primary_is : (o : Primary-F Expr ExprData MemAccess Primary Relation Add And ExprImpl Linked Member Mult Or RecInit Unary) → exprs_weight (in_primary o) ≡ primary_weight (roll-Primary o)
in_primary_is (Primary-F.Literal a) = sym (ap primary_weight (PV.rolls-Literal a) ∙ level.primary_literal a)
in_primary_is (Primary-F.Ref a) = sym (ap primary_weight (PV.rolls-Ref a) ∙ level.primary_ref a)
in_primary_is (Primary-F.Name a) = sym (ap primary_weight (PV.rolls-Name a) ∙ level.primary_name a)
in_primary_is (Primary-F.Slot a) = sym (ap primary_weight (PV.rolls-Slot a) ∙ level.primary_slot a)
in_primary_is (Primary-F.«Primary::Expr» a) = it a ∙ sym (ap primary_weight (PV.rolls-Expr a) ∙ level.primary_expr a)
in_primary_is (Primary-F.EList a) = its a ∙ sym (ap primary_weight (PV.rolls-EList a) ∙ level.primary_list a)
in_primary_is (Primary-F.RInits a) = nodes init_inside init_weight init_is a ∙ sym (ap primary_weight (PV.rolls-RInits a) ∙ level.primary_inits a)

primary_is : (d : Primary) → exprs_weight (primary_inside d) ≡ primary_weight d
primary_is d = in_primary_is (out-Primary d) ∙ ap primary_weight (roll-out-Primary d)

in_access_is : (o : MemAccess-F Expr ExprData MemAccess Primary Relation Add And ExprImpl Linked Member Mult Or RecInit Unary) → exprs_weight (in_access o) ≡ access_weight (roll-MemAccess o)
in_access_is (MemAccess-F.Field a) = sym (ap access_weight (MV.rolls-Field a) ∙ level.access_field a)
in_access_is (MemAccess-F.Call a) = its a ∙ sym (ap access_weight (MV.rolls-Call a) ∙ level.access_call a)
in_access_is (MemAccess-F.Index a) = it a ∙ sym (ap access_weight (MV.rolls-Index a) ∙ level.access_index a)

access_is : (d : MemAccess) → exprs_weight (access_inside d) ≡ access_weight d
access_is d = in_access_is (out-MemAccess d) ∙ ap access_weight (roll-out-MemAccess d)

member_is : (d : Member) → exprs_weight (member_inside d) ≡ member_weight d
member_is d = two (node_inside primary_inside d.item) (all_inside (node_inside access_inside) d.access) (node primary_inside primary_weight primary_is d.item) (nodes access_inside access_weight access_is d.access) ∙ sym (level.member_out d)

unary_is : (d : Unary) → exprs_weight (unary_inside d) ≡ unary_weight d
unary_is d = node member_inside member_weight member_is (out-Unary d).item ∙ sym (level.unary_out d)

mult_is : (d : Mult) → exprs_weight (mult_inside d) ≡ mult_weight d
mult_is d = two (node_inside unary_inside (out-Mult d).initial) (all_inside (operand_inside unary_inside) (out-Mult d).extended) (node unary_inside unary_weight unary_is (out-Mult d).initial) (operands unary_inside unary_weight unary_is (out-Mult d).extended) ∙ sym (level.mult_out d)

add_is : (d : Add) → exprs_weight (add_inside d) ≡ add_weight d
add_is d = two (node_inside mult_inside (out-Add d).initial) (all_inside (operand_inside mult_inside) (out-Add d).extended) (node mult_inside mult_weight mult_is (out-Add d).initial) (operands mult_inside mult_weight mult_is (out-Add d).extended) ∙ sym (level.add_out d)

sum_is : (n : Node (Option Add)) → exprs_weight (node_inside add_inside n) ≡ node_weight add_weight n
sum_is n = node add_inside add_weight add_is n

in_relation_is : (o : Relation-F Expr ExprData MemAccess Primary Relation Add And ExprImpl Linked Member Mult Or RecInit Unary) → exprs_weight (in_relation o) ≡ relation_weight (roll-Relation o)
in_relation_is (Relation-F.Common a xs) = two (node_inside add_inside a) (all_inside (operand_inside add_inside) xs) (sum_is a) (operands add_inside add_weight add_is xs) ∙ sym (ap relation_weight (RV.rolls-Common a xs) ∙ level.relation_common a xs)
in_relation_is (Relation-F.Has a b) = two (node_inside add_inside a) (node_inside add_inside b) (sum_is a) (sum_is b) ∙ sym (ap relation_weight (RV.rolls-Has a b) ∙ level.relation_has a b)
in_relation_is (Relation-F.Like a b) = two (node_inside add_inside a) (node_inside add_inside b) (sum_is a) (sum_is b) ∙ sym (ap relation_weight (RV.rolls-Like a b) ∙ level.relation_like a b)
in_relation_is (Relation-F.IsIn a b c) = two (node_inside add_inside a) (node_inside add_inside b ++ option_inside (node_inside add_inside) c) (sum_is a) (two (node_inside add_inside b) (option_inside (node_inside add_inside) c) (sum_is b) (option (node_inside add_inside) (node_weight add_weight) sum_is c)) ∙ sym (ap relation_weight (RV.rolls-IsIn a b c) ∙ level.relation_typed a b c)

relation_is : (d : Relation) → exprs_weight (relation_inside d) ≡ relation_weight d
relation_is d = in_relation_is (out-Relation d) ∙ ap relation_weight (roll-out-Relation d)

and_is : (d : And) → exprs_weight (and_inside d) ≡ and_weight d
and_is d = two (node_inside relation_inside d.initial) (all_inside (node_inside relation_inside) d.extended) (node relation_inside relation_weight relation_is d.initial) (nodes relation_inside relation_weight relation_is d.extended) ∙ sym (level.and_out d)

or_is : (d : Or) → exprs_weight (or_inside d) ≡ or_weight d
or_is d = two (node_inside and_inside (out-Or d).initial) (all_inside (node_inside and_inside) (out-Or d).extended) (node and_inside and_weight and_is (out-Or d).initial) (nodes and_inside and_weight and_is (out-Or d).extended) ∙ sym (level.or_out d)

in_data_is : (o : ExprData-F Expr ExprData MemAccess Primary Relation Add And ExprImpl Linked Member Mult Or RecInit Unary) → exprs_weight (in_data o) ≡ data_weight (roll-ExprData o)
in_data_is (ExprData-F.Or a) = node or_inside or_weight or_is a ∙ sym (ap data_weight (DV.rolls-Or a) ∙ level.data_or a)
in_data_is (ExprData-F.If a b c) = two (expr_in a) (expr_in b ++ expr_in c) (it a) (two (expr_in b) (expr_in c) (it b) (it c)) ∙ sym (ap data_weight (DV.rolls-If a b c) ∙ level.data_if a b c)

pub data_is : (d : ExprData) → exprs_weight (data_inside d) ≡ data_weight d
data_is d = in_data_is (out-ExprData d) ∙ ap data_weight (roll-out-ExprData d)

-- what stands in an expression weighs one less than it
pub below : (x : Expr) (i : ExprImpl) → x ≡ EV.Expr i → suc (exprs_weight (data_inside (out-ExprImpl i).expr.content) + waiting_weight (out-ExprImpl i).expr.next) ≡ expr_weight x
below x i e = let l = (out-ExprImpl i).expr in ap (λ n. suc (n + waiting_weight l.next)) (data_is l.content) ∙ sym (ap expr_weight e ∙ level.expr_out i ∙ level.impl_out i ∙ level.linked_out l)

-- what is left is less once an expression is unfolded
counts : (all less w inner same rest behind : ℕ) → all ≡ w + rest → less ≡ inner + rest → inner ≡ same
    → suc (same + behind) ≡ w → less < all
counts all less w inner same rest behind a b c d = omega arith

pub smaller : (r : Option (Bor Expr)) (y : Bor Expr) (i : ExprImpl) (d : ExprData) (xs ys zs : List Expr)
    → xs ≡ next_exprs r ++ zs → r ≡ Some y → y.now ≡ EV.Expr i → d ≡ (out-ExprImpl i).expr.content
    → ys ≡ data_inside d ++ zs → exprs_weight ys < exprs_weight xs
smaller r y i d xs ys zs e k a b u =
    let before = ap exprs_weight (e ∙ ap (λ o. next_exprs o ++ zs) k) ∙ sum_by-append expr_weight (y.now ∷ []) zs ∙ ap (λ n. n + exprs_weight zs) (one y.now) in
    let after = ap exprs_weight u ∙ sum_by-append expr_weight (data_inside d) zs in
    let l = (out-ExprImpl i).expr in
    counts (exprs_weight xs) (exprs_weight ys) (expr_weight y.now) (exprs_weight (data_inside d)) (exprs_weight (data_inside l.content)) (exprs_weight zs) (waiting_weight l.next) before after (ap (λ o. exprs_weight (data_inside o)) b) (below y.now i a)

-- the same with what waits behind it
both_count : (all less mid w inner next wait rest : ℕ) → all ≡ w + rest → less ≡ inner + mid → mid ≡ next + rest → next ≡ wait
    → suc (inner + wait) ≡ w → less < all
both_count all less mid w inner next wait rest a b c d e = omega arith

pub listed_smaller : (y : Bor Expr) (i : ExprImpl) (l : Linked) (r : Option (Bor Expr)) (old one two three : List Expr)
    → old ≡ next_exprs r ++ one → r ≡ Some y → y.now ≡ EV.Expr i → l ≡ (out-ExprImpl i).expr
    → two ≡ option_inside (λ x. x ∷ []) l.next ++ one → three ≡ data_inside l.content ++ two → exprs_weight three < exprs_weight old
listed_smaller y i l r old one_left two_left three e k a b u v =
    let next = option_inside (λ x. x ∷ []) l.next in
    let before = ap exprs_weight (e ∙ ap (λ o. next_exprs o ++ one_left) k) ∙ sum_by-append expr_weight (y.now ∷ []) one_left ∙ ap (λ n. n + exprs_weight one_left) (one y.now) in
    let after = ap exprs_weight v ∙ sum_by-append expr_weight (data_inside l.content) two_left in
    let between = ap exprs_weight u ∙ sum_by-append expr_weight next one_left in
    both_count (exprs_weight old) (exprs_weight three) (exprs_weight two_left) (expr_weight y.now) (exprs_weight (data_inside l.content)) (exprs_weight next) (waiting_weight l.next) (exprs_weight one_left)
    before after between (option (λ x. x ∷ []) expr_weight one l.next)
    (ap (λ (o : Linked). suc (exprs_weight (data_inside o.content) + waiting_weight o.next)) b ∙ below y.now i a)
