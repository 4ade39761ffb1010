-- The primary that each node is, of that which its part is.
use Rattle.std.proofs.Common.{◌≡◌, ◌<◌, List, [], append-nil, Option, Some, None, Result, Ok, Err, refl, sym, ap, ◌∙◌, Bool, true, false, if◌then◌else◌}
use Rattle.cedar_syntax.specs.declared.loc.Loc.{Loc}
use Rattle.cedar_syntax.specs.declared.node.Node.{Node}
use Rattle.cedar_syntax.specs.declared.cst.Expr.{Expr}
use Rattle.cedar_syntax.specs.declared.cst.ExprData.{ExprData}
use Rattle.cedar_syntax.specs.declared.cst.ExprData.TheVariants as datas
use Rattle.cedar_syntax.specs.declared.cst.Or.{Or}
use Rattle.cedar_syntax.specs.declared.cst.And.{And}
use Rattle.cedar_syntax.specs.declared.cst.Relation.{Relation}
use Rattle.cedar_syntax.specs.declared.cst.Expr.TheOpen.{Relation-F}
use Rattle.cedar_syntax.specs.declared.cst.Expr.TheFolds.{fold_out-Relation}
use Rattle.cedar_syntax.specs.declared.cst.Add.{Add}
use Rattle.cedar_syntax.specs.declared.cst.Mult.{Mult}
use Rattle.cedar_syntax.specs.declared.cst.Unary.{Unary}
use Rattle.cedar_syntax.specs.declared.cst.Member.{Member}
use Rattle.cedar_syntax.specs.declared.cst.Primary.{Primary}
use Rattle.cedar_syntax.specs.declared.cst.Primary.TheVariants as primaries
use Rattle.cedar_syntax.specs.declared.cst.Literal.{Literal}
use Rattle.cedar_syntax.specs.declared.cst.Name.{Name}
use Rattle.cedar_syntax.specs.declared.cst.Slot.{Slot}
use Rattle.cedar_syntax.specs.declared.cst.Ref.{Ref}
use Rattle.cedar_syntax.specs.declared.cst.RecInit.{RecInit}
use Rattle.cedar_syntax.specs.trees.Forms.{F, located, form_at, expr_step, data_step, access_step, primary_step, relation_step, add_step, and_step, impl_step, linked_step, member_step, mult_step, or_step, init_step, unary_step, expr_form, data_form, or_form, and_form, relation_form, add_form, mult_form, unary_form, member_form, primary_form}
use Rattle.cedar_syntax.specs.trees.Located as f
use Rattle.cedar_syntax.specs.trees.Located.{Located, Form}
use Rattle.cedar_syntax.proofs.FormLevels.{data_or, data_if, or_out, and_out, add_out, mult_out, unary_out, member_out, primary_literal, primary_ref, primary_name, primary_slot, primary_expr, primary_list, primary_inits}
use Rattle.cedar_conversion.specs.outcome.LonePart.{lone_part, no_sign}
use Rattle.cedar_conversion.specs.outcome.Seen.{Gives, Refuses}
use Rattle.cedar_conversion.specs.outcome.Outcome.{Outcome, fault_outcome, empty_node, wrong_node}
use Rattle.cedar_conversion.proofs.LoneParts.{through, to_part}
use Rattle.std.specs.Option.{option_map}
use Rattle.std.specs.Result.{IsErrAnd}
use denote.Ref.{Bor}
use Rattle.cedar_syntax.specs.declared.err.faults.Failure.{Failure}
use Rattle.cedar_conversion.specs.machines.Nested.{nested}
use Rattle.cedar_conversion.proofs.Nested as inner
use Rattle.cedar_conversion.proofs.Outcomes.{nothing_refused}
use Rattle.cedar_conversion.proofs.Weights.{all_weight, first_opened}
use Rattle.cedar_policy_conversion.specs.machines.LonePaths.{ComesToPrimary, child_at, child_outcome}
use Rattle.cedar_policy_conversion.specs.References.{lone, lone_form}

-- ---- nodes

pub no_lone : {X : Type 0} (g : X → Form) (n : Node (Option X)) → n.node ≡ None → lone (located g n) ≡ fault_outcome empty_node n.loc
unfolding lone
no_lone g n h = rw h refl

lone_is : {X : Type 0} (g : X → Form) (n : Node (Option X)) (x : X) (t : Form) → n.node ≡ Some x → g x ≡ t → lone (located g n) ≡ lone_form n.loc t
unfolding lone
lone_is g n x t h k = rw h (ap (λ u. lone_form n.loc u) k)

pub located_is : {X : Type 0} (g : X → Form) (n : Node (Option X)) (x : X) (t : Form) → n.node ≡ Some x → g x ≡ t → located g n ≡ f.at n.loc t
located_is g n x t h k = rw h (ap (λ u. f.at n.loc u) k)

-- ---- levels

-- a node that is one part alone comes to what its part comes to
by_sign : (y : Outcome Located) (n : Located) (b : Bool) → (if b then lone n else y) ≡ through lone (if b then lone n else y) (if b then Some n else None)
by_sign y n true = refl
by_sign y n false = refl

by_part : (p : Option Loc) (t : Form) → lone_form p t ≡ through lone (lone_form p t) (lone_part t)
unfolding lone_form
by_part p (f.only n) = refl
by_part p (f.chain level n f.none) = refl
by_part p (f.unary op n) = by_sign (fault_outcome wrong_node p) n (no_sign op)
by_part p (f.member n f.none) = refl
by_part p t = refl

part_lone : {X Y : Type 0} (g : X → Form) (h : Y → Form) (n : Node (Option X)) (d : X) (a : Node (Option Y)) → n.node ≡ Some d → Some (located h a) ≡ lone_part (g d) → lone (located g n) ≡ lone (located h a)
part_lone g h n d a e k = to_part lone (lone_form n.loc (g d)) _ (lone_part (g d)) (located h a) (lone_is g n d _ e refl ∙ by_part n.loc (g d)) k

-- a primary: no level of operators, and no access
abbrev is_primary : Form → Bool
is_primary (f.literal n) = true
is_primary (f.name n) = true
is_primary (f.slot n) = true
is_primary (f.reference n) = true
is_primary (f.parens n) = true
is_primary (f.set items) = true
is_primary (f.record_of inits) = true
is_primary _ = false

-- any other level comes to nothing
no_part : {Y : Type 0} (a : Y) → None ≡ Some a → ⊥
no_part a h = cc

wrong_form : (p : Option Loc) (t : Form) → is_primary t ≡ false → None ≡ lone_part t → lone_form p t ≡ fault_outcome wrong_node p
unfolding lone_form
wrong_form p (f.only n) e h = absurd (no_part n h)
wrong_form p (f.chain level n f.none) e h = absurd (no_part n h)
wrong_form p (f.chain level n (f.more op m others)) e h = refl
wrong_form p (f.unary op n) e h = go (no_sign op) h
  where
    go : (b : Bool) → None ≡ (if b then Some n else None) → (if b then lone n else fault_outcome wrong_node p) ≡ fault_outcome wrong_node p
    go true k = absurd (no_part n k)
    go false k = refl
wrong_form p (f.member n f.none) e h = absurd (no_part n h)
wrong_form p (f.member n (f.more op m others)) e h = refl
wrong_form p (f.literal n) e h = cc
wrong_form p (f.name n) e h = cc
wrong_form p (f.slot n) e h = cc
wrong_form p (f.reference n) e h = cc
wrong_form p (f.parens n) e h = cc
wrong_form p (f.set items) e h = cc
wrong_form p (f.record_of inits) e h = cc
wrong_form p t e h = refl

wrong_level : {X : Type 0} (g : X → Form) (n : Node (Option X)) (d : X) → n.node ≡ Some d → is_primary (g d) ≡ false → None ≡ lone_part (g d) → lone (located g n) ≡ fault_outcome wrong_node n.loc
wrong_level g n d e k h = lone_is g n d _ e refl ∙ wrong_form n.loc (g d) k h

pub only_expr : (n : Node (Option Expr)) (d : Expr) (x : ExprData) (a : Node (Option Or)) → n.node ≡ Some d → expr_form d ≡ data_form x → x ≡ datas.Or a → lone (located expr_form n) ≡ lone (located or_form a)
unfolding lone_form
only_expr n d x a h k l = lone_is expr_form n d _ h (k ∙ ap data_form l ∙ data_or a)

pub if_expr : (n : Node (Option Expr)) (d : Expr) (x : ExprData) (a b c : Node (Option Expr)) → n.node ≡ Some d → expr_form d ≡ data_form x → x ≡ datas.If a b c → lone (located expr_form n) ≡ fault_outcome wrong_node n.loc
unfolding lone_form
if_expr n d x a b c h k l = lone_is expr_form n d _ h (k ∙ ap data_form l ∙ data_if a b c)

-- a node comes to the primary to which its one part comes
pub comes : (n m : Located) (r : Result (Bor (Node (Option Primary))) Failure) → lone n ≡ lone m → nested n ≡ nested m → ComesToPrimary m r → ComesToPrimary n r
comes n m (Ok p) h k c = (h ∙ c.0, k ∙ c.1)
comes n m (Err f) h k c = rw h c

some_child : (place : Option Loc) (o : Option Located) (m : Located) → child_at place o ≡ Ok m → Some m ≡ o
some_child place (Some a) m h = cc
some_child place None m h = cc

child : {X Y : Type 0} (g : X → Form) (h : Y → Form) (n : Node (Option X)) (a : Node (Option Y)) → child_outcome (located g n) ≡ Ok (located h a) → (lone (located g n) ≡ lone (located h a)) × (nested (located g n) ≡ nested (located h a))
child {X} {Y} g h n a = go n.node refl
  where
    go : (o : Option X) → n.node ≡ o → child_outcome (form_at n.loc (option_map g o)) ≡ Ok (located h a) → (lone (located g n) ≡ lone (located h a)) × (nested (located g n) ≡ nested (located h a))
    go None e k = cc
    go (Some d) e k = let part = some_child n.loc (lone_part (g d)) (located h a) k in (part_lone g h n d a e part, inner.part g h n d a e part)

pub comes_by : {X Y : Type 0} (g : X → Form) (h : Y → Form) (n : Node (Option X)) (a : Node (Option Y)) (r : Result (Bor (Node (Option Primary))) Failure) → child_outcome (located g n) ≡ Ok (located h a)
    → ComesToPrimary (located h a) r → ComesToPrimary (located g n) r
comes_by g h n a r k c = let same = child g h n a k in comes (located g n) (located h a) r same.0 same.1 c

-- and is refused as it is no one part
no_child : {X : Type 0} (g : X → Form) (n : Node (Option X)) (d : X) (f : Failure) (o : Option Located) → n.node ≡ Some d → is_primary (g d) ≡ false → o ≡ lone_part (g d) → Refuses f (child_at n.loc o) → Refuses f (lone (located g n))
no_child g n d f (Some a) e level i k = nothing_refused f a (lone (located g n)) k
no_child g n d f None e level i k = rw (wrong_level g n d e level i) k

childless : {X : Type 0} (g : X → Form) → ((d : X) → is_primary (g d) ≡ false) → (n : Node (Option X)) (f : Failure) → Refuses f (child_outcome (located g n)) → Refuses f (lone (located g n))
childless {X} g levels n f = go n.node refl
  where
    go : (o : Option X) → n.node ≡ o → Refuses f (child_outcome (form_at n.loc (option_map g o))) → Refuses f (lone (located g n))
    go None e k = rw (no_lone g n e) k
    go (Some d) e k = no_child g n d f (lone_part (g d)) e (levels d) refl k

pub comes_to_none : {X : Type 0} (g : X → Form) → ((d : X) → is_primary (g d) ≡ false) → (n : Node (Option X)) (r : Result (Bor (Node (Option Primary))) Failure) (f : Failure) → IsErrAnd r (λ e. e ≡ f)
    → Refuses f (child_outcome (located g n)) → ComesToPrimary (located g n) r
comes_to_none g levels n (Ok p) f is k = absurd is
comes_to_none g levels n (Err e) f is k = rw is (childless g levels n f k)

pub comes_at_last : {X : Type 0} (g : X → Form) → ((d : X) → is_primary (g d) ≡ false) → (n : Node (Option X)) (r : Result (Bor (Node (Option Primary))) Failure) → Gives (λ p. located primary_form p.now) r (child_outcome (located g n))
    → ComesToPrimary (located g n) r
comes_at_last g levels n (Ok p) k = child g primary_form n p.now k
comes_at_last g levels n (Err f) k = childless g levels n f k

-- no level above is a primary
pub or_level : (d : Or) → is_primary (or_form d) ≡ false
or_level d = ap is_primary (or_out d)

pub and_level : (d : And) → is_primary (and_form d) ≡ false
and_level d = ap is_primary (and_out d)

pub add_level : (d : Add) → is_primary (add_form d) ≡ false
add_level d = ap is_primary (add_out d)

pub mult_level : (d : Mult) → is_primary (mult_form d) ≡ false
mult_level d = ap is_primary (mult_out d)

pub unary_level : (d : Unary) → is_primary (unary_form d) ≡ false
unary_level d = ap is_primary (unary_out d)

pub member_level : (d : Member) → is_primary (member_form d) ≡ false
member_level d = ap is_primary (member_out d)

step_level : (x : Relation-F F F F F F F F F F F F F F F) → is_primary (relation_step x) ≡ false
step_level (Relation-F.Common a xs) = refl
step_level (Relation-F.Has a b) = refl
step_level (Relation-F.Like a b) = refl
step_level (Relation-F.IsIn a b None) = refl
step_level (Relation-F.IsIn a b (Some c)) = refl

pub relation_level : (d : Relation) → is_primary (relation_form d) ≡ false
unfolding relation_form
relation_level d = ap is_primary (fold_out-Relation F F F F F F F F F F F F F F expr_step data_step access_step primary_step relation_step add_step and_step impl_step linked_step member_step mult_step or_step init_step unary_step d) ∙ step_level _

-- ---- primaries

pub parens_primary : (n : Node (Option Primary)) (d : Primary) (a : Node (Option Expr)) → n.node ≡ Some d → d ≡ primaries.Expr a → lone (located primary_form n) ≡ lone (located expr_form a)
unfolding lone_form
parens_primary n d a h k = lone_is primary_form n d _ h (ap primary_form k ∙ primary_expr a)

itself_lone : (n : Node (Option Primary)) (d : Primary) (t : Form) → n.node ≡ Some d → primary_form d ≡ t → lone_form n.loc t ≡ Ok (f.at n.loc t) → lone (located primary_form n) ≡ Ok (located primary_form n)
itself_lone n d t h k e = lone_is primary_form n d t h k ∙ e ∙ sym (ap Ok (located_is primary_form n d t h k))

pub literal_primary : (n : Node (Option Primary)) (d : Primary) (a : Node (Option Literal)) → n.node ≡ Some d → d ≡ primaries.Literal a → lone (located primary_form n) ≡ Ok (located primary_form n)
unfolding lone_form
literal_primary n d a h k = itself_lone n d _ h (ap primary_form k ∙ primary_literal a) refl

pub ref_primary : (n : Node (Option Primary)) (d : Primary) (a : Node (Option Ref)) → n.node ≡ Some d → d ≡ primaries.Ref a → lone (located primary_form n) ≡ Ok (located primary_form n)
unfolding lone_form
ref_primary n d a h k = itself_lone n d _ h (ap primary_form k ∙ primary_ref a) refl

pub name_primary : (n : Node (Option Primary)) (d : Primary) (a : Node (Option Name)) → n.node ≡ Some d → d ≡ primaries.Name a → lone (located primary_form n) ≡ Ok (located primary_form n)
unfolding lone_form
name_primary n d a h k = itself_lone n d _ h (ap primary_form k ∙ primary_name a) refl

pub slot_primary : (n : Node (Option Primary)) (d : Primary) (a : Node (Option Slot)) → n.node ≡ Some d → d ≡ primaries.Slot a → lone (located primary_form n) ≡ Ok (located primary_form n)
unfolding lone_form
slot_primary n d a h k = itself_lone n d _ h (ap primary_form k ∙ primary_slot a) refl

pub list_primary : (n : Node (Option Primary)) (d : Primary) (a : List (Node (Option Expr))) → n.node ≡ Some d → d ≡ primaries.EList a → lone (located primary_form n) ≡ Ok (located primary_form n)
unfolding lone_form
list_primary n d a h k = itself_lone n d _ h (ap primary_form k ∙ primary_list a) refl

pub inits_primary : (n : Node (Option Primary)) (d : Primary) (a : List (Node (Option RecInit))) → n.node ≡ Some d → d ≡ primaries.RInits a → lone (located primary_form n) ≡ Ok (located primary_form n)
unfolding lone_form
inits_primary n d a h k = itself_lone n d _ h (ap primary_form k ∙ primary_inits a) refl

-- less stands in parentheses than there is with them
pub opened_lighter : (p q : Node (Option Primary)) (a : Node (Option Expr)) → p.node ≡ Some (primaries.Expr a) → nested (located expr_form a) ≡ nested (located primary_form q)
    → all_weight (nested (located primary_form q)) < all_weight (nested (located primary_form p))
opened_lighter p q a h k =
    rw (inner.level primary_form p (primaries.Expr a) h ∙ inner.parens (primaries.Expr a) a refl)
    (first_opened (located expr_form a) [] (nested (located primary_form q)) (sym k ∙ sym (append-nil (nested (located expr_form a)))))
