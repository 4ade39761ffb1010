-- What each primary refers to.
use Rattle.std.proofs.Common.{◌≡◌, ◌<◌, ◌+◌, ℕ, List, [], ◌∷◌, ◌++◌, map, take, length, get_or, Option, Some, None, Ok, Err, refl, ap, ◌∙◌}
use Rattle.cedar_expressions.specs.declared.atoms.Var.{Var}
use Rattle.cedar_expressions.specs.declared.entity.EntityUID.{EntityUID}
use Rattle.cedar_syntax.specs.declared.loc.Loc.{Loc}
use Rattle.cedar_syntax.specs.declared.node.Node.{Node}
use Rattle.cedar_syntax.specs.declared.cst.Expr.{Expr}
use Rattle.cedar_syntax.specs.declared.cst.Primary.{Primary}
use Rattle.cedar_syntax.specs.declared.cst.Primary.TheVariants as primaries
use Rattle.cedar_syntax.specs.declared.cst.Literal.{Literal}
use Rattle.cedar_syntax.specs.declared.cst.Name.{Name}
use Rattle.cedar_syntax.specs.declared.cst.Slot.{Slot}
use Rattle.cedar_syntax.specs.declared.cst.Ref.{Ref}
use Rattle.cedar_syntax.specs.declared.cst.RecInit.{RecInit}
use Rattle.cedar_syntax.specs.trees.Forms.{located, parts_of, expr_form, primary_form, listed_expr}
use Rattle.cedar_syntax.specs.trees.Located as f
use Rattle.cedar_syntax.specs.trees.Located.{Located, Form}
use Rattle.cedar_syntax.specs.trees.Tree.{Operator}
use Rattle.cedar_syntax.proofs.FormLevels.{primary_literal, primary_ref, primary_name, primary_slot, primary_expr, primary_list, primary_inits}
use Rattle.cedar_conversion.specs.outcome.Conversion.{with_first}
use Rattle.cedar_conversion.specs.parts.Entities.{entity_outcome}
use Rattle.cedar_conversion.specs.outcome.Outcome.{Outcome, detailed_outcome, fault_outcome, both, next, empty_node, wrong_node, item_more}
use Rattle.cedar_policy_conversion.specs.References.{RefKind, entities, entity_at, entity_form, single_outcome, literal_fault, lone, lone_entity, referent_at, referent_outcome, referred_form, single_entity, several_outcome, own_slot_outcome}
use Rattle.cedar_conversion.proofs.Gathered.{last, shifted}
use Rattle.cedar_conversion.proofs.Loops.{take_next, map_snoc}

-- ---- one entity

alone : (o : Outcome EntityUID) → o ≡ next (next o (λ uid. Ok (single_entity.single uid))) (λ one. Ok one.0)
alone (Ok uid) = refl
alone (Err fs) = refl

by_form : (x : Var) (place : Option Loc) (t : Form) → entity_form place t ≡ next (referred_form single_entity x place t) (λ one. Ok one.0)
by_form x place (f.reference n) = alone (entity_outcome n)
by_form x place t = refl

by_node : (x : Var) (n : Located) → entity_at n ≡ next (referent_at single_entity x n) (λ one. Ok one.0)
by_node x (f.missing place) = refl
by_node x (f.at place t) = by_form x place t

-- which a reference to one entity alone is, whatever variable it stands beside
by_primary : (x : Var) (o : Outcome Located) → next o entity_at ≡ next (next o (referent_at single_entity x)) (λ one. Ok one.0)
by_primary x (Ok n) = by_node x n
by_primary x (Err fs) = refl

pub one_entity : (x : Var) (n : Node (Option Expr)) → lone_entity (located expr_form n) ≡ next (referent_outcome single_entity x n) (λ one. Ok one.0)
one_entity x n = by_primary x (lone (located expr_form n))

-- ---- entities of a set

pub no_entities : entities (parts_of []) ≡ Ok []
no_entities = refl

pub entities_snoc : (ps : List (Operator × Located)) (p : Operator × Located) → entities (parts_of (ps ++ p ∷ [])) ≡ item_more (entities (parts_of ps)) (lone_entity p.1)
entities_snoc [] p = last (lone_entity p.1)
entities_snoc (q ∷ ps) p =
    ap (λ o. next (both (lone_entity q.1) o) with_first) (entities_snoc ps p)
    ∙ shifted (lone_entity q.1) (entities (parts_of ps)) (lone_entity p.1)

-- one entity more than those that a loop has gone over
pub entity_next : {X : Type 0} (g : X → Operator × Located) (xs : List X) (i : ℕ) (x : X) → i < length xs → x ≡ get_or xs i x
    → entities (parts_of (map g (take (i + 1) xs))) ≡ item_more (entities (parts_of (map g (take i xs)))) (lone_entity (g x).1)
entity_next g xs i x h k = rw (take_next xs i x h k, map_snoc g (take i xs) x) (entities_snoc (map g (take i xs)) (g x))

-- ---- any kind

referred_is : {T : Type 0} (k : RefKind T) (x : Var) (n : Node (Option Primary)) (d : Primary) (t : Form) → n.node ≡ Some d → primary_form d ≡ t → referent_at k x (located primary_form n) ≡ referred_form k x n.loc t
referred_is k x n d t h e = rw h (ap (λ u. referred_form k x n.loc u) e)

pub nothing_referred : {T : Type 0} (k : RefKind T) (x : Var) (n : Node (Option Primary)) → n.node ≡ None → referent_at k x (located primary_form n) ≡ fault_outcome empty_node n.loc
nothing_referred k x n h = rw h refl

pub ref_referred : {T : Type 0} (k : RefKind T) (x : Var) (n : Node (Option Primary)) (d : Primary) (a : Node (Option Ref)) → n.node ≡ Some d → d ≡ primaries.Ref a → referent_at k x (located primary_form n) ≡ single_outcome k a
ref_referred k x n d a h e = referred_is k x n d _ h (ap primary_form e ∙ primary_ref a)

pub slot_referred : {T : Type 0} (k : RefKind T) (x : Var) (n : Node (Option Primary)) (d : Primary) (a : Node (Option Slot)) → n.node ≡ Some d → d ≡ primaries.Slot a → referent_at k x (located primary_form n) ≡ own_slot_outcome k x n.loc a
slot_referred k x n d a h e = referred_is k x n d _ h (ap primary_form e ∙ primary_slot a)

pub list_referred : {T : Type 0} (k : RefKind T) (x : Var) (n : Node (Option Primary)) (d : Primary) (a : List (Node (Option Expr))) → n.node ≡ Some d → d ≡ primaries.EList a → referent_at k x (located primary_form n) ≡ several_outcome n.loc k.takes k.several (entities (parts_of (map listed_expr a)))
list_referred k x n d a h e = referred_is k x n d _ h (ap primary_form e ∙ primary_list a)

pub literal_referred : {T : Type 0} (k : RefKind T) (x : Var) (n : Node (Option Primary)) (d : Primary) (a : Node (Option Literal)) → n.node ≡ Some d → d ≡ primaries.Literal a → referent_at k x (located primary_form n) ≡ detailed_outcome (literal_fault n.loc a.loc a.node).0 (literal_fault n.loc a.loc a.node).1 (literal_fault n.loc a.loc a.node).2
literal_referred k x n d a h e = referred_is k x n d _ h (ap primary_form e ∙ primary_literal a)

pub name_referred : {T : Type 0} (k : RefKind T) (x : Var) (n : Node (Option Primary)) (d : Primary) (a : Node (Option Name)) → n.node ≡ Some d → d ≡ primaries.Name a → referent_at k x (located primary_form n) ≡ fault_outcome wrong_node n.loc
name_referred k x n d a h e = referred_is k x n d _ h (ap primary_form e ∙ primary_name a)

pub inits_referred : {T : Type 0} (k : RefKind T) (x : Var) (n : Node (Option Primary)) (d : Primary) (a : List (Node (Option RecInit))) → n.node ≡ Some d → d ≡ primaries.RInits a → referent_at k x (located primary_form n) ≡ fault_outcome wrong_node n.loc
inits_referred k x n d a h e = referred_is k x n d _ h (ap primary_form e ∙ primary_inits a)

pub parens_referred : {T : Type 0} (k : RefKind T) (x : Var) (n : Node (Option Primary)) (d : Primary) (a : Node (Option Expr)) → n.node ≡ Some d → d ≡ primaries.Expr a → referent_at k x (located primary_form n) ≡ fault_outcome wrong_node n.loc
parens_referred k x n d a h e = referred_is k x n d _ h (ap primary_form e ∙ primary_expr a)
