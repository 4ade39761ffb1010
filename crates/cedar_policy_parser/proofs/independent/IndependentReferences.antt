-- What stands right of a scope's operator doesn't look at places.
use Rattle.std.proofs.Common.{◌≡◌, List, ◌∷◌, Option, Some, None, Ok, refl, ap₂, subst}
use Rattle.cedar_expressions.specs.declared.entity.EntityUID.{EntityUID}
use Rattle.cedar_expressions.specs.declared.atoms.Var.{Var}
use Rattle.cedar_policy_store.specs.declared.constraints.EntityReference.{EntityReference}
use Rattle.cedar_policy_store.specs.PlaceFree.{reference_meaning}
use Rattle.cedar_syntax.specs.declared.cst.Expr.{Expr}
use Rattle.cedar_syntax.specs.declared.cst.Slot.{Slot}
use Rattle.cedar_syntax.specs.declared.loc.Loc.{Loc}
use Rattle.cedar_syntax.specs.trees.Forms.{located, expr_form}
use Rattle.cedar_syntax.specs.trees.Located as f
use Rattle.cedar_syntax.specs.trees.Located.{Located, Form, Parts}
use Rattle.cedar_syntax.specs.trees.Slots.{matches}
use Rattle.cedar_syntax.specs.trees.Trees.{Cell}
use Rattle.cedar_syntax.specs.trees.Unlocated.{unlocated, unlocated_form, unlocated_parts}
use Rattle.cedar_syntax.specs.trees.UnlocatedTrees.{bare_cell, unlocated_expr}
use Rattle.cedar_policy_parser.proofs.Alike.{Alike}
use Rattle.cedar_conversion.specs.parts.HasSide.{no_sign}
use Rattle.cedar_conversion.specs.parts.Names.{content_outcome}
use Rattle.cedar_conversion.specs.outcome.Outcome.{Outcome, fault_outcome, next, wrong_node}
use Rattle.cedar_conversion.specs.outcome.Detail.{ExpectedRef}
use Rattle.cedar_policy_conversion.specs.References.{RefKind, single_entity, entity_or_slot, one_or_multiple, lone, lone_form, entity_at, lone_entity, entities, of_variable, several_outcome, referred_form, referent_at, referent_outcome}
use Rattle.cedar_policy_parser.proofs.independent.IndependentLeaves.{Equal, Pairs, both_alike, next_alike, then_alike, if_alike, entity_in_alike}
use Rattle.cedar_policy_parser.proofs.independent.IndependentParts.{meet, same_form_cell}

-- ---- the primary that an expression is

abbrev pub Bared : Located → Located → Type 0
Bared m n = unlocated m ≡ n

mutual
  unfolding lone lone_form unlocated unlocated_form unlocated_parts

  lone_alike : (n : Located) → Alike Bared (lone n) (lone (unlocated n))
  lone_alike (f.missing p) = tt
  lone_alike (f.at p u) = lone_form_alike p u

  lone_form_alike : (p : Option Loc) (u : Form) → Alike Bared (lone_form p u) (lone_form None (unlocated_form u))
  lone_form_alike p (f.only n) = lone_alike n
  lone_form_alike p (f.ite a b c) = tt
  lone_form_alike p (f.chain level n f.none) = lone_alike n
  lone_form_alike p (f.chain level n (f.more op m ps)) = tt
  lone_form_alike p (f.has m n) = tt
  lone_form_alike p (f.like m n) = tt
  lone_form_alike p (f.is m n) = tt
  lone_form_alike p (f.is_in a b c) = tt
  lone_form_alike p (f.unary op n) = if_alike Bared (no_sign op) (lone n) (lone (unlocated n)) (fault_outcome wrong_node p) (fault_outcome wrong_node None) (lone_alike n) tt
  lone_form_alike p (f.member n f.none) = lone_alike n
  lone_form_alike p (f.member n (f.more op m ps)) = tt
  lone_form_alike p (f.field n) = tt
  lone_form_alike p (f.call ps) = tt
  lone_form_alike p (f.index n) = tt
  lone_form_alike p (f.literal n) = refl
  lone_form_alike p (f.name n) = refl
  lone_form_alike p (f.slot n) = refl
  lone_form_alike p (f.reference n) = refl
  lone_form_alike p (f.parens n) = lone_alike n
  lone_form_alike p (f.set ps) = refl
  lone_form_alike p (f.record_of ps) = refl
  lone_form_alike p (f.init m n) = tt

entity_at_alike : (n : Located) → Alike Equal (entity_at n) (entity_at (unlocated n))
unfolding unlocated unlocated_form
entity_at_alike (f.missing p) = tt
entity_at_alike (f.at p (f.reference n)) = entity_in_alike n.loc None n.node
entity_at_alike (f.at p _) = tt

lone_entity_alike : (n : Located) → Alike Equal (lone_entity n) (lone_entity (unlocated n))
lone_entity_alike n = next_alike Bared Equal _ _ _ _ (lone_alike n) (λ a b h. subst (λ c. Alike Equal (entity_at a) (entity_at c)) h (entity_at_alike a))

items_alike : (ps : Parts) → Alike Equal (entities ps) (entities (unlocated_parts ps))
unfolding unlocated_parts
items_alike f.none = refl
items_alike (f.more op n ps) = next_alike (Pairs Equal Equal) Equal _ _ _ _ (both_alike Equal Equal _ _ _ _ (lone_entity_alike n) (items_alike ps)) (λ x y e. ap₂ (λ a b. a ∷ b) e.0 e.1)

-- ---- what a primary refers to, by a kind of reference

pub record IsIndependent {T : Type 0} (k : RefKind T) (S : T → T → Type 0) : Type 0 where
  pub itself : (x : T) → S x x
  pub slots : (p q : Option Loc) → Alike S (k.slot p) (k.slot q)

slot_in : {T : Type 0} (S : T → T → Type 0) (x : Var) (p q r : Option Loc) (o : Option Slot) (a b : T) → S a b → Alike S (next (content_outcome r o) (of_variable p x a)) (next (content_outcome None o) (of_variable q x b))
slot_in S x p q r None a b h = tt
slot_in S x p q r (Some s) a b h = if_alike S (matches s x) (Ok a) (Ok b) (fault_outcome wrong_node p) (fault_outcome wrong_node q) h tt

several_alike : {T : Type 0} (S : T → T → Type 0) (p q : Option Loc) (takes : ExpectedRef) (o : Option (List EntityUID → T)) (u w : Outcome (List EntityUID)) → ((x : T) → S x x) → Alike Equal u w → Alike S (several_outcome p takes o u) (several_outcome q takes o w)
several_alike S p q takes None u w s h = tt
several_alike S p q takes (Some make) u w s h = then_alike S u w _ _ h (λ all. s (make all))

referred_alike : {T : Type 0} (k : RefKind T) (S : T → T → Type 0) → IsIndependent k S → (x : Var) (p : Option Loc) (u : Form) → Alike S (referred_form k x p u) (referred_form k x None (unlocated_form u))
unfolding unlocated_form
referred_alike k S b x p (f.reference n) = then_alike S _ _ _ _ (entity_in_alike n.loc None n.node) (λ uid. b.itself (k.single uid))
referred_alike k S b x p (f.slot n) = next_alike S S _ _ _ _ (b.slots p None) (λ a c h. slot_in S x p None n.loc n.node a c h)
referred_alike k S b x p (f.set ps) = several_alike S p None k.takes k.several (entities ps) (entities (unlocated_parts ps)) b.itself (items_alike ps)
referred_alike k S b x p _ = tt

referent_alike : {T : Type 0} (k : RefKind T) (S : T → T → Type 0) → IsIndependent k S → (x : Var) (n : Located) → Alike S (referent_at k x n) (referent_at k x (unlocated n))
unfolding unlocated
referent_alike k S b x (f.missing p) = tt
referent_alike k S b x (f.at p u) = referred_alike k S b x p u

found_alike : {T : Type 0} (k : RefKind T) (S : T → T → Type 0) → IsIndependent k S → (x : Var) (n : Located) → Alike S (next (lone n) (referent_at k x)) (next (lone (unlocated n)) (referent_at k x))
found_alike k S b x n = next_alike Bared S _ _ _ _ (lone_alike n) (λ a c h. subst (λ d. Alike S (referent_at k x a) (referent_at k x d)) h (referent_alike k S b x a))

pub referent_same : {T : Type 0} (k : RefKind T) (S : T → T → Type 0) → IsIndependent k S → ((x y z : T) → S x z → S y z → S x y) → (x : Var) (n m : Cell Expr) → bare_cell unlocated_expr n ≡ bare_cell unlocated_expr m → Alike S (referent_outcome k x n) (referent_outcome k x m)
referent_same k S b t x n m h =
    meet S S t (referent_outcome k x n) (referent_outcome k x m) (next (lone (unlocated (located expr_form m))) (referent_at k x))
    (subst (λ l. Alike S (referent_outcome k x n) (next (lone l) (referent_at k x))) (same_form_cell expr_form n m h) (found_alike k S b x (located expr_form n))) (found_alike k S b x (located expr_form m))

-- the three kinds

abbrev pub SameReference : EntityReference → EntityReference → Type 0
SameReference a b = reference_meaning a ≡ reference_meaning b

pub single_independent : IsIndependent single_entity Equal
single_independent = record { itself = λ x. refl; slots = λ p q. tt }

pub several_independent : IsIndependent one_or_multiple Equal
several_independent = record { itself = λ x. refl; slots = λ p q. tt }

pub slot_independent : IsIndependent entity_or_slot SameReference
slot_independent = record { itself = λ x. refl; slots = λ p q. refl }
