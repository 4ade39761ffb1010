-- A policy's scope doesn't look at places.
use Rattle.std.proofs.Common.{◌≡◌, ℕ, zero, suc, List, [], ◌∷◌, drop, Option, Some, None, option_map, Ok, Err, Bool, cond, refl, sym, ap, ◌∙◌, subst}
use Rattle.std.specs.Prelude.{slice_get}
use Rattle.cedar_expressions.specs.declared.entity.EntityUID.{EntityUID}
use Rattle.cedar_expressions.specs.declared.atoms.Var.{Var}
use Rattle.cedar_expressions.specs.declared.atoms.Var.TheVariants as vars
use Rattle.cedar_expressions.specs.Value as v
use Rattle.cedar_expressions.specs.Value.{Value}
use Rattle.cedar_expressions.specs.WithoutPlaces.{without_places}
use Rattle.cedar_policy_store.specs.declared.constraints.ActionConstraint.{ActionConstraint}
use Rattle.cedar_policy_store.specs.declared.constraints.EntityReference.{EntityReference}
use Rattle.cedar_policy_store.specs.declared.constraints.PrincipalConstraint.{PrincipalConstraint}
use Rattle.cedar_policy_store.specs.declared.constraints.PrincipalOrResourceConstraint.{PrincipalOrResourceConstraint}
use Rattle.cedar_policy_store.specs.declared.constraints.ResourceConstraint.{ResourceConstraint}
use Rattle.cedar_policy_store.specs.Actions.{but_actions, named_entities}
use Rattle.cedar_policy_store.specs.PlaceFree as free
use Rattle.cedar_policy_store.specs.PlaceFree.{constraint_meaning, reference_meaning}
use Rattle.cedar_syntax.specs.declared.cst.Add.{Add}
use Rattle.cedar_syntax.specs.declared.cst.Expr.{Expr}
use Rattle.cedar_syntax.specs.declared.cst.Ident.{Ident}
use Rattle.cedar_syntax.specs.declared.cst.Ident.TheVariants as words
use Rattle.cedar_syntax.specs.declared.cst.Name.{Name}
use Rattle.cedar_syntax.specs.declared.cst.PolicyImpl.{PolicyImpl}
use Rattle.cedar_syntax.specs.declared.cst.RelOp.{RelOp}
use Rattle.cedar_syntax.specs.declared.cst.RelOp.TheVariants as rel
use Rattle.cedar_syntax.specs.declared.cst.VariableDef.{VariableDef}
use Rattle.cedar_syntax.specs.declared.loc.Loc.{Loc}
use Rattle.cedar_syntax.specs.trees.Forms.{located, add_form}
use Rattle.cedar_syntax.specs.trees.Located.{Form}
use Rattle.cedar_syntax.specs.trees.Trees.{Cell}
use Rattle.cedar_syntax.specs.trees.Unlocated.{unlocated, unlocated_name}
use Rattle.cedar_syntax.specs.trees.UnlocatedTrees.{bare_cell, bare_cells, unlocated_expr, unlocated_add, unlocated_constraint, BareElement, unlocated_element}
use Rattle.cedar_policy_parser.proofs.Alike.{Alike, Same}
use Rattle.cedar_conversion.specs.outcome.Conversion.{outcome}
use Rattle.cedar_conversion.specs.strict.Extensions.{Extensions}
use Rattle.cedar_conversion.specs.outcome.Held.{as_entity_type}
use Rattle.cedar_conversion.specs.outcome.Detail.{variables}
use Rattle.cedar_conversion.specs.outcome.Outcome.{Outcome, detailed_outcome, next, incorrect_variable}
use Rattle.cedar_policy_conversion.specs.References.{single_entity, entity_or_slot, one_or_multiple}
use Rattle.cedar_policy_conversion.specs.Scope.{scope_variable_of, scope_variable, type_name, no_type_name, element_variable, made_by_is, is_made_by_is, is_inverted, type_outcome, operator_outcome, asked_type, constraint_outcome, stands_there, in_its_place, element_of, element_outcome, principal_outcome, resource_outcome, action_alone, no_entity_type, action_by, unless_others, asked_action, action_of, action_outcome, Scope, place_behind, if_there, no_extra, scope_of, scope_outcome}
use Rattle.cedar_policy_parser.proofs.independent.Independent.{outcome_alike}
use Rattle.cedar_policy_parser.proofs.independent.IndependentLeaves.{Equal, Pairs, both_alike, next_alike, then_alike, if_alike, as_type_alike}
use Rattle.cedar_policy_parser.proofs.independent.IndependentParts.{meet, some_same, none_some, content_same, same_form_cell, Both, expr_same, word_same, heads, tails}
use Rattle.cedar_policy_parser.proofs.independent.IndependentReferences.{SameReference, referent_same, single_independent, several_independent, slot_independent}

-- ---- an element's variable

scope_word : (p q : Option Loc) (i : Ident) → Alike Equal (scope_variable_of p i) (scope_variable_of q i)
scope_word p q words.Principal = refl
scope_word p q words.Action = refl
scope_word p q words.Resource = refl
scope_word p q _ = tt

abbrev bare_name : Cell Name → Cell Name
bare_name c = bare_cell unlocated_name c

name_in_same : (p q : Option Loc) (o r : Option Name) → option_map unlocated_name o ≡ option_map unlocated_name r → Alike Equal (type_name p o) (type_name q r)
name_in_same p q None None e = refl
name_in_same p q None (Some y) e = absurd (none_some e)
name_in_same p q (Some x) None e = absurd (none_some (sym e))
name_in_same p q (Some x) (Some y) e = tt

no_type_same : (o r : Option (Cell Name)) → option_map (λ c. bare_cell unlocated_name c) o ≡ option_map (λ c. bare_cell unlocated_name c) r → Alike Equal (no_type_name o) (no_type_name r)
no_type_same None None e = refl
no_type_same None (Some m) e = absurd (none_some e)
no_type_same (Some n) None e = absurd (none_some (sym e))
no_type_same (Some n) (Some m) e = name_in_same n.loc m.loc n.node m.node (ap (λ (c : Cell Name). c.node) (some_same e))

variable_same : (c d : VariableDef) → unlocated_element c ≡ unlocated_element d → Alike Equal (scope_variable c.variable) (scope_variable d.variable)
variable_same c d h = word_same scope_variable_of scope_word c.variable d.variable (ap (λ (x : BareElement). x.variable) h)

type_name_same : (c d : VariableDef) → unlocated_element c ≡ unlocated_element d → Alike Equal (no_type_name c.unused_type_name) (no_type_name d.unused_type_name)
type_name_same c d h = no_type_same c.unused_type_name d.unused_type_name (ap (λ (x : BareElement). x.type_name) h)

element_variable_same : (c d : VariableDef) → unlocated_element c ≡ unlocated_element d → Alike Equal (element_variable c) (element_variable d)
element_variable_same c d h = then_alike Equal _ _ _ _ (variable_same c d h) (λ x. then_alike Equal _ _ _ _ (type_name_same c d h) (λ u. refl))

-- ---- `in` with a right side that `is` makes

made_alike : (x : Value) → made_by_is (without_places x) ≡ made_by_is x
unfolding without_places
made_alike (v.is_entity_type a t) = refl
made_alike _ = refl

made_same : (o p : Outcome Value) → Alike Both o p → is_made_by_is o ≡ is_made_by_is p
made_same (Ok x) (Ok y) e = sym (made_alike x) ∙ ap made_by_is e ∙ made_alike y
made_same (Ok x) (Err gs) e = absurd e
made_same (Err fs) (Ok y) e = absurd e
made_same (Err fs) (Err gs) e = refl

inverted_same : (e : Extensions) (op : RelOp) (n m : Cell Expr) → bare_cell unlocated_expr n ≡ bare_cell unlocated_expr m → is_inverted e op n ≡ is_inverted e op m
inverted_same e rel.In n m h = made_same _ _ (expr_same e n m h)
inverted_same e rel.Less n m h = refl
inverted_same e rel.LessEq n m h = refl
inverted_same e rel.GreaterEq n m h = refl
inverted_same e rel.Greater n m h = refl
inverted_same e rel.NotEq n m h = refl
inverted_same e rel.Eq n m h = refl
inverted_same e rel.InvalidSingleEq n m h = refl

-- a test that comes out alike, and what it chooses
tested : {X : Type 0} (S : X → X → Type 0) (b c : Bool) (o p q r : Outcome X) → b ≡ c → Alike S o p → Alike S q r → Alike S (cond b o q) (cond c p r)
tested S b c o p q r e h k = subst (λ d. Alike S (cond b o q) (cond d p r)) e (if_alike S b o p q r h k)

-- ---- principal and resource

abbrev pub SameConstraint : PrincipalOrResourceConstraint → PrincipalOrResourceConstraint → Type 0
SameConstraint a b = constraint_meaning a ≡ constraint_meaning b

type_same : (e : Extensions) (n m : Cell Add) → bare_cell unlocated_add n ≡ bare_cell unlocated_add m → Alike Equal (type_outcome e n) (type_outcome e m)
type_same e n m h =
    meet Equal Equal (λ x y z a b. a ∙ sym b) (type_outcome e n) (type_outcome e m) (next (outcome e (unlocated (located add_form m))) as_entity_type)
    (subst (λ l. Alike Equal (type_outcome e n) (next (outcome e l) as_entity_type)) (same_form_cell add_form n m h) (next_alike Same Equal _ _ _ _ (outcome_alike e (located add_form n)) as_type_alike))
    (next_alike Same Equal _ _ _ _ (outcome_alike e (located add_form m)) as_type_alike)

abbrev SameTypes : Option (Cell Add) → Option (Cell Add) → Type 0
SameTypes o r = option_map (λ c. bare_cell unlocated_add c) o ≡ option_map (λ c. bare_cell unlocated_add c) r

operator_same : (e : Extensions) (p q : Option Loc) (op : RelOp) (o r : Option (Cell Add)) → SameTypes o r → (a b : EntityReference) → SameReference a b → Alike SameConstraint (operator_outcome e p op o a) (operator_outcome e q op r b)
operator_same e p q rel.Eq None None h a b s = ap free.equal_to s
operator_same e p q rel.Eq (Some n) (Some m) h a b s = tt
operator_same e p q rel.In None None h a b s = ap free.inside s
operator_same e p q rel.In (Some n) (Some m) h a b s = then_alike SameConstraint _ _ _ _ (type_same e n m (some_same h)) (λ t. ap (free.typed_inside t) s)
operator_same e p q rel.Eq None (Some m) h a b s = absurd (none_some h)
operator_same e p q rel.Eq (Some n) None h a b s = absurd (none_some (sym h))
operator_same e p q rel.In None (Some m) h a b s = absurd (none_some h)
operator_same e p q rel.In (Some n) None h a b s = absurd (none_some (sym h))
operator_same e p q rel.Less o r h a b s = tt
operator_same e p q rel.LessEq o r h a b s = tt
operator_same e p q rel.GreaterEq o r h a b s = tt
operator_same e p q rel.Greater o r h a b s = tt
operator_same e p q rel.NotEq o r h a b s = tt
operator_same e p q rel.InvalidSingleEq o r h a b s = tt

asked_type_same : (e : Extensions) (o r : Option (Cell Add)) → SameTypes o r → Alike SameConstraint (asked_type e o) (asked_type e r)
asked_type_same e None None h = refl
asked_type_same e None (Some m) h = absurd (none_some h)
asked_type_same e (Some n) None h = absurd (none_some (sym h))
asked_type_same e (Some n) (Some m) h = then_alike SameConstraint _ _ _ _ (type_same e n m (some_same h)) (λ t. refl)

abbrev SameSides : Option (RelOp × Cell Expr) → Option (RelOp × Cell Expr) → Type 0
SameSides o r = option_map unlocated_constraint o ≡ option_map unlocated_constraint r

constraint_same : (e : Extensions) (p q : Option Loc) (x : Var) (o r : Option (Cell Add)) → SameTypes o r → (s u : Option (RelOp × Cell Expr)) → SameSides s u → Alike SameConstraint (constraint_outcome e p x o s) (constraint_outcome e q x r u)
constraint_same e p q x o r h None None k = asked_type_same e o r h
constraint_same e p q x o r h None (Some m) k = absurd (none_some k)
constraint_same e p q x o r h (Some n) None k = absurd (none_some (sym k))
constraint_same e p q x o r h (Some n) (Some m) k = sides (some_same k)
  where
    sides : unlocated_constraint n ≡ unlocated_constraint m → Alike SameConstraint (constraint_outcome e p x o (Some n)) (constraint_outcome e q x r (Some m))
    sides k =
        let op : n.0 ≡ m.0 = ap (λ (y : RelOp × Cell Form). y.0) k in
        let right : bare_cell unlocated_expr n.1 ≡ bare_cell unlocated_expr m.1 = ap (λ (y : RelOp × Cell Form). y.1) k in
        tested SameConstraint (is_inverted e n.0 n.1) (is_inverted e m.0 m.1) _ _ _ _ (inverted_same e n.0 n.1 m.1 right ∙ ap (λ y. is_inverted e y m.1) op) tt
        (next_alike SameReference SameConstraint _ _ _ _ (referent_same entity_or_slot SameReference slot_independent (λ a b c i j. i ∙ sym j) x n.1 m.1 right)
        (λ a b i. subst (λ y. Alike SameConstraint (operator_outcome e p n.0 o a) (operator_outcome e q y r b)) op (operator_same e p q n.0 o r h a b i)))

place_same : (p q : Option Loc) (w x : Var) (a b : PrincipalOrResourceConstraint) → SameConstraint a b → Alike SameConstraint (in_its_place p w x a) (in_its_place q w x b)
place_same p q w x a b h = if_alike SameConstraint (stands_there w x) (Ok a) (Ok b) (detailed_outcome incorrect_variable p (variables w x)) (detailed_outcome incorrect_variable q (variables w x)) h tt

element_of_same : (e : Extensions) (w : Var) (p q : Option Loc) (c d : VariableDef) → unlocated_element c ≡ unlocated_element d → Alike SameConstraint (element_of e w p c) (element_of e w q d)
element_of_same e w p q c d h =
    then_alike SameConstraint _ _ _ _ (element_variable_same c d h)
    (λ x. next_alike SameConstraint SameConstraint _ _ _ _ (constraint_same e p q x c.entity_type d.entity_type (ap (λ (y : BareElement). y.entity_type) h) c.ineq d.ineq (ap (λ (y : BareElement). y.constraint) h)) (λ a b i. place_same p q w x a b i))

abbrev SameElements : Cell VariableDef → Cell VariableDef → Type 0
SameElements n m = bare_cell unlocated_element n ≡ bare_cell unlocated_element m

element_same : (e : Extensions) (w : Var) (n m : Cell VariableDef) → SameElements n m → Alike SameConstraint (element_outcome e w n) (element_outcome e w m)
element_same e w n m h = content_same SameConstraint unlocated_element (element_of e w) n.loc m.loc (element_of_same e w n.loc m.loc) n.node m.node (ap (λ (c : Cell BareElement). c.node) h)

abbrev pub SamePrincipal : PrincipalConstraint → PrincipalConstraint → Type 0
SamePrincipal a b = SameConstraint a.constraint b.constraint

abbrev pub SameResource : ResourceConstraint → ResourceConstraint → Type 0
SameResource a b = SameConstraint a.constraint b.constraint

principal_same : (e : Extensions) (n m : Cell VariableDef) → SameElements n m → Alike SamePrincipal (principal_outcome e n) (principal_outcome e m)
principal_same e n m h = next_alike SameConstraint SamePrincipal _ _ _ _ (element_same e vars.Principal n m h) (λ a b i. i)

resource_same : (e : Extensions) (n m : Cell VariableDef) → SameElements n m → Alike SameResource (resource_outcome e n) (resource_outcome e m)
resource_same e n m h = next_alike SameConstraint SameResource _ _ _ _ (element_same e vars.Resource n m h) (λ a b i. i)

-- ---- action

alone_same : (p q : Option Loc) (x : Var) → Alike Equal (action_alone p x) (action_alone q x)
alone_same p q vars.Action = refl
alone_same p q vars.Principal = tt
alone_same p q vars.Resource = tt
alone_same p q vars.Context = tt

no_entity_same : (p q : Option Loc) (o r : Option (Cell Add)) → SameTypes o r → Alike Equal (no_entity_type p o) (no_entity_type q r)
no_entity_same p q None None h = refl
no_entity_same p q None (Some m) h = absurd (none_some h)
no_entity_same p q (Some n) None h = absurd (none_some (sym h))
no_entity_same p q (Some n) (Some m) h = tt

by_same : (e : Extensions) (p q : Option Loc) (op : RelOp) (n m : Cell Expr) → bare_cell unlocated_expr n ≡ bare_cell unlocated_expr m → Alike Equal (action_by e p op n) (action_by e q op m)
by_same e p q rel.In n m h =
    tested Equal (is_inverted e rel.In n) (is_inverted e rel.In m) _ _ _ _ (inverted_same e rel.In n m h) tt (then_alike Equal _ _ _ _ (referent_same one_or_multiple Equal several_independent (λ a b c i j. i ∙ sym j) vars.Action n m h) (λ all. refl))
by_same e p q rel.Eq n m h = then_alike Equal _ _ _ _ (referent_same single_entity Equal single_independent (λ a b c i j. i ∙ sym j) vars.Action n m h) (λ one. refl)
by_same e p q rel.Less n m h = tt
by_same e p q rel.LessEq n m h = tt
by_same e p q rel.GreaterEq n m h = tt
by_same e p q rel.Greater n m h = tt
by_same e p q rel.NotEq n m h = tt
by_same e p q rel.InvalidSingleEq n m h = tt

others_same : (p q : Option Loc) (c : ActionConstraint) (us : List EntityUID) → Alike Equal (unless_others p c us) (unless_others q c us)
others_same p q c [] = refl
others_same p q c (u ∷ us) = tt

asked_action_same : (e : Extensions) (p q : Option Loc) (s u : Option (RelOp × Cell Expr)) → SameSides s u → Alike Equal (asked_action e p s) (asked_action e q u)
asked_action_same e p q None None k = refl
asked_action_same e p q None (Some m) k = absurd (none_some k)
asked_action_same e p q (Some n) None k = absurd (none_some (sym k))
asked_action_same e p q (Some n) (Some m) k = sides (some_same k)
  where
    sides : unlocated_constraint n ≡ unlocated_constraint m → Alike Equal (asked_action e p (Some n)) (asked_action e q (Some m))
    sides k =
        let op : n.0 ≡ m.0 = ap (λ (y : RelOp × Cell Form). y.0) k in
        let right : bare_cell unlocated_expr n.1 ≡ bare_cell unlocated_expr m.1 = ap (λ (y : RelOp × Cell Form). y.1) k in
        then_alike Equal _ _ _ _ (subst (λ y. Alike Equal (action_by e p n.0 n.1) (action_by e q y m.1)) op (by_same e p q n.0 n.1 m.1 right)) (λ c. others_same n.1.loc m.1.loc c (but_actions (named_entities c)))

action_of_same : (e : Extensions) (p q : Option Loc) (c d : VariableDef) → unlocated_element c ≡ unlocated_element d → Alike Equal (action_of e p c) (action_of e q d)
action_of_same e p q c d h =
    then_alike Equal _ _ _ _
    (then_alike Equal _ _ _ _ (variable_same c d h)
    (λ x. then_alike Equal _ _ _ _ (alone_same p q x) (λ u. then_alike Equal _ _ _ _ (type_name_same c d h) (λ w. no_entity_same p q c.entity_type d.entity_type (ap (λ (y : BareElement). y.entity_type) h)))))
    (λ u. asked_action_same e p q c.ineq d.ineq (ap (λ (y : BareElement). y.constraint) h))

action_same : (e : Extensions) (n m : Cell VariableDef) → SameElements n m → Alike Equal (action_outcome e n) (action_outcome e m)
action_same e n m h = content_same Equal unlocated_element (action_of e) n.loc m.loc (action_of_same e n.loc m.loc) n.node m.node (ap (λ (c : Cell BareElement). c.node) h)

-- ---- the whole scope

abbrev pub SameScope : Scope → Scope → Type 0
SameScope a b = SamePrincipal a.0 b.0 × (a.1 ≡ b.1) × SameResource a.2 b.2

abbrev pub SameLists : List (Cell VariableDef) → List (Cell VariableDef) → Type 0
SameLists ns ms = bare_cells unlocated_element ns ≡ bare_cells unlocated_element ms

abbrev SameOptions : Option (Cell VariableDef) → Option (Cell VariableDef) → Type 0
SameOptions o r = option_map (λ c. bare_cell unlocated_element c) o ≡ option_map (λ c. bare_cell unlocated_element c) r

there_same : {X : Type 0} (S : X → X → Type 0) (v : Var) (g : Cell VariableDef → Outcome X) (p q : Option Loc) → ((n m : Cell VariableDef) → SameElements n m → Alike S (g n) (g m)) → (o r : Option (Cell VariableDef)) → SameOptions o r → Alike S (if_there v g p o) (if_there v g q r)
there_same S v g p q k None None h = tt
there_same S v g p q k None (Some m) h = absurd (none_some h)
there_same S v g p q k (Some n) None h = absurd (none_some (sym h))
there_same S v g p q k (Some n) (Some m) h = k n m (some_same h)

extra_same : (ns ms : List (Cell VariableDef)) → SameLists ns ms → Alike Equal (no_extra ns) (no_extra ms)
extra_same [] [] h = refl
extra_same [] (m ∷ ms) h = absurd (cc)
extra_same (n ∷ ns) [] h = absurd (cc)
extra_same (n ∷ ns) (m ∷ ms) h = tt

scope_of_same : (e : Extensions) (p q : Option Loc) (a b c x y z : Option (Cell VariableDef)) (ns ms : List (Cell VariableDef)) → SameOptions a x → SameOptions b y → SameOptions c z → SameLists ns ms → Alike SameScope (scope_of e p a b c ns) (scope_of e q x y z ms)
scope_of_same e p q a b c x y z ns ms h i j k =
    next_alike (Pairs (Pairs SamePrincipal Equal) (Pairs SameResource Equal)) SameScope _ _ _ _
    (both_alike (Pairs SamePrincipal Equal) (Pairs SameResource Equal) _ _ _ _
    (both_alike SamePrincipal Equal _ _ _ _ (there_same SamePrincipal vars.Principal (principal_outcome e) p q (principal_same e) a x h) (there_same Equal vars.Action (action_outcome e) (place_behind p a) (place_behind q x) (action_same e) b y i))
    (both_alike SameResource Equal _ _ _ _ (there_same SameResource vars.Resource (resource_outcome e) (place_behind (place_behind p a) b) (place_behind (place_behind q x) y) (resource_same e) c z j) (extra_same ns ms k)))
    (λ s u r. (r.0.0, r.0.1, r.1.0))

get_same : (i : ℕ) (ns ms : List (Cell VariableDef)) → SameLists ns ms → SameOptions (slice_get ns i) (slice_get ms i)
get_same i [] [] h = refl
get_same i [] (m ∷ ms) h = absurd (cc)
get_same i (n ∷ ns) [] h = absurd (cc)
get_same zero (n ∷ ns) (m ∷ ms) h = ap Some (heads h)
get_same (suc i) (n ∷ ns) (m ∷ ms) h = get_same i ns ms (tails h)

drop_same : (i : ℕ) (ns ms : List (Cell VariableDef)) → SameLists ns ms → SameLists (drop i ns) (drop i ms)
drop_same zero ns ms h = h
drop_same (suc i) [] [] h = refl
drop_same (suc i) [] (m ∷ ms) h = absurd (cc)
drop_same (suc i) (n ∷ ns) [] h = absurd (cc)
drop_same (suc i) (n ∷ ns) (m ∷ ms) h = drop_same i ns ms (tails h)

pub scope_same : (e : Extensions) (x y : PolicyImpl) → SameLists x.variables y.variables → Alike SameScope (scope_outcome e x) (scope_outcome e y)
scope_same e x y h =
    scope_of_same e x.effect.loc y.effect.loc _ _ _ _ _ _ _ _ (get_same 0 x.variables y.variables h) (get_same 1 x.variables y.variables h) (get_same 2 x.variables y.variables h) (drop_same 3 x.variables y.variables h)
