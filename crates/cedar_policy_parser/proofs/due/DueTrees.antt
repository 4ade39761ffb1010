-- Each fault of a tree is of a kind that is due at a node whose place holds the fault's.
use Rattle.std.proofs.Common.{◌≡◌, ◌≢◌, ℕ, zero, suc, nat_le, true, false, List, [], ◌∷◌, length, Option, Some, None, Ok, Err, refl, sym, ◌∙◌, ap, subst}
use Rattle.std.specs.Map.{keys_of}
use Rattle.cedar_expressions.specs.Keys.{repeats_key}
use Rattle.cedar_expressions.specs.Value as v
use Rattle.cedar_expressions.specs.Value.{Value}
use Rattle.cedar_syntax.specs.declared.loc.Loc.{Loc}
use Rattle.cedar_syntax.specs.declared.cst.MultOp.{MultOp}
use Rattle.cedar_syntax.specs.declared.cst.MultOp.TheVariants as mul
use Rattle.cedar_syntax.specs.declared.cst.RelOp.{RelOp}
use Rattle.cedar_syntax.specs.declared.cst.RelOp.TheVariants as rel
use Rattle.cedar_syntax.specs.declared.cst.NegOp.{NegOp}
use Rattle.cedar_syntax.specs.declared.cst.NegOp.TheVariants as sign
use Rattle.cedar_syntax.specs.trees.Located as f
use Rattle.cedar_syntax.specs.trees.Located.{Located, Form, Parts, at}
use Rattle.cedar_syntax.specs.trees.Tree as t
use Rattle.cedar_syntax.specs.trees.Tree.{Level, Operator, disjunction, conjunction, relation, sum, product}
use Rattle.cedar_policy_parser.specs.faults.Alone as way
use Rattle.cedar_policy_parser.specs.faults.Alone.{ComesTo, IsPair, ArePairs}
use Rattle.cedar_conversion.specs.outcome.Conversion.{Part, bodies, outcome, form_outcome, operands, accesses_outcome, access_outcome, access_form_outcome, pairs_outcome, pair_outcome, pair_form_outcome, value_outcome, comparison_outcome, relation_outcome, level_outcome, joint_outcome, operator_limit, chain_outcome, factor, application_outcome, dashes_outcome, signs_outcome, beside_type, tree_place, record_outcome, number_in, lone_literal}
use Rattle.cedar_policy_parser.specs.faults.DueKinds as due
use Rattle.cedar_policy_parser.specs.faults.DueKinds.{IsDue, IsDueIn, AreDueIn, count}
use Rattle.cedar_conversion.specs.strict.Extensions.{Extensions}
use Rattle.cedar_conversion.specs.parts.HasSide.{right_side, no_sign}
use Rattle.cedar_conversion.specs.outcome.Held.{Held, as_expression, as_pattern, as_entity_type, as_string, as_attribute}
use Rattle.cedar_conversion.specs.parts.Members.{Access}
use Rattle.cedar_conversion.specs.parts.Names.{unreserved_ident}
use Rattle.cedar_conversion.specs.outcome.Outcome as k
use Rattle.cedar_conversion.specs.outcome.Outcome.{Outcome, both, next}
use Rattle.cedar_policy_parser.specs.faults.Sites as site
use Rattle.cedar_policy_parser.specs.faults.Sites.{Site, IsPart, IsAmong, is_negated, IsNameSite}
use Rattle.cedar_policy_parser.specs.faults.Standing.{LiesWithin}
use Rattle.cedar_conversion.specs.strict.Strict.{largest}
use Rattle.cedar_policy_parser.proofs.Alone.{chain_alone, member_alone}
use Rattle.cedar_policy_parser.proofs.standing.Nested.{IsOfLevel, IsBefore, Nested, FormNested, PartsNested, AccessesNested, AccessNested, AccessFormNested, PairsNested, PairNested, PairFormNested}
use Rattle.cedar_policy_parser.proofs.standing.Standing.{self_within, Anything, BothHold}
use Rattle.cedar_policy_parser.proofs.Telling.{Sited, Tells, one, both_tell, next_tells, forget, if_tells, Due, in_part, here, up, are_due}
use Rattle.cedar_policy_parser.proofs.due.DueLeaves.{HeldAt, moved, unreserved_due, literal_due, named_due, slot_due, entity_due}
use Rattle.cedar_policy_parser.proofs.due.DueSides.{expression_due, expression_part, wanted_due, pattern_due, type_due, string_due, text_part, key_due, key_part, no_string_failed}
use Rattle.cedar_policy_parser.proofs.due.DueRight.{whole_due}
use Rattle.cedar_policy_parser.proofs.due.DueMembers.{Gives, nothing, a_field, a_call, an_index, member_due}

-- a node that gives itself over to its part
through : (e : Extensions) (m n : Located) (x : Outcome Held) → LiesWithin (tree_place m) (tree_place n) → IsPart (site.node n) (site.node m) → ((y : Located) → ComesTo n y → ComesTo m y) → Tells (Due e (site.node n)) (HeldAt n) x → Tells (Due e (site.node m)) (HeldAt m) x
through e m n (Ok h) w i g a = moved m n w g h a
through e m n (Err fs) w i g a = up e (site.node n) (site.node m) (HeldAt n) (Err fs) i a

-- ---- operators

-- the values behind operators: as many, the first behind the first operator
abbrev Behind : Parts → List Part → Type 0
Behind f.none ps = ps ≡ []
Behind (f.more op n others) [] = ⊥
Behind (f.more op n others) (p ∷ ps) = (p.0 ≡ op) × Behind others ps

compared_due : (e : Extensions) (p : Option Loc) (op : RelOp) (a b : Located) (x y : Value) → LiesWithin p p
    → Tells (Due e (site.node (at p (f.chain relation a (f.more (t.compare op) b f.none))))) (HeldAt (at p (f.chain relation a (f.more (t.compare op) b f.none)))) (comparison_outcome p op x y)
compared_due e p rel.Less a b x y w = (w, tt)
compared_due e p rel.LessEq a b x y w = (w, tt)
compared_due e p rel.GreaterEq a b x y w = (w, tt)
compared_due e p rel.Greater a b x y w = (w, tt)
compared_due e p rel.NotEq a b x y w = (w, tt)
compared_due e p rel.Eq a b x y w = (w, tt)
compared_due e p rel.In a b x y w = (w, tt)
compared_due e p rel.InvalidSingleEq a b x y w = let s : Site = site.node (at p (f.chain relation a (f.more (t.compare rel.InvalidSingleEq) b f.none))) in one (Due e s) k.invalid_single_eq p _ (here e s k.invalid_single_eq p due.single_eq w)

related_due : (e : Extensions) (p : Option Loc) (op : Operator) (a b : Located) (x y : Value) → LiesWithin p p → IsOfLevel relation op
    → Tells (Due e (site.node (at p (f.chain relation a (f.more op b f.none))))) (HeldAt (at p (f.chain relation a (f.more op b f.none)))) (relation_outcome p op x y)
related_due e p (t.compare op) a b x y w h = compared_due e p op a b x y w
related_due e p op a b x y w h = absurd h

-- a level with more than one part, within its limit of operators
joined_due : (e : Extensions) (level : Level) (p : Option Loc) (a b : Located) (op : Operator) (others : Parts) (ps : List Part) (x : Value) → LiesWithin p p → IsOfLevel level op → Behind (f.more op b others) ps → (u : Unit {0}) → operator_limit level p (f.more op b others) ≡ Ok u
    → Tells (Due e (site.node (at p (f.chain level a (f.more op b others))))) (HeldAt (at p (f.chain level a (f.more op b others)))) (level_outcome level p ps x)
joined_due e disjunction p a b op others ps x w h i u c = (w, tt)
joined_due e conjunction p a b op others ps x w h i u c = (w, tt)
joined_due e sum p a b op others ps x w h i u c = (w, tt)
joined_due e product p a b op others ps x w h i u c = (w, tt)
joined_due e relation p a b op others [] x w h i u c = absurd i
joined_due e relation p a b op f.none (q ∷ ps) x w h i u c = subst (λ o. Tells (Due e (site.node (at p (f.chain relation a (f.more op b f.none))))) (HeldAt (at p (f.chain relation a (f.more op b f.none)))) (relation_outcome p o x q.1)) (sym i.0) (related_due e p op a b x q.1 w h)
joined_due e relation p a b op (f.more oq d others) (q ∷ ps) x w h i u c = cc

limit_due : (e : Extensions) (level : Level) (p : Option Loc) (a : Located) (ps : Parts) → LiesWithin p p → Tells (Due e (site.node (at p (f.chain level a ps)))) Anything (operator_limit level p ps)
limit_due e relation p a f.none w = tt
limit_due e relation p a (f.more op n f.none) w = tt
limit_due e relation p a (f.more op n (f.more oq m ps)) w = let s : Site = site.node (at p (f.chain relation a (f.more op n (f.more oq m ps)))) in one (Due e s) k.ambiguous_operators p _ (here e s k.ambiguous_operators p due.two_operators w)
limit_due e disjunction p a ps w = tt
limit_due e conjunction p a ps w = tt
limit_due e sum p a ps w = tt
limit_due e product p a ps w = tt

with_equation : {X : Type 0} (P : Sited → Type 0) (o : Outcome X) → Tells P Anything o → Tells P (λ u. o ≡ Ok u) o
with_equation P (Ok u) h = refl
with_equation P (Err fs) h = h

behind_first : (e : Extensions) (level : Level) (p : Option Loc) (a b : Located) (op : Operator) (others : Parts) (h : Held) (ps : List Part) (u : Unit {0}) → LiesWithin p p → IsOfLevel level op → HeldAt a h → Behind (f.more op b others) ps → operator_limit level p (f.more op b others) ≡ Ok u
    → Tells (Due e (site.node (at p (f.chain level a (f.more op b others))))) (HeldAt (at p (f.chain level a (f.more op b others)))) (joint_outcome level p h ps)
behind_first e level p a b op others h [] u w l i g c = absurd g
behind_first e level p a b op others h (q ∷ ps) u w l i g c =
    let s : Site = site.node (at p (f.chain level a (f.more op b others))) in
    next_tells (Due e s) Anything (HeldAt (at p (f.chain level a (f.more op b others)))) (as_expression h) _ (up e (site.wanted site.expression a) s Anything (as_expression h) site.first_operand (expression_due e a h i)) (λ x d _. joined_due e level p a b op others (q ∷ ps) x w l g u c)

-- the result with the equation of the limit beside what holds of the rest
chained_due : (e : Extensions) (level : Level) (p : Option Loc) (a b : Located) (op : Operator) (others : Parts) (x : Outcome Held) (r : Outcome (List Part)) → LiesWithin p p → IsOfLevel level op → Tells (Due e (site.node a)) (HeldAt a) x
    → Tells (Due e (site.node (at p (f.chain level a (f.more op b others))))) (Behind (f.more op b others)) r
    → Tells (Due e (site.node (at p (f.chain level a (f.more op b others))))) (HeldAt (at p (f.chain level a (f.more op b others)))) (chain_outcome level p (f.more op b others) x r)
chained_due e level p a b op others x r w l h g =
    let s : Site = site.node (at p (f.chain level a (f.more op b others))) in
    next_tells (Due e s) (BothHold (BothHold (HeldAt a) (Behind (f.more op b others))) (λ u. operator_limit level p (f.more op b others) ≡ Ok u)) (HeldAt (at p (f.chain level a (f.more op b others)))) _ _
    (both_tell (Due e s) (BothHold (HeldAt a) (Behind (f.more op b others))) (λ u. operator_limit level p (f.more op b others) ≡ Ok u) (both x r) (operator_limit level p (f.more op b others))
    (both_tell (Due e s) (HeldAt a) (Behind (f.more op b others)) x r (up e (site.wanted site.expression a) s (HeldAt a) x site.first_operand (up e (site.node a) (site.wanted site.expression a) (HeldAt a) x expression_part h)) g)
    (with_equation (Due e s) (operator_limit level p (f.more op b others)) (limit_due e level p a (f.more op b others) w)))
    (λ q c i. behind_first e level p a b op others q.0.0 q.0.1 q.1 w l i.0.0 i.0.1 i.1)

-- one operand more
factor_due : (P : Sited → Type 0) (p : Option Loc) (op : Operator) (x : Value) → (op ≡ t.multiply mul.Divide → P (k.unsupported_division, p)) → (op ≡ t.multiply mul.Mod → P (k.unsupported_modulo, p)) → Tells P Anything (factor p op x)
factor_due P p (t.multiply mul.Times) x h g = tt
factor_due P p (t.multiply mul.Divide) x h g = one P k.unsupported_division p _ (h refl)
factor_due P p (t.multiply mul.Mod) x h g = one P k.unsupported_modulo p _ (g refl)
factor_due P p op x h g = tt

-- ---- signs

applied_due : (e : Extensions) (p : Option Loc) (op : Option NegOp) (n : Located) (count : ℕ) (g : Value → Value) (x : Outcome Held) → LiesWithin p p → no_sign op ≡ false → is_negated op (number_in (lone_literal n)) ≡ false → Tells (Due e (site.node n)) (HeldAt n) x
    → Tells (Due e (site.node (at p (f.unary op n)))) (HeldAt (at p (f.unary op n))) (application_outcome p (suc count) g x)
applied_due e p op n count g x w a b h =
    let s : Site = site.node (at p (f.unary op n)) in
    next_tells (Due e s) Anything (HeldAt (at p (f.unary op n))) (next x as_expression) _ (up e (site.wanted site.expression n) s Anything (next x as_expression) (site.signed a b) (wanted_due e n x h)) (λ y c _. (w, tt))

-- nothing is applied
plain_due : (e : Extensions) (p : Option Loc) (op : Option NegOp) (n : Located) (x : Outcome Held) → LiesWithin p (tree_place n) → no_sign op ≡ true → Tells (Due e (site.node n)) (HeldAt n) x → Tells (Due e (site.node (at p (f.unary op n)))) (HeldAt (at p (f.unary op n))) x
plain_due e p op n x w a h = through e (at p (f.unary op n)) n x w (site.through_unary a) (λ m c. way.through_unary a c) h

dashed_due : (e : Extensions) (p : Option Loc) (n : Located) (count : ℕ) (bare : Option ℕ) (x : Outcome Held) → LiesWithin p p → number_in (lone_literal n) ≡ bare → Tells (Due e (site.node n)) (HeldAt n) x
    → Tells (Due e (site.node (at p (f.unary (Some (sign.Dash (suc count))) n)))) (HeldAt (at p (f.unary (Some (sign.Dash (suc count))) n))) (dashes_outcome p (suc count) bare x)
dashed_due e p n count None x w c h = applied_due e p (Some (sign.Dash (suc count))) n count v.neg x w refl (ap (λ b. is_negated (Some (sign.Dash (suc count))) b) c) h
dashed_due e p n count (Some number) x w c h =
    let s : Site = site.node (at p (f.unary (Some (sign.Dash (suc count))) n)) in
    if_tells (Due e s) (HeldAt (at p (f.unary (Some (sign.Dash (suc count))) n))) (nat_le number largest) _ _ (λ i. (w, tt)) (λ i. one (Due e s) k.integer_literal_too_large p _ (here e s k.integer_literal_too_large p (due.large_negative c i) w))

signed_due : (e : Extensions) (p : Option Loc) (op : Option NegOp) (n : Located) (x : Outcome Held) → LiesWithin p p → LiesWithin p (tree_place n) → Tells (Due e (site.node n)) (HeldAt n) x
    → Tells (Due e (site.node (at p (f.unary op n)))) (HeldAt (at p (f.unary op n))) (signs_outcome p op (number_in (lone_literal n)) x)
signed_due e p None n x w l h = plain_due e p None n x l refl h
signed_due e p (Some (sign.Bang zero)) n x w l h = plain_due e p (Some (sign.Bang zero)) n x l refl h
signed_due e p (Some (sign.Bang (suc count))) n x w l h = applied_due e p (Some (sign.Bang (suc count))) n count v.not x w refl refl h
signed_due e p (Some sign.OverBang) n x w l h = let s : Site = site.node (at p (f.unary (Some sign.OverBang) n)) in one (Due e s) k.unary_op_limit p _ (here e s k.unary_op_limit p due.bangs w)
signed_due e p (Some (sign.Dash zero)) n x w l h = plain_due e p (Some (sign.Dash zero)) n x l refl h
signed_due e p (Some (sign.Dash (suc count))) n x w l h = dashed_due e p n count (number_in (lone_literal n)) x w refl h
signed_due e p (Some sign.OverDash) n x w l h = let s : Site = site.node (at p (f.unary (Some sign.OverDash) n)) in one (Due e s) k.unary_op_limit p _ (here e s k.unary_op_limit p due.dashes w)

-- ---- lists

is_of : {op : Operator} {n : Located} {ps : Parts} (p : Option Loc) (level : Option Level) → IsAmong op n ps → PartsNested p level ps → IsBefore level op
is_of p level site.first h = h.0
is_of p level (site.later i) h = is_of p level i h.2

no_quotient : (op : MultOp) → t.multiply op ≢ t.beside
no_quotient op e = cc

-- no item of a list stands behind an operator
none_beside : {n : Located} {ps : Parts} (p : Option Loc) (op : MultOp) → PartsNested p None ps → ¬ (IsAmong (t.multiply op) n ps)
none_beside p op h i = no_quotient op (is_of p None i h)

of_product : (level : Level) (op : MultOp) → IsOfLevel level (t.multiply op) → level ≡ product
of_product disjunction op h = absurd h
of_product conjunction op h = absurd h
of_product relation op h = absurd h
of_product sum op h = absurd h
of_product product op h = refl

-- where `/` and `%` stand at a level, it is a product
divided_due : (e : Extensions) (p : Option Loc) (level : Level) (first n : Located) (ps : Parts) → LiesWithin p p → PartsNested p (Some level) ps → IsAmong (t.multiply mul.Divide) n ps → Due e (site.node (at p (f.chain level first ps))) (k.unsupported_division, p)
divided_due e p level first n ps w h i = subst (λ l. Due e (site.node (at p (f.chain l first ps))) (k.unsupported_division, p)) (sym (of_product level mul.Divide (is_of p (Some level) i h))) (here e (site.node (at p (f.chain product first ps))) k.unsupported_division p (due.division i) w)

left_over_due : (e : Extensions) (p : Option Loc) (level : Level) (first n : Located) (ps : Parts) → LiesWithin p p → PartsNested p (Some level) ps → IsAmong (t.multiply mul.Mod) n ps → Due e (site.node (at p (f.chain level first ps))) (k.unsupported_modulo, p)
left_over_due e p level first n ps w h i = subst (λ l. Due e (site.node (at p (f.chain l first ps))) (k.unsupported_modulo, p)) (sym (of_product level mul.Mod (is_of p (Some level) i h))) (here e (site.node (at p (f.chain product first ps))) k.unsupported_modulo p (due.remainder i) w)

as_many : (ps : Parts) (qs : List Part) → Behind ps qs → count ps ≡ length (bodies qs)
as_many f.none qs h = ap (λ q. length (bodies q)) (sym h)
as_many (f.more op n ps) [] h = absurd h
as_many (f.more op n ps) (q ∷ qs) h = ap suc (as_many ps qs h.1)

-- ---- trees

also : {X : Type 0} (P : Sited → Type 0) (Q S : X → Type 0) (x : Outcome X) → ((y : X) → Q y → S y) → Tells P Q x → Tells P S x
also P Q S (Ok x) g a = g x a
also P Q S (Err fs) g a = a

-- and that it is given
keep : {X : Type 0} (P : Sited → Type 0) (Q : X → Type 0) (o : Outcome X) → Tells P Q o → Tells P (λ y. (o ≡ Ok y) × Q y) o
keep P Q (Ok x) h = (refl, h)
keep P Q (Err fs) h = h

lies : (p : Option Loc) (n : Located) → Nested p n → LiesWithin p (tree_place n)
lies p (f.missing q) h = absurd h
lies p (f.at q u) h = h.0

-- right of `has`
attributes_due : (e : Extensions) (p : Option Loc) (n : Located) → Nested p n → Tells (Due e (site.wanted site.attributes n)) Anything (right_side (tree_place n) n)
attributes_due e p n h =
    let s : Site = site.wanted site.attributes n in
    whole_due e (Due e s) p n h
    (λ m ps c. ((λ b. in_part e (site.node m) s (site.beginning c b)), (λ q x g op i a b. in_part e (site.node i) s (site.attribute (c ∙ ap (λ y. Some (y, ps)) g) a b))))
    (λ kind q d i. here e s kind q (due.no_attributes d) i)

-- right of `like`: what gives nothing is no string
as_pattern_side : (e : Extensions) (n : Located) (o : Outcome Held) → outcome e n ≡ o → Tells (Due e (site.node n)) (HeldAt n) o → Tells (Due e (site.wanted site.pattern n)) (HeldAt n) o
as_pattern_side e n (Ok x) c h = h
as_pattern_side e n (Err fs) c h = up e (site.node n) (site.wanted site.pattern n) (HeldAt n) (Err fs) (site.no_string (no_string_failed e n fs c)) h

-- the type right of `is`
type_part : {n : Located} → IsPart (site.node n) (site.wanted site.entity_type n)
type_part = site.itself refl

typed_due : (e : Extensions) (s : Site) (n : Located) (x : Outcome Value) → Tells (Due e s) Anything x → Tells (Due e (site.node n)) (HeldAt n) (outcome e n) → IsPart (site.wanted site.entity_type n) s → Tells (Due e s) Anything (next (outcome e n) (beside_type x))
typed_due e s n x h g i =
    next_tells (Due e s) (HeldAt n) Anything (outcome e n) (beside_type x) (up e (site.wanted site.entity_type n) s (HeldAt n) (outcome e n) i (up e (site.node n) (site.wanted site.entity_type n) (HeldAt n) (outcome e n) type_part g))
    (λ y c j. forget (Due e s) (BothHold Anything Anything) (both x (as_entity_type y)) (both_tell (Due e s) Anything Anything x (as_entity_type y) h (up e (site.wanted site.entity_type n) s Anything (as_entity_type y) i (type_due e n y c j))))

-- one access gives this
abbrev GivesOne : Located → Access → Type 0
GivesOne n a = (op : Operator) (others : Parts) (rest : List Access) → Gives others rest → Gives (f.more op n others) (a ∷ rest)

repeated_due : (e : Extensions) (p : Option Loc) (ps : Parts) (fs : List (List ℕ × Value)) → LiesWithin p p → ArePairs e ps fs → Tells (Due e (site.node (at p (f.record_of ps)))) (HeldAt (at p (f.record_of ps))) (record_outcome p fs)
repeated_due e p ps fs w h =
    let s : Site = site.node (at p (f.record_of ps)) in
    if_tells (Due e s) (HeldAt (at p (f.record_of ps))) (repeats_key (keys_of fs)) _ _ (λ c. one (Due e s) k.expression_construction_error p _ (here e s k.expression_construction_error p (due.repeated_key fs h c) w)) (λ c. (w, tt))

mutual
  unfolding outcome form_outcome operands accesses_outcome access_outcome access_form_outcome pairs_outcome pair_outcome pair_form_outcome

  pub outcome_due : (e : Extensions) (w : Option Loc) (n : Located) → Nested w n → Tells (Due e (site.node n)) (HeldAt n) (outcome e n)
  outcome_due e w (f.missing p) h = absurd h
  outcome_due e w (f.at p u) h = formed_due e p u (self_within w p h.0) h.1

  -- where an expression is wanted
  pub value_due : (e : Extensions) (w : Option Loc) (n : Located) → Nested w n → Tells (Due e (site.wanted site.expression n)) Anything (value_outcome e n)
  value_due e w (f.missing p) h = absurd h
  value_due e w (f.at p u) h = wanted_due e (at p u) (form_outcome e p u) (formed_due e p u (self_within w p h.0) h.1)

  formed_due : (e : Extensions) (p : Option Loc) (u : Form) → LiesWithin p p → FormNested p u → Tells (Due e (site.node (at p u))) (HeldAt (at p u)) (form_outcome e p u)
  formed_due e p (f.only n) w h = through e (at p (f.only n)) n (outcome e n) (lies p n h) site.through_only (λ y c. way.through_only c) (outcome_due e p n h)
  formed_due e p (f.ite a b c) w h =
      let s : Site = site.node (at p (f.ite a b c)) in
      next_tells (Due e s) (BothHold (BothHold Anything Anything) Anything) (HeldAt (at p (f.ite a b c))) _ _
      (both_tell (Due e s) (BothHold Anything Anything) Anything (both (value_outcome e a) (value_outcome e b)) (value_outcome e c)
      (both_tell (Due e s) Anything Anything (value_outcome e a) (value_outcome e b) (up e (site.wanted site.expression a) s Anything (value_outcome e a) site.guard (value_due e p a h.0)) (up e (site.wanted site.expression b) s Anything (value_outcome e b) site.if_so (value_due e p b h.1)))
      (up e (site.wanted site.expression c) s Anything (value_outcome e c) site.if_not (value_due e p c h.2)))
      (λ x d i. (w, tt))
  formed_due e p (f.chain level first f.none) w h =
      subst (Tells (Due e (site.node (at p (f.chain level first f.none)))) (HeldAt (at p (f.chain level first f.none)))) (sym (chain_alone level p (outcome e first)))
      (through e (at p (f.chain level first f.none)) first (outcome e first) (lies p first h.0) site.through_chain (λ y c. way.through_chain c) (outcome_due e p first h.0))
  formed_due e p (f.chain level first (f.more op n others)) w h =
      let s : Site = site.node (at p (f.chain level first (f.more op n others))) in
      chained_due e level p first n op others (outcome e first) (operands e p (f.more op n others)) w h.1.0 (outcome_due e p first h.0)
      (operands_due e s p (Some level) (f.more op n others) h.1 (λ o m i. site.operand i) (λ m i. divided_due e p level first m (f.more op n others) w h.1 i) (λ m i. left_over_due e p level first m (f.more op n others) w h.1 i))
  formed_due e p (f.has m n) w h =
      let s : Site = site.node (at p (f.has m n)) in
      next_tells (Due e s) Anything (HeldAt (at p (f.has m n))) (right_side (tree_place n) n) _
      (up e (site.wanted site.attributes n) s Anything (right_side (tree_place n) n) site.right_of_has (attributes_due e p n h.1))
      (λ r c _. next_tells (Due e s) Anything (HeldAt (at p (f.has m n))) (value_outcome e m) _ (up e (site.wanted site.expression m) s Anything (value_outcome e m) site.left_of_has (value_due e p m h.0)) (λ x d _. (w, tt)))
  formed_due e p (f.like m n) w h =
      let s : Site = site.node (at p (f.like m n)) in
      next_tells (Due e s) (HeldAt n) (HeldAt (at p (f.like m n))) (outcome e n) _ (up e (site.wanted site.pattern n) s (HeldAt n) (outcome e n) site.right_of_like (as_pattern_side e n (outcome e n) refl (outcome_due e p n h.1)))
      (λ x c i. next_tells (Due e s) (BothHold Anything Anything) (HeldAt (at p (f.like m n))) (both (value_outcome e m) (as_pattern x)) _
      (both_tell (Due e s) Anything Anything (value_outcome e m) (as_pattern x) (up e (site.wanted site.expression m) s Anything (value_outcome e m) site.left_of_like (value_due e p m h.0))
      (up e (site.wanted site.pattern n) s Anything (as_pattern x) site.right_of_like (pattern_due e n x c i)))
      (λ y d _. (w, tt)))
  formed_due e p (f.is m n) w h =
      let s : Site = site.node (at p (f.is m n)) in
      next_tells (Due e s) Anything (HeldAt (at p (f.is m n))) _ _
      (typed_due e s n (value_outcome e m) (up e (site.wanted site.expression m) s Anything (value_outcome e m) site.left_of_is (value_due e p m h.0)) (outcome_due e p n h.1) site.right_of_is)
      (λ x c _. (w, tt))
  formed_due e p (f.is_in m n i) w h =
      let s : Site = site.node (at p (f.is_in m n i)) in
      next_tells (Due e s) Anything (HeldAt (at p (f.is_in m n i))) _ _
      (typed_due e s n (value_outcome e m) (up e (site.wanted site.expression m) s Anything (value_outcome e m) site.left_of_is_in (value_due e p m h.0)) (outcome_due e p n h.1) site.right_of_is_in)
      (λ x c _. next_tells (Due e s) Anything (HeldAt (at p (f.is_in m n i))) (value_outcome e i) _ (up e (site.wanted site.expression i) s Anything (value_outcome e i) site.behind_in (value_due e p i h.2)) (λ y d _. (w, tt)))
  formed_due e p (f.unary op n) w h = signed_due e p op n (outcome e n) w (lies p n h) (outcome_due e p n h)
  formed_due e p (f.member n f.none) w h =
      subst (Tells (Due e (site.node (at p (f.member n f.none)))) (HeldAt (at p (f.member n f.none)))) (sym (member_alone e p (outcome e n)))
      (through e (at p (f.member n f.none)) n (outcome e n) (lies p n h.0) site.head (λ y c. way.through_member c) (outcome_due e p n h.0))
  formed_due e p (f.member n (f.more op m ps)) w h =
      let all : Parts = f.more op m ps in
      let s : Site = site.node (at p (f.member n all)) in
      next_tells (Due e s) (BothHold (λ y. (outcome e n ≡ Ok y) × HeldAt n y) (Gives all)) (HeldAt (at p (f.member n all))) _ _
      (both_tell (Due e s) (λ y. (outcome e n ≡ Ok y) × HeldAt n y) (Gives all) (outcome e n) (accesses_outcome e all) (keep (Due e s) (HeldAt n) (outcome e n) (up e (site.node n) s (HeldAt n) (outcome e n) site.head (outcome_due e p n h.0)))
      (accesses_due e s p (f.more op m ps) h.1 (λ o r i. site.access i)))
      (λ q c i. member_due e p n op m ps q.0 q.1 w (lies p n h.0) i.0.0 i.0.1 i.1)
  formed_due e p (f.literal n) w h = literal_due e p n h
  formed_due e p (f.name n) w h = named_due e p n w h
  formed_due e p (f.slot n) w h = slot_due e p n h
  formed_due e p (f.reference n) w h = entity_due e p n h
  formed_due e p (f.parens n) w h =
      let s : Site = site.node (at p (f.parens n)) in
      next_tells (Due e s) Anything (HeldAt (at p (f.parens n))) (value_outcome e n) _ (up e (site.wanted site.expression n) s Anything (value_outcome e n) site.in_parens (value_due e p n h)) (λ x c _. (lies p n h, tt))
  formed_due e p (f.set ps) w h =
      let s : Site = site.node (at p (f.set ps)) in
      next_tells (Due e s) (Behind ps) (HeldAt (at p (f.set ps))) (operands e p ps) _
      (operands_due e s p None ps h (λ o m i. site.item i) (λ m i. absurd (none_beside p mul.Divide h i)) (λ m i. absurd (none_beside p mul.Mod h i))) (λ x c _. (w, tt))
  formed_due e p (f.record_of ps) w h =
      let s : Site = site.node (at p (f.record_of ps)) in
      next_tells (Due e s) (ArePairs e ps) (HeldAt (at p (f.record_of ps))) (pairs_outcome e ps) _ (pairs_due e s p ps h (λ o m i. site.pair i)) (λ fs c i. repeated_due e p ps fs w i)
  formed_due e p (f.field n) w h = absurd h
  formed_due e p (f.call ps) w h = absurd h
  formed_due e p (f.index n) w h = absurd h
  formed_due e p (f.init m n) w h = absurd h

  operands_due : (e : Extensions) (s : Site) (p : Option Loc) (level : Option Level) (ps : Parts) → PartsNested p level ps → ((op : Operator) (n : Located) → IsAmong op n ps → IsPart (site.wanted site.expression n) s)
      → ((n : Located) → IsAmong (t.multiply mul.Divide) n ps → Due e s (k.unsupported_division, p)) → ((n : Located) → IsAmong (t.multiply mul.Mod) n ps → Due e s (k.unsupported_modulo, p)) → Tells (Due e s) (Behind ps) (operands e p ps)
  operands_due e s p level f.none h below d r = refl
  operands_due e s p level (f.more op n ps) h below d r =
      next_tells (Due e s) (BothHold Anything (Behind ps)) (Behind (f.more op n ps)) _ _
      (both_tell (Due e s) Anything (Behind ps) (next (value_outcome e n) (factor p op)) (operands e p ps)
      (next_tells (Due e s) Anything Anything (value_outcome e n) (factor p op) (up e (site.wanted site.expression n) s Anything (value_outcome e n) (below op n site.first) (value_due e p n h.1))
      (λ x c _. factor_due (Due e s) p op x (λ i. d n (subst (λ o. IsAmong o n (f.more op n ps)) i site.first)) (λ i. r n (subst (λ o. IsAmong o n (f.more op n ps)) i site.first))))
      (operands_due e s p level ps h.2 (λ o m i. below o m (site.later i)) (λ m i. d m (site.later i)) (λ m i. r m (site.later i))))
      (λ q c i. (refl, i.1))

  accesses_due : (e : Extensions) (s : Site) (w : Option Loc) (ps : Parts) → AccessesNested w ps → ((op : Operator) (n : Located) → IsAmong op n ps → IsPart (site.node n) s) → Tells (Due e s) (Gives ps) (accesses_outcome e ps)
  accesses_due e s w f.none h below = nothing
  accesses_due e s w (f.more op n ps) h below =
      next_tells (Due e s) (BothHold (GivesOne n) (Gives ps)) (Gives (f.more op n ps)) _ _
      (both_tell (Due e s) (GivesOne n) (Gives ps) (access_outcome e n) (accesses_outcome e ps) (up e (site.node n) s (GivesOne n) (access_outcome e n) (below op n site.first) (access_due e w n h.0)) (accesses_due e s w ps h.1 (λ o m i. below o m (site.later i))))
      (λ q c i. i.0 op ps q.1 i.1)

  access_due : (e : Extensions) (w : Option Loc) (n : Located) → AccessNested w n → Tells (Due e (site.node n)) (GivesOne n) (access_outcome e n)
  access_due e w (f.missing p) h = absurd h
  access_due e w (f.at p u) h = access_form_due e p u (self_within w p h.0) h.1

  access_form_due : (e : Extensions) (p : Option Loc) (u : Form) → LiesWithin p p → AccessFormNested p u → Tells (Due e (site.node (at p u))) (GivesOne (at p u)) (access_form_outcome e p u)
  access_form_due e p (f.field n) w h = next_tells (Due e (site.node (at p (f.field n)))) Anything (GivesOne (at p (f.field n))) (unreserved_ident n) _ (unreserved_due e p n h) (λ id c _ op others rest g. a_field c g)
  access_form_due e p (f.call ps) w h =
      let s : Site = site.node (at p (f.call ps)) in
      next_tells (Due e s) (Behind ps) (GivesOne (at p (f.call ps))) (operands e p ps) _
      (operands_due e s p None ps h (λ o m i. site.argument i) (λ m i. absurd (none_beside p mul.Divide h i)) (λ m i. absurd (none_beside p mul.Mod h i)))
      (λ qs c i op others rest g. a_call (as_many ps qs i) g)
  access_form_due e p (f.index n) w h =
      let s : Site = site.node (at p (f.index n)) in
      next_tells (Due e s) Anything (GivesOne (at p (f.index n))) (next (outcome e n) as_string) _
      (up e (site.wanted site.string n) s Anything (next (outcome e n) as_string) site.in_index
      (next_tells (Due e (site.wanted site.string n)) (HeldAt n) Anything (outcome e n) as_string (up e (site.node n) (site.wanted site.string n) (HeldAt n) (outcome e n) text_part (outcome_due e p n h)) (λ x c i. string_due e n x c i)))
      (λ text c _ op others rest g. an_index g)
  access_form_due e p u w h = absurd h

  pairs_due : (e : Extensions) (s : Site) (w : Option Loc) (ps : Parts) → PairsNested w ps → ((op : Operator) (n : Located) → IsAmong op n ps → IsPart (site.node n) s) → Tells (Due e s) (ArePairs e ps) (pairs_outcome e ps)
  pairs_due e s w f.none h below = tt
  pairs_due e s w (f.more op n ps) h below =
      next_tells (Due e s) (BothHold (IsPair e n) (ArePairs e ps)) (ArePairs e (f.more op n ps)) _ _
      (both_tell (Due e s) (IsPair e n) (ArePairs e ps) (pair_outcome e n) (pairs_outcome e ps) (up e (site.node n) s (IsPair e n) (pair_outcome e n) (below op n site.first) (pair_due e w n h.0)) (pairs_due e s w ps h.1 (λ o m i. below o m (site.later i))))
      (λ q c i. i)

  pair_due : (e : Extensions) (w : Option Loc) (n : Located) → PairNested w n → Tells (Due e (site.node n)) (IsPair e n) (pair_outcome e n)
  pair_due e w (f.missing p) h = absurd h
  pair_due e w (f.at p u) h = pair_form_due e p u (self_within w p h.0) h.1

  pair_form_due : (e : Extensions) (p : Option Loc) (u : Form) → LiesWithin p p → PairFormNested p u → Tells (Due e (site.node (at p u))) (IsPair e (at p u)) (pair_form_outcome e p u)
  pair_form_due e p (f.init m n) w h =
      let s : Site = site.node (at p (f.init m n)) in
      next_tells (Due e s) (HeldAt m) (IsPair e (at p (f.init m n))) (outcome e m) _ (up e (site.wanted site.key m) s (HeldAt m) (outcome e m) site.key_of (up e (site.node m) (site.wanted site.key m) (HeldAt m) (outcome e m) key_part (outcome_due e p m h.0)))
      (λ x c i. also (Due e s) (BothHold (λ y. (as_attribute x ≡ Ok y) × Unit {0}) (λ y. (value_outcome e n ≡ Ok y) × Unit {0})) (IsPair e (at p (f.init m n))) (both (as_attribute x) (value_outcome e n))
      (λ y j. record { place = p; key = m; value = n; is = refl; attribute = ap (λ o. next o as_attribute) c ∙ j.0.0; converts = j.1.0 })
      (both_tell (Due e s) (λ y. (as_attribute x ≡ Ok y) × Unit {0}) (λ y. (value_outcome e n ≡ Ok y) × Unit {0}) (as_attribute x) (value_outcome e n)
      (keep (Due e s) Anything (as_attribute x) (up e (site.wanted site.key m) s Anything (as_attribute x) site.key_of (key_due e m x c i))) (keep (Due e s) Anything (value_outcome e n) (up e (site.wanted site.expression n) s Anything (value_outcome e n) site.value (value_due e p n h.1)))))
  pair_form_due e p u w h = absurd h

-- ---- where an expression is wanted

pub faults_are_due : (e : Extensions) (w : Option Loc) (n : Located) → Nested w n → AreDueIn e (site.wanted site.expression n) (value_outcome e n)
faults_are_due e w n h = are_due e (site.wanted site.expression n) Anything (value_outcome e n) (value_due e w n h)
