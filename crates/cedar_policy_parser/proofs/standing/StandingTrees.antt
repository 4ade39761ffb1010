-- Where the faults of a tidy tree stand: a line for each rule, and the trees.
use Rattle.std.proofs.Common.{ℕ, zero, suc, nat_le, List, [], ◌∷◌, Option, Some, None}
use Rattle.std.specs.Map.{keys_of}
use Rattle.cedar_expressions.specs.Keys.{repeats_key}
use Rattle.cedar_expressions.specs.Value as v
use Rattle.cedar_expressions.specs.Value.{Value}
use Rattle.cedar_syntax.specs.declared.loc.Loc.{Loc}
use Rattle.cedar_syntax.specs.declared.cst.MultOp.TheVariants as mul
use Rattle.cedar_syntax.specs.declared.cst.RelOp.{RelOp}
use Rattle.cedar_syntax.specs.declared.cst.RelOp.TheVariants as rel
use Rattle.cedar_syntax.specs.declared.cst.NegOp.{NegOp}
use Rattle.cedar_syntax.specs.declared.cst.NegOp.TheVariants as sign
use Rattle.cedar_syntax.specs.trees.Located as f
use Rattle.cedar_syntax.specs.trees.Located.{Located, Form, Parts}
use Rattle.cedar_syntax.specs.trees.Tree as t
use Rattle.cedar_syntax.specs.trees.Tree.{Level, Operator, disjunction, conjunction, relation, sum, product}
use Rattle.cedar_conversion.specs.outcome.Conversion.{Part, outcome, form_outcome, operands, accesses_outcome, access_outcome, access_form_outcome, pairs_outcome, pair_outcome, pair_form_outcome, value_outcome, comparison_outcome, relation_outcome, level_outcome, joint_outcome, operator_limit, chain_outcome, factor, application_outcome, dashes_outcome, signs_outcome, beside_type, tree_place, record_outcome, number_in, lone_literal}
use Rattle.cedar_conversion.specs.strict.Extensions.{Extensions}
use Rattle.cedar_conversion.specs.parts.HasSide.{right_side}
use Rattle.cedar_conversion.specs.outcome.Held.{Held, as_expression, as_pattern, as_entity_type, as_string, as_attribute}
use Rattle.cedar_conversion.specs.parts.Names.{unreserved_ident}
use Rattle.cedar_conversion.specs.outcome.Outcome.{Outcome, both, next, empty_node, ambiguous_operators, invalid_single_eq, unary_op_limit, integer_literal_too_large, unsupported_division, unsupported_modulo, expression_construction_error}
use Rattle.cedar_policy_parser.specs.faults.Standing.{StandWithin}
use Rattle.cedar_conversion.specs.strict.Strict.{largest}
use Rattle.cedar_policy_parser.proofs.standing.Standing.{IsTold, Origin, parsed, LiesIn, anywhere, IsPlain, Stands, Anything, BothHold, alone, both_stand, both_any, next_stands, then_stands, if_stands, weaker, stand_within}
use Rattle.cedar_policy_parser.proofs.standing.StandingLeaves.{HeldWithin, as_value, value_stands, pattern_held, type_held, string_held, attribute_held, unreserved_stands, literal_stands, named_stands, slot_stands, entity_held_stands}
use Rattle.cedar_policy_parser.proofs.standing.StandingMembers.{member_stands, right_stands}
use Rattle.cedar_policy_parser.proofs.tidy.Tidy.{Tidy, FormTidy, PartsTidy, AccessesTidy, AccessTidy, AccessFormTidy, PairsTidy, PairTidy, PairFormTidy}

-- ---- rules

compared_stands : (o : Origin) (p : Option Loc) (op : RelOp) (a b : Value) → LiesIn o p → Stands IsPlain o (HeldWithin o) (comparison_outcome p op a b)
compared_stands o p rel.Less a b h = h
compared_stands o p rel.LessEq a b h = h
compared_stands o p rel.GreaterEq a b h = h
compared_stands o p rel.Greater a b h = h
compared_stands o p rel.NotEq a b h = h
compared_stands o p rel.Eq a b h = h
compared_stands o p rel.In a b h = h
compared_stands o p rel.InvalidSingleEq a b h = alone IsPlain o invalid_single_eq p tt h

related_stands : (o : Origin) (p : Option Loc) (op : Operator) (a b : Value) → LiesIn o p → Stands IsPlain o (HeldWithin o) (relation_outcome p op a b)
related_stands o p (t.compare op) a b h = compared_stands o p op a b h
related_stands o p op a b h = alone IsPlain o invalid_single_eq p tt h

combined_stands : (o : Origin) (level : Level) (p : Option Loc) (ps : List Part) (a : Value) → LiesIn o p → Stands IsPlain o (HeldWithin o) (level_outcome level p ps a)
combined_stands o disjunction p ps a h = h
combined_stands o conjunction p ps a h = h
combined_stands o relation p [] a h = h
combined_stands o relation p (r ∷ ps) a h = related_stands o p r.0 a r.1 h
combined_stands o sum p ps a h = h
combined_stands o product p ps a h = h

joined_stands : (o : Origin) (level : Level) (p : Option Loc) (s : Held) (ps : List Part) → LiesIn o p → HeldWithin o s → Stands IsPlain o (HeldWithin o) (joint_outcome level p s ps)
joined_stands o level p s [] w h = h
joined_stands o level p s (r ∷ ps) w h = then_stands IsPlain o (HeldWithin o) (as_expression s) _ (as_value o s h) (λ a. combined_stands o level p (r ∷ ps) a w)

allowed_stands : (o : Origin) (level : Level) (p : Option Loc) (ps : Parts) → LiesIn o p → Stands IsPlain o Anything (operator_limit level p ps)
allowed_stands o relation p f.none h = tt
allowed_stands o relation p (f.more op n f.none) h = tt
allowed_stands o relation p (f.more op n (f.more oq m ps)) h = alone IsPlain o ambiguous_operators p tt h
allowed_stands o disjunction p ps h = tt
allowed_stands o conjunction p ps h = tt
allowed_stands o sum p ps h = tt
allowed_stands o product p ps h = tt

chained_stands : (o : Origin) (level : Level) (p : Option Loc) (ps : Parts) (x : Outcome Held) (r : Outcome (List Part)) → LiesIn o p → Stands IsPlain o (HeldWithin o) x → Stands IsPlain o Anything r → Stands IsPlain o (HeldWithin o) (chain_outcome level p ps x r)
chained_stands o level p ps x r w h k =
    next_stands IsPlain o (BothHold (BothHold (HeldWithin o) Anything) Anything) (HeldWithin o) _ _
    (both_stand IsPlain o (BothHold (HeldWithin o) Anything) Anything (both x r) (operator_limit level p ps) (both_stand IsPlain o (HeldWithin o) Anything x r h k) (allowed_stands o level p ps w))
    (λ q i. joined_stands o level p q.0.0 q.0.1 w i.0.0)

factor_stands : (o : Origin) (p : Option Loc) (op : Operator) (x : Value) → LiesIn o p → Stands IsPlain o Anything (factor p op x)
factor_stands o p (t.multiply mul.Times) x h = tt
factor_stands o p (t.multiply mul.Divide) x h = alone IsPlain o unsupported_division p tt h
factor_stands o p (t.multiply mul.Mod) x h = alone IsPlain o unsupported_modulo p tt h
factor_stands o p op x h = tt

applied_stands : (o : Origin) (p : Option Loc) (n : ℕ) (g : Value → Value) (x : Outcome Held) → LiesIn o p → Stands IsPlain o (HeldWithin o) x → Stands IsPlain o (HeldWithin o) (application_outcome p n g x)
applied_stands o p zero g x w h = h
applied_stands o p (suc n) g x w h = then_stands IsPlain o (HeldWithin o) (next x as_expression) _ (value_stands o x h) (λ a. w)

dashed_stands : (o : Origin) (p : Option Loc) (n : ℕ) (bare : Option ℕ) (x : Outcome Held) → LiesIn o p → Stands IsPlain o (HeldWithin o) x → Stands IsPlain o (HeldWithin o) (dashes_outcome p n bare x)
dashed_stands o p zero bare x w h = h
dashed_stands o p (suc n) None x w h = applied_stands o p (suc n) v.neg x w h
dashed_stands o p (suc n) (Some k) x w h = if_stands IsPlain o (HeldWithin o) (nat_le k largest) _ _ w (alone IsPlain o integer_literal_too_large p tt w)

signed_stands : (o : Origin) (p : Option Loc) (op : Option NegOp) (bare : Option ℕ) (x : Outcome Held) → LiesIn o p → Stands IsPlain o (HeldWithin o) x → Stands IsPlain o (HeldWithin o) (signs_outcome p op bare x)
signed_stands o p None bare x w h = h
signed_stands o p (Some (sign.Bang n)) bare x w h = applied_stands o p n v.not x w h
signed_stands o p (Some sign.OverBang) bare x w h = alone IsPlain o unary_op_limit p tt w
signed_stands o p (Some (sign.Dash n)) bare x w h = dashed_stands o p n bare x w h
signed_stands o p (Some sign.OverDash) bare x w h = alone IsPlain o unary_op_limit p tt w

-- ---- trees

-- a tidy tree lies within
pub lies : (o : Origin) (n : Located) → Tidy o n → LiesIn o (tree_place n)
lies o (f.missing p) h = anywhere o p h
lies o (f.at p u) h = h.0

type_stands : (o : Origin) (x : Outcome Value) (y : Outcome Held) → Stands IsPlain o Anything x → Stands IsPlain o (HeldWithin o) y → Stands IsPlain o Anything (next y (beside_type x))
type_stands o x y a b = next_stands IsPlain o (HeldWithin o) Anything y (beside_type x) b (λ h w. both_any IsPlain o x (as_entity_type h) a (type_held o h w))

record_stands : (o : Origin) (p : Option Loc) (fs : List (List ℕ × Value)) → LiesIn o p → Stands IsPlain o (HeldWithin o) (record_outcome p fs)
record_stands o p fs w = if_stands IsPlain o (HeldWithin o) (repeats_key (keys_of fs)) _ _ (alone IsPlain o expression_construction_error p tt w) w

mutual
  unfolding outcome form_outcome operands accesses_outcome access_outcome access_form_outcome pairs_outcome pair_outcome pair_form_outcome

  pub outcome_stands : (e : Extensions) (o : Origin) (n : Located) → Tidy o n → Stands IsPlain o (HeldWithin o) (outcome e n)
  outcome_stands e o (f.missing p) h = alone IsPlain o empty_node p h (anywhere o p h)
  outcome_stands e o (f.at p u) h = formed_stands e o p u h.0 h.1

  -- where an expression is wanted
  pub wanted_stands : (e : Extensions) (o : Origin) (n : Located) → Tidy o n → Stands IsPlain o Anything (value_outcome e n)
  wanted_stands e o (f.missing p) h = alone IsPlain o empty_node p h (anywhere o p h)
  wanted_stands e o (f.at p u) h = value_stands o (form_outcome e p u) (formed_stands e o p u h.0 h.1)

  formed_stands : (e : Extensions) (o : Origin) (p : Option Loc) (u : Form) → LiesIn o p → FormTidy o u → Stands IsPlain o (HeldWithin o) (form_outcome e p u)
  formed_stands e o p (f.only n) w h = outcome_stands e o n h
  formed_stands e o p (f.ite a b c) w h =
      then_stands IsPlain o (HeldWithin o) _ _
      (both_any IsPlain o (both (value_outcome e a) (value_outcome e b)) (value_outcome e c) (both_any IsPlain o (value_outcome e a) (value_outcome e b) (wanted_stands e o a h.0) (wanted_stands e o b h.1)) (wanted_stands e o c h.2)) (λ x. w)
  formed_stands e o p (f.chain level first others) w h = chained_stands o level p others _ _ w (outcome_stands e o first h.0) (operands_stand e o p others w h.1)
  formed_stands e o p (f.has m n) w h =
      then_stands IsPlain o (HeldWithin o) (right_side (tree_place n) n) _ (right_stands o (tree_place n) n (lies o n h.1) h.1) (λ r. then_stands IsPlain o (HeldWithin o) (value_outcome e m) _ (wanted_stands e o m h.0) (λ x. w))
  formed_stands e o p (f.like m n) w h =
      next_stands IsPlain o (HeldWithin o) (HeldWithin o) (outcome e n) _ (outcome_stands e o n h.1)
      (λ s i. then_stands IsPlain o (HeldWithin o) (both (value_outcome e m) (as_pattern s)) _ (both_any IsPlain o (value_outcome e m) (as_pattern s) (wanted_stands e o m h.0) (pattern_held o s i)) (λ x. w))
  formed_stands e o p (f.is m n) w h = then_stands IsPlain o (HeldWithin o) _ _ (type_stands o (value_outcome e m) (outcome e n) (wanted_stands e o m h.0) (outcome_stands e o n h.1)) (λ x. w)
  formed_stands e o p (f.is_in m n i) w h =
      then_stands IsPlain o (HeldWithin o) _ _ (type_stands o (value_outcome e m) (outcome e n) (wanted_stands e o m h.0) (outcome_stands e o n h.1))
      (λ x. then_stands IsPlain o (HeldWithin o) (value_outcome e i) _ (wanted_stands e o i h.2) (λ y. w))
  formed_stands e o p (f.unary op item) w h = signed_stands o p op (number_in (lone_literal item)) (outcome e item) w (outcome_stands e o item h)
  formed_stands e o p (f.member item ps) w h =
      next_stands IsPlain o (BothHold (HeldWithin o) Anything) (HeldWithin o) _ _ (both_stand IsPlain o (HeldWithin o) Anything (outcome e item) (accesses_outcome e ps) (outcome_stands e o item h.0) (accesses_stand e o ps h.1))
      (λ x i. member_stands e o p x.1 x.0 w i.0)
  formed_stands e o p (f.field n) w h = alone IsPlain o empty_node p h w
  formed_stands e o p (f.call ps) w h = alone IsPlain o empty_node p h w
  formed_stands e o p (f.index n) w h = alone IsPlain o empty_node p h w
  formed_stands e o p (f.literal n) w h = literal_stands o n.loc n.node h.0 h.1
  formed_stands e o p (f.name n) w h = named_stands o p n w h
  formed_stands e o p (f.slot n) w h = slot_stands o n h
  formed_stands e o p (f.reference n) w h = entity_held_stands o n h
  formed_stands e o p (f.parens n) w h = then_stands IsPlain o (HeldWithin o) (value_outcome e n) _ (wanted_stands e o n h) (λ x. lies o n h)
  formed_stands e o p (f.set ps) w h = then_stands IsPlain o (HeldWithin o) (operands e p ps) _ (operands_stand e o p ps w h) (λ x. w)
  formed_stands e o p (f.record_of ps) w h = then_stands IsPlain o (HeldWithin o) (pairs_outcome e ps) _ (pairs_stand e o ps h) (λ fs. record_stands o p fs w)
  formed_stands e o p (f.init m n) w h = alone IsPlain o empty_node p h w

  operands_stand : (e : Extensions) (o : Origin) (p : Option Loc) (ps : Parts) → LiesIn o p → PartsTidy o ps → Stands IsPlain o Anything (operands e p ps)
  operands_stand e o p f.none w h = tt
  operands_stand e o p (f.more op n ps) w h =
      then_stands IsPlain o Anything _ _ (both_any IsPlain o _ (operands e p ps) (then_stands IsPlain o Anything (value_outcome e n) _ (wanted_stands e o n h.0) (λ x. factor_stands o p op x w)) (operands_stand e o p ps w h.1)) (λ x. tt)

  accesses_stand : (e : Extensions) (o : Origin) (ps : Parts) → AccessesTidy o ps → Stands IsPlain o Anything (accesses_outcome e ps)
  accesses_stand e o f.none h = tt
  accesses_stand e o (f.more op n ps) h = then_stands IsPlain o Anything _ _ (both_any IsPlain o (access_outcome e n) (accesses_outcome e ps) (access_stands e o n h.0) (accesses_stand e o ps h.1)) (λ x. tt)

  access_stands : (e : Extensions) (o : Origin) (n : Located) → AccessTidy o n → Stands IsPlain o Anything (access_outcome e n)
  access_stands e o (f.missing p) h = alone IsPlain o empty_node p h (anywhere o p h)
  access_stands e o (f.at p u) h = access_form_stands e o p u h.0 h.1

  access_form_stands : (e : Extensions) (o : Origin) (p : Option Loc) (u : Form) → LiesIn o p → AccessFormTidy o u → Stands IsPlain o Anything (access_form_outcome e p u)
  access_form_stands e o p (f.field n) w h = then_stands IsPlain o Anything (unreserved_ident n) _ (unreserved_stands o n h) (λ id. tt)
  access_form_stands e o p (f.call ps) w h = then_stands IsPlain o Anything (operands e p ps) _ (operands_stand e o p ps w h) (λ qs. tt)
  access_form_stands e o p (f.index n) w h = then_stands IsPlain o Anything (next (outcome e n) as_string) _ (next_stands IsPlain o (HeldWithin o) Anything (outcome e n) as_string (outcome_stands e o n h) (string_held o)) (λ text. tt)
  access_form_stands e o p u w h = alone IsPlain o empty_node p h w

  pairs_stand : (e : Extensions) (o : Origin) (ps : Parts) → PairsTidy o ps → Stands IsPlain o Anything (pairs_outcome e ps)
  pairs_stand e o f.none h = tt
  pairs_stand e o (f.more op n ps) h = then_stands IsPlain o Anything _ _ (both_any IsPlain o (pair_outcome e n) (pairs_outcome e ps) (pair_stands e o n h.0) (pairs_stand e o ps h.1)) (λ x. tt)

  pair_stands : (e : Extensions) (o : Origin) (n : Located) → PairTidy o n → Stands IsPlain o Anything (pair_outcome e n)
  pair_stands e o (f.missing p) h = alone IsPlain o empty_node p h (anywhere o p h)
  pair_stands e o (f.at p u) h = pair_form_stands e o p u h.0 h.1

  pair_form_stands : (e : Extensions) (o : Origin) (p : Option Loc) (u : Form) → LiesIn o p → PairFormTidy o u → Stands IsPlain o Anything (pair_form_outcome e p u)
  pair_form_stands e o p (f.init m n) w h = next_stands IsPlain o (HeldWithin o) Anything (outcome e m) _ (outcome_stands e o m h.0) (λ s i. both_any IsPlain o (as_attribute s) (value_outcome e n) (attribute_held o s i) (wanted_stands e o n h.1))
  pair_form_stands e o p u w h = alone IsPlain o empty_node p h w

-- ---- where an expression is wanted

pub expression_stands : (e : Extensions) (o : Origin) (n : Located) → Tidy o n → Stands IsTold o Anything (value_outcome e n)
expression_stands e o n h = weaker o Anything (value_outcome e n) (wanted_stands e o n h)

pub value_faults : (e : Extensions) (outer : Option Loc) (n : Located) → Tidy (parsed outer) n → StandWithin outer (value_outcome e n)
value_faults e outer n h = stand_within outer (value_outcome e n) (expression_stands e (parsed outer) n h)
