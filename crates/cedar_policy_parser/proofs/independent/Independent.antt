-- Values don't look at places, but those of their slots: a line for each rule, and the trees.
use Rattle.std.proofs.Common.{◌≡◌, ℕ, zero, suc, nat_le, List, [], ◌∷◌, map, Option, Some, None, option_map, Ok, Err, refl, sym, ap, ◌∙◌, pos, neg_ℤ}
use Rattle.std.specs.Map.{keys_of}
use Rattle.cedar_expressions.specs.Keys.{repeats_key}
use Rattle.cedar_expressions.specs.Value as v
use Rattle.cedar_expressions.specs.Value.{Value, values, terms, fields}
use Rattle.cedar_expressions.specs.WithoutPlaces.{without_places, all_without_places, terms_without_places, fields_without_places}
use Rattle.cedar_expressions.specs.declared.atoms.Literal.{Literal as Constant}
use Rattle.cedar_expressions.specs.declared.atoms.Literal.TheVariants as literals
use Rattle.cedar_syntax.specs.declared.loc.Loc.{Loc}
use Rattle.cedar_syntax.specs.declared.cst.Literal.{Literal}
use Rattle.cedar_syntax.specs.declared.cst.Literal.TheVariants as lit
use Rattle.cedar_syntax.specs.declared.cst.MultOp.TheVariants as mul
use Rattle.cedar_syntax.specs.declared.cst.RelOp.{RelOp}
use Rattle.cedar_syntax.specs.declared.cst.RelOp.TheVariants as rel
use Rattle.cedar_syntax.specs.declared.cst.NegOp.{NegOp}
use Rattle.cedar_syntax.specs.declared.cst.NegOp.TheVariants as sign
use Rattle.cedar_syntax.specs.trees.Located as f
use Rattle.cedar_syntax.specs.trees.Located.{Located, Form, Parts}
use Rattle.cedar_syntax.specs.trees.Tree as t
use Rattle.cedar_syntax.specs.trees.Tree.{Level, Operator, disjunction, conjunction, relation, sum, product}
use Rattle.cedar_syntax.specs.trees.Unlocated.{unlocated, unlocated_form, unlocated_parts, unlocated_literal}
use Rattle.cedar_policy_parser.proofs.Alike.{Alike, Same}
use Rattle.cedar_conversion.specs.outcome.Conversion.{Part, bodies, add_op, sum_terms, negative, set_value_outcome, outcome, form_outcome, operands, accesses_outcome, access_outcome, access_form_outcome, pairs_outcome, pair_outcome, pair_form_outcome, value_outcome, comparison_outcome, relation_outcome, level_outcome, joint_outcome, operator_limit, chain_outcome, factor, application_outcome, dashes_outcome, signs_outcome, beside_type, tree_place, record_outcome, number_in, lone_literal, literal_alone}
use Rattle.cedar_conversion.specs.strict.Extensions.{Extensions}
use Rattle.cedar_conversion.specs.outcome.Held.{Held, as_attribute}
use Rattle.cedar_conversion.specs.parts.Members.{Access, call}
use Rattle.cedar_conversion.specs.outcome.Outcome.{Outcome, both, outcome_value}
use Rattle.cedar_conversion.specs.strict.Strict.{iteration, largest}
use Rattle.cedar_policy_parser.proofs.independent.IndependentLeaves.{Equal, Pairs, Aside, PartsAside, part_aside, aside_then, values_aside, both_alike, next_alike, then_alike, if_alike, as_value, value_alike, as_pattern_alike, as_type_alike, as_string_alike, as_attribute_alike, unreserved_alike, literal_alike, named_alike, slot_alike, entity_alike}
use Rattle.cedar_policy_parser.proofs.independent.IndependentMembers.{access_aside, member_alike, right_alike}

-- ---- lists of values, places aside

bodies_map : (ps : List Part) → map without_places (bodies ps) ≡ bodies (map part_aside ps)
bodies_map [] = refl
bodies_map (r ∷ ps) = ap (λ xs. without_places r.1 ∷ xs) (bodies_map ps)

bodies_aside : (ps : List Part) → all_without_places (values (bodies ps)) ≡ values (bodies (map part_aside ps))
bodies_aside ps = values_aside (bodies ps) ∙ ap values (bodies_map ps)

terms_aside : (ps : List Part) → terms_without_places (terms (sum_terms ps)) ≡ terms (sum_terms (map part_aside ps))
unfolding terms_without_places
terms_aside [] = refl
terms_aside (r ∷ ps) = ap (v.term (add_op r.0) (without_places r.1)) (terms_aside ps)

abbrev pair_aside : List ℕ × Value → List ℕ × Value
pair_aside p = (p.0, without_places p.1)

abbrev PairsAside : List (List ℕ × Value) → List (List ℕ × Value) → Type 0
PairsAside xs ys = map pair_aside xs ≡ ys

abbrev AccessesAside : List Access → List Access → Type 0
AccessesAside xs ys = map access_aside xs ≡ ys

abbrev AccessAside : Access → Access → Type 0
AccessAside x y = access_aside x ≡ y

fields_aside : (fs : List (List ℕ × Value)) → fields_without_places (fields fs) ≡ fields (map pair_aside fs)
unfolding fields_without_places
fields_aside [] = refl
fields_aside (f ∷ fs) = ap (v.field f.0 (without_places f.1)) (fields_aside fs)

keys_aside : (fs : List (List ℕ × Value)) → keys_of (map pair_aside fs) ≡ keys_of fs
keys_aside [] = refl
keys_aside (f ∷ fs) = ap (λ ks. f.0 ∷ ks) (keys_aside fs)

repeated_aside : (n : ℕ) (g : Value → Value) → ((a : Value) → without_places (g a) ≡ g (without_places a)) → (a : Value) → without_places (iteration n g a) ≡ iteration n g (without_places a)
repeated_aside zero g k a = refl
repeated_aside (suc n) g k a = k (iteration n g a) ∙ ap g (repeated_aside n g k a)

not_aside : (a : Value) → without_places (v.not a) ≡ v.not (without_places a)
unfolding without_places
not_aside a = refl

neg_aside : (a : Value) → without_places (v.neg a) ≡ v.neg (without_places a)
unfolding without_places
neg_aside a = refl

val_aside : (l : Constant) → without_places (v.val l) ≡ v.val l
unfolding without_places
val_aside l = refl

-- ---- rules

compared_alike : (p q : Option Loc) (op : RelOp) (a b : Value) → Alike Same (comparison_outcome p op a b) (comparison_outcome q op (without_places a) (without_places b))
unfolding without_places
compared_alike p q rel.Less a b = refl
compared_alike p q rel.LessEq a b = refl
compared_alike p q rel.GreaterEq a b = refl
compared_alike p q rel.Greater a b = refl
compared_alike p q rel.NotEq a b = refl
compared_alike p q rel.Eq a b = refl
compared_alike p q rel.In a b = refl
compared_alike p q rel.InvalidSingleEq a b = tt

related_alike : (p q : Option Loc) (op : Operator) (a b : Value) → Alike Same (relation_outcome p op a b) (relation_outcome q op (without_places a) (without_places b))
related_alike p q t.or_or a b = tt
related_alike p q t.and_and a b = tt
related_alike p q (t.compare op) a b = compared_alike p q op a b
related_alike p q (t.add op) a b = tt
related_alike p q (t.multiply op) a b = tt
related_alike p q t.beside a b = tt

combined_alike : (level : Level) (p q : Option Loc) (ps : List Part) (a : Value) → Alike Same (level_outcome level p ps a) (level_outcome level q (map part_aside ps) (without_places a))
unfolding without_places
combined_alike disjunction p q ps a = ap (v.or_nary (without_places a)) (bodies_aside ps)
combined_alike conjunction p q ps a = ap (v.and_naryl (without_places a)) (bodies_aside ps)
combined_alike relation p q [] a = refl
combined_alike relation p q (r ∷ ps) a = related_alike p q r.0 a r.1
combined_alike sum p q ps a = ap (v.add_nary (without_places a)) (terms_aside ps)
combined_alike product p q ps a = ap (v.mul_nary (without_places a)) (bodies_aside ps)

joined_alike : (level : Level) (p q : Option Loc) (s u : Held) (ps : List Part) → Same s u → Alike Same (joint_outcome level p s ps) (joint_outcome level q u (map part_aside ps))
joined_alike level p q s u [] h = h
joined_alike level p q s u (r ∷ ps) h = aside_then Same _ _ _ _ (as_value s u h) (combined_alike level p q (r ∷ ps))

allowed_alike : (level : Level) (p q : Option Loc) (ps : Parts) → Alike Equal (operator_limit level p ps) (operator_limit level q (unlocated_parts ps))
unfolding unlocated_parts
allowed_alike disjunction p q ps = refl
allowed_alike conjunction p q ps = refl
allowed_alike sum p q ps = refl
allowed_alike product p q ps = refl
allowed_alike relation p q f.none = refl
allowed_alike relation p q (f.more op n f.none) = refl
allowed_alike relation p q (f.more op n (f.more op2 n2 ps)) = tt

chained_alike : (level : Level) (p q : Option Loc) (ps : Parts) (x y : Outcome Held) (r u : Outcome (List Part)) → Alike Same x y → Alike PartsAside r u → Alike Same (chain_outcome level p ps x r) (chain_outcome level q (unlocated_parts ps) y u)
chained_alike level p q ps x y r u h k =
    next_alike (Pairs (Pairs Same PartsAside) Equal) Same _ _ _ _ (both_alike (Pairs Same PartsAside) Equal _ _ _ _ (both_alike Same PartsAside x y r u h k) (allowed_alike level p q ps)) (λ a b e. rw (← e.0.1) (joined_alike level p q a.0.0 b.0.0 a.0.1 e.0.0))

factor_alike : (p q : Option Loc) (op : Operator) (x : Value) → Alike Aside (factor p op x) (factor q op (without_places x))
factor_alike p q t.or_or x = refl
factor_alike p q t.and_and x = refl
factor_alike p q (t.compare op) x = refl
factor_alike p q (t.add op) x = refl
factor_alike p q (t.multiply mul.Times) x = refl
factor_alike p q (t.multiply mul.Divide) x = tt
factor_alike p q (t.multiply mul.Mod) x = tt
factor_alike p q t.beside x = refl

applied_alike : (p q : Option Loc) (n : ℕ) (g : Value → Value) (x y : Outcome Held) → ((a : Value) → without_places (g a) ≡ g (without_places a)) → Alike Same x y → Alike Same (application_outcome p n g x) (application_outcome q n g y)
applied_alike p q zero g x y k h = h
applied_alike p q (suc n) g x y k h = aside_then Same _ _ _ _ (value_alike x y h) (repeated_aside (suc n) g k)

negative_alike : (p q : Option Loc) (n k : ℕ) → Alike Same (negative p n k) (negative q n k)
negative_alike p q n k =
    let l : Constant = literals.Long (neg_ℤ (pos k)) in
    if_alike Same (nat_le k largest) _ _ _ _ (repeated_aside n v.neg neg_aside (v.val l) ∙ ap (iteration n v.neg) (val_aside l)) tt

dashed_alike : (p q : Option Loc) (n : ℕ) (bare : Option ℕ) (x y : Outcome Held) → Alike Same x y → Alike Same (dashes_outcome p n bare x) (dashes_outcome q n bare y)
dashed_alike p q zero bare x y h = h
dashed_alike p q (suc n) None x y h = applied_alike p q (suc n) v.neg x y neg_aside h
dashed_alike p q (suc n) (Some k) x y h = negative_alike p q n k

signed_alike : (p q : Option Loc) (op : Option NegOp) (bare : Option ℕ) (x y : Outcome Held) → Alike Same x y → Alike Same (signs_outcome p op bare x) (signs_outcome q op bare y)
signed_alike p q None bare x y h = h
signed_alike p q (Some (sign.Bang n)) bare x y h = applied_alike p q n v.not x y not_aside h
signed_alike p q (Some sign.OverBang) bare x y h = tt
signed_alike p q (Some (sign.Dash n)) bare x y h = dashed_alike p q n bare x y h
signed_alike p q (Some sign.OverDash) bare x y h = tt

-- ---- the bare number

number_alike : (o : Option Literal) → number_in o ≡ number_in (option_map unlocated_literal o)
number_alike None = refl
number_alike (Some lit.True) = refl
number_alike (Some lit.False) = refl
number_alike (Some (lit.Num n)) = refl
number_alike (Some (lit.Str s)) = refl

alone_alike : (n : Located) → option_map unlocated_literal (literal_alone n) ≡ literal_alone (unlocated n)
unfolding unlocated unlocated_form
alone_alike (f.missing p) = refl
alone_alike (f.at p (f.only n)) = refl
alone_alike (f.at p (f.ite a b c)) = refl
alone_alike (f.at p (f.chain level n ps)) = refl
alone_alike (f.at p (f.has m n)) = refl
alone_alike (f.at p (f.like m n)) = refl
alone_alike (f.at p (f.is m n)) = refl
alone_alike (f.at p (f.is_in m n o)) = refl
alone_alike (f.at p (f.unary op n)) = refl
alone_alike (f.at p (f.member n ps)) = refl
alone_alike (f.at p (f.field n)) = refl
alone_alike (f.at p (f.call ps)) = refl
alone_alike (f.at p (f.index n)) = refl
alone_alike (f.at p (f.literal n)) = refl
alone_alike (f.at p (f.name n)) = refl
alone_alike (f.at p (f.slot n)) = refl
alone_alike (f.at p (f.reference n)) = refl
alone_alike (f.at p (f.parens n)) = refl
alone_alike (f.at p (f.set ps)) = refl
alone_alike (f.at p (f.record_of ps)) = refl
alone_alike (f.at p (f.init m n)) = refl

lone_alike : (n : Located) → option_map unlocated_literal (lone_literal n) ≡ lone_literal (unlocated n)
unfolding unlocated unlocated_form unlocated_parts
lone_alike (f.missing p) = refl
lone_alike (f.at p (f.only n)) = refl
lone_alike (f.at p (f.ite a b c)) = refl
lone_alike (f.at p (f.chain level n ps)) = refl
lone_alike (f.at p (f.has m n)) = refl
lone_alike (f.at p (f.like m n)) = refl
lone_alike (f.at p (f.is m n)) = refl
lone_alike (f.at p (f.is_in m n o)) = refl
lone_alike (f.at p (f.unary op n)) = refl
lone_alike (f.at p (f.member n f.none)) = alone_alike n
lone_alike (f.at p (f.member n (f.more op m ps))) = refl
lone_alike (f.at p (f.field n)) = refl
lone_alike (f.at p (f.call ps)) = refl
lone_alike (f.at p (f.index n)) = refl
lone_alike (f.at p (f.literal n)) = refl
lone_alike (f.at p (f.name n)) = refl
lone_alike (f.at p (f.slot n)) = refl
lone_alike (f.at p (f.reference n)) = refl
lone_alike (f.at p (f.parens n)) = refl
lone_alike (f.at p (f.set ps)) = refl
lone_alike (f.at p (f.record_of ps)) = refl
lone_alike (f.at p (f.init m n)) = refl

bare_alike : (n : Located) → number_in (lone_literal n) ≡ number_in (lone_literal (unlocated n))
bare_alike n = number_alike (lone_literal n) ∙ ap number_in (lone_alike n)

-- ---- trees

type_alike : (x y : Outcome Value) (h k : Held) → Alike Aside x y → Same h k → Alike (Pairs Aside Equal) (beside_type x h) (beside_type y k)
type_alike x y h k a s = both_alike Aside Equal x y _ _ a (as_type_alike h k s)

keyed_alike : (x y : Outcome Value) (h k : Held) → Alike Aside x y → Same h k → Alike (Pairs Equal Aside) (both (as_attribute h) x) (both (as_attribute k) y)
keyed_alike x y h k a s = both_alike Equal Aside _ _ x y (as_attribute_alike h k s) a

set_alike : (p q : Option Loc) (ps : List Part) → Alike Same (set_value_outcome p ps) (set_value_outcome q (map part_aside ps))
unfolding without_places
set_alike p q ps = ap v.set (bodies_aside ps)

record_alike : (p q : Option Loc) (fs : List (List ℕ × Value)) → Alike Same (record_outcome p fs) (record_outcome q (map pair_aside fs))
unfolding without_places
record_alike p q fs = rw (keys_aside fs) (if_alike Same (repeats_key (keys_of fs)) _ _ _ _ tt (ap v.«record» (fields_aside fs)))

mutual
  unfolding without_places outcome form_outcome operands accesses_outcome access_outcome access_form_outcome pairs_outcome pair_outcome pair_form_outcome unlocated unlocated_form unlocated_parts

  pub outcome_alike : (e : Extensions) (n : Located) → Alike Same (outcome e n) (outcome e (unlocated n))
  outcome_alike e (f.missing p) = tt
  outcome_alike e (f.at p u) = formed_alike e p u

  formed_alike : (e : Extensions) (p : Option Loc) (u : Form) → Alike Same (form_outcome e p u) (form_outcome e None (unlocated_form u))
  formed_alike e p (f.only n) = outcome_alike e n
  formed_alike e p (f.ite a b c) =
      next_alike (Pairs (Pairs Aside Aside) Aside) Same _ _ _ _
      (both_alike (Pairs Aside Aside) Aside _ _ _ _ (both_alike Aside Aside _ _ _ _ (value_alike _ _ (outcome_alike e a)) (value_alike _ _ (outcome_alike e b))) (value_alike _ _ (outcome_alike e c)))
      (λ x y h i. v.ite (h.0.0 i) (h.0.1 i) (h.1 i))
  formed_alike e p (f.chain level first others) = chained_alike level p None others _ _ _ _ (outcome_alike e first) (operands_alike e p None others)
  formed_alike e p (f.has m n) = then_alike Same _ _ _ _ (right_alike (tree_place n) (tree_place (unlocated n)) n) (λ r. next_alike Aside Same _ _ _ _ (value_alike _ _ (outcome_alike e m)) (λ x y h i. v.extended_has_attr (h i) r.0 r.1))
  formed_alike e p (f.like m n) =
      next_alike Same Same _ _ _ _ (outcome_alike e n)
      (λ h k s. next_alike (Pairs Aside Equal) Same _ _ _ _ (both_alike Aside Equal _ _ _ _ (value_alike _ _ (outcome_alike e m)) (as_pattern_alike h k s)) (λ x y g i. v.like (g.0 i) (g.1 i)))
  formed_alike e p (f.is m n) =
      next_alike (Pairs Aside Equal) Same _ _ _ _ (next_alike Same (Pairs Aside Equal) _ _ _ _ (outcome_alike e n) (λ h k s. type_alike _ _ h k (value_alike _ _ (outcome_alike e m)) s)) (λ x y g i. v.is_entity_type (g.0 i) (g.1 i))
  formed_alike e p (f.is_in m n o) =
      next_alike (Pairs Aside Equal) Same _ _ _ _ (next_alike Same (Pairs Aside Equal) _ _ _ _ (outcome_alike e n) (λ h k s. type_alike _ _ h k (value_alike _ _ (outcome_alike e m)) s))
      (λ x y g. next_alike Aside Same _ _ _ _ (value_alike _ _ (outcome_alike e o)) (λ a b h i. v.is_in_entity_type (g.0 i) (g.1 i) (h i)))
  formed_alike e p (f.unary op item) = rw (bare_alike item) (signed_alike p None op (number_in (lone_literal (unlocated item))) _ _ (outcome_alike e item))
  formed_alike e p (f.member item ps) =
      next_alike (Pairs Same AccessesAside) Same _ _ _ _ (both_alike Same AccessesAside _ _ _ _ (outcome_alike e item) (accesses_alike e ps)) (λ x y h. rw (← h.1) (member_alike e p None x.1 x.0 y.0 h.0))
  formed_alike e p (f.field n) = tt
  formed_alike e p (f.call ps) = tt
  formed_alike e p (f.index n) = tt
  formed_alike e p (f.literal n) = literal_alike n.loc None n.node
  formed_alike e p (f.name n) = named_alike p None n
  formed_alike e p (f.slot n) = slot_alike n
  formed_alike e p (f.reference n) = entity_alike n
  formed_alike e p (f.parens n) = next_alike Aside Same _ _ _ _ (value_alike _ _ (outcome_alike e n)) (λ x y h. h)
  formed_alike e p (f.set ps) = next_alike PartsAside Same _ _ _ _ (operands_alike e p None ps) (λ x y h. rw (← h) (set_alike p None x))
  formed_alike e p (f.record_of ps) = next_alike PairsAside Same _ _ _ _ (pairs_alike e ps) (λ x y h. rw (← h) (record_alike p None x))
  formed_alike e p (f.init m n) = tt

  operands_alike : (e : Extensions) (p q : Option Loc) (ps : Parts) → Alike PartsAside (operands e p ps) (operands e q (unlocated_parts ps))
  operands_alike e p q f.none = refl
  operands_alike e p q (f.more op n ps) =
      next_alike (Pairs Aside PartsAside) PartsAside _ _ _ _ (both_alike Aside PartsAside _ _ _ _ (aside_then Aside _ _ _ _ (value_alike _ _ (outcome_alike e n)) (factor_alike p q op)) (operands_alike e p q ps)) (λ a b h i. (op, h.0 i) ∷ h.1 i)

  accesses_alike : (e : Extensions) (ps : Parts) → Alike AccessesAside (accesses_outcome e ps) (accesses_outcome e (unlocated_parts ps))
  accesses_alike e f.none = refl
  accesses_alike e (f.more op n ps) = next_alike (Pairs AccessAside AccessesAside) AccessesAside _ _ _ _ (both_alike AccessAside AccessesAside _ _ _ _ (access_alike e n) (accesses_alike e ps)) (λ a b h i. h.0 i ∷ h.1 i)

  access_alike : (e : Extensions) (n : Located) → Alike AccessAside (access_outcome e n) (access_outcome e (unlocated n))
  access_alike e (f.missing p) = tt
  access_alike e (f.at p u) = access_form_alike e p u

  access_form_alike : (e : Extensions) (p : Option Loc) (u : Form) → Alike AccessAside (access_form_outcome e p u) (access_form_outcome e None (unlocated_form u))
  access_form_alike e p (f.only n) = tt
  access_form_alike e p (f.ite a b c) = tt
  access_form_alike e p (f.chain level n ps) = tt
  access_form_alike e p (f.has m n) = tt
  access_form_alike e p (f.like m n) = tt
  access_form_alike e p (f.is m n) = tt
  access_form_alike e p (f.is_in m n o) = tt
  access_form_alike e p (f.unary op n) = tt
  access_form_alike e p (f.member n ps) = tt
  access_form_alike e p (f.field n) = then_alike AccessAside _ _ _ _ (unreserved_alike n) (λ id. refl)
  access_form_alike e p (f.call ps) = next_alike PartsAside AccessAside _ _ _ _ (operands_alike e p None ps) (λ x y h. ap call (bodies_map x ∙ ap bodies h))
  access_form_alike e p (f.index n) = then_alike AccessAside _ _ _ _ (next_alike Same Equal _ _ _ _ (outcome_alike e n) as_string_alike) (λ text. refl)
  access_form_alike e p (f.literal n) = tt
  access_form_alike e p (f.name n) = tt
  access_form_alike e p (f.slot n) = tt
  access_form_alike e p (f.reference n) = tt
  access_form_alike e p (f.parens n) = tt
  access_form_alike e p (f.set ps) = tt
  access_form_alike e p (f.record_of ps) = tt
  access_form_alike e p (f.init m n) = tt

  pairs_alike : (e : Extensions) (ps : Parts) → Alike PairsAside (pairs_outcome e ps) (pairs_outcome e (unlocated_parts ps))
  pairs_alike e f.none = refl
  pairs_alike e (f.more op n ps) = next_alike (Pairs (Pairs Equal Aside) PairsAside) PairsAside _ _ _ _ (both_alike (Pairs Equal Aside) PairsAside _ _ _ _ (pair_alike e n) (pairs_alike e ps)) (λ a b h i. (h.0.0 i, h.0.1 i) ∷ h.1 i)

  pair_alike : (e : Extensions) (n : Located) → Alike (Pairs Equal Aside) (pair_outcome e n) (pair_outcome e (unlocated n))
  pair_alike e (f.missing p) = tt
  pair_alike e (f.at p u) = pair_form_alike e p u

  pair_form_alike : (e : Extensions) (p : Option Loc) (u : Form) → Alike (Pairs Equal Aside) (pair_form_outcome e p u) (pair_form_outcome e None (unlocated_form u))
  pair_form_alike e p (f.only n) = tt
  pair_form_alike e p (f.ite a b c) = tt
  pair_form_alike e p (f.chain level n ps) = tt
  pair_form_alike e p (f.has m n) = tt
  pair_form_alike e p (f.like m n) = tt
  pair_form_alike e p (f.is m n) = tt
  pair_form_alike e p (f.is_in m n o) = tt
  pair_form_alike e p (f.unary op n) = tt
  pair_form_alike e p (f.member n ps) = tt
  pair_form_alike e p (f.field n) = tt
  pair_form_alike e p (f.call ps) = tt
  pair_form_alike e p (f.index n) = tt
  pair_form_alike e p (f.literal n) = tt
  pair_form_alike e p (f.name n) = tt
  pair_form_alike e p (f.slot n) = tt
  pair_form_alike e p (f.reference n) = tt
  pair_form_alike e p (f.parens n) = tt
  pair_form_alike e p (f.set ps) = tt
  pair_form_alike e p (f.record_of ps) = tt
  pair_form_alike e p (f.init m n) = next_alike Same (Pairs Equal Aside) _ _ _ _ (outcome_alike e m) (λ h k s. keyed_alike _ _ h k (value_alike _ _ (outcome_alike e n)) s)

-- ---- two trees that differ in places alone

given_alike : (o p : Outcome Value) → Alike Aside o p → option_map without_places (outcome_value o) ≡ outcome_value p
given_alike (Ok x) (Ok y) e = ap Some e
given_alike (Ok x) (Err gs) e = absurd e
given_alike (Err fs) (Ok y) e = absurd e
given_alike (Err fs) (Err gs) e = refl

value_independent : (e : Extensions) (n : Located) → option_map without_places (outcome_value (value_outcome e n)) ≡ outcome_value (value_outcome e (unlocated n))
value_independent e n = given_alike _ _ (value_alike _ _ (outcome_alike e n))

pub values_see_no_place : (e : Extensions) (m n : Located) → unlocated m ≡ unlocated n → option_map without_places (outcome_value (value_outcome e m)) ≡ option_map without_places (outcome_value (value_outcome e n))
values_see_no_place e m n h = value_independent e m ∙ ap (λ x. outcome_value (value_outcome e x)) h ∙ sym (value_independent e n)
