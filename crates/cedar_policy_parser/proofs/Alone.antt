-- Where the parts have values, a relation is refused for its operators alone, a product for its
-- quotients and remainders, in order, a record for a key that it has twice; and a name that is no
-- variable is refused as an expression. So is a whole expression that is one of these alone.
use Rattle.std.proofs.Common.{◌≡◌, ℕ, zero, suc, true, List, [], ◌∷◌, ◌++◌, Option, Some, None, Ok, Err, refl, sym, ap, ◌∙◌}
use Rattle.std.specs.Map.{keys_of}
use Rattle.cedar_expressions.specs.Keys.{repeats_key}
use Rattle.cedar_expressions.specs.Path.{Path, name_text}
use Rattle.cedar_expressions.specs.Value.{Value}
use Rattle.cedar_expressions.specs.declared.operators.UnaryOp.TheVariants as signs
use Rattle.cedar_syntax.specs.declared.loc.Loc.{Loc}
use Rattle.cedar_syntax.specs.declared.node.Node.{Node}
use Rattle.cedar_syntax.specs.declared.cst.MultOp.TheVariants as mul
use Rattle.cedar_syntax.specs.declared.cst.Name.{Name}
use Rattle.cedar_syntax.specs.declared.cst.NegOp.{NegOp}
use Rattle.cedar_syntax.specs.declared.cst.NegOp.TheVariants as sign
use Rattle.cedar_syntax.specs.declared.cst.RelOp.TheVariants as rel
use Rattle.cedar_syntax.specs.trees.Located as f
use Rattle.cedar_syntax.specs.trees.Located.{Located, Parts, at}
use Rattle.cedar_syntax.specs.trees.Tree as t
use Rattle.cedar_syntax.specs.trees.Tree.{Level, Operator, disjunction, conjunction, relation, sum, product}
use Rattle.cedar_policy_parser.specs.faults.Alone as way
use Rattle.cedar_policy_parser.specs.faults.Alone.{HasValue, HaveValues, OperandsHaveValues, quotient, quotients, IsPair, ArePairs, ComesTo, IsAlone, IsBareName}
use Rattle.cedar_conversion.specs.outcome.Conversion.{Part, outcome, form_outcome, operands, pairs_outcome, pair_outcome, pair_form_outcome, value_outcome, accesses_outcome, tree_place, expression_at, chain_outcome, key_again, record_outcome, factor, with_part, signs_outcome, number_in, lone_literal}
use Rattle.cedar_conversion.specs.strict.Extensions.{Extensions}
use Rattle.cedar_conversion.specs.parts.HasSide.{no_sign}
use Rattle.cedar_conversion.specs.outcome.Held.{Held, bare_name, as_expression, as_attribute}
use Rattle.cedar_conversion.specs.parts.Leaves.{name_leaf, variable_or_name}
use Rattle.cedar_conversion.specs.parts.Members.{member_outcome}
use Rattle.cedar_conversion.specs.parts.Names.{name_outcome, named_variable}
use Rattle.cedar_conversion.specs.outcome.Detail as detail
use Rattle.cedar_conversion.specs.outcome.Detail.{spelling, spelling_there}
use Rattle.cedar_conversion.specs.outcome.Outcome.{NamedFault, Outcome, detailed_outcome, fault_outcome, both, next, ambiguous_operators, invalid_single_eq, unary_op_limit, expression_construction_error, arbitrary_variable}
use Rattle.cedar_conversion.proofs.Inverted.{next_ok}

-- ---- a node alone

pub chain_alone : (level : Level) (place : Option Loc) (o : Outcome Held) → chain_outcome level place f.none o (Ok []) ≡ o
chain_alone disjunction place (Ok h) = refl
chain_alone conjunction place (Ok h) = refl
chain_alone relation place (Ok h) = refl
chain_alone sum place (Ok h) = refl
chain_alone product place (Ok h) = refl
chain_alone disjunction place (Err fs) = refl
chain_alone conjunction place (Err fs) = refl
chain_alone relation place (Err fs) = refl
chain_alone sum place (Err fs) = refl
chain_alone product place (Err fs) = refl

pub unary_alone : (place : Option Loc) (op : Option NegOp) (number : Option ℕ) (o : Outcome Held) → no_sign op ≡ true → signs_outcome place op number o ≡ o
unary_alone place None number o h = refl
unary_alone place (Some (sign.Bang zero)) number o h = refl
unary_alone place (Some (sign.Dash zero)) number o h = refl
unary_alone place (Some (sign.Bang (suc n))) number o h = cc
unary_alone place (Some (sign.Dash (suc n))) number o h = cc
unary_alone place (Some sign.OverBang) number o h = cc
unary_alone place (Some sign.OverDash) number o h = cc

pub member_alone : (e : Extensions) (place : Option Loc) (o : Outcome Held) → next (both o (Ok [])) (λ p. member_outcome e place p.0 p.1) ≡ o
member_alone e place (Ok h) = refl
member_alone e place (Err fs) = refl

parens_alone : (place : Option Loc) (o : Outcome Value) → next (next o (expression_at place)) as_expression ≡ o
parens_alone place (Ok w) = refl
parens_alone place (Err fs) = refl

-- it gives what the node gives
pub comes_to : {tree node : Located} (e : Extensions) → ComesTo tree node → outcome e tree ≡ outcome e node
unfolding outcome form_outcome operands accesses_outcome
comes_to e way.itself = refl
comes_to e (way.through_only c) = comes_to e c
comes_to e (way.through_chain {place = place} {level = level} {part = n} c) = chain_alone level place (outcome e n) ∙ comes_to e c
comes_to e (way.through_unary {place = place} {op = op} {part = n} h c) = unary_alone place op (number_in (lone_literal n)) (outcome e n) h ∙ comes_to e c
comes_to e (way.through_member {place = place} {part = n} c) = member_alone e place (outcome e n) ∙ comes_to e c

-- and as an expression also in parentheses
pub alone : {tree node : Located} (e : Extensions) → IsAlone tree node → value_outcome e tree ≡ value_outcome e node
unfolding outcome form_outcome
alone e (way.bare c) = ap (λ o. next o as_expression) (comes_to e c)
alone e (way.in_parens {part = n} c i) = ap (λ o. next o as_expression) (comes_to e c) ∙ parens_alone (tree_place n) (value_outcome e n) ∙ alone e i

refused_alone : (e : Extensions) (tree node : Located) (fs : List NamedFault) → IsAlone tree node → outcome e node ≡ Err fs → value_outcome e tree ≡ Err fs
refused_alone e tree node fs i h = alone e i ∙ ap (λ o. next o as_expression) h

-- ---- a product

-- parts are given unless there are faults to tell
abbrev Tells : Outcome (List Part) → List NamedFault → Type 0
Tells (Ok ps) fs = fs ≡ []
Tells (Err gs) fs = (fs ≡ gs) × ¬ (gs ≡ [])

more_faults : (f : NamedFault) (fs : List NamedFault) → ¬ (f ∷ fs ≡ [])
more_faults f fs e = cc

told_one : (place : Option Loc) (op : Operator) (x : Outcome Value) (w : Value) (ps : Outcome (List Part)) (fs : List NamedFault) → x ≡ Ok w → Tells ps fs
    → Tells (next (both (next x (factor place op)) ps) (with_part op)) (quotient place op ++ fs)
told_one place t.or_or (Ok x) w (Ok ps) fs e h = h
told_one place t.or_or (Ok x) w (Err gs) fs e h = h
told_one place t.and_and (Ok x) w (Ok ps) fs e h = h
told_one place t.and_and (Ok x) w (Err gs) fs e h = h
told_one place (t.compare op) (Ok x) w (Ok ps) fs e h = h
told_one place (t.compare op) (Ok x) w (Err gs) fs e h = h
told_one place (t.add op) (Ok x) w (Ok ps) fs e h = h
told_one place (t.add op) (Ok x) w (Err gs) fs e h = h
told_one place t.beside (Ok x) w (Ok ps) fs e h = h
told_one place t.beside (Ok x) w (Err gs) fs e h = h
told_one place (t.multiply mul.Times) (Ok x) w (Ok ps) fs e h = h
told_one place (t.multiply mul.Times) (Ok x) w (Err gs) fs e h = h
told_one place (t.multiply mul.Divide) (Ok x) w (Ok ps) fs e h = (rw h refl, more_faults _ _)
told_one place (t.multiply mul.Divide) (Ok x) w (Err gs) fs e h = (rw h.0 refl, more_faults _ _)
told_one place (t.multiply mul.Mod) (Ok x) w (Ok ps) fs e h = (rw h refl, more_faults _ _)
told_one place (t.multiply mul.Mod) (Ok x) w (Err gs) fs e h = (rw h.0 refl, more_faults _ _)
told_one place op (Err gs) w ps fs e h = cc

told_all : (e : Extensions) (place : Option Loc) (ps : Parts) → OperandsHaveValues e ps → Tells (operands e place ps) (quotients place ps)
unfolding operands
told_all e place f.none h = refl
told_all e place (f.more op n others) h = told_one place op (next (outcome e n) as_expression) h.0.0 _ _ h.0.1 (told_all e place others h.1)

-- a node with a value is held
held : (o : Outcome Held) (w : Value) → next o as_expression ≡ Ok w → (s : Held) × (o ≡ Ok s) × (as_expression s ≡ Ok w)
held o w e = next_ok o as_expression w e

refused_parts : (place : Option Loc) (ps : Parts) (x : Outcome Held) (s : Held) (r : Outcome (List Part)) (fs : List NamedFault) → x ≡ Ok s → Tells r fs → ¬ (fs ≡ []) → chain_outcome product place ps x r ≡ Err fs
refused_parts place ps (Ok x) s (Ok qs) fs e h some = absurd (some h)
refused_parts place ps (Ok x) s (Err gs) fs e h some = ap Err (sym h.0)
refused_parts place ps (Err hs) s r fs e h some = cc

pub refused_quotients : (e : Extensions) (place : Option Loc) (a : Located) (rest : Parts) → HasValue e a → OperandsHaveValues e rest → ¬ (quotients place rest ≡ [])
    → outcome e (at place (f.chain product a rest)) ≡ Err (quotients place rest)
unfolding outcome form_outcome
refused_quotients e place a rest h k some = let d = held (outcome e a) h.0 h.1 in refused_parts place rest (outcome e a) d.0 (operands e place rest) (quotients place rest) d.1 (told_all e place rest k) some

pub quotients_alone : (e : Extensions) (tree : Located) (place : Option Loc) (a : Located) (rest : Parts) → IsAlone tree (at place (f.chain product a rest)) → HasValue e a → OperandsHaveValues e rest → ¬ (quotients place rest ≡ [])
    → value_outcome e tree ≡ Err (quotients place rest)
quotients_alone e tree place a rest i h k some = refused_alone e tree (at place (f.chain product a rest)) (quotients place rest) i (refused_quotients e place a rest h k some)

-- ---- a relation

both_given : (place : Option Loc) (op oq : Operator) (b c : Located) (rest : Parts) (x : Outcome Held) (s : Held) (r : Outcome (List Part)) (ps : List Part) → x ≡ Ok s → r ≡ Ok ps
    → chain_outcome relation place (f.more op b (f.more oq c rest)) x r ≡ fault_outcome ambiguous_operators place
both_given place op oq b c rest x s r ps e h = rw (e, h) refl

pub ambiguous : (e : Extensions) (place : Option Loc) (a b c : Located) (op oq : Operator) (rest : Parts) → HasValue e a → HaveValues e place (f.more op b (f.more oq c rest))
    → outcome e (at place (f.chain relation a (f.more op b (f.more oq c rest)))) ≡ fault_outcome ambiguous_operators place
unfolding outcome form_outcome
ambiguous e place a b c op oq rest h k =
    let d = held (outcome e a) h.0 h.1 in
    both_given place op oq b c rest (outcome e a) d.0 (operands e place (f.more op b (f.more oq c rest))) k.0 d.1 k.1

pub ambiguous_alone : (e : Extensions) (tree : Located) (place : Option Loc) (a b c : Located) (op oq : Operator) (rest : Parts) → IsAlone tree (at place (f.chain relation a (f.more op b (f.more oq c rest))))
    → HasValue e a → HaveValues e place (f.more op b (f.more oq c rest)) → value_outcome e tree ≡ fault_outcome ambiguous_operators place
ambiguous_alone e tree place a b c op oq rest i h k = refused_alone e tree (at place (f.chain relation a (f.more op b (f.more oq c rest)))) _ i (ambiguous e place a b c op oq rest h k)

equals : (place : Option Loc) (b : Located) (x : Outcome Held) (s : Held) (v w : Value) (r : Outcome (List Part)) → x ≡ Ok s → as_expression s ≡ Ok v → r ≡ Ok ((t.compare rel.InvalidSingleEq, w) ∷ [])
    → chain_outcome relation place (f.more (t.compare rel.InvalidSingleEq) b f.none) x r ≡ fault_outcome invalid_single_eq place
equals place b x s v w r e h k = rw (e, k, h) refl

only_operand : (e : Extensions) (place : Option Loc) (b : Located) (w : Value) → next (outcome e b) as_expression ≡ Ok w → operands e place (f.more (t.compare rel.InvalidSingleEq) b f.none) ≡ Ok ((t.compare rel.InvalidSingleEq, w) ∷ [])
unfolding operands
only_operand e place b w h = rw h refl

pub single_eq : (e : Extensions) (place : Option Loc) (a b : Located) → HasValue e a → HasValue e b
    → outcome e (at place (f.chain relation a (f.more (t.compare rel.InvalidSingleEq) b f.none))) ≡ fault_outcome invalid_single_eq place
unfolding outcome form_outcome
single_eq e place a b h k =
    let d = held (outcome e a) h.0 h.1 in
    equals place b (outcome e a) d.0 h.0 k.0 (operands e place (f.more (t.compare rel.InvalidSingleEq) b f.none)) d.1 d.2 (only_operand e place b k.0 k.1)

pub single_eq_alone : (e : Extensions) (tree : Located) (place : Option Loc) (a b : Located) → IsAlone tree (at place (f.chain relation a (f.more (t.compare rel.InvalidSingleEq) b f.none))) → HasValue e a → HasValue e b
    → value_outcome e tree ≡ fault_outcome invalid_single_eq place
single_eq_alone e tree place a b i h k = refused_alone e tree (at place (f.chain relation a (f.more (t.compare rel.InvalidSingleEq) b f.none))) _ i (single_eq e place a b h k)

-- ---- signs

pub bangs : (e : Extensions) (place : Option Loc) (a : Located) → outcome e (at place (f.unary (Some sign.OverBang) a)) ≡ detailed_outcome unary_op_limit place (detail.sign signs.Not)
unfolding outcome form_outcome
bangs e place a = refl

pub dashes : (e : Extensions) (place : Option Loc) (a : Located) → outcome e (at place (f.unary (Some sign.OverDash) a)) ≡ detailed_outcome unary_op_limit place (detail.sign signs.Neg)
unfolding outcome form_outcome
dashes e place a = refl

pub bangs_alone : (e : Extensions) (tree : Located) (place : Option Loc) (a : Located) → IsAlone tree (at place (f.unary (Some sign.OverBang) a)) → value_outcome e tree ≡ detailed_outcome unary_op_limit place (detail.sign signs.Not)
bangs_alone e tree place a i = refused_alone e tree (at place (f.unary (Some sign.OverBang) a)) _ i (bangs e place a)

pub dashes_alone : (e : Extensions) (tree : Located) (place : Option Loc) (a : Located) → IsAlone tree (at place (f.unary (Some sign.OverDash) a)) → value_outcome e tree ≡ detailed_outcome unary_op_limit place (detail.sign signs.Neg)
dashes_alone e tree place a i = refused_alone e tree (at place (f.unary (Some sign.OverDash) a)) _ i (dashes e place a)

-- ---- a record

joined_pair : (o : Outcome Held) (pair : List ℕ × Value) (x : Outcome Value) → next o as_attribute ≡ Ok pair.0 → x ≡ Ok pair.1 → next o (λ h. both (as_attribute h) x) ≡ Ok pair
joined_pair (Ok h) pair x e k = rw (e, k) refl
joined_pair (Err fs) pair x e k = cc

one_pair : (e : Extensions) (n : Located) (pair : List ℕ × Value) → IsPair e n pair → pair_outcome e n ≡ Ok pair
unfolding pair_outcome pair_form_outcome
one_pair e n pair h = ap (λ m. pair_outcome e m) h.is ∙ joined_pair (outcome e h.key) pair (value_outcome e h.value) h.attribute h.converts

all_pairs : (e : Extensions) (ps : Parts) (pairs : List (List ℕ × Value)) → ArePairs e ps pairs → pairs_outcome e ps ≡ Ok pairs
unfolding pairs_outcome
all_pairs e f.none [] h = refl
all_pairs e f.none (pair ∷ pairs) h = absurd h
all_pairs e (f.more op n others) [] h = absurd h
all_pairs e (f.more op n others) (pair ∷ pairs) h = rw (one_pair e n pair h.0, all_pairs e others pairs h.1) refl

repeats : (place : Option Loc) (o : Outcome (List (List ℕ × Value))) (pairs : List (List ℕ × Value)) → o ≡ Ok pairs → repeats_key (keys_of pairs) ≡ true → next o (record_outcome place) ≡ detailed_outcome expression_construction_error place (spelling_there (key_again [] (keys_of pairs)))
repeats place o pairs e k = rw (e, k) refl

pub repeated_key : (e : Extensions) (place : Option Loc) (inits : Parts) (pairs : List (List ℕ × Value)) → ArePairs e inits pairs → repeats_key (keys_of pairs) ≡ true
    → outcome e (at place (f.record_of inits)) ≡ detailed_outcome expression_construction_error place (spelling_there (key_again [] (keys_of pairs)))
unfolding outcome form_outcome
repeated_key e place inits pairs h k = repeats place (pairs_outcome e inits) pairs (all_pairs e inits pairs h) k

pub repeated_key_alone : (e : Extensions) (tree : Located) (place : Option Loc) (inits : Parts) (pairs : List (List ℕ × Value)) → IsAlone tree (at place (f.record_of inits)) → ArePairs e inits pairs → repeats_key (keys_of pairs) ≡ true
    → value_outcome e tree ≡ detailed_outcome expression_construction_error place (spelling_there (key_again [] (keys_of pairs)))
repeated_key_alone e tree place inits pairs i h k = refused_alone e tree (at place (f.record_of inits)) _ i (repeated_key e place inits pairs h k)

-- ---- a name

bare : (place : Option Loc) (n : Node (Option Name)) (path : Path) → named_variable n.node ≡ None → name_outcome n ≡ Ok path → next (name_leaf place n) as_expression ≡ detailed_outcome arbitrary_variable place (spelling (name_text path))
bare place n path h k = ap (λ o. next (variable_or_name place o n) as_expression) h ∙ ap (λ o. next (next o (λ name. Ok (bare_name place name))) as_expression) k

name_node : (e : Extensions) (place : Option Loc) (n : Node (Option Name)) (path : Path) → named_variable n.node ≡ None → name_outcome n ≡ Ok path → value_outcome e (at place (f.name n)) ≡ detailed_outcome arbitrary_variable place (spelling (name_text path))
unfolding outcome form_outcome
name_node e place n path h k = bare place n path h k

pub lone_name : (e : Extensions) (tree : Located) (place : Option Loc) (path : Path) → IsBareName tree place path → value_outcome e tree ≡ detailed_outcome arbitrary_variable place (spelling (name_text path))
lone_name e tree place path h = alone e h.is ∙ name_node e place h.name path h.no_variable h.converts
