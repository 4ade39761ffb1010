-- What is known of the parts where the whole is given: one inversion for each join, and one for a
-- test.
use Rattle.std.proofs.Common.{◌≡◌, ◌⊎◌, inl, inr, Bool, true, false, cond, List, [], ◌∷◌, ◌++◌, Option, Ok, Err, refl, ap, ◌∙◌}
use Rattle.cedar_expressions.specs.Value.{Value}
use Rattle.cedar_syntax.specs.declared.loc.Loc.{Loc}
use Rattle.cedar_syntax.specs.trees.Located as f
use Rattle.cedar_syntax.specs.trees.Located.{Parts}
use Rattle.cedar_syntax.specs.trees.Tree.{Level, Operator, relation}
use Rattle.cedar_conversion.specs.outcome.Conversion.{Part, chain_outcome, level_outcome, joint_outcome, operator_limit, expression_at, operands, with_part}
use Rattle.cedar_conversion.specs.strict.Extensions.{Extensions}
use Rattle.cedar_conversion.specs.outcome.Held.{Held, as_expression}
use Rattle.cedar_conversion.specs.outcome.Outcome.{NamedFault, Outcome, both, next}
use Rattle.cedar_conversion.specs.machines.Views.{one_more}

abbrev pub given_as : {X : Type 0} → X → Outcome X
given_as x = Ok x

pub ok_is : {X : Type 0} {x y : X} → given_as x ≡ given_as y → x ≡ y
ok_is e = cc

pub next_ok : {X Y : Type 0} (o : Outcome X) (f : X → Outcome Y) (y : Y) → next o f ≡ Ok y → (x : X) × (o ≡ Ok x) × (f x ≡ Ok y)
next_ok (Ok x) f y e = (x, refl, e)
next_ok (Err fs) f y e = cc

pub both_ok : {X Y : Type 0} (o : Outcome X) (p : Outcome Y) (z : X × Y) → both o p ≡ Ok z → (o ≡ Ok z.0) × (p ≡ Ok z.1)
both_ok (Ok x) (Ok y) z e = let h : (x, y) ≡ z = ok_is e in (ap (λ w. Ok w.0) h, ap (λ w. Ok w.1) h)
both_ok (Ok x) (Err gs) z e = cc
both_ok (Err fs) (Ok y) z e = cc
both_ok (Err fs) (Err gs) z e = cc

-- a test that refuses where it fails, and one that refuses where it holds
pub if_ok : {X : Type 0} (b : Bool) (o : Outcome X) (fs : List NamedFault) (x : X) → cond b o (Err fs) ≡ Ok x → (b ≡ true) × (o ≡ Ok x)
if_ok true o fs x e = (refl, e)
if_ok false o fs x e = cc

pub unless_ok : {X : Type 0} (b : Bool) (o : Outcome X) (fs : List NamedFault) (x : X) → cond b (Err fs) o ≡ Ok x → (b ≡ false) × (o ≡ Ok x)
unless_ok true o fs x e = cc
unless_ok false o fs x e = (refl, e)

-- an expression that is made is what is given
pub made_is : (p : Option Loc) (w v : Value) → next (expression_at p w) as_expression ≡ Ok v → v ≡ w
made_is p w v e = cc

-- a value in other words
pub value_by : (o p : Outcome Held) (w : Value) → o ≡ p → next o as_expression ≡ Ok w → next p as_expression ≡ Ok w
value_by o p w e h = rw e at h

pub value_from : (o p : Outcome Held) (w : Value) → o ≡ p → next p as_expression ≡ Ok w → next o as_expression ≡ Ok w
value_from o p w e h = rw e h

-- ---- chains

-- a chain's value: that of the only part, or of all of them
abbrev pub IsChained : Level → Option Loc → Outcome Held → Outcome (List Part) → Value → Type 0
IsChained level place x r w = ((r ≡ Ok []) × (next x as_expression ≡ Ok w))
    ⊎ ((a : Value) × (q : Part) × (qs : List Part) × (next x as_expression ≡ Ok a) × (r ≡ Ok (q ∷ qs)) × (next (level_outcome level place (q ∷ qs) a) as_expression ≡ Ok w))

joined_ok : (level : Level) (place : Option Loc) (s h : Held) (ps : List Part) (x : Outcome Held) (r : Outcome (List Part)) (w : Value) → x ≡ Ok s → r ≡ Ok ps → joint_outcome level place s ps ≡ Ok h → as_expression h ≡ Ok w
    → IsChained level place x r w
joined_ok level place s h [] x r w e f g k = inl (f, rw e (ap as_expression (ok_is g) ∙ k))
joined_ok level place s h (q ∷ qs) x r w e f g k =
    let a = next_ok (as_expression s) _ h g in
    inr (a.0, q, qs, rw e a.1, f, rw a.2 k)

pub chained_parts : (level : Level) (place : Option Loc) (ps : Parts) (x : Outcome Held) (r : Outcome (List Part)) (w : Value) → next (chain_outcome level place ps x r) as_expression ≡ Ok w → IsChained level place x r w
chained_parts level place ps x r w e =
    let a = next_ok (chain_outcome level place ps x r) as_expression w e in
    let b = next_ok (both (both x r) (operator_limit level place ps)) _ a.0 a.1 in
    let c = both_ok (both x r) (operator_limit level place ps) b.0 b.1 in
    let d = both_ok x r b.0.0 c.0 in
    joined_ok level place b.0.0.0 a.0 b.0.0.1 x r w d.0 d.1 b.2 a.2

-- one part more, wherever it is given
pub more_ok : (op : Operator) (r : Outcome (List Part)) (x : Outcome Value) (ps : List Part) → one_more op r x ≡ Ok ps → (qs : List Part) × (b : Value) × (r ≡ Ok qs) × (x ≡ Ok b) × (ps ≡ qs ++ (op, b) ∷ [])
more_ok op (Ok qs) (Ok b) ps e = (qs, b, refl, refl, cc)
more_ok op (Ok qs) (Err gs) ps e = cc
more_ok op (Err fs) (Ok b) ps e = cc
more_ok op (Err fs) (Err gs) ps e = cc

pub chained_allowed : (level : Level) (place : Option Loc) (ps : Parts) (x : Outcome Held) (r : Outcome (List Part)) (w : Value) → next (chain_outcome level place ps x r) as_expression ≡ Ok w → (u : Unit {0}) × (operator_limit level place ps ≡ Ok u)
chained_allowed level place ps x r w e =
    let a = next_ok (chain_outcome level place ps x r) as_expression w e in
    let b = next_ok (both (both x r) (operator_limit level place ps)) _ a.0 a.1 in
    (b.0.1, (both_ok (both x r) (operator_limit level place ps) b.0 b.1).1)

last_part : (op : Operator) (x : Outcome Value) (q : Part) (qs : List Part) → next (both x (Ok [])) (with_part op) ≡ Ok (q ∷ qs) → qs ≡ []
last_part op (Ok v) q qs e = let same : (op, v) ∷ [] ≡ q ∷ qs = ok_is e in cc
last_part op (Err fs) q qs e = cc

-- a relation that is allowed has one operand behind an operator at most
pub one_operator : (e : Extensions) (place : Option Loc) (ps : Parts) (q : Part) (qs : List Part) (u : Unit {0}) → operands e place ps ≡ Ok (q ∷ qs) → operator_limit relation place ps ≡ Ok u → qs ≡ []
unfolding operands
one_operator e place f.none q qs u h k = cc
one_operator e place (f.more op n f.none) q qs u h k = last_part op _ q qs h
one_operator e place (f.more op n (f.more op2 n2 others)) q qs u h k = cc
