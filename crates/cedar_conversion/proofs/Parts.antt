-- What is made of a first value and those behind operators.
use Rattle.std.proofs.Common.{◌≡◌, ◌<◌, ◌≤◌, ℕ, Bool, true, false, List, [], ◌∷◌, map, length, Option, Ok, Err, refl, ap, ◌∙◌, arith}
use Rattle.std.specs.Map.{keys_of}
use Rattle.cedar_expressions.specs.declared.operators.AddOp.{AddOp}
use Rattle.cedar_expressions.specs.Keys.{repeats_key, StandsAgain}
use Rattle.cedar_expressions.specs.Value as v
use Rattle.cedar_expressions.specs.Value.{Value, values, terms}
use Rattle.cedar_syntax.specs.declared.loc.Loc.{Loc}
use Rattle.cedar_syntax.specs.trees.Forms.{parts_of}
use Rattle.cedar_syntax.specs.trees.Located.{Located, Parts, none}
use Rattle.cedar_syntax.specs.trees.Tree.{Operator, Level, disjunction, conjunction, relation, sum, product, add, compare}
use Rattle.cedar_conversion.specs.outcome.Conversion.{Part, bodies, with_part, sum_terms, level_outcome, joint_outcome, operator_limit, chain_outcome, expression_at, key_again, record_outcome, set_value_outcome}
use Rattle.cedar_conversion.specs.outcome.Detail.{spelling, spelling_there}
use Rattle.cedar_conversion.specs.outcome.Held.{Held, as_expression}
use Rattle.cedar_conversion.specs.parts.Members.{call}
use Rattle.cedar_syntax.specs.declared.cst.RelOp.{RelOp}
use Rattle.cedar_conversion.specs.machines.Views.{alike_outcome, sides_outcome}
use Rattle.cedar_conversion.proofs.RepeatedKeys.{first_again}
use Rattle.cedar_conversion.specs.outcome.Outcome.{Outcome, both, detailed_outcome, fault_outcome, next, ambiguous_operators, expression_construction_error}

pub bodies_behind : {O E : Type 0} (operator : O → Operator) (m : E → Value) (es : List (O × E)) → bodies (map (λ p. (operator p.0, m p.1)) es) ≡ map m (map (λ p. p.1) es)
bodies_behind operator m [] = refl
bodies_behind operator m (e ∷ es) = ap (λ vs. m e.1 ∷ vs) (bodies_behind operator m es)

pub alike_bodies : {E : Type 0} (op : Operator) (m : E → Value) (es : List E) → bodies (map (λ e. (op, m e)) es) ≡ map m es
alike_bodies op m [] = refl
alike_bodies op m (e ∷ es) = ap (λ vs. m e ∷ vs) (alike_bodies op m es)

pub or_made : {E : Type 0} (op : Operator) (m : E → Value) (place : Option Loc) (es : List E) (a w : Value) → w ≡ v.or_nary a (values (map m es))
    → level_outcome disjunction place (map (λ e. (op, m e)) es) a ≡ expression_at place w
or_made op m place es a w h = rw (h, alike_bodies op m es) refl

pub and_made : {E : Type 0} (op : Operator) (m : E → Value) (place : Option Loc) (es : List E) (a w : Value) → w ≡ v.and_naryl a (values (map m es))
    → level_outcome conjunction place (map (λ e. (op, m e)) es) a ≡ expression_at place w
and_made op m place es a w h = rw (h, alike_bodies op m es) refl

pub mult_made : {O E : Type 0} (operator : O → Operator) (m : E → Value) (place : Option Loc) (es : List (O × E)) (rest : List E) (a w : Value) → rest ≡ map (λ p. p.1) es → w ≡ v.mul_nary a (values (map m rest))
    → level_outcome product place (map (λ p. (operator p.0, m p.1)) es) a ≡ expression_at place w
mult_made operator m place es rest a w e h = rw (h, e, bodies_behind operator m es) refl

added_behind : {E : Type 0} (m : E → Value) (es : List (AddOp × E)) → sum_terms (map (λ p. (add p.0, m p.1)) es) ≡ map (λ p. (p.0, m p.1)) es
added_behind m [] = refl
added_behind m (e ∷ es) = ap (λ vs. (e.0, m e.1) ∷ vs) (added_behind m es)

pub sum_made : {E : Type 0} (m : E → Value) (place : Option Loc) (es : List (AddOp × E)) (a w : Value) → w ≡ v.add_nary a (terms (map (λ p. (p.0, m p.1)) es))
    → level_outcome sum place (map (λ p. (add p.0, m p.1)) es) a ≡ expression_at place w
sum_made m place es a w h = rw (h, added_behind m es) refl

-- ---- calls, sets and records

pub call_made : {E : Type 0} (op : Operator) (m : E → Value) (ps : Outcome (List Part)) (args : List E) → ps ≡ Ok (map (λ e. (op, m e)) args)
    → next ps (λ qs. Ok (call (bodies qs))) ≡ Ok (call (map m args))
call_made op m ps args h = rw (h, alike_bodies op m args) refl

pub set_made : {E : Type 0} (op : Operator) (m : E → Value) (place : Option Loc) (ps : Outcome (List Part)) (items : List E) (w : Value)
    → ps ≡ Ok (map (λ e. (op, m e)) items) → w ≡ v.set (values (map m items)) → next ps (set_value_outcome place) ≡ expression_at place w
set_made op m place ps items w h k = rw (h, k, alike_bodies op m items) refl

keys_seen : {E : Type 0} (m : E → Value) (es : List (List ℕ × E)) → keys_of (map (λ p. (p.0, m p.1)) es) ≡ map (λ p. p.0) es
keys_seen m [] = refl
keys_seen m (e ∷ es) = ap (λ ks. e.0 ∷ ks) (keys_seen m es)

-- the keys of a record's pairs repeat one where the list's do
keyed : {E : Type 0} (m : E → Value) (es : List (List ℕ × E)) (b : Bool) → repeats_key (map (λ p. p.0) es) ≡ b → repeats_key (keys_of (map (λ p. (p.0, m p.1)) es)) ≡ b
keyed m es b h = ap repeats_key (keys_seen m es) ∙ h

pub record_made : {E : Type 0} (m : E → Value) (place : Option Loc) (ps : Outcome (List (List ℕ × Value))) (es : List (List ℕ × E)) (w : Value)
    → ps ≡ Ok (map (λ p. (p.0, m p.1)) es) → w ≡ v.«record» (v.fields (map (λ p. (p.0, m p.1)) es)) → repeats_key (map (λ p. p.0) es) ≡ false → next ps (record_outcome place) ≡ expression_at place w
record_made m place ps es w h k l = let unrepeated = keyed m es false l in rw (h, k, unrepeated) refl

pub record_refused : {E : Type 0} (m : E → Value) (place : Option Loc) (ps : Outcome (List (List ℕ × Value))) (es : List (List ℕ × E)) (key : List ℕ)
    → ps ≡ Ok (map (λ p. (p.0, m p.1)) es) → repeats_key (map (λ p. p.0) es) ≡ true → StandsAgain key (map (λ p. p.0) es) → next ps (record_outcome place) ≡ detailed_outcome expression_construction_error place (spelling key)
record_refused m place ps es key h k s =
    let again = keyed m es true k in
    let first = ap (key_again []) (keys_seen m es) ∙ first_again key (map (λ p. p.0) es) s in
    rw (h, again) (ap (λ o. detailed_outcome expression_construction_error place (spelling_there o)) first)

-- ---- one operator at most

pub several : {X : Type 0} (place : Option Loc) (g : X → Operator × Located) (xs : List X) → 1 < length xs → operator_limit relation place (parts_of (map g xs)) ≡ fault_outcome ambiguous_operators place
several place g [] h = absurd (omega arith)
several place g (x ∷ []) h = absurd (omega arith)
several place g (x ∷ y ∷ xs) h = refl

pub one : {X : Type 0} (place : Option Loc) (g : X → Operator × Located) (xs : List X) → length xs ≤ 1 → operator_limit relation place (parts_of (map g xs)) ≡ Ok tt
one place g [] h = refl
one place g (x ∷ []) h = refl
one place g (x ∷ y ∷ xs) h = absurd (omega arith)

-- ---- one part and further ones

pub joined_some : {A : Type 0} (level : Level) (place : Option Loc) (s : Held) (g : A → Part) (es : List A) → 0 < length es → joint_outcome level place s (map g es) ≡ next (as_expression s) (level_outcome level place (map g es))
joined_some level place s g [] h = absurd (omega arith)
joined_some level place s g (e ∷ es) h = refl

-- one part alone gives what it gives
pub alone : (level : Level) (place : Option Loc) (x : Outcome Held) → chain_outcome level place none x (Ok []) ≡ x
alone disjunction p (Ok s) = refl
alone disjunction p (Err fs) = refl
alone conjunction p (Ok s) = refl
alone conjunction p (Err fs) = refl
alone relation p (Ok s) = refl
alone relation p (Err fs) = refl
alone sum p (Ok s) = refl
alone sum p (Err fs) = refl
alone product p (Ok s) = refl
alone product p (Err fs) = refl

-- a first value and those behind one operator, of which there are some
pub alike_some : {A : Type 0} (level : Level) (place : Option Loc) (x : Outcome Held) (g : A → Part) (es : List A) → 0 < length es → next (both x (Ok (map g es))) (alike_outcome level place) ≡ next (next x as_expression) (level_outcome level place (map g es))
alike_some level place x g [] h = absurd (omega arith)
alike_some level place (Ok s) g (e ∷ es) h = refl
alike_some level place (Err fs) g (e ∷ es) h = refl

pub alike_none : (level : Level) (place : Option Loc) (x : Outcome Held) → next (both x (Ok [])) (alike_outcome level place) ≡ x
alike_none level place (Ok s) = refl
alike_none level place (Err fs) = refl

-- what every level but relations allows
pub alike_chain : (level : Level) (place : Option Loc) (others : Parts) (x : Outcome Held) (ps : Outcome (List Part)) → operator_limit level place others ≡ Ok tt
    → chain_outcome level place others x ps ≡ next (both x ps) (alike_outcome level place)
alike_chain level place others (Ok s) (Ok ps) h = rw h refl
alike_chain level place others (Ok s) (Err gs) h = rw h refl
alike_chain level place others (Err fs) (Ok ps) h = rw h refl
alike_chain level place others (Err fs) (Err gs) h = rw h refl

-- a comparison of two sides
pub pair_chain : (place : Option Loc) (op : RelOp) (others : Parts) (x : Outcome Held) (y : Outcome Value) → operator_limit relation place others ≡ Ok tt
    → chain_outcome relation place others x (next (both y (Ok [])) (with_part (compare op))) ≡ next (both x y) (sides_outcome place op)
pair_chain place op others (Ok s) (Ok w) h = rw h refl
pair_chain place op others (Ok s) (Err gs) h = rw h refl
pair_chain place op others (Err fs) (Ok w) h = rw h refl
pair_chain place op others (Err fs) (Err gs) h = rw h refl
