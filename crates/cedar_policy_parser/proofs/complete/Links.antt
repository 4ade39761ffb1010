-- Accesses, one more or two at the end: what they give of a primary is what they give of its value
-- so far.
use Rattle.std.proofs.Common.{◌≡◌, ℕ, List, [], ◌∷◌, ◌++◌, Option, Ok, Err, refl, sym, ap, ◌∙◌}
use Rattle.cedar_expressions.specs.Path.{Path}
use Rattle.cedar_expressions.specs.declared.atoms.Var.{Var}
use Rattle.cedar_expressions.specs.Value as v
use Rattle.cedar_expressions.specs.Value.{Value}
use Rattle.cedar_syntax.specs.declared.loc.Loc.{Loc}
use Rattle.cedar_syntax.specs.trees.Forms.{parts_of}
use Rattle.cedar_syntax.specs.trees.Located.{Located}
use Rattle.cedar_syntax.specs.trees.Tree.{Operator}
use Rattle.cedar_conversion.specs.outcome.Conversion.{accesses_outcome, access_outcome}
use Rattle.cedar_conversion.specs.strict.Extensions.{Extensions}
use Rattle.cedar_conversion.specs.outcome.Held.{Held, expression, variable, bare_name, bare_truth, bare_string, as_expression}
use Rattle.cedar_conversion.specs.parts.Members.{Access, field, call, index, accesses_of, name_accesses, variable_accesses, some_accesses, member_outcome, method_outcome, function_outcome}
use Rattle.cedar_conversion.specs.outcome.Outcome.{Outcome, both, next}
use Rattle.cedar_conversion.proofs.Inverted.{ok_is}
use Rattle.cedar_policy_parser.proofs.sound.Items.{with_more, first_of}

-- ---- what accesses give, one by one

pub accesses_more : (e : Extensions) (ps : List (Operator × Located)) (p : Operator × Located) (zs : List Access) (a : Access) → accesses_outcome e (parts_of ps) ≡ Ok zs → access_outcome e p.1 ≡ Ok a → accesses_outcome e (parts_of (ps ++ p ∷ [])) ≡ Ok (zs ++ a ∷ [])
unfolding accesses_outcome
accesses_more e [] p zs a h k = with_more (access_outcome e p.1) (Ok []) a [] k refl ∙ ap (λ xs. Ok (xs ++ a ∷ [])) (ok_is h)
accesses_more e (q ∷ ps) p zs a h k =
    let d = first_of (access_outcome e q.1) (accesses_outcome e (parts_of ps)) zs h in
    with_more (access_outcome e q.1) (accesses_outcome e (parts_of (ps ++ p ∷ []))) d.0 (d.1 ++ a ∷ []) d.2 (accesses_more e ps p d.1 a d.3 k) ∙ ap (λ xs. Ok (xs ++ a ∷ [])) (sym d.4)

-- ---- accesses of a value

-- accesses that don't begin by a call
abbrev pub NoCall : List Access → Type 0
NoCall [] = Unit {0}
NoCall (call args ∷ rest) = ⊥
NoCall (field id ∷ rest) = Unit {0}
NoCall (index text ∷ rest) = Unit {0}

-- a value for which accesses give another
abbrev Gives : Outcome Held → Value → Type 0
Gives o a = next o as_expression ≡ Ok a

field_more : (e : Extensions) (place : Option Loc) (x : Value) (id : List ℕ) (ws : List Access) → NoCall ws → accesses_of e place x (field id ∷ ws) ≡ accesses_of e place (v.get_attr x id) ws
field_more e place x id [] n = refl
field_more e place x id (call args ∷ ws) n = absurd n
field_more e place x id (field other ∷ ws) n = refl
field_more e place x id (index text ∷ ws) n = refl

at_value : (e : Extensions) (place : Option Loc) (x a : Value) (ws : List Access) → Gives (Ok (expression place x)) a → accesses_of e place x ws ≡ accesses_of e place a ws
at_value e place x a ws h = ap (λ y. accesses_of e place y ws) (ok_is h)

-- behind a call
called_more : (e : Extensions) (place : Option Loc) (o : Outcome Value) (rest ws : List Access) (a : Value) → ((y : Value) → Gives (accesses_of e place y rest) a → accesses_of e place y (rest ++ ws) ≡ accesses_of e place a ws)
    → Gives (next o (λ y. accesses_of e place y rest)) a → next o (λ y. accesses_of e place y (rest ++ ws)) ≡ accesses_of e place a ws
called_more e place (Ok y) rest ws a f h = f y h
called_more e place (Err fs) rest ws a f h = cc

pub value_more : (e : Extensions) (place : Option Loc) (x : Value) (zs ws : List Access) (a : Value) → NoCall ws → Gives (accesses_of e place x zs) a → accesses_of e place x (zs ++ ws) ≡ accesses_of e place a ws
value_more e place x [] ws a n h = at_value e place x a ws h
value_more e place x (call args ∷ rest) ws a n h = cc
value_more e place x (index text ∷ rest) ws a n h = value_more e place (v.get_attr x text) rest ws a n h
value_more e place x (field id ∷ []) ws a n h = field_more e place x id ws n ∙ at_value e place (v.get_attr x id) a ws h
value_more e place x (field id ∷ call args ∷ rest) ws a n h = called_more e place (method_outcome e place id x args) rest ws a (λ y k. value_more e place y rest ws a n k) h
value_more e place x (field id ∷ field other ∷ rest) ws a n h = value_more e place (v.get_attr x id) (field other ∷ rest) ws a n h
value_more e place x (field id ∷ index text ∷ rest) ws a n h = value_more e place (v.get_attr x id) (index text ∷ rest) ws a n h

-- ---- accesses of a primary

expression_more : (e : Extensions) (place : Option Loc) (o : Outcome Value) (zs ws : List Access) (a : Value) → NoCall ws → Gives (next o (λ x. accesses_of e place x zs)) a → next o (λ x. accesses_of e place x (zs ++ ws)) ≡ accesses_of e place a ws
expression_more e place (Ok x) zs ws a n h = value_more e place x zs ws a n h
expression_more e place (Err fs) zs ws a n h = cc

-- the first access behind a primary that is a value
begun_by : (e : Extensions) (place : Option Loc) (o : Outcome Value) (ws : List Access) (a : Value) → o ≡ Ok a → next o (λ x. accesses_of e place x ws) ≡ accesses_of e place a ws
begun_by e place o ws a h = rw h refl

variable_more : (e : Extensions) (place : Option Loc) (x : Var) (ws : List Access) → NoCall ws → variable_accesses e place x ws ≡ accesses_of e place (v.var x) ws
variable_more e place x [] n = refl
variable_more e place x (call args ∷ ws) n = absurd n
variable_more e place x (field id ∷ ws) n = refl
variable_more e place x (index text ∷ ws) n = refl

first_more : (e : Extensions) (place : Option Loc) (h : Held) (ws : List Access) (a : Value) → NoCall ws → as_expression h ≡ Ok a → some_accesses e place h ws ≡ accesses_of e place a ws
first_more e place (expression own x) ws a n k = ap (λ y. accesses_of e place y ws) (ok_is k)
first_more e place (variable own x) ws a n k = variable_more e place x ws n ∙ ap (λ y. accesses_of e place y ws) (ok_is k)
first_more e place (bare_name own name) ws a n k = cc
first_more e place (bare_truth own b) ws a n k = ap (λ y. accesses_of e place y ws) (ok_is k)
first_more e place (bare_string own raw) ws a n k = begun_by e place (as_expression (bare_string own raw)) ws a k

name_more : (e : Extensions) (place : Option Loc) (name : Path) (zs ws : List Access) (z : Access) (a : Value) → NoCall ws → Gives (name_accesses e place name (z ∷ zs)) a → name_accesses e place name (z ∷ (zs ++ ws)) ≡ accesses_of e place a ws
name_more e place name zs ws (call args) a n h = called_more e place (function_outcome e place name args) zs ws a (λ y k. value_more e place y zs ws a n k) h
name_more e place name zs ws (index text) a n h = cc
name_more e place name [] ws (field id) a n h = cc
name_more e place name (call args ∷ zs) ws (field id) a n h = cc
name_more e place name (field text ∷ zs) ws (field id) a n h = cc
name_more e place name (index text ∷ zs) ws (field id) a n h = cc

some_more : (e : Extensions) (place : Option Loc) (h : Held) (z : Access) (zs ws : List Access) (a : Value) → NoCall ws → Gives (some_accesses e place h (z ∷ zs)) a → some_accesses e place h (z ∷ (zs ++ ws)) ≡ accesses_of e place a ws
some_more e place (expression own x) z zs ws a n k = value_more e place x (z ∷ zs) ws a n k
some_more e place (variable own x) (call args) zs ws a n k = cc
some_more e place (variable own x) (field id) zs ws a n k = value_more e place (v.var x) (field id ∷ zs) ws a n k
some_more e place (variable own x) (index text) zs ws a n k = value_more e place (v.var x) (index text ∷ zs) ws a n k
some_more e place (bare_name own name) z zs ws a n k = name_more e place name zs ws z a n k
some_more e place (bare_truth own b) z zs ws a n k = expression_more e place (as_expression (bare_truth own b)) (z ∷ zs) ws a n k
some_more e place (bare_string own raw) z zs ws a n k = expression_more e place (as_expression (bare_string own raw)) (z ∷ zs) ws a n k

held_more : (e : Extensions) (place : Option Loc) (h : Held) (zs ws : List Access) (w : Access) (a : Value) → NoCall (w ∷ ws) → Gives (member_outcome e place h zs) a → member_outcome e place h (zs ++ w ∷ ws) ≡ accesses_of e place a (w ∷ ws)
held_more e place h [] ws w a n k = first_more e place h (w ∷ ws) a n k
held_more e place h (z ∷ zs) ws w a n k = some_more e place h z zs (w ∷ ws) a n k

-- what a primary gives behind accesses, and behind more
pub member_more : (e : Extensions) (place : Option Loc) (o : Outcome Held) (zs ws : List Access) (w : Access) (a : Value) → NoCall (w ∷ ws) → Gives (next o (λ h. member_outcome e place h zs)) a → next o (λ h. member_outcome e place h (zs ++ w ∷ ws)) ≡ accesses_of e place a (w ∷ ws)
member_more e place (Ok h) zs ws w a n k = held_more e place h zs ws w a n k
member_more e place (Err fs) zs ws w a n k = cc

pub two_given : (o : Outcome Held) (r : Outcome (List Access)) (zs : List Access) (f : Held → List Access → Outcome Held) → r ≡ Ok zs → next (both o r) (λ q. f q.0 q.1) ≡ next o (λ h. f h zs)
two_given (Ok h) r zs f k = rw k refl
two_given (Err fs) r zs f k = rw k refl
