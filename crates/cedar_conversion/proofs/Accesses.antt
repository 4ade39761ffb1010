-- Accesses applied to what was read, one after another.
use Rattle.std.proofs.Common.{◌≡◌, ◌<◌, ◌≤◌, ◌+◌, ℕ, Bool, true, false, List, [], ◌∷◌, ◌++◌, map, drop, length, get_or, Option, Some, None, Result, Ok, Err, if◌then◌else◌, arith, refl, sym, ap, ◌∙◌}
use Rattle.cedar_expressions.specs.Path.{Path}
use Rattle.cedar_expressions.specs.Value as v
use Rattle.cedar_expressions.specs.Value.{Value}
use Rattle.cedar_syntax.specs.declared.loc.Loc.{Loc}
use Rattle.cedar_syntax.specs.declared.err.faults.Failure.{Failure}
use Rattle.cedar_conversion.specs.declared.primaries.members.AccessValue.{AccessValue as Kept}
use Rattle.cedar_conversion.specs.declared.answer.special.ExprOrSpecial.{ExprOrSpecial}
use Rattle.cedar_conversion.specs.declared.answer.special.ExprOrSpecial.TheVariants as special
use Rattle.cedar_expressions.specs.declared.atoms.Var.{Var}
use Rattle.cedar_conversion.specs.strict.Extensions.{Extensions}
use Rattle.cedar_conversion.specs.outcome.Held.{Held, expression, bare_name, as_expression}
use Rattle.cedar_conversion.specs.parts.Members.{Access, field, call, index, accesses_of, some_accesses, name_accesses}
use Rattle.cedar_conversion.specs.outcome.Detail as detail
use Rattle.cedar_conversion.specs.outcome.Outcome.{Outcome, detailed_outcome, next, variable_call, no_methods, invalid_access}
use Rattle.cedar_conversion.specs.outcome.Seen.{Refuses, Gives}
use Rattle.cedar_conversion.specs.machines.Applied.{after_field, begins_call, called_outcome, called_variable, is_value, left_outcome, seen_access, waiting}
use Rattle.cedar_conversion.specs.machines.Views.{TellsOne, plain}
use Rattle.cedar_conversion.proofs.Loops.{drop_next, drop_whole}
use Rattle.cedar_conversion.proofs.Outcomes.{refused_with, refuses_with, refused_next}

-- ---- one step

-- nothing is left
pub ended : (e : Extensions) (place : Option Loc) (x : Value) (f : Option (List ℕ)) → accesses_of e place x (waiting f ++ []) ≡ Ok (expression place (after_field x f))
ended e place x None = refl
ended e place x (Some id) = refl

pub call_next : (e : Extensions) (place : Option Loc) (x : Value) (f : Option (List ℕ)) (args : List Value) (rest : List Access) → left_outcome e place x f (call args ∷ rest) ≡ next (called_outcome e place x f args) (λ y. accesses_of e place y rest)
call_next e place x None args rest = refl
call_next e place x (Some id) args rest = refl

pub field_next : (e : Extensions) (place : Option Loc) (x : Value) (f : Option (List ℕ)) (id : List ℕ) (rest : List Access) → accesses_of e place x (waiting f ++ field id ∷ rest) ≡ accesses_of e place (after_field x f) (field id ∷ rest)
field_next e place x None id rest = refl
field_next e place x (Some other) id rest = refl

pub index_next : (e : Extensions) (place : Option Loc) (x : Value) (f : Option (List ℕ)) (text : List ℕ) (rest : List Access) → accesses_of e place x (waiting f ++ index text ∷ rest) ≡ accesses_of e place (v.get_attr (after_field x f) text) rest
index_next e place x None text rest = refl
index_next e place x (Some other) text rest = refl

-- ---- all of them

-- what those that a loop has still to go over make of a value, where a field may wait
abbrev pub left_to : {E : Type 0} → Extensions → Option Loc → (E → Value) → List (Kept E) → ℕ → Value → Option (List ℕ) → Outcome Held
left_to e place meaning accesses n x f = left_outcome e place x f (map (seen_access meaning) (drop n accesses))

-- an access that leads to a value, behind which a field may wait
abbrev pub LeadsTo : Extensions → Option Loc → Access → Value → Option (List ℕ) → Value → Option (List ℕ) → Type 0
LeadsTo e place access x f y g = (rest : List Access) → left_outcome e place x f (access ∷ rest) ≡ left_outcome e place y g rest

pub called : (e : Extensions) (place : Option Loc) (args : List Value) (x y : Value) (f : Option (List ℕ)) → called_outcome e place x f args ≡ Ok y → LeadsTo e place (call args) x f y None
called e place args x y f h rest = call_next e place x f args rest ∙ rw h refl

pub kept : (e : Extensions) (place : Option Loc) (id : List ℕ) (x y : Value) (f : Option (List ℕ)) → y ≡ after_field x f → LeadsTo e place (field id) x f y (Some id)
kept e place id x y f h rest = field_next e place x f id rest ∙ ap (λ z. accesses_of e place z (field id ∷ rest)) (sym h)

pub indexed : (e : Extensions) (place : Option Loc) (text : List ℕ) (x y w : Value) (f : Option (List ℕ)) → y ≡ after_field x f → w ≡ v.get_attr y text → LeadsTo e place (index text) x f w None
indexed e place text x y w f h k rest = index_next e place x f text rest ∙ ap (λ z. accesses_of e place (v.get_attr z text) rest) (sym h) ∙ ap (λ z. accesses_of e place z rest) (sym k)

pub access_given : {E : Type 0} (e : Extensions) (place : Option Loc) (meaning : E → Value) (accesses : List (Kept E)) (n : ℕ) (access : Kept E) (x y : Value) (f g : Option (List ℕ))
    → n < length accesses → access ≡ get_or accesses n access → LeadsTo e place (seen_access meaning access) x f y g
    → left_to e place meaning accesses n x f ≡ left_to e place meaning accesses (n + 1) y g
access_given e place meaning accesses n access x y f g h k leads =
    ap (λ rest. left_outcome e place x f (map (seen_access meaning) rest)) (drop_next accesses n access h k) ∙ leads (map (seen_access meaning) (drop (n + 1) accesses))

pub call_refused : {E : Type 0} (e : Extensions) (place : Option Loc) (meaning : E → Value) (accesses : List (Kept E)) (n : ℕ) (access : Kept E) (args : List Value) (x : Value) (f : Option (List ℕ)) (failure : Failure)
    → n < length accesses → access ≡ get_or accesses n access → seen_access meaning access ≡ call args → Refuses failure (called_outcome e place x f args)
    → Refuses failure (left_to e place meaning accesses n x f)
call_refused e place meaning accesses n access args x f failure h k l refused =
    rw (drop_next accesses n access h k, l, call_next e place x f args (map (seen_access meaning) (drop (n + 1) accesses))) (refused_next failure (called_outcome e place x f args) (λ y. accesses_of e place y (map (seen_access meaning) (drop (n + 1) accesses))) refused)

pub none_left : {E : Type 0} (e : Extensions) (place : Option Loc) (meaning : E → Value) (accesses : List (Kept E)) (n : ℕ) (x : Value) (f : Option (List ℕ)) → length accesses ≤ n
    → left_to e place meaning accesses n x f ≡ Ok (expression place (after_field x f))
none_left e place meaning accesses n x f h =
    ap (λ rest. left_outcome e place x f (map (seen_access meaning) rest)) (drop_whole accesses n h) ∙ ended e place x f

-- ---- what a primary gave

-- what is neither a name nor a variable that is called has accesses of its value
pub as_value : {E : Type 0} (e : Extensions) (place : Option Loc) (meaning : E → Value) (item : Result (ExprOrSpecial E) Failure) (x : Outcome Held) (a : Access) (all : List Access)
    → is_value item ≡ true → called_variable item (a ∷ all) ≡ None → Gives (plain meaning) item x
    → next x (λ h. some_accesses e place h (a ∷ all)) ≡ next (next x as_expression) (λ w. accesses_of e place w (a ∷ all))
as_value e place meaning (Ok (special.Expr w own)) x a all n v h = rw h refl
as_value e place meaning (Ok (special.Var var own)) x (field id) all n v h = rw h refl
as_value e place meaning (Ok (special.Var var own)) x (index text) all n v h = rw h refl
as_value e place meaning (Ok (special.Var var own)) x (call args) all n v h = cc
as_value e place meaning (Ok (special.Name name own)) x a all n v h = cc
as_value e place meaning (Ok (special.BoolLit b own)) x a all n v h = rw h refl
as_value e place meaning (Ok (special.StrLit raw own)) x a all n v h = rw h refl
as_value e place meaning (Err f) x a all n v h = cc

-- a variable that is called
pub call_of_variable : {E : Type 0} (e : Extensions) (place : Option Loc) (meaning : E → Value) (item : Result (ExprOrSpecial E) Failure) (x : Outcome Held) (a : Access) (all : List Access) (var : Var) (f : Failure)
    → called_variable item (a ∷ all) ≡ Some var → Gives (plain meaning) item x → TellsOne f (variable_call, place, detail.variable var)
    → Refuses f (next x (λ h. some_accesses e place h (a ∷ all)))
call_of_variable e place meaning (Ok (special.Var w own)) x (call args) all var f v h t =
    let same : w ≡ var = cc in
    rw (h, same) (refused_with Held f variable_call place (detail.variable var) t)
call_of_variable e place meaning (Ok (special.Var w own)) x (field id) all var f v h t = cc
call_of_variable e place meaning (Ok (special.Var w own)) x (index text) all var f v h t = cc
call_of_variable e place meaning (Ok (special.Expr w own)) x (call args) all var f v h t = cc
call_of_variable e place meaning (Ok (special.Expr w own)) x (field id) all var f v h t = cc
call_of_variable e place meaning (Ok (special.Expr w own)) x (index text) all var f v h t = cc
call_of_variable e place meaning (Ok (special.Name name own)) x (call args) all var f v h t = cc
call_of_variable e place meaning (Ok (special.Name name own)) x (field id) all var f v h t = cc
call_of_variable e place meaning (Ok (special.Name name own)) x (index text) all var f v h t = cc
call_of_variable e place meaning (Ok (special.BoolLit w own)) x (call args) all var f v h t = cc
call_of_variable e place meaning (Ok (special.BoolLit w own)) x (field id) all var f v h t = cc
call_of_variable e place meaning (Ok (special.BoolLit w own)) x (index text) all var f v h t = cc
call_of_variable e place meaning (Ok (special.StrLit raw own)) x (call args) all var f v h t = cc
call_of_variable e place meaning (Ok (special.StrLit raw own)) x (field id) all var f v h t = cc
call_of_variable e place meaning (Ok (special.StrLit raw own)) x (index text) all var f v h t = cc
call_of_variable e place meaning (Err g) x (call args) all var f v h t = cc
call_of_variable e place meaning (Err g) x (field id) all var f v h t = cc
call_of_variable e place meaning (Err g) x (index text) all var f v h t = cc

-- what is no value is a name, or a failure
pub not_value : {E : Type 0} (meaning : E → Value) (item : Result (ExprOrSpecial E) Failure) (x : Outcome Held) (f : Held → Outcome Held) (result : Result (ExprOrSpecial E) Failure)
    → is_value item ≡ false → Gives (plain meaning) item x → ((own : Option Loc) (name : Path) → item ≡ Ok (special.Name name own) → Gives (plain meaning) result (f (bare_name own name)))
    → ((failure : Failure) → item ≡ Err failure → result ≡ Err failure) → Gives (plain meaning) result (next x f)
not_value meaning (Ok (special.Name name own)) x f result n h named failed = rw h (named own name refl)
not_value meaning (Ok (special.Expr w own)) x f result n h named failed = cc
not_value meaning (Ok (special.Var w own)) x f result n h named failed = cc
not_value meaning (Ok (special.BoolLit w own)) x f result n h named failed = cc
not_value meaning (Ok (special.StrLit raw own)) x f result n h named failed = cc
not_value meaning (Err g) x f result n h named failed = rw (failed g refl) (refused_next g x f h)

-- a primary without accesses is itself
pub without_accesses : (x : Outcome Held) → next x (λ h. Ok h) ≡ x
without_accesses (Ok h) = refl
without_accesses (Err fs) = refl

pub nothing_in : {A : Type 0} (xs : List A) → length xs ≤ 0 → xs ≡ []
nothing_in [] h = refl
nothing_in (x ∷ xs) h = absurd (omega arith)

-- a list that has something in it
pub some_first : {A : Type 0} (xs : List A) → 0 < length xs → (x : A) × (rest : List A) × (xs ≡ x ∷ rest)
some_first [] h = absurd (omega arith)
some_first (x ∷ xs) h = (x, xs, refl)

-- ---- a field of a name

-- a field of a name is no access; where a call follows, it would be a method's
abbrev no_field : Option Loc → Path → List ℕ → Bool → Outcome Held
no_field place name id is_called = detailed_outcome (if is_called then no_methods else invalid_access) place (detail.asked_of name id)

named_field : (e : Extensions) (place : Option Loc) (name : Path) (id : List ℕ) (rest : List Access) → name_accesses e place name (field id ∷ rest) ≡ no_field place name id (begins_call rest)
named_field e place name id [] = refl
named_field e place name id (call args ∷ rest) = refl
named_field e place name id (index text ∷ rest) = refl
named_field e place name id (field other ∷ rest) = refl

pub field_of_name : (e : Extensions) (place : Option Loc) (name : Path) (first : Access) (id : List ℕ) (rest : List Access) (is_called : Bool) (f : Failure)
    → first ≡ field id → is_called ≡ begins_call rest → TellsOne f (if is_called then no_methods else invalid_access, place, detail.asked_of name id)
    → Refuses f (name_accesses e place name (first ∷ rest))
field_of_name e place name first id rest is_called f h k t =
    rw h (refuses_with f (name_accesses e place name (field id ∷ rest)) (if is_called then no_methods else invalid_access) place (detail.asked_of name id) (named_field e place name id rest ∙ ap (no_field place name id) (sym k)) t)
