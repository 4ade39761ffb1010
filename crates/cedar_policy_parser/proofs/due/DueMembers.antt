-- The faults of accesses are due.
use Rattle.std.proofs.Common.{◌≡◌, ◌≢◌, ℕ, zero, suc, Bool, true, false, cond, List, [], ◌∷◌, length, Option, Some, None, Ok, Err, refl, sym, ◌∙◌, ap, subst}
use Rattle.cedar_expressions.specs.declared.atoms.Literal.TheVariants as literals
use Rattle.cedar_expressions.specs.declared.atoms.Var.{Var}
use Rattle.cedar_expressions.specs.Path.{Path}
use Rattle.cedar_expressions.specs.Value as v
use Rattle.cedar_expressions.specs.Value.{Value}
use Rattle.cedar_syntax.specs.declared.loc.Loc.{Loc}
use Rattle.cedar_syntax.specs.declared.node.Node.{Node}
use Rattle.cedar_syntax.specs.declared.cst.Ident.{Ident}
use Rattle.cedar_syntax.specs.trees.Located as f
use Rattle.cedar_syntax.specs.trees.Located.{Located, Form, Parts, at}
use Rattle.cedar_syntax.specs.trees.Tree.{Operator}
use Rattle.cedar_policy_parser.specs.faults.Sites as site
use Rattle.cedar_policy_parser.specs.faults.Sites.{Site, IsNameSite, IsNamed, IsVariableSite}
use Rattle.cedar_conversion.specs.declared.primaries.methods.Standard.{Standard}
use Rattle.cedar_conversion.specs.outcome.Conversion.{tree_place, outcome}
use Rattle.cedar_policy_parser.specs.faults.DueKinds as due
use Rattle.cedar_policy_parser.specs.faults.DueKinds.{IsDueFunction, IsDueMember, IsDueMethod, OnValue, count}
use Rattle.cedar_conversion.specs.strict.Extensions.{Extensions}
use Rattle.cedar_conversion.specs.outcome.Held.{Held, expression, variable, bare_name, bare_truth, bare_string, as_expression, text_value}
use Rattle.cedar_conversion.specs.parts.Members.{Access, arity, field, call, index, takes_one, with_arguments, plain_name, method_by, function_outcome, accesses_of, name_accesses, variable_accesses, some_accesses, member_outcome}
use Rattle.cedar_conversion.specs.parts.Names.{unreserved_ident}
use Rattle.cedar_conversion.specs.outcome.Outcome as k
use Rattle.cedar_conversion.specs.outcome.Detail.{Detail}
use Rattle.cedar_conversion.specs.outcome.Outcome.{Kind, NamedFault, Outcome, detailed_outcome, both, next}
use Rattle.cedar_policy_parser.specs.faults.Standing.{LiesWithin}
use Rattle.cedar_conversion.specs.strict.StrictCalls.{method_word, standard_method, names_method}
use Rattle.cedar_conversion.specs.parts.Strings.{text_outcome}
use Rattle.cedar_policy_parser.proofs.standing.Standing.{Anything}
use Rattle.cedar_policy_parser.proofs.Telling.{Sited, Tells, one, next_tells, lift, if_tells, Due, in_part, here, text_tells}
use Rattle.cedar_policy_parser.proofs.due.DueLeaves.{HeldAt, string_below}
use Rattle.cedar_policy_parser.proofs.due.DueSides.{of_name}

-- ---- accesses and what they give

pub data Gives : Parts → List Access → Type 0 where
  nothing : Gives f.none []
  a_field : {op : Operator} {p : Option Loc} {m : Node (Option Ident)} {others : Parts} {id : List ℕ} {rest : List Access} → unreserved_ident m ≡ Ok id → Gives others rest → Gives (f.more op (at p (f.field m)) others) (field id ∷ rest)
  a_call : {op : Operator} {p : Option Loc} {items others : Parts} {args : List Value} {rest : List Access} → count items ≡ length args → Gives others rest → Gives (f.more op (at p (f.call items)) others) (call args ∷ rest)
  an_index : {op : Operator} {p : Option Loc} {n : Located} {others : Parts} {text : List ℕ} {rest : List Access} → Gives others rest → Gives (f.more op (at p (f.index n)) others) (index text ∷ rest)

-- what is told of a member: what is due for its accesses
abbrev pub ToTell : Extensions → (Kind → Type 0) → Located → Parts → Type 0
ToTell e P n all = (kind : Kind) → IsDueMember e n all kind → P kind

abbrev pub At : (Kind → Type 0) → Option Loc → Sited → Type 0
At P p fault = P fault.0 × (fault.1 ≡ p)

told : {Y : Type 0} (P : Kind → Type 0) (p : Option Loc) (Q : Y → Type 0) (kind : Kind) (d : Detail) → P kind → Tells (At P p) Q (detailed_outcome kind p d)
told P p Q kind d h = one (At P p) kind p d (h, refl)

-- ---- calls

no_zero : (n : ℕ) → suc n ≢ zero
no_zero n e = cc

no_one : (n : ℕ) → suc (suc n) ≢ suc zero
no_one n e = cc

not_none : zero ≢ suc zero
not_none e = cc

arguments_due : (P : Kind → Type 0) (p : Option Loc) (word : List ℕ) (m : Option (Value → Value → Value)) (x : Value) (args : List Value) → (length args ≢ arity m → P k.wrong_arity) → Tells (At P p) Anything (with_arguments p word m x args)
arguments_due P p word (Some make) x [] h = told {Y = Value} P p Anything k.wrong_arity _ (h not_none)
arguments_due P p word (Some make) x (y ∷ []) h = tt
arguments_due P p word (Some make) x (y ∷ z ∷ args) h = told {Y = Value} P p Anything k.wrong_arity _ (h (no_one (length args)))
arguments_due P p word None x [] h = tt
arguments_due P p word None x (y ∷ args) h = told {Y = Value} P p Anything k.wrong_arity _ (h (no_zero (length args)))

method_by_due : (e : Extensions) (P : Kind → Type 0) (p : Option Loc) (id : List ℕ) (s : Option Standard) (x : Value) (args : List Value) (n : ℕ) → n ≡ length args → standard_method id ≡ s → ((kind : Kind) → IsDueMethod e id n kind → P kind)
    → Tells (At P p) Anything (method_by e p id s x args)
method_by_due e P p id (Some s) x args n d g t = arguments_due P p (method_word s) (takes_one s) x args (λ h. t k.wrong_arity (due.other_number s g (λ i. h (sym d ∙ i))))
method_by_due e P p id None x args n d g t =
    if_tells (At P p) Anything (e.methods id) _ _ (λ h. tt)
    (λ h. if_tells (At P p) Anything (e.functions (plain_name id)) _ _ (λ i. told {Y = Value} P p Anything k.method_call_on_function _ (t k.method_call_on_function (due.a_function g h i)))
    (λ i. told {Y = Value} P p Anything k.unknown_method _ (t k.unknown_method (due.no_method g h i))))

function_due : (e : Extensions) (P : Kind → Type 0) (p : Option Loc) (name : Path) (args : List Value) → ((kind : Kind) → IsDueFunction e name kind → P kind) → Tells (At P p) Anything (function_outcome e p name args)
function_due e P p name args t =
    if_tells (At P p) Anything (names_method e name.path name.id) _ _ (λ h. told {Y = Value} P p Anything k.function_call_on_method _ (t k.function_call_on_method (due.a_method h)))
    (λ h. if_tells (At P p) Anything (e.functions name) _ _ (λ g. tt) (λ g. told {Y = Value} P p Anything k.unknown_function _ (t k.unknown_function (due.no_function h g))))

-- where a call gives a value nothing is due

abbrev value_given : Value → Outcome Value
value_given y = Ok y

number_given : (p : Option Loc) (word : List ℕ) (m : Option (Value → Value → Value)) (x y : Value) (args : List Value) → with_arguments p word m x args ≡ value_given y → length args ≡ arity m
number_given p word (Some make) x y [] h = cc
number_given p word (Some make) x y (z ∷ []) h = refl
number_given p word (Some make) x y (z ∷ w ∷ args) h = cc
number_given p word None x y [] h = refl
number_given p word None x y (z ∷ args) h = cc

abbrev one_fault : NamedFault → Outcome Value
one_fault fault = Err (fault ∷ [])

fails : (a b : NamedFault) (c : Bool) (y : Value) → ¬ (cond c (one_fault a) (one_fault b) ≡ value_given y)
fails a b true y h = cc
fails a b false y h = cc

table_has : (a b : NamedFault) (has also : Bool) (x y : Value) → cond has (value_given x) (cond also (one_fault a) (one_fault b)) ≡ value_given y → has ≡ true
table_has a b true also x y h = refl
table_has a b false also x y h = absurd (fails a b also y h)

function_has : (a b : NamedFault) (is_method has : Bool) (x y : Value) → cond is_method (one_fault a) (cond has (value_given x) (one_fault b)) ≡ value_given y → (is_method ≡ false) × (has ≡ true)
function_has a b true has x y h = cc
function_has a b false true x y h = (refl, refl)
function_has a b false false x y h = cc

pub one_standard : {o : Option Standard} {s m : Standard} → o ≡ Some s → o ≡ Some m → s ≡ m
one_standard g h = cc

pub not_standard : {o : Option Standard} {s : Standard} → o ≡ Some s → o ≢ None
not_standard g h = cc

pub not_other : {b : Bool} → b ≡ true → b ≢ false
not_other g h = cc

method_given : (e : Extensions) (p : Option Loc) (id : List ℕ) (s : Option Standard) (x y : Value) (args : List Value) (n : ℕ) → n ≡ length args → standard_method id ≡ s → method_by e p id s x args ≡ Ok y → (kind : Kind) → ¬ (IsDueMethod e id n kind)
method_given e p id (Some s) x y args n d g c kind (due.other_number m h i) = i (d ∙ number_given p (method_word s) (takes_one s) x y args c ∙ ap (λ o. arity (takes_one o)) (one_standard g h))
method_given e p id (Some s) x y args n d g c kind (due.a_function h i j) = not_standard g h
method_given e p id (Some s) x y args n d g c kind (due.no_method h i j) = not_standard g h
method_given e p id None x y args n d g c kind (due.other_number m h i) = not_standard h g
method_given e p id None x y args n d g c kind (due.a_function h i j) = not_other (table_has _ _ (e.methods id) (e.functions (plain_name id)) _ y c) i
method_given e p id None x y args n d g c kind (due.no_method h i j) = not_other (table_has _ _ (e.methods id) (e.functions (plain_name id)) _ y c) i

function_given : (e : Extensions) (p : Option Loc) (name : Path) (args : List Value) (y : Value) → function_outcome e p name args ≡ Ok y → (kind : Kind) → ¬ (IsDueFunction e name kind)
function_given e p name args y c kind (due.a_method h) = not_other h (function_has _ _ (names_method e name.path name.id) (e.functions name) _ y c).0
function_given e p name args y c kind (due.no_function h i) = not_other (function_has _ _ (names_method e name.path name.id) (e.functions name) _ y c).1 i

-- ---- accesses

-- a value that stands there
abbrev Given : Option Loc → Held → Type 0
Given p (expression q x) = q ≡ p
Given p _ = ⊥

accesses_due : {n : Located} {all rest : Parts} {xs : List Access} (e : Extensions) (P : Kind → Type 0) (p : Option Loc) (x : Value) → ToTell e P n all → OnValue e n all rest → Gives rest xs → Tells (At P p) (Given p) (accesses_of e p x xs)
accesses_due e P p x t o nothing = refl
accesses_due e P p x t o (a_call c g) = told P p (Given p) k.expression_call _ (t k.expression_call (due.behind_value o (due.value_called tt)))
accesses_due e P p x t o (an_index {text = text} g) = accesses_due e P p (v.get_attr x text) t (due.behind_link o due.index_link) g
accesses_due e P p x t o (a_field c nothing) = refl
accesses_due e P p x t o (a_field {id = id} c (a_call {items = items} {args = args} d g)) =
    next_tells (At P p) Anything (Given p) _ _ (method_by_due e P p id (standard_method id) x args (count items) d refl (λ kind i. t kind (due.behind_value o (due.method_called c i))))
    (λ y h _. accesses_due e P p y t (due.behind_link o (due.method_link c (method_given e p id (standard_method id) x y args (count items) d refl h))) g)
accesses_due e P p x t o (a_field {id = id} c (a_field d g)) = accesses_due e P p (v.get_attr x id) t (due.behind_link o (due.field_link (λ i. i))) (a_field d g)
accesses_due e P p x t o (a_field {id = id} c (an_index g)) = accesses_due e P p (v.get_attr x id) t (due.behind_link o (due.field_link (λ i. i))) (an_index g)

-- of a name
name_accesses_due : {n : Located} {all : Parts} {xs : List Access} (e : Extensions) (P : Kind → Type 0) (p : Option Loc) (name : Path) (a : Access) (rest : List Access) → xs ≡ a ∷ rest → ToTell e P n all → IsNamed n name → Gives all xs → Tells (At P p) (Given p) (name_accesses e p name xs)
name_accesses_due e P p name a rest s t i nothing = cc
name_accesses_due e P p name a rest s t i (a_call {args = args} c g) =
    next_tells (At P p) Anything (Given p) _ _ (function_due e P p name args (λ kind d. t kind (due.name_called i tt d))) (λ y h _. accesses_due e P p y t (due.behind_function i (function_given e p name args y h) refl) g)
name_accesses_due e P p name a rest s t i (an_index g) = told P p (Given p) k.invalid_index _ (t k.invalid_index (due.name_indexed i refl))
name_accesses_due e P p name a rest s t i (a_field c nothing) = told P p (Given p) k.invalid_access _ (t k.invalid_access (due.name_field i refl (λ x. x)))
name_accesses_due e P p name a rest s t i (a_field c (a_call d g)) = told P p (Given p) k.no_methods _ (t k.no_methods (due.name_field_called i refl tt))
name_accesses_due e P p name a rest s t i (a_field c (a_field d g)) = told P p (Given p) k.invalid_access _ (t k.invalid_access (due.name_field i refl (λ x. x)))
name_accesses_due e P p name a rest s t i (a_field c (an_index g)) = told P p (Given p) k.invalid_access _ (t k.invalid_access (due.name_field i refl (λ x. x)))

-- of a variable
variable_accesses_due : {n : Located} {all : Parts} {xs : List Access} (e : Extensions) (P : Kind → Type 0) (p : Option Loc) (x : Var) → ToTell e P n all → IsVariableSite n → Gives all xs → Tells (At P p) (Given p) (variable_accesses e p x xs)
variable_accesses_due e P p x t i nothing = refl
variable_accesses_due e P p x t i (a_call c g) = told P p (Given p) k.variable_call _ (t k.variable_call (due.variable_called i tt))
variable_accesses_due e P p x t i (an_index g) = accesses_due e P p (v.var x) t (due.variable i (λ y. y)) (an_index g)
variable_accesses_due e P p x t i (a_field c g) = accesses_due e P p (v.var x) t (due.variable i (λ y. y)) (a_field c g)

-- ---- a member

-- its faults, told as those of the node
here_at : (e : Extensions) (p : Option Loc) (n : Located) (all : Parts) → LiesWithin p p → (fault : Sited) → At (λ kind. IsDueMember e n all kind) p fault → Due e (site.node (at p (f.member n all))) fault
here_at e p n all w fault d = here e (site.node (at p (f.member n all))) fault.0 fault.1 (due.accesses d.0) (subst (λ q. LiesWithin p q) (sym d.1) w)

given_held : (p : Option Loc) (n : Located) (all : Parts) → LiesWithin p p → (h : Held) → Given p h → HeldAt (at p (f.member n all)) h
given_held p n all w (expression q x) i = (subst (λ r. LiesWithin p r) (sym i) w, tt)
given_held p n all w (variable q x) i = absurd i
given_held p n all w (bare_name q x) i = absurd i
given_held p n all w (bare_truth q x) i = absurd i
given_held p n all w (bare_string q x) i = absurd i

mapped : {X : Type 0} (P R : Sited → Type 0) (Q S : X → Type 0) (x : Outcome X) → ((fault : Sited) → P fault → R fault) → ((y : X) → Q y → S y) → Tells P Q x → Tells R S x
mapped P R Q S (Ok x) g i a = i x a
mapped P R Q S (Err fs) g i a = lift P R Q (Err fs) g a

as_member : (e : Extensions) (p : Option Loc) (n : Located) (all : Parts) (o : Outcome Held) → LiesWithin p p → Tells (At (λ kind. IsDueMember e n all kind) p) (Given p) o → Tells (Due e (site.node (at p (f.member n all)))) (HeldAt (at p (f.member n all))) o
as_member e p n all o w h = mapped (At (λ kind. IsDueMember e n all kind) p) (Due e (site.node (at p (f.member n all)))) (Given p) (HeldAt (at p (f.member n all))) o (here_at e p n all w) (given_held p n all w) h

-- where there is an access
some_due : (e : Extensions) (p : Option Loc) (n : Located) (op : Operator) (m : Located) (ps : Parts) (h : Held) (a : Access) (xs : List Access) → LiesWithin p p → LiesWithin p (tree_place n) → outcome e n ≡ Ok h → HeldAt n h → Gives (f.more op m ps) (a ∷ xs)
    → Tells (Due e (site.node (at p (f.member n (f.more op m ps))))) (HeldAt (at p (f.member n (f.more op m ps)))) (some_accesses e p h (a ∷ xs))
some_due e p n op m ps (expression q x) a xs w l c i g = let all : Parts = f.more op m ps in as_member e p n all _ w (accesses_due e (λ kind. IsDueMember e n all kind) p x (λ kind d. d) (due.no_name (of_name e n _ c (λ y. y))) g)
some_due e p n op m ps (variable q x) a xs w l c i g = let all : Parts = f.more op m ps in as_member e p n all _ w (variable_accesses_due e (λ kind. IsDueMember e n all kind) p x (λ kind d. d) i.1 g)
some_due e p n op m ps (bare_name q x) a xs w l c i g = let all : Parts = f.more op m ps in as_member e p n all _ w (name_accesses_due e (λ kind. IsDueMember e n all kind) p x a xs refl (λ kind d. d) i.1 g)
some_due e p n op m ps (bare_truth q b) a xs w l c i g =
    let all : Parts = f.more op m ps in
    as_member e p n all _ w (accesses_due e (λ kind. IsDueMember e n all kind) p (v.val (literals.Bool b)) (λ kind d. d) (due.no_name (of_name e n _ c (λ y. y))) g)
some_due e p n op m ps (bare_string q raw) a xs w l c i t =
    let all : Parts = f.more op m ps in
    let s : Site = site.node (at p (f.member n all)) in
    next_tells (Due e s) Anything (HeldAt (at p (f.member n all))) (as_expression (bare_string q raw)) _
    (next_tells (Due e s) Anything Anything (text_outcome q raw) text_value (text_tells (Due e s) q raw (λ g. in_part e (site.node n) s site.head _ (string_below e n q raw i.1 g))) (λ x d _. tt))
    (λ x d _. as_member e p n all _ w (accesses_due e (λ kind. IsDueMember e n all kind) p x (λ kind d. d) (due.no_name (of_name e n _ c (λ y. y))) t))

abbrev Begun : Parts → Type 0
Begun f.none = ⊥
Begun (f.more op n others) = Unit {0}

none_given : {all : Parts} {xs : List Access} → Gives all xs → xs ≡ [] → ¬ (Begun all)
none_given nothing e h = h
none_given (a_field c g) e h = cc
none_given (a_call c g) e h = cc
none_given (an_index g) e h = cc

nothing_given : {op : Operator} {m : Located} {ps : Parts} → ¬ (Gives (f.more op m ps) [])
nothing_given g = none_given g refl tt

pub member_due : (e : Extensions) (p : Option Loc) (n : Located) (op : Operator) (m : Located) (ps : Parts) (h : Held) (xs : List Access) → LiesWithin p p → LiesWithin p (tree_place n) → outcome e n ≡ Ok h → HeldAt n h → Gives (f.more op m ps) xs
    → Tells (Due e (site.node (at p (f.member n (f.more op m ps))))) (HeldAt (at p (f.member n (f.more op m ps)))) (member_outcome e p h xs)
member_due e p n op m ps h [] w l c i g = absurd (nothing_given g)
member_due e p n op m ps h (a ∷ xs) w l c i g = some_due e p n op m ps h a xs w l c i g
