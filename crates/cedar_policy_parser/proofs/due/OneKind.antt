-- What is not due: at one site no kind but those that the rules name there, and no two of them,
-- but at a product.
use Rattle.std.proofs.Common.{◌≡◌, ◌≢◌, ◌⊎◌, inl, inr, ℕ, List, [], ◌∷◌, Option, Some, None, Ok, refl, sym, ◌∙◌, ap, subst}
use Rattle.std.specs.List.{Contains}
use Rattle.std.proofs.lemmas.List.Elements.{Contains-append_left, Contains-append_right, Contains-push}
use Rattle.cedar_syntax.specs.declared.loc.Loc.{Loc}
use Rattle.cedar_syntax.specs.declared.node.Node.{Node}
use Rattle.cedar_syntax.specs.declared.cst.Ident.{Ident}
use Rattle.cedar_syntax.specs.declared.cst.Ident.TheVariants as words
use Rattle.cedar_syntax.specs.declared.cst.Literal.{Literal}
use Rattle.cedar_syntax.specs.declared.cst.Literal.TheVariants as lit
use Rattle.cedar_syntax.specs.declared.cst.Name.{Name}
use Rattle.cedar_syntax.specs.declared.cst.Ref.{Ref}
use Rattle.cedar_syntax.specs.declared.cst.Ref.TheVariants as refs
use Rattle.cedar_syntax.specs.declared.cst.RefInit.{RefInit}
use Rattle.cedar_syntax.specs.declared.cst.Str.{Str}
use Rattle.cedar_syntax.specs.declared.cst.Str.TheVariants as str
use Rattle.cedar_expressions.specs.declared.atoms.Var.{Var}
use Rattle.cedar_expressions.specs.Path.{Path}
use Rattle.cedar_syntax.specs.trees.Located as f
use Rattle.cedar_syntax.specs.trees.Located.{Located, Form, Parts, at, none, more}
use Rattle.cedar_syntax.specs.trees.Tree.{Operator}
use Rattle.cedar_conversion.specs.outcome.Conversion.{outcome, form_outcome}
use Rattle.cedar_policy_parser.specs.faults.DueKinds as due
use Rattle.cedar_policy_parser.specs.faults.DueKinds.{BeginsWithTruth, BeginsWithPath, BeginsWithCall, IsReservedIdent, IsMisspelled, IsDue, IsDueRight, IsDueMethod, IsDueFunction, IsBehindLink, OnValue, IsDueBehind, IsDueMember, kinds_of_site, IsProduct}
use Rattle.cedar_conversion.specs.strict.Extensions.{Extensions}
use Rattle.cedar_conversion.specs.outcome.Held.{bare_name}
use Rattle.cedar_conversion.specs.parts.Leaves.{variable_or_name}
use Rattle.cedar_conversion.specs.parts.Names.{name_outcome, named_variable}
use Rattle.cedar_conversion.specs.outcome.Outcome as k
use Rattle.cedar_conversion.specs.outcome.Outcome.{Kind, Outcome, next}
use Rattle.cedar_policy_parser.specs.faults.Sites as site
use Rattle.cedar_policy_parser.specs.faults.Sites.{Site, IsNameSite, IsNamed, IsVariableSite, IsTruthValue, IsQuoted}
use Rattle.cedar_policy_parser.proofs.Alone.{comes_to}
use Rattle.cedar_policy_parser.proofs.due.DueMembers.{not_standard, not_other}
use Rattle.cedar_policy_parser.proofs.due.DueSides.{of_truth, of_variable}
use Rattle.cedar_conversion.proofs.Inverted.{ok_is}

-- ---- names

name_given : (p : Option Loc) (v : Option Var) (m : Node (Option Name)) (o : Outcome Path) (path : Path) → v ≡ None → o ≡ Ok path → name_outcome m ≡ o → variable_or_name p v m ≡ Ok (bare_name p path)
name_given p None m o path c d g = ap (λ x. next x (λ name. Ok (bare_name p name))) (g ∙ d)
name_given p (Some x) m o path c d g = cc

leaf_is : (e : Extensions) (p : Option Loc) (m : Node (Option Name)) (path : Path) → named_variable m.node ≡ None → name_outcome m ≡ Ok path → outcome e (at p (f.name m)) ≡ Ok (bare_name p path)
unfolding outcome form_outcome
leaf_is e p m path c d = name_given p (named_variable m.node) m (name_outcome m) path c d refl

-- what it gives
named_gives : (e : Extensions) (n : Located) (path : Path) → (i : IsNamed n path) → outcome e n ≡ Ok (bare_name i.1.0 path)
named_gives e n path i = comes_to e i.1.1 ∙ leaf_is e i.1.0 i.0 path i.2 i.3

same_name : {p q : Option Loc} {x y : Path} → bare_name p x ≡ bare_name q y → x ≡ y
same_name h = cc

one_name : (e : Extensions) (n : Located) (x y : Path) → IsNamed n x → IsNamed n y → x ≡ y
one_name e n x y i j = same_name (ok_is (sym (named_gives e n x i) ∙ named_gives e n y j))

no_variable : (e : Extensions) (n : Located) (path : Path) → IsNamed n path → ¬ (IsVariableSite n)
no_variable e n path i = of_variable e n (bare_name i.1.0 path) (named_gives e n path i) (λ x. x)

no_truth : (e : Extensions) (n : Located) (path : Path) → IsNamed n path → ¬ (IsTruthValue n)
no_truth e n path i = of_truth e n (bare_name i.1.0 path) (named_gives e n path i) (λ x. x)

-- ---- calls

one_method : {e : Extensions} {id : List ℕ} {n : ℕ} {j l : Kind} → IsDueMethod e id n j → IsDueMethod e id n l → j ≡ l
one_method (due.other_number m h i) (due.other_number o g c) = refl
one_method (due.other_number m h i) (due.a_function g c d) = absurd (not_standard h g)
one_method (due.other_number m h i) (due.no_method g c d) = absurd (not_standard h g)
one_method (due.a_function h i c) (due.other_number m g d) = absurd (not_standard g h)
one_method (due.a_function h i c) (due.a_function g d j) = refl
one_method (due.a_function h i c) (due.no_method g d j) = absurd (not_other c j)
one_method (due.no_method h i c) (due.other_number m g d) = absurd (not_standard g h)
one_method (due.no_method h i c) (due.a_function g d j) = absurd (not_other j c)
one_method (due.no_method h i c) (due.no_method g d j) = refl

one_function : {e : Extensions} {path : Path} {j l : Kind} → IsDueFunction e path j → IsDueFunction e path l → j ≡ l
one_function (due.a_method h) (due.a_method i) = refl
one_function (due.a_method h) (due.no_function i c) = absurd (not_other h i)
one_function (due.no_function h c) (due.a_method i) = absurd (not_other i h)
one_function (due.no_function h c) (due.no_function i d) = refl

-- ---- accesses behind a value

same_id : {o : Outcome (List ℕ)} {x y : List ℕ} → o ≡ Ok x → o ≡ Ok y → x ≡ y
same_id c d = ok_is (sym c ∙ d)

one_link : {e : Extensions} {r a b : Parts} → IsBehindLink e r a → IsBehindLink e r b → a ≡ b
one_link due.index_link due.index_link = refl
one_link (due.field_link h) (due.field_link g) = refl
one_link (due.field_link h) (due.method_link c d) = absurd (h tt)
one_link (due.method_link c d) (due.field_link g) = absurd (g tt)
one_link (due.method_link c d) (due.method_link g h) = refl

-- what is refused has no link
refused_last : {e : Extensions} {r a : Parts} {j : Kind} → IsDueBehind e r j → ¬ (IsBehindLink e r a)
refused_last (due.value_called c) due.index_link = c
refused_last (due.value_called c) (due.field_link h) = c
refused_last (due.value_called c) (due.method_link d h) = c
refused_last (due.method_called c d) (due.field_link h) = h tt
refused_last {e = e} {j = j} (due.method_called {items = items} c d) (due.method_link g h) = h j (subst (λ x. IsDueMethod e x (due.count items) j) (same_id c g) d)

one_refused : {e : Extensions} {r : Parts} {j l : Kind} → IsDueBehind e r j → IsDueBehind e r l → j ≡ l
one_refused (due.value_called c) (due.value_called d) = refl
one_refused (due.value_called c) (due.method_called d g) = absurd c
one_refused (due.method_called c d) (due.value_called g) = absurd g
one_refused {e = e} {j = j} (due.method_called {items = items} c d) (due.method_called g h) = one_method (subst (λ x. IsDueMethod e x (due.count items) j) (same_id c g) d) h

-- over links to later accesses
data Leads (e : Extensions) : Parts → Parts → Type 0 where
  there : {r : Parts} → Leads e r r
  over : {r s t : Parts} → IsBehindLink e r s → Leads e s t → Leads e r t

one_more : {e : Extensions} {r s t : Parts} → Leads e r s → IsBehindLink e s t → Leads e r t
one_more there g = over g there
one_more (over h l) g = over h (one_more l g)

-- the first of the accesses that stand behind a value
data Begins (e : Extensions) (n : Located) (all : Parts) : Parts → Type 0 where
  no_name : ¬ (IsNameSite n) → Begins e n all all
  variable : IsVariableSite n → ¬ (BeginsWithCall all) → Begins e n all all
  behind_function : {path : Path} {op : Operator} {p : Option Loc} {items rest : Parts} → IsNamed n path → ((kind : Kind) → ¬ (IsDueFunction e path kind)) → all ≡ more op (at p (f.call items)) rest → Begins e n all rest

led : {e : Extensions} {n : Located} {all r : Parts} → OnValue e n all r → (s : Parts) × Begins e n all s × Leads e s r
led (due.no_name h) = (_, no_name h, there)
led (due.variable v h) = (_, variable v h, there)
led (due.behind_function i d c) = (_, behind_function i d c, there)
led (due.behind_link o g) = let d = led o in (d.0, d.1, one_more d.2 g)

same_rest : {op oq : Operator} {p q : Option Loc} {u v : Form} {r s : Parts} → more op (at p u) r ≡ more oq (at q v) s → r ≡ s
same_rest h = cc

one_beginning : {e : Extensions} {n : Located} {all r s : Parts} → Begins e n all r → Begins e n all s → r ≡ s
one_beginning (no_name h) (no_name g) = refl
one_beginning (no_name h) (variable v g) = refl
one_beginning (no_name h) (behind_function i d c) = absurd (h (i.0, i.1))
one_beginning (variable v h) (no_name g) = refl
one_beginning (variable v h) (variable w g) = refl
one_beginning (variable v h) (behind_function i d c) = absurd (h (subst BeginsWithCall (sym c) tt))
one_beginning (behind_function i d c) (no_name g) = absurd (g (i.0, i.1))
one_beginning (behind_function i d c) (variable v g) = absurd (g (subst BeginsWithCall (sym c) tt))
one_beginning (behind_function i d c) (behind_function j g h) = same_rest (sym c ∙ h)

one_last : {e : Extensions} {s r t : Parts} {j l : Kind} → Leads e s r → IsDueBehind e r j → Leads e s t → IsDueBehind e t l → j ≡ l
one_last there d there g = one_refused d g
one_last there d (over h m) g = absurd (refused_last d h)
one_last (over h m) d there g = absurd (refused_last g h)
one_last {e = e} {t = t} (over h m) d (over i o) g = one_last m d (subst (λ x. Leads e x t) (one_link i h) o) g

one_behind : {e : Extensions} {n : Located} {all r t : Parts} {j l : Kind} → OnValue e n all r → IsDueBehind e r j → OnValue e n all t → IsDueBehind e t l → j ≡ l
one_behind {e = e} {t = t} o d p g =
    let a = led o in
    let b = led p in
    one_last a.2 d (subst (λ x. Leads e x t) (one_beginning b.1 a.1) b.2) g

-- ---- members

begins_named : {n : Located} {all r : Parts} {path : Path} (e : Extensions) → IsNamed n path → Begins e n all r → BeginsWithCall all × ((kind : Kind) → ¬ (IsDueFunction e path kind))
begins_named e i (no_name h) = absurd (h (i.0, i.1))
begins_named {n = n} {path = path} e i (variable v g) = absurd (no_variable e n path i v)
begins_named {n = n} {path = path} e i (behind_function {path = other} j d c) = (subst BeginsWithCall (sym c) tt, λ kind g. d kind (subst (λ x. IsDueFunction e x kind) (one_name e n path other i j) g))

-- accesses behind a value that a name begins are those behind its call
value_of_name : {n : Located} {all r : Parts} {path : Path} (e : Extensions) → IsNamed n path → OnValue e n all r → BeginsWithCall all × ((kind : Kind) → ¬ (IsDueFunction e path kind))
value_of_name {path = path} e i o = begins_named {path = path} e i (led o).1

begins_variable : {n : Located} {all r : Parts} (e : Extensions) → IsVariableSite n → Begins e n all r → ¬ (BeginsWithCall all)
begins_variable e v (no_name h) c = h (v.0, v.1)
begins_variable e v (variable w g) c = g c
begins_variable {n = n} e v (behind_function {path = path} j d h) c = no_variable e n path j v

value_of_variable : {n : Located} {all r : Parts} (e : Extensions) → IsVariableSite n → OnValue e n all r → ¬ (BeginsWithCall all)
value_of_variable e v o = begins_variable e v (led o).1

no_field : {op oq : Operator} {p q : Option Loc} {m : Located} {i : Node (Option Ident)} {r s : Parts} → ¬ (more op (at p (f.index m)) r ≡ more oq (at q (f.field i)) s)
no_field h = cc

one_member : (e : Extensions) (n : Located) (all : Parts) (j l : Kind) → IsDueMember e n all j → IsDueMember e n all l → j ≡ l
one_member e n all j l (due.variable_called v c) (due.variable_called w d) = refl
one_member e n all j l (due.variable_called v c) (due.name_indexed {path = path} i h) = absurd (no_variable e n path i v)
one_member e n all j l (due.variable_called v c) (due.name_field_called {path = path} i h d) = absurd (no_variable e n path i v)
one_member e n all j l (due.variable_called v c) (due.name_field {path = path} i h d) = absurd (no_variable e n path i v)
one_member e n all j l (due.variable_called v c) (due.name_called {path = path} i d g) = absurd (no_variable e n path i v)
one_member e n all j l (due.variable_called v c) (due.behind_value o d) = absurd (value_of_variable e v o c)
one_member e n all j l (due.name_indexed {path = path} i h) (due.variable_called v c) = absurd (no_variable e n path i v)
one_member e n all j l (due.name_indexed i h) (due.name_indexed g c) = refl
one_member e n all j l (due.name_indexed i h) (due.name_field_called g c d) = absurd (no_field (sym h ∙ c))
one_member e n all j l (due.name_indexed i h) (due.name_field g c d) = absurd (no_field (sym h ∙ c))
one_member e n all j l (due.name_indexed i h) (due.name_called g c d) = absurd (subst BeginsWithCall h c)
one_member e n all j l (due.name_indexed {path = path} i h) (due.behind_value o d) = absurd (subst BeginsWithCall h (value_of_name {path = path} e i o).0)
one_member e n all j l (due.name_field_called {path = path} i h c) (due.variable_called v d) = absurd (no_variable e n path i v)
one_member e n all j l (due.name_field_called i h c) (due.name_indexed g d) = absurd (no_field (sym d ∙ h))
one_member e n all j l (due.name_field_called i h c) (due.name_field_called g d o) = refl
one_member e n all j l (due.name_field_called i h c) (due.name_field g d o) = absurd (o (subst BeginsWithCall (same_rest (sym h ∙ d)) c))
one_member e n all j l (due.name_field_called i h c) (due.name_called g d o) = absurd (subst BeginsWithCall h d)
one_member e n all j l (due.name_field_called {path = path} i h c) (due.behind_value o d) = absurd (subst BeginsWithCall h (value_of_name {path = path} e i o).0)
one_member e n all j l (due.name_field {path = path} i h c) (due.variable_called v d) = absurd (no_variable e n path i v)
one_member e n all j l (due.name_field i h c) (due.name_indexed g d) = absurd (no_field (sym d ∙ h))
one_member e n all j l (due.name_field i h c) (due.name_field_called g d o) = absurd (c (subst BeginsWithCall (same_rest (sym d ∙ h)) o))
one_member e n all j l (due.name_field i h c) (due.name_field g d o) = refl
one_member e n all j l (due.name_field i h c) (due.name_called g d o) = absurd (subst BeginsWithCall h d)
one_member e n all j l (due.name_field {path = path} i h c) (due.behind_value o d) = absurd (subst BeginsWithCall h (value_of_name {path = path} e i o).0)
one_member e n all j l (due.name_called {path = path} i c d) (due.variable_called v g) = absurd (no_variable e n path i v)
one_member e n all j l (due.name_called i c d) (due.name_indexed g h) = absurd (subst BeginsWithCall h c)
one_member e n all j l (due.name_called i c d) (due.name_field_called g h o) = absurd (subst BeginsWithCall h c)
one_member e n all j l (due.name_called i c d) (due.name_field g h o) = absurd (subst BeginsWithCall h c)
one_member e n all j l (due.name_called {path = x} i c d) (due.name_called {path = y} g h o) = one_function (subst (λ z. IsDueFunction e z j) (one_name e n x y i g) d) o
one_member e n all j l (due.name_called {path = path} i c d) (due.behind_value o g) = absurd ((value_of_name {path = path} e i o).1 j d)
one_member e n all j l (due.behind_value o d) (due.variable_called v c) = absurd (value_of_variable e v o c)
one_member e n all j l (due.behind_value o d) (due.name_indexed {path = path} i h) = absurd (subst BeginsWithCall h (value_of_name {path = path} e i o).0)
one_member e n all j l (due.behind_value o d) (due.name_field_called {path = path} i h c) = absurd (subst BeginsWithCall h (value_of_name {path = path} e i o).0)
one_member e n all j l (due.behind_value o d) (due.name_field {path = path} i h c) = absurd (subst BeginsWithCall h (value_of_name {path = path} e i o).0)
one_member e n all j l (due.behind_value o d) (due.name_called {path = path} i c g) = absurd ((value_of_name {path = path} e i o).1 l g)
one_member e n all j l (due.behind_value o d) (due.behind_value g h) = one_behind o d g h

-- ---- right of `has`

no_both : (one : Option (Located × Parts)) → BeginsWithTruth one → ¬ (BeginsWithPath one)
no_both (Some (at p (f.literal m), ps)) h g = g
no_both one h g = absurd h

one_right : (one : Option (Located × Parts)) (j l : Kind) → IsDueRight j one → IsDueRight l one → j ≡ l
one_right one j l (due.truth h) (due.truth g) = refl
one_right one j l (due.truth h) (due.path g) = absurd (no_both one h g)
one_right one j l (due.truth h) (due.other a b c) = absurd (a h)
one_right one j l (due.path h) (due.truth g) = absurd (no_both one g h)
one_right one j l (due.path h) (due.path g) = refl
one_right one j l (due.path h) (due.other a b c) = absurd (b h)
one_right one j l (due.other a b c) (due.truth g) = absurd (a g)
one_right one j l (due.other a b c) (due.path g) = absurd (b g)
one_right one j l (due.other a b c) (due.other d g h) = refl

-- ---- leaves

same_word : {o : Option Ident} {i c : Ident} → o ≡ Some i → o ≡ Some c → i ≡ c
same_word h g = cc

no_word : (i : Ident) → IsReservedIdent i → ¬ (IsMisspelled i)
no_word (words.Ident text) h g = h
no_word (words.Invalid text) h g = h
no_word i h g = absurd g

no_number : {o : Option Literal} {n : ℕ} (raw : List ℕ) → o ≡ Some (lit.Num n) → ¬ (IsQuoted o raw)
no_number raw h q = subst (λ c. IsQuoted c raw) h q

number_or_string : {o : Option Literal} {n : ℕ} {s : Node (Option Str)} → o ≡ Some (lit.Num n) → o ≢ Some (lit.Str s)
number_or_string h g = cc

well_or_not : {o : Option Str} {x y : List ℕ} → o ≡ Some (str.String x) → o ≢ Some (str.Invalid y)
well_or_not h g = cc

written_or_not : {o : Option Literal} {s : Node (Option Str)} {y : List ℕ} (x : List ℕ) → o ≡ Some (lit.Str s) → s.node ≡ Some (str.Invalid y) → ¬ (IsQuoted o x)
written_or_not x h g q = well_or_not (subst (λ c. IsQuoted c x) h q) g

braces_or_id : {o : Option Ref} {path other : Node (Option Name)} {inits : List (Node (Option RefInit))} {eid : Node (Option Str)} → o ≡ Some (refs.Ref path inits) → o ≢ Some (refs.Uid other eid)
braces_or_id h g = cc

same_eid : {o : Option Ref} {path other : Node (Option Name)} {x y : Node (Option Str)} → o ≡ Some (refs.Uid path x) → o ≡ Some (refs.Uid other y) → x ≡ y
same_eid h g = cc

written_or_not_id : {o : Option Ref} {path other : Node (Option Name)} {x y : Node (Option Str)} {raw text : List ℕ} → o ≡ Some (refs.Uid path x) → x.node ≡ Some (str.String raw) → o ≡ Some (refs.Uid other y) → y.node ≢ Some (str.Invalid text)
written_or_not_id h i g c = well_or_not i (ap (λ (z : Node (Option Str)). z.node) (same_eid h g) ∙ c)

-- ---- each site

pub one_kind : (e : Extensions) (s : Site) (j l : Kind) → IsDue e j s → IsDue e l s → (j ≡ l) ⊎ IsProduct s
one_kind e s j l (due.reserved_word h i) (due.reserved_word g c) = inl refl
one_kind e s j l (due.reserved_word {i = i} h r) (due.misspelled g c) = absurd (no_word i r (subst IsMisspelled (same_word g h) c))
one_kind e s j l (due.misspelled h c) (due.reserved_word {i = i} g r) = absurd (no_word i r (subst IsMisspelled (same_word h g) c))
one_kind e s j l (due.misspelled h i) (due.misspelled g c) = inl refl
one_kind e s j l (due.cedar_in_name h i c) (due.cedar_in_name g d o) = inl refl
one_kind e s j l (due.cedar_as_field h i) (due.cedar_as_field g c) = inl refl
one_kind e s j l (due.no_variable h) (due.no_variable g) = inl refl
one_kind e s j l (due.large_number h i) (due.large_number g c) = inl refl
one_kind e s j l (due.large_number h i) (due.faulty_string raw q c) = absurd (no_number raw h q)
one_kind e s j l (due.large_number h i) (due.no_string g c) = absurd (number_or_string h g)
one_kind e s j l (due.faulty_string raw q c) (due.large_number h i) = absurd (no_number raw h q)
one_kind e s j l (due.faulty_string raw q c) (due.faulty_string text h g) = inl refl
one_kind e s j l (due.faulty_string raw q c) (due.no_string h g) = absurd (written_or_not raw h g q)
one_kind e s j l (due.no_string g c) (due.large_number h i) = absurd (number_or_string h g)
one_kind e s j l (due.no_string h g) (due.faulty_string raw q c) = absurd (written_or_not raw h g q)
one_kind e s j l (due.no_string h g) (due.no_string i c) = inl refl
one_kind e s j l (due.large_negative h i) (due.large_negative g c) = inl refl
one_kind e s j l due.bangs due.bangs = inl refl
one_kind e s j l due.dashes due.dashes = inl refl
one_kind e s j l (due.division h) (due.division g) = inl refl
one_kind e s j l (due.division h) (due.remainder g) = inr tt
one_kind e s j l (due.remainder h) (due.division g) = inr tt
one_kind e s j l (due.remainder h) (due.remainder g) = inl refl
one_kind e s j l due.two_operators due.two_operators = inl refl
one_kind e s j l due.single_eq due.single_eq = inl refl
one_kind e s j l (due.no_attributes h) (due.no_attributes g) = inl (one_right _ j l h g)
one_kind e s j l (due.no_pattern h) (due.no_pattern g) = inl refl
one_kind e s j l (due.no_pattern h) (due.faulty_pattern raw q c) = absurd (h (raw, q))
one_kind e s j l (due.faulty_pattern raw q c) (due.no_pattern h) = absurd (h (raw, q))
one_kind e s j l (due.faulty_pattern raw q c) (due.faulty_pattern text h g) = inl refl
one_kind e s j l (due.no_type h) (due.no_type g) = inl refl
one_kind e s j l (due.no_text h) (due.no_text g) = inl refl
one_kind e s j l (due.accesses {n = n} {all = all} h) (due.accesses g) = inl (one_member e n all j l h g)
one_kind e s j l (due.no_key a b c) (due.no_key h i g) = inl refl
one_kind e s j l (due.no_key a b c) (due.truth_as_key h) = absurd (b h)
one_kind e s j l (due.no_key a b c) (due.path_as_key i h) = absurd (a (i.0, i.1))
one_kind e s j l (due.truth_as_key h) (due.no_key a b c) = absurd (b h)
one_kind e s j l (due.truth_as_key h) (due.truth_as_key g) = inl refl
one_kind e s j l (due.truth_as_key {n = n} h) (due.path_as_key {path = path} i g) = absurd (no_truth e n path i h)
one_kind e s j l (due.path_as_key i h) (due.no_key a b c) = absurd (a (i.0, i.1))
one_kind e s j l (due.path_as_key {n = n} {path = path} i g) (due.truth_as_key h) = absurd (no_truth e n path i h)
one_kind e s j l (due.path_as_key i h) (due.path_as_key g c) = inl refl
one_kind e s j l (due.repeated_key xs h i) (due.repeated_key ys g c) = inl refl
one_kind e s j l (due.braces h) (due.braces g) = inl refl
one_kind e s j l (due.braces h) (due.faulty_id g i c) = absurd (braces_or_id h g)
one_kind e s j l (due.braces h) (due.no_id g i) = absurd (braces_or_id h g)
one_kind e s j l (due.faulty_id g i c) (due.braces h) = absurd (braces_or_id h g)
one_kind e s j l (due.faulty_id h i c) (due.faulty_id g d o) = inl refl
one_kind e s j l (due.faulty_id h i c) (due.no_id g d) = absurd (written_or_not_id h i g d)
one_kind e s j l (due.no_id g i) (due.braces h) = absurd (braces_or_id h g)
one_kind e s j l (due.no_id g d) (due.faulty_id h i c) = absurd (written_or_not_id h i g d)
one_kind e s j l (due.no_id h i) (due.no_id g c) = inl refl
one_kind e s j l (due.other_slot h) (due.other_slot g) = inl refl

-- ---- the kinds that the rules name

data Among (kind : Kind) : List Kind → Type 0 where
  zeroth : {kinds : List Kind} → Among kind (kind ∷ kinds)
  later : {other : Kind} {kinds : List Kind} → Among kind kinds → Among kind (other ∷ kinds)

contained : {kind : Kind} {kinds : List Kind} → Among kind kinds → Contains kinds kind
contained {kind = kind} (zeroth {kinds = kinds}) = Contains-append_left (kind ∷ []) kinds kind (Contains-push [] kind)
contained {kind = kind} (later {other = other} {kinds = kinds} h) = Contains-append_right (other ∷ []) kinds kind (contained h)

function_named : {e : Extensions} {path : Path} {kind : Kind} {xs : List Kind} → IsDueFunction e path kind → Among kind (k.function_call_on_method ∷ k.unknown_function ∷ xs)
function_named (due.a_method h) = zeroth
function_named (due.no_function h i) = later zeroth

method_named : {e : Extensions} {id : List ℕ} {n : ℕ} {kind : Kind} {xs : List Kind} → IsDueMethod e id n kind → Among kind (k.wrong_arity ∷ k.method_call_on_function ∷ k.unknown_method ∷ xs)
method_named (due.other_number m h i) = zeroth
method_named (due.a_function h i c) = later zeroth
method_named (due.no_method h i c) = later (later zeroth)

member_named : (e : Extensions) (p : Option Loc) (n : Located) (all : Parts) (kind : Kind) → IsDueMember e n all kind → Among kind (kinds_of_site (site.node (at p (f.member n all))))
member_named e p n all kind (due.variable_called v c) = zeroth
member_named e p n all kind (due.name_field_called i h c) = later zeroth
member_named e p n all kind (due.name_field i h c) = later (later zeroth)
member_named e p n all kind (due.name_indexed i h) = later (later (later zeroth))
member_named e p n all kind (due.behind_value o (due.value_called c)) = later (later (later (later zeroth)))
member_named e p n all kind (due.name_called i c d) = later (later (later (later (later (function_named d)))))
member_named e p n all kind (due.behind_value o (due.method_called c d)) = later (later (later (later (later (later (later (method_named d)))))))

right_named : {one : Option (Located × Parts)} {kind : Kind} {xs : List Kind} → IsDueRight kind one → Among kind (k.reserved_identifier ∷ k.path_as_attribute ∷ k.invalid_has_rhs ∷ xs)
right_named (due.truth h) = zeroth
right_named (due.path h) = later zeroth
right_named (due.other a b c) = later (later zeroth)

named : (e : Extensions) (s : Site) (kind : Kind) → IsDue e kind s → Among kind (kinds_of_site s)
named e s kind (due.reserved_word h i) = zeroth
named e s kind (due.misspelled h i) = later zeroth
named e s kind (due.cedar_in_name h i c) = zeroth
named e s kind (due.cedar_as_field h i) = zeroth
named e s kind (due.no_variable h) = zeroth
named e s kind (due.large_number h i) = zeroth
named e s kind (due.large_negative h i) = later zeroth
named e s kind (due.faulty_string raw q c) = later zeroth
named e s kind (due.no_string h i) = later (later zeroth)
named e s kind due.bangs = zeroth
named e s kind due.dashes = zeroth
named e s kind (due.division h) = zeroth
named e s kind (due.remainder h) = later zeroth
named e s kind due.two_operators = zeroth
named e s kind due.single_eq = later zeroth
named e s kind (due.no_attributes h) = right_named h
named e s kind (due.no_pattern h) = zeroth
named e s kind (due.faulty_pattern raw q c) = later zeroth
named e s kind (due.no_type h) = zeroth
named e s kind (due.no_text h) = zeroth
named e s kind (due.accesses {p = p} {n = n} {all = all} h) = member_named e p n all kind h
named e s kind (due.no_key a b c) = later (later zeroth)
named e s kind (due.truth_as_key h) = zeroth
named e s kind (due.path_as_key i h) = later zeroth
named e s kind (due.repeated_key pairs h i) = zeroth
named e s kind (due.braces h) = zeroth
named e s kind (due.faulty_id h i c) = later zeroth
named e s kind (due.no_id h i) = later (later zeroth)
named e s kind (due.other_slot h) = zeroth

pub named_kind : (e : Extensions) (s : Site) (kind : Kind) → IsDue e kind s → Contains (kinds_of_site s) kind
named_kind e s kind h = contained (named e s kind h)
