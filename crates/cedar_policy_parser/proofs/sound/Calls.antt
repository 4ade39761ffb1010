-- A call that is converted means what the table and the methods of every text say of it.
use Rattle.std.proofs.Common.{◌≡◌, ℕ, Bool, true, false, cond, List, [], ◌∷◌, Option, Some, None, Ok, refl}
use Rattle.std.proofs.lemmas.Slice.Eq.{bytes_eq-Decides}
use Rattle.cedar_expressions.specs.Path.{Path}
use Rattle.cedar_expressions.specs.Value as v
use Rattle.cedar_expressions.specs.Value.{Value, values}
use Rattle.cedar_syntax.specs.declared.loc.Loc.{Loc}
use Rattle.cedar_conversion.specs.declared.primaries.methods.Standard.{Standard}
use Rattle.cedar_conversion.specs.declared.primaries.methods.Standard.TheVariants as standard
use Rattle.cedar_conversion.specs.strict.Extensions.{Extensions}
use Rattle.cedar_conversion.specs.parts.Members as g
use Rattle.cedar_conversion.specs.parts.Members.{takes_one, with_arguments, method_outcome, method_by, function_outcome}
use Rattle.cedar_conversion.specs.strict.StrictCalls as m
use Rattle.cedar_conversion.specs.strict.StrictCalls.{CallsMethod, IsFunction, method_word, names_method, standard_method}
use Rattle.cedar_conversion.specs.strict.StrictWords.{path_value}
use Rattle.cedar_conversion.proofs.Inverted.{ok_is}

-- the six tests, one after another
abbrev chosen : Bool → Bool → Bool → Bool → Bool → Bool → Option Standard
chosen a b c d f g =
    cond a (Some standard.Contains) (cond b (Some standard.ContainsAll) (cond c (Some standard.ContainsAny) (cond d (Some standard.IsEmpty) (cond f (Some standard.GetTag) (cond g (Some standard.HasTag) None)))))

abbrev IsThen : List ℕ → Standard → Bool → Type 0
IsThen id s b = b ≡ true → id ≡ method_word s

word_chosen : (id : List ℕ) (a b c d f h : Bool) (s : Standard) → IsThen id standard.Contains a → IsThen id standard.ContainsAll b → IsThen id standard.ContainsAny c → IsThen id standard.IsEmpty d → IsThen id standard.GetTag f → IsThen id standard.HasTag h
    → chosen a b c d f h ≡ Some s → id ≡ method_word s
word_chosen id true b c d f h s p q r t u z e = let same : standard.Contains ≡ s = cc in rw (← same) (p refl)
word_chosen id false true c d f h s p q r t u z e = let same : standard.ContainsAll ≡ s = cc in rw (← same) (q refl)
word_chosen id false false true d f h s p q r t u z e = let same : standard.ContainsAny ≡ s = cc in rw (← same) (r refl)
word_chosen id false false false true f h s p q r t u z e = let same : standard.IsEmpty ≡ s = cc in rw (← same) (t refl)
word_chosen id false false false false true h s p q r t u z e = let same : standard.GetTag ≡ s = cc in rw (← same) (u refl)
word_chosen id false false false false false true s p q r t u z e = let same : standard.HasTag ≡ s = cc in rw (← same) (z refl)
word_chosen id false false false false false false s p q r t u z e = cc

standard_word : (id : List ℕ) (s : Standard) → standard_method id ≡ Some s → id ≡ method_word s
standard_word id s e = word_chosen id _ _ _ _ _ _ s (bytes_eq-Decides id (method_word standard.Contains)).0 (bytes_eq-Decides id (method_word standard.ContainsAll)).0 (bytes_eq-Decides id (method_word standard.ContainsAny)).0 (bytes_eq-Decides id (method_word standard.IsEmpty)).0 (bytes_eq-Decides id (method_word standard.GetTag)).0 (bytes_eq-Decides id (method_word standard.HasTag)).0 e

calls_at : {e : Extensions} {id word : List ℕ} {x : Value} {args : List Value} {y z : Value} → id ≡ word → z ≡ y → CallsMethod e word x args z → CallsMethod e id x args y
calls_at h k i = rw (h, ← k) i

-- each of the six, with its arguments
standard_meant : (e : Extensions) (place : Option Loc) (s : Standard) (x : Value) (args : List Value) (y : Value) → with_arguments place (method_word s) (takes_one s) x args ≡ Ok y → CallsMethod e (method_word s) x args y
standard_meant e place standard.Contains x (b ∷ []) y h = calls_at refl (ok_is h) m.contains
standard_meant e place standard.Contains x [] y h = cc
standard_meant e place standard.Contains x (b ∷ c ∷ bs) y h = cc
standard_meant e place standard.ContainsAll x (b ∷ []) y h = calls_at refl (ok_is h) m.contains_all
standard_meant e place standard.ContainsAll x [] y h = cc
standard_meant e place standard.ContainsAll x (b ∷ c ∷ bs) y h = cc
standard_meant e place standard.ContainsAny x (b ∷ []) y h = calls_at refl (ok_is h) m.contains_any
standard_meant e place standard.ContainsAny x [] y h = cc
standard_meant e place standard.ContainsAny x (b ∷ c ∷ bs) y h = cc
standard_meant e place standard.IsEmpty x [] y h = calls_at refl (ok_is h) m.is_empty
standard_meant e place standard.IsEmpty x (b ∷ bs) y h = cc
standard_meant e place standard.GetTag x (b ∷ []) y h = calls_at refl (ok_is h) m.get_tag
standard_meant e place standard.GetTag x [] y h = cc
standard_meant e place standard.GetTag x (b ∷ c ∷ bs) y h = cc
standard_meant e place standard.HasTag x (b ∷ []) y h = calls_at refl (ok_is h) m.has_tag
standard_meant e place standard.HasTag x [] y h = cc
standard_meant e place standard.HasTag x (b ∷ c ∷ bs) y h = cc

-- a call that is no table's is refused, for one reason or another
by_table_only : (e : Extensions) (place : Option Loc) (id : List ℕ) (x : Value) (args : List Value) (y : Value) (a b : Bool) → e.methods id ≡ a → e.functions (g.plain_name id) ≡ b
    → g.extension_method e place id x args ≡ Ok y → (e.methods id ≡ true) × (v.call_extension_fn (g.plain_name id) (values (x ∷ args)) ≡ y)
by_table_only e place id x args y true b f k h = (f, ok_is (rw f at h))
by_table_only e place id x args y false true f k h = let no = rw (f, k) at h in cc
by_table_only e place id x args y false false f k h = let no = rw (f, k) at h in cc

method_chosen : (e : Extensions) (place : Option Loc) (id : List ℕ) (o : Option Standard) (x : Value) (args : List Value) (y : Value) → standard_method id ≡ o → method_by e place id o x args ≡ Ok y → CallsMethod e id x args y
method_chosen e place id (Some s) x args y f h = calls_at (standard_word id s f) refl (standard_meant e place s x args y h)
method_chosen e place id None x args y f h =
    let d = by_table_only e place id x args y (e.methods id) (e.functions (g.plain_name id)) refl refl h in
    calls_at refl d.1 (m.by_table f d.0)

-- a method called on a value
pub method_meant : (e : Extensions) (place : Option Loc) (id : List ℕ) (x : Value) (args : List Value) (y : Value) → method_outcome e place id x args ≡ Ok y → CallsMethod e id x args y
method_meant e place id x args y h = method_chosen e place id (standard_method id) x args y refl h

function_by : (e : Extensions) (place : Option Loc) (name : Path) (args : List Value) (y : Value) (a b : Bool) → names_method e name.path name.id ≡ a → e.functions name ≡ b
    → function_outcome e place name args ≡ Ok y → (a ≡ false) × (b ≡ true) × (v.call_extension_fn name (values args) ≡ y)
function_by e place name args y true b f k h = let no = rw f at h in cc
function_by e place name args y false true f k h = (refl, refl, ok_is (rw (f, k) at h))
function_by e place name args y false false f k h = let no = rw (f, k) at h in cc

-- a function called by its name
pub function_meant : (e : Extensions) (place : Option Loc) (name : Path) (args : List Value) (y : Value) → function_outcome e place name args ≡ Ok y
    → IsFunction e name.path name.id × (v.call_extension_fn (path_value name.path name.id) (values args) ≡ y)
function_meant e place name args y h =
    let d = function_by e place name args y (names_method e name.path name.id) (e.functions name) refl refl h in
    ((d.0, d.1), d.2)
