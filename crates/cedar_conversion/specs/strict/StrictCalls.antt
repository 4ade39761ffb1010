-- The strict grammar of calls: what may be called, and what a call means. Six methods are there
-- for every text; what else may be called is what the table has.
use Rattle.std.specs.Prelude.{◌≡◌, ℕ, Bool, true, false, ◌||◌, List, [], ◌∷◌, Option, Some, None, if◌then◌else◌, codes}
use Rattle.std.specs.Option.{is_some}
use Rattle.std.specs.Str.{bytes_eq}
use Rattle.cedar_expressions.specs.Value as v
use Rattle.cedar_expressions.specs.Value.{Value, values}
use Rattle.cedar_conversion.specs.declared.primaries.methods.Standard.{Standard}
use Rattle.cedar_conversion.specs.declared.primaries.methods.Standard.TheVariants as standard
use Rattle.cedar_conversion.specs.strict.Extensions.{Extensions}
use Rattle.cedar_conversion.specs.strict.StrictWords.{path_value}

-- the methods that every text may call, by their words
abbrev pub method_word : Standard → List ℕ
method_word standard.Contains = codes "contains"
method_word standard.ContainsAll = codes "containsAll"
method_word standard.ContainsAny = codes "containsAny"
method_word standard.IsEmpty = codes "isEmpty"
method_word standard.GetTag = codes "getTag"
method_word standard.HasTag = codes "hasTag"

abbrev pub standard_method : List ℕ → Option Standard
standard_method id =
    if bytes_eq id (method_word standard.Contains) then Some standard.Contains
    else (if bytes_eq id (method_word standard.ContainsAll) then Some standard.ContainsAll
    else (if bytes_eq id (method_word standard.ContainsAny) then Some standard.ContainsAny
    else (if bytes_eq id (method_word standard.IsEmpty) then Some standard.IsEmpty
    else (if bytes_eq id (method_word standard.GetTag) then Some standard.GetTag
    else (if bytes_eq id (method_word standard.HasTag) then Some standard.HasTag
    else None)))))

-- whether a name is a method's: one identifier that is one of the six, or a method of the table
abbrev pub names_method : Extensions → List (List ℕ) → List ℕ → Bool
names_method table [] id = is_some (standard_method id) || table.methods id
names_method table (_ ∷ _) id = false

-- what may be called by its name alone: a function of the table whose name is no method's
abbrev pub IsFunction : Extensions → List (List ℕ) → List ℕ → Type 0
IsFunction table ids id =
    (names_method table ids id ≡ false) × (table.functions (path_value ids id) ≡ true)

-- a method called on a value with arguments, and the value that this means: each of the six takes
-- its own number of them; any other is the table's, and is called on the value and the arguments
pub data CallsMethod (table : Extensions) : List ℕ → Value → List Value → Value → Type 0 where
  contains : {a b : Value} → CallsMethod table (codes "contains") a (b ∷ []) (v.contains a b)
  contains_all : {a b : Value}
      → CallsMethod table (codes "containsAll") a (b ∷ []) (v.contains_all a b)
  contains_any : {a b : Value}
      → CallsMethod table (codes "containsAny") a (b ∷ []) (v.contains_any a b)
  is_empty : {a : Value} → CallsMethod table (codes "isEmpty") a [] (v.is_empty a)
  get_tag : {a b : Value} → CallsMethod table (codes "getTag") a (b ∷ []) (v.get_tag a b)
  has_tag : {a b : Value} → CallsMethod table (codes "hasTag") a (b ∷ []) (v.has_tag a b)
  by_table : {id : List ℕ} {a : Value} {args : List Value} → standard_method id ≡ None
      → table.methods id ≡ true
      → CallsMethod table id a args (v.call_extension_fn (path_value [] id) (values (a ∷ args)))
