-- Which values tokens mean, told of the value alone.
use Rattle.std.specs.Prelude.{◌≡◌, ℕ, ◌<◌, ◌≤◌, ◌^◌, Bool, true, false, List, [], ◌∷◌, pos, negsuc}
use Rattle.std.specs.Str.{IsUtf8}
use Rattle.std.specs.Char.{IsScalar}
use Rattle.cedar_expressions.specs.declared.atoms.Literal.{Literal}
use Rattle.cedar_expressions.specs.declared.atoms.Literal.TheVariants as literals
use Rattle.cedar_expressions.specs.declared.atoms.PatternElem.{PatternElem}
use Rattle.cedar_expressions.specs.declared.atoms.PatternElem.TheVariants.{Char, Wildcard}
use Rattle.cedar_expressions.specs.Keys.{repeats_key}
use Rattle.cedar_expressions.specs.Path.{Path, is_unreserved_identifier}
use Rattle.cedar_expressions.specs.Value as v
use Rattle.cedar_expressions.specs.Value.{Value, Values, Terms, Fields}
use Rattle.cedar_conversion.specs.strict.Extensions.{Extensions}
use Rattle.cedar_conversion.specs.strict.StrictCalls.{IsFunction}
use Rattle.cedar_writer.specs.WrittenWords.{name_words}
use Rattle.cedar_writer.specs.Writing.{calls_method, is_variable_words}

abbrev pub AreIdentifiers : List (List ℕ) → Type 0
AreIdentifiers [] = Unit {0}
AreIdentifiers (id ∷ ids) = (is_unreserved_identifier id ≡ true) × AreIdentifiers ids

abbrev pub IsWritableName : Path → Type 0
IsWritableName name = AreIdentifiers name.path × (is_unreserved_identifier name.id ≡ true)

abbrev pub IsWritableLiteral : Literal → Type 0
IsWritableLiteral (literals.Bool b) = Unit {0}
IsWritableLiteral (literals.Long (pos n)) = n < 2 ^ 63
IsWritableLiteral (literals.Long (negsuc n)) = n < 2 ^ 63
IsWritableLiteral (literals.String text) = IsUtf8 text
IsWritableLiteral (literals.EntityUID uid) =
    IsWritableName uid.entity_type.name × IsUtf8 uid.eid.text

-- a negative literal stands behind a sign, of which the limit allows one at least
abbrev pub SignFits : ℕ → Literal → Type 0
SignFits limit (literals.Bool b) = Unit {0}
SignFits limit (literals.Long (pos n)) = Unit {0}
SignFits limit (literals.Long (negsuc n)) = 1 ≤ limit
SignFits limit (literals.String text) = Unit {0}
SignFits limit (literals.EntityUID uid) = Unit {0}

abbrev pub IsWritablePattern : List PatternElem → Type 0
IsWritablePattern [] = Unit {0}
IsWritablePattern (Char c ∷ ps) = IsScalar c × IsWritablePattern ps
IsWritablePattern (Wildcard ∷ ps) = IsWritablePattern ps

-- right of `has`: one text, or identifiers
abbrev pub IsWritableSought : List ℕ → List (List ℕ) → Type 0
IsWritableSought id [] = IsUtf8 id
IsWritableSought id (next ∷ ids) = AreIdentifiers (id ∷ next ∷ ids)

-- a function that the table has, and whose name is no method's and no variable's
abbrev pub IsWritableFunction : Extensions → Path → Type 0
IsWritableFunction table name =
    IsWritableName name × IsFunction table name.path name.id
    × (is_variable_words (name_words name) ≡ false)

abbrev pub IsWritableCall : Bool → Extensions → Path → Type 0
IsWritableCall true table name = IsWritableName name
IsWritableCall false table name = IsWritableFunction table name

abbrev pub keys_in : Fields → List (List ℕ)
keys_in v.no_fields = []
keys_in (v.field key a fs) = key ∷ keys_in fs

abbrev pub HasMore : Values → Type 0
HasMore v.none = ⊥
HasMore (v.more a bs) = Unit {0}

abbrev pub HasTerms : Terms → Type 0
HasTerms v.no_terms = ⊥
HasTerms (v.term o a ts) = Unit {0}

unfoldable mutual
  pub IsWritable : Extensions → ℕ → Value → Type 0
  IsWritable table limit (v.val literal) = IsWritableLiteral literal × SignFits limit literal
  IsWritable table limit (v.var x) = Unit {0}
  IsWritable table limit (v.slot x) = Unit {0}
  IsWritable table limit (v.ite a b c) =
      IsWritable table limit a × IsWritable table limit b × IsWritable table limit c
  IsWritable table limit (v.not a) = (1 ≤ limit) × IsWritable table limit a
  IsWritable table limit (v.neg a) = (1 ≤ limit) × IsWritable table limit a
  IsWritable table limit (v.and a b) = ⊥
  IsWritable table limit (v.or_nary a bs) =
      IsWritable table limit a × HasMore bs × AreWritable table limit bs
  IsWritable table limit (v.and_naryl a bs) =
      IsWritable table limit a × HasMore bs × AreWritable table limit bs
  IsWritable table limit (v.mul_nary a bs) =
      IsWritable table limit a × HasMore bs × AreWritable table limit bs
  IsWritable table limit (v.add_nary a ts) =
      IsWritable table limit a × HasTerms ts × AreWritableTerms table limit ts
  IsWritable table limit (v.less a b) = IsWritable table limit a × IsWritable table limit b
  IsWritable table limit (v.lesseq a b) = IsWritable table limit a × IsWritable table limit b
  IsWritable table limit (v.greater a b) = IsWritable table limit a × IsWritable table limit b
  IsWritable table limit (v.greatereq a b) = IsWritable table limit a × IsWritable table limit b
  IsWritable table limit (v.is_eq a b) = IsWritable table limit a × IsWritable table limit b
  IsWritable table limit (v.noteq a b) = IsWritable table limit a × IsWritable table limit b
  IsWritable table limit (v.is_in a b) = IsWritable table limit a × IsWritable table limit b
  IsWritable table limit (v.contains a b) = IsWritable table limit a × IsWritable table limit b
  IsWritable table limit (v.contains_all a b) = IsWritable table limit a × IsWritable table limit b
  IsWritable table limit (v.contains_any a b) = IsWritable table limit a × IsWritable table limit b
  IsWritable table limit (v.get_tag a b) = IsWritable table limit a × IsWritable table limit b
  IsWritable table limit (v.has_tag a b) = IsWritable table limit a × IsWritable table limit b
  IsWritable table limit (v.like a pattern) = IsWritable table limit a × IsWritablePattern pattern
  IsWritable table limit (v.is_entity_type a t) = IsWritable table limit a × IsWritableName t.name
  IsWritable table limit (v.is_in_entity_type a t b) =
      IsWritable table limit a × IsWritableName t.name × IsWritable table limit b
  IsWritable table limit (v.extended_has_attr a first rest) =
      IsWritable table limit a × IsWritableSought first rest
  IsWritable table limit (v.get_attr a attr) = IsWritable table limit a × IsUtf8 attr
  IsWritable table limit (v.is_empty a) = IsWritable table limit a
  IsWritable table limit (v.call_extension_fn name args) = IsWritableOf table limit args name
  IsWritable table limit (v.set items) = AreWritable table limit items
  IsWritable table limit (v.«record» pairs) =
      AreWritableFields table limit pairs × (repeats_key (keys_in pairs) ≡ false)

  pub IsWritableOf : Extensions → ℕ → Values → Path → Type 0
  IsWritableOf table limit v.none name = IsWritableFunction table name
  IsWritableOf table limit (v.more a args) name =
      IsWritable table limit a × AreWritable table limit args
      × IsWritableCall (calls_method table name) table name

  pub AreWritable : Extensions → ℕ → Values → Type 0
  AreWritable table limit v.none = Unit {0}
  AreWritable table limit (v.more a bs) = IsWritable table limit a × AreWritable table limit bs

  pub AreWritableTerms : Extensions → ℕ → Terms → Type 0
  AreWritableTerms table limit v.no_terms = Unit {0}
  AreWritableTerms table limit (v.term o a ts) =
      IsWritable table limit a × AreWritableTerms table limit ts

  pub AreWritableFields : Extensions → ℕ → Fields → Type 0
  AreWritableFields table limit v.no_fields = Unit {0}
  AreWritableFields table limit (v.field key a fs) =
      IsUtf8 key × IsWritable table limit a × AreWritableFields table limit fs
