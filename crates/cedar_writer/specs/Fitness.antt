-- What a value's own node asks for, so that some text means it; and what a refusal calls it.
use Rattle.std.specs.Prelude.{◌≡◌, ℕ, ◌<◌, ◌≤◌, ◌^◌, Bool, true, false, List, [], ◌∷◌, Option, Some, None, pos, negsuc, ◌⊎◌}
use Rattle.cedar_expressions.specs.declared.atoms.Literal.{Literal}
use Rattle.cedar_expressions.specs.declared.atoms.Literal.TheVariants as literals
use Rattle.cedar_expressions.specs.Keys.{repeats_key}
use Rattle.cedar_expressions.specs.Path.{Path}
use Rattle.cedar_expressions.specs.Slots.{slots_of}
use Rattle.cedar_expressions.specs.Value as v
use Rattle.cedar_expressions.specs.Value.{Value, Values, Terms, Fields}
use Rattle.cedar_conversion.specs.strict.Extensions.{Extensions}
use Rattle.cedar_conversion.specs.strict.StrictCalls.{IsFunction}
use Rattle.cedar_policy_store.specs.declared.constraints.ActionConstraint.{ActionConstraint}
use Rattle.cedar_writer.specs.declared.refusal.NotWritable.{NotWritable}
use Rattle.cedar_writer.specs.declared.refusal.NotWritable.TheVariants as what
use Rattle.cedar_writer.specs.Parts.{IsPartOf}
use Rattle.cedar_writer.specs.WrittenWords.{name_words}
use Rattle.cedar_writer.specs.Writable.{AreIdentifiers, IsWritableName, HasMore, HasTerms, keys_in}
use Rattle.cedar_writer.specs.WrittenPolicies.{conditions_of, IsWritableAction}
use Rattle.cedar_writer.specs.Writing.{calls_method, is_variable_words}

abbrev pub IsFitLiteral : ℕ → Literal → Type 0
IsFitLiteral limit (literals.Long (pos n)) = n < 2 ^ 63
IsFitLiteral limit (literals.Long (negsuc n)) = (n < 2 ^ 63) × (1 ≤ limit)
IsFitLiteral limit (literals.Bool b) = Unit {0}
IsFitLiteral limit (literals.String text) = Unit {0}
IsFitLiteral limit (literals.EntityUID uid) = Unit {0}

abbrev pub IsFitSought : List ℕ → List (List ℕ) → Type 0
IsFitSought id [] = Unit {0}
IsFitSought id (next ∷ ids) = AreIdentifiers (id ∷ next ∷ ids)

abbrev pub IsFitFunction : Extensions → Path → Type 0
IsFitFunction table n =
    IsFunction table n.path n.id × (is_variable_words (name_words n) ≡ false)

abbrev pub IsFitBy : Bool → Extensions → Path → Type 0
IsFitBy true table n = IsWritableName n
IsFitBy false table n = IsFitFunction table n

abbrev pub IsFitCall : Extensions → Path → Values → Type 0
IsFitCall table n v.none = IsFitFunction table n
IsFitCall table n (v.more a args) = IsFitBy (calls_method table n) table n

abbrev pub IsFit : Extensions → ℕ → Value → Type 0
IsFit table limit (v.val literal) = IsFitLiteral limit literal
IsFit table limit (v.not a) = 1 ≤ limit
IsFit table limit (v.neg a) = 1 ≤ limit
IsFit table limit (v.and a b) = ⊥
IsFit table limit (v.or_nary a bs) = HasMore bs
IsFit table limit (v.and_naryl a bs) = HasMore bs
IsFit table limit (v.mul_nary a bs) = HasMore bs
IsFit table limit (v.add_nary a ts) = HasTerms ts
IsFit table limit (v.extended_has_attr a first rest) = IsFitSought first rest
IsFit table limit (v.call_extension_fn n args) = IsFitCall table n args
IsFit table limit (v.«record» fs) = repeats_key (keys_in fs) ≡ false
IsFit table limit a = Unit {0}

-- what a refusal calls a value whose own node no text means
abbrev pub refusal_of : Value → Option NotWritable
refusal_of (v.and a b) = Some what.Conjunction
refusal_of (v.or_nary a bs) = Some what.LonePart
refusal_of (v.and_naryl a bs) = Some what.LonePart
refusal_of (v.mul_nary a bs) = Some what.LonePart
refusal_of (v.add_nary a ts) = Some what.LonePart
refusal_of (v.extended_has_attr a first rest) = Some what.Attributes
refusal_of (v.call_extension_fn n args) = Some what.Call
refusal_of (v.«record» fs) = Some what.RepeatedKey
refusal_of a = None

-- no text means this node, for what is told
abbrev pub IsUnfit : Extensions → ℕ → Value → NotWritable → Type 0
IsUnfit table limit a k = (IsFit table limit a → ⊥) × (refusal_of a ≡ Some k)

-- some value of the whole is that
abbrev pub HasUnfit : Extensions → ℕ → Value → NotWritable → Type 0
HasUnfit table limit whole k =
    (part : Value) × IsPartOf whole part × IsUnfit table limit part k

-- ---- policies

-- a slot stands in a condition, or a value in it is unfit
abbrev pub IsUnfitCondition : Extensions → ℕ → Value → NotWritable → Type 0
IsUnfitCondition table limit a k =
    ((k ≡ what.SlotInCondition) × (slots_of a ≡ [] → ⊥)) ⊎ HasUnfit table limit a k

abbrev pub HasUnfitCondition : Extensions → ℕ → List Value → NotWritable → Type 0
HasUnfitCondition table limit [] k = ⊥
HasUnfitCondition table limit (c ∷ cs) k =
    IsUnfitCondition table limit c k ⊎ HasUnfitCondition table limit cs k

abbrev pub IsUnfitAction : ActionConstraint → NotWritable → Type 0
IsUnfitAction a k = (k ≡ what.NoAction) × (IsWritableAction a → ⊥)

-- an action of another type, or a condition that is unfit
abbrev pub IsUnfitPolicy : Extensions → ℕ → ActionConstraint → Option Value → NotWritable → Type 0
IsUnfitPolicy table limit a condition k =
    IsUnfitAction a k ⊎ HasUnfitCondition table limit (conditions_of condition) k
