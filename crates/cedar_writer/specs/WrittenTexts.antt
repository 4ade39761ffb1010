-- What is said of a text that a value, a policy or a set was written as, and of what isn't
-- written.
use Rattle.std.specs.Prelude.{◌≡◌, ℕ, List, [], ◌∷◌, map, fold, ◌⊎◌}
use denote.Ref.{Bor}
use Rattle.std.specs.FinMap.{entries}
use Rattle.std.specs.Option.{option_map}
use Rattle.either.specs.declared.Either.{Either}
use Rattle.either.specs.declared.Either.TheVariants.{Left, Right}
use Rattle.cedar_lexer.specs.Cut.{Cuts}
use Rattle.cedar_lexer.specs.Token.{Lexeme}
use Rattle.cedar_lexer.specs.Words.{AreSpelled, words_of}
use Rattle.cedar_expressions.specs.Value.{Value}
use Rattle.cedar_expressions.specs.WithoutPlaces.{without_places}
use Rattle.cedar_conversion.specs.strict.Extensions.{Extensions}
use Rattle.cedar_conversion.specs.strict.Strict.{Means, expression}
use Rattle.cedar_expressions.specs.Meaning.{unplaced}
use Rattle.cedar_policy_store.specs.declared.template.Template.{Template}
use Rattle.cedar_policy_store.specs.Listing.{IsListing}
use Rattle.cedar_policy_store.specs.PolicyMaps.{PolicyMaps}
use Rattle.cedar_policy_store.specs.PlaceFree.{Policy, Policies, at_value, annotation_value, constraint_meaning, template_meaning}
use Rattle.cedar_writer.specs.Fitness.{HasUnfit, IsUnfitPolicy}
use Rattle.cedar_writer.specs.Spacing.{line_of, ended}
use Rattle.cedar_writer.specs.WrittenPolicies.{Parts, numbered_policies, policies_words}
use Rattle.cedar_policy_conversion.specs.PolicyMeaning.{with_policy, no_policies}
use Rattle.cedar_policy_conversion.specs.StrictPolicy.{IsPolicy, IsPolicySet}
use Rattle.cedar_writer.specs.declared.refusal.NotWritten.{NotWritten}
use Rattle.cedar_writer.specs.declared.refusal.NotWritten.TheVariants.{Memory, NotWritable}

-- tokens mean the value as an expression, the places of its slots aside
abbrev pub MeanAgain : Extensions → ℕ → Value → List Lexeme → Type 0
MeanAgain table limit a ts =
    (meant : Value) × Means table limit expression ts meant
    × (without_places meant ≡ without_places a)

-- the text cuts into tokens that mean the value
abbrev pub IsTextOf : Extensions → ℕ → Value → List ℕ → Type 0
IsTextOf table limit a text = (ts : List Lexeme) × Cuts text ts × MeanAgain table limit a ts

-- no tokens of a text mean the value, since a part of it is what is told; unless it was want of
-- memory
abbrev pub HasNoText : Extensions → ℕ → Value → NotWritten → Type 0
HasNoText table limit a Memory = Unit {0}
HasNoText table limit a (NotWritable what) =
    HasUnfit table limit a what
    × ((ts : List Lexeme) → AreSpelled (words_of ts) → MeanAgain table limit a ts → ⊥)

-- ---- policies, whatever they are called

-- a template's parts, its annotations in the order of their keys
abbrev pub written_parts : Template → Parts
written_parts t = record {
  annotations = map (at_value annotation_value) (entries t.annotations);
  effect = t.effect;
  principal = constraint_meaning t.principal.constraint;
  action = t.action;
  resource = constraint_meaning t.resource.constraint;
  condition = option_map unplaced t.condition;
}

abbrev pub called : List ℕ → Policy → Policy
called id p = record p { id = id }

abbrev pub MeanPolicy : Extensions → ℕ → Policy → List Lexeme → Type 0
MeanPolicy table limit p ts = (id : List ℕ) → IsPolicy table limit id ts (called id p)

-- the text cuts into tokens that mean the policy
abbrev pub IsTextOfPolicy : Extensions → ℕ → Policy → List ℕ → Type 0
IsTextOfPolicy table limit p text =
    (ts : List Lexeme) × Cuts text ts × MeanPolicy table limit p ts

-- no tokens of a text mean the policy under any name, since a part of it is what is told; unless
-- it was want of memory
abbrev pub HasNoPolicyText : Extensions → ℕ → Policy → NotWritten → Type 0
HasNoPolicyText table limit p Memory = Unit {0}
HasNoPolicyText table limit p (NotWritable what) =
    IsUnfitPolicy table limit p.action p.condition what
    × ((ts : List Lexeme) (id : List ℕ) → AreSpelled (words_of ts)
    → IsPolicy table limit id ts (called id p) → ⊥)

-- ---- policies one behind another

-- a static policy or a template that a set lends, as a template
abbrev pub template_lent : Either (Bor Template) (Bor Template) → Template
template_lent (Left policy) = policy.now
template_lent (Right template) = template.now

abbrev pub templates_lent : List (Either (Bor Template) (Bor Template)) → List Template
templates_lent ps = map template_lent ps

abbrev pub all_parts : List Template → List Parts
all_parts ts = map written_parts ts

-- the set of these, as `policy0`, `policy1` ..
abbrev pub numbered : List Template → Policies
numbered all = fold with_policy no_policies (numbered_policies 0 (all_parts all))

-- the text cuts into tokens that mean that set
abbrev pub IsTextOfAll : Extensions → ℕ → List Template → List ℕ → Type 0
IsTextOfAll table limit all text =
    (ts : List Lexeme) × Cuts text ts × IsPolicySet table limit ts (numbered all)

-- no tokens of a text mean one of these policies, as is told
abbrev pub OneHasNoText : Extensions → ℕ → List Template → NotWritten → Type 0
OneHasNoText table limit [] why = ⊥
OneHasNoText table limit (t ∷ ts) why =
    HasNoPolicyText table limit (template_meaning t) why ⊎ OneHasNoText table limit ts why

-- the text that policies are written as, each on a line of its own
abbrev pub lines_written : Extensions → List Template → List ℕ
lines_written table all = ended (line_of (policies_words table (all_parts all) []))

-- ---- a set

-- the text is its policies and templates in lines, as they are listed, and cuts into tokens that
-- mean the set of these
abbrev pub IsTextOfSet : Extensions → ℕ → PolicyMaps → List ℕ → Type 0
IsTextOfSet table limit set text =
    (all : List (Either (Bor Template) (Bor Template))) × IsListing set all
    × (text ≡ lines_written table (templates_lent all))
    × IsTextOfAll table limit (templates_lent all) text

-- no tokens of a text mean one of its policies, since a part of that is what is told; unless it
-- was want of memory
abbrev pub HasNoTextOfSet : Extensions → ℕ → PolicyMaps → NotWritten → Type 0
HasNoTextOfSet table limit set Memory = Unit {0}
HasNoTextOfSet table limit set (NotWritable what) =
    (all : List (Either (Bor Template) (Bor Template))) × IsListing set all
    × OneHasNoText table limit (templates_lent all) (NotWritable what)
