-- Sets whose policies are named `policy0`, `policy1` .. as they are listed, each template with a
-- slot in its scope: what is written of one is read as that very set.
use Rattle.std.specs.Prelude.{◌≡◌, ℕ, ◌+◌, true, false, List, [], ◌∷◌}
use Rattle.std.specs.List.{AllByRecursion}
use denote.Ref.{Bor}
use Rattle.std.specs.FinMap.{entries}
use Rattle.either.specs.declared.Either.{Either}
use Rattle.either.specs.declared.Either.TheVariants.{Left, Right}
use Rattle.cedar_policy_store.specs.declared.template.Template.{Template}
use Rattle.cedar_policy_store.specs.Listing.{IsListing, all_policies}
use Rattle.cedar_policy_store.specs.PlaceFree.{template_meaning, has_slot_in_scope}
use Rattle.cedar_policy_store.specs.PolicyMaps.{PolicyMaps, StandByName}
use Rattle.cedar_policy_conversion.specs.PolicyMeaning.{policy_id}
use Rattle.cedar_writer.specs.WrittenTexts.{templates_lent}

-- they are named `policy0`, `policy1` .., as they stand, from a number on
abbrev pub AreNumbered : ℕ → List Template → Type 0
AreNumbered n [] = Unit {0}
AreNumbered n (t ∷ ts) = (t.id ≡ policy_id n) × AreNumbered (n + 1) ts

-- a template has a slot in its scope, as a static policy has none: so a text tells them apart
abbrev pub IsToldByScope : Either Template Template → Type 0
IsToldByScope (Left policy) = has_slot_in_scope (template_meaning policy) ≡ false
IsToldByScope (Right template) = has_slot_in_scope (template_meaning template) ≡ true

-- each stands under its own name, as in every set, and as they are listed they are numbered
pub record IsNumberedSet (set : PolicyMaps) : Type 0 where
  pub policies : StandByName (entries set.policies)
  pub templates : StandByName (entries set.templates)
  pub told : AllByRecursion IsToldByScope (all_policies set)
  pub numbered : (all : List (Either (Bor Template) (Bor Template)))
      → IsListing set all → AreNumbered 0 (templates_lent all)
