-- A set's policies in a list: each static policy and each template once, in the order of their names.
use Rattle.std.specs.Prelude.{ℕ, List, ◌++◌, map}
use Rattle.std.specs.List.Sorted.{IsPermutation, IsSortedByKey}
use denote.Ref.{Bor}
use Rattle.std.specs.FinMap as map
use Rattle.either.specs.declared.Either.{Either}
use Rattle.either.specs.declared.Either.TheVariants.{Left, Right}
use Rattle.cedar_policy_store.specs.declared.template.Template.{Template}
use Rattle.cedar_policy_store.specs.PolicyMaps.{PolicyMaps, either_id}
use Rattle.cedar_policy_store.specs.IdOrder.{id_order}

-- a policy or a template that is lent
abbrev pub lent_policy : Either (Bor Template) (Bor Template) → Either Template Template
lent_policy (Left policy) = Left policy.now
lent_policy (Right template) = Right template.now

abbrev pub all_lent : List (Either (Bor Template) (Bor Template)) → List (Either Template Template)
all_lent ps = map lent_policy ps

-- the static policies, and then the templates
abbrev pub all_policies : PolicyMaps → List (Either Template Template)
all_policies maps =
    map (λ t. Left t) (map.values maps.policies) ++ map (λ t. Right t) (map.values maps.templates)

-- the name of what is lent
abbrev pub lent_id : Either (Bor Template) (Bor Template) → List ℕ
lent_id p = either_id (lent_policy p)

abbrev pub IsListing : PolicyMaps → List (Either (Bor Template) (Bor Template)) → Type 0
IsListing maps all =
    IsPermutation (all_policies maps) (all_lent all) × IsSortedByKey lent_id id_order all
