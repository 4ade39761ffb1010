-- A policy set as contracts see it: two finite maps by name.
use Rattle.std.specs.Prelude.{refl, ◌≡◌, ℕ, ◌+◌, List, [], ◌∷◌, Bool, ◌||◌, ◌&&◌, if◌then◌else◌, Option, Some, None}
use Rattle.either.specs.declared.Either.{Either}
use Rattle.either.specs.declared.Either.TheVariants.{Left, Right}
use Rattle.std.specs.Coded.{Coded, code_by, coded×, coded_list, coded_ℕ}
use Rattle.std.specs.FinMap as map
use Rattle.std.specs.FinMap.{FinMap, contains_key}
use Rattle.cedar_policy_store.specs.declared.template.Template.{Template}
use Rattle.cedar_policy_store.specs.declared.policy_set.PolicySetError.{PolicySetError}
use Rattle.cedar_policy_store.specs.declared.policy_set.PolicySetError.TheVariants.{Memory, Occupied}
use Rattle.std.specs.Cmp.{IsEquivalence, on_equiv, and_equiv}
use Rattle.cedar_policy_store.specs.TextMap.{text_order, same_map_by, same_map_by_equiv}

-- the static policies, each seen as its template, and the templates
pub record PolicyMaps : Type 0 where
  pub policies : FinMap text_order Template
  pub templates : FinMap text_order Template

-- such a pair of maps is stored as two maps
abbrev pub one_map_code : Coded Template → Coded (FinMap text_order Template)
one_map_code template = map.code (coded_list coded_ℕ) template

abbrev pub maps_code : Coded Template → Coded PolicyMaps
maps_code template =
    code_by
    (FinMap text_order Template × FinMap text_order Template)
    (coded× (one_map_code template) (one_map_code template))
    (λ maps. (maps.policies, maps.templates))
    (λ pair. record { policies = pair.0; templates = pair.1 })
    (λ _. refl)

-- whether a static policy or a template has this name
abbrev pub holds_id : PolicyMaps → List ℕ → Bool
holds_id maps id = contains_key maps.policies id || contains_key maps.templates id

-- how many there are
abbrev pub policy_count : PolicyMaps → ℕ
policy_count maps = map.len maps.policies + map.len maps.templates

-- the name of a policy, or of a template
abbrev pub either_id : Either Template Template → List ℕ
either_id (Left t) = t.id
either_id (Right t) = t.id

-- the policy is added under its name, or the template under its
abbrev pub maps_with : PolicyMaps → Either Template Template → PolicyMaps
maps_with maps (Left t) = record maps { policies = map.insert maps.policies t.id t }
maps_with maps (Right t) = record maps { templates = map.insert maps.templates t.id t }

-- what stands under a name
abbrev pub or_template : Option Template → Option Template → Option (Either Template Template)
or_template (Some t) other = Some (Left t)
or_template None (Some t) = Some (Right t)
or_template None None = None

abbrev pub policy_named : PolicyMaps → List ℕ → Option (Either Template Template)
policy_named maps id = or_template (map.get maps.policies id) (map.get maps.templates id)

-- what is left without what stands under a name
abbrev pub maps_without : PolicyMaps → List ℕ → PolicyMaps
maps_without maps id =
    if contains_key maps.policies id
    then record maps { policies = map.remove maps.policies id }
    else record maps { templates = map.remove maps.templates id }

-- what can refuse a policy of this name, since a set has each name once: want of memory, or that
-- the name is there
abbrev pub IsRefusalOf : List ℕ → PolicySetError → Type 0
IsRefusalOf id (Memory _) = Unit {0}
IsRefusalOf id (Occupied other) = other ≡ id

-- each stands under its own name
abbrev pub StandByName : List (List ℕ × Template) → Type 0
StandByName [] = Unit {0}
StandByName (e ∷ es) = (e.1.id ≡ e.0) × StandByName es

-- both maps are the same by a comparison of templates
abbrev pub same_maps_by : (Template → Template → Bool) → PolicyMaps → PolicyMaps → Bool
same_maps_by same m n =
    same_map_by same m.policies n.policies && same_map_by same m.templates n.templates

pub same_maps_by_equiv : {same : Template → Template → Bool}
    → IsEquivalence same → IsEquivalence (same_maps_by same)
same_maps_by_equiv e =
    and_equiv (on_equiv (λ m. m.policies) (same_map_by_equiv e))
    (on_equiv (λ m. m.templates) (same_map_by_equiv e))
