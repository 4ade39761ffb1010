-- A set without what stands under a name.
use Rattle.std.proofs.Common.{◌≡◌, ℕ, List, true, false, if◌then◌else◌, sym, ap}
use Rattle.std.specs.FinMap as map
use Rattle.cedar_policy_store.specs.PolicyMaps.{PolicyMaps, maps_without}

pub left_policies : (maps : PolicyMaps) (id : List ℕ) → map.contains_key maps.policies id ≡ true → record maps { policies = map.remove maps.policies id } ≡ maps_without maps id
left_policies maps id h =
    sym (ap (λ b. if b then record maps { policies = map.remove maps.policies id } else record maps { templates = map.remove maps.templates id }) h)

pub left_templates : (maps : PolicyMaps) (id : List ℕ) → map.contains_key maps.policies id ≡ false → record maps { templates = map.remove maps.templates id } ≡ maps_without maps id
left_templates maps id h =
    sym (ap (λ b. if b then record maps { policies = map.remove maps.policies id } else record maps { templates = map.remove maps.templates id }) h)
