-- Maps that private functions fill: what an annotation's key is given, policies by their names.
use Rattle.std.specs.Prelude.{◌≡◌, ◌≢◌, ℕ, List, Option, Ok, Err, IfOk, Result, false}
use denote.Ref.{Bor}
use denote.Param.Members.{Shared}
use Rattle.either.specs.declared.Either.{Either}
use Rattle.either.specs.declared.Either.TheVariants.{Left, Right}
use Rattle.std.specs.declared.alloc.Global.{Global}
use Rattle.std.specs.declared.string.String.{String}
use Rattle.std.specs.FinMap.{FinMap, contains_key, insert}
use Rattle.cedar_policy_store.specs.declared.policy_set.PolicySetError.{PolicySetError}
use Rattle.cedar_policy_store.specs.declared.policy_set.PolicySetError.TheVariants as refusals
use Rattle.cedar_policy_store.specs.declared.template.Template.{Template}
use Rattle.cedar_policy_store.specs.PlaceFree as free
use Rattle.cedar_policy_store.specs.PlaceFree.{set_meaning}
use Rattle.cedar_policy_store.specs.PolicyMaps.{PolicyMaps, holds_id}
use Rattle.cedar_policy_store.specs.TextMap.{text_order}
use Rattle.cedar_syntax.specs.declared.err.faults.Failure.{Failure}
use Rattle.cedar_syntax.specs.declared.err.faults.Failure.TheVariants.{Memory, Errors}
use Rattle.cedar_syntax.specs.declared.loc.Loc.{Loc}
use Rattle.cedar_syntax.specs.faults.ParseErrors.{faults_of}
use Rattle.cedar_policy_conversion.specs.AnnotationKeys.{AnnotationContent, AnswersEach, Gathering, has_key, values_by_key}
use Rattle.cedar_syntax.specs.declared.cst.Policy.{Policy}
use Rattle.cedar_syntax.specs.declared.node.Node.{Node}
use Rattle.cedar_policy_conversion.specs.Policies.{PlacedPolicies, TemplateParts, placed_set, policies_from, set_of, set_parts}
use Rattle.cedar_conversion.specs.strict.Extensions.{Extensions}
use Rattle.cedar_conversion.specs.outcome.Outcome.{Outcome, next}
use Rattle.cedar_conversion.specs.outcome.Seen.{named_faults}

-- ---- annotations

-- the map has exactly these keys
abbrev pub HasKeys : {T : Type 0} → FinMap text_order T → List (List ℕ) → Type 0
HasKeys m keys = (key : List ℕ) → contains_key m key ≡ has_key keys key

-- the values so far, each under its key
abbrev pub HoldsAll : {F T : Type 0}
    → Shared F (Option (String Global) × (Option (Bor Loc) × Unit {0})) T → F → Gathering
    → FinMap text_order T → Type 0
HoldsAll {T = T} g f so_far m =
    (all : List AnnotationContent) × (made : List T) × (so_far.all ≡ Ok all)
    × AnswersEach g f all made × (m ≡ values_by_key all made)

-- The map after the annotations so far, and whether any of them is refused. After want of memory
-- nothing is said: it is the answer.
abbrev pub HoldsSoFar : {F T : Type 0}
    → Shared F (Option (String Global) × (Option (Bor Loc) × Unit {0})) T → F → Gathering
    → FinMap text_order T → Result (Unit {0}) Failure → Type 0
HoldsSoFar g f so_far m (Ok nothing) = HasKeys m so_far.keys × HoldsAll g f so_far m
HoldsSoFar g f so_far m (Err (Memory error)) = Unit {0}
HoldsSoFar g f so_far m (Err (Errors errors)) =
    HasKeys m so_far.keys × (so_far.all ≡ Err (named_faults (faults_of errors)))

-- ---- policies

-- the policy is added under its name, or the template under its
abbrev pub maps_with_policy : PolicyMaps → Either Template Template → PolicyMaps
maps_with_policy set (Left t) = record set { policies = insert set.policies t.id t }
maps_with_policy set (Right t) = record set { templates = insert set.templates t.id t }

abbrev pub IsAdded : PolicyMaps → Either Template Template → PolicyMaps → Type 0
IsAdded before policy after = after ≡ maps_with_policy before policy

-- the name of a policy, or of a template
abbrev pub id_of : Either Template Template → List ℕ
id_of (Left t) = t.id
id_of (Right t) = t.id

-- the name of the next policy, if there is one, is free
abbrev pub IsFreeFor : PolicyMaps → Result (Either Template Template) Failure → Type 0
IsFreeFor set next = IfOk next (λ policy. holds_id set (id_of policy) ≡ false)

-- a name that was free is free, unless the next policy has it
abbrev pub AddsAtMost : Result (Either Template Template) Failure → PolicyMaps → PolicyMaps
    → Type 0
AddsAtMost next before after =
    (id : List ℕ) → holds_id before id ≡ false → IfOk next (λ policy. id ≢ id_of policy)
    → holds_id after id ≡ false

-- where the name is free, memory alone may be wanting
abbrev pub WantsMemoryAlone : PolicySetError → Type 0
WantsMemoryAlone (refusals.Memory error) = Unit {0}
WantsMemoryAlone (refusals.Occupied id) = ⊥

-- a set as what it means, and with its places
abbrev pub SeenSet : Type 0
SeenSet = free.Policies × PlacedPolicies

abbrev pub seen_set : PolicyMaps → SeenSet
seen_set set = (set_meaning set, set_parts set)

-- the same of policies that are given
abbrev pub seen_outcome : Outcome (List TemplateParts) → Outcome SeenSet
seen_outcome all = next all (λ ts. Ok (set_of ts, placed_set ts))

abbrev pub seen_policies : Extensions → List (Node (Option Policy)) → Outcome SeenSet
seen_policies e ns = seen_outcome (policies_from e 0 ns)

-- the set so far, if all of it is given
abbrev pub set_view : PolicyMaps → Unit {0} → SeenSet
set_view set all = seen_set set
