-- The faults of a policy and of a set as blocks, one for each part: of a policy its effect, its
-- annotations, its scope and its conditions, in this order, of a set its policies.
use Rattle.std.specs.Prelude.{ℕ, List, [], ◌∷◌, ◌++◌, Option, Ok, Err}
use Rattle.std.specs.List.{All, flat_map}
use Rattle.cedar_syntax.specs.declared.cst.Annotation.{Annotation}
use Rattle.cedar_syntax.specs.declared.cst.Cond.{Cond}
use Rattle.cedar_syntax.specs.declared.cst.Policy.{Policy}
use Rattle.cedar_syntax.specs.declared.cst.PolicyImpl.{PolicyImpl}
use Rattle.cedar_syntax.specs.declared.loc.Loc.{Loc}
use Rattle.cedar_syntax.specs.declared.node.Node.{Node}
use Rattle.cedar_policy_conversion.specs.AnnotationKeys.{annotation_outcome, converted_key, with_new_key}
use Rattle.cedar_policy_conversion.specs.Conditions.{condition_outcome}
use Rattle.cedar_conversion.specs.strict.Extensions.{Extensions}
use Rattle.cedar_conversion.specs.outcome.Outcome.{NamedFault, Outcome, next}
use Rattle.cedar_policy_conversion.specs.Policies.{effect_outcome, template_outcome}
use Rattle.cedar_policy_conversion.specs.Scope.{scope_outcome}
use Rattle.cedar_policy_parser.specs.faults.Standing.{StandWithin}

-- the faults of what isn't given
abbrev pub faults_from : {Y : Type 0} → Outcome Y → List NamedFault
faults_from (Ok y) = []
faults_from (Err faults) = faults

-- those of each annotation, behind others that have these keys: one with a key that an earlier one
-- has, if that one converted, doesn't convert
abbrev pub annotation_faults : List (List ℕ) → List (Node (Option Annotation)) → List NamedFault
annotation_faults keys [] = []
annotation_faults keys (n ∷ ns) =
    faults_from (next (annotation_outcome n) (with_new_key keys))
    ++ annotation_faults (keys ++ converted_key (annotation_outcome n)) ns

-- those of each condition
abbrev pub condition_faults : Extensions → List (Node (Option Cond)) → List NamedFault
condition_faults e cs = flat_map (λ n. faults_from (condition_outcome e n)) cs

-- the effect, each annotation, the scope, each condition
abbrev pub policy_faults : Extensions → PolicyImpl → List NamedFault
policy_faults e p =
    faults_from (effect_outcome p.effect) ++ annotation_faults [] p.annotations
    ++ faults_from (scope_outcome e p) ++ condition_faults e p.conds

-- those of each policy under a name
abbrev pub set_faults : Extensions → List ℕ → List (Node (Option Policy)) → List NamedFault
set_faults e id ns = flat_map (λ n. faults_from (template_outcome e id n)) ns

-- those of each part stand within the part's place, an annotation's behind whatever others, those
-- of the scope within the policy's
abbrev pub PartsStandWithin : Extensions → Option Loc → PolicyImpl → Type 0
PartsStandWithin e place p =
    StandWithin p.effect.loc (effect_outcome p.effect)
    × All (λ n. (keys : List (List ℕ))
    → StandWithin n.loc (next (annotation_outcome n) (with_new_key keys))) p.annotations
    × StandWithin place (scope_outcome e p)
    × All (λ n. StandWithin n.loc (condition_outcome e n)) p.conds
