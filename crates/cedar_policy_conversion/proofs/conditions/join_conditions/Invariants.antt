use Rattle.std.proofs.Common.{◌≡◌, [], ◌∷◌, ◌++◌, map, vec_len}
use Rattle.cedar_expressions.specs.Meaning.{unplaced}
use Rattle.cedar_policy_conversion.specs.PolicyMeaning.{joint_condition}
use Rattle.cedar_policy_conversion.proofs.conditions.join_conditions.Given as goal

abbrev pub invariant-loop-condition : goal.invariant-loop-condition
invariant-loop-condition l =
    joint_condition (map unplaced l.earlier.items ++ unplaced l.all ∷ []) ≡ joint_condition (map unplaced l.fn.conditions.items)

abbrev pub decreases-loop-condition : goal.decreases-loop-condition
decreases-loop-condition l = vec_len l.earlier
