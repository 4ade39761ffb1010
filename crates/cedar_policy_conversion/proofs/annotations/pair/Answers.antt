use Rattle.std.proofs.Common.{ℕ, List, Option, option_map, string_bytes}
use Rattle.std.specs.declared.alloc.Global.{Global}
use Rattle.std.specs.declared.string.String.{String}
use Rattle.cedar_policy_conversion.specs.AnnotationKeys.{annotation_at}
use Rattle.cedar_conversion.specs.outcome.Seen.{itself}
use Rattle.cedar_conversion.proofs.Outcomes.{both_gives, then_gives}
use Rattle.cedar_policy_conversion.proofs.annotations.pair.Goals as goal

abbrev text_seen : List ℕ × Option (String Global) → List ℕ × Option (List ℕ)
text_seen p = (p.0, option_map string_bytes p.1)

pub returns : goal.returns
returns c =
    then_gives text_seen (annotation_at c.args.loc.now) c.flatten_tuple_2.result _
    (both_gives itself (option_map string_bytes) c.any_id.result c.text_of.result c.flatten_tuple_2.result _ _ c.flatten_tuple_2.ensures.both c.flatten_tuple_2.ensures.faults c.any_id.ensures c.text_of.ensures)
