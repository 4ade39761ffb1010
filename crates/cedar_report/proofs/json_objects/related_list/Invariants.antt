use Rattle.std.proofs.Common.{◌≡◌, take, map}
use Rattle.serde_json.specs.View.{view}
use Rattle.cedar_report.specs.JsonLines.{related_data}
use Rattle.cedar_report.proofs.json_objects.related_list.Given as goal

abbrev pub invariant-loop-other : goal.invariant-loop-other
invariant-loop-other l =
    map view l.places.items ≡ map (λ other. related_data other) (take l.other-index l.related)
