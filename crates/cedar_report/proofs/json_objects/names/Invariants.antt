use Rattle.std.proofs.Common.{◌≡◌, take, map}
use Rattle.cedar_lexer.specs.Names.{kind_name}
use Rattle.serde_json.specs.Data.{string}
use Rattle.serde_json.specs.View.{view}
use Rattle.cedar_report.proofs.json_objects.names.Given as goal

abbrev pub invariant-loop-kind : goal.invariant-loop-kind
invariant-loop-kind l =
    map view l.names.items ≡ map (λ kind. string (kind_name kind)) (take l.kind-index l.kinds)
