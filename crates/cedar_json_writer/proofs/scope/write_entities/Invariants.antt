-- The entities so far were written.
use Rattle.std.proofs.Common.{drop}
use Rattle.cedar_json_writer.proofs.Scopes.{list_tokens}
use Rattle.cedar_json_writer.proofs.Steps.{Wrote}
use Rattle.cedar_json_writer.proofs.scope.write_entities.Given as goal

abbrev pub invariant-loop-entity : goal.invariant-loop-entity
invariant-loop-entity l =
    Wrote l.fn.out l.out (list_tokens l.entities) (list_tokens (drop l.entity-index l.entities))
