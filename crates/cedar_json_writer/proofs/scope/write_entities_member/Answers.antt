use Rattle.std.proofs.Common.{ap, sym, ◌∙◌, codes}
use Rattle.json.specs.Json.{array, member, no_members}
use Rattle.json.specs.Tree.{members_tokens}
use Rattle.cedar_json_writer.specs.PolicyForms.{entities_member, entity_items}
use Rattle.cedar_json_writer.proofs.Scopes.{several}
use Rattle.cedar_json_writer.proofs.Steps.{same_added}
use Rattle.cedar_json_writer.proofs.scope.write_entities_member.Goals as goal

pub returns-else-is_empty : goal.returns-else-is_empty
returns-else-is_empty c =
    same_added c.write_entity_list-else-is_empty.result c.args.out.now c.write_entity_list-else-is_empty.new.out (members_tokens (member (codes "entities") (array (entity_items c.args.entities.now)) no_members)) (members_tokens (entities_member c.args.entities.now))
    (ap members_tokens (several c.args.entities.now c.in-Some.entity.now c.in-Some.others.now c.in-Some.ensures.cases.0 (sym c.is_empty.ensures ∙ c.if-is_empty.false))) c.write_entity_list-else-is_empty.ensures
