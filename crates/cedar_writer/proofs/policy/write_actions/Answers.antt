use Rattle.std.proofs.Common.{sym, ap, ◌∙◌, subst}
use Rattle.std.specs.List.{list_all}
use Rattle.cedar_policy_store.specs.Actions.{is_action}
use Rattle.cedar_writer.specs.WrittenPolicies.{entities_words, AreWritableEntities}
use Rattle.cedar_writer.specs.machines.Outputs.{Adds}
use Rattle.cedar_writer.proofs.WordsAdded.{then}
use Rattle.cedar_writer.proofs.policy.write_actions.Goals as goal

pub returns : goal.returns
returns c = (
  then (then (then c.in_ok-word.ensures c.in_ok-word-2.ensures) (subst (λ us. Adds c.word-2.new.self c.write_entities.new.out (entities_words us)) c.as_slice-2.ensures c.in_ok-write_entities.ensures.words)) c.in_ok-word-3.ensures,
  (
    subst AreWritableEntities c.as_slice-2.ensures c.in_ok-write_entities.ensures.writable,
    ap (list_all is_action) (sym c.as_slice.ensures) ∙ sym c.are_actions.ensures ∙ c.if-not-are_actions.false,
  ),
)
