use Rattle.std.proofs.Common.{◌≡◌, ap, ◌∙◌, subst}
use Rattle.cedar_conversion.proofs.Walked.{on_ok}
use Rattle.cedar_writer.specs.WrittenWords.{name_words, text_words}
use Rattle.cedar_writer.specs.machines.Outputs.{Adds}
use Rattle.cedar_writer.proofs.WordsAdded.{then}
use Rattle.cedar_writer.proofs.policy.write_entity.Goals as goal

pub returns-clause-words : goal.returns-clause-words
returns-clause-words c =
    let name : c.name-name.result.now ≡ c.args.entity.now.entity_type.name = c.name-name.ensures ∙ ap (λ t. t.name) c.entity_type.ensures in
    let text : c.as_str.result.now ≡ c.args.entity.now.eid.text = c.as_str.ensures ∙ ap (λ t. t.text) c.eid.ensures in
    on_ok c.string.result
    (λ last.
    then
    (then (subst (λ n. Adds c.args.out.now c.name.new.self (name_words n)) name c.in_ok-name.ensures.words) c.in_ok-word.ensures)
    (subst (λ t. Adds c.word.new.self c.string.new.self (text_words t)) text last))
    c.string.ensures.words
