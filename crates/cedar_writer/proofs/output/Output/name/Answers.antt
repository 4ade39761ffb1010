use Rattle.std.proofs.Common.{◌≡◌, ◌++◌, true, refl, sym, ap, ◌∙◌, subst}
use Rattle.std.specs.List.{list_all}
use Rattle.cedar_conversion.proofs.Loops.{take_whole}
use Rattle.cedar_conversion.proofs.Walked.{on_ok}
use Rattle.cedar_expressions.specs.Path.{Path, is_valid_identifier}
use Rattle.cedar_writer.specs.WrittenWords.{identifier_words, name_words}
use Rattle.cedar_writer.specs.machines.Lines.{namespace_words}
use Rattle.cedar_writer.proofs.NamesWritten.{path_is, namespace_more, valid_more, writable_name}
use Rattle.cedar_writer.proofs.WordsAdded.{both_added, same_added}
use Rattle.cedar_writer.proofs.output.Output.name.Goals as goal

pub loop-id-preserved : goal.loop-id-preserved
loop-id-preserved c =
    let ids = c.namespace_components-id-items.result.now in (
      namespace_more c.args.self.now c.loop-id.self c.identifier.new.self c.word.new.self ids c.loop-id.id-index c.id-item.result c.as_str.result.now
          c.loop-id-test.true c.id-item.is c.as_str.ensures.same c.loop-id.invariant.0 c.in_ok-identifier.ensures c.in_ok-word.ensures,
      valid_more ids c.loop-id.id-index c.id-item.result c.id-item.result c.loop-id-test.true c.id-item.is refl c.loop-id.invariant.1 c.as_str.ensures.valid,
    )

pub returns-clause-words : goal.returns-clause-words
returns-clause-words c =
    let ids = c.namespace_components-id-items.result.now in
    let n = c.args.name.now in
    let path : ids ≡ n.path = c.namespace_components-id-items.ensures ∙ ap (λ (m : Path). m.path) c.as_internal-internal.ensures.same in
    let id : c.as_str-2.result.now ≡ n.id = c.as_str-2.ensures.same ∙ c.basename.ensures ∙ ap (λ (m : Path). m.id) c.as_internal-internal.ensures.same in
    on_ok c.identifier-2.result
    (λ last.
    same_added c.args.self.now c.identifier-2.new.self _ (name_words n)
    (ap (λ xs. namespace_words xs ++ identifier_words c.as_str-2.result.now) (take_whole ids c.loop-id.id-index c.loop-id-test.false ∙ path)
    ∙ ap (λ x. namespace_words n.path ++ identifier_words x) id ∙ path_is n.path n.id)
    (both_added c.args.self.now c.loop-id.self c.identifier-2.new.self _ (identifier_words c.as_str-2.result.now) c.loop-id.invariant.0 last))
    c.identifier-2.ensures

pub returns-clause-writable : goal.returns-clause-writable
returns-clause-writable c =
    let ids = c.namespace_components-id-items.result.now in
    let n = c.args.name.now in
    let path : ids ≡ n.path = c.namespace_components-id-items.ensures ∙ ap (λ (m : Path). m.path) c.as_internal-internal.ensures.same in
    let id : c.basename.result.now ≡ n.id = c.basename.ensures ∙ ap (λ (m : Path). m.id) c.as_internal-internal.ensures.same in
    on_ok c.identifier-2.result
    (λ last.
    writable_name n
    (sym (ap (list_all is_valid_identifier) (take_whole ids c.loop-id.id-index c.loop-id-test.false ∙ path)) ∙ c.loop-id.invariant.1)
    (subst (λ x. is_valid_identifier x ≡ true) id c.as_str-2.ensures.valid)
    c.as_internal-internal.ensures.unreserved)
    c.identifier-2.ensures
