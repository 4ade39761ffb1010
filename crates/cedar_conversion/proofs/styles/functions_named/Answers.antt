use Rattle.std.proofs.Common.{◌≡◌, true, false, ◌&&◌, ℕ, List, [], get_or, MatchOption, ap, ◌∙◌, is_eq, Bor}
use Rattle.std.specs.BTreeSet.{BTreeSet, contains}
use Rattle.cedar_expressions.specs.Path.{Path, is_unreserved_identifier}
use Rattle.cedar_expressions.specs.contracts.names.NameOrd.TheImpl as name_order
use Rattle.cedar_conversion.specs.strict.CedarExtensions.{is_word_alone}
use Rattle.cedar_conversion.proofs.FilledSets.{none_more, one_more, same_function}
use Rattle.cedar_conversion.proofs.styles.functions_named.Goals as goal
use Rattle.cedar_conversion.proofs.styles.functions_named.Goals.{in-Some+in_ok-insert, in_default}

pub loop-word-preserved : goal.loop-word-preserved
loop-word-preserved c name =
    let l = c.loop-word in
    let words = c.args.words.now in
    let d : Bor (List ℕ) = record { ref_ptr = (0, 0); now = [] } in
    let word = (get_or words l.word-index d).now in
    let names = λ (w : Bor (List ℕ)). is_unreserved_identifier w.now && is_word_alone name w.now in
    let held = λ (set : BTreeSet Path). contains name_order.ghosts.cmp set name in
    let found : MatchOption c.in_ok-id.field-0 (is_unreserved_identifier word ≡ false) (λ i. (i ≡ word) × (is_unreserved_identifier word ≡ true)) = c.in_ok-id.ensures in
    elim c.match-branch-2.branch [
      | in-Some+in_ok-insert w ↦
          (let spelled : (w.in-Some.id ≡ word) × (is_unreserved_identifier word ≡ true) = rw w.in-Some.is at found in
          let named = ap (λ n. is_eq (name_order.ghosts.cmp n name)) w.from.ensures ∙ ap (λ i. is_eq (name_order.ghosts.cmp (record { path = []; id = i }) name)) spelled.0 ∙ same_function word name spelled.1 in
          ap held w.functions-is ∙ one_more names words l.word-index d (is_eq (name_order.ghosts.cmp w.from.result name)) (held l.functions) (held w.insert.new.self) c.loop-word-test.true named (w.in_ok-insert.ensures.updates.0 name) (l.invariant name))
      | in_default w ↦
          (let refused : is_unreserved_identifier word ≡ false = rw w.in_default.is at found in
          none_more names words l.word-index d (held c.match-branch-2.functions) c.loop-word-test.true (ap (λ b. b && is_word_alone name word) refused) (ap held w.functions-is ∙ l.invariant name))
    ]
