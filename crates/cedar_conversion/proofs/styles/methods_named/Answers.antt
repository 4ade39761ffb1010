use Rattle.std.proofs.Common.{◌≡◌, true, false, ◌&&◌, ℕ, List, [], get_or, MatchOption, ap, ◌∙◌, bytes_eq, is_eq, Bor}
use Rattle.std.specs.BTreeSet.{BTreeSet, contains}
use Rattle.cedar_expressions.specs.Path.{is_unreserved_identifier}
use Rattle.cedar_expressions.specs.contracts.ids.UnreservedIdOrd.TheImpl as id_order
use Rattle.cedar_conversion.proofs.FilledSets.{none_more, one_more, same_method}
use Rattle.cedar_conversion.proofs.styles.methods_named.Goals as goal
use Rattle.cedar_conversion.proofs.styles.methods_named.Goals.{in-Some+in_ok-insert, in_default}

pub loop-word-preserved : goal.loop-word-preserved
loop-word-preserved c id =
    let l = c.loop-word in
    let words = c.args.words.now in
    let d : Bor (List ℕ) = record { ref_ptr = (0, 0); now = [] } in
    let word = (get_or words l.word-index d).now in
    let names = λ (w : Bor (List ℕ)). is_unreserved_identifier w.now && bytes_eq id w.now in
    let held = λ (set : BTreeSet (List ℕ)). contains id_order.ghosts.cmp set id in
    let found : MatchOption c.in_ok-id.field-0 (is_unreserved_identifier word ≡ false) (λ i. (i ≡ word) × (is_unreserved_identifier word ≡ true)) = c.in_ok-id.ensures in
    elim c.match-branch-2.branch [
      | in-Some+in_ok-insert w ↦
          (let spelled : (w.in-Some.id ≡ word) × (is_unreserved_identifier word ≡ true) = rw w.in-Some.is at found in
          let named = ap (λ i. is_eq (id_order.ghosts.cmp i id)) spelled.0 ∙ same_method word id spelled.1 in
          ap held w.methods-is ∙ one_more names words l.word-index d (is_eq (id_order.ghosts.cmp w.in-Some.id id)) (held l.methods) (held w.insert.new.self) c.loop-word-test.true named (w.in_ok-insert.ensures.updates.0 id) (l.invariant id))
      | in_default w ↦
          (let refused : is_unreserved_identifier word ≡ false = rw w.in_default.is at found in
          none_more names words l.word-index d (held c.match-branch-2.methods) c.loop-word-test.true (ap (λ b. b && bytes_eq id word) refused) (ap held w.methods-is ∙ l.invariant id))
    ]
