use Rattle.std.proofs.Common.{◌≡◌, true, false, ℕ, List, sym, ap, ◌∙◌, string_bytes}
use Rattle.std.specs.BTreeSet.{BTreeSet, contains}
use Rattle.cedar_expressions.specs.contracts.ids.UnreservedIdOrd.TheImpl as id_order
use Rattle.cedar_command.specs.Request.{IsFoundName, word_names_method}
use Rattle.cedar_command.proofs.Naming.{method_more, none_more}
use Rattle.cedar_command.proofs.request.methods_of.Goals as goal
use Rattle.cedar_command.proofs.request.methods_of.Goals.{in-Some+in_ok-insert, in_default}

pub loop-word-preserved : goal.loop-word-preserved
loop-word-preserved c id =
    let l = c.loop-word in
    let words = c.args.words.now in
    let x = c.word-item.result in
    let held = λ (set : BTreeSet (List ℕ)). contains id_order.ghosts.cmp set id in
    let found : IsFoundName (λ id. word_names_method id c.as_str.result.now) c.in_ok-id.field-0 = c.in_ok-id.ensures in
    elim c.match-branch-2.branch [
      | in-Some+in_ok-insert w ↦
          (let named : word_names_method w.in-Some.id (string_bytes x) ≡ true = ap (word_names_method w.in-Some.id) (sym c.as_str.ensures.value) ∙ (rw w.in-Some.is at found) in
          ap held w.methods-is ∙ method_more string_bytes words l.word-index x w.in-Some.id id (held l.methods) (held w.insert.new.self) c.loop-word-test.true c.word-item.is named (w.in_ok-insert.ensures.updates.0 id) (l.invariant id))
      | in_default w ↦
          (let none : word_names_method id (string_bytes x) ≡ false = ap (word_names_method id) (sym c.as_str.ensures.value) ∙ (rw w.in_default.is at found) id in
          none_more (λ word. word_names_method id (string_bytes word)) words l.word-index x (held c.match-branch-2.methods) c.loop-word-test.true c.word-item.is none (ap held w.methods-is ∙ l.invariant id))
    ]
