use Rattle.std.proofs.Common.{◌≡◌, true, false, sym, ap, ◌∙◌, string_bytes}
use Rattle.std.specs.BTreeSet.{BTreeSet, contains}
use Rattle.cedar_expressions.specs.Path.{Path}
use Rattle.cedar_expressions.specs.contracts.names.NameOrd.TheImpl as name_order
use Rattle.cedar_command.specs.Request.{IsFoundName, names_function}
use Rattle.cedar_command.proofs.Naming.{function_more, none_more}
use Rattle.cedar_command.proofs.request.functions_of.Goals as goal
use Rattle.cedar_command.proofs.request.functions_of.Goals.{in-Some+in_ok-insert, in_default}

pub loop-word-preserved : goal.loop-word-preserved
loop-word-preserved c name =
    let l = c.loop-word in
    let words = c.args.words.now in
    let x = c.word-item.result in
    let held = λ (set : BTreeSet Path). contains name_order.ghosts.cmp set name in
    let found : IsFoundName (λ name. names_function name c.as_str.result.now) c.in_ok-name.field-0 = c.in_ok-name.ensures in
    elim c.match-branch-2.branch [
      | in-Some+in_ok-insert w ↦
          (let named : names_function w.in-Some.name (string_bytes x) ≡ true = ap (names_function w.in-Some.name) (sym c.as_str.ensures.value) ∙ (rw w.in-Some.is at found) in
          ap held w.functions-is ∙ function_more string_bytes words l.word-index x w.in-Some.name name (held l.functions) (held w.insert.new.self) c.loop-word-test.true c.word-item.is named (w.in_ok-insert.ensures.updates.0 name) (l.invariant name))
      | in_default w ↦
          (let none : names_function name (string_bytes x) ≡ false = ap (names_function name) (sym c.as_str.ensures.value) ∙ (rw w.in_default.is at found) name in
          none_more (λ word. names_function name (string_bytes word)) words l.word-index x (held c.match-branch-2.functions) c.loop-word-test.true c.word-item.is none (ap held w.functions-is ∙ l.invariant name))
    ]
