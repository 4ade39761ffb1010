use Rattle.std.proofs.Common.{◌++◌, sym, ap, ◌∙◌, true≢false, rules}
use Rattle.std.specs.List.{list_all}
use Rattle.cedar_expressions.specs.Path.{namespace_text, is_unreserved_identifier}
use Rattle.cedar_command.proofs.Spelled.{onward, back, last_part, path_ok, path_written}
use Rattle.cedar_command.proofs.request.name_of.Goals as goal

pub returns-in_default-2 : goal.returns-in_default-2
returns-in_default-2 c s =
    let l = c.loop-part in
    let none = rw c.in_default-2.is at c.in_ok-id.ensures in
    true≢false (sym (back l.rest.now c.in-Some.part.now c.in-Some.behind.now c.in-Some.ensures (l.invariant.1.0 s)).0 ∙ none)

pub loop-part-preserved : goal.loop-part-preserved
loop-part-preserved c =
    let l = c.loop-part in
    let part = c.in-Some.part.now in
    let behind = c.in-Some.behind.now in
    let some = rw c.in-Some-2.is at c.in_ok-id.ensures in
    let pushed = c.in_ok-push.ensures.items in (
      search rules,
      (λ s. (back l.rest.now part behind c.in-Some.ensures (l.invariant.1.0 s)).1, λ s. l.invariant.1.1 (onward l.rest.now part behind c.in-Some.ensures some.1 s)),
      ap (list_all is_unreserved_identifier) pushed ∙ path_ok l.path.items c.from.result l.invariant.2 (ap is_unreserved_identifier (c.from.ensures ∙ some.0) ∙ some.1),
      ap (λ ps. namespace_text ps ++ behind) pushed ∙ path_written l.path.items c.from.result l.rest.now part behind c.in-Some.ensures (c.from.ensures ∙ some.0) ∙ l.invariant.3,
    )

pub returns-in-None : goal.returns-in-None
returns-in-None c s =
    let l = c.loop-part in
    let none = rw c.in-None.is at c.in_ok-last.ensures in
    true≢false (sym (last_part l.rest.now c.in_default.ensures (l.invariant.1.0 s)) ∙ none)
