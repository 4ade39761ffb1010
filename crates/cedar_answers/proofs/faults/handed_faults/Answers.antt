use Rattle.std.proofs.Common.{◌≤◌, ◌+◌, length, sym, ap, ◌∙◌, subst}
use Rattle.std.proofs.lemmas.List.{length_push}
use Rattle.cedar_answers.proofs.Zipping.{read_more}
use Rattle.cedar_answers.proofs.faults.handed_faults.Goals as goal

pub loop-fault-preserved : goal.loop-fault-preserved
loop-fault-preserved c =
    let h = c.loop-fault.invariant in (
      read_more c.loop-fault.yielded c.in-Some.fault c.loop-fault.all.items c.push_reserved.new.self.items c.handed_fault.result h.0 c.handed_fault.ensures c.push_reserved.ensures.items,
      c.push_reserved.ensures.len ∙ ap (λ n. n + 1) h.1 ∙ sym (length_push c.loop-fault.yielded c.in-Some.fault),
      subst (λ n. length c.args.made.items ≤ n) (sym c.push_reserved.ensures.capacity) h.2,
    )
