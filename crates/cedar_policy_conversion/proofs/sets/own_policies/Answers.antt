use Rattle.std.proofs.Common.{◌≡◌, ◌+◌, ◌<◌, ◌^◌, suc, sym, subst, length, take, ap, arith}
use Rattle.std.specs.Iterator.Adapters.{enumerate_count, enumerate_source}
use Rattle.std.specs.Vec.Iter.{into_iter_items, into_iter_len}
use Rattle.std.proofs.lemmas.Iterator.Adapters.{YieldsList-from_vec}
use Rattle.std.proofs.lemmas.Iterator.Consumers.{YieldsList-turn, YieldsList-end, YieldsList-from_enumerate}
use Rattle.std.proofs.lemmas.List.{length_push}
use Rattle.std.proofs.lemmas.List.FromFn.{length-enumerate_from}
use Rattle.cedar_policy_conversion.specs.Policies.{policies_from, template_outcome}
use Rattle.cedar_policy_conversion.specs.PolicyMeaning.{policy_id}
use Rattle.cedar_conversion.specs.outcome.Seen.{Gives}
use Rattle.cedar_conversion.specs.strict.Table.{table_of}
use Rattle.cedar_policy_conversion.specs.Policies.{either_outcome, either_parts}
use Rattle.cedar_policy_conversion.specs.machines.Filled.{seen_policies, set_view}
use Rattle.cedar_conversion.proofs.Loops.{take_whole}
use Rattle.cedar_conversion.proofs.Outcomes.{gives_at}
use Rattle.cedar_policy_conversion.proofs.FreeNames.{HasName, IsFreeFrom, free_behind, free_first, free_for, named}
use Rattle.cedar_policy_conversion.proofs.SetSteps.{meant_alone, nothing_kept, numbered_next, placed_alone, set_next}
use Rattle.cedar_policy_conversion.proofs.sets.own_policies.Goals as goal

pub loop-count-init : goal.loop-count-init
loop-count-init c =
    (free_first c.new-set.result c.new-set.ensures, nothing_kept (table_of c.args.styles.now) c.new-set.result c.new-set.ensures)

pub one_more-all-requires : goal.one_more-all-requires
one_more-all-requires c =
    let e = table_of c.args.styles.now in
    let nodes = c.args.nodes.items in
    let done = length c.loop-count.yielded in
    let i = c.into_iter-count-iterator.result in
    let items : into_iter_items (enumerate_source i) ≡ nodes = cc in
    let len : into_iter_len (enumerate_source i) ≡ length nodes = cc in
    let none : enumerate_count i ≡ 0 = cc in
    let all = YieldsList-from_enumerate {s = i} (YieldsList-from_vec {s = enumerate_source i} nodes items len) none in
    let t = YieldsList-turn all c.loop-count.yielded c.loop-count.count-iterator c.loop-count.yielded_by c.next.result c.next.new.self (c.in-Some.count, c.in-Some.node) c.in-Some.is c.next.ensures.steps in
    let n = numbered_next nodes done (c.in-Some.count, c.in-Some.node) t.0 t.1 in
    let small : done < 2 ^ 64 = omega (arith, n.0, c.requires) in
    let has_name = subst (λ j. HasName c.policy_at.result (policy_id j)) n.1 (named e (policy_id c.in-Some.count) c.in-Some.node c.policy_at.result c.policy_at.ensures) in
    free_for c.loop-count.set done c.policy_at.result small c.loop-count.invariant.0 has_name

pub loop-count-preserved : goal.loop-count-preserved
loop-count-preserved c =
    let e = table_of c.args.styles.now in
    let nodes = c.args.nodes.items in
    let done = length c.loop-count.yielded in
    let i = c.into_iter-count-iterator.result in
    let items : into_iter_items (enumerate_source i) ≡ nodes = cc in
    let len : into_iter_len (enumerate_source i) ≡ length nodes = cc in
    let none : enumerate_count i ≡ 0 = cc in
    let all = YieldsList-from_enumerate {s = i} (YieldsList-from_vec {s = enumerate_source i} nodes items len) none in
    let t = YieldsList-turn all c.loop-count.yielded c.loop-count.count-iterator c.loop-count.yielded_by c.next.result c.next.new.self (c.in-Some.count, c.in-Some.node) c.in-Some.is c.next.ensures.steps in
    let n = numbered_next nodes done (c.in-Some.count, c.in-Some.node) t.0 t.1 in
    let small : done < 2 ^ 64 = omega (arith, n.0, c.requires) in
    let has_name = subst (λ j. HasName c.policy_at.result (policy_id j)) n.1 (named e (policy_id c.in-Some.count) c.in-Some.node c.policy_at.result c.policy_at.ensures) in
    let one = subst (λ j. Gives either_parts c.policy_at.result (either_outcome e (policy_id j) c.in-Some.node)) n.1 c.policy_at.ensures in
    let more : suc done ≡ done + 1 = omega arith in
    rw (length_push c.loop-count.yielded (c.in-Some.count, c.in-Some.node)) (
      subst (IsFreeFrom c.one_more-all.new.set) more (free_behind c.loop-count.set c.one_more-all.new.set c.policy_at.result done small has_name c.one_more-all.ensures.named c.loop-count.invariant.0),
      gives_at (set_view c.one_more-all.new.set) c.one_more-all.result _ _ (set_next e nodes done c.in-Some.node n.0 n.2)
          (c.one_more-all.ensures.told (policies_from e 0 (take done nodes)) (template_outcome e (policy_id done) c.in-Some.node) c.loop-count.invariant.1 one),
    )

pub returns-clause-meant : goal.returns-clause-meant
returns-clause-meant c =
    let e = table_of c.args.styles.now in
    let nodes = c.args.nodes.items in
    let i = c.into_iter-count-iterator.result in
    let items : into_iter_items (enumerate_source i) ≡ nodes = cc in
    let len : into_iter_len (enumerate_source i) ≡ length nodes = cc in
    let none : enumerate_count i ≡ 0 = cc in
    let all = YieldsList-from_enumerate {s = i} (YieldsList-from_vec {s = enumerate_source i} nodes items len) none in
    let t = YieldsList-end all c.loop-count.yielded c.loop-count.count-iterator c.loop-count.yielded_by c.next.result c.next.new.self c.in-None.is c.next.ensures.steps in
    let whole : take (length c.loop-count.yielded) nodes ≡ nodes = take_whole nodes (length c.loop-count.yielded) (omega (arith, t.1, length-enumerate_from 0 nodes)) in
    meant_alone c.filled.result (policies_from e 0 nodes) (c.filled.ensures (seen_policies e nodes) (gives_at (set_view c.loop-count.set) c.loop-count.all _ _ (ap (seen_policies e) (sym whole)) c.loop-count.invariant.1))

pub returns-clause-placed : goal.returns-clause-placed
returns-clause-placed c =
    let e = table_of c.args.styles.now in
    let nodes = c.args.nodes.items in
    let i = c.into_iter-count-iterator.result in
    let items : into_iter_items (enumerate_source i) ≡ nodes = cc in
    let len : into_iter_len (enumerate_source i) ≡ length nodes = cc in
    let none : enumerate_count i ≡ 0 = cc in
    let all = YieldsList-from_enumerate {s = i} (YieldsList-from_vec {s = enumerate_source i} nodes items len) none in
    let t = YieldsList-end all c.loop-count.yielded c.loop-count.count-iterator c.loop-count.yielded_by c.next.result c.next.new.self c.in-None.is c.next.ensures.steps in
    let whole : take (length c.loop-count.yielded) nodes ≡ nodes = take_whole nodes (length c.loop-count.yielded) (omega (arith, t.1, length-enumerate_from 0 nodes)) in
    placed_alone c.filled.result (policies_from e 0 nodes) (c.filled.ensures (seen_policies e nodes) (gives_at (set_view c.loop-count.set) c.loop-count.all _ _ (ap (seen_policies e) (sym whole)) c.loop-count.invariant.1))
