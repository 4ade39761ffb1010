use Rattle.std.proofs.Common.{◌<◌, length, refl, sym, ap, ◌∙◌, subst, arith}
use Rattle.std.specs.List.{list_all}
use Rattle.cedar_policy_store.specs.Actions.{is_action, but_actions}
use Rattle.cedar_policy_store.proofs.ActionTypes.{none_but, some_but}
use Rattle.cedar_policy_store.proofs.constraints.all_but_actions.Goals as goal

pub returns-then-are_actions : goal.returns-then-are_actions
returns-then-are_actions c =
    (refl, none_but c.args.entities (ap (list_all is_action) (sym c.as_slice.ensures) ∙ sym c.are_actions.ensures ∙ c.if-are_actions.true))

pub remove-first-requires : goal.remove-first-requires
remove-first-requires c =
    let some = some_but c.args.entities (ap (list_all is_action) (sym c.as_slice.ensures) ∙ sym c.are_actions.ensures ∙ c.if-are_actions.false) in
    let same = c.in_ok-others.ensures ∙ ap but_actions c.into_vec.ensures in
    let kept = subst (λ xs. 0 < length xs) (sym same) some in
    omega (arith, kept, c.in_ok-others.others.ok)
