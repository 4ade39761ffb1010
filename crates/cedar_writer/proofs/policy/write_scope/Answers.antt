use Rattle.std.proofs.Common.{◌≡◌, ap, ◌∙◌, subst, codes}
use Rattle.cedar_lexer.specs.declared.token.TokenKind.TheVariants as kind
use Rattle.cedar_policy_store.specs.PlaceFree.{constraint_meaning}
use Rattle.cedar_writer.specs.WrittenPolicies.{asks_words, action_words, IsWritableConstraint, IsWritableAction}
use Rattle.cedar_writer.specs.machines.Outputs.{Adds}
use Rattle.cedar_writer.proofs.PoliciesAdded.{scope_added}
use Rattle.cedar_writer.proofs.policy.write_scope.Goals as goal

pub returns : goal.returns
returns c =
    let t = c.args.template.now in
    let p : c.as_inner.result.now ≡ t.principal.constraint = c.as_inner.ensures ∙ ap (λ x. x.constraint) c.principal_constraint.ensures in
    let r : c.as_inner-2.result.now ≡ t.resource.constraint = c.as_inner-2.ensures ∙ ap (λ x. x.constraint) c.resource_constraint.ensures in (
      scope_added (constraint_meaning t.principal.constraint) (constraint_meaning t.resource.constraint) t.action
          c.in_ok-word.ensures
          (subst (λ x. Adds c.word.new.self c.write_principal.new.out (asks_words kind.PrincipalSlot (codes "?principal") (constraint_meaning x))) p c.in_ok-write_principal.ensures.words)
          c.in_ok-word-2.ensures c.in_ok-word-3.ensures
          (subst (λ x. Adds c.word-3.new.self c.write_action.new.out (action_words x)) c.action_constraint.ensures c.in_ok-write_action.ensures.0)
          c.in_ok-word-4.ensures c.in_ok-word-5.ensures
          (subst (λ x. Adds c.word-5.new.self c.write_resource.new.out (asks_words kind.ResourceSlot (codes "?resource") (constraint_meaning x))) r c.in_ok-write_resource.ensures.words),
      (
        subst (λ x. IsWritableConstraint (constraint_meaning x)) p c.in_ok-write_principal.ensures.writable,
        subst IsWritableAction c.action_constraint.ensures c.in_ok-write_action.ensures.1,
        subst (λ x. IsWritableConstraint (constraint_meaning x)) r c.in_ok-write_resource.ensures.writable,
      ),
    )
