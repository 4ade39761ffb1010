use Rattle.std.proofs.Common.{◌≡◌, ℕ, List, [], ◌∷◌, length, refl, sym, ap, ◌∙◌}
use denote.Ref.{Bor}
use Rattle.std.specs.Vec.Iter.{into_iter_items}
use Rattle.either.specs.declared.Either.{Either}
use Rattle.cedar_conversion.specs.strict.Table.{table_of}
use Rattle.cedar_policy_store.specs.declared.template.Template.{Template}
use Rattle.cedar_syntax.specs.tokens.Signs.{sign_limit}
use Rattle.cedar_writer.specs.WrittenPolicies.{policies_words, AreWritablePolicies}
use Rattle.cedar_writer.specs.WrittenTexts.{template_lent, templates_lent, all_parts}
use Rattle.cedar_writer.specs.machines.Policies.{IsOneUnwritable, Writes}
use Rattle.cedar_writer.proofs.Refusals.{handed_on}
use Rattle.cedar_writer.proofs.PoliciesAdded.{none_yet, next_added, next_refused, all_added}
use Rattle.cedar_writer.proofs.sets.write_policies.Goals as goal

abbrev Lent : Type 0
Lent = Either (Bor Template) (Bor Template)

-- the next one is taken
taken : (left rest : List Lent) (x : Lent) (t : Template) → left ≡ x ∷ rest → t ≡ template_lent x → templates_lent left ≡ t ∷ templates_lent rest
taken left rest x t e f = ap templates_lent e ∙ sym (ap (λ y. y ∷ templates_lent rest) f)

none_left : (left : List Lent) → length left ≡ 0 → templates_lent left ≡ []
none_left [] h = refl
none_left (x ∷ xs) h = cc

pub loop-policy-init : goal.loop-policy-init
loop-policy-init c =
    let same : templates_lent (into_iter_items c.args.policies) ≡ templates_lent (into_iter_items c.into_iter-policy-iterator.result) = cc in
    none_yet (table_of c.args.styles.now) sign_limit c.args.out.now (templates_lent (into_iter_items c.args.policies)) (templates_lent (into_iter_items c.into_iter-policy-iterator.result)) same

pub loop-policy-preserved : goal.loop-policy-preserved
loop-policy-preserved c =
    let all = templates_lent (into_iter_items c.args.policies) in
    let left = into_iter_items c.loop-policy.policy-iterator in
    let rest = into_iter_items c.next.new.self in
    let t = c.as_template.result.now in
    next_added (table_of c.args.styles.now) sign_limit c.args.out.now c.loop-policy.out c.write_template.new.out all (templates_lent left) (templates_lent rest) t
    (taken left rest c.in-Some.policy t c.in-Some.ensures.steps.0 c.as_template.ensures) c.loop-policy.invariant c.in_ok-write_template.ensures

pub returns-in_err-write_template : goal.returns-in_err-write_template
returns-in_err-write_template c =
    let table = table_of c.args.styles.now in
    let all = templates_lent (into_iter_items c.args.policies) in
    let left = into_iter_items c.loop-policy.policy-iterator in
    let rest = into_iter_items c.next.new.self in
    let t = c.as_template.result.now in
    let why = c.in_err-write_template.field-0.0 in
    handed_on c.from_residual.result why (λ r. Writes (policies_words table (all_parts all) []) (AreWritablePolicies table sign_limit (all_parts all)) (IsOneUnwritable table sign_limit (all_parts all)) r c.args.out.now c.write_template.new.out) c.from_residual.ensures.1
    (next_refused table sign_limit c.args.out.now c.loop-policy.out c.write_template.new.out all (templates_lent left) (templates_lent rest) t why (taken left rest c.in-Some.policy t c.in-Some.ensures.steps.0 c.as_template.ensures) c.loop-policy.invariant c.in_err-write_template.ensures)

pub returns : goal.returns
returns c =
    let left = c.loop-policy.policy-iterator in
    let none : length (into_iter_items left) ≡ 0 = sym left.rest.ok.0 ∙ c.in-None.ensures.steps.0 in
    all_added (table_of c.args.styles.now) sign_limit c.args.out.now c.loop-policy.out (templates_lent (into_iter_items c.args.policies)) (templates_lent (into_iter_items left)) (none_left (into_iter_items left) none) c.loop-policy.invariant
