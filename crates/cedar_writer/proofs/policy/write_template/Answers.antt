use Rattle.std.proofs.Common.{[], map, subst, Result}
use Rattle.std.specs.FinMap.{entries}
use Rattle.std.specs.Option.{option_copied, option_map}
use Rattle.cedar_expressions.specs.Meaning.{unplaced}
use Rattle.cedar_conversion.specs.declared.styles.ExtStyles.{ExtStyles}
use Rattle.cedar_conversion.specs.strict.Table.{table_of}
use Rattle.cedar_policy_store.specs.declared.template.Template.{Template}
use Rattle.cedar_policy_store.specs.PlaceFree.{at_value, annotation_value}
use Rattle.cedar_syntax.specs.tokens.Signs.{sign_limit}
use Rattle.cedar_writer.specs.WrittenPolicies.{annotations_words, effect_words, scope_words, conditions_of, conditions_words, policy_words, AreWritableAnnotations, IsWritablePolicy}
use Rattle.cedar_writer.specs.WrittenTexts.{written_parts}
use Rattle.cedar_writer.specs.declared.output.Output.{Output}
use Rattle.cedar_writer.specs.declared.refusal.NotWritten.{NotWritten}
use Rattle.cedar_writer.specs.machines.Policies.{IsUnwritable, Writes}
use Rattle.cedar_writer.specs.machines.Outputs.{Adds}
use Rattle.cedar_writer.proofs.PoliciesAdded.{policy_added, policy_writable, scope_refused, conditions_refused}
use Rattle.cedar_writer.proofs.Refusals.{handed_on}
use Rattle.cedar_writer.proofs.policy.write_template.Goals as goal

abbrev Whole : ExtStyles → Template → Output → Output → Result (Unit {0}) NotWritten → Type 0
Whole styles t a b r = Writes (policy_words (table_of styles) (written_parts t)) (IsWritablePolicy (table_of styles) sign_limit (written_parts t)) (IsUnwritable (table_of styles) sign_limit (written_parts t)) r a b

pub returns-in_err-write_scope : goal.returns-in_err-write_scope
returns-in_err-write_scope c =
    handed_on c.from_residual-in_err-write_scope.result c.in_err-write_scope.field-0.0 (Whole c.args.styles.now c.args.template.now c.args.out.now c.write_scope.new.out) c.from_residual-in_err-write_scope.ensures.1
    (scope_refused (table_of c.args.styles.now) sign_limit c.args.template.now c.args.template.now.condition c.args.out.now c.word.new.self c.write_scope.new.out c.in_err-write_scope.field-0.0 (scope_words (written_parts c.args.template.now).principal (written_parts c.args.template.now).action (written_parts c.args.template.now).resource) c.in_err-write_scope.ensures)

pub returns-in_err-write_condition_parts : goal.returns-in_err-write_condition_parts
returns-in_err-write_condition_parts c =
    handed_on c.from_residual-in_err-write_condition_parts.result c.in_err-write_condition_parts.field-0.0 (Whole c.args.styles.now c.args.template.now c.args.out.now c.write_condition_parts.new.out) c.from_residual-in_err-write_condition_parts.ensures.1
    (conditions_refused (table_of c.args.styles.now) sign_limit c.args.template.now (option_copied c.non_scope_constraints.result) c.args.out.now c.word-2.new.self c.write_condition_parts.new.out
    c.in_err-write_condition_parts.field-0.0 (conditions_words (table_of c.args.styles.now) (conditions_of (option_map unplaced (option_copied c.non_scope_constraints.result))) []) c.non_scope_constraints.ensures c.in_err-write_condition_parts.ensures)

pub returns : goal.returns
returns c =
    let table = table_of c.args.styles.now in
    let t = c.args.template.now in
    let o = option_copied c.non_scope_constraints.result in (
      policy_added table sign_limit t o c.non_scope_constraints.ensures
          (subst (λ m. Adds c.args.out.now c.write_annotations.new.out (annotations_words (map (at_value annotation_value) (entries m)) [])) c.annotations.ensures c.in_ok-write_annotations.ensures.words)
          (subst (λ x. Adds c.write_annotations.new.out c.write_effect.new.out (effect_words x)) c.effect.ensures c.in_ok-write_effect.ensures)
          c.in_ok-word.ensures c.in_ok-write_scope.ensures.0 c.in_ok-word-2.ensures c.in_ok-write_condition_parts.ensures.0 c.in_ok-word-3.ensures,
      policy_writable table sign_limit t o c.non_scope_constraints.ensures
          (subst (λ m. AreWritableAnnotations (map (at_value annotation_value) (entries m))) c.annotations.ensures c.in_ok-write_annotations.ensures.writable)
          c.in_ok-write_scope.ensures.1 c.in_ok-write_condition_parts.ensures.1,
    )
