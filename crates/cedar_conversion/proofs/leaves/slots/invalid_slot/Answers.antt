use Rattle.std.proofs.Common.{refl}
use Rattle.cedar_syntax.specs.declared.err.to_ast.ToASTErrorKind.TheVariants.{InvalidSlot}
use Rattle.cedar_conversion.specs.outcome.Detail.{spelling}
use Rattle.cedar_conversion.specs.outcome.Outcome.{invalid_slot}
use Rattle.cedar_conversion.proofs.Outcomes.{made_telling}
use Rattle.cedar_conversion.proofs.leaves.slots.invalid_slot.Goals as goal

pub returns : goal.returns
returns c = c.refusal_with.ensures invalid_slot (spelling c.args.text.now) (made_telling _ _ (λ x. InvalidSlot x) c.args.text.now invalid_slot (spelling c.args.text.now) c.try_clone.ensures (refl, refl) c.map-kind.ensures.cases)
