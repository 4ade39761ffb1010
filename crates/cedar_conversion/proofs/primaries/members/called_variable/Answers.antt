use Rattle.std.proofs.Common.{refl, sym, ◌∙◌}
use Rattle.cedar_conversion.proofs.primaries.members.called_variable.Goals as goal

pub returns-then-begins_call : goal.returns-then-begins_call
returns-then-begins_call g c meaning =
    let calls = sym (c.begins_call.ensures meaning) ∙ c.if-begins_call.true in
    rw calls c.variable_of.ensures

pub returns-else-begins_call : goal.returns-else-begins_call
returns-else-begins_call g c meaning =
    let calls = sym (c.begins_call.ensures meaning) ∙ c.if-begins_call.false in
    rw calls refl
