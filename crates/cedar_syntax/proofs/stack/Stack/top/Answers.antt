use Rattle.std.proofs.Common.{ap, ◌∙◌}
use Rattle.std.specs.Prelude.{reverse}
use Rattle.cedar_syntax.proofs.Newest.{top_got}
use Rattle.cedar_syntax.proofs.stack.Stack.top.Goals as goal

pub returns : goal.returns
returns g c = top_got c.deref.result.now _ c.last.result (ap reverse c.deref.ensures.value ∙ c.self.view_is) c.last.ensures.value
