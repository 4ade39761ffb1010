use Rattle.std.proofs.Common.{sym, subst, List, ℕ, Bor}
use Rattle.std.proofs.lemmas.Result.{IfOk-weaker}
use Rattle.cedar_syntax.specs.messages.Kept.{AreInOrder}
use Rattle.cedar_syntax.proofs.KeptLemmas.{texts, in_order_texts}
use Rattle.cedar_syntax.proofs.err.expected.in_order.Goals as goal

pub returns : goal.returns
returns c =
    IfOk-weaker c.keys_of.result _ _
    (λ list e. subst (λ (l : List (Bor (List ℕ))). AreInOrder (texts c.args.names.now) (texts l)) (sym e) (in_order_texts c.args.names.now c.in_ok-set.set c.in_ok-set.ensures))
    c.keys_of.ensures
