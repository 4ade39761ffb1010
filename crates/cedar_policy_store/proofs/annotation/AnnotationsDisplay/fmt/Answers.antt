use Rattle.std.proofs.Common.{◌++◌, codes, refl, ap, ◌∙◌}
use Rattle.std.proofs.Output.{has_written_of_eq}
use Rattle.std.specs.FinMap.{entries}
use Rattle.cedar_expressions.specs.Escapes.{escaped_text}
use Rattle.cedar_policy_store.specs.PolicyText.{annotation_text}
use Rattle.cedar_policy_store.proofs.PolicyShown.{one_shown, annotation_written}
use Rattle.cedar_policy_store.proofs.annotation.AnnotationsDisplay.fmt.Goals as goal

pub loop-key-preserved : goal.loop-key-preserved
loop-key-preserved g c =
    one_shown g.W.Write.write_str_gives annotation_text _ _ _ (entries c.args.self.now) c.loop-key.key-iterator c.next.new.self (c.in-Some.key.now, c.in-Some.annotation.now) c.loop-key.invariant
    c.in-Some.ensures.steps
    (λ plain. has_written_of_eq g.W.Write.write_str_gives _ _ _ _
    (ap (λ t. codes "@" ++ (c.in-Some.key.now ++ (codes "(\"" ++ (escaped_text t ++ codes "\") ")))) (c.new.ensures ∙ c.as_str.ensures) ∙ annotation_written c.in-Some.key.now c.in-Some.annotation.now)
    (c.in_ok-write.ensures.writes plain refl))
