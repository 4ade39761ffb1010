use Rattle.std.proofs.Common.{subst}
use Rattle.std.specs.FinMap.{entries}
use Rattle.std.specs.Str.{IsUtf8}
use Rattle.cedar_writer.specs.WrittenPolicies.{annotation_words}
use Rattle.cedar_writer.specs.machines.Outputs.{Adds}
use Rattle.cedar_writer.proofs.AnnotationsWritten.{noted_on}
use Rattle.cedar_writer.proofs.policy.write_annotations.Goals as goal

pub loop-key-preserved : goal.loop-key-preserved
loop-key-preserved c =
    noted_on c.args.out.now c.loop-key.out c.write_annotation.new.out (entries c.args.annotations.now) c.loop-key.key-iterator c.next.new.self c.in-Some.key.now c.in-Some.annotation.now c.loop-key.invariant
    c.in-Some.ensures.steps
    (subst (λ k. Adds c.loop-key.out c.write_annotation.new.out (annotation_words k c.in-Some.annotation.now.value)) c.as_str.ensures.same
    (subst (λ t. Adds c.loop-key.out c.write_annotation.new.out (annotation_words c.as_str.result.now t)) c.as_str-in-loop-key.ensures c.in_ok-write_annotation.ensures.words))
    c.as_str.ensures.spelled
    (subst IsUtf8 c.as_str-in-loop-key.ensures c.in_ok-write_annotation.ensures.writable)
