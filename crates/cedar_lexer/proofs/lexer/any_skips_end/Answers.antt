-- One more skip.
use Rattle.std.proofs.Common.{arith, subst}
use Rattle.cedar_lexer.specs.Cut.{nothing}
use Rattle.cedar_lexer.specs.Scan.{IsSkipLen}
use Rattle.cedar_lexer.proofs.Steps.{passed_skip}
use Rattle.cedar_lexer.proofs.lexer.any_skips_end.Goals as goal

pub loop-from-init : goal.loop-from-init
loop-from-init c = record { laid = nothing; onward = omega arith; boundary = c.requires }

pub loop-from-preserved : goal.loop-from-preserved
loop-from-preserved c =
    passed_skip c.args.text.now c.args.from c.loop-from.at c.skip_len-len.result c.utf8.text c.loop-from.invariant
    (subst (λ t. IsSkipLen t c.skip_len-len.result) c.range_from.ensures.value c.skip_len-len.ensures) (omega arith)
