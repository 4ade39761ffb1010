use Rattle.std.proofs.Common.{arith, ◌^◌, ◌<◌}
use Rattle.cedar_conversion.proofs.Walked.{on_ok}
use Rattle.cedar_writer.proofs.NumbersWritten.{number_added}
use Rattle.cedar_writer.proofs.output.Output.number.Goals as goal

pub returns : goal.returns
returns c =
    let h : c.args.number < 2 ^ 64 = omega (arith, c.ranges.number.fits) in
    on_ok c.push_number.result (λ last. number_added c.args.self.now _ c.args.number _ h c.in_ok-begin.ensures.text last c.in_ok-begin.ensures.edge) c.push_number.ensures
