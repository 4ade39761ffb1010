use Rattle.std.proofs.Common.{length, map}
use Rattle.cedar_tool.proofs.Stopping.{not_zero, something_in, treated_files}
use Rattle.cedar_tool.proofs.serve.serve.Goals as goal

pub returns-clause-treated : goal.returns-clause-treated
returns-clause-treated g c =
    let names = c.args.names.now in
    treated_files c.args.request.now _ (map (λ name. name.now) names) c.serve_files.result _ (something_in (λ name. name.now) names (not_zero (length names) c.is_empty.result c.is_empty.ensures c.if-is_empty.false))
    c.serve_files.ensures.tried
