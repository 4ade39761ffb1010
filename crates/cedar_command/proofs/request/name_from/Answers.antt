use Rattle.std.proofs.Common.{◌≡◌, ℕ, List, sym, ap, ◌∙◌, true≢false}
use Rattle.cedar_expressions.specs.Path.{Path, has_reserved_namespace}
use Rattle.cedar_command.proofs.Spelled.{unreserved}
use Rattle.cedar_command.proofs.request.name_from.Goals as goal

pub returns : goal.returns
returns c =
    let name : Path = record { path = c.args.path.items; id = c.args.last } in
    let last : c.from.result ≡ c.args.last = c.from.ensures in
    let named = λ (id : List ℕ). has_reserved_namespace (record { path = c.args.path.items; id = id }) in
    absurd (true≢false (sym c.in-Err.ensures.1 ∙ ap has_reserved_namespace c.new.ensures ∙ ap named last ∙ unreserved name c.requires))
