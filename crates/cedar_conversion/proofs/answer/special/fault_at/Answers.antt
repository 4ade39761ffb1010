use Rattle.std.proofs.Common.{◌∷◌, [], ap, ◌∙◌}
use Rattle.cedar_syntax.specs.faults.ParseErrors.{faults_of}
use Rattle.cedar_syntax.specs.declared.err.faults.ParseError.TheVariants.{ToAST}
use Rattle.cedar_syntax.specs.declared.err.to_ast.ToASTError.{ToASTError}
use Rattle.cedar_conversion.specs.outcome.Seen.{detail_of, kind_of, named_faults}
use Rattle.cedar_conversion.proofs.Outcomes.{told_alone}
use Rattle.cedar_conversion.proofs.answer.special.fault_at.Goals as goal

pub returns : goal.returns
returns c =
    told_alone c.of_errors.result (faults_of c.from_ast-faults.result) (kind_of c.args.kind, c.args.loc, detail_of c.args.kind) c.of_errors.ensures
    (ap named_faults (c.from_ast-faults.ensures ∙ ap (λ (e : ToASTError). ToAST e ∷ []) c.new.ensures))
