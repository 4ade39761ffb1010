-- The place of a fault of a tree.
use Rattle.std.specs.Prelude.{Option}
use Rattle.std.specs.Option.{option_map}
use Rattle.cedar_syntax.specs.places.Span.{Span}
use Rattle.cedar_syntax.specs.declared.err.to_ast.ToASTError.{ToASTError}

-- the bytes of the place, where the fault has one
abbrev pub span_of_ast : ToASTError → Option Span
span_of_ast fault = option_map (λ loc. loc.span) fault.loc
