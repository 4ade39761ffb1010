use Rattle.std.proofs.Common.{map, take}
use Rattle.cedar_tool.specs.Answers.{AreTried}
use Rattle.cedar_tool.specs.Streams.{SpeaksOf, output_writing}
use Rattle.cedar_tool.proofs.serve.serve_files.Given as goal

-- the files so far are tried, and what they call for is said
abbrev pub invariant-loop-name : goal.invariant-loop-name
invariant-loop-name g l =
    AreTried g.D.Disk.files l.request (map (λ name. name.now) (take l.name-index l.names)) l.fn.disk l.disk l.verdict (output_writing g.O.Write.contents l.fn.console.output l.console.output)
    × SpeaksOf l.verdict l.request.format l.fn.console.errors l.console.errors
