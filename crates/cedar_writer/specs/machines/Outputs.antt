-- A line of words that is being written.
use Rattle.std.specs.Prelude.{◌≡◌, List, ◌++◌}
use Rattle.std.specs.String.{string_bytes}
use Rattle.cedar_lexer.specs.Words.{TokenText}
use Rattle.cedar_writer.specs.declared.output.Output.{Output}
use Rattle.cedar_writer.specs.Spacing.{Edge, text_behind}
use Rattle.cedar_writer.specs.machines.Lines.{line_edge, edge_of}

abbrev pub edge_seen : Output → Edge
edge_seen out = line_edge out.before out.last

-- these words were written behind what was there
pub record Adds (old new : Output) (ws : List TokenText) : Type 0 where
  pub text : string_bytes new.text ≡ string_bytes old.text ++ text_behind (edge_seen old) ws
  pub edge : edge_seen new ≡ edge_of (edge_seen old) ws
