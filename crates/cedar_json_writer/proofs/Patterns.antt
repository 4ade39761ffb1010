-- The parts of a pattern: characters that stand together are one part.
use Rattle.std.proofs.Common.{◌≡◌, ℕ, List, [], ◌∷◌, ◌++◌, refl}
use Rattle.json.specs.Json.{Items}
use Rattle.json.specs.Tree.{items_tokens}
use Rattle.cedar_json_writer.specs.Forms.{run_items}
use Rattle.cedar_json_writer.specs.machines.Outputs.{run_tokens}

pub run_written : (run : List ℕ) (rest : Items) → items_tokens (run_items run rest) ≡ run_tokens run ++ items_tokens rest
run_written [] rest = refl
run_written (c ∷ cs) rest = refl
