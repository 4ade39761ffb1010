-- What is said of a text that JSON is written as, and of a refusal.
use Rattle.std.specs.Prelude.{◌≡◌, ℕ, List, ◌∷◌, string_bytes}
use Rattle.json.specs.Json.{Json}
use Rattle.json.specs.Lex.{tokens}
use Rattle.json.specs.Print.{print}
use Rattle.json.specs.Tree.{json_tokens}
use Rattle.cedar_json_writer.specs.declared.refusal.ToJsonError.{ToJsonError}
use Rattle.cedar_json_writer.specs.declared.refusal.ToJsonError.TheVariants.{Memory, OperatorKey}

-- the text is the JSON, without a space, and cuts into its tokens
pub record IsJsonText (j : Json) (text : List ℕ) : Type 0 where
  pub bytes : text ≡ print (json_tokens j)
  pub tokens : tokens text ≡ json_tokens j

-- the first of the functions that are called by an operator's key is what is told; unless it was
-- want of memory
abbrev pub TellsFirst : List (List ℕ) → ToJsonError → Type 0
TellsFirst called (Memory _) = Unit {0}
TellsFirst called (OperatorKey name) =
    (others : List (List ℕ)) × (called ≡ string_bytes name ∷ others)
