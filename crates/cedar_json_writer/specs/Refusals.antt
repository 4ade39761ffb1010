-- What is shown of why a value isn't written. The texts are this repository's own.
use Rattle.std.specs.Prelude.{ℕ, List, ◌++◌, codes, string_bytes}
use Rattle.cedar_json_writer.specs.declared.refusal.ToJsonError.{ToJsonError}
use Rattle.cedar_json_writer.specs.declared.refusal.ToJsonError.TheVariants.{Memory, OperatorKey}

abbrev pub to_json_error_text : ToJsonError → List ℕ
to_json_error_text (Memory _) = codes "want of memory"
to_json_error_text (OperatorKey name) =
    codes "the function `"
    ++ (string_bytes name ++ codes "` has the key of an operator as its name")
