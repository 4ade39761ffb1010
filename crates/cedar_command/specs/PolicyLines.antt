-- What the command `policies` writes of a set: a line for each policy, in the order of their
-- numbers, and one with how many they are.
use Rattle.std.specs.Prelude.{ℕ, zero, suc, List, [], ◌++◌, Bool, true, false, codes, length, ◌+◌, ◌-◌, ◌^◌, min}
use Rattle.std.specs.Fmt.{decimal}
use Rattle.std.specs.FinMap.{get, values}
use Rattle.std.specs.Option.{is_some}
use Rattle.cedar_policy_store.specs.PolicyMaps.{PolicyMaps}
use Rattle.cedar_policy_conversion.specs.PolicyMeaning.{policy_id}
use Rattle.cedar_policy_parser.specs.meaning.Formatted.{MeansSet}
use Rattle.cedar_policy_store.specs.PlaceFree.{set_meaning}
use Rattle.cedar_conversion.specs.strict.Extensions.{Extensions}
use Rattle.cedar_command.specs.Streams.{Writing, AreBytesWritten}

-- the line of a policy of this kind, where there is one
abbrev pub kind_line : Bool → List ℕ → List ℕ → List ℕ
kind_line true id kind = id ++ codes " " ++ kind ++ codes "\n"
kind_line false id kind = []

-- a set's line for the policy of a name: as a static policy, or as a template
abbrev pub policy_line : PolicyMaps → List ℕ → List ℕ
policy_line set id =
    kind_line (is_some (get set.policies id)) id (codes "static")
    ++ kind_line (is_some (get set.templates id)) id (codes "template")

-- those of the first numbers
abbrev pub policy_lines : PolicyMaps → ℕ → List ℕ
policy_lines set zero = []
policy_lines set (suc n) = policy_lines set n ++ policy_line set (policy_id n)

-- how many policies a set has, the templates among them: a `usize`
abbrev pub set_size : PolicyMaps → ℕ
set_size set = min (length (values set.policies) + length (values set.templates)) (2 ^ 64 - 1)

abbrev pub set_lines : PolicyMaps → List ℕ
set_lines set =
    policy_lines set (set_size set) ++ (codes "ok " ++ decimal (set_size set) ++ codes "\n")

-- the lines of a set's first policies are written
abbrev pub AreFirstLinesWritten : PolicyMaps → Writing → Type 0
AreFirstLinesWritten set w = (n : ℕ) × AreBytesWritten (policy_lines set n) w

-- those of a set that a text means under a table
abbrev pub IsSetBegun : Extensions → List ℕ → Writing → Type 0
IsSetBegun table text w =
    (set : PolicyMaps) × MeansSet table text (set_meaning set) × AreFirstLinesWritten set w

-- all of them are written
abbrev pub IsSetWritten : Extensions → List ℕ → Writing → Type 0
IsSetWritten table text w =
    (set : PolicyMaps) × MeansSet table text (set_meaning set) × AreBytesWritten (set_lines set) w
