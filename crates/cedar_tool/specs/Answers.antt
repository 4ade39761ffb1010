-- What a run makes of its texts: what it judges of each, what it writes of it to standard output,
-- and what its file holds then.
use Rattle.std.specs.Prelude.{◌≡◌, ◌≢◌, ◌⊎◌, ◌++◌, ℕ, List, [], ◌∷◌, Option}
use Rattle.std.specs.Str.{IsUtf8}
use Rattle.cedar_layout.specs.declared.options.LayoutOptions.{LayoutOptions}
use Rattle.cedar_policy_store.specs.PlaceFree as free
use Rattle.cedar_policy_store.specs.PolicyMaps.{PolicyMaps}
use Rattle.cedar_syntax.specs.declared.cst.Policies.{Policies}
use Rattle.cedar_syntax.specs.trees.Trees.{Cell}
use Rattle.cedar_grammar.specs.grammar.Grammar.{IsTreeOf}
use Rattle.cedar_grammar.specs.grammar.LoosePolicies.{ReadsPolicies}
use Rattle.cedar_conversion.specs.strict.Extensions.{Extensions}
use Rattle.cedar_conversion.specs.strict.Table.{table_of}
use Rattle.cedar_report.specs.declared.finding.Finding.{Finding}
use Rattle.cedar_report.specs.Encoding.{TellsEncoding}
use Rattle.cedar_policy_parser.specs.meaning.Formatted.{MeansSet}
use Rattle.cedar_policy_parser.specs.meaning.LaidOut.{IsLayoutOf}
use Rattle.cedar_tool.specs.declared.ending.Verdict.{Verdict}
use Rattle.cedar_tool.specs.declared.ending.Verdict.TheVariants.{Accepted, Refused, Failed}
use Rattle.cedar_tool.specs.declared.request.Format.{Format}
use Rattle.cedar_tool.specs.declared.request.Purpose.TheVariants as purpose
use Rattle.cedar_tool.specs.declared.request.Request.{Request}
use Rattle.cedar_tool.specs.declared.request.Task.{Task}
use Rattle.cedar_tool.specs.declared.request.Task.TheVariants.{Check, List as Listing, Format as Formatting}
use Rattle.cedar_command.specs.Streams.{Writing, AreBytesWritten}
use Rattle.cedar_tool.specs.Disks.{Files, Has, Lacks, Puts}
use Rattle.cedar_tool.specs.Listed.{listed_data, AreJsonLines}
use Rattle.cedar_tool.specs.Told.{Finds, lines_told}

-- a text means policies that call no extension but those of a table
abbrev pub HasMeaning : Extensions → List ℕ → Type 0
HasMeaning table text = (set : free.Policies) × MeansSet table text set

-- a text has a tree of policies, whether that means something or not
abbrev pub HasPolicies : List ℕ → Type 0
HasPolicies text = (tree : Cell Policies) × IsTreeOf ReadsPolicies text tree

-- these are the lines of a set that a text means, which is read under a name
abbrev pub AreListed : Extensions → List ℕ → List ℕ → List ℕ → Type 0
AreListed table name text out = (set : PolicyMaps) × MeansSet table text (free.set_meaning set)
    × AreJsonLines (listed_data name text set) out

-- What is written of a text under a name, where all that is asked of it holds. `format` with
-- `--write` or `--check` finds it laid out already.
abbrev pub Meets : Task → Extensions → List ℕ → List ℕ → List ℕ → Type 0
Meets Check table name text out = HasMeaning table text × (out ≡ [])
Meets Listing table name text out = AreListed table name text out
Meets (Formatting options purpose.Print) table name text out = IsLayoutOf options text out
Meets (Formatting options purpose.Write) table name text out =
    IsLayoutOf options text text × (out ≡ [])
Meets (Formatting options purpose.Check) table name text out =
    IsLayoutOf options text text × (out ≡ [])

-- What is asked of a text doesn't hold of it: it has no such meaning, no such tree, or is laid out
-- otherwise.
abbrev pub Denies : Task → Extensions → List ℕ → Type 0
Denies Check table text = ¬ HasMeaning table text
Denies Listing table text = ¬ HasMeaning table text
Denies (Formatting options purpose.Print) table text = ¬ HasPolicies text
Denies (Formatting options purpose.Write) table text = ¬ HasPolicies text
Denies (Formatting options purpose.Check) table text =
    (¬ HasPolicies text) ⊎ ((laid : List ℕ) × IsLayoutOf options text laid × (laid ≢ text))

-- A verdict on a text, its file left as it was, and what is written of it to standard output: of a
-- refused one just its findings, where they are told as JSON.
pub data Judges (task : Task) (format : Format) (table : Extensions) (name text : List ℕ) :
    List ℕ → Verdict → Type 0 where
  accepted : (out : List ℕ) → Meets task table name text out →
      Judges task format table name text out Accepted
  refused : (findings : List Finding) → Denies task table text →
      Finds task table text findings →
      Judges task format table name text (lines_told format name findings) Refused
  no_text : (shown : List ℕ) (findings : List Finding) → ¬ IsUtf8 text →
      TellsEncoding text shown findings →
      Judges task format table name text (lines_told format name findings) Refused

-- the same of a writer of standard output, where its bytes are known
abbrev pub IsJudged : Task → Format → Extensions → List ℕ → List ℕ → Verdict → Writing → Type 0
IsJudged task format table name text verdict w =
    (out : List ℕ) × Judges task format table name text out verdict × AreBytesWritten out w

-- What becomes of a text under a name, and of the disk. A file is written only under
-- `format --write`, where its bytes change, with its layout.
pub data Serves {D : Type 0} (files : D → Option Files) (task : Task) (format : Format)
    (table : Extensions) (name text : List ℕ) (disk : D) : D → List ℕ → Verdict → Type 0 where
  judged : (after : D) (out : List ℕ) (verdict : Verdict) → after ≡ disk →
      Judges task format table name text out verdict →
      Serves files task format table name text disk after out verdict
  written : (after : D) (options : LayoutOptions) (laid : List ℕ) →
      task ≡ Formatting options purpose.Write → IsLayoutOf options text laid → laid ≢ text →
      Puts (files disk) (files after) name laid →
      Serves files task format table name text disk after [] Accepted
  unwritten : (after : D) (options : LayoutOptions) (laid : List ℕ) →
      task ≡ Formatting options purpose.Write → IsLayoutOf options text laid → laid ≢ text →
      files after ≡ files disk →
      Serves files task format table name text disk after [] Failed

-- the same of a writer of standard output
abbrev pub IsServed : {D : Type 0} → (D → Option Files) → Task → Format → Extensions → List ℕ
    → List ℕ → D → D → Verdict → Writing → Type 0
IsServed files task format table name text disk after verdict w =
    (out : List ℕ) × Serves files task format table name text disk after out verdict
    × AreBytesWritten out w

-- what becomes of a file, or of its name where no text can be had under it
pub data Tries {D : Type 0} (files : D → Option Files) (task : Task) (format : Format)
    (table : Extensions) (name : List ℕ) (disk : D) : D → List ℕ → Verdict → Type 0 where
  read : (text : List ℕ) (after : D) (out : List ℕ) (verdict : Verdict) →
      Has (files disk) name text →
      Serves files task format table name text disk after out verdict →
      Tries files task format table name disk after out verdict
  lacking : (after : D) → after ≡ disk → Lacks (files disk) name →
      Tries files task format table name disk after [] Failed

-- the verdict on two texts: the worse
abbrev pub worse : Verdict → Verdict → Verdict
worse Failed other = Failed
worse Refused Failed = Failed
worse Refused Accepted = Refused
worse Refused Refused = Refused
worse Accepted other = other

-- All files are tried, one after the other, whatever one of them says; what is written of one
-- stands behind what is written of those before it.
pub data TriesAll {D : Type 0} (files : D → Option Files) (task : Task) (format : Format)
    (table : Extensions) (disk : D) : List (List ℕ) → D → List ℕ → Verdict → Type 0 where
  none : (after : D) → after ≡ disk →
      TriesAll files task format table disk [] after [] Accepted
  one_more : (names : List (List ℕ)) (name : List ℕ) (between after : D)
      (out more : List ℕ) (verdict last : Verdict) →
      TriesAll files task format table disk names between out verdict →
      Tries files task format table name between after more last →
      TriesAll files task format table disk (names ++ (name ∷ [])) after (out ++ more)
      (worse verdict last)

-- a file, or files, of a request, and a writer of standard output
abbrev pub IsTried : {D : Type 0} → (D → Option Files) → Request → List ℕ → D → D → Verdict
    → Writing → Type 0
IsTried files request name disk after verdict w =
    (out : List ℕ)
    × Tries files request.task request.format (table_of request.styles) name disk after out verdict
    × AreBytesWritten out w

abbrev pub AreTried : {D : Type 0} → (D → Option Files) → Request → List (List ℕ) → D → D
    → Verdict → Writing → Type 0
AreTried files request names disk after verdict w =
    (out : List ℕ)
    × TriesAll files request.task request.format (table_of request.styles) disk names after out
    verdict
    × AreBytesWritten out w
