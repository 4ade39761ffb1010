-- What a call that writes policies anew says of its text.
use Rattle.std.proofs.Common.{ℕ, List, Result, Ok, Err, String, IfOk, IfErr, string_bytes}
use Rattle.cedar_layout.specs.declared.options.LayoutOptions.{LayoutOptions}
use Rattle.cedar_layout.specs.Pieces.{SpacedItem, IsReadAs}
use Rattle.cedar_layout.specs.Widths.{KeepsWidth}
use Rattle.cedar_syntax.specs.declared.err.faults.Failure.{Failure}
use Rattle.cedar_syntax.specs.faults.ParseErrors.{IsMemory}
use Rattle.cedar_conversion.specs.strict.Extensions.{Extensions}
use Rattle.cedar_policy_parser.specs.meaning.Formatted.{Formats, IsInLines, MeanTheSame}
use Rattle.cedar_policy_parser.specs.meaning.LaidOut.{EndsItsLines, Keeps, LaysOut}
use Rattle.cedar_answers.specs.Answers.{AreLinesFor, HasPolicyTree, IsLaidOutText, MeansPolicySet}

module _ {A : Type 0} (table : Extensions) (text : List ℕ) where
  pub lines_meant : (r : Result (String A) Failure) → IfOk r (λ lines. MeanTheSame table text (string_bytes lines)) → IfOk r (λ lines. MeansPolicySet table text)
  lines_meant (Ok lines) same = (same.0, same.1)
  lines_meant (Err f) same = tt

  pub lines_for : (r : Result (String A) Failure) → Formats table text r → IfOk r (λ lines. MeanTheSame table text (string_bytes lines)) → IfOk r (λ lines. IsInLines (string_bytes lines)) → IfOk r (λ lines. AreLinesFor table text (string_bytes lines))
  lines_for (Ok lines) formats same stay = record { lines_of = formats.lines; same = same; stay = stay }
  lines_for (Err f) formats same stay = tt

  pub lines_only : (r : Result (String A) Failure) → Formats table text r → MeansPolicySet table text → IfErr r IsMemory
  lines_only r formats meant = formats.only meant.0 meant.1

module _ {A : Type 0} (options : LayoutOptions) (text : List ℕ) where
  pub laid_read : (r : Result (String A) Failure) → LaysOut options text r → IfOk r (λ out. HasPolicyTree text)
  laid_read (Ok out) lays = lays.read
  laid_read (Err f) lays = tt

  pub laid_for : (r : Result (String A) Failure) → LaysOut options text r → IfOk r (λ out. Keeps text (string_bytes out)) → IfOk r (λ out. EndsItsLines (string_bytes out))
      → IfOk r (λ out. (ps : List SpacedItem) → IsReadAs text ps → KeepsWidth options.width ps (string_bytes out)) → IfOk r (λ out. IsLaidOutText options text (string_bytes out))
  laid_for (Ok out) lays keeps lines width = record { laid = lays.laid; keeps = keeps; lines = lines; width = width }
  laid_for (Err f) lays keeps lines width = tt

  pub laid_only : (r : Result (String A) Failure) → LaysOut options text r → HasPolicyTree text → IfErr r IsMemory
  laid_only r lays has = lays.only has.0 has.1
