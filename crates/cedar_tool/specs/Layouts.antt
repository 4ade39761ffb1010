-- What `format` makes of a text and of what it is laid out as.
use Rattle.std.specs.Prelude.{◌≡◌, ◌≢◌, ◌⊎◌, ℕ, List, Option}
use Rattle.cedar_report.specs.declared.finding.Finding.{Finding}
use Rattle.cedar_tool.specs.declared.ending.Verdict.{Verdict}
use Rattle.cedar_tool.specs.declared.ending.Verdict.TheVariants.{Accepted, Refused, Failed}
use Rattle.cedar_tool.specs.declared.request.Format.{Format}
use Rattle.cedar_tool.specs.declared.streams.Console.{Console}
use Rattle.cedar_tool.specs.Disks.{Files, Puts}
use Rattle.cedar_tool.specs.Told.{IsToldOn, TellsLayout}

-- With `--check`: they are the same, and nothing is said, or where they part is told.
abbrev pub Compares : {O E : Type 0} → (O → Option (List ℕ)) → Format → List ℕ → List ℕ
    → List ℕ → Console O E → Console O E → Verdict → Type 0
Compares contents format name text laid old new Accepted = (laid ≡ text) × (new ≡ old)
Compares contents format name text laid old new Refused = (laid ≢ text)
    × ((findings : List Finding) × TellsLayout text laid findings
    × IsToldOn contents format name findings old new)
Compares contents format name text laid old new Failed = ⊥

-- With `--write`: they are the same, and the disk isn't touched; or the one takes the place of the
-- other; or that failed, and all files are as they were.
abbrev pub Rewrites : {D : Type 0} → (D → Option Files) → List ℕ → List ℕ → List ℕ → D → D
    → Verdict → Type 0
Rewrites files name text laid old new Accepted =
    ((laid ≡ text) × (new ≡ old)) ⊎ ((laid ≢ text) × Puts (files old) (files new) name laid)
Rewrites files name text laid old new Refused = ⊥
Rewrites files name text laid old new Failed = (laid ≢ text) × (files new ≡ files old)
