-- What becomes of a text, of its file and of the disk, from what the calls say.
use Rattle.std.proofs.Common.{◌≡◌, ◌<◌, ◌+◌, ℕ, List, [], ◌∷◌, ◌++◌, Option, Result, Ok, Err, IfOk, OnOk, map, length, take, get_or, Bor, refl, ap, subst, inl, inr}
use Rattle.std.proofs.lemmas.List.{map_more}
use Rattle.std.proofs.KnownBytes.{Appends-trans}
use Rattle.std.specs.Str.{IsUtf8}
use Rattle.std.specs.declared.io.Error.{Error}
use Rattle.cedar_command.specs.Streams.{Writing, AreBytesWritten}
use Rattle.cedar_layout.specs.declared.options.LayoutOptions.{LayoutOptions}
use Rattle.cedar_conversion.specs.strict.Extensions.{Extensions}
use Rattle.cedar_conversion.specs.strict.Table.{table_of}
use Rattle.cedar_policy_parser.specs.meaning.LaidOut.{IsLayoutOf}
use Rattle.cedar_report.specs.declared.finding.Finding.{Finding}
use Rattle.cedar_report.specs.Encoding.{TellsEncoding}
use Rattle.cedar_tool.specs.declared.ending.Verdict.{Verdict}
use Rattle.cedar_tool.specs.declared.ending.Verdict.TheVariants.{Accepted, Refused, Failed}
use Rattle.cedar_tool.specs.declared.request.Format.{Format}
use Rattle.cedar_tool.specs.declared.request.Purpose.{Purpose}
use Rattle.cedar_tool.specs.declared.request.Purpose.TheVariants as purpose
use Rattle.cedar_tool.specs.declared.request.Request.{Request}
use Rattle.cedar_tool.specs.declared.request.Task.{Task}
use Rattle.cedar_tool.specs.declared.request.Task.TheVariants as task
use Rattle.cedar_tool.specs.declared.streams.Console.{Console}
use Rattle.cedar_tool.specs.Disks.{Files, Has, Lacks}
use Rattle.cedar_tool.specs.Answers.{Denies, HasPolicies, Judges, IsJudged, Serves, IsServed, Tries, IsTried, TriesAll, AreTried, worse}
use Rattle.cedar_tool.specs.Layouts.{Compares, Rewrites}
use Rattle.cedar_tool.specs.Streams.{IsWant, output_writing, output_writer}
use Rattle.cedar_tool.specs.Told.{Finds, IsToldOn, lines_told}
use Rattle.cedar_tool.proofs.Bytes.{nothing_written}
use Rattle.cedar_tool.proofs.Judging.{refused, told_bytes}

-- ---- a text

-- it is judged, and no file is written
pub judged : {D : Type 0} (files : D → Option Files) (t : Task) (format : Format) (table : Extensions) (name text : List ℕ) (disk after : D) (v : Verdict) (w : Writing) → after ≡ disk
    → IsJudged t format table name text v w → IsServed files t format table name text disk after v w
judged files t format table name text disk after v w same j =
    (j.0, Serves.judged after j.0 v same j.1, j.2)

pub judged_by : {D : Type 0} (files : D → Option Files) (t : Task) (format : Format) (table : Extensions) (name text : List ℕ) (disk after : D) (r : Result Verdict Error) (w : Writing) → after ≡ disk
    → IfOk r (λ v. IsJudged t format table name text v w) → IfOk r (λ v. IsServed files t format table name text disk after v w)
judged_by files t format table name text disk after (Ok v) w same j =
    judged files t format table name text disk after v w same j
judged_by files t format table name text disk after (Err e) w same j = tt

-- bytes that are no text
pub no_text_by : {D O E : Type 0} (files : D → Option Files) (contents : O → Option (List ℕ)) (t : Task) (format : Format) (table : Extensions) (name text : List ℕ) (disk after : D) (old new : Console O E) (r : Result Verdict Error)
    → after ≡ disk → ¬ IsUtf8 text → IfOk r (λ v. v ≡ Refused)
    → OnOk r ((shown : List ℕ) × (findings : List Finding) × TellsEncoding text shown findings × IsToldOn contents format name findings old new)
    → IfOk r (λ v. IsServed files t format table name text disk after v (output_writing contents old.output new.output))
no_text_by files contents t format table name text disk after old new (Ok v) same broken is (shown, findings, tells, told) =
    rw is (judged files t format table name text disk after Refused (output_writing contents old.output new.output) same
    (lines_told format name findings, Judges.no_text shown findings broken tells, told_bytes contents format name findings old new told))
no_text_by files contents t format table name text disk after old new (Err e) same broken is told = tt

-- ---- a layout

-- it is written to standard output
pub printed_by : {D : Type 0} (files : D → Option Files) (options : LayoutOptions) (format : Format) (table : Extensions) (name text laid : List ℕ) (disk after : D) (a b : Option (List ℕ)) (r : Result Verdict Error) → after ≡ disk
    → IsLayoutOf options text laid → IfOk r (λ v. v ≡ Accepted) → OnOk r (AreBytesWritten laid (record { before = a; after = b }))
    → IfOk r (λ v. IsServed files (task.Format options purpose.Print) format table name text disk after v (record { before = a; after = b }))
printed_by files options format table name text laid disk after a b (Ok v) same lay is wrote =
    rw is (judged files (task.Format options purpose.Print) format table name text disk after Accepted (record { before = a; after = b }) same (laid, Judges.accepted laid lay, wrote))
printed_by files options format table name text laid disk after a b (Err e) same lay is wrote = tt

-- it is compared
compared : {D O E : Type 0} (files : D → Option Files) (contents : O → Option (List ℕ)) (options : LayoutOptions) (format : Format) (table : Extensions) (name text laid : List ℕ) (disk after : D) (old new : Console O E) (v : Verdict) → after ≡ disk
    → IsLayoutOf options text laid → Compares contents format name text laid old new v
    → IsServed files (task.Format options purpose.Check) format table name text disk after v (output_writing contents old.output new.output)
compared files contents options format table name text laid disk after old new Accepted same lay c =
    let itself : IsLayoutOf options text text = subst (λ l. IsLayoutOf options text l) c.0 lay in
    judged files (task.Format options purpose.Check) format table name text disk after Accepted (output_writing contents old.output new.output) same
    ([], Judges.accepted [] (itself, refl), nothing_written _ _ (ap (λ o. contents (output_writer o.output)) c.1))
compared files contents options format table name text laid disk after old new Refused same lay c =
    let findings = c.1.0 in
    judged files (task.Format options purpose.Check) format table name text disk after Refused (output_writing contents old.output new.output) same
    (refused contents (task.Format options purpose.Check) format table name text findings old new (inr (laid, lay, c.0)) (Finds.layout options laid findings refl lay c.0 c.1.1) c.1.2)
compared files contents options format table name text laid disk after old new Failed same lay c = absurd c

pub compared_by : {D O E : Type 0} (files : D → Option Files) (contents : O → Option (List ℕ)) (options : LayoutOptions) (format : Format) (table : Extensions) (name text laid : List ℕ) (disk after : D) (old new : Console O E) (r : Result Verdict Error) → after ≡ disk
    → IsLayoutOf options text laid → IfOk r (Compares contents format name text laid old new)
    → IfOk r (λ v. IsServed files (task.Format options purpose.Check) format table name text disk after v (output_writing contents old.output new.output))
compared_by files contents options format table name text laid disk after old new (Ok v) same lay c =
    compared files contents options format table name text laid disk after old new v same lay c
compared_by files contents options format table name text laid disk after old new (Err e) same lay c = tt

-- it takes the place of its file
rewritten : {D : Type 0} (files : D → Option Files) (options : LayoutOptions) (format : Format) (table : Extensions) (name text laid : List ℕ) (disk after : D) (a b : Option (List ℕ)) (v : Verdict) → b ≡ a
    → IsLayoutOf options text laid → Rewrites files name text laid disk after v
    → IsServed files (task.Format options purpose.Write) format table name text disk after v (record { before = a; after = b })
rewritten files options format table name text laid disk after a b Accepted same lay (inl (is, kept)) =
    let itself : IsLayoutOf options text text = subst (λ l. IsLayoutOf options text l) is lay in
    judged files (task.Format options purpose.Write) format table name text disk after Accepted (record { before = a; after = b }) kept
    ([], Judges.accepted [] (itself, refl), nothing_written a b same)
rewritten files options format table name text laid disk after a b Accepted same lay (inr (differs, puts)) = (
  [],
  Serves.written after options laid refl lay differs puts,
  nothing_written a b same,
)
rewritten files options format table name text laid disk after a b Refused same lay c = absurd c
rewritten files options format table name text laid disk after a b Failed same lay (differs, kept) = (
  [],
  Serves.unwritten after options laid refl lay differs kept,
  nothing_written a b same,
)

pub rewritten_by : {D : Type 0} (files : D → Option Files) (options : LayoutOptions) (format : Format) (table : Extensions) (name text laid : List ℕ) (disk after : D) (a b : Option (List ℕ)) (r : Result Verdict Error) → b ≡ a
    → IsLayoutOf options text laid → IfOk r (Rewrites files name text laid disk after)
    → IfOk r (λ v. IsServed files (task.Format options purpose.Write) format table name text disk after v (record { before = a; after = b }))
rewritten_by files options format table name text laid disk after a b (Ok v) same lay c =
    rewritten files options format table name text laid disk after a b v same lay c
rewritten_by files options format table name text laid disk after a b (Err e) same lay c = tt

-- ---- a file, and files

pub read_by : {D : Type 0} (files : D → Option Files) (request : Request) (name text : List ℕ) (disk after : D) (r : Result Verdict Error) (w : Writing) → Has (files disk) name text
    → IfOk r (λ v. IsServed files request.task request.format (table_of request.styles) name text disk after v w) → IfOk r (λ v. IsTried files request name disk after v w)
read_by files request name text disk after (Ok v) w has (out, serves, wrote) =
    (out, Tries.read text after out v has serves, wrote)
read_by files request name text disk after (Err e) w has served = tt

pub lacking_by : {D : Type 0} (files : D → Option Files) (request : Request) (name : List ℕ) (disk after : D) (error : Error) (r : Result Verdict Error) (a b : Option (List ℕ)) → after ≡ disk → b ≡ a
    → (¬ IsWant error → Lacks (files disk) name) → IfOk r (λ v. (v ≡ Failed) × ¬ IsWant error) → IfOk r (λ v. IsTried files request name disk after v (record { before = a; after = b }))
lacking_by files request name disk after error (Ok v) a b same out lacks is =
    rw is.0 ([], Tries.lacking after same (lacks is.1), nothing_written a b out)
lacking_by files request name disk after error (Err e) a b same out lacks is = tt

-- one more is tried
pub one_more : {D : Type 0} (files : D → Option Files) (request : Request) (names : List (List ℕ)) (name : List ℕ) (disk between after : D) (v last : Verdict) (a b c : Option (List ℕ))
    → AreTried files request names disk between v (record { before = a; after = b }) → IsTried files request name between after last (record { before = b; after = c })
    → AreTried files request (names ++ (name ∷ [])) disk after (worse v last) (record { before = a; after = c })
one_more files request names name disk between after v last a b c (out, all, wrote) (more, tries, written) = (
  out ++ more,
  TriesAll.one_more names name between after out more v last all tries,
  Appends-trans a b c out more wrote written,
)

-- and the next one of a list
pub next_tried : {D : Type 0} (files : D → Option Files) (request : Request) (xs : List (Bor (List ℕ))) (i : ℕ) (x : Bor (List ℕ)) (disk between after : D) (v last : Verdict) (a b c : Option (List ℕ)) → i < length xs
    → AreTried files request (map (λ n. n.now) (take i xs)) disk between v (record { before = a; after = b }) → IsTried files request (get_or xs i x).now between after last (record { before = b; after = c })
    → AreTried files request (map (λ n. n.now) (take (i + 1) xs)) disk after (worse v last) (record { before = a; after = c })
next_tried files request xs i x disk between after v last a b c more all tries =
    rw (map_more (λ n. n.now) xs i x more)
    (one_more files request (map (λ n. n.now) (take i xs)) (get_or xs i x).now disk between after v last a b c all tries)

-- a text without a tree is refused, whatever becomes of its layout
pub denied : (options : LayoutOptions) (does : Purpose) (table : Extensions) (text : List ℕ) → ¬ HasPolicies text → Denies (task.Format options does) table text
denied options purpose.Print table text none = none
denied options purpose.Write table text none = none
denied options purpose.Check table text none = inl none
