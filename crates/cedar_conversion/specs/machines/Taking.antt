-- How the answers of nested expressions are taken, and those that wait, the newest first.
use Rattle.std.specs.Prelude.{◌≡◌, List, [], ◌∷◌, ◌++◌, Option, Result}
use Rattle.cedar_expressions.specs.Value.{Value}
use Rattle.cedar_syntax.specs.declared.err.faults.Failure.{Failure}
use Rattle.cedar_syntax.specs.declared.loc.Loc.{Loc}
use Rattle.cedar_syntax.specs.trees.Located.{Located, Form}
use Rattle.cedar_conversion.specs.declared.answer.special.ExprOrSpecial.{ExprOrSpecial}
use Rattle.cedar_conversion.specs.declared.nesting.Answers.{Answers}
use Rattle.cedar_conversion.specs.outcome.Conversion.{outcome, form_outcome}
use Rattle.cedar_conversion.specs.outcome.Seen.{Gives}
use Rattle.cedar_conversion.specs.strict.Extensions.{Extensions}
use Rattle.cedar_conversion.specs.machines.Nested.{nested, nested_in}
use Rattle.cedar_conversion.specs.machines.Views.{plain}

abbrev pub ExprAnswer : Type 0 → Type 0
ExprAnswer E = Result (ExprOrSpecial E) Failure

-- these are answers of these expressions
abbrev pub Waits : {E : Type 0} → (E → Value) → Extensions → List (ExprAnswer E) → List Located
    → Type 0
Waits meaning e [] [] = Unit {0}
Waits meaning e [] (n ∷ ns) = ⊥
Waits meaning e (a ∷ answers) [] = ⊥
Waits meaning e (a ∷ answers) (n ∷ ns) =
    Gives (plain meaning) a (outcome e n) × Waits meaning e answers ns

-- Where the expressions `ns` and any others are answered for, the answers of `ns` are taken, those
-- of the others are left, and X holds.
pub data Taking {N : Type 0} (waits : N → List Located → Type 0) (old : N) (ns : List Located)
    (new : N) (X : Type 0) : Type 0 where
  took : ((rest : List Located) → waits old (ns ++ rest) → X × waits new rest)
      → Taking waits old ns new X

-- a node's answer, by the answers of the expressions nested in it
abbrev pub AnswersNode : {E : Type 0} → (E → Value) → (e : Extensions)
    → (Extensions → List (ExprAnswer E) → List Located → Type 0) → Answers E → Answers E → Located
    → Type 0
AnswersNode meaning e waits old new n =
    Taking (waits e) old.nested (nested n) new.nested
    (Gives (plain meaning) new.answer (outcome e n))

-- the same of a form at a place
abbrev pub AnswersForm : {E : Type 0} → (E → Value) → (e : Extensions)
    → (Extensions → List (ExprAnswer E) → List Located → Type 0) → Answers E → Answers E
    → Option Loc → Form → Type 0
AnswersForm meaning e waits old new place form =
    Taking (waits e) old.nested (nested_in form) new.nested
    (Gives (plain meaning) new.answer (form_outcome e place form))

-- Each of these expressions takes the answers of those nested in it, which are the newest then,
-- and leaves its own to wait: so from answers of `xs` they lead to answers of `ys`.
abbrev pub LeadTo : List Located → List Located → List Located → Type 0
LeadTo [] xs ys = xs ≡ ys
LeadTo (n ∷ ns) xs ys =
    (rest : List Located) × (xs ≡ nested n ++ rest) × LeadTo ns (n ∷ rest) ys
