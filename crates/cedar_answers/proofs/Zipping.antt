-- Faults that are handed out one by one.
use Rattle.std.proofs.Common.{◌≡◌, List, [], ◌∷◌, ◌++◌, map}
use Rattle.std.proofs.lemmas.List.{map-append}
use Rattle.std.specs.List.{AllZip}
use Rattle.cedar_report.specs.declared.finding.Finding.{Finding}
use Rattle.cedar_answers.specs.Faults.{IsFaultRead}
use Rattle.cedar_answers.specs.Made.{finding_of}
use Rattle.cedar_answers.specs.declared.answer.CedarFault.{CedarFault}
use Rattle.cedar_answers.specs.declared.made.MadeFault.{MadeFault}

read_push : (fs : List Finding) (xs : List CedarFault) (f : Finding) (x : CedarFault) → AllZip IsFaultRead fs xs → IsFaultRead f x → AllZip IsFaultRead (fs ++ f ∷ []) (xs ++ x ∷ [])
read_push [] [] f x h is = (is, tt)
read_push (g ∷ fs) (y ∷ xs) f x h is = (h.0, read_push fs xs f x h.1 is)
read_push [] (y ∷ xs) f x h is = absurd h
read_push (g ∷ fs) [] f x h is = absurd h

-- one more each
pub read_more : (fs : List MadeFault) (f : MadeFault) (xs ys : List CedarFault) (x : CedarFault) → AllZip IsFaultRead (map finding_of fs) xs → IsFaultRead (finding_of f) x → ys ≡ xs ++ x ∷ []
    → AllZip IsFaultRead (map finding_of (fs ++ f ∷ [])) ys
read_more fs f xs ys x h is pushed = rw pushed (rw (map-append finding_of fs (f ∷ [])) (read_push (map finding_of fs) xs (finding_of f) x h is))
