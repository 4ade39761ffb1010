-- Lines of policies, one behind the other.
use Rattle.std.proofs.Common.{◌≡◌, ◌+◌, ℕ, List, [], ◌∷◌, ◌++◌, codes, Option, Some, None, Result, Ok, Err, String, Global, IfOk, string_bytes, sym, subst, append_assoc, append-nil, suc, arith}
use Rattle.std.proofs.KnownBytes.{Appends-trans}
use Rattle.std.specs.Io.KnownBytes.{Appends}
use Rattle.std.specs.FinMap.{get}
use Rattle.serde_json.specs.Data.{Data}
use Rattle.cedar_policy_store.specs.declared.template.Template.{Template}
use Rattle.cedar_policy_store.specs.PolicyMaps.{PolicyMaps}
use Rattle.cedar_policy_conversion.specs.PolicyMeaning.{policy_id}
use Rattle.cedar_tool.specs.Listed.{policy_data, numbered_data, first_data, IsJsonLine, AreJsonLines}

lines_joined : (xs ys : List Data) (a b : List ℕ) → AreJsonLines xs a → AreJsonLines ys b → AreJsonLines (xs ++ ys) (a ++ b)
lines_joined xs _ a _ h AreJsonLines.none =
    subst (λ zs. AreJsonLines zs (a ++ [])) (sym (append-nil xs)) (subst (λ c. AreJsonLines xs c) (sym (append-nil a)) h)
lines_joined xs _ a _ h (AreJsonLines.one_more objects one lines line before is) =
    let more : AreJsonLines ((xs ++ objects) ++ (one ∷ [])) ((a ++ lines) ++ line) = AreJsonLines.one_more (xs ++ objects) one (a ++ lines) line (lines_joined xs objects a lines h before) is in
    subst (λ zs. AreJsonLines zs (a ++ (lines ++ line))) (append_assoc xs objects (one ∷ [])) (subst (λ c. AreJsonLines ((xs ++ objects) ++ (one ∷ [])) c) (append_assoc a lines line) more)

-- the lines of the first numbers, and that of the next one
pub listed_more : (name text : List ℕ) (set : PolicyMaps) (n : ℕ) (a b c : Option (List ℕ)) (line : List ℕ) → ((lines : List ℕ) × AreJsonLines (first_data name text set n) lines × Appends a b lines)
    → AreJsonLines (numbered_data name text set n) line → Appends b c line → (lines : List ℕ) × AreJsonLines (first_data name text set (n + 1)) lines × Appends a c lines
listed_more name text set n a b c line (lines, are, wrote) is more =
    let next : suc n ≡ n + 1 = omega arith in
    let both = lines_joined (first_data name text set n) (numbered_data name text set n) lines line are is in
    (lines ++ line, subst (λ m. AreJsonLines (first_data name text set m) (lines ++ line)) next both, Appends-trans a b c lines line wrote more)

one_line : (one : Data) (line : List ℕ) → IsJsonLine one line → AreJsonLines (one ∷ []) line
one_line one line is = AreJsonLines.one_more [] one [] line AreJsonLines.none is

-- that of a static policy, of a template, and of none
pub static_line : {E : Type 0} (r : Result (String Global) E) (name text : List ℕ) (set : PolicyMaps) (n : ℕ) (policy : Template) → get set.policies (policy_id n) ≡ Some policy
    → IfOk r (λ s. IsJsonLine (policy_data name text (codes "static") policy) (string_bytes s)) → IfOk r (λ s. AreJsonLines (numbered_data name text set n) (string_bytes s))
static_line (Ok s) name text set n policy found is = rw found (one_line _ _ is)
static_line (Err e) name text set n policy found is = tt

pub template_line : {E : Type 0} (r : Result (String Global) E) (name text : List ℕ) (set : PolicyMaps) (n : ℕ) (policy : Template) → get set.policies (policy_id n) ≡ None → get set.templates (policy_id n) ≡ Some policy
    → IfOk r (λ s. IsJsonLine (policy_data name text (codes "template") policy) (string_bytes s)) → IfOk r (λ s. AreJsonLines (numbered_data name text set n) (string_bytes s))
template_line (Ok s) name text set n policy none found is = rw (none, found) (one_line _ _ is)
template_line (Err e) name text set n policy none found is = tt

pub no_line : (name text : List ℕ) (set : PolicyMaps) (n : ℕ) (line : List ℕ) → get set.policies (policy_id n) ≡ None → get set.templates (policy_id n) ≡ None → line ≡ [] → AreJsonLines (numbered_data name text set n) line
no_line name text set n line none neither is = rw (none, neither, is) AreJsonLines.none
