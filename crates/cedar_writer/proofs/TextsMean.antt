-- From a line of words to what it means.
use Rattle.std.proofs.Common.{◌≡◌, ℕ, List, [], ◌∷◌, ◌++◌, ap, ◌∙◌, subst, Option, Err, inl, inr}
use denote.Ref.{Bor}
use Rattle.std.specs.String.{string_bytes}
use Rattle.either.specs.declared.Either.{Either}
use Rattle.cedar_lexer.specs.Token.{Lexeme}
use Rattle.cedar_lexer.specs.Words.{TokenText, AreSpelled, words_of}
use Rattle.cedar_expressions.specs.Value.{Value}
use Rattle.cedar_conversion.specs.strict.Extensions.{Extensions}
use Rattle.cedar_writer.specs.declared.output.Output.{Output}
use Rattle.cedar_writer.specs.Spacing.{Edge, line_start, line_of, text_behind}
use Rattle.cedar_writer.specs.Writable.{IsWritable}
use Rattle.cedar_writer.specs.Writing.{words, sort_of}
use Rattle.cedar_writer.specs.WrittenTexts.{IsTextOf, MeanAgain, HasNoText, IsTextOfPolicy, HasNoPolicyText, called, written_parts, templates_lent, all_parts, IsTextOfAll, OneHasNoText, HasNoTextOfSet, lines_written}
use Rattle.cedar_writer.specs.machines.Outputs.{edge_seen, Adds}
use Rattle.cedar_writer.proofs.Heart.{reads}
use Rattle.cedar_writer.proofs.Levels.{frees}
use Rattle.cedar_writer.proofs.LinesCut.{line_cuts, lines_cut}
use Rattle.cedar_writer.proofs.Meant.{writable}
use Rattle.cedar_writer.proofs.WritableWithoutPlaces.{unplaced_writable}
use Rattle.cedar_writer.proofs.Spelled.{spelled}
use Rattle.cedar_policy_store.specs.declared.template.Template.{Template}
use Rattle.cedar_policy_store.specs.Listing.{IsListing}
use Rattle.cedar_policy_store.specs.PolicyMaps.{PolicyMaps}
use Rattle.cedar_policy_store.specs.PlaceFree.{Policy, template_meaning}
use Rattle.cedar_policy_conversion.specs.StrictPolicy.{IsPolicy}
use Rattle.cedar_writer.specs.WrittenPolicies.{policy_words, policies_words, conditions_of, IsWritableAction, AreWritableConditions, IsWritablePolicy, AreWritablePolicies}
use Rattle.cedar_writer.specs.machines.Policies.{IsUnwritable, IsOneUnwritable, Writes}
use Rattle.cedar_writer.specs.machines.Stepping.{WritesValue}
use Rattle.cedar_syntax.specs.tokens.Signs.{sign_limit}
use Rattle.cedar_writer.specs.declared.refusal.NotWritten.{NotWritten}
use Rattle.cedar_writer.specs.declared.refusal.NotWritable.{NotWritable as Kind}
use Rattle.cedar_writer.specs.declared.refusal.NotWritten.TheVariants.{Memory, NotWritable}
use Rattle.cedar_writer.proofs.HeartPolicies.{policy, all_policies}
use Rattle.cedar_writer.proofs.MeantPolicies.{policy as meant_policy}
use Rattle.cedar_writer.proofs.PoliciesWritten.{parts_are}
use Rattle.cedar_writer.proofs.SpelledPolicies.{policy_spelled, policies_spelled}

-- a line that begins with these words is their text
pub line_written : (a b : Output) (ws : List TokenText) → string_bytes a.text ≡ [] → edge_seen a ≡ line_start → Adds a b ws → string_bytes b.text ≡ line_of ws
line_written a b ws none start h =
    h.text ∙ ap (λ t. t ++ text_behind (edge_seen a) ws) none ∙ ap (λ (e : Edge). text_behind e ws) start

pub text_means : (table : Extensions) (limit : ℕ) (a : Value) → IsWritable table limit a → IsTextOf table limit a (line_of (words table a))
text_means table limit a h =
    let cut = line_cuts (words table a) (spelled table limit a h) in
    let m = reads table limit a h cut.0 cut.2 in
    (cut.0, cut.1, (m.value, frees (sort_of a) m.is, m.same))

pub no_text : (table : Extensions) (limit : ℕ) (a : Value) → (IsWritable table limit a → ⊥) → (ts : List Lexeme) → AreSpelled (words_of ts) → MeanAgain table limit a ts → ⊥
no_text table limit a never ts s m = never (unplaced_writable table limit m.0 a m.2 (writable m.1 s))

-- ---- policies

pub policy_text_means : (table : Extensions) (limit : ℕ) (t : Template) → IsWritablePolicy table limit (written_parts t) → IsTextOfPolicy table limit (template_meaning t) (line_of (policy_words table (written_parts t)))
policy_text_means table limit t h =
    let cut = line_cuts (policy_words table (written_parts t)) (policy_spelled table limit (written_parts t) h) in
    (cut.0, cut.1, λ id. subst (IsPolicy table limit id cut.0) (parts_are t id) (policy table limit id (written_parts t) h cut.0 cut.2))

no_policy_text : (table : Extensions) (limit : ℕ) (t : Template) → (IsWritableAction (written_parts t).action → AreWritableConditions table limit (conditions_of (written_parts t).condition) → ⊥) → (ts : List Lexeme) (id : List ℕ) → AreSpelled (words_of ts) → IsPolicy table limit id ts (called id (template_meaning t)) → ⊥
no_policy_text table limit t never ts id s m =
    let w = meant_policy m s in
    let action : w.0.action ≡ (written_parts t).action = ap (λ (p : Policy). p.action) w.2 in
    let condition : w.0.condition ≡ (written_parts t).condition = ap (λ (p : Policy). p.condition) w.2 in
    never (subst IsWritableAction action w.1.action) (subst (λ (c : Option Value). AreWritableConditions table limit (conditions_of c)) condition w.1.conditions)

-- ---- what a call's answer says

pub refused_text : (table : Extensions) (a : Value) (e : NotWritten) (out out' : Output) → WritesValue table a {T = Unit {0}} (Err e) out out' → HasNoText table sign_limit a e
refused_text table a Memory out out' h = tt
refused_text table a (NotWritable k) out out' h = (h.1, no_text table sign_limit a h.0)

pub refused_policy : (table : Extensions) (t : Template) (e : NotWritten) (out out' : Output) → Writes (policy_words table (written_parts t)) (IsWritablePolicy table sign_limit (written_parts t)) (IsUnwritable table sign_limit (written_parts t)) {T = Unit {0}} (Err e) out out' → HasNoPolicyText table sign_limit (template_meaning t) e
refused_policy table t Memory out out' h = tt
refused_policy table t (NotWritable k) out out' h = (h.0, no_policy_text table sign_limit t h.1)

-- ---- policies one behind another

pub set_text_means : (table : Extensions) (limit : ℕ) (ts : List Template) → AreWritablePolicies table limit (all_parts ts) → IsTextOfAll table limit ts (lines_written table ts)
set_text_means table limit ts h =
    let cut = lines_cut (policies_words table (all_parts ts) []) (policies_spelled table limit (all_parts ts) h) in
    (cut.0, cut.1, all_policies table limit (all_parts ts) h cut.0 cut.2)

one_refused : (table : Extensions) (ts : List Template) (k : Kind) → IsOneUnwritable table sign_limit (all_parts ts) k → OneHasNoText table sign_limit ts (NotWritable k)
one_refused table [] k h = h
one_refused table (t ∷ ts) k (inl h) = inl (h.0, no_policy_text table sign_limit t h.1)
one_refused table (t ∷ ts) k (inr h) = inr (one_refused table ts k h)

pub refused_set : (table : Extensions) (set : PolicyMaps) (all : List (Either (Bor Template) (Bor Template))) (e : NotWritten) (out out' : Output) → IsListing set all
    → Writes (policies_words table (all_parts (templates_lent all)) []) (AreWritablePolicies table sign_limit (all_parts (templates_lent all))) (IsOneUnwritable table sign_limit (all_parts (templates_lent all))) {T = Unit {0}} (Err e) out out'
    → HasNoTextOfSet table sign_limit set e
refused_set table set all Memory out out' is h = tt
refused_set table set all (NotWritable k) out out' is h = (all, is, one_refused table (templates_lent all) k h)
