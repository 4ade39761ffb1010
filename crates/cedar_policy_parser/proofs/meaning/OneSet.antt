-- Tokens of policies, and of a set of them, have at most one meaning, where they have at most one
-- tree.
use Rattle.std.proofs.Common.{◌≡◌, ℕ, List, [], sym, ap, ◌∙◌}
use Rattle.cedar_lexer.specs.Token.{Lexeme}
use Rattle.cedar_policy_store.specs.PlaceFree as free
use Rattle.cedar_syntax.specs.tokens.Signs.{sign_limit}
use Rattle.cedar_grammar.specs.faults.FirstFault.{HasOneTree}
use Rattle.cedar_grammar.specs.grammar.LoosePolicies.{ReadsPolicies, ReadsPolicy}
use Rattle.cedar_grammar.specs.grammar.Place.{placed}
use Rattle.cedar_conversion.specs.strict.Extensions.{Extensions}
use Rattle.cedar_policy_conversion.specs.Policies.{meaning_of, policies_outcome, template_outcome}
use Rattle.cedar_policy_parser.specs.meaning.StrictPolicy.{IsPolicy, IsPolicySet}
use Rattle.cedar_conversion.proofs.Inverted.{ok_is}
use Rattle.cedar_policy_parser.proofs.complete.Sets.{PolicyRead, policy_read, SetRead, set_read}

pub one_policy_meaning : HasOneTree ReadsPolicy → (e : Extensions) (id : List ℕ) (ts : List Lexeme) (v w : free.Policy) → IsPolicy e sign_limit id ts v → IsPolicy e sign_limit id ts w → v ≡ w
one_policy_meaning one_tree e id ts v w h k =
    let c : PolicyRead e [] id ts v = policy_read e [] id h in
    let d : PolicyRead e [] id ts w = policy_read e [] id k in
    let same = ap (λ t. template_outcome e id (placed [] ts t)) (one_tree [] ts c.tree d.tree c.reads d.reads) in
    sym c.same ∙ ap meaning_of (ok_is (sym (c.gives) ∙ same ∙ d.gives)) ∙ d.same

pub one_set_meaning : HasOneTree ReadsPolicies → (e : Extensions) (ts : List Lexeme) (v w : free.Policies) → IsPolicySet e sign_limit ts v → IsPolicySet e sign_limit ts w → v ≡ w
one_set_meaning one_tree e ts v w h k =
    let c : SetRead e [] ts v = set_read e [] h in
    let d : SetRead e [] ts w = set_read e [] k in
    let same = ap (λ t. policies_outcome e (placed [] ts t)) (one_tree [] ts c.tree d.tree c.reads d.reads) in
    ok_is (sym (c.gives) ∙ same ∙ d.gives)
