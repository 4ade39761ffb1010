-- The tree of a text of policies, what it is converted to, and what its tokens mean.
use Rattle.std.proofs.Common.{◌≡◌, ℕ, List, [], ◌∷◌, Result, Ok, Err, IfOk, IfErr, MatchResult, inr, refl, sym, ap, subst, ◌∙◌}
use Rattle.cedar_lexer.specs.Cut.{Cuts}
use Rattle.cedar_lexer.specs.Token.{Lexeme}
use Rattle.cedar_policy_store.specs.PlaceFree as free
use Rattle.cedar_syntax.specs.declared.cst.Policies.{Policies}
use Rattle.cedar_syntax.specs.tokens.Signs.{sign_limit}
use Rattle.cedar_syntax.specs.declared.err.faults.Failure.{Failure}
use Rattle.cedar_syntax.specs.declared.err.faults.Failure.TheVariants.{Memory, Errors}
use Rattle.cedar_syntax.specs.faults.ParseErrors.{IsMemory}
use Rattle.cedar_grammar.specs.grammar.Grammar.{IsTreeOf}
use Rattle.cedar_grammar.specs.grammar.LoosePolicies.{ReadsPolicies}
use Rattle.cedar_grammar.specs.grammar.Place.{placed, placed_or_start}
use Rattle.cedar_grammar.specs.grammar.Sentences.{HasTree}
use Rattle.cedar_syntax.specs.trees.Trees.{Cell}
use Rattle.cedar_conversion.specs.strict.Extensions.{Extensions}
use Rattle.cedar_conversion.specs.outcome.Outcome.{Outcome}
use Rattle.cedar_policy_conversion.specs.Policies.{PlacedPolicies, policies_outcome, placed_outcome}
use Rattle.cedar_policy_parser.specs.faults.Refused.{RefusesSet}
use Rattle.cedar_conversion.specs.outcome.Seen.{Gives, Refuses}
use Rattle.cedar_policy_parser.specs.meaning.StrictPolicy.{IsPolicySet}
use Rattle.cedar_conversion.proofs.Inverted.{ok_is}
use Rattle.cedar_policy_parser.proofs.complete.Sets.{SetRead, set_read}
use Rattle.cedar_policy_parser.proofs.sound.Sets.{set_meant}

-- what the node of a whole text is converted to doesn't look at its place
at_start : (e : Extensions) (src : List ℕ) (ts : List Lexeme) (x : Policies) → policies_outcome e (placed_or_start src ts x) ≡ policies_outcome e (placed src ts x)
at_start e src [] x = refl
at_start e src (t ∷ ts) x = refl

-- a tree that is converted to a set is that of tokens which mean it
pub tree_meant : (e : Extensions) (src : List ℕ) (n : Cell Policies) (set : free.Policies) → (g : IsTreeOf ReadsPolicies src n) → policies_outcome e n ≡ Ok set → IsPolicySet e sign_limit g.tokens set
tree_meant e src n set g h =
    let ts = g.tokens in
    let x = g.stands.tree in
    let there = ap (λ y. policies_outcome e y) g.stands.is ∙ at_start e src ts x in
    set_meant e set g.stands.reads (sym there ∙ h)

-- the text is cut into those
pub text_meant : (e : Extensions) (src : List ℕ) (n : Cell Policies) (set : free.Policies) → IsTreeOf ReadsPolicies src n → policies_outcome e n ≡ Ok set → (ts : List Lexeme) × Cuts src ts × IsPolicySet e sign_limit ts set
text_meant e src n set g h = (g.tokens, g.cut, tree_meant e src n set g h)

-- tokens that mean something have such a tree
pub record Found (e : Extensions) (src : List ℕ) (set : free.Policies) : Type 0 where
  pub tree : Cell Policies
  pub stands : IsTreeOf ReadsPolicies src tree
  pub gives : policies_outcome e tree ≡ Ok set

pub tree_found : (e : Extensions) (src : List ℕ) (ts : List Lexeme) (set : free.Policies) → Cuts src ts → IsPolicySet e sign_limit ts set → Found e src set
tree_found e src ts set cut h =
    let d : SetRead e src ts set = set_read e src h in
    record {
      tree = placed_or_start src ts d.tree;
      stands = record { tokens = ts; cut = cut; stands = record { tree = d.tree; reads = d.reads; is = refl } };
      gives = at_start e src ts d.tree ∙ d.gives;
    }

-- ---- a text that is read, then converted

pub read_value : {S : Type 0} (e : Extensions) (meaning : S → free.Policies) (src : List ℕ) (n : Cell Policies) (r : Result S Failure) → IsTreeOf ReadsPolicies src n
    → Gives meaning r (policies_outcome e n)
    → IfOk r (λ x. (ts : List Lexeme) × Cuts src ts × IsPolicySet e sign_limit ts (meaning x))
read_value e meaning src n (Ok x) g h = text_meant e src n (meaning x) g h
read_value e meaning src n (Err f) g h = tt

-- an outcome that gives a value is refused for want of memory alone
pub memory_alone : (f : Failure) (o : Outcome free.Policies) (set : free.Policies) → o ≡ Ok set → Refuses f o → IsMemory f
memory_alone (Memory e) o set h k = tt
memory_alone (Errors es) o set h k = let no = sym h ∙ k in cc

pub read_only : {S : Type 0} (e : Extensions) (meaning : S → free.Policies) (n o : Cell Policies) (set : free.Policies) (r : Result S Failure) → n ≡ o
    → Gives meaning r (policies_outcome e n) → (policies_outcome e o ≡ Ok set)
    → MatchResult r (λ x. meaning x ≡ set) IsMemory
read_only e meaning n o set (Ok x) same h k = ok_is (sym h ∙ ap (λ t. policies_outcome e t) same ∙ k)
read_only e meaning n o set (Err f) same h k = memory_alone f _ set (ap (λ t. policies_outcome e t) same ∙ k) h

pub told_tree : {S : Type 0} (e : Extensions) (meaning : S → free.Policies) (src : List ℕ) (n : Cell Policies) (r : Result S Failure) → IsTreeOf ReadsPolicies src n
    → Gives meaning r (policies_outcome e n) → IfErr r (λ f. RefusesSet e f src)
told_tree e meaning src n (Ok x) g h = tt
told_tree e meaning src n (Err f) g h = inr (n, g, h)

-- a set's parts are those of the text's tree, with their places
pub parts_placed : {S : Type 0} (e : Extensions) (parts : S → PlacedPolicies) (src : List ℕ) (n : Cell Policies) (r : Result S Failure) → IsTreeOf ReadsPolicies src n
    → Gives parts r (placed_outcome e n) → IfOk r (λ x. (tree : Cell Policies) × IsTreeOf ReadsPolicies src tree × (placed_outcome e tree ≡ Ok (parts x)))
parts_placed e parts src n (Ok x) g h = (n, g, h)
parts_placed e parts src n (Err f) g h = tt

-- a text has at most one cut
abbrev pub OneCut : Type 0
OneCut = (source : List ℕ) (ts us : List Lexeme) → Cuts source ts → Cuts source us → ts ≡ us

-- where a text has a tree, its tokens have it
pub has_tree : OneCut → (src : List ℕ) (n : Cell Policies) (ts : List Lexeme) → IsTreeOf ReadsPolicies src n → Cuts src ts → HasTree (ReadsPolicies src) ts
has_tree one_cut src n ts g cut = subst (λ us. HasTree (ReadsPolicies src) us) (one_cut src g.tokens ts g.cut cut) (g.stands.tree, g.stands.reads)
