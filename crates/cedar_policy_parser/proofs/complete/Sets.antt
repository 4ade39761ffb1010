-- Tokens that mean policies have a tree that is converted to them.
use Rattle.std.proofs.Common.{◌≡◌, ◌+◌, ℕ, List, [], ◌∷◌, ◌++◌, map, length, Option, Ok, refl, sym, ap, ◌∙◌}
use Rattle.std.specs.List.{fold}
use Rattle.cedar_lexer.specs.Token.{Lexeme}
use Rattle.cedar_lexer.specs.declared.token.TokenKind.{TokenKind}
use Rattle.cedar_lexer.specs.declared.token.TokenKind.TheVariants as kind
use Rattle.cedar_policy_store.specs.declared.constraints.ActionConstraint.{ActionConstraint}
use Rattle.cedar_policy_store.specs.declared.effect.Effect.{Effect}
use Rattle.cedar_policy_store.specs.PlaceFree as free
use Rattle.cedar_syntax.specs.declared.loc.Loc.{Loc}
use Rattle.cedar_syntax.specs.declared.cst.Ident.{Ident}
use Rattle.cedar_syntax.specs.declared.cst.Ident.TheVariants as ident
use Rattle.cedar_syntax.specs.declared.cst.Policies.{Policies}
use Rattle.cedar_syntax.specs.declared.cst.Policy.{Policy}
use Rattle.cedar_syntax.specs.tokens.Signs.{sign_limit}
use Rattle.cedar_grammar.specs.grammar.LoosePolicies as l
use Rattle.cedar_grammar.specs.grammar.LoosePolicies.{ReadsMany, ReadsPolicies, ReadsPolicy}
use Rattle.cedar_grammar.specs.grammar.LooseWords as lw
use Rattle.cedar_grammar.specs.grammar.LooseWords.{ReadsAny}
use Rattle.cedar_grammar.specs.grammar.Place.{placed}
use Rattle.cedar_syntax.specs.tokens.Tokens.{Spot, one}
use Rattle.cedar_syntax.specs.trees.Trees.{Cell, policies_of, policy_of}
use Rattle.cedar_policy_conversion.specs.AnnotationKeys.{AnnotationContent, annotation_map, annotations_outcome}
use Rattle.cedar_policy_conversion.specs.Conditions.{conditions_outcome}
use Rattle.cedar_conversion.specs.strict.Extensions.{Extensions}
use Rattle.cedar_conversion.specs.outcome.Outcome.{Outcome, both, next, item_more}
use Rattle.cedar_policy_conversion.specs.Policies as k
use Rattle.cedar_policy_conversion.specs.Policies.{TemplateParts}
use Rattle.cedar_policy_conversion.specs.PolicyMeaning.{joint_condition, no_policies, policy_id, with_policy}
use Rattle.cedar_policy_conversion.specs.Scope.{elements_outcome}
use Rattle.cedar_policy_conversion.proofs.SetSteps.{numbered_snoc, zero-plus}
use Rattle.cedar_policy_parser.specs.meaning.StrictPolicy as m
use Rattle.cedar_policy_parser.specs.meaning.StrictPolicy.{ArePolicies, IsEffect, IsPolicy, IsPolicySet, by_key}
use Rattle.cedar_conversion.proofs.Loops.{map_snoc}
use Rattle.cedar_policy_parser.proofs.complete.Annotated.{annotations_read}
use Rattle.cedar_policy_parser.proofs.complete.Clauses.{conditions_read}
use Rattle.cedar_policy_parser.proofs.complete.Scopes.{scope_read}
use Rattle.cedar_policy_parser.proofs.sound.Annotated.{kept_by_key}
use Rattle.cedar_policy_parser.proofs.sound.Sets.{folded_meanings, meant_length, given_many, value_of}

-- ---- a policy

record EffectRead (ts : List Lexeme) (x : Effect) : Type 0 where
  word : Ident
  reads : ReadsAny ts word
  gives : (place : Option Loc) → k.effect_of place word ≡ Ok x

effect_read : {j : TokenKind} {x : Effect} (p : Spot) → IsEffect j x → EffectRead (one j p) x
effect_read p m.permit = record { word = ident.Permit; reads = lw.any p refl; gives = λ place. refl }
effect_read p m.forbid = record { word = ident.Forbid; reads = lw.any p refl; gives = λ place. refl }

-- a tree that gives a policy's parts, whatever its places and its name are
pub record PolicyRead (e : Extensions) (src : List ℕ) (id : List ℕ) (ts : List Lexeme) (x : free.Policy) : Type 0 where
  pub tree : Policy
  pub reads : ReadsPolicy src ts tree
  pub parts : TemplateParts
  pub gives : k.template_outcome e id (placed src ts tree) ≡ Ok parts
  pub same : k.meaning_of parts ≡ x

four_given : {A B C D X : Type 0} (o : Outcome A) (q : Outcome B) (r : Outcome C) (s : Outcome D) (f : (A × B) × (C × D) → X) (a : A) (b : B) (c : C) (d : D) → o ≡ Ok a → q ≡ Ok b → r ≡ Ok c → s ≡ Ok d
    → next (both (both o q) (both r s)) (λ p. Ok (f p)) ≡ Ok (f ((a, b), (c, d)))
four_given o q r s f a b c d h i j l = rw (h, i, j, l) refl

notes_given : (o : Outcome (List AnnotationContent)) (all : List AnnotationContent) → o ≡ Ok all → next o (λ as2. Ok (annotation_map as2)) ≡ Ok (annotation_map all)
notes_given o all h = rw h refl

-- what parts mean, of what their places leave
same_value : (id : List ℕ) (given : k.Given) (notes : List (List ℕ × List ℕ)) {p r : free.Constraint} {a : ActionConstraint} → free.constraint_meaning given.1.0.0.constraint ≡ p → given.1.0.1 ≡ a → free.constraint_meaning given.1.0.2.constraint ≡ r
    → free.with_values free.annotation_value given.0.1 ≡ by_key notes
    → value_of id given (free.with_values free.annotation_value given.0.1) ≡ record { id = id; annotations = by_key notes; effect = given.0.0; principal = p; action = a; resource = r; condition = joint_condition given.1.1 }
same_value id given notes h i j l = rw (h, i, j, l) refl

pub policy_read : (e : Extensions) (src : List ℕ) (id : List ℕ) {ts : List Lexeme} {x : free.Policy} → IsPolicy e sign_limit id ts x → PolicyRead e src id ts x
policy_read e src id (m.policy {ts = ts} {us = us} {vs = vs} {annotations = notes} {k = j} {effect = effect} {conditions = cs} p o c z a differ f s d) =
    let all = ts ++ one j p ++ one kind.OpenParen o ++ us ++ one kind.CloseParen c ++ vs ++ one kind.Semicolon z in
    let n = annotations_read src a differ in
    let w = effect_read p f in
    let y = scope_read e src s in
    let q = conditions_read e src d in
    let first = placed src (one j p) w.word in
    let tree = policy_of n.cells first y.cells q.cells in
    let given : k.Given = ((effect, annotation_map n.all), (y.scope, cs)) in
    let place = (placed src all tree).loc in
    record {
      tree = tree;
      reads = l.policy o c z n.reads w.reads y.reads q.reads;
      parts = k.given_parts id place given;
      gives = four_given (k.effect_outcome first) (k.kept_outcome n.cells) (elements_outcome e first.loc y.cells) (conditions_outcome e q.cells) (k.given_parts id place) effect (annotation_map n.all) y.scope cs
          (w.gives first.loc) (notes_given (annotations_outcome n.cells) n.all n.gives) (y.gives first.loc) q.gives;
      same = same_value id given notes y.same_principal y.same_action y.same_resource (kept_by_key n.all ∙ ap by_key n.same);
    }

-- ---- sets

pub record PoliciesRead (e : Extensions) (src : List ℕ) (ts : List Lexeme) (xs : List free.Policy) : Type 0 where
  pub cells : List (Cell Policy)
  pub reads : ReadsMany src (ReadsPolicy src) ts cells
  pub all : List TemplateParts
  pub gives : k.policies_from e 0 cells ≡ Ok all
  pub same : map k.meaning_of all ≡ xs

more_given : {X : Type 0} (o : Outcome (List X)) (x : Outcome X) (ys : List X) (y : X) → o ≡ Ok ys → x ≡ Ok y → item_more o x ≡ Ok (ys ++ y ∷ [])
more_given o x ys y h k = rw (h, k) refl

last_same : (xs ys : List free.Policy) (a b : free.Policy) → xs ≡ ys → a ≡ b → xs ++ a ∷ [] ≡ ys ++ b ∷ []
last_same xs ys a b h k = rw (h, k) refl

policies_read : (e : Extensions) (src : List ℕ) {ts : List Lexeme} {xs : List free.Policy} → ArePolicies e sign_limit ts xs → PoliciesRead e src ts xs
policies_read e src m.no_policy = record { cells = []; reads = l.none; all = []; gives = refl; same = refl }
policies_read e src (m.more_policies {us = us} {ps = xs} {p = x} i j) =
    let c = policies_read e src i in
    let d = policy_read e src (policy_id (length xs)) j in
    let n = placed src us d.tree in
    let count : 0 + length c.cells ≡ length xs = zero-plus (length c.cells) ∙ sym (meant_length c.all ∙ given_many e 0 c.cells c.all c.gives) ∙ ap length c.same in
    record {
      cells = c.cells ++ n ∷ [];
      reads = l.more c.reads d.reads;
      all = c.all ++ d.parts ∷ [];
      gives = numbered_snoc e 0 c.cells n
          ∙ more_given (k.policies_from e 0 c.cells) (k.template_outcome e (policy_id (0 + length c.cells)) n) c.all d.parts c.gives
          (ap (λ l. k.template_outcome e (policy_id l) n) count ∙ d.gives);
      same = map_snoc k.meaning_of c.all d.parts ∙ last_same (map k.meaning_of c.all) xs (k.meaning_of d.parts) x c.same d.same;
    }

pub record SetRead (e : Extensions) (src : List ℕ) (ts : List Lexeme) (set : free.Policies) : Type 0 where
  pub tree : Policies
  pub reads : ReadsPolicies src ts tree
  pub gives : k.policies_outcome e (placed src ts tree) ≡ Ok set

set_given : (o : Outcome (List TemplateParts)) (ps : List TemplateParts) (set : free.Policies) → o ≡ Ok ps → k.set_of ps ≡ set → next o (λ ts. Ok (k.set_of ts)) ≡ Ok set
set_given o ps set h k = rw h (ap Ok k)

pub set_read : (e : Extensions) (src : List ℕ) {ts : List Lexeme} {set : free.Policies} → IsPolicySet e sign_limit ts set → SetRead e src ts set
set_read e src (m.policy_set {ps = xs} i) =
    let c = policies_read e src i in
    record {
      tree = policies_of c.cells;
      reads = l.policies c.reads;
      gives = set_given (k.policies_from e 0 c.cells) c.all (fold with_policy no_policies xs) c.gives (folded_meanings no_policies c.all ∙ ap (fold with_policy no_policies) c.same);
    }
