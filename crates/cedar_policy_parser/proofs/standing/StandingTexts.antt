-- Where the faults of a text's tree stand.
use Rattle.std.proofs.Common.{◌≡◌, ℕ, List, [], ◌∷◌, ◌++◌, Option, Some, None, sym, refl, ◌∙◌, ap, subst, arith}
use Rattle.std.specs.List.{All}
use Rattle.std.proofs.lemmas.List.Elements.{All-nil, All-cons}
use Rattle.cedar_lexer.specs.Cut.{Cuts}
use Rattle.cedar_lexer.specs.Token.{Lexeme}
use Rattle.cedar_syntax.specs.declared.cst.Expr.{Expr}
use Rattle.cedar_syntax.specs.declared.cst.Policies.{Policies}
use Rattle.cedar_syntax.specs.declared.cst.Policy.{Policy}
use Rattle.cedar_syntax.specs.declared.cst.Policy.TheVariants as trees
use Rattle.cedar_syntax.specs.declared.cst.PolicyImpl.{PolicyImpl}
use Rattle.cedar_syntax.specs.declared.loc.Loc.{Loc}
use Rattle.cedar_syntax.specs.trees.Forms.{located, expr_form}
use Rattle.cedar_grammar.specs.grammar.Grammar.{IsTreeOf}
use Rattle.cedar_grammar.specs.grammar.LooseExpressions.{ReadsExpr}
use Rattle.cedar_grammar.specs.grammar.LoosePolicies.{ReadsPolicies, ReadsPolicy}
use Rattle.cedar_grammar.specs.grammar.Place.{placed, placed_or_start, extent, loc_at}
use Rattle.cedar_syntax.specs.trees.Trees.{Cell}
use Rattle.cedar_grammar.proofs.ExpressionTokens.{expr_some}
use Rattle.cedar_grammar.proofs.Lying.{Some_of}
use Rattle.cedar_grammar.proofs.WordPlaces.{start_is}
use Rattle.cedar_policy_conversion.specs.AnnotationKeys.{annotation_outcome, with_new_key}
use Rattle.cedar_policy_parser.specs.faults.Blocks.{PartsStandWithin}
use Rattle.cedar_policy_conversion.specs.Conditions.{condition_outcome}
use Rattle.cedar_conversion.specs.outcome.Conversion.{value_outcome}
use Rattle.cedar_conversion.specs.strict.Extensions.{Extensions}
use Rattle.cedar_conversion.specs.outcome.Outcome.{next}
use Rattle.cedar_policy_conversion.specs.Policies.{effect_outcome, template_outcome, policies_outcome}
use Rattle.cedar_policy_conversion.specs.Scope.{scope_outcome}
use Rattle.cedar_policy_parser.specs.faults.Standing.{AreTokensOf, LiesWithin, StandWithin}
use Rattle.cedar_policy_parser.proofs.standing.Fitting.{Fits, all_fit, own_fit, parts, within}
use Rattle.cedar_policy_parser.proofs.standing.Standing.{Origin, parsed, IsTold, Stands, Anything, self_within, stand_within}
use Rattle.cedar_policy_parser.proofs.standing.StandingPolicies.{new_annotation_stands, condition_stands, effect_stands, template_stands, policies_stand}
use Rattle.cedar_policy_parser.proofs.standing.StandingScopes.{scope_stands}
use Rattle.cedar_policy_parser.proofs.standing.StandingTrees.{value_faults}
use Rattle.cedar_policy_parser.proofs.tidy.Tidy.{Holding, Each}
use Rattle.cedar_policy_parser.proofs.tidy.TidyPolicies.{AnnotationTidy, CondTidy, PolicyTidy, Own, WholeTidy, parts_own, policies_own, policy_some, policy_tidy, policies_tidy}
use Rattle.cedar_policy_parser.proofs.tidy.TidyTrees.{sits, expr_holds}

pub expr_faults : (e : Extensions) (text : List ℕ) (tree : Cell Expr) → IsTreeOf ReadsExpr text tree → StandWithin tree.loc (value_outcome e (located expr_form tree))
expr_faults e text tree g =
    let ts : List Lexeme = g.tokens in
    let x : Expr = g.stands.tree in
    let some = expr_some g.stands.reads in
    let h = all_fit text _ _ ts g.cut some in
    let c : Cell Expr = placed text ts x in
    subst (λ y. StandWithin y.loc (value_outcome e (located expr_form y))) (sym (g.stands.is ∙ start_is text ts x some))
    (value_faults e c.loc (located expr_form c) (sits (parsed c.loc) text expr_form ts x h some (expr_holds g.stands.reads h)))

pub policy_stands : (e : Extensions) (text id : List ℕ) (tree : Cell Policy) → IsTreeOf ReadsPolicy text tree → Stands IsTold (parsed tree.loc) Anything (template_outcome e id tree)
policy_stands e text id tree g =
    let ts : List Lexeme = g.tokens in
    let x : Policy = g.stands.tree in
    let some = policy_some g.stands.reads in
    let h = all_fit text _ _ ts g.cut some in
    let c : Cell Policy = placed text ts x in
    subst (λ y. Stands IsTold (parsed y.loc) Anything (template_outcome e id y)) (sym (g.stands.is ∙ start_is text ts x some))
    (template_stands e (parsed c.loc) id c (within (parsed c.loc) text ts h some, policy_tidy g.stands.reads h))

pub policy_faults : (e : Extensions) (text id : List ℕ) (tree : Cell Policy) → IsTreeOf ReadsPolicy text tree → StandWithin tree.loc (template_outcome e id tree)
policy_faults e text id tree g = stand_within tree.loc (template_outcome e id tree) (policy_stands e text id tree g)

-- no tokens, which stand at the start of the text
from_start : (text : List ℕ) → Fits (parsed (loc_at text (Some record { start = 0; end = 0 }))) text []
from_start text = record { low = 0; high = 0; is = refl; from = 0; to = 0; above = omega arith; below = omega arith; order = omega arith; spelled = tt }

start_within : (text : List ℕ) → LiesWithin (loc_at text (Some record { start = 0; end = 0 })) (loc_at text (Some record { start = 0; end = 0 }))
start_within text = (refl, omega arith, omega arith)

set_of_tokens : (e : Extensions) (text : List ℕ) (ts : List Lexeme) (x : Policies) → Cuts text ts → ReadsPolicies text ts x
    → Stands IsTold (parsed (placed_or_start text ts x).loc) Anything (policies_outcome e (placed_or_start text ts x))
set_of_tokens e text [] x cut r = let c : Cell Policies = placed_or_start text [] x in policies_stand e (parsed c.loc) c (start_within text, policies_tidy r (from_start text))
set_of_tokens e text (t ∷ ts) x cut r =
    let h = all_fit text _ _ (t ∷ ts) cut tt in
    let c : Cell Policies = placed text (t ∷ ts) x in
    policies_stand e (parsed c.loc) c (within (parsed c.loc) text (t ∷ ts) h tt, policies_tidy r h)

pub set_stands : (e : Extensions) (text : List ℕ) (tree : Cell Policies) → IsTreeOf ReadsPolicies text tree → Stands IsTold (parsed tree.loc) Anything (policies_outcome e tree)
set_stands e text tree g = subst (λ y. Stands IsTold (parsed y.loc) Anything (policies_outcome e y)) (sym g.stands.is) (set_of_tokens e text g.tokens g.stands.tree g.cut g.stands.reads)

pub set_faults : (e : Extensions) (text : List ℕ) (tree : Cell Policies) → IsTreeOf ReadsPolicies text tree → StandWithin tree.loc (policies_outcome e tree)
set_faults e text tree g = stand_within tree.loc (policies_outcome e tree) (set_stands e text tree g)

-- ---- a parsed policy is tidy

abbrev pub some_of : {X : Type 0} → X → Option X
some_of x = Some x

some_is : {X : Type 0} {x y : X} → some_of x ≡ some_of y → x ≡ y
some_is e = cc

-- what holds of each policy that is read holds of a text's
pub parsed_as : (P : Origin → Policy → Type 0) (text : List ℕ) → ((w : Origin) (ts : List Lexeme) (x : Policy) → ReadsPolicy text ts x → Fits w text ts → P w x) → (tree : Cell Policy) (x : Policy) → IsTreeOf ReadsPolicy text tree → tree.node ≡ Some x
    → P (parsed tree.loc) x
parsed_as P text k tree x g e =
    let ts : List Lexeme = g.tokens in
    let y : Policy = g.stands.tree in
    let some = policy_some g.stands.reads in
    let c : Cell Policy = placed text ts y in
    let is : tree ≡ c = g.stands.is ∙ start_is text ts y some in
    subst (λ v. P (parsed v) x) (sym (ap (λ n. n.loc) is)) (subst (P (parsed c.loc)) (some_is (sym (ap (λ n. n.node) is) ∙ e)) (k (parsed c.loc) ts y g.stands.reads (all_fit text _ _ ts g.cut some)))

-- within its place, and its parts within theirs
pub parsed_parts : (text : List ℕ) (tree : Cell Policy) (x : Policy) → IsTreeOf ReadsPolicy text tree → tree.node ≡ Some x → WholeTidy (parsed tree.loc) x
parsed_parts text = parsed_as WholeTidy text (λ w ts x r h. (policy_tidy r h, parts_own r h))

pub parsed_tidy : (text : List ℕ) (tree : Cell Policy) (x : Policy) → IsTreeOf ReadsPolicy text tree → tree.node ≡ Some x → (w : Option Loc) × PolicyTidy (parsed w) x
parsed_tidy text tree x g e = (tree.loc, (parsed_parts text tree x g e).0)

-- ---- each policy of a parsed set

pub all_of_each : {X : Type 0} (P Q : X → Type 0) → ((x : X) → P x → Q x) → (xs : List X) → Each P xs → All Q xs
all_of_each P Q k [] h = All-nil Q
all_of_each P Q k (x ∷ xs) h = All-cons Q x xs (k x h.0) (all_of_each P Q k xs h.1)

some_place : (text : List ℕ) (ts : List Lexeme) → Cuts text ts → (w : Origin) × Fits w text ts
some_place text [] cut = (parsed (loc_at text (Some record { start = 0; end = 0 })), from_start text)
some_place text (t ∷ ts) cut = (parsed (loc_at text (extent (t ∷ ts))), all_fit text _ _ (t ∷ ts) cut tt)

-- tokens among those of a text, within their own place
pub some_fit : (text : List ℕ) (ts : List Lexeme) → AreTokensOf text ts → Some_of ts → Fits (parsed (loc_at text (extent ts))) text ts
some_fit text ts g s =
    let there = some_place text (g.0 ++ ts ++ g.1) g.2 in
    let front = (parts there.0 text (g.0 ++ ts) g.1 there.1).0 in
    own_fit there.0 text ts (parts there.0 text g.0 ts front).1 s

pub each_expr_faults : (e : Extensions) (text : List ℕ) (ts : List Lexeme) (x : Expr) → AreTokensOf text ts → ReadsExpr text ts x → StandWithin (placed text ts x).loc (value_outcome e (located expr_form (placed text ts x)))
each_expr_faults e text ts x g r =
    let some = expr_some r in
    let h = some_fit text ts g some in
    let c : Cell Expr = placed text ts x in
    value_faults e c.loc (located expr_form c) (sits (parsed c.loc) text expr_form ts x h some (expr_holds r h))

in_node : (text : List ℕ) (ts : List Lexeme) (x : Policies) → (placed_or_start text ts x).node ≡ Some x
in_node text [] x = refl
in_node text (t ∷ ts) x = refl

-- what follows of what holds of each policy that is read holds of those of a text's set
pub each_as : (P : Origin → Policy → Type 0) (text : List ℕ) → ((w : Origin) (ts : List Lexeme) (x : Policies) → ReadsPolicies text ts x → Fits w text ts → Each (Own P) x.0) → (tree : Cell Policies) (x : Policies) (Q : Cell Policy → Type 0)
    → IsTreeOf ReadsPolicies text tree → tree.node ≡ Some x → ((n : Cell Policy) → Own P n → Q n) → All Q x.0
each_as P text reads tree x Q g h k =
    let y : Policies = g.stands.tree in
    let there = some_place text g.tokens g.cut in
    subst (λ z. All Q z.0) (some_is (sym (ap (λ n. n.node) g.stands.is ∙ in_node text g.tokens y) ∙ h))
    (all_of_each (Own P) Q k y.0 (reads there.0 g.tokens y g.stands.reads there.1))

pub each_policy : (text : List ℕ) (tree : Cell Policies) (x : Policies) (Q : Cell Policy → Type 0) → IsTreeOf ReadsPolicies text tree → tree.node ≡ Some x → ((n : Cell Policy) → Own WholeTidy n → Q n) → All Q x.0
each_policy text = each_as WholeTidy text (λ w ts x r h. policies_own r h)

policy_alone : (w : Origin) (c : Option Policy) → Holding w (WholeTidy w) c → Holding w (PolicyTidy w) c
policy_alone w None h = h
policy_alone w (Some x) h = h.0

pub member_faults : (e : Extensions) (text id : List ℕ) (tree : Cell Policies) (x : Policies) → IsTreeOf ReadsPolicies text tree → tree.node ≡ Some x → All (λ n. StandWithin n.loc (template_outcome e id n)) x.0
member_faults e text id tree x g h =
    each_policy text tree x (λ n. StandWithin n.loc (template_outcome e id n)) g h
    (λ n i. stand_within n.loc (template_outcome e id n) (template_stands e (parsed n.loc) id n (i.0, policy_alone (parsed n.loc) n.node i.1)))

-- ---- each part of a policy

parts_stand : (e : Extensions) (w : Option Loc) (p : PolicyImpl) → WholeTidy (parsed w) (trees.Policy p) → PartsStandWithin e w p
parts_stand e w p h = (
  stand_within p.effect.loc (effect_outcome p.effect) (effect_stands (parsed p.effect.loc) p.effect (self_within w p.effect.loc h.0.1.0, h.0.1.1)),
  all_of_each (Own AnnotationTidy) (λ n. (keys : List (List ℕ)) → StandWithin n.loc (next (annotation_outcome n) (with_new_key keys)))
      (λ n i keys. stand_within n.loc (next (annotation_outcome n) (with_new_key keys)) (new_annotation_stands (parsed n.loc) keys n i)) p.annotations h.1.0,
  stand_within w (scope_outcome e p) (scope_stands e (parsed w) p h.0.1.0 h.0.2),
  all_of_each (Own CondTidy) (λ n. StandWithin n.loc (condition_outcome e n)) (λ n i. stand_within n.loc (condition_outcome e n) (condition_stands e (parsed n.loc) n i)) p.conds h.1.1,
)

pub part_faults : (e : Extensions) (text : List ℕ) (tree : Cell Policy) (p : PolicyImpl) → IsTreeOf ReadsPolicy text tree → tree.node ≡ Some (trees.Policy p) → PartsStandWithin e tree.loc p
part_faults e text tree p g h = parts_stand e tree.loc p (parsed_parts text tree (trees.Policy p) g h)

pub member_part_faults : (e : Extensions) (text : List ℕ) (tree : Cell Policies) (x : Policies) → IsTreeOf ReadsPolicies text tree → tree.node ≡ Some x
    → All (λ n. (p : PolicyImpl) → n.node ≡ Some (trees.Policy p) → PartsStandWithin e n.loc p) x.0
member_part_faults e text tree x g h =
    each_policy text tree x (λ n. (p : PolicyImpl) → n.node ≡ Some (trees.Policy p) → PartsStandWithin e n.loc p) g h
    (λ n i p k. parts_stand e n.loc p (subst (Holding (parsed n.loc) (WholeTidy (parsed n.loc))) k i.1))
