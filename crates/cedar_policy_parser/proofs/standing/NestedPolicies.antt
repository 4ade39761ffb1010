-- The expressions of a parsed policy's conditions: each node lies within the place of the node
-- that it is a part of. So the faults of a condition are due.
use Rattle.std.proofs.Common.{◌≡◌, ℕ, List, ◌++◌, Option, Some, Err, refl, ◌∙◌, subst}
use Rattle.std.specs.List.{All}
use Rattle.cedar_lexer.specs.Token.{Lexeme}
use Rattle.cedar_lexer.specs.declared.token.TokenKind.TheVariants as kind
use Rattle.cedar_syntax.specs.declared.loc.Loc.{Loc}
use Rattle.cedar_syntax.specs.declared.node.Node.{Node}
use Rattle.cedar_syntax.specs.declared.cst.Cond.{Cond}
use Rattle.cedar_syntax.specs.declared.cst.Expr.{Expr}
use Rattle.cedar_syntax.specs.declared.cst.Ident.{Ident}
use Rattle.cedar_syntax.specs.declared.cst.Policies.{Policies}
use Rattle.cedar_syntax.specs.declared.cst.Policy.{Policy}
use Rattle.cedar_syntax.specs.declared.cst.Policy.TheVariants as trees
use Rattle.cedar_syntax.specs.declared.cst.PolicyImpl.{PolicyImpl}
use Rattle.cedar_syntax.specs.trees.Forms.{located, expr_form}
use Rattle.cedar_grammar.specs.grammar.Grammar.{IsTreeOf}
use Rattle.cedar_syntax.specs.tokens.Tokens.{one}
use Rattle.cedar_syntax.specs.trees.Trees.{Cell}
use Rattle.cedar_grammar.specs.grammar.LoosePolicies.{ReadsBody, no_body, body, ReadsCond, cond, ReadsPolicy, policy, ReadsPolicies, policies}
use Rattle.cedar_grammar.proofs.ExpressionTokens.{expr_some}
use Rattle.cedar_policy_conversion.specs.Conditions.{condition_outcome}
use Rattle.cedar_conversion.specs.outcome.Conversion.{value_outcome}
use Rattle.cedar_policy_parser.specs.faults.Due.{HoldsCondition, IsWhenOrUnless, OfParts, HasDueFaults, HaveDueFaults}
use Rattle.cedar_policy_parser.specs.faults.DueKinds.{IsDueIn, AreDueIn}
use Rattle.cedar_conversion.specs.strict.Extensions.{Extensions}
use Rattle.cedar_conversion.specs.outcome.Outcome.{NamedFault}
use Rattle.cedar_policy_parser.specs.faults.Sites.{wanted, expression}
use Rattle.cedar_policy_parser.proofs.due.DueTrees.{faults_are_due}
use Rattle.cedar_policy_parser.proofs.standing.Fitting.{Fits, parts, own_fit}
use Rattle.cedar_policy_parser.proofs.standing.Nested.{Nested}
use Rattle.cedar_policy_parser.proofs.standing.NestedTrees.{sits, expr_holds}
use Rattle.cedar_policy_parser.proofs.PolicyRefusals.{condition_is, one_is_given}
use Rattle.cedar_policy_parser.proofs.standing.Standing.{Origin, parsed}
use Rattle.cedar_policy_parser.proofs.standing.StandingTexts.{all_of_each, each_as, parsed_as}
use Rattle.cedar_policy_parser.proofs.tidy.Tidy.{Holding, Each}
use Rattle.cedar_policy_parser.proofs.tidy.TidyPolicies.{IfThere, Own, cond_some, many_own, policy_some}

-- ---- what is read

abbrev OneNested : Node (Option Expr) → Type 0
OneNested n = (w : Option Loc) × Nested w (located expr_form n)

abbrev CondNested : Origin → Cond → Type 0
CondNested w c = IfThere OneNested c.expr

abbrev CondsNested : Origin → Policy → Type 0
CondsNested w (trees.Policy p) = Each (Own CondNested) p.conds

body_nested : {w : Option Loc} {src : List ℕ} {ts : List Lexeme} {x : Option (Cell Expr)} → ReadsBody src ts x → Fits (parsed w) src ts → IfThere OneNested x
body_nested no_body h = tt
body_nested {w = w} {src = src} (body {ts = ts} {x = x} r) h = (w, sits w src expr_form ts x h (expr_some r) (λ g. expr_holds r g))

cond_nested : (w : Origin) (src : List ℕ) (ts : List Lexeme) (x : Cond) → ReadsCond src ts x → Fits w src ts → CondNested w x
cond_nested w src all x (cond {ts = ts} {us = us} l m r b) h =
    let g = own_fit w src (ts ++ one kind.OpenBrace l ++ us ++ one kind.CloseBrace m) h (cond_some (cond l m r b)) in
    body_nested b (parts (parsed _) src (ts ++ one kind.OpenBrace l) us (parts (parsed _) src (ts ++ one kind.OpenBrace l ++ us) (one kind.CloseBrace m) g).0).1

policy_nested : (w : Origin) (src : List ℕ) (ts : List Lexeme) (x : Policy) → ReadsPolicy src ts x → Fits w src ts → CondsNested w x
policy_nested w src all x (policy {ts = ts} {us = us} {vs = vs} {ws = ws} l m e a r b c) h =
    let d = (parts w src (ts ++ us ++ one kind.OpenParen l ++ vs ++ one kind.CloseParen m) ws (parts w src (ts ++ us ++ one kind.OpenParen l ++ vs ++ one kind.CloseParen m ++ ws) (one kind.Semicolon e) h).0).1 in
    many_own w src (ReadsCond src) CondNested (λ ts x r. cond_some r) (λ v ts x r h. cond_nested v src ts x r h) c d

policies_nested : (w : Origin) (src : List ℕ) (ts : List Lexeme) (x : Policies) → ReadsPolicies src ts x → Fits w src ts → Each (Own CondsNested) x.0
policies_nested w src ts x (policies m) h = many_own w src (ReadsPolicy src) CondsNested (λ ts x r. policy_some r) (λ v ts x r h. policy_nested v src ts x r h) m h

-- ---- a condition

refused_by : (e : Extensions) (n : Node (Option Cond)) (word : Ident) (place : Option Loc) (expr : Node (Option Expr)) (faults : List NamedFault) → HoldsCondition n word place (Some expr) → IsWhenOrUnless word
    → value_outcome e (located expr_form expr) ≡ Err faults → condition_outcome e n ≡ Err faults
refused_by e n word place expr faults i h c = condition_is e n _ i ∙ rw ((one_is_given place word h).1, c) refl

due_if : (e : Extensions) (n : Node (Option Expr)) (faults : List NamedFault) → OneNested n → value_outcome e (located expr_form n) ≡ Err faults → All (IsDueIn e (wanted expression (located expr_form n))) faults
due_if e n faults h c = subst (λ o. AreDueIn e (wanted expression (located expr_form n)) o) c (faults_are_due e h.0 (located expr_form n) h.1)

condition_due : (e : Extensions) (n : Node (Option Cond)) → Own CondNested n → HasDueFaults e n
condition_due e n h word place expr faults i r c = (refused_by e n word place expr faults i r c, due_if e expr faults (subst (Holding (parsed n.loc) (CondNested (parsed n.loc))) i h.1) c)

conditions_due : (e : Extensions) (p : PolicyImpl) → Each (Own CondNested) p.conds → HaveDueFaults e p
conditions_due e p h = all_of_each (Own CondNested) (HasDueFaults e) (condition_due e) p.conds h

-- ---- a parsed policy, and each of a parsed set

pub policy_due : (e : Extensions) (text : List ℕ) (tree : Cell Policy) → IsTreeOf ReadsPolicy text tree → OfParts (HaveDueFaults e) tree
policy_due e text tree g p i = conditions_due e p (parsed_as CondsNested text (λ w ts x r h. policy_nested w text ts x r h) tree (trees.Policy p) g i)

pub set_due : (e : Extensions) (text : List ℕ) (tree : Cell Policies) (x : Policies) → IsTreeOf ReadsPolicies text tree → tree.node ≡ Some x → All (OfParts (HaveDueFaults e)) x.0
set_due e text tree x g h =
    each_as CondsNested text (λ w ts y r f. policies_nested w text ts y r f) tree x (OfParts (HaveDueFaults e)) g h
    (λ n i p k. conditions_due e p (subst (Holding (parsed n.loc) (CondsNested (parsed n.loc))) k i.1))
