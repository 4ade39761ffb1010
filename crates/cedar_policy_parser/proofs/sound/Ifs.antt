-- The word `if` is no attribute and no key: what is made of it is refused.
use Rattle.std.proofs.Common.{◌≡◌, ℕ, List, [], map, Option, None, Ok, refl, sym, ◌∙◌}
use Rattle.cedar_lexer.specs.Token.{Lexeme}
use Rattle.cedar_lexer.specs.declared.token.TokenKind.TheVariants as kind
use Rattle.cedar_syntax.specs.declared.loc.Loc.{Loc}
use Rattle.cedar_syntax.specs.declared.cst.Member.{Member}
use Rattle.cedar_syntax.specs.declared.cst.And.{And}
use Rattle.cedar_syntax.specs.declared.cst.Name.{Name}
use Rattle.cedar_syntax.specs.declared.cst.Primary.{Primary}
use Rattle.cedar_syntax.specs.declared.cst.Relation.{Relation}
use Rattle.cedar_syntax.specs.declared.cst.MemAccess.{MemAccess}
use Rattle.cedar_syntax.specs.declared.cst.Ident.TheVariants as ident
use Rattle.cedar_syntax.specs.trees.Forms.{located, parts_of, expr_form, add_form, mult_form, member_form, unary_form, primary_form, listed_access, and_form, relation_form}
use Rattle.cedar_syntax.specs.trees.Located as f
use Rattle.cedar_syntax.specs.trees.Located.{Located, at}
use Rattle.cedar_syntax.specs.trees.Tree.{Level, disjunction, conjunction, relation, sum, product}
use Rattle.cedar_syntax.proofs.FormLevels.{primary_name}
use Rattle.cedar_grammar.specs.grammar.LooseExpressions.{if_name, lone_add, lone_expr}
use Rattle.cedar_grammar.specs.grammar.Place.{placed}
use Rattle.cedar_syntax.specs.tokens.Tokens.{Spot, one}
use Rattle.cedar_syntax.specs.trees.Trees.{Cell, or_of, and_of, common_of, mult_of, unary_of, member_of, name_of}
use Rattle.cedar_conversion.specs.outcome.Conversion.{outcome, operands, accesses_outcome}
use Rattle.cedar_conversion.specs.strict.Extensions.{Extensions}
use Rattle.cedar_conversion.specs.parts.HasSide.{Attributes, right_side, right_form, begins_with, attributes_of}
use Rattle.cedar_conversion.specs.outcome.Held.{Held}
use Rattle.cedar_conversion.specs.parts.Leaves.{name_leaf}
use Rattle.cedar_conversion.specs.outcome.Outcome.{both}
use Rattle.cedar_conversion.proofs.Inverted.{next_ok, both_ok}
use Rattle.cedar_policy_parser.proofs.Made.{gives_or_alone, gives_or, gives_and, gives_common, gives_add, gives_mult, gives_unary, gives_member, gives_named}
use Rattle.cedar_conversion.proofs.Parts.{alone}
use Rattle.cedar_policy_parser.proofs.sound.Sought.{begins_at, right_member, right_unary, right_mult, right_add}

-- ---- a member alone at the levels above

-- what is sought right of `has` is the member's
right_chain : (whole : Option Loc) (level : Level) (n : Located) → right_form whole (f.chain level n f.none) ≡ right_side whole n
unfolding right_form
right_chain whole level n = refl

pub lone_right : (whole place : Option Loc) (src : List ℕ) (ts : List Lexeme) (x : Member) → right_side whole (at place (add_form (lone_add src ts x))) ≡ right_side whole (located member_form (placed src ts x))
lone_right whole place src ts x =
    right_add whole place (placed src ts (mult_of (placed src ts (unary_of None (placed src ts x))) [])) []
    ∙ right_chain whole sum (located mult_form (placed src ts (mult_of (placed src ts (unary_of None (placed src ts x))) [])))
    ∙ right_mult whole (placed src ts x).loc (placed src ts (unary_of None (placed src ts x))) []
    ∙ right_chain whole product (located unary_form (placed src ts (unary_of None (placed src ts x))))
    ∙ right_unary whole (placed src ts x).loc None (placed src ts x)

-- what a member alone gives as a sum, and as an expression
pub lone_sum : (e : Extensions) (place : Option Loc) (src : List ℕ) (ts : List Lexeme) (x : Member) → outcome e (at place (add_form (lone_add src ts x))) ≡ outcome e (located member_form (placed src ts x))
unfolding operands
lone_sum e place src ts x =
    gives_add e place (placed src ts (mult_of (placed src ts (unary_of None (placed src ts x))) [])) []
    ∙ alone sum place (outcome e (located mult_form (placed src ts (mult_of (placed src ts (unary_of None (placed src ts x))) []))))
    ∙ gives_mult e (placed src ts x).loc (placed src ts (unary_of None (placed src ts x))) []
    ∙ alone product (placed src ts x).loc (outcome e (located unary_form (placed src ts (unary_of None (placed src ts x)))))
    ∙ gives_unary e (placed src ts x).loc None (placed src ts x)

abbrev lone_relation : List ℕ → List Lexeme → Member → Cell Relation
lone_relation src ts x = placed src ts (common_of (placed src ts (lone_add src ts x)) [])

abbrev lone_conjunction : List ℕ → List Lexeme → Member → Cell And
lone_conjunction src ts x = placed src ts (and_of (lone_relation src ts x) [])

pub lone_given : (e : Extensions) (place : Option Loc) (src : List ℕ) (ts : List Lexeme) (x : Member) → outcome e (at place (expr_form (lone_expr src ts x))) ≡ outcome e (located member_form (placed src ts x))
unfolding operands
lone_given e place src ts x =
    gives_or_alone e place (placed src ts (or_of (lone_conjunction src ts x) []))
    ∙ gives_or e (placed src ts x).loc (lone_conjunction src ts x) []
    ∙ alone disjunction (placed src ts x).loc (outcome e (located and_form (lone_conjunction src ts x)))
    ∙ gives_and e (placed src ts x).loc (lone_relation src ts x) []
    ∙ alone conjunction (placed src ts x).loc (outcome e (located relation_form (lone_relation src ts x)))
    ∙ gives_common e (placed src ts x).loc (placed src ts (lone_add src ts x)) []
    ∙ alone relation (placed src ts x).loc (outcome e (located add_form (placed src ts (lone_add src ts x))))
    ∙ lone_sum e (placed src ts x).loc src ts x

-- ---- `if`

-- the name `if` gives nothing
if_named : (place : Option Loc) (src : List ℕ) (p : Spot) (h : Held) → name_leaf place (placed src (one kind.If p) (name_of [] (placed src (one kind.If p) ident.If))) ≡ Ok h → ⊥
if_named place src p h k = cc

pub if_sought : (whole place : Option Loc) (src : List ℕ) (ts : List Lexeme) (p : Spot) (xs : List (Cell MemAccess)) (r : Attributes)
    → right_side whole (at place (add_form (lone_add src ts (member_of (placed src (one kind.If p) (if_name src p)) xs)))) ≡ Ok r → ⊥
if_sought whole place src ts p xs r h =
    let first : Cell Primary = placed src (one kind.If p) (if_name src p) in
    let word : Cell Name = placed src (one kind.If p) (name_of [] (placed src (one kind.If p) ident.If)) in
    let begun : begins_with whole (parts_of (map listed_access xs)) (located primary_form first) ≡ Ok r =
    sym (right_member whole (placed src ts (member_of first xs)).loc first xs) ∙ sym (lone_right whole place src ts (member_of first xs)) ∙ h in
    let d = next_ok (name_leaf first.loc word) (attributes_of whole (parts_of (map listed_access xs))) r (sym (begins_at whole (parts_of (map listed_access xs)) first.loc _ _ (primary_name word)) ∙ begun) in
    if_named first.loc src p d.0 d.1

pub if_given : (e : Extensions) (place : Option Loc) (src : List ℕ) (ts : List Lexeme) (p : Spot) (h : Held)
    → outcome e (at place (expr_form (lone_expr src ts (member_of (placed src (one kind.If p) (if_name src p)) [])))) ≡ Ok h → ⊥
if_given e place src ts p h k =
    let first : Cell Primary = placed src (one kind.If p) (if_name src p) in
    let word : Cell Name = placed src (one kind.If p) (name_of [] (placed src (one kind.If p) ident.If)) in
    let given = sym (gives_member e (placed src ts (member_of first [])).loc first []) ∙ sym (lone_given e place src ts (member_of first [])) ∙ k in
    let d = next_ok (both (outcome e (located primary_form first)) (accesses_outcome e (parts_of (map listed_access [])))) _ h given in
    let b = both_ok (outcome e (located primary_form first)) (accesses_outcome e (parts_of (map listed_access []))) d.0 d.1 in
    if_named first.loc src p d.0.0 (sym (gives_named e first.loc word) ∙ b.0)
