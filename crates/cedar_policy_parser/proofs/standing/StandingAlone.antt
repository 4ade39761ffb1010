-- Where the faults of the tree of a primary's text, of an entity's and of an identifier's stand.
use Rattle.std.proofs.Common.{ℕ, List, Option, sym, ◌∙◌, subst}
use Rattle.cedar_lexer.specs.Token.{Lexeme}
use Rattle.cedar_syntax.specs.declared.cst.Ident.{Ident}
use Rattle.cedar_syntax.specs.declared.cst.Primary.{Primary}
use Rattle.cedar_syntax.specs.declared.cst.Ref.{Ref}
use Rattle.cedar_syntax.specs.declared.loc.Loc.{Loc}
use Rattle.cedar_syntax.specs.trees.Forms.{located, primary_form}
use Rattle.cedar_grammar.specs.grammar.Grammar.{IsTreeOf}
use Rattle.cedar_syntax.specs.trees.Located as f
use Rattle.cedar_syntax.specs.trees.Located.{Located, Form}
use Rattle.cedar_grammar.specs.grammar.LooseExpressions.{ReadsPrimary}
use Rattle.cedar_grammar.specs.grammar.LooseWords.{ReadsIdent, ReadsRef}
use Rattle.cedar_grammar.specs.grammar.Place.{placed}
use Rattle.cedar_syntax.specs.trees.Trees.{Cell}
use Rattle.cedar_grammar.proofs.ExpressionTokens.{primary_some}
use Rattle.cedar_grammar.proofs.WordPlaces.{any_some, ref_some, start_is}
use Rattle.cedar_conversion.specs.parts.Entities.{entity_outcome}
use Rattle.cedar_conversion.specs.outcome.Held.{as_string}
use Rattle.cedar_conversion.specs.parts.Literals.{literal_outcome, string_outcome}
use Rattle.cedar_conversion.specs.parts.Names.{valid_ident}
use Rattle.cedar_conversion.specs.outcome.Outcome.{Outcome, empty_node, invalid_string}
use Rattle.cedar_policy_parser.specs.faults.Standing.{StandWithin}
use Rattle.cedar_policy_parser.proofs.standing.Fitting.{all_fit}
use Rattle.cedar_policy_parser.proofs.standing.Standing.{Origin, parsed, LiesIn, anywhere, IsPlain, Stands, Anything, alone, next_stands, weaker, stand_within}
use Rattle.cedar_policy_parser.proofs.standing.StandingLeaves.{HeldWithin, string_held, valid_stands, entity_stands, literal_stands}
use Rattle.cedar_policy_parser.proofs.tidy.Tidy.{Tidy, FormTidy}
use Rattle.cedar_policy_parser.proofs.tidy.TidyTrees.{sits, primary_holds}
use Rattle.cedar_policy_parser.proofs.tidy.TidyWords.{ident_tidy, ref_tidy}

-- of these kinds within a place
plain_within : {X : Type 0} (outer : Option Loc) (x : Outcome X) → Stands IsPlain (parsed outer) Anything x → StandWithin outer x
plain_within outer x h = stand_within outer x (weaker (parsed outer) Anything x h)

string_form_stands : (o : Origin) (p : Option Loc) (u : Form) → LiesIn o p → FormTidy o u → Stands IsPlain o Anything (string_outcome (f.at p u))
string_form_stands o p (f.literal n) w h = next_stands IsPlain o (HeldWithin o) Anything (literal_outcome n.loc n.node) as_string (literal_stands o n.loc n.node h.0 h.1) (string_held o)
string_form_stands o p u w h = alone IsPlain o invalid_string p tt w

pub string_stands : (o : Origin) (n : Located) → Tidy o n → Stands IsPlain o Anything (string_outcome n)
string_stands o (f.missing p) h = alone IsPlain o empty_node p h (anywhere o p h)
string_stands o (f.at p u) h = string_form_stands o p u h.0 h.1

pub primary_faults : (text : List ℕ) (tree : Cell Primary) → IsTreeOf ReadsPrimary text tree → StandWithin tree.loc (string_outcome (located primary_form tree))
primary_faults text tree g =
    let ts : List Lexeme = g.tokens in
    let x : Primary = g.stands.tree in
    let some = primary_some g.stands.reads in
    let h = all_fit text _ _ ts g.cut some in
    let c : Cell Primary = placed text ts x in
    subst (λ y. StandWithin y.loc (string_outcome (located primary_form y))) (sym (g.stands.is ∙ start_is text ts x some))
    (plain_within c.loc (string_outcome (located primary_form c)) (string_stands (parsed c.loc) (located primary_form c) (sits (parsed c.loc) text primary_form ts x h some (primary_holds g.stands.reads h))))

pub entity_faults : (text : List ℕ) (tree : Cell Ref) → IsTreeOf ReadsRef text tree → StandWithin tree.loc (entity_outcome tree)
entity_faults text tree g =
    let ts : List Lexeme = g.tokens in
    let x : Ref = g.stands.tree in
    let some = ref_some g.stands.reads in
    let h = all_fit text _ _ ts g.cut some in
    let c : Cell Ref = placed text ts x in
    subst (λ y. StandWithin y.loc (entity_outcome y)) (sym (g.stands.is ∙ start_is text ts x some))
    (plain_within c.loc (entity_outcome c) (entity_stands (parsed c.loc) c (ref_tidy g.stands.reads h)))

pub ident_faults : (text : List ℕ) (tree : Cell Ident) → IsTreeOf ReadsIdent text tree → StandWithin tree.loc (valid_ident tree)
ident_faults text tree g =
    let ts : List Lexeme = g.tokens in
    let x : Ident = g.stands.tree in
    let some = any_some g.stands.reads in
    let h = all_fit text _ _ ts g.cut some in
    let c : Cell Ident = placed text ts x in
    subst (λ y. StandWithin y.loc (valid_ident y)) (sym (g.stands.is ∙ start_is text ts x some))
    (plain_within c.loc (valid_ident c) (valid_stands (parsed c.loc) c (ident_tidy g.stands.reads h)))
