-- Primaries that hold no expression have a tree.
use Rattle.std.proofs.Common.{◌≡◌, ◌<◌, ℕ, IsTrue, true, false, List, [], Option, Some, Ok, refl, ap, arith, pos}
use Rattle.cedar_lexer.specs.Token.{Lexeme}
use Rattle.cedar_lexer.specs.declared.token.TokenKind.{TokenKind}
use Rattle.cedar_lexer.specs.declared.token.TokenKind.TheVariants as kind
use Rattle.cedar_expressions.specs.declared.entity.EntityUID.{EntityUID}
use Rattle.cedar_expressions.specs.declared.atoms.Var.{Var}
use Rattle.cedar_expressions.specs.declared.atoms.Var.TheVariants as vars
use Rattle.cedar_expressions.specs.declared.atoms.SlotId.{SlotId}
use Rattle.cedar_expressions.specs.declared.atoms.SlotId.TheVariants as slots
use Rattle.cedar_expressions.specs.declared.atoms.Literal.TheVariants as literals
use Rattle.cedar_expressions.specs.Value as v
use Rattle.cedar_expressions.specs.Value.{Value}
use Rattle.cedar_syntax.specs.declared.loc.Loc.{Loc}
use Rattle.cedar_syntax.specs.declared.cst.Ident.{Ident}
use Rattle.cedar_syntax.specs.declared.cst.Ident.TheVariants as ident
use Rattle.cedar_syntax.specs.declared.cst.Literal.{Literal}
use Rattle.cedar_syntax.specs.declared.cst.Literal.TheVariants as literal
use Rattle.cedar_syntax.specs.declared.cst.Primary.TheVariants as primary
use Rattle.cedar_syntax.specs.declared.cst.Slot.{Slot}
use Rattle.cedar_syntax.specs.declared.cst.Slot.TheVariants as slot
use Rattle.cedar_grammar.specs.grammar.LooseExpressions as l
use Rattle.cedar_grammar.specs.grammar.LooseExpressions.{ReadsSlot}
use Rattle.cedar_grammar.specs.grammar.LooseWords as lw
use Rattle.cedar_grammar.specs.grammar.LooseWords.{ReadsLiteral, is_common}
use Rattle.cedar_grammar.specs.grammar.Place.{placed}
use Rattle.cedar_syntax.specs.tokens.Tokens.{Spot, one, number_of, any_of}
use Rattle.cedar_syntax.specs.trees.Trees.{name_of as tree_name}
use Rattle.cedar_conversion.specs.parts.Entities.{slot_id}
use Rattle.cedar_conversion.specs.strict.Extensions.{Extensions}
use Rattle.cedar_conversion.specs.outcome.Held.{expression, as_expression}
use Rattle.cedar_conversion.specs.parts.Leaves.{slot_value, variable_or_name}
use Rattle.cedar_conversion.specs.parts.Literals.{literal_outcome}
use Rattle.cedar_conversion.specs.parts.Names.{variable_of}
use Rattle.cedar_conversion.specs.outcome.Outcome.{next}
use Rattle.cedar_conversion.specs.strict.Strict.{largest, slot_there}
use Rattle.cedar_conversion.specs.strict.StrictWords as m
use Rattle.cedar_conversion.specs.strict.StrictWords.{IsVariable, IsText, IsEntity}
use Rattle.cedar_conversion.proofs.Inverted.{value_from}
use Rattle.cedar_policy_parser.proofs.Made.{gives_literally, gives_named, gives_slot, gives_referred}
use Rattle.cedar_conversion.proofs.Quoted.{text_expected}
use Rattle.cedar_conversion.proofs.Signed.{literal_gives}
use Rattle.cedar_policy_parser.proofs.complete.Reads.{PrimaryRead}
use Rattle.cedar_policy_parser.proofs.complete.Signs.{number_fits}
use Rattle.cedar_policy_parser.proofs.complete.Words.{TextRead, EntityRead, text_read, entity_read}

-- ---- literals

literal_read : {e : Extensions} {src : List ℕ} {ts : List Lexeme} {w : Value} (x : Literal) → ReadsLiteral src ts x → ((p : Option Loc) → next (literal_outcome p (Some x)) as_expression ≡ Ok w) → PrimaryRead e src ts w
literal_read {e = e} {src = src} {ts = ts} x r g = record {
  tree = primary.Literal (placed src ts x);
  reads = l.literally r;
  gives = λ p. value_from _ _ _ (gives_literally e p (placed src ts x)) (g (placed src ts x).loc);
}

pub true_read : {e : Extensions} {src : List ℕ} (p : Spot) → PrimaryRead e src (one kind.True p) (v.val (literals.Bool true))
true_read p = literal_read literal.True (lw.truth p) (λ q. refl)

pub false_read : {e : Extensions} {src : List ℕ} (p : Spot) → PrimaryRead e src (one kind.False p) (v.val (literals.Bool false))
false_read p = literal_read literal.False (lw.falsity p) (λ q. refl)

pub number_read : {e : Extensions} {src : List ℕ} (p : Spot) → number_of p.text < largest → PrimaryRead e src (one kind.Number p) (v.val (literals.Long (pos (number_of p.text))))
number_read p small = literal_read (literal.Num (number_of p.text)) (lw.number p (number_fits (number_of p.text) p.text (omega (arith, small)) refl)) (λ q. literal_gives q (number_of p.text) small)

text_given : {src : List ℕ} {ts : List Lexeme} {text : List ℕ} (t : TextRead src ts text) (q : Option Loc) → next (literal_outcome q (Some t.tree)) as_expression ≡ Ok (v.val (literals.String text))
text_given {text = text} t q = rw (t.gives q, text_expected q t.raw text t.stands) refl

text_primary : {e : Extensions} (src : List ℕ) (ts : List Lexeme) (text : List ℕ) → TextRead src ts text → PrimaryRead e src ts (v.val (literals.String text))
text_primary src ts text t = literal_read t.tree t.reads (λ q. text_given t q)

pub string_read : {e : Extensions} {src : List ℕ} {ts : List Lexeme} {text : List ℕ} → IsText ts text → PrimaryRead e src ts (v.val (literals.String text))
string_read {src = src} {ts = ts} {text = text} t = text_primary src ts text (text_read src t)

-- ---- variables

word_primary : {e : Extensions} (src : List ℕ) (k : TokenKind) (p : Spot) (i : Ident) (x : Var) → any_of k p.text ≡ Some i → IsTrue (is_common i) → variable_of i ≡ Some x → PrimaryRead e src (one k p) (v.var x)
word_primary {e = e} src k p i x h fine found =
    let n = placed src (one k p) (tree_name [] (placed src (one k p) i)) in
    record {
      tree = primary.Name n;
      reads = l.named (lw.common (lw.any p h) fine);
      gives = λ q. value_from _ _ _ (gives_named e q n) (ap (λ o. next (variable_or_name q o n) as_expression) found);
    }

pub variable_read : {e : Extensions} {src : List ℕ} {k : TokenKind} {x : Var} (p : Spot) → IsVariable k x → PrimaryRead e src (one k p) (v.var x)
variable_read {src = src} p m.principal = word_primary src kind.Principal p ident.Principal vars.Principal refl refl refl
variable_read {src = src} p m.action = word_primary src kind.Action p ident.Action vars.Action refl refl refl
variable_read {src = src} p m.resource = word_primary src kind.Resource p ident.Resource vars.Resource refl refl refl
variable_read {src = src} p m.context = word_primary src kind.Context p ident.Context vars.Context refl refl refl

-- ---- slots and entities

slot_primary : {e : Extensions} (src : List ℕ) (k : TokenKind) (p : Spot) (x : Slot) (id : SlotId) → ReadsSlot k p.text x → ((q : Option Loc) → slot_id q x ≡ Ok id) → PrimaryRead e src (one k p) (slot_there id p)
slot_primary {e = e} src k p x id r g =
    let n = placed src (one k p) x in
    record {
      tree = primary.Slot n;
      reads = l.slotted p r;
      gives = λ q. value_from _ _ _ (gives_slot e q n) (ap (λ o. next (next o (λ i. Ok (expression n.loc (slot_value n.loc i)))) as_expression) (g n.loc));
    }

pub principal_slot_read : {e : Extensions} {src : List ℕ} (p : Spot) → PrimaryRead e src (one kind.PrincipalSlot p) (slot_there slots.Principal p)
principal_slot_read {src = src} p = slot_primary src kind.PrincipalSlot p slot.Principal slots.Principal l.principal_slot (λ q. refl)

pub resource_slot_read : {e : Extensions} {src : List ℕ} (p : Spot) → PrimaryRead e src (one kind.ResourceSlot p) (slot_there slots.Resource p)
resource_slot_read {src = src} p = slot_primary src kind.ResourceSlot p slot.Resource slots.Resource l.resource_slot (λ q. refl)

uid_primary : {e : Extensions} (src : List ℕ) (ts : List Lexeme) (uid : EntityUID) → EntityRead src ts uid → PrimaryRead e src ts (v.val (literals.EntityUID uid))
uid_primary {e = e} src ts uid h =
    let n = placed src ts h.tree in
    record {
      tree = primary.Ref n;
      reads = l.referred h.reads;
      gives = λ q. value_from _ _ _ (gives_referred e q n) (ap (λ o. next (next o (λ i. Ok (expression n.loc (v.val (literals.EntityUID i))))) as_expression) (h.gives n.loc));
    }

pub uid_read : {e : Extensions} {src : List ℕ} {ts : List Lexeme} {uid : EntityUID} → IsEntity ts uid → PrimaryRead e src ts (v.val (literals.EntityUID uid))
uid_read {src = src} {ts = ts} {uid = uid} i = uid_primary src ts uid (entity_read src i)
