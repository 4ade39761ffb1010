-- Members: a primary and its accesses, one more at the end.
use Rattle.std.proofs.Common.{◌≡◌, ℕ, List, [], ◌∷◌, ◌++◌, append-nil, append_assoc, map, Option, Ok, refl, sym, ap, ◌∙◌}
use Rattle.cedar_lexer.specs.Token.{Lexeme}
use Rattle.cedar_lexer.specs.declared.token.TokenKind.TheVariants as kind
use Rattle.cedar_expressions.specs.Value as v
use Rattle.cedar_expressions.specs.Value.{Value, values}
use Rattle.cedar_syntax.specs.declared.loc.Loc.{Loc}
use Rattle.cedar_syntax.specs.declared.cst.Member.{Member}
use Rattle.cedar_syntax.specs.declared.cst.MemAccess.{MemAccess}
use Rattle.cedar_syntax.specs.declared.cst.MemAccess.TheVariants as access
use Rattle.cedar_syntax.specs.declared.cst.Primary.TheVariants as primary
use Rattle.cedar_syntax.specs.trees.Forms.{located, parts_of, access_form, primary_form, member_form, listed_access, listed_expr}
use Rattle.cedar_syntax.specs.trees.Located.{at}
use Rattle.cedar_syntax.specs.trees.Tree.{beside}
use Rattle.cedar_grammar.specs.grammar.LooseExpressions as l
use Rattle.cedar_grammar.specs.grammar.LooseExpressions.{ReadsMember, ReadsAccess}
use Rattle.cedar_grammar.specs.grammar.Place.{placed}
use Rattle.cedar_syntax.specs.tokens.Tokens.{Spot, one}
use Rattle.cedar_syntax.specs.trees.Trees.{Cell, member_of}
use Rattle.cedar_conversion.specs.outcome.Conversion.{Converts, Part, outcome, operands, accesses_outcome, access_outcome, bodies}
use Rattle.cedar_conversion.specs.strict.Extensions.{Extensions}
use Rattle.cedar_conversion.specs.outcome.Held.{Held, expression, bare_name, as_expression}
use Rattle.cedar_conversion.specs.parts.Members.{Access, field, call, index, accesses_of, member_outcome, method_outcome, function_outcome}
use Rattle.cedar_conversion.specs.parts.Names.{unreserved_ident}
use Rattle.cedar_conversion.specs.outcome.Outcome.{Outcome, next}
use Rattle.cedar_conversion.specs.strict.StrictCalls.{CallsMethod, IsFunction}
use Rattle.cedar_conversion.specs.strict.StrictWords.{IsIdentifier, IsName, IsText, IsVariableWord, path_value}
use Rattle.cedar_conversion.proofs.Inverted.{value_from}
use Rattle.cedar_conversion.proofs.Loops.{map_snoc}
use Rattle.cedar_policy_parser.proofs.Made.{gives_member, gives_field, gives_call, gives_index, gives_named}
use Rattle.cedar_policy_parser.proofs.complete.Calls.{method_given, function_given}
use Rattle.cedar_policy_parser.proofs.complete.Links.{NoCall, accesses_more, member_more, two_given}
use Rattle.cedar_policy_parser.proofs.complete.Lone.{by_itself, beside_tokens, index_read}
use Rattle.cedar_policy_parser.proofs.complete.Reads.{MemberRead, PrimaryRead, ListRead, under, bodies-under}
use Rattle.cedar_policy_parser.proofs.complete.Words.{NameRead, name_read, name_only, word_read, word_given}
use Rattle.cedar_policy_parser.proofs.sound.Links.{bracketed, dotted}

-- ---- a member's tree

abbrev pub tree_of : {e : Extensions} {src : List ℕ} {ts : List Lexeme} {a : Value} → MemberRead e src ts a → Member
tree_of {src = src} h = member_of (placed src h.first_tokens h.first) h.others

read_at : (src : List ℕ) (ts us : List Lexeme) (x : Member) → ts ≡ us → ReadsMember src us x → ReadsMember src ts x
read_at src ts us x h r = rw h r

pub tree_reads : {e : Extensions} {src : List ℕ} {ts : List Lexeme} {a : Value} (h : MemberRead e src ts a) → ReadsMember src ts (tree_of h)
tree_reads {src = src} {ts = ts} h = read_at src ts (h.first_tokens ++ h.other_tokens) (member_of (placed src h.first_tokens h.first) h.others) h.together (l.member h.reads_first h.reads_others)

pub tree_gives : {e : Extensions} {src : List ℕ} {ts : List Lexeme} {a : Value} (h : MemberRead e src ts a) (p : Option Loc) → Converts e (at p (member_form (tree_of h))) a
tree_gives {e = e} {src = src} h p =
    let x = placed src h.first_tokens h.first in
    value_from _ _ _ (gives_member e p x h.others ∙ two_given (outcome e (located primary_form x)) (accesses_outcome e (parts_of (map listed_access h.others))) h.links (λ s zs. member_outcome e p s zs) h.given) (h.gives p x.loc)

-- the same for other words of the tokens
pub member_at : {e : Extensions} {src : List ℕ} {a : Value} (ts us : List Lexeme) → ts ≡ us → MemberRead e src us a → MemberRead e src ts a
member_at ts us h r = rw h r

-- ---- a primary alone

pub member_alone : {e : Extensions} {src : List ℕ} {ts : List Lexeme} {a : Value} → PrimaryRead e src ts a → MemberRead e src ts a
unfolding accesses_outcome
member_alone {e = e} {ts = ts} h = record {
  first_tokens = ts;
  other_tokens = [];
  together = sym (append-nil ts);
  first = h.tree;
  others = [];
  reads_first = h.reads;
  reads_others = l.no_access;
  links = [];
  given = refl;
  gives = λ p q. ap (λ o. next o as_expression) (by_itself e p (outcome e (at q (primary_form h.tree)))) ∙ h.gives q;
}

-- ---- one access

-- a tree of an access, and what it gives
record AccessRead (e : Extensions) (src : List ℕ) (ts : List Lexeme) (w : Access) : Type 0 where
  tree : MemAccess
  reads : ReadsAccess src ts tree
  gives : (p : Option Loc) → access_outcome e (at p (access_form tree)) ≡ Ok w

id_given : (o : Outcome (List ℕ)) (id : List ℕ) → o ≡ Ok id → next o (λ x. Ok (field x)) ≡ Ok (field id)
id_given o id h = rw h refl

text_given : (o : Outcome (List ℕ)) (id : List ℕ) → o ≡ Ok id → next o (λ x. Ok (index x)) ≡ Ok (index id)
text_given o id h = rw h refl

args_given : (o : Outcome (List Part)) (args : List Value) → o ≡ Ok (under beside args) → next o (λ ps. Ok (call (bodies ps))) ≡ Ok (call args)
args_given o args h = rw (h, bodies-under beside args) refl

field_read : (e : Extensions) (src : List ℕ) {ts : List Lexeme} {id : List ℕ} (p : Spot) → IsIdentifier ts id → AccessRead e src (one kind.Dot p ++ ts) (field id)
field_read e src {ts = ts} {id = id} p i =
    let w = word_read i in
    record { tree = access.Field (placed src ts w.word); reads = l.field p w.reads; gives = λ q. gives_field e q (placed src ts w.word) ∙ id_given (unreserved_ident (placed src ts w.word)) id (word_given src w) }

bracket_read : (e : Extensions) (src : List ℕ) {ts : List Lexeme} {id : List ℕ} (i o : Spot) → IsText ts id → AccessRead e src (one kind.OpenBracket i ++ ts ++ one kind.CloseBracket o) (index id)
bracket_read e src {ts = ts} {id = id} i o t =
    let x = index_read e src t in
    record { tree = access.Index (placed src ts x.tree); reads = l.index i o x.reads; gives = λ q. gives_index e q (placed src ts x.tree) ∙ text_given _ id (x.gives (placed src ts x.tree).loc) }

call_read : (e : Extensions) (src : List ℕ) {ts : List Lexeme} {args : List Value} (i o : Spot) → ListRead e src ts args → AccessRead e src (one kind.OpenParen i ++ ts ++ one kind.CloseParen o) (call args)
call_read e src {args = args} i o list = record {
  tree = access.Call list.cells;
  reads = l.call i o list.reads;
  gives = λ q. gives_call e q list.cells ∙ args_given (operands e q (parts_of (map listed_expr list.cells))) args (list.give q);
}

-- ---- one more access

one_more : (e : Extensions) (src : List ℕ) (xs : List (Cell MemAccess)) (us : List Lexeme) (x : MemAccess) (zs : List Access) (w : Access) → accesses_outcome e (parts_of (map listed_access xs)) ≡ Ok zs → access_outcome e (located access_form (placed src us x)) ≡ Ok w
    → accesses_outcome e (parts_of (map listed_access (xs ++ placed src us x ∷ []))) ≡ Ok (zs ++ w ∷ [])
one_more e src xs us x zs w h k = ap (λ ys. accesses_outcome e (parts_of ys)) (map_snoc listed_access xs (placed src us x)) ∙ accesses_more e (map listed_access xs) (listed_access (placed src us x)) zs w h k

linked : {e : Extensions} {src : List ℕ} (ts us : List Lexeme) (a b : Value) (w : Access) → NoCall (w ∷ []) → ((p : Option Loc) → accesses_of e p a (w ∷ []) ≡ Ok (expression p b)) → MemberRead e src ts a → AccessRead e src us w → MemberRead e src (ts ++ us) b
linked {e = e} {src = src} ts us a b w no_call f h r = record {
  first_tokens = h.first_tokens;
  other_tokens = h.other_tokens ++ us;
  together = beside_tokens ts h.first_tokens h.other_tokens us h.together;
  first = h.first;
  others = h.others ++ placed src us r.tree ∷ [];
  reads_first = h.reads_first;
  reads_others = l.more_access h.reads_others r.reads;
  links = h.links ++ w ∷ [];
  given = one_more e src h.others us r.tree h.links w h.given (r.gives (placed src us r.tree).loc);
  gives = λ p q. ap (λ o. next o as_expression) (member_more e p (outcome e (at q (primary_form h.first))) h.links [] w a no_call (h.gives p q) ∙ f p);
}

method_value : (e : Extensions) (p : Option Loc) (id : List ℕ) (a b : Value) (args : List Value) → method_outcome e p id a args ≡ Ok b → accesses_of e p a (field id ∷ call args ∷ []) ≡ Ok (expression p b)
method_value e p id a b args h = rw h refl

-- a method's name and its arguments, two accesses
called_on : {e : Extensions} {src : List ℕ} (ts us vs : List Lexeme) (a b : Value) (id : List ℕ) (args : List Value) → CallsMethod e id a args b → MemberRead e src ts a → AccessRead e src us (field id) → AccessRead e src vs (call args) → MemberRead e src (ts ++ us ++ vs) b
called_on {e = e} {src = src} ts us vs a b id args c h r s = record {
  first_tokens = h.first_tokens;
  other_tokens = h.other_tokens ++ us ++ vs;
  together = beside_tokens (ts ++ us) h.first_tokens (h.other_tokens ++ us) vs (beside_tokens ts h.first_tokens h.other_tokens us h.together);
  first = h.first;
  others = (h.others ++ placed src us r.tree ∷ []) ++ placed src vs s.tree ∷ [];
  reads_first = h.reads_first;
  reads_others = l.more_access (l.more_access h.reads_others r.reads) s.reads;
  links = h.links ++ field id ∷ call args ∷ [];
  given = one_more e src (h.others ++ placed src us r.tree ∷ []) vs s.tree (h.links ++ field id ∷ []) (call args)
      (one_more e src h.others us r.tree h.links (field id) h.given (r.gives (placed src us r.tree).loc)) (s.gives (placed src vs s.tree).loc)
      ∙ ap Ok (append_assoc h.links (field id ∷ []) (call args ∷ []));
  gives = λ p q. ap (λ o. next o as_expression) (member_more e p (outcome e (at q (primary_form h.first))) h.links (call args ∷ []) (field id) a tt (h.gives p q) ∙ method_value e p id a b args (method_given e p c));
}

pub attribute_read : {e : Extensions} {src : List ℕ} {ts us : List Lexeme} {a : Value} {id : List ℕ} (p : Spot) → MemberRead e src ts a → IsIdentifier us id → MemberRead e src (ts ++ one kind.Dot p ++ us) (v.get_attr a id)
attribute_read {e = e} {src = src} {ts = ts} {us = us} {a = a} {id = id} p h i =
    member_at _ _ (append_assoc ts (one kind.Dot p) us) (linked ts (one kind.Dot p ++ us) a (v.get_attr a id) (field id) tt (λ q. refl) h (field_read e src p i))

pub indexed_read : {e : Extensions} {src : List ℕ} {ts us : List Lexeme} {a : Value} {id : List ℕ} (i o : Spot) → MemberRead e src ts a → IsText us id → MemberRead e src (ts ++ one kind.OpenBracket i ++ us ++ one kind.CloseBracket o) (v.get_attr a id)
indexed_read {e = e} {src = src} {ts = ts} {us = us} {a = a} {id = id} i o h t =
    member_at _ _ (bracketed ts (one kind.OpenBracket i) us (one kind.CloseBracket o)) (linked ts (one kind.OpenBracket i ++ us ++ one kind.CloseBracket o) a (v.get_attr a id) (index id) tt (λ q. refl) h (bracket_read e src i o t))

pub method_read : {e : Extensions} {src : List ℕ} {ts us vs : List Lexeme} {a b : Value} {id : List ℕ} {args : List Value} (p i o : Spot) → MemberRead e src ts a → IsIdentifier us id → ListRead e src vs args → CallsMethod e id a args b
    → MemberRead e src (ts ++ one kind.Dot p ++ us ++ one kind.OpenParen i ++ vs ++ one kind.CloseParen o) b
method_read {e = e} {src = src} {ts = ts} {us = us} {vs = vs} {a = a} {b = b} {id = id} {args = args} p i o h n list c =
    member_at _ _ (dotted ts (one kind.Dot p) us (one kind.OpenParen i) vs (one kind.CloseParen o))
    (called_on ts (one kind.Dot p ++ us) (one kind.OpenParen i ++ vs ++ one kind.CloseParen o) a b id args c h (field_read e src p n) (call_read e src i o list))

-- ---- a function's name and its arguments

name_value : (e : Extensions) (p q : Option Loc) (ids : List (List ℕ)) (id : List ℕ) (args : List Value) (o : Outcome Held) (h : Held) (b : Value) → o ≡ Ok h → h ≡ bare_name q (path_value ids id) → function_outcome e p (path_value ids id) args ≡ Ok b
    → next (next o (λ s. member_outcome e p s (call args ∷ []))) as_expression ≡ Ok b
name_value e p q ids id args o h b f g k = rw (f, g, k) refl

call_alone : {e : Extensions} {src : List ℕ} (ts vs : List Lexeme) (ids : List (List ℕ)) (id : List ℕ) (args : List Value) → IsFunction e ids id → (IsVariableWord ts → ⊥) → NameRead src ts ids id → AccessRead e src vs (call args)
    → MemberRead e src (ts ++ vs) (v.call_extension_fn (path_value ids id) (values args))
unfolding accesses_outcome
call_alone {e = e} {src = src} ts vs ids id args f other n r = record {
  first_tokens = ts;
  other_tokens = vs;
  together = refl;
  first = primary.Name (placed src ts n.tree);
  others = placed src vs r.tree ∷ [];
  reads_first = l.named n.reads;
  reads_others = l.more_access l.no_access r.reads;
  links = call args ∷ [];
  given = one_more e src [] vs r.tree [] (call args) refl (r.gives (placed src vs r.tree).loc);
  gives = λ p q.
      let d = n.gives q in
      name_value e p q ids id args (outcome e (at q (primary_form (primary.Name (placed src ts n.tree))))) d.0 (v.call_extension_fn (path_value ids id) (values args))
      (gives_named e q (placed src ts n.tree) ∙ d.1) (name_only ts q ids id d.0 d.2 other) (function_given e p ids id args f);
}

pub called_read : {e : Extensions} {src : List ℕ} {ts us : List Lexeme} {ids : List (List ℕ)} {id : List ℕ} {args : List Value} (i o : Spot) → IsName ts ids id → (IsVariableWord ts → ⊥) → IsFunction e ids id → ListRead e src us args
    → MemberRead e src (ts ++ one kind.OpenParen i ++ us ++ one kind.CloseParen o) (v.call_extension_fn (path_value ids id) (values args))
called_read {e = e} {src = src} {ts = ts} {us = us} {ids = ids} {id = id} {args = args} i o n other f list =
    member_at _ _ (bracketed ts (one kind.OpenParen i) us (one kind.CloseParen o)) (call_alone ts (one kind.OpenParen i ++ us ++ one kind.CloseParen o) ids id args f other (name_read src n) (call_read e src i o list))
