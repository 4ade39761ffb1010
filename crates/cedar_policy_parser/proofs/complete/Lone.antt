-- A primary alone as a sum and as an expression: a name, a string, a key, a type, a pattern, an
-- attribute.
use Rattle.std.proofs.Common.{◌≡◌, ℕ, List, [], ◌∷◌, ◌++◌, append-nil, append_assoc, map, Option, Ok, Err, refl, sym, ap, ◌∙◌}
use Rattle.cedar_lexer.specs.Token.{Lexeme}
use Rattle.cedar_lexer.specs.declared.token.TokenKind.TheVariants as kind
use Rattle.cedar_expressions.specs.declared.atoms.PatternElem.{PatternElem}
use Rattle.cedar_syntax.specs.declared.loc.Loc.{Loc}
use Rattle.cedar_syntax.specs.declared.cst.Member.{Member}
use Rattle.cedar_syntax.specs.declared.cst.MemAccess.{MemAccess}
use Rattle.cedar_syntax.specs.declared.cst.MemAccess.TheVariants as access
use Rattle.cedar_syntax.specs.declared.cst.Primary.{Primary}
use Rattle.cedar_syntax.specs.declared.cst.Primary.TheVariants as primary
use Rattle.cedar_syntax.specs.declared.cst.Ident.{Ident}
use Rattle.cedar_syntax.specs.trees.Forms.{located, parts_of, member_form, primary_form, access_form, listed_access}
use Rattle.cedar_syntax.specs.trees.Located as f
use Rattle.cedar_syntax.specs.trees.Located.{Located, Form, Parts, at}
use Rattle.cedar_syntax.specs.trees.Tree.{Operator}
use Rattle.cedar_syntax.proofs.FormLevels.{primary_name, primary_literal, access_field}
use Rattle.cedar_grammar.specs.grammar.LooseExpressions as l
use Rattle.cedar_grammar.specs.grammar.LooseExpressions.{ReadsAdd, ReadsExpr, ReadsMember, ReadsPrimary, ReadsAccesses, lone_add, lone_expr}
use Rattle.cedar_grammar.specs.grammar.LooseWords as lw
use Rattle.cedar_syntax.specs.strings.Pattern.{IsPattern}
use Rattle.cedar_grammar.specs.grammar.Place.{placed}
use Rattle.cedar_syntax.specs.tokens.Tokens.{Spot, one, between_quotes}
use Rattle.cedar_syntax.specs.trees.Trees.{Cell, member_of}
use Rattle.cedar_conversion.specs.outcome.Conversion.{outcome, accesses_outcome}
use Rattle.cedar_conversion.specs.strict.Extensions.{Extensions}
use Rattle.cedar_conversion.specs.parts.HasSide.{Attributes, right_side, attributes_of, behind_first, fields_of, field_of, field_form}
use Rattle.cedar_conversion.specs.outcome.Held.{Held, bare_string, as_entity_type, as_pattern, as_string, as_attribute, type_of_name}
use Rattle.cedar_conversion.specs.parts.Members.{member_outcome}
use Rattle.cedar_conversion.specs.parts.Names.{unreserved_ident}
use Rattle.cedar_conversion.specs.outcome.Outcome.{Outcome, next}
use Rattle.cedar_conversion.specs.strict.StrictWords as m
use Rattle.cedar_conversion.specs.strict.StrictWords.{IsIdentifier, IsName, IsText, IsKey, IsSought, AreAttributes, path_value}
use Rattle.cedar_conversion.proofs.Inverted.{ok_is, next_ok}
use Rattle.cedar_conversion.proofs.Loops.{map_snoc}
use Rattle.cedar_policy_parser.proofs.Made.{gives_member, gives_named, gives_literally}
use Rattle.cedar_conversion.proofs.Quoted.{text_expected, pattern_expected}
use Rattle.cedar_policy_parser.proofs.complete.Links.{two_given}
use Rattle.cedar_policy_parser.proofs.complete.Reads.{ExprAs, AddAs, SoughtRead}
use Rattle.cedar_policy_parser.proofs.complete.Words.{NameRead, TextRead, IsHeldName, word_read, word_given, word_name, name_read, text_read, name_type, name_key, name_begins, string_tree}
use Rattle.cedar_policy_parser.proofs.sound.Ifs.{lone_right, lone_sum, lone_given}
use Rattle.cedar_policy_parser.proofs.sound.Sought.{begins_at, right_member}

-- ---- a primary alone

read_at : (src : List ℕ) (ts us : List Lexeme) (x : Member) → us ≡ ts → ReadsMember src us x → ReadsMember src ts x
read_at src ts us x h r = rw (← h) r

pub alone_reads : (src : List ℕ) (ts : List Lexeme) (x : Primary) → ReadsPrimary src ts x → ReadsMember src ts (member_of (placed src ts x) [])
alone_reads src ts x r = read_at src ts (ts ++ []) (member_of (placed src ts x) []) (append-nil ts) (l.member r l.no_access)

sum_reads : (src : List ℕ) (ts : List Lexeme) (x : Member) → ReadsMember src ts x → ReadsAdd src ts (lone_add src ts x)
sum_reads src ts x r = l.add (l.one_mult (l.mult (l.one_unary (l.plain r))))

pub expr_reads : (src : List ℕ) (ts : List Lexeme) (x : Member) → ReadsMember src ts x → ReadsExpr src ts (lone_expr src ts x)
expr_reads src ts x r = l.or_expr (l.or (l.one_and (l.and (l.one_relation (l.common (l.one_add (sum_reads src ts x r)))))))

pub by_itself : (e : Extensions) (p : Option Loc) (o : Outcome Held) → next o (λ h. member_outcome e p h []) ≡ o
by_itself e p (Ok h) = refl
by_itself e p (Err fs) = refl

pub alone_gives : (e : Extensions) (src : List ℕ) (ts : List Lexeme) (p : Option Loc) (x : Primary) → outcome e (at p (member_form (member_of (placed src ts x) []))) ≡ outcome e (located primary_form (placed src ts x))
unfolding accesses_outcome
alone_gives e src ts p x =
    gives_member e p (placed src ts x) []
    ∙ two_given (outcome e (located primary_form (placed src ts x))) (Ok []) [] (λ h zs. member_outcome e p h zs) refl
    ∙ by_itself e p (outcome e (located primary_form (placed src ts x)))

pub primary_add : {X : Type 0} (e : Extensions) (src : List ℕ) (ts : List Lexeme) (wanted : Held → Outcome X) (y : X) (x : Primary) → ReadsPrimary src ts x → ((q : Option Loc) → next (outcome e (at q (primary_form x))) wanted ≡ Ok y) → AddAs e src ts wanted y
primary_add e src ts wanted y x r g = record {
  tree = lone_add src ts (member_of (placed src ts x) []);
  reads = sum_reads src ts (member_of (placed src ts x) []) (alone_reads src ts x r);
  gives = λ p. ap (λ o. next o wanted) (lone_sum e p src ts (member_of (placed src ts x) []) ∙ alone_gives e src ts (placed src ts (member_of (placed src ts x) [])).loc x) ∙ g (placed src ts x).loc;
}

pub primary_expr : {X : Type 0} (e : Extensions) (src : List ℕ) (ts : List Lexeme) (wanted : Held → Outcome X) (y : X) (x : Primary) → ReadsPrimary src ts x → ((q : Option Loc) → next (outcome e (at q (primary_form x))) wanted ≡ Ok y) → ExprAs e src ts wanted y
primary_expr e src ts wanted y x r g = record {
  tree = lone_expr src ts (member_of (placed src ts x) []);
  reads = expr_reads src ts (member_of (placed src ts x) []) (alone_reads src ts x r);
  gives = λ p. ap (λ o. next o wanted) (lone_given e p src ts (member_of (placed src ts x) []) ∙ alone_gives e src ts (placed src ts (member_of (placed src ts x) [])).loc x) ∙ g (placed src ts x).loc;
}

-- ---- names and strings

-- what a name gives where it is wanted as something
name_wanted : {X : Type 0} (e : Extensions) (src : List ℕ) (ts : List Lexeme) (ids : List (List ℕ)) (id : List ℕ) (wanted : Held → Outcome X) (y : X) (n : NameRead src ts ids id) (q : Option Loc) → ((h : Held) → IsHeldName ts q ids id h → wanted h ≡ Ok y)
    → next (outcome e (at q (primary_form (primary.Name (placed src ts n.tree))))) wanted ≡ Ok y
name_wanted e src ts ids id wanted y n q is_wanted =
    let d = n.gives q in
    ap (λ o. next o wanted) (gives_named e q (placed src ts n.tree) ∙ d.1) ∙ is_wanted d.0 d.2

-- and what a string gives
text_wanted : {X : Type 0} (e : Extensions) (src : List ℕ) (ts : List Lexeme) (text : List ℕ) (wanted : Held → Outcome X) (y : X) (t : TextRead src ts text) (q : Option Loc) → wanted (bare_string (placed src ts t.tree).loc t.raw) ≡ Ok y
    → next (outcome e (at q (primary_form (primary.Literal (placed src ts t.tree))))) wanted ≡ Ok y
text_wanted e src ts text wanted y t q h = ap (λ o. next o wanted) (gives_literally e q (placed src ts t.tree) ∙ t.gives (placed src ts t.tree).loc) ∙ h

-- the name of a type
pub type_read : (e : Extensions) (src : List ℕ) {ts : List Lexeme} {ids : List (List ℕ)} {id : List ℕ} → IsName ts ids id → AddAs e src ts as_entity_type (type_of_name (path_value ids id))
type_read e src {ts = ts} {ids = ids} {id = id} i =
    let n = name_read src i in
    primary_add e src ts as_entity_type (type_of_name (path_value ids id)) (primary.Name (placed src ts n.tree)) (l.named n.reads) (λ q. name_wanted e src ts ids id as_entity_type (type_of_name (path_value ids id)) n q (λ h k. name_type ts q ids id h k))

-- a pattern
pub pattern_read : (e : Extensions) (src : List ℕ) (p : Spot) (pattern : List PatternElem) → IsPattern (between_quotes p.text) pattern → AddAs e src (one kind.StringLit p) as_pattern pattern
pattern_read e src p pattern i =
    let x = placed src (one kind.StringLit p) (string_tree src p) in
    primary_add e src (one kind.StringLit p) as_pattern pattern (primary.Literal x) (l.literally (lw.string p)) (λ q. ap (λ o. next o as_pattern) (gives_literally e q x) ∙ pattern_expected x.loc (between_quotes p.text) pattern i)

-- a string in brackets
pub index_read : (e : Extensions) (src : List ℕ) {ts : List Lexeme} {text : List ℕ} → IsText ts text → ExprAs e src ts as_string text
index_read e src {ts = ts} {text = text} i =
    let t = text_read src i in
    primary_expr e src ts as_string text (primary.Literal (placed src ts t.tree)) (l.literally t.reads) (λ q. text_wanted e src ts text as_string text t q (text_expected (placed src ts t.tree).loc t.raw text t.stands))

-- a record's key
pub key_read : (e : Extensions) (src : List ℕ) {ts : List Lexeme} {key : List ℕ} → IsKey ts key → ExprAs e src ts as_attribute key
key_read e src (m.word {ts = ts} {key = key} i) =
    let n = word_name src i in
    primary_expr e src ts as_attribute key (primary.Name (placed src ts n.tree)) (l.named n.reads) (λ q. name_wanted e src ts [] key as_attribute key n q (λ h k. name_key ts q key h k))
key_read e src (m.text {ts = ts} {key = key} i) =
    let t = text_read src i in
    primary_expr e src ts as_attribute key (primary.Literal (placed src ts t.tree)) (l.literally t.reads) (λ q. text_wanted e src ts key as_attribute key t q (text_expected (placed src ts t.tree).loc t.raw key t.stands))

-- ---- right of `has`

both_fields : (q : Operator × Located) (ps : List (Operator × Located)) (x : List ℕ) (xs : List (List ℕ)) → field_of q.1 ≡ Ok x → fields_of (parts_of ps) ≡ Ok xs → fields_of (parts_of (q ∷ ps)) ≡ Ok (x ∷ xs)
both_fields q ps x xs h k = rw (h, k) refl

fields_more : (ps : List (Operator × Located)) (p : Operator × Located) (ids : List (List ℕ)) (id : List ℕ) → fields_of (parts_of ps) ≡ Ok ids → field_of p.1 ≡ Ok id → fields_of (parts_of (ps ++ p ∷ [])) ≡ Ok (ids ++ id ∷ [])
fields_more [] p ids id h k = both_fields p [] id [] k refl ∙ ap (λ xs. Ok (xs ++ id ∷ [])) (ok_is h)
fields_more (q ∷ ps) p ids id h k =
    let a = next_ok (field_of q.1) _ ids h in
    let b = next_ok (fields_of (parts_of ps)) _ ids a.2 in
    both_fields q (ps ++ p ∷ []) a.0 (b.0 ++ id ∷ []) a.1 (fields_more ps p b.0 id b.1 k) ∙ ap (λ xs. Ok (xs ++ id ∷ [])) (ok_is b.2)

-- the first attribute's name, and the fields behind it
record AttributesRead (src : List ℕ) (ts : List Lexeme) (first : List ℕ) (ids : List (List ℕ)) : Type 0 where
  first_tokens : List Lexeme
  other_tokens : List Lexeme
  together : ts ≡ first_tokens ++ other_tokens
  name : NameRead src first_tokens [] first
  others : List (Cell MemAccess)
  reads : ReadsAccesses src other_tokens others
  give : fields_of (parts_of (map listed_access others)) ≡ Ok ids

field_given : (src : List ℕ) (us vs : List Lexeme) (word : Ident) (id : List ℕ) → unreserved_ident (placed src us word) ≡ Ok id → field_of (located access_form (placed src vs (access.Field (placed src us word)))) ≡ Ok id
field_given src us vs word id h = ap (field_form (placed src vs (access.Field (placed src us word))).loc) (access_field (placed src us word)) ∙ h

pub beside_tokens : (ts f o us : List Lexeme) → ts ≡ f ++ o → ts ++ us ≡ f ++ (o ++ us)
beside_tokens ts f o us h = ap (λ xs. xs ++ us) h ∙ append_assoc f o us

attributes_read : (src : List ℕ) {ts : List Lexeme} {first : List ℕ} {ids : List (List ℕ)} → AreAttributes ts first ids → AttributesRead src ts first ids
attributes_read src (m.one_attribute {ts = ts} i) = record { first_tokens = ts; other_tokens = []; together = sym (append-nil ts); name = word_name src i; others = []; reads = l.no_access; give = refl }
attributes_read src (m.more_attributes {ts = ts} {us = us} {first = first} {id = id} {ids = ids} p a i) =
    let h = attributes_read src a in
    let w = word_read i in
    let vs = one kind.Dot p ++ us in
    let x = placed src vs (access.Field (placed src us w.word)) in
    record {
      first_tokens = h.first_tokens;
      other_tokens = h.other_tokens ++ vs;
      together = append_assoc ts (one kind.Dot p) us ∙ beside_tokens ts h.first_tokens h.other_tokens vs h.together;
      name = h.name;
      others = h.others ++ x ∷ [];
      reads = l.more_access h.reads (l.field p w.reads);
      give = ap (λ zs. fields_of (parts_of zs)) (map_snoc listed_access h.others x)
          ∙ fields_more (map listed_access h.others) (listed_access x) ids id h.give (field_given src us vs w.word id (word_given src w));
    }

behind_given : (ps : Parts) (first : List ℕ) (ids : List (List ℕ)) → fields_of ps ≡ Ok ids → behind_first ps first ≡ Ok (first, ids)
behind_given ps first ids h = rw h refl

sought_tree : (src : List ℕ) (ts : List Lexeme) (r : Attributes) (x : Member) → ReadsMember src ts x → ((whole p : Option Loc) → right_side whole (at p (member_form x)) ≡ Ok r) → SoughtRead src ts r
sought_tree src ts r x i g = record {
  tree = lone_add src ts x;
  reads = sum_reads src ts x i;
  gives = λ whole p. lone_right whole p src ts x ∙ g whole (placed src ts x).loc;
}

name_sought : (src : List ℕ) (ts us : List Lexeme) (first : List ℕ) (ids : List (List ℕ)) (n : NameRead src ts [] first) (xs : List (Cell MemAccess)) → ReadsAccesses src us xs → fields_of (parts_of (map listed_access xs)) ≡ Ok ids → SoughtRead src (ts ++ us) (first, ids)
name_sought src ts us first ids n xs r g =
    let name = placed src ts n.tree in
    let x = placed src ts (primary.Name name) in
    let ps = parts_of (map listed_access xs) in
    sought_tree src (ts ++ us) (first, ids) (member_of x xs) (l.member (l.named n.reads) r) (λ whole p.
    let d = n.gives x.loc in
    right_member whole p x xs ∙ begins_at whole ps x.loc _ _ (primary_name name) ∙ ap (λ o. next o (attributes_of whole ps)) d.1 ∙ name_begins ts x.loc whole ps first d.0 d.2 ∙ behind_given ps first ids g)

string_given : (place : Option Loc) (raw text : List ℕ) (whole : Option Loc) → as_string (bare_string place raw) ≡ Ok text → attributes_of whole f.none (bare_string place raw) ≡ Ok (text, [])
string_given place raw text whole h = rw h refl

text_sought : (src : List ℕ) (ts : List Lexeme) (text : List ℕ) → TextRead src ts text → SoughtRead src ts (text, [])
text_sought src ts text t =
    let literal = placed src ts t.tree in
    let x = placed src ts (primary.Literal literal) in
    sought_tree src ts (text, []) (member_of x []) (alone_reads src ts (primary.Literal literal) (l.literally t.reads)) (λ whole p.
    right_member whole p x [] ∙ begins_at whole f.none x.loc _ _ (primary_literal literal) ∙ ap (λ o. next o (attributes_of whole f.none)) (t.gives literal.loc)
    ∙ string_given literal.loc t.raw text whole (text_expected literal.loc t.raw text t.stands))

sought_at : (src : List ℕ) (ts us : List Lexeme) (r : Attributes) → ts ≡ us → SoughtRead src us r → SoughtRead src ts r
sought_at src ts us r h s = rw h s

pub sought_read : (src : List ℕ) {ts : List Lexeme} {id : List ℕ} {ids : List (List ℕ)} → IsSought ts id ids → SoughtRead src ts (id, ids)
sought_read src (m.attributes {ts = ts} {id = id} {ids = ids} a) =
    let h = attributes_read src a in
    sought_at src ts (h.first_tokens ++ h.other_tokens) (id, ids) h.together (name_sought src h.first_tokens h.other_tokens id ids h.name h.others h.reads h.give)
sought_read src (m.text {ts = ts} {id = id} t) = text_sought src ts id (text_read src t)
