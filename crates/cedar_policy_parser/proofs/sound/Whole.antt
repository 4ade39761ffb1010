-- What the tree of some tokens gives is held of them, and so what it is converted to is what they
-- mean: the induction over the loose grammar.
use Rattle.std.proofs.Common.{◌≡◌, ℕ, List, [], ◌∷◌, ◌++◌, map, Option, Some, None, Ok, refl, sym, ap, ◌∙◌}
use Rattle.cedar_lexer.specs.Token.{Lexeme}
use Rattle.cedar_lexer.specs.declared.token.TokenKind.{TokenKind}
use Rattle.cedar_lexer.specs.declared.token.TokenKind.TheVariants as kind
use Rattle.cedar_expressions.specs.declared.operators.AddOp.{AddOp}
use Rattle.cedar_expressions.specs.Value.{Value}
use Rattle.cedar_syntax.specs.declared.loc.Loc.{Loc}
use Rattle.cedar_syntax.specs.tokens.Signs.{sign_limit}
use Rattle.cedar_syntax.specs.declared.cst.Expr.{Expr}
use Rattle.cedar_syntax.specs.declared.cst.Or.{Or}
use Rattle.cedar_syntax.specs.declared.cst.And.{And}
use Rattle.cedar_syntax.specs.declared.cst.RelOp.{RelOp}
use Rattle.cedar_syntax.specs.declared.cst.Relation.{Relation}
use Rattle.cedar_syntax.specs.declared.cst.Add.{Add}
use Rattle.cedar_syntax.specs.declared.cst.MultOp.{MultOp}
use Rattle.cedar_syntax.specs.declared.cst.Mult.{Mult}
use Rattle.cedar_syntax.specs.declared.cst.Unary.{Unary}
use Rattle.cedar_syntax.specs.declared.cst.Member.{Member}
use Rattle.cedar_syntax.specs.declared.cst.MemAccess.{MemAccess}
use Rattle.cedar_syntax.specs.declared.cst.Primary.{Primary}
use Rattle.cedar_syntax.specs.declared.cst.RecInit.{RecInit}
use Rattle.cedar_syntax.specs.trees.Forms.{located, parts_of, expr_form, or_form, and_form, relation_form, add_form, mult_form, unary_form, member_form, primary_form, access_form, init_form, or_operand, and_operand, relation_operand, add_operand, mult_operand, listed_access, listed_expr, listed_init}
use Rattle.cedar_syntax.specs.trees.Located.{at}
use Rattle.cedar_syntax.specs.trees.Tree.{Operator, or_or, and_and, multiply, beside}
use Rattle.cedar_grammar.specs.grammar.Place.{placed}
use Rattle.cedar_grammar.specs.grammar.LooseExpressions as l
use Rattle.cedar_grammar.specs.grammar.LooseExpressions.{ReadsExpr, ReadsOr, ReadsAnds, ReadsAnd, ReadsRelations, ReadsRelation, ReadsAdds, ReadsAdd, ReadsMults, ReadsMult, ReadsUnaries, ReadsUnary, ReadsMember, ReadsAccesses, ReadsAccess, ReadsPrimary, ReadsExprs, ReadsExprItems, ReadsRecInits, ReadsInitItems, ReadsRecInit, if_name, lone_add}
use Rattle.cedar_syntax.specs.tokens.Tokens.{Spot, one}
use Rattle.cedar_syntax.specs.trees.Trees.{Cell, member_of, bangs_of, dashes_of}
use Rattle.cedar_conversion.specs.outcome.Conversion.{Part, outcome, operands, value_outcome, accesses_outcome, access_outcome, pairs_outcome, pair_outcome, expression_at, number_in, lone_literal, bodies}
use Rattle.cedar_conversion.specs.strict.Extensions.{Extensions}
use Rattle.cedar_conversion.specs.parts.HasSide.{right_side}
use Rattle.cedar_conversion.specs.outcome.Held.{Held, expression, as_expression, as_string, as_attribute}
use Rattle.cedar_conversion.specs.parts.Members.{Access, field, call, index, member_outcome}
use Rattle.cedar_conversion.specs.parts.Names.{unreserved_ident}
use Rattle.cedar_conversion.specs.outcome.Outcome.{Outcome, both, next}
use Rattle.cedar_conversion.specs.strict.Strict as m
use Rattle.cedar_conversion.specs.strict.Strict.{Sort, Listed, Entries, JoinedEntries, Entry}
use Rattle.cedar_conversion.proofs.Inverted.{ok_is, next_ok, both_ok}
use Rattle.cedar_policy_parser.proofs.Lists.{bodies-snoc}
use Rattle.cedar_conversion.proofs.Loops.{map_snoc}
use Rattle.cedar_policy_parser.proofs.Made.{gives_or_alone, gives_if, gives_or, gives_and, gives_common, gives_add, gives_mult, gives_unary, gives_has, gives_like, gives_is, gives_is_in, gives_member, gives_field, gives_call, gives_index, gives_literally, gives_named, gives_slot, gives_referred, gives_paren, gives_set, gives_braces, gives_entry}
use Rattle.cedar_policy_parser.proofs.sound.Bare.{Meant, HeldAs, held_means, held_up, held_string, held_key}
use Rattle.cedar_policy_parser.proofs.sound.Ifs.{if_sought, if_given}
use Rattle.cedar_policy_parser.proofs.sound.Items.{accesses_snoc, pairs_snoc, set_held, braces_held}
use Rattle.cedar_policy_parser.proofs.sound.Leaves.{held_as, literal_held, slot_held_as, entity_held_as, name_held}
use Rattle.cedar_policy_parser.proofs.sound.Levels.{JoinedAs, Parted, parted_one, parted_more, or_held, and_held, mult_held}
use Rattle.cedar_policy_parser.proofs.sound.Links.{IsLink, AreLinks, is_field, is_call, is_index, no_link, links_snoc, member_meant}
use Rattle.cedar_policy_parser.proofs.sound.Numerals.{bare_as}
use Rattle.cedar_policy_parser.proofs.sound.Sides.{has_held, like_held, is_held, is_in_held, if_held}
use Rattle.cedar_policy_parser.proofs.sound.Signs.{banged_held, dashed_held}
use Rattle.cedar_policy_parser.proofs.sound.Sought.{add_sought}
use Rattle.cedar_policy_parser.proofs.sound.Sums.{Summed, summed_one, summed_more, add_held, Compared, compared_one, compared_more, relation_held, snoc_parts, plain_operand, times_only}
use Rattle.cedar_policy_parser.proofs.sound.Words.{unreserved_meant}

-- where an expression is wanted of what is given
value_of : (e : Extensions) (ts : List Lexeme) (s : Sort) (o : Outcome Held) (w : Value) → ((h : Held) → o ≡ Ok h → HeldAs e s ts h) → next o as_expression ≡ Ok w → Meant e s ts w
value_of e ts s o w i k = let d = next_ok o as_expression w k in held_means e s d.0 w (i d.0 d.1) d.2

expression_of : (e : Extensions) (src : List ℕ) (ts : List Lexeme) (x : Expr) (w : Value) → ((h : Held) → outcome e (located expr_form (placed src ts x)) ≡ Ok h → HeldAs e m.expression ts h) → value_outcome e (located expr_form (placed src ts x)) ≡ Ok w
    → Meant e m.expression ts w
expression_of e src ts x w i k = value_of e ts m.expression (outcome e (located expr_form (placed src ts x))) w i k

sum_of : (e : Extensions) (src : List ℕ) (ts : List Lexeme) (x : Add) (w : Value) → ((h : Held) → outcome e (located add_form (placed src ts x)) ≡ Ok h → HeldAs e m.sum ts h) → value_outcome e (located add_form (placed src ts x)) ≡ Ok w → Meant e m.sum ts w
sum_of e src ts x w i k = value_of e ts m.sum (outcome e (located add_form (placed src ts x))) w i k

-- only `*` stands between factors
times_parted : (e : Extensions) (t : TokenKind) (ts us : List Lexeme) (h : Held) (op : Operator) (qs ps : List Part) (b : Value) (p : Spot) → t ≡ kind.Star → ps ≡ qs ++ (op, b) ∷ [] → Parted e kind.Star m.signed ts h qs → Meant e m.signed us b
    → Parted e kind.Star m.signed (ts ++ one t p ++ us) h ps
times_parted e t ts us h op qs ps b p star f i n = rw star (parted_more e kind.Star m.signed ts us h op qs ps b p f i n)

-- what is in parentheses is an expression
paren_held : (e : Extensions) (ts : List Lexeme) (a b : Spot) (place : Option Loc) (x : Outcome Value) (h : Held) → ((w : Value) → x ≡ Ok w → Meant e m.expression ts w) → next x (expression_at place) ≡ Ok h
    → HeldAs e m.primary (one kind.OpenParen a ++ ts ++ one kind.CloseParen b) h
paren_held e ts a b place x h i k =
    let d = next_ok x (expression_at place) h k in
    held_as e m.primary _ (expression place d.0) h (ok_is d.2) (m.parenthesized a b (i d.0 d.1))

-- a primary and its accesses
member_held : (e : Extensions) (ts us : List Lexeme) (place : Option Loc) (x : Outcome Held) (r : Outcome (List Access)) (h : Held) → ((s : Held) → x ≡ Ok s → HeldAs e m.primary ts s) → ((zs : List Access) → r ≡ Ok zs → AreLinks e us zs)
    → next (both x r) (λ q. member_outcome e place q.0 q.1) ≡ Ok h → HeldAs e m.member (ts ++ us) h
member_held e ts us place x r h i j k =
    let d = next_ok (both x r) _ h k in
    let b = both_ok x r d.0 d.1 in
    member_meant ts d.0.1 place d.0.0 h (i d.0.0 b.0) (j d.0.1 b.1) d.2

-- ---- accesses

links_as : (e : Extensions) (ts : List Lexeme) (zs ys : List Access) → zs ≡ ys → AreLinks e ts ys → AreLinks e ts zs
links_as e ts zs ys h i = rw h i

link_as : (e : Extensions) (ts : List Lexeme) (a b : Access) → b ≡ a → IsLink e ts b → IsLink e ts a
link_as e ts a b h i = rw (← h) i

-- ---- items

-- a first item, those behind it, and what they are of
abbrev IsJoined : Extensions → List Lexeme → List Value → Type 0
IsJoined e ts vs = (a : Value) × (bs : List Value) × (vs ≡ a ∷ bs) × JoinedAs e kind.Comma m.expression ts a bs

listed_as : (e : Extensions) (ts : List Lexeme) (vs ws : List Value) → vs ≡ ws → Listed e sign_limit ts ws → Listed e sign_limit ts vs
listed_as e ts vs ws h i = rw h i

joined_one : (e : Extensions) (ts : List Lexeme) (qs ps : List Part) (op : Operator) (b : Value) → [] ≡ qs → ps ≡ qs ++ (op, b) ∷ [] → Meant e m.expression ts b → IsJoined e ts (bodies ps)
joined_one e ts qs ps op b h k i = (b, [], ap bodies (k ∙ ap (λ xs. xs ++ (op, b) ∷ []) (sym h)), m.one_part i)

joined_more : (e : Extensions) (ts us : List Lexeme) (p : Spot) (qs ps : List Part) (op : Operator) (b : Value) → ps ≡ qs ++ (op, b) ∷ [] → IsJoined e ts (bodies qs) → Meant e m.expression us b → IsJoined e (ts ++ one kind.Comma p ++ us) (bodies ps)
joined_more e ts us p qs ps op b k j i = (j.0, j.1 ++ b ∷ [], ap bodies k ∙ bodies-snoc qs op b ∙ ap (λ xs. xs ++ b ∷ []) j.2, m.more_parts p j.3 i)

-- ---- entries

entries_as : (e : Extensions) (ts : List Lexeme) (xs ys : List (List ℕ × Value)) → xs ≡ ys → Entries e sign_limit ts ys → Entries e sign_limit ts xs
entries_as e ts xs ys h i = rw h i

joined_as : (e : Extensions) (ts : List Lexeme) (xs ys : List (List ℕ × Value)) → xs ≡ ys → JoinedEntries e sign_limit ts ys → JoinedEntries e sign_limit ts xs
joined_as e ts xs ys h i = rw h i

-- ---- the induction

mutual
  unfolding operands accesses_outcome pairs_outcome

  sound_expr : {src : List ℕ} {ts : List Lexeme} {x : Expr} (e : Extensions) (place : Option Loc) (h : Held) → ReadsExpr src ts x → outcome e (at place (expr_form x)) ≡ Ok h → HeldAs e m.expression ts h
  sound_expr {src = src} e place h (l.or_expr {ts = ts} {x = x} r) k =
      held_up e m.disjunction m.expression h (λ w i. m.one_disjunction i) (sound_or e (placed src ts x).loc h r (sym (gives_or_alone e place (placed src ts x)) ∙ k))
  sound_expr {src = src} e place h (l.if_expr {ts = ts} {us = us} {vs = vs} {c = c} {x = x} {y = y} i t o r s u) k =
      if_held e ts us vs i t o place (value_outcome e (located expr_form (placed src ts c))) (value_outcome e (located expr_form (placed src us x))) (value_outcome e (located expr_form (placed src vs y))) h
      (λ w g. expression_of e src ts c w (λ t j. sound_expr e (placed src ts c).loc t r j) g) (λ w g. expression_of e src us x w (λ t j. sound_expr e (placed src us x).loc t s j) g) (λ w g. expression_of e src vs y w (λ t j. sound_expr e (placed src vs y).loc t u j) g)
      (sym (gives_if e place (placed src ts c) (placed src us x) (placed src vs y)) ∙ k)

  sound_or : {src : List ℕ} {ts : List Lexeme} {x : Or} (e : Extensions) (place : Option Loc) (h : Held) → ReadsOr src ts x → outcome e (at place (or_form x)) ≡ Ok h → HeldAs e m.disjunction ts h
  sound_or e place h (l.or {ts = ts} {x = x} {xs = xs} r) k =
      or_held e ts place (parts_of (map or_operand xs)) (outcome e (located and_form x)) (operands e place (parts_of (map or_operand xs))) h (λ s qs i j. sound_ands e place s qs r i j) (sym (gives_or e place x xs) ∙ k)

  sound_ands : {src : List ℕ} {ts : List Lexeme} {x : Cell And} {xs : List (Cell And)} (e : Extensions) (place : Option Loc) (s : Held) (ps : List Part) → ReadsAnds src ts x xs
      → outcome e (located and_form x) ≡ Ok s → operands e place (parts_of (map or_operand xs)) ≡ Ok ps → Parted e kind.OrOr m.conjunction ts s ps
  sound_ands {src = src} e place s ps (l.one_and {ts = ts} {x = x} r) i k = parted_one e kind.OrOr m.conjunction ts s ps (ok_is k) (sound_and e (placed src ts x).loc s r i)
  sound_ands {src = src} e place s ps (l.more_and {ts = ts} {us = us} {y = y} {xs = xs} p r n) i k =
      let d = snoc_parts e place or_operand xs (placed src us y) ps k in
      parted_more e kind.OrOr m.conjunction ts us s or_or d.0 ps d.1 p d.4 (sound_ands e place s d.0 r i d.2)
      (value_of e us m.conjunction (outcome e (located and_form (placed src us y))) d.1 (λ h g. sound_and e (placed src us y).loc h n g) (plain_operand e place (or_operand (placed src us y)) d.1 (λ v. refl) d.3))

  sound_and : {src : List ℕ} {ts : List Lexeme} {x : And} (e : Extensions) (place : Option Loc) (h : Held) → ReadsAnd src ts x → outcome e (at place (and_form x)) ≡ Ok h → HeldAs e m.conjunction ts h
  sound_and e place h (l.and {ts = ts} {x = x} {xs = xs} r) k =
      and_held e ts place (parts_of (map and_operand xs)) (outcome e (located relation_form x)) (operands e place (parts_of (map and_operand xs))) h (λ s qs i j. sound_relations e place s qs r i j) (sym (gives_and e place x xs) ∙ k)

  sound_relations : {src : List ℕ} {ts : List Lexeme} {x : Cell Relation} {xs : List (Cell Relation)} (e : Extensions) (place : Option Loc) (s : Held) (ps : List Part) → ReadsRelations src ts x xs
      → outcome e (located relation_form x) ≡ Ok s → operands e place (parts_of (map and_operand xs)) ≡ Ok ps → Parted e kind.AndAnd m.relation ts s ps
  sound_relations {src = src} e place s ps (l.one_relation {ts = ts} {x = x} r) i k = parted_one e kind.AndAnd m.relation ts s ps (ok_is k) (sound_relation e (placed src ts x).loc s r i)
  sound_relations {src = src} e place s ps (l.more_relation {ts = ts} {us = us} {y = y} {xs = xs} p r n) i k =
      let d = snoc_parts e place and_operand xs (placed src us y) ps k in
      parted_more e kind.AndAnd m.relation ts us s and_and d.0 ps d.1 p d.4 (sound_relations e place s d.0 r i d.2)
      (value_of e us m.relation (outcome e (located relation_form (placed src us y))) d.1 (λ h g. sound_relation e (placed src us y).loc h n g) (plain_operand e place (and_operand (placed src us y)) d.1 (λ v. refl) d.3))

  sound_relation : {src : List ℕ} {ts : List Lexeme} {x : Relation} (e : Extensions) (place : Option Loc) (h : Held) → ReadsRelation src ts x → outcome e (at place (relation_form x)) ≡ Ok h → HeldAs e m.relation ts h
  sound_relation e place h (l.common {ts = ts} {x = x} {xs = xs} r) k =
      relation_held e ts place (parts_of (map relation_operand xs)) (outcome e (located add_form x)) h (λ s qs i j. sound_adds e place s qs r i j) (sym (gives_common e place x xs) ∙ k)
  sound_relation {src = src} e place h (l.has {ts = ts} {us = us} {x = x} {y = y} p r s) k =
      has_held e ts us p place (right_side (placed src us y).loc (located add_form (placed src us y))) (value_outcome e (located add_form (placed src ts x))) h
      (λ q i. add_sought (placed src us y).loc (placed src us y).loc q s i) (λ w g. sum_of e src ts x w (λ t j. sound_add e (placed src ts x).loc t r j) g) (sym (gives_has e place (placed src ts x) (placed src us y)) ∙ k)
  sound_relation {src = src} e place h (l.has_if {ts = ts} {us = us} {x = x} {xs = xs} p q r s) k =
      let right : Cell Add = placed src (one kind.If q ++ us) (lone_add src (one kind.If q ++ us) (member_of (placed src (one kind.If q) (if_name src q)) xs)) in
      let d = next_ok (right_side right.loc (located add_form right)) _ h (sym (gives_has e place (placed src ts x) right) ∙ k) in
      absurd (if_sought right.loc right.loc src (one kind.If q ++ us) q xs d.0 d.1)
  sound_relation {src = src} e place h (l.like {ts = ts} {us = us} {x = x} {y = y} p r s) k =
      like_held e ts us p place (outcome e (located add_form (placed src us y))) (value_outcome e (located add_form (placed src ts x))) h
      (λ t i. sound_add e (placed src us y).loc t s i) (λ w g. sum_of e src ts x w (λ t j. sound_add e (placed src ts x).loc t r j) g) (sym (gives_like e place (placed src ts x) (placed src us y)) ∙ k)
  sound_relation {src = src} e place h (l.is {ts = ts} {us = us} {x = x} {y = y} p r s) k =
      is_held e ts us p place (outcome e (located add_form (placed src us y))) (value_outcome e (located add_form (placed src ts x))) h
      (λ t i. sound_add e (placed src us y).loc t s i) (λ w g. sum_of e src ts x w (λ t j. sound_add e (placed src ts x).loc t r j) g) (sym (gives_is e place (placed src ts x) (placed src us y)) ∙ k)
  sound_relation {src = src} e place h (l.is_in {ts = ts} {us = us} {vs = vs} {x = x} {y = y} {z = z} p q r s u) k =
      is_in_held e ts us vs p q place (outcome e (located add_form (placed src us y))) (value_outcome e (located add_form (placed src ts x))) (value_outcome e (located add_form (placed src vs z))) h
      (λ t i. sound_add e (placed src us y).loc t s i) (λ w g. sum_of e src ts x w (λ t j. sound_add e (placed src ts x).loc t r j) g) (λ w g. sum_of e src vs z w (λ t j. sound_add e (placed src vs z).loc t u j) g)
      (sym (gives_is_in e place (placed src ts x) (placed src us y) (placed src vs z)) ∙ k)

  sound_adds : {src : List ℕ} {ts : List Lexeme} {x : Cell Add} {xs : List (RelOp × Cell Add)} (e : Extensions) (place : Option Loc) (s : Held) (ps : List Part) → ReadsAdds src ts x xs
      → outcome e (located add_form x) ≡ Ok s → operands e place (parts_of (map relation_operand xs)) ≡ Ok ps → Compared e ts s ps
  sound_adds {src = src} e place s ps (l.one_add {ts = ts} {x = x} r) i k = compared_one e ts s ps (ok_is k) (sound_add e (placed src ts x).loc s r i)
  sound_adds {src = src} e place s ps (l.more_add {us = us} {o = o} {y = y} {xs = xs} p r q n) i k =
      let d = snoc_parts e place relation_operand xs (o, placed src us y) ps k in
      compared_more o d.0 ps d.1 p d.4 (sound_adds e place s d.0 r i d.2) q (sum_of e src us y d.1 (λ t j. sound_add e (placed src us y).loc t n j) (plain_operand e place (relation_operand (o, placed src us y)) d.1 (λ v. refl) d.3))

  pub sound_add : {src : List ℕ} {ts : List Lexeme} {x : Add} (e : Extensions) (place : Option Loc) (h : Held) → ReadsAdd src ts x → outcome e (at place (add_form x)) ≡ Ok h → HeldAs e m.sum ts h
  sound_add e place h (l.add {ts = ts} {x = x} {xs = xs} r) k =
      add_held e ts place (parts_of (map add_operand xs)) (outcome e (located mult_form x)) (operands e place (parts_of (map add_operand xs))) h (λ s qs i j. sound_mults e place s qs r i j) (sym (gives_add e place x xs) ∙ k)

  sound_mults : {src : List ℕ} {ts : List Lexeme} {x : Cell Mult} {xs : List (AddOp × Cell Mult)} (e : Extensions) (place : Option Loc) (s : Held) (ps : List Part) → ReadsMults src ts x xs
      → outcome e (located mult_form x) ≡ Ok s → operands e place (parts_of (map add_operand xs)) ≡ Ok ps → Summed e ts s ps
  sound_mults {src = src} e place s ps (l.one_mult {ts = ts} {x = x} r) i k = summed_one e ts s ps (ok_is k) (sound_mult e (placed src ts x).loc s r i)
  sound_mults {src = src} e place s ps (l.more_mult {ts = ts} {us = us} {k = t} {o = o} {y = y} {xs = xs} p r q n) i k =
      let d = snoc_parts e place add_operand xs (o, placed src us y) ps k in
      summed_more e t ts us s o d.0 ps d.1 p d.4 (sound_mults e place s d.0 r i d.2) q
      (value_of e us m.product (outcome e (located mult_form (placed src us y))) d.1 (λ h g. sound_mult e (placed src us y).loc h n g) (plain_operand e place (add_operand (o, placed src us y)) d.1 (λ v. refl) d.3))

  sound_mult : {src : List ℕ} {ts : List Lexeme} {x : Mult} (e : Extensions) (place : Option Loc) (h : Held) → ReadsMult src ts x → outcome e (at place (mult_form x)) ≡ Ok h → HeldAs e m.product ts h
  sound_mult e place h (l.mult {ts = ts} {x = x} {xs = xs} r) k =
      mult_held e ts place (parts_of (map mult_operand xs)) (outcome e (located unary_form x)) (operands e place (parts_of (map mult_operand xs))) h (λ s qs i j. sound_unaries e place s qs r i j) (sym (gives_mult e place x xs) ∙ k)

  sound_unaries : {src : List ℕ} {ts : List Lexeme} {x : Cell Unary} {xs : List (MultOp × Cell Unary)} (e : Extensions) (place : Option Loc) (s : Held) (ps : List Part) → ReadsUnaries src ts x xs
      → outcome e (located unary_form x) ≡ Ok s → operands e place (parts_of (map mult_operand xs)) ≡ Ok ps → Parted e kind.Star m.signed ts s ps
  sound_unaries {src = src} e place s ps (l.one_unary {ts = ts} {x = x} r) i k = parted_one e kind.Star m.signed ts s ps (ok_is k) (sound_unary e (placed src ts x).loc s r i)
  sound_unaries {src = src} e place s ps (l.more_unary {ts = ts} {us = us} {k = t} {o = o} {y = y} {xs = xs} p r q n) i k =
      let d = snoc_parts e place mult_operand xs (o, placed src us y) ps k in
      let only_times = times_only place (value_outcome e (located unary_form (placed src us y))) d.1 q d.3 in
      times_parted e t ts us s (multiply o) d.0 ps d.1 p only_times.0 d.4 (sound_unaries e place s d.0 r i d.2)
      (value_of e us m.signed (outcome e (located unary_form (placed src us y))) d.1 (λ h g. sound_unary e (placed src us y).loc h n g) only_times.1)

  sound_unary : {src : List ℕ} {ts : List Lexeme} {x : Unary} (e : Extensions) (place : Option Loc) (h : Held) → ReadsUnary src ts x → outcome e (at place (unary_form x)) ≡ Ok h → HeldAs e m.signed ts h
  sound_unary {src = src} e place h (l.plain {ts = ts} {x = x} r) k =
      held_up e m.member m.signed h (λ w i. m.unsigned i) (sound_member e (placed src ts x).loc h r (sym (gives_unary e place None (placed src ts x)) ∙ k))
  sound_unary {src = src} e place h (l.banged {ts = ts} {us = us} {n = n} {x = x} q r) k =
      banged_held e ts us place n (number_in (lone_literal (located member_form (placed src us x)))) (outcome e (located member_form (placed src us x))) h q
      (λ w g. value_of e us m.member (outcome e (located member_form (placed src us x))) w (λ t i. sound_member e (placed src us x).loc t r i) g) (sym (gives_unary e place (Some (bangs_of n)) (placed src us x)) ∙ k)
  sound_unary {src = src} e place h (l.dashed {ts = ts} {us = us} {n = n} {x = x} q r) k =
      dashed_held e ts us place n (number_in (lone_literal (located member_form (placed src us x)))) (outcome e (located member_form (placed src us x))) h q
      (bare_as (placed src us x).loc (number_in (lone_literal (located member_form (placed src us x)))) r refl)
      (λ w g. value_of e us m.member (outcome e (located member_form (placed src us x))) w (λ t i. sound_member e (placed src us x).loc t r i) g) (sym (gives_unary e place (Some (dashes_of n)) (placed src us x)) ∙ k)

  sound_member : {src : List ℕ} {ts : List Lexeme} {x : Member} (e : Extensions) (place : Option Loc) (h : Held) → ReadsMember src ts x → outcome e (at place (member_form x)) ≡ Ok h → HeldAs e m.member ts h
  sound_member {src = src} e place h (l.member {ts = ts} {us = us} {x = x} {xs = xs} r s) k =
      member_held e ts us place (outcome e (located primary_form (placed src ts x))) (accesses_outcome e (parts_of (map listed_access xs))) h
      (λ t i. sound_primary e (placed src ts x).loc t r i) (λ zs i. sound_accesses e zs s i) (sym (gives_member e place (placed src ts x) xs) ∙ k)

  sound_accesses : {src : List ℕ} {ts : List Lexeme} {xs : List (Cell MemAccess)} (e : Extensions) (zs : List Access) → ReadsAccesses src ts xs → accesses_outcome e (parts_of (map listed_access xs)) ≡ Ok zs → AreLinks e ts zs
  sound_accesses e zs l.no_access k = links_as e [] zs [] (sym (ok_is k)) no_link
  sound_accesses {src = src} e zs (l.more_access {ts = ts} {us = us} {xs = xs} {x = x} r s) k =
      let d = accesses_snoc e (map listed_access xs) (listed_access (placed src us x)) zs (ap (λ ys. accesses_outcome e (parts_of ys)) (sym (map_snoc listed_access xs (placed src us x))) ∙ k) in
      links_as e (ts ++ us) zs (d.0 ++ d.1 ∷ []) d.4 (links_snoc (sound_accesses e d.0 r d.2) (sound_access e (placed src us x).loc d.1 s d.3))

  sound_access : {src : List ℕ} {ts : List Lexeme} {x : MemAccess} (e : Extensions) (place : Option Loc) (a : Access) → ReadsAccess src ts x → access_outcome e (at place (access_form x)) ≡ Ok a → IsLink e ts a
  sound_access {src = src} e place a (l.field {ts = ts} {i = i} p r) k =
      let d = next_ok (unreserved_ident (placed src ts i)) _ a (sym (gives_field e place (placed src ts i)) ∙ k) in
      link_as e _ a (field d.0) (ok_is d.2) (is_field p (unreserved_meant src d.0 r d.1))
  sound_access e place a (l.call {xs = xs} i o r) k =
      let d = next_ok (operands e place (parts_of (map listed_expr xs))) _ a (sym (gives_call e place xs) ∙ k) in
      link_as e _ a (call (bodies d.0)) (ok_is d.2) (is_call i o (sound_exprs e place d.0 r d.1))
  sound_access {src = src} e place a (l.index {ts = ts} {x = x} i o r) k =
      let d = next_ok (next (outcome e (located expr_form (placed src ts x))) as_string) _ a (sym (gives_index e place (placed src ts x)) ∙ k) in
      let s = next_ok (outcome e (located expr_form (placed src ts x))) as_string d.0 d.1 in
      link_as e _ a (index d.0) (ok_is d.2) (is_index i o (held_string e m.expression s.0 d.0 (sound_expr e (placed src ts x).loc s.0 r s.1) s.2))

  sound_primary : {src : List ℕ} {ts : List Lexeme} {x : Primary} (e : Extensions) (place : Option Loc) (h : Held) → ReadsPrimary src ts x → outcome e (at place (primary_form x)) ≡ Ok h → HeldAs e m.primary ts h
  sound_primary {src = src} e place h (l.literally {ts = ts} {x = x} r) k = literal_held e (placed src ts x).loc h r (sym (gives_literally e place (placed src ts x)) ∙ k)
  sound_primary {src = src} e place h (l.referred {ts = ts} {x = x} r) k = entity_held_as e h r (sym (gives_referred e place (placed src ts x)) ∙ k)
  sound_primary {src = src} e place h (l.named {ts = ts} {x = x} r) k = name_held e place h r (sym (gives_named e place (placed src ts x)) ∙ k)
  sound_primary {src = src} e place h (l.slotted {k = t} {x = x} p r) k = slot_held_as e src p h r (sym (gives_slot e place (placed src (one t p) x)) ∙ k)
  sound_primary {src = src} e place h (l.paren {ts = ts} {x = x} a b r) k =
      paren_held e ts a b (placed src ts x).loc (value_outcome e (located expr_form (placed src ts x))) h (λ w g. expression_of e src ts x w (λ t j. sound_expr e (placed src ts x).loc t r j) g) (sym (gives_paren e place (placed src ts x)) ∙ k)
  sound_primary e place h (l.set {ts = ts} {xs = xs} a b r) k =
      set_held e ts a b place (operands e place (parts_of (map listed_expr xs))) h (λ ps i. sound_exprs e place ps r i) (sym (gives_set e place xs) ∙ k)
  sound_primary e place h (l.in_braces {ts = ts} {xs = xs} a b r) k =
      braces_held e ts a b place (pairs_outcome e (parts_of (map listed_init xs))) h (λ fs i. sound_inits e fs r i) (sym (gives_braces e place xs) ∙ k)

  sound_exprs : {src : List ℕ} {ts : List Lexeme} {xs : List (Cell Expr)} (e : Extensions) (place : Option Loc) (ps : List Part) → ReadsExprs src ts xs → operands e place (parts_of (map listed_expr xs)) ≡ Ok ps → Listed e sign_limit ts (bodies ps)
  sound_exprs e place ps l.no_expr k = listed_as e [] (bodies ps) [] (ap bodies (sym (ok_is k))) m.no_items
  sound_exprs e place ps (l.exprs {ts = ts} r) k =
      let j = sound_items e place ps r k in
      listed_as e ts (bodies ps) (j.0 ∷ j.1) j.2 (m.items j.3)
  sound_exprs e place ps (l.exprs_comma {ts = ts} p r) k =
      let j = sound_items e place ps r k in
      listed_as e (ts ++ one kind.Comma p) (bodies ps) (j.0 ∷ j.1) j.2 (m.items_comma p j.3)

  sound_items : {src : List ℕ} {ts : List Lexeme} {xs : List (Cell Expr)} (e : Extensions) (place : Option Loc) (ps : List Part) → ReadsExprItems src ts xs → operands e place (parts_of (map listed_expr xs)) ≡ Ok ps → IsJoined e ts (bodies ps)
  sound_items {src = src} e place ps (l.one_expr {ts = ts} {x = x} r) k =
      let d = snoc_parts e place listed_expr [] (placed src ts x) ps k in
      joined_one e ts d.0 ps beside d.1 (ok_is d.2) d.4 (expression_of e src ts x d.1 (λ t j. sound_expr e (placed src ts x).loc t r j) (plain_operand e place (listed_expr (placed src ts x)) d.1 (λ v. refl) d.3))
  sound_items {src = src} e place ps (l.more_exprs {ts = ts} {us = us} {xs = xs} {y = y} p r s) k =
      let d = snoc_parts e place listed_expr xs (placed src us y) ps k in
      joined_more e ts us p d.0 ps beside d.1 d.4 (sound_items e place d.0 r d.2) (expression_of e src us y d.1 (λ t j. sound_expr e (placed src us y).loc t s j) (plain_operand e place (listed_expr (placed src us y)) d.1 (λ v. refl) d.3))

  sound_inits : {src : List ℕ} {ts : List Lexeme} {xs : List (Cell RecInit)} (e : Extensions) (fs : List (List ℕ × Value)) → ReadsRecInits src ts xs → pairs_outcome e (parts_of (map listed_init xs)) ≡ Ok fs → Entries e sign_limit ts fs
  sound_inits e fs l.no_init k = entries_as e [] fs [] (sym (ok_is k)) m.no_entries
  sound_inits e fs (l.inits r) k = m.entries (sound_pairs e fs r k)
  sound_inits e fs (l.inits_comma p r) k = m.entries_comma p (sound_pairs e fs r k)

  sound_pairs : {src : List ℕ} {ts : List Lexeme} {xs : List (Cell RecInit)} (e : Extensions) (fs : List (List ℕ × Value)) → ReadsInitItems src ts xs → pairs_outcome e (parts_of (map listed_init xs)) ≡ Ok fs → JoinedEntries e sign_limit ts fs
  sound_pairs {src = src} e fs (l.one_init {ts = ts} {x = x} r) k =
      let d = pairs_snoc e [] (listed_init (placed src ts x)) fs k in
      joined_as e ts fs (d.1 ∷ []) (d.4 ∙ ap (λ ys. ys ++ d.1 ∷ []) (sym (ok_is d.2))) (m.one_entry (sound_pair e (placed src ts x).loc d.1 r d.3))
  sound_pairs {src = src} e fs (l.more_inits {ts = ts} {us = us} {xs = xs} {y = y} p r s) k =
      let d = pairs_snoc e (map listed_init xs) (listed_init (placed src us y)) fs (ap (λ ys. pairs_outcome e (parts_of ys)) (sym (map_snoc listed_init xs (placed src us y))) ∙ k) in
      joined_as e (ts ++ one kind.Comma p ++ us) fs (d.0 ++ d.1 ∷ []) d.4 (m.more_entries p (sound_pairs e d.0 r d.2) (sound_pair e (placed src us y).loc d.1 s d.3))

  sound_pair : {src : List ℕ} {ts : List Lexeme} {x : RecInit} (e : Extensions) (place : Option Loc) (z : List ℕ × Value) → ReadsRecInit src ts x → pair_outcome e (at place (init_form x)) ≡ Ok z → Entry e sign_limit ts z.0 z.1
  sound_pair {src = src} e place z (l.rec_init {ts = ts} {us = us} {x = x} {y = y} p r s) k =
      let d = next_ok (outcome e (located expr_form (placed src ts x))) _ z (sym (gives_entry e place (placed src ts x) (placed src us y)) ∙ k) in
      let b = both_ok (as_attribute d.0) (value_outcome e (located expr_form (placed src us y))) z d.2 in
      m.entry p (held_key e m.expression d.0 z.0 (sound_expr e (placed src ts x).loc d.0 r d.1) b.0) (expression_of e src us y z.1 (λ t j. sound_expr e (placed src us y).loc t s j) b.1)
  sound_pair {src = src} e place z (l.if_init {ts = ts} {y = y} p q s) k =
      let key : Cell Expr = placed src (one kind.If p) (l.lone_expr src (one kind.If p) (member_of (placed src (one kind.If p) (if_name src p)) [])) in
      let d = next_ok (outcome e (located expr_form key)) _ z (sym (gives_entry e place key (placed src ts y)) ∙ k) in
      absurd (if_given e key.loc src (one kind.If p) p d.0 d.1)

pub sound_value : {src : List ℕ} {ts : List Lexeme} {x : Expr} (e : Extensions) (place : Option Loc) (w : Value) → ReadsExpr src ts x → value_outcome e (at place (expr_form x)) ≡ Ok w → Meant e m.expression ts w
sound_value {ts = ts} {x = x} e place w r k = value_of e ts m.expression (outcome e (at place (expr_form x))) w (λ h i. sound_expr e place h r i) k
