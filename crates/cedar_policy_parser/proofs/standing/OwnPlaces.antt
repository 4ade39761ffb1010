-- In a tree that is read from tokens each level with one part stands where that part stands. So
-- what such a tree comes to stands at the tree's own place.
use Rattle.std.proofs.Common.{◌≡◌, ℕ, true, false, List, [], ◌∷◌, ◌++◌, append-nil, map, Option, Some, None, refl, sym, ap, ◌∙◌, subst}
use Rattle.cedar_lexer.specs.Token.{Lexeme}
use Rattle.cedar_lexer.specs.declared.token.TokenKind.TheVariants as kind
use Rattle.cedar_expressions.specs.declared.operators.AddOp.{AddOp}
use Rattle.cedar_syntax.specs.declared.loc.Loc.{Loc}
use Rattle.cedar_syntax.specs.declared.cst.Expr.{Expr}
use Rattle.cedar_syntax.specs.declared.cst.Or.{Or}
use Rattle.cedar_syntax.specs.declared.cst.And.{And}
use Rattle.cedar_syntax.specs.declared.cst.RelOp.{RelOp}
use Rattle.cedar_syntax.specs.declared.cst.Relation.{Relation}
use Rattle.cedar_syntax.specs.declared.cst.Add.{Add}
use Rattle.cedar_syntax.specs.declared.cst.MultOp.{MultOp}
use Rattle.cedar_syntax.specs.declared.cst.Mult.{Mult}
use Rattle.cedar_syntax.specs.declared.cst.Unary.{Unary}
use Rattle.cedar_syntax.specs.declared.cst.NegOp.{NegOp}
use Rattle.cedar_syntax.specs.declared.cst.Member.{Member}
use Rattle.cedar_syntax.specs.declared.cst.Primary.{Primary}
use Rattle.cedar_syntax.specs.trees.Forms.{located, parts_of, expr_form, or_form, and_form, relation_form, add_form, mult_form, unary_form, member_form, primary_form, or_operand, and_operand, relation_operand, add_operand, mult_operand, listed_access}
use Rattle.cedar_grammar.specs.grammar.Grammar.{IsTreeOf}
use Rattle.cedar_syntax.specs.trees.Located as f
use Rattle.cedar_syntax.specs.trees.Located.{Located, Form, at}
use Rattle.cedar_grammar.specs.grammar.LooseExpressions as l
use Rattle.cedar_grammar.specs.grammar.LooseExpressions.{if_name, lone_add, ReadsExpr, ReadsOr, ReadsAnds, ReadsAnd, ReadsRelations, ReadsRelation, ReadsAdds, ReadsAdd, ReadsMults, ReadsMult, ReadsUnaries, ReadsUnary, ReadsMember, ReadsPrimary}
use Rattle.cedar_grammar.specs.grammar.Place.{placed, extent, loc_at}
use Rattle.cedar_syntax.specs.tokens.Tokens.{one}
use Rattle.cedar_syntax.specs.trees.Trees.{Cell, and_of, member_of, bangs_of, dashes_of}
use Rattle.cedar_grammar.proofs.ExpressionTokens.{expr_some}
use Rattle.cedar_syntax.proofs.FormLevels.{and_out, member_out, relation_common, relation_has, relation_like, relation_is, relation_is_in, primary_literal, primary_ref, primary_name, primary_slot, primary_expr, primary_list, primary_inits}
use Rattle.cedar_grammar.proofs.WordPlaces.{start_is}
use Rattle.cedar_policy_parser.specs.faults.Alone as way
use Rattle.cedar_policy_parser.specs.faults.Alone.{ComesTo}
use Rattle.cedar_conversion.specs.parts.HasSide.{no_sign}
use Rattle.cedar_policy_parser.proofs.tidy.TidyTrees.{expr_is, if_is, or_is, add_is, mult_is, unary_is}
use Rattle.cedar_policy_parser.proofs.sound.Lones.{some_behind, signs_some, bangs_sign, dashes_sign}

-- ---- levels at one place

abbrev mutual
  -- a node stands at a place, and so does each level with one part below it
  StandsAt : Option Loc → Located → Type 0
  StandsAt place (f.missing own) = own ≡ place
  StandsAt place (f.at own form) = (own ≡ place) × LevelsAt place form

  LevelsAt : Option Loc → Form → Type 0
  LevelsAt place (f.only n) = StandsAt place n
  LevelsAt place (f.chain level n others) = others ≡ f.none → StandsAt place n
  LevelsAt place (f.unary op n) = no_sign op ≡ true → StandsAt place n
  LevelsAt place (f.member n others) = others ≡ f.none → StandsAt place n
  LevelsAt place _ = Unit {0}

-- so does what it comes to
comes_at : {tree : Located} {own : Option Loc} {form : Form} (place : Option Loc) → ComesTo tree (at own form) → StandsAt place tree → own ≡ place
comes_at place way.itself h = h.0
comes_at place (way.through_only c) h = comes_at place c h.1
comes_at place (way.through_chain c) h = comes_at place c (h.1 refl)
comes_at place (way.through_unary none c) h = comes_at place c (h.1 none)
comes_at place (way.through_member c) h = comes_at place c (h.1 refl)

-- ---- each rule

-- the place of tokens
abbrev here : List ℕ → List Lexeme → Option Loc
here src ts = loc_at src (extent ts)

same : {x y : Form} (place : Option Loc) → x ≡ y → LevelsAt place y → LevelsAt place x
same place e h = subst (λ form. LevelsAt place form) (sym e) h

no_signs : (op : Option NegOp) → no_sign op ≡ false → no_sign op ≡ true → ⊥
no_signs op h k = let never = sym h ∙ k in cc

primary_at : {src : List ℕ} {ts : List Lexeme} {x : Primary} (place : Option Loc) → ReadsPrimary src ts x → LevelsAt place (primary_form x)
primary_at {src = src} place (l.literally {ts = ts} {x = x} r) = same place (primary_literal (placed src ts x)) tt
primary_at {src = src} place (l.referred {ts = ts} {x = x} r) = same place (primary_ref (placed src ts x)) tt
primary_at {src = src} place (l.named {ts = ts} {x = x} r) = same place (primary_name (placed src ts x)) tt
primary_at {src = src} place (l.slotted {k = k} {x = x} p r) = same place (primary_slot _) tt
primary_at {src = src} place (l.paren {ts = ts} {x = x} a b r) = same place (primary_expr (placed src ts x)) tt
primary_at place (l.set {xs = xs} a b r) = same place (primary_list xs) tt
primary_at place (l.in_braces {xs = xs} a b r) = same place (primary_inits xs) tt

member_at : {src : List ℕ} {ts : List Lexeme} {x : Member} → ReadsMember src ts x → LevelsAt (here src ts) (member_form x)
member_at {src = src} (l.member {ts = ts} {x = x} r l.no_access) =
    same (here src (ts ++ [])) (member_out (member_of (placed src ts x) [])) (λ none. (ap (here src) (sym (append-nil ts)), primary_at (here src (ts ++ [])) r))
member_at {src = src} (l.member {ts = ts} {x = x} r (l.more_access {ts = us} {us = vs} {xs = xs} {x = y} q s)) =
    same (here src (ts ++ (us ++ vs))) (member_out (member_of (placed src ts x) (xs ++ placed src vs y ∷ []))) (λ none. absurd (some_behind listed_access xs (placed src vs y) none))

unary_at : {src : List ℕ} {ts : List Lexeme} {x : Unary} → ReadsUnary src ts x → LevelsAt (here src ts) (unary_form x)
unary_at {src = src} (l.plain {ts = ts} {x = x} r) = same (here src ts) (unary_is None (placed src ts x)) (λ none. (refl, member_at r))
unary_at {src = src} (l.banged {ts = ts} {us = us} {n = n} {x = x} s r) =
    same (here src (ts ++ us)) (unary_is (Some (bangs_of n)) (placed src us x)) (λ none. absurd (no_signs (Some (bangs_of n)) (bangs_sign n (signs_some s)) none))
unary_at {src = src} (l.dashed {ts = ts} {us = us} {n = n} {x = x} s r) =
    same (here src (ts ++ us)) (unary_is (Some (dashes_of n)) (placed src us x)) (λ none. absurd (no_signs (Some (dashes_of n)) (dashes_sign n (signs_some s)) none))

unaries_at : {src : List ℕ} {ts : List Lexeme} {x : Cell Unary} {xs : List (MultOp × Cell Unary)} → ReadsUnaries src ts x xs → parts_of (map mult_operand xs) ≡ f.none → StandsAt (here src ts) (located unary_form x)
unaries_at (l.one_unary r) none = (refl, unary_at r)
unaries_at {src = src} (l.more_unary {us = us} {o = o} {y = y} {xs = xs} p r q s) none = absurd (some_behind mult_operand xs (o, placed src us y) none)

mult_at : {src : List ℕ} {ts : List Lexeme} {x : Mult} → ReadsMult src ts x → LevelsAt (here src ts) (mult_form x)
mult_at {src = src} {ts = ts} (l.mult {x = x} {xs = xs} r) = same (here src ts) (mult_is x xs) (unaries_at r)

mults_at : {src : List ℕ} {ts : List Lexeme} {x : Cell Mult} {xs : List (AddOp × Cell Mult)} → ReadsMults src ts x xs → parts_of (map add_operand xs) ≡ f.none → StandsAt (here src ts) (located mult_form x)
mults_at (l.one_mult r) none = (refl, mult_at r)
mults_at {src = src} (l.more_mult {us = us} {o = o} {y = y} {xs = xs} p r q s) none = absurd (some_behind add_operand xs (o, placed src us y) none)

add_at : {src : List ℕ} {ts : List Lexeme} {x : Add} → ReadsAdd src ts x → LevelsAt (here src ts) (add_form x)
add_at {src = src} {ts = ts} (l.add {x = x} {xs = xs} r) = same (here src ts) (add_is x xs) (mults_at r)

adds_at : {src : List ℕ} {ts : List Lexeme} {x : Cell Add} {xs : List (RelOp × Cell Add)} → ReadsAdds src ts x xs → parts_of (map relation_operand xs) ≡ f.none → StandsAt (here src ts) (located add_form x)
adds_at (l.one_add r) none = (refl, add_at r)
adds_at {src = src} (l.more_add {us = us} {o = o} {y = y} {xs = xs} p r q s) none = absurd (some_behind relation_operand xs (o, placed src us y) none)

relation_at : {src : List ℕ} {ts : List Lexeme} {x : Relation} (place : Option Loc) → place ≡ here src ts → ReadsRelation src ts x → LevelsAt place (relation_form x)
relation_at {src = src} place e (l.common {x = x} {xs = xs} r) = same place (relation_common x xs) (subst (λ q. parts_of (map relation_operand xs) ≡ f.none → StandsAt q (located add_form x)) (sym e) (adds_at r))
relation_at {src = src} place e (l.has {ts = ts} {us = us} {x = x} {y = y} p r s) = same place (relation_has (placed src ts x) (placed src us y)) tt
relation_at {src = src} place e (l.has_if {ts = ts} {us = us} {x = x} {xs = xs} p q r s) =
    same place (relation_has (placed src ts x) (placed src (one kind.If q ++ us) (lone_add src (one kind.If q ++ us) (member_of (placed src (one kind.If q) (if_name src q)) xs)))) tt
relation_at {src = src} place e (l.like {ts = ts} {us = us} {x = x} {y = y} p r s) = same place (relation_like (placed src ts x) (placed src us y)) tt
relation_at {src = src} place e (l.is {ts = ts} {us = us} {x = x} {y = y} p r s) = same place (relation_is (placed src ts x) (placed src us y)) tt
relation_at {src = src} place e (l.is_in {ts = ts} {us = us} {vs = vs} {x = x} {y = y} {z = z} p q r s t) = same place (relation_is_in (placed src ts x) (placed src us y) (placed src vs z)) tt

relations_at : {src : List ℕ} {ts : List Lexeme} {x : Cell Relation} {xs : List (Cell Relation)} → ReadsRelations src ts x xs → parts_of (map and_operand xs) ≡ f.none → StandsAt (here src ts) (located relation_form x)
relations_at {src = src} {ts = ts} (l.one_relation r) none = (refl, relation_at (here src ts) refl r)
relations_at {src = src} (l.more_relation {us = us} {y = y} {xs = xs} p r s) none = absurd (some_behind and_operand xs (placed src us y) none)

and_at : {src : List ℕ} {ts : List Lexeme} {x : And} → ReadsAnd src ts x → LevelsAt (here src ts) (and_form x)
and_at {src = src} {ts = ts} (l.and {x = x} {xs = xs} r) = same (here src ts) (and_out (and_of x xs)) (relations_at r)

ands_at : {src : List ℕ} {ts : List Lexeme} {x : Cell And} {xs : List (Cell And)} → ReadsAnds src ts x xs → parts_of (map or_operand xs) ≡ f.none → StandsAt (here src ts) (located and_form x)
ands_at (l.one_and r) none = (refl, and_at r)
ands_at {src = src} (l.more_and {us = us} {y = y} {xs = xs} p r s) none = absurd (some_behind or_operand xs (placed src us y) none)

or_at : {src : List ℕ} {ts : List Lexeme} {x : Or} → ReadsOr src ts x → LevelsAt (here src ts) (or_form x)
or_at {src = src} {ts = ts} (l.or {x = x} {xs = xs} r) = same (here src ts) (or_is x xs) (ands_at r)

expr_at : {src : List ℕ} {ts : List Lexeme} {x : Expr} (place : Option Loc) → place ≡ here src ts → ReadsExpr src ts x → LevelsAt place (expr_form x)
expr_at {src = src} place e (l.or_expr {ts = ts} {x = x} r) = same place (expr_is (placed src ts x)) (subst (λ q. StandsAt q (located or_form (placed src ts x))) (sym e) (refl, or_at r))
expr_at {src = src} place e (l.if_expr {ts = ts} {us = us} {vs = vs} {c = c} {x = x} {y = y} a b d r s t) = same place (if_is (placed src ts c) (placed src us x) (placed src vs y)) tt

-- ---- whole expressions

pub own_place : (src : List ℕ) (ts : List Lexeme) (x : Expr) (place : Option Loc) (form : Form) → ReadsExpr src ts x → ComesTo (located expr_form (placed src ts x)) (at place form) → place ≡ (placed src ts x).loc
own_place src ts x place form r c = comes_at (here src ts) c (refl, expr_at (here src ts) refl r)

pub text_place : (text : List ℕ) (tree : Cell Expr) (place : Option Loc) (form : Form) → IsTreeOf ReadsExpr text tree → ComesTo (located expr_form tree) (at place form) → place ≡ tree.loc
text_place text tree place form g c =
    let ts : List Lexeme = g.tokens in
    let x : Expr = g.stands.tree in
    let is = g.stands.is ∙ start_is text ts x (expr_some g.stands.reads) in
    own_place text ts x place form g.stands.reads (subst (λ y. ComesTo (located expr_form y) (at place form)) is c) ∙ ap (λ y. y.loc) (sym is)
