-- Each rule of expressions takes a token, but for accesses and lists.
use Rattle.std.proofs.Common.{ℕ, List, ◌++◌}
use Rattle.cedar_lexer.specs.Token.{Lexeme}
use Rattle.cedar_lexer.specs.declared.token.TokenKind.{TokenKind}
use Rattle.cedar_lexer.specs.declared.token.TokenKind.TheVariants as kind
use Rattle.cedar_expressions.specs.declared.operators.AddOp.{AddOp}
use Rattle.cedar_syntax.specs.declared.cst.Expr.{Expr}
use Rattle.cedar_syntax.specs.declared.cst.Or.{Or}
use Rattle.cedar_syntax.specs.declared.cst.And.{And}
use Rattle.cedar_syntax.specs.declared.cst.RelOp.{RelOp}
use Rattle.cedar_syntax.specs.declared.cst.Relation.{Relation}
use Rattle.cedar_syntax.specs.declared.cst.Add.{Add}
use Rattle.cedar_syntax.specs.declared.cst.MultOp.{MultOp}
use Rattle.cedar_syntax.specs.declared.cst.Mult.{Mult}
use Rattle.cedar_syntax.specs.declared.cst.Unary.{Unary}
use Rattle.cedar_syntax.specs.declared.cst.Member.{Member}
use Rattle.cedar_syntax.specs.declared.cst.MemAccess.{MemAccess}
use Rattle.cedar_syntax.specs.declared.cst.Primary.{Primary}
use Rattle.cedar_syntax.specs.declared.cst.RecInit.{RecInit}
use Rattle.cedar_syntax.specs.tokens.Tokens.{Spot, one}
use Rattle.cedar_syntax.specs.trees.Trees.{Cell}
use Rattle.cedar_grammar.specs.grammar.LooseExpressions.{ReadsSigns, one_sign, more_signs, ReadsExpr, or_expr, if_expr, ReadsOr, or, ReadsAnds, one_and, more_and, ReadsAnd, and, ReadsRelations, one_relation, more_relation, ReadsRelation, common, has, has_if, like, is, is_in, ReadsAdds, one_add, more_add, ReadsAdd, add, ReadsMults, one_mult, more_mult, ReadsMult, mult, ReadsUnaries, one_unary, more_unary, ReadsUnary, plain, banged, dashed, ReadsMember, member, ReadsAccess, field, call, index, ReadsPrimary, literally, referred, named, slotted, paren, set, in_braces, ReadsRecInit, rec_init, if_init}
use Rattle.cedar_grammar.proofs.Lying.{Some_of, some_append}
use Rattle.cedar_grammar.proofs.WordPlaces.{literal_some, path_some, name_path, ref_some}

pub signs_some : {k : TokenKind} {ts : List Lexeme} {n : ℕ} → ReadsSigns k ts n → Some_of ts
signs_some (one_sign p) = tt
signs_some {k = k} (more_signs {ts = ts} p r) = some_append ts (one k p) (signs_some r)

pub access_some : {src : List ℕ} {ts : List Lexeme} {x : MemAccess} → ReadsAccess src ts x → Some_of ts
access_some (field p r) = tt
access_some (call l m r) = tt
access_some (index l m r) = tt

pub primary_some : {src : List ℕ} {ts : List Lexeme} {x : Primary} → ReadsPrimary src ts x → Some_of ts
primary_some (literally r) = literal_some r
primary_some (referred r) = ref_some r
primary_some (named r) = path_some (name_path r)
primary_some (slotted p r) = tt
primary_some (paren l m r) = tt
primary_some (set l m r) = tt
primary_some (in_braces l m r) = tt

pub member_some : {src : List ℕ} {ts : List Lexeme} {x : Member} → ReadsMember src ts x → Some_of ts
member_some (member {ts = ts} {us = us} r s) = some_append ts us (primary_some r)

pub unary_some : {src : List ℕ} {ts : List Lexeme} {x : Unary} → ReadsUnary src ts x → Some_of ts
unary_some (plain r) = member_some r
unary_some (banged {ts = ts} {us = us} b r) = some_append ts us (signs_some b)
unary_some (dashed {ts = ts} {us = us} b r) = some_append ts us (signs_some b)

-- tokens before an operator, it, and those behind it
before_more : (ts us : List Lexeme) (k : TokenKind) (p : Spot) → Some_of ts → Some_of (ts ++ one k p ++ us)
before_more ts us k p h = some_append (ts ++ one k p) us (some_append ts (one k p) h)

pub unaries_some : {src : List ℕ} {ts : List Lexeme} {x : Cell Unary} {xs : List (MultOp × Cell Unary)} → ReadsUnaries src ts x xs → Some_of ts
unaries_some (one_unary r) = unary_some r
unaries_some (more_unary {ts = ts} {us = us} {k = k} p r o s) = before_more ts us k p (unaries_some r)

pub mult_some : {src : List ℕ} {ts : List Lexeme} {x : Mult} → ReadsMult src ts x → Some_of ts
mult_some (mult r) = unaries_some r

pub mults_some : {src : List ℕ} {ts : List Lexeme} {x : Cell Mult} {xs : List (AddOp × Cell Mult)} → ReadsMults src ts x xs → Some_of ts
mults_some (one_mult r) = mult_some r
mults_some (more_mult {ts = ts} {us = us} {k = k} p r o s) = before_more ts us k p (mults_some r)

pub add_some : {src : List ℕ} {ts : List Lexeme} {x : Add} → ReadsAdd src ts x → Some_of ts
add_some (add r) = mults_some r

pub adds_some : {src : List ℕ} {ts : List Lexeme} {x : Cell Add} {xs : List (RelOp × Cell Add)} → ReadsAdds src ts x xs → Some_of ts
adds_some (one_add r) = add_some r
adds_some (more_add {ts = ts} {us = us} {k = k} p r o s) = before_more ts us k p (adds_some r)

pub relation_some : {src : List ℕ} {ts : List Lexeme} {x : Relation} → ReadsRelation src ts x → Some_of ts
relation_some (common r) = adds_some r
relation_some (has {ts = ts} {us = us} p r s) = before_more ts us kind.Has p (add_some r)
relation_some (has_if {ts = ts} {us = us} p q r s) = before_more ts (one kind.If q ++ us) kind.Has p (add_some r)
relation_some (like {ts = ts} {us = us} p r s) = before_more ts us kind.Like p (add_some r)
relation_some (is {ts = ts} {us = us} p r s) = before_more ts us kind.Is p (add_some r)
relation_some (is_in {ts = ts} {us = us} {vs = vs} p q r s t) = before_more (ts ++ one kind.Is p ++ us) vs kind.In q (before_more ts us kind.Is p (add_some r))

pub relations_some : {src : List ℕ} {ts : List Lexeme} {x : Cell Relation} {xs : List (Cell Relation)} → ReadsRelations src ts x xs → Some_of ts
relations_some (one_relation r) = relation_some r
relations_some (more_relation {ts = ts} {us = us} p r s) = before_more ts us kind.AndAnd p (relations_some r)

pub and_some : {src : List ℕ} {ts : List Lexeme} {x : And} → ReadsAnd src ts x → Some_of ts
and_some (and r) = relations_some r

pub ands_some : {src : List ℕ} {ts : List Lexeme} {x : Cell And} {xs : List (Cell And)} → ReadsAnds src ts x xs → Some_of ts
ands_some (one_and r) = and_some r
ands_some (more_and {ts = ts} {us = us} p r s) = before_more ts us kind.OrOr p (ands_some r)

pub or_some : {src : List ℕ} {ts : List Lexeme} {x : Or} → ReadsOr src ts x → Some_of ts
or_some (or r) = ands_some r

pub expr_some : {src : List ℕ} {ts : List Lexeme} {x : Expr} → ReadsExpr src ts x → Some_of ts
expr_some (or_expr r) = or_some r
expr_some (if_expr l m n r s t) = tt

pub rec_init_some : {src : List ℕ} {ts : List Lexeme} {x : RecInit} → ReadsRecInit src ts x → Some_of ts
rec_init_some (rec_init {ts = ts} {us = us} p r s) = before_more ts us kind.Colon p (expr_some r)
rec_init_some (if_init p q r) = tt
