-- The places in the trees of expressions.
use Rattle.std.proofs.Common.{◌≡◌, ℕ, List, [], ◌∷◌, ◌++◌, map, Option, Some, None, refl, sym, ◌∙◌, ap, subst, append_assoc}
use Rattle.std.specs.Str.{IsUtf8}
use Rattle.std.proofs.lemmas.List.Elements.{All-cons, All-append}
use Rattle.cedar_lexer.specs.Token.{Lexeme}
use Rattle.cedar_lexer.specs.declared.token.TokenKind.{TokenKind}
use Rattle.cedar_lexer.specs.declared.token.TokenKind.TheVariants as kind
use Rattle.cedar_expressions.specs.declared.operators.AddOp.{AddOp}
use Rattle.cedar_syntax.specs.declared.loc.Loc.{Loc}
use Rattle.cedar_syntax.specs.declared.cst.Expr.{Expr}
use Rattle.cedar_syntax.specs.declared.cst.Or.{Or, out-roll-Or}
use Rattle.cedar_syntax.specs.declared.cst.And.{And}
use Rattle.cedar_syntax.specs.declared.cst.RelOp.{RelOp}
use Rattle.cedar_syntax.specs.declared.cst.Relation.{Relation}
use Rattle.cedar_syntax.specs.declared.cst.Add.{Add, out-roll-Add}
use Rattle.cedar_syntax.specs.declared.cst.MultOp.{MultOp}
use Rattle.cedar_syntax.specs.declared.cst.Mult.{Mult, out-roll-Mult}
use Rattle.cedar_syntax.specs.declared.cst.Unary.{Unary, out-roll-Unary}
use Rattle.cedar_syntax.specs.declared.cst.NegOp.{NegOp}
use Rattle.cedar_syntax.specs.declared.cst.Member.{Member}
use Rattle.cedar_syntax.specs.declared.cst.MemAccess.{MemAccess}
use Rattle.cedar_syntax.specs.declared.cst.Primary.{Primary}
use Rattle.cedar_syntax.specs.declared.cst.Name.{Name}
use Rattle.cedar_syntax.specs.declared.cst.Ident.TheVariants as ident
use Rattle.cedar_syntax.specs.declared.cst.RecInit.{RecInit}
use Rattle.cedar_syntax.specs.trees.Tree.{Operator, disjunction, sum, product}
use Rattle.cedar_syntax.specs.trees.Located.{Located, Form, chain, unary}
use Rattle.cedar_syntax.specs.trees.Forms.{located, parts_of, expr_form, or_form, and_form, relation_form, add_form, mult_form, unary_form, member_form, access_form, primary_form, init_form, or_operand, and_operand, relation_operand, add_operand, mult_operand, listed_access, listed_expr, listed_init}
use Rattle.cedar_syntax.proofs.FormLevels.{or_out, and_out, add_out, mult_out, unary_out, member_out, init_out, relation_common, relation_has, relation_like, relation_is, relation_is_in, access_field, access_call, access_index, primary_literal, primary_ref, primary_name, primary_slot, primary_expr, primary_list, primary_inits}
use Rattle.cedar_grammar.proofs.MadeExpressions.{expr_made, if_made}
use Rattle.cedar_grammar.specs.grammar.Grammar.{IsTreeOf}
use Rattle.cedar_grammar.specs.grammar.Place.{extent, loc_at, placed}
use Rattle.cedar_syntax.specs.tokens.Tokens.{Spot, one}
use Rattle.cedar_syntax.specs.trees.Trees.{Cell, or_of, and_of, common_of, add_of, mult_of, unary_of, member_of, rec_init_of, name_of, bangs_of, dashes_of}
use Rattle.cedar_syntax.specs.trees.TreePlaces.{IsPlace, node_places, ident_places, name_places, literal_places, slot_places, ref_places, located_places, form_places, parts_places, expr_places, primary_places}
use Rattle.cedar_grammar.specs.grammar.LooseWords.{ReadsName}
use Rattle.cedar_grammar.specs.grammar.LooseExpressions.{if_name, lone_add, lone_expr, ReadsExpr, or_expr, if_expr, ReadsOr, or, ReadsAnds, one_and, more_and, ReadsAnd, and, ReadsRelations, one_relation, more_relation, ReadsRelation, common, has, has_if, like, is, is_in, ReadsAdds, one_add, more_add, ReadsAdd, add, ReadsMults, one_mult, more_mult, ReadsMult, mult, ReadsUnaries, one_unary, more_unary, ReadsUnary, plain, banged, dashed, ReadsMember, member, ReadsAccesses, no_access, more_access, ReadsAccess, field, call, index, ReadsPrimary, literally, referred, named, slotted, paren, set, in_braces, ReadsExprs, no_expr, exprs, exprs_comma, ReadsExprItems, one_expr, more_exprs, ReadsRecInits, no_init, inits, inits_comma, ReadsInitItems, one_init, more_inits, ReadsRecInit, rec_init, if_init}
use Rattle.cedar_grammar.proofs.Lying.{Some_of, stands}
use Rattle.cedar_grammar.proofs.WordPlaces.{Lie, Stand, parts, node_lies, no_places, ident_lies, name_path, path_some, path_lies, literal_some, literal_lies, ref_some, ref_lies, whole_lies, stand_of}
use Rattle.cedar_grammar.proofs.ExpressionTokens.{access_some, primary_some, member_some, unary_some, mult_some, add_some, relation_some, and_some, or_some, expr_some, rec_init_some}

abbrev Sits : List ℕ → Located → Type 0
Sits src n = Lie src (located_places n)

abbrev Holds : List ℕ → Form → Type 0
Holds src f = Lie src (form_places f)

abbrev Behind : {A : Type 0} → List ℕ → (A → Operator × Located) → List A → Type 0
Behind src h xs = Lie src (parts_places (parts_of (map h xs)))

held : {f g : Form} (src : List ℕ) → f ≡ g → Holds src g → Holds src f
held src e h = subst (λ f. Holds src f) (sym e) h

pub both : (src : List ℕ) (a b : List (Option Loc)) → Lie src a → Lie src b → Lie src (a ++ b)
both src a b h g = All-append (IsPlace src) a b h g

-- a tree at the place of its tokens
sits : {T : Type 0} (src : List ℕ) (f : T → Form) (ts : List Lexeme) (x : T) → Stand src ts → Some_of ts → Holds src (f x) → Sits src (located f (placed src ts x))
sits src f ts x h s l = All-cons (IsPlace src) (loc_at src (extent ts)) (form_places (f x)) (stands src h.from ts h.to h.lies s) l

parts_snoc : {A : Type 0} (h : A → Operator × Located) (xs : List A) (x : A) → parts_places (parts_of (map h (xs ++ x ∷ []))) ≡ parts_places (parts_of (map h xs)) ++ (located_places (h x).1 ++ [])
parts_snoc h [] x = refl
parts_snoc h (y ∷ xs) x = ap (λ w. located_places (h y).1 ++ w) (parts_snoc h xs x) ∙ sym (append_assoc (located_places (h y).1) (parts_places (parts_of (map h xs))) (located_places (h x).1 ++ []))

one_more : {A : Type 0} (src : List ℕ) (h : A → Operator × Located) (xs : List A) (x : A) → Behind src h xs → Sits src (h x).1 → Behind src h (xs ++ x ∷ [])
one_more src h xs x b s =
    subst (λ w. Lie src w) (sym (parts_snoc h xs x)) (both src (parts_places (parts_of (map h xs))) (located_places (h x).1 ++ []) b (both src (located_places (h x).1) [] s (no_places src)))

one_alone : {A : Type 0} (src : List ℕ) (h : A → Operator × Located) (x : A) → Sits src (h x).1 → Behind src h (x ∷ [])
one_alone src h x s = both src (located_places (h x).1) [] s (no_places src)

-- tokens before an operator, and behind it
around : (src : List ℕ) (ts us : List Lexeme) (k : TokenKind) (p : Spot) → Stand src (ts ++ one k p ++ us) → Stand src ts × Stand src us
around src ts us k p h = let a = parts src (ts ++ one k p) us h in ((parts src ts (one k p) a.0).0, a.1)

-- and in brackets
inside : (src : List ℕ) (ts : List Lexeme) (k j : TokenKind) (l m : Spot) → Stand src (one k l ++ ts ++ one j m) → Stand src ts
inside src ts k j l m h = (parts src (one k l) ts (parts src (one k l ++ ts) (one j m) h).0).1

-- ---- names, and the word `if` as one

pub name_lies : {src : List ℕ} {ts : List Lexeme} {x : Name} → ReadsName src ts x → Stand src ts → Lie src (node_places name_places (placed src ts x))
name_lies {src = src} {ts = ts} {x = x} r h =
    let v = path_lies (name_path r) h in
    node_lies src name_places ts x h (path_some (name_path r)) (both src _ _ v.0 v.1)

if_holds : (src : List ℕ) (p : Spot) → Stand src (one kind.If p) → Holds src (primary_form (if_name src p))
if_holds src p h =
    held src (primary_name (placed src (one kind.If p) (name_of [] (placed src (one kind.If p) ident.If))))
    (node_lies src name_places (one kind.If p) (name_of [] (placed src (one kind.If p) ident.If)) h tt (node_lies src ident_places (one kind.If p) ident.If h tt (no_places src)))

-- a first part, and those behind it; two nodes
chained : {T A : Type 0} (src : List ℕ) (f : T → Form) (x : Cell T) (h : A → Operator × Located) (xs : List A) → Sits src (located f x) → Behind src h xs → Lie src (located_places (located f x) ++ parts_places (parts_of (map h xs)))
chained src f x h xs a b = both src (located_places (located f x)) (parts_places (parts_of (map h xs))) a b

lone : {T : Type 0} (src : List ℕ) (f : T → Form) (x : Cell T) → Sits src (located f x) → Lie src (located_places (located f x) ++ [])
lone src f x a = both src (located_places (located f x)) [] a (no_places src)

-- the levels, made from their parts

or_is : (x : Cell And) (xs : List (Cell And)) → or_form (or_of x xs) ≡ chain disjunction (located and_form x) (parts_of (map or_operand xs))
or_is x xs = or_out (or_of x xs) ∙ ap (λ r. chain disjunction (located and_form r.initial) (parts_of (map or_operand r.extended))) (out-roll-Or record { initial = x; extended = xs })

add_is : (x : Cell Mult) (xs : List (AddOp × Cell Mult)) → add_form (add_of x xs) ≡ chain sum (located mult_form x) (parts_of (map add_operand xs))
add_is x xs = add_out (add_of x xs) ∙ ap (λ r. chain sum (located mult_form r.initial) (parts_of (map add_operand r.extended))) (out-roll-Add record { initial = x; extended = xs })

mult_is : (x : Cell Unary) (xs : List (MultOp × Cell Unary)) → mult_form (mult_of x xs) ≡ chain product (located unary_form x) (parts_of (map mult_operand xs))
mult_is x xs = mult_out (mult_of x xs) ∙ ap (λ r. chain product (located unary_form r.initial) (parts_of (map mult_operand r.extended))) (out-roll-Mult record { initial = x; extended = xs })

unary_is : (o : Option NegOp) (x : Cell Member) → unary_form (unary_of o x) ≡ unary o (located member_form x)
unary_is o x = unary_out (unary_of o x) ∙ ap (λ r. unary r.op (located member_form r.item)) (out-roll-Unary record { op = o; item = x })

-- one operand at each level

lone_add_holds : (src : List ℕ) (ts : List Lexeme) (x : Member) → Stand src ts → Some_of ts → Holds src (member_form x) → Holds src (add_form (lone_add src ts x))
lone_add_holds src ts x h s l =
    held src (add_is (placed src ts (mult_of (placed src ts (unary_of None (placed src ts x))) [])) [])
    (lone src mult_form (placed src ts (mult_of (placed src ts (unary_of None (placed src ts x))) [])) (sits src mult_form ts (mult_of (placed src ts (unary_of None (placed src ts x))) []) h s
    (held src (mult_is (placed src ts (unary_of None (placed src ts x))) [])
    (lone src unary_form (placed src ts (unary_of None (placed src ts x))) (sits src unary_form ts (unary_of None (placed src ts x)) h s (held src (unary_is None (placed src ts x)) (sits src member_form ts x h s l)))))))

lone_expr_holds : (src : List ℕ) (ts : List Lexeme) (x : Member) → Stand src ts → Some_of ts → Holds src (member_form x) → Holds src (expr_form (lone_expr src ts x))
lone_expr_holds src ts x h s l =
    let a : Cell Add = placed src ts (lone_add src ts x) in
    let r : Cell Relation = placed src ts (common_of a []) in
    let n : Cell And = placed src ts (and_of r []) in
    held src (expr_made (placed src ts (or_of n [])))
    (sits src or_form ts (or_of n []) h s (held src (or_is n [])
    (lone src and_form n (sits src and_form ts (and_of r []) h s (held src (and_out (and_of r []))
    (lone src relation_form r (sits src relation_form ts (common_of a []) h s (held src (relation_common a [])
    (lone src add_form a (sits src add_form ts (lone_add src ts x) h s (lone_add_holds src ts x h s l)))))))))))

-- ---- each rule

mutual
  pub expr_holds : {src : List ℕ} {ts : List Lexeme} {x : Expr} → ReadsExpr src ts x → Stand src ts → Holds src (expr_form x)
  expr_holds {src = src} (or_expr {ts = ts} {x = x} r) h = held src (expr_made (placed src ts x)) (sits src or_form ts x h (or_some r) (or_holds r h))
  expr_holds {src = src} (if_expr {ts = ts} {us = us} {vs = vs} {c = c} {x = x} {y = y} l m n r s t) h =
      let a = around src (one kind.If l ++ ts ++ one kind.Then m ++ us) vs kind.Else n h in
      let b = around src (one kind.If l ++ ts) us kind.Then m a.0 in
      let g = (parts src (one kind.If l) ts b.0).1 in
      held src (if_made (placed src ts c) (placed src us x) (placed src vs y))
      (both src ((located_places (located expr_form (placed src ts c))) ++ (located_places (located expr_form (placed src us x)))) (located_places (located expr_form (placed src vs y))) (both src (located_places (located expr_form (placed src ts c))) (located_places (located expr_form (placed src us x))) (sits src expr_form ts c g (expr_some r) (expr_holds r g)) (sits src expr_form us x b.1 (expr_some s) (expr_holds s b.1)))
      (sits src expr_form vs y a.1 (expr_some t) (expr_holds t a.1)))

  or_holds : {src : List ℕ} {ts : List Lexeme} {x : Or} → ReadsOr src ts x → Stand src ts → Holds src (or_form x)
  or_holds {src = src} (or {x = x} {xs = xs} r) h = let a = ands_hold r h in held src (or_is x xs) (chained src and_form x or_operand xs a.0 a.1)

  ands_hold : {src : List ℕ} {ts : List Lexeme} {x : Cell And} {xs : List (Cell And)} → ReadsAnds src ts x xs → Stand src ts → Sits src (located and_form x) × Behind src or_operand xs
  ands_hold {src = src} (one_and {ts = ts} {x = x} r) h = (sits src and_form ts x h (and_some r) (and_holds r h), no_places src)
  ands_hold {src = src} (more_and {ts = ts} {us = us} {y = y} {xs = xs} p r s) h =
      let a = around src ts us kind.OrOr p h in
      let b = ands_hold r a.0 in
      (b.0, one_more src or_operand xs (placed src us y) b.1 (sits src and_form us y a.1 (and_some s) (and_holds s a.1)))

  and_holds : {src : List ℕ} {ts : List Lexeme} {x : And} → ReadsAnd src ts x → Stand src ts → Holds src (and_form x)
  and_holds {src = src} (and {x = x} {xs = xs} r) h = let a = relations_hold r h in held src (and_out (and_of x xs)) (chained src relation_form x and_operand xs a.0 a.1)

  relations_hold : {src : List ℕ} {ts : List Lexeme} {x : Cell Relation} {xs : List (Cell Relation)} → ReadsRelations src ts x xs → Stand src ts → Sits src (located relation_form x) × Behind src and_operand xs
  relations_hold {src = src} (one_relation {ts = ts} {x = x} r) h = (sits src relation_form ts x h (relation_some r) (relation_holds r h), no_places src)
  relations_hold {src = src} (more_relation {ts = ts} {us = us} {y = y} {xs = xs} p r s) h =
      let a = around src ts us kind.AndAnd p h in
      let b = relations_hold r a.0 in
      (b.0, one_more src and_operand xs (placed src us y) b.1 (sits src relation_form us y a.1 (relation_some s) (relation_holds s a.1)))

  relation_holds : {src : List ℕ} {ts : List Lexeme} {x : Relation} → ReadsRelation src ts x → Stand src ts → Holds src (relation_form x)
  relation_holds {src = src} (common {x = x} {xs = xs} r) h = let a = adds_hold r h in held src (relation_common x xs) (chained src add_form x relation_operand xs a.0 a.1)
  relation_holds {src = src} (has {ts = ts} {us = us} {x = x} {y = y} p r s) h =
      let a = around src ts us kind.Has p h in
      held src (relation_has (placed src ts x) (placed src us y)) (both src (located_places (located add_form (placed src ts x))) (located_places (located add_form (placed src us y))) (sits src add_form ts x a.0 (add_some r) (add_holds r a.0)) (sits src add_form us y a.1 (add_some s) (add_holds s a.1)))
  relation_holds {src = src} (has_if {ts = ts} {us = us} {x = x} {xs = xs} p q r s) h =
      let a = around src ts (one kind.If q ++ us) kind.Has p h in
      let b = parts src (one kind.If q) us a.1 in
      let m : Member = member_of (placed src (one kind.If q) (if_name src q)) xs in
      held src (relation_has (placed src ts x) (placed src (one kind.If q ++ us) (lone_add src (one kind.If q ++ us) m)))
      (both src (located_places (located add_form (placed src ts x))) (located_places (located add_form (placed src (one kind.If q ++ us) (lone_add src (one kind.If q ++ us) m)))) (sits src add_form ts x a.0 (add_some r) (add_holds r a.0))
      (sits src add_form (one kind.If q ++ us) (lone_add src (one kind.If q ++ us) m) a.1 tt
      (lone_add_holds src (one kind.If q ++ us) m a.1 tt
      (held src (member_out m) (both src (located_places (located primary_form (placed src (one kind.If q) (if_name src q)))) (parts_places (parts_of (map listed_access xs))) (sits src primary_form (one kind.If q) (if_name src q) b.0 tt (if_holds src q b.0)) (accesses_hold s b.1))))))
  relation_holds {src = src} (like {ts = ts} {us = us} {x = x} {y = y} p r s) h =
      let a = around src ts us kind.Like p h in
      held src (relation_like (placed src ts x) (placed src us y)) (both src (located_places (located add_form (placed src ts x))) (located_places (located add_form (placed src us y))) (sits src add_form ts x a.0 (add_some r) (add_holds r a.0)) (sits src add_form us y a.1 (add_some s) (add_holds s a.1)))
  relation_holds {src = src} (is {ts = ts} {us = us} {x = x} {y = y} p r s) h =
      let a = around src ts us kind.Is p h in
      held src (relation_is (placed src ts x) (placed src us y)) (both src (located_places (located add_form (placed src ts x))) (located_places (located add_form (placed src us y))) (sits src add_form ts x a.0 (add_some r) (add_holds r a.0)) (sits src add_form us y a.1 (add_some s) (add_holds s a.1)))
  relation_holds {src = src} (is_in {ts = ts} {us = us} {vs = vs} {x = x} {y = y} {z = z} p q r s t) h =
      let a = around src (ts ++ one kind.Is p ++ us) vs kind.In q h in
      let b = around src ts us kind.Is p a.0 in
      held src (relation_is_in (placed src ts x) (placed src us y) (placed src vs z)) (both src ((located_places (located add_form (placed src ts x))) ++ (located_places (located add_form (placed src us y)))) (located_places (located add_form (placed src vs z))) (both src (located_places (located add_form (placed src ts x))) (located_places (located add_form (placed src us y))) (sits src add_form ts x b.0 (add_some r) (add_holds r b.0)) (sits src add_form us y b.1 (add_some s) (add_holds s b.1))) (sits src add_form vs z a.1 (add_some t) (add_holds t a.1)))

  adds_hold : {src : List ℕ} {ts : List Lexeme} {x : Cell Add} {xs : List (RelOp × Cell Add)} → ReadsAdds src ts x xs → Stand src ts → Sits src (located add_form x) × Behind src relation_operand xs
  adds_hold {src = src} (one_add {ts = ts} {x = x} r) h = ((sits src add_form ts x h (add_some r) (add_holds r h)), no_places src)
  adds_hold {src = src} (more_add {ts = ts} {us = us} {k = k} {o = o} {y = y} {xs = xs} p r q s) h =
      let a = around src ts us k p h in
      let b = adds_hold r a.0 in
      (b.0, one_more src relation_operand xs (o, placed src us y) b.1 (sits src add_form us y a.1 (add_some s) (add_holds s a.1)))

  pub add_holds : {src : List ℕ} {ts : List Lexeme} {x : Add} → ReadsAdd src ts x → Stand src ts → Holds src (add_form x)
  add_holds {src = src} (add {x = x} {xs = xs} r) h = let a = mults_hold r h in held src (add_is x xs) (chained src mult_form x add_operand xs a.0 a.1)

  mults_hold : {src : List ℕ} {ts : List Lexeme} {x : Cell Mult} {xs : List (AddOp × Cell Mult)} → ReadsMults src ts x xs → Stand src ts → Sits src (located mult_form x) × Behind src add_operand xs
  mults_hold {src = src} (one_mult {ts = ts} {x = x} r) h = (sits src mult_form ts x h (mult_some r) (mult_holds r h), no_places src)
  mults_hold {src = src} (more_mult {ts = ts} {us = us} {k = k} {o = o} {y = y} {xs = xs} p r q s) h =
      let a = around src ts us k p h in
      let b = mults_hold r a.0 in
      (b.0, one_more src add_operand xs (o, placed src us y) b.1 (sits src mult_form us y a.1 (mult_some s) (mult_holds s a.1)))

  mult_holds : {src : List ℕ} {ts : List Lexeme} {x : Mult} → ReadsMult src ts x → Stand src ts → Holds src (mult_form x)
  mult_holds {src = src} (mult {x = x} {xs = xs} r) h = let a = unaries_hold r h in held src (mult_is x xs) (chained src unary_form x mult_operand xs a.0 a.1)

  unaries_hold : {src : List ℕ} {ts : List Lexeme} {x : Cell Unary} {xs : List (MultOp × Cell Unary)} → ReadsUnaries src ts x xs → Stand src ts → Sits src (located unary_form x) × Behind src mult_operand xs
  unaries_hold {src = src} (one_unary {ts = ts} {x = x} r) h = (sits src unary_form ts x h (unary_some r) (unary_holds r h), no_places src)
  unaries_hold {src = src} (more_unary {ts = ts} {us = us} {k = k} {o = o} {y = y} {xs = xs} p r q s) h =
      let a = around src ts us k p h in
      let b = unaries_hold r a.0 in
      (b.0, one_more src mult_operand xs (o, placed src us y) b.1 (sits src unary_form us y a.1 (unary_some s) (unary_holds s a.1)))

  unary_holds : {src : List ℕ} {ts : List Lexeme} {x : Unary} → ReadsUnary src ts x → Stand src ts → Holds src (unary_form x)
  unary_holds {src = src} (plain {ts = ts} {x = x} r) h = held src (unary_is None (placed src ts x)) (sits src member_form ts x h (member_some r) (member_holds r h))
  unary_holds {src = src} (banged {ts = ts} {us = us} {n = n} {x = x} b r) h =
      let a = (parts src ts us h).1 in
      held src (unary_is (Some (bangs_of n)) (placed src us x)) (sits src member_form us x a (member_some r) (member_holds r a))
  unary_holds {src = src} (dashed {ts = ts} {us = us} {n = n} {x = x} b r) h =
      let a = (parts src ts us h).1 in
      held src (unary_is (Some (dashes_of n)) (placed src us x)) (sits src member_form us x a (member_some r) (member_holds r a))

  member_holds : {src : List ℕ} {ts : List Lexeme} {x : Member} → ReadsMember src ts x → Stand src ts → Holds src (member_form x)
  member_holds {src = src} (member {ts = ts} {us = us} {x = x} {xs = xs} r s) h =
      let a = parts src ts us h in
      held src (member_out (member_of (placed src ts x) xs)) (both src (located_places (located primary_form (placed src ts x))) (parts_places (parts_of (map listed_access xs))) (sits src primary_form ts x a.0 (primary_some r) (primary_holds r a.0)) (accesses_hold s a.1))

  accesses_hold : {src : List ℕ} {ts : List Lexeme} {xs : List (Cell MemAccess)} → ReadsAccesses src ts xs → Stand src ts → Behind src listed_access xs
  accesses_hold {src = src} no_access h = no_places src
  accesses_hold {src = src} (more_access {ts = ts} {us = us} {xs = xs} {x = x} r s) h =
      let a = parts src ts us h in
      one_more src listed_access xs (placed src us x) (accesses_hold r a.0) (sits src access_form us x a.1 (access_some s) (access_holds s a.1))

  access_holds : {src : List ℕ} {ts : List Lexeme} {x : MemAccess} → ReadsAccess src ts x → Stand src ts → Holds src (access_form x)
  access_holds {src = src} (field {ts = ts} {i = i} p r) h = held src (access_field (placed src ts i)) (ident_lies r (parts src (one kind.Dot p) ts h).1)
  access_holds {src = src} (call {ts = ts} {xs = xs} l m r) h = held src (access_call xs) (exprs_hold r (inside src ts kind.OpenParen kind.CloseParen l m h))
  access_holds {src = src} (index {ts = ts} {x = x} l m r) h =
      let a = inside src ts kind.OpenBracket kind.CloseBracket l m h in
      held src (access_index (placed src ts x)) (sits src expr_form ts x a (expr_some r) (expr_holds r a))

  pub primary_holds : {src : List ℕ} {ts : List Lexeme} {x : Primary} → ReadsPrimary src ts x → Stand src ts → Holds src (primary_form x)
  primary_holds {src = src} (literally {ts = ts} {x = x} r) h = held src (primary_literal (placed src ts x)) (node_lies src literal_places ts x h (literal_some r) (literal_lies r h))
  primary_holds {src = src} (referred {ts = ts} {x = x} r) h = held src (primary_ref (placed src ts x)) (node_lies src ref_places ts x h (ref_some r) (ref_lies r h))
  primary_holds {src = src} (named {ts = ts} {x = x} r) h = held src (primary_name (placed src ts x)) (name_lies r h)
  primary_holds {src = src} (slotted {k = k} {x = x} p r) h = held src (primary_slot (placed src (one k p) x)) (node_lies src slot_places (one k p) x h tt (no_places src))
  primary_holds {src = src} (paren {ts = ts} {x = x} l m r) h =
      let a = inside src ts kind.OpenParen kind.CloseParen l m h in
      held src (primary_expr (placed src ts x)) (sits src expr_form ts x a (expr_some r) (expr_holds r a))
  primary_holds {src = src} (set {ts = ts} {xs = xs} l m r) h = held src (primary_list xs) (exprs_hold r (inside src ts kind.OpenBracket kind.CloseBracket l m h))
  primary_holds {src = src} (in_braces {ts = ts} {xs = xs} l m r) h = held src (primary_inits xs) (inits_hold r (inside src ts kind.OpenBrace kind.CloseBrace l m h))

  exprs_hold : {src : List ℕ} {ts : List Lexeme} {xs : List (Cell Expr)} → ReadsExprs src ts xs → Stand src ts → Behind src listed_expr xs
  exprs_hold {src = src} no_expr h = no_places src
  exprs_hold (exprs r) h = expr_items_hold r h
  exprs_hold {src = src} (exprs_comma {ts = ts} p r) h = expr_items_hold r (parts src ts (one kind.Comma p) h).0

  expr_items_hold : {src : List ℕ} {ts : List Lexeme} {xs : List (Cell Expr)} → ReadsExprItems src ts xs → Stand src ts → Behind src listed_expr xs
  expr_items_hold {src = src} (one_expr {ts = ts} {x = x} r) h = one_alone src listed_expr (placed src ts x) (sits src expr_form ts x h (expr_some r) (expr_holds r h))
  expr_items_hold {src = src} (more_exprs {ts = ts} {us = us} {xs = xs} {y = y} p r s) h =
      let a = around src ts us kind.Comma p h in
      one_more src listed_expr xs (placed src us y) (expr_items_hold r a.0) (sits src expr_form us y a.1 (expr_some s) (expr_holds s a.1))

  inits_hold : {src : List ℕ} {ts : List Lexeme} {xs : List (Cell RecInit)} → ReadsRecInits src ts xs → Stand src ts → Behind src listed_init xs
  inits_hold {src = src} no_init h = no_places src
  inits_hold (inits r) h = init_items_hold r h
  inits_hold {src = src} (inits_comma {ts = ts} p r) h = init_items_hold r (parts src ts (one kind.Comma p) h).0

  init_items_hold : {src : List ℕ} {ts : List Lexeme} {xs : List (Cell RecInit)} → ReadsInitItems src ts xs → Stand src ts → Behind src listed_init xs
  init_items_hold {src = src} (one_init {ts = ts} {x = x} r) h = one_alone src listed_init (placed src ts x) (sits src init_form ts x h (rec_init_some r) (init_holds r h))
  init_items_hold {src = src} (more_inits {ts = ts} {us = us} {xs = xs} {y = y} p r s) h =
      let a = around src ts us kind.Comma p h in
      one_more src listed_init xs (placed src us y) (init_items_hold r a.0) (sits src init_form us y a.1 (rec_init_some s) (init_holds s a.1))

  init_holds : {src : List ℕ} {ts : List Lexeme} {x : RecInit} → ReadsRecInit src ts x → Stand src ts → Holds src (init_form x)
  init_holds {src = src} (rec_init {ts = ts} {us = us} {x = x} {y = y} p r s) h =
      let a = around src ts us kind.Colon p h in
      held src (init_out (rec_init_of (placed src ts x) (placed src us y))) (both src (located_places (located expr_form (placed src ts x))) (located_places (located expr_form (placed src us y))) (sits src expr_form ts x a.0 (expr_some r) (expr_holds r a.0)) (sits src expr_form us y a.1 (expr_some s) (expr_holds s a.1)))
  init_holds {src = src} (if_init {ts = ts} {y = y} p q r) h =
      let a = around src (one kind.If p) ts kind.Colon q h in
      let m : Member = member_of (placed src (one kind.If p) (if_name src p)) [] in
      held src (init_out (rec_init_of (placed src (one kind.If p) (lone_expr src (one kind.If p) m)) (placed src ts y)))
      (both src (located_places (located expr_form (placed src (one kind.If p) (lone_expr src (one kind.If p) m)))) (located_places (located expr_form (placed src ts y)))
      (sits src expr_form (one kind.If p) (lone_expr src (one kind.If p) m) a.0 tt
      (lone_expr_holds src (one kind.If p) m a.0 tt
      (held src (member_out m) (both src (located_places (located primary_form (placed src (one kind.If p) (if_name src p)))) [] (sits src primary_form (one kind.If p) (if_name src p) a.0 tt (if_holds src p a.0)) (no_places src)))))
      (sits src expr_form ts y a.1 (expr_some r) (expr_holds r a.1)))

-- ---- the node of a whole text

pub expr_places_lie : (text : List ℕ) (y : Cell Expr) → IsUtf8 text → IsTreeOf ReadsExpr text y → Lie text (node_places expr_places y)
expr_places_lie text y u g = whole_lies text expr_places g.tokens g.stands.tree y (stand_of text y u g) (expr_some g.stands.reads) (expr_holds g.stands.reads (stand_of text y u g)) g.stands.is

pub primary_places_lie : (text : List ℕ) (y : Cell Primary) → IsUtf8 text → IsTreeOf ReadsPrimary text y → Lie text (node_places primary_places y)
primary_places_lie text y u g = whole_lies text primary_places g.tokens g.stands.tree y (stand_of text y u g) (primary_some g.stands.reads) (primary_holds g.stands.reads (stand_of text y u g)) g.stands.is
