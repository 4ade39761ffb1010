-- Trees that are read from tokens are tidy within the place of all of them.
use Rattle.std.proofs.Common.{◌≡◌, ℕ, List, [], ◌∷◌, ◌++◌, map, Option, Some, None, sym, ◌∙◌, ap, subst}
use Rattle.cedar_lexer.specs.Token.{Lexeme}
use Rattle.cedar_lexer.specs.declared.token.TokenKind.TheVariants as kind
use Rattle.cedar_expressions.specs.declared.operators.AddOp.{AddOp}
use Rattle.cedar_syntax.specs.declared.cst.Expr.{Expr}
use Rattle.cedar_syntax.specs.declared.cst.Or.{Or, out-roll-Or}
use Rattle.cedar_syntax.specs.declared.cst.And.{And}
use Rattle.cedar_syntax.specs.declared.cst.RelOp.{RelOp}
use Rattle.cedar_syntax.specs.declared.cst.Relation.{Relation}
use Rattle.cedar_syntax.specs.declared.cst.Add.{Add, out-roll-Add}
use Rattle.cedar_syntax.specs.declared.cst.MultOp.{MultOp}
use Rattle.cedar_syntax.specs.declared.cst.Mult.{Mult, out-roll-Mult}
use Rattle.cedar_syntax.specs.declared.cst.Unary.{Unary, out-roll-Unary}
use Rattle.cedar_syntax.specs.declared.cst.NegOp.{NegOp}
use Rattle.cedar_syntax.specs.declared.cst.Member.{Member}
use Rattle.cedar_syntax.specs.declared.cst.MemAccess.{MemAccess}
use Rattle.cedar_syntax.specs.declared.cst.Primary.{Primary}
use Rattle.cedar_syntax.specs.declared.cst.Ident.TheVariants as ident
use Rattle.cedar_syntax.specs.declared.cst.RecInit.{RecInit}
use Rattle.cedar_syntax.specs.trees.Tree.{Operator, disjunction, sum, product}
use Rattle.cedar_syntax.specs.trees.Located.{Located, Form, only, ite, chain, unary}
use Rattle.cedar_syntax.specs.trees.Forms.{located, parts_of, expr_form, or_form, and_form, relation_form, add_form, mult_form, unary_form, member_form, access_form, primary_form, init_form, or_operand, and_operand, relation_operand, add_operand, mult_operand, listed_access, listed_expr, listed_init}
use Rattle.cedar_syntax.proofs.FormLevels.{or_out, and_out, add_out, mult_out, unary_out, member_out, init_out, relation_common, relation_has, relation_like, relation_is, relation_is_in, access_field, access_call, access_index, primary_literal, primary_ref, primary_name, primary_slot, primary_expr, primary_list, primary_inits}
use Rattle.cedar_grammar.proofs.MadeExpressions.{expr_made, if_made}
use Rattle.cedar_grammar.specs.grammar.Place.{placed}
use Rattle.cedar_syntax.specs.tokens.Tokens.{Spot, one}
use Rattle.cedar_syntax.specs.trees.Trees.{Cell, expr_of, if_of, or_of, and_of, common_of, add_of, mult_of, unary_of, member_of, rec_init_of, name_of, bangs_of, dashes_of}
use Rattle.cedar_grammar.specs.grammar.LooseExpressions.{if_name, lone_add, lone_expr, ReadsExpr, or_expr, if_expr, ReadsOr, or, ReadsAnds, one_and, more_and, ReadsAnd, and, ReadsRelations, one_relation, more_relation, ReadsRelation, common, has, has_if, like, is, is_in, ReadsAdds, one_add, more_add, ReadsAdd, add, ReadsMults, one_mult, more_mult, ReadsMult, mult, ReadsUnaries, one_unary, more_unary, ReadsUnary, plain, banged, dashed, ReadsMember, member, ReadsAccesses, no_access, more_access, ReadsAccess, field, call, index, ReadsPrimary, literally, referred, named, slotted, paren, set, in_braces, ReadsExprs, no_expr, exprs, exprs_comma, ReadsExprItems, one_expr, more_exprs, ReadsRecInits, no_init, inits, inits_comma, ReadsInitItems, one_init, more_inits, ReadsRecInit, rec_init, if_init}
use Rattle.cedar_grammar.proofs.ExpressionTokens.{access_some, primary_some, member_some, unary_some, mult_some, add_some, relation_some, and_some, or_some, expr_some, rec_init_some}
use Rattle.cedar_grammar.proofs.Lying.{Some_of}
use Rattle.cedar_policy_parser.proofs.standing.Fitting.{Fits, parts, around, inside, within}
use Rattle.cedar_policy_parser.proofs.standing.Standing.{Origin}
use Rattle.cedar_policy_parser.proofs.tidy.Tidy.{Tidy, FormTidy, PartsTidy, AccessesTidy, AccessTidy, AccessFormTidy, PairsTidy, PairTidy, PairFormTidy}
use Rattle.cedar_policy_parser.proofs.tidy.TidyWords.{node_within, ident_tidy, name_tidy, literal_tidy, ref_tidy}

held : {f g : Form} (w : Origin) → f ≡ g → FormTidy w g → FormTidy w f
held w e h = subst (λ f. FormTidy w f) (sym e) h

held_access : {f g : Form} (w : Origin) → f ≡ g → AccessFormTidy w g → AccessFormTidy w f
held_access w e h = subst (λ f. AccessFormTidy w f) (sym e) h

held_pair : {f g : Form} (w : Origin) → f ≡ g → PairFormTidy w g → PairFormTidy w f
held_pair w e h = subst (λ f. PairFormTidy w f) (sym e) h

-- a tree at the place of its tokens
pub sits : {T : Type 0} (w : Origin) (src : List ℕ) (f : T → Form) (ts : List Lexeme) (x : T) → Fits w src ts → Some_of ts → FormTidy w (f x) → Tidy w (located f (placed src ts x))
sits w src f ts x h s l = (within w src ts h s, l)

sits_access : (w : Origin) (src : List ℕ) (ts : List Lexeme) (x : MemAccess) → Fits w src ts → Some_of ts → AccessFormTidy w (access_form x) → AccessTidy w (located access_form (placed src ts x))
sits_access w src ts x h s l = (within w src ts h s, l)

sits_pair : (w : Origin) (src : List ℕ) (ts : List Lexeme) (x : RecInit) → Fits w src ts → Some_of ts → PairFormTidy w (init_form x) → PairTidy w (located init_form (placed src ts x))
sits_pair w src ts x h s l = (within w src ts h s, l)

-- one part more

one_more : {A : Type 0} (w : Origin) (h : A → Operator × Located) (xs : List A) (x : A) → PartsTidy w (parts_of (map h xs)) → Tidy w (h x).1 → PartsTidy w (parts_of (map h (xs ++ x ∷ [])))
one_more w h [] x b s = (s, tt)
one_more w h (y ∷ xs) x b s = (b.0, one_more w h xs x b.1 s)

one_alone : {A : Type 0} (w : Origin) (h : A → Operator × Located) (x : A) → Tidy w (h x).1 → PartsTidy w (parts_of (map h (x ∷ [])))
one_alone w h x s = (s, tt)

one_more_access : (w : Origin) (xs : List (Cell MemAccess)) (x : Cell MemAccess) → AccessesTidy w (parts_of (map listed_access xs)) → AccessTidy w (located access_form x) → AccessesTidy w (parts_of (map listed_access (xs ++ x ∷ [])))
one_more_access w [] x b s = (s, tt)
one_more_access w (y ∷ xs) x b s = (b.0, one_more_access w xs x b.1 s)

one_more_pair : (w : Origin) (xs : List (Cell RecInit)) (x : Cell RecInit) → PairsTidy w (parts_of (map listed_init xs)) → PairTidy w (located init_form x) → PairsTidy w (parts_of (map listed_init (xs ++ x ∷ [])))
one_more_pair w [] x b s = (s, tt)
one_more_pair w (y ∷ xs) x b s = (b.0, one_more_pair w xs x b.1 s)

one_pair : (w : Origin) (x : Cell RecInit) → PairTidy w (located init_form x) → PairsTidy w (parts_of (map listed_init (x ∷ [])))
one_pair w x s = (s, tt)

-- the word `if` as a name

if_holds : (w : Origin) (src : List ℕ) (p : Spot) → Fits w src (one kind.If p) → FormTidy w (primary_form (if_name src p))
if_holds w src p h =
    let a = within w src (one kind.If p) h tt in
    held w (primary_name (placed src (one kind.If p) (name_of [] (placed src (one kind.If p) ident.If)))) (a, (tt, (a, tt)))

-- the levels, made from their parts

pub or_is : (x : Cell And) (xs : List (Cell And)) → or_form (or_of x xs) ≡ chain disjunction (located and_form x) (parts_of (map or_operand xs))
or_is x xs = or_out (or_of x xs) ∙ ap (λ r. chain disjunction (located and_form r.initial) (parts_of (map or_operand r.extended))) (out-roll-Or record { initial = x; extended = xs })

pub add_is : (x : Cell Mult) (xs : List (AddOp × Cell Mult)) → add_form (add_of x xs) ≡ chain sum (located mult_form x) (parts_of (map add_operand xs))
add_is x xs = add_out (add_of x xs) ∙ ap (λ r. chain sum (located mult_form r.initial) (parts_of (map add_operand r.extended))) (out-roll-Add record { initial = x; extended = xs })

pub mult_is : (x : Cell Unary) (xs : List (MultOp × Cell Unary)) → mult_form (mult_of x xs) ≡ chain product (located unary_form x) (parts_of (map mult_operand xs))
mult_is x xs = mult_out (mult_of x xs) ∙ ap (λ r. chain product (located unary_form r.initial) (parts_of (map mult_operand r.extended))) (out-roll-Mult record { initial = x; extended = xs })

pub unary_is : (o : Option NegOp) (x : Cell Member) → unary_form (unary_of o x) ≡ unary o (located member_form x)
unary_is o x = unary_out (unary_of o x) ∙ ap (λ r. unary r.op (located member_form r.item)) (out-roll-Unary record { op = o; item = x })

-- one operand at each level

lone_add_holds : (w : Origin) (src : List ℕ) (ts : List Lexeme) (x : Member) → Fits w src ts → Some_of ts → FormTidy w (member_form x) → FormTidy w (add_form (lone_add src ts x))
lone_add_holds w src ts x h s l =
    held w (add_is (placed src ts (mult_of (placed src ts (unary_of None (placed src ts x))) [])) []) (
      sits w src mult_form ts (mult_of (placed src ts (unary_of None (placed src ts x))) []) h s
          (held w (mult_is (placed src ts (unary_of None (placed src ts x))) [])
          (sits w src unary_form ts (unary_of None (placed src ts x)) h s (held w (unary_is None (placed src ts x)) (sits w src member_form ts x h s l)), tt)),
      tt,
    )

pub expr_is : (x : Cell Or) → expr_form (expr_of x) ≡ only (located or_form x)
expr_is x = expr_made x

pub if_is : (c x y : Cell Expr) → expr_form (if_of c x y) ≡ ite (located expr_form c) (located expr_form x) (located expr_form y)
if_is c x y = if_made c x y

lone_expr_holds : (w : Origin) (src : List ℕ) (ts : List Lexeme) (x : Member) → Fits w src ts → Some_of ts → FormTidy w (member_form x) → FormTidy w (expr_form (lone_expr src ts x))
lone_expr_holds w src ts x h s l =
    let a : Cell Add = placed src ts (lone_add src ts x) in
    let r : Cell Relation = placed src ts (common_of a []) in
    let n : Cell And = placed src ts (and_of r []) in
    held w (expr_is (placed src ts (or_of n [])))
    (sits w src or_form ts (or_of n []) h s (held w (or_is n []) (
      sits w src and_form ts (and_of r []) h s (held w (and_out (and_of r [])) (
        sits w src relation_form ts (common_of a []) h s (held w (relation_common a [])
            (sits w src add_form ts (lone_add src ts x) h s (lone_add_holds w src ts x h s l), tt)),
        tt,
      )),
      tt,
    )))

-- ---- each rule

mutual
  pub expr_holds : {w : Origin} {src : List ℕ} {ts : List Lexeme} {x : Expr} → ReadsExpr src ts x → Fits w src ts → FormTidy w (expr_form x)
  expr_holds {w = w} {src = src} (or_expr {ts = ts} {x = x} r) h = held w (expr_is (placed src ts x)) (sits w src or_form ts x h (or_some r) (or_holds r h))
  expr_holds {w = w} {src = src} (if_expr {ts = ts} {us = us} {vs = vs} {c = c} {x = x} {y = y} l m n r s t) h =
      let a = around w src (one kind.If l ++ ts ++ one kind.Then m ++ us) vs kind.Else n h in
      let b = around w src (one kind.If l ++ ts) us kind.Then m a.0 in
      let g = (parts w src (one kind.If l) ts b.0).1 in
      held w (if_is (placed src ts c) (placed src us x) (placed src vs y))
      (sits w src expr_form ts c g (expr_some r) (expr_holds r g), sits w src expr_form us x b.1 (expr_some s) (expr_holds s b.1), sits w src expr_form vs y a.1 (expr_some t) (expr_holds t a.1))

  or_holds : {w : Origin} {src : List ℕ} {ts : List Lexeme} {x : Or} → ReadsOr src ts x → Fits w src ts → FormTidy w (or_form x)
  or_holds {w = w} {src = src} (or {x = x} {xs = xs} r) h = let a = ands_hold r h in held w (or_is x xs) a

  ands_hold : {w : Origin} {src : List ℕ} {ts : List Lexeme} {x : Cell And} {xs : List (Cell And)} → ReadsAnds src ts x xs → Fits w src ts → Tidy w (located and_form x) × PartsTidy w (parts_of (map or_operand xs))
  ands_hold {w = w} {src = src} (one_and {ts = ts} {x = x} r) h = (sits w src and_form ts x h (and_some r) (and_holds r h), tt)
  ands_hold {w = w} {src = src} (more_and {ts = ts} {us = us} {y = y} {xs = xs} p r s) h =
      let a = around w src ts us kind.OrOr p h in
      let b = ands_hold r a.0 in
      (b.0, one_more w or_operand xs (placed src us y) b.1 (sits w src and_form us y a.1 (and_some s) (and_holds s a.1)))

  and_holds : {w : Origin} {src : List ℕ} {ts : List Lexeme} {x : And} → ReadsAnd src ts x → Fits w src ts → FormTidy w (and_form x)
  and_holds {w = w} {src = src} (and {x = x} {xs = xs} r) h = let a = relations_hold r h in held w (and_out (and_of x xs)) a

  relations_hold : {w : Origin} {src : List ℕ} {ts : List Lexeme} {x : Cell Relation} {xs : List (Cell Relation)} → ReadsRelations src ts x xs → Fits w src ts → Tidy w (located relation_form x) × PartsTidy w (parts_of (map and_operand xs))
  relations_hold {w = w} {src = src} (one_relation {ts = ts} {x = x} r) h = (sits w src relation_form ts x h (relation_some r) (relation_holds r h), tt)
  relations_hold {w = w} {src = src} (more_relation {ts = ts} {us = us} {y = y} {xs = xs} p r s) h =
      let a = around w src ts us kind.AndAnd p h in
      let b = relations_hold r a.0 in
      (b.0, one_more w and_operand xs (placed src us y) b.1 (sits w src relation_form us y a.1 (relation_some s) (relation_holds s a.1)))

  relation_holds : {w : Origin} {src : List ℕ} {ts : List Lexeme} {x : Relation} → ReadsRelation src ts x → Fits w src ts → FormTidy w (relation_form x)
  relation_holds {w = w} {src = src} (common {x = x} {xs = xs} r) h = let a = adds_hold r h in held w (relation_common x xs) a
  relation_holds {w = w} {src = src} (has {ts = ts} {us = us} {x = x} {y = y} p r s) h =
      let a = around w src ts us kind.Has p h in
      held w (relation_has (placed src ts x) (placed src us y)) (sits w src add_form ts x a.0 (add_some r) (add_holds r a.0), sits w src add_form us y a.1 (add_some s) (add_holds s a.1))
  relation_holds {w = w} {src = src} (has_if {ts = ts} {us = us} {x = x} {xs = xs} p q r s) h =
      let a = around w src ts (one kind.If q ++ us) kind.Has p h in
      let b = parts w src (one kind.If q) us a.1 in
      let m : Member = member_of (placed src (one kind.If q) (if_name src q)) xs in
      held w (relation_has (placed src ts x) (placed src (one kind.If q ++ us) (lone_add src (one kind.If q ++ us) m))) (
        sits w src add_form ts x a.0 (add_some r) (add_holds r a.0),
        sits w src add_form (one kind.If q ++ us) (lone_add src (one kind.If q ++ us) m) a.1 tt
            (lone_add_holds w src (one kind.If q ++ us) m a.1 tt
            (held w (member_out m) (sits w src primary_form (one kind.If q) (if_name src q) b.0 tt (if_holds w src q b.0), accesses_hold s b.1))),
      )
  relation_holds {w = w} {src = src} (like {ts = ts} {us = us} {x = x} {y = y} p r s) h =
      let a = around w src ts us kind.Like p h in
      held w (relation_like (placed src ts x) (placed src us y)) (sits w src add_form ts x a.0 (add_some r) (add_holds r a.0), sits w src add_form us y a.1 (add_some s) (add_holds s a.1))
  relation_holds {w = w} {src = src} (is {ts = ts} {us = us} {x = x} {y = y} p r s) h =
      let a = around w src ts us kind.Is p h in
      held w (relation_is (placed src ts x) (placed src us y)) (sits w src add_form ts x a.0 (add_some r) (add_holds r a.0), sits w src add_form us y a.1 (add_some s) (add_holds s a.1))
  relation_holds {w = w} {src = src} (is_in {ts = ts} {us = us} {vs = vs} {x = x} {y = y} {z = z} p q r s t) h =
      let a = around w src (ts ++ one kind.Is p ++ us) vs kind.In q h in
      let b = around w src ts us kind.Is p a.0 in
      held w (relation_is_in (placed src ts x) (placed src us y) (placed src vs z)) (sits w src add_form ts x b.0 (add_some r) (add_holds r b.0), sits w src add_form us y b.1 (add_some s) (add_holds s b.1), sits w src add_form vs z a.1 (add_some t) (add_holds t a.1))

  adds_hold : {w : Origin} {src : List ℕ} {ts : List Lexeme} {x : Cell Add} {xs : List (RelOp × Cell Add)} → ReadsAdds src ts x xs → Fits w src ts → Tidy w (located add_form x) × PartsTidy w (parts_of (map relation_operand xs))
  adds_hold {w = w} {src = src} (one_add {ts = ts} {x = x} r) h = ((sits w src add_form ts x h (add_some r) (add_holds r h)), tt)
  adds_hold {w = w} {src = src} (more_add {ts = ts} {us = us} {k = k} {o = o} {y = y} {xs = xs} p r q s) h =
      let a = around w src ts us k p h in
      let b = adds_hold r a.0 in
      (b.0, one_more w relation_operand xs (o, placed src us y) b.1 (sits w src add_form us y a.1 (add_some s) (add_holds s a.1)))

  pub add_holds : {w : Origin} {src : List ℕ} {ts : List Lexeme} {x : Add} → ReadsAdd src ts x → Fits w src ts → FormTidy w (add_form x)
  add_holds {w = w} {src = src} (add {x = x} {xs = xs} r) h = let a = mults_hold r h in held w (add_is x xs) a

  mults_hold : {w : Origin} {src : List ℕ} {ts : List Lexeme} {x : Cell Mult} {xs : List (AddOp × Cell Mult)} → ReadsMults src ts x xs → Fits w src ts → Tidy w (located mult_form x) × PartsTidy w (parts_of (map add_operand xs))
  mults_hold {w = w} {src = src} (one_mult {ts = ts} {x = x} r) h = (sits w src mult_form ts x h (mult_some r) (mult_holds r h), tt)
  mults_hold {w = w} {src = src} (more_mult {ts = ts} {us = us} {k = k} {o = o} {y = y} {xs = xs} p r q s) h =
      let a = around w src ts us k p h in
      let b = mults_hold r a.0 in
      (b.0, one_more w add_operand xs (o, placed src us y) b.1 (sits w src mult_form us y a.1 (mult_some s) (mult_holds s a.1)))

  mult_holds : {w : Origin} {src : List ℕ} {ts : List Lexeme} {x : Mult} → ReadsMult src ts x → Fits w src ts → FormTidy w (mult_form x)
  mult_holds {w = w} {src = src} (mult {x = x} {xs = xs} r) h = let a = unaries_hold r h in held w (mult_is x xs) a

  unaries_hold : {w : Origin} {src : List ℕ} {ts : List Lexeme} {x : Cell Unary} {xs : List (MultOp × Cell Unary)} → ReadsUnaries src ts x xs → Fits w src ts → Tidy w (located unary_form x) × PartsTidy w (parts_of (map mult_operand xs))
  unaries_hold {w = w} {src = src} (one_unary {ts = ts} {x = x} r) h = (sits w src unary_form ts x h (unary_some r) (unary_holds r h), tt)
  unaries_hold {w = w} {src = src} (more_unary {ts = ts} {us = us} {k = k} {o = o} {y = y} {xs = xs} p r q s) h =
      let a = around w src ts us k p h in
      let b = unaries_hold r a.0 in
      (b.0, one_more w mult_operand xs (o, placed src us y) b.1 (sits w src unary_form us y a.1 (unary_some s) (unary_holds s a.1)))

  unary_holds : {w : Origin} {src : List ℕ} {ts : List Lexeme} {x : Unary} → ReadsUnary src ts x → Fits w src ts → FormTidy w (unary_form x)
  unary_holds {w = w} {src = src} (plain {ts = ts} {x = x} r) h = held w (unary_is None (placed src ts x)) (sits w src member_form ts x h (member_some r) (member_holds r h))
  unary_holds {w = w} {src = src} (banged {ts = ts} {us = us} {n = n} {x = x} b r) h =
      let a = (parts w src ts us h).1 in
      held w (unary_is (Some (bangs_of n)) (placed src us x)) (sits w src member_form us x a (member_some r) (member_holds r a))
  unary_holds {w = w} {src = src} (dashed {ts = ts} {us = us} {n = n} {x = x} b r) h =
      let a = (parts w src ts us h).1 in
      held w (unary_is (Some (dashes_of n)) (placed src us x)) (sits w src member_form us x a (member_some r) (member_holds r a))

  member_holds : {w : Origin} {src : List ℕ} {ts : List Lexeme} {x : Member} → ReadsMember src ts x → Fits w src ts → FormTidy w (member_form x)
  member_holds {w = w} {src = src} (member {ts = ts} {us = us} {x = x} {xs = xs} r s) h =
      let a = parts w src ts us h in
      held w (member_out (member_of (placed src ts x) xs)) (sits w src primary_form ts x a.0 (primary_some r) (primary_holds r a.0), accesses_hold s a.1)

  accesses_hold : {w : Origin} {src : List ℕ} {ts : List Lexeme} {xs : List (Cell MemAccess)} → ReadsAccesses src ts xs → Fits w src ts → AccessesTidy w (parts_of (map listed_access xs))
  accesses_hold {w = w} {src = src} no_access h = tt
  accesses_hold {w = w} {src = src} (more_access {ts = ts} {us = us} {xs = xs} {x = x} r s) h =
      let a = parts w src ts us h in
      one_more_access w xs (placed src us x) (accesses_hold r a.0) (sits_access w src us x a.1 (access_some s) (access_holds s a.1))

  access_holds : {w : Origin} {src : List ℕ} {ts : List Lexeme} {x : MemAccess} → ReadsAccess src ts x → Fits w src ts → AccessFormTidy w (access_form x)
  access_holds {w = w} {src = src} (field {ts = ts} {i = i} p r) h = held_access w (access_field (placed src ts i)) (ident_tidy r (parts w src (one kind.Dot p) ts h).1)
  access_holds {w = w} {src = src} (call {ts = ts} {xs = xs} l m r) h = held_access w (access_call xs) (exprs_hold r (inside w src ts kind.OpenParen kind.CloseParen l m h))
  access_holds {w = w} {src = src} (index {ts = ts} {x = x} l m r) h =
      let a = inside w src ts kind.OpenBracket kind.CloseBracket l m h in
      held_access w (access_index (placed src ts x)) (sits w src expr_form ts x a (expr_some r) (expr_holds r a))

  pub primary_holds : {w : Origin} {src : List ℕ} {ts : List Lexeme} {x : Primary} → ReadsPrimary src ts x → Fits w src ts → FormTidy w (primary_form x)
  primary_holds {w = w} {src = src} (literally {ts = ts} {x = x} r) h = held w (primary_literal (placed src ts x)) (literal_tidy r h)
  primary_holds {w = w} {src = src} (referred {ts = ts} {x = x} r) h = held w (primary_ref (placed src ts x)) (ref_tidy r h)
  primary_holds {w = w} {src = src} (named {ts = ts} {x = x} r) h = held w (primary_name (placed src ts x)) (name_tidy r h)
  primary_holds {w = w} {src = src} (slotted {k = k} {x = x} p r) h = held w (primary_slot (placed src (one k p) x)) (node_within w src (one k p) h tt, tt)
  primary_holds {w = w} {src = src} (paren {ts = ts} {x = x} l m r) h =
      let a = inside w src ts kind.OpenParen kind.CloseParen l m h in
      held w (primary_expr (placed src ts x)) (sits w src expr_form ts x a (expr_some r) (expr_holds r a))
  primary_holds {w = w} {src = src} (set {ts = ts} {xs = xs} l m r) h = held w (primary_list xs) (exprs_hold r (inside w src ts kind.OpenBracket kind.CloseBracket l m h))
  primary_holds {w = w} {src = src} (in_braces {ts = ts} {xs = xs} l m r) h = held w (primary_inits xs) (inits_hold r (inside w src ts kind.OpenBrace kind.CloseBrace l m h))

  exprs_hold : {w : Origin} {src : List ℕ} {ts : List Lexeme} {xs : List (Cell Expr)} → ReadsExprs src ts xs → Fits w src ts → PartsTidy w (parts_of (map listed_expr xs))
  exprs_hold {w = w} {src = src} no_expr h = tt
  exprs_hold (exprs r) h = expr_items_hold r h
  exprs_hold {w = w} {src = src} (exprs_comma {ts = ts} p r) h = expr_items_hold r (parts w src ts (one kind.Comma p) h).0

  expr_items_hold : {w : Origin} {src : List ℕ} {ts : List Lexeme} {xs : List (Cell Expr)} → ReadsExprItems src ts xs → Fits w src ts → PartsTidy w (parts_of (map listed_expr xs))
  expr_items_hold {w = w} {src = src} (one_expr {ts = ts} {x = x} r) h = one_alone w listed_expr (placed src ts x) (sits w src expr_form ts x h (expr_some r) (expr_holds r h))
  expr_items_hold {w = w} {src = src} (more_exprs {ts = ts} {us = us} {xs = xs} {y = y} p r s) h =
      let a = around w src ts us kind.Comma p h in
      one_more w listed_expr xs (placed src us y) (expr_items_hold r a.0) (sits w src expr_form us y a.1 (expr_some s) (expr_holds s a.1))

  inits_hold : {w : Origin} {src : List ℕ} {ts : List Lexeme} {xs : List (Cell RecInit)} → ReadsRecInits src ts xs → Fits w src ts → PairsTidy w (parts_of (map listed_init xs))
  inits_hold {w = w} {src = src} no_init h = tt
  inits_hold (inits r) h = init_items_hold r h
  inits_hold {w = w} {src = src} (inits_comma {ts = ts} p r) h = init_items_hold r (parts w src ts (one kind.Comma p) h).0

  init_items_hold : {w : Origin} {src : List ℕ} {ts : List Lexeme} {xs : List (Cell RecInit)} → ReadsInitItems src ts xs → Fits w src ts → PairsTidy w (parts_of (map listed_init xs))
  init_items_hold {w = w} {src = src} (one_init {ts = ts} {x = x} r) h = one_pair w (placed src ts x) (sits_pair w src ts x h (rec_init_some r) (init_holds r h))
  init_items_hold {w = w} {src = src} (more_inits {ts = ts} {us = us} {xs = xs} {y = y} p r s) h =
      let a = around w src ts us kind.Comma p h in
      one_more_pair w xs (placed src us y) (init_items_hold r a.0) (sits_pair w src us y a.1 (rec_init_some s) (init_holds s a.1))

  init_holds : {w : Origin} {src : List ℕ} {ts : List Lexeme} {x : RecInit} → ReadsRecInit src ts x → Fits w src ts → PairFormTidy w (init_form x)
  init_holds {w = w} {src = src} (rec_init {ts = ts} {us = us} {x = x} {y = y} p r s) h =
      let a = around w src ts us kind.Colon p h in
      held_pair w (init_out (rec_init_of (placed src ts x) (placed src us y))) (sits w src expr_form ts x a.0 (expr_some r) (expr_holds r a.0), sits w src expr_form us y a.1 (expr_some s) (expr_holds s a.1))
  init_holds {w = w} {src = src} (if_init {ts = ts} {y = y} p q r) h =
      let a = around w src (one kind.If p) ts kind.Colon q h in
      let m : Member = member_of (placed src (one kind.If p) (if_name src p)) [] in
      held_pair w (init_out (rec_init_of (placed src (one kind.If p) (lone_expr src (one kind.If p) m)) (placed src ts y))) (
        sits w src expr_form (one kind.If p) (lone_expr src (one kind.If p) m) a.0 tt
            (lone_expr_holds w src (one kind.If p) m a.0 tt
            (held w (member_out m) (sits w src primary_form (one kind.If p) (if_name src p) a.0 tt (if_holds w src p a.0), (tt)))),
        sits w src expr_form ts y a.1 (expr_some r) (expr_holds r a.1),
      )
