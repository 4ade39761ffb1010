-- The lone primary of an expression's tree stands between its tokens' parentheses.
use Rattle.std.proofs.Common.{◌≡◌, ◌<◌, ℕ, zero, suc, Bool, true, false, cond, nat_le, List, [], ◌∷◌, ◌++◌, append-nil, map, Option, Some, None, Ok, Err, refl, sym, ap, ◌∙◌, arith}
use Rattle.cedar_lexer.specs.Token.{Lexeme}
use Rattle.cedar_lexer.specs.declared.token.TokenKind.{TokenKind}
use Rattle.cedar_lexer.specs.declared.token.TokenKind.TheVariants as kind
use Rattle.cedar_expressions.specs.declared.operators.AddOp.{AddOp}
use Rattle.cedar_syntax.specs.declared.loc.Loc.{Loc}
use Rattle.cedar_syntax.specs.declared.cst.Expr.{Expr}
use Rattle.cedar_syntax.specs.declared.cst.Or.{Or}
use Rattle.cedar_syntax.specs.declared.cst.And.{And}
use Rattle.cedar_syntax.specs.declared.cst.RelOp.{RelOp}
use Rattle.cedar_syntax.specs.declared.cst.Relation.{Relation}
use Rattle.cedar_syntax.specs.declared.cst.Add.{Add}
use Rattle.cedar_syntax.specs.declared.cst.Mult.{Mult}
use Rattle.cedar_syntax.specs.declared.cst.MultOp.{MultOp}
use Rattle.cedar_syntax.specs.declared.cst.NegOp.TheVariants as sign
use Rattle.cedar_syntax.specs.declared.cst.Unary.{Unary}
use Rattle.cedar_syntax.specs.declared.cst.Member.{Member}
use Rattle.cedar_syntax.specs.declared.cst.Primary.{Primary}
use Rattle.cedar_syntax.specs.declared.cst.Primary as P
use Rattle.cedar_syntax.specs.declared.cst.Literal.{Literal}
use Rattle.cedar_syntax.specs.declared.cst.Name.{Name}
use Rattle.cedar_syntax.specs.declared.cst.RecInit.{RecInit}
use Rattle.cedar_syntax.specs.declared.cst.Ref.{Ref}
use Rattle.cedar_syntax.specs.declared.cst.Slot.{Slot}
use Rattle.cedar_syntax.specs.trees.Forms.{located, parts_of, expr_form, or_form, and_form, relation_form, add_form, mult_form, unary_form, member_form, primary_form, or_operand, and_operand, relation_operand, add_operand, mult_operand, listed_access}
use Rattle.cedar_syntax.specs.trees.Located as f
use Rattle.cedar_syntax.specs.trees.Located.{Located, Form, Parts, at}
use Rattle.cedar_syntax.specs.trees.Tree.{Level, Operator, disjunction, conjunction, relation, sum, product}
use Rattle.cedar_syntax.proofs.FormLevels.{primary_literal, primary_ref, primary_name, primary_slot, primary_list, primary_inits}
use Rattle.cedar_grammar.specs.grammar.Place.{placed}
use Rattle.cedar_grammar.specs.grammar.LooseExpressions as l
use Rattle.cedar_grammar.specs.grammar.LooseExpressions.{ReadsExpr, ReadsOr, ReadsAnds, ReadsAnd, ReadsRelations, ReadsRelation, ReadsAdds, ReadsAdd, ReadsMults, ReadsMult, ReadsUnaries, ReadsUnary, ReadsMember, ReadsAccesses, ReadsPrimary, ReadsExprs, ReadsRecInits, ReadsSlot, ReadsSigns}
use Rattle.cedar_grammar.specs.grammar.LooseWords.{ReadsLiteral, ReadsName, ReadsRef}
use Rattle.cedar_syntax.specs.tokens.Tokens.{Spot, one}
use Rattle.cedar_syntax.specs.trees.Trees.{Cell, bangs_of, dashes_of}
use Rattle.cedar_syntax.specs.tokens.Signs.{sign_limit}
use Rattle.cedar_conversion.specs.parts.HasSide.{no_sign}
use Rattle.cedar_conversion.specs.outcome.Outcome.{NamedFault, Outcome, fault_outcome, wrong_node}
use Rattle.cedar_policy_conversion.specs.References.{lone, lone_form}
use Rattle.cedar_conversion.proofs.Inverted.{ok_is}
use Rattle.cedar_conversion.proofs.Loops.{map_snoc}
use Rattle.cedar_policy_parser.proofs.MadeLones as made

-- tokens that are others in so many parentheses
pub data InParens : List Lexeme → List Lexeme → Type 0 where
  bare : {ts : List Lexeme} → InParens ts ts
  wrapped : {ts us : List Lexeme} (a b : Spot) → InParens ts us → InParens (one kind.OpenParen a ++ ts ++ one kind.CloseParen b) us

-- the primary that an expression is, and its tokens
pub record Lone (src : List ℕ) (ts : List Lexeme) (n : Located) : Type 0 where
  pub tokens : List Lexeme
  pub tree : Primary
  pub parens : InParens ts tokens
  pub reads : ReadsPrimary src tokens tree
  pub same : n ≡ located primary_form (placed src tokens tree)

lone_within : {src : List ℕ} {ts : List Lexeme} {n : Located} (a b : Spot) → Lone src ts n → Lone src (one kind.OpenParen a ++ ts ++ one kind.CloseParen b) n
lone_within a b d = record { tokens = d.tokens; tree = d.tree; parens = wrapped a b d.parens; reads = d.reads; same = d.same }

lone_as : {src : List ℕ} {ts us : List Lexeme} {n : Located} → us ≡ ts → Lone src us n → Lone src ts n
lone_as h d = rw (← h) d

never : {Y : Type 0} (fs : List NamedFault) (y : Y) (o : Outcome Y) → o ≡ Err fs → o ≡ Ok y → ⊥
never fs y (Ok z) h k = cc
never fs y (Err gs) h k = cc

-- one part alone
chain_alone : (p : Option Loc) (level : Level) (n : Located) (ps : Parts) (m : Located) → lone_form p (f.chain level n ps) ≡ Ok m → (ps ≡ f.none) × (lone n ≡ Ok m)
unfolding lone_form
chain_alone p level n f.none m h = (refl, h)
chain_alone p level n (f.more op x ps) m h = cc

member_alone : (p : Option Loc) (n : Located) (ps : Parts) (m : Located) → lone_form p (f.member n ps) ≡ Ok m → (ps ≡ f.none) × (lone n ≡ Ok m)
unfolding lone_form
member_alone p n f.none m h = (refl, h)
member_alone p n (f.more op x ps) m h = cc

some_parts : (ps : List (Operator × Located)) (p : Operator × Located) → parts_of (ps ++ p ∷ []) ≡ f.none → ⊥
some_parts [] p h = cc
some_parts (q ∷ ps) p h = cc

pub some_behind : {X : Type 0} (g : X → Operator × Located) (xs : List X) (x : X) → parts_of (map g (xs ++ x ∷ [])) ≡ f.none → ⊥
some_behind g xs x h = some_parts (map g xs) (g x) (ap parts_of (sym (map_snoc g xs x)) ∙ h)

-- ---- signs

pub signs_some : {k : TokenKind} {ts : List Lexeme} {n : ℕ} → ReadsSigns k ts n → 0 < n
signs_some (l.one_sign p) = omega arith
signs_some (l.more_signs p r) = omega arith

bang_sign : (n : ℕ) (b : Bool) → no_sign (Some (cond b (sign.Bang (suc n)) sign.OverBang)) ≡ false
bang_sign n true = refl
bang_sign n false = refl

dash_sign : (n : ℕ) (b : Bool) → no_sign (Some (cond b (sign.Dash (suc n)) sign.OverDash)) ≡ false
dash_sign n true = refl
dash_sign n false = refl

pub bangs_sign : (n : ℕ) → 0 < n → no_sign (Some (bangs_of n)) ≡ false
bangs_sign zero h = absurd (omega arith)
bangs_sign (suc n) h = bang_sign n (nat_le (suc n) sign_limit)

pub dashes_sign : (n : ℕ) → 0 < n → no_sign (Some (dashes_of n)) ≡ false
dashes_sign zero h = absurd (omega arith)
dashes_sign (suc n) h = dash_sign n (nat_le (suc n) sign_limit)

signed_none : (b : Bool) (o : Outcome Located) (p : Option Loc) (n : Located) → b ≡ false → cond b o (fault_outcome wrong_node p) ≡ Ok n → ⊥
signed_none true o p n e h = cc
signed_none false o p n e h = cc

-- ---- primaries that are themselves

itself_lone : (src : List ℕ) (ts : List Lexeme) (x : Primary) (n : Located) (t : Form) → ReadsPrimary src ts x → primary_form x ≡ t → lone_form (placed src ts x).loc t ≡ Ok (at (placed src ts x).loc t)
    → lone (located primary_form (placed src ts x)) ≡ Ok n → Lone src ts n
itself_lone src ts x n t r k g h =
    let there : Ok (at (placed src ts x).loc t) ≡ Ok n = sym g ∙ sym (made.lone_at (placed src ts x).loc (primary_form x) t k) ∙ h in
    record { tokens = ts; tree = x; parens = bare; reads = r; same = sym (ok_is there) ∙ ap (at (placed src ts x).loc) (sym k) }

literal_itself : (src : List ℕ) (ts : List Lexeme) (x : Literal) (n : Located) → ReadsLiteral src ts x → lone (located primary_form (placed src ts (P.Literal (placed src ts x)))) ≡ Ok n → Lone src ts n
unfolding lone_form
literal_itself src ts x n r h = itself_lone src ts (P.Literal (placed src ts x)) n _ (l.literally r) (primary_literal (placed src ts x)) refl h

ref_itself : (src : List ℕ) (ts : List Lexeme) (x : Ref) (n : Located) → ReadsRef src ts x → lone (located primary_form (placed src ts (P.Ref (placed src ts x)))) ≡ Ok n → Lone src ts n
unfolding lone_form
ref_itself src ts x n r h = itself_lone src ts (P.Ref (placed src ts x)) n _ (l.referred r) (primary_ref (placed src ts x)) refl h

name_itself : (src : List ℕ) (ts : List Lexeme) (x : Name) (n : Located) → ReadsName src ts x → lone (located primary_form (placed src ts (P.Name (placed src ts x)))) ≡ Ok n → Lone src ts n
unfolding lone_form
name_itself src ts x n r h = itself_lone src ts (P.Name (placed src ts x)) n _ (l.named r) (primary_name (placed src ts x)) refl h

slot_itself : (src : List ℕ) (k : TokenKind) (x : Slot) (n : Located) (p : Spot) → ReadsSlot k p.text x → lone (located primary_form (placed src (one k p) (P.Slot (placed src (one k p) x)))) ≡ Ok n → Lone src (one k p) n
unfolding lone_form
slot_itself src k x n p r h = itself_lone src (one k p) (P.Slot (placed src (one k p) x)) n _ (l.slotted p r) (primary_slot (placed src (one k p) x)) refl h

set_itself : (src : List ℕ) (ts : List Lexeme) (xs : List (Cell Expr)) (n : Located) (a b : Spot) → ReadsExprs src ts xs → lone (located primary_form (placed src (one kind.OpenBracket a ++ ts ++ one kind.CloseBracket b) (P.EList xs))) ≡ Ok n
    → Lone src (one kind.OpenBracket a ++ ts ++ one kind.CloseBracket b) n
unfolding lone_form
set_itself src ts xs n a b r h = itself_lone src (one kind.OpenBracket a ++ ts ++ one kind.CloseBracket b) (P.EList xs) n _ (l.set a b r) (primary_list xs) refl h

braces_itself : (src : List ℕ) (ts : List Lexeme) (xs : List (Cell RecInit)) (n : Located) (a b : Spot) → ReadsRecInits src ts xs → lone (located primary_form (placed src (one kind.OpenBrace a ++ ts ++ one kind.CloseBrace b) (P.RInits xs))) ≡ Ok n
    → Lone src (one kind.OpenBrace a ++ ts ++ one kind.CloseBrace b) n
unfolding lone_form
braces_itself src ts xs n a b r h = itself_lone src (one kind.OpenBrace a ++ ts ++ one kind.CloseBrace b) (P.RInits xs) n _ (l.in_braces a b r) (primary_inits xs) refl h

-- ---- levels

mutual
  pub lone_expr : {src : List ℕ} {ts : List Lexeme} {x : Expr} (n : Located) → ReadsExpr src ts x → lone (located expr_form (placed src ts x)) ≡ Ok n → Lone src ts n
  lone_expr {src = src} n (l.or_expr {ts = ts} {x = x} r) h = lone_or n r (sym (made.lone_only _ (placed src ts x)) ∙ h)
  lone_expr {src = src} n (l.if_expr {ts = ts} {us = us} {vs = vs} {c = c} {x = x} {y = y} a b d r s t) h =
      absurd (never _ n _ (made.lone_if _ (placed src ts c) (placed src us x) (placed src vs y)) h)

  lone_or : {src : List ℕ} {ts : List Lexeme} {x : Or} (n : Located) → ReadsOr src ts x → lone (located or_form (placed src ts x)) ≡ Ok n → Lone src ts n
  lone_or n (l.or {x = x} {xs = xs} r) h =
      let d = chain_alone _ disjunction (located and_form x) (parts_of (map or_operand xs)) n (sym (made.lone_or _ x xs) ∙ h) in
      lone_ands n r d.0 d.1

  lone_ands : {src : List ℕ} {ts : List Lexeme} {x : Cell And} {xs : List (Cell And)} (n : Located) → ReadsAnds src ts x xs → parts_of (map or_operand xs) ≡ f.none → lone (located and_form x) ≡ Ok n → Lone src ts n
  lone_ands n (l.one_and r) none h = lone_and n r h
  lone_ands {src = src} n (l.more_and {us = us} {y = y} {xs = xs} p r s) none h = absurd (some_behind or_operand xs (placed src us y) none)

  lone_and : {src : List ℕ} {ts : List Lexeme} {x : And} (n : Located) → ReadsAnd src ts x → lone (located and_form (placed src ts x)) ≡ Ok n → Lone src ts n
  lone_and n (l.and {x = x} {xs = xs} r) h =
      let d = chain_alone _ conjunction (located relation_form x) (parts_of (map and_operand xs)) n (sym (made.lone_and _ x xs) ∙ h) in
      lone_relations n r d.0 d.1

  lone_relations : {src : List ℕ} {ts : List Lexeme} {x : Cell Relation} {xs : List (Cell Relation)} (n : Located) → ReadsRelations src ts x xs → parts_of (map and_operand xs) ≡ f.none → lone (located relation_form x) ≡ Ok n → Lone src ts n
  lone_relations n (l.one_relation r) none h = lone_relation n r h
  lone_relations {src = src} n (l.more_relation {us = us} {y = y} {xs = xs} p r s) none h = absurd (some_behind and_operand xs (placed src us y) none)

  lone_relation : {src : List ℕ} {ts : List Lexeme} {x : Relation} (n : Located) → ReadsRelation src ts x → lone (located relation_form (placed src ts x)) ≡ Ok n → Lone src ts n
  lone_relation n (l.common {x = x} {xs = xs} r) h =
      let d = chain_alone _ relation (located add_form x) (parts_of (map relation_operand xs)) n (sym (made.lone_common _ x xs) ∙ h) in
      lone_adds n r d.0 d.1
  lone_relation {src = src} n (l.has {ts = ts} {us = us} {x = x} {y = y} p r s) h = absurd (never _ n _ (made.lone_has _ (placed src ts x) (placed src us y)) h)
  lone_relation {src = src} n (l.has_if {ts = ts} {x = x} p q r s) h = absurd (never _ n _ (made.lone_has _ (placed src ts x) _) h)
  lone_relation {src = src} n (l.like {ts = ts} {us = us} {x = x} {y = y} p r s) h = absurd (never _ n _ (made.lone_like _ (placed src ts x) (placed src us y)) h)
  lone_relation {src = src} n (l.is {ts = ts} {us = us} {x = x} {y = y} p r s) h = absurd (never _ n _ (made.lone_is _ (placed src ts x) (placed src us y)) h)
  lone_relation {src = src} n (l.is_in {ts = ts} {us = us} {vs = vs} {x = x} {y = y} {z = z} p q r s t) h =
      absurd (never _ n _ (made.lone_is_in _ (placed src ts x) (placed src us y) (placed src vs z)) h)

  lone_adds : {src : List ℕ} {ts : List Lexeme} {x : Cell Add} {xs : List (RelOp × Cell Add)} (n : Located) → ReadsAdds src ts x xs → parts_of (map relation_operand xs) ≡ f.none → lone (located add_form x) ≡ Ok n → Lone src ts n
  lone_adds n (l.one_add r) none h = lone_add n r h
  lone_adds {src = src} n (l.more_add {us = us} {o = o} {y = y} {xs = xs} p r q s) none h = absurd (some_behind relation_operand xs (o, placed src us y) none)

  lone_add : {src : List ℕ} {ts : List Lexeme} {x : Add} (n : Located) → ReadsAdd src ts x → lone (located add_form (placed src ts x)) ≡ Ok n → Lone src ts n
  lone_add n (l.add {x = x} {xs = xs} r) h =
      let d = chain_alone _ sum (located mult_form x) (parts_of (map add_operand xs)) n (sym (made.lone_add _ x xs) ∙ h) in
      lone_mults n r d.0 d.1

  lone_mults : {src : List ℕ} {ts : List Lexeme} {x : Cell Mult} {xs : List (AddOp × Cell Mult)} (n : Located) → ReadsMults src ts x xs → parts_of (map add_operand xs) ≡ f.none → lone (located mult_form x) ≡ Ok n → Lone src ts n
  lone_mults n (l.one_mult r) none h = lone_mult n r h
  lone_mults {src = src} n (l.more_mult {us = us} {o = o} {y = y} {xs = xs} p r q s) none h = absurd (some_behind add_operand xs (o, placed src us y) none)

  lone_mult : {src : List ℕ} {ts : List Lexeme} {x : Mult} (n : Located) → ReadsMult src ts x → lone (located mult_form (placed src ts x)) ≡ Ok n → Lone src ts n
  lone_mult n (l.mult {x = x} {xs = xs} r) h =
      let d = chain_alone _ product (located unary_form x) (parts_of (map mult_operand xs)) n (sym (made.lone_mult _ x xs) ∙ h) in
      lone_unaries n r d.0 d.1

  lone_unaries : {src : List ℕ} {ts : List Lexeme} {x : Cell Unary} {xs : List (MultOp × Cell Unary)} (n : Located) → ReadsUnaries src ts x xs → parts_of (map mult_operand xs) ≡ f.none → lone (located unary_form x) ≡ Ok n → Lone src ts n
  lone_unaries n (l.one_unary r) none h = lone_unary n r h
  lone_unaries {src = src} n (l.more_unary {us = us} {o = o} {y = y} {xs = xs} p r q s) none h = absurd (some_behind mult_operand xs (o, placed src us y) none)

  lone_unary : {src : List ℕ} {ts : List Lexeme} {x : Unary} (n : Located) → ReadsUnary src ts x → lone (located unary_form (placed src ts x)) ≡ Ok n → Lone src ts n
  lone_unary {src = src} n (l.plain {ts = ts} {x = x} r) h = lone_member n r (sym (made.lone_unary _ None (placed src ts x)) ∙ h)
  lone_unary {src = src} n (l.banged {us = us} {n = m} {x = x} s r) h = absurd (signed_none _ _ _ n (bangs_sign m (signs_some s)) (sym (made.lone_unary _ (Some (bangs_of m)) (placed src us x)) ∙ h))
  lone_unary {src = src} n (l.dashed {us = us} {n = m} {x = x} s r) h = absurd (signed_none _ _ _ n (dashes_sign m (signs_some s)) (sym (made.lone_unary _ (Some (dashes_of m)) (placed src us x)) ∙ h))

  lone_member : {src : List ℕ} {ts : List Lexeme} {x : Member} (n : Located) → ReadsMember src ts x → lone (located member_form (placed src ts x)) ≡ Ok n → Lone src ts n
  lone_member {src = src} n (l.member {ts = ts} {x = x} r l.no_access) h =
      let d = member_alone _ (located primary_form (placed src ts x)) f.none n (sym (made.lone_member _ (placed src ts x) []) ∙ h) in
      lone_as (sym (append-nil ts)) (lone_primary n r d.1)
  lone_member {src = src} n (l.member {ts = ts} {x = x} r (l.more_access {us = vs} {xs = xs} {x = y} q s)) h =
      let d = member_alone _ (located primary_form (placed src ts x)) (parts_of (map listed_access (xs ++ placed src vs y ∷ []))) n (sym (made.lone_member _ (placed src ts x) (xs ++ placed src vs y ∷ [])) ∙ h) in
      absurd (some_behind listed_access xs (placed src vs y) d.0)

  lone_primary : {src : List ℕ} {ts : List Lexeme} {x : Primary} (n : Located) → ReadsPrimary src ts x → lone (located primary_form (placed src ts x)) ≡ Ok n → Lone src ts n
  lone_primary {src = src} n (l.paren {ts = ts} {x = x} a b r) h = lone_within a b (lone_expr n r (sym (made.lone_paren _ (placed src ts x)) ∙ h))
  lone_primary {src = src} n (l.literally {ts = ts} {x = x} r) h = literal_itself src ts x n r h
  lone_primary {src = src} n (l.referred {ts = ts} {x = x} r) h = ref_itself src ts x n r h
  lone_primary {src = src} n (l.named {ts = ts} {x = x} r) h = name_itself src ts x n r h
  lone_primary {src = src} n (l.slotted {k = k} {x = x} p r) h = slot_itself src k x n p r h
  lone_primary {src = src} n (l.set {ts = ts} {xs = xs} a b r) h = set_itself src ts xs n a b r h
  lone_primary {src = src} n (l.in_braces {ts = ts} {xs = xs} a b r) h = braces_itself src ts xs n a b r h
