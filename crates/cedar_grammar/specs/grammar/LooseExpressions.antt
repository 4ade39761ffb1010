-- The loose grammar of expressions: which token lists have which tree, one case for each rule. A
-- tree is put as a node at the place of its tokens: from the first byte of the first to the end of
-- the last, brackets belonging to the rule that writes them. `src` is the whole text, which each
-- place carries.
use Rattle.std.specs.Prelude.{ℕ, List, [], ◌∷◌, ◌++◌, Some, None}
use Rattle.cedar_lexer.specs.Token.{Lexeme}
use Rattle.cedar_lexer.specs.declared.token.TokenKind.{TokenKind}
use Rattle.cedar_lexer.specs.declared.token.TokenKind.TheVariants as kind
use Rattle.cedar_expressions.specs.declared.operators.AddOp.{AddOp}
use Rattle.cedar_syntax.specs.declared.cst.Expr.{Expr}
use Rattle.cedar_syntax.specs.declared.cst.Or.{Or}
use Rattle.cedar_syntax.specs.declared.cst.And.{And}
use Rattle.cedar_syntax.specs.declared.cst.RelOp.{RelOp}
use Rattle.cedar_syntax.specs.declared.cst.RelOp.TheVariants as rel
use Rattle.cedar_syntax.specs.declared.cst.Relation.{Relation}
use Rattle.cedar_syntax.specs.declared.cst.Add.{Add}
use Rattle.cedar_syntax.specs.declared.cst.MultOp.{MultOp}
use Rattle.cedar_syntax.specs.declared.cst.MultOp.TheVariants as product
use Rattle.cedar_syntax.specs.declared.cst.Mult.{Mult}
use Rattle.cedar_syntax.specs.declared.cst.Unary.{Unary}
use Rattle.cedar_syntax.specs.declared.cst.Member.{Member}
use Rattle.cedar_syntax.specs.declared.cst.MemAccess.{MemAccess}
use Rattle.cedar_syntax.specs.declared.cst.MemAccess.TheVariants as access
use Rattle.cedar_syntax.specs.declared.cst.Primary.{Primary}
use Rattle.cedar_syntax.specs.declared.cst.Primary.TheVariants as primary
use Rattle.cedar_syntax.specs.declared.cst.Literal.{Literal}
use Rattle.cedar_syntax.specs.declared.cst.Slot.{Slot}
use Rattle.cedar_syntax.specs.declared.cst.Slot.TheVariants as slot
use Rattle.cedar_syntax.specs.declared.cst.Ident.{Ident}
use Rattle.cedar_syntax.specs.declared.cst.Ident.TheVariants as ident
use Rattle.cedar_syntax.specs.declared.cst.Name.{Name}
use Rattle.cedar_syntax.specs.declared.cst.Ref.{Ref}
use Rattle.cedar_syntax.specs.declared.cst.RecInit.{RecInit}
use Rattle.cedar_grammar.specs.grammar.Place.{placed}
pub use Rattle.cedar_syntax.specs.tokens.Signs.{ReadsSigns, one_sign, more_signs, ReadsAddOp, plus, minus}
use Rattle.cedar_syntax.specs.tokens.Tokens.{Spot, one}
use Rattle.cedar_syntax.specs.trees.Trees.{Cell, expr_of, if_of, or_of, and_of, common_of, has_of, like_of, is_of, add_of, mult_of, unary_of, member_of, rec_init_of, name_of, bangs_of, dashes_of}
use Rattle.cedar_grammar.specs.grammar.LooseWords.{ReadsLiteral, ReadsAny, ReadsName, ReadsRef}

-- RelOp = "<" | "<=" | ">=" | ">" | "!=" | "==" | IN | "="
pub data ReadsRelOp : TokenKind → RelOp → Type 0 where
  less : ReadsRelOp kind.Less rel.Less
  less_eq : ReadsRelOp kind.LessEq rel.LessEq
  greater_eq : ReadsRelOp kind.GreaterEq rel.GreaterEq
  greater : ReadsRelOp kind.Greater rel.Greater
  not_eq : ReadsRelOp kind.NotEq rel.NotEq
  equal : ReadsRelOp kind.EqEq rel.Eq
  within : ReadsRelOp kind.In rel.In
  single_eq : ReadsRelOp kind.Eq rel.InvalidSingleEq

-- "*" | "/" | "%"
pub data ReadsMultOp : TokenKind → MultOp → Type 0 where
  times : ReadsMultOp kind.Star product.Times
  divide : ReadsMultOp kind.Slash product.Divide
  modulo : ReadsMultOp kind.Percent product.Mod

-- Slot = PRINCIPAL_SLOT | RESOURCE_SLOT | OTHER_SLOT; another slot keeps its whole token
pub data ReadsSlot : TokenKind → List ℕ → Slot → Type 0 where
  principal_slot : {text : List ℕ} → ReadsSlot kind.PrincipalSlot text slot.Principal
  resource_slot : {text : List ℕ} → ReadsSlot kind.ResourceSlot text slot.Resource
  other_slot : {text : List ℕ} → ReadsSlot kind.OtherSlot text (slot.Other text)

-- The word `if` alone as a name, at its own place: right of `has`, and as a key before `:`.

abbrev pub if_name : List ℕ → Spot → Primary
if_name src p =
    primary.Name (placed src (one kind.If p) (name_of [] (placed src (one kind.If p) ident.If)))

-- a member alone as a sum: one operand at each level between, all at its place
abbrev pub lone_add : List ℕ → List Lexeme → Member → Add
lone_add src ts x =
    add_of (placed src ts (mult_of (placed src ts (unary_of None (placed src ts x))) [])) []

-- and as an expression
abbrev pub lone_expr : List ℕ → List Lexeme → Member → Expr
lone_expr src ts x =
    expr_of (placed src ts
    (or_of (placed src ts
    (and_of (placed src ts (common_of (placed src ts (lone_add src ts x)) [])) [])) []))

mutual
  -- Expr = Or | IF Expr THEN Expr ELSE Expr
  pub data ReadsExpr (src : List ℕ) : List Lexeme → Expr → Type 0 where
    or_expr : {ts : List Lexeme} {x : Or} → ReadsOr src ts x
        → ReadsExpr src ts (expr_of (placed src ts x))
    if_expr : {ts us vs : List Lexeme} {c x y : Expr} (l m n : Spot) → ReadsExpr src ts c
        → ReadsExpr src us x → ReadsExpr src vs y →
        ReadsExpr src (one kind.If l ++ ts ++ one kind.Then m ++ us ++ one kind.Else n ++ vs)
        (if_of (placed src ts c) (placed src us x) (placed src vs y))

  -- Or = And ("||" And)*
  pub data ReadsOr (src : List ℕ) : List Lexeme → Or → Type 0 where
    or : {ts : List Lexeme} {x : Cell And} {xs : List (Cell And)} → ReadsAnds src ts x xs
        → ReadsOr src ts (or_of x xs)

  pub data ReadsAnds (src : List ℕ) : List Lexeme → Cell And → List (Cell And) → Type 0 where
    one_and : {ts : List Lexeme} {x : And} → ReadsAnd src ts x
        → ReadsAnds src ts (placed src ts x) []
    more_and : {ts us : List Lexeme} {x : Cell And} {y : And} {xs : List (Cell And)} (p : Spot) →
        ReadsAnds src ts x xs → ReadsAnd src us y → ReadsAnds src (ts ++ one kind.OrOr p ++ us) x
        (xs ++ placed src us y ∷ [])

  -- And = Relation ("&&" Relation)*
  pub data ReadsAnd (src : List ℕ) : List Lexeme → And → Type 0 where
    and : {ts : List Lexeme} {x : Cell Relation} {xs : List (Cell Relation)}
        → ReadsRelations src ts x xs → ReadsAnd src ts (and_of x xs)

  pub data ReadsRelations (src : List ℕ) : List Lexeme → Cell Relation → List (Cell Relation)
      → Type 0 where
    one_relation : {ts : List Lexeme} {x : Relation} → ReadsRelation src ts x
        → ReadsRelations src ts (placed src ts x) []
    more_relation : {ts us : List Lexeme} {x : Cell Relation} {y : Relation} {xs : List
        (Cell Relation)} (p : Spot) →
        ReadsRelations src ts x xs → ReadsRelation src us y
        → ReadsRelations src (ts ++ one kind.AndAnd p ++ us) x (xs ++ placed src us y ∷ [])

  -- Relation = Add (RelOp Add)* | Add HAS Add | Add HAS IF MemAccess* | Add LIKE Add | Add IS Add
  -- [IN Add]
  pub data ReadsRelation (src : List ℕ) : List Lexeme → Relation → Type 0 where
    common : {ts : List Lexeme} {x : Cell Add} {xs : List (RelOp × Cell Add)}
        → ReadsAdds src ts x xs → ReadsRelation src ts (common_of x xs)
    has : {ts us : List Lexeme} {x y : Add} (p : Spot) → ReadsAdd src ts x → ReadsAdd src us y →
        ReadsRelation src (ts ++ one kind.Has p ++ us) (has_of (placed src ts x) (placed src us y))
    has_if : {ts us : List Lexeme} {x : Add} {xs : List (Cell MemAccess)} (p q : Spot)
        → ReadsAdd src ts x → ReadsAccesses src us xs →
        ReadsRelation src (ts ++ one kind.Has p ++ (one kind.If q ++ us))
        (has_of (placed src ts x) (placed src (one kind.If q ++ us)
        (lone_add src (one kind.If q ++ us) (member_of
        (placed src (one kind.If q) (if_name src q)) xs))))
    like : {ts us : List Lexeme} {x y : Add} (p : Spot) → ReadsAdd src ts x → ReadsAdd src us y →
        ReadsRelation src (ts ++ one kind.Like p ++ us)
        (like_of (placed src ts x) (placed src us y))
    is : {ts us : List Lexeme} {x y : Add} (p : Spot) → ReadsAdd src ts x → ReadsAdd src us y →
        ReadsRelation src (ts ++ one kind.Is p ++ us)
        (is_of (placed src ts x) (placed src us y) None)
    is_in : {ts us vs : List Lexeme} {x y z : Add} (p q : Spot) → ReadsAdd src ts x
        → ReadsAdd src us y → ReadsAdd src vs z →
        ReadsRelation src (ts ++ one kind.Is p ++ us ++ one kind.In q ++ vs)
        (is_of (placed src ts x) (placed src us y) (Some (placed src vs z)))

  pub data ReadsAdds (src : List ℕ) : List Lexeme → Cell Add → List (RelOp × Cell Add)
      → Type 0 where
    one_add : {ts : List Lexeme} {x : Add} → ReadsAdd src ts x
        → ReadsAdds src ts (placed src ts x) []
    more_add : {ts us : List Lexeme} {k : TokenKind} {o : RelOp} {x : Cell Add} {y : Add}
        {xs : List (RelOp × Cell Add)} (p : Spot) →
        ReadsAdds src ts x xs → ReadsRelOp k o → ReadsAdd src us y
        → ReadsAdds src (ts ++ one k p ++ us) x (xs ++ (o, placed src us y) ∷ [])

  -- Add = Mult (("+" | "-") Mult)*
  pub data ReadsAdd (src : List ℕ) : List Lexeme → Add → Type 0 where
    add : {ts : List Lexeme} {x : Cell Mult} {xs : List (AddOp × Cell Mult)}
        → ReadsMults src ts x xs → ReadsAdd src ts (add_of x xs)

  pub data ReadsMults (src : List ℕ) : List Lexeme → Cell Mult → List (AddOp × Cell Mult)
      → Type 0 where
    one_mult : {ts : List Lexeme} {x : Mult} → ReadsMult src ts x
        → ReadsMults src ts (placed src ts x) []
    more_mult : {ts us : List Lexeme} {k : TokenKind} {o : AddOp} {x : Cell Mult} {y : Mult}
        {xs : List (AddOp × Cell Mult)} (p : Spot) →
        ReadsMults src ts x xs → ReadsAddOp k o → ReadsMult src us y
        → ReadsMults src (ts ++ one k p ++ us) x (xs ++ (o, placed src us y) ∷ [])

  -- Mult = Unary (("*" | "/" | "%") Unary)*
  pub data ReadsMult (src : List ℕ) : List Lexeme → Mult → Type 0 where
    mult : {ts : List Lexeme} {x : Cell Unary} {xs : List (MultOp × Cell Unary)}
        → ReadsUnaries src ts x xs → ReadsMult src ts (mult_of x xs)

  pub data ReadsUnaries (src : List ℕ) : List Lexeme → Cell Unary → List (MultOp × Cell Unary)
      → Type 0 where
    one_unary : {ts : List Lexeme} {x : Unary} → ReadsUnary src ts x
        → ReadsUnaries src ts (placed src ts x) []
    more_unary : {ts us : List Lexeme} {k : TokenKind} {o : MultOp} {x : Cell Unary} {y : Unary}
        {xs : List (MultOp × Cell Unary)} (p : Spot) →
        ReadsUnaries src ts x xs → ReadsMultOp k o → ReadsUnary src us y
        → ReadsUnaries src (ts ++ one k p ++ us) x (xs ++ (o, placed src us y) ∷ [])

  -- Unary = Member | "!"+ Member | "-"+ Member; more signs than are counted are kept as too many
  pub data ReadsUnary (src : List ℕ) : List Lexeme → Unary → Type 0 where
    plain : {ts : List Lexeme} {x : Member} → ReadsMember src ts x
        → ReadsUnary src ts (unary_of None (placed src ts x))
    banged : {ts us : List Lexeme} {n : ℕ} {x : Member} → ReadsSigns kind.Bang ts n
        → ReadsMember src us x →
        ReadsUnary src (ts ++ us) (unary_of (Some (bangs_of n)) (placed src us x))
    dashed : {ts us : List Lexeme} {n : ℕ} {x : Member} → ReadsSigns kind.Minus ts n
        → ReadsMember src us x →
        ReadsUnary src (ts ++ us) (unary_of (Some (dashes_of n)) (placed src us x))

  -- Member = Primary MemAccess*
  pub data ReadsMember (src : List ℕ) : List Lexeme → Member → Type 0 where
    member : {ts us : List Lexeme} {x : Primary} {xs : List (Cell MemAccess)}
        → ReadsPrimary src ts x → ReadsAccesses src us xs →
        ReadsMember src (ts ++ us) (member_of (placed src ts x) xs)

  pub data ReadsAccesses (src : List ℕ) : List Lexeme → List (Cell MemAccess) → Type 0 where
    no_access : ReadsAccesses src [] []
    more_access : {ts us : List Lexeme} {xs : List (Cell MemAccess)} {x : MemAccess}
        → ReadsAccesses src ts xs → ReadsAccess src us x →
        ReadsAccesses src (ts ++ us) (xs ++ placed src us x ∷ [])

  -- MemAccess = "." Any | "(" List(Expr) ")" | "[" Expr "]"
  pub data ReadsAccess (src : List ℕ) : List Lexeme → MemAccess → Type 0 where
    field : {ts : List Lexeme} {i : Ident} (p : Spot) → ReadsAny ts i
        → ReadsAccess src (one kind.Dot p ++ ts) (access.Field (placed src ts i))
    call : {ts : List Lexeme} {xs : List (Cell Expr)} (l m : Spot) → ReadsExprs src ts xs →
        ReadsAccess src (one kind.OpenParen l ++ ts ++ one kind.CloseParen m) (access.Call xs)
    index : {ts : List Lexeme} {x : Expr} (l m : Spot) → ReadsExpr src ts x →
        ReadsAccess src (one kind.OpenBracket l ++ ts ++ one kind.CloseBracket m)
        (access.Index (placed src ts x))

  -- Primary = Literal | Ref | Name | Slot | "(" Expr ")" | "[" List(Expr) "]" | "{" List(RecInit)
  -- "}"
  pub data ReadsPrimary (src : List ℕ) : List Lexeme → Primary → Type 0 where
    literally : {ts : List Lexeme} {x : Literal} → ReadsLiteral src ts x
        → ReadsPrimary src ts (primary.Literal (placed src ts x))
    referred : {ts : List Lexeme} {x : Ref} → ReadsRef src ts x
        → ReadsPrimary src ts (primary.Ref (placed src ts x))
    named : {ts : List Lexeme} {x : Name} → ReadsName src ts x
        → ReadsPrimary src ts (primary.Name (placed src ts x))
    slotted : {k : TokenKind} {x : Slot} (p : Spot) → ReadsSlot k p.text x
        → ReadsPrimary src (one k p) (primary.Slot (placed src (one k p) x))
    paren : {ts : List Lexeme} {x : Expr} (l m : Spot) → ReadsExpr src ts x →
        ReadsPrimary src (one kind.OpenParen l ++ ts ++ one kind.CloseParen m)
        (primary.Expr (placed src ts x))
    set : {ts : List Lexeme} {xs : List (Cell Expr)} (l m : Spot) → ReadsExprs src ts xs →
        ReadsPrimary src (one kind.OpenBracket l ++ ts ++ one kind.CloseBracket m)
        (primary.EList xs)
    in_braces : {ts : List Lexeme} {xs : List (Cell RecInit)} (l m : Spot)
        → ReadsRecInits src ts xs →
        ReadsPrimary src (one kind.OpenBrace l ++ ts ++ one kind.CloseBrace m) (primary.RInits xs)

  -- List(Expr): nothing, or expressions parted by `,`, with one more `,` behind them or none
  pub data ReadsExprs (src : List ℕ) : List Lexeme → List (Cell Expr) → Type 0 where
    no_expr : ReadsExprs src [] []
    exprs : {ts : List Lexeme} {xs : List (Cell Expr)} → ReadsExprItems src ts xs
        → ReadsExprs src ts xs
    exprs_comma : {ts : List Lexeme} {xs : List (Cell Expr)} (p : Spot) → ReadsExprItems src ts xs
        → ReadsExprs src (ts ++ one kind.Comma p) xs

  pub data ReadsExprItems (src : List ℕ) : List Lexeme → List (Cell Expr) → Type 0 where
    one_expr : {ts : List Lexeme} {x : Expr} → ReadsExpr src ts x
        → ReadsExprItems src ts (placed src ts x ∷ [])
    more_exprs : {ts us : List Lexeme} {xs : List (Cell Expr)} {y : Expr} (p : Spot)
        → ReadsExprItems src ts xs → ReadsExpr src us y →
        ReadsExprItems src (ts ++ one kind.Comma p ++ us) (xs ++ placed src us y ∷ [])

  -- List(RecInit): the same of a record's keys and values
  pub data ReadsRecInits (src : List ℕ) : List Lexeme → List (Cell RecInit) → Type 0 where
    no_init : ReadsRecInits src [] []
    inits : {ts : List Lexeme} {xs : List (Cell RecInit)} → ReadsInitItems src ts xs
        → ReadsRecInits src ts xs
    inits_comma : {ts : List Lexeme} {xs : List (Cell RecInit)} (p : Spot)
        → ReadsInitItems src ts xs → ReadsRecInits src (ts ++ one kind.Comma p) xs

  pub data ReadsInitItems (src : List ℕ) : List Lexeme → List (Cell RecInit) → Type 0 where
    one_init : {ts : List Lexeme} {x : RecInit} → ReadsRecInit src ts x
        → ReadsInitItems src ts (placed src ts x ∷ [])
    more_inits : {ts us : List Lexeme} {xs : List (Cell RecInit)} {y : RecInit} (p : Spot)
        → ReadsInitItems src ts xs → ReadsRecInit src us y →
        ReadsInitItems src (ts ++ one kind.Comma p ++ us) (xs ++ placed src us y ∷ [])

  -- RecInit = Expr ":" Expr | IF ":" Expr
  pub data ReadsRecInit (src : List ℕ) : List Lexeme → RecInit → Type 0 where
    rec_init : {ts us : List Lexeme} {x y : Expr} (p : Spot) → ReadsExpr src ts x
        → ReadsExpr src us y →
        ReadsRecInit src (ts ++ one kind.Colon p ++ us)
        (rec_init_of (placed src ts x) (placed src us y))
    if_init : {ts : List Lexeme} {y : Expr} (p q : Spot) → ReadsExpr src ts y →
        ReadsRecInit src (one kind.If p ++ one kind.Colon q ++ ts)
        (rec_init_of (placed src (one kind.If p) (lone_expr src (one kind.If p)
        (member_of (placed src (one kind.If p) (if_name src p)) []))) (placed src ts y))
