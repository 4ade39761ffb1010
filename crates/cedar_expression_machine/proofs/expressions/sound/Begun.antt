-- What the machine has begun, and the tokens that it has read so far.
use Rattle.std.proofs.Common.{◌≡◌, ℕ, List, [], ◌∷◌, ◌++◌, Option, Some, None, true, false}
use Rattle.cedar_lexer.specs.Token.{Lexeme}
use Rattle.cedar_lexer.specs.declared.token.TokenKind.{TokenKind}
use Rattle.cedar_lexer.specs.declared.token.TokenKind.TheVariants as kind
use Rattle.cedar_expressions.specs.declared.operators.AddOp.{AddOp}
use Rattle.cedar_syntax.specs.declared.cst.Expr.{Expr}
use Rattle.cedar_syntax.specs.declared.cst.And.{And}
use Rattle.cedar_syntax.specs.declared.cst.RelOp.{RelOp}
use Rattle.cedar_syntax.specs.declared.cst.Relation.{Relation}
use Rattle.cedar_syntax.specs.declared.cst.Add.{Add}
use Rattle.cedar_syntax.specs.declared.cst.MultOp.{MultOp}
use Rattle.cedar_syntax.specs.declared.cst.Mult.{Mult}
use Rattle.cedar_syntax.specs.declared.cst.Unary.{Unary}
use Rattle.cedar_syntax.specs.declared.cst.MemAccess.{MemAccess}
use Rattle.cedar_syntax.specs.declared.cst.Primary.{Primary}
use Rattle.cedar_syntax.specs.declared.cst.RecInit.{RecInit}
use Rattle.cedar_expression_machine.specs.machines.Named.{NameOrEntity}
use Rattle.cedar_expression_machine.specs.declared.words.state.WordsState.{WordsState}
use Rattle.cedar_expression_machine.specs.declared.words.state.WordsAct.{WordsAct}
use Rattle.cedar_expression_machine.specs.declared.expression.state.Spanned.{Spanned}
use Rattle.cedar_expression_machine.specs.declared.expression.state.Chain.{Chain}
use Rattle.cedar_expression_machine.specs.declared.expression.state.PendingChain.{PendingChain}
use Rattle.cedar_expression_machine.specs.declared.expression.state.Branch.{Branch}
use Rattle.cedar_expression_machine.specs.declared.expression.state.PendingRelation.{PendingRelation}
use Rattle.cedar_expression_machine.specs.declared.expression.state.PendingRelation.TheVariants as left
use Rattle.cedar_expression_machine.specs.declared.expression.state.PendingOperators.{PendingOperators}
use Rattle.cedar_expression_machine.specs.declared.expression.state.Signs.{Signs}
use Rattle.cedar_expression_machine.specs.declared.expression.state.Operand.{Operand}
use Rattle.cedar_expression_machine.specs.declared.expression.state.Frame.{Frame}
use Rattle.cedar_expression_machine.specs.declared.expression.state.Frame.TheVariants as frame
use Rattle.cedar_expression_machine.specs.declared.expression.state.OperandPlace.{OperandPlace}
use Rattle.cedar_expression_machine.specs.declared.expression.state.OperandPlace.TheVariants as place
use Rattle.cedar_expression_machine.specs.declared.expression.state.OperandMode.TheVariants as mode
use Rattle.cedar_expression_machine.specs.declared.expression.state.State.{State}
use Rattle.cedar_expression_machine.specs.declared.expression.state.StartSymbol.{StartSymbol}
use Rattle.cedar_expression_machine.specs.declared.expression.state.FollowSet.{FollowSet}
use Rattle.cedar_expression_machine.specs.declared.expression.state.FollowSet.TheVariants as follow_set
use Rattle.cedar_grammar.specs.grammar.Place.{extent, placed}
use Rattle.cedar_syntax.specs.tokens.Tokens.{Spot, one}
use Rattle.cedar_syntax.specs.trees.Trees.{Cell, member_of, bangs_of, dashes_of}
use Rattle.cedar_grammar.specs.grammar.LooseExpressions.{ReadsRelOp, ReadsAddOp, ReadsMultOp, ReadsSigns, if_name, lone_expr, ReadsExpr, ReadsAnds, ReadsRelations, ReadsAdds, ReadsAdd, ReadsMults, ReadsUnaries, ReadsAccesses, ReadsPrimary, ReadsExprItems, ReadsInitItems}
pub use Rattle.cedar_grammar.proofs.machines.Extents.{at}
use Rattle.cedar_expression_machine.specs.machines.Closing.{spanned_tree, Plain, onward, pending, levels_of, fresh, signs_of, no_signs, operand_with, operand_of}
use Rattle.cedar_grammar.specs.machines.Machine.{Reader, machine_of, Comes}
use Rattle.cedar_expression_machine.specs.machines.ExpressionStates.{state}
use Rattle.cedar_expression_machine.specs.machines.ExpressionPlans.{start_follow_set, edge}
use Rattle.cedar_expression_machine.specs.machines.Wanting.{set_with, record_with}
use Rattle.cedar_expression_machine.specs.machines.Having.{before}

-- a tree and the extent of its tokens
abbrev pub closed : {T : Type 0} → List Lexeme → T → Spanned T
closed ts x = spanned_tree (extent ts) x

-- a chain that reads some tokens
abbrev pub chain : {T I : Type 0} → List Lexeme → Cell T → List I → Chain T I
chain ts x xs = record { initial = x; extended = xs; extent = extent ts }

-- a tree, or a chain, that these tokens are

pub data Reading {T : Type 0} (R : List Lexeme → T → Type 0) : List Lexeme → Spanned T → Type 0 where
  reads : {ts : List Lexeme} {x : T} → R ts x → Reading R ts (closed ts x)

pub data Chained {T I : Type 0} (R : List Lexeme → Cell T → List I → Type 0) : List Lexeme → Chain T I → Type 0 where
  chained : {ts : List Lexeme} {x : Cell T} {xs : List I} → R ts x xs → Chained R ts (chain ts x xs)

-- the forms begun, and what they have read

pub data BegunMult (src : List ℕ) : List Lexeme → Option (PendingChain Unary MultOp) → Type 0 where
  no_mult : BegunMult src [] None
  begun_mult : {ts : List Lexeme} {k : TokenKind} {o : MultOp} {x : Cell Unary} {xs : List (MultOp × Cell Unary)} (p : Spot) → ReadsUnaries src ts x xs → ReadsMultOp k o →
      BegunMult src (ts ++ one k p) (Some (pending (chain ts x xs) o (at p)))

pub data BegunAdd (src : List ℕ) : List Lexeme → Option (PendingChain Mult AddOp) → Type 0 where
  no_add : BegunAdd src [] None
  begun_add : {ts : List Lexeme} {k : TokenKind} {o : AddOp} {x : Cell Mult} {xs : List (AddOp × Cell Mult)} (p : Spot) → ReadsMults src ts x xs → ReadsAddOp k o →
      BegunAdd src (ts ++ one k p) (Some (pending (chain ts x xs) o (at p)))

pub data BegunRelation (src : List ℕ) : List Lexeme → Option PendingRelation → Type 0 where
  no_left : BegunRelation src [] None
  comparing : {ts : List Lexeme} {k : TokenKind} {o : RelOp} {x : Cell Add} {xs : List (RelOp × Cell Add)} (p : Spot) → ReadsAdds src ts x xs → ReadsRelOp k o →
      BegunRelation src (ts ++ one k p) (Some (left.Common (pending (chain ts x xs) o (at p))))
  having_field : {ts : List Lexeme} {x : Add} (p : Spot) → ReadsAdd src ts x → BegunRelation src (ts ++ one kind.Has p) (Some (left.Has (before src (closed ts x) (at p))))
  being_like : {ts : List Lexeme} {x : Add} (p : Spot) → ReadsAdd src ts x → BegunRelation src (ts ++ one kind.Like p) (Some (left.Like (before src (closed ts x) (at p))))
  being : {ts : List Lexeme} {x : Add} (p : Spot) → ReadsAdd src ts x → BegunRelation src (ts ++ one kind.Is p) (Some (left.Is (before src (closed ts x) (at p))))
  being_in : {ts us : List Lexeme} {x y : Add} (p q : Spot) → ReadsAdd src ts x → ReadsAdd src us y →
      BegunRelation src (ts ++ one kind.Is p ++ us ++ one kind.In q) (Some (left.IsIn (placed src ts x) (placed src us y) (extent (ts ++ one kind.Is p ++ us ++ one kind.In q))))

pub data BegunAnd (src : List ℕ) : List Lexeme → Option (Plain Relation) → Type 0 where
  no_and : BegunAnd src [] None
  begun_and : {ts : List Lexeme} {x : Cell Relation} {xs : List (Cell Relation)} (p : Spot) → ReadsRelations src ts x xs →
      BegunAnd src (ts ++ one kind.AndAnd p) (Some (onward (chain ts x xs) (at p)))

pub data BegunOr (src : List ℕ) : List Lexeme → Option (Plain And) → Type 0 where
  no_or : BegunOr src [] None
  begun_or : {ts : List Lexeme} {x : Cell And} {xs : List (Cell And)} (p : Spot) → ReadsAnds src ts x xs →
      BegunOr src (ts ++ one kind.OrOr p) (Some (onward (chain ts x xs) (at p)))

abbrev pub branch_made : List ℕ → List Lexeme → List Lexeme → Spot → Spot → Spot → Expr → Expr → Branch
branch_made src us vs l m n c x = record { guard = placed src us c; yes = placed src vs x; extent = extent (one kind.If l ++ us ++ one kind.Then m ++ vs ++ one kind.Else n) }

pub data BegunBranches (src : List ℕ) : List Lexeme → List Branch → Type 0 where
  no_branch : BegunBranches src [] []
  branch : {ts us vs : List Lexeme} {bs : List Branch} {c x : Expr} (l m n : Spot) → BegunBranches src ts bs → ReadsExpr src us c → ReadsExpr src vs x →
      BegunBranches src (ts ++ (one kind.If l ++ us ++ one kind.Then m ++ vs ++ one kind.Else n)) (branch_made src us vs l m n c x ∷ bs)

-- a sum alone
pub data BegunSum (src : List ℕ) : List Lexeme → PendingOperators → Type 0 where
  in_sum : {ps qs : List Lexeme} {s : Option (PendingChain Mult AddOp)} {m : Option (PendingChain Unary MultOp)} → BegunAdd src ps s → BegunMult src qs m →
      BegunSum src (ps ++ qs) (levels_of [] None None None s m)

pub data BegunLevels (src : List ℕ) : List Lexeme → PendingOperators → Type 0 where
  levels : {ts us vs ws ps qs : List Lexeme} {bs : List Branch} {o : Option (Plain And)} {a : Option (Plain Relation)} {r : Option PendingRelation} {s : Option (PendingChain Mult AddOp)} {m : Option (PendingChain Unary MultOp)} →
      BegunBranches src ts bs → BegunOr src us o → BegunAnd src vs a → BegunRelation src ws r → BegunAdd src ps s → BegunMult src qs m →
      BegunLevels src (ts ++ (us ++ (vs ++ (ws ++ (ps ++ qs))))) (levels_of bs o a r s m)

-- straight behind `has`
pub data BegunHas (src : List ℕ) : List Lexeme → PendingOperators → Type 0 where
  has_begun : {ts us vs ws : List Lexeme} {bs : List Branch} {o : Option (Plain And)} {a : Option (Plain Relation)} {x : Add} (p : Spot) →
      BegunBranches src ts bs → BegunOr src us o → BegunAnd src vs a → ReadsAdd src ws x →
      BegunHas src (ts ++ (us ++ (vs ++ (ws ++ one kind.Has p)))) (levels_of bs o a (Some (left.Has (before src (closed ws x) (at p)))) None None)

pub data BegunSigns : List Lexeme → Signs → Type 0 where
  no_sign : BegunSigns [] (signs_of None None)
  begun_bangs : {ts : List Lexeme} {n : ℕ} → ReadsSigns kind.Bang ts n → BegunSigns ts (signs_of (Some (bangs_of n)) (extent ts))
  begun_dashes : {ts : List Lexeme} {n : ℕ} → ReadsSigns kind.Minus ts n → BegunSigns ts (signs_of (Some (dashes_of n)) (extent ts))

-- an operand and its accesses so far
pub data BegunOperand (src : List ℕ) : List Lexeme → Operand → Type 0 where
  begun_operand : {ts us vs : List Lexeme} {sg : Signs} {x : Primary} {xs : List (Cell MemAccess)} → BegunSigns ts sg → ReadsPrimary src us x → ReadsAccesses src vs xs →
      BegunOperand src (ts ++ (us ++ vs)) (operand_with sg (placed src us x) xs (extent (us ++ vs)) false)

pub data BegunIf (src : List ℕ) : List Lexeme → Operand → Type 0 where
  begun_if : {vs : List Lexeme} {xs : List (Cell MemAccess)} (q : Spot) → ReadsAccesses src vs xs →
      BegunIf src (one kind.If q ++ vs) (operand_with no_signs (placed src (one kind.If q) (if_name src q)) xs (extent (one kind.If q ++ vs)) true)

-- what stands before an operand that goes on as far as this, its signs with it
pub data Opens (src : List ℕ) : FollowSet → List Lexeme → PendingOperators → Signs → Type 0 where
  opens_whole : {ts us : List Lexeme} {lv : PendingOperators} {sg : Signs} → BegunLevels src ts lv → BegunSigns us sg → Opens src follow_set.Whole (ts ++ us) lv sg
  opens_sum : {ts us : List Lexeme} {lv : PendingOperators} {sg : Signs} → BegunSum src ts lv → BegunSigns us sg → Opens src follow_set.Sum (ts ++ us) lv sg

pub data Leads (src : List ℕ) : FollowSet → List Lexeme → PendingOperators → Signs → Type 0 where
  leads : {r : FollowSet} {ts : List Lexeme} {lv : PendingOperators} {sg : Signs} → Opens src r ts lv sg → Leads src r ts lv sg
  leads_primary : Leads src follow_set.Primary [] (fresh []) no_signs

-- levels and an operand behind them that may go on
pub data Longer (src : List ℕ) : FollowSet → List Lexeme → PendingOperators → Operand → Type 0 where
  whole_longer : {ts us : List Lexeme} {lv : PendingOperators} {m : Operand} → BegunLevels src ts lv → BegunOperand src us m → Longer src follow_set.Whole (ts ++ us) lv m
  sum_longer : {ts us : List Lexeme} {lv : PendingOperators} {m : Operand} → BegunSum src ts lv → BegunOperand src us m → Longer src follow_set.Sum (ts ++ us) lv m
  if_longer : {ts us : List Lexeme} {lv : PendingOperators} {m : Operand} → BegunHas src ts lv → BegunIf src us m → Longer src follow_set.Whole (ts ++ us) lv m

pub data Holds (src : List ℕ) : FollowSet → List Lexeme → PendingOperators → Operand → Type 0 where
  holds : {r : FollowSet} {ts : List Lexeme} {lv : PendingOperators} {m : Operand} → Longer src r ts lv m → Holds src r ts lv m
  holds_primary : {ts : List Lexeme} {x : Primary} → ReadsPrimary src ts x → Holds src follow_set.Primary ts (fresh []) (operand_of src no_signs (closed ts x))

-- items, each with its comma
pub data BegunExprs (src : List ℕ) : List Lexeme → List (Cell Expr) → Type 0 where
  no_expr_yet : BegunExprs src [] []
  exprs_then : {ts : List Lexeme} {xs : List (Cell Expr)} (p : Spot) → ReadsExprItems src ts xs → BegunExprs src (ts ++ one kind.Comma p) xs

pub data BegunInits (src : List ℕ) : List Lexeme → List (Cell RecInit) → Type 0 where
  no_init_yet : BegunInits src [] []
  inits_then : {ts : List Lexeme} {xs : List (Cell RecInit)} (p : Spot) → ReadsInitItems src ts xs → BegunInits src (ts ++ one kind.Comma p) xs

abbrev pub if_alone_key : List ℕ → Spot → Cell Expr
if_alone_key src p = placed src (one kind.If p) (lone_expr src (one kind.If p) (member_of (placed src (one kind.If p) (if_name src p)) []))

-- a key and its colon
pub data BegunKey (src : List ℕ) : List Lexeme → Cell Expr → Type 0 where
  expr_key : {ts : List Lexeme} {x : Expr} (p : Spot) → ReadsExpr src ts x → BegunKey src (ts ++ one kind.Colon p) (placed src ts x)
  lone_if_key : (p q : Spot) → BegunKey src (one kind.If p ++ one kind.Colon q) (if_alone_key src p)

pub data BegunStack (src : List ℕ) (w : StartSymbol) : List Lexeme → List Frame → Type 0 where
  bottom : BegunStack src w [] []
  in_paren : {ts us : List Lexeme} {st : List Frame} {lv : PendingOperators} {sg : Signs} (l : Spot) → BegunStack src w ts st → Leads src (edge w st) us lv sg →
      BegunStack src w (ts ++ (us ++ one kind.OpenParen l)) (frame.Paren record { outer = lv; signs = sg; opened = at l } ∷ st)
  in_set : {ts us vs : List Lexeme} {st : List Frame} {lv : PendingOperators} {sg : Signs} {xs : List (Cell Expr)} (l : Spot) → BegunStack src w ts st → Leads src (edge w st) us lv sg → BegunExprs src vs xs →
      BegunStack src w (ts ++ (us ++ (one kind.OpenBracket l ++ vs))) (frame.Set (set_with lv sg (at l) xs) ∷ st)
  in_call : {ts us vs : List Lexeme} {st : List Frame} {lv : PendingOperators} {m : Operand} {xs : List (Cell Expr)} (l : Spot) → BegunStack src w ts st → Longer src (edge w st) us lv m → BegunExprs src vs xs →
      BegunStack src w (ts ++ (us ++ (one kind.OpenParen l ++ vs))) (frame.Call record { outer = lv; operand = m; opened = at l; items = xs } ∷ st)
  in_index : {ts us : List Lexeme} {st : List Frame} {lv : PendingOperators} {m : Operand} (l : Spot) → BegunStack src w ts st → Longer src (edge w st) us lv m →
      BegunStack src w (ts ++ (us ++ one kind.OpenBracket l)) (frame.Index record { outer = lv; operand = m; opened = at l } ∷ st)
  in_key : {ts us vs : List Lexeme} {st : List Frame} {lv : PendingOperators} {sg : Signs} {xs : List (Cell RecInit)} (l : Spot) → BegunStack src w ts st → Leads src (edge w st) us lv sg → BegunInits src vs xs →
      BegunStack src w (ts ++ (us ++ (one kind.OpenBrace l ++ vs))) (frame.Record (record_with lv sg (at l) xs None) ∷ st)
  in_value : {ts us vs ws : List Lexeme} {st : List Frame} {lv : PendingOperators} {sg : Signs} {xs : List (Cell RecInit)} {x : Cell Expr} (l : Spot) → BegunStack src w ts st → Leads src (edge w st) us lv sg → BegunInits src vs xs →
      BegunKey src ws x →
      BegunStack src w (ts ++ (us ++ (one kind.OpenBrace l ++ (vs ++ ws)))) (frame.Record (record_with lv sg (at l) xs (Some record { node = x; extent = extent ws })) ∷ st)
  in_guard : {ts us : List Lexeme} {st : List Frame} {bs : List Branch} (l : Spot) → edge w st ≡ follow_set.Whole → BegunStack src w ts st → BegunBranches src us bs →
      BegunStack src w (ts ++ (us ++ one kind.If l)) (frame.Guard record { branches = bs; opened = Some (at l) } ∷ st)
  in_then : {ts us vs : List Lexeme} {st : List Frame} {bs : List Branch} {c : Expr} (l m : Spot) → edge w st ≡ follow_set.Whole → BegunStack src w ts st → BegunBranches src us bs → ReadsExpr src vs c →
      BegunStack src w (ts ++ (us ++ (one kind.If l ++ vs ++ one kind.Then m))) (frame.Then record { branches = bs; guard = placed src vs c; extent = extent (one kind.If l ++ vs ++ one kind.Then m) } ∷ st)

-- what stands before an operand that is wanted here
pub data Wants (src : List ℕ) (w : StartSymbol) : List Lexeme → List Frame → PendingOperators → OperandPlace → Signs → Type 0 where
  at_expr : {us : List Lexeme} {st : List Frame} {bs : List Branch} → edge w st ≡ follow_set.Whole → BegunBranches src us bs → Wants src w us st (fresh bs) place.Expr no_signs
  at_item : {f : Frame} {st : List Frame} → Wants src w [] (f ∷ st) (fresh []) place.Item no_signs
  at_key : {f : Frame} {st : List Frame} → Wants src w [] (f ∷ st) (fresh []) place.Key no_signs
  at_has : {us : List Lexeme} {st : List Frame} {lv : PendingOperators} → edge w st ≡ follow_set.Whole → BegunHas src us lv → Wants src w us st lv place.Has no_signs
  at_operand : {us : List Lexeme} {st : List Frame} {lv : PendingOperators} {sg : Signs} → Opens src (edge w st) us lv sg → Wants src w us st lv place.Operand sg
  at_primary : start_follow_set w ≡ follow_set.Primary → Wants src w [] [] (fresh []) place.Primary no_signs

pub data Begun (src : List ℕ) (names : Reader WordsState WordsAct NameOrEntity) (w : StartSymbol) : List Lexeme → State → Type 0 where
  is_wanting : {ts us : List Lexeme} {st : List Frame} {lv : PendingOperators} {p : OperandPlace} {sg : Signs} → BegunStack src w ts st → Wants src w us st lv p sg →
      Begun src names w (ts ++ us) (state st lv (mode.Want p sg))
  is_worded : {ts us : List Lexeme} (vs : List Lexeme) {st : List Frame} {lv : PendingOperators} {p : OperandPlace} {sg : Signs} {s : WordsState} → BegunStack src w ts st → Wants src w us st lv p sg → Comes (machine_of src names) vs s →
      Begun src names w (ts ++ (us ++ vs)) (state st lv (mode.Word p sg s))
  is_dotted : {ts us : List Lexeme} {st : List Frame} {lv : PendingOperators} {m : Operand} (d : Spot) → BegunStack src w ts st → Longer src (edge w st) us lv m →
      Begun src names w (ts ++ (us ++ one kind.Dot d)) (state st lv (mode.Have m (Some (at d))))
  is_had : {ts us : List Lexeme} {st : List Frame} {lv : PendingOperators} {m : Operand} → BegunStack src w ts st → Holds src (edge w st) us lv m →
      Begun src names w (ts ++ us) (state st lv (mode.Have m None))
