-- Brackets: around an expression, and around lists of expressions and of a record's pairs.
use Rattle.std.proofs.Common.{◌≡◌, ℕ, List, [], ◌∷◌, ◌++◌, Option, Some, false, refl, ◌∙◌, ap, None}
use Rattle.cedar_lexer.specs.Token.{Lexeme}
use Rattle.cedar_lexer.specs.declared.token.TokenKind.{TokenKind}
use Rattle.cedar_lexer.specs.declared.token.TokenKind.TheVariants as kind
use Rattle.cedar_syntax.specs.declared.cst.Expr.{Expr}
use Rattle.cedar_syntax.specs.declared.cst.MemAccess.TheVariants as access
use Rattle.cedar_syntax.specs.declared.cst.Primary.TheVariants as primary
use Rattle.cedar_syntax.specs.declared.cst.RecInit.{RecInit}
use Rattle.cedar_grammar.specs.declared.reading.class.Closing.TheVariants as closing
use Rattle.cedar_grammar.specs.declared.reading.class.AccessStart.TheVariants as opens
use Rattle.cedar_expression_machine.specs.declared.expression.state.PendingOperators.{PendingOperators}
use Rattle.cedar_expression_machine.specs.declared.expression.state.Signs.{Signs}
use Rattle.cedar_expression_machine.specs.declared.expression.state.Operand.{Operand}
use Rattle.cedar_expression_machine.specs.declared.expression.state.Call.{Call}
use Rattle.cedar_expression_machine.specs.declared.expression.state.Record.{Record}
use Rattle.cedar_expression_machine.specs.declared.expression.state.Key.{Key}
use Rattle.cedar_expression_machine.specs.declared.expression.state.Frame.{Frame}
use Rattle.cedar_expression_machine.specs.declared.expression.state.Frame.TheVariants as frame
use Rattle.cedar_expression_machine.specs.declared.expression.state.OperandPlace.{OperandPlace}
use Rattle.cedar_expression_machine.specs.declared.expression.state.OperandPlace.TheVariants as place
use Rattle.cedar_expression_machine.specs.declared.expression.state.OperandMode.{OperandMode}
use Rattle.cedar_expression_machine.specs.declared.expression.state.OperandMode.TheVariants as mode
use Rattle.cedar_expression_machine.specs.declared.expression.state.State.{State}
use Rattle.cedar_grammar.specs.declared.reading.extent.Extent.{Extent}
use Rattle.cedar_grammar.specs.grammar.Place.{joint_extent, extent, node_at, placed}
use Rattle.cedar_syntax.specs.tokens.Tokens.{Spot, one}
use Rattle.cedar_syntax.specs.trees.Trees.{Cell, member_of, rec_init_of}
use Rattle.cedar_grammar.specs.grammar.LooseExpressions.{if_name, lone_expr}
use Rattle.cedar_expression_machine.specs.machines.Named.{joins_words}
use Rattle.cedar_expression_machine.specs.machines.Closing.{spanned_tree, node_of, whole, fresh, with_access}
use Rattle.cedar_expression_machine.specs.machines.ExpressionStates.{state, opening, has_operand, has_primary}
use Rattle.cedar_expression_machine.specs.machines.Wanting.{set_with, record_with, set_closing, record_closing, call_closing}
use Rattle.cedar_expression_machine.specs.machines.Having.{record_more, frame_ending}
use Rattle.cedar_expression_machine.proofs.expressions.complete.Runs.{having, chain_extent, at, Setting, run, two, three, token, StandsAt, met}
use Rattle.cedar_expression_machine.proofs.expressions.complete.Words.{PrimaryAt, had_at}
use Rattle.cedar_expression_machine.proofs.expressions.complete.If.{if_runs, if_key_runs, no_key, with_key}
use Rattle.cedar_expression_machine.proofs.expressions.complete.Members.{AccessRuns, begins_access, around_is}
use Rattle.cedar_expression_machine.proofs.expressions.complete.OperatorLevels.{ExprAt}

-- around an expression

abbrev pub paren_frame : PendingOperators → Signs → Spot → Frame
paren_frame lv sg l = frame.Paren record { outer = lv; signs = sg; opened = at l }

pub paren_runs : {src : List ℕ} (c : Setting src) (st : List Frame) (lv : PendingOperators) (pl : OperandPlace) (sg : Signs) (ts : List Lexeme) (l m : Spot) (x : Expr) → ExprAt c (paren_frame lv sg l ∷ st) [] place.Expr ts x →
    PrimaryAt c st lv pl sg (one kind.OpenParen l ++ ts ++ one kind.CloseParen m) (primary.Expr (placed src ts x))
paren_runs {src = src} c st lv pl sg ts l m x h =
    let inside = paren_frame lv sg l ∷ st in
    had_at c st lv pl sg (one kind.OpenParen l ++ ts ++ one kind.CloseParen m) (primary.Expr (placed src ts x))
    (three c (Some (state st lv (mode.Want pl sg))) (Some (opening inside [] place.Expr)) _ _ (one kind.OpenParen l) ts (one kind.CloseParen m) refl h.goes
    (met c inside h.levels h.md h.last kind.CloseParen m h.at_it refl ∙ ap (λ o. (frame_ending src inside o closing.Paren (at m))) h.is)
    ∙ ap (λ q. Some (has_primary src st lv sg (spanned_tree q (primary.Expr (placed src ts x))))) (around_is ts kind.OpenParen kind.CloseParen l m))

abbrev pub index_frame : PendingOperators → Operand → Spot → Frame
index_frame lv u l = frame.Index record { outer = lv; operand = u; opened = at l }

pub index_runs : {src : List ℕ} (c : Setting src) (ts : List Lexeme) (l m : Spot) (x : Expr) → ((f : Frame) (st : List Frame) → ExprAt c (f ∷ st) [] place.Expr ts x) →
    AccessRuns c (one kind.OpenBracket l ++ ts ++ one kind.CloseBracket m) (access.Index (placed src ts x))
index_runs {src = src} c ts l m x g st lv md u s a =
    let inside = index_frame lv u l ∷ st in
    let h = g (index_frame lv u l) st in
    three c (Some (state st lv md)) (Some (opening inside [] place.Expr)) _ _ (one kind.OpenBracket l) ts (one kind.CloseBracket m) (met c st lv md u kind.OpenBracket l s refl ∙ begins_access src st lv u opens.Bracket (at l) a) h.goes
    (met c inside h.levels h.md h.last kind.CloseBracket m h.at_it refl ∙ ap (λ o. (frame_ending src inside o closing.Bracket (at m))) h.is)
    ∙ ap (λ q. Some (has_operand st lv (with_access src u (spanned_tree q (access.Index (placed src ts x)))))) (around_is ts kind.OpenBracket kind.CloseBracket l m)

-- lists of expressions: what a comma and the closing kind do within this frame
pub record IsList {src : List ℕ} (c : Setting src) (st : List Frame) (f : List (Cell Expr) → Frame) (k : TokenKind) (done : List (Cell Expr) → Extent → State) : Type 0 where
  pub comma : (xs : List (Cell Expr)) (lv : PendingOperators) (m : Operand) (p : Spot) →
      (having c.symbol src (f xs ∷ st) lv m (token kind.Comma p)) ≡ Some (opening (f (xs ++ node_of src (whole src lv m) ∷ []) ∷ st) [] place.Item)
  pub closes : (xs : List (Cell Expr)) (lv : PendingOperators) (m : Operand) (p : Spot) → (having c.symbol src (f xs ∷ st) lv m (token k p)) ≡ Some (done (xs ++ node_of src (whole src lv m) ∷ []) (at p))
  pub empty : (xs : List (Cell Expr)) (p : Spot) → run c (Some (opening (f xs ∷ st) [] place.Item)) (one k p) ≡ Some (done xs (at p))
  pub apart : joins_words k ≡ false

-- the last item is pending, behind those before it
pub record ItemsAt {src : List ℕ} (c : Setting src) (st : List Frame) (f : List (Cell Expr) → Frame) (ts : List Lexeme) (xs : List (Cell Expr)) : Type 0 where
  pub before : List (Cell Expr)
  pub levels : PendingOperators
  pub md : OperandMode
  pub last : Operand
  pub is : before ++ node_of src (whole src levels last) ∷ [] ≡ xs
  pub at_it : StandsAt c (f before ∷ st) levels md last
  pub goes : run c (Some (opening (f [] ∷ st) [] place.Item)) ts ≡ Some (state (f before ∷ st) levels md)

pub one_exprs : {src : List ℕ} (c : Setting src) (st : List Frame) (f : List (Cell Expr) → Frame) (ts : List Lexeme) (x : Expr) → ExprAt c (f [] ∷ st) [] place.Item ts x → ItemsAt c st f ts (placed src ts x ∷ [])
one_exprs {src = src} c st f ts x h = record { before = []; levels = h.levels; md = h.md; last = h.last; is = ap (λ y. node_of src y ∷ []) h.is; at_it = h.at_it; goes = h.goes }

comma_runs : {src : List ℕ} (c : Setting src) (st : List Frame) (f : List (Cell Expr) → Frame) (k : TokenKind) (done : List (Cell Expr) → Extent → State) (ts : List Lexeme) (xs : List (Cell Expr)) (p : Spot) → IsList c st f k done → ItemsAt c st f ts xs →
    run c (Some (opening (f [] ∷ st) [] place.Item)) (ts ++ one kind.Comma p) ≡ Some (opening (f xs ∷ st) [] place.Item)
comma_runs c st f k done ts xs p i h =
    two c (Some (opening (f [] ∷ st) [] place.Item)) _ _ ts (one kind.Comma p) h.goes
    (met c (f h.before ∷ st) h.levels h.md h.last kind.Comma p h.at_it refl ∙ i.comma h.before h.levels h.last p ∙ ap (λ ys. Some (opening (f ys ∷ st) [] place.Item)) h.is)

pub further_exprs : {src : List ℕ} (c : Setting src) (st : List Frame) (f : List (Cell Expr) → Frame) (k : TokenKind) (done : List (Cell Expr) → Extent → State) (ts us : List Lexeme) (xs : List (Cell Expr)) (y : Expr) (p : Spot) → IsList c st f k done →
    ItemsAt c st f ts xs → ExprAt c (f xs ∷ st) [] place.Item us y → ItemsAt c st f (ts ++ one kind.Comma p ++ us) (xs ++ placed src us y ∷ [])
further_exprs {src = src} c st f k done ts us xs y p i h g = record {
  before = xs;
  levels = g.levels;
  md = g.md;
  last = g.last;
  is = ap (λ z. xs ++ node_of src z ∷ []) g.is;
  at_it = g.at_it;
  goes = two c (Some (opening (f [] ∷ st) [] place.Item)) _ _ (ts ++ one kind.Comma p) us (comma_runs c st f k done ts xs p i h) g.goes;
}

-- a whole list, and the kind that closes it
abbrev pub ListRuns : {src : List ℕ} → Setting src → List Frame → (List (Cell Expr) → Frame) → TokenKind → (List (Cell Expr) → Extent → State) → List Lexeme → List (Cell Expr) → Type 0
ListRuns c st f k done ts xs = (p : Spot) → run c (run c (Some (opening (f [] ∷ st) [] place.Item)) ts) (one k p) ≡ Some (done xs (at p))

pub items_close : {src : List ℕ} (c : Setting src) (st : List Frame) (f : List (Cell Expr) → Frame) (k : TokenKind) (done : List (Cell Expr) → Extent → State) (ts : List Lexeme) (xs : List (Cell Expr)) → IsList c st f k done → ItemsAt c st f ts xs → ListRuns c st f k done ts xs
items_close c st f k done ts xs i h p =
    ap (λ s. run c s (one k p)) h.goes ∙ met c (f h.before ∷ st) h.levels h.md h.last k p h.at_it i.apart ∙ i.closes h.before h.levels h.last p ∙ ap (λ ys. Some (done ys (at p))) h.is

pub comma_closes : {src : List ℕ} (c : Setting src) (st : List Frame) (f : List (Cell Expr) → Frame) (k : TokenKind) (done : List (Cell Expr) → Extent → State) (ts : List Lexeme) (xs : List (Cell Expr)) (q : Spot) → IsList c st f k done → ItemsAt c st f ts xs →
    ListRuns c st f k done (ts ++ one kind.Comma q) xs
comma_closes c st f k done ts xs q i h p = ap (λ s. run c s (one k p)) (comma_runs c st f k done ts xs q i h) ∙ i.empty xs p

-- a list in brackets

abbrev pub set_frame : PendingOperators → Signs → Spot → List (Cell Expr) → Frame
set_frame lv sg l xs = frame.Set (set_with lv sg (at l) xs)

abbrev pub set_done : {src : List ℕ} → Setting src → List Frame → PendingOperators → Signs → Spot → List (Cell Expr) → Extent → State
set_done {src = src} c st lv sg l xs m = set_closing src st (set_with lv sg (at l) xs) m

pub set_list : {src : List ℕ} (c : Setting src) (st : List Frame) (lv : PendingOperators) (sg : Signs) (l : Spot) → IsList c st (set_frame lv sg l) kind.CloseBracket (set_done c st lv sg l)
set_list c st lv sg l = record { comma = λ xs w m p. refl; closes = λ xs w m p. refl; empty = λ xs p. refl; apart = refl }

pub set_runs : {src : List ℕ} (c : Setting src) (st : List Frame) (lv : PendingOperators) (pl : OperandPlace) (sg : Signs) (ts : List Lexeme) (l m : Spot) (xs : List (Cell Expr)) → ListRuns c st (set_frame lv sg l) kind.CloseBracket (set_done c st lv sg l) ts xs →
    PrimaryAt c st lv pl sg (one kind.OpenBracket l ++ ts ++ one kind.CloseBracket m) (primary.EList xs)
set_runs {src = src} c st lv pl sg ts l m xs h =
    had_at c st lv pl sg (one kind.OpenBracket l ++ ts ++ one kind.CloseBracket m) (primary.EList xs)
    (three c (Some (state st lv (mode.Want pl sg))) (Some (opening (set_frame lv sg l [] ∷ st) [] place.Item)) _ _ (one kind.OpenBracket l) ts (one kind.CloseBracket m) refl refl (h m)
    ∙ ap (λ q. Some (has_primary src st lv sg (spanned_tree q (primary.EList xs)))) (around_is ts kind.OpenBracket kind.CloseBracket l m))

-- arguments

abbrev pub call_with : PendingOperators → Operand → Extent → List (Cell Expr) → Call
call_with lv u e xs = record { outer = lv; operand = u; opened = e; items = xs }

abbrev pub call_frame : PendingOperators → Operand → Spot → List (Cell Expr) → Frame
call_frame lv u l xs = frame.Call (call_with lv u (at l) xs)

abbrev pub call_done : {src : List ℕ} → Setting src → List Frame → PendingOperators → Operand → Spot → List (Cell Expr) → Extent → State
call_done {src = src} c st lv u l xs m = call_closing src st (call_with lv u (at l) xs) m

pub call_list : {src : List ℕ} (c : Setting src) (st : List Frame) (lv : PendingOperators) (u : Operand) (l : Spot) → IsList c st (call_frame lv u l) kind.CloseParen (call_done c st lv u l)
call_list c st lv u l = record { comma = λ xs w m p. refl; closes = λ xs w m p. refl; empty = λ xs p. refl; apart = refl }

pub call_runs : {src : List ℕ} (c : Setting src) (ts : List Lexeme) (l m : Spot) (xs : List (Cell Expr)) → ((st : List Frame) (lv : PendingOperators) (u : Operand) → ListRuns c st (call_frame lv u l) kind.CloseParen (call_done c st lv u l) ts xs) →
    AccessRuns c (one kind.OpenParen l ++ ts ++ one kind.CloseParen m) (access.Call xs)
call_runs {src = src} c ts l m xs g st lv md u s a =
    three c (Some (state st lv md)) (Some (opening (call_frame lv u l [] ∷ st) [] place.Item)) _ _ (one kind.OpenParen l) ts (one kind.CloseParen m) (met c st lv md u kind.OpenParen l s refl ∙ begins_access src st lv u opens.Paren (at l) a) refl
    (g st lv u m)
    ∙ ap (λ q. Some (has_operand st lv (with_access src u (spanned_tree q (access.Call xs))))) (around_is ts kind.OpenParen kind.CloseParen l m)

-- pairs

-- a value is pending, which makes the pair whole
pub record PairAt {src : List ℕ} (c : Setting src) (st : List Frame) (f : Record) (ts : List Lexeme) (x : RecInit) : Type 0 where
  pub key : Key
  pub levels : PendingOperators
  pub md : OperandMode
  pub last : Operand
  pub is : record_more src f key (whole src levels last) ≡ record_with f.outer f.signs f.opened (f.items ++ placed src ts x ∷ []) None
  pub at_it : StandsAt c (frame.Record (with_key f key) ∷ st) levels md last
  pub goes : run c (Some (opening (frame.Record (no_key f) ∷ st) [] place.Key)) ts ≡ Some (state (frame.Record (with_key f key) ∷ st) levels md)

abbrev pub key_of : {src : List ℕ} → Setting src → List Lexeme → Expr → Spot → Key
key_of {src = src} c ts x p = record { node = placed src ts x; extent = joint_extent (extent ts) (Some (at p)) }

-- with a key that has been read
keyed : {src : List ℕ} (c : Setting src) (st : List Frame) (f : Record) (ts us : List Lexeme) (x y : Expr) (p : Spot) →
    run c (Some (opening (frame.Record (no_key f) ∷ st) [] place.Key)) (ts ++ one kind.Colon p) ≡ Some (opening (frame.Record (with_key f (key_of c ts x p)) ∷ st) [] place.Expr) → ExprAt c (frame.Record (with_key f (key_of c ts x p)) ∷ st) [] place.Expr us y →
    PairAt c st f (ts ++ one kind.Colon p ++ us) (rec_init_of (placed src ts x) (placed src us y))
keyed {src = src} c st f ts us x y p e h = record {
  key = key_of c ts x p;
  levels = h.levels;
  md = h.md;
  last = h.last;
  is = ap (λ z. record_more src f (key_of c ts x p) z) h.is
      ∙ ap (λ q. record_with f.outer f.signs f.opened (f.items ++ node_at src q (rec_init_of (placed src ts x) (placed src us y)) ∷ []) None) (chain_extent ts us kind.Colon p);
  at_it = h.at_it;
  goes = two c (Some (opening (frame.Record (no_key f) ∷ st) [] place.Key)) _ _ (ts ++ one kind.Colon p) us e h.goes;
}

pub pairs : {src : List ℕ} (c : Setting src) (st : List Frame) (f : Record) (ts us : List Lexeme) (x y : Expr) (p : Spot) → ExprAt c (frame.Record (no_key f) ∷ st) [] place.Key ts x → ExprAt c (frame.Record (with_key f (key_of c ts x p)) ∷ st) [] place.Expr us y →
    PairAt c st f (ts ++ one kind.Colon p ++ us) (rec_init_of (placed src ts x) (placed src us y))
pairs {src = src} c st f ts us x y p h g =
    keyed c st f ts us x y p
    (two c (Some (opening (frame.Record (no_key f) ∷ st) [] place.Key)) _ _ ts (one kind.Colon p) h.goes
    (met c (frame.Record (no_key f) ∷ st) h.levels h.md h.last kind.Colon p h.at_it refl ∙ ap (λ o. frame_ending src (frame.Record (no_key f) ∷ st) o closing.Colon (at p)) h.is)) g

pub if_pairs : {src : List ℕ} (c : Setting src) (st : List Frame) (f : Record) (ts : List Lexeme) (y : Expr) (p q : Spot) → ((k : Key) → ExprAt c (frame.Record (with_key f k) ∷ st) [] place.Expr ts y) →
    PairAt c st f (one kind.If p ++ one kind.Colon q ++ ts) (rec_init_of (placed src (one kind.If p) (lone_expr src (one kind.If p) (member_of (placed src (one kind.If p) (if_name src p)) []))) (placed src ts y))
if_pairs {src = src} c st f ts y p q g =
    let x : Expr = lone_expr src (one kind.If p) (member_of (placed src (one kind.If p) (if_name src p)) []) in
    let i = if_runs c (frame.Record (no_key f) ∷ st) (fresh []) place.Key p in
    keyed c st f (one kind.If p) ts x y q (two c (Some (opening (frame.Record (no_key f) ∷ st) [] place.Key)) _ _ (one kind.If p) (one kind.Colon q) i.goes (if_key_runs c st f (fresh []) p q i)) (g (key_of c (one kind.If p) x q))

-- the pairs of a record

abbrev pub pairs_so_far : PendingOperators → Signs → Spot → List (Cell RecInit) → Record
pairs_so_far lv sg l xs = record_with lv sg (at l) xs None

abbrev keys_open : List Frame → PendingOperators → Signs → Spot → List (Cell RecInit) → Option State
keys_open st lv sg l xs = Some (opening (frame.Record (pairs_so_far lv sg l xs) ∷ st) [] place.Key)

pub record PairsAt {src : List ℕ} (c : Setting src) (st : List Frame) (lv : PendingOperators) (sg : Signs) (l : Spot) (ts : List Lexeme) (xs : List (Cell RecInit)) : Type 0 where
  pub before : Record
  pub key : Key
  pub levels : PendingOperators
  pub md : OperandMode
  pub last : Operand
  pub is : record_more src before key (whole src levels last) ≡ pairs_so_far lv sg l xs
  pub at_it : StandsAt c (frame.Record (with_key before key) ∷ st) levels md last
  pub goes : run c (keys_open st lv sg l []) ts ≡ Some (state (frame.Record (with_key before key) ∷ st) levels md)

pub one_pairs : {src : List ℕ} (c : Setting src) (st : List Frame) (lv : PendingOperators) (sg : Signs) (l : Spot) (ts : List Lexeme) (x : RecInit) → PairAt c st (pairs_so_far lv sg l []) ts x → PairsAt c st lv sg l ts (placed src ts x ∷ [])
one_pairs c st lv sg l ts x h = record { before = pairs_so_far lv sg l []; key = h.key; levels = h.levels; md = h.md; last = h.last; is = h.is; at_it = h.at_it; goes = h.goes }

pair_comma : {src : List ℕ} (c : Setting src) (st : List Frame) (lv : PendingOperators) (sg : Signs) (l : Spot) (ts : List Lexeme) (xs : List (Cell RecInit)) (p : Spot) → PairsAt c st lv sg l ts xs → run c (keys_open st lv sg l []) (ts ++ one kind.Comma p) ≡ keys_open st lv sg l xs
pair_comma c st lv sg l ts xs p h =
    two c (keys_open st lv sg l []) _ _ ts (one kind.Comma p) h.goes
    (met c (frame.Record (with_key h.before h.key) ∷ st) h.levels h.md h.last kind.Comma p h.at_it refl ∙ ap (λ f. Some (opening (frame.Record f ∷ st) [] place.Key)) h.is)

pub further_pairs : {src : List ℕ} (c : Setting src) (st : List Frame) (lv : PendingOperators) (sg : Signs) (l : Spot) (ts us : List Lexeme) (xs : List (Cell RecInit)) (y : RecInit) (p : Spot) → PairsAt c st lv sg l ts xs → PairAt c st (pairs_so_far lv sg l xs) us y →
    PairsAt c st lv sg l (ts ++ one kind.Comma p ++ us) (xs ++ placed src us y ∷ [])
further_pairs c st lv sg l ts us xs y p h g = record {
  before = pairs_so_far lv sg l xs;
  key = g.key;
  levels = g.levels;
  md = g.md;
  last = g.last;
  is = g.is;
  at_it = g.at_it;
  goes = two c (keys_open st lv sg l []) _ _ (ts ++ one kind.Comma p) us (pair_comma c st lv sg l ts xs p h) g.goes;
}

abbrev pub RecordRuns : {src : List ℕ} → Setting src → List Frame → PendingOperators → Signs → Spot → List Lexeme → List (Cell RecInit) → Type 0
RecordRuns {src = src} c st lv sg l ts xs = (p : Spot) → run c (run c (keys_open st lv sg l []) ts) (one kind.CloseBrace p) ≡ Some (record_closing src st (pairs_so_far lv sg l xs) (at p))

pub no_pairs_close : {src : List ℕ} (c : Setting src) (st : List Frame) (lv : PendingOperators) (sg : Signs) (l : Spot) → RecordRuns c st lv sg l [] []
no_pairs_close c st lv sg l p = refl

pub pairs_close : {src : List ℕ} (c : Setting src) (st : List Frame) (lv : PendingOperators) (sg : Signs) (l : Spot) (ts : List Lexeme) (xs : List (Cell RecInit)) → PairsAt c st lv sg l ts xs → RecordRuns c st lv sg l ts xs
pairs_close {src = src} c st lv sg l ts xs h p =
    ap (λ s. run c s (one kind.CloseBrace p)) h.goes ∙ met c (frame.Record (with_key h.before h.key) ∷ st) h.levels h.md h.last kind.CloseBrace p h.at_it refl
    ∙ ap (λ f. Some (record_closing src st f (at p))) h.is

pub pairs_comma_close : {src : List ℕ} (c : Setting src) (st : List Frame) (lv : PendingOperators) (sg : Signs) (l : Spot) (ts : List Lexeme) (xs : List (Cell RecInit)) (q : Spot) → PairsAt c st lv sg l ts xs → RecordRuns c st lv sg l (ts ++ one kind.Comma q) xs
pairs_comma_close c st lv sg l ts xs q h p = ap (λ s. run c s (one kind.CloseBrace p)) (pair_comma c st lv sg l ts xs q h)

pub braces_run : {src : List ℕ} (c : Setting src) (st : List Frame) (lv : PendingOperators) (pl : OperandPlace) (sg : Signs) (ts : List Lexeme) (l m : Spot) (xs : List (Cell RecInit)) → RecordRuns c st lv sg l ts xs →
    PrimaryAt c st lv pl sg (one kind.OpenBrace l ++ ts ++ one kind.CloseBrace m) (primary.RInits xs)
braces_run {src = src} c st lv pl sg ts l m xs h =
    had_at c st lv pl sg (one kind.OpenBrace l ++ ts ++ one kind.CloseBrace m) (primary.RInits xs)
    (three c (Some (state st lv (mode.Want pl sg))) (keys_open st lv sg l []) _ _ (one kind.OpenBrace l) ts (one kind.CloseBrace m) refl refl (h m)
    ∙ ap (λ q. Some (has_primary src st lv sg (spanned_tree q (primary.RInits xs)))) (around_is ts kind.OpenBrace kind.CloseBrace l m))
