-- What a copy by a loop gives: the copy of each kind from those of its parts, and which copies
-- are the newest at each turn.
use Rattle.std.proofs.Common.{◌≡◌, ℕ, zero, suc, ◌+◌, ◌<◌, ◌≤◌, List, [], ◌∷◌, ◌++◌, refl, ap, sym, ◌∙◌, map, length, take, drop, append-nil, get_or, Bor, Option, Result, Ok, Err, IfOk, arith}
use Rattle.std.proofs.lemmas.Grind.{flat_map-append}
use Rattle.std.proofs.lemmas.List.{map-append, length-append}
use Rattle.std.proofs.Math.ListN.{get_or-map}
use Rattle.std.proofs.Math.Seq.{take-append_seam, drop-append_seam, drop-cons}
use Rattle.std.specs.List.{flat_map}
use Rattle.cedar_expressions.specs.declared.operators.AddOp.{AddOp}
use Rattle.cedar_expressions.specs.declared.place.Place.{Place}
use Rattle.cedar_expressions.specs.declared.text.Text.{Text}
use Rattle.cedar_expressions.specs.declared.atoms.Literal.{Literal}
use Rattle.cedar_expressions.specs.declared.atoms.Var.{Var}
use Rattle.cedar_expressions.specs.declared.atoms.SlotId.{SlotId}
use Rattle.cedar_expressions.specs.declared.expr.Expr.{Expr}
use Rattle.cedar_expressions.specs.declared.expr.UnaryCall.{UnaryCall}
use Rattle.cedar_expressions.specs.declared.expr.BinaryCall.{BinaryCall}
use Rattle.cedar_expressions.specs.declared.expr.NaryOp.{NaryOp}
use Rattle.cedar_expressions.specs.declared.expr.ListCall.{ListCall}
use Rattle.cedar_expressions.specs.declared.expr.ExprKind.{ExprKind}
use Rattle.cedar_expressions.specs.declared.expr.ExprKind.TheOpen.{ExprKind-F}
use Rattle.cedar_expressions.specs.declared.expr.ExprKind.TheViews.{roll-ExprKind, out-roll-ExprKind}
use Rattle.cedar_expressions.specs.declared.expr.ExprKind.TheFolds.{map-ExprKind, fold_out-Expr, fold-roll-ExprKind}
use Rattle.cedar_expressions.specs.declared.expr.ExprKind.TheVariants as kind
use Rattle.cedar_expressions.specs.declared.slot_entities.SlotEntities.{SlotEntities}
use Rattle.cedar_expressions.specs.Copies.{kind_copy, expr_copy, slot_copy, copied, kind_copied, HoldsCopies}
use Rattle.cedar_expressions.specs.Filled.{entity_for}
use Rattle.cedar_expressions.specs.Parts.{form_parts, parts, kind_parts, subexpressions}
use Rattle.cedar_expressions.proofs.PartsAt.{subexpressions_at}

-- ---- lists

-- a list is cut in one way at a length
pub same_cut : {A : Type 0} (xs ys vs ws : List A) → xs ++ ys ≡ vs ++ ws → length xs ≡ length vs → (xs ≡ vs) × (ys ≡ ws)
same_cut xs ys vs ws whole long = (
  sym (take-append_seam xs ys) ∙ (λ i. take (long i) (whole i)) ∙ take-append_seam vs ws,
  sym (drop-append_seam xs ys) ∙ (λ i. drop (long i) (whole i)) ∙ drop-append_seam vs ws,
)

pub map_long : {A B : Type 0} (f : A → B) (xs : List A) → length (map f xs) ≡ length xs
map_long f [] = refl
map_long f (x ∷ xs) = ap suc (map_long f xs)

-- pairs are known by their sides
pub by_sides : {A B : Type 0} (f : B → B) (xs ys : List (A × B)) → map (λ x. x.0) xs ≡ map (λ y. y.0) ys → map (λ x. x.1) xs ≡ map f (map (λ y. y.1) ys) → xs ≡ map (λ y. (y.0, f y.1)) ys
by_sides f [] [] a b = refl
by_sides f [] (y ∷ ys) a b = absurd (cc a)
by_sides f (x ∷ xs) [] a b = absurd (cc a)
by_sides f (x ∷ xs) (y ∷ ys) a b =
    let first : x.0 ≡ y.0 = cc a in
    let second : x.1 ≡ f y.1 = cc b in
    let more : xs ≡ map (λ y. (y.0, f y.1)) ys = by_sides f xs ys (cc a) (cc b) in
    λ i. (first i, second i) ∷ more i

-- ---- the copy of each kind

module _ (es : SlotEntities) where
  rolled : {k : ExprKind} (x : ExprKind-F ExprKind Expr) → k ≡ roll-ExprKind x → kind_copied es k ≡ kind_copy es (map-ExprKind ExprKind Expr ExprKind Expr (kind_copied es) (copied es) x)
  unfolding kind_copied copied
  rolled x e = ap (kind_copied es) e ∙ fold-roll-ExprKind ExprKind Expr (kind_copy es) expr_copy x

  pub of_expr : (e : Expr) → copied es e ≡ record { kind = kind_copied es e.kind; place = e.place }
  unfolding kind_copied copied
  of_expr e = fold_out-Expr ExprKind Expr (kind_copy es) expr_copy e

  pub of_val : (l : Literal) → kind_copied es (kind.Val l) ≡ kind.Val l
  of_val l = rolled (ExprKind-F.Val l) (sym (kind.rolls-Val l))

  pub of_var : (x : Var) → kind_copied es (kind.Var x) ≡ kind.Var x
  of_var x = rolled (ExprKind-F.Var x) (sym (kind.rolls-Var x))

  pub of_slot : (s : SlotId) → kind_copied es (kind.Slot s) ≡ slot_copy (entity_for es s) s
  of_slot s = rolled (ExprKind-F.Slot s) (sym (kind.rolls-Slot s))

  pub of_ite : (p : Expr × Expr × Expr) → kind_copied es (kind.Ite p) ≡ kind.Ite (copied es p.0, copied es p.1, copied es p.2)
  of_ite p = rolled (ExprKind-F.Ite p) (sym (kind.rolls-Ite p))

  pub of_unary : (call : UnaryCall) (a : Expr) → kind_copied es (kind.Unary call a) ≡ kind.Unary call (copied es a)
  of_unary call a = rolled (ExprKind-F.Unary call a) (sym (kind.rolls-Unary call a))

  pub of_binary : (call : BinaryCall) (p : Expr × Expr) → kind_copied es (kind.Binary call p) ≡ kind.Binary call (copied es p.0, copied es p.1)
  of_binary call p = rolled (ExprKind-F.Binary call p) (sym (kind.rolls-Binary call p))

  pub of_nary : (op : NaryOp) (a : Expr) (rest : List Expr) → kind_copied es (kind.Nary op a rest) ≡ kind.Nary op (copied es a) (map (copied es) rest)
  of_nary op a rest = rolled (ExprKind-F.Nary op a rest) (sym (kind.rolls-Nary op a rest))

  pub of_sum : (a : Expr) (rest : List (AddOp × Expr)) → kind_copied es (kind.Sum a rest) ≡ kind.Sum (copied es a) (map (λ t. (t.0, copied es t.1)) rest)
  of_sum a rest = rolled (ExprKind-F.Sum a rest) (sym (kind.rolls-Sum a rest))

  pub of_list : (call : ListCall) (items : List Expr) → kind_copied es (kind.List call items) ≡ kind.List call (map (copied es) items)
  of_list call items = rolled (ExprKind-F.List call items) (sym (kind.rolls-List call items))

  pub of_record : (pairs : List (Text × Expr)) → kind_copied es (kind.Record pairs) ≡ kind.Record (map (λ p. (p.0, copied es p.1)) pairs)
  of_record pairs = rolled (ExprKind-F.Record pairs) (sym (kind.rolls-Record pairs))

-- ---- the copy of a kind, from the newest copies

-- what is held for a kind is held for its parts
held_for : (es : SlotEntities) {k : ExprKind} (x : ExprKind-F ExprKind Expr) (old rest : List Expr) → k ≡ roll-ExprKind x → HoldsCopies es (kind_parts k) old rest → old ≡ map (copied es) (form_parts x) ++ rest
held_for es x old rest is holds = holds ∙ ap (λ ps. map (copied es) ps ++ rest) (ap kind_parts is ∙ ap form_parts (out-roll-ExprKind x))

pub of_ok : {A E : Type 0} {P Q : A → Type 0} (r : Result A E) → ((a : A) → P a → Q a) → IfOk r P → IfOk r Q
of_ok (Ok a) f p = f a p
of_ok (Err e) f p = p

pub val_copied : (es : SlotEntities) (k copy : ExprKind) (l : Literal) → k ≡ kind.Val l → copy ≡ kind.Val l → copy ≡ kind_copied es k
val_copied es k copy l is own = own ∙ sym (ap (kind_copied es) is ∙ of_val es l)

pub var_copied : (es : SlotEntities) (k copy : ExprKind) (x : Var) → k ≡ kind.Var x → copy ≡ kind.Var x → copy ≡ kind_copied es k
var_copied es k copy x is own = own ∙ sym (ap (kind_copied es) is ∙ of_var es x)

pub slot_copied : (es : SlotEntities) (k copy : ExprKind) (s : SlotId) → k ≡ kind.Slot s → copy ≡ slot_copy (entity_for es s) s → copy ≡ kind_copied es k
slot_copied es k copy s is own = own ∙ sym (ap (kind_copied es) is ∙ of_slot es s)

pub ite_copied : (es : SlotEntities) (k : ExprKind) (p q : Expr × Expr × Expr) (old new rest : List Expr) → k ≡ kind.Ite p → HoldsCopies es (kind_parts k) old rest → old ≡ q.0 ∷ q.1 ∷ q.2 ∷ new → (kind.Ite q ≡ kind_copied es k) × (new ≡ rest)
ite_copied es k p q old new rest is holds taken =
    let same : q.0 ∷ q.1 ∷ q.2 ∷ new ≡ copied es p.0 ∷ copied es p.1 ∷ copied es p.2 ∷ rest = sym taken ∙ held_for es (ExprKind-F.Ite p) old rest (is ∙ sym (kind.rolls-Ite p)) holds in
    let first : q.0 ≡ copied es p.0 = cc same in
    let second : q.1 ≡ copied es p.1 = cc same in
    let third : q.2 ≡ copied es p.2 = cc same in
    ((λ i. kind.Ite (first i, second i, third i)) ∙ sym (ap (kind_copied es) is ∙ of_ite es p), cc same)

pub unary_copied : (es : SlotEntities) (k : ExprKind) (call : UnaryCall) (a b : Expr) (old new rest : List Expr) → k ≡ kind.Unary call a → HoldsCopies es (kind_parts k) old rest → old ≡ b ∷ new → (kind.Unary call b ≡ kind_copied es k) × (new ≡ rest)
unary_copied es k call a b old new rest is holds taken =
    let same : b ∷ new ≡ copied es a ∷ rest = sym taken ∙ held_for es (ExprKind-F.Unary call a) old rest (is ∙ sym (kind.rolls-Unary call a)) holds in
    let first : b ≡ copied es a = cc same in
    (ap (kind.Unary call) first ∙ sym (ap (kind_copied es) is ∙ of_unary es call a), cc same)

pub binary_copied : (es : SlotEntities) (k : ExprKind) (call : BinaryCall) (p q : Expr × Expr) (old new rest : List Expr) → k ≡ kind.Binary call p → HoldsCopies es (kind_parts k) old rest → old ≡ q.0 ∷ q.1 ∷ new → (kind.Binary call q ≡ kind_copied es k) × (new ≡ rest)
binary_copied es k call p q old new rest is holds taken =
    let same : q.0 ∷ q.1 ∷ new ≡ copied es p.0 ∷ copied es p.1 ∷ rest = sym taken ∙ held_for es (ExprKind-F.Binary call p) old rest (is ∙ sym (kind.rolls-Binary call p)) holds in
    let first : q.0 ≡ copied es p.0 = cc same in
    let second : q.1 ≡ copied es p.1 = cc same in
    ((λ i. kind.Binary call (first i, second i)) ∙ sym (ap (kind_copied es) is ∙ of_binary es call p), cc same)

pub nary_copied : (es : SlotEntities) (k : ExprKind) (op : NaryOp) (a b : Expr) (xs ys old mid new rest : List Expr) → k ≡ kind.Nary op a xs → HoldsCopies es (kind_parts k) old rest → old ≡ b ∷ mid → mid ≡ ys ++ new → length ys ≡ length xs → (kind.Nary op b ys ≡ kind_copied es k) × (new ≡ rest)
nary_copied es k op a b xs ys old mid new rest is holds taken more long =
    let same : b ∷ mid ≡ copied es a ∷ (map (copied es) xs ++ rest) = sym taken ∙ held_for es (ExprKind-F.Nary op a xs) old rest (is ∙ sym (kind.rolls-Nary op a xs)) holds in
    let first : b ≡ copied es a = cc same in
    let behind : mid ≡ map (copied es) xs ++ rest = cc same in
    let cut = same_cut ys new (map (copied es) xs) rest (sym more ∙ behind) (long ∙ sym (map_long (copied es) xs)) in
    ((λ i. kind.Nary op (first i) (cut.0 i)) ∙ sym (ap (kind_copied es) is ∙ of_nary es op a xs), cut.1)

pub list_copied : (es : SlotEntities) (k : ExprKind) (call : ListCall) (xs ys old new rest : List Expr) → k ≡ kind.List call xs → HoldsCopies es (kind_parts k) old rest → old ≡ ys ++ new → length ys ≡ length xs → (kind.List call ys ≡ kind_copied es k) × (new ≡ rest)
list_copied es k call xs ys old new rest is holds more long =
    let behind : old ≡ map (copied es) xs ++ rest = held_for es (ExprKind-F.List call xs) old rest (is ∙ sym (kind.rolls-List call xs)) holds in
    let cut = same_cut ys new (map (copied es) xs) rest (sym more ∙ behind) (long ∙ sym (map_long (copied es) xs)) in
    (ap (kind.List call) cut.0 ∙ sym (ap (kind_copied es) is ∙ of_list es call xs), cut.1)

-- lists of pairs with the same left sides are as long
as_long : {A B C : Type 0} (xs : List (A × B)) (ys : List (A × C)) → map (λ x. x.0) xs ≡ map (λ y. y.0) ys → length (map (λ x. x.1) xs) ≡ length (map (λ y. y.1) ys)
as_long xs ys same = map_long (λ x. x.1) xs ∙ sym (map_long (λ x. x.0) xs) ∙ ap length same ∙ map_long (λ y. y.0) ys ∙ sym (map_long (λ y. y.1) ys)

-- pairs whose left sides are kept, and whose right sides are the copies
pairs_cut : {A : Type 0} (es : SlotEntities) (xs ys : List (A × Expr)) (old new rest : List Expr) → old ≡ map (copied es) (map (λ x. x.1) xs) ++ rest → old ≡ map (λ y. y.1) ys ++ new → map (λ y. y.0) ys ≡ map (λ x. x.0) xs → (ys ≡ map (λ x. (x.0, copied es x.1)) xs) × (new ≡ rest)
pairs_cut es xs ys old new rest holds more same =
    let cut = same_cut (map (λ y. y.1) ys) new (map (copied es) (map (λ x. x.1) xs)) rest (sym more ∙ holds) (as_long ys xs same ∙ sym (map_long (copied es) (map (λ x. x.1) xs))) in
    (by_sides (copied es) ys xs same cut.0, cut.1)

pub sum_copied : (es : SlotEntities) (k : ExprKind) (a b : Expr) (xs ys : List (AddOp × Expr)) (old mid new rest : List Expr) → k ≡ kind.Sum a xs → HoldsCopies es (kind_parts k) old rest → old ≡ b ∷ mid → mid ≡ map (λ y. y.1) ys ++ new → map (λ y. y.0) ys ≡ map (λ x. x.0) xs → (kind.Sum b ys ≡ kind_copied es k) × (new ≡ rest)
sum_copied es k a b xs ys old mid new rest is holds taken more ops =
    let same : b ∷ mid ≡ copied es a ∷ (map (copied es) (map (λ x. x.1) xs) ++ rest) = sym taken ∙ held_for es (ExprKind-F.Sum a xs) old rest (is ∙ sym (kind.rolls-Sum a xs)) holds in
    let first : b ≡ copied es a = cc same in
    let behind : mid ≡ map (copied es) (map (λ x. x.1) xs) ++ rest = cc same in
    let cut = pairs_cut es xs ys mid new rest behind more ops in
    ((λ i. kind.Sum (first i) (cut.0 i)) ∙ sym (ap (kind_copied es) is ∙ of_sum es a xs), cut.1)

pub record_copied : (es : SlotEntities) (k : ExprKind) (xs ys : List (Text × Expr)) (old new rest : List Expr) → k ≡ kind.Record xs → HoldsCopies es (kind_parts k) old rest → old ≡ map (λ y. y.1) ys ++ new → map (λ y. y.0) ys ≡ map (λ x. x.0) xs → (kind.Record ys ≡ kind_copied es k) × (new ≡ rest)
record_copied es k xs ys old new rest is holds more keys =
    let behind : old ≡ map (copied es) (map (λ x. x.1) xs) ++ rest = held_for es (ExprKind-F.Record xs) old rest (is ∙ sym (kind.rolls-Record xs)) holds in
    let cut = pairs_cut es xs ys old new rest behind more keys in
    (ap kind.Record cut.0 ∙ sym (ap (kind_copied es) is ∙ of_record es xs), cut.1)

-- ---- the expressions whose copies are held, as all are listed from the end

abbrev onward : List Expr → List Expr
onward [] = []
onward (e ∷ ws) = parts e ++ ws

-- of all expressions in some, those that stand in no other behind the first `n`
abbrev pub walk : ℕ → List Expr → List Expr
walk zero ws = ws
walk (suc n) ws = onward (walk n ws)

all_in : List Expr → List Expr
all_in = flat_map subexpressions

listed_of : (e : Expr) (ws : List Expr) → flat_map subexpressions (e ∷ ws) ≡ e ∷ flat_map subexpressions (parts e ++ ws)
listed_of e ws =
    ap (λ s. s ++ flat_map subexpressions ws) (subexpressions_at e)
    ∙ ap (λ ys. e ∷ ys) (sym (flat_map-append subexpressions (parts e) ws))

behind_first : (ws : List Expr) → drop 1 (flat_map subexpressions ws) ≡ flat_map subexpressions (onward ws)
behind_first [] = refl
behind_first (e ∷ ws) = ap (drop 1) (listed_of e ws)

drop_more : {A : Type 0} (n : ℕ) (xs : List A) → drop (suc n) xs ≡ drop 1 (drop n xs)
drop_more zero xs = refl
drop_more (suc n) [] = refl
drop_more (suc n) (x ∷ xs) = drop_more n xs

walked : (n : ℕ) (ws : List Expr) → drop n (flat_map subexpressions ws) ≡ flat_map subexpressions (walk n ws)
walked zero ws = refl
walked (suc n) ws = drop_more n (flat_map subexpressions ws) ∙ ap (drop 1) (walked n ws) ∙ behind_first (walk n ws)

no_more : (ws : List Expr) → flat_map subexpressions ws ≡ [] → ws ≡ []
no_more [] none = refl
no_more (e ∷ ws) none = absurd (cc (sym (listed_of e ws), none))

drop_all : {A : Type 0} (xs : List A) → drop (length xs) xs ≡ []
drop_all [] = refl
drop_all (x ∷ xs) = drop_all xs

begins_with : (ws : List Expr) (e : Expr) (more : List Expr) → flat_map subexpressions ws ≡ e ∷ more → (rest : List Expr) × (ws ≡ e ∷ rest)
begins_with [] e more is = absurd (cc is)
begins_with (x ∷ ws) e more is = (ws, (let same : x ≡ e = cc (sym (listed_of x ws), is) in λ i. same i ∷ ws))

-- of all, the one at `n` is the first of those that stand in no other behind it
pub next_at : (root : Expr) (all : List Expr) (n : ℕ) → all ≡ subexpressions root → n < length all → (d : Expr) → (rest : List Expr) × (walk n (root ∷ []) ≡ get_or all n d ∷ rest)
next_at root all n is under d =
    let whole : drop n (flat_map subexpressions (root ∷ [])) ≡ get_or all n d ∷ drop (suc n) all =
    ap (drop n) (append-nil (subexpressions root) ∙ sym is) ∙ drop-cons all n d under in
    begins_with (walk n (root ∷ [])) (get_or all n d) (drop (suc n) all) (sym (walked n (root ∷ [])) ∙ whole)

pub at_turn : (root : Expr) (items : List (Bor Expr)) (n : ℕ) (node : Bor Expr) → map (λ e. e.now) items ≡ subexpressions root → n < length items → node ≡ get_or items n node → (rest : List Expr) × (walk n (root ∷ []) ≡ node.now ∷ rest)
at_turn root items n node is under own =
    let under_all : n < length (map (λ (e : Bor Expr). e.now) items) = omega (arith, under, map_long (λ (e : Bor Expr). e.now) items) in
    let t = next_at root (map (λ e. e.now) items) n is under_all node.now in
    (t.0, t.1 ∙ ap (λ e. e ∷ t.0) (get_or-map (λ (e : Bor Expr). e.now) items n node ∙ sym (ap (λ (e : Bor Expr). e.now) own)))

-- behind all there is none
pub none_behind : (root : Expr) (all : List Expr) → all ≡ subexpressions root → walk (length all) (root ∷ []) ≡ []
none_behind root all is =
    no_more (walk (length all) (root ∷ [])) (sym (walked (length all) (root ∷ [])) ∙ ap (drop (length all)) (append-nil (subexpressions root) ∙ sym is) ∙ drop_all all)

-- ---- the loop

pub begun : (es : SlotEntities) (root : Expr) (all : List Expr) (n : ℕ) (copies : List Expr) → all ≡ subexpressions root → n ≡ length all → copies ≡ [] → copies ≡ map (copied es) (walk n (root ∷ []))
begun es root all n copies is long none = none ∙ sym (ap (λ m. map (copied es) (walk m (root ∷ []))) long ∙ ap (map (copied es)) (none_behind root all is))

-- what is held before a node is copied: the copies of its parts, before others
pub held : (es : SlotEntities) (root node : Expr) (n : ℕ) (rest copies : List Expr) → walk n (root ∷ []) ≡ node ∷ rest → copies ≡ map (copied es) (walk (suc n) (root ∷ [])) → HoldsCopies es (kind_parts node.kind) copies (map (copied es) rest)
held es root node n rest copies next before =
    before ∙ ap (λ ws. map (copied es) (onward ws)) next ∙ map-append (copied es) (parts node) rest

pub enough : (es : SlotEntities) (needed copies rest : List Expr) → HoldsCopies es needed copies rest → length needed ≤ length copies
enough es needed copies rest holds =
    let long : length copies ≡ length needed + length rest =
    ap length holds ∙ length-append (map (copied es) needed) rest ∙ ap (λ n. n + length rest) (map_long (copied es) needed) in
    omega (arith, long)

-- what is held once it is
pub turned : (es : SlotEntities) (root node : Expr) (n : ℕ) (rest copies : List Expr) → walk n (root ∷ []) ≡ node ∷ rest → copies ≡ copied es node ∷ map (copied es) rest → copies ≡ map (copied es) (walk n (root ∷ []))
turned es root node n rest copies next after = after ∙ ap (map (copied es)) (sym next)

-- what is held at the end
pub ended : (es : SlotEntities) (root : Expr) (n : ℕ) (copies : List Expr) → n ≡ 0 → copies ≡ map (copied es) (walk n (root ∷ [])) → copies ≡ copied es root ∷ []
ended es root n copies none held = held ∙ ap (λ m. map (copied es) (walk m (root ∷ []))) none

-- ---- a node

pub node_copied : (es : SlotEntities) (e node : Expr) (k : ExprKind) (place : Option Place) → node ≡ record { kind = k; place = record { place = place } } → place ≡ e.place.place → k ≡ kind_copied es e.kind → node ≡ copied es e
node_copied es e node k place is here own = is ∙ (λ i. record { kind = own i; place = record { place = here i } }) ∙ sym (of_expr es e)
