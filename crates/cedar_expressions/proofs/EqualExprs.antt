-- Two expressions are equal by `==` exactly if their values are.
use Rattle.std.proofs.Common.{◌≡◌, ℕ, Bool, true, false, ◌&&◌, Decides, List, [], ◌∷◌, map, inl, inr, refl, sym, ap, ◌∙◌, subst, true≢false}
use Rattle.std.specs.Cmp.{first_so}
use Rattle.std.specs.Cmp.Lexicographic.{pointwise}
use denote.Enum.Bare.{sameb}
use denote.Enum.Compared.{Each, by}
use denote.Enum.Declared.{Choice}
use Rattle.cedar_expressions.proofs.Deciding.{both, through, bare, place, Against, against}
use Rattle.cedar_expressions.proofs.EqualParts.{text_eq, text, literals, unary_calls, binary_calls, list_calls}
use Rattle.cedar_expressions.proofs.Opened.{free_call, free_expr, same_layer}
use Rattle.cedar_expressions.specs.declared.operators.AddOp.{AddOp}
use Rattle.cedar_expressions.specs.declared.atoms.Literal.{Literal}
use Rattle.cedar_expressions.specs.declared.atoms.Var.{Var}
use Rattle.cedar_expressions.specs.declared.atoms.SlotId.{SlotId}
use Rattle.cedar_expressions.specs.declared.expr.UnaryCall.{UnaryCall}
use Rattle.cedar_expressions.specs.declared.expr.BinaryCall.{BinaryCall}
use Rattle.cedar_expressions.specs.declared.expr.NaryOp.{NaryOp}
use Rattle.cedar_expressions.specs.declared.expr.ListCall.{ListCall}
use Rattle.cedar_expressions.specs.declared.expr.Expr.{Expr}
use Rattle.cedar_expressions.specs.declared.expr.ExprKind.{ExprKind}
use Rattle.cedar_expressions.specs.declared.expr.ExprKind.TheBlock.{the_family, join-ExprKind, split-ExprKind, join-split-ExprKind}
use Rattle.cedar_expressions.specs.declared.expr.ExprKind.TheOpen.{ExprKind-F, Expr-F}
use Rattle.cedar_expressions.specs.declared.expr.ExprKind.TheViews.{out-ExprKind, roll-ExprKind, out-roll-ExprKind, roll-Expr}
use Rattle.cedar_expressions.specs.declared.expr.ExprKind.TheFolds.{map-ExprKind, map-Expr, fold-Expr, fold-ExprKind, fold_out-Expr, fold_out-ExprKind, ind-Expr}
use Rattle.cedar_expressions.specs.contracts.expr.ExprKind.{the_parts, as_values}
use Rattle.cedar_expressions.specs.contracts.expr.ExprPartialEq.TheImpl as expr_eq
use Rattle.cedar_expressions.specs.contracts.expr.ExprPartialEq.TheImpl.Laws as expr_laws
use Rattle.cedar_expressions.specs.contracts.expr.ExprKindPartialEq.TheImpl as kind_eq
use Rattle.cedar_expressions.specs.contracts.expr.ExprKindPartialEq.TheImpl.Laws as kind_laws
use Rattle.cedar_expressions.specs.contracts.expr.UnaryCallPartialEq.TheImpl as unary_eq
use Rattle.cedar_expressions.specs.contracts.expr.BinaryCallPartialEq.TheImpl as binary_eq
use Rattle.cedar_expressions.specs.contracts.expr.ListCallPartialEq.TheImpl as list_eq
use Rattle.cedar_expressions.specs.contracts.atoms.LiteralPartialEq.TheImpl as literal_eq
use Rattle.cedar_expressions.specs.contracts.atoms.Var as var
use Rattle.cedar_expressions.specs.contracts.atoms.SlotId as slot
use Rattle.cedar_expressions.specs.contracts.expr.NaryOp as nary
use Rattle.cedar_expressions.specs.contracts.operators.AddOp as add
use Rattle.cedar_expressions.specs.Meaning.{unplaced}
use Rattle.cedar_expressions.proofs.PlacesAside.{unplaced_is}
use Rattle.cedar_expressions.specs.Value.{Value}

abbrev equal : Expr → Expr → Bool
equal = expr_eq.ghosts.eq

abbrev value_of_kind : ExprKind → Value
value_of_kind = fold-ExprKind Value Value free_call free_expr

abbrev value_of : Expr → Value
value_of = fold-Expr Value Value free_call free_expr

-- the comparison of the lists' items, and that at each variant
abbrev term_eq : AddOp × Expr → AddOp × Expr → Bool
term_eq s t = sameb add.the_type s.0 t.0 && equal s.1 t.1

abbrev pair_eq : List ℕ × Expr → List ℕ × Expr → Bool
pair_eq s t = text_eq s.0 t.0 && equal s.1 t.1

abbrev each : Each Bool the_parts
each = (
  λ a b. literal_eq.ghosts.eq a.0 b.0,
  (
    λ a b. sameb var.the_type a.0 b.0,
    (
      λ a b. sameb slot.the_type a.0 b.0,
      (
        λ a b. (equal a.0.0 b.0.0 && equal a.0.1 b.0.1) && equal a.0.2 b.0.2,
        (
          λ a b. unary_eq.ghosts.eq a.0 b.0 && equal a.1.0 b.1.0,
          (
            λ a b. binary_eq.ghosts.eq a.0 b.0 && (equal a.1.0.0 b.1.0.0 && equal a.1.0.1 b.1.0.1),
            (
              λ a b. sameb nary.the_type a.0 b.0 && (equal a.1.0 b.1.0 && pointwise equal a.1.1.0 b.1.1.0),
              (
                λ a b. equal a.0 b.0 && pointwise term_eq a.1.0 b.1.0,
                (
                  λ a b. list_eq.ghosts.eq a.0 b.0 && pointwise equal a.1.0 b.1.0,
                  (λ a b. pointwise pair_eq a.0 b.0, tt),
                ),
              ),
            ),
          ),
        ),
      ),
    ),
  ),
)

kind_is : (k l : ExprKind) → kind_eq.ghosts.eq k l ≡ by false false the_parts each (as_values k) (as_values l)
kind_is = kind_laws.is

expr_is : (x y : Expr) → equal x y ≡ (kind_eq.ghosts.eq x.kind y.kind && true)
expr_is = expr_laws.is

-- what a node shows of itself and of its parts' values
abbrev Layer : Type 0
Layer = ExprKind-F Value Value

abbrev shown : Choice the_parts → Layer
shown c = map-ExprKind ExprKind Expr Value Value value_of_kind value_of (join-ExprKind the_family c)

shows : (k : ExprKind) → value_of_kind k ≡ free_call (shown (as_values k))
shows k =
    fold_out-ExprKind Value Value free_call free_expr k
    ∙ ap (λ z. free_call (map-ExprKind ExprKind Expr Value Value value_of_kind value_of z)) (sym (join-split-ExprKind the_family (out-ExprKind k)))

abbrev number : Layer → ℕ
number (ExprKind-F.Val l) = 0
number (ExprKind-F.Var x) = 1
number (ExprKind-F.Slot s) = 2
number (ExprKind-F.Ite parts) = 3
number (ExprKind-F.Unary call a) = 4
number (ExprKind-F.Binary call parts) = 5
number (ExprKind-F.Nary op a rest) = 6
number (ExprKind-F.Sum a rest) = 7
number (ExprKind-F.List call items) = 8
number (ExprKind-F.Record pairs) = 9

numbered : (c : Choice the_parts) → number (shown c) ≡ place the_parts c
numbered (inl v) = refl
numbered (inr (inl v)) = refl
numbered (inr (inr (inl v))) = refl
numbered (inr (inr (inr (inl v)))) = refl
numbered (inr (inr (inr (inr (inl v))))) = refl
numbered (inr (inr (inr (inr (inr (inl v)))))) = refl
numbered (inr (inr (inr (inr (inr (inr (inl v))))))) = refl
numbered (inr (inr (inr (inr (inr (inr (inr (inl v)))))))) = refl
numbered (inr (inr (inr (inr (inr (inr (inr (inr (inl v))))))))) = refl
numbered (inr (inr (inr (inr (inr (inr (inr (inr (inr (inl v)))))))))) = refl
numbered (inr (inr (inr (inr (inr (inr (inr (inr (inr (inr z)))))))))) = absurd z

apart : (c d : Choice the_parts) → shown c ≡ shown d → place the_parts c ≡ place the_parts d
apart c d e = sym (numbered c) ∙ ap number e ∙ numbered d

-- a kind or an expression that was compared with each other one
abbrev KindHolds : ExprKind → Type 0
KindHolds k = (l : ExprKind) → Decides (kind_eq.ghosts.eq k l) (value_of_kind k ≡ value_of_kind l)

abbrev Holds : Expr → Type 0
Holds x = (y : Expr) → Decides (equal x y) (value_of x ≡ value_of y)

abbrev KnownKind : Type 0
KnownKind = (k : ExprKind) × KindHolds k

abbrev Known : Type 0
Known = (x : Expr) × Holds x

module _ {A K W : Type 0} (f : K → A) (u : A → W) (R : A → A → Bool) (d : (p : K) (b : A) → Decides (R (f p) b) (u (f p) ≡ u b)) where
  rows : (xs : List K) (ys : List A) → Decides (pointwise R (map f xs) ys) (map u (map f xs) ≡ map u ys)
  rows [] [] = (λ h. refl, λ e. refl)
  rows [] (y ∷ ys) = (λ h. absurd (true≢false (sym h)), λ e. cc)
  rows (x ∷ xs) [] = (λ h. absurd (true≢false (sym h)), λ e. cc)
  rows (x ∷ xs) (y ∷ ys) = through (λ e i. e.0 i ∷ e.1 i) (λ e. (cc, cc)) (both (R (f x) y) (pointwise R (map f xs) ys) (d x y) (rows xs ys))

abbrev first : Known → Expr
first p = p.0

items : (xs : List Known) (ys : List Expr) → Decides (pointwise equal (map first xs) ys) (map value_of (map first xs) ≡ map value_of ys)
items = rows first value_of equal (λ p b. p.1 b)

abbrev known_term : AddOp × Known → AddOp × Expr
known_term t = (t.0, t.1.0)

abbrev term_value : AddOp × Expr → AddOp × Value
term_value t = (t.0, value_of t.1)

terms : (xs : List (AddOp × Known)) (ys : List (AddOp × Expr)) → Decides (pointwise term_eq (map known_term xs) ys) (map term_value (map known_term xs) ≡ map term_value ys)
terms = rows known_term term_value term_eq (λ p b.
    through (λ e i. (e.0 i, e.1 i)) (λ e. (λ i. (e i).0, λ i. (e i).1)) (both (sameb add.the_type p.0 b.0) (equal p.1.0 b.1) (bare add.the_type tt p.0 b.0) (p.1.1 b.1)))

abbrev known_pair : List ℕ × Known → List ℕ × Expr
known_pair t = (t.0, t.1.0)

abbrev pair_value : List ℕ × Expr → List ℕ × Value
pair_value t = (t.0, value_of t.1)

pairs : (xs : List (List ℕ × Known)) (ys : List (List ℕ × Expr)) → Decides (pointwise pair_eq (map known_pair xs) ys) (map pair_value (map known_pair xs) ≡ map pair_value ys)
pairs = rows known_pair pair_value pair_eq (λ p b.
    through (λ e i. (e.0 i, e.1 i)) (λ e. (λ i. (e i).0, λ i. (e i).1)) (both (text_eq p.0 b.0) (equal p.1.0 b.1) (text p.0 b.0) (p.1.1 b.1)))

-- equal nodes have equal parts
abbrev Same : Layer → Layer → Type 0
Same x y = x ≡ y

of_val : (a b : Literal) → Same (ExprKind-F.Val a) (ExprKind-F.Val b) → a ≡ b
of_val a b e = cc

of_var : (a b : Var) → Same (ExprKind-F.Var a) (ExprKind-F.Var b) → a ≡ b
of_var a b e = cc

of_slot : (a b : SlotId) → Same (ExprKind-F.Slot a) (ExprKind-F.Slot b) → a ≡ b
of_slot a b e = cc

of_ite : (a b : Value × Value × Value) → Same (ExprKind-F.Ite a) (ExprKind-F.Ite b) → a ≡ b
of_ite a b e = cc

of_unary : (c d : UnaryCall) (a b : Value) → Same (ExprKind-F.Unary c a) (ExprKind-F.Unary d b) → (c ≡ d) × (a ≡ b)
of_unary c d a b e = (cc, cc)

of_binary : (c d : BinaryCall) (a b : Value × Value) → Same (ExprKind-F.Binary c a) (ExprKind-F.Binary d b) → (c ≡ d) × (a ≡ b)
of_binary c d a b e = (cc, cc)

of_nary : (c d : NaryOp) (a b : Value) (xs ys : List Value) → Same (ExprKind-F.Nary c a xs) (ExprKind-F.Nary d b ys) → (c ≡ d) × ((a ≡ b) × (xs ≡ ys))
of_nary c d a b xs ys e = (cc, (cc, cc))

of_sum : (a b : Value) (xs ys : List (AddOp × Value)) → Same (ExprKind-F.Sum a xs) (ExprKind-F.Sum b ys) → (a ≡ b) × (xs ≡ ys)
of_sum a b xs ys e = (cc, cc)

of_list : (c d : ListCall) (xs ys : List Value) → Same (ExprKind-F.List c xs) (ExprKind-F.List d ys) → (c ≡ d) × (xs ≡ ys)
of_list c d xs ys e = (cc, cc)

of_record : (xs ys : List (List ℕ × Value)) → Same (ExprKind-F.Record xs) (ExprKind-F.Record ys) → xs ≡ ys
of_record xs ys e = cc

-- a node whose parts were compared, against each node of its variant
sides : (y : ExprKind-F KnownKind Known) → Against the_parts each shown (split-ExprKind the_family (map-ExprKind KnownKind Known ExprKind Expr (λ p. p.0) (λ p. p.0) y))
sides (ExprKind-F.Val l) = λ m. through (ap ExprKind-F.Val) (of_val l m.0) (literals l m.0)
sides (ExprKind-F.Var x) = λ m. through (ap ExprKind-F.Var) (of_var x m.0) (bare var.the_type tt x m.0)
sides (ExprKind-F.Slot s) = λ m. through (ap ExprKind-F.Slot) (of_slot s m.0) (bare slot.the_type tt s m.0)
sides (ExprKind-F.Ite p) = λ m.
    through
    (λ e i. ExprKind-F.Ite (e.0.0 i, e.0.1 i, e.1 i))
    (λ e. let parts = of_ite (value_of p.0.0, value_of p.1.0, value_of p.2.0) (value_of m.0.0, value_of m.0.1, value_of m.0.2) e in ((λ i. (parts i).0, λ i. (parts i).1), λ i. (parts i).2))
    (both (equal p.0.0 m.0.0 && equal p.1.0 m.0.1) (equal p.2.0 m.0.2) (both (equal p.0.0 m.0.0) (equal p.1.0 m.0.1) (p.0.1 m.0.0) (p.1.1 m.0.1)) (p.2.1 m.0.2))
sides (ExprKind-F.Unary call a) = λ m.
    through
    (λ e i. ExprKind-F.Unary (e.0 i) (e.1 i))
    (of_unary call m.0 (value_of a.0) (value_of m.1.0))
    (both (unary_eq.ghosts.eq call m.0) (equal a.0 m.1.0) (unary_calls call m.0) (a.1 m.1.0))
sides (ExprKind-F.Binary call p) = λ m.
    through
    (λ e i. ExprKind-F.Binary (e.0 i) (e.1.0 i, e.1.1 i))
    (λ e. let parts = of_binary call m.0 (value_of p.0.0, value_of p.1.0) (value_of m.1.0.0, value_of m.1.0.1) e in (parts.0, (λ i. (parts.1 i).0, λ i. (parts.1 i).1)))
    (both (binary_eq.ghosts.eq call m.0) (equal p.0.0 m.1.0.0 && equal p.1.0 m.1.0.1) (binary_calls call m.0) (both (equal p.0.0 m.1.0.0) (equal p.1.0 m.1.0.1) (p.0.1 m.1.0.0) (p.1.1 m.1.0.1)))
sides (ExprKind-F.Nary op a rest) = λ m.
    through
    (λ e i. ExprKind-F.Nary (e.0 i) (e.1.0 i) (e.1.1 i))
    (of_nary op m.0 (value_of a.0) (value_of m.1.0) (map value_of (map first rest)) (map value_of m.1.1.0))
    (both (sameb nary.the_type op m.0) (equal a.0 m.1.0 && pointwise equal (map first rest) m.1.1.0) (bare nary.the_type tt op m.0) (both (equal a.0 m.1.0) (pointwise equal (map first rest) m.1.1.0) (a.1 m.1.0) (items rest m.1.1.0)))
sides (ExprKind-F.Sum a rest) = λ m.
    through
    (λ e i. ExprKind-F.Sum (e.0 i) (e.1 i))
    (of_sum (value_of a.0) (value_of m.0) (map term_value (map known_term rest)) (map term_value m.1.0))
    (both (equal a.0 m.0) (pointwise term_eq (map known_term rest) m.1.0) (a.1 m.0) (terms rest m.1.0))
sides (ExprKind-F.List call xs) = λ m.
    through
    (λ e i. ExprKind-F.List (e.0 i) (e.1 i))
    (of_list call m.0 (map value_of (map first xs)) (map value_of m.1.0))
    (both (list_eq.ghosts.eq call m.0) (pointwise equal (map first xs) m.1.0) (list_calls call m.0) (items xs m.1.0))
sides (ExprKind-F.Record xs) = λ m.
    through
    (ap ExprKind-F.Record)
    (of_record (map pair_value (map known_pair xs)) (map pair_value m.0))
    (pairs xs m.0)

settle : {r s : Bool} {a b : Layer} {p q : Value} → r ≡ s → Decides s (a ≡ b) → p ≡ free_call a → q ≡ free_call b → Decides r (p ≡ q)
settle {a} {b} rs d pa qb = (λ h. pa ∙ ap free_call (d.0 (sym rs ∙ h)) ∙ sym qb, λ e. rs ∙ d.1 (same_layer a b (sym pa ∙ e ∙ qb)))

kind_step : (x : ExprKind-F ExprKind Expr) (y : ExprKind-F KnownKind Known) → map-ExprKind KnownKind Known ExprKind Expr (λ p. p.0) (λ p. p.0) y ≡ x → KindHolds (roll-ExprKind x)
kind_step x y is l =
    let at = subst (λ z. Against the_parts each shown (split-ExprKind the_family z)) is (sides y) in
    settle
    (kind_is (roll-ExprKind x) l ∙ ap (λ z. by false false the_parts each (split-ExprKind the_family z) (as_values l)) (out-roll-ExprKind x))
    (against the_parts each shown apart (split-ExprKind the_family x) at (as_values l))
    (shows (roll-ExprKind x) ∙ ap (λ z. free_call (shown (split-ExprKind the_family z))) (out-roll-ExprKind x))
    (shows l)

value_is : (x : Expr) → value_of x ≡ value_of_kind x.kind
value_is = fold_out-Expr Value Value free_call free_expr

expr_step : (x : Expr-F ExprKind Expr) (y : Expr-F KnownKind Known) → map-Expr KnownKind Known ExprKind Expr (λ p. p.0) (λ p. p.0) y ≡ x → Holds (roll-Expr x)
expr_step x y is f =
    let at = subst (λ (z : Expr-F ExprKind Expr). KindHolds z.kind) is y.kind.1 f.kind in
    let same = expr_is (roll-Expr x) f in (
      λ h. value_is (roll-Expr x) ∙ at.0 (first_so (kind_eq.ghosts.eq x.kind f.kind) true (sym same ∙ h)) ∙ sym (value_is f),
      λ e. same ∙ ap (λ b. b && true) (at.1 (sym (value_is (roll-Expr x)) ∙ e ∙ value_is f)),
    )

settled : (x y : Expr) → Decides (equal x y) (value_of x ≡ value_of y)
settled = ind-Expr KindHolds Holds kind_step expr_step

pub equal_exprs : (x y : Expr) → Decides (equal x y) (unplaced x ≡ unplaced y)
equal_exprs x y =
    let d = settled x y in (
      λ h. unplaced_is x ∙ d.0 h ∙ sym (unplaced_is y),
      λ e. d.1 (sym (unplaced_is x) ∙ e ∙ unplaced_is y),
    )
