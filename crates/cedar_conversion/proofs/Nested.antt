-- The expressions that are nested in a node, of those nested in its parts.
use Rattle.std.proofs.Common.{◌≡◌, ◌⊎◌, inl, inr, List, [], ◌∷◌, ◌++◌, zero, suc, append-nil, map, Option, Some, None, Bool, true, false, if◌then◌else◌, true≢false, refl, sym, ap, ◌∙◌}
use Rattle.std.specs.List.{flat_map}
use Rattle.std.specs.Option.{IsSome}
use Rattle.cedar_syntax.specs.declared.node.Node.{Node}
use Rattle.cedar_syntax.specs.declared.cst.RelOp.{RelOp}
use Rattle.cedar_syntax.specs.declared.cst.NegOp.{NegOp}
use Rattle.cedar_syntax.specs.declared.cst.NegOp.TheVariants as sign
use Rattle.cedar_syntax.specs.declared.cst.Expr.{Expr}
use Rattle.cedar_syntax.specs.declared.cst.ExprData.{ExprData}
use Rattle.cedar_syntax.specs.declared.cst.ExprData.TheVariants as datas
use Rattle.cedar_syntax.specs.declared.cst.Or.{Or, out-Or}
use Rattle.cedar_syntax.specs.declared.cst.And.{And}
use Rattle.cedar_syntax.specs.declared.cst.Relation.{Relation}
use Rattle.cedar_syntax.specs.declared.cst.Relation.TheVariants as relations
use Rattle.cedar_syntax.specs.declared.cst.Add.{Add, out-Add}
use Rattle.cedar_syntax.specs.declared.cst.Mult.{Mult, out-Mult}
use Rattle.cedar_syntax.specs.declared.cst.Unary.{Unary, out-Unary}
use Rattle.cedar_syntax.specs.declared.cst.Member.{Member}
use Rattle.cedar_syntax.specs.declared.cst.MemAccess.{MemAccess}
use Rattle.cedar_syntax.specs.declared.cst.MemAccess.TheVariants as accesses
use Rattle.cedar_syntax.specs.declared.cst.Ident.{Ident}
use Rattle.cedar_syntax.specs.declared.cst.Primary.{Primary}
use Rattle.cedar_syntax.specs.declared.cst.Primary.TheVariants as primaries
use Rattle.cedar_syntax.specs.declared.cst.Literal.{Literal}
use Rattle.cedar_syntax.specs.declared.cst.Name.{Name}
use Rattle.cedar_syntax.specs.declared.cst.Slot.{Slot}
use Rattle.cedar_syntax.specs.declared.cst.Ref.{Ref}
use Rattle.cedar_syntax.specs.declared.cst.RecInit.{RecInit}
use Rattle.cedar_syntax.specs.trees.Forms.{located, parts_of, expr_form, data_form, or_form, and_form, relation_form, add_form, mult_form, unary_form, member_form, primary_form, access_form, init_form, or_operand, and_operand, relation_operand, add_operand, mult_operand, listed_access, listed_expr, listed_init, typed_form}
use Rattle.cedar_syntax.specs.trees.Located as f
use Rattle.cedar_syntax.specs.trees.Located.{Located, Form}
use Rattle.cedar_syntax.specs.trees.Tree.{Operator}
use Rattle.cedar_syntax.proofs.FormLevels.{data_or, data_if, or_out, and_out, relation_common, relation_has, relation_like, relation_typed, add_out, mult_out, unary_out, member_out, primary_literal, primary_ref, primary_name, primary_slot, primary_expr, primary_list, primary_inits, access_field, access_call, access_index, init_out}
use Rattle.cedar_conversion.specs.outcome.LonePart.{lone_part, no_sign}
use Rattle.cedar_conversion.specs.parts.Literals.{number_in, lone_literal}
use Rattle.cedar_conversion.proofs.LoneParts.{through, to_part}
use Rattle.cedar_conversion.specs.machines.Nested.{nested, nested_in, nested_parts, nested_within, listed_nodes, is_counted}

-- ---- nodes and lists

pub none : {X : Type 0} (g : X → Form) (n : Node (Option X)) → n.node ≡ None → nested (located g n) ≡ []
unfolding nested
none g n h = rw h refl

filled : {X : Type 0} (g : X → Form) (n : Node (Option X)) (x : X) (t : Form) → n.node ≡ Some x → g x ≡ t → nested (located g n) ≡ nested_in t
unfolding nested
filled g n x t h k = rw h (ap (λ u. nested_in u) k)

-- a node, opened
pub level : {X : Type 0} (g : X → Form) (n : Node (Option X)) (x : X) → n.node ≡ Some x → nested (located g n) ≡ nested_in (g x)
level g n x h = filled g n x (g x) h refl

parts_flat : {X : Type 0} (g : X → Operator × Located) (xs : List X) → nested_parts (parts_of (map g xs)) ≡ flat_map (λ x. nested (g x).1) xs
unfolding nested_parts
parts_flat g [] = refl
parts_flat g (x ∷ xs) = ap (λ ns. nested (g x).1 ++ ns) (parts_flat g xs)

items_listed : (xs : List (Node (Option Expr))) → listed_nodes (parts_of (map listed_expr xs)) ≡ map (located expr_form) xs
items_listed [] = refl
items_listed (x ∷ xs) = ap (λ ns. located expr_form x ∷ ns) (items_listed xs)

-- a first part and those behind it
chained : {X : Type 0} (ns : List Located) (a : Located) (g : X → Operator × Located) (xs : List X) → ns ≡ nested a ++ nested_parts (parts_of (map g xs)) → ns ≡ nested a ++ flat_map (λ x. nested (g x).1) xs
chained ns a g xs h = h ∙ ap (λ ms. nested a ++ ms) (parts_flat g xs)

-- a level that is one part alone
by_sign : (op : Option NegOp) (n : Located) → nested_in (f.unary op n) ≡ through nested (nested_in (f.unary op n)) (if no_sign op then Some n else None)
unfolding nested_in
by_sign None n = refl
by_sign (Some (sign.Bang zero)) n = refl
by_sign (Some (sign.Bang (suc m))) n = refl
by_sign (Some sign.OverBang) n = refl
by_sign (Some (sign.Dash zero)) n = refl
by_sign (Some (sign.Dash (suc m))) n = refl
by_sign (Some sign.OverDash) n = refl

by_part : (t : Form) → nested_in t ≡ through nested (nested_in t) (lone_part t)
unfolding nested_in nested_parts
by_part (f.only n) = refl
by_part (f.chain level n f.none) = append-nil (nested n)
by_part (f.unary op n) = by_sign op n
by_part (f.member n f.none) = append-nil (nested n)
by_part t = refl

pub part : {X Y : Type 0} (g : X → Form) (h : Y → Form) (n : Node (Option X)) (d : X) (a : Node (Option Y)) → n.node ≡ Some d → Some (located h a) ≡ lone_part (g d) → nested (located g n) ≡ nested (located h a)
part g h n d a k l = to_part nested (nested_in (g d)) _ (lone_part (g d)) (located h a) (level g n d k ∙ by_part (g d)) l

-- ---- expressions

pub or_data : (x : ExprData) (a : Node (Option Or)) → x ≡ datas.Or a → nested_in (data_form x) ≡ nested (located or_form a)
unfolding nested_in
or_data x a h = ap (λ t. nested_in t) (ap data_form h ∙ data_or a)

pub if_data : (x : ExprData) (a b c : Node (Option Expr)) → x ≡ datas.If a b c → nested_in (data_form x) ≡ located expr_form a ∷ located expr_form b ∷ located expr_form c ∷ []
unfolding nested_in
if_data x a b c h = ap (λ t. nested_in t) (ap data_form h ∙ data_if a b c)

-- ---- levels

pub or_level : (d : Or) → nested_in (or_form d) ≡ nested (located and_form (out-Or d).initial) ++ flat_map (λ n. nested (located and_form n)) (out-Or d).extended
unfolding nested_in
or_level d = chained _ (located and_form (out-Or d).initial) or_operand (out-Or d).extended (ap (λ t. nested_in t) (or_out d))

pub and_level : (d : And) → nested_in (and_form d) ≡ nested (located relation_form d.initial) ++ flat_map (λ n. nested (located relation_form n)) d.extended
unfolding nested_in
and_level d = chained _ (located relation_form d.initial) and_operand d.extended (ap (λ t. nested_in t) (and_out d))

pub common : (d : Relation) (a : Node (Option Add)) (xs : List (RelOp × Node (Option Add))) → d ≡ relations.Common a xs
    → nested_in (relation_form d) ≡ nested (located add_form a) ++ flat_map (λ p. nested (located add_form p.1)) xs
unfolding nested_in
common d a xs k = chained _ (located add_form a) relation_operand xs (ap (λ t. nested_in t) (ap relation_form k ∙ relation_common a xs))

-- the first part of a chain
abbrev pub first_in : Form → Located
first_in (f.chain level n others) = n
first_in _ = f.missing None

pub first_is : (d : Relation) (a : Node (Option Add)) (xs : List (RelOp × Node (Option Add))) → d ≡ relations.Common a xs → first_in (relation_form d) ≡ located add_form a
first_is d a xs k = ap first_in (ap relation_form k ∙ relation_common a xs)

pub has : (d : Relation) (a b : Node (Option Add)) → d ≡ relations.Has a b → nested_in (relation_form d) ≡ nested (located add_form a)
unfolding nested_in
has d a b k = ap (λ t. nested_in t) (ap relation_form k ∙ relation_has a b)

pub like : (d : Relation) (a b : Node (Option Add)) → d ≡ relations.Like a b → nested_in (relation_form d) ≡ nested (located add_form a) ++ nested (located add_form b)
unfolding nested_in
like d a b k = ap (λ t. nested_in t) (ap relation_form k ∙ relation_like a b)

typed : (a b : Node (Option Add)) (c : Option (Node (Option Add))) → nested_in (typed_form (located add_form a) (located add_form b) c) ≡ nested (located add_form a) ++ (nested (located add_form b) ++ nested_within c)
unfolding nested_in
typed a b None = ap (λ ns. nested (located add_form a) ++ ns) (sym (append-nil (nested (located add_form b))))
typed a b (Some c) = refl

pub type_test : (d : Relation) (a b : Node (Option Add)) (c : Option (Node (Option Add))) → d ≡ relations.IsIn a b c
    → nested_in (relation_form d) ≡ nested (located add_form a) ++ (nested (located add_form b) ++ nested_within c)
type_test d a b c k = ap (λ t. nested_in t) (ap relation_form k ∙ relation_typed a b c) ∙ typed a b c

pub type_alone : (d : Relation) (a b : Node (Option Add)) (c : Option (Node (Option Add))) → d ≡ relations.IsIn a b c → c ≡ None
    → nested_in (relation_form d) ≡ nested (located add_form a) ++ nested (located add_form b)
type_alone d a b c k none =
    type_test d a b c k ∙ ap (λ o. nested (located add_form a) ++ (nested (located add_form b) ++ nested_within o)) none
    ∙ ap (λ ns. nested (located add_form a) ++ ns) (append-nil (nested (located add_form b)))

pub type_within : (d : Relation) (a b : Node (Option Add)) (c : Option (Node (Option Add))) (w : Node (Option Add)) → d ≡ relations.IsIn a b c → c ≡ Some w
    → nested_in (relation_form d) ≡ nested (located add_form a) ++ (nested (located add_form b) ++ nested (located add_form w))
type_within d a b c w k within =
    type_test d a b c k ∙ ap (λ o. nested (located add_form a) ++ (nested (located add_form b) ++ nested_within o)) within

pub add_level : (d : Add) → nested_in (add_form d) ≡ nested (located mult_form (out-Add d).initial) ++ flat_map (λ p. nested (located mult_form p.1)) (out-Add d).extended
unfolding nested_in
add_level d = chained _ (located mult_form (out-Add d).initial) add_operand (out-Add d).extended (ap (λ t. nested_in t) (add_out d))

pub mult_level : (d : Mult) → nested_in (mult_form d) ≡ nested (located unary_form (out-Mult d).initial) ++ flat_map (λ p. nested (located unary_form p.1)) (out-Mult d).extended
unfolding nested_in
mult_level d = chained _ (located unary_form (out-Mult d).initial) mult_operand (out-Mult d).extended (ap (λ t. nested_in t) (mult_out d))

pub unary_level : (d : Unary) → nested_in (unary_form d) ≡ (if is_counted (out-Unary d).op then nested (located member_form (out-Unary d).item) else [])
unfolding nested_in
unary_level d = ap (λ t. nested_in t) (unary_out d)

pub counted : (d : Unary) → is_counted (out-Unary d).op ≡ true → nested_in (unary_form d) ≡ nested (located member_form (out-Unary d).item)
counted d h = unary_level d ∙ ap (λ b. if b then nested (located member_form (out-Unary d).item) else []) h

pub uncounted : (d : Unary) → is_counted (out-Unary d).op ≡ false → nested_in (unary_form d) ≡ []
uncounted d h = unary_level d ∙ ap (λ b. if b then nested (located member_form (out-Unary d).item) else []) h

-- nothing is nested in a number alone
bare : (n : Located) → IsSome (number_in (lone_literal n)) → nested n ≡ []
unfolding nested nested_in nested_parts
bare (f.at place (f.member (f.at p (f.literal a)) f.none)) h = refl
bare (f.at place (f.member item (f.more op n others))) h = absurd (true≢false (sym h))
bare (f.at place (f.member (f.missing p) f.none)) h = absurd (true≢false (sym h))
bare n h = absurd (true≢false (sym h))

unless_none : (b : Bool) (ns : List Located) → ns ≡ [] → (if b then ns else []) ≡ []
unless_none true ns h = h
unless_none false ns h = refl

-- whose operand isn't asked
pub unasked : (d : Unary) → (is_counted (out-Unary d).op ≡ false) ⊎ IsSome (number_in (lone_literal (located member_form (out-Unary d).item))) → nested_in (unary_form d) ≡ []
unasked d (inl h) = uncounted d h
unasked d (inr h) = unary_level d ∙ unless_none (is_counted (out-Unary d).op) (nested (located member_form (out-Unary d).item)) (bare (located member_form (out-Unary d).item) h)

pub member_level : (d : Member) → nested_in (member_form d) ≡ nested (located primary_form d.item) ++ flat_map (λ n. nested (located access_form n)) d.access
unfolding nested_in
member_level d = chained _ (located primary_form d.item) listed_access d.access (ap (λ t. nested_in t) (member_out d))

-- ---- primaries, accesses and pairs

pub literal : (d : Primary) (a : Node (Option Literal)) → d ≡ primaries.Literal a → nested_in (primary_form d) ≡ []
unfolding nested_in
literal d a k = ap (λ t. nested_in t) (ap primary_form k ∙ primary_literal a)

pub reference : (d : Primary) (a : Node (Option Ref)) → d ≡ primaries.Ref a → nested_in (primary_form d) ≡ []
unfolding nested_in
reference d a k = ap (λ t. nested_in t) (ap primary_form k ∙ primary_ref a)

pub name : (d : Primary) (a : Node (Option Name)) → d ≡ primaries.Name a → nested_in (primary_form d) ≡ []
unfolding nested_in
name d a k = ap (λ t. nested_in t) (ap primary_form k ∙ primary_name a)

pub slot : (d : Primary) (a : Node (Option Slot)) → d ≡ primaries.Slot a → nested_in (primary_form d) ≡ []
unfolding nested_in
slot d a k = ap (λ t. nested_in t) (ap primary_form k ∙ primary_slot a)

pub parens : (d : Primary) (a : Node (Option Expr)) → d ≡ primaries.Expr a → nested_in (primary_form d) ≡ located expr_form a ∷ []
unfolding nested_in
parens d a k = ap (λ t. nested_in t) (ap primary_form k ∙ primary_expr a)

pub list : (d : Primary) (xs : List (Node (Option Expr))) → d ≡ primaries.EList xs → nested_in (primary_form d) ≡ map (located expr_form) xs
unfolding nested_in
list d xs k = ap (λ t. nested_in t) (ap primary_form k ∙ primary_list xs) ∙ items_listed xs

pub inits : (d : Primary) (xs : List (Node (Option RecInit))) → d ≡ primaries.RInits xs → nested_in (primary_form d) ≡ flat_map (λ n. nested (located init_form n)) xs
unfolding nested_in
inits d xs k = ap (λ t. nested_in t) (ap primary_form k ∙ primary_inits xs) ∙ parts_flat listed_init xs

pub field : (d : MemAccess) (a : Node (Option Ident)) → d ≡ accesses.Field a → nested_in (access_form d) ≡ []
unfolding nested_in
field d a k = ap (λ t. nested_in t) (ap access_form k ∙ access_field a)

pub call : (d : MemAccess) (xs : List (Node (Option Expr))) → d ≡ accesses.Call xs → nested_in (access_form d) ≡ map (located expr_form) xs
unfolding nested_in
call d xs k = ap (λ t. nested_in t) (ap access_form k ∙ access_call xs) ∙ items_listed xs

pub index : (d : MemAccess) (a : Node (Option Expr)) → d ≡ accesses.Index a → nested_in (access_form d) ≡ located expr_form a ∷ []
unfolding nested_in
index d a k = ap (λ t. nested_in t) (ap access_form k ∙ access_index a)

pub pair : (d : RecInit) → nested_in (init_form d) ≡ located expr_form d.0 ∷ located expr_form d.1 ∷ []
unfolding nested_in
pair d = ap (λ t. nested_in t) (init_out d)
