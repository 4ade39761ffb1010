-- When a level is one part alone, and that it then gives what this part gives.
use Rattle.std.proofs.Common.{◌≡◌, ◌≢◌, true, false, List, [], ◌∷◌, map, Option, Some, None, MatchOption, IfSome, if◌then◌else◌, refl, sym, ap, ◌∙◌}
use Rattle.std.specs.Option.{option_copied, option_map}
use denote.Ref.{Bor}
use Rattle.cedar_syntax.specs.declared.node.Node.{Node}
use Rattle.cedar_syntax.specs.declared.cst.Add.{Add}
use Rattle.cedar_syntax.specs.declared.cst.RelOp.{RelOp}
use Rattle.cedar_syntax.specs.declared.cst.Relation.{Relation}
use Rattle.cedar_syntax.specs.declared.cst.Relation.TheVariants as relations
use Rattle.cedar_syntax.specs.declared.cst.Unary.{Unary, out-Unary}
use Rattle.cedar_syntax.specs.trees.Forms.{located, parts_of, add_form, member_form, relation_form, unary_form, relation_operand, typed_form}
use Rattle.cedar_syntax.specs.trees.Located as f
use Rattle.cedar_syntax.specs.trees.Located.{Located, Form}
use Rattle.cedar_syntax.specs.trees.Tree.{Level, Operator, relation}
use Rattle.cedar_syntax.proofs.FormLevels.{relation_common, relation_has, relation_like, relation_typed, unary_out}
use Rattle.cedar_conversion.specs.outcome.LonePart.{lone_part, no_sign}

-- ---- when it is

chain_alone : {X : Type 0} (level : Level) (a : Located) (g : X → Operator × Located) (xs : List X) → xs ≡ [] → lone_part (f.chain level a (parts_of (map g xs))) ≡ Some a
chain_alone level a g xs h = ap (λ ys. lone_part (f.chain level a (parts_of (map g ys)))) h

chain_several : {X : Type 0} (level : Level) (a : Located) (g : X → Operator × Located) (xs : List X) → xs ≢ [] → lone_part (f.chain level a (parts_of (map g xs))) ≡ None
chain_several level a g [] h = absurd (h refl)
chain_several level a g (x ∷ xs) h = refl

member_alone : {X : Type 0} (a : Located) (g : X → Operator × Located) (xs : List X) → xs ≡ [] → lone_part (f.member a (parts_of (map g xs))) ≡ Some a
member_alone a g xs h = ap (λ ys. lone_part (f.member a (parts_of (map g ys)))) h

member_several : {X : Type 0} (a : Located) (g : X → Operator × Located) (xs : List X) → xs ≢ [] → lone_part (f.member a (parts_of (map g xs))) ≡ None
member_several a g [] h = absurd (h refl)
member_several a g (x ∷ xs) h = refl

-- the first of several parts, if it is the only one
abbrev pub IsOnly : {X Y : Type 0} → Option (Bor Y) → Y → List X → Type 0
IsOnly r n xs = MatchOption r (xs ≢ []) (λ part. (part.now ≡ n) × (xs ≡ []))

pub only_of_chain : {X Y : Type 0} (level : Level) (h : Y → Form) (n : Node (Option Y)) (g : X → Operator × Located) (xs : List X) (r : Option (Bor (Node (Option Y)))) → IsOnly r n xs
    → option_map (located h) (option_copied r) ≡ lone_part (f.chain level (located h n) (parts_of (map g xs)))
only_of_chain level h n g xs None e = sym (chain_several level (located h n) g xs e)
only_of_chain level h n g xs (Some part) e = ap (λ m. Some (located h m)) e.0 ∙ sym (chain_alone level (located h n) g xs e.1)

pub only_of_member : {X Y : Type 0} (h : Y → Form) (n : Node (Option Y)) (g : X → Operator × Located) (xs : List X) (r : Option (Bor (Node (Option Y)))) → IsOnly r n xs
    → option_map (located h) (option_copied r) ≡ lone_part (f.member (located h n) (parts_of (map g xs)))
only_of_member h n g xs None e = sym (member_several (located h n) g xs e)
only_of_member h n g xs (Some part) e = ap (λ m. Some (located h m)) e.0 ∙ sym (member_alone (located h n) g xs e.1)

pub only_of_common : (d : Relation) (a : Node (Option Add)) (xs : List (RelOp × Node (Option Add))) → d ≡ relations.Common a xs → (r : Option (Bor (Node (Option Add)))) → IsOnly r a xs
    → option_map (located add_form) (option_copied r) ≡ lone_part (relation_form d)
only_of_common d a xs k r e = only_of_chain relation add_form a relation_operand xs r e ∙ sym (ap lone_part (ap relation_form k ∙ relation_common a xs))

pub common_below : (d : Relation) (a : Node (Option Add)) (xs : List (RelOp × Node (Option Add))) → d ≡ relations.Common a xs → (r : Option (Bor (Node (Option Add)))) → IsOnly r a xs
    → IfSome r (λ part. (others : List (RelOp × Node (Option Add))) × (d ≡ relations.Common part.now others))
common_below d a xs k None e = tt
common_below d a xs k (Some part) e = (xs, k ∙ ap (λ m. relations.Common m xs) (sym e.0))

pub has_none : (d : Relation) (a b : Node (Option Add)) → d ≡ relations.Has a b → None ≡ lone_part (relation_form d)
has_none d a b k = sym (ap lone_part (ap relation_form k ∙ relation_has a b))

pub like_none : (d : Relation) (a b : Node (Option Add)) → d ≡ relations.Like a b → None ≡ lone_part (relation_form d)
like_none d a b k = sym (ap lone_part (ap relation_form k ∙ relation_like a b))

typed_none : (a b : Located) (c : Option (Node (Option Add))) → lone_part (typed_form a b c) ≡ None
typed_none a b None = refl
typed_none a b (Some c) = refl

pub is_none : (d : Relation) (a b : Node (Option Add)) (c : Option (Node (Option Add))) → d ≡ relations.IsIn a b c → None ≡ lone_part (relation_form d)
is_none d a b c k = sym (ap lone_part (ap relation_form k ∙ relation_typed a b c) ∙ typed_none (located add_form a) (located add_form b) c)

pub unsigned_part : (d : Unary) → no_sign (out-Unary d).op ≡ true → Some (located member_form (out-Unary d).item) ≡ lone_part (unary_form d)
unsigned_part d h = sym (ap lone_part (unary_out d) ∙ ap (λ b. if b then Some (located member_form (out-Unary d).item) else None) h)

pub sign_none : (d : Unary) → no_sign (out-Unary d).op ≡ false → None ≡ lone_part (unary_form d)
sign_none d h = sym (ap lone_part (unary_out d) ∙ ap (λ b. if b then Some (located member_form (out-Unary d).item) else None) h)

pub only_below : {X Y : Type 0} (n : Y) (xs : List X) (r : Option (Bor Y)) → IsOnly r n xs → IfSome r (λ part. part.now ≡ n)
only_below n xs None e = tt
only_below n xs (Some part) e = e.0

-- ---- what it gives

-- what f makes of the one part, or else y
abbrev pub through : {Y : Type 0} → (Located → Y) → Y → Option Located → Y
through f y (Some a) = f a
through f y None = y

pub to_part : {Y : Type 0} (f : Located → Y) (y o : Y) (p : Option Located) (a : Located) → o ≡ through f y p → Some a ≡ p → o ≡ f a
to_part f y o p a h k = h ∙ ap (through f y) (sym k)

pub to_none : {Y : Type 0} (f : Located → Y) (y o : Y) (p : Option Located) → o ≡ through f y p → None ≡ p → o ≡ y
to_none f y o p h k = h ∙ ap (through f y) (sym k)
