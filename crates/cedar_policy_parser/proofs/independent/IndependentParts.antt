-- Annotations and conditions of a policy don't look at places.
use Rattle.std.proofs.Common.{◌≡◌, ℕ, List, [], ◌∷◌, ◌++◌, map, fold, Option, Some, None, option_map, Ok, Err, Bool, cond, refl, sym, ap, ap₂, ◌∙◌, subst}
use Rattle.cedar_expressions.specs.Slots.{slots_of}
use Rattle.cedar_expressions.specs.Value.{Value}
use Rattle.cedar_expressions.specs.WithoutPlaces.{without_places}
use Rattle.cedar_expressions.specs.declared.place.Slot.{Slot}
use Rattle.cedar_syntax.specs.declared.cst.Annotation.{Annotation}
use Rattle.cedar_syntax.specs.declared.cst.Cond.{Cond}
use Rattle.cedar_syntax.specs.declared.cst.Expr.{Expr}
use Rattle.cedar_syntax.specs.declared.cst.Ident.{Ident}
use Rattle.cedar_syntax.specs.declared.cst.Ident.TheVariants as words
use Rattle.cedar_syntax.specs.declared.cst.Str.{Str}
use Rattle.cedar_syntax.specs.declared.cst.Str.TheVariants as str
use Rattle.cedar_syntax.specs.declared.loc.Loc.{Loc}
use Rattle.cedar_syntax.specs.trees.Forms.{located, expr_form, form_at}
use Rattle.cedar_syntax.specs.trees.Located.{Located, Form}
use Rattle.cedar_syntax.specs.trees.Trees.{Cell}
use Rattle.cedar_syntax.specs.trees.Unlocated.{unlocated, unlocated_form, unlocated_node}
use Rattle.cedar_syntax.specs.trees.UnlocatedTrees.{bare_cell, bare_cells, unlocated_expr, unlocated_annotation, BareCondition, unlocated_clause}
use Rattle.cedar_policy_parser.proofs.Alike.{Alike}
use Rattle.cedar_policy_conversion.specs.AnnotationKeys.{AnnotationContent, value_text_outcome, key_value_outcome, annotation_outcome, has_key, with_new_key, converted_key, Gathering, gathering_with, gathering_with_node, empty_gathering, annotations_outcome}
use Rattle.cedar_policy_conversion.specs.Conditions.{is_when_of, clause, condition_value, condition_slot_fault, condition_word, without_slots, condition_of, condition_outcome, conditions_outcome}
use Rattle.cedar_conversion.specs.outcome.Conversion.{value_outcome}
use Rattle.cedar_conversion.specs.parts.Entities.{id_text, id_outcome}
use Rattle.cedar_conversion.specs.strict.Extensions.{Extensions}
use Rattle.cedar_conversion.specs.parts.Names.{content_outcome, spelling_outcome, any_ident_of}
use Rattle.cedar_expressions.specs.Path.{is_identifier}
use Rattle.cedar_conversion.specs.outcome.Detail.{spelling}
use Rattle.cedar_conversion.specs.outcome.Outcome.{Outcome, detailed_outcome, next, invalid_identifier, duplicate_annotation, faults_outcome}
use Rattle.cedar_policy_conversion.specs.Policies.{effect_of, effect_outcome}
use Rattle.cedar_policy_parser.proofs.independent.Independent.{outcome_alike}
use Rattle.cedar_policy_parser.proofs.independent.IndependentLeaves.{Equal, Pairs, Aside, both_alike, next_alike, then_alike, if_alike, value_alike, text_alike}
use Rattle.cedar_policy_conversion.proofs.SlotFree.{no_place, none_hidden}

-- ---- the kit

-- both are alike to a third
pub meet : {X : Type 0} (R Q : X → X → Type 0) → ((x y z : X) → R x z → R y z → Q x y) → (o p q : Outcome X) → Alike R o q → Alike R p q → Alike Q o p
meet R Q k (Ok x) (Ok y) (Ok z) a b = k x y z a b
meet R Q k (Ok x) (Ok y) (Err hs) a b = absurd a
meet R Q k (Ok x) (Err gs) (Ok z) a b = absurd b
meet R Q k (Ok x) (Err gs) (Err hs) a b = absurd a
meet R Q k (Err fs) (Ok y) (Ok z) a b = absurd a
meet R Q k (Err fs) (Ok y) (Err hs) a b = absurd b
meet R Q k (Err fs) (Err gs) q a b = tt

pub some_same : {X : Type 0} {x y : X} → Some x ≡ Some y → x ≡ y
some_same e = cc

pub none_some : {X : Type 0} {x : X} → ◌≡◌ {A = Option X} None (Some x) → ⊥
none_some e = cc

-- the contents of two nodes, taken by functions that are alike on contents of the same kind
pub content_same : {X F A : Type 0} (S : A → A → Type 0) (bare : X → F) (g : Option Loc → X → Outcome A) (p q : Option Loc) → ((x y : X) → bare x ≡ bare y → Alike S (g p x) (g q y)) → (o r : Option X) → option_map bare o ≡ option_map bare r
    → Alike S (next (content_outcome p o) (g p)) (next (content_outcome q r) (g q))
content_same S bare g p q k None None e = tt
content_same S bare g p q k None (Some y) e = absurd (none_some e)
content_same S bare g p q k (Some x) None e = absurd (none_some (sym e))
content_same S bare g p q k (Some x) (Some y) e = k x y (some_same e)

-- ---- expressions

pub same_form_cell : {X : Type 0} (form : X → Form) (n m : Cell X) → bare_cell (λ x. unlocated_form (form x)) n ≡ bare_cell (λ x. unlocated_form (form x)) m → unlocated (located form n) ≡ unlocated (located form m)
unfolding unlocated
same_form_cell {X = X} form n m e = at_none n.loc n.node ∙ ap (λ (c : Cell Form). form_at None c.node) e ∙ sym (at_none m.loc m.node)
  where
    at_none : (p : Option Loc) (o : Option X) → unlocated (form_at p (option_map form o)) ≡ form_at None (option_map (λ x. unlocated_form (form x)) o)
    at_none p None = refl
    at_none p (Some x) = refl

-- two values, places aside
abbrev pub Both : Value → Value → Type 0
Both x y = without_places x ≡ without_places y

pub values_same : (e : Extensions) (n m : Located) → unlocated n ≡ unlocated m → Alike Both (value_outcome e n) (value_outcome e m)
values_same e n m h =
    meet Aside Both (λ x y z a b. a ∙ sym b) (value_outcome e n) (value_outcome e m) (value_outcome e (unlocated m))
    (subst (λ t. Alike Aside (value_outcome e n) (value_outcome e t)) h (value_alike _ _ (outcome_alike e n))) (value_alike _ _ (outcome_alike e m))

pub expr_same : (e : Extensions) (n m : Cell Expr) → bare_cell unlocated_expr n ≡ bare_cell unlocated_expr m → Alike Both (value_outcome e (located expr_form n)) (value_outcome e (located expr_form m))
expr_same e n m h = values_same e (located expr_form n) (located expr_form m) (same_form_cell expr_form n m h)

-- ---- words

pub word_same : {A : Type 0} (g : Option Loc → Ident → Outcome A) → ((p q : Option Loc) (i : Ident) → Alike Equal (g p i) (g q i)) → (n m : Cell Ident) → unlocated_node n ≡ unlocated_node m → Alike Equal (next (content_outcome n.loc n.node) (g n.loc)) (next (content_outcome m.loc m.node) (g m.loc))
word_same g k n m e = go n.node m.node (ap (λ (c : Cell Ident). c.node) e)
  where
    go : (o r : Option Ident) → o ≡ r → Alike Equal (next (content_outcome n.loc o) (g n.loc)) (next (content_outcome m.loc r) (g m.loc))
    go None None e = tt
    go None (Some y) e = absurd (none_some e)
    go (Some x) None e = absurd (none_some (sym e))
    go (Some x) (Some y) e = subst (λ z. Alike Equal (g n.loc x) (g m.loc z)) (some_same e) (k n.loc m.loc x)

effect_word : (p q : Option Loc) (i : Ident) → Alike Equal (effect_of p i) (effect_of q i)
effect_word p q words.Permit = refl
effect_word p q words.Forbid = refl
effect_word p q _ = tt

pub effect_same : (n m : Cell Ident) → unlocated_node n ≡ unlocated_node m → Alike Equal (effect_outcome n) (effect_outcome m)
effect_same n m e = word_same effect_of effect_word n m e

spelled : (p q : Option Loc) (t : List ℕ) → Alike Equal (spelling_outcome p t) (spelling_outcome q t)
spelled p q t = if_alike Equal (is_identifier t) (Ok t) (Ok t) (detailed_outcome invalid_identifier p (spelling t)) (detailed_outcome invalid_identifier q (spelling t)) refl tt

any_word : (p q : Option Loc) (i : Ident) → Alike Equal (any_ident_of p i) (any_ident_of q i)
any_word p q words.True = refl
any_word p q words.False = refl
any_word p q words.If = refl
any_word p q words.Then = refl
any_word p q words.Else = refl
any_word p q words.In = refl
any_word p q words.Is = refl
any_word p q words.Has = refl
any_word p q words.Like = refl
any_word p q words.Principal = refl
any_word p q words.Action = refl
any_word p q words.Resource = refl
any_word p q words.Context = refl
any_word p q words.Permit = refl
any_word p q words.Forbid = refl
any_word p q words.When = refl
any_word p q words.Unless = refl
any_word p q (words.Ident t) = spelled p q t
any_word p q (words.Invalid t) = tt

when_word : (p q : Option Loc) (i : Ident) → Alike Equal (is_when_of p i) (is_when_of q i)
when_word p q words.When = refl
when_word p q words.Unless = refl
when_word p q _ = tt

-- ---- annotations

-- a key and its text
abbrev pub KeyText : Type 0
KeyText = List ℕ × Option (List ℕ)

abbrev pub key_text : AnnotationContent → KeyText
key_text a = (a.key, a.text)

abbrev pub SameContent : AnnotationContent → AnnotationContent → Type 0
SameContent a b = key_text a ≡ key_text b

text_of_str : (p q : Option Loc) (s : Str) (own other : Option Loc) → Alike Equal (id_text p own s) (id_text q other s)
text_of_str p q (str.String raw) own other = text_alike p q raw
text_of_str p q (str.Invalid raw) own other = tt

id_same : (p q : Option Loc) (n m : Cell Str) → unlocated_node n ≡ unlocated_node m → Alike Equal (id_outcome p n) (id_outcome q m)
id_same p q n m e = go n.node m.node (ap (λ (c : Cell Str). c.node) e)
  where
    go : (o r : Option Str) → o ≡ r → Alike Equal (next (content_outcome n.loc o) (id_text p n.loc)) (next (content_outcome m.loc r) (id_text q m.loc))
    go None None e = tt
    go None (Some y) e = absurd (none_some e)
    go (Some x) None e = absurd (none_some (sym e))
    go (Some x) (Some y) e = subst (λ z. Alike Equal (id_text p n.loc x) (id_text q m.loc z)) (some_same e) (text_of_str p q x n.loc m.loc)

value_same : (p q : Option Loc) (o r : Option (Cell Str)) → option_map (λ (c : Cell Str). unlocated_node c) o ≡ option_map (λ (c : Cell Str). unlocated_node c) r → Alike Equal (value_text_outcome p o) (value_text_outcome q r)
value_same p q None None e = refl
value_same p q None (Some m) e = absurd (none_some e)
value_same p q (Some n) None e = absurd (none_some (sym e))
value_same p q (Some n) (Some m) e = then_alike Equal _ _ _ _ (id_same p q n m (some_same e)) (λ t. refl)

pub pair_same : {A B : Type 0} {a c : A} {b d : B} → a ≡ c → b ≡ d → ◌≡◌ {A = A × B} (a, b) (c, d)
pair_same e g = ap₂ (λ x y. (x, y)) e g

key_value_same : (p q : Option Loc) (a b : Annotation) → unlocated_annotation a ≡ unlocated_annotation b → Alike SameContent (key_value_outcome p a) (key_value_outcome q b)
key_value_same p q a b e =
    next_alike (Pairs Equal Equal) SameContent _ _ _ _
    (both_alike Equal Equal _ _ _ _ (word_same any_ident_of any_word a.key b.key (ap (λ (x : Annotation). x.key) e)) (value_same p q a.value b.value (ap (λ (x : Annotation). x.value) e)))
    (λ x y h. pair_same h.0 h.1)

pub annotation_same : (n m : Cell Annotation) → bare_cell unlocated_annotation n ≡ bare_cell unlocated_annotation m → Alike SameContent (annotation_outcome n) (annotation_outcome m)
annotation_same n m e = content_same SameContent unlocated_annotation key_value_outcome n.loc m.loc (key_value_same n.loc m.loc) n.node m.node (ap (λ (c : Cell Annotation). c.node) e)

abbrev pub SameContents : List AnnotationContent → List AnnotationContent → Type 0
SameContents xs ys = map key_text xs ≡ map key_text ys

record SameGathering (g h : Gathering) : Type 0 where
  keys : g.keys ≡ h.keys
  all : Alike SameContents g.all h.all

keys_same : (a b : Outcome AnnotationContent) → Alike SameContent a b → converted_key a ≡ converted_key b
keys_same (Ok x) (Ok y) e = ap (λ (p : KeyText). p.0 ∷ []) e
keys_same (Ok x) (Err gs) e = absurd e
keys_same (Err fs) (Ok y) e = absurd e
keys_same (Err fs) (Err gs) e = refl

snoc_same : (xs ys : List AnnotationContent) (x y : AnnotationContent) → SameContents xs ys → SameContent x y → SameContents (xs ++ x ∷ []) (ys ++ y ∷ [])
snoc_same xs ys x y e g = over xs x ∙ ap₂ (λ a b. a ++ b ∷ []) e g ∙ sym (over ys y)
  where
    over : (zs : List AnnotationContent) (z : AnnotationContent) → map key_text (zs ++ z ∷ []) ≡ map key_text zs ++ key_text z ∷ []
    over [] z = refl
    over (w ∷ ws) z = ap (λ r. key_text w ∷ r) (over ws z)

new_key_same : (ks ls : List (List ℕ)) (x y : AnnotationContent) → ks ≡ ls → SameContent x y → Alike SameContent (with_new_key ks x) (with_new_key ls y)
new_key_same ks ls x y e g =
    let same : has_key ks x.key ≡ has_key ls y.key = ap₂ has_key e (ap (λ (p : KeyText). p.0) g) in
    subst (λ b. Alike SameContent (with_new_key ks x) (cond b (detailed_outcome duplicate_annotation y.place (spelling y.key)) (Ok y))) same (if_alike SameContent (has_key ks x.key) _ _ _ _ tt g)

more_same : (g h : Gathering) (a b : Outcome AnnotationContent) → SameGathering g h → Alike SameContent a b → SameGathering (gathering_with g a) (gathering_with h b)
more_same g h a b s e = record {
  keys = ap₂ (λ x y. x ++ y) s.keys (keys_same a b e);
  all = next_alike (Pairs SameContents SameContent) SameContents _ _ _ _
      (both_alike SameContents SameContent _ _ _ _ s.all (next_alike SameContent SameContent _ _ _ _ e (λ x y k. new_key_same g.keys h.keys x y s.keys k)))
      (λ p q k. snoc_same p.0 q.0 p.1 q.1 k.0 k.1);
}

pub heads : {X : Type 0} {x y : X} {xs ys : List X} → x ∷ xs ≡ y ∷ ys → x ≡ y
heads e = cc

pub tails : {X : Type 0} {x y : X} {xs ys : List X} → x ∷ xs ≡ y ∷ ys → xs ≡ ys
tails e = cc

gathered_same : (g h : Gathering) (ns ms : List (Cell Annotation)) → SameGathering g h → bare_cells unlocated_annotation ns ≡ bare_cells unlocated_annotation ms → SameGathering (fold gathering_with_node g ns) (fold gathering_with_node h ms)
gathered_same g h [] [] s e = s
gathered_same g h [] (m ∷ ms) s e = absurd (cc)
gathered_same g h (n ∷ ns) [] s e = absurd (cc)
gathered_same g h (n ∷ ns) (m ∷ ms) s e = gathered_same (gathering_with_node g n) (gathering_with_node h m) ns ms (more_same g h _ _ s (annotation_same n m (heads e))) (tails e)

pub annotations_same : (ns ms : List (Cell Annotation)) → bare_cells unlocated_annotation ns ≡ bare_cells unlocated_annotation ms → Alike SameContents (annotations_outcome ns) (annotations_outcome ms)
annotations_same ns ms e = (gathered_same empty_gathering empty_gathering ns ms (record { keys = refl; all = refl }) e).all

-- ---- conditions

slots_go : (x y : Value) → Both x y → slots_of x ≡ [] → slots_of y ≡ []
slots_go x y e h = none_hidden y (ap slots_of (sym e) ∙ ap slots_of (no_place x h) ∙ h)

free_same : (x y : Value) → Both x y → slots_of x ≡ [] → slots_of y ≡ [] → x ≡ y
free_same x y e h k = sym (no_place x h) ∙ e ∙ no_place y k

bare_same : (p q : Option Loc) (when : Bool) (x y : Value) → Both x y → Alike Equal (without_slots p when x) (without_slots q when y)
bare_same p q when x y e = go (slots_of x) (slots_of y) refl refl
  where
    go : (xs ys : List Slot) → slots_of x ≡ xs → slots_of y ≡ ys → Alike Equal (next (faults_outcome (map (condition_slot_fault p (condition_word when)) xs)) (λ _. Ok (condition_value when x))) (next (faults_outcome (map (condition_slot_fault q (condition_word when)) ys)) (λ _. Ok (condition_value when y)))
    go [] [] h k = ap (condition_value when) (free_same x y e h k)
    go [] (t ∷ ts) h k = let none = sym k ∙ slots_go x y e h in absurd (cc)
    go (s ∷ ss) [] h k = let none = sym h ∙ slots_go y x (sym e) k in absurd (cc)
    go (s ∷ ss) (t ∷ ts) h k = tt

clause_same : (e : Extensions) (p q : Option Loc) (v w : Option Ident) (o r : Option (Cell Expr)) → option_map (λ n. bare_cell unlocated_expr n) o ≡ option_map (λ n. bare_cell unlocated_expr n) r → Alike Both (clause e p v o) (clause e q w r)
clause_same e p q v w None None h = tt
clause_same e p q v w None (Some m) h = absurd (none_some h)
clause_same e p q v w (Some n) None h = absurd (none_some (sym h))
clause_same e p q v w (Some n) (Some m) h = expr_same e n m (some_same h)

cond_same : (e : Extensions) (p q : Option Loc) (c d : Cond) → unlocated_clause c ≡ unlocated_clause d → Alike Equal (condition_of e p c) (condition_of e q d)
cond_same e p q c d h =
    then_alike Equal _ _ _ _ (word_same is_when_of when_word c.cond d.cond (ap (λ (x : BareCondition). x.word) h))
    (λ when. next_alike Both Equal _ _ _ _ (clause_same e p q c.cond.node d.cond.node c.expr d.expr (ap (λ (x : BareCondition). x.body) h)) (λ x y k. bare_same p q when x y k))

condition_same : (e : Extensions) (n m : Cell Cond) → bare_cell unlocated_clause n ≡ bare_cell unlocated_clause m → Alike Equal (condition_outcome e n) (condition_outcome e m)
condition_same e n m h = content_same Equal unlocated_clause (condition_of e) n.loc m.loc (cond_same e n.loc m.loc) n.node m.node (ap (λ (c : Cell BareCondition). c.node) h)

pub conditions_same : (e : Extensions) (ns ms : List (Cell Cond)) → bare_cells unlocated_clause ns ≡ bare_cells unlocated_clause ms → Alike Equal (conditions_outcome e ns) (conditions_outcome e ms)
conditions_same e [] [] h = refl
conditions_same e [] (m ∷ ms) h = absurd (cc)
conditions_same e (n ∷ ns) [] h = absurd (cc)
conditions_same e (n ∷ ns) (m ∷ ms) h =
    next_alike (Pairs Equal Equal) Equal _ _ _ _ (both_alike Equal Equal _ _ _ _ (condition_same e n m (heads h)) (conditions_same e ns ms (tails h))) (λ x y k. ap₂ (λ a b. a ∷ b) k.0 k.1)
