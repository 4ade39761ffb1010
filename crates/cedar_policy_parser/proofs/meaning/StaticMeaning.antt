-- A policy's tree gives a static policy exactly where what its tokens mean has no slot in its
-- scope.
use Rattle.std.proofs.Common.{◌≡◌, ◌↔◌, ℕ, Bool, true, false, cond, List, [], ◌∷◌, Option, Ok, Err, refl, sym, ap, ◌∙◌, subst}
use Rattle.either.specs.declared.Either.TheVariants.{Left, Right}
use Rattle.cedar_expressions.specs.declared.place.Slot.{Slot}
use Rattle.cedar_lexer.specs.Token.{Lexeme}
use Rattle.cedar_policy_store.specs.PlaceFree as free
use Rattle.cedar_policy_store.specs.PlaceFree.{has_slot_in_scope}
use Rattle.cedar_syntax.specs.declared.cst.Policy.{Policy}
use Rattle.cedar_syntax.specs.tokens.Signs.{sign_limit}
use Rattle.cedar_syntax.specs.declared.loc.Loc.{Loc}
use Rattle.cedar_grammar.specs.grammar.LoosePolicies.{ReadsPolicy}
use Rattle.cedar_grammar.specs.grammar.Place.{placed}
use Rattle.cedar_conversion.specs.strict.Extensions.{Extensions}
use Rattle.cedar_conversion.specs.outcome.Outcome.{Outcome}
use Rattle.cedar_policy_conversion.specs.Policies.{TemplateParts, either_outcome, meaning_of, only_static, scope_slots, side_outcome, policy_side, static_outcome, template_outcome, unless_slots}
use Rattle.cedar_policy_conversion.specs.PolicyMeaning.{IsStatic}
use Rattle.cedar_policy_parser.specs.meaning.StrictPolicy.{IsPolicy}
use Rattle.cedar_conversion.proofs.Inverted.{ok_is}
use Rattle.cedar_policy_conversion.proofs.PolicySides.{side_of, is_left, is_right}
use Rattle.cedar_policy_parser.proofs.complete.Sets.{policy_read}
use Rattle.cedar_policy_parser.proofs.sound.Sets.{policy_meant}

-- ---- the slots of a scope

none_left : (slots : List Slot) (t u : TemplateParts) → policy_side slots t ≡ Left u → slots ≡ []
none_left [] t u h = refl
none_left (s ∷ slots) t u h = cc

no_slots : (t : TemplateParts) → IsStatic (meaning_of t) → scope_slots t ≡ []
no_slots t h = none_left (scope_slots t) t t (side_of t ∙ ap (λ b. cond b (Right t) (Left t)) h)

unless_given : (place : Option Loc) (slots : List Slot) (t u : TemplateParts) → unless_slots place slots t ≡ Ok u → (slots ≡ []) × (t ≡ u)
unless_given place [] t u h = (refl, ok_is h)
unless_given place (s ∷ slots) t u h = cc

slot_free : (t : TemplateParts) → scope_slots t ≡ [] → IsStatic (meaning_of t)
slot_free t h = (is_left (has_slot_in_scope (meaning_of t)) t t (sym (side_of t) ∙ ap (λ slots. policy_side slots t) h)).0

not_true : (b : Bool) → b ≡ true → ¬ (b ≡ false)
not_true b h k = cc

not_false : (b : Bool) → ¬ (b ≡ false) → b ≡ true
not_false true h = refl
not_false false h = absurd (h refl)

-- ---- a static policy is wanted

abbrev Converted : Outcome TemplateParts → TemplateParts → Type 0
Converted o t = o ≡ Ok t

static_in : (place : Option Loc) (o : Outcome TemplateParts) (t : TemplateParts) → only_static place o ≡ Ok t → Converted o t × IsStatic (meaning_of t)
static_in place (Ok u) t h =
    let d = unless_given place (scope_slots u) u t h in
    (ap (λ x. Ok x) d.1, subst (λ x. IsStatic (meaning_of x)) d.1 (slot_free u d.0))
static_in place (Err faults) t h = cc

static_from : (place : Option Loc) (o : Outcome TemplateParts) (t : TemplateParts) → Converted o t → IsStatic (meaning_of t) → only_static place o ≡ Ok t
static_from place o t h s = ap (only_static place) h ∙ ap (λ slots. unless_slots place slots t) (no_slots t s)

-- ---- either is wanted

left_in : (o : Outcome TemplateParts) (t : TemplateParts) → side_outcome o ≡ Ok (Left t) → Converted o t × IsStatic (meaning_of t)
left_in (Ok u) t h =
    let d = is_left (has_slot_in_scope (meaning_of u)) u t (sym (side_of u) ∙ ok_is h) in
    (ap (λ x. Ok x) d.1, subst (λ x. IsStatic (meaning_of x)) d.1 d.0)
left_in (Err faults) t h = cc

left_from : (o : Outcome TemplateParts) (t : TemplateParts) → Converted o t → IsStatic (meaning_of t) → side_outcome o ≡ Ok (Left t)
left_from o t h s = ap side_outcome h ∙ ap Ok (side_of t ∙ ap (λ b. cond b (Right t) (Left t)) s)

right_in : (o : Outcome TemplateParts) (t : TemplateParts) → side_outcome o ≡ Ok (Right t) → Converted o t × ¬ (IsStatic (meaning_of t))
right_in (Ok u) t h =
    let d = is_right (has_slot_in_scope (meaning_of u)) u t (sym (side_of u) ∙ ok_is h) in
    (ap (λ x. Ok x) d.1, subst (λ x. ¬ (IsStatic (meaning_of x))) d.1 (not_true (has_slot_in_scope (meaning_of u)) d.0))
right_in (Err faults) t h = cc

right_from : (o : Outcome TemplateParts) (t : TemplateParts) → Converted o t → ¬ (IsStatic (meaning_of t)) → side_outcome o ≡ Ok (Right t)
right_from o t h s = ap side_outcome h ∙ ap Ok (side_of t ∙ ap (λ b. cond b (Right t) (Left t)) (not_false (has_slot_in_scope (meaning_of t)) s))

-- ---- what the tokens mean

pub static_meant : (e : Extensions) (src id : List ℕ) (ts : List Lexeme) (x : Policy) (t : TemplateParts) → ReadsPolicy src ts x
    → (static_outcome e id (placed src ts x) ≡ Ok t) ↔ ((template_outcome e id (placed src ts x) ≡ Ok t) × IsPolicy e sign_limit id ts (meaning_of t) × IsStatic (meaning_of t))
static_meant e src id ts x t r =
    let place = (placed src ts x).loc in
    let o = template_outcome e id (placed src ts x) in (
      λ h. let d = static_in place o t h in (d.0, policy_meant e id t r d.0, d.1),
      λ h. static_from place o t h.0 h.2,
    )

pub left_meant : (e : Extensions) (src id : List ℕ) (ts : List Lexeme) (x : Policy) (t : TemplateParts) → ReadsPolicy src ts x
    → (either_outcome e id (placed src ts x) ≡ Ok (Left t)) ↔ ((template_outcome e id (placed src ts x) ≡ Ok t) × IsPolicy e sign_limit id ts (meaning_of t) × IsStatic (meaning_of t))
left_meant e src id ts x t r =
    let o = template_outcome e id (placed src ts x) in (
      λ h. let d = left_in o t h in (d.0, policy_meant e id t r d.0, d.1),
      λ h. left_from o t h.0 h.2,
    )

pub right_meant : (e : Extensions) (src id : List ℕ) (ts : List Lexeme) (x : Policy) (t : TemplateParts) → ReadsPolicy src ts x
    → (either_outcome e id (placed src ts x) ≡ Ok (Right t)) ↔ ((template_outcome e id (placed src ts x) ≡ Ok t) × IsPolicy e sign_limit id ts (meaning_of t) × ¬ (IsStatic (meaning_of t)))
right_meant e src id ts x t r =
    let o = template_outcome e id (placed src ts x) in (
      λ h. let d = right_in o t h in (d.0, policy_meant e id t r d.0, d.1),
      λ h. right_from o t h.0 h.2,
    )

-- ---- a tree of what tokens mean

pub static_read : (e : Extensions) (src id : List ℕ) (ts : List Lexeme) (policy : free.Policy) → IsPolicy e sign_limit id ts policy → IsStatic policy
    → (x : Policy) × (t : TemplateParts) × ReadsPolicy src ts x × (static_outcome e id (placed src ts x) ≡ Ok t) × (meaning_of t ≡ policy)
static_read e src id ts policy h s =
    let d = policy_read e src id h in
    (d.tree, d.parts, d.reads, static_from (placed src ts d.tree).loc (template_outcome e id (placed src ts d.tree)) d.parts d.gives (subst IsStatic (sym d.same) s), d.same)

pub left_read : (e : Extensions) (src id : List ℕ) (ts : List Lexeme) (policy : free.Policy) → IsPolicy e sign_limit id ts policy → IsStatic policy
    → (x : Policy) × (t : TemplateParts) × ReadsPolicy src ts x × (either_outcome e id (placed src ts x) ≡ Ok (Left t)) × (meaning_of t ≡ policy)
left_read e src id ts policy h s =
    let d = policy_read e src id h in
    (d.tree, d.parts, d.reads, left_from (template_outcome e id (placed src ts d.tree)) d.parts d.gives (subst IsStatic (sym d.same) s), d.same)

pub right_read : (e : Extensions) (src id : List ℕ) (ts : List Lexeme) (policy : free.Policy) → IsPolicy e sign_limit id ts policy → ¬ (IsStatic policy)
    → (x : Policy) × (t : TemplateParts) × ReadsPolicy src ts x × (either_outcome e id (placed src ts x) ≡ Ok (Right t)) × (meaning_of t ≡ policy)
right_read e src id ts policy h s =
    let d = policy_read e src id h in
    (d.tree, d.parts, d.reads, right_from (template_outcome e id (placed src ts d.tree)) d.parts d.gives (subst (λ p. ¬ (IsStatic p)) (sym d.same) s), d.same)
