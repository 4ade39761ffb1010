-- Tokens with the words of a writable policy mean it.
use Rattle.std.proofs.Common.{◌≡◌, ℕ, ◌+◌, length, arith, true, List, [], ◌∷◌, ◌++◌, refl, sym, ap, ◌∙◌, subst, codes, append_assoc, append-nil, Option, Some, None}
use Rattle.std.specs.Prelude.{fold}
use Rattle.std.specs.Str.{IsUtf8}
use Rattle.std.proofs.lemmas.List.{length-append}
use Rattle.cedar_lexer.specs.declared.token.TokenKind.{TokenKind}
use Rattle.cedar_lexer.specs.declared.token.TokenKind.TheVariants as kind
use Rattle.cedar_lexer.specs.Token.{Lexeme}
use Rattle.cedar_lexer.specs.Words.{TokenText}
use Rattle.cedar_expressions.specs.declared.entity.EntityUID.{EntityUID}
use Rattle.cedar_expressions.specs.Path.{is_identifier}
use Rattle.cedar_expressions.specs.Slots.{slots_of}
use Rattle.cedar_expressions.specs.WithoutPlaces.{without_places}
use Rattle.cedar_expressions.specs.Value as v
use Rattle.cedar_expressions.specs.Value.{Value}
use Rattle.cedar_policy_store.specs.declared.constraints.ActionConstraint.{ActionConstraint}
use Rattle.cedar_policy_store.specs.declared.constraints.ActionConstraint.TheVariants as action
use Rattle.cedar_policy_store.specs.declared.effect.Effect.{Effect}
use Rattle.cedar_policy_store.specs.declared.effect.Effect.TheVariants as effects
use Rattle.cedar_policy_store.specs.PlaceFree as free
use Rattle.cedar_policy_store.specs.PlaceFree.{Reference, Constraint, Policy}
use Rattle.cedar_syntax.specs.tokens.Tokens.{Spot, one}
use Rattle.cedar_conversion.specs.strict.Extensions.{Extensions}
use Rattle.cedar_conversion.specs.strict.Strict.{Means, expression}
use Rattle.cedar_policy_conversion.specs.PolicyMeaning.{joint_condition, conjunction_value, policy_id, with_policy, no_policies}
use Rattle.cedar_policy_conversion.proofs.SlotFree.{no_place, none_hidden}
use Rattle.cedar_policy_conversion.specs.StrictScope as sc
use Rattle.cedar_policy_conversion.specs.StrictScope.{IsReference, IsEntityAlone, AreEntities, IsEntityList, AreActions, Asks, AsksAction, IsScope}
use Rattle.cedar_policy_conversion.specs.StrictPolicy as p
use Rattle.cedar_policy_conversion.specs.StrictPolicy.{IsReservedWord, IsAnyWord, IsAnnotation, AreAnnotations, IsEffect, IsCondition, AreConditions, IsPolicy, ArePolicies, IsPolicySet}
use Rattle.cedar_conversion.specs.strict.StrictWords as w
use Rattle.cedar_conversion.specs.strict.StrictWords.{IsVariable, IsIdentifier, IsName}
use Rattle.cedar_writer.specs.WrittenWords.{alone, kind_in, entity_words}
use Rattle.cedar_writer.specs.Writing.{words, sort_of, comma}
use Rattle.cedar_writer.specs.Writable.{IsWritable}
use Rattle.cedar_writer.specs.WrittenPolicies.{Parts, assembled, key_kinds, annotation_words, annotations_words, reference_words, asks_words, more_entities_words, entities_words, action_words, scope_words, conditions_in, conditions_of, body_words, condition_words, conditions_words, effect_words, policy_words, AreWritableAnnotations, AreWritableEntities, IsWritableReference, IsWritableConstraint, IsWritableAction, IsWritableCondition, AreWritableConditions, IsWritablePolicy, policies_words, numbered_policies, AreWritablePolicies}
use Rattle.cedar_writer.proofs.Apart.{Read, nothing, token, beside, put}
use Rattle.cedar_writer.proofs.Levels.{M, frees}
use Rattle.cedar_writer.proofs.Leaves.{kind_by, IsTextOf, string, Name, name, Entity, entity}
use Rattle.cedar_writer.proofs.Heart.{reads}

-- ---- annotations

abbrev AnyWord : List ℕ → List Lexeme → Type 0
AnyWord key us = IsAnyWord us key

abbrev ReadsKey : List ℕ → TokenKind → Type 0
ReadsKey key k = (q : Spot) → q.text ≡ key → IsAnyWord (one k q) key

reserved : {k : TokenKind} {key text : List ℕ} → IsReservedWord k text → key ≡ text → ReadsKey key k
reserved {k = k} h e q f = subst (IsAnyWord (one k q)) (sym e) (p.reserved q h)

plain : {k : TokenKind} {key text : List ℕ} → ((q : Spot) → IsIdentifier (one k q) text) → key ≡ text → ReadsKey key k
plain {k = k} h e q f = subst (IsAnyWord (one k q)) (sym e) (p.unreserved (h q))

key_kind : (key : List ℕ) → is_identifier key ≡ true → ReadsKey key (kind_in key_kinds key)
key_kind key h =
    kind_by (ReadsKey key) key_kinds key (
      reserved p.true_word,
      (
        reserved p.false_word,
        (
          reserved p.if_word,
          (
            reserved p.then_word,
            (
              reserved p.else_word,
              (
                reserved p.in_word,
                (
                  reserved p.is_word,
                  (
                    reserved p.has_word,
                    (
                      reserved p.like_word,
                      (
                        plain (λ q. w.variable_word q w.principal),
                        (
                          plain (λ q. w.variable_word q w.action),
                          (
                            plain (λ q. w.variable_word q w.resource),
                            (
                              plain (λ q. w.variable_word q w.context),
                              (plain w.permit, (plain w.forbid, (plain w.when, (plain w.unless, tt)))),
                            ),
                          ),
                        ),
                      ),
                    ),
                  ),
                ),
              ),
            ),
          ),
        ),
      ),
    )
    (λ q f. subst (IsAnyWord (one kind.Identifier q)) f (p.any_identifier q (subst (λ t. is_identifier t ≡ true) (sym f) h)))

any_word : (key : List ℕ) → is_identifier key ≡ true → Read (alone (kind_in key_kinds key) key) (AnyWord key)
any_word key h = token (AnyWord key) (kind_in key_kinds key) key (key_kind key h)

abbrev Annotation : List ℕ → List ℕ → List Lexeme → Type 0
Annotation key text us = IsAnnotation us key text

annotation : (key text : List ℕ) → is_identifier key ≡ true → IsUtf8 text → Read (annotation_words key text) (Annotation key text)
annotation key text h u =
    put (Annotation key text) kind.CloseParen (codes ")")
    (beside _ (IsTextOf text) (string text u)
    (put _ kind.OpenParen (codes "(")
    (beside _ (AnyWord key) (any_word key h)
    (token _ kind.At (codes "@") (λ q e us k l f vs t m g. p.with_text q l m k t)))))

abbrev Annotations : List (List ℕ × List ℕ) → List Lexeme → Type 0
Annotations all us = AreAnnotations us all

annotations : (xs : List (List ℕ × List ℕ)) → AreWritableAnnotations xs → (done : List (List ℕ × List ℕ)) (acc : List TokenText) → Read acc (Annotations done) → Read (annotations_words xs acc) (Annotations (done ++ xs))
annotations [] h done acc r = λ us e. subst (AreAnnotations us) (sym (append-nil done)) (r us e)
annotations (x ∷ xs) h done acc r =
    subst (λ ys. Read (annotations_words xs (acc ++ annotation_words x.0 x.1)) (Annotations ys)) (append_assoc done (x ∷ []) xs)
    (annotations xs h.2 (done ++ x ∷ []) (acc ++ annotation_words x.0 x.1)
    (beside (Annotations (done ++ x ∷ [])) (Annotation x.0 x.1) (annotation x.0 x.1 h.0 h.1) (λ us e vs a. p.more_annotations (r us e) a)))

-- ---- the scope

abbrev Ref : TokenKind → Reference → List Lexeme → Type 0
Ref slot r us = IsReference slot us r

reference : (slot : TokenKind) (text : List ℕ) (r : Reference) → IsWritableReference r → Read (reference_words slot text r) (Ref slot r)
reference slot text (free.entity uid) h = λ us e. sc.to_entity (entity uid h.0 h.1 us e)
reference slot text free.own_slot h = token (Ref slot free.own_slot) slot text (λ q e. sc.to_slot q)

abbrev Asked : TokenKind → Constraint → List Lexeme → Type 0
Asked slot c us = Asks slot us c

asks : (slot : TokenKind) (text : List ℕ) (c : Constraint) → IsWritableConstraint c → Read (asks_words slot text c) (Asked slot c)
asks slot text free.any h = nothing (Asked slot free.any) sc.nothing
asks slot text (free.equal_to r) h = beside (Asked slot (free.equal_to r)) (Ref slot r) (reference slot text r h) (token _ kind.EqEq (codes "==") (λ q e us a. sc.to_be q a))
asks slot text (free.inside r) h = beside (Asked slot (free.inside r)) (Ref slot r) (reference slot text r h) (token _ kind.In (codes "in") (λ q e us a. sc.to_be_in q a))
asks slot text (free.typed t) h = beside (Asked slot (free.typed t)) (Name t.name.path t.name.id) (name t.name h) (token _ kind.Is (codes "is") (λ q e us a. sc.to_be_of_type q a))
asks slot text (free.typed_inside t r) h =
    beside (Asked slot (free.typed_inside t r)) (Ref slot r) (reference slot text r h.1)
    (put _ kind.In (codes "in")
    (beside _ (Name t.name.path t.name.id) (name t.name h.0)
    (token _ kind.Is (codes "is") (λ q e us n l f vs a. sc.to_be_of_type_in q l n a))))

abbrev Entities : List EntityUID → List Lexeme → Type 0
Entities uids us = AreEntities us uids

more_entities : (us : List EntityUID) → AreWritableEntities us → (done : List EntityUID) (acc : List TokenText) → Read acc (Entities done) → Read (more_entities_words us acc) (Entities (done ++ us))
more_entities [] h done acc r = λ us e. subst (AreEntities us) (sym (append-nil done)) (r us e)
more_entities (x ∷ xs) h done acc r =
    subst (λ ys. Read (more_entities_words xs (acc ++ comma ++ entity_words x)) (Entities ys)) (append_assoc done (x ∷ []) xs)
    (more_entities xs h.1 (done ++ x ∷ []) (acc ++ comma ++ entity_words x)
    (beside (Entities (done ++ x ∷ [])) (Entity x) (entity x h.0.0 h.0.1) (put _ kind.Comma (codes ",") (λ us e q f vs a. sc.more_entities q (r us e) (sc.bare_entity a)))))

abbrev EntityList : List EntityUID → List Lexeme → Type 0
EntityList uids us = IsEntityList us uids

entities : (us : List EntityUID) → AreWritableEntities us → Read (entities_words us) (EntityList us)
entities [] h = nothing (EntityList []) sc.no_entities
entities (x ∷ xs) h = λ us e. sc.listed (more_entities xs h.1 (x ∷ []) (entity_words x) (λ vs f. sc.first_entity (sc.bare_entity (entity x h.0.0 h.0.1 vs f))) us e)

abbrev Actions : List EntityUID → List Lexeme → Type 0
Actions uids us = AreActions us uids

abbrev AskedAction : ActionConstraint → List Lexeme → Type 0
AskedAction a us = AsksAction us a

asks_action : (a : ActionConstraint) → IsWritableAction a → Read (action_words a) (AskedAction a)
asks_action action.Any h = nothing (AskedAction action.Any) sc.nothing
asks_action (action.Eq uid) h = beside (AskedAction (action.Eq uid)) (Entity uid) (entity uid h.0.0 h.0.1) (token _ kind.EqEq (codes "==") (λ q e us a. sc.to_be q (sc.bare_entity a) h.1))
asks_action (action.In uids) h =
    beside (AskedAction (action.In uids)) (Actions uids)
    (put (Actions uids) kind.CloseBracket (codes "]") (beside _ (EntityList uids) (entities uids h.0) (token _ kind.OpenBracket (codes "[") (λ l e us a m f. sc.action_set l m a))))
    (token _ kind.In (codes "in") (λ q e us a. sc.to_be_in q a h.1))

abbrev Scope : Constraint → ActionConstraint → Constraint → List Lexeme → Type 0
Scope c a r us = IsScope us c a r

Behind : TokenKind → (List Lexeme → Type 0) → List Lexeme → Type 0
Behind k Q us = (q : Spot) × (vs : List Lexeme) × (us ≡ one k q ++ vs) × Q vs

headed : (k : TokenKind) (text : List ℕ) {ws : List TokenText} (Q : List Lexeme → Type 0) → Read ws Q → Read (alone k text ++ ws) (Behind k Q)
unfolding Behind
headed k text Q r = beside (Behind k Q) Q r (token _ k text (λ q e vs a. (q, vs, refl, a)))

scope : (c : Constraint) (a : ActionConstraint) (r : Constraint) → IsWritableConstraint c → IsWritableAction a → IsWritableConstraint r → Read (scope_words c a r) (Scope c a r)
unfolding Behind
scope c a r hc ha hr =
    beside (Scope c a r) (Behind kind.Resource (Asked kind.ResourceSlot r)) (headed kind.Resource (codes "resource") (Asked kind.ResourceSlot r) (asks kind.ResourceSlot (codes "?resource") r hr))
    (put _ kind.Comma (codes ",")
    (beside _ (Behind kind.Action (AskedAction a)) (headed kind.Action (codes "action") (AskedAction a) (asks_action a ha))
    (put _ kind.Comma (codes ",")
    (λ us e l f vs x m g ys z.
    let first = headed kind.Principal (codes "principal") (Asked kind.PrincipalSlot c) (asks kind.PrincipalSlot (codes "?principal") c hc) us e in
    whole c a r us vs ys l m first x z))))
  where
    whole : (c : Constraint) (a : ActionConstraint) (r : Constraint) (us vs ys : List Lexeme) (l m : Spot) → Behind kind.Principal (Asked kind.PrincipalSlot c) us → Behind kind.Action (AskedAction a) vs → Behind kind.Resource (Asked kind.ResourceSlot r) ys
        → IsScope (us ++ one kind.Comma l ++ vs ++ one kind.Comma m ++ ys) c a r
    whole c a r us vs ys l m x y z =
        subst (λ t. IsScope (t ++ one kind.Comma l ++ vs ++ one kind.Comma m ++ ys) c a r) (sym x.2)
        (subst (λ t. IsScope ((one kind.Principal x.0 ++ x.1) ++ one kind.Comma l ++ t ++ one kind.Comma m ++ ys) c a r) (sym y.2)
        (subst (λ t. IsScope ((one kind.Principal x.0 ++ x.1) ++ one kind.Comma l ++ (one kind.Action y.0 ++ y.1) ++ one kind.Comma m ++ t) c a r) (sym z.2)
        (subst (λ t. IsScope t c a r) (append-nil ((one kind.Principal x.0 ++ x.1) ++ one kind.Comma l ++ (one kind.Action y.0 ++ y.1) ++ one kind.Comma m ++ (one kind.Resource z.0 ++ z.1)))
        (sc.scope x.0 l y.0 m z.0 x.3 y.3 z.3 sc.no_comma))))

-- ---- conditions

-- without slots the value is the very same
exact : {table : Extensions} {limit : ℕ} {a : Value} {us : List Lexeme} → slots_of a ≡ [] → M table limit (sort_of a) a us → Means table limit expression us a × (slots_of a ≡ [])
exact {table = table} {limit = limit} {a = a} {us = us} h m =
    let bare : without_places a ≡ a = no_place a h in
    let hidden : slots_of (without_places m.value) ≡ [] = ap slots_of (m.same ∙ bare) ∙ h in
    let same : m.value ≡ a = sym (no_place m.value (none_hidden m.value hidden)) ∙ m.same ∙ bare in
    (subst (Means table limit expression us) same (frees (sort_of a) m.is), h)

abbrev Condition : Extensions → ℕ → Value → List Lexeme → Type 0
Condition table limit a us = IsCondition table limit us a

when : (table : Extensions) (limit : ℕ) (a : Value) → IsWritable table limit a → slots_of a ≡ [] → Read (body_words kind.When (codes "when") (words table a)) (Condition table limit a)
when table limit a h f =
    put (Condition table limit a) kind.CloseBrace (codes "}")
    (beside _ (M table limit (sort_of a) a) (reads table limit a h)
    (put _ kind.OpenBrace (codes "{")
    (token _ kind.When (codes "when") (λ q e l g us m n i. let x = exact f m in p.when q l n x.0 x.1))))

unless : (table : Extensions) (limit : ℕ) (a : Value) → IsWritable table limit a → slots_of a ≡ [] → Read (body_words kind.Unless (codes "unless") (words table a)) (Condition table limit (v.not a))
unless table limit a h f =
    put (Condition table limit (v.not a)) kind.CloseBrace (codes "}")
    (beside _ (M table limit (sort_of a) a) (reads table limit a h)
    (put _ kind.OpenBrace (codes "{")
    (token _ kind.Unless (codes "unless") (λ q e l g us m n i. let x = exact f m in p.unless q l n x.0 x.1))))

condition : (table : Extensions) (limit : ℕ) (a : Value) → IsWritableCondition table limit a → Read (condition_words table a) (Condition table limit a)
condition table limit (v.not a) h = unless table limit a h.0 h.1
condition table limit a h = when table limit a h.0 h.1

abbrev Conditions : Extensions → ℕ → List Value → List Lexeme → Type 0
Conditions table limit cs us = AreConditions table limit us cs

conditions : (table : Extensions) (limit : ℕ) (cs : List Value) → AreWritableConditions table limit cs → (done : List Value) (acc : List TokenText) → Read acc (Conditions table limit done) → Read (conditions_words table cs acc) (Conditions table limit (done ++ cs))
conditions table limit [] h done acc r = λ us e. subst (AreConditions table limit us) (sym (append-nil done)) (r us e)
conditions table limit (c ∷ cs) h done acc r =
    subst (λ ys. Read (conditions_words table cs (acc ++ condition_words table c)) (Conditions table limit ys)) (append_assoc done (c ∷ []) cs)
    (conditions table limit cs h.1 (done ++ c ∷ []) (acc ++ condition_words table c)
    (beside (Conditions table limit (done ++ c ∷ [])) (Condition table limit c) (condition table limit c h.0) (λ us e vs a. p.more_conditions (r us e) a)))

rest_of : Value → List Value
rest_of (v.and a b) = conditions_in b
rest_of a = []

joint : (a : Value) → joint_condition (conditions_in a) ≡ Some a
unfolding conditions_in
joint (v.and a b) = more a (conditions_in b) b (joint b)
  where
    more : (a : Value) (cs : List Value) (b : Value) → joint_condition cs ≡ Some b → joint_condition (a ∷ cs) ≡ Some (v.and a b)
    more a [] b e = absurd (cc)
    more a (c ∷ cs) b e = let same : conjunction_value c cs ≡ b = cc in ap (λ x. Some (v.and a x)) same
joint a = refl

joint_all : (c : Option Value) → joint_condition (conditions_of c) ≡ c
joint_all None = refl
joint_all (Some a) = joint a

-- ---- policies

abbrev Effective : Effect → List Lexeme → Type 0
Effective f us = (k : TokenKind) × (q : Spot) × (us ≡ one k q) × IsEffect k f

effect : (f : Effect) → Read (effect_words f) (Effective f)
effect effects.Permit = token (Effective effects.Permit) kind.Permit (codes "permit") (λ q e. (kind.Permit, q, refl, p.permit))
effect effects.Forbid = token (Effective effects.Forbid) kind.Forbid (codes "forbid") (λ q e. (kind.Forbid, q, refl, p.forbid))

abbrev P : Extensions → ℕ → List ℕ → Policy → List Lexeme → Type 0
P table limit id x us = IsPolicy table limit id us x

pub policy : (table : Extensions) (limit : ℕ) (id : List ℕ) (parts : Parts) → IsWritablePolicy table limit parts → Read (policy_words table parts) (P table limit id (assembled id parts))
policy table limit id parts h =
    put (P table limit id (assembled id parts)) kind.Semicolon (codes ";")
    (beside _ (Conditions table limit (conditions_of parts.condition)) (conditions table limit (conditions_of parts.condition) h.conditions [] [] (nothing (Conditions table limit []) p.no_condition))
    (put _ kind.CloseParen (codes ")")
    (beside _ (Scope parts.principal parts.action parts.resource) (scope parts.principal parts.action parts.resource h.principal h.action h.resource)
    (put _ kind.OpenParen (codes "(")
    (beside _ (Effective parts.effect) (effect parts.effect)
    (λ us e vs f l x ws s m y zs c n z.
    let a = annotations parts.annotations h.annotations [] [] (nothing (Annotations []) p.no_annotation) us e in
    subst (λ d. IsPolicy table limit id (us ++ vs ++ one kind.OpenParen l ++ ws ++ one kind.CloseParen m ++ zs ++ one kind.Semicolon n) (assembled id (record parts { condition = d }))) (joint_all parts.condition)
    (subst (λ t. IsPolicy table limit id (us ++ t ++ one kind.OpenParen l ++ ws ++ one kind.CloseParen m ++ zs ++ one kind.Semicolon n) (assembled id (record parts { condition = joint_condition (conditions_of parts.condition) }))) (sym f.2)
    (p.policy f.1 l m n a h.keys_differ f.3 s c))))))))

-- ---- sets

abbrev Ps : Extensions → ℕ → List Policy → List Lexeme → Type 0
Ps table limit xs us = ArePolicies table limit us xs

policies : (table : Extensions) (limit : ℕ) (xs : List Parts) → AreWritablePolicies table limit xs → (done : List Policy) (acc : List TokenText) → Read acc (Ps table limit done) → Read (policies_words table xs acc) (Ps table limit (done ++ numbered_policies (length done) xs))
policies table limit [] h done acc r = λ us e. subst (ArePolicies table limit us) (sym (append-nil done)) (r us e)
policies table limit (x ∷ xs) h done acc r =
    let one_more = assembled (policy_id (length done)) x in
    let n : length (done ++ one_more ∷ []) ≡ length done + 1 = omega (arith, length-append done (one_more ∷ [])) in
    let more = policies table limit xs h.1 (done ++ one_more ∷ []) (acc ++ policy_words table x)
    (beside (Ps table limit (done ++ one_more ∷ [])) (P table limit (policy_id (length done)) one_more) (policy table limit (policy_id (length done)) x h.0) (λ us e vs a. p.more_policies (r us e) a)) in
    subst (λ ys. Read (policies_words table xs (acc ++ policy_words table x)) (Ps table limit ys)) (append_assoc done (one_more ∷ []) (numbered_policies (length done + 1) xs))
    (subst (λ k. Read (policies_words table xs (acc ++ policy_words table x)) (Ps table limit ((done ++ one_more ∷ []) ++ numbered_policies k xs))) n more)

pub all_policies : (table : Extensions) (limit : ℕ) (xs : List Parts) → AreWritablePolicies table limit xs → Read (policies_words table xs []) (λ us. IsPolicySet table limit us (fold with_policy no_policies (numbered_policies 0 xs)))
all_policies table limit xs h = λ us e. p.policy_set (policies table limit xs h [] [] (nothing (Ps table limit []) p.no_policy) us e)
