-- The words of a writable policy are spelled.
use Rattle.std.proofs.Common.{◌≡◌, ℕ, Bool, true, false, List, [], ◌∷◌, ◌++◌, refl, sym, ap, subst, codes, Some}
use Rattle.std.specs.Prelude.{◌&&◌, not}
use Rattle.std.specs.Str.{IsUtf8, bytes_eq}
use Rattle.std.specs.Cmp.Derive.{both_true}
use Rattle.std.proofs.lemmas.Bool.{cond_both}
use Rattle.cedar_lexer.specs.Spelling.{Spells, one_text}
use Rattle.cedar_lexer.specs.Words.{TokenText, AreSpelled}
use Rattle.cedar_lexer.specs.declared.token.TokenKind.{TokenKind}
use Rattle.cedar_lexer.specs.declared.token.TokenKind.TheVariants as kind
use Rattle.cedar_expressions.specs.declared.entity.EntityUID.{EntityUID}
use Rattle.cedar_expressions.specs.Path.{is_identifier}
use Rattle.cedar_expressions.specs.Value as v
use Rattle.cedar_expressions.specs.Value.{Value}
use Rattle.cedar_policy_store.specs.declared.constraints.ActionConstraint.{ActionConstraint}
use Rattle.cedar_policy_store.specs.declared.constraints.ActionConstraint.TheVariants as action
use Rattle.cedar_policy_store.specs.declared.effect.Effect.{Effect}
use Rattle.cedar_policy_store.specs.declared.effect.Effect.TheVariants as effects
use Rattle.cedar_policy_store.specs.PlaceFree as free
use Rattle.cedar_policy_store.specs.PlaceFree.{Reference, Constraint}
use Rattle.cedar_conversion.specs.strict.Extensions.{Extensions}
use Rattle.cedar_writer.specs.WrittenWords.{alone, kind_in, name_words, text_words, entity_words}
use Rattle.cedar_writer.specs.Writing.{words, comma}
use Rattle.cedar_writer.specs.WrittenPolicies.{Parts, key_kinds, annotation_words, annotations_words, reference_words, asks_words, in_word, is_keyword, more_entities_words, entities_words, action_words, scope_words, conditions_of, body_words, condition_words, conditions_words, effect_words, policy_words, policies_words, AreWritableAnnotations, AreWritableEntities, IsWritableReference, IsWritableConstraint, IsWritableAction, IsWritableCondition, AreWritableConditions, IsWritablePolicy, AreWritablePolicies}
use Rattle.cedar_writer.proofs.Leaves.{same_bytes}
use Rattle.cedar_writer.proofs.Spelled.{join, around, is_word as is_listed, identifier_text, or_left, name_spelled, text_spelled, entity_spelled, spelled}

abbrev is_key : List ℕ → Bool
is_key id = is_identifier id && not (is_listed key_kinds id)

clash : (t id : List ℕ) → Some t ≡ Some id → is_key t ≡ false → is_key id ≡ true → ⊥
clash t id e f h =
    let same : t ≡ id = cc in
    let no : is_key id ≡ false = subst (λ x. is_key x ≡ false) same f in
    cc

no_own_kind : (k : TokenKind) (id : List ℕ) → one_text k ≡ Some id → is_key id ≡ true → ⊥
no_own_kind kind.True id e h = clash (codes "true") id e refl h
no_own_kind kind.False id e h = clash (codes "false") id e refl h
no_own_kind kind.If id e h = clash (codes "if") id e refl h
no_own_kind kind.Permit id e h = clash (codes "permit") id e refl h
no_own_kind kind.Forbid id e h = clash (codes "forbid") id e refl h
no_own_kind kind.When id e h = clash (codes "when") id e refl h
no_own_kind kind.Unless id e h = clash (codes "unless") id e refl h
no_own_kind kind.In id e h = clash (codes "in") id e refl h
no_own_kind kind.Has id e h = clash (codes "has") id e refl h
no_own_kind kind.Like id e h = clash (codes "like") id e refl h
no_own_kind kind.Is id e h = clash (codes "is") id e refl h
no_own_kind kind.Then id e h = clash (codes "then") id e refl h
no_own_kind kind.Else id e h = clash (codes "else") id e refl h
no_own_kind kind.Principal id e h = clash (codes "principal") id e refl h
no_own_kind kind.Action id e h = clash (codes "action") id e refl h
no_own_kind kind.Resource id e h = clash (codes "resource") id e refl h
no_own_kind kind.Context id e h = clash (codes "context") id e refl h
no_own_kind kind.PrincipalSlot id e h = clash (codes "?principal") id e refl h
no_own_kind kind.ResourceSlot id e h = clash (codes "?resource") id e refl h
no_own_kind kind.OtherSlot id e h = cc
no_own_kind kind.Identifier id e h = cc
no_own_kind kind.Number id e h = cc
no_own_kind kind.StringLit id e h = cc
no_own_kind kind.At id e h = clash (codes "@") id e refl h
no_own_kind kind.Dot id e h = clash (codes ".") id e refl h
no_own_kind kind.Comma id e h = clash (codes ",") id e refl h
no_own_kind kind.Semicolon id e h = clash (codes ";") id e refl h
no_own_kind kind.Colon id e h = clash (codes ":") id e refl h
no_own_kind kind.ColonColon id e h = clash (codes "::") id e refl h
no_own_kind kind.OpenParen id e h = clash (codes "(") id e refl h
no_own_kind kind.CloseParen id e h = clash (codes ")") id e refl h
no_own_kind kind.OpenBrace id e h = clash (codes "{") id e refl h
no_own_kind kind.CloseBrace id e h = clash (codes "}") id e refl h
no_own_kind kind.OpenBracket id e h = clash (codes "[") id e refl h
no_own_kind kind.CloseBracket id e h = clash (codes "]") id e refl h
no_own_kind kind.EqEq id e h = clash (codes "==") id e refl h
no_own_kind kind.NotEq id e h = clash (codes "!=") id e refl h
no_own_kind kind.Less id e h = clash (codes "<") id e refl h
no_own_kind kind.LessEq id e h = clash (codes "<=") id e refl h
no_own_kind kind.GreaterEq id e h = clash (codes ">=") id e refl h
no_own_kind kind.Greater id e h = clash (codes ">") id e refl h
no_own_kind kind.Eq id e h = clash (codes "=") id e refl h
no_own_kind kind.OrOr id e h = clash (codes "||") id e refl h
no_own_kind kind.AndAnd id e h = clash (codes "&&") id e refl h
no_own_kind kind.Plus id e h = clash (codes "+") id e refl h
no_own_kind kind.Minus id e h = clash (codes "-") id e refl h
no_own_kind kind.Star id e h = clash (codes "*") id e refl h
no_own_kind kind.Slash id e h = clash (codes "/") id e refl h
no_own_kind kind.Percent id e h = clash (codes "%") id e refl h
no_own_kind kind.Bang id e h = clash (codes "!") id e refl h

abbrev Each : List (List ℕ × TokenKind) → List ℕ → Type 0
Each [] id = Unit {0}
Each (x ∷ xs) id = (id ≡ x.0 → Spells x.1 id) × Each xs id

kind_spelled : (ks : List (List ℕ × TokenKind)) (id : List ℕ) → Each ks id → (is_listed ks id ≡ false → Spells kind.Identifier id) → Spells (kind_in ks id) id
kind_spelled [] id h f = f refl
kind_spelled (x ∷ xs) id h f =
    cond_both (bytes_eq id x.0) x.1 (kind_in xs id) (λ k. Spells k id) (λ e. h.0 (same_bytes id x.0 e))
    (λ e. kind_spelled xs id h.1 (λ n. f (or_left (bytes_eq id x.0) (is_listed xs id) false e n)))

key_spelled : (key : List ℕ) → is_identifier key ≡ true → Spells (kind_in key_kinds key) key
key_spelled key h = kind_spelled key_kinds key ((λ e. ap Some (sym e)), ((λ e. ap Some (sym e)), ((λ e. ap Some (sym e)), ((λ e. ap Some (sym e)), ((λ e. ap Some (sym e)), ((λ e. ap Some (sym e)), ((λ e. ap Some (sym e)), ((λ e. ap Some (sym e)), ((λ e. ap Some (sym e)), ((λ e. ap Some (sym e)), ((λ e. ap Some (sym e)), ((λ e. ap Some (sym e)), ((λ e. ap Some (sym e)), ((λ e. ap Some (sym e)), ((λ e. ap Some (sym e)), ((λ e. ap Some (sym e)), ((λ e. ap Some (sym e)), tt))))))))))))))))) (λ n. (identifier_text key h, λ own. no_own_kind own.0 key own.1 (both_true h (ap not n))))

annotation_spelled : (key text : List ℕ) → is_identifier key ≡ true → IsUtf8 text → AreSpelled (annotation_words key text)
annotation_spelled key text h u =
    join (alone kind.At (codes "@") ++ alone (kind_in key_kinds key) key ++ alone kind.OpenParen (codes "(") ++ text_words text) (alone kind.CloseParen (codes ")"))
    (refl, (key_spelled key h, (refl, text_spelled text u))) (refl, tt)

annotations_spelled : (xs : List (List ℕ × List ℕ)) (acc : List TokenText) → AreWritableAnnotations xs → AreSpelled acc → AreSpelled (annotations_words xs acc)
annotations_spelled [] acc h k = k
annotations_spelled (x ∷ xs) acc h k = annotations_spelled xs (acc ++ annotation_words x.0 x.1) h.2 (join acc (annotation_words x.0 x.1) k (annotation_spelled x.0 x.1 h.0 h.1))

reference_spelled : (slot : TokenKind) (text : List ℕ) (r : Reference) → Spells slot text → IsWritableReference r → AreSpelled (reference_words slot text r)
reference_spelled slot text (free.entity uid) s h = entity_spelled uid h.0 h.1
reference_spelled slot text free.own_slot s h = (s, tt)

asks_spelled : (slot : TokenKind) (text : List ℕ) (c : Constraint) → Spells slot text → IsWritableConstraint c → AreSpelled (asks_words slot text c)
asks_spelled slot text free.any s h = tt
asks_spelled slot text (free.equal_to r) s h = (refl, reference_spelled slot text r s h)
asks_spelled slot text (free.inside r) s h = (refl, reference_spelled slot text r s h)
asks_spelled slot text (free.typed t) s h = (refl, name_spelled t.name h)
asks_spelled slot text (free.typed_inside t r) s h = around (is_keyword ++ name_words t.name) in_word (reference_words slot text r) (refl, name_spelled t.name h.0) (refl, tt) (reference_spelled slot text r s h.1)

more_entities_spelled : (us : List EntityUID) (acc : List TokenText) → AreWritableEntities us → AreSpelled acc → AreSpelled (more_entities_words us acc)
more_entities_spelled [] acc h k = k
more_entities_spelled (u ∷ us) acc h k = more_entities_spelled us (acc ++ comma ++ entity_words u) h.1 (around acc comma (entity_words u) k (refl, tt) (entity_spelled u h.0.0 h.0.1))

entities_spelled : (us : List EntityUID) → AreWritableEntities us → AreSpelled (entities_words us)
entities_spelled [] h = tt
entities_spelled (u ∷ us) h = more_entities_spelled us (entity_words u) h.1 (entity_spelled u h.0.0 h.0.1)

action_spelled : (a : ActionConstraint) → IsWritableAction a → AreSpelled (action_words a)
action_spelled action.Any h = tt
action_spelled (action.Eq uid) h = (refl, entity_spelled uid h.0.0 h.0.1)
action_spelled (action.In uids) h = (refl, (refl, join (entities_words uids) (alone kind.CloseBracket (codes "]")) (entities_spelled uids h.0) (refl, tt)))

scope_spelled : (c : Constraint) (a : ActionConstraint) (r : Constraint) → IsWritableConstraint c → IsWritableAction a → IsWritableConstraint r → AreSpelled (scope_words c a r)
scope_spelled c a r hc ha hr =
    around ((alone kind.Principal (codes "principal") ++ asks_words kind.PrincipalSlot (codes "?principal") c) ++ comma ++ (alone kind.Action (codes "action") ++ action_words a)) comma (alone kind.Resource (codes "resource") ++ asks_words kind.ResourceSlot (codes "?resource") r)
    (around (alone kind.Principal (codes "principal") ++ asks_words kind.PrincipalSlot (codes "?principal") c) comma (alone kind.Action (codes "action") ++ action_words a)
    (refl, asks_spelled kind.PrincipalSlot (codes "?principal") c refl hc) (refl, tt) (refl, action_spelled a ha)) (refl, tt) (refl, asks_spelled kind.ResourceSlot (codes "?resource") r refl hr)

body_spelled : (k : TokenKind) (text : List ℕ) (ws : List TokenText) → Spells k text → AreSpelled ws → AreSpelled (body_words k text ws)
body_spelled k text ws s h = join (alone k text ++ alone kind.OpenBrace (codes "{") ++ ws) (alone kind.CloseBrace (codes "}")) (s, (refl, h)) (refl, tt)

condition_spelled : (table : Extensions) (limit : ℕ) (a : Value) → IsWritableCondition table limit a → AreSpelled (condition_words table a)
condition_spelled table limit (v.not a) h = body_spelled kind.Unless (codes "unless") (words table a) refl (spelled table limit a h.0)
condition_spelled table limit a h = body_spelled kind.When (codes "when") (words table a) refl (spelled table limit a h.0)

conditions_spelled : (table : Extensions) (limit : ℕ) (cs : List Value) (acc : List TokenText) → AreWritableConditions table limit cs → AreSpelled acc → AreSpelled (conditions_words table cs acc)
conditions_spelled table limit [] acc h k = k
conditions_spelled table limit (c ∷ cs) acc h k = conditions_spelled table limit cs (acc ++ condition_words table c) h.1 (join acc (condition_words table c) k (condition_spelled table limit c h.0))

effect_spelled : (f : Effect) → AreSpelled (effect_words f)
effect_spelled effects.Permit = (refl, tt)
effect_spelled effects.Forbid = (refl, tt)

pub policy_spelled : (table : Extensions) (limit : ℕ) (x : Parts) → IsWritablePolicy table limit x → AreSpelled (policy_words table x)
policy_spelled table limit x h =
    let a = annotations_words x.annotations [] in
    let f = effect_words x.effect in
    let s = scope_words x.principal x.action x.resource in
    let c = conditions_words table (conditions_of x.condition) [] in
    let open_p = alone kind.OpenParen (codes "(") in
    let close_p = alone kind.CloseParen (codes ")") in
    join (a ++ f ++ open_p ++ s ++ close_p ++ c) (alone kind.Semicolon (codes ";"))
    (join (a ++ f ++ open_p ++ s ++ close_p) c
    (join (a ++ f ++ open_p ++ s) close_p
    (around (a ++ f) open_p s (join a f (annotations_spelled x.annotations [] h.annotations tt) (effect_spelled x.effect)) (refl, tt) (scope_spelled x.principal x.action x.resource h.principal h.action h.resource)) (refl, tt))
    (conditions_spelled table limit (conditions_of x.condition) [] h.conditions tt)) (refl, tt)

policies_behind : (table : Extensions) (limit : ℕ) (xs : List Parts) (acc : List TokenText) → AreWritablePolicies table limit xs → AreSpelled acc → AreSpelled (policies_words table xs acc)
policies_behind table limit [] acc h k = k
policies_behind table limit (x ∷ xs) acc h k = policies_behind table limit xs (acc ++ policy_words table x) h.1 (join acc (policy_words table x) k (policy_spelled table limit x h.0))

pub policies_spelled : (table : Extensions) (limit : ℕ) (xs : List Parts) → AreWritablePolicies table limit xs → AreSpelled (policies_words table xs [])
policies_spelled table limit xs h = policies_behind table limit xs [] h tt
