-- A template's words, and what they mean.
use Rattle.std.proofs.Common.{◌≡◌, ℕ, true, false, T, List, [], ◌∷◌, ◌++◌, map, refl, sym, ap, ◌∙◌, subst, codes, append_assoc}
use Rattle.std.specs.FinMap.{entries, entries_sorted, is_sorted}
use Rattle.cedar_lexer.specs.Words.{TokenText}
use Rattle.cedar_lexer.specs.declared.token.TokenKind.TheVariants as kind
use Rattle.cedar_expressions.specs.Slots.{slots_of}
use Rattle.cedar_expressions.specs.Value as v
use Rattle.cedar_expressions.specs.Value.{Value}
use Rattle.cedar_expressions.specs.WithoutPlaces.{without_places}
use Rattle.cedar_conversion.specs.strict.Extensions.{Extensions}
use Rattle.cedar_policy_store.proofs.EqualPolicies.{entries-with_values}
use Rattle.cedar_policy_store.specs.declared.template.Template.{Template}
use Rattle.cedar_policy_store.specs.PlaceFree.{Policy, template_meaning, at_value, annotation_value}
use Rattle.cedar_policy_store.specs.TextMap.{text_order}
use Rattle.cedar_policy_conversion.proofs.SlotFree.{no_place, none_hidden}
use Rattle.cedar_policy_conversion.specs.StrictPolicy.{by_key}
use Rattle.cedar_writer.specs.declared.output.Output.{Output}
use Rattle.cedar_writer.specs.WrittenPolicies.{more_entities_words, entities_words, policies_words, Parts, assembled, conditions_in, body_words, condition_words, conditions_words, policy_words, IsWritableCondition, AreWritableConditions}
use Rattle.cedar_writer.specs.Writable.{IsWritable}
use Rattle.cedar_writer.specs.Writing.{words, comma}
use Rattle.cedar_writer.specs.WrittenTexts.{written_parts}
use Rattle.cedar_writer.specs.machines.Shapes.{is_logical_not, is_joint}
use Rattle.cedar_expressions.specs.declared.entity.EntityUID.{EntityUID}
use Rattle.cedar_writer.specs.machines.Outputs.{Adds}
use Rattle.cedar_writer.specs.WrittenWords.{entity_words}
use Rattle.cedar_writer.proofs.ByKey.{by_key_entries}
use Rattle.cedar_writer.proofs.WordsAdded.{both_added, same_added}

-- ---- annotations

pub annotations_are : (t : Template) → by_key (map (at_value annotation_value) (entries t.annotations)) ≡ (template_meaning t).annotations
annotations_are t = ap by_key (sym (entries-with_values annotation_value t.annotations)) ∙ by_key_entries (template_meaning t).annotations

pub keys_are_apart : (t : Template) → T (is_sorted text_order (map (at_value annotation_value) (entries t.annotations)))
keys_are_apart t = subst (λ es. T (is_sorted text_order es)) (entries-with_values annotation_value t.annotations) (entries_sorted (template_meaning t).annotations)

named : List ℕ → Policy → Policy
named id p = record p { id = id }

-- the parts are the policy's, whatever its name
pub parts_are : (t : Template) (id : List ℕ) → assembled id (written_parts t) ≡ record (template_meaning t) { id = id }
parts_are t id = ap (λ m. record { id = id; annotations = m; effect = t.effect; principal = (written_parts t).principal; action = t.action; resource = (written_parts t).resource; condition = (written_parts t).condition }) (annotations_are t)

-- ---- conditions

true_false : true ≡ false → ⊥
true_false e = cc

pub when_words : (table : Extensions) (a : Value) → is_logical_not a ≡ false → condition_words table (without_places a) ≡ body_words kind.When (codes "when") (words table (without_places a))
unfolding without_places
when_words table (v.not a) e = absurd (true_false e)
when_words table a e = refl

pub when_writable : (table : Extensions) (limit : ℕ) (a : Value) → is_logical_not a ≡ false → IsWritable table limit (without_places a) × (slots_of (without_places a) ≡ []) → IsWritableCondition table limit (without_places a)
unfolding without_places
when_writable table limit (v.not a) e h = absurd (true_false e)
when_writable table limit a e h = h

pub when_was_writable : (table : Extensions) (limit : ℕ) (a : Value) → is_logical_not a ≡ false → IsWritableCondition table limit (without_places a) → IsWritable table limit (without_places a) × (slots_of (without_places a) ≡ [])
unfolding without_places
when_was_writable table limit (v.not a) e h = absurd (true_false e)
when_was_writable table limit a e h = h

pub alone_in : (a : Value) → is_joint a ≡ false → conditions_in (without_places a) ≡ without_places a ∷ []
unfolding without_places conditions_in
alone_in (v.and a b) e = absurd (true_false e)
alone_in a e = refl

pub conditions_more : (table : Extensions) (cs : List Value) (c : Value) (acc : List TokenText) → conditions_words table (cs ++ c ∷ []) acc ≡ conditions_words table cs acc ++ condition_words table c
conditions_more table [] c acc = refl
conditions_more table (x ∷ xs) c acc = conditions_more table xs c (acc ++ condition_words table x)

pub both_conditions : (table : Extensions) (limit : ℕ) (cs ds : List Value) → AreWritableConditions table limit cs → AreWritableConditions table limit ds → AreWritableConditions table limit (cs ++ ds)
both_conditions table limit [] ds h k = k
both_conditions table limit (c ∷ cs) ds h k = (h.0, both_conditions table limit cs ds h.1 k)

pub later_conditions : (table : Extensions) (limit : ℕ) (cs ds : List Value) → AreWritableConditions table limit (cs ++ ds) → AreWritableConditions table limit ds
later_conditions table limit [] ds h = h
later_conditions table limit (c ∷ cs) ds h = later_conditions table limit cs ds h.1

-- a value without slots has no place
pub bare : (a : Value) → slots_of a ≡ [] → without_places a ≡ a
bare a h = no_place a h

pub hidden : (a : Value) → slots_of (without_places a) ≡ [] → slots_of a ≡ []
hidden a h = none_hidden a h

-- ---- one condition more, one entity more, one policy more

pub joint_in : (a b c : Value) → a ≡ v.and b c → conditions_in (without_places a) ≡ without_places b ∷ conditions_in (without_places c)
unfolding without_places conditions_in
joint_in a b c e = ap (λ x. conditions_in (without_places x)) e

pub conditions_on : (table : Extensions) (a b c : Output) (cs : List Value) (d : Value) → Adds a b (conditions_words table cs []) → Adds b c (condition_words table d) → Adds a c (conditions_words table (cs ++ d ∷ []) [])
conditions_on table a b c cs d h k =
    same_added a c (conditions_words table cs [] ++ condition_words table d) (conditions_words table (cs ++ d ∷ []) []) (sym (conditions_more table cs d []))
    (both_added a b c (conditions_words table cs []) (condition_words table d) h k)

pub conditions_left : (all cs left rest : List Value) (d : Value) → all ≡ cs ++ left → left ≡ d ∷ rest → all ≡ (cs ++ d ∷ []) ++ rest
conditions_left all cs left rest d e f = e ∙ ap (λ x. cs ++ x) f ∙ sym (append_assoc cs (d ∷ []) rest)

more_entities : (us : List EntityUID) (u : EntityUID) (acc : List TokenText) → more_entities_words (us ++ u ∷ []) acc ≡ more_entities_words us acc ++ comma ++ entity_words u
more_entities [] u acc = refl
more_entities (x ∷ xs) u acc = more_entities xs u (acc ++ comma ++ entity_words x)

pub entities_on : (a b c d : Output) (first : EntityUID) (us : List EntityUID) (u : EntityUID) → Adds a b (entities_words (first ∷ us)) → Adds b c comma → Adds c d (entity_words u) → Adds a d (entities_words (first ∷ us ++ u ∷ []))
entities_on a b c d first us u h k l =
    same_added a d (entities_words (first ∷ us) ++ comma ++ entity_words u) (entities_words (first ∷ us ++ u ∷ [])) (sym (more_entities us u (entity_words first)))
    (both_added a c d (entities_words (first ∷ us) ++ comma) (entity_words u) (both_added a b c (entities_words (first ∷ us)) comma h k) l)

policies_more : (table : Extensions) (xs : List Parts) (x : Parts) (acc : List TokenText) → policies_words table (xs ++ x ∷ []) acc ≡ policies_words table xs acc ++ policy_words table x
policies_more table [] x acc = refl
policies_more table (y ∷ ys) x acc = policies_more table ys x (acc ++ policy_words table y)

pub policies_on : (table : Extensions) (a b c : Output) (xs : List Parts) (x : Parts) → Adds a b (policies_words table xs []) → Adds b c (policy_words table x) → Adds a c (policies_words table (xs ++ x ∷ []) [])
policies_on table a b c xs x h k =
    same_added a c (policies_words table xs [] ++ policy_words table x) (policies_words table (xs ++ x ∷ []) []) (sym (policies_more table xs x []))
    (both_added a b c (policies_words table xs []) (policy_words table x) h k)
