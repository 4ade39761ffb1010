-- Annotations of a policy: what a key and its string give, and the keys of a policy's annotations,
-- all of them different. The rules are those of Cedar's `to_kv_pair` and `get_ast_annotations`.
use Rattle.std.specs.Prelude.{ℕ, List, [], ◌∷◌, ◌++◌, fold, Option, Some, None, Ok, Err, Bool, if◌then◌else◌, unwrap_or, ◌≡◌, string_bytes, Result}
use denote.Ref.{Bor}
use denote.Param.Members.{Shared}
use Rattle.std.specs.List.{list_any}
use Rattle.std.specs.Option.{option_map, option_copied}
use Rattle.std.specs.declared.alloc.Global.{Global}
use Rattle.std.specs.declared.string.String.{String}
use Rattle.std.specs.BTreeMap.{BTreeMap}
use Rattle.std.specs.FinMap.{FinMap, insert, empty}
use Rattle.std.specs.Str.{bytes_eq}
use Rattle.cedar_policy_store.specs.declared.annotation.Annotation.{Annotation as Kept}
use Rattle.cedar_policy_store.specs.TextMap.{map_in, text_order}
use Rattle.cedar_syntax.specs.declared.cst.Annotation.{Annotation}
use Rattle.cedar_syntax.specs.declared.cst.Str.{Str}
use Rattle.cedar_syntax.specs.declared.err.faults.Failure.{Failure}
use Rattle.cedar_syntax.specs.declared.loc.Loc.{Loc}
use Rattle.cedar_syntax.specs.declared.node.Node.{Node}
use Rattle.cedar_conversion.specs.parts.Entities.{id_outcome}
use Rattle.cedar_conversion.specs.parts.Names.{content_outcome, any_ident}
use Rattle.cedar_conversion.specs.outcome.Detail.{spelling}
use Rattle.cedar_conversion.specs.outcome.Outcome.{Outcome, detailed_outcome, both, next, duplicate_annotation, item_more}
use Rattle.cedar_conversion.specs.outcome.Places.{place_mark}
use Rattle.cedar_conversion.specs.outcome.Seen.{Refuses}

-- a key, the text that its string stands for, if there is one, and the annotation's place
pub record AnnotationContent : Type 0 where
  pub key : List ℕ
  pub text : Option (List ℕ)
  pub place : Option Loc

-- escape faults of the string stand at the annotation's place
abbrev pub value_text_outcome : Option Loc → Option (Node (Option Str)) → Outcome (Option (List ℕ))
value_text_outcome place (Some n) = next (id_outcome place n) (λ text. Ok (Some text))
value_text_outcome place None = Ok None

abbrev pub annotation_at : Option Loc → List ℕ × Option (List ℕ) → AnnotationContent
annotation_at place p = record { key = p.0; text = p.1; place = place }

-- key and string joined
abbrev pub key_value_outcome : Option Loc → Annotation → Outcome AnnotationContent
key_value_outcome place a =
    next (both (any_ident a.key) (value_text_outcome place a.value))
    (λ p. Ok (annotation_at place p))

abbrev pub annotation_outcome : Node (Option Annotation) → Outcome AnnotationContent
annotation_outcome n = next (content_outcome n.loc n.node) (key_value_outcome n.loc)

-- ---- all of a policy

abbrev pub has_key : List (List ℕ) → List ℕ → Bool
has_key keys key = list_any (bytes_eq key) keys

-- a key that an earlier annotation has, if that one converted, is refused at the later one
abbrev pub with_new_key : List (List ℕ) → AnnotationContent → Outcome AnnotationContent
with_new_key keys a =
    if has_key keys a.key
    then detailed_outcome duplicate_annotation a.place (spelling a.key) else Ok a

abbrev pub converted_key : Outcome AnnotationContent → List (List ℕ)
converted_key (Ok a) = a.key ∷ []
converted_key (Err fs) = []

-- the keys of those that converted, and what all of them give
pub record Gathering : Type 0 where
  pub keys : List (List ℕ)
  pub all : Outcome (List AnnotationContent)

abbrev pub gathering_with : Gathering → Outcome AnnotationContent → Gathering
gathering_with g a = record {
  keys = g.keys ++ converted_key a;
  all = item_more g.all (next a (with_new_key g.keys));
}

abbrev pub gathering_with_node : Gathering → Node (Option Annotation) → Gathering
gathering_with_node g n = gathering_with g (annotation_outcome n)

abbrev pub empty_gathering : Gathering
empty_gathering = record { keys = []; all = Ok [] }

abbrev pub gathering : List (Node (Option Annotation)) → Gathering
gathering ns = fold gathering_with_node empty_gathering ns

abbrev pub annotations_outcome : List (Node (Option Annotation)) → Outcome (List AnnotationContent)
annotations_outcome ns = (gathering ns).all

-- ---- as a policy keeps them

-- the empty text where there is no string
abbrev pub kept_annotation : AnnotationContent → Kept
kept_annotation a = record { value = unwrap_or a.text []; place = place_mark a.place }

abbrev pub with_annotation : FinMap text_order Kept → AnnotationContent → FinMap text_order Kept
with_annotation m a = insert m a.key (kept_annotation a)

abbrev pub annotation_map : List AnnotationContent → FinMap text_order Kept
annotation_map all = fold with_annotation empty all

-- ---- what a caller makes of an annotation

-- what f answers for the text and the place of an annotation
pub record Answers {F T : Type 0}
    (g : Shared F (Option (String Global) × (Option (Bor Loc) × Unit {0})) T)
    (f : F) (a : AnnotationContent) (made : T) : Type 0 where
  pub text : Option (String Global)
  pub at : Option (Bor Loc)
  pub spells : option_map string_bytes text ≡ a.text
  pub stands : option_copied at ≡ a.place
  pub says : g.post f (text, (at, tt)) made

-- annotations with what f answers for them, one after another
abbrev pub AnswersEach : {F T : Type 0}
    → Shared F (Option (String Global) × (Option (Bor Loc) × Unit {0})) T → F
    → List AnnotationContent → List T
    → Type 0
AnswersEach g f [] [] = Unit {0}
AnswersEach g f [] (t ∷ ts) = ⊥
AnswersEach g f (a ∷ others) [] = ⊥
AnswersEach g f (a ∷ others) (t ∷ ts) = Answers g f a t × AnswersEach g f others ts

-- these values by the keys of their annotations
abbrev pub paired_keys : {T : Type 0} → List AnnotationContent → List T → List (List ℕ × T)
paired_keys [] ts = []
paired_keys (a ∷ others) [] = []
paired_keys (a ∷ others) (t ∷ ts) = (a.key, t) ∷ paired_keys others ts

abbrev pub with_pair : {T : Type 0} → FinMap text_order T → List ℕ × T → FinMap text_order T
with_pair m p = insert m p.0 p.1

abbrev pub values_by_key : {T : Type 0} → List AnnotationContent → List T → FinMap text_order T
values_by_key all ts = fold with_pair empty (paired_keys all ts)

-- a key with what f answers for its annotation, or the faults
abbrev pub GivesPair : {F T : Type 0}
    → Shared F (Option (String Global) × (Option (Bor Loc) × Unit {0})) T → F
    → Result (List ℕ × T) Failure → Outcome AnnotationContent → Type 0
GivesPair g f (Ok p) outcome =
    (a : AnnotationContent) × (outcome ≡ Ok a) × (a.key ≡ p.0) × Answers g f a p.1
GivesPair g f (Err failure) outcome = Refuses failure outcome

-- what f answers for each annotation, by the keys, or the faults
abbrev pub GivesByKey : {F T : Type 0}
    → Shared F (Option (String Global) × (Option (Bor Loc) × Unit {0})) T → F
    → Result (BTreeMap (List ℕ) T) Failure → Outcome (List AnnotationContent) → Type 0
GivesByKey {T = T} g f (Ok map) outcome =
    (all : List AnnotationContent) × (made : List T) × (outcome ≡ Ok all)
    × AnswersEach g f all made × (map_in map ≡ values_by_key all made)
GivesByKey g f (Err failure) outcome = Refuses failure outcome
