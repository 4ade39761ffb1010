-- Lists that the loops over annotations and faults make, one item more.
use Rattle.std.proofs.Common.{◌≡◌, ◌+◌, ◌<◌, ◌∙◌, ℕ, Bool, true, false, cond, List, [], ◌∷◌, ◌++◌, filter, map, take, length, get_or, unwrap_or, string_bytes, Option, Ok, refl, sym, ap, arith}
use Rattle.std.specs.List.{fold}
use Rattle.std.specs.Option.{option_map, option_copied}
use Rattle.std.specs.FinMap.{FinMap, empty, insert}
use denote.Ref.{Bor}
use denote.Param.Members.{Shared}
use Rattle.std.specs.declared.alloc.Global.{Global}
use Rattle.std.specs.declared.string.String.{String}
use Rattle.cedar_expressions.specs.Placed.{marked_place}
use Rattle.cedar_policy_store.specs.declared.annotation.Annotation.{Annotation as Kept}
use Rattle.cedar_policy_store.specs.TextMap.{text_order}
use Rattle.cedar_syntax.specs.declared.cst.Annotation.{Annotation as AnnotationTree}
use Rattle.cedar_syntax.specs.declared.err.faults.ParseError.{ParseError}
use Rattle.cedar_syntax.specs.declared.loc.Loc.{Loc}
use Rattle.cedar_syntax.specs.declared.node.Node.{Node}
use Rattle.cedar_policy_conversion.specs.AnnotationKeys.{AnnotationContent, Answers, AnswersEach, annotation_map, annotations_outcome, with_pair, with_annotation, kept_annotation, values_by_key, paired_keys}
use Rattle.cedar_conversion.specs.outcome.Outcome.{NamedFault, expected_static_policy}
use Rattle.cedar_policy_conversion.specs.Policies.{is_slot_fault, kept_outcome, slot_faults, slot_told}
use Rattle.cedar_conversion.specs.outcome.Places.{bytes_of}
use Rattle.cedar_conversion.specs.outcome.Seen.{named_faults, named_fault}
use Rattle.cedar_conversion.specs.machines.Views.{lent_bytes}
use Rattle.cedar_conversion.proofs.Outcomes.{given_next}
use Rattle.cedar_conversion.proofs.Loops.{map_snoc, take_next, take_whole}

-- ---- annotations kept by their keys, where what is made of each is what a policy keeps

pub kept_is : (a : AnnotationContent) (t : Kept) (text : Option (String Global)) (at : Option (Bor Loc)) → option_map string_bytes text ≡ a.text → option_copied at ≡ a.place
    → t.value ≡ unwrap_or (option_map string_bytes text) [] → marked_place t.place ≡ lent_bytes at → t ≡ kept_annotation a
kept_is a t text at spells stands value place = λ i. record {
  value = (value ∙ ap (λ u. unwrap_or u []) spells) i;
  place = record { place = (place ∙ ap (option_map bytes_of) stands) i };
}

module _ {F : Type 0} (g : Shared F (Option (String Global) × (Option (Bor Loc) × Unit {0})) Kept) (f : F) (each : (a : AnnotationContent) (t : Kept) → Answers g f a t → t ≡ kept_annotation a) where
  kept_from : (m : FinMap text_order Kept) (all : List AnnotationContent) (made : List Kept) → AnswersEach g f all made → fold with_pair m (paired_keys all made) ≡ fold with_annotation m all
  kept_from m [] [] e = refl
  kept_from m [] (t ∷ ts) e = absurd e
  kept_from m (a ∷ all) [] e = absurd e
  kept_from m (a ∷ all) (t ∷ ts) e = kept_from (insert m a.key t) all ts e.1 ∙ ap (λ u. fold with_annotation (insert m a.key u) all) (each a t e.0)

  pub kept_all : (ns ms : List (Node (Option AnnotationTree))) (all : List AnnotationContent) (made : List Kept) (m r : FinMap text_order Kept) → ms ≡ ns → annotations_outcome ms ≡ Ok all → AnswersEach g f all made → m ≡ values_by_key all made → r ≡ m
      → kept_outcome ns ≡ Ok r
  kept_all ns ms all made m r same is answers keys kept_is =
      ap kept_outcome (sym same) ∙ given_next (annotations_outcome ms) all (λ as2. Ok (annotation_map as2)) is
      ∙ ap Ok (sym (kept_from empty all made answers) ∙ sym keys ∙ sym kept_is)

-- ---- faults behind those of slots in conditions

abbrev wanted : NamedFault → NamedFault
wanted f = (expected_static_policy, f.1, slot_told f.2)

one_more_by : (b : Bool) (f : NamedFault) (xs ys zs : List NamedFault) → map wanted xs ≡ map wanted ys ++ zs → map wanted (cond b (f ∷ xs) xs) ≡ map wanted (cond b (f ∷ ys) ys) ++ zs
one_more_by true f xs ys zs h = ap (λ us. wanted f ∷ us) h
one_more_by false f xs ys zs h = h

static_append : (fs gs : List NamedFault) → slot_faults (fs ++ gs) ≡ slot_faults fs ++ slot_faults gs
static_append [] gs = refl
static_append (f ∷ fs) gs =
    one_more_by (is_slot_fault f.0) f (filter (λ g. is_slot_fault g.0) (fs ++ gs)) (filter (λ g. is_slot_fault g.0) fs) (slot_faults gs) (static_append fs gs)

-- the faults behind those of one fault more
static_next : (fs : List ParseError) (i : ℕ) (f : ParseError) → i < length fs → f ≡ get_or fs i f → slot_faults (named_faults (take (i + 1) fs)) ≡ slot_faults (named_faults (take i fs)) ++ slot_faults (named_fault f ∷ [])
static_next fs i f more is =
    ap (λ gs. slot_faults (named_faults gs)) (take_next fs i f more is) ∙ ap slot_faults (map_snoc named_fault (take i fs) f) ∙ static_append (named_faults (take i fs)) (named_fault f ∷ [])

pub static_more : (fs : List ParseError) (i : ℕ) (f : ParseError) (xs ys : List ParseError) → i < length fs → f ≡ get_or fs i f → named_faults xs ≡ slot_faults (named_faults (take i fs)) → named_faults ys ≡ named_faults xs ++ slot_faults (named_fault f ∷ [])
    → named_faults ys ≡ slot_faults (named_faults (take (i + 1) fs))
static_more fs i f xs ys more is h j = j ∙ ap (λ us. us ++ slot_faults (named_fault f ∷ [])) h ∙ sym (static_next fs i f more is)

pub static_whole : (fs : List ParseError) (i : ℕ) (xs : List ParseError) → i ≡ length fs → named_faults xs ≡ slot_faults (named_faults (take i fs)) → named_faults xs ≡ slot_faults (named_faults fs)
static_whole fs i xs all h = h ∙ ap (λ gs. slot_faults (named_faults gs)) (take_whole fs i (omega arith))
