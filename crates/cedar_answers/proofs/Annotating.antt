-- Annotations that are made in the order of their keys.
use Rattle.std.proofs.Common.{◌≡◌, ℕ, List, [], ◌∷◌, ◌++◌, map, sym, ap, ◌∙◌, append_assoc, append-nil}
use Rattle.std.proofs.lemmas.List.{map-append}
use Rattle.std.specs.FinMap.{FinMap, entries}
use Rattle.cedar_policy_store.specs.declared.annotation.Annotation.{Annotation}
use Rattle.cedar_policy_store.specs.TextMap.{text_order}
use Rattle.cedar_answers.specs.Made.{annotation_made, annotations_made}
use Rattle.cedar_answers.specs.Told.{annotations_told}
use Rattle.cedar_answers.specs.declared.made.MadeAnnotation.{MadeAnnotation}

abbrev pub Pair : Type 0
Pair = List ℕ × Annotation

abbrev pub pair_told : Pair → List ℕ × List ℕ
pair_told e = (e.0, e.1.value)

abbrev pub pairs_told : List Pair → List (List ℕ × List ℕ)
pairs_told es = map pair_told es

-- an iterator's next annotation is made
pub next_done : (annotations : FinMap text_order Annotation) (rest later : List Pair) (e : Pair) (all after : List MadeAnnotation) (made : MadeAnnotation)
    → ((done : List Pair) × (entries annotations ≡ done ++ rest) × (annotations_made all ≡ pairs_told done)) → rest ≡ e ∷ later → after ≡ all ++ made ∷ [] → annotation_made made ≡ pair_told e
    → (done : List Pair) × (entries annotations ≡ done ++ later) × (annotations_made after ≡ pairs_told done)
next_done annotations rest later e all after made (done, split, same) first pushed is = (
  done ++ (e ∷ []),
  split ∙ ap (λ r. done ++ r) first ∙ sym (append_assoc done (e ∷ []) later),
  ap annotations_made pushed ∙ map-append annotation_made all (made ∷ []) ∙ ap (λ xs. xs ++ annotation_made made ∷ []) same ∙ ap (λ p. pairs_told done ++ p ∷ []) is ∙ sym (map-append pair_told done (e ∷ [])),
)

-- where it has none left all are made
pub all_done : (annotations : FinMap text_order Annotation) (rest : List Pair) (all : List MadeAnnotation) → ((done : List Pair) × (entries annotations ≡ done ++ rest) × (annotations_made all ≡ pairs_told done)) → rest ≡ []
    → annotations_made all ≡ annotations_told annotations
all_done annotations rest all (done, split, same) none = same ∙ ap pairs_told (sym (split ∙ ap (λ r. done ++ r) none ∙ append-nil done))
