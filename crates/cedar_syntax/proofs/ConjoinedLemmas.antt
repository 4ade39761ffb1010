-- A list as people write it, with its last text apart.
use Rattle.std.proofs.Common.{◌≡◌, ℕ, refl, ap, sym, ◌∙◌, List, [], ◌∷◌, ◌++◌, append_assoc, codes, map, length, ◌==◌, false, true≢false}
use Rattle.std.specs.List.{flat_map}
use Rattle.std.proofs.lemmas.List.{map-append}
use Rattle.cedar_syntax.specs.messages.Conjoined.{list_text, behind_commas}

abbrev pub behind_comma : List ℕ → List ℕ
behind_comma text = codes ", " ++ text

abbrev pub ending : List ℕ → List ℕ → List ℕ
ending word last = codes ", " ++ (word ++ (codes " " ++ last))

behind_commas-last : (word : List ℕ) (texts : List (List ℕ)) (last : List ℕ) → behind_commas word (texts ++ last ∷ []) ≡ flat_map behind_comma texts ++ ending word last
behind_commas-last word [] last = refl
behind_commas-last word (text ∷ []) last = sym (append_assoc (behind_comma text) [] (ending word last))
behind_commas-last word (text ∷ next ∷ more) last =
    ap (λ l. behind_comma text ++ l) (behind_commas-last word (next ∷ more) last)
    ∙ sym (append_assoc (behind_comma text) (flat_map behind_comma (next ∷ more)) (ending word last))

conjoined-last : (word first x : List ℕ) (xs : List (List ℕ)) (last : List ℕ) → list_text word first ((x ∷ xs) ++ last ∷ []) ≡ first ++ (flat_map behind_comma (x ∷ xs) ++ ending word last)
conjoined-last word first x [] last = ap (λ l. first ++ l) (behind_commas-last word (x ∷ []) last)
conjoined-last word first x (y ∷ ys) last = ap (λ l. first ++ l) (behind_commas-last word (x ∷ y ∷ ys) last)

module _ {T : Type 0} (text : T → List ℕ) where
  of_map : (xs : List T) → flat_map behind_comma (map text xs) ≡ flat_map (λ x. codes ", " ++ text x) xs
  of_map [] = refl
  of_map (x ∷ xs) = ap (λ l. behind_comma (text x) ++ l) (of_map xs)

  -- two texts or more behind the first one
  pub conjoined-many : (word first : List ℕ) (x : T) (xs : List T) (last : T)
      → list_text word first (map text ((x ∷ xs) ++ last ∷ [])) ≡ first ++ (flat_map (λ y. codes ", " ++ text y) (x ∷ xs) ++ ending word (text last))
  conjoined-many word first x xs last =
      ap (list_text word first) (map-append text (x ∷ xs) (last ∷ []))
      ∙ conjoined-last word first (text x) (map text xs) (text last)
      ∙ ap (λ l. first ++ (l ++ ending word (text last))) (of_map (x ∷ xs))

  many : (word first : List ℕ) (between : List T) (last : T) → length between == 0 ≡ false
      → list_text word first (map text (between ++ last ∷ [])) ≡ first ++ (flat_map (λ y. codes ", " ++ text y) between ++ ending word (text last))
  many word first [] last some = absurd (true≢false some)
  many word first (x ∷ xs) last some = conjoined-many word first x xs last

  -- the first text, those between, the word, the last: written one after another
  pub conjoined-written : (word first : List ℕ) (between : List T) (last : T) (others : List T) → others ≡ between ++ last ∷ [] → length between == 0 ≡ false
      → first ++ (flat_map (λ y. codes ", " ++ text y) between ++ ((codes ", " ++ (word ++ codes " ")) ++ text last)) ≡ list_text word first (map text others)
  conjoined-written word first between last others e some =
      ap (λ l. first ++ (flat_map (λ y. codes ", " ++ text y) between ++ (codes ", " ++ l))) (append_assoc word (codes " ") (text last))
      ∙ sym (many word first between last some)
      ∙ ap (λ l. list_text word first (map text l)) (sym e)
