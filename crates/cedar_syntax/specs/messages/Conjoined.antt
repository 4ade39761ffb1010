-- Texts joined with a word, as people write a list: `a`, `a or b`, `a, b, or c`.
use Rattle.std.specs.Prelude.{ℕ, List, [], ◌∷◌, ◌++◌, codes}

-- each text behind a comma, and the word before the last: `, b, or c`
abbrev pub behind_commas : List ℕ → List (List ℕ) → List ℕ
behind_commas word [] = []
behind_commas word (last ∷ []) = codes ", " ++ (word ++ (codes " " ++ last))
behind_commas word (text ∷ next ∷ more) = codes ", " ++ (text ++ behind_commas word (next ∷ more))

-- one text and those after it; a comma stands only where they are three or more
abbrev pub list_text : List ℕ → List ℕ → List (List ℕ) → List ℕ
list_text word first [] = first
list_text word first (last ∷ []) = first ++ (codes " " ++ (word ++ (codes " " ++ last)))
list_text word first (second ∷ third ∷ more) = first ++ behind_commas word (second ∷ third ∷ more)
