-- What is written, item by item.
use Rattle.std.proofs.Common.{◌≡◌, ℕ, ◌+◌, ◌<◌, List, [], ◌∷◌, ◌++◌, map, flat_map, take, length, get_or, refl, ap, sym, subst, ◌∙◌, append-nil}
use Rattle.std.proofs.lemmas.List.{take_more}
use Rattle.std.proofs.lemmas.List.Concat.{flat_map-append}
use Rattle.std.proofs.lemmas.List.Folds.{concat-append}
use Rattle.std.specs.List.{FoldsTo, concat}
use Rattle.std.specs.Fmt.{HasWritten, WritesInCalls}
use Rattle.std.specs.declared.fmt.Formatter.{Formatter}
use Rattle.cedar_report.specs.Escapes.{escaped_char}

map_same : (xs : List ℕ) → map (λ x. x) xs ≡ xs
map_same [] = refl
map_same (x ∷ xs) = ap (λ ys. x ∷ ys) (map_same xs)

-- the characters that were given are those of the text
pub same_escaped : {W : Type 0} (took : W → List ℕ → W → Type 0) (f g : Formatter W) (given cs : List ℕ) → map (λ x. x) given ≡ cs → HasWritten took f (flat_map escaped_char given) g → HasWritten took f (flat_map escaped_char cs) g
same_escaped took f g given cs e h =
    let P : List ℕ → Type 0 = λ ys. HasWritten took f (flat_map escaped_char ys) g in
    subst P (sym (map_same given) ∙ e) h

calls_more : {W : Type 0} (took : W → List ℕ → W → Type 0) (w : W) (xs : List (List ℕ)) (v : W) (ys : List (List ℕ)) (u : W) → FoldsTo took w xs v → FoldsTo took v ys u → FoldsTo took w (xs ++ ys) u
calls_more {W} took w [] v ys u p q =
    let P : W → Type 0 = λ x. FoldsTo took x ys u in
    subst P (sym p) q
calls_more took w (x ∷ xs) v ys u p q = (p.0, p.1, calls_more took p.0 xs v ys u p.2 q)

both_written : {W : Type 0} (took : W → List ℕ → W → Type 0) (w : W) (a : List ℕ) (v : W) (b : List ℕ) (u : W) → WritesInCalls took w a v → WritesInCalls took v b u → WritesInCalls took w (a ++ b) u
both_written took w a v b u p q = record {
  parts = p.parts ++ q.parts;
  calls = calls_more took w p.parts v q.parts u p.calls q.calls;
  whole = concat-append p.parts q.parts ∙ ap (λ x. x ++ concat q.parts) p.whole ∙ ap (λ y. a ++ y) q.whole;
}

-- one item more is written
pub writes_more : {W X : Type 0} (took : W → List ℕ → W → Type 0) (line : X → List ℕ) (xs : List X) (i : ℕ) (x : X) (u v w : W) → i < length xs → x ≡ get_or xs i x
    → WritesInCalls took u (flat_map line (take i xs)) v → WritesInCalls took v (line x) w → WritesInCalls took u (flat_map line (take (i + 1) xs)) w
writes_more took line xs i x u v w l e h k =
    let one : flat_map line (take (i + 1) xs) ≡ flat_map line (take i xs) ++ line x =
    ap (flat_map line) (take_more xs i x l ∙ ap (λ y. take i xs ++ y ∷ []) (sym e)) ∙ flat_map-append line (take i xs) (x ∷ []) ∙ ap (λ ys. flat_map line (take i xs) ++ ys) (append-nil (line x)) in
    rw one (both_written took u _ v _ w h k)
