-- Names and attributes, an identifier after the other.
use Rattle.std.proofs.Common.{◌≡◌, ℕ, ◌+◌, ◌<◌, Bool, true, false, List, [], ◌∷◌, ◌++◌, length, take, get_or, refl, sym, ap, ◌∙◌, subst, append_assoc, append-nil}
use Rattle.std.specs.Prelude.{◌||◌, not}
use Rattle.std.specs.List.{flat_map, list_all, list_any}
use Rattle.std.specs.Cmp.Derive.{both_true}
use Rattle.std.proofs.lemmas.Bool.{and_parts}
use Rattle.std.proofs.lemmas.List.{take_more}
use Rattle.std.proofs.lemmas.List.Concat.{flat_map-append}
use Rattle.cedar_lexer.specs.Words.{TokenText}
use Rattle.cedar_expressions.specs.Path.{Path, is_valid_identifier, is_unreserved_identifier, is_reserved_namespace, has_reserved_namespace}
use Rattle.cedar_writer.specs.Writable.{AreIdentifiers, IsWritableName}
use Rattle.cedar_writer.specs.WrittenWords.{colons, dot, identifier_words, marked_words, path_words}
use Rattle.cedar_writer.specs.declared.output.Output.{Output}
use Rattle.cedar_writer.specs.machines.Lines.{qualified, namespace_words, accessed, accesses_words}
use Rattle.cedar_writer.specs.machines.Outputs.{Adds}
use Rattle.cedar_writer.proofs.WordsAdded.{both_added, same_added}

-- ---- words

marked_colons : (acc : List TokenText) (ids : List (List ℕ)) → marked_words acc colons ids ++ colons ≡ (acc ++ colons) ++ namespace_words ids
marked_colons acc [] = sym (append-nil (acc ++ colons))
marked_colons acc (x ∷ xs) = marked_colons (acc ++ colons ++ identifier_words x) xs ∙ group acc colons (identifier_words x) (namespace_words xs)
  where
    group : (a c i n : List TokenText) → ((a ++ c ++ i) ++ c) ++ n ≡ (a ++ c) ++ ((i ++ c) ++ n)
    group a c i n = simp append_assoc refl

pub path_is : (ids : List (List ℕ)) (id : List ℕ) → namespace_words ids ++ identifier_words id ≡ path_words ids id
path_is [] id = refl
path_is (x ∷ xs) id = ap (λ t. t ++ identifier_words id) (sym (marked_colons (identifier_words x) xs))

pub attributes_are : (acc : List TokenText) (ids : List (List ℕ)) → acc ++ accesses_words ids ≡ marked_words acc dot ids
attributes_are acc [] = append-nil acc
attributes_are acc (x ∷ xs) = sym (append_assoc acc (accessed x) (accesses_words xs)) ∙ ap (λ t. t ++ accesses_words xs) (sym (append_assoc acc dot (identifier_words x))) ∙ attributes_are (acc ++ dot ++ identifier_words x) xs

-- one more of a list
one_more : (f : List ℕ → List TokenText) (xs : List (List ℕ)) (i : ℕ) (x : List ℕ) → i < length xs → x ≡ get_or xs i x → flat_map f (take (i + 1) xs) ≡ flat_map f (take i xs) ++ f x
one_more f xs i x h e =
    ap (flat_map f) (take_more xs i x h ∙ ap (λ y. take i xs ++ y ∷ []) (sym e))
    ∙ (flat_map-append f (take i xs) (x ∷ []) ∙ ap (λ z. flat_map f (take i xs) ++ z) (append-nil (f x)))

pub namespace_more : (a b c d : Output) (xs : List (List ℕ)) (i : ℕ) (x y : List ℕ) → i < length xs → x ≡ get_or xs i x → y ≡ x → Adds a b (namespace_words (take i xs)) → Adds b c (identifier_words y) → Adds c d colons → Adds a d (namespace_words (take (i + 1) xs))
namespace_more a b c d xs i x y h e same before name mark =
    let id : Adds b c (identifier_words x) = subst (λ z. Adds b c (identifier_words z)) same name in
    same_added a d (namespace_words (take i xs) ++ qualified x) (namespace_words (take (i + 1) xs)) (sym (one_more qualified xs i x h e))
    (both_added a b d (namespace_words (take i xs)) (qualified x) before (both_added b c d (identifier_words x) colons id mark))

pub accesses_more : (a b c d : Output) (first : List TokenText) (xs : List (List ℕ)) (i : ℕ) (x y : List ℕ) → i < length xs → x ≡ get_or xs i x → y ≡ x → Adds a b (first ++ accesses_words (take i xs)) → Adds b c dot → Adds c d (identifier_words y) → Adds a d (first ++ accesses_words (take (i + 1) xs))
accesses_more a b c d first xs i x y h e same before mark name =
    let id : Adds c d (identifier_words x) = subst (λ z. Adds c d (identifier_words z)) same name in
    same_added a d ((first ++ accesses_words (take i xs)) ++ accessed x) (first ++ accesses_words (take (i + 1) xs))
    (append_assoc first (accesses_words (take i xs)) (accessed x) ∙ ap (λ t. first ++ t) (sym (one_more accessed xs i x h e)))
    (both_added a b d (first ++ accesses_words (take i xs)) (accessed x) before (both_added b c d dot (identifier_words x) mark id))

-- ---- identifiers

all_append : (p : List ℕ → Bool) (xs : List (List ℕ)) (x : List ℕ) → list_all p xs ≡ true → p x ≡ true → list_all p (xs ++ x ∷ []) ≡ true
all_append p [] x h e = both_true e refl
all_append p (y ∷ ys) x h e = let q = and_parts (p y) (list_all p ys) h in both_true q.0 (all_append p ys x q.1 e)

pub valid_more : (xs : List (List ℕ)) (i : ℕ) (x y : List ℕ) → i < length xs → x ≡ get_or xs i x → y ≡ x → list_all is_valid_identifier (take i xs) ≡ true → is_valid_identifier y ≡ true → list_all is_valid_identifier (take (i + 1) xs) ≡ true
valid_more xs i x y h e same before v =
    ap (list_all is_valid_identifier) (take_more xs i x h ∙ ap (λ z. take i xs ++ z ∷ []) (sym e))
    ∙ all_append is_valid_identifier (take i xs) x before (subst (λ z. is_valid_identifier z ≡ true) same v)

neither : (a b : Bool) → (a || b) ≡ false → (a ≡ false) × (b ≡ false)
neither true b e = absurd (cc)
neither false b e = (refl, e)

unreserved : (id : List ℕ) → is_valid_identifier id ≡ true → is_reserved_namespace id ≡ false → is_unreserved_identifier id ≡ true
unreserved id v r = both_true v (ap not r)

all_unreserved : (ids : List (List ℕ)) → list_all is_valid_identifier ids ≡ true → list_any is_reserved_namespace ids ≡ false → AreIdentifiers ids
all_unreserved [] v r = tt
all_unreserved (x ∷ xs) v r =
    let p = and_parts (is_valid_identifier x) (list_all is_valid_identifier xs) v in
    let q = neither (is_reserved_namespace x) (list_any is_reserved_namespace xs) r in
    (unreserved x p.0 q.0, all_unreserved xs p.1 q.1)

pub writable_name : (n : Path) → list_all is_valid_identifier n.path ≡ true → is_valid_identifier n.id ≡ true → has_reserved_namespace n ≡ false → IsWritableName n
writable_name n v w r =
    let q = neither (list_any is_reserved_namespace n.path) (is_reserved_namespace n.id) r in
    (all_unreserved n.path v q.0, unreserved n.id w q.1)
