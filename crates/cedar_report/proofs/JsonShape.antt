-- The object of a finding has no float, and it isn't deep.
use Rattle.std.proofs.Common.{◌≡◌, ◌≤◌, ℕ, suc, List, [], ◌∷◌, Bool, false, Option, Some, None, Result, Ok, Err, String, Global, IfOk, map, string_bytes, refl, sym, subst, arith}
use Rattle.std.specs.Prelude.{◌||◌, max}
use Rattle.std.proofs.Math.Nat.{max-le}
use Rattle.std.specs.declared.alloc.AllocError.{AllocError}
use Rattle.cedar_lexer.specs.declared.token.TokenKind.{TokenKind}
use Rattle.cedar_lexer.specs.Names.{kind_name}
use Rattle.serde_json.specs.Data.{Data, string, depth, items_depth}
use Rattle.serde_json.specs.View.{items_of}
use Rattle.serde_json.specs.Written.{has_float, items_have_float, compact_text}
use Rattle.serde_json.specs.Read.{read, max_depth}
use Rattle.cedar_report.specs.declared.finding.Extent.{Extent}
use Rattle.cedar_report.specs.declared.finding.Related.{Related}
use Rattle.cedar_report.specs.declared.finding.Finding.{Finding}
use Rattle.cedar_report.specs.JsonLines.{optional_range_data, optional_text_data, related_data, finding_data, json_text}
use Rattle.cedar_report.proofs.OneLine.{NoFeed, text_has_none}

neither : (a b : Bool) → a ≡ false → b ≡ false → (a || b) ≡ false
neither a b p q = rw p q

range_float : (range : Option Extent) → has_float (optional_range_data range) ≡ false
range_float (Some range) = refl
range_float None = refl

text_float : (text : Option (String Global)) → has_float (optional_text_data text) ≡ false
text_float (Some text) = refl
text_float None = refl

names_float : (kinds : List TokenKind) → items_have_float (items_of (map (λ kind. string (kind_name kind)) kinds)) ≡ false
names_float [] = refl
names_float (kind ∷ kinds) = names_float kinds

related_float : (related : List Related) → items_have_float (items_of (map (λ other. related_data other) related)) ≡ false
related_float [] = refl
related_float (other ∷ related) = neither (has_float (related_data other)) _ refl (related_float related)

pub no_float : (name : List ℕ) (f : Finding) → has_float (finding_data name f) ≡ false
no_float name f =
    neither _ _ (range_float f.cause) (neither _ _ refl (neither _ _ (names_float f.expected.items) (neither _ _ refl
    (neither _ _ refl (neither _ _ (text_float f.help) (neither _ _ (text_float f.label) (neither _ _ refl
    (neither _ _ (range_float f.extent) (neither _ _ (related_float f.related.items) (neither _ _ refl refl))))))))))

range_depth : (range : Option Extent) → depth (optional_range_data range) ≤ 4
range_depth (Some range) = omega arith
range_depth None = omega arith

text_depth : (text : Option (String Global)) → depth (optional_text_data text) ≤ 4
text_depth (Some text) = omega arith
text_depth None = omega arith

names_depth : (kinds : List TokenKind) → items_depth (items_of (map (λ kind. string (kind_name kind)) kinds)) ≤ 3
names_depth [] = omega arith
names_depth (kind ∷ kinds) = max-le (omega arith) (names_depth kinds)

related_depth : (related : List Related) → items_depth (items_of (map (λ other. related_data other) related)) ≤ 3
related_depth [] = omega arith
related_depth (other ∷ related) = max-le (omega arith) (related_depth related)

deeper : (n : ℕ) → n ≤ 4 → suc n ≤ max_depth
deeper n h = omega arith

both : (a b : ℕ) → a ≤ 4 → b ≤ 4 → max a b ≤ 4
both a b h k = max-le h k

nought : 0 ≤ 4
nought = omega arith

in_list : (n : ℕ) → n ≤ 3 → suc n ≤ 4
in_list n h = omega arith

is_shallow : (name : List ℕ) (f : Finding) → depth (finding_data name f) ≤ max_depth
is_shallow name f =
    deeper _ (both _ _ (range_depth f.cause) (both 0 _ nought (both _ _ (in_list _ (names_depth f.expected.items)) (both 0 _ nought
    (both 0 _ nought (both _ _ (text_depth f.help) (both _ _ (text_depth f.label) (both 0 _ nought
    (both _ _ (range_depth f.extent) (both _ _ (in_list _ (related_depth f.related.items)) (both 0 0 nought nought)))))))))))

-- what is written of a value that is the finding's
pub text_is : (r : Result (String Global) AllocError) (d : Data) (name : List ℕ) (f : Finding) → d ≡ finding_data name f → IfOk r (λ s. has_float d ≡ false → string_bytes s ≡ compact_text d) → IfOk r (λ s. string_bytes s ≡ json_text name f)
text_is (Ok s) d name f e h =
    let P : Data → Type 0 = λ x. has_float x ≡ false → string_bytes s ≡ compact_text x in
    subst P e h (no_float name f)
text_is (Err x) d name f e h = tt

pub reads_back : (r : Result (String Global) AllocError) (d : Data) (name : List ℕ) (f : Finding) → d ≡ finding_data name f → IfOk r (λ s. depth d ≤ max_depth → read (string_bytes s) ≡ Some d) → IfOk r (λ s. read (string_bytes s) ≡ Some (finding_data name f))
reads_back (Ok s) d name f e h =
    let P : Data → Type 0 = λ x. depth x ≤ max_depth → read (string_bytes s) ≡ Some x in
    subst P e h (is_shallow name f)
reads_back (Err x) d name f e h = tt

pub one_line : (r : Result (String Global) AllocError) (name : List ℕ) (f : Finding) → IfOk r (λ s. string_bytes s ≡ json_text name f) → IfOk r (λ s. NoFeed (string_bytes s))
one_line (Ok s) name f h =
    let P : List ℕ → Type 0 = λ bytes. NoFeed bytes in
    subst P (sym h) (text_has_none (finding_data name f))
one_line (Err x) name f h = tt
