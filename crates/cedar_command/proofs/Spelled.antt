-- Names as words spell them: a text cut at `::`, and that a text spells one name.
use Rattle.std.proofs.Common.{◌≡◌, ◌≢◌, ◌<◌, ℕ, suc, Bool, true, false, ◌&&◌, ◌||◌, not, List, [], ◌∷◌, ◌++◌, length, get_or, refl, sym, ap, ◌∙◌, append_assoc, append-nil, true≢false, arith}
use Rattle.std.specs.List.{list_all, list_any}
use Rattle.std.proofs.lemmas.List.Concat.{flat_map-append}
use Rattle.std.proofs.lemmas.List.Folds.{list_all-append}
use Rattle.cedar_expressions.specs.Path.{Path, name_text, namespace_text, begins_identifier, continues_identifier, is_identifier, is_reserved_word, is_valid_identifier, is_reserved_namespace, has_reserved_namespace, is_unreserved_identifier}
use Rattle.cedar_command.specs.Request.{HasNoColon, IsCut, IsUncut, SpellsName, is_unreserved_name}

-- ---- both of two tests

pub left : (a b : Bool) → (a && b) ≡ true → a ≡ true
left true b h = refl
left false b h = cc

pub right : (a b : Bool) → (a && b) ≡ true → b ≡ true
right true b h = h
right false b h = cc

pub both : (a b : Bool) → a ≡ true → b ≡ true → (a && b) ≡ true
both true b h k = k
both false b h k = cc

turned : (a : Bool) → not a ≡ true → a ≡ false
turned true h = sym h
turned false h = refl

neither : (a b : Bool) → a ≡ false → b ≡ false → (a || b) ≡ false
neither true b h k = h
neither false b h k = k

-- ---- bytes without a colon

head_of : (a b : ℕ) (r s : List ℕ) → (a ∷ r) ≡ (b ∷ s) → a ≡ b
head_of a b r s e = cc

pub tail_of : (a b : ℕ) (r s : List ℕ) → (a ∷ r) ≡ (b ∷ s) → r ≡ s
tail_of a b r s e = cc

pub from_index : (bs : List ℕ) → ((i : ℕ) → i < length bs → get_or bs i 0 ≢ 58) → HasNoColon bs
from_index [] h = tt
from_index (b ∷ bs) h = (h 0 (omega arith), from_index bs (λ i low. h (suc i) (omega (arith, low))))

continues_no_colon : (b : ℕ) → continues_identifier b ≡ true → b ≢ 58
continues_no_colon b h e = true≢false (sym h ∙ ap continues_identifier e)

all_continue : (bs : List ℕ) → list_all continues_identifier bs ≡ true → HasNoColon bs
all_continue [] h = tt
all_continue (b ∷ bs) h =
    (continues_no_colon b (left (continues_identifier b) (list_all continues_identifier bs) h), all_continue bs (right (continues_identifier b) (list_all continues_identifier bs) h))

begins_no_colon : (b : ℕ) → begins_identifier b ≡ true → b ≢ 58
begins_no_colon b h e = true≢false (sym h ∙ ap begins_identifier e)

spelled_no_colon : (bs : List ℕ) → is_identifier bs ≡ true → HasNoColon bs
spelled_no_colon [] h = tt
spelled_no_colon (b ∷ bs) h =
    (begins_no_colon b (left (begins_identifier b) (list_all continues_identifier bs) h), all_continue bs (right (begins_identifier b) (list_all continues_identifier bs) h))

-- an identifier has no colon
pub no_colon : (bs : List ℕ) → is_unreserved_identifier bs ≡ true → HasNoColon bs
no_colon bs h =
    spelled_no_colon bs (left (is_identifier bs) (not (is_reserved_word bs)) (left (is_valid_identifier bs) (not (is_reserved_namespace bs)) h))

-- the first colon stands at one place
cut_once : (p q r s : List ℕ) → HasNoColon p → HasNoColon q → p ++ (58 ∷ r) ≡ q ++ (58 ∷ s) → (p ≡ q) × (r ≡ s)
cut_once [] [] r s h k e = (refl, tail_of 58 58 r s e)
cut_once [] (b ∷ q) r s h k e = absurd (k.0 (sym (head_of 58 b r (q ++ (58 ∷ s)) e)))
cut_once (a ∷ p) [] r s h k e = absurd (h.0 (head_of a 58 (p ++ (58 ∷ r)) s e))
cut_once (a ∷ p) (b ∷ q) r s h k e =
    let t = cut_once p q r s h.1 k.1 (tail_of a b (p ++ (58 ∷ r)) (q ++ (58 ∷ s)) e) in
    (λ i. head_of a b (p ++ (58 ∷ r)) (q ++ (58 ∷ s)) e i ∷ t.0 i, t.1)

no_cut : (p q s : List ℕ) → HasNoColon p → p ≢ q ++ (58 ∷ s)
no_cut [] [] s h e = cc
no_cut [] (b ∷ q) s h e = cc
no_cut (a ∷ p) [] s h e = h.0 (head_of a 58 p s e)
no_cut (a ∷ p) (b ∷ q) s h e = no_cut p q s h.1 (tail_of a b p (q ++ (58 ∷ s)) e)

-- what the search for a colon finds
pub uncut_without : (text : List ℕ) → ((i : ℕ) → i < length text → get_or text i 0 ≢ 58) → IsUncut text
uncut_without text h part behind cut = no_cut text part (58 ∷ behind) (from_index text h) cut.1

pub uncut_at : (text front back : List ℕ) → text ≡ front ++ (58 ∷ back) → ((i : ℕ) → i < length front → get_or front i 0 ≢ 58) → ((rest : List ℕ) → back ≢ 58 ∷ rest) → IsUncut text
uncut_at text front back e free other part behind cut =
    let same = cut_once front part back (58 ∷ behind) (from_index front free) cut.0 (sym e ∙ cut.1) in other behind same.1

pub cut_at : (text front back rest : List ℕ) → text ≡ front ++ (58 ∷ back) → ((i : ℕ) → i < length front → get_or front i 0 ≢ 58) → back ≡ 58 ∷ rest → IsCut text front rest
cut_at text front back rest e free next = (from_index front free, e ∙ ap (λ r. front ++ (58 ∷ r)) next)

-- ---- the names that a text spells

-- how a name with a path is written
pub written_more : (p : List ℕ) (ps : List (List ℕ)) (id : List ℕ) → name_text (record { path = p ∷ ps; id = id }) ≡ p ++ (58 ∷ (58 ∷ name_text (record { path = ps; id = id })))
written_more p ps id =
    append_assoc (p ++ (58 ∷ (58 ∷ []))) (namespace_text ps) id ∙ append_assoc p (58 ∷ (58 ∷ [])) (namespace_text ps ++ id)

first_ok : (p : List ℕ) (ps : List (List ℕ)) (id : List ℕ) → is_unreserved_name (record { path = p ∷ ps; id = id }) ≡ true → is_unreserved_identifier p ≡ true
first_ok p ps id h =
    left (is_unreserved_identifier p) (list_all is_unreserved_identifier ps) (left (list_all is_unreserved_identifier (p ∷ ps)) (is_unreserved_identifier id) h)

rest_ok : (p : List ℕ) (ps : List (List ℕ)) (id : List ℕ) → is_unreserved_name (record { path = p ∷ ps; id = id }) ≡ true → is_unreserved_name (record { path = ps; id = id }) ≡ true
rest_ok p ps id h =
    both (list_all is_unreserved_identifier ps) (is_unreserved_identifier id)
    (right (is_unreserved_identifier p) (list_all is_unreserved_identifier ps) (left (list_all is_unreserved_identifier (p ∷ ps)) (is_unreserved_identifier id) h))
    (right (list_all is_unreserved_identifier (p ∷ ps)) (is_unreserved_identifier id) h)

last_ok : (ps : List (List ℕ)) (id : List ℕ) → is_unreserved_name (record { path = ps; id = id }) ≡ true → is_unreserved_identifier id ≡ true
last_ok ps id h = right (list_all is_unreserved_identifier ps) (is_unreserved_identifier id) h

-- a name is spelled behind a cut exactly where one is spelled with the part before it
pub onward : (text part behind : List ℕ) → IsCut text part behind → is_unreserved_identifier part ≡ true → SpellsName behind → SpellsName text
onward text part behind cut ok (name, good, spelled) = (
  record { path = part ∷ name.path; id = name.id },
  both (list_all is_unreserved_identifier (part ∷ name.path)) (is_unreserved_identifier name.id)
      (both (is_unreserved_identifier part) (list_all is_unreserved_identifier name.path) ok (left (list_all is_unreserved_identifier name.path) (is_unreserved_identifier name.id) good))
      (right (list_all is_unreserved_identifier name.path) (is_unreserved_identifier name.id) good),
  written_more part name.path name.id ∙ ap (λ r. part ++ (58 ∷ (58 ∷ r))) spelled ∙ sym cut.1,
)

behind_cut : (text part behind : List ℕ) (path : List (List ℕ)) (id : List ℕ) → IsCut text part behind → is_unreserved_name (record { path = path; id = id }) ≡ true → name_text (record { path = path; id = id }) ≡ text → (is_unreserved_identifier part ≡ true) × SpellsName behind
behind_cut text part behind [] id cut ok spelled = absurd (no_cut id part (58 ∷ behind) (no_colon id (last_ok [] id ok)) (spelled ∙ cut.1))
behind_cut text part behind (p ∷ ps) id cut ok spelled =
    let same = cut_once p part (58 ∷ name_text (record { path = ps; id = id })) (58 ∷ behind) (no_colon p (first_ok p ps id ok)) cut.0 (sym (written_more p ps id) ∙ spelled ∙ cut.1) in
    (ap is_unreserved_identifier (sym same.0) ∙ first_ok p ps id ok, (record { path = ps; id = id }, rest_ok p ps id ok, tail_of 58 58 (name_text (record { path = ps; id = id })) behind same.1))

pub back : (text part behind : List ℕ) → IsCut text part behind → SpellsName text → (is_unreserved_identifier part ≡ true) × SpellsName behind
back text part behind cut (name, ok, spelled) = behind_cut text part behind name.path name.id cut ok spelled

alone : (text : List ℕ) (path : List (List ℕ)) (id : List ℕ) → IsUncut text → is_unreserved_name (record { path = path; id = id }) ≡ true → name_text (record { path = path; id = id }) ≡ text → is_unreserved_identifier text ≡ true
alone text [] id uncut ok spelled = ap is_unreserved_identifier (sym spelled) ∙ last_ok [] id ok
alone text (p ∷ ps) id uncut ok spelled =
    absurd (uncut p (name_text (record { path = ps; id = id })) (no_colon p (first_ok p ps id ok), sym spelled ∙ written_more p ps id))

-- where a text has no cut, it spells a name exactly if it is an identifier
pub last_part : (text : List ℕ) → IsUncut text → SpellsName text → is_unreserved_identifier text ≡ true
last_part text uncut (name, ok, spelled) = alone text name.path name.id uncut ok spelled

pub one_part : (text : List ℕ) → is_unreserved_identifier text ≡ true → SpellsName text
one_part text ok = (record { path = []; id = text }, ok, refl)

-- a name without reserved identifiers has no `__cedar`
no_namespace : (id : List ℕ) → is_unreserved_identifier id ≡ true → is_reserved_namespace id ≡ false
no_namespace id h = turned (is_reserved_namespace id) (right (is_valid_identifier id) (not (is_reserved_namespace id)) h)

no_namespaces : (ids : List (List ℕ)) → list_all is_unreserved_identifier ids ≡ true → list_any is_reserved_namespace ids ≡ false
no_namespaces [] h = refl
no_namespaces (id ∷ ids) h =
    neither (is_reserved_namespace id) (list_any is_reserved_namespace ids) (no_namespace id (left (is_unreserved_identifier id) (list_all is_unreserved_identifier ids) h))
    (no_namespaces ids (right (is_unreserved_identifier id) (list_all is_unreserved_identifier ids) h))

pub unreserved : (name : Path) → is_unreserved_name name ≡ true → has_reserved_namespace name ≡ false
unreserved name h =
    neither (list_any is_reserved_namespace name.path) (is_reserved_namespace name.id) (no_namespaces name.path (left (list_all is_unreserved_identifier name.path) (is_unreserved_identifier name.id) h))
    (no_namespace name.id (right (list_all is_unreserved_identifier name.path) (is_unreserved_identifier name.id) h))

-- ---- a text spells one name

same_names : (ps qs : List (List ℕ)) (a b : List ℕ) → is_unreserved_name (record { path = ps; id = a }) ≡ true → is_unreserved_name (record { path = qs; id = b }) ≡ true
    → name_text (record { path = ps; id = a }) ≡ name_text (record { path = qs; id = b }) → (ps ≡ qs) × (a ≡ b)
same_names [] [] a b h k e = (refl, e)
same_names [] (q ∷ qs) a b h k e = absurd (no_cut a q (58 ∷ name_text (record { path = qs; id = b })) (no_colon a (last_ok [] a h)) (e ∙ written_more q qs b))
same_names (p ∷ ps) [] a b h k e = absurd (no_cut b p (58 ∷ name_text (record { path = ps; id = a })) (no_colon b (last_ok [] b k)) (sym e ∙ written_more p ps a))
same_names (p ∷ ps) (q ∷ qs) a b h k e =
    let m = name_text (record { path = ps; id = a }) in
    let n = name_text (record { path = qs; id = b }) in
    let t = cut_once p q (58 ∷ m) (58 ∷ n) (no_colon p (first_ok p ps a h)) (no_colon q (first_ok q qs b k)) (sym (written_more p ps a) ∙ e ∙ written_more q qs b) in
    let u = same_names ps qs a b (rest_ok p ps a h) (rest_ok q qs b k) (tail_of 58 58 m n t.1) in
    (λ i. t.0 i ∷ u.0 i, u.1)

pub name_once : (m n : Path) → is_unreserved_name m ≡ true → is_unreserved_name n ≡ true → name_text m ≡ name_text n → m ≡ n
name_once m n h k e = let s = same_names m.path n.path m.id n.id h k e in λ i. record { path = s.0 i; id = s.1 i }

-- ---- one identifier more in a path

pub path_ok : (ids : List (List ℕ)) (id : List ℕ) → list_all is_unreserved_identifier ids ≡ true → is_unreserved_identifier id ≡ true → list_all is_unreserved_identifier (ids ++ id ∷ []) ≡ true
path_ok ids id h k =
    list_all-append is_unreserved_identifier ids (id ∷ []) ∙ both (list_all is_unreserved_identifier ids) (is_unreserved_identifier id && true) h (both (is_unreserved_identifier id) true k refl)

one_written : (id behind : List ℕ) → namespace_text (id ∷ []) ++ behind ≡ id ++ (58 ∷ (58 ∷ behind))
one_written id behind = ap (λ t. t ++ behind) (append-nil (id ++ (58 ∷ (58 ∷ [])))) ∙ append_assoc id (58 ∷ (58 ∷ [])) behind

pub path_written : (ids : List (List ℕ)) (id rest part behind : List ℕ) → IsCut rest part behind → id ≡ part → namespace_text (ids ++ id ∷ []) ++ behind ≡ namespace_text ids ++ rest
path_written ids id rest part behind cut is =
    ap (λ t. t ++ behind) (flat_map-append (λ i. i ++ (58 ∷ (58 ∷ []))) ids (id ∷ []))
    ∙ append_assoc (namespace_text ids) (namespace_text (id ∷ [])) behind
    ∙ ap (λ t. namespace_text ids ++ t) (one_written id behind ∙ ap (λ p. p ++ (58 ∷ (58 ∷ behind))) is ∙ sym cut.1)
