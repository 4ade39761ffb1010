-- Items written with separators that may stand there are cut into just their words, and between
-- these just their comments are read.
use Rattle.std.proofs.Common.{◌≡◌, ℕ, zero, suc, ◌+◌, ◌-◌, Bool, true, false, List, [], ◌∷◌, ◌++◌, length, take, drop, replicate, refl, sym, ap, ap₂, ◌∙◌, subst, arith, append_assoc, append-nil, Some}
use Rattle.std.specs.Prelude.{not, slice_index, slice_range}
use Rattle.std.proofs.lemmas.Bool.{not-true}
use Rattle.std.proofs.lemmas.List.{length-append, take_at}
use Rattle.cedar_lexer.specs.Cut.{IsSkip, comment, EndsLine, IsSkipAt, Layout, nothing as none, skip, token, Cuts}
use Rattle.cedar_lexer.specs.Scan.{spelling}
use Rattle.cedar_lexer.specs.Spelling.{Spells}
use Rattle.cedar_lexer.specs.Token.{Lexeme}
use Rattle.cedar_lexer.specs.declared.token.TokenKind.{TokenKind}
use Rattle.cedar_lexer.specs.declared.token.TokenKind.TheVariants as kind
use Rattle.cedar_lexer.proofs.Cuts.{laid_on}
use Rattle.cedar_lexer.proofs.Ends.{scanned}
use Rattle.cedar_lexer.proofs.Skips.{spelling_some}
use Rattle.cedar_lexer.proofs.Spaced.{token_of, behind, space_at, feed_at}
use Rattle.cedar_layout.specs.Pieces.{SpacedItem, Item, word, beside, below, inside, outside, behind_bytes, is_behind_blank, comments_in, pieces_behind, word_piece, IsReadAs}
use Rattle.cedar_layout.specs.Laid.{Separator, nothing, space, line, separator_text, is_blank_line, item_text, LaidItem, pieces_of, written_text, file_text, goes_on, Before, start, behind_word, behind_comment, then_behind, may_stand, IsCommentText, IsWhole, MayStand}
use Rattle.cedar_layout.proofs.Touching.{scan_touches}
use Rattle.cedar_layout.proofs.GapBytes as gap
use Rattle.cedar_layout.proofs.GapBytes.{standing_of}

-- ---- the tokens

abbrev pub with_token : ℕ → Item → List Lexeme → List Lexeme
with_token i (word w) ts = token_of i w ∷ ts
with_token i (beside c) ts = ts
with_token i (below c) ts = ts

abbrev pub tokens_at : ℕ → List LaidItem → List Lexeme
tokens_at i [] = []
tokens_at i (l ∷ ls) = with_token (i + length (separator_text l.separator)) l.item (tokens_at (i + length (separator_text l.separator) + length (item_text l.item)) ls)

-- ---- separators are skipped

abbrev blanks : ℕ → List ℕ
blanks n = replicate n 32

spaces_laid : (source : List ℕ) (n i : ℕ) (rest : List ℕ) → drop i source ≡ blanks n ++ rest → Layout source i [] (i + length (blanks n))
spaces_laid source zero i rest stands = subst (Layout source i []) (omega arith) none
spaces_laid source (suc n) i rest stands =
    subst (Layout source i []) (omega arith)
    (skip (space_at source i (blanks n ++ rest) stands) (spaces_laid source n (i + 1) rest (behind source i (32 ∷ []) (blanks n ++ rest) stands)))

separator_laid : (source : List ℕ) (p : Separator) (i : ℕ) (rest : List ℕ) → drop i source ≡ separator_text p ++ rest → Layout source i [] (i + length (separator_text p))
separator_laid source nothing i rest stands = subst (Layout source i []) (omega arith) none
separator_laid source space i rest stands = skip (space_at source i rest stands) none
separator_laid source (line false n) i rest stands =
    subst (Layout source i []) (omega arith)
    (skip (feed_at source i (replicate n 32 ++ rest) stands) (spaces_laid source n (i + 1) rest (behind source i (10 ∷ []) (replicate n 32 ++ rest) stands)))
separator_laid source (line true n) i rest stands =
    let first : drop (i + 1) source ≡ 10 ∷ (replicate n 32 ++ rest) = behind source i (10 ∷ []) (10 ∷ (replicate n 32 ++ rest)) stands in
    subst (Layout source i []) (omega arith)
    (skip (feed_at source i (10 ∷ (replicate n 32 ++ rest)) stands)
    (skip (feed_at source (i + 1) (replicate n 32 ++ rest) first)
    (spaces_laid source n (i + 1 + 1) rest (behind source (i + 1) (10 ∷ []) (replicate n 32 ++ rest) first))))

-- ---- what stands behind a word ends it, and what stands behind a comment ends its line

feed_stops : (k : TokenKind) → goes_on k 10 ≡ false
feed_stops kind.Number = refl
feed_stops k = refl

space_stops : (k : TokenKind) → goes_on k 32 ≡ false
space_stops kind.Number = refl
space_stops k = refl

record Front (k : TokenKind) (bs : List ℕ) : Type 0 where
  first : ℕ
  rest : List ℕ
  is : bs ≡ first ∷ rest
  stops : goes_on k first ≡ false

front : (k : TokenKind) (c : ℕ) (rest : List ℕ) → goes_on k c ≡ false → Front k (c ∷ rest)
front k c rest stops = record { first = c; rest = rest; is = refl; stops = stops }

text_front : (k j : TokenKind) (text more : List ℕ) → Spells j text → not (goes_on k (slice_index text 0)) ≡ true → Front k (text ++ more)
text_front k j [] more s m = absurd (omega (arith, spelling_some j [] s))
text_front k j (c ∷ cs) more s m = front k c (cs ++ more) (not-true (goes_on k c) m)

item_front : (k : TokenKind) (p : Separator) (item : Item) (more : List ℕ) → IsWhole item → may_stand (behind_word k) p item ≡ true → Front k (separator_text p ++ (item_text item ++ more))
item_front k nothing (word w) more whole m = text_front k w.kind w.text more whole m
item_front k nothing (beside c) more whole m = absurd (cc)
item_front k nothing (below c) more whole m = absurd (cc)
item_front k space item more whole m = front k 32 (item_text item ++ more) (space_stops k)
item_front k (line true n) item more whole m = front k 10 (10 ∷ (replicate n 32 ++ (item_text item ++ more))) (feed_stops k)
item_front k (line false n) item more whole m = front k 10 (replicate n 32 ++ (item_text item ++ more)) (feed_stops k)

word_front : (k : TokenKind) (ls : List LaidItem) → MayStand (behind_word k) ls → Front k (written_text ls)
word_front k [] m = front k 10 [] (feed_stops k)
word_front k (l ∷ ls) m = item_front k l.separator l.item (written_text ls) m.0 m.1

item_line : (p : Separator) (item : Item) (rest : List ℕ) → may_stand behind_comment p item ≡ true → EndsLine (separator_text p ++ rest)
item_line p item rest m = gap.separator_closes behind_comment p item rest m

comment_line : (ls : List LaidItem) → MayStand behind_comment ls → EndsLine (written_text ls)
comment_line [] m = refl
comment_line (l ∷ ls) m = item_line l.separator l.item (item_text l.item ++ written_text ls) m.1

-- ---- all is laid out

comment_at : (source : List ℕ) (i : ℕ) (c rest : List ℕ) → IsCommentText c → EndsLine rest → drop i source ≡ c ++ rest → IsSkipAt source i (i + length c)
comment_at source i c rest t ends stands = record {
  text = c;
  after = rest;
  stands = stands;
  skips = subst (λ x. IsSkip x rest) (sym t.1) (comment t.0 t.2 ends);
  ends = refl;
}

item_laid : (source : List ℕ) (item : Item) (ls : List LaidItem) (i j : ℕ) (ts : List Lexeme) → IsWhole item → MayStand (then_behind item) ls → drop i source ≡ item_text item ++ written_text ls → Layout source (i + length (item_text item)) ts j → Layout source i (with_token i item ts) j
item_laid source (word w) ls i j ts whole m stands more =
    let f = word_front w.kind ls m in
    let scan : spelling (w.text ++ written_text ls) ≡ Some (w.kind, length w.text) = subst (λ bs. spelling (w.text ++ bs) ≡ Some (w.kind, length w.text)) (sym f.is) (scan_touches w.kind w.text f.first f.rest whole f.stops) in
    token (scanned source i (token_of i w) (written_text ls) stands whole scan refl refl) more
item_laid source (beside c) ls i j ts whole m stands more = skip (comment_at source i c (written_text ls) whole (comment_line ls m) stands) more
item_laid source (below c) ls i j ts whole m stands more = skip (comment_at source i c (written_text ls) whole (comment_line ls m) stands) more

all_laid : (source : List ℕ) (ls : List LaidItem) (b : Before) (i : ℕ) → MayStand b ls → drop i source ≡ written_text ls → Layout source i (tokens_at i ls) (i + length (written_text ls))
all_laid source [] b i m stands = skip (feed_at source i [] stands) none
all_laid source (l ∷ ls) b i m stands =
    let p = separator_text l.separator in
    let t = item_text l.item in
    let here : drop (i + length p) source ≡ t ++ written_text ls = behind source i p (t ++ written_text ls) stands in
    let next : drop (i + length p + length t) source ≡ written_text ls = behind source (i + length p) t (written_text ls) here in
    let ends : i + length p + length t + length (written_text ls) ≡ i + length (p ++ (t ++ written_text ls)) = omega (arith, length-append p (t ++ written_text ls), length-append t (written_text ls)) in
    subst (Layout source i (tokens_at i (l ∷ ls))) ends
    (laid_on (separator_laid source l.separator i (t ++ written_text ls) stands)
    (item_laid source l.item ls (i + length p) (i + length p + length t + length (written_text ls)) (tokens_at (i + length p + length t) ls) m.0 m.2 here (all_laid source ls (then_behind l.item) (i + length p + length t) m.2 next)))

pub laid_cut : (ls : List LaidItem) → MayStand start ls → Cuts (file_text ls) (tokens_at 0 ls)
laid_cut [] m = none
laid_cut (l ∷ ls) m = subst (Layout (file_text (l ∷ ls)) 0 (tokens_at 0 (l ∷ ls))) (omega arith) (all_laid (file_text (l ∷ ls)) (l ∷ ls) start 0 m refl)

-- ---- and read

-- the bytes from one place to another
pub range_at : (source : List ℕ) (p q : ℕ) (bs rest : List ℕ) → drop p source ≡ bs ++ rest → q ≡ p + length bs → slice_range source p q ≡ bs
range_at source p q bs rest stands e = ap (take (q - p)) stands ∙ take_at bs rest (q - p) (omega (arith, e))

-- a comment is read where it stands
comment_read : (source : List ℕ) (p : Separator) (c : List ℕ) (item : Item) (ls : List LaidItem) (b : Before) (near : Bool) (place i : ℕ) (front : List ℕ) → MayStand behind_comment ls
    → drop place source ≡ front ++ (separator_text p ++ (c ++ written_text ls)) → i ≡ place + length front → behind_bytes (outside near 0) front ≡ standing_of b → gap.Met (standing_of b) p c item
    → ((b : Before) (near : Bool) (place i : ℕ) (front : List ℕ) → MayStand b ls → drop place source ≡ front ++ written_text ls → i ≡ place + length front → behind_bytes (outside near 0) front ≡ standing_of b
    → pieces_behind source near place (tokens_at i ls) ≡ comments_in (outside near 0) front ++ pieces_of ls)
    → (may : gap.Closes (standing_of b) (separator_text p ++ c))
    → pieces_behind source near place (tokens_at (i + length (separator_text p) + length c) ls)
    ≡ comments_in (outside near 0) front ++ (record { blank = is_blank_line p; item = item } ∷ pieces_of ls)
comment_read source p c item ls b near place i front m stands e at h more closes =
    let o = outside near 0 in
    let s = separator_text p in
    let k = s ++ c in
    let both : drop place source ≡ (front ++ k) ++ written_text ls = stands ∙ (ap (λ t. front ++ t) (sym (append_assoc s c (written_text ls))) ∙ sym (append_assoc front k (written_text ls))) in
    let far : i + length s + length c ≡ place + length (front ++ k) = omega (arith, e, length-append front k, length-append s c) in
    let stood : behind_bytes o (front ++ k) ≡ inside = gap.behind_join o front k ∙ (ap (λ q. behind_bytes q k) at ∙ h.stays) in
    let comments : comments_in o (front ++ k) ≡ comments_in o front ++ (record { blank = is_blank_line p; item = item } ∷ []) =
    gap.comments_join o front k (subst (λ q. gap.Closes q k) (sym at) closes) ∙ ap (λ ps. comments_in o front ++ ps) (ap (λ q. comments_in q k) at ∙ h.found) in
    more behind_comment near place (i + length s + length c) (front ++ k) m both far stood
    ∙ (ap (λ ps. ps ++ pieces_of ls) comments ∙ append_assoc (comments_in o front) (record { blank = is_blank_line p; item = item } ∷ []) (pieces_of ls))

-- the item that is read next; what is read behind it is read behind more bytes of the same gap, or
-- behind the word
item_read : (source : List ℕ) (p : Separator) (item : Item) (ls : List LaidItem) (b : Before) (near : Bool) (place i : ℕ) (front : List ℕ) → IsWhole item → may_stand b p item ≡ true → MayStand (then_behind item) ls
    → drop place source ≡ front ++ (separator_text p ++ (item_text item ++ written_text ls)) → i ≡ place + length front → behind_bytes (outside near 0) front ≡ standing_of b
    → ((b : Before) (near : Bool) (place i : ℕ) (front : List ℕ) → MayStand b ls → drop place source ≡ front ++ written_text ls → i ≡ place + length front → behind_bytes (outside near 0) front ≡ standing_of b
    → pieces_behind source near place (tokens_at i ls) ≡ comments_in (outside near 0) front ++ pieces_of ls)
    → pieces_behind source near place (with_token (i + length (separator_text p)) item (tokens_at (i + length (separator_text p) + length (item_text item)) ls))
    ≡ comments_in (outside near 0) front ++ (record { blank = is_blank_line p; item = item } ∷ pieces_of ls)
item_read source p (word w) ls b near place i front whole may m stands e at more =
    let o = outside near 0 in
    let s = separator_text p in
    let j = i + length s in
    let rest = w.text ++ written_text ls in
    let both : drop place source ≡ (front ++ s) ++ rest = stands ∙ sym (append_assoc front s rest) in
    let gap_is : slice_range source place j ≡ front ++ s = range_at source place j (front ++ s) rest both (omega (arith, e, length-append front s)) in
    let stood : behind_bytes o (front ++ s) ≡ behind_bytes (standing_of b) s = gap.behind_join o front s ∙ ap (λ q. behind_bytes q s) at in
    let closes : gap.Closes (behind_bytes o front) s = subst (λ q. gap.Closes q s) (sym at) (subst (λ t. gap.Closes (standing_of b) t) (append-nil s) (gap.separator_closes b p (word w) [] may)) in
    let comments : comments_in o (front ++ s) ≡ comments_in o front = gap.comments_join o front s closes ∙ (ap (λ ps. comments_in o front ++ ps) (gap.separator_none (behind_bytes o front) p) ∙ append-nil (comments_in o front)) in
    let blank : is_behind_blank (behind_bytes o (front ++ s)) ≡ is_blank_line p = ap is_behind_blank stood ∙ gap.separator_blank b p in
    let here : drop (place + length (front ++ s)) source ≡ rest = behind source place (front ++ s) rest both in
    let there : drop j source ≡ rest = subst (λ x. drop x source ≡ rest) (omega (arith, e, length-append front s)) here in
    let next : drop (j + length w.text) source ≡ written_text ls = behind source j w.text (written_text ls) there in
    let onward : pieces_behind source true (j + length w.text) (tokens_at (j + length w.text) ls) ≡ pieces_of ls = more (behind_word w.kind) true (j + length w.text) (j + length w.text) [] m next (omega arith) refl in
    let first : comments_in o (slice_range source place j) ≡ comments_in o front = ap (comments_in o) gap_is ∙ comments in
    let second : word_piece (behind_bytes o (slice_range source place j)) (token_of j w) ≡ record { blank = is_blank_line p; item = word w } =
    ap (λ q. word_piece (behind_bytes o q) (token_of j w)) gap_is ∙ ap (λ q. record { blank = q; item = word w }) blank in
    ap₂ (λ (a c : List SpacedItem). a ++ c) first (ap₂ (λ (x : SpacedItem) (xs : List SpacedItem). x ∷ xs) second onward)
item_read source p (beside c) ls b near place i front whole may m stands e at more =
    let h = gap.beside_met b p c whole may in
    comment_read source p c (beside c) ls b near place i front m stands e at h more (gap.separator_closes b p (beside c) c may)
item_read source p (below c) ls b near place i front whole may m stands e at more =
    let h = gap.below_met b p c whole may in
    comment_read source p c (below c) ls b near place i front m stands e at h more (gap.separator_closes b p (below c) c may)

pub all_read : (source : List ℕ) (ls : List LaidItem) (b : Before) (near : Bool) (place i : ℕ) (front : List ℕ) → MayStand b ls → drop place source ≡ front ++ written_text ls → i ≡ place + length front → behind_bytes (outside near 0) front ≡ standing_of b
    → pieces_behind source near place (tokens_at i ls) ≡ comments_in (outside near 0) front ++ pieces_of ls
all_read source [] b near place i front m stands e at =
    let o = outside near 0 in
    ap (comments_in o) stands ∙ (gap.comments_join o front (10 ∷ []) (gap.feed_closes (behind_bytes o front) []) ∙ ap (λ ps. comments_in o front ++ ps) (gap.feed_none (behind_bytes o front)))
all_read source (l ∷ ls) b near place i front m stands e at =
    item_read source l.separator l.item ls b near place i front m.0 m.1 m.2 stands e at (all_read source ls)

pub laid_read : (items : List LaidItem) → MayStand start items → IsReadAs (file_text items) (pieces_of items)
laid_read [] m = ([], none, refl)
laid_read (l ∷ ls) m = (tokens_at 0 (l ∷ ls), laid_cut (l ∷ ls) m, sym (all_read (file_text (l ∷ ls)) (l ∷ ls) start false 0 0 [] m refl refl refl))
