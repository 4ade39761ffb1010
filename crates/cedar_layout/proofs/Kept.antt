-- Whatever a layout decides, its text is read as the same items, and laid out again it is the same.
use Rattle.std.proofs.Common.{◌≡◌, ℕ, Bool, true, false, cond, List, [], ◌∷◌, refl, sym, ap, ap₂, ◌∙◌}
use Rattle.cedar_lexer.specs.Cut.{Cuts}
use Rattle.cedar_lexer.specs.Token.{Lexeme}
use Rattle.cedar_lexer.specs.Words.{TokenText, words_of}
use Rattle.cedar_lexer.specs.declared.token.TokenKind.{TokenKind}
use Rattle.cedar_lexer.proofs.Cuts.{one_end, nothing_at_end}
use Rattle.cedar_layout.specs.Pieces.{SpacedItem, Item, word, beside, below, items_of, pieces_behind, IsReadAs}
use Rattle.cedar_layout.specs.Laid.{Separator, nothing, space, line, is_blank_line, LaidItem, piece_of, pieces_of, file_text, may_touch, Before, start, behind_word, behind_comment, then_behind, may_stand, MayStand, may_come_behind, MayFollow, words_in}
use Rattle.cedar_layout.specs.declared.decisions.Form.{Form}
use Rattle.cedar_layout.specs.declared.decisions.Form.TheVariants.{Joined, Apart, Broken}
use Rattle.cedar_layout.specs.declared.decisions.BlankRule.{BlankRule}
use Rattle.cedar_layout.specs.declared.decisions.BlankRule.TheVariants.{Never, Kept, Always}
use Rattle.cedar_layout.specs.declared.decisions.Decision.{Decision}
use Rattle.cedar_layout.specs.Layouts.{has_blank, LayoutRule, begun_line, between_words, separate, laid_item, laid_items, laid_out, first_decision, rest_decisions}
use Rattle.cedar_layout.proofs.Rereading.{laid_read}
use Rattle.cedar_layout.proofs.Stood.{read_stands, words_read}

-- ---- what a decision becomes may stand

joined_stands : (kind : TokenKind) (w : TokenText) (touching : Bool) → may_touch kind w ≡ touching → may_stand (behind_word kind) (cond touching nothing space) (word w) ≡ true
joined_stands kind w true e = e
joined_stands kind w false e = refl

word_stands : (kind : TokenKind) (w : TokenText) (f : Form) (blank : Bool) (n : ℕ) → may_stand (behind_word kind) (between_words f (may_touch kind w) (line blank n)) (word w) ≡ true
word_stands kind w Joined blank n = joined_stands kind w (may_touch kind w) refl
word_stands kind w Apart blank n = refl
word_stands kind w Broken blank n = refl

separated : (b : Before) (d : Decision) (blank : Bool) (i : Item) → may_come_behind b i ≡ true → may_stand b (separate b d blank i) i ≡ true
separated start d blank (word w) m = refl
separated start d blank (beside c) m = absurd (cc)
separated start d blank (below c) m = refl
separated (behind_word kind) d blank (word w) m = word_stands kind w d.form (has_blank d.rule blank) d.depth
separated (behind_word kind) d blank (beside c) m = refl
separated (behind_word kind) d blank (below c) m = refl
separated behind_comment d blank (word w) m = refl
separated behind_comment d blank (beside c) m = absurd (cc)
separated behind_comment d blank (below c) m = refl

pub laid_stand : (b : Before) (ds : List Decision) (ps : List SpacedItem) → MayFollow b (items_of ps) → MayStand b (laid_items b ds ps)
laid_stand b ds [] m = tt
laid_stand b ds (p ∷ ps) m = (m.0, separated b (first_decision ds) p.blank p.item m.1, laid_stand (then_behind p.item) (rest_decisions ds) ps m.2)

-- ---- the items are the same

pub laid_same : (b : Before) (ds : List Decision) (ps : List SpacedItem) → items_of (pieces_of (laid_items b ds ps)) ≡ items_of ps
laid_same b ds [] = refl
laid_same b ds (p ∷ ps) = ap (λ is. p.item ∷ is) (laid_same (then_behind p.item) (rest_decisions ds) ps)

-- ---- and a second time each decision becomes the same

blank_again : (r : BlankRule) (blank : Bool) → has_blank r (has_blank r blank) ≡ has_blank r blank
blank_again Never blank = refl
blank_again Kept blank = refl
blank_again Always blank = refl

line_again : (d : Decision) (blank : Bool) → begun_line d (is_blank_line (begun_line d blank)) ≡ begun_line d blank
line_again d blank = ap (λ q. line q d.depth) (blank_again d.rule blank)

form_again : (d : Decision) (f : Form) (touching blank : Bool) → between_words f touching (begun_line d (is_blank_line (between_words f touching (begun_line d blank)))) ≡ between_words f touching (begun_line d blank)
form_again d Joined touching blank = refl
form_again d Apart touching blank = refl
form_again d Broken touching blank = line_again d blank

separate_again : (b : Before) (d : Decision) (blank : Bool) (i : Item) → separate b d (is_blank_line (separate b d blank i)) i ≡ separate b d blank i
separate_again start d blank i = refl
separate_again (behind_word kind) d blank (word w) = form_again d d.form (may_touch kind w) blank
separate_again (behind_word kind) d blank (beside c) = refl
separate_again (behind_word kind) d blank (below c) = line_again d blank
separate_again behind_comment d blank i = line_again d blank

item_again : (b : Before) (d : Decision) (p : SpacedItem) → laid_item b d (piece_of (laid_item b d p)) ≡ laid_item b d p
item_again b d p = ap (λ s. separated_by s) (separate_again b d p.blank p.item)
  where
    separated_by : Separator → LaidItem
    separated_by s = record { separator = s; item = p.item }

laid_again : (b : Before) (ds : List Decision) (ps : List SpacedItem) → laid_items b ds (pieces_of (laid_items b ds ps)) ≡ laid_items b ds ps
laid_again b ds [] = refl
laid_again b ds (p ∷ ps) = ap₂ (λ (l : LaidItem) (ls : List LaidItem). l ∷ ls) (item_again b (first_decision ds) p) (laid_again (then_behind p.item) (rest_decisions ds) ps)

-- ---- a text laid out

-- what its text is read as
abbrev pub pieces_again : LayoutRule → List SpacedItem → List SpacedItem
pieces_again layout ps = pieces_of (laid_items start (layout (items_of ps)) ps)

pub read_again : (layout : LayoutRule) (source : List ℕ) (ps : List SpacedItem) → IsReadAs source ps → IsReadAs (laid_out layout ps) (pieces_again layout ps)
read_again layout source ps r = laid_read (laid_items start (layout (items_of ps)) ps) (laid_stand start (layout (items_of ps)) ps (read_stands source ps r))

pub same_items : (layout : LayoutRule) (ps : List SpacedItem) → items_of (pieces_again layout ps) ≡ items_of ps
same_items layout ps = laid_same start (layout (items_of ps)) ps

pub out_again : (layout : LayoutRule) (ps : List SpacedItem) → laid_out layout (pieces_again layout ps) ≡ laid_out layout ps
out_again layout ps =
    ap (λ is. file_text (laid_items start (layout is) (pieces_again layout ps))) (same_items layout ps)
    ∙ ap file_text (laid_again start (layout (items_of ps)) ps)

-- a text is read as one list of pieces
pub one_reading : (source : List ℕ) (ps qs : List SpacedItem) → IsReadAs source ps → IsReadAs source qs → ps ≡ qs
one_reading source ps qs (ts, p, is) (us, q, are) =
    is ∙ (ap (pieces_behind source false 0) (one_end p (nothing_at_end source) q (nothing_at_end source)).0 ∙ sym are)

pub keeps_items : (layout : LayoutRule) (source : List ℕ) (ps qs : List SpacedItem) → IsReadAs source ps → IsReadAs (laid_out layout ps) qs → items_of qs ≡ items_of ps
keeps_items layout source ps qs r s = ap items_of (one_reading (laid_out layout ps) qs (pieces_again layout ps) s (read_again layout source ps r)) ∙ same_items layout ps

pub stays_laid_out : (layout : LayoutRule) (source : List ℕ) (ps qs : List SpacedItem) → IsReadAs source ps → IsReadAs (laid_out layout ps) qs → laid_out layout qs ≡ laid_out layout ps
stays_laid_out layout source ps qs r s = ap (laid_out layout) (one_reading (laid_out layout ps) qs (pieces_again layout ps) s (read_again layout source ps r)) ∙ out_again layout ps

pub keeps_words : (layout : LayoutRule) (source : List ℕ) (ps : List SpacedItem) (ts us : List Lexeme) → IsReadAs source ps → Cuts source ts → Cuts (laid_out layout ps) us → words_of us ≡ words_of ts
keeps_words layout source ps ts us (vs, cut, is) c d =
    let out = laid_out layout ps in
    let same : vs ≡ ts = (one_end cut (nothing_at_end source) c (nothing_at_end source)).0 in
    sym (words_read out us (pieces_behind out false 0 us) refl)
    ∙ (ap words_in (keeps_items layout source ps (pieces_behind out false 0 us) (vs, cut, is) (us, d, refl))
    ∙ words_read source ts ps (is ∙ ap (pieces_behind source false 0) same))
