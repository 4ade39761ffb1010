-- One more item is read.
use Rattle.std.proofs.Common.{◌≡◌, ℕ, ◌+◌, ◌<◌, Bool, true, false, List, [], ◌∷◌, ◌++◌, length, get_or, refl, sym, ap, ap₂, ◌∙◌, append_assoc, drop, Option, Some, Bor}
use Rattle.std.proofs.lemmas.List.{drop_more}
use Rattle.cedar_lexer.specs.declared.token.TokenKind.{TokenKind}
use Rattle.cedar_layout.specs.declared.brackets.Bracket.{Bracket}
use Rattle.cedar_layout.specs.declared.gaps.Gap.{Gap}
use Rattle.cedar_layout.specs.declared.spots.Spot.{Spot}
use Rattle.cedar_layout.specs.declared.pieces.Item as code
use Rattle.cedar_layout.specs.declared.pieces.Item.TheVariants.{Word, Beside, Below}
use Rattle.cedar_layout.specs.declared.pieces.SpacedItem.{SpacedItem}
use Rattle.cedar_layout.specs.Brackets.{innermost_of, brackets_behind}
use Rattle.cedar_layout.specs.Gaps.{gap_at}
use Rattle.cedar_layout.specs.Hugs.{first_flag, rest_flags}
use Rattle.cedar_layout.specs.Columns.{width_of}
use Rattle.cedar_layout.specs.Spots.{spots_from}
use Rattle.cedar_layout.specs.Pieces.{Item}
use Rattle.cedar_layout.specs.Read.{item_now, items_now}
use Rattle.cedar_layout.proofs.spots.spots.Goals as goal
use Rattle.cedar_layout.proofs.spots.spots.Goals.{in-Word+in_ok-push+in_ok-read_bracket, in_default}

abbrev spot : TokenKind → ℕ → Bool → Gap → Spot
spot kind chars commented gap = record { kind = kind; columns = chars; commented = commented; gap = gap }

next_item : (pieces : List SpacedItem) (i : ℕ) (d : SpacedItem) → i < length pieces → items_now (drop i pieces) ≡ item_now (get_or pieces i d).item ∷ items_now (drop (i + 1) pieces)
next_item pieces i d within = ap items_now (drop_more pieces i d within)

word_onward : (all spots : List Spot) (brackets : List Bracket) (before last : Option TokenKind) (led commented : Bool) (told : List Bool) (pieces : List SpacedItem) (i : ℕ) (d : SpacedItem) (kind : TokenKind) (text : Bor (List ℕ)) (chars : ℕ) (gap : Gap)
    → i < length pieces → (get_or pieces i d).item ≡ Word kind text → chars ≡ width_of text.now → gap ≡ gap_at (innermost_of brackets) commented led before last kind text.now
    → spots ++ spots_from brackets before last led commented told (items_now (drop i pieces)) ≡ all
    → (spots ++ spot kind chars commented gap ∷ []) ++ spots_from (brackets_behind brackets before kind (first_flag told)) last (Some kind) commented false (rest_flags told) (items_now (drop (i + 1) pieces)) ≡ all
word_onward all spots brackets before last led commented told pieces i d kind text chars gap within is size between so_far =
    let rest = items_now (drop (i + 1) pieces) in
    let more = spots_from (brackets_behind brackets before kind (first_flag told)) last (Some kind) commented false (rest_flags told) rest in
    let items : items_now (drop i pieces) ≡ item_now (Word kind text) ∷ rest = next_item pieces i d within ∙ ap (λ x. item_now x ∷ rest) is in
    let same : spot kind chars commented gap ≡ spot kind (width_of text.now) commented (gap_at (innermost_of brackets) commented led before last kind text.now) = ap₂ (λ (n : ℕ) (g : Gap). spot kind n commented g) size between in
    append_assoc spots (spot kind chars commented gap ∷ []) more
    ∙ (ap (λ x. spots ++ (x ∷ more)) same
    ∙ (ap (λ is. spots ++ spots_from brackets before last led commented told is) (sym items) ∙ so_far))

no_word : (x : code.Item) → ((kind : TokenKind) (text : Bor (List ℕ)) → x ≡ Word kind text → ⊥) → (brackets : List Bracket) (before last : Option TokenKind) (led commented : Bool) (told : List Bool) (is : List Item) → spots_from brackets before last led commented told (item_now x ∷ is) ≡ spots_from brackets before last led true told is
no_word (Word kind text) isnt brackets before last led commented told is = absurd (isnt kind text refl)
no_word (Beside text) isnt brackets before last led commented told is = refl
no_word (Below text) isnt brackets before last led commented told is = refl

comment_onward : (all spots : List Spot) (brackets : List Bracket) (before last : Option TokenKind) (led commented : Bool) (told : List Bool) (pieces : List SpacedItem) (i : ℕ) (d : SpacedItem) → i < length pieces → ((kind : TokenKind) (text : Bor (List ℕ)) → (get_or pieces i d).item ≡ Word kind text → ⊥)
    → spots ++ spots_from brackets before last led commented told (items_now (drop i pieces)) ≡ all
    → spots ++ spots_from brackets before last led true told (items_now (drop (i + 1) pieces)) ≡ all
comment_onward all spots brackets before last led commented told pieces i d within isnt so_far =
    ap (λ x. spots ++ x) (sym (ap (spots_from brackets before last led commented told) (next_item pieces i d within) ∙ no_word (get_or pieces i d).item isnt brackets before last led commented told (items_now (drop (i + 1) pieces)))) ∙ so_far

pub loop-piece-preserved : goal.loop-piece-preserved
loop-piece-preserved c = elim c.match-piece.branch [
  | in-Word+in_ok-push+in_ok-read_bracket w ↦
      rw (w.spots-is, w.brackets-is, w.before-is, w.last-is, w.led-is, w.commented-is, w.flags-is, w.in_ok-push.ensures.items, w.in_ok-read_bracket.ensures, w.next_flag.ensures.flag, w.next_flag.ensures.rest)
      (word_onward _ c.loop-piece.spots.items c.loop-piece.brackets.items c.loop-piece.before c.loop-piece.last c.loop-piece.led c.loop-piece.commented c.loop-piece.flags.items c.args.pieces.now c.loop-piece.piece-index _ w.in-Word.kind w.in-Word.text w.width_of.result w.gap_at.result
      c.loop-piece-test.true w.in-Word.is w.width_of.ensures (w.gap_at.ensures ∙ ap (λ f. gap_at f c.loop-piece.commented c.loop-piece.led c.loop-piece.before c.loop-piece.last w.in-Word.kind w.in-Word.text.now) w.first_bracket.ensures) c.loop-piece.invariant)
  | in_default w ↦
      rw (w.spots-is, w.brackets-is, w.before-is, w.last-is, w.led-is, w.commented-is, w.flags-is)
      (comment_onward _ c.loop-piece.spots.items c.loop-piece.brackets.items c.loop-piece.before c.loop-piece.last c.loop-piece.led c.loop-piece.commented c.loop-piece.flags.items c.args.pieces.now c.loop-piece.piece-index _ c.loop-piece-test.true w.in_default.not-Word c.loop-piece.invariant)
]
