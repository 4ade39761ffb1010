-- Pieces there are begin a file as they begin a text.
use Rattle.std.proofs.Common.{◌≡◌, false, List, [], ◌∷◌, IfOk, length, refl, sym, ap, ◌∙◌, subst}
use Rattle.std.specs.Prelude.{◌==◌}
use Rattle.std.specs.String.{string_bytes}
use Rattle.cedar_layout.specs.declared.decisions.Decision.{Decision}
use Rattle.cedar_layout.specs.declared.pieces.SpacedItem as code
use Rattle.cedar_layout.specs.Pieces.{items_of}
use Rattle.cedar_layout.specs.Laid.{start, file_text, written_text}
use Rattle.cedar_layout.specs.Layouts.{laid_items}
use Rattle.cedar_layout.specs.Read.{pieces_now, items_now, item_now}
use Rattle.cedar_layout.specs.Style.{style}
use Rattle.cedar_layout.proofs.writing.write.Goals as goal

items_are : (ps : List code.SpacedItem) → items_now ps ≡ items_of (pieces_now ps)
items_are [] = refl
items_are (p ∷ ps) = ap (λ is. item_now p.item ∷ is) (items_are ps)

filed : (ps : List code.SpacedItem) (ds : List Decision) → (length ps == 0) ≡ false → written_text (laid_items start ds (pieces_now ps)) ≡ file_text (laid_items start ds (pieces_now ps))
filed [] ds e = absurd (cc)
filed (p ∷ ps) ds e = refl

pub returns : goal.returns
returns c =
    let ps = c.args.pieces.now in
    let decided = c.in_ok-decisions.ensures ∙ ap (style c.args.options) (items_are ps) in
    subst (λ x. IfOk c.write_pieces.result (λ text. string_bytes text ≡ x))
    (filed ps c.in_ok-decisions.decisions.items (sym c.is_empty.ensures ∙ c.if-is_empty.false) ∙ ap (λ ds. file_text (laid_items start ds (pieces_now ps))) decided)
    c.write_pieces.ensures
