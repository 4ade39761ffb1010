use Rattle.std.proofs.Common.{sym, ap, ◌∙◌, ℕ, List, Bool, bytes_eq, not, filter, Bor, ◌≡◌}
use Rattle.std.specs.List.{list_any}
use Rattle.std.proofs.lemmas.Result.{IfOk-weaker}
use Rattle.cedar_syntax.specs.messages.Kept.{rules_of}
use Rattle.cedar_syntax.proofs.KeptLemmas.{kept-possible, kept-general, kept-rest}
use Rattle.cedar_syntax.proofs.err.expected.kept_names.Goals as goal

-- a test of a slice, of the `Vec` that lent it
tested : (name : List ℕ) (slice items : List (Bor (List ℕ))) (found b : Bool) → slice ≡ items → found ≡ list_any (λ y. bytes_eq y.now name) slice → found ≡ b → list_any (λ y. bytes_eq y.now name) items ≡ b
tested name slice items found b e h t = ap (list_any (λ y. bytes_eq y.now name)) (sym e) ∙ sym h ∙ t

pub returns-then-not-contains : goal.returns-then-not-contains
returns-then-not-contains c =
    let rules = rules_of c.args.config.now in
    kept-possible rules c.args.names.now c.in_ok-possible.possible.items c.in_ok-possible.ensures
    (tested rules.identifier _ _ _ _ c.deref.ensures.value c.contains.ensures.value c.if-not-contains.true)

-- what is left of a slice, and of the `Vec` that lent it
moved : (drops : List ℕ → Bool) (slice items left : List (Bor (List ℕ))) → slice ≡ items → left ≡ filter (λ name. not (drops name.now)) slice → left ≡ filter (λ name. not (drops name.now)) items
moved drops slice items left e h = h ∙ ap (filter (λ name. not (drops name.now))) e

pub returns-then-contains : goal.returns-then-contains
returns-then-contains c =
    let rules = rules_of c.args.config.now in
    kept-general rules c.args.names.now c.in_ok-possible.possible.items c.in_ok-possible.ensures c.in_ok-general.general.items
    (tested rules.identifier _ _ _ _ c.deref.ensures.value c.contains.ensures.value c.if-not-contains.false)
    (moved rules.special _ _ _ c.as_slice.ensures.value c.in_ok-general.ensures)
    (tested rules.first_set _ _ _ _ c.deref-2.ensures.value c.contains-2.ensures.value c.if-contains.true)

pub returns : goal.returns
returns c =
    let rules = rules_of c.args.config.now in
    IfOk-weaker c.without-3.result _ _ (λ left e.
    kept-rest rules c.args.names.now c.in_ok-possible.possible.items c.in_ok-possible.ensures c.in_ok-general.general.items
    (tested rules.identifier _ _ _ _ c.deref.ensures.value c.contains.ensures.value c.if-not-contains.false)
    (moved rules.special _ _ _ c.as_slice.ensures.value c.in_ok-general.ensures)
    left.items
    (tested rules.first_set _ _ _ _ c.deref-2.ensures.value c.contains-2.ensures.value c.if-contains.false)
    (moved rules.first_words _ _ _ c.as_slice-2.ensures.value e))
    c.without-3.ensures
