use Rattle.std.proofs.Common.{sym, ◌∙◌, ap, take}
use Rattle.std.specs.List.{list_any}
use Rattle.std.specs.Str.{bytes_eq}
use Rattle.cedar_expressions.proofs.Repeats.{keys, keys-more, still-single, seen-more, repeated, absent, present}
use Rattle.cedar_expressions.specs.Keys.{repeats_key}
use Rattle.cedar_writer.proofs.records.repeats_key.Goals as goal

pub loop-key-preserved : goal.loop-key-preserved
loop-key-preserved c =
    let ks = keys (take c.loop-key.key-index c.args.pairs.now) in
    let k = c.as_str.result.now in
    let whole = keys-more c.args.pairs.now c.loop-key.key-index c.loop-key-item.result k c.loop-key-test.true c.loop-key-item.is c.as_str.ensures in
    let new = absent _ (sym c.in_ok-insert.ensures.added ∙ c.if-not-branch.false) in (
      ap repeats_key whole ∙ still-single ks k c.loop-key.invariant.0 (sym (c.loop-key.invariant.1 c.as_str.result) ∙ new),
      λ q. seen-more ks k q.now _ _ (c.in_ok-insert.ensures.updates.0 q) (c.loop-key.invariant.1 q) ∙ ap (list_any (bytes_eq q.now)) (sym whole),
    )

pub returns-then-not-branch : goal.returns-then-not-branch
returns-then-not-branch c =
    let ks = keys (take c.loop-key.key-index c.args.pairs.now) in
    let old = present _ (sym c.in_ok-insert.ensures.added ∙ c.if-not-branch.true) in
    sym (repeated c.args.pairs.now c.loop-key.key-index c.loop-key-item.result c.as_str.result.now c.loop-key-test.true c.loop-key-item.is c.as_str.ensures c.loop-key.invariant.0
    (sym (c.loop-key.invariant.1 c.as_str.result) ∙ old)).0
