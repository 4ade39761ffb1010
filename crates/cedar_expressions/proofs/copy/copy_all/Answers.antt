use Rattle.std.proofs.Common.{◌≡◌, ℕ, suc, ◌-◌, ◌<◌, [], ◌∷◌, length, map, ap, sym, ◌∙◌, arith}
use Rattle.cedar_expressions.specs.Copies.{copied}
use Rattle.cedar_expressions.specs.Parts.{kind_parts}
use Rattle.cedar_expressions.proofs.CopiesAt.{walk, begun, at_turn, held, enough, turned, ended, map_long}
use Rattle.cedar_expressions.proofs.copy.copy_all.Goals as goal

pub loop-left-init : goal.loop-left-init
loop-left-init c =
    let long = c.len-left.ensures ∙ c.in_ok-all.all.ok.0 in (
      omega (arith, long),
      begun c.args.entities.now c.args.expr.now (map (λ e. e.now) c.in_ok-all.all.items) c.len-left.result c.in_ok-copies.copies c.in_ok-all.ensures (long ∙ sym (map_long (λ e. e.now) c.in_ok-all.all.items)) c.in_ok-copies.ensures,
    )

-- the copies before a turn, over the one before it
one_more : (n : ℕ) → 0 < n → n ≡ suc (n - 1)
one_more n some = omega (arith, some)

pub copy_node-requires : goal.copy_node-requires
copy_node-requires c =
    let es = c.args.entities.now in
    let root = c.args.expr.now in
    let n = c.loop-left.left - 1 in
    let node = c.index.result.now in
    let under : n < length c.in_ok-all.all.items = omega (arith, c.loop-left-test.true, c.loop-left.invariant.0) in
    let t = at_turn root c.in_ok-all.all.items n node c.in_ok-all.ensures under c.index.ensures in
    let before = c.loop-left.invariant.1 ∙ ap (λ m. map (copied es) (walk m (root ∷ []))) (one_more c.loop-left.left c.loop-left-test.true) in
    enough es (kind_parts node.now.kind) c.loop-left.copies (map (copied es) t.0) (held es root node.now n t.0 c.loop-left.copies t.1 before)

pub loop-left-preserved : goal.loop-left-preserved
loop-left-preserved c =
    let es = c.args.entities.now in
    let root = c.args.expr.now in
    let n = c.loop-left.left - 1 in
    let node = c.index.result.now in
    let under : n < length c.in_ok-all.all.items = omega (arith, c.loop-left-test.true, c.loop-left.invariant.0) in
    let t = at_turn root c.in_ok-all.all.items n node c.in_ok-all.ensures under c.index.ensures in
    let before = c.loop-left.invariant.1 ∙ ap (λ m. map (copied es) (walk m (root ∷ []))) (one_more c.loop-left.left c.loop-left-test.true) in (
      omega (arith, under),
      turned es root node.now n t.0 c.copy_node.new.copies t.1 (c.in_ok-copy_node.ensures (map (copied es) t.0) (held es root node.now n t.0 c.loop-left.copies t.1 before)),
    )

pub take_copy-requires : goal.take_copy-requires
take_copy-requires c =
    let whole = ended c.args.entities.now c.args.expr.now c.loop-left.left c.loop-left.copies (omega (arith, c.loop-left-test.false)) c.loop-left.invariant.1 in
    let long = ap length whole in
    omega (arith, long)

pub returns : goal.returns
returns c =
    let whole = ended c.args.entities.now c.args.expr.now c.loop-left.left c.loop-left.copies (omega (arith, c.loop-left-test.false)) c.loop-left.invariant.1 in
    cc (sym c.take_copy.ensures ∙ whole)
