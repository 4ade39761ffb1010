use Rattle.std.proofs.Common.{[], ◌++◌, refl}
use Rattle.std.proofs.Output.{has_written_append, has_written_of_eq}
use Rattle.cedar_expressions.specs.Pieces.{text_now}
use Rattle.cedar_expressions.specs.Shown.{expr_text}
use Rattle.cedar_expressions.proofs.ShownAt.{shown_on, first_shown, all_shown, lighter, nothing_written}
use Rattle.cedar_expressions.proofs.show.show_all.Goals as goal

pub loop-piece-preserved : goal.loop-piece-preserved
loop-piece-preserved g c =
    let took = g.W.Write.write_str_gives in
    let so = c.loop-piece.invariant in (
      so.0 ++ text_now c.in-Some.piece,
      λ plain. let before = so.1 plain in has_written_append took _ _ _ _ _ before (c.in_ok-show_next.ensures.shown before.plain refl),
      shown_on so.0 (expr_text c.args.expr.now) c.in-Some.piece c.loop-piece.rest c.pop.new.self c.show_next.new.rest so.2 c.in-Some.ensures c.in_ok-show_next.ensures.text,
    )

pub loop-piece-smaller : goal.loop-piece-smaller
loop-piece-smaller g c = lighter c.in-Some.piece c.loop-piece.rest c.pop.new.self c.show_next.new.rest c.in-Some.ensures c.in_ok-show_next.ensures.less

pub loop-piece-init : goal.loop-piece-init
loop-piece-init g c = ([], nothing_written g.W.Write.write_str_gives c.args.f.now, first_shown _ _ _ c.in_ok-push.ensures.ok c.in_ok-rest.ensures)

pub returns : goal.returns
returns g c = λ plain ok.
    let so = c.loop-piece.invariant in
    has_written_of_eq g.W.Write.write_str_gives _ _ _ _ (all_shown so.0 (expr_text c.args.expr.now) c.pop.result c.loop-piece.rest c.pop.new.self so.2 c.pop.ensures c.in_default.is) (so.1 plain)
