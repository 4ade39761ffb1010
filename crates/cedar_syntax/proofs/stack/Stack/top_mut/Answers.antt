use borrow.Follows.Closed.{read_of}
use Rattle.std.specs.Prelude.{reverse}
use Rattle.std.specs.Option.{ghost_name_of}
use Rattle.cedar_syntax.proofs.Newest.{top_lent, top_written}
use Rattle.cedar_syntax.proofs.stack.Stack.top_mut.Goals as goal

pub returns : goal.returns
returns g c =
    let v = c.self.inside.items in
    rw (← c.self.view_is) (
      λ t. read_of (ghost_name_of c.last_mut.result) (λ (w : g.row.T.Denot). top_written v.items v.len w v.ok.0 t) (reverse v.items),
      record { writes_back = tt; value = top_lent v.items c.last_mut.result v.len v.ok.0 c.last_mut.ensures.variant c.last_mut.ensures.value },
    )
