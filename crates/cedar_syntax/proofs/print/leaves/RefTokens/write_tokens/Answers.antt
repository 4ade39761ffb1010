use Rattle.cedar_syntax.proofs.Printing.{after, as_texts}
use Rattle.cedar_syntax.proofs.Texts.{uid_texts, reference_texts}
use Rattle.cedar_syntax.proofs.print.leaves.RefTokens.write_tokens.Goals as goal

pub returns-in_ok-fresh-in-Uid-3 : goal.returns-in_ok-fresh-in-Uid-3
returns-in_ok-fresh-in-Uid-3 g c =
    let took = g.W.Write.write_str_gives in
    as_texts took (uid_texts _ _ _ c.in-Uid.is) (after took c.in_ok-fresh-in-Uid.ensures (after took c.in_ok-fresh-in-Uid-2.ensures c.in_ok-fresh-in-Uid-3.ensures))

pub returns-in_ok-fresh-in-Ref-5 : goal.returns-in_ok-fresh-in-Ref-5
returns-in_ok-fresh-in-Ref-5 g c =
    let took = g.W.Write.write_str_gives in
    as_texts took (reference_texts _ _ _ c.in-Ref.is) (after took c.in_ok-fresh-in-Ref.ensures (after took c.in_ok-fresh-in-Ref-2.ensures (after took c.in_ok-fresh-in-Ref-3.ensures (after took c.in_ok-fresh-in-Ref-4.ensures c.in_ok-fresh-in-Ref-5.ensures))))
