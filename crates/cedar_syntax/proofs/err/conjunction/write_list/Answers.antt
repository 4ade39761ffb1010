use Rattle.std.proofs.Common.{◌++◌, codes, sym, refl, ◌∙◌}
use Rattle.std.proofs.Output.{has_written_append, has_written_of_eq}
use Rattle.std.specs.Fmt.{HasWritten}
use Rattle.cedar_syntax.proofs.ConjoinedLemmas.{conjoined-written}
use Rattle.cedar_syntax.proofs.err.conjunction.write_list.Goals as goal

-- a list of two or more behind the first one
pub returns : goal.returns
returns g c = λ plain ok.
    let took = g.W.Write.write_str_gives in
    let one = c.in_ok-write_listed.ensures plain refl in
    let two = c.in_ok-write_between.ensures one.plain refl in
    let three : HasWritten took c.write_between.new.f (codes ", " ++ (c.args.word.now ++ codes " ")) c.write-2.new.self = c.in_ok-write-2.ensures.writes two.plain refl in
    let four = c.write_listed-2.ensures three.plain ok in
    has_written_of_eq took _ _ _ _ (conjoined-written g.T.Listed.text _ _ _ _ _ c.in-Some.ensures.cases.0 (sym c.is_empty.ensures ∙ c.if-is_empty.false)) (has_written_append took _ _ _ _ _ one (has_written_append took _ _ _ _ _ two (has_written_append took _ _ _ _ _ three four)))
