use Rattle.std.proofs.Common.{length, rules}
use Rattle.cedar_report.proofs.Pieces.{one_piece, no_piece, no_bad_place, less_behind}
use Rattle.cedar_report.proofs.behind.pieces.Goals as goal

pub returns-in_default-piece_behind : goal.returns-in_default-piece_behind
returns-in_default-piece_behind c =
    let i = c.loop-bad_place.invariant in
    record {
      tokens = i.1;
      bad_place = i.0;
      cut = i.2;
      are_pieces = no_piece c.args.text.now i.0 c.loop-bad_place.pieces.items c.loop-bad_place.bad_place c.in-Some.place c.piece_behind.result i.3 c.in-Some.is c.piece_behind.ensures.piece c.in_default-piece_behind.is;
    }

pub loop-bad_place-smaller : goal.loop-bad_place-smaller
loop-bad_place-smaller c =
    less_behind (length c.args.text.now) c.loop-bad_place.bad_place c.in-Some.place c.piece_behind.result c.in-Some-piece_behind.piece c.next_bad_place-bad_place.result c.in-Some.is c.in-Some-piece_behind.is c.piece_behind.ensures.onward c.piece_behind.ensures.within c.next_bad_place-bad_place.ensures

pub loop-bad_place-preserved : goal.loop-bad_place-preserved
loop-bad_place-preserved c =
    let i = c.loop-bad_place.invariant in
    (i.0, i.1, i.2, one_piece c.args.text.now i.0 c.loop-bad_place.pieces.items c.push.new.self.items c.loop-bad_place.bad_place c.in-Some.place c.piece_behind.result c.in-Some-piece_behind.piece c.next_bad_place-bad_place.result i.3 c.in-Some.is c.piece_behind.ensures.piece c.in-Some-piece_behind.is c.next_bad_place-bad_place.ensures (search rules))

pub returns : goal.returns
returns c =
    let i = c.loop-bad_place.invariant in
    record { tokens = i.1; bad_place = i.0; cut = i.2; are_pieces = no_bad_place c.args.text.now i.0 c.loop-bad_place.pieces.items c.loop-bad_place.bad_place i.3 c.in_default.is }
