-- In an arm the length and each byte are known, and so is the text.
use Rattle.std.proofs.Common.{refl, arith}
use Rattle.std.specs.Prelude.{codes}
use Rattle.std.proofs.lemmas.Slice.Eq.{text_from_reads}
use Rattle.cedar_lexer.proofs.scan.slot_kind.Goals as goal

pub returns-in-63 : goal.returns-in-63
returns-in-63 c = rw (text_from_reads c.args.text.now (codes "?principal") (omega arith) (omega arith, (omega arith, (omega arith, (omega arith, (omega arith, (omega arith, (omega arith, (omega arith, (omega arith, (omega arith, tt))))))))))) refl

pub returns-in-63-2 : goal.returns-in-63-2
returns-in-63-2 c = rw (text_from_reads c.args.text.now (codes "?resource") (omega arith) (omega arith, (omega arith, (omega arith, (omega arith, (omega arith, (omega arith, (omega arith, (omega arith, (omega arith, tt)))))))))) refl
