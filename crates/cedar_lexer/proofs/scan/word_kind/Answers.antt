-- In an arm the length and each byte are known, and so is the text.
use Rattle.std.proofs.Common.{refl, arith}
use Rattle.std.specs.Prelude.{codes}
use Rattle.std.proofs.lemmas.Slice.Eq.{text_from_reads}
use Rattle.cedar_lexer.proofs.scan.word_kind.Goals as goal

pub returns-in-false : goal.returns-in-false
returns-in-false c = rw (text_from_reads c.args.text.now (codes "false") (omega arith) (omega arith, (omega arith, (omega arith, (omega arith, (omega arith, tt)))))) refl

pub returns-in-permit : goal.returns-in-permit
returns-in-permit c = rw (text_from_reads c.args.text.now (codes "permit") (omega arith) (omega arith, (omega arith, (omega arith, (omega arith, (omega arith, (omega arith, tt))))))) refl

pub returns-in-forbid : goal.returns-in-forbid
returns-in-forbid c = rw (text_from_reads c.args.text.now (codes "forbid") (omega arith) (omega arith, (omega arith, (omega arith, (omega arith, (omega arith, (omega arith, tt))))))) refl

pub returns-in-unless : goal.returns-in-unless
returns-in-unless c = rw (text_from_reads c.args.text.now (codes "unless") (omega arith) (omega arith, (omega arith, (omega arith, (omega arith, (omega arith, (omega arith, tt))))))) refl

pub returns-in-action : goal.returns-in-action
returns-in-action c = rw (text_from_reads c.args.text.now (codes "action") (omega arith) (omega arith, (omega arith, (omega arith, (omega arith, (omega arith, (omega arith, tt))))))) refl

pub returns-in-context : goal.returns-in-context
returns-in-context c = rw (text_from_reads c.args.text.now (codes "context") (omega arith) (omega arith, (omega arith, (omega arith, (omega arith, (omega arith, (omega arith, (omega arith, tt)))))))) refl

pub returns-in-resource : goal.returns-in-resource
returns-in-resource c = rw (text_from_reads c.args.text.now (codes "resource") (omega arith) (omega arith, (omega arith, (omega arith, (omega arith, (omega arith, (omega arith, (omega arith, (omega arith, tt))))))))) refl

pub returns-in-principal : goal.returns-in-principal
returns-in-principal c = rw (text_from_reads c.args.text.now (codes "principal") (omega arith) (omega arith, (omega arith, (omega arith, (omega arith, (omega arith, (omega arith, (omega arith, (omega arith, (omega arith, tt)))))))))) refl
