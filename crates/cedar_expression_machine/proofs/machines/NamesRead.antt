-- How whole texts are read by the rules of names, entity literals and identifiers.
use Rattle.std.proofs.Common.{ℕ, List}
use Rattle.cedar_grammar.specs.grammar.Grammar.{IsNodeOf}
use Rattle.cedar_grammar.specs.grammar.LooseWords.{ReadsIdent, ReadsName, ReadsRef}
use Rattle.cedar_grammar.specs.machines.Judged.{ReadsBy}
use Rattle.cedar_expression_machine.specs.machines.Words.{name_reader, ref_reader, ident_reader}
use Rattle.cedar_grammar.proofs.machines.Readers.{reads_by}
use Rattle.cedar_expression_machine.proofs.machines.Names.{names_parser, refs_parser, idents_parser}
use Rattle.cedar_expression_machine.proofs.machines.WordShapes.{names_outlined, refs_outlined, idents_outlined}

pub names_read : (src : List ℕ) → ReadsBy src name_reader (IsNodeOf ReadsName src)
names_read src = reads_by (names_outlined src) (names_parser src)

pub refs_read : (src : List ℕ) → ReadsBy src ref_reader (IsNodeOf ReadsRef src)
refs_read src = reads_by (refs_outlined src) (refs_parser src)

pub idents_read : (src : List ℕ) → ReadsBy src ident_reader (IsNodeOf ReadsIdent src)
idents_read src = reads_by (idents_outlined src) (idents_parser src)
