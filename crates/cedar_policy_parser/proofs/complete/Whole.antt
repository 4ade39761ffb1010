-- Tokens that mean something are read as a tree that is converted to it: the induction over the
-- strict grammar.
use Rattle.std.proofs.Common.{ℕ, List, refl}
use Rattle.cedar_lexer.specs.Token.{Lexeme}
use Rattle.cedar_lexer.specs.declared.token.TokenKind.{TokenKind}
use Rattle.cedar_lexer.specs.declared.token.TokenKind.TheVariants as kind
use Rattle.cedar_expressions.specs.declared.operators.AddOp.{AddOp}
use Rattle.cedar_expressions.specs.Value.{Value}
use Rattle.cedar_syntax.specs.tokens.Signs.{sign_limit}
use Rattle.cedar_conversion.specs.strict.Extensions.{Extensions}
use Rattle.cedar_conversion.specs.strict.Strict as m
use Rattle.cedar_conversion.specs.strict.Strict.{Sort, Means, Joined, Added, Listed, Entries, JoinedEntries, Entry}
use Rattle.cedar_policy_parser.proofs.complete.Items.{no_list, list_read, list_comma, entry_read, one_pair, more_pairs, no_entries, entries_read, entries_comma, set_read, braces_read, paren_read}
use Rattle.cedar_policy_parser.proofs.complete.Leaves.{true_read, false_read, number_read, string_read, variable_read, principal_slot_read, resource_slot_read, uid_read}
use Rattle.cedar_policy_parser.proofs.complete.Levels.{Read, MultsRead, PartsRead, one_read, more_read, one_mult_read, more_mults, or_read, or_alone, and_read, and_alone, mult_read, mult_alone, add_read, add_alone, expr_read}
use Rattle.cedar_policy_parser.proofs.complete.Lone.{sought_read, type_read, pattern_read}
use Rattle.cedar_policy_parser.proofs.complete.Members.{member_alone, attribute_read, indexed_read, method_read, called_read}
use Rattle.cedar_policy_parser.proofs.complete.Reads.{ListRead, EntryRead, PairsRead, EntriesRead}
use Rattle.cedar_policy_parser.proofs.complete.Sides.{operator_read, relation_alone, relation_read, has_read, like_read, is_read, is_in_read, if_read}
use Rattle.cedar_policy_parser.proofs.complete.Signs.{plain_read, banged_read, dashed_read, negative_read}

mutual
  pub complete : {s : Sort} {ts : List Lexeme} {w : Value} (e : Extensions) (src : List ℕ) → Means e sign_limit s ts w → Read e src s ts w
  complete e src (m.conditional i t o f g h) = if_read i t o (complete e src f) (complete e src g) (complete e src h)
  complete e src (m.one_disjunction h) = expr_read (complete e src h)
  complete e src (m.disjoined j some) = or_read (complete_parts e src j refl) some
  complete e src (m.one_conjunction {ts = ts} {a = a} h) = or_alone (one_read e src kind.OrOr ts a m.conjunction (complete e src h) refl)
  complete e src (m.conjoined j some) = and_read (complete_parts e src j refl) some
  complete e src (m.one_relation {ts = ts} {a = a} h) = and_alone (one_read e src kind.AndAnd ts a m.relation (complete e src h) refl)
  complete e src (m.related p f r g) = relation_read p (complete e src f) (operator_read r) (complete e src g)
  complete e src (m.has p f s) = has_read p (complete e src f) (sought_read src s)
  complete e src (m.like {pattern = pattern} p q f i) = like_read p (complete e src f) (pattern_read e src q pattern i)
  complete e src (m.is p f n) = is_read p (complete e src f) (type_read e src n)
  complete e src (m.is_in p q f n g) = is_in_read p q (complete e src f) (type_read e src n) (complete e src g)
  complete e src (m.one_sum h) = relation_alone (complete e src h)
  complete e src (m.added_up j some) = add_read (complete_terms e src j) some
  complete e src (m.one_product h) = add_alone (one_mult_read (complete e src h))
  complete e src (m.multiplied j some) = mult_read (complete_parts e src j refl) some
  complete e src (m.one_signed {ts = ts} {a = a} h) = mult_alone (one_read e src kind.Star ts a m.signed (complete e src h) refl)
  complete e src (m.negated r few h) = banged_read r few (complete e src h)
  complete e src (m.negative n p r few small) = negative_read n p r few small
  complete e src (m.opposite r few other h) = dashed_read r few other (complete e src h)
  complete e src (m.unsigned h) = plain_read (complete e src h)
  complete e src (m.bare h) = member_alone (complete e src h)
  complete e src (m.called i o n other f list) = called_read i o n other f (complete_list e src list)
  complete e src (m.attribute p h i) = attribute_read p (complete e src h) i
  complete e src (m.indexed i o h t) = indexed_read i o (complete e src h) t
  complete e src (m.method p i o h n list c) = method_read p i o (complete e src h) n (complete_list e src list) c
  complete e src (m.truth p) = true_read p
  complete e src (m.falsity p) = false_read p
  complete e src (m.numeral p small) = number_read p small
  complete e src (m.text t) = string_read t
  complete e src (m.variable p r) = variable_read p r
  complete e src (m.principal_slot p) = principal_slot_read p
  complete e src (m.resource_slot p) = resource_slot_read p
  complete e src (m.entity i) = uid_read i
  complete e src (m.parenthesized i o h) = paren_read i o (complete e src h)
  complete e src (m.set i o list) = set_read i o (complete_list e src list)
  complete e src (m.in_braces i o fs differ) = braces_read i o (complete_entries e src fs) differ

  complete_parts : {k : TokenKind} {s : Sort} {ts : List Lexeme} {a : Value} {bs : List Value} (e : Extensions) (src : List ℕ) → Joined e sign_limit k s ts a bs → PartsRead e src k s ts a bs
  complete_parts e src (m.one_part {k = k} {s = s} {ts = ts} {a = a} h) = one_read e src k ts a s (complete e src h)
  complete_parts e src (m.more_parts {k = k} {s = s} {ts = ts} {us = us} {a = a} {b = b} {bs = bs} p j h) = more_read e src k ts us a b bs s p (complete_parts e src j) (complete e src h)

  complete_terms : {ts : List Lexeme} {a : Value} {bs : List (AddOp × Value)} (e : Extensions) (src : List ℕ) → Added e sign_limit ts a bs → MultsRead e src ts a bs
  complete_terms e src (m.one_term h) = one_mult_read (complete e src h)
  complete_terms e src (m.more_terms p j r h) = more_mults p (complete_terms e src j) r (complete e src h)

  complete_list : {ts : List Lexeme} {bs : List Value} (e : Extensions) (src : List ℕ) → Listed e sign_limit ts bs → ListRead e src ts bs
  complete_list e src m.no_items = no_list
  complete_list e src (m.items j) = list_read (complete_parts e src j refl)
  complete_list e src (m.items_comma p j) = list_comma p (complete_parts e src j refl)

  complete_entries : {ts : List Lexeme} {fs : List (List ℕ × Value)} (e : Extensions) (src : List ℕ) → Entries e sign_limit ts fs → EntriesRead e src ts fs
  complete_entries e src m.no_entries = no_entries
  complete_entries e src (m.entries j) = entries_read (complete_pairs e src j)
  complete_entries e src (m.entries_comma p j) = entries_comma p (complete_pairs e src j)

  complete_pairs : {ts : List Lexeme} {fs : List (List ℕ × Value)} (e : Extensions) (src : List ℕ) → JoinedEntries e sign_limit ts fs → PairsRead e src ts fs
  complete_pairs e src (m.one_entry h) = one_pair (complete_entry e src h)
  complete_pairs e src (m.more_entries p j h) = more_pairs p (complete_pairs e src j) (complete_entry e src h)

  complete_entry : {ts : List Lexeme} {key : List ℕ} {a : Value} (e : Extensions) (src : List ℕ) → Entry e sign_limit ts key a → EntryRead e src ts (key, a)
  complete_entry e src (m.entry p k h) = entry_read p k (complete e src h)
