-- What tokens mean with a limit of signs they mean with each higher one: the old meaning is kept.
use Rattle.std.proofs.Common.{ℕ, ◌≤◌, List, arith}
use Rattle.cedar_lexer.specs.Token.{Lexeme}
use Rattle.cedar_lexer.specs.declared.token.TokenKind.{TokenKind}
use Rattle.cedar_expressions.specs.Value.{Value}
use Rattle.cedar_expressions.specs.declared.operators.AddOp.{AddOp}
use Rattle.cedar_policy_store.specs.PlaceFree.{Policy, Policies}
use Rattle.cedar_syntax.specs.tokens.Signs.{sign_limit}
use Rattle.cedar_conversion.specs.strict.Extensions.{Extensions}
use Rattle.cedar_policy_parser.specs.meaning.OldMeaning.{old_limit, IsOldPolicySet}
use Rattle.cedar_conversion.specs.strict.Strict as m
use Rattle.cedar_conversion.specs.strict.Strict.{Sort, Means, Joined, Added, Listed, Entries, JoinedEntries, Entry}
use Rattle.cedar_policy_parser.specs.meaning.StrictPolicy as p
use Rattle.cedar_policy_parser.specs.meaning.StrictPolicy.{IsCondition, AreConditions, IsPolicy, ArePolicies, IsPolicySet}

mutual
  means : {e : Extensions} {low high : ℕ} → low ≤ high → {s : Sort} {ts : List Lexeme} {a : Value} → Means e low s ts a → Means e high s ts a
  means h (m.conditional l n o a b c) = m.conditional l n o (means h a) (means h b) (means h c)
  means h (m.one_disjunction a) = m.one_disjunction (means h a)
  means h (m.disjoined j n) = m.disjoined (joined h j) n
  means h (m.one_conjunction a) = m.one_conjunction (means h a)
  means h (m.conjoined j n) = m.conjoined (joined h j) n
  means h (m.one_relation a) = m.one_relation (means h a)
  means h (m.related p a r b) = m.related p (means h a) r (means h b)
  means h (m.has p a s) = m.has p (means h a) s
  means h (m.like p q a s) = m.like p q (means h a) s
  means h (m.is p a n) = m.is p (means h a) n
  means h (m.is_in p q a n b) = m.is_in p q (means h a) n (means h b)
  means h (m.one_sum a) = m.one_sum (means h a)
  means h (m.added_up j n) = m.added_up (added h j) n
  means h (m.one_product a) = m.one_product (means h a)
  means h (m.multiplied j n) = m.multiplied (joined h j) n
  means h (m.one_signed a) = m.one_signed (means h a)
  means h (m.negated s n a) = m.negated s (omega (arith, n, h)) (means h a)
  means h (m.negative n p s l f) = m.negative n p s (omega (arith, l, h)) f
  means h (m.opposite s n x a) = m.opposite s (omega (arith, n, h)) x (means h a)
  means h (m.unsigned a) = m.unsigned (means h a)
  means h (m.bare a) = m.bare (means h a)
  means h (m.called l n i v f a) = m.called l n i v f (listed h a)
  means h (m.attribute p a i) = m.attribute p (means h a) i
  means h (m.indexed l n a t) = m.indexed l n (means h a) t
  means h (m.method p l n a i b c) = m.method p l n (means h a) i (listed h b) c
  means h (m.truth p) = m.truth p
  means h (m.falsity p) = m.falsity p
  means h (m.numeral p f) = m.numeral p f
  means h (m.text t) = m.text t
  means h (m.variable p v) = m.variable p v
  means h (m.principal_slot p) = m.principal_slot p
  means h (m.resource_slot p) = m.resource_slot p
  means h (m.entity t) = m.entity t
  means h (m.parenthesized l n a) = m.parenthesized l n (means h a)
  means h (m.set l n a) = m.set l n (listed h a)
  means h (m.in_braces l n a d) = m.in_braces l n (entries h a) d

  joined : {e : Extensions} {low high : ℕ} → low ≤ high → {k : TokenKind} {s : Sort} {ts : List Lexeme} {a : Value} {bs : List Value} → Joined e low k s ts a bs → Joined e high k s ts a bs
  joined h (m.one_part a) = m.one_part (means h a)
  joined h (m.more_parts p j a) = m.more_parts p (joined h j) (means h a)

  added : {e : Extensions} {low high : ℕ} → low ≤ high → {ts : List Lexeme} {a : Value} {bs : List (AddOp × Value)} → Added e low ts a bs → Added e high ts a bs
  added h (m.one_term a) = m.one_term (means h a)
  added h (m.more_terms p j o a) = m.more_terms p (added h j) o (means h a)

  listed : {e : Extensions} {low high : ℕ} → low ≤ high → {ts : List Lexeme} {xs : List Value} → Listed e low ts xs → Listed e high ts xs
  listed h m.no_items = m.no_items
  listed h (m.items j) = m.items (joined h j)
  listed h (m.items_comma p j) = m.items_comma p (joined h j)

  entries : {e : Extensions} {low high : ℕ} → low ≤ high → {ts : List Lexeme} {fs : List (List ℕ × Value)} → Entries e low ts fs → Entries e high ts fs
  entries h m.no_entries = m.no_entries
  entries h (m.entries j) = m.entries (joined_entries h j)
  entries h (m.entries_comma p j) = m.entries_comma p (joined_entries h j)

  joined_entries : {e : Extensions} {low high : ℕ} → low ≤ high → {ts : List Lexeme} {fs : List (List ℕ × Value)} → JoinedEntries e low ts fs → JoinedEntries e high ts fs
  joined_entries h (m.one_entry a) = m.one_entry (entry h a)
  joined_entries h (m.more_entries p j a) = m.more_entries p (joined_entries h j) (entry h a)

  entry : {e : Extensions} {low high : ℕ} → low ≤ high → {ts : List Lexeme} {key : List ℕ} {a : Value} → Entry e low ts key a → Entry e high ts key a
  entry h (m.entry p k a) = m.entry p k (means h a)

condition : {e : Extensions} {low high : ℕ} → low ≤ high → {ts : List Lexeme} {a : Value} → IsCondition e low ts a → IsCondition e high ts a
condition h (p.when q l n a s) = p.when q l n (means h a) s
condition h (p.unless q l n a s) = p.unless q l n (means h a) s

conditions : {e : Extensions} {low high : ℕ} → low ≤ high → {ts : List Lexeme} {cs : List Value} → AreConditions e low ts cs → AreConditions e high ts cs
conditions h p.no_condition = p.no_condition
conditions h (p.more_conditions cs c) = p.more_conditions (conditions h cs) (condition h c)

policy : {e : Extensions} {low high : ℕ} → low ≤ high → {id : List ℕ} {ts : List Lexeme} {x : Policy} → IsPolicy e low id ts x → IsPolicy e high id ts x
policy h (p.policy q l n z a d k s c) = p.policy q l n z a d k s (conditions h c)

policies : {e : Extensions} {low high : ℕ} → low ≤ high → {ts : List Lexeme} {xs : List Policy} → ArePolicies e low ts xs → ArePolicies e high ts xs
policies h p.no_policy = p.no_policy
policies h (p.more_policies xs x) = p.more_policies (policies h xs) (policy h x)

pub raised : (e : Extensions) (low high : ℕ) (ts : List Lexeme) (set : Policies) → low ≤ high → IsPolicySet e low ts set → IsPolicySet e high ts set
raised e low high ts _ h (p.policy_set xs) = p.policy_set (policies h xs)

-- a text that had a meaning under the old limit has it
pub old_set : {e : Extensions} {ts : List Lexeme} {set : Policies} → IsOldPolicySet e ts set → IsPolicySet e sign_limit ts set
old_set {e = e} {ts = ts} {set = set} h = raised e old_limit sign_limit ts set (omega arith) h
