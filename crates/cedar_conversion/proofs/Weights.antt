-- How much stands in a tree: more than in all expressions that are nested in it together.
use Rattle.std.proofs.Common.{◌≡◌, ◌<◌, ◌≤◌, ◌+◌, ℕ, suc, Bool, true, false, List, [], ◌∷◌, ◌++◌, if◌then◌else◌, arith}
use Rattle.std.specs.List.{sum_by}
use Rattle.std.proofs.lemmas.List.Sums.{sum_by-append, sum_by-cons}
use Rattle.cedar_syntax.specs.trees.Located as f
use Rattle.cedar_syntax.specs.trees.Located.{Located, Form, Parts}
use Rattle.cedar_conversion.specs.machines.Nested.{nested, nested_in, nested_parts, listed_nodes, is_counted}

mutual
  pub weight : Located → ℕ
  weight (f.missing place) = 1
  weight (f.at place form) = suc (form_weight form)

  pub form_weight : Form → ℕ
  form_weight (f.only n) = weight n
  form_weight (f.ite a b c) = weight a + (weight b + weight c)
  form_weight (f.chain level first others) = weight first + parts_weight others
  form_weight (f.has target right) = weight target
  form_weight (f.like target pattern) = weight target + weight pattern
  form_weight (f.is target entity_type) = weight target + weight entity_type
  form_weight (f.is_in target entity_type within) = weight target + (weight entity_type + weight within)
  form_weight (f.unary op item) = weight item
  form_weight (f.member item accesses) = weight item + parts_weight accesses
  form_weight (f.field n) = 0
  form_weight (f.call items) = parts_weight items
  form_weight (f.index n) = weight n
  form_weight (f.literal n) = 0
  form_weight (f.name n) = 0
  form_weight (f.slot n) = 0
  form_weight (f.reference n) = 0
  form_weight (f.parens n) = weight n
  form_weight (f.set items) = parts_weight items
  form_weight (f.record_of inits) = parts_weight inits
  form_weight (f.init key value) = weight key + weight value

  pub parts_weight : Parts → ℕ
  parts_weight f.none = 0
  parts_weight (f.more op n others) = weight n + parts_weight others

abbrev pub all_weight : List Located → ℕ
all_weight = sum_by weight

less : (a b : ℕ) → a ≤ b → a < suc b
less a b h = omega (arith, h)

at_most : (a b : ℕ) → a < b → a ≤ b
at_most a b h = omega (arith, h)

both : (ns ms : List Located) (j k : ℕ) → all_weight ns ≤ j → all_weight ms ≤ k → all_weight (ns ++ ms) ≤ j + k
both ns ms j k h l = rw (sum_by-append weight ns ms) (omega (arith, h, l))

with_first : (ns : List Located) (n : Located) (k : ℕ) → all_weight ns ≤ k → all_weight (n ∷ ns) ≤ weight n + k
with_first ns n k h = rw (sum_by-cons weight n ns) (omega (arith, h))

itself : (n : Located) → all_weight (n ∷ []) ≤ weight n
itself n = rw (sum_by-cons weight n []) (omega arith)

items_lighter : (ps : Parts) → all_weight (listed_nodes ps) ≤ parts_weight ps
unfolding parts_weight
items_lighter f.none = omega arith
items_lighter (f.more op n others) = with_first (listed_nodes others) n (parts_weight others) (items_lighter others)

unless_counted : (b : Bool) (ns : List Located) (k : ℕ) → all_weight ns ≤ k → all_weight (if b then ns else []) ≤ k
unless_counted true ns k h = h
unless_counted false ns k h = omega arith

mutual
  unfolding nested nested_in nested_parts weight form_weight parts_weight

  lighter : (n : Located) → all_weight (nested n) < weight n
  lighter (f.missing place) = omega arith
  lighter (f.at place form) = less (all_weight (nested_in form)) (form_weight form) (form_lighter form)

  form_lighter : (t : Form) → all_weight (nested_in t) ≤ form_weight t
  form_lighter (f.only n) = at_most (all_weight (nested n)) (weight n) (lighter n)
  form_lighter (f.ite a b c) = with_first (b ∷ c ∷ []) a (weight b + weight c) (with_first (c ∷ []) b (weight c) (itself c))
  form_lighter (f.chain level first others) = both (nested first) (nested_parts others) (weight first) (parts_weight others) (at_most (all_weight (nested first)) (weight first) (lighter first)) (parts_lighter others)
  form_lighter (f.has target right) = at_most (all_weight (nested target)) (weight target) (lighter target)
  form_lighter (f.like target pattern) = both (nested target) (nested pattern) (weight target) (weight pattern) (at_most (all_weight (nested target)) (weight target) (lighter target)) (at_most (all_weight (nested pattern)) (weight pattern) (lighter pattern))
  form_lighter (f.is target entity_type) = both (nested target) (nested entity_type) (weight target) (weight entity_type) (at_most (all_weight (nested target)) (weight target) (lighter target)) (at_most (all_weight (nested entity_type)) (weight entity_type) (lighter entity_type))
  form_lighter (f.is_in target entity_type within) = both (nested target) (nested entity_type ++ nested within) (weight target) (weight entity_type + weight within) (at_most (all_weight (nested target)) (weight target) (lighter target)) (both (nested entity_type) (nested within) (weight entity_type) (weight within) (at_most (all_weight (nested entity_type)) (weight entity_type) (lighter entity_type)) (at_most (all_weight (nested within)) (weight within) (lighter within)))
  form_lighter (f.unary op item) = unless_counted (is_counted op) (nested item) (weight item) (at_most (all_weight (nested item)) (weight item) (lighter item))
  form_lighter (f.member item accesses) = both (nested item) (nested_parts accesses) (weight item) (parts_weight accesses) (at_most (all_weight (nested item)) (weight item) (lighter item)) (parts_lighter accesses)
  form_lighter (f.field n) = omega arith
  form_lighter (f.call items) = items_lighter items
  form_lighter (f.index n) = itself n
  form_lighter (f.literal n) = omega arith
  form_lighter (f.name n) = omega arith
  form_lighter (f.slot n) = omega arith
  form_lighter (f.reference n) = omega arith
  form_lighter (f.parens n) = itself n
  form_lighter (f.set items) = items_lighter items
  form_lighter (f.record_of inits) = parts_lighter inits
  form_lighter (f.init key value) = with_first (value ∷ []) key (weight value) (itself value)

  parts_lighter : (ps : Parts) → all_weight (nested_parts ps) ≤ parts_weight ps
  parts_lighter f.none = omega arith
  parts_lighter (f.more op n others) = both (nested n) (nested_parts others) (weight n) (parts_weight others) (at_most (all_weight (nested n)) (weight n) (lighter n)) (parts_lighter others)

-- so a list gets lighter where those nested in its first take its place
pub first_opened : (n : Located) (ns ms : List Located) → ms ≡ nested n ++ ns → all_weight ms < all_weight (n ∷ ns)
first_opened n ns ms h = rw (h, sum_by-append weight (nested n) ns, sum_by-cons weight n ns) (omega (arith, lighter n))
