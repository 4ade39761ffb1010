-- Words, literals, names and entity literals that are read are read again from their printed
-- words.
use Rattle.std.proofs.Common.{◌≡◌, ℕ, ◌<◌, true, List, [], ◌∷◌, ◌++◌, map, Option, Some, codes, refl, sym, ap, ap₂, ◌∙◌, subst, append_assoc, append-nil, arith}
use Rattle.cedar_lexer.specs.Spelling.{Spells, IsNumber, IsStringText, IsStringTail, closing, plain, escaped}
use Rattle.cedar_lexer.specs.Token.{Lexeme}
use Rattle.cedar_lexer.specs.declared.token.TokenKind.{TokenKind}
use Rattle.cedar_lexer.specs.declared.token.TokenKind.TheVariants as kind
use Rattle.cedar_syntax.specs.declared.cst.Literal.{Literal}
use Rattle.cedar_syntax.specs.declared.cst.Ident.{Ident}
use Rattle.cedar_syntax.specs.declared.cst.Ident.TheVariants as ident
use Rattle.cedar_syntax.specs.declared.cst.Name.{Name}
use Rattle.cedar_grammar.specs.grammar.Grammar.{Rule}
use Rattle.cedar_grammar.specs.grammar.LooseWords as w
use Rattle.cedar_grammar.specs.grammar.LooseWords.{ReadsLiteral, ReadsAny, ReadsPath, ReadsName, is_common}
use Rattle.cedar_grammar.specs.grammar.Place.{placed}
use Rattle.cedar_syntax.specs.printing.Printed.{Texts, printed, ident_texts, path_texts, option_texts, quoted_text}
use Rattle.cedar_syntax.specs.tokens.Tokens.{one, number_of, between_quotes, any_of}
use Rattle.cedar_syntax.specs.trees.Trees.{Cell, name_of}
use Rattle.cedar_syntax.specs.trees.Unlocated.{unlocated_literal, unlocated_name, unlocated_node}
use Rattle.cedar_lexer.specs.Words.{TokenText}
use Rattle.cedar_grammar.proofs.again.Rereading.{AllSpelled, texts-append, both_spelled, left_of, right_of, same_as, infix_as, token_as, Reworded}
use Rattle.std.specs.Prelude.{decimal, IsTrue, nat_lt, ◌^◌, take, drop, length, ◌-◌}
use Rattle.std.specs.Char.{encode_utf8, digit_value, is_ascii_digit}
use Rattle.std.specs.List.{AllPass}
use Rattle.std.specs.Str.Parse.{AllDigits, IsNumeral}
use Rattle.std.proofs.lemmas.Bool.{ltb-true, lt-ltb}
use Rattle.std.proofs.lemmas.Bool.Decides.{nat_tests}
use Rattle.std.proofs.lemmas.Fmt.{decimal_is_IsNumeral}
use Rattle.std.proofs.lemmas.List.Elements.{All-nil, All-cons}
use Rattle.std.proofs.lemmas.Str.Parse.{digit_from_value}
use Rattle.std.proofs.lemmas.List.{map-append, length-append}
use Rattle.std.proofs.Math.Seq.{take-append_seam}
use Rattle.cedar_syntax.specs.declared.cst.Literal.TheVariants as lit
use Rattle.cedar_syntax.specs.declared.cst.Str.TheVariants as str
use Rattle.cedar_grammar.proofs.again.Expressions.{word}
use Rattle.cedar_grammar.proofs.again.Cases.{any_rule, by_itself, literal_texts, name_texts, there}

-- ---- words

pub some_text : {s u : List ℕ} → Some s ≡ Some u → s ≡ u
some_text e = cc

some_ident : {i j : Ident} → Some i ≡ Some j → i ≡ j
some_ident e = cc

own : (j i : Ident) (mine text : List ℕ) → ident_texts j ≡ mine ∷ [] → j ≡ i → mine ≡ text → text ∷ [] ≡ ident_texts i
own j i mine text e f g = ap (λ t. t ∷ []) (sym g) ∙ sym e ∙ ap ident_texts f

word_prints : (k : TokenKind) (text : List ℕ) (i : Ident) → any_of k text ≡ Some i → Spells k text → text ∷ [] ≡ ident_texts i
word_prints kind.True text i h s = own ident.True i (codes "true") text refl (some_ident h) (some_text s)
word_prints kind.False text i h s = own ident.False i (codes "false") text refl (some_ident h) (some_text s)
word_prints kind.If text i h s = own ident.If i (codes "if") text refl (some_ident h) (some_text s)
word_prints kind.Permit text i h s = own ident.Permit i (codes "permit") text refl (some_ident h) (some_text s)
word_prints kind.Forbid text i h s = own ident.Forbid i (codes "forbid") text refl (some_ident h) (some_text s)
word_prints kind.When text i h s = own ident.When i (codes "when") text refl (some_ident h) (some_text s)
word_prints kind.Unless text i h s = own ident.Unless i (codes "unless") text refl (some_ident h) (some_text s)
word_prints kind.In text i h s = own ident.In i (codes "in") text refl (some_ident h) (some_text s)
word_prints kind.Has text i h s = own ident.Has i (codes "has") text refl (some_ident h) (some_text s)
word_prints kind.Like text i h s = own ident.Like i (codes "like") text refl (some_ident h) (some_text s)
word_prints kind.Is text i h s = own ident.Is i (codes "is") text refl (some_ident h) (some_text s)
word_prints kind.Then text i h s = own ident.Then i (codes "then") text refl (some_ident h) (some_text s)
word_prints kind.Else text i h s = own ident.Else i (codes "else") text refl (some_ident h) (some_text s)
word_prints kind.Principal text i h s = own ident.Principal i (codes "principal") text refl (some_ident h) (some_text s)
word_prints kind.Action text i h s = own ident.Action i (codes "action") text refl (some_ident h) (some_text s)
word_prints kind.Resource text i h s = own ident.Resource i (codes "resource") text refl (some_ident h) (some_text s)
word_prints kind.Context text i h s = own ident.Context i (codes "context") text refl (some_ident h) (some_text s)
word_prints kind.Identifier text i h s = ap ident_texts (some_ident h)
word_prints _ text i h s = absurd (cc)

abbrev pub AnyOf : Ident → Type 0
AnyOf i = Reworded any_rule by_itself ident_texts i

pub any_again : {ts : List Lexeme} {i : Ident} → ReadsAny ts i → AllSpelled ts → AnyOf i
any_again (w.any {k = k} {i = i} p h) s = record {
  words = word k p.text ∷ [];
  spelled = s;
  prints = word_prints k p.text i h s.0;
  again = token_as (word k p.text) (λ src q e. record { tree = i; reads = w.any q (subst (λ u. any_of k u ≡ Some i) (sym e) h); same = refl });
}

-- ---- literals

digit_is : (b : ℕ) → digit_value b < 10 → is_ascii_digit b ≡ true
digit_is b h = let r = digit_from_value b h in grind (arith, nat_tests)

digits_are : (bs : List ℕ) → AllDigits 10 bs → AllPass is_ascii_digit bs
digits_are [] h = All-nil (λ x. is_ascii_digit x ≡ true)
digits_are (b ∷ bs) h = All-cons (λ x. is_ascii_digit x ≡ true) b bs (digit_is b h.0) (digits_are bs h.1)

number_spelled : (text : List ℕ) → IsNumeral 10 text → IsNumber text
number_spelled [] h = absurd (omega (arith, h.0))
number_spelled (b ∷ bs) h = (digit_is b h.1.0, digits_are bs h.1.1)

abbrev pub LiteralOf : Literal → Type 0
LiteralOf a = Reworded ReadsLiteral unlocated_literal literal_texts a

number_again : (n : ℕ) → n < 2 ^ 64 → LiteralOf (lit.Num n)
unfolding printed
number_again n h =
    let d = decimal_is_IsNumeral n h in
    record {
      words = word kind.Number (decimal n) ∷ [];
      spelled = (number_spelled (decimal n) d.0, tt);
      prints = refl;
      again = token_as (word kind.Number (decimal n)) (λ src p e.
          let same : number_of p.text ≡ n = ap number_of e ∙ d.1 in
          record { tree = lit.Num (number_of p.text); reads = w.number p (subst (λ m. nat_lt m (2 ^ 64) ≡ true) (sym same) (lt-ltb n (2 ^ 64) h)); same = ap lit.Num same });
    }

tail_raw : {bs : List ℕ} → IsStringTail bs → (raw : List ℕ) × (bs ≡ raw ++ codes "\"")
tail_raw closing = ([], refl)
tail_raw (plain c bs s n m t) = let r = tail_raw t in (encode_utf8 c ++ r.0, ap (λ w. encode_utf8 c ++ w) r.1 ∙ sym (append_assoc (encode_utf8 c) r.0 (codes "\"")))
tail_raw (escaped c bs s t) =
    let r = tail_raw t in
    (codes "\\" ++ encode_utf8 c ++ r.0, ap (λ w. codes "\\" ++ encode_utf8 c ++ w) r.1 ∙ sym (append_assoc (codes "\\" ++ encode_utf8 c) r.0 (codes "\"")))

inside_is : (text rest inside : List ℕ) → text ≡ 34 ∷ rest → rest ≡ inside ++ (34 ∷ []) → inside ≡ between_quotes text
inside_is text rest inside e f =
    let g : text ≡ (34 ∷ inside) ++ (34 ∷ []) = e ∙ ap (λ x. 34 ∷ x) f in
    let n : length text - 1 ≡ length (34 ∷ inside) = omega (arith, ap length g, length-append (34 ∷ inside) (34 ∷ [])) in
    sym (ap (λ k. drop 1 (take k text)) n
    ∙ ap (λ x. drop 1 (take (length (34 ∷ inside)) x)) g
    ∙ ap (λ x. drop 1 x) (take-append_seam (34 ∷ inside) (34 ∷ [])))

-- a string stands between its quotes
pub quoted : (text : List ℕ) → IsStringText text → text ≡ quoted_text (between_quotes text)
quoted [] h = absurd h
quoted (b ∷ bs) h =
    let r = tail_raw h.1 in
    let first : b ∷ bs ≡ 34 ∷ bs = ap (λ c. c ∷ bs) h.0 in
    first ∙ ap (λ xs. 34 ∷ xs) r.1 ∙ ap (λ raw. quoted_text raw) (inside_is (b ∷ bs) bs r.0 first r.1)

string_again : (text : List ℕ) → Spells kind.StringLit text → LiteralOf (lit.Str (there (str.String (between_quotes text))))
unfolding printed
string_again text s = record {
  words = word kind.StringLit text ∷ [];
  spelled = (s, tt);
  prints = ap (λ u. u ∷ []) (quoted text s);
  again = token_as (word kind.StringLit text) (λ src q e. record { tree = lit.Str (placed src (one kind.StringLit q) (str.String (between_quotes q.text))); reads = w.string q; same = ap (λ u. lit.Str (there (str.String (between_quotes u)))) e });
}

truth_again : LiteralOf lit.True
unfolding printed
truth_again = record { words = word kind.True (codes "true") ∷ []; spelled = (refl, tt); prints = refl; again = token_as (word kind.True (codes "true")) (λ src q e. record { tree = lit.True; reads = w.truth q; same = refl }) }

falsity_again : LiteralOf lit.False
unfolding printed
falsity_again = record { words = word kind.False (codes "false") ∷ []; spelled = (refl, tt); prints = refl; again = token_as (word kind.False (codes "false")) (λ src q e. record { tree = lit.False; reads = w.falsity q; same = refl }) }

pub literal_read_again : {src : List ℕ} {ts : List Lexeme} {x : Literal} → ReadsLiteral src ts x → AllSpelled ts → LiteralOf (unlocated_literal x)
literal_read_again (w.truth p) s = truth_again
literal_read_again (w.falsity p) s = falsity_again
literal_read_again (w.number p f) s = number_again (number_of p.text) (ltb-true (number_of p.text) (2 ^ 64) f)
literal_read_again (w.string p) s = string_again p.text s.0

-- ---- paths and names

abbrev pub Path : Type 0
Path = List (Cell Ident) × Cell Ident

abbrev pub path_rule : Rule Path
path_rule src ts p = ReadsPath src ts p.0 p.1

abbrev pub bare_path : Path → Path
bare_path p = (map (λ n. unlocated_node n) p.0, unlocated_node p.1)

abbrev pub words_in : List (Cell Ident) → List (Option Ident)
words_in xs = map (λ i. i.node) xs

abbrev pub path_print : Path → Texts
path_print q = path_texts (words_in q.0) ++ option_texts ident_texts q.1.node

abbrev pub PathOf : Path → Type 0
PathOf q = Reworded path_rule bare_path path_print q

-- one identifier more
abbrev longer : Path → Ident → Path
longer q i = (q.0 ++ q.1 ∷ [], there i)

pub path_is : {xs ys : List (Cell Ident)} {x y : Cell Ident} → xs ≡ ys → x ≡ y → ◌≡◌ {A = Path} (xs, x) (ys, y)
path_is e g = ap₂ (λ (a : List (Cell Ident)) (b : Cell Ident). (a, b)) e g

path_snoc : (xs : List (Cell Ident)) (x : Cell Ident) → path_texts (words_in (xs ++ x ∷ [])) ≡ path_texts (words_in xs) ++ (option_texts ident_texts x.node ++ (codes "::" ∷ []))
path_snoc [] x = append-nil (option_texts ident_texts x.node ++ (codes "::" ∷ []))
path_snoc (y ∷ ys) x =
    ap (λ r. (option_texts ident_texts y.node ++ (codes "::" ∷ [])) ++ r) (path_snoc ys x)
    ∙ sym (append_assoc (option_texts ident_texts y.node ++ (codes "::" ∷ [])) (path_texts (words_in ys)) (option_texts ident_texts x.node ++ (codes "::" ∷ [])))

longer_prints : (q : Path) (i : Ident) → path_print q ++ (codes "::" ∷ ident_texts i) ≡ path_print (longer q i)
longer_prints q i =
    append_assoc (path_texts (words_in q.0)) (option_texts ident_texts q.1.node) (codes "::" ∷ ident_texts i)
    ∙ ap (λ r. path_texts (words_in q.0) ++ r) (sym (append_assoc (option_texts ident_texts q.1.node) (codes "::" ∷ []) (ident_texts i)))
    ∙ sym (append_assoc (path_texts (words_in q.0)) (option_texts ident_texts q.1.node ++ (codes "::" ∷ [])) (ident_texts i))
    ∙ ap (λ r. r ++ ident_texts i) (sym (path_snoc q.0 q.1))

one_word_again : (i : Ident) → AnyOf i → PathOf ([], there i)
one_word_again i h = record {
  words = h.words;
  spelled = h.spelled;
  prints = h.prints;
  again = same_as {by = bare_path} {b = ([], there i)} (λ src ts x. record { tree = ([], placed src ts x.tree); reads = w.one_word x.reads; same = ap (λ j. ([], there j)) x.same }) h.again;
}

pub bare_longer : (p q : Path) (src : List ℕ) (us : List Lexeme) (j i : Ident) → bare_path p ≡ q → j ≡ i → bare_path (p.0 ++ p.1 ∷ [], placed src us j) ≡ longer q i
bare_longer p q src us j i e g =
    path_is (map-append (λ n. unlocated_node n) p.0 (p.1 ∷ []) ∙ ap (λ (r : Path). r.0 ++ r.1 ∷ []) e) (ap there g)

abbrev pub colons : TokenText
colons = word kind.ColonColon (codes "::")

more_words_again : (q : Path) (i : Ident) → PathOf q → AnyOf i → PathOf (longer q i)
more_words_again q i h k = record {
  words = h.words ++ (colons ∷ k.words);
  spelled = both_spelled h.words (colons ∷ k.words) h.spelled (refl, k.spelled);
  prints = texts-append h.words (colons ∷ k.words) ∙ ap₂ (λ (xs ys : Texts). xs ++ (codes "::" ∷ ys)) h.prints k.prints ∙ longer_prints q i;
  again = infix_as {bz = bare_path} {c = longer q i} colons (λ src ts us p e x y. record { tree = (x.tree.0 ++ x.tree.1 ∷ [], placed src us y.tree); reads = w.more_words p x.reads y.reads; same = bare_longer x.tree q src us y.tree i x.same y.same }) h.again k.again;
}

pub path_again : {src : List ℕ} {ts : List Lexeme} {xs : List (Cell Ident)} {x : Cell Ident} → ReadsPath src ts xs x → AllSpelled ts → PathOf (bare_path (xs, x))
path_again (w.one_word {i = i} r) s = one_word_again i (any_again r s)
path_again {src = src} (w.more_words {ts = ts} {us = us} {xs = xs} {x = x} {i = i} p r q) s =
    subst PathOf (sym (bare_longer (xs, x) (bare_path (xs, x)) src us i i refl refl)) (more_words_again (bare_path (xs, x)) i (path_again r (left_of ts us kind.ColonColon p s)) (any_again q (right_of ts us kind.ColonColon p s)))

abbrev pub NameOf : Name → Type 0
NameOf a = Reworded ReadsName unlocated_name name_texts a

common_again : (i : Ident) → IsTrue (is_common i) → AnyOf i → NameOf (name_of [] (there i))
unfolding printed
common_again i c h = record {
  words = h.words;
  spelled = h.spelled;
  prints = h.prints;
  again = same_as (λ src ts x. record { tree = name_of [] (placed src ts x.tree); reads = w.common x.reads (subst (λ j. IsTrue (is_common j)) (sym x.same) c); same = ap (λ j. name_of [] (there j)) x.same }) h.again;
}

qualified_again : (q : Path) (i : Ident) → PathOf q → AnyOf i → NameOf (name_of (q.0 ++ q.1 ∷ []) (there i))
unfolding printed
qualified_again q i h k = record {
  words = h.words ++ (colons ∷ k.words);
  spelled = both_spelled h.words (colons ∷ k.words) h.spelled (refl, k.spelled);
  prints = texts-append h.words (colons ∷ k.words) ∙ ap₂ (λ (xs ys : Texts). xs ++ (codes "::" ∷ ys)) h.prints k.prints ∙ longer_prints q i;
  again = infix_as colons (λ src ts us p e x y. record { tree = name_of (x.tree.0 ++ x.tree.1 ∷ []) (placed src us y.tree); reads = w.qualified p x.reads y.reads; same = ap (λ (r : Path). name_of r.0 r.1) (bare_longer x.tree q src us y.tree i x.same y.same) }) h.again k.again;
}

pub name_again : {src : List ℕ} {ts : List Lexeme} {x : Name} → ReadsName src ts x → AllSpelled ts → NameOf (unlocated_name x)
name_again (w.common {i = i} r c) s = common_again i c (any_again r s)
name_again {src = src} (w.qualified {ts = ts} {us = us} {xs = xs} {x = x} {i = i} p r q) s =
    subst NameOf (ap (λ (r : Path). name_of r.0 r.1) (sym (bare_longer (xs, x) (bare_path (xs, x)) src us i i refl refl))) (qualified_again (bare_path (xs, x)) i (path_again r (left_of ts us kind.ColonColon p s)) (any_again q (right_of ts us kind.ColonColon p s)))
