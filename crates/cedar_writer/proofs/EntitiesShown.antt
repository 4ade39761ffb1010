-- The line of an entity's words is what is shown of the entity.
use Rattle.std.proofs.Common.{◌≡◌, List, ℕ, [], ◌∷◌, ◌++◌, refl, sym, ap, ◌∙◌, append_assoc, append-nil, codes}
use Rattle.cedar_lexer.specs.Words.{TokenText}
use Rattle.cedar_lexer.specs.declared.token.TokenKind.{TokenKind}
use Rattle.cedar_lexer.specs.declared.token.TokenKind.TheVariants as kind
use Rattle.cedar_expressions.specs.declared.entity.EntityUID.{EntityUID}
use Rattle.cedar_expressions.specs.Escapes.{quoted, escaped_text}
use Rattle.cedar_expressions.specs.Path.{namespace_text, name_text}
use Rattle.cedar_expressions.specs.Written.{entity_text}
use Rattle.cedar_writer.specs.Spacing.{Edge, gap, text_behind, line_start, line_of}
use Rattle.cedar_writer.specs.WrittenWords.{word_kinds, kind_in, identifier_words, colons, text_words, path_words, entity_words}
use Rattle.cedar_writer.specs.machines.Lines.{line_edge, namespace_words}
use Rattle.cedar_writer.proofs.Leaves.{kind_by}
use Rattle.cedar_writer.proofs.NamesWritten.{path_is}

abbrev colons_word : TokenText
colons_word = record { kind = kind.ColonColon; text = codes "::" }

-- `::` stands straight behind each identifier
before_colons : (before : TokenKind) (id : List ℕ) → gap (line_edge before (kind_in word_kinds id)) colons_word ≡ []
before_colons before id = kind_by (λ k. gap (line_edge before k) colons_word ≡ []) word_kinds id (λ e. refl, (λ e. refl, (λ e. refl, (λ e. refl, (λ e. refl, (λ e. refl, (λ e. refl, (λ e. refl, tt)))))))) refl

-- each word stands straight behind these two
abbrev IsTight : Edge → Type 0
IsTight e = (w : TokenText) → gap e w ≡ []

one_more : (e : Edge) (id : List ℕ) (ws : List TokenText) (text : List ℕ) → IsTight e → text_behind (line_edge (kind_in word_kinds id) kind.ColonColon) ws ≡ text → text_behind e (identifier_words id ++ (colons ++ ws)) ≡ id ++ (codes "::" ++ text)
one_more e id ws text tight h =
    ap (λ t. t ++ (id ++ (gap (line_edge e.last (kind_in word_kinds id)) colons_word ++ (codes "::" ++ text_behind (line_edge (kind_in word_kinds id) kind.ColonColon) ws)))) (tight (record { kind = kind_in word_kinds id; text = id }))
    ∙ ap (λ t. id ++ (t ++ (codes "::" ++ text_behind (line_edge (kind_in word_kinds id) kind.ColonColon) ws))) (before_colons e.last id)
    ∙ ap (λ t. id ++ (codes "::" ++ t)) h

grouped : (a c n t : List ℕ) → a ++ (c ++ (n ++ t)) ≡ ((a ++ c) ++ n) ++ t
grouped a c n t = simp append_assoc refl

behind_namespace : (e : Edge) (ids : List (List ℕ)) (ws : List TokenText) (text : List ℕ) → IsTight e → ((f : Edge) → IsTight f → text_behind f ws ≡ text) → text_behind e (namespace_words ids ++ ws) ≡ namespace_text ids ++ text
behind_namespace e [] ws text tight h = h e tight
behind_namespace e (id ∷ ids) ws text tight h =
    one_more e id (namespace_words ids ++ ws) (namespace_text ids ++ text) tight (behind_namespace (line_edge (kind_in word_kinds id) kind.ColonColon) ids ws text (λ w. refl) h)
    ∙ grouped id (codes "::") (namespace_text ids) text

eid_behind : (id eid : List ℕ) (f : Edge) → IsTight f → text_behind f (identifier_words id ++ (colons ++ text_words eid)) ≡ id ++ (codes "::" ++ quoted (escaped_text eid))
eid_behind id eid f tight = one_more f id (text_words eid) (quoted (escaped_text eid)) tight (append-nil (quoted (escaped_text eid)))

pub entity_shown : (uid : EntityUID) → line_of (entity_words uid) ≡ entity_text uid
entity_shown uid =
    let name = uid.entity_type.name in
    let eid = uid.eid.text in
    let namespace = namespace_words name.path in
    ap line_of (append_assoc (path_words name.path name.id) colons (text_words eid))
    ∙ ap (λ ws. line_of (ws ++ (colons ++ text_words eid))) (sym (path_is name.path name.id))
    ∙ ap line_of (append_assoc namespace (identifier_words name.id) (colons ++ text_words eid))
    ∙ behind_namespace line_start name.path (identifier_words name.id ++ (colons ++ text_words eid)) (name.id ++ (codes "::" ++ quoted (escaped_text eid))) (λ w. refl) (eid_behind name.id eid)
    ∙ sym (append_assoc (namespace_text name.path) name.id (codes "::" ++ quoted (escaped_text eid)))
