use Rattle.std.proofs.Common.{◌∙◌, ◌++◌, ℕ, List, ap, map, codes}
use Rattle.std.specs.Borrow.{Bor}
use Rattle.std.specs.List.{join_by}
use Rattle.std.specs.String.{string_bytes}
use Rattle.pub_catalog.specs.CatalogView.{entry_view}
use Rattle.pub_catalog.specs.declared.catalog.Entry.{Entry}
use Rattle.catalog_text.specs.CatalogText.{for_text, operation_words, publication_text}
use Rattle.catalog_text.specs.FilterText.{name_text}
use Rattle.catalog_text.proofs.Joins.{joined_6}
use Rattle.catalog_text.proofs.catalog.write_publication.Goals as goal

pub returns : goal.returns
unfolding publication_text
returns c =
    let tables = c.args.tables.now in
    let publication = c.args.publication.now in
    let listed = λ (words : List (List ℕ)). join_by (λ word. word) (codes ", ") words in
    let before = string_bytes c.push_str-2.new.self in
    joined_6 (string_bytes c.args.text.now) (codes "CREATE PUBLICATION ") (name_text publication.name)
    (for_text tables (map entry_view publication.entries.items)) (codes " WITH (publish = '")
    (listed (operation_words publication.publishes)) (codes "');\n")
    c.in_ok-push_str.ensures.bytes
    (c.in_ok-write_name.ensures ∙ ap (λ (name : List ℕ). string_bytes c.push_str.new.self ++ name_text name) c.as_str.ensures)
    (c.in_ok-write_objects.ensures
    ∙ ap (λ (entries : List Entry). string_bytes c.write_name.new.text ++ for_text tables (map entry_view entries))
    c.as_slice.ensures.value)
    c.in_ok-push_str-2.ensures.bytes
    (c.in_ok-write_words.ensures
    ∙ ap (λ (words : List (Bor (List ℕ))). before ++ listed (map (λ word. word.now) words)) c.as_slice-2.ensures.value
    ∙ ap (λ (words : List (List ℕ)). before ++ listed words) c.in_ok-words.ensures)
    c.in_ok-push_str-3.ensures.bytes
