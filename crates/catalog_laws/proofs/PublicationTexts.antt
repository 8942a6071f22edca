-- The text of a publication tells the publication, and that of a subscription the subscription.
use Rattle.std.proofs.Common.{◌≡◌, ℕ, ◌+◌, ◌<◌, Bool, true, false, cond, List, [], ◌∷◌, ◌++◌, All, length, map, refl}
use Rattle.std.specs.Prelude.{codes}
use Rattle.std.specs.List.{IsDistinct, join_by}
use Rattle.std.specs.Str.{bytes_eq}
use Rattle.std.proofs.lemmas.List.{append_cancel_left}
use Rattle.filter_tree.specs.Expr.{Expr}
use Rattle.filter_tree.specs.declared.table.Table.{Table}
use Rattle.pub_catalog.specs.Catalogs.{EntryOf, PublicationOf}
use Rattle.pub_catalog.specs.declared.catalog.Operations.{Operations}
use Rattle.pub_catalog.specs.declared.catalog.Subscription.{Subscription}
use Rattle.catalog_text.specs.FilterText.{name_text}
use Rattle.catalog_text.specs.CatalogText.{for_text, operation_words, publication_text, publication_sql, subscription_text}
use Rattle.catalog_laws.proofs.QuotedTexts.{Ends}
use Rattle.catalog_laws.proofs.UniqueTexts.{Tells, Any, Starts, has_byte, by_reading, grouped, word_off}
use Rattle.catalog_laws.proofs.NamedPlaces.{name_tells, names_tell}
use Rattle.catalog_laws.proofs.WholeSchemas.{Entries}

-- ---- operations

words_end : Operations → List ℕ
words_end publishes = join_by (λ word. word) (codes ", ") (operation_words publishes) ++ codes "');\n"

-- each word is at the beginning, or follows the one before it and a comma
next_word : Bool → ℕ → ℕ
next_word is place = place + cond is 8 0

flags : Bool → Bool → Bool → Bool → Operations
flags insert update delete truncate =
    record { insert = insert; update = update; delete = delete; truncate = truncate }

operations_in : List ℕ → Operations
operations_in text =
    let insert = has_byte 0 105 text in
    let update = has_byte (next_word insert 0) 117 text in
    let delete = has_byte (next_word update (next_word insert 0)) 100 text in
    let truncate = has_byte (next_word delete (next_word update (next_word insert 0))) 116 text in
    flags insert update delete truncate

read_by : (insert update delete truncate : Bool) (x : List ℕ)
    → operations_in (words_end (flags insert update delete truncate) ++ x) ≡ flags insert update delete truncate
unfolding words_end operation_words operations_in flags next_word
read_by true true true true x = refl
read_by true true true false x = refl
read_by true true false true x = refl
read_by true true false false x = refl
read_by true false true true x = refl
read_by true false true false x = refl
read_by true false false true x = refl
read_by true false false false x = refl
read_by false true true true x = refl
read_by false true true false x = refl
read_by false true false true x = refl
read_by false true false false x = refl
read_by false false true true x = refl
read_by false false true false x = refl
read_by false false false true x = refl
read_by false false false false x = refl

operations_tell : Tells Any words_end Any
unfolding flags
operations_tell =
    by_reading Any words_end Any operations_in
    (λ publishes x p f. read_by publishes.insert publishes.update publishes.delete publishes.truncate x)

-- ---- CREATE PUBLICATION

parameters : Operations → List ℕ
parameters publishes = codes " WITH (publish = '" ++ words_end publishes

for_ends : (tables : List Table) (entries : Entries) (publishes : Operations) (x : List ℕ)
    → Ends 34 ((for_text tables entries ++ parameters publishes) ++ x)
unfolding parameters
for_ends tables [] publishes x = refl
for_ends tables (entry ∷ entries) publishes x = refl

same_publication : (one other : PublicationOf Expr) → one.name ≡ other.name → one.publishes ≡ other.publishes
    → one.entries ≡ other.entries → one ≡ other
same_publication one other e f g = λ i. record { name = e i; publishes = f i; entries = g i }

pub publication_tells : (tables : List Table) (IsSuch : EntryOf Expr → Type 0)
    → Tells (All IsSuch) (for_text tables) (Starts (codes " WI"))
    → Tells (λ publication. All IsSuch publication.entries) (publication_text tables) Any
unfolding publication_text words_end parameters
publication_tells tables IsSuch entries_tell one other x y p q f g e =
    let entries : PublicationOf Expr → List ℕ = λ publication. for_text tables publication.entries in
    let rest : PublicationOf Expr → List ℕ = λ publication.
    for_text tables publication.entries ++ parameters publication.publishes in
    let name = name_tells one.name other.name (rest one ++ x) (rest other ++ y) tt tt
    (for_ends tables one.entries one.publishes x) (for_ends tables other.entries other.publishes y)
    (grouped (name_text one.name) (rest one) x (name_text other.name) (rest other) y
    (word_off (codes "CREATE PUBLICATION ") (name_text one.name ++ rest one) x (name_text other.name ++ rest other) y
    e)) in
    let after : PublicationOf Expr → List ℕ → List ℕ = λ publication z.
    (codes "TH (publish = '" ++ words_end publication.publishes) ++ z in
    let found = entries_tell one.entries other.entries (parameters one.publishes ++ x) (parameters other.publishes ++ y)
    p q (after one x, refl) (after other y, refl)
    (grouped (entries one) (parameters one.publishes) x (entries other) (parameters other.publishes) y name.1) in
    let publishes = operations_tell one.publishes other.publishes x y tt tt tt tt
    (word_off (codes " WITH (publish = '") (words_end one.publishes) x (words_end other.publishes) y found.1) in
    (same_publication one other name.0 publishes.0 found.0, publishes.1)

-- ---- CREATE SUBSCRIPTION

same_subscription : (one other : Subscription) → one.name ≡ other.name → one.publications ≡ other.publications
    → one ≡ other
same_subscription one other e f = λ i. record { name = e i; publications = f i }

-- publications of which there are this many
abbrev pub TakesFirst : ℕ → Subscription → Type 0
TakesFirst count subscription = All (λ number. number < count) subscription.publications

pub subscription_tells : (publications : List (PublicationOf Expr))
    → IsDistinct bytes_eq (map (λ p. p.name) publications)
    → Tells (TakesFirst (length publications))
    (subscription_text publications) Any
unfolding subscription_text
subscription_tells publications own one other x y p q f g e =
    let names : Subscription → List ℕ = λ subscription.
    join_by (publication_sql publications) (codes ", ") subscription.publications in
    let list : Subscription → List ℕ = λ subscription. names subscription ++ codes ";\n" in
    let rest : Subscription → List ℕ = λ subscription. codes " CONNECTION '' PUBLICATION " ++ list subscription in
    let name = name_tells one.name other.name (rest one ++ x) (rest other ++ y) tt tt refl refl
    (grouped (name_text one.name) (rest one) x (name_text other.name) (rest other) y
    (word_off (codes "CREATE SUBSCRIPTION ") (name_text one.name ++ rest one) x (name_text other.name ++ rest other) y
    e)) in
    let numbers = names_tell (λ (publication : PublicationOf Expr). publication.name) publications own 59 refl refl
    one.publications other.publications (codes ";\n" ++ x) (codes ";\n" ++ y) p q (codes "\n" ++ x, refl)
    (codes "\n" ++ y, refl)
    (grouped (names one) (codes ";\n") x (names other) (codes ";\n") y
    (word_off (codes " CONNECTION '' PUBLICATION ") (list one) x (list other) y name.1)) in
    (same_subscription one other name.0 numbers.0, append_cancel_left (codes ";\n") x y numbers.1)
