-- What the first frame requests of a catalog and a book.
use Rattle.std.proofs.Common.{◌≡◌, ℕ, zero, suc, List, [], ◌∷◌, ◌++◌, refl, sym, ap, ◌∙◌, arith}
use Rattle.std.specs.Prelude.{All, max, map, Option, Some, None}
use Rattle.std.proofs.lemmas.List.Elements.{All-head, All-tail}
use Rattle.filter_tree.specs.Expr.{Expr}
use Rattle.pub_catalog.specs.CatalogLimits.{IsPlainName}
use Rattle.pub_catalog.specs.Catalogs.{CatalogOf, PublicationOf}
use Rattle.pub_catalog.specs.CatalogView.{catalog_view, publication_view}
use Rattle.pub_catalog.specs.declared.catalog.Catalog.{Catalog}
use Rattle.pub_catalog.specs.declared.catalog.Publication.{Publication}
use Rattle.pub_catalog.specs.declared.catalog.Subscription.{Subscription}
use Rattle.tables_log.specs.Lsn.{end_lsn_of}
use Rattle.tables_log.specs.Slots.{confirmed_at, start_fault, started}
use Rattle.tables_log.specs.declared.error.StartError.{StartError}
use Rattle.tables_log.specs.declared.error.StartError.TheVariants as error
use Rattle.tables_log.specs.declared.slots.Slot.{Slot}
use Rattle.copy_both.specs.Hearing as h
use Rattle.copy_both.specs.Hearing.{ServedFrom, begin_of, begin_by, unless_fault, offer_in}
use Rattle.copy_both.specs.Refusals.{RefusalOf, CanBeSent, state_of, error_response}
use Rattle.copy_both.specs.Sessions.{TakesSlot, IsRefused, refusal_fault, response_after}
use Rattle.copy_both.specs.ShortNames.{IsShort}
use Rattle.copy_both.specs.StartAnswers.{StartAnswerOf, Stream, Refused, asked_of, start_reported, sent_after}
use Rattle.copy_both.specs.StartOrder.{OfferOf, slot_name, book_refusal}
use Rattle.copy_both.specs.declared.answer.StartAnswer.TheVariants as code
use Rattle.copy_both.specs.declared.link_fault.LinkFault.TheVariants as fault
use Rattle.copy_both.specs.declared.sql_state.SqlState.{SqlState}
use Rattle.copy_both.proofs.ShortNames.{no_slot_is_sent, ahead_is_sent, in_use_is_sent}

names_same : (publications : List Publication)
    → map (λ (p : Publication). p.name) publications
    ≡ map (λ (p : PublicationOf Expr). p.name) (map publication_view publications)
names_same [] = refl
names_same (p ∷ publications) = ap (λ names. p.name ∷ names) (names_same publications)

abbrev offer : List (List ℕ) → List Subscription → ℕ → OfferOf
offer publications subscriptions end =
    record { publications = publications; subscriptions = subscriptions; log_end = end; in_use = [] }

pub offer_is : (catalog : Catalog) (served : ServedFrom) (publications : List Publication)
    (subscriptions : List Subscription) (end : ℕ)
    → publications ≡ catalog.publications.items → subscriptions ≡ catalog.subscriptions.items
    → end ≡ end_lsn_of served.commits → catalog_view catalog ≡ served.checked.catalog
    → offer (map (λ (p : Publication). p.name) publications) subscriptions end ≡ offer_in served
offer_is catalog served publications subscriptions end of_publications of_subscriptions of_end shown =
    let names : map (λ (p : Publication). p.name) publications
    ≡ map (λ (p : PublicationOf Expr). p.name) served.checked.catalog.publications =
    ap (map (λ (p : Publication). p.name)) of_publications ∙ names_same catalog.publications.items
    ∙ ap (λ (k : CatalogOf Expr). map (λ (p : PublicationOf Expr). p.name) k.publications) shown in
    let takers : subscriptions ≡ served.checked.catalog.subscriptions = of_subscriptions
    ∙ ap (λ (k : CatalogOf Expr). k.subscriptions) shown in
    ap (λ (x : List (List ℕ)). offer x subscriptions end) names
    ∙ ap (λ (x : List Subscription). offer
    (map (λ (p : PublicationOf Expr). p.name) served.checked.catalog.publications) x end) takers
    ∙ ap (λ (x : ℕ). offer (map (λ (p : PublicationOf Expr). p.name) served.checked.catalog.publications)
    served.checked.catalog.subscriptions x) of_end

-- ---- a start by what was requested

refused_by : (served : ServedFrom) (slots : List Slot) (asked : StartAnswerOf) (state : SqlState) (old new : List ℕ)
    → code.Refused state ≡ start_reported asked → new ≡ sent_after old asked
    → IsRefused (begin_by served slots asked) slots slots old new (fault.BadStart state)
refused_by served slots (Stream slot position) state old new is sent = absurd cc
refused_by served slots (Refused refusal) state old new is sent =
    let same : state_of refusal ≡ state = cc in
    record { fault_is = ap (λ s. Some (fault.BadStart s)) same; slots = refl; response = sent }

pub refused_begin : (served : ServedFrom) (slots : List Slot) (kind : ℕ) (body : List ℕ) (state : SqlState)
    (old new : List ℕ)
    → code.Refused state ≡ start_reported (asked_of (offer_in served) kind body)
    → new ≡ sent_after old (asked_of (offer_in served) kind body)
    → IsRefused (begin_of served slots kind body) slots slots old new (fault.BadStart state)
unfolding begin_of
refused_begin served slots kind body state old new is sent =
    refused_by served slots (asked_of (offer_in served) kind body) state old new is sent

-- what was requested is this stream
stream_of : (asked : StartAnswerOf) (slot position : ℕ) → code.Stream slot position ≡ start_reported asked
    → asked ≡ Stream slot position
stream_of (Refused refusal) slot position is = absurd cc
stream_of (Stream s p) slot position is =
    let es : s ≡ slot = cc in
    let ep : p ≡ position = cc in
    ap (λ x. Stream x p) es ∙ ap (Stream slot) ep

begins_by : (served : ServedFrom) (slots : List Slot) (kind : ℕ) (body : List ℕ) (slot position : ℕ)
    (fault : Option StartError)
    → code.Stream slot position ≡ start_reported (asked_of (offer_in served) kind body)
    → start_fault slots (end_lsn_of served.commits) slot position ≡ fault
    → begin_of served slots kind body
    ≡ unless_fault fault slot (max position (confirmed_at slots slot))
    (slot_name served.checked.catalog.subscriptions slot)
unfolding begin_of
begins_by served slots kind body slot position fault is found =
    ap (begin_by served slots) (stream_of (asked_of (offer_in served) kind body) slot position is)
    ∙ ap (λ (f : Option StartError). unless_fault f slot (max position (confirmed_at slots slot))
    (slot_name served.checked.catalog.subscriptions slot)) found

pub sent_stream : (asked : StartAnswerOf) (slot position : ℕ) (old : List ℕ)
    → code.Stream slot position ≡ start_reported asked → sent_after old asked ≡ old
sent_stream asked slot position old is = ap (sent_after old) (stream_of asked slot position is)

pub taken_begin : (served : ServedFrom) (slots after : List Slot) (kind : ℕ) (body : List ℕ) (slot position start : ℕ)
    (old new : List ℕ)
    → code.Stream slot position ≡ start_reported (asked_of (offer_in served) kind body)
    → start_fault slots (end_lsn_of served.commits) slot position ≡ None
    → start ≡ max position (confirmed_at slots slot) → after ≡ started slots slot
    → new ≡ sent_after old (asked_of (offer_in served) kind body)
    → TakesSlot (begin_of served slots kind body) slots after old new (slot, start)
taken_begin served slots after kind body slot position start old new is none at changed sent = record {
  begins = begins_by served slots kind body slot position None is none ∙ ap (h.Begins slot) (sym at);
  slots = changed;
  response = sent ∙ sent_stream (asked_of (offer_in served) kind body) slot position old is;
}

-- the book refuses it
pub refused_start : (served : ServedFrom) (slots after : List Slot) (kind : ℕ) (body : List ℕ) (slot position : ℕ)
    (error : StartError) (state : SqlState) (old middle new : List ℕ)
    → code.Stream slot position ≡ start_reported (asked_of (offer_in served) kind body)
    → start_fault slots (end_lsn_of served.commits) slot position ≡ Some error
    → after ≡ slots → middle ≡ sent_after old (asked_of (offer_in served) kind body)
    → state ≡ state_of (book_refusal (slot_name served.checked.catalog.subscriptions slot) error)
    → new ≡ middle ++ error_response (book_refusal (slot_name served.checked.catalog.subscriptions slot) error)
    → IsRefused (begin_of served slots kind body) slots after old new (fault.BadStart state)
refused_start served slots after kind body slot position error state old middle new is faulty stay sent state_is wrote =
    let refusal : RefusalOf = book_refusal (slot_name served.checked.catalog.subscriptions slot) error in
    let refuses : begin_of served slots kind body ≡ h.Refuses refusal =
    begins_by served slots kind body slot position (Some error) is faulty in
    record {
      fault_is = ap refusal_fault refuses ∙ ap (λ s. Some (fault.BadStart s)) (sym state_is);
      slots = stay;
      response = wrote ∙ ap (λ (x : List ℕ). x ++ error_response refusal)
          (sent ∙ sent_stream (asked_of (offer_in served) kind body) slot position old is)
          ∙ sym (ap (response_after old) refuses);
    }

-- ---- names of slots

name_is_short : (subscriptions : List Subscription) (slot : ℕ)
    → All IsPlainName (map (λ (s : Subscription). s.name) subscriptions) → IsShort (slot_name subscriptions slot)
name_is_short [] slot all = omega arith
name_is_short (subscription ∷ subscriptions) zero all =
    (All-head IsPlainName subscription.name (map (λ (s : Subscription). s.name) subscriptions) all).short
name_is_short (subscription ∷ subscriptions) (suc slot) all =
    name_is_short subscriptions slot
    (All-tail IsPlainName subscription.name (map (λ (s : Subscription). s.name) subscriptions) all)

pub book_is_sent : (subscriptions : List Subscription) (slot : ℕ) (error : StartError)
    → All IsPlainName (map (λ (s : Subscription). s.name) subscriptions)
    → CanBeSent (book_refusal (slot_name subscriptions slot) error)
book_is_sent subscriptions slot error.NoSlot all =
    no_slot_is_sent (slot_name subscriptions slot) (name_is_short subscriptions slot all)
book_is_sent subscriptions slot error.Ahead all = ahead_is_sent
book_is_sent subscriptions slot error.InUse all =
    in_use_is_sent (slot_name subscriptions slot) (name_is_short subscriptions slot all)
