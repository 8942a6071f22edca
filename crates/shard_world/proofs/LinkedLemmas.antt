-- The catalog of connections stays.
use Rattle.std.proofs.Common.{◌≡◌, ℕ, List, [], ◌∷◌, refl, sym, subst}
use Rattle.std.specs.Prelude.{None, Option, Some, Result, Ok, Err, slice_set}
use Rattle.std.proofs.lemmas.List.Elements.{All-nil, All-cons, All-set}
use Rattle.filter_tree.specs.Expr.{Expr}
use Rattle.pub_catalog.specs.Catalogs.{PublicationOf}
use Rattle.pub_catalog.specs.declared.catalog.Subscription.{Subscription}
use Rattle.shard_checker.specs.CheckedView.{CheckedOf}
use Rattle.tables_log.specs.BookView.{book_checked}
use Rattle.tables_log.specs.declared.book.Book.{Book}
use Rattle.copy_both.specs.Ears.{HearLeaves, ear_phase}
use Rattle.copy_both.specs.Hearing.{HearingOf}
use Rattle.copy_both.specs.Links.{HearSays, link_checked, link_ear}
use Rattle.copy_both.specs.declared.heard.Heard.{Heard}
use Rattle.copy_both.specs.declared.link.Link.{Link}
use Rattle.copy_both.specs.declared.link_fault.LinkFault.{LinkFault}
use Rattle.copy_both.specs.declared.link_fault.LinkFault.TheVariants as fault
use Rattle.copy_both.proofs.SlotChanges.{hearing_changes_slots}
use Rattle.test_subscriber.specs.declared.subscriber.Subscriber.{Subscriber}
use Rattle.shard_world.specs.FirstPeers.{AreFirstPeers}
use Rattle.shard_world.specs.Joined.{PeerOf}
use Rattle.shard_world.specs.Linked.{AreLinkedTo, IsLinkedTo, IsServedAlike}
use Rattle.shard_world.specs.PeerCalls.{Drops, LosesIfThere}

-- ---- one subscriber

pub serves_alike : (checked one other : CheckedOf) → other ≡ one → IsServedAlike one checked
    → IsServedAlike other checked
serves_alike checked one other same alike =
    subst (λ (its : CheckedOf). IsServedAlike its checked) (sym same) alike

pub same_serves_alike : (one other : CheckedOf) → one ≡ other → IsServedAlike one other
same_serves_alike one other same = serves_alike other other one same (λ subscriber change. refl)

pub is_unlinked : (checked : CheckedOf) (code : PeerOf) → code.link ≡ None → IsLinkedTo checked code
is_unlinked checked code none link some = absurd cc

-- with a link that is served alike
linked_by : (checked : CheckedOf) (link : Link) (after : Subscriber) → IsServedAlike checked (link_checked link)
    → IsLinkedTo checked (record { link = Some link; subscriber = after })
linked_by checked link after alike other some =
    let same : link ≡ other = cc in
    subst (λ (its : Link). IsServedAlike checked (link_checked its)) same alike

pub is_linked : (checked : CheckedOf) (link : Link) (after : Subscriber) → link_checked link ≡ checked
    → IsLinkedTo checked (record { link = Some link; subscriber = after })
is_linked checked link after same =
    linked_by checked link after
    (subst (λ (its : CheckedOf). IsServedAlike checked its) (sym same) (λ subscriber change. refl))

pub keeps_link : (checked : CheckedOf) (old : PeerOf) (link new : Link) (after : Subscriber) → old.link ≡ Some link
    → link_checked new ≡ link_checked link → IsLinkedTo checked old
    → IsLinkedTo checked (record { link = Some new; subscriber = after })
keeps_link checked old link new after some same linked =
    linked_by checked new after
    (subst (λ (its : CheckedOf). IsServedAlike checked its) (sym same) (linked link some))

-- whatever was heard
pub hear_keeps_link : (old new : Link) (h : HearingOf) (clock : ℕ) (result : Result Heard LinkFault)
    → HearSays old new h clock result → link_checked new ≡ link_checked old
hear_keeps_link old new h clock (Ok heard) says = says.checked
hear_keeps_link old new h clock (Err (fault.BadStart state)) says = says.checked
hear_keeps_link old new h clock (Err fault.OutOfMemory) says = says.says.checked
hear_keeps_link old new h clock (Err fault.FrameTooLong) says = says.checked
hear_keeps_link old new h clock (Err fault.BadLength) says = says.checked
hear_keeps_link old new h clock (Err (fault.Unexpected byte)) says = says.checked
hear_keeps_link old new h clock (Err fault.StatusAhead) says = says.checked
hear_keeps_link old new h clock (Err fault.Closed) says = says.checked

pub hear_keeps_book : (old new : Link) (before after : Book) (piece : List ℕ) (sent : ℕ)
    (result : Result Heard LinkFault)
    → HearLeaves (ear_phase (link_ear old)) (link_ear old) (link_ear new) before after piece sent result
    → book_checked after ≡ book_checked before
hear_keeps_book old new before after piece sent result left =
    (hearing_changes_slots (link_ear old) (link_ear new) before after piece sent result left).checked

loss_keeps_book : (link : Option Link) (before after : Book) → LosesIfThere link before after
    → book_checked after ≡ book_checked before
loss_keeps_book None before after kept = kept.checked
loss_keeps_book (Some link) before after loses = loses.loses.ear.book.checked

pub drop_keeps_book : (old new : PeerOf) (before after : Book) → Drops old new before after
    → book_checked after ≡ book_checked before
drop_keeps_book old new before after drops = loss_keeps_book old.link before after drops.link

-- ---- all subscribers

pub first_are_linked : (checked : CheckedOf) (publications : List (PublicationOf Expr))
    (subscriptions : List Subscription) (peers : List PeerOf)
    → AreFirstPeers publications subscriptions peers → AreLinkedTo checked peers
first_are_linked checked publications [] [] are = All-nil (IsLinkedTo checked)
first_are_linked checked publications (subscription ∷ subscriptions) (peer ∷ peers) are =
    All-cons (IsLinkedTo checked) peer peers (is_unlinked checked peer are.0.none)
    (first_are_linked checked publications subscriptions peers are.1)
first_are_linked checked publications [] (peer ∷ peers) are = absurd are
first_are_linked checked publications (subscription ∷ subscriptions) [] are = absurd are

pub one_is_linked : (checked : CheckedOf) (peers : List PeerOf) (number : ℕ) (new : PeerOf)
    → AreLinkedTo checked peers → IsLinkedTo checked new → AreLinkedTo checked (slice_set peers number new)
one_is_linked checked peers number new are one = All-set (IsLinkedTo checked) peers number new one are
