-- What calls on a subscriber and its connection do in each world.
use Rattle.std.proofs.Common.{◌≡◌, ◌≢◌, ℕ, ◌+◌, ◌≤◌, Bool, true, false, List, drop, length, take, refl, sym, ap, subst, ◌∙◌, arith}
use Rattle.std.specs.Prelude.{IfOk, Option, Some, None, Result, Ok, Err, fold, is_some}
use Rattle.std.proofs.lemmas.List.{drop_all, take_all, take_min}
use Rattle.shard_checker.specs.CheckedView.{CheckedOf}
use Rattle.tables_log.specs.BookView.{book_slots}
use Rattle.tables_log.specs.declared.book.Book.{Book}
use Rattle.tables_log.specs.declared.slots.Slot.{Slot}
use Rattle.copy_both.specs.Ears.{HearLeaves, ear_phase, hear_answer}
use Rattle.copy_both.specs.Links.{HearSays, IsNewLink, LinkLoses, LinkPasses, LinkSays, link_checked, link_ear, link_heard, link_output, link_sent, link_stage, next_answer, next_bytes, next_stage}
use Rattle.copy_both.specs.Voices.{keep_answer, kept_bytes}
use Rattle.copy_both.specs.declared.heard.Heard as h
use Rattle.copy_both.specs.declared.link.Link.{Link}
use Rattle.copy_both.specs.declared.taken.Taken.{Taken}
use Rattle.tables_log.specs.BookView.{book_log}
use Rattle.test_subscriber.specs.Subscribers.{Feeds, Loses, Opens, Passes, Reports, sub_output}
use Rattle.test_subscriber.specs.declared.subscriber.Subscriber.{Subscriber}
use Rattle.shard_world.specs.Connections.{HearsOn, LosesOn, answer_of, front_of, kept_or_not}
use Rattle.shard_world.specs.Joined.{PeerOf, PeerIs}
use Rattle.shard_world.specs.PeerCalls.{MakesFrom, MakesFromEach, LosesLink, LosesIfThere, Drops}
use Rattle.shard_world.specs.PeerSteps.{Case, ChangesOwn, MatchesPeer, StepsPeerTo, peer_of, source_of}
use Rattle.shard_world.specs.World as w
use Rattle.shard_world.specs.World.{Answer, PeerEvent, Connection, StreamSource, Up, Open, Hear, Take, Keep, Deliver, Report, Lose, hear_up, ups_of, whole_up}
use Rattle.shard_world.proofs.CaseLemmas.{is_shut, is_open}
use Rattle.shard_world.proofs.JoinedPieces.{hears_step}
use Rattle.shard_world.proofs.JoinedFeeding.{delivers_on}
use Rattle.shard_world.proofs.JoinedLoss.{loses_on}
use Rattle.shard_world.proofs.JoinedSteps.{steps_to, opens, takes, keeps, reports}
use Rattle.shard_world.proofs.NeedsLemmas.{delivered_long, heard_long}

-- ---- what stays

pub kept_own : (number : ℕ) (book : Book) → ChangesOwn number book book
kept_own number book = record {
  book = record { checked = refl; limit = refl; rows = λ table key row. refl; log = refl; slots_are = refl };
  others = λ other apart. refl;
}

-- nothing of the book changes
made_by : (case : Case) (event : PeerEvent) (answer : Answer) (book : Book) (new : PeerOf)
    → StepsPeerTo case event answer (book_slots book) new → MakesFrom case event answer book book new
made_by case event answer book new steps = record { steps = steps; own = kept_own case.number book }

-- ---- without a connection

pub is_not_open : (checked : CheckedOf) (now : ℕ) (event : PeerEvent) (book : Book) (old : PeerOf) → event ≢ Open
    → old.link ≡ None → MakesFromEach checked now event book book old old w.NotOpen
is_not_open checked now event book old other none case stands =
    let shut = is_shut case (book_slots book) old stands.peer none in
    made_by case event w.NotOpen book old
    (steps_to case event w.NotOpen (book_slots book) old None shut.none (answer_is event other)
    (peer_is event other))
  where
    answer_is : (its : PeerEvent) → its ≢ Open → w.NotOpen ≡ (w.shut_step its (peer_of case)).0
    answer_is Open apart = absurd (apart refl)
    answer_is (Hear count) apart = refl
    answer_is Take apart = refl
    answer_is (Keep want) apart = refl
    answer_is (Deliver count) apart = refl
    answer_is (Report want) apart = refl
    answer_is Lose apart = refl

    peer_is : (its : PeerEvent) → its ≢ Open
        → PeerIs (source_of case) (book_slots book) old (w.shut_step its (peer_of case)).1
    peer_is Open apart = absurd (apart refl)
    peer_is (Hear count) apart = stands.peer
    peer_is Take apart = stands.peer
    peer_is (Keep want) apart = stands.peer
    peer_is (Deliver count) apart = stands.peer
    peer_is (Report want) apart = stands.peer
    peer_is Lose apart = stands.peer

-- ---- open

pub is_already_open : (checked : CheckedOf) (now : ℕ) (book : Book) (old : PeerOf) (link : Link)
    → old.link ≡ Some link → MakesFromEach checked now Open book book old old w.AlreadyOpen
is_already_open checked now book old link some case stands =
    let here = is_open case (book_slots book) old link stands.peer some in
    made_by case Open w.AlreadyOpen book old
    (steps_to case Open w.AlreadyOpen (book_slots book) old (Some here.c) here.some refl stands.peer)

pub opens_one : (checked : CheckedOf) (now : ℕ) (book : Book) (old : PeerOf) (link : Link) (after : Subscriber)
    → old.link ≡ None → IsNewLink link checked → Opens old.subscriber after
    → MakesFromEach checked now Open book book old (record { link = Some link; subscriber = after }) w.Opened
opens_one checked now book old link after none new opened case stands =
    made_by case Open w.Opened book (record { link = Some link; subscriber = after })
    (opens case stands.is (book_slots book) old link after stands.peer none
    (subst (IsNewLink link) (sym stands.checked_is) new) opened)

-- ---- with a connection

pub front_short : (count : ℕ) (bytes : List ℕ) → take count bytes ≡ front_of count bytes
front_short count bytes = sym (take_min count bytes)

pub front_whole : (count : ℕ) (bytes : List ℕ) → length bytes ≤ count → bytes ≡ front_of count bytes
front_whole count bytes long = sym (take_all count bytes long) ∙ sym (take_min count bytes)

pub hears_some : (checked : CheckedOf) (now : ℕ) (before after : Book) (old : PeerOf) (link new : Link)
    (subscriber : Subscriber) (count : ℕ) (heard : h.Heard) → old.link ≡ Some link
    → Ok heard ≡ hear_answer (link_ear link) before (front_of count (sub_output old.subscriber)) (link_sent link)
    → HearLeaves (ear_phase (link_ear link)) (link_ear link) (link_ear new) before after
    (front_of count (sub_output old.subscriber)) (link_sent link) (Ok heard)
    → HearSays link new (link_heard link before (front_of count (sub_output old.subscriber))) now (Ok heard)
    → Passes old.subscriber (length (front_of count (sub_output old.subscriber))) subscriber
    → MakesFromEach checked now (Hear count) before after old (record { link = Some new; subscriber = subscriber })
    (w.Heard (length (front_of count (sub_output old.subscriber))))
hears_some checked now before after old link new subscriber count heard some answer leaves says passes case stands =
    let done : HearsOn case count (length (front_of count (sub_output old.subscriber))) before after
    (record { link = Some new; subscriber = subscriber }) =
    hears_step case stands.is before after old link count stands.log stands.peer some new subscriber heard answer leaves
    (subst (λ clock. HearSays link new (link_heard link before (front_of count (sub_output old.subscriber))) clock
    (Ok heard)) (sym stands.now_is) says) passes in
    record { steps = done.steps; own = done.own }

pub hears_piece : (checked : CheckedOf) (now : ℕ) (before after : Book) (old : PeerOf) (link new : Link)
    (subscriber : Subscriber) (count : ℕ) (heard : h.Heard) (piece : List ℕ) → old.link ≡ Some link
    → piece ≡ front_of count (sub_output old.subscriber)
    → hear_answer (link_ear link) before piece (link_sent link) ≡ Ok heard
    → HearLeaves (ear_phase (link_ear link)) (link_ear link) (link_ear new) before after piece (link_sent link)
    (Ok heard)
    → HearSays link new (link_heard link before piece) now (Ok heard) → Passes old.subscriber (length piece) subscriber
    → MakesFromEach checked now (Hear count) before after old (record { link = Some new; subscriber = subscriber })
    (w.Heard (length piece))
hears_piece checked now before after old link new subscriber count heard piece some is answer leaves says passes =
    subst (λ p. hear_answer (link_ear link) before p (link_sent link) ≡ Ok heard
    → HearLeaves (ear_phase (link_ear link)) (link_ear link) (link_ear new) before after p (link_sent link) (Ok heard)
    → HearSays link new (link_heard link before p) now (Ok heard) → Passes old.subscriber (length p) subscriber
    → MakesFromEach checked now (Hear count) before after old (record { link = Some new; subscriber = subscriber })
    (w.Heard (length p))) (sym is)
    (λ its. hears_some checked now before after old link new subscriber count heard some (sym its)) answer leaves says
    passes

-- ---- nothing is heard or delivered

plus_zero : (n : ℕ) → n + 0 ≡ n
plus_zero n = omega arith

module _ (source : StreamSource) (now : ℕ) (peer : w.Peer) (c : Connection) where
  abbrev whole : ℕ → List Up
  whole count = whole_up source.checked source.number count (ups_of peer c)

  -- what is left when these are new, and this number of bytes was heard
  abbrev hearing : List Up → ℕ → w.Peer
  hearing new heard =
      let session = fold (hear_up now) (record { confirmed = peer.confirmed; start = c.start; moves = c.moves }) new in
      record peer {
        confirmed = session.confirmed;
        connection =
            Some (record c { start = session.start; moves = session.moves; heard = heard });
      }

  hears_nothing : peer.connection ≡ Some c → w.hears source now peer c 0 ≡ peer
  hears_nothing some =
      ap (λ heard. hearing (drop (length (whole c.heard)) (whole heard)) heard) (plus_zero c.heard)
      ∙ ap (λ new. hearing new c.heard) (drop_all (length (whole c.heard)) (whole c.heard) (omega arith))
      ∙ ap (λ connection. record peer { connection = connection }) (sym some)

delivers_nothing : (peer : w.Peer) (c : Connection) → peer.connection ≡ Some c → w.delivers peer c 0 ≡ peer
delivers_nothing peer c some =
    ap (λ delivered. w.with_connection peer (record c { delivered = delivered })) (plus_zero c.delivered)
    ∙ ap (λ connection. record peer { connection = connection }) (sym some)

-- what exists matches what is left
matches_still : (case : Case) (slots : List Slot) (old : PeerOf) (link : Link) (left : w.Peer)
    → MatchesPeer case slots old → old.link ≡ Some link → left ≡ peer_of case
    → PeerIs (source_of case) slots (record { link = Some link; subscriber = old.subscriber }) left
matches_still case slots old link left stands some same =
    subst (PeerIs (source_of case) slots (record { link = Some link; subscriber = old.subscriber })) (sym same)
    (subst (λ its. PeerIs (source_of case) slots (record { link = its; subscriber = old.subscriber }) (peer_of case))
    some stands)

pub hears_none : (checked : CheckedOf) (now : ℕ) (book : Book) (old : PeerOf) (link : Link) (count : ℕ)
    (piece : List ℕ) → old.link ≡ Some link → piece ≡ front_of count (sub_output old.subscriber) → length piece ≡ 0
    → MakesFromEach checked now (Hear count) book book old (record { link = Some link; subscriber = old.subscriber })
    (w.Heard 0)
hears_none checked now book old link count piece some is none case stands =
    let here = is_open case (book_slots book) old link stands.peer some in
    let more = w.as_many count (length (w.up_bytes (source_of case) (peer_of case) here.c)) here.c.heard in
    let zero : 0 ≡ more = sym none ∙ ap length is
    ∙ heard_long case (book_slots book) old link count stands.peer some in
    let code : PeerOf = record { link = Some link; subscriber = old.subscriber } in
    let left = w.hears (source_of case) case.now (peer_of case) here.c more in
    made_by case (Hear count) (w.Heard 0) book code
    (steps_to case (Hear count) (w.Heard 0) (book_slots book) code (Some here.c) here.some (ap w.Heard zero)
    (matches_still case (book_slots book) old link left stands.peer some
    (ap (w.hears (source_of case) case.now (peer_of case) here.c) (sym zero)
    ∙ hears_nothing (source_of case) case.now (peer_of case) here.c here.some)))

pub delivers_none : (checked : CheckedOf) (now : ℕ) (book : Book) (old : PeerOf) (link : Link) (count : ℕ)
    (piece : List ℕ) → old.link ≡ Some link → piece ≡ front_of count (link_output link) → length piece ≡ 0
    → MakesFromEach checked now (Deliver count) book book old (record { link = Some link; subscriber = old.subscriber })
    (w.Delivered 0)
delivers_none checked now book old link count piece some is none case stands =
    let here = is_open case (book_slots book) old link stands.peer some in
    let more = w.as_many count (length (w.down_of (source_of case) here.c)) here.c.delivered in
    let zero : 0 ≡ more = sym none ∙ ap length is
    ∙ delivered_long case (book_slots book) old link count stands.peer some in
    let code : PeerOf = record { link = Some link; subscriber = old.subscriber } in
    let left = w.delivers (peer_of case) here.c more in
    made_by case (Deliver count) (w.Delivered 0) book code
    (steps_to case (Deliver count) (w.Delivered 0) (book_slots book) code (Some here.c) here.some (ap w.Delivered zero)
    (matches_still case (book_slots book) old link left stands.peer some
    (ap (w.delivers (peer_of case) here.c) (sym zero) ∙ delivers_nothing (peer_of case) here.c here.some)))

pub takes_one : (checked : CheckedOf) (now : ℕ) (book : Book) (old : PeerOf) (link new : Link) (found : Taken)
    → old.link ≡ Some link
    → Ok found ≡ next_answer (link_checked link) (link_stage link) (book_log book)
    → LinkSays link new (next_bytes (link_checked link) (link_stage link) (book_log book) now)
    (next_stage (link_checked link) (link_stage link) (book_log book) now)
    → MakesFromEach checked now Take book book old (record { link = Some new; subscriber = old.subscriber })
    (answer_of found)
takes_one checked now book old link new found some answer says case stands =
    made_by case Take (answer_of found) book (record { link = Some new; subscriber = old.subscriber })
    (takes case (book_slots book) old link new stands.peer some
    (subst (λ log. LinkSays link new (next_bytes (link_checked link) (link_stage link) log case.now)
    (next_stage (link_checked link) (link_stage link) log case.now)) stands.log.log_is
    (subst (λ clock. LinkSays link new (next_bytes (link_checked link) (link_stage link) (book_log book) clock)
    (next_stage (link_checked link) (link_stage link) (book_log book) clock)) (sym stands.now_is) says))
    found (answer ∙ ap (next_answer (link_checked link) (link_stage link)) stands.log.log_is))

pub keeps_one : (checked : CheckedOf) (now : ℕ) (book : Book) (old : PeerOf) (link new : Link) (want said : Bool)
    → old.link ≡ Some link → Ok said ≡ keep_answer (link_stage link)
    → LinkSays link new (kept_bytes (link_stage link) now want) (link_stage link)
    → MakesFromEach checked now (Keep want) book book old (record { link = Some new; subscriber = old.subscriber })
    (kept_or_not said)
keeps_one checked now book old link new want said some answer says case stands =
    made_by case (Keep want) (kept_or_not said) book (record { link = Some new; subscriber = old.subscriber })
    (keeps case (book_slots book) old link new want stands.peer some
    (subst (λ clock. LinkSays link new (kept_bytes (link_stage link) clock want) (link_stage link))
    (sym stands.now_is) says) said answer)

pub delivers_some : (checked : CheckedOf) (now : ℕ) (book : Book) (old : PeerOf) (link new : Link)
    (after : Subscriber) (count : ℕ) → old.link ≡ Some link
    → Feeds old.subscriber (front_of count (link_output link)) after
    → LinkPasses link new (length (front_of count (link_output link)))
    → MakesFromEach checked now (Deliver count) book book old (record { link = Some new; subscriber = after })
    (w.Delivered (length (front_of count (link_output link))))
delivers_some checked now book old link new after count some fed passes case stands =
    made_by case (Deliver count) (w.Delivered (length (front_of count (link_output link)))) book
    (record { link = Some new; subscriber = after })
    (delivers_on case stands.is (book_slots book) old link new after count stands.peer some fed passes)

pub delivers_piece : (checked : CheckedOf) (now : ℕ) (book : Book) (old : PeerOf) (link new : Link)
    (after : Subscriber) (count : ℕ) (piece : List ℕ) → old.link ≡ Some link
    → piece ≡ front_of count (link_output link) → Feeds old.subscriber piece after → LinkPasses link new (length piece)
    → MakesFromEach checked now (Deliver count) book book old (record { link = Some new; subscriber = after })
    (w.Delivered (length piece))
delivers_piece checked now book old link new after count piece some is =
    subst (λ p. Feeds old.subscriber p after → LinkPasses link new (length p)
    → MakesFromEach checked now (Deliver count) book book old (record { link = Some new; subscriber = after })
    (w.Delivered (length p))) (sym is)
    (delivers_some checked now book old link new after count some)

pub reports_one : (checked : CheckedOf) (now : ℕ) (book : Book) (old : PeerOf) (link : Link) (after : Subscriber)
    (want : Bool) → old.link ≡ Some link → Reports old.subscriber now want after
    → MakesFromEach checked now (Report want) book book old (record { link = old.link; subscriber = after }) w.Reported
reports_one checked now book old link after want some reported case stands =
    made_by case (Report want) w.Reported book (record { link = old.link; subscriber = after })
    (reports case stands.is (book_slots book) old link after want stands.peer some
    (subst (λ clock. Reports old.subscriber clock want after) (sym stands.now_is) reported))

pub loses_one : (checked : CheckedOf) (now : ℕ) (before after : Book) (old : PeerOf) (link new : Link)
    (subscriber : Subscriber) → old.link ≡ Some link → LinkLoses link new before after
    → Loses old.subscriber subscriber
    → MakesFromEach checked now Lose before after old (record { link = None; subscriber = subscriber }) w.Lost
loses_one checked now before after old link new subscriber some lost_link lost_subscriber case stands =
    let done : LosesOn case before after (record { link = None; subscriber = subscriber }) =
    loses_on case before after old link new subscriber stands.peer some lost_link lost_subscriber in
    record { steps = done.steps; own = done.own }

pub drops_lose : (checked : CheckedOf) (now : ℕ) (before after : Book) (old new : PeerOf) (link : Link)
    → old.link ≡ Some link → Drops old new before after
    → MakesFromEach checked now Lose before after old new w.Lost
drops_lose checked now before after old new link some drops case stands =
    let lost : LosesLink link before after = subst (λ its. LosesIfThere its before after) some drops.link in
    subst (λ its. MakesFrom case Lose w.Lost before after (record { link = its; subscriber = new.subscriber }))
    (sym drops.none)
    (loses_one checked now before after old link lost.lost new.subscriber some lost.loses drops.subscriber case stands)

pub drops_lose_so : (checked : CheckedOf) (now : ℕ) (before after : Book) (old new : PeerOf) → is_some old.link ≡ true
    → Drops old new before after
    → MakesFromEach checked now Lose before after old new w.Lost
drops_lose_so checked now before after old new there drops = by_link old.link refl there
  where
    by_link : (link : Option Link) → old.link ≡ link → is_some link ≡ true
        → MakesFromEach checked now Lose before after old new w.Lost
    by_link None is none = absurd cc
    by_link (Some link) is none = drops_lose checked now before after old new link is drops

pub none_is : {A : Type 0} (option : Option A) → is_some option ≡ false → option ≡ None
none_is None h = refl
none_is (Some value) h = absurd cc

pub if_ok_so : {A E : Type 0} (result : Result A E) (P Q : A → Type 0) → IfOk result P
    → ((value : A) → P value → Q value) → IfOk result Q
if_ok_so (Ok value) P Q so then = then value so
if_ok_so (Err error) P Q so then = tt
