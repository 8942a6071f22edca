-- A pump of a program's world ends where the log does, or because memory ran out.
use Rattle.std.proofs.Common.{◌≡◌, ℕ, zero, suc, ◌<◌, ◌≤◌, ◌^◌, List, [], ◌∷◌, ◌++◌, length, map, replicate, refl, sym, ap, subst, ◌∙◌, arith, inl, inr}
use Rattle.std.specs.Prelude.{All, ◌⊎◌, false, Result, Ok, Err}
use Rattle.std.proofs.lemmas.List.{length-map}
use Rattle.std.proofs.lemmas.List.Elements.{All-nil, All-cons, All-head, All-tail}
use Rattle.table_changes.specs.Tables.{no_rows}
use Rattle.shard_checker.specs.CheckedView.{CheckedOf, setting_in}
use Rattle.tables_log.specs.BookView.{book_log}
use Rattle.tables_log.specs.Lsn.{commits_before, end_lsn_of}
use Rattle.tables_log.specs.StandsFor.{Transaction}
use Rattle.stream_laws.specs.Following.{log_of}
use Rattle.shard_world.specs.Pumping.{EndsIdle, IsPosition, IsEndOfLog, InEach, ReachesEnd, TakesEnough, WantsMemory, WalksAll, TakesAll, PumpsAll, PumpsSome, PumpsThrough, WalksThrough, all_bytes, on_clock, pump_events}
use Rattle.shard_world.specs.World as w
use Rattle.shard_world.specs.World.{Answer, Event, Peer, PeerEvent, Hear, Take, Keep, Deliver, Report, position_now, first_world, StreamSource, source_in, position_of, log_in}
use Rattle.shard_world.specs.WorldCalls.{IsWorld, Runs, RunsFrom, world_book, world_checked, world_peers}
use Rattle.shard_world.specs.declared.world.World.{World}
use Rattle.shard_world.proofs.AskingLemmas.{end_of_count, leads_asked}
use Rattle.shard_world.proofs.EndSteps.{ends_at, now_end}
use Rattle.stream_laws.proofs.EntryLemmas.{entries_length}
use Rattle.shard_world.proofs.PumpEndLemmas.{hears_all, takes_all, tells_all}
use Rattle.shard_world.proofs.PumpLemmas.{last_events, pump_answers, pump_ends_late, pump_goes_through}
use Rattle.shard_world.proofs.PumpSteps.{KeepsOpen, PeerRuns, RunsAs, last_answer, runs_as}
use Rattle.shard_world.proofs.WorldLemmas.{all_timed, can_be_said, good_at, published}
use Rattle.shard_world.proofs.WorldPeers.{good_follows}
use Rattle.shard_world.proofs.WorldStepLemmas.{log_there}

-- ---- out of memory

takes_open : (takes : ℕ) (more : List PeerEvent) → All KeepsOpen more → All KeepsOpen (replicate takes Take ++ more)
takes_open zero more all = all
takes_open (suc takes) more all = All-cons KeepsOpen Take (replicate takes Take ++ more) tt (takes_open takes more all)

pump_open : (takes : ℕ) → All KeepsOpen (pump_events takes)
pump_open takes =
    All-cons KeepsOpen (Hear all_bytes) (replicate takes Take ++ last_events) tt (takes_open takes last_events
    (All-cons KeepsOpen (Keep false) (Deliver all_bytes ∷ Report false ∷ Hear all_bytes ∷ []) tt
    (All-cons KeepsOpen (Deliver all_bytes) (Report false ∷ Hear all_bytes ∷ []) tt
    (All-cons KeepsOpen (Report false) (Hear all_bytes ∷ []) tt
    (All-cons KeepsOpen (Hear all_bytes) [] tt (All-nil KeepsOpen))))))

first_open : (done others : List PeerEvent) → All KeepsOpen (done ++ others) → All KeepsOpen done
first_open [] others all = All-nil KeepsOpen
first_open (event ∷ done) others all =
    All-cons KeepsOpen event done (All-head KeepsOpen event (done ++ others) all)
    (first_open done others (All-tail KeepsOpen event (done ++ others) all))

pub wants_memory : (before after : World) (now subscriber : ℕ) (answer : Answer)
    → PumpsSome before after now subscriber answer → WantsMemory before subscriber answer
wants_memory before after now subscriber answer pumps there most events world is c connected =
    let part = pumps.some in
    let into = part.runs most events world is in
    last_answer (world_checked before) most subscriber now there part.done part.answers answer world into.next
    (first_open part.done part.others (subst (All KeepsOpen) (sym part.are) (pump_open pumps.takes))) part.go_on
    part.ends into.runs c connected

-- ---- the end of the log

pub end_of_log : (before after : World) (subscriber position : ℕ) → ReachesEnd before after subscriber
    → IsPosition after subscriber position
    → IsEndOfLog before subscriber position
end_of_log before after subscriber position reaches at there most events world is =
    let end = reaches there most events world is in
    at (subst (λ (c : CheckedOf). subscriber < length c.plan) (sym end.checked) there) most end.events end.world
    end.is ∙ end.position_is

-- a position that counts all commits, and is not 0
record IsPast (source : StreamSource) (peer : Peer) : Type 0 where
  all : length (log_in source) ≤ commits_before (position_now source peer)
  some : 1 ≤ position_now source peer

past_is_end : (code : World) (subscriber most : ℕ) (events : List (ℕ × Event)) (world : w.World)
    → IsWorld code most events world
    → IsPast (source_in (world_checked code) world subscriber) (world.peers subscriber)
    → position_of (world_checked code) world subscriber ≡ end_lsn_of (length world.transactions)
past_is_end code subscriber most events world is past =
    let checked : CheckedOf = world_checked code in
    let sayable = can_be_said checked most is.publisher events is.times world is.leads in
    let good = good_at checked is.publisher.covered is.publisher.apart most events (all_timed events is.times) world
    is.leads sayable in
    let public = published checked is.publisher.covered is.publisher.apart world good in
    let end = now_end (source_in checked world subscriber) (world.peers subscriber) (good.peers subscriber)
    (ends_at checked is.publisher.covered is.publisher.apart most events (all_timed events is.times) world is.leads
    sayable subscriber) in
    let follows = good_follows (source_in checked world subscriber) public sayable (world.peers subscriber)
    (good.peers subscriber) in
    let count : length (log_of checked world.transactions) ≡ length world.transactions =
    entries_length (setting_in checked) no_rows 1 world.transactions in
    end_of_count (position_of checked world subscriber) (length world.transactions) end
    (all_counted (position_of checked world subscriber) (length world.transactions)
    (length (log_of checked world.transactions)) count past.all follows.within) past.some
  where
    all_counted : (position count logged : ℕ) → logged ≡ count → logged ≤ commits_before position
        → commits_before position ≤ count → commits_before position ≡ count
    all_counted position count logged e low high = omega (arith, e, low, high)

module _ (before between later after : World) (now subscriber : ℕ) (timed : now < 2 ^ 64)
    (hears : WalksAll before between now subscriber (Hear all_bytes ∷ []))
    (takes : TakesAll between later now subscriber)
    (tells : WalksAll later after now subscriber last_events) where
  abbrev on : List PeerEvent → List (ℕ × Event)
  on events = map (on_clock now subscriber) events

  abbrev hearing : List (ℕ × Event)
  hearing = on (Hear all_bytes ∷ [])

  abbrev taking : List (ℕ × Event)
  taking = on (replicate takes.takes Take)

  abbrev telling : List (ℕ × Event)
  telling = on last_events

  -- the takes continue until there is no commit, or there are more of them than commits
  enough : (most : ℕ) (events : List (ℕ × Event)) (world : w.World) → IsWorld between most events world
      → (transactions : List Transaction) → world.transactions ≡ transactions
      → EndsIdle takes.walks.answers ⊎ (length transactions < takes.takes)
  enough most events world is transactions same = elim takes.enough [
    | inl idle ↦ inl idle
    | inr many ↦ inr (
        let log = log_there (world_checked between) most (world_book between) (world_peers between) events world is
        subscriber now in
        let count : length (book_log (world_book between)) ≡ length world.transactions = ap length log.log_is
        ∙ entries_length (setting_in (world_checked between)) no_rows 1 world.transactions in
        let all : length world.transactions ≡ length transactions = ap length same in
        omega (arith, many, count, all))
  ]

  -- in the world after it
  told_past : (most : ℕ) (events : List (ℕ × Event)) (world : w.World)
      → subscriber < length (world_checked before).plan → IsWorld before most events world
      → (heard : RunsFrom before between most events world hearing hears.answers)
      → (taken : RunsFrom between later most (events ++ hearing) heard.next taking takes.walks.answers)
      → (told : RunsFrom later after most ((events ++ hearing) ++ taking) taken.next telling tells.answers)
      → IsPast (source_in (world_checked before) world subscriber) (told.next.peers subscriber)
      × (told.next.transactions ≡ world.transactions)
  told_past most events world there is heard taken told =
      let checked : CheckedOf = world_checked before in
      let transactions : List Transaction = world.transactions in
      let sayable = can_be_said checked most is.publisher events is.times world is.leads in
      let good = good_at checked is.publisher.covered is.publisher.apart most events (all_timed events is.times) world
      is.leads sayable in
      let public = published checked is.publisher.covered is.publisher.apart world good in
      let heard_as : RunsAs (source_in checked world subscriber) now (Hear all_bytes ∷ []) hears.answers
      (world.peers subscriber) heard.next =
      runs_as checked most subscriber now there (Hear all_bytes ∷ []) hears.answers world heard.next hears.go_on
      heard.runs in
      let taken_as : RunsAs (source_in checked heard.next subscriber) now (replicate takes.takes Take)
      takes.walks.answers (heard.next.peers subscriber) taken.next =
      runs_as checked most subscriber now there (replicate takes.takes Take) takes.walks.answers heard.next taken.next
      takes.walks.go_on
      (subst (λ its. Runs its most taking takes.walks.answers heard.next taken.next) heard.checked taken.runs) in
      let told_as : RunsAs (source_in checked taken.next subscriber) now last_events tells.answers
      (taken.next.peers subscriber) told.next =
      runs_as checked most subscriber now there last_events tells.answers taken.next told.next tells.go_on
      (subst (λ its. Runs its most telling tells.answers taken.next told.next) (taken.checked ∙ heard.checked)
      told.runs) in
      let same_taken : taken.next.transactions ≡ transactions = taken_as.transactions_are ∙ heard_as.transactions_are in
      let started = hears_all (source_in checked world subscriber) public sayable now timed hears.answers
      (world.peers subscriber) (heard.next.peers subscriber) heard_as.runs hears.go_on
      (leads_asked checked most events first_world world is.leads (λ other. tt) subscriber) (good.peers subscriber) in
      let left = takes_all (source_in checked world subscriber) public sayable now timed started.start takes.takes
      takes.walks.answers (heard.next.peers subscriber) (taken.next.peers subscriber)
      (subst (λ its. PeerRuns (record { checked = checked; transactions = its; number = subscriber }) now
      (replicate takes.takes Take) takes.walks.answers (heard.next.peers subscriber)
      (taken.next.peers subscriber)) heard_as.transactions_are taken_as.runs)
      (enough most (events ++ hearing) heard.next heard.is transactions heard_as.transactions_are) started.left in
      let past = tells_all (source_in checked world subscriber) public sayable now timed started.start
      (taken.next.peers subscriber) (told.next.peers subscriber) tells.answers
      (subst (λ its. PeerRuns (record { checked = checked; transactions = its; number = subscriber }) now last_events
      tells.answers (taken.next.peers subscriber) (told.next.peers subscriber)) same_taken told_as.runs)
      tells.go_on left in
      (record { all = past.all; some = past.some }, told_as.transactions_are ∙ same_taken)

  pub reaches_end_of_log : ReachesEnd before after subscriber
  reaches_end_of_log there most events world is =
      let heard = hears.runs most events world is in
      let taken = takes.walks.runs most (events ++ hearing) heard.next heard.is in
      let told = tells.runs most ((events ++ hearing) ++ taking) taken.next taken.is in
      let past = told_past most events world there is heard taken told in
      let same : world_checked after ≡ world_checked before = told.checked ∙ taken.checked ∙ heard.checked in
      record {
        events = ((events ++ hearing) ++ taking) ++ telling;
        world = told.next;
        is = told.is;
        checked = same;
        position_is = past_is_end after subscriber most (((events ++ hearing) ++ taking) ++ telling) told.next told.is
            (subst (λ its. IsPast (source_in its told.next subscriber) (told.next.peers subscriber)) (sym same)
            (subst (λ its. IsPast (record { checked = world_checked before; transactions = its; number = subscriber })
            (told.next.peers subscriber)) (sym past.1) past.0))
            ∙ ap end_lsn_of (ap length past.1);
      }

  takes_enough : InEach before subscriber
      (λ most world. TakesEnough takes.takes (length world.transactions)
      (pump_goes_through now subscriber before between later after hears takes tells).answers)
  takes_enough there most events world is =
      let heard = hears.runs most events world is in
      let taken = takes.walks.runs most (events ++ hearing) heard.next heard.is in
      let heard_as : RunsAs (source_in (world_checked before) world subscriber) now (Hear all_bytes ∷ [])
      hears.answers (world.peers subscriber) heard.next =
      runs_as (world_checked before) most subscriber now there (Hear all_bytes ∷ []) hears.answers world heard.next
      hears.go_on heard.runs in
      record {
        heard = hears.answers;
        taken = takes.walks.answers;
        rest = tells.answers;
        are = pump_answers now subscriber before between later after hears takes tells;
        one = as_many_answers (world_checked before) most hearing hears.answers world heard.next heard.runs;
        as_many = as_many_answers (world_checked between) most taking takes.walks.answers heard.next taken.next
            taken.runs
            ∙ length-map (replicate takes.takes Take) (on_clock now subscriber) ∙ length-replicate takes.takes;
        enough = enough most (events ++ hearing) heard.next heard.is world.transactions heard_as.transactions_are;
      }
    where
      length-replicate : (count : ℕ) → length (replicate count Take) ≡ count
      length-replicate zero = refl
      length-replicate (suc count) = ap suc (length-replicate count)

      as_many_answers : (checked : CheckedOf) (most : ℕ) (asked : List (ℕ × Event)) (answers : List Answer)
          (world last : w.World) → Runs checked most asked answers world last → length answers ≡ length asked
      as_many_answers checked most [] [] world last runs = refl
      as_many_answers checked most (event ∷ asked) (answer ∷ answers) world last runs =
          ap suc (as_many_answers checked most asked answers runs.0 last runs.2)
      as_many_answers checked most [] (answer ∷ answers) world last runs = absurd runs
      as_many_answers checked most (event ∷ asked) [] world last runs = absurd runs

  pub pumps_through : PumpsAll before after now subscriber × ReachesEnd before after subscriber
  pumps_through = (
    record {
      takes = takes.takes;
      all =
          pump_goes_through now subscriber before between later after hears takes tells;
      enough = takes_enough;
    },
    reaches_end_of_log,
  )

-- as the last events are answered
pub pumped_by : (before between later after : World) (now subscriber : ℕ) → now < 2 ^ 64
    → WalksAll before between now subscriber (Hear all_bytes ∷ []) → TakesAll between later now subscriber
    → (result : Result (Unit {0}) Answer) → WalksThrough later after now subscriber last_events result
    → PumpsThrough before after now subscriber result
pumped_by before between later after now subscriber timed hears takes (Ok done) tells =
    pumps_through before between later after now subscriber timed hears takes tells
pumped_by before between later after now subscriber timed hears takes (Err answer) tells =
    pump_ends_late now subscriber before between later after answer hears takes tells
