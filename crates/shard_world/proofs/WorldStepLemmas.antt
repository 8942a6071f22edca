-- What a program's world matches after a commit, and after a step on a connection.
use Rattle.std.proofs.Common.{◌≡◌, ◌≢◌, ℕ, zero, suc, ◌+◌, ◌<◌, ◌^◌, true, false, List, [], ◌∷◌, ◌++◌, length, refl, sym, ap, subst, ◌∙◌, arith, inl, inr}
use Rattle.std.specs.Prelude.{Option, Some, None, All, ◌==◌, slice_get, slice_set, if◌then◌else◌}
use Rattle.std.specs.Cmp.{unsigned_Decides}
use Rattle.std.proofs.lemmas.List.Elements.{All-nil, All-cons, All-append}
use Rattle.shard_checker.specs.CheckedView.{CheckedOf, setting_in}
use Rattle.table_changes.specs.Commands.{Command, first_fault}
use Rattle.table_changes.specs.CommandLists.{AreAlike}
use Rattle.table_changes.specs.Tables.{SameTables}
use Rattle.table_changes.proofs.CommandListLemmas.{are_alike}
use Rattle.tables_log.specs.BookView.{book_log, book_rows, book_setting, book_slots}
use Rattle.tables_log.specs.Committing as c
use Rattle.tables_log.specs.Committing.{HasRoomFor, IsKept, RefusedBy}
use Rattle.tables_log.specs.StandsFor.{Transaction, after}
use Rattle.tables_log.specs.declared.book.Book.{Book}
use Rattle.tables_log.specs.declared.error.CommitError.{CommitError}
use Rattle.tables_log.specs.declared.error.CommitError.TheVariants as e
use Rattle.tables_log.specs.declared.slots.Slot.{Slot}
use Rattle.tables_log.proofs.PlaceLemmas.{get_set_here, get_set_beside}
use Rattle.tables_log.proofs.StandLemmas.{slots_keep_it, commits_add_one, each_is_logged}
use Rattle.stream_laws.specs.Following.{log_of}
use Rattle.shard_world.specs.Joined.{PeerOf, PeerIs}
use Rattle.shard_world.specs.PeerSteps.{ChangesOwn, HasLog}
use Rattle.shard_world.specs.World as w
use Rattle.shard_world.specs.World.{Answer, Event, PeerEvent, Commit, On, Committed, Refused, RefusedFor, Steps, first_world, with_peer, with_transaction, StreamSource, source_in}
use Rattle.shard_world.specs.WorldCalls.{PeerAt, IsWorldBy}
use Rattle.shard_world.specs.WorldLaws.{IsTimedEvent}
use Rattle.shard_world.proofs.WorldCallLemmas.{leads_one_more, is_elsewhere, is_longer}
use Rattle.shard_world.proofs.WorldLemmas.{all_timed, can_be_said, good_at}
use Rattle.shard_world.proofs.WorldPeers.{IsGood}
use Rattle.shard_world.proofs.WorldItems.{with_more}
use Rattle.filter_tree.proofs.Tests.{by_test}

-- ---- subscribers

at_elsewhere : (source : StreamSource) (before after : List Slot) (peer : w.Peer)
    → slice_get after source.number ≡ slice_get before source.number → (code : Option PeerOf)
    → PeerAt source before peer code → PeerAt source after peer code
at_elsewhere source before after peer same None at = at
at_elsewhere source before after peer same (Some code) at = is_elsewhere source before after same code peer at

at_longer : (source : StreamSource) (more : List Transaction) (slots : List Slot) (peer : w.Peer) → IsGood source peer
    → (code : Option PeerOf)
    → PeerAt source slots peer code → PeerAt (with_more source more) slots peer code
at_longer source more slots peer good None at = at
at_longer source more slots peer good (Some code) at = is_longer source more slots code peer good at

set_length : {X : Type 0} (xs : List X) (i : ℕ) (x : X) → length (slice_set xs i x) ≡ length xs
set_length [] i x = refl
set_length (first ∷ xs) zero x = refl
set_length (first ∷ xs) (suc i) x = ap suc (set_length xs i x)

module _ (checked : CheckedOf) (most : ℕ) (book : Book) (peers : List PeerOf) (events : List (ℕ × Event))
    (world : w.World) (is : IsWorldBy checked most book peers events world) where
  good_peer : (number : ℕ) → IsGood (source_in checked world number) (world.peers number)
  good_peer number = (good_at checked is.publisher.covered is.publisher.apart most events (all_timed events is.times)
      world is.leads
      (can_be_said checked most is.publisher events is.times world is.leads)).peers number

  pub log_there : (number now : ℕ)
      → HasLog (record { checked = checked; most = most; events = events; world = world; number = number; now = now })
      book
  log_there number now = record {
    checked_is = is.checked_is;
    log_is = is.stands.log ∙ ap (λ its. log_of its world.transactions) is.checked_is;
  }

  pub one_timed : (now : ℕ) (event : Event) → IsTimedEvent (now, event) → All IsTimedEvent (events ++ (now, event) ∷ [])
  one_timed now event time =
      All-append IsTimedEvent events ((now, event) ∷ []) is.times
      (All-cons IsTimedEvent (now, event) [] time (All-nil IsTimedEvent))

  -- ---- a step on a connection

  module _ (after : Book) (number now : ℕ) (there : number < length checked.plan) (timed : now < 2 ^ 64)
      (new : PeerOf) (own : ChangesOwn number book after) where
    each_after : (peer : w.Peer) → PeerIs (source_in checked world number) (book_slots after) new peer → (other : ℕ)
        → other < length checked.plan
        → PeerAt (source_in checked world other) (book_slots after) ((with_peer world number peer).peers other)
        (slice_get (slice_set peers number new) other)
    each_after peer new_is other within = by_test (other == number)
        (λ same. at_number (sym ((unsigned_Decides other number).0 same)) same)
        (λ differ. at_other (λ e. false_is differ e) differ)
      where
        false_is : other == number ≡ false → other ≡ number → ⊥
        false_is differ e =
            let same : other == number ≡ true = (unsigned_Decides other number).1 e in
            cc

        at_number : number ≡ other → other == number ≡ true
            → PeerAt (source_in checked world other) (book_slots after) ((with_peer world number peer).peers other)
            (slice_get (slice_set peers number new) other)
        at_number e same =
            subst (λ its. PeerAt (source_in checked world other) (book_slots after)
            (if its then peer else world.peers other) (slice_get (slice_set peers number new) other)) (sym same)
            (subst (λ n. PeerAt (source_in checked world n) (book_slots after) peer
            (slice_get (slice_set peers number new) n)) e
            (subst (PeerAt (source_in checked world number) (book_slots after) peer)
            (sym (get_set_here peers number new (omega (arith, there, is.count)))) new_is))

        at_other : other ≢ number → other == number ≡ false
            → PeerAt (source_in checked world other) (book_slots after) ((with_peer world number peer).peers other)
            (slice_get (slice_set peers number new) other)
        at_other apart differ =
            subst (λ its. PeerAt (source_in checked world other) (book_slots after)
            (if its then peer else world.peers other) (slice_get (slice_set peers number new) other)) (sym differ)
            (subst (PeerAt (source_in checked world other) (book_slots after) (world.peers other))
            (sym (get_set_beside peers number other new apart))
            (at_elsewhere (source_in checked world other) (book_slots book) (book_slots after) (world.peers other)
            (own.others other apart) (slice_get peers other) (is.each other within)))

    pub world_after : (event : PeerEvent) (answer : Answer) (peer : w.Peer)
        → PeerIs (source_in checked world number) (book_slots after) new peer
        → Steps checked most world now (On number event) answer (with_peer world number peer)
        → IsWorldBy checked most after (slice_set peers number new) (events ++ (now, On number event) ∷ [])
        (with_peer world number peer)
    world_after event answer peer new_is steps = record {
      publisher = is.publisher;
      times = one_timed now (On number event) (timed, tt);
      leads = leads_one_more checked most events first_world world now (On number event) answer
          (with_peer world number peer) is.leads steps;
      checked_is = own.book.checked ∙ is.checked_is;
      limit_is = own.book.limit ∙ is.limit_is;
      stands = slots_keep_it book after (book_slots after) own.book world.transactions is.stands;
      count = set_length peers number new ∙ is.count;
      each = each_after peer new_is;
    }

  -- ---- a commit

  pub commit_after : (after_it : Book) (commands : List Command) (time number now : ℕ) → now < 2 ^ 64 → time < 2 ^ 64
      → c.Commits book after_it commands time number
      → Steps checked most world now (Commit commands time) (Committed number) (with_transaction world commands time)
      → IsWorldBy checked most after_it peers (events ++ (now, Commit commands time) ∷ [])
      (with_transaction world commands time)
  commit_after after_it commands time number now timed time_fits commits steps = record {
    publisher = is.publisher;
    times = one_timed now (Commit commands time) (timed, time_fits);
    leads = leads_one_more checked most events first_world world now (Commit commands time) (Committed number)
        (with_transaction world commands time) is.leads steps;
    checked_is = commits.checked ∙ is.checked_is;
    limit_is = commits.limit ∙ is.limit_is;
    stands = commits_add_one book after_it commands time number commits world.transactions is.stands;
    count = is.count;
    each = λ other within. subst
        (λ slots. PeerAt (source_in checked (with_transaction world commands time) other) slots (world.peers other)
        (slice_get peers other)) (sym commits.slots)
        (at_longer (source_in checked world other) (record { commands = commands; time = time } ∷ [])
        (book_slots book) (world.peers other) (good_peer other) (slice_get peers other) (is.each other within));
  }

  alike : AreAlike (setting_in checked) (book_rows book) (after (setting_in checked) world.transactions)
  alike = are_alike (setting_in checked) (book_rows book) (after (setting_in checked) world.transactions)
      (subst (λ its. SameTables (book_rows book) (after (setting_in its) world.transactions)) is.checked_is
      is.stands.rows)

  first_is : (commands : List Command)
      → first_fault (setting_in checked) (after (setting_in checked) world.transactions) 1 commands
      ≡ first_fault (book_setting book) (book_rows book) 1 commands
  first_is commands = sym (alike.first 1 commands)
      ∙ ap (λ its. first_fault (setting_in its) (book_rows book) 1 commands) (sym is.checked_is)

  logged : length (book_log book) ≡ length world.transactions
  logged = each_is_logged book world.transactions is.stands

  pub commit_steps : (after_it : Book) (commands : List Command) (time number now : ℕ)
      → c.Commits book after_it commands time number
      → Steps checked most world now (Commit commands time) (Committed number) (with_transaction world commands time)
  commit_steps after_it commands time number now commits = inl (record {
    accepted = record { sized = commits.transaction; no_fault = first_is commands ∙ commits.no_fault };
    room = omega (arith, commits.room, logged, is.limit_is);
    answer_is = ap Committed (commits.number_is ∙ ap (λ n. n + 1) logged);
    next_is = refl;
  })

  -- ---- a refusal

  refused_for : (commands : List Command) (error : CommitError) → RefusedBy book commands error
      → (error ≡ e.OutOfMemory → HasRoomFor book commands)
      → RefusedFor checked most world commands error
  refused_for commands e.EmptyTransaction refused memory = refused
  refused_for commands e.TooManyCommands refused memory = refused
  refused_for commands e.LogFull refused memory = (refused.transaction, sym logged ∙ refused.full ∙ is.limit_is)
  refused_for commands (e.At number fault) refused memory =
      (refused.transaction, omega (arith, refused.room, logged, is.limit_is), first_is commands ∙ refused.first)
  refused_for commands e.OutOfMemory refused memory = let has = memory refl in
      (has.transaction, omega (arith, has.room, logged, is.limit_is))

  pub refused_after : (after_it : Book) (commands : List Command) (time now : ℕ) (error : CommitError) → now < 2 ^ 64
      → time < 2 ^ 64 → IsKept book after_it
      → Steps checked most world now (Commit commands time) (Refused error) world
      → IsWorldBy checked most after_it peers (events ++ (now, Commit commands time) ∷ []) world
  refused_after after_it commands time now error timed time_fits kept steps = record {
    publisher = is.publisher;
    times = one_timed now (Commit commands time) (timed, time_fits);
    leads = leads_one_more checked most events first_world world now (Commit commands time) (Refused error) world
        is.leads steps;
    checked_is = kept.checked ∙ is.checked_is;
    limit_is = kept.limit ∙ is.limit_is;
    stands = slots_keep_it book after_it (book_slots book) kept world.transactions is.stands;
    count = is.count;
    each = λ other within. subst
        (λ slots. PeerAt (source_in checked world other) slots (world.peers other) (slice_get peers other))
        (sym kept.slots_are) (is.each other within);
  }

  pub refusal_steps : (commands : List Command) (time now : ℕ) (error : CommitError) → RefusedBy book commands error
      → (error ≡ e.OutOfMemory → HasRoomFor book commands)
      → Steps checked most world now (Commit commands time) (Refused error) world
  refusal_steps commands time now error refused memory =
      inr (record {
        error = error;
        refused = refused_for commands error refused memory;
        answer_is = refl;
        next_is =
            refl;
      })
