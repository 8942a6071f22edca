-- What each event does to a program's world.
use Rattle.std.proofs.Common.{◌≡◌, ℕ, ◌<◌, ◌≤◌, ◌^◌, true, List, [], ◌∷◌, ◌++◌, length, refl, sym, subst, ◌∙◌, arith, inl, inr}
use Rattle.std.specs.Prelude.{Some, nat_lt, slice_get, slice_set}
use Rattle.std.proofs.lemmas.Bool.{lt-ltb, le-ltb}
use Rattle.std.proofs.lemmas.Option.{slice_get_within}
use Rattle.table_changes.specs.Commands.{Command}
use Rattle.tables_log.specs.BookView.{book_slots}
use Rattle.tables_log.specs.Committing as c
use Rattle.tables_log.specs.Committing.{HasRoomFor, IsKept, RefusedBy}
use Rattle.tables_log.specs.declared.error.CommitError.{CommitError}
use Rattle.tables_log.specs.declared.error.CommitError.TheVariants as e
use Rattle.tables_log.proofs.StandLemmas.{slots_keep_it}
use Rattle.shard_world.specs.Joined.{PeerOf, PeerIs}
use Rattle.shard_world.specs.PeerCalls.{MakesFrom, BreaksFrom, MovesFromEach}
use Rattle.shard_world.specs.PeerSteps.{Case, HasLog, IsCase}
use Rattle.shard_world.specs.World as w
use Rattle.shard_world.specs.World.{Answer, Event, PeerEvent, Commit, On, Committed, Refused, NoSubscriber, Steps, with_peer, with_transaction, source_in}
use Rattle.shard_world.specs.WorldCalls.{PeerAt, IsWorldBy, IsWorld, StepsFromEach, world_book, world_checked, world_peers}
use Rattle.shard_world.specs.declared.world.World.{World}
use Rattle.shard_world.proofs.WorldStepLemmas.{commit_after, commit_steps, refused_after, refusal_steps, world_after, log_there, one_timed}
use Rattle.shard_world.proofs.WorldCallLemmas.{leads_one_more}

module _ (before after : World) (same : world_checked after ≡ world_checked before) where
  -- with these subscribers
  as_world : (most : ℕ) (events : List (ℕ × Event)) (world : w.World) (peers : List PeerOf) → world_peers after ≡ peers
      → IsWorldBy (world_checked before) most (world_book after) peers events world → IsWorld after most events world
  as_world most events world peers e is =
      subst (λ its. IsWorldBy its most (world_book after) (world_peers after) events world) (sym same)
      (subst (λ its. IsWorldBy (world_checked before) most (world_book after) its events world) (sym e) is)

  -- ---- commits

  pub commits_one : (commands : List Command) (time number now : ℕ) → now < 2 ^ 64 → time < 2 ^ 64
      → world_peers after ≡ world_peers before
      → c.Commits (world_book before) (world_book after) commands time number
      → StepsFromEach before after now (Commit commands time) (Committed number)
  commits_one commands time number now timed time_fits peers commits most events world is =
      let steps = commit_steps (world_checked before) most (world_book before) (world_peers before) events world is
      (world_book after) commands time number now commits in
      record {
        next = with_transaction world commands time;
        steps = steps;
        is = as_world most (events ++ (now, Commit commands time) ∷ []) (with_transaction world commands time)
            (world_peers before) peers
            (commit_after (world_checked before) most (world_book before) (world_peers before) events world is
            (world_book after) commands time number now timed time_fits commits steps);
        checked = same;
      }

  pub refuses_one : (commands : List Command) (time now : ℕ) (error : CommitError) → now < 2 ^ 64 → time < 2 ^ 64
      → world_peers after ≡ world_peers before
      → RefusedBy (world_book before) commands error
      → (error ≡ e.OutOfMemory → HasRoomFor (world_book before) commands)
      → IsKept (world_book before) (world_book after)
      → StepsFromEach before after now (Commit commands time) (Refused error)
  refuses_one commands time now error timed time_fits peers refused memory kept most events world is =
      let steps = refusal_steps (world_checked before) most (world_book before) (world_peers before) events world is
      commands time now error refused memory in
      record {
        next = world;
        steps = steps;
        is = as_world most (events ++ (now, Commit commands time) ∷ []) world (world_peers before) peers
            (refused_after (world_checked before) most (world_book before) (world_peers before) events world is
            (world_book after) commands time now error timed time_fits kept steps);
        checked = same;
      }

  -- ---- on a connection

  pub moves_one : (number now : ℕ) (event : PeerEvent) (old new : PeerOf) (answer : Answer) → now < 2 ^ 64
      → slice_get (world_peers before) number ≡ Some old
      → world_peers after ≡ slice_set (world_peers before) number new
      → MovesFromEach (world_checked before) now event (world_book before) (world_book after) old new answer
      → StepsFromEach before after now (On number event) answer
  moves_one number now event old new answer timed at peers moves most events world is =
      elim (moves case (record { is = is_case; checked_is = refl; now_is = refl; log = log; peer = peer_there })) [
        | inl made ↦ record {
          next = with_peer world number (w.step_in (world_checked before) world number now event).1;
          steps = made_steps made;
          is = as_world most (events ++ (now, On number event) ∷ [])
              (with_peer world number (w.step_in (world_checked before) world number now event).1)
              (slice_set (world_peers before) number new) peers
              (world_after (world_checked before) most (world_book before) (world_peers before) events world is
              (world_book after) number now there timed new made.own event answer
              (w.step_in (world_checked before) world number now event).1 made.steps.peer_is (made_steps made));
          checked = same;
        }
        | inr broke ↦ record {
          next = with_peer world number
              (w.broken_in (world_checked before) world number now event broke.on.breaks.some);
          steps = broke_steps broke;
          is = as_world most (events ++ (now, On number event) ∷ [])
              (with_peer world number (w.broken_in (world_checked before) world number now event broke.on.breaks.some))
              (slice_set (world_peers before) number new) peers
              (world_after (world_checked before) most (world_book before) (world_peers before) events world is
              (world_book after) number now there timed new broke.on.own event answer
              (w.broken_in (world_checked before) world number now event broke.on.breaks.some) broke.on.breaks.peer_is
              (broke_steps broke));
          checked = same;
        }
      ]
    where
      case : Case
      case = record {
        checked = world_checked before;
        most = most;
        events = events;
        world = world;
        number =
            number;
        now = now;
      }

      log : HasLog case (world_book before)
      log = log_there (world_checked before) most (world_book before) (world_peers before) events world is number now

      there : number < length (world_checked before).plan
      there = within (slice_get_within (world_peers before) number old at) is.count
        where
          within : number < length (world_peers before)
              → length (world_peers before) ≡ length (world_checked before).plan
              → number < length (world_checked before).plan
          within h e = omega (arith, h, e)

      peer_there : PeerIs (source_in (world_checked before) world number) (book_slots (world_book before)) old
          (world.peers number)
      peer_there = subst (PeerAt (source_in (world_checked before) world number) (book_slots (world_book before))
          (world.peers number)) at (is.each number there)

      is_case : IsCase case
      is_case = record { publisher = is.publisher; times = is.times; leads = is.leads; there = there; timed = timed }

      known : nat_lt number (length (world_checked before).plan) ≡ true
      known = lt-ltb number (length (world_checked before).plan) there

      made_steps : MakesFrom case event answer (world_book before) (world_book after) new
          → Steps (world_checked before) most world now (On number event) answer
          (with_peer world number (w.step_in (world_checked before) world number now event).1)
      made_steps made = subst (λ its. w.StepsPeer its (world_checked before) world number now event answer
          (with_peer world number (w.step_in (world_checked before) world number now event).1)) (sym known)
          (inl (record { answer_is = made.steps.answer_is; next_is = refl }))

      broke_steps : (broke : BreaksFrom case event answer (world_book before) (world_book after) new)
          → Steps (world_checked before) most world now (On number event) answer
          (with_peer world number (w.broken_in (world_checked before) world number now event broke.on.breaks.some))
      broke_steps broke = subst (λ its. w.StepsPeer its (world_checked before) world number now event answer
          (with_peer world number (w.broken_in (world_checked before) world number now event broke.on.breaks.some)))
          (sym known)
          (inr (record {
            needed = broke.needed;
            some = broke.on.breaks.some;
            answer_is = broke.answer_is;
            next_is =
                refl;
          }))

  -- ---- no such subscriber

  pub none_there : (number now : ℕ) (event : PeerEvent) → now < 2 ^ 64 → length (world_peers before) ≤ number
      → world_peers after ≡ world_peers before → IsKept (world_book before) (world_book after)
      → StepsFromEach before after now (On number event) NoSubscriber
  none_there number now event timed past peers kept most events world is =
      let steps = nobody_steps most events world is in
      record {
        next = world;
        steps = steps;
        is = as_world most (events ++ (now, On number event) ∷ []) world (world_peers before) peers
            (nobody_after most events world is steps);
        checked = same;
      }
    where
      nobody_steps : (most : ℕ) (events : List (ℕ × Event)) (world : w.World) → IsWorld before most events world
          → Steps (world_checked before) most world now (On number event) NoSubscriber world
      nobody_steps most events world is =
          subst (λ its. w.StepsPeer its (world_checked before) world number now event NoSubscriber world)
          (sym (le-ltb number (length (world_checked before).plan) (omega (arith, past, is.count)))) (refl, refl)

      nobody_after : (most : ℕ) (events : List (ℕ × Event)) (world : w.World) → IsWorld before most events world
          → Steps (world_checked before) most world now (On number event) NoSubscriber world
          → IsWorldBy (world_checked before) most (world_book after) (world_peers before)
          (events ++ (now, On number event) ∷ []) world
      nobody_after most events world is steps = record {
        publisher = is.publisher;
        times = one_timed (world_checked before) most (world_book before) (world_peers before) events world is now
            (On number event) (timed, tt);
        leads = leads_one_more (world_checked before) most events w.first_world world now (On number event)
            NoSubscriber world is.leads steps;
        checked_is = kept.checked ∙ is.checked_is;
        limit_is = kept.limit ∙ is.limit_is;
        stands = slots_keep_it (world_book before) (world_book after) (book_slots (world_book before)) kept
            world.transactions is.stands;
        count = is.count;
        each = λ other within. subst
            (λ slots. PeerAt (source_in (world_checked before) world other) slots (world.peers other)
            (slice_get (world_peers before) other)) (sym kept.slots_are) (is.each other within);
      }
