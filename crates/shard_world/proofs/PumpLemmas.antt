-- Events on one connection, one after another.
use Rattle.std.proofs.Common.{◌≡◌, ℕ, zero, suc, ◌<◌, inl, inr, List, [], ◌∷◌, ◌++◌, length, map, replicate, refl, sym, ap, subst, ◌∙◌, append_assoc}
use Rattle.std.specs.Prelude.{All, false}
use Rattle.std.proofs.lemmas.List.Elements.{All-nil, All-cons, All-append}
use mathlib.Core.List.{map-append}
use Rattle.shard_checker.specs.CheckedView.{CheckedOf}
use Rattle.tables_log.specs.BookView.{book_log}
use Rattle.shard_world.specs.Pumping.{EndsWalk, KeepsConnection, WalksAll, WalksSome, TakesAll, TakesSome, PumpsSome, all_bytes, on_clock, pump_events}
use Rattle.shard_world.specs.World as w
use Rattle.shard_world.specs.World.{Answer, Event, Idle, PeerEvent, Hear, Take, Keep, Deliver, Report}
use Rattle.shard_world.specs.WorldCalls.{IsWorld, StepsFromEach, Runs, RunsFrom, RunsFromEach, world_book, world_checked}
use Rattle.shard_world.specs.declared.world.World.{World}
use Rattle.shard_world.proofs.RunLemmas.{runs_none, runs_more}

-- ---- runs one after another

runs_append : (checked : CheckedOf) (most : ℕ) (asked more : List (ℕ × Event)) (answers later : List Answer)
    (world between next : w.World) → Runs checked most asked answers world between
    → Runs checked most more later between next → Runs checked most (asked ++ more) (answers ++ later) world next
runs_append checked most [] more [] later world between next runs then =
    subst (λ from. Runs checked most more later from next) runs then
runs_append checked most (first ∷ asked) more (one ∷ answers) later world between next runs then =
    (runs.0, runs.1, runs_append checked most asked more answers later runs.0 between next runs.2 then)
runs_append checked most [] more (one ∷ answers) later world between next runs then = absurd runs
runs_append checked most (first ∷ asked) more [] later world between next runs then = absurd runs

runs_then : (before between after : World) (asked more : List (ℕ × Event)) (answers later : List Answer)
    → RunsFromEach before between asked answers → RunsFromEach between after more later
    → RunsFromEach before after (asked ++ more) (answers ++ later)
runs_then before between after asked more answers later runs then most events world is =
    let first : RunsFrom before between most events world asked answers = runs most events world is in
    let second : RunsFrom between after most (events ++ asked) first.next more later =
    then most (events ++ asked) first.next first.is in
    record {
      next = second.next;
      runs = runs_append (world_checked before) most asked more answers later world first.next second.next first.runs
          (subst (λ checked. Runs checked most more later first.next second.next) first.checked second.runs);
      is = subst (λ all. IsWorld after most all second.next) (append_assoc events asked more) second.is;
      checked = second.checked ∙ first.checked;
    }

-- the last events of a pump
abbrev pub last_events : List PeerEvent
last_events = Keep false ∷ Deliver all_bytes ∷ Report false ∷ Hear all_bytes ∷ []

module _ (now subscriber : ℕ) where
  abbrev on : List PeerEvent → List (ℕ × Event)
  on events = map (on_clock now subscriber) events

  on_append : (events more : List PeerEvent) → on events ++ on more ≡ on (events ++ more)
  on_append events more = sym (map-append (on_clock now subscriber) events more)

  -- ---- walks

  pub walks_none : (world : World) → WalksAll world world now subscriber []
  walks_none world = record { answers = []; go_on = All-nil KeepsConnection; runs = runs_none world }

  one_more : (answers : List Answer) (answer : Answer) → All KeepsConnection answers → KeepsConnection answer
      → All KeepsConnection (answers ++ answer ∷ [])
  one_more answers answer all one =
      All-append KeepsConnection answers (answer ∷ []) all
      (All-cons KeepsConnection answer [] one (All-nil KeepsConnection))

  pub walks_more : (before between after : World) (events : List PeerEvent) (event : PeerEvent) (answer : Answer)
      → WalksAll before between now subscriber events
      → KeepsConnection answer → StepsFromEach between after now (w.On subscriber event) answer
      → WalksAll before after now subscriber (events ++ event ∷ [])
  walks_more before between after events event answer walks goes steps = record {
    answers = walks.answers ++ answer ∷ [];
    go_on = one_more walks.answers answer walks.go_on goes;
    runs =
        subst (λ asked. RunsFromEach before after asked (walks.answers ++ answer ∷ [])) (on_append events (event ∷ []))
        (runs_more before between after (on events) walks.answers now (w.On subscriber event) answer walks.runs steps);
  }

  pub walks_end : (before between after : World) (events others : List PeerEvent) (event : PeerEvent)
      (answer : Answer) → WalksAll before between now subscriber events
      → EndsWalk answer → StepsFromEach between after now (w.On subscriber event) answer
      → WalksSome before after now subscriber (events ++ event ∷ others) answer
  walks_end before between after events others event answer walks ends steps = record {
    done = events ++ event ∷ [];
    others = others;
    are = append_assoc events (event ∷ []) others;
    answers = walks.answers;
    go_on = walks.go_on;
    ends = ends;
    runs =
        subst (λ asked. RunsFromEach before after asked (walks.answers ++ answer ∷ [])) (on_append events (event ∷ []))
        (runs_more before between after (on events) walks.answers now (w.On subscriber event) answer walks.runs steps);
  }

  walks_then : (before between after : World) (events more : List PeerEvent)
      → WalksAll before between now subscriber events → WalksAll between after now subscriber more
      → WalksAll before after now subscriber (events ++ more)
  walks_then before between after events more walks then = record {
    answers = walks.answers ++ then.answers;
    go_on = All-append KeepsConnection walks.answers then.answers walks.go_on then.go_on;
    runs = subst (λ asked. RunsFromEach before after asked (walks.answers ++ then.answers)) (on_append events more)
        (runs_then before between after (on events) (on more) walks.answers then.answers walks.runs then.runs);
  }

  walks_stop : (before between after : World) (events more : List PeerEvent) (answer : Answer)
      → WalksAll before between now subscriber events → WalksSome between after now subscriber more answer
      → WalksSome before after now subscriber (events ++ more) answer
  walks_stop before between after events more answer walks then = record {
    done = events ++ then.done;
    others = then.others;
    are = append_assoc events then.done then.others ∙ ap (λ rest. events ++ rest) then.are;
    answers = walks.answers ++ then.answers;
    go_on = All-append KeepsConnection walks.answers then.answers walks.go_on then.go_on;
    ends = then.ends;
    runs = subst (λ asked. RunsFromEach before after asked ((walks.answers ++ then.answers) ++ answer ∷ []))
        (on_append events then.done)
        (subst (RunsFromEach before after (on events ++ on then.done))
        (sym (append_assoc walks.answers then.answers (answer ∷ [])))
        (runs_then before between after (on events) (on then.done) walks.answers (then.answers ++ answer ∷ [])
        walks.runs then.runs));
  }

  -- and others would follow
  stops_before : (before after : World) (events more : List PeerEvent) (answer : Answer)
      → WalksSome before after now subscriber events answer
      → WalksSome before after now subscriber (events ++ more) answer
  stops_before before after events more answer walks = record {
    done = walks.done;
    others = walks.others ++ more;
    are = sym (append_assoc walks.done walks.others more) ∙ ap (λ all. all ++ more) walks.are;
    answers = walks.answers;
    go_on = walks.go_on;
    ends = walks.ends;
    runs = walks.runs;
  }

  -- ---- takes

  pub takes_none : (world : World) → WalksAll world world now subscriber (replicate 0 Take)
  takes_none world = walks_none world

  one_more_take : (takes : ℕ) → replicate takes Take ++ Take ∷ [] ≡ replicate (suc takes) Take
  one_more_take zero = refl
  one_more_take (suc takes) = ap (λ rest. Take ∷ rest) (one_more_take takes)

  pub takes_more : (before between after : World) (takes : ℕ) (answer : Answer)
      → WalksAll before between now subscriber (replicate takes Take)
      → KeepsConnection answer → StepsFromEach between after now (w.On subscriber Take) answer
      → WalksAll before after now subscriber (replicate (suc takes) Take)
  takes_more before between after takes answer walks goes steps =
      subst (WalksAll before after now subscriber) (one_more_take takes)
      (walks_more before between after (replicate takes Take) Take answer walks goes steps)

  pub takes_idle : (before between after : World) (takes : ℕ)
      → WalksAll before between now subscriber (replicate takes Take)
      → StepsFromEach between after now (w.On subscriber Take) Idle → TakesAll before after now subscriber
  takes_idle before between after takes walks steps = record {
    takes = suc takes;
    walks = record {
      answers = walks.answers ++ Idle ∷ [];
      go_on = one_more walks.answers Idle walks.go_on tt;
      runs = subst (λ events. RunsFromEach before after (on events) (walks.answers ++ Idle ∷ [])) (one_more_take takes)
          (subst (λ asked. RunsFromEach before after asked (walks.answers ++ Idle ∷ []))
          (on_append (replicate takes Take) (Take ∷ []))
          (runs_more before between after (on (replicate takes Take)) walks.answers now (w.On subscriber Take) Idle
          walks.runs steps));
    };
    enough = inl (record { earlier = walks.answers; are = refl });
  }

  pub takes_enough : (before after : World) (takes : ℕ) → length (book_log (world_book before)) < takes
      → WalksAll before after now subscriber (replicate takes Take)
      → TakesAll before after now subscriber
  takes_enough before after takes many walks = record { takes = takes; walks = walks; enough = inr many }

  pub takes_end : (before between after : World) (takes : ℕ) (answer : Answer)
      → WalksAll before between now subscriber (replicate takes Take)
      → EndsWalk answer → StepsFromEach between after now (w.On subscriber Take) answer
      → TakesSome before after now subscriber answer
  takes_end before between after takes answer walks ends steps = record {
    takes = suc takes;
    some = subst (λ events. WalksSome before after now subscriber events answer) (one_more_take takes)
        (walks_end before between after (replicate takes Take) [] Take answer walks ends steps);
  }

  -- ---- a pump

  pub pump_ends_hearing : (before after : World) (answer : Answer)
      → WalksSome before after now subscriber (Hear all_bytes ∷ []) answer
      → PumpsSome before after now subscriber answer
  pump_ends_hearing before after answer walks =
      record { takes = 0; some = stops_before before after (Hear all_bytes ∷ []) last_events answer walks }

  pub pump_ends_taking : (before between after : World) (answer : Answer)
      → WalksAll before between now subscriber (Hear all_bytes ∷ []) → TakesSome between after now subscriber answer
      → PumpsSome before after now subscriber answer
  pump_ends_taking before between after answer hears takes = record {
    takes = takes.takes;
    some = subst (λ events. WalksSome before after now subscriber events answer)
        (append_assoc (Hear all_bytes ∷ []) (replicate takes.takes Take) last_events)
        (stops_before before after (Hear all_bytes ∷ replicate takes.takes Take) last_events answer
        (walks_stop before between after (Hear all_bytes ∷ []) (replicate takes.takes Take) answer hears takes.some));
  }

  pub pump_ends_late : (before between later after : World) (answer : Answer)
      → WalksAll before between now subscriber (Hear all_bytes ∷ []) → TakesAll between later now subscriber
      → WalksSome later after now subscriber last_events answer → PumpsSome before after now subscriber answer
  pump_ends_late before between later after answer hears takes walks = record {
    takes = takes.takes;
    some = walks_stop before later after (Hear all_bytes ∷ replicate takes.takes Take) last_events answer
        (walks_then before between later (Hear all_bytes ∷ []) (replicate takes.takes Take) hears takes.walks) walks;
  }

  pub pump_goes_through : (before between later after : World)
      → WalksAll before between now subscriber (Hear all_bytes ∷ []) → (takes : TakesAll between later now subscriber)
      → WalksAll later after now subscriber last_events → WalksAll before after now subscriber (pump_events takes.takes)
  unfolding walks_then
  pump_goes_through before between later after hears takes walks =
      walks_then before later after (Hear all_bytes ∷ replicate takes.takes Take) last_events
      (walks_then before between later (Hear all_bytes ∷ []) (replicate takes.takes Take) hears takes.walks) walks

  -- as they are answered one after another
  pub pump_answers : (before between later after : World)
      (hears : WalksAll before between now subscriber (Hear all_bytes ∷ []))
      (takes : TakesAll between later now subscriber)
      (walks : WalksAll later after now subscriber last_events)
      → (pump_goes_through before between later after hears takes walks).answers ≡ hears.answers
      ++ (takes.walks.answers ++ walks.answers)
  unfolding walks_then pump_goes_through
  pump_answers before between later after hears takes walks =
      append_assoc hears.answers takes.walks.answers walks.answers
