use Rattle.std.proofs.Common.{All, map, sym, subst, arith, rules}
use Rattle.std.proofs.lemmas.Grind.{common_steps}
use Rattle.replica_identity.specs.ChangeView.{change_view}
use Rattle.shard_checker.specs.CheckedView.{checked_view}
use Rattle.shard_checker.proofs.LimitFacts.{checked_limited}
use Rattle.pgoutput_msgs.specs.Ranges.{IsWithinRange}
use Rattle.pgoutput_msgs.proofs.RoomLemmas.{messages_room}
use Rattle.pgoutput_msgs.proofs.SentLemmas.{messages_sent}
use Rattle.pgoutput_msgs.proofs.SinkLemmas.{spoken_messages}
use Rattle.pgoutput_msgs.proofs.SparedLemmas.{no_owners}
use Rattle.pgoutput_msgs.proofs.telling.messages_of.Goals as goal

pub tell_each-requires-clause-owners : goal.tell_each-requires-clause-owners
tell_each-requires-clause-owners c =
    no_owners (checked_view c.args.checked.now).plan (map change_view c.changes.result.now)

pub returns-clause-exact : goal.returns-clause-exact
returns-clause-exact c =
    let spoken = spoken_messages c.new-spoken.result c.tell_each.new.sink _ c.new-spoken.ensures
    c.in_ok-tell_each.ensures.said in
    first_of (search rules, grind (arith, common_steps))

pub returns-clause-room : goal.returns-clause-room
returns-clause-room c =
    let checked = checked_view c.args.checked.now in
    subst (All IsWithinRange) (sym (returns-clause-exact c))
    (messages_room checked c.args.subscriber c.args.relation_sent.now c.args.commit.now c.changes.ensures.sendable
    (checked_limited c.args.checked.now))

pub returns-clause-sent : goal.returns-clause-sent
returns-clause-sent c =
    let checked = checked_view c.args.checked.now in
    messages_sent checked c.args.subscriber c.args.relation_sent.now c.args.commit.now c.in_ok-messages.messages.items
    c.changes.ensures.sendable (checked_limited c.args.checked.now) (returns-clause-exact c)
    c.in_ok-messages.ensures.texts
