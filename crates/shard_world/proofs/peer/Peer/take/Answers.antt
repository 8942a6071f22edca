use Rattle.std.proofs.Common.{refl, sym, subst}
use Rattle.std.specs.Prelude.{Ok, Some}
use Rattle.copy_both.specs.declared.taken.Taken.{Taken}
use Rattle.copy_both.specs.declared.taken.Taken.TheVariants.{NotStarted, Idle, Skipped, Sent}
use Rattle.shard_world.specs.Connections.{answer_of}
use Rattle.shard_world.specs.PeerCalls.{HasSmallCount, Tries}
use Rattle.shard_world.specs.World.{Take}
use Rattle.shard_world.proofs.CallLemmas.{takes_one}
use Rattle.shard_world.proofs.LinkedLemmas.{keeps_link}
use Rattle.shard_world.proofs.peer.Peer.take.Goals as goal

-- no answer here counts bytes
is_counted : (found : Taken) → HasSmallCount (answer_of found)
is_counted NotStarted = tt
is_counted Idle = tt
is_counted (Skipped number) = tt
is_counted (Sent number) = tt

pub returns : goal.returns
returns c checked =
    subst (λ answer. Tries checked c.args.now Take c.args.book.now c.args.book.now c.args.self.now (Ok answer)
    (record { link = Some c.take_routed.new.self; subscriber = c.args.self.now.subscriber })) (sym c.answer_of.ensures)
    (record {
      made = takes_one checked c.args.now c.args.book.now c.args.self.now c.in-Some.link c.take_routed.new.self
          c.in_ok-taken.taken c.in-Some.is (sym c.in_ok-taken.ensures.answer) c.in_ok-taken.ensures.ok;
      counted = is_counted c.in_ok-taken.taken;
      stops = tt;
      book = refl;
      linked =
          keeps_link checked c.args.self.now c.in-Some.link c.take_routed.new.self c.args.self.now.subscriber
          c.in-Some.is c.in_ok-taken.ensures.ok.voice.checked;
    })
