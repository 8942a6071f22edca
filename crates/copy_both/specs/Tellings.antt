-- What reports the commits of a catalog to a subscriber ("55.5. Logical Streaming Replication Protocol").
use Rattle.shard_checker.specs.CheckedView.{CheckedOf}
use Rattle.tables_log.specs.Commits.{CommitOf}
use Rattle.pgoutput_msgs.specs.Telling as msgs
use Rattle.copy_both.specs.Streams.{Telling}

abbrev pub telling_of : CheckedOf → Telling CommitOf
telling_of checked = record {
  number = λ commit. commit.number;
  messages = msgs.messages_for checked;
  relation_sent_after = msgs.relation_sent_after checked;
}
