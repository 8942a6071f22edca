-- A subscriber hears the commits of a stream, one by one, and keepalives between them.
use Rattle.std.proofs.Common.{◌≡◌, ℕ, suc, ◌+◌, ◌<◌, ◌≤◌, Bool, List, [], ◌∷◌, ◌++◌, length, take, refl, sym, ◌∙◌, ap, subst, arith}
use Rattle.std.specs.Prelude.{Option, Some, max, nat_lt, slice_get}
use Rattle.std.specs.Cmp.{unsigned_Decides}
use Rattle.std.proofs.lemmas.Bool.{ltb-true, ltb-false}
use Rattle.filter_tree.specs.Datum.{Datum}
use Rattle.table_changes.specs.Records.{record_of}
use Rattle.table_changes.specs.Tables.{Tables, no_rows}
use Rattle.table_changes.proofs.ChangeLemmas.{begins_well}
use Rattle.shard_checker.specs.CheckedView.{CheckedOf, setting_in}
use Rattle.tables_log.specs.Commits as log
use Rattle.tables_log.specs.Commits.{CommitOf}
use Rattle.tables_log.specs.Lsn.{lsn_of, end_lsn_of, commits_before}
use Rattle.tables_log.specs.StandsFor.{Transaction, left_by, after}
use Rattle.pgoutput_msgs.specs.Telling.{begin_msg, commit_msg, enclosed, messages_for, oid_of, said_each, mark_each}
use Rattle.pgoutput_msgs.specs.declared.message.Msg.{Msg}
use Rattle.copy_both.specs.Streams.{StreamStateOf, state_after}
use Rattle.copy_both.specs.Tellings.{telling_of}
use Rattle.test_subscriber.specs.Hearing.{begun, committed, hear_in}
use Rattle.test_subscriber.specs.Machine.{Rows, Machine}
use Rattle.test_subscriber.specs.declared.shape.TableShape.{TableShape}
use Rattle.test_subscriber.specs.declared.phase.Phase.TheVariants.{Idle}
use Rattle.stream_laws.specs.ShardRows.{FindsRows, in_shard}
use Rattle.stream_laws.specs.Following.{own_key, HasShard, KeepsRelations, Follows, IsPublished, log_of}
use Rattle.stream_laws.proofs.CommandSteps.{IsRight, finds_alike}
use Rattle.stream_laws.proofs.CommitSteps.{commands_safe}
use Rattle.stream_laws.proofs.EntryLemmas.{entry_at, right_at}
use Rattle.stream_laws.proofs.Inside.{Inside, inside_follows}
use Rattle.stream_laws.proofs.RelationSteps.{Knows}
use Rattle.stream_laws.proofs.Safety.{Safe, safe_heard, safe_both}
use Rattle.filter_tree.proofs.Tests.{by_test}

-- Between transactions: what it shows is its shard after the commits that its position counts, and, since it sees
-- nothing of those between, after all commits that the connection has done.
pub record Between (checked : CheckedOf) (transactions : List Transaction) (state : StreamStateOf) (position : ℕ)
    (machine : Machine) : Type 0 where
  pub idle : machine.phase ≡ Idle
  pub position_is : machine.position ≡ position
  pub work_is : (oid : ℕ) (key : List Datum) → machine.work oid key ≡ machine.rows oid key
  pub done : state.done ≤ length transactions
  pub counted : commits_before position ≤ state.done
  pub sent : commits_before state.sent ≡ state.done
  pub at_done : HasShard checked state.slot machine (after (setting_in checked) (take state.done transactions))
  pub at_position : HasShard checked state.slot machine
      (after (setting_in checked) (take (commits_before position) transactions))
  pub knows : Knows checked state.relation_sent machine
  pub relations : KeepsRelations checked machine

pub between_follows : (checked : CheckedOf) (transactions : List Transaction) (state : StreamStateOf) (position : ℕ)
    (machine : Machine) → Between checked transactions state position machine
    → Follows checked transactions state.slot position machine
between_follows checked transactions state position machine between = record {
  position_is = between.position_is;
  within = omega (arith, between.done, between.counted);
  rows = between.at_position;
  relations = between.relations;
}

-- with the same rows at each OID and key
pub has_rows : (checked : CheckedOf) (subscriber : ℕ) (one other : Rows) (tables : Tables)
    → ((oid : ℕ) (key : List Datum) → one oid key ≡ other oid key)
    → ((number : ℕ) → FindsRows (own_key checked number) (one (oid_of number))
    (in_shard (setting_in checked) subscriber tables number))
    → (number : ℕ) → FindsRows (own_key checked number) (other (oid_of number))
    (in_shard (setting_in checked) subscriber tables number)
has_rows checked subscriber one other tables same h number =
    finds_alike (own_key checked number) (one (oid_of number)) (other (oid_of number))
    (in_shard (setting_in checked) subscriber tables number) (h number) (λ key. sym (same (oid_of number) key))

-- ---- numbers

next_done : (done : ℕ) → suc done ≡ done + 1
next_done done = omega arith

first_number : (done : ℕ) → 1 + done ≡ done + 1
first_number done = omega arith

count_of_end : (done : ℕ) → commits_before (end_lsn_of (done + 1)) ≡ done + 1
count_of_end done = omega arith

-- where a commit ends that the position does not count
ends_there : (position done : ℕ) → commits_before position ≤ done → max position (end_lsn_of (done + 1))
    ≡ end_lsn_of (done + 1)
ends_there position done h = omega (arith, h)

-- a keepalive raises the position if it was below
not_raised : (position sent : ℕ) → sent ≤ position → max position sent ≡ position
not_raised position sent h = omega (arith, h)

raised_to : (position sent : ℕ) → position < sent → max position sent ≡ sent
raised_to position sent h = omega (arith, h)

-- ---- one commit

module _ (checked : CheckedOf) (transactions : List Transaction) (published : IsPublished checked transactions) where
  setting_begins : IsRight (setting_in checked) no_rows
  setting_begins = let begins = begins_well (setting_in checked) in
      record { stands = begins.keyed; fit = begins.fit; apart = begins.apart }

  -- the commit of the next transaction
  abbrev next_commit : StreamStateOf → Transaction → CommitOf
  next_commit state transaction =
      log.commit_of (1 + state.done) transaction.time
      (record_of (setting_in checked) (after (setting_in checked) (take state.done transactions))
      transaction.commands)

  after_commit : (state : StreamStateOf) (position : ℕ) (machine : Machine)
      → Between checked transactions state position machine → (transaction : Transaction)
      → state.done < length transactions
      → after (setting_in checked) (take (suc state.done) transactions)
      ≡ left_by (setting_in checked) (after (setting_in checked) (take state.done transactions)) transaction
      → (next : Machine)
      → Inside checked state.slot (lsn_of (1 + state.done)) machine
      (mark_each checked state.slot state.relation_sent
      (record_of (setting_in checked) (after (setting_in checked) (take state.done transactions))
      transaction.commands))
      (left_by (setting_in checked) (after (setting_in checked) (take state.done transactions)) transaction) next
      → Between checked transactions (state_after (telling_of checked) state (next_commit state transaction))
      (max position (end_lsn_of (1 + state.done))) (committed (end_lsn_of (1 + state.done)) next)
  after_commit state position machine between transaction within left next inside =
      let setting = setting_in checked in
      let number : 1 + state.done ≡ state.done + 1 = first_number state.done in
      let ends : max position (end_lsn_of (1 + state.done)) ≡ end_lsn_of (1 + state.done) =
      subst (λ n. max position (end_lsn_of n) ≡ end_lsn_of n) (sym number)
      (ends_there position state.done between.counted) in
      let counts : commits_before (end_lsn_of (1 + state.done)) ≡ state.done + 1 =
      subst (λ n. commits_before (end_lsn_of n) ≡ state.done + 1) (sym number) (count_of_end state.done) in
      let counted : commits_before (max position (end_lsn_of (1 + state.done))) ≡ state.done + 1 =
      ap commits_before ends
      ∙ counts in
      let shown : HasShard checked state.slot (committed (end_lsn_of (1 + state.done)) next)
      (after setting (take (state.done + 1) transactions)) =
      subst (λ n. HasShard checked state.slot (committed (end_lsn_of (1 + state.done)) next)
      (after setting (take n transactions))) (next_done state.done)
      (subst (λ tables. HasShard checked state.slot (committed (end_lsn_of (1 + state.done)) next) tables) (sym left)
      inside.work) in
      record {
        idle = refl;
        position_is = ap (λ at. max at (end_lsn_of (1 + state.done))) (inside.position ∙ between.position_is);
        work_is = λ oid key. refl;
        done = omega (arith, within);
        counted = omega (arith, counted);
        sent = counts;
        at_done = shown;
        at_position = subst (λ n. HasShard checked state.slot (committed (end_lsn_of (1 + state.done)) next)
            (after setting (take n transactions))) (sym counted) shown;
        knows = record { flags = inside.knows.flags; known = inside.knows.known; kept = inside.knows.kept };
        relations = inside.relations;
      }

  -- a commit of which it sees nothing
  after_nothing : (state : StreamStateOf) (position : ℕ) (machine : Machine)
      → Between checked transactions state position machine → (transaction : Transaction)
      → state.done < length transactions
      → after (setting_in checked) (take (suc state.done) transactions)
      ≡ left_by (setting_in checked) (after (setting_in checked) (take state.done transactions)) transaction
      → Inside checked state.slot (lsn_of (1 + state.done)) machine
      (mark_each checked state.slot state.relation_sent
      (record_of (setting_in checked) (after (setting_in checked) (take state.done transactions))
      transaction.commands))
      (left_by (setting_in checked) (after (setting_in checked) (take state.done transactions)) transaction)
      (begun (lsn_of (1 + state.done)) machine)
      → Between checked transactions (state_after (telling_of checked) state (next_commit state transaction)) position
      machine
  after_nothing state position machine between transaction within left inside =
      let setting = setting_in checked in
      let number : 1 + state.done ≡ state.done + 1 = first_number state.done in
      record {
        idle = between.idle;
        position_is = between.position_is;
        work_is = between.work_is;
        done = omega (arith, within);
        counted = omega (arith, between.counted);
        sent = subst (λ n. commits_before (end_lsn_of n) ≡ state.done + 1) (sym number) (count_of_end state.done);
        at_done = subst (λ n. HasShard checked state.slot machine (after setting (take n transactions)))
            (next_done state.done)
            (subst (λ tables. HasShard checked state.slot machine tables) (sym left)
            (has_rows checked state.slot machine.work machine.rows
            (left_by setting (after setting (take state.done transactions)) transaction) between.work_is
            inside.work));
        at_position = between.at_position;
        knows = record { flags = inside.knows.flags; known = inside.knows.known; kept = inside.knows.kept };
        relations = between.relations;
      }

  begins : (state : StreamStateOf) (position : ℕ) (machine : Machine)
      → Between checked transactions state position machine
      → Inside checked state.slot (lsn_of (1 + state.done)) machine state.relation_sent
      (after (setting_in checked) (take state.done transactions)) (begun (lsn_of (1 + state.done)) machine)
  begins state position machine between = record {
    busy = refl;
    position = refl;
    rows = refl;
    knows = record { flags = between.knows.flags; known = between.knows.known; kept = between.knows.kept };
    relations = between.relations;
    work = has_rows checked state.slot machine.rows machine.work
        (after (setting_in checked) (take state.done transactions)) (λ oid key. sym (between.work_is oid key))
        between.at_done;
  }

  -- Begin, the messages between, and Commit; or nothing
  enclosed_safe : (state : StreamStateOf) (position : ℕ) (machine : Machine)
      → Between checked transactions state position machine → (transaction : Transaction)
      → state.done < length transactions
      → after (setting_in checked) (take (suc state.done) transactions)
      ≡ left_by (setting_in checked) (after (setting_in checked) (take state.done transactions)) transaction
      → (said : List Msg)
      → Safe (Follows checked transactions state.slot) position said (begun (lsn_of (1 + state.done)) machine)
      (λ at next. (at ≡ position) × Inside checked state.slot (lsn_of (1 + state.done)) machine
      (mark_each checked state.slot state.relation_sent
      (record_of (setting_in checked) (after (setting_in checked) (take state.done transactions))
      transaction.commands))
      (left_by (setting_in checked) (after (setting_in checked) (take state.done transactions)) transaction) next)
      → Safe (Follows checked transactions state.slot) position (enclosed (next_commit state transaction) said) machine
      (Between checked transactions (state_after (telling_of checked) state (next_commit state transaction)))
  enclosed_safe state position machine between transaction within left [] h =
      after_nothing state position machine between transaction within left h.1
  enclosed_safe state position machine between transaction within left (first ∷ others) h =
      let commit = next_commit state transaction in
      let lsn : ℕ = lsn_of (1 + state.done) in
      let follows = between_follows checked transactions state position machine between in
      safe_heard (Follows checked transactions state.slot)
      (Between checked transactions (state_after (telling_of checked) state (next_commit state transaction)))
      position (begin_msg (next_commit state transaction))
      ((first ∷ others) ++ commit_msg (next_commit state transaction) ∷ []) machine
      (begun (lsn_of (1 + state.done)) machine) follows
      (ap (λ phase. hear_in phase (begin_msg (next_commit state transaction)) machine) between.idle)
      (safe_both (Follows checked transactions state.slot)
      (Between checked transactions (state_after (telling_of checked) state (next_commit state transaction)))
      (Inside checked state.slot (lsn_of (1 + state.done)) machine
      (mark_each checked state.slot state.relation_sent
      (record_of (setting_in checked) (after (setting_in checked) (take state.done transactions))
      transaction.commands))
      (left_by (setting_in checked) (after (setting_in checked) (take state.done transactions)) transaction))
      position (first ∷ others) (commit_msg (next_commit state transaction) ∷ [])
      (begun (lsn_of (1 + state.done)) machine) h
      (λ next inside.
      safe_heard (Follows checked transactions state.slot)
      (Between checked transactions (state_after (telling_of checked) state (next_commit state transaction)))
      position (commit_msg (next_commit state transaction)) [] next (committed (end_lsn_of (1 + state.done)) next)
      (inside_follows checked transactions state.slot (lsn_of (1 + state.done)) position machine _ _ next follows
      inside)
      (ap (λ phase. hear_in phase (commit_msg (next_commit state transaction)) next) inside.busy
      ∙ rw ((unsigned_Decides (lsn_of (1 + state.done)) (lsn_of (1 + state.done))).1 refl) refl)
      (after_commit state position machine between transaction within left next inside)))

  pub commit_safe : (state : StreamStateOf) (position : ℕ) (machine : Machine)
      → Between checked transactions state position machine → (commit : CommitOf)
      → slice_get (log_of checked transactions) state.done ≡ Some commit
      → Safe (Follows checked transactions state.slot) position
      (messages_for checked state.slot state.relation_sent commit)
      machine
      (Between checked transactions (state_after (telling_of checked) state commit))
  commit_safe state position machine between commit h =
      let entry = entry_at (setting_in checked) no_rows 1 transactions state.done commit published.accepted h in
      let follows = between_follows checked transactions state position machine between in
      let tables : Tables = after (setting_in checked) (take state.done transactions) in
      subst (λ one. Safe (Follows checked transactions state.slot) position
      (messages_for checked state.slot state.relation_sent one) machine
      (Between checked transactions (state_after (telling_of checked) state one))) (sym entry.is)
      (enclosed_safe state position machine between entry.transaction entry.within entry.left
      (said_each checked state.slot state.relation_sent
      (record_of (setting_in checked) (after (setting_in checked) (take state.done transactions))
      entry.transaction.commands))
      (commands_safe checked transactions state.slot (lsn_of (1 + state.done)) position machine follows
      published.covered published.apart
      entry.transaction.commands (after (setting_in checked) (take state.done transactions)) 1
      (right_at checked published.apart no_rows transactions state.done published.accepted setting_begins)
      entry.accepted.no_fault
      state.relation_sent (begun (lsn_of (1 + state.done)) machine) (begins state position machine between)))

  -- ---- a keepalive

  -- the machine after it has what it had, except for the position
  pub keepalive_between : (state : StreamStateOf) (position : ℕ) (machine next : Machine)
      → Between checked transactions state position machine
      → next.phase ≡ machine.phase → next.position ≡ max machine.position state.sent → next.rows ≡ machine.rows
      → next.work ≡ machine.work → next.known ≡ machine.known → next.kept ≡ machine.kept
      → Between checked transactions state (max position state.sent) next
  keepalive_between state position machine next between phase at rows work known kept =
      let setting = setting_in checked in
      record {
        idle = phase ∙ between.idle;
        position_is = at ∙ ap (λ p. max p state.sent) between.position_is;
        work_is = λ oid key. ap (λ (f : Rows). f oid key) work ∙ between.work_is oid key
            ∙ ap (λ (f : Rows). f oid key) (sym rows);
        done = between.done;
        counted = by_test (nat_lt position state.sent)
            (λ above. subst (λ p. commits_before p ≤ state.done)
            (sym (raised_to position state.sent (ltb-true position state.sent above)))
            (omega (arith, between.sent)))
            (λ below. subst (λ p. commits_before p ≤ state.done)
            (sym (not_raised position state.sent (ltb-false position state.sent below))) between.counted);
        sent = between.sent;
        at_done = has_rows checked state.slot machine.rows next.rows (after setting (take state.done transactions))
            (λ oid key. ap (λ (f : Rows). f oid key) (sym rows)) between.at_done;
        at_position = has_rows checked state.slot machine.rows next.rows
            (after setting (take (commits_before (max position state.sent)) transactions))
            (λ oid key. ap (λ (f : Rows). f oid key) (sym rows))
            (by_test (nat_lt position state.sent)
            (λ above. subst (λ p. HasShard checked state.slot machine
            (after setting (take (commits_before p) transactions)))
            (sym (raised_to position state.sent (ltb-true position state.sent above)))
            (subst (λ n. HasShard checked state.slot machine (after setting (take n transactions))) (sym between.sent)
            between.at_done))
            (λ below. subst (λ p. HasShard checked state.slot machine
            (after setting (take (commits_before p) transactions)))
            (sym (not_raised position state.sent (ltb-false position state.sent below))) between.at_position));
        knows = record {
          flags = between.knows.flags;
          known = λ number. ap (λ (f : ℕ → Bool). f (oid_of number)) known ∙ between.knows.known number;
          kept = λ number table there flag. ap (λ (f : ℕ → Option TableShape). f (oid_of number)) kept
              ∙ between.knows.kept number table there flag;
        };
        relations = λ number table shape there h. between.relations number table shape there
            (sym (ap (λ (f : ℕ → Option TableShape). f (oid_of number)) kept) ∙ h);
      }
