use Rattle.cli.specs.Talks.{Made, Refused}
use Rattle.cli.proofs.publish.session.commit.Goals as goal

pub returns-in-Ok : goal.returns-in-Ok
returns-in-Ok g c =
    record {
      is = Made c.in-Ok.number c.commit_time.result c.in-Ok.ensures.made c.in-Ok.ensures.ok;
      begins = c.commit.ensures.begins;
    }

pub returns-in-Err : goal.returns-in-Err
returns-in-Err g c =
    record {
      is = Refused c.in-Err.error c.in-Err.ensures.refused c.in-Err.ensures.fault c.in-Err.ensures.err;
      begins = c.commit.ensures.begins;
    }
