use Rattle.std.proofs.Common.{codes, ◌∙◌}
use Rattle.clap.specs.Words.{found_of}
use Rattle.clap.proofs.WalkLemmas.{one_text-rows}
use Rattle.cli.proofs.requests.check_request.Goals as goal

pub returns : goal.returns
returns c =
    let found = found_of c.args.check.now in
    record {
      with_flag = λ e. c.get_flag.ensures.value (one_text-rows found (codes "show") ∙ e);
      without_flag = λ e. c.get_flag.ensures.other (one_text-rows found (codes "show") ∙ e);
    }
