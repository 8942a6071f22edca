use Rattle.std.proofs.Common.{◌≡◌, ◌∙◌, ap, sym, Bool, if◌then◌else◌, codes}
use Rattle.std.specs.Prelude.{option_map}
use Rattle.clap.specs.Words.{found_of}
use Rattle.clap.proofs.WalkLemmas.{first_value-rows, one_text-rows}
use Rattle.commands.specs.declared.eval.row_output.RowOutput.TheVariants.{Answers, Insert}
use Rattle.cli.proofs.requests.eval_request.Goals.{then-get_flag, else-get_flag}
use Rattle.cli.proofs.requests.eval_request.Goals as goal

pub returns-in_err-table-clause-none : goal.returns-in_err-table-clause-none
returns-in_err-table-clause-none c = λ none. sym (first_value-rows (found_of c.args.eval.now) (codes "TABLE"))
    ∙ sym c.get_str.ensures ∙ ap (option_map (λ s. s.now)) c.in_err-table.was

pub returns-clause-some : goal.returns-clause-some
returns-clause-some c =
    let found = found_of c.args.eval.now in
    let wanted_is : c.if-get_flag.wanted ≡ (if c.get_flag.result then Insert else Answers) = elim c.if-get_flag.branch [
      | then-get_flag w ↦ rw w.if-get_flag.true w.wanted-is
      | else-get_flag w ↦ rw w.if-get_flag.false w.wanted-is
    ] in
    record {
      named = sym (first_value-rows found (codes "TABLE")) ∙ sym c.in_ok-table.ensures;
      with_flag = λ e. wanted_is
          ∙ ap (λ (flag : Bool). if flag then Insert else Answers)
          (c.get_flag.ensures.value (one_text-rows found (codes "insert") ∙ e));
      without_flag = λ e. wanted_is
          ∙ ap (λ (flag : Bool). if flag then Insert else Answers)
          (c.get_flag.ensures.other (one_text-rows found (codes "insert") ∙ e));
    }
