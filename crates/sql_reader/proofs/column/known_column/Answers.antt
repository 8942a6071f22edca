use Rattle.std.proofs.Common.{◌≡◌, ap, sym, ◌∙◌}
use Rattle.sql_reader.specs.Expressions as spec
use Rattle.sql_reader.specs.Expressions.{known, find_column}
use Rattle.sql_reader.proofs.column.known_column.Goals as goal

-- the column that was found
pub returns-in-Some : goal.returns-in-Some
unfolding spec.known_column
returns-in-Some c =
    let by_text : c.find_column.result ≡ find_column c.args.name.now.text c.args.columns.now =
    c.find_column.ensures ∙ ap (λ text. find_column text c.args.columns.now) c.as_str.ensures in record {
      answers = ap (known c.args.name.now) (sym by_text ∙ c.in-Some.is);
      err = tt;
    }
