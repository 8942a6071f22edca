-- The lines of rows are written one after the other.
use Rattle.std.proofs.Common.{◌≡◌, ℕ, inl, inr, ◌⊎◌, Bool, true, false, if◌then◌else◌, ◌&&◌, List, [], ◌∷◌, ◌++◌, Option, refl, sym, ap, subst, ◌∙◌, append_assoc}
use Rattle.std.specs.List.{list_all}
use Rattle.std.specs.Prelude.{Err, IsErrAnd, Ok, Result}
use Rattle.std.proofs.lemmas.List.Folds.{list_all-append}
use Rattle.std.specs.Io.KnownBytes.{Appends}
use Rattle.filter_tree.specs.declared.table.Column.{Column}
use Rattle.std.proofs.KnownBytes.{Appends-nil, Appends-trans}
use Rattle.commands.proofs.Writing.{first_after, text_of-more}
use Rattle.commands.specs.Eval.BadRows.{is_answered}
use Rattle.commands.specs.Eval.Carriers.{CarrierOf}
use Rattle.commands.specs.Eval.Evaluation.{status_of, IsLine, NoRow, OneMore, AreFirstLines, AreSomeLines, WritesRows}
use Rattle.commands.specs.Output.{StopsText, WritesFirst, ended, text_of}
use Rattle.commands.specs.declared.eval.row_output.RowOutput.{RowOutput}
use Rattle.commands.specs.declared.failure.Failure.{Failure}
use Rattle.commands.specs.declared.failure.Failure.TheVariants as f
use Rattle.commands.specs.declared.failure.Status.{Status}
use Rattle.commands.specs.declared.failure.Status.TheVariants.{Done, Refused}

-- one more row, which has an answer or none
one_more : (all here : Bool)
    → (if here then (if all then Done else Refused) else Refused) ≡ (if all && (here && true) then Done else Refused)
one_more true true = refl
one_more true false = refl
one_more false true = refl
one_more false false = refl

module _ (wanted : RowOutput) (number : ℕ) (carriers : List CarrierOf) (columns : List Column) where
  -- some of the rows are written, the others are left
  pub record IsSoFar (rows left : List (List ℕ)) (status : Status) (old new : Option (List ℕ)) : Type 0 where
    pub lines : List (List ℕ)
    pub first : AreFirstLines wanted number carriers columns rows left lines status
    pub appends : Appends old new (text_of lines)

  pub so_far_at_start : (rows left : List (List ℕ)) (known : Option (List ℕ)) → left ≡ rows
      → IsSoFar rows left Done known known
  so_far_at_start rows left known e = record {
    lines = [];
    first = record { first = []; split = sym e; are = NoRow; goes_by = refl };
    appends = Appends-nil known;
  }

  status_of-next : (seen : List (List ℕ)) (row : List ℕ) (answered : Bool) → answered ≡ is_answered columns row
      → (if answered then status_of columns seen else Refused) ≡ status_of columns (seen ++ row ∷ [])
  status_of-next seen row answered e =
      rw (e, list_all-append (is_answered columns) seen (row ∷ []))
      (one_more (list_all (is_answered columns) seen) (is_answered columns row))

  lines_next : (rows left : List (List ℕ)) (row : List ℕ) (later lines : List (List ℕ)) (line : List ℕ)
      (status after : Status) → left ≡ row ∷ later
      → (now : AreFirstLines wanted number carriers columns rows left lines status)
      → IsLine wanted number carriers columns row line
      → after ≡ status_of columns (now.first ++ row ∷ [])
      → AreFirstLines wanted number carriers columns rows later (lines ++ line ∷ []) after
  lines_next rows left row later lines line status after left_is now is_line after_is = record {
    first = now.first ++ row ∷ [];
    split = now.split ∙ ap (λ rest. now.first ++ rest) left_is ∙ sym (append_assoc now.first (row ∷ []) later);
    are = OneMore now.first lines row line now.are is_line;
    goes_by = after_is;
  }

  appends_line : (lines : List (List ℕ)) (line : List ℕ) (old new newer : Option (List ℕ))
      → Appends old new (text_of lines) → Appends new newer (ended line)
      → Appends old newer (text_of (lines ++ line ∷ []))
  appends_line lines line old new newer first second =
      subst (λ (text : List ℕ). Appends old newer text) (sym (text_of-more lines line))
      (Appends-trans old new newer (text_of lines) (ended line) first second)

  pub so_far_next : (rows left : List (List ℕ)) (row : List ℕ) (later : List (List ℕ)) (status after : Status)
      (old new newer : Option (List ℕ)) (line : List ℕ) (answered : Bool)
      → left ≡ row ∷ later → IsSoFar rows left status old new → IsLine wanted number carriers columns row line
      → answered ≡ is_answered columns row
      → after ≡ (if answered then status else Refused) → Appends new newer (ended line)
      → IsSoFar rows later after old newer
  so_far_next rows left row later status after old new newer line answered left_is now is_line e after_is grows =
      let after_of : after ≡ status_of columns (now.first.first ++ row ∷ []) =
      after_is ∙ ap (λ (s : Status). if answered then s else Refused) now.first.goes_by
      ∙ status_of-next now.first.first row answered e in
      record {
        lines = now.lines ++ line ∷ [];
        first = lines_next rows left row later now.lines line status after left_is now.first is_line after_of;
        appends = appends_line now.lines line old new newer now.appends grows;
      }

  some_at : (rows left : List (List ℕ)) (row : List ℕ) (later lines : List (List ℕ)) (status : Status)
      → left ≡ row ∷ later
      → AreFirstLines wanted number carriers columns rows left lines status
      → AreSomeLines wanted number carriers columns rows lines
  some_at rows left row later lines status left_is now = record {
    row = row;
    later = later;
    status = status;
    first = subst (λ (l : List (List ℕ)). AreFirstLines wanted number carriers columns rows l lines status) left_is now;
  }

  -- memory runs out before a line is written
  pub out_of_memory : (rows left : List (List ℕ)) (row : List ℕ) (later : List (List ℕ)) (status : Status)
      (old new newer : Option (List ℕ)) → left ≡ row ∷ later
      → IsSoFar rows left status old new → newer ≡ new
      → WritesRows wanted number carriers columns rows old newer (Err f.OutOfMemory)
  out_of_memory rows left row later status old new newer left_is now same = record {
    lines = now.lines;
    begun = some_at rows left row later now.lines status left_is now.first;
    appends = subst (λ (n : Option (List ℕ)). Appends old n (text_of now.lines)) (sym same) now.appends;
  }

  some_or_whole : (rows later lines : List (List ℕ)) (status : Status)
      → AreFirstLines wanted number carriers columns rows later lines status
      → AreSomeLines wanted number carriers columns rows lines ⊎
      ((status : Status) × AreFirstLines wanted number carriers columns rows [] lines status)
  some_or_whole rows [] lines status now = inr (status, now)
  some_or_whole rows (row ∷ later) lines status now = inl (some_at rows (row ∷ later) row later lines status refl now)

  -- the writing of a line stops
  pub line_stopped : (rows left : List (List ℕ)) (row : List ℕ) (later : List (List ℕ)) (status : Status)
      (old new newer : Option (List ℕ)) (line : List ℕ) (failure : Failure) → left ≡ row ∷ later
      → IsSoFar rows left status old new → IsLine wanted number carriers columns row line
      → StopsText (ended line) new newer failure
      → WritesRows wanted number carriers columns rows old newer (Err failure)
  line_stopped rows left row later status old new newer line (f.CommandLine why) left_is now is_line stops =
      absurd stops
  line_stopped rows left row later status old new newer line (f.Input fault) left_is now is_line stops = absurd stops
  line_stopped rows left row later status old new newer line f.OutOfMemory left_is now is_line stops =
      out_of_memory rows left row later status old new newer left_is now stops
  line_stopped rows left row later status old new newer line f.Output left_is now is_line stops =
      let next = lines_next rows left row later now.lines line status
      (status_of columns (now.first.first ++ row ∷ [])) left_is now.first is_line refl in
      record {
        lines = now.lines ++ line ∷ [];
        part = some_or_whole rows later (now.lines ++ line ∷ []) (status_of columns (now.first.first ++ row ∷ [])) next;
        first = subst (λ (text : List ℕ). WritesFirst text old newer) (sym (text_of-more now.lines line))
            (first_after (text_of now.lines) (ended line) old new newer now.appends stops);
      }

  -- the same of what a `?` gives
  pub memory_returned : (rows left : List (List ℕ)) (row : List ℕ) (later : List (List ℕ)) (status : Status)
      (old new : Option (List ℕ)) (result : Result Status Failure) → left ≡ row ∷ later
      → IsSoFar rows left status old new → IsErrAnd result (λ failure. failure ≡ f.OutOfMemory)
      → WritesRows wanted number carriers columns rows old new result
  memory_returned rows left row later status old new (Ok made) left_is now is = absurd is
  memory_returned rows left row later status old new (Err failure) left_is now is =
      subst (λ (failed : Failure). WritesRows wanted number carriers columns rows old new (Err failed)) (sym is)
      (out_of_memory rows left row later status old new new left_is now refl)

  pub stop_returned : (rows left : List (List ℕ)) (row : List ℕ) (later : List (List ℕ)) (status : Status)
      (old new newer : Option (List ℕ)) (line : List ℕ) (failure : Failure) (result : Result Status Failure)
      → left ≡ row ∷ later
      → IsSoFar rows left status old new → IsLine wanted number carriers columns row line
      → StopsText (ended line) new newer failure → IsErrAnd result (λ failed. failed ≡ failure)
      → WritesRows wanted number carriers columns rows old newer result
  stop_returned rows left row later status old new newer line failure (Ok made) left_is now is_line stops is = absurd is
  stop_returned rows left row later status old new newer line failure (Err failed) left_is now is_line stops is =
      subst (λ (why : Failure). WritesRows wanted number carriers columns rows old newer (Err why)) (sym is)
      (line_stopped rows left row later status old new newer line failure left_is now is_line stops)

  -- no row is left
  pub all_written : (rows left : List (List ℕ)) (status : Status) (old new : Option (List ℕ)) → left ≡ []
      → IsSoFar rows left status old new → WritesRows wanted number carriers columns rows old new (Ok status)
  all_written rows left status old new e now = record {
    lines = now.lines;
    whole = subst (λ (l : List (List ℕ)). AreFirstLines wanted number carriers columns rows l now.lines status) e
        now.first;
    appends = now.appends;
  }
