-- A reader whose input is read line by line.
use Rattle.std.specs.Prelude.{◌≡◌, ℕ, Bool, true, false, List, [], ◌∷◌, ◌++◌, Option, slice_range}
use Rattle.std.specs.Io.KnownBytes.{prepend_known}
use Rattle.cli.specs.Lines.{IsPlain}
use Rattle.cli.specs.declared.publish.incoming.LineReader.{LineReader}

-- what was read of the reader and is in no line yet
abbrev pub ahead_of : {I : Type 0} → LineReader I → List ℕ
ahead_of lines = slice_range lines.piece.items lines.start lines.end

-- the bytes that are still to come, if those of the reader are known
abbrev pub coming : {I : Type 0} → (I → Option (List ℕ)) → LineReader I → Option (List ℕ)
coming remaining lines = prepend_known (ahead_of lines) (remaining lines.reader)

-- bytes are moved to the end of a line: those before the first newline, which is dropped, or all if there is none
abbrev pub Moves : List ℕ → List ℕ → List ℕ → List ℕ → Bool → Type 0
Moves old new before after true =
    (moved : List ℕ) × IsPlain moved × (old ≡ moved ++ 10 ∷ new) × (after ≡ before ++ moved)
Moves old new before after false = IsPlain old × (new ≡ []) × (after ≡ before ++ old)
