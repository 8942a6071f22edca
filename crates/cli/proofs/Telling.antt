-- Lines are said one after the other, and it may stop before each.
use Rattle.std.proofs.Common.{◌≡◌, ℕ, inl, inr, List, [], ◌∷◌, ◌++◌, Option, refl, sym, ap, subst}
use Rattle.std.specs.Prelude.{IsErrAnd, Result, Ok, Err}
use Rattle.std.specs.Io.KnownBytes.{Appends}
use Rattle.std.proofs.KnownBytes.{Appends-trans}
use Rattle.commands.proofs.Writing.{first_after, first_whole, text_of-one, unwritten}
use Rattle.commands.specs.Output.{StopsText, WritesFirst, ended, text_of}
use Rattle.commands.specs.declared.failure.Failure.{Failure}
use Rattle.commands.specs.declared.failure.Failure.TheVariants as f
use Rattle.commands.specs.declared.failure.Status.{Status}
use Rattle.cli.specs.Telling.{Closes, IsBegun, IsClosing, IsLast, IsStop, AreServeLines, WritesLine, ServiceOf, WritesServeLines, listening_line}

-- ---- a line alone

pub said : (line : List ℕ) (status : Status) (old new : Option (List ℕ)) → Appends old new (ended line)
    → WritesLine line status old new (Ok status)
said line status old new appends = record {
  lines = line ∷ [];
  whole = (refl, refl);
  appends = subst (λ (t : List ℕ). Appends old new t) (sym (text_of-one line)) appends;
}

pub unsaid : (line : List ℕ) (status : Status) (old new : Option (List ℕ)) (failure : Failure)
    → StopsText (ended line) old new failure → WritesLine line status old new (Err failure)
unsaid line status old new (f.CommandLine why) stops = absurd stops
unsaid line status old new (f.Input fault) stops = absurd stops
unsaid line status old new f.OutOfMemory stops = record { lines = []; begun = refl; appends = unwritten old new stops }
unsaid line status old new f.Output stops = record {
  lines = line ∷ [];
  part = inr (status, (refl, refl));
  first = subst (λ (t : List ℕ). WritesFirst t old new) (sym (text_of-one line)) stops;
}

-- ---- the last line

module _ (service : ServiceOf) where
  pub closes : (line : List ℕ) (status : Status) (old new : Option (List ℕ)) (result : Result Status Failure)
      → IsLast service line status → WritesLine line status old new result → Closes service old new result
  closes line status old new (Ok told) last says = record {
    lines = says.lines;
    whole = record {
      line = line;
      are = says.whole.0;
      last =
          subst (λ (s : Status). IsLast service line s) (sym says.whole.1) last;
    };
    appends = says.appends;
  }
  closes line status old new (Err f.OutOfMemory) last says =
      record { lines = says.lines; begun = says.begun; appends = says.appends }
  closes line status old new (Err f.Output) last says = record {
    lines = says.lines;
    part = elim says.part [
      | inl b ↦ inl b
      | inr w ↦ inr (
        w.0,
        record
            { line = line; are = w.1.0; last = subst (λ (s : Status). IsLast service line s) (sym w.1.1) last },
      )
    ];
    first = says.first;
  }
  closes line status old new (Err (f.CommandLine why)) last says = absurd says
  closes line status old new (Err (f.Input fault)) last says = absurd says

  -- memory is refused before the last line
  pub closes_nothing : (old : Option (List ℕ)) (result : Result Status Failure)
      → IsErrAnd result (λ failed. failed ≡ f.OutOfMemory) → Closes service old old result
  closes_nothing old (Ok told) is = absurd is
  closes_nothing old (Err failed) is =
      subst (λ (failure : Failure). Closes service old old (Err failure)) (sym is)
      (record { lines = []; begun = refl; appends = unwritten old old refl })

-- ---- after the first line

module _ (service : ServiceOf) where
  one_line : text_of (listening_line service.port ∷ []) ≡ ended (listening_line service.port)
  one_line = text_of-one (listening_line service.port)

  -- it stops before the first line
  pub unheard : (old new : Option (List ℕ)) (failure : Failure)
      → StopsText (ended (listening_line service.port)) old new failure → WritesServeLines service old new (Err failure)
  unheard old new (f.CommandLine why) stops = absurd stops
  unheard old new (f.Input fault) stops = absurd stops
  unheard old new f.OutOfMemory stops = record { lines = []; begun = inl refl; appends = unwritten old new stops }
  unheard old new f.Output stops = record {
    lines = listening_line service.port ∷ [];
    part = inl (inr refl);
    first = subst (λ (t : List ℕ). WritesFirst t old new) (sym one_line) stops;
  }

  -- it stops after the first line
  stopped_after : (old new : Option (List ℕ)) (failure : Failure) → Appends old new (ended (listening_line service.port))
      → IsStop failure → WritesServeLines service old new (Err failure)
  stopped_after old new (f.CommandLine why) appends stop = absurd stop
  stopped_after old new (f.Input fault) appends stop = absurd stop
  stopped_after old new f.OutOfMemory appends stop = record {
    lines = listening_line service.port ∷ [];
    begun = inr refl;
    appends = subst (λ (t : List ℕ). Appends old new t) (sym one_line) appends;
  }
  stopped_after old new f.Output appends stop = record {
    lines = listening_line service.port ∷ [];
    part = inl (inr refl);
    first = subst (λ (t : List ℕ). WritesFirst t old new) (sym one_line)
        (first_whole (ended (listening_line service.port)) old new appends);
  }

  -- the same of what a `?` gives
  pub unheard_returned : (old new : Option (List ℕ)) (failure : Failure) (result : Result Status Failure)
      → StopsText (ended (listening_line service.port)) old new failure → IsErrAnd result (λ failed. failed ≡ failure)
      → WritesServeLines service old new result
  unheard_returned old new failure (Ok told) stops is = absurd is
  unheard_returned old new failure (Err failed) stops is =
      subst (λ (f : Failure). WritesServeLines service old new (Err f)) (sym is) (unheard old new failure stops)

  pub stopped_returned : (old new : Option (List ℕ)) (failure : Failure) (result : Result Status Failure)
      → Appends old new (ended (listening_line service.port)) → IsStop failure → IsErrAnd result (λ failed. failed ≡ failure)
      → WritesServeLines service old new result
  stopped_returned old new failure (Ok told) appends stop is = absurd is
  stopped_returned old new failure (Err failed) appends stop is =
      subst (λ (f : Failure). WritesServeLines service old new (Err f)) (sym is)
      (stopped_after old new failure appends stop)

  two_lines : (last : List (List ℕ))
      → text_of (listening_line service.port ∷ last) ≡ ended (listening_line service.port) ++ text_of last
  two_lines last = refl

  told : (lines : List (List ℕ)) (status : Status) → IsClosing service lines status
      → AreServeLines service (listening_line service.port ∷ lines) status
  told lines status closing =
      record { line = closing.line; are = ap (λ l. listening_line service.port ∷ l) closing.are; last = closing.last }

  begun : (lines : List (List ℕ)) → lines ≡ [] → IsBegun service.port (listening_line service.port ∷ lines)
  begun lines e = inr (ap (λ l. listening_line service.port ∷ l) e)

  -- the last line comes after the first one
  pub tells : (old mid new : Option (List ℕ)) (result : Result Status Failure)
      → Appends old mid (ended (listening_line service.port)) → Closes service mid new result
      → WritesServeLines service old new result
  tells old mid new (Ok status) appends closing = record {
    lines = listening_line service.port ∷ closing.lines;
    whole = told closing.lines status closing.whole;
    appends = Appends-trans old mid new (ended (listening_line service.port)) (text_of closing.lines) appends closing.appends;
  }
  tells old mid new (Err f.OutOfMemory) appends closing = record {
    lines = listening_line service.port ∷ closing.lines;
    begun = begun closing.lines closing.begun;
    appends = Appends-trans old mid new (ended (listening_line service.port)) (text_of closing.lines) appends closing.appends;
  }
  tells old mid new (Err f.Output) appends closing = record {
    lines = listening_line service.port ∷ closing.lines;
    part = elim closing.part [ inl b ↦ inl (begun closing.lines b) | inr w ↦ inr (w.0, told closing.lines w.0 w.1) ];
    first = first_after (ended (listening_line service.port)) (text_of closing.lines) old mid new appends closing.first;
  }
  tells old mid new (Err (f.CommandLine why)) appends closing = absurd closing
  tells old mid new (Err (f.Input fault)) appends closing = absurd closing
