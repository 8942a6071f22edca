-- What `publish` answers, from what its parts gave and how their subscribers were served.
use Rattle.std.proofs.Common.{◌≡◌, inl, inr, ℕ, Bool, true, false, if◌then◌else◌, List, [], ◌∷◌, ◌++◌, Option, Some, None, IfSome, append_assoc, append-nil, refl, sym, ap, subst, ◌∙◌, codes}
use Rattle.std.specs.Prelude.{IfErr, IfOk, IsErrAnd, OnOk, Result, Ok, Err, is_none}
use Rattle.std.proofs.KnownBytes.{Consumes-trans, Consumes-whole}
use Rattle.std.specs.Io.KnownBytes.{Appends, Consumes, IsAtEnd}
use Rattle.filter_tree.specs.Expr.{Expr}
use Rattle.pub_catalog.specs.Catalogs.{CatalogOf}
use Rattle.pub_reader.specs.Statements.{catalog_by}
use Rattle.publisher_desk.specs.Seats.{SeatOf, empty_seat}
use Rattle.replica_identity.specs.Plans.{plan_of}
use Rattle.shard_checker.specs.CatalogTruth.{ShardingIsWrong}
use Rattle.shard_checker.specs.Sound.{IsSound}
use Rattle.shard_checker.specs.Texts.{text_fault, trees_in}
use Rattle.shard_checker.specs.declared.error.CheckError.{CheckError}
use Rattle.sql_reader.specs.Reading.{Tells as TellsFault, read_fault}
use Rattle.sql_reader.specs.Written.{as_filter}
use Rattle.sql_reader.specs.declared.error.ReadError.{ReadError}
use Rattle.commands.proofs.Writing.{text_of-one, unwritten}
use Rattle.commands.specs.Certificates.{IsOfLines}
use Rattle.commands.specs.Failures.{failure_of_read}
use Rattle.commands.specs.Inputs.{IsInput, IsOfReading}
use Rattle.commands.specs.Output.{StopsText, WritesFirst, ended, text_of}
use Rattle.commands.specs.Parts.{lines_of}
use Rattle.commands.specs.Refusals.{refused_line}
use Rattle.commands.specs.Verdicts.{IsFirstRefusal, checked_by}
use Rattle.commands.specs.declared.failure.Failure.{Failure}
use Rattle.commands.specs.declared.failure.Failure.TheVariants as f
use Rattle.commands.specs.declared.failure.InputFault.TheVariants as i
use Rattle.commands.specs.declared.failure.Status.{Status}
use Rattle.commands.specs.declared.failure.Status.TheVariants.{Refused}
use Rattle.cli.proofs.LineLemmas.{at_end_of_all, ended_lines-line, ended_lines-plain, ended_lines-text, lines_of-text, no_first_part, no_second_part, parts_there, quit_plain, whole_unread}
use Rattle.cli.specs.Lines.{AreLast, Ends, Fails, Quits, LineParts, ReadsPart, StopsPart, ended_lines, parts_of}
use Rattle.cli.specs.Published.{AfterQuit, AreUnanswered, AreUnansweredFor, EndsPublishing, MayFail, NoneLeft, HasClosed, HasSaid, AreEarlierLines, IsBegunPublishing, IsPublishHead, IsPublishing, IsTalk, Serves}
use Rattle.cli.specs.Requests.{AcceptsInput, AnswersReader}
use Rattle.cli.specs.Talks.{AreLastFor, Conversation}
use Rattle.cli.specs.declared.requests.Feed.{Feed}
use Rattle.cli.specs.declared.requests.Request.TheVariants.{Publish}

-- ---- the input that some bytes are the first of

starts : (known left : Option (List ℕ)) (bytes : List ℕ) → Consumes known left bytes
    → (rest : List ℕ) × IsInput known (bytes ++ rest)
starts None left bytes consumes = ([], tt)
starts (Some all) None bytes consumes = absurd consumes
starts (Some all) (Some rest) bytes consumes = (rest, sym consumes)

is_all : (known left : Option (List ℕ)) (bytes : List ℕ) → Consumes known left bytes
    → IfSome known (λ all. IsAtEnd left) → IsInput known bytes
is_all None left bytes consumes ends = tt
is_all (Some all) left bytes consumes ends =
    Consumes-whole (Some all) left bytes (λ (xs : List ℕ). bytes ≡ xs) consumes ends refl

-- nothing follows where nothing is left
starts_all : (known left later : Option (List ℕ)) (head bytes : List ℕ) → Consumes known left head
    → (consumes : Consumes known later (head ++ bytes)) → IfSome left (λ all. IsAtEnd later)
    → (starts known later (head ++ bytes) consumes).0 ≡ []
unfolding starts
starts_all None left later head bytes first consumes ends = refl
starts_all (Some all) None later head bytes first consumes ends = absurd first
starts_all (Some all) (Some mid) None head bytes first consumes ends = absurd consumes
starts_all (Some all) (Some mid) (Some rest) head bytes first consumes ends = ends

-- ---- reading stops

module _ (may_fail : Bool) (feed : Feed) (known old : Option (List ℕ)) where
  unread : (failure : Failure) → IsOfReading may_fail known failure → AnswersReader (Publish feed) may_fail known old old (Err failure)
  unread failure is = inr (is, refl)

  lacking : (input : List ℕ) → IsInput known input → parts_of (ended_lines input) ≡ None
      → AnswersReader (Publish feed) may_fail known old old (Err (f.Input i.Parts))
  lacking input given none = inl (record { input = input; given = given; ends = (none, refl) })

  first_stops : (left : Option (List ℕ)) (failure : Failure) → StopsPart may_fail known left failure
      → AnswersReader (Publish feed) may_fail known old old (Err failure)
  first_stops left (f.Input i.Parts) lacks =
      lacking (text_of lacks.lines ++ lacks.last)
      (is_all known left (text_of lacks.lines ++ lacks.last) lacks.consumed lacks.at_end)
      (no_first_part lacks.lines lacks.last lacks.plain lacks.last_plain lacks.whole)
  first_stops left (f.Input i.Unread) stops = unread (f.Input i.Unread) stops
  first_stops left f.OutOfMemory stops = unread f.OutOfMemory tt
  first_stops left (f.CommandLine why) stops = absurd stops
  first_stops left f.Output stops = absurd stops
  first_stops left (f.Input (i.Catalog error)) stops = absurd stops
  first_stops left (f.Input (i.Table name)) stops = absurd stops
  first_stops left (f.Input (i.Certificate number error)) stops = absurd stops
  first_stops left (f.Input (i.Script error)) stops = absurd stops

  second_stops : (mid left : Option (List ℕ)) (text : List ℕ) (failure : Failure) → ReadsPart known mid text
      → StopsPart may_fail mid left failure → AnswersReader (Publish feed) may_fail known old old (Err failure)
  second_stops mid left text (f.Input i.Parts) first lacks =
      let head = text_of (first.lines ++ codes "%%" ∷ []) in
      let tail = text_of lacks.lines ++ lacks.last in
      lacking (head ++ tail)
      (is_all known left (head ++ tail) (Consumes-trans known mid left head tail first.consumed lacks.consumed)
      (at_end_of_all known mid left head first.consumed lacks.at_end))
      (no_second_part first.lines lacks.lines lacks.last first.plain first.whole lacks.plain lacks.last_plain
      lacks.whole)
  second_stops mid left text (f.Input i.Unread) first stops =
      unread (f.Input i.Unread) (whole_unread may_fail known mid text first stops)
  second_stops mid left text f.OutOfMemory first stops = unread f.OutOfMemory tt
  second_stops mid left text (f.CommandLine why) first stops = absurd stops
  second_stops mid left text f.Output first stops = absurd stops
  second_stops mid left text (f.Input (i.Catalog error)) first stops = absurd stops
  second_stops mid left text (f.Input (i.Table name)) first stops = absurd stops
  second_stops mid left text (f.Input (i.Certificate number error)) first stops = absurd stops
  second_stops mid left text (f.Input (i.Script error)) first stops = absurd stops

  -- the same of what a `?` gives
  returned : (failure : Failure) (result : Result Status Failure)
      → AnswersReader (Publish feed) may_fail known old old (Err failure) → IsErrAnd result (λ failed. failed ≡ failure)
      → AnswersReader (Publish feed) may_fail known old old result
  returned failure (Ok told) answers is = absurd is
  returned failure (Err failed) answers is =
      subst (λ (f : Failure). AnswersReader (Publish feed) may_fail known old old (Err f)) (sym is) answers

  pub memory_returned : (result : Result Status Failure) → IsErrAnd result (λ failed. failed ≡ f.OutOfMemory)
      → AnswersReader (Publish feed) may_fail known old old result
  memory_returned result is = returned f.OutOfMemory result (unread f.OutOfMemory tt) is

  pub first_returned : (left : Option (List ℕ)) (failure : Failure) (result : Result Status Failure)
      → StopsPart may_fail known left failure → IsErrAnd result (λ failed. failed ≡ failure)
      → AnswersReader (Publish feed) may_fail known old old result
  first_returned left failure result stops is = returned failure result (first_stops left failure stops) is

  pub second_returned : (mid left : Option (List ℕ)) (text : List ℕ) (failure : Failure) (result : Result Status Failure)
      → ReadsPart known mid text → StopsPart may_fail mid left failure → IsErrAnd result (λ failed. failed ≡ failure)
      → AnswersReader (Publish feed) may_fail known old old result
  second_returned mid left text failure result first stops is =
      returned failure result (second_stops mid left text failure first stops) is

  -- ---- both parts are read

  module _ (mid left : Option (List ℕ)) (text certificates : List ℕ) (first : ReadsPart known mid text)
      (second : ReadsPart mid left certificates) where
    abbrev head : List ℕ
    head = text_of (first.lines ++ codes "%%" ∷ []) ++ text_of (second.lines ++ codes "%%" ∷ [])

    abbrev input_with : List ℕ → List ℕ
    input_with tail = text_of (first.lines ++ codes "%%" ∷ []) ++ (text_of (second.lines ++ codes "%%" ∷ []) ++ tail)

    abbrev parts_with : List ℕ → LineParts
    parts_with tail =
        record { catalog = first.lines; certificates = second.lines; commands = ended_lines tail }

    parts_are : (tail : List ℕ) → parts_of (ended_lines (input_with tail)) ≡ Some (parts_with tail)
    parts_are tail = parts_there first.lines second.lines tail first.plain second.plain first.whole second.whole

    head_read : Consumes known left head
    head_read = Consumes-trans known mid left (text_of (first.lines ++ codes "%%" ∷ []))
        (text_of (second.lines ++ codes "%%" ∷ [])) first.consumed second.consumed

    with_tail : (rest : List ℕ) → head ++ rest ≡ input_with rest
    with_tail rest =
        append_assoc (text_of (first.lines ++ codes "%%" ∷ [])) (text_of (second.lines ++ codes "%%" ∷ [])) rest

    -- some more bytes are read
    abbrev given_more : (later : Option (List ℕ)) (bytes : List ℕ) → Consumes left later bytes
        → (rest : List ℕ) × IsInput known (input_with (bytes ++ rest))
    given_more later bytes consumes =
        let all = starts known later (head ++ bytes) (Consumes-trans known left later head bytes head_read consumes) in
        (all.0, subst (IsInput known) (append_assoc head bytes all.0 ∙ with_tail (bytes ++ all.0)) all.1)

    abbrev given : (rest : List ℕ) × IsInput known (input_with rest)
    given =
        let all = starts known left head head_read in
        (all.0, subst (IsInput known) (with_tail all.0) all.1)

    certificates_are : lines_of certificates ≡ second.lines
    certificates_are = ap lines_of second.is ∙ lines_of-text second.lines second.plain

    -- ---- the first part is no catalog

    module _ (error : ReadError) (tells : TellsFault error (catalog_by as_filter text)) where
      catalog_reported : (is_memory : Bool) → is_none (read_fault error) ≡ is_memory
          → AnswersReader (Publish feed) may_fail known old old
          (Err (if is_memory then f.OutOfMemory else f.Input (i.Catalog error)))
      catalog_reported true e = unread f.OutOfMemory tt
      catalog_reported false e = inl (record {
        input = input_with given.0;
        given = given.1;
        ends = (
          record {
            parts = parts_with given.0;
            parts_are = parts_are given.0;
            tells = subst (λ (t : List ℕ). TellsFault error (catalog_by as_filter t)) first.is tells;
            known = e;
          },
          refl,
        );
      })

      pub catalog_returned : (result : Result Status Failure)
          → IsErrAnd result (λ failed. failed ≡ failure_of_read error)
          → AnswersReader (Publish feed) may_fail known old old result
      catalog_returned result is =
          returned (failure_of_read error) result (catalog_reported (is_none (read_fault error)) refl) is

    -- ---- it is one

    module _ (catalog : CatalogOf Expr) (reads : catalog_by as_filter text ≡ Ok catalog) where
      reads_lines : catalog_by as_filter (text_of first.lines) ≡ Ok catalog
      reads_lines = subst (λ (t : List ℕ). catalog_by as_filter t ≡ Ok catalog) first.is reads

      certificate_reported : (failure : Failure) → IsOfLines (lines_of certificates) failure
          → AnswersReader (Publish feed) may_fail known old old (Err failure)
      certificate_reported (f.Input (i.Certificate number error)) is = inl (record {
        input = input_with given.0;
        given = given.1;
        ends = (
          record {
            parts = parts_with given.0;
            catalog = catalog;
            parts_are = parts_are given.0;
            reads = reads_lines;
            first = rw certificates_are at is;
          },
          refl,
        );
      })
      certificate_reported f.OutOfMemory is = unread f.OutOfMemory tt
      certificate_reported (f.CommandLine why) is = absurd is
      certificate_reported f.Output is = absurd is
      certificate_reported (f.Input i.Unread) is = absurd is
      certificate_reported (f.Input i.Parts) is = absurd is
      certificate_reported (f.Input (i.Catalog error)) is = absurd is
      certificate_reported (f.Input (i.Table name)) is = absurd is
      certificate_reported (f.Input (i.Script error)) is = absurd is

      pub certificate_returned : (failure : Failure) (result : Result Status Failure)
          → IsOfLines (lines_of certificates) failure → IsErrAnd result (λ failed. failed ≡ failure)
          → AnswersReader (Publish feed) may_fail known old old result
      certificate_returned failure result is same = returned failure result (certificate_reported failure is) same

      module _ (faultless : text_fault 1 (lines_of certificates) ≡ None) where
        is_head : (tail : List ℕ) → IsPublishHead (input_with tail) catalog (parts_with tail)
        is_head tail = record {
          parts_are = parts_are tail;
          reads = reads_lines;
          certificates = subst (λ (lines : List (List ℕ)). text_fault 1 lines ≡ None) certificates_are faultless;
        }

        -- ---- the sharding is refused

        refusal_line : (error : CheckError) → IsFirstRefusal catalog (trees_in (lines_of certificates)) (Some error)
            → ShardingIsWrong catalog (plan_of catalog) (trees_in (lines_of certificates)) error
            → (status : Status) → status ≡ Refused
            → IsPublishing may_fail feed (input_with given.0) (refused_line catalog error ∷ []) status
        refusal_line error refusal wrong status is = record {
          catalog = catalog;
          parts = parts_with given.0;
          head = is_head given.0;
          result = inr (record {
            refused = record {
              error = error;
              refusal = subst (λ (lines : List (List ℕ)). IsFirstRefusal catalog (trees_in lines) (Some error))
                  certificates_are refusal;
              wrong = subst (λ (lines : List (List ℕ)). ShardingIsWrong catalog (plan_of catalog) (trees_in lines) error)
                  certificates_are wrong;
              are = refl;
            };
            is = is;
          });
        }

        refused_ends : (error : CheckError) (new : Option (List ℕ)) (result : Result Status Failure)
            → IsFirstRefusal catalog (trees_in (lines_of certificates)) (Some error)
            → ShardingIsWrong catalog (plan_of catalog) (trees_in (lines_of certificates)) error
            → IfOk result (λ s. s ≡ Refused)
            → OnOk result (Appends old new (ended (refused_line catalog error)))
            → IfErr result (StopsText (ended (refused_line catalog error)) old new)
            → EndsPublishing may_fail feed (input_with given.0) old new result
        refused_ends error new (Ok told) refusal wrong same appends stops = record {
          lines = refused_line catalog error ∷ [];
          whole = refusal_line error refusal wrong told same;
          appends = subst (λ (t : List ℕ). Appends old new t) (sym (text_of-one (refused_line catalog error))) appends;
        }
        refused_ends error new (Err f.OutOfMemory) refusal wrong same appends stops =
            record { lines = []; begun = inl refl; appends = unwritten old new stops }
        refused_ends error new (Err f.Output) refusal wrong same appends stops = record {
          lines = refused_line catalog error ∷ [];
          part = inr (Refused, refusal_line error refusal wrong Refused refl);
          first = subst (λ (t : List ℕ). WritesFirst t old new) (sym (text_of-one (refused_line catalog error))) stops;
        }
        refused_ends error new (Err (f.CommandLine why)) refusal wrong same appends stops = absurd stops
        refused_ends error new (Err (f.Input fault)) refusal wrong same appends stops = absurd stops

        pub sharding_refused : (error : CheckError) (new : Option (List ℕ)) (result : Result Status Failure)
            → IsFirstRefusal catalog (trees_in (lines_of certificates)) (Some error)
            → ShardingIsWrong catalog (plan_of catalog) (trees_in (lines_of certificates)) error
            → IfOk result (λ s. s ≡ Refused)
            → OnOk result (Appends old new (ended (refused_line catalog error)))
            → IfErr result (StopsText (ended (refused_line catalog error)) old new)
            → AnswersReader (Publish feed) may_fail known old new result
        sharding_refused error new result refusal wrong same appends stops = inl (record {
          input = input_with given.0;
          given = given.1;
          ends = refused_ends error new result refusal wrong same appends stops;
        })

        -- ---- the subscribers are served

        pub accepted : IsSound catalog → IsFirstRefusal catalog (trees_in (lines_of certificates)) None
            → AcceptsInput (Publish feed) known
        accepted sound unrefused = record {
          input = input_with given.0;
          given = given.1;
          accepts = record {
            catalog = catalog;
            parts = parts_with given.0;
            head = is_head given.0;
            sound = sound;
            unrefused = subst (λ (lines : List (List ℕ)). IsFirstRefusal catalog (trees_in lines) None) certificates_are
                unrefused;
          };
        }

        module _ (sound : IsSound catalog)
            (unrefused : IsFirstRefusal catalog (trees_in (lines_of certificates)) None)
            (later : Option (List ℕ)) where
          unrefused_lines : IsFirstRefusal catalog (trees_in second.lines) None
          unrefused_lines = subst (λ (lines : List (List ℕ)). IsFirstRefusal catalog (trees_in lines) None)
              certificates_are unrefused

          abbrev tail_of : (answers : List (List ℕ)) (own : SeatOf) → Conversation (checked_by catalog) feed.limit empty_seat left later answers own
              → (rest : List ℕ) × IsInput known (input_with (rest))
          tail_of answers own talk =
              let more = given_more later (text_of talk.lines ++ talk.more) talk.consumed in
              ((text_of talk.lines ++ talk.more) ++ more.0, more.1)

          abbrev is_talk : (answers : List (List ℕ)) (own : SeatOf)
              (talk : Conversation (checked_by catalog) feed.limit empty_seat left later answers own)
              → IsTalk catalog feed.limit (ended_lines (tail_of answers own talk).0) answers
          is_talk answers own talk =
              let more = given_more later (text_of talk.lines ++ talk.more) talk.consumed in
              record {
                said = talk.lines;
                unsaid = ended_lines (talk.more ++ more.0);
                own = own;
                first = ap ended_lines (append_assoc (text_of talk.lines) talk.more more.0)
                    ∙ ended_lines-text talk.lines (talk.more ++ more.0) talk.plain;
                answered = talk.answered;
              }

          abbrev written_first : (lines : List (List ℕ)) (said : HasSaid feed (checked_by catalog) left later lines)
              → AreEarlierLines feed catalog (ended_lines (tail_of said.answers said.own said.conversation).0) lines
          written_first lines said = record {
            port = said.port;
            callers = said.callers;
            answers = said.answers;
            seat = said.seat;
            port_is = said.port_is;
            callers_are = said.callers_are;
            talk = is_talk said.answers said.own said.conversation;
            seat_is = said.seat_is;
            are = said.are;
          }

          listened : (lines : List (List ℕ)) (said : HasSaid feed (checked_by catalog) left later lines)
              → IsBegunPublishing feed (input_with (tail_of said.answers said.own said.conversation).0) lines
          listened lines said =
              let tail = (tail_of said.answers said.own said.conversation).0 in
              inr (record {
                accepted = record {
                  catalog = catalog;
                  parts = parts_with tail;
                  head = is_head tail;
                  sound = sound;
                  unrefused = unrefused_lines;
                };
                first = written_first lines said;
              })

          last_lines : (bytes rest : List ℕ) → AreLast may_fail left later bytes
              → (IfSome left (λ all. IsAtEnd later) → rest ≡ []) → AreUnanswered may_fail (ended_lines (bytes ++ rest))
          last_lines bytes rest (Quits is) none =
              let line : ended_lines (bytes ++ rest) ≡ codes "QUIT;" ∷ ended_lines rest =
              ap (λ (b : List ℕ). ended_lines (b ++ rest)) is
              ∙ ap ended_lines (append_assoc (codes "QUIT;") (10 ∷ []) rest)
              ∙ ended_lines-line (codes "QUIT;") rest quit_plain in
              subst (AreUnanswered may_fail) (sym line) (AfterQuit (ended_lines rest))
          last_lines bytes rest (Ends plain ends) none =
              let no_line : ended_lines (bytes ++ rest) ≡ [] =
              ap (λ (r : List ℕ). ended_lines (bytes ++ r)) (none ends) ∙ ap ended_lines (append-nil bytes)
              ∙ ended_lines-plain bytes plain in
              subst (AreUnanswered may_fail) (sym no_line) NoneLeft
          last_lines bytes rest (Fails is) none = MayFail (ended_lines (bytes ++ rest)) is

          unanswered : (callers : Option ℕ) (answers : List (List ℕ)) (own : SeatOf)
              (talk : Conversation (checked_by catalog) feed.limit empty_seat left later answers own)
              → AreLastFor callers may_fail left later talk.more
              → AreUnansweredFor callers may_fail (is_talk answers own talk).unsaid
          unanswered (Some port) answers own talk last = tt
          unanswered None answers own talk last =
              let bytes = text_of talk.lines ++ talk.more in
              last_lines talk.more (given_more later bytes talk.consumed).0 last
              (starts_all known left later head bytes head_read
              (Consumes-trans known left later head bytes head_read talk.consumed))

          closed : (lines : List (List ℕ)) (status : Status)
              (all : HasClosed feed (checked_by catalog) left later may_fail lines status)
              → IsPublishing may_fail feed
              (input_with (tail_of all.said.answers all.said.own all.said.conversation).0) lines status
          closed lines status all =
              let tail = (tail_of all.said.answers all.said.own all.said.conversation).0 in
              record {
                catalog = catalog;
                parts = parts_with tail;
                head = is_head tail;
                result = inl (record {
                  sound = sound;
                  unrefused = unrefused_lines;
                  written = record {
                    earlier = all.earlier;
                    line = all.line;
                    first = written_first all.earlier all.said;
                    unanswered = unanswered all.said.callers all.said.answers all.said.own all.said.conversation all.all;
                    last = all.last;
                    are = all.are;
                  };
                });
              }

          pub served : (new : Option (List ℕ)) (result : Result Status Failure)
              → Serves feed (checked_by catalog) left later may_fail old new result
              → AnswersReader (Publish feed) may_fail known old new result
          served new (Ok status) told =
              let said = told.whole.said in
              let tail = tail_of said.answers said.own said.conversation in
              inl (record {
                input = input_with tail.0;
                given = tail.1;
                ends = record {
                  lines = told.lines;
                  whole = closed told.lines status told.whole;
                  appends = told.appends;
                };
              })
          served new (Err f.OutOfMemory) told = elim told.begun [
            | inl none ↦ inl (record {
              input = input_with given.0;
              given = given.1;
              ends = record { lines = told.lines; begun = inl none; appends = told.appends };
            })
            | inr said ↦ let tail = tail_of said.answers said.own said.conversation in
                inl (record {
                  input = input_with tail.0;
                  given = tail.1;
                  ends = record { lines = told.lines; begun = listened told.lines said; appends = told.appends };
                })
          ]
          served new (Err f.Output) told = elim told.part [
            | inl begun ↦ elim begun [
              | inl none ↦ inl (record {
                input = input_with given.0;
                given = given.1;
                ends = record { lines = told.lines; part = inl (inl none); first = told.first };
              })
              | inr said ↦ let tail = tail_of said.answers said.own said.conversation in
                  inl (record {
                    input = input_with tail.0;
                    given = tail.1;
                    ends = record { lines = told.lines; part = inl (listened told.lines said); first = told.first };
                  })
            ]
            | inr all ↦ let said = all.1.said in
                let tail = tail_of said.answers said.own said.conversation in
                inl (record {
                  input = input_with tail.0;
                  given = tail.1;
                  ends = record {
                    lines = told.lines;
                    part = inr (all.0, closed told.lines all.0 all.1);
                    first = told.first;
                  };
                })
          ]
          served new (Err (f.CommandLine why)) told = absurd told
          served new (Err (f.Input fault)) told = absurd told
