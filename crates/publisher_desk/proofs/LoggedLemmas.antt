-- What seats know of the log stays right as it grows, and is put together at the end.
use Rattle.std.proofs.Common.{◌≡◌, ℕ, zero, suc, ◌+◌, ◌<◌, ◌≤◌, List, [], ◌∷◌, ◌++◌, length, refl, sym, ◌∙◌, ap, subst, arith, length-append, append_assoc, append-nil, get_or}
use Rattle.std.specs.Prelude.{All, Option, true}
use Rattle.std.proofs.lemmas.List.Elements.{All-nil, All-push}
use Rattle.filter_tree.specs.Datum.{Datum}
use Rattle.shard_checker.specs.CheckedView.{CheckedOf, setting_in}
use Rattle.table_changes.specs.Commands.{Command}
use Rattle.table_changes.specs.Setting.{Setting}
use Rattle.table_changes.specs.Tables.{no_rows}
use Rattle.tables_log.specs.BookView.{book_checked, book_log, book_rows}
use Rattle.tables_log.specs.Committing.{Commits}
use Rattle.tables_log.specs.StandsFor.{Transaction, AreAccepted, StandsFor, after}
use Rattle.tables_log.specs.declared.book.Book.{Book}
use Rattle.tables_log.specs.declared.error.CommitError.{CommitError}
use Rattle.tables_log.proofs.StandLemmas.{each_is_logged, commits_add_one}
use Rattle.publisher_desk.specs.Answers.{IsRead, IsRefusedAfter}
use Rattle.publisher_desk.specs.Logged.{StandsIn, IsReadIn, IsNoted, AreNoted, own_numbers, RiseTo, IsSighted, IsSeatIn, AreLogged, IsHistoryOf, AreSeatsIn, Records, Looks, Refuses, IsRefused}
use Rattle.publisher_desk.specs.Receipts.{ReceiptOf, transaction_of, transactions_of}
use Rattle.publisher_desk.specs.Seats.{SeatOf, SeesOn, note_number, highest}
use Rattle.publisher_desk.specs.Sights.{HasWholeLog, Sees, StartsWith, sight, times, view_of}
use Rattle.publisher_desk.specs.SlotSights.{BeginsWith}
use Rattle.publisher_desk.specs.declared.note.Note.{Note}
use Rattle.publisher_desk.specs.declared.note.Note.TheVariants.{Committed, Looked}
use Rattle.publisher_desk.specs.declared.note.Reading.{Reading}
use Rattle.publisher_desk.specs.declared.sight.Sight.{Sight}
use Rattle.publisher_desk.specs.declared.sight.HistoryView.{HistoryView}
use Rattle.publisher_desk.specs.declared.slot_event.SlotEvent.{SlotEvent}

-- ---- a longer log

noted_longer : (setting : Setting) (log more : List ReceiptOf) (note : Note) → IsNoted setting log note
    → IsNoted setting (log ++ more) note
noted_longer setting log more (Committed receipt) stands = record {
  earlier = stands.earlier;
  later = stands.later ++ more;
  log_is = ap (λ (list : List ReceiptOf). list ++ more) stands.log_is
      ∙ append_assoc stands.earlier (receipt ∷ stands.later) more;
  number_is = stands.number_is;
}
noted_longer setting log more (Looked reading) read = record {
  earlier = read.earlier;
  later = read.later ++ more;
  log_is = ap (λ (list : List ReceiptOf). list ++ more) read.log_is ∙ append_assoc read.earlier read.later more;
  number_is = read.number_is;
  answer_is = read.answer_is;
}

noted_begins : (setting : Setting) (log seen : List ReceiptOf) (notes : List Note) → StartsWith log seen
    → AreNoted setting seen notes → AreNoted setting log notes
noted_begins setting log seen notes begins noted place note low =
    subst (λ (list : List ReceiptOf). IsNoted setting list (get_or notes place note)) (sym begins.1)
    (noted_longer setting seen begins.0 (get_or notes place note) (noted place note low))

rise_longer : (high higher low : ℕ) (numbers : List ℕ) → high ≤ higher → RiseTo high low numbers
    → RiseTo higher low numbers
rise_longer high higher low [] more rise = tt
rise_longer high higher low (number ∷ numbers) more rise =
    (rise.0, omega (arith, rise.1, more), rise_longer high higher number numbers more rise.2)

rise_push : (high low last : ℕ) (numbers : List ℕ) → low ≤ high → high < last → RiseTo high low numbers
    → RiseTo last low (numbers ++ last ∷ [])
rise_push high low last [] low_is above rise = (omega (arith, low_is, above), omega arith, tt)
rise_push high low last (number ∷ numbers) low_is above rise = (
  rise.0,
  omega (arith, rise.1, above),
  rise_push high number last numbers rise.1 above rise.2,
)

length_begins : (log seen : List ReceiptOf) → StartsWith log seen → length seen ≤ length log
length_begins log seen begins =
    let all = ap length begins.1 in let both = length-append seen begins.0 in omega (arith, all, both)

-- ---- notes

own_append : (notes more : List Note) → own_numbers (notes ++ more) ≡ own_numbers notes ++ own_numbers more
own_append [] more = refl
own_append (Committed receipt ∷ notes) more = ap (λ (list : List ℕ). receipt.number ∷ list) (own_append notes more)
own_append (Looked reading ∷ notes) more = own_append notes more

noted_low : (setting : Setting) (log : List ReceiptOf) (note : Note) → IsNoted setting log note
    → note_number note ≤ length log
noted_low setting log (Committed receipt) stands =
    let all = ap length stands.log_is in let both = length-append stands.earlier (receipt ∷ stands.later) in
    let number = stands.number_is in omega (arith, all, both, number)
noted_low setting log (Looked reading) read =
    let all = ap length read.log_is in let both = length-append read.earlier read.later in
    let number = read.number_is in omega (arith, all, both, number)

highest_noted : (setting : Setting) (log : List ReceiptOf) (notes : List Note) → AreNoted setting log notes
    → highest notes ≤ length log
highest_noted setting log [] noted = omega arith
highest_noted setting log (note ∷ notes) noted =
    let first = noted_low setting log note (noted 0 note (omega arith)) in
    let rest = highest_noted setting log notes (λ place other low. noted (suc place) other (omega (arith, low))) in
    omega (arith, first, rest)

-- ---- seats

module _ (setting : Setting) (notes : List Note) (old new : Sight) (sighted : IsSighted setting notes old) where
  unchanged : old ≡ new → IsSighted setting notes new
  unchanged same = subst (IsSighted setting notes) same sighted

  pub seen_sighted : (log : List ReceiptOf) → Sees log old new → IsSighted setting notes new
  seen_sighted log sees =
      let seen = sym sees.seen in
      let longer = length_begins log old.seen sees.begins in
      record {
        noted = subst (λ (list : List ReceiptOf). AreNoted setting list notes) seen
            (noted_begins setting log old.seen notes sees.begins sighted.noted);
        own = sees.own ∙ sighted.own;
        rising = subst (λ (n : ℕ). RiseTo n 0 new.own) (ap length seen)
            (subst (λ (list : List ℕ). RiseTo (length log) 0 list) (sym sees.own)
            (rise_longer (length old.seen) (length log) 0 old.own longer sighted.rising));
      }

  pub receipt_sighted : (receipt : ReceiptOf) → Records receipt old new
      → IsSighted setting (notes ++ Committed receipt ∷ []) new
  receipt_sighted receipt records =
      let log = records.log in let adds = records.adds in
      let seen = sym adds.seen in
      let longer = length_begins log old.seen adds.begins in
      let all : length (log ++ receipt ∷ []) ≡ length log + 1 = length-append log (receipt ∷ []) in
      let number = adds.number in
      let stands : StandsIn (log ++ receipt ∷ []) receipt =
      record { earlier = log; later = []; log_is = refl; number_is = number } in
      let mine : new.own ≡ own_numbers notes ++ receipt.number ∷ [] =
      adds.own ∙ ap (λ (list : List ℕ). list ++ receipt.number ∷ []) sighted.own in
      let rise : RiseTo receipt.number 0 (old.own ++ receipt.number ∷ []) =
      rise_push (length old.seen) 0 receipt.number old.own (omega arith) (omega (arith, longer, number)) sighted.rising
      in
      record {
        noted = subst (λ (list : List ReceiptOf). AreNoted setting list (notes ++ Committed receipt ∷ [])) seen
            (All-push (IsNoted setting (log ++ receipt ∷ [])) notes (Committed receipt)
            (λ place note low. noted_longer setting log (receipt ∷ []) (get_or notes place note)
            (noted_begins setting log old.seen notes adds.begins sighted.noted place note low)) stands);
        own = mine ∙ sym (own_append notes (Committed receipt ∷ []));
        rising = subst (λ (list : List ℕ). RiseTo (length new.seen) 0 list) (sym adds.own)
            (subst (λ (n : ℕ). RiseTo n 0 (old.own ++ receipt.number ∷ []))
            (number ∙ sym all ∙ ap length seen) rise);
      }

  pub reading_sighted : (reading : Reading)
      → Looks setting reading.table reading.key reading.number reading.answer old new
      → IsSighted setting (notes ++ Looked reading ∷ []) new
  reading_sighted reading looks =
      let log = looks.log in let sees = looks.sees in
      let seen = sym sees.seen in
      let before = seen_sighted log sees in
      let read : IsReadIn setting log reading =
      record {
        earlier = log;
        later = [];
        log_is = sym (append-nil log);
        number_is = looks.number_is;
        answer_is = looks.answer_is;
      } in
      record {
        noted = All-push (IsNoted setting new.seen) notes (Looked reading) before.noted
            (subst (λ (list : List ReceiptOf). IsReadIn setting list reading) seen read);
        own = before.own ∙ sym (own_append notes (Looked reading ∷ []) ∙ append-nil (own_numbers notes));
        rising = before.rising;
      }

  pub none_later : (high table number : ℕ) (key : List Datum) (answer : Option (List Datum)) → high ≡ highest notes
      → Looks setting table key number answer old new → high ≤ number
  none_later high table number key answer high_is looks =
      let seen = highest_noted setting old.seen notes sighted.noted in
      let longer = length_begins looks.log old.seen looks.sees.begins in
      let count = looks.number_is in omega (arith, high_is, seen, longer, count)

pub read_as : (checked : CheckedOf) (reading : Reading) (old new : Sight)
    → Looks (setting_in checked) reading.table reading.key reading.number reading.answer old new
    → IsRead checked new.seen reading
read_as checked reading old new looks = let seen = sym looks.sees.seen in record {
  number_is = looks.number_is ∙ ap length seen;
  accepted = subst (λ (log : List ReceiptOf). AreAccepted (setting_in checked) no_rows (transactions_of log)) seen
      looks.accepted;
  answer_is = looks.answer_is
      ∙ ap (λ (log : List ReceiptOf). after (setting_in checked) (transactions_of log) reading.table 0 reading.key) seen;
}

-- ---- notes that were pushed onto a list with room

module _ (setting : Setting) (notes roomy all : List Note) (old new : Sight) (same : roomy ≡ notes)
    (sighted : IsSighted setting notes old) where
  pub receipt_noted : (receipt : ReceiptOf) → all ≡ roomy ++ Committed receipt ∷ [] → Records receipt old new
      → IsSighted setting all new
  receipt_noted receipt pushed records =
      subst (λ (list : List Note). IsSighted setting list new)
      (sym (pushed ∙ ap (λ (list : List Note). list ++ Committed receipt ∷ []) same))
      (receipt_sighted setting notes old new sighted receipt records)

  pub seen_noted : (table number : ℕ) (key : List Datum) (answer : Option (List Datum))
      → Looks setting table key number answer old new → IsSighted setting roomy new
  seen_noted table number key answer looks =
      subst (λ (list : List Note). IsSighted setting list new) (sym same)
      (seen_sighted setting notes old new sighted looks.log looks.sees)

  pub reading_noted : (reading kept : Reading) → all ≡ roomy ++ Looked kept ∷ [] → kept ≡ reading
      → Looks setting reading.table reading.key reading.number reading.answer old new → IsSighted setting all new
  reading_noted reading kept pushed kept_is looks =
      subst (λ (list : List Note). IsSighted setting list new)
      (sym (pushed ∙ ap (λ (note : Reading). roomy ++ Looked note ∷ []) kept_is
      ∙ ap (λ (list : List Note). list ++ Looked reading ∷ []) same))
      (reading_sighted setting notes old new sighted reading looks)

-- ---- what was seen is a beginning of what is seen

pub begins_same : (seen : List ReceiptOf) → StartsWith seen seen
begins_same seen = ([], sym (append-nil seen))

begins_seen : (log : List ReceiptOf) (old new : Sight) → Sees log old new → StartsWith new.seen old.seen
begins_seen log old new sees = (sees.begins.0, sees.seen ∙ sees.begins.1)

begins_recorded : (receipt : ReceiptOf) (old new : Sight) → Records receipt old new → StartsWith new.seen old.seen
begins_recorded receipt old new records =
    let adds = records.adds in (
      adds.begins.0 ++ receipt ∷ [],
      adds.seen ∙ ap (λ (list : List ReceiptOf). list ++ receipt ∷ []) adds.begins.1
          ∙ append_assoc old.seen adds.begins.0 (receipt ∷ []),
    )

-- and so it is by what contracts see of the seat before
module _ (before : SeatOf) (notes later : List Note) (old new : Sight) (events more : List SlotEvent)
    (is : record { notes = notes; seen = old.seen; events = events } ≡ before) where
  begins_as : StartsWith new.seen old.seen → BeginsWith more events
      → SeesOn before (record { notes = later; seen = new.seen; events = more })
  begins_as log slots =
      subst (λ (seat : SeatOf). SeesOn seat (record { notes = later; seen = new.seen; events = more })) is
      (record { log = log; slots = slots })

  pub seen_begins : (log : List ReceiptOf) → Sees log old new → BeginsWith more events
      → SeesOn before (record { notes = later; seen = new.seen; events = more })
  seen_begins log sees slots = begins_as (begins_seen log old new sees) slots

  pub recorded_begins : (receipt : ReceiptOf) → Records receipt old new → BeginsWith more events
      → SeesOn before (record { notes = later; seen = new.seen; events = more })
  recorded_begins receipt records slots = begins_as (begins_recorded receipt old new records) slots

-- the same events
pub no_events : (events : List SlotEvent) → BeginsWith events events
no_events events = ([], sym (append-nil events))

pub same_begins : (before : SeatOf) (notes later : List Note) (old : Sight) (events : List SlotEvent)
    → record { notes = notes; seen = old.seen; events = events } ≡ before
    → SeesOn before (record { notes = later; seen = old.seen; events = events })
same_begins before notes later old events is =
    begins_as before notes later old old events events is (begins_same old.seen) (no_events events)

-- ---- refusals

module _ (checked : CheckedOf) (limit : ℕ) (notes : List Note) (commands : List Command) (old new : Sight)
    (error : CommitError) (sighted : IsSighted (setting_in checked) notes old)
    (refuses : Refuses checked limit commands old new error) where
  pub refusal_sighted : (roomy : List Note) → roomy ≡ notes → IsSighted (setting_in checked) roomy new
  refusal_sighted roomy same =
      subst (λ (list : List Note). IsSighted (setting_in checked) list new) (sym same)
      (seen_sighted (setting_in checked) notes old new sighted refuses.log refuses.sees)

  pub refusal_noted : (roomy : List Note) (events : List SlotEvent) → roomy ≡ notes
      → IsRefused checked limit (record { notes = roomy; seen = new.seen; events = events }) commands error
  refusal_noted roomy events same known =
      let seen = sym refuses.sees.seen in
      record {
        accepted = subst (λ (log : List ReceiptOf). AreAccepted (setting_in checked) no_rows (transactions_of log)) seen
            refuses.accepted;
        noted = (refusal_sighted roomy same).noted;
        refused = subst (λ (log : List ReceiptOf). IsRefusedAfter checked limit (transactions_of log) commands error) seen
            refuses.refused;
      }

pub new_sighted : (setting : Setting) (notes : List Note) → notes ≡ [] → IsSighted setting notes (sight [] [])
new_sighted setting notes none = record {
  noted = subst (AreNoted setting []) (sym none) (All-nil (IsNoted setting []));
  own = ap own_numbers (sym none);
  rising = tt;
}

-- ---- the book

pub transactions_append : (log more : List ReceiptOf)
    → transactions_of (log ++ more) ≡ transactions_of log ++ transactions_of more
transactions_append [] more = refl
transactions_append (receipt ∷ log) more =
    ap (λ (list : List Transaction). transaction_of receipt ∷ list) (transactions_append log more)

pub length_transactions : (log : List ReceiptOf) → length (transactions_of log) ≡ length log
length_transactions [] = refl
length_transactions (receipt ∷ log) = ap suc (length_transactions log)

module _ (book : Book) (history : HistoryView) (is : IsHistoryOf book history) where
  pub history_long : length (book_log book) ≡ length history.all
  history_long = each_is_logged book (transactions_of history.all) is.stands ∙ length_transactions history.all

  pub history_adds : (new : Book) (commands : List Command) (time number : ℕ) (receipt : ReceiptOf) (more : HistoryView)
      → Commits book new commands time number → receipt.commands ≡ commands → receipt.time ≡ time
      → more ≡ view_of true (history.all ++ receipt ∷ []) [] → IsHistoryOf new more
  history_adds new commands time number receipt more commits commands_are time_is more_is =
      let told : transaction_of receipt ≡ record { commands = commands; time = time } =
      λ i. record { commands = commands_are i; time = time_is i } in
      let all : transactions_of (history.all ++ receipt ∷ [])
      ≡ transactions_of history.all ++ record { commands = commands; time = time } ∷ [] =
      transactions_append history.all (receipt ∷ [])
      ∙ ap (λ (one : Transaction). transactions_of history.all ++ one ∷ []) told in
      subst (IsHistoryOf new) (sym more_is) (record {
        stands = subst (StandsFor new) (sym all)
            (commits_add_one book new commands time number commits (transactions_of history.all) is.stands);
        idle = refl;
      })

  pub looks_in : (checked : CheckedOf) (table number : ℕ) (key : List Datum) (answer : Option (List Datum))
      (old new : Sight) → book_checked book ≡ checked → number ≡ length (book_log book)
      → answer ≡ book_rows book table 0 key → Sees history.all old new
      → Looks (setting_in checked) table key number answer old new
  looks_in checked table number key answer old new named number_is answer_is sees = record {
    log = history.all;
    sees = sees;
    number_is = number_is ∙ history_long;
    accepted = subst (λ (one : CheckedOf). AreAccepted (setting_in one) no_rows (transactions_of history.all)) named
        is.stands.accepted;
    answer_is = answer_is ∙ is.stands.rows table 0 key
        ∙ ap (λ (one : CheckedOf). after (setting_in one) (transactions_of history.all) table 0 key) named;
  }

-- ---- all seats

all_first : (P : SeatOf → Type 0) (seat : SeatOf) (seats : List SeatOf) → P seat → All P seats → All P (seat ∷ seats)
all_first P seat seats first rest zero other low = first
all_first P seat seats first rest (suc place) other low = rest place other (omega (arith, low))

pub none_logged : (setting : Setting) (log : HistoryView) (seats : List SeatOf) → seats ≡ [] → HasWholeLog log
    → AreLogged setting log seats
none_logged setting log seats none told = subst (AreLogged setting log) (sym none) (record {
  seen = told.seen;
  each = All-nil (IsSeatIn setting log.all);
  once = λ n. let one = told.once n in omega (arith, one);
})

pub more_logged : (setting : Setting) (log lent : HistoryView) (notes : List Note) (seats all : List SeatOf) (one : Sight)
    (events : List SlotEvent) → lent ≡ view_of true log.all (one ∷ log.sights)
    → all ≡ record { notes = notes; seen = one.seen; events = events } ∷ seats → IsSighted setting notes one → AreLogged setting lent seats → AreLogged setting log all
more_logged setting log lent notes seats all one events lent_is all_is sighted rest =
    let logged : AreLogged setting (view_of true log.all (one ∷ log.sights)) seats =
    subst (λ (view : HistoryView). AreLogged setting view seats) lent_is rest in
    let longer = length_begins log.all one.seen logged.seen.0 in
    subst (AreLogged setting log) (sym all_is) (record {
      seen = logged.seen.1;
      each = all_first (IsSeatIn setting log.all) (record { notes = notes; seen = one.seen; events = events }) seats (record {
        begins = logged.seen.0;
        noted = noted_begins setting log.all one.seen notes logged.seen.0 sighted.noted;
        rising = subst (λ (list : List ℕ). RiseTo (length log.all) 0 list) sighted.own
            (rise_longer (length one.seen) (length log.all) 0 one.own longer sighted.rising);
      }) logged.each;
      once = λ n. let sum = logged.once n in let mine = ap (times n) sighted.own in omega (arith, sum, mine);
    })

pub seats_in : (setting : Setting) (history : HistoryView) (seats : List SeatOf) → AreLogged setting history seats
    → AreSeatsIn setting history.all seats
seats_in setting history seats logged = record {
  each = logged.each;
  once = λ n. let sum = logged.once n in omega (arith, sum);
}
